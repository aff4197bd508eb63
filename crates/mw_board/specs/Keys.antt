-- The keys of a board file by number, in their order: version is 0.
use Rattle.std.specs.Prelude.{ℕ}

-- width
abbrev pub width_key : ℕ
width_key = 1

-- microword
abbrev pub microword_key : ℕ
microword_key = 2

-- address
abbrev pub address_key : ℕ
address_key = 3

-- fill
abbrev pub fill_key : ℕ
fill_key = 4

-- unset
abbrev pub unset_key : ℕ
unset_key = 5

-- vector
abbrev pub vector_key : ℕ
vector_key = 6

-- stack
abbrev pub stack_key : ℕ
stack_key = 7

-- fields.NAME
abbrev pub fields_key : ℕ
fields_key = 8

-- flipflop
abbrev pub flipflop_key : ℕ
flipflop_key = 9

-- flipflop.N.name
abbrev pub name_key : ℕ
name_key = 10

-- flipflop.N.control
abbrev pub control_key : ℕ
control_key = 11

-- flipflop.N.load
abbrev pub load_key : ℕ
load_key = 12

-- control.alu_source, behind which the other points stand
abbrev pub first_point_key : ℕ
first_point_key = 13

-- select.carry_in, behind the points
abbrev pub carry_in_key : ℕ
carry_in_key = 32

-- select.condition
abbrev pub condition_key : ℕ
condition_key = 33

-- select.ram_link
abbrev pub ram_link_key : ℕ
ram_link_key = 34

-- select.q_link
abbrev pub q_link_key : ℕ
q_link_key = 35

-- select.d
abbrev pub d_key : ℕ
d_key = 36

-- map.bits, behind map.low
abbrev pub map_bits_key : ℕ
map_bits_key = 38

-- map.entries
abbrev pub map_entries_key : ℕ
map_entries_key = 39
