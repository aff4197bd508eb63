-- The table of a board's elements: what a name of a relation, an environment or a script can stand for, by number.
use Rattle.std.specs.Prelude.{ℕ, List, [], ◌∷◌, ◌++◌, codes, map, take, length, slice_get, Bool, ◌||◌, Option}
use Rattle.std.specs.Prelude.{option_map}
use Rattle.std.specs.List.{list_any, position}
use Rattle.std.specs.Str.{bytes_eq}
use Rattle.mw_board.specs.declared.parts.BoardParts.{BoardParts}
use Rattle.mw_board.specs.Depth.{depth_of}

-- an element: its name, and how many bits it has
pub record Element : Type 0 where
  pub name : List ℕ
  pub width : ℕ

-- the registers and Q
abbrev pub register_names : List (List ℕ)
register_names =
    codes "r0" ∷ codes "r1" ∷ codes "r2" ∷ codes "r3" ∷ codes "r4" ∷ codes "r5" ∷ codes "r6" ∷ codes "r7"
    ∷ codes "r8" ∷ codes "r9" ∷ codes "r10" ∷ codes "r11" ∷ codes "r12" ∷ codes "r13" ∷ codes "r14" ∷ codes "r15"
    ∷ codes "q" ∷ []

-- the address register
abbrev pub address_register_name : List ℕ
address_register_name = codes "mar"

-- the instruction register
abbrev pub instruction_register_name : List ℕ
instruction_register_name = codes "ir"

-- the microprogram counter and the register/counter
abbrev pub counter_names : List (List ℕ)
counter_names = codes "upc" ∷ codes "count" ∷ []

-- the words of the deepest stack
abbrev pub stack_names : List (List ℕ)
stack_names =
    codes "stack0" ∷ codes "stack1" ∷ codes "stack2" ∷ codes "stack3" ∷ codes "stack4" ∷ codes "stack5"
    ∷ codes "stack6" ∷ codes "stack7" ∷ codes "stack8" ∷ []

-- the stack pointer, which has no number among the elements
abbrev pub stack_pointer_name : List ℕ
stack_pointer_name = codes "sp"

-- the names before the flip-flops'
abbrev pub names_before : List (List ℕ)
names_before = register_names ++ address_register_name ∷ instruction_register_name ∷ []

-- the names behind them, where the stack has so many words
abbrev pub names_behind : ℕ → List (List ℕ)
names_behind depth = counter_names ++ take depth stack_names

-- those that a board has
abbrev pub names_behind_of : BoardParts → List (List ℕ)
names_behind_of board = names_behind (depth_of board)

-- elements of these names, all of one width
abbrev pub of_width : ℕ → List (List ℕ) → List Element
of_width width names = map (λ name. record { name = name; width = width }) names

-- The elements of a board in the order of their numbers: the registers and Q, the address register, the instruction
-- register, the flip-flops in their order, the microprogram counter, the register/counter, and as many words of the
-- stack as it has.
unfoldable pub elements_of : BoardParts → List Element
elements_of board =
    of_width board.width register_names
    ++ of_width board.address (address_register_name ∷ [])
    ++ of_width board.width (instruction_register_name ∷ [])
    ++ of_width 1 (map (λ f. f.name) board.flipflop)
    ++ of_width 12 (names_behind_of board)

-- how many elements a board has
abbrev pub element_count : BoardParts → ℕ
element_count board = length (elements_of board)

-- the name of the element with a number
abbrev pub element_name : BoardParts → ℕ → Option (List ℕ)
element_name board number = option_map (λ element. element.name) (slice_get (elements_of board) number)

-- how many bits it has
abbrev pub element_width : BoardParts → ℕ → Option ℕ
element_width board number = option_map (λ element. element.width) (slice_get (elements_of board) number)

-- the number of the element with a name
abbrev pub element_number : BoardParts → List ℕ → Option ℕ
element_number board name = position (bytes_eq name) (map (λ element. element.name) (elements_of board))

-- an element of each board whose stack has so many words has the name
abbrev pub is_reserved : ℕ → List ℕ → Bool
is_reserved depth name =
    list_any (bytes_eq name) names_before
    || (list_any (bytes_eq name) (names_behind depth) || bytes_eq name stack_pointer_name)
