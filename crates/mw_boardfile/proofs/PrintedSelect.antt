-- The lists that are printed, and the flip-flops with theirs, are read.
use Rattle.std.proofs.Common.{◌≡◌, ℕ, ◌+◌, ◌<◌, ◌≤◌, List, [], ◌∷◌, ◌++◌, map, length, Bool, true}
use Rattle.std.proofs.Common.{Option, Some, None, Result, Ok, refl, sym, ap, ap₂, ◌∙◌, codes, arith, inl, inr}
use Rattle.std.proofs.Common.{append_assoc, append-nil}
use Rattle.std.specs.List.{All, AllByRecursion}
use Rattle.std.proofs.lemmas.Bool.{cases_Bool, and_parts}
use Rattle.std.proofs.lemmas.List.{length-map}
use Rattle.std.proofs.lemmas.List.Elements.{All-weaker, recursion_from_All}
use Rattle.toml.specs.Data.{Data, Members, get_member}
use Rattle.mw_base.specs.declared.cause.Cause.{Cause}
use Rattle.mw_base.specs.declared.cause.Cause.TheVariants.{BadValue, TooMany, WrongKind}
use Rattle.mw_board.specs.declared.bit.Bit.{Bit}
use Rattle.mw_board.specs.declared.bit.Bit.TheVariants as bits
use Rattle.mw_board.specs.declared.bit.DFrom.{DFrom}
use Rattle.mw_board.specs.declared.bit.DFrom.TheVariants as sources
use Rattle.mw_board.specs.declared.bit.DSource.{DSource}
use Rattle.mw_board.specs.declared.control.Control.{Control}
use Rattle.mw_board.specs.declared.control.Control.TheVariants.{Field, Fixed}
use Rattle.mw_board.specs.declared.field.NamedField.{NamedField}
use Rattle.mw_board.specs.declared.flipflop.FlipFlop.{FlipFlop}
use Rattle.mw_board.specs.declared.parts.BoardParts.{BoardParts}
use Rattle.mw_board.specs.Check.{flipflops_from}
use Rattle.mw_board.specs.Depth.{depth_of}
use Rattle.mw_board.specs.Rules.{Verdict, bit_rule, carry_in_rule, load_rule, d_source_rule, control_rule}
use Rattle.mw_board.specs.Rules.{chosen_rule, list_rule, flipflops_rule}
use Rattle.mw_boardfile.specs.Board.{zero_alone, zero_list, given_list, list_or_zero, lists_of}
use Rattle.mw_boardfile.specs.Control.{control_in}
use Rattle.mw_boardfile.specs.Entries.{bit_in, carry_in_in, load_in, d_source_in}
use Rattle.mw_boardfile.specs.FlipFlops.{table_kind, tables_in, name_in, flip_control_in, load_values_in, loads_in}
use Rattle.mw_boardfile.specs.FlipFlops.{flipflop_of, flipflop_at, each_flipflop}
use Rattle.mw_boardfile.specs.Kept.{Kept, ListKeeps, ListsKeep}
use Rattle.mw_boardfile.specs.Lists.{none_refused, chosen_list}
use Rattle.mw_boardfile.specs.Printed.{bit_printed, load_printed, source_printed}
use Rattle.mw_boardfile.specs.Printed.{flipflop_keys_printed}
use Rattle.mw_boardfile.specs.Printed.{flipflop_printed, flipflops_printed, is_alone, list_unless_zero, is_zero_bit}
use Rattle.mw_boardfile.specs.Printed.{is_zero_from, has_no_mask, is_zero_source, lists_printed, unless_empty}
use Rattle.mw_boardfile.specs.Printed.{list_unless_empty}
use Rattle.mw_boardfile.specs.Tables.{table_of}
use Rattle.mw_boardfile.proofs.Names.{AreFound}
use Rattle.mw_boardfile.proofs.Parts.{sizes_in, lists_in, asked_below, asked_most, FlipFlopHolds, flipflops_hold}
use Rattle.mw_boardfile.proofs.PrintedFields.{table_read}
use Rattle.mw_boardfile.proofs.PrintedLists.{IsRead, list_read, chosen_are}
use Rattle.mw_boardfile.proofs.PrintedMap.{list_or_none_read}
use Rattle.mw_boardfile.proofs.PrintedPoints.{IsPrintable, control_read}
use Rattle.mw_boardfile.proofs.PrintedTexts.{bit_in_read, carry_in_read, load_in_read, source_in_read}
use Rattle.mw_boardfile.proofs.Tables.{found}

-- ---- lists

-- entries that keep a rule are read
all_read : {A : Type 0} (reader : Data → Result A Cause) (printed : A → Data) (rule : A → Verdict)
    → ((x : A) → Kept (rule x) → IsRead reader printed x) → (xs : List A) → All (λ x. Kept (rule x)) xs
    → AllByRecursion (IsRead reader printed) xs
all_read reader printed rule is xs all =
    recursion_from_All (IsRead reader printed) xs
    (All-weaker (λ x. Kept (rule x)) (IsRead reader printed) is xs all)

-- a list that is printed
printed_read : {A : Type 0} (reader : Data → Result A Cause) (printed : A → Data) (rule : A → Verdict)
    (fields : List NamedField) (control : Control) (xs : List A)
    → ((x : A) → Kept (rule x) → IsRead reader printed x) → ListKeeps rule fields control xs
    → chosen_list reader fields control (map printed xs) ≡ Ok xs
printed_read reader printed rule fields control xs is keep =
    chosen_are reader printed fields control xs (all_read reader printed rule is xs keep.each)
    keep.whole.chosen keep.whole.right

alone_is : {A : Type 0} (is_zero : A → Bool) (zero : A) → ((x : A) → is_zero x ≡ true → x ≡ zero)
    → (xs : List A) → is_alone is_zero xs ≡ true → xs ≡ zero ∷ []
alone_is is_zero zero is [] alone = absurd cc
alone_is is_zero zero is (x ∷ []) alone = ap (λ y. y ∷ []) (is x alone)
alone_is is_zero zero is (x ∷ y ∷ rest) alone = absurd cc

-- a list that isn't printed where it has the one entry zero
list_or_zero_read : {A : Type 0} (reader : Data → Result A Cause) (printed : A → Data) (is_zero : A → Bool) (zero : A)
    (rule : A → Verdict) (fields : List NamedField) (control : Control) (xs : List A)
    → ((x : A) → is_zero x ≡ true → x ≡ zero) → ((x : A) → Kept (rule x) → IsRead reader printed x)
    → ListKeeps rule fields control xs
    → list_or_zero reader zero fields control (list_unless_zero is_zero printed xs) ≡ Ok xs
unfolding zero_alone zero_list given_list
list_or_zero_read {A} reader printed is_zero zero rule fields control xs zeros is keep =
    elim (cases_Bool (is_alone is_zero xs)) [
      | inl alone ↦ let one : xs ≡ zero ∷ [] = alone_is is_zero zero zeros xs alone in
          let count : length xs ≡ 1 = ap length one in
          let chosen : chosen_rule control 1 ≡ Ok tt = ap (chosen_rule control) (sym count) ∙ keep.whole.chosen in
          let right : list_rule fields control 1 ≡ Ok tt =
          ap (list_rule fields control) (sym count) ∙ keep.whole.right in
          rw (alone, chosen, right) (ap (λ (ys : List A). Ok ys) (sym one))
      | inr other ↦ rw (other, list_read (map printed xs)) (printed_read reader printed rule fields control xs is keep)
    ]

zero_bit : (bit : Bit) → is_zero_bit bit ≡ true → bit ≡ bits.Zero
zero_bit bits.Zero is = refl
zero_bit other is = absurd cc

zero_from : (from : DFrom) → is_zero_from from ≡ true → from ≡ sources.Zero
zero_from sources.Zero is = refl
zero_from other is = absurd cc

no_mask : (mask : Option ℕ) → has_no_mask mask ≡ true → mask ≡ None
no_mask None is = refl
no_mask (Some mask) is = absurd cc

abbrev source_with : DFrom → Option ℕ → DSource
source_with from mask = record { from = from; mask = mask }

zero_source : (source : DSource) → is_zero_source source ≡ true
    → source ≡ record { from = sources.Zero; mask = None }
zero_source source is =
    let both = and_parts (has_no_mask source.mask) (is_zero_from source.from) is in
    ap₂ source_with (zero_from source.from both.1) (no_mask source.mask both.0)

-- a document with these lists
pub lists_read : (p : BoardParts) (tables : List Data) (document : Members) → AreFound p.fields p.flipflop tables
    → p.width ≤ 32 → ListsKeep p.width p.fields (length p.flipflop) p.control (lists_in p)
    → get_member (codes "select") document ≡ unless_empty (table_of (lists_printed p))
    → lists_of p.width p.fields tables p.control document ≡ Ok (lists_in p)
unfolding lists_of
lists_read p tables document are narrow keep there =
    let at = found (lists_printed p) refl in
    let bit_is = λ (x : Bit) (rule : Kept (bit_rule p.width (length p.flipflop) x)).
    bit_in_read p.width p.fields p.flipflop tables x are narrow rule in
    let bits_are = λ (control : Control) (xs : List Bit)
    (k : ListKeeps (bit_rule p.width (length p.flipflop)) p.fields control xs).
    list_or_zero_read (bit_in p.width tables) (bit_printed p.flipflop) is_zero_bit bits.Zero
    (bit_rule p.width (length p.flipflop)) p.fields control xs zero_bit bit_is k in
    rw (
      there,
      table_read (table_of (lists_printed p)),
      at (codes "carry_in"),
      at (codes "condition"),
      at (codes "ram_link"),
      at (codes "q_link"),
      at (codes "d"),
      list_or_zero_read (carry_in_in p.width tables) (bit_printed p.flipflop) is_zero_bit bits.Zero
          (carry_in_rule p.width (length p.flipflop)) p.fields p.control.carry_in p.carry_in zero_bit
          (λ x rule. carry_in_read p.width p.fields p.flipflop tables x are narrow rule) keep.carry_in,
      bits_are p.control.condition p.condition keep.condition,
      bits_are p.control.link p.ram_link keep.ram_link,
      bits_are p.control.link p.q_link keep.q_link,
      list_or_zero_read (d_source_in p.width p.fields tables) (source_printed p.fields p.flipflop) is_zero_source
          (record { from = sources.Zero; mask = None }) (d_source_rule p.width (length p.fields) (length p.flipflop))
          p.fields p.control.d p.d zero_source
          (λ x rule. source_in_read p.width p.fields p.flipflop tables x are narrow rule) keep.d,
    ) refl

-- ---- flip-flops

-- what chooses from a list is one of the fields, or a number of few bits
pub chooser_printable : (fields : List NamedField) (control : Control) (entries : ℕ)
    → control_rule fields control ≡ Ok tt → chosen_rule control entries ≡ Ok tt
    → list_rule fields control entries ≡ Ok tt → IsPrintable fields control
unfolding control_rule chosen_rule list_rule
chooser_printable fields (Field n) entries is chosen right = asked_below n (length fields) BadValue is
chooser_printable fields (Fixed value) entries is chosen right =
    let h : value < entries = asked_below value entries BadValue chosen in
    let few : entries ≤ 64 = asked_most entries 64 TooMany right in
    omega (arith, h, few)

-- a flip-flop after the earlier ones
flipflop_read : (p : BoardParts) (tables : List Data) (earlier : List FlipFlop) (n : ℕ) (f : FlipFlop)
    → AreFound p.fields p.flipflop tables → p.width ≤ 32 → p.stack ≡ depth_of p → FlipFlopHolds p earlier f
    → flipflop_at (sizes_in p) p.fields tables earlier n (flipflop_printed p.fields p.flipflop f) ≡ Ok f
unfolding flipflop_at flipflop_of name_in flip_control_in load_values_in loads_in control_in
flipflop_read p tables earlier n f are narrow deep holds =
    let at = found (flipflop_keys_printed p.fields p.flipflop f) refl in
    let entries = length f.load in
    let whole = holds.load.whole in
    let printable = chooser_printable p.fields f.control entries holds.control whole.chosen whole.right in
    rw (
      at (codes "name"),
      at (codes "control"),
      at (codes "load"),
      deep,
      holds.name,
      control_read p.fields f.control are.order are.few printable,
      holds.control,
      list_read (map (load_printed p.flipflop) f.load),
      printed_read (load_in p.width tables) (load_printed p.flipflop) (load_rule p.width (length p.flipflop)) p.fields
          f.control f.load (λ x rule. load_in_read p.width p.fields p.flipflop tables x are narrow rule) holds.load,
    ) refl

each_read : (p : BoardParts) (tables : List Data) (earlier : List FlipFlop) (n : ℕ) (fs : List FlipFlop)
    → AreFound p.fields p.flipflop tables → p.width ≤ 32 → p.stack ≡ depth_of p → flipflops_from p earlier n fs ≡ Ok tt
    → each_flipflop (sizes_in p) p.fields tables earlier n (map (flipflop_printed p.fields p.flipflop) fs)
    ≡ Ok (earlier ++ fs)
unfolding each_flipflop
each_read p tables earlier n [] are narrow deep holds = ap (λ (gs : List FlipFlop). Ok gs) (sym (append-nil earlier))
each_read p tables earlier n (f ∷ rest) are narrow deep holds =
    let both = flipflops_hold p earlier n f rest holds in
    rw (
      flipflop_read p tables earlier n f are narrow deep both.0,
      each_read p tables (earlier ++ f ∷ []) (n + 1) rest are narrow deep both.1,
    ) (ap (λ (gs : List FlipFlop). Ok gs) (append_assoc earlier (f ∷ []) rest))

-- the flip-flops of a board
pub flipflops_read : (p : BoardParts) (tables : List Data) → AreFound p.fields p.flipflop tables → p.width ≤ 32
    → p.stack ≡ depth_of p → flipflops_from p [] 0 p.flipflop ≡ Ok tt
    → each_flipflop (sizes_in p) p.fields tables [] 0 (flipflops_printed p.fields p.flipflop) ≡ Ok p.flipflop
flipflops_read p tables are narrow deep holds = each_read p tables [] 0 p.flipflop are narrow deep holds

all_tables : (fields : List NamedField) (flipflops fs : List FlipFlop) (n : ℕ)
    → none_refused table_kind WrongKind n (map (flipflop_printed fields flipflops) fs) ≡ Ok tt
unfolding none_refused table_kind
all_tables fields flipflops [] n = refl
all_tables fields flipflops (f ∷ rest) n = all_tables fields flipflops rest (n + 1)

-- their tables
pub tables_read : (fields : List NamedField) (flipflops : List FlipFlop) → flipflops_rule (length flipflops) ≡ Ok tt
    → tables_in (list_unless_empty (flipflops_printed fields flipflops)) ≡ Ok (flipflops_printed fields flipflops)
unfolding tables_in
tables_read fields flipflops few =
    rw (
      list_or_none_read (flipflops_printed fields flipflops),
      all_tables fields flipflops flipflops 0,
      length-map flipflops (flipflop_printed fields flipflops),
      few,
    ) refl
