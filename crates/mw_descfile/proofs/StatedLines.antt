-- What each line of statements keeps.
use Rattle.std.proofs.Common.{◌≡◌, ℕ, ◌+◌, ◌-◌, ◌<◌, List, [], ◌∷◌, ◌++◌, length, true, false, refl, arith, subst}
use Rattle.std.proofs.Common.{IfSome}
use Rattle.std.specs.Prelude.{Option, Some, None, not, nat_lt, ◌==◌, is_none, option_map, ok_or, slice_index, Ok}
use Rattle.std.proofs.lemmas.Bool.{or_from}
use Rattle.std.proofs.lemmas.Bool.Decides.{nat_tests}
use Rattle.mw_base.specs.declared.cause.Cause.TheVariants.{TooMany, TooDeep, UnknownElement, BadSyntax}
use Rattle.mw_base.specs.declared.line.Line.{Line}
use Rattle.mw_base.specs.declared.refusal.TextFault.{TextFault}
use Rattle.mw_base.specs.declared.token.Token.{Token}
use Rattle.mw_base.specs.Cursors.{at_line}
use Rattle.mw_base.specs.Symbols.{spelled}
use Rattle.mw_base.specs.TokenLines.{fault_on}
use Rattle.mw_base.proofs.Results.{ok_is, bind_ok}
use Rattle.mw_expr.specs.declared.shape.Shape.{Shape}
use Rattle.mw_expr.specs.Faults.{seen_width}
use Rattle.mw_expr.specs.Placed.{Placed}
use Rattle.mw_macro.specs.declared.counts.Counted.TheVariants.{Statements, Reads}
use Rattle.mw_macro.specs.declared.rules.Fault.{Fault}
use Rattle.mw_macro.specs.declared.rules.Fault.TheVariants.{NoElement, OtherWidth, TooNested}
use Rattle.mw_macro.specs.Counts.{count}
use Rattle.mw_macro.specs.Rules.{is_fault, is_target_fault, is_input_fault, is_nesting_fault, has_fault}
use Rattle.mw_macro.specs.Statements.{Act, assign, write, put, take_in, choose, nothing}
use Rattle.mw_descfile.specs.declared.element.Element.{Element}
use Rattle.mw_descfile.specs.Expressions.{asked, whole_of, asked_whole}
use Rattle.mw_descfile.specs.Kept.{IsOver, IsStated, closed}
use Rattle.mw_descfile.specs.Statements.{Said, to_assign, to_write, to_put, to_take, to_choose, to_turn, to_end}
use Rattle.mw_descfile.specs.Statements.{said_of}
use Rattle.mw_descfile.specs.Stating.{Over, OpenIf, Stated, number_in, target_of, room, shallow, with_act, with_assign}
use Rattle.mw_descfile.specs.Stating.{with_write, with_put, with_take, with_open, with_if, other_list, ended, can_else}
use Rattle.mw_descfile.specs.Stating.{blocks_of, closed_if, with_said, with_stated}
use Rattle.mw_descfile.proofs.Closed.{more_free, more_total}
use Rattle.mw_descfile.proofs.Expressions.{WasRead, asked_same, whole_has, no_fault, asked_has}
use Rattle.mw_descfile.proofs.SaidLines.{allowed_only, WasSaid, was_said}
use Rattle.mw_descfile.proofs.Shapes.{over_shape}

-- ---- a statement more

pub act_kept : (s : Stated) (act : Act) (left : ℕ) → IsStated s → 0 < s.statements_left
    → ((f : Fault) → has_fault f s.over.scope.shape (64 - length s.open_ifs) act ≡ false)
    → count Statements act ≡ 1 → count Reads act + left ≡ s.reads_left → IsStated (with_act act left s)
act_kept s act left kept some free one reads =
    let statements_more = more_total Statements s.open_ifs s.acts act in
    let reads_more = more_total Reads s.open_ifs s.acts act in
    let statements = kept.statements in
    let all_reads = kept.reads in
    record {
      over = kept.over;
      statements = omega (arith, statements_more, statements, one, some);
      reads = omega (arith, reads_more, all_reads, reads);
      right = λ f. more_free f s.over.scope.shape s.open_ifs s.acts act (free f) (kept.right f);
    }

has_room : (left : ℕ) (token : Token) (done : Unit {0}) → room left token ≡ Ok done → 0 < left
has_room left token done is = let test = allowed_only (nat_lt 0 left) (fault_on token TooMany) done is in
    grind (arith, nat_tests, test)

-- ---- targets

found_below : (registers most : ℕ) (meant : Option Element) (fault : TextFault) (target : ℕ)
    → ok_or (option_map (λ (e : Element). number_in registers e.kind e.place) meant) fault ≡ Ok target
    → IfSome meant (λ (e : Element). number_in registers e.kind e.place < most) → target < most
found_below registers most (Some e) fault target is below =
    subst (λ n. n < most) (ok_is {F = TextFault} (number_in registers e.kind e.place) target is) below
found_below registers most None fault target is below = absurd cc

target_below : (text : List ℕ) (over : Over) (name : Token) (target : ℕ) → IsOver over
    → target_of text over name ≡ Ok target → target < over.elements
unfolding target_of
target_below text over name target kept is =
    found_below over.registers over.elements (over.names (spelled text name))
    (fault_on name UnknownElement) target is (kept.placed (spelled text name))

target_free : (over : Over) (target : ℕ) → IsOver over → target < over.elements → (f : Fault)
    → is_target_fault f over.scope.shape target ≡ false
target_free over target kept below NoElement = let sized = kept.sized in grind (arith, nat_tests, below, sized)
target_free over target kept below OtherWidth = refl
target_free over target kept below TooNested = refl

-- ---- each kind of line

assign_kept : (text : List ℕ) (name sign : Token) (value : Placed) (s next : Stated) → IsStated s → WasRead value
    → with_assign text name sign value s ≡ Ok next → IsStated next
unfolding with_assign
assign_kept text name sign value s next kept read is =
    let shape = s.over.scope.shape in
    let one = bind_ok (room s.statements_left name) _ next is in
    let two = bind_ok (target_of text s.over name) _ next one.2 in
    let target = two.0 in
    let width = slice_index shape.widths target in
    let three = bind_ok (asked_whole shape s.reads_left width sign value) _ next two.2 in
    let whole = three.0 in
    let h = asked_has shape s.reads_left width sign value whole (over_shape s.over kept.over) read three.1 in
    let below = target_below text s.over name target kept.over two.1 in
    subst IsStated (ok_is {F = TextFault} (with_act (assign target whole.tree) whole.left s) next three.2)
    (act_kept s (assign target whole.tree) whole.left kept (has_room s.statements_left name one.0 one.1)
    (λ f. or_from (is_target_fault f shape target) (is_fault f shape width whole.tree)
    (target_free s.over target kept.over below f) (h.free f)) refl h.reads)

write_kept : (word : Token) (address : Placed) (sign : Token) (value : Placed) (s next : Stated) → IsStated s
    → WasRead address → WasRead value
    → with_write word address sign value s ≡ Ok next → IsStated next
unfolding with_write
write_kept word address sign value s next kept read_address read is =
    let shape = s.over.scope.shape in
    let one = bind_ok (room s.statements_left word) _ next is in
    let two = bind_ok (asked_whole shape s.reads_left shape.address word address) _ next one.2 in
    let place = two.0 in
    let three = bind_ok (asked_whole shape place.left shape.word sign value) _ next two.2 in
    let whole = three.0 in
    let a = asked_has shape s.reads_left shape.address word address place
    (over_shape s.over kept.over) read_address two.1 in
    let h = asked_has shape place.left shape.word sign value whole (over_shape s.over kept.over) read three.1 in
    let first = a.reads in
    let second = h.reads in
    subst IsStated (ok_is {F = TextFault} (with_act (write place.tree whole.tree) whole.left s) next three.2)
    (act_kept s (write place.tree whole.tree) whole.left kept (has_room s.statements_left word one.0 one.1)
    (λ f. or_from (is_fault f shape shape.address place.tree) (is_fault f shape shape.word whole.tree) (a.free f)
    (h.free f)) refl (omega (arith, first, second)))

put_kept : (word : Token) (value : Placed) (s next : Stated) → IsStated s → WasRead value
    → with_put word value s ≡ Ok next → IsStated next
unfolding with_put
put_kept word value s next kept read is =
    let shape = s.over.scope.shape in
    let one = bind_ok (room s.statements_left word) _ next is in
    let two = bind_ok (asked_whole shape s.reads_left shape.word word value) _ next one.2 in
    let whole = two.0 in
    let h = asked_has shape s.reads_left shape.word word value whole (over_shape s.over kept.over) read two.1 in
    subst IsStated (ok_is {F = TextFault} (with_act (put whole.tree) whole.left s) next two.2)
    (act_kept s (put whole.tree) whole.left kept (has_room s.statements_left word one.0 one.1) h.free refl h.reads)

input_free : (shape : Shape) (target : ℕ) → not (shape.word == slice_index shape.widths target) ≡ false
    → (f : Fault) → is_input_fault f (slice_index shape.widths target) shape.word ≡ false
input_free shape target same NoElement = refl
input_free shape target same OtherWidth = same
input_free shape target same TooNested = refl

take_kept : (text : List ℕ) (word name : Token) (s next : Stated) → IsStated s → with_take text word name s ≡ Ok next
    → IsStated next
unfolding with_take
take_kept text word name s next kept is =
    let shape = s.over.scope.shape in
    let one = bind_ok (room s.statements_left word) _ next is in
    let two = bind_ok (target_of text s.over name) _ next one.2 in
    let target = two.0 in
    let three = bind_ok (asked (slice_index shape.widths target) word (Some shape.word)) _ next two.2 in
    let same = asked_same (slice_index shape.widths target) shape.word word (Some shape.word) three.0 three.1 refl in
    let below = target_below text s.over name target kept.over two.1 in
    subst IsStated (ok_is {F = TextFault} (with_act (take_in target) s.reads_left s) next three.2)
    (act_kept s (take_in target) s.reads_left kept (has_room s.statements_left word one.0 one.1)
    (λ f. or_from (is_target_fault f shape target) (is_input_fault f (slice_index shape.widths target) shape.word)
    (target_free s.over target kept.over below f)
    (input_free shape target same f)) refl (omega arith))

-- an `if` that stands in fewer than 64 others
nesting_free : (n : ℕ) → n < 64 → (f : Fault) → is_nesting_fault f (64 - n) ≡ false
nesting_free n few NoElement = refl
nesting_free n few OtherWidth = refl
nesting_free n few TooNested = grind (arith, nat_tests, few)

if_kept : (word : Token) (condition : Placed) (s next : Stated) → IsStated s → WasRead condition
    → with_if word condition s ≡ Ok next → IsStated next
unfolding with_if
if_kept word condition s next kept read is =
    let shape = s.over.scope.shape in
    let one = bind_ok (room s.statements_left word) _ next is in
    let two = bind_ok (asked 1 word (seen_width shape condition)) _ next one.2 in
    let three = bind_ok (shallow s.open_ifs word) _ next two.2 in
    let four = bind_ok (whole_of shape s.reads_left condition) _ next three.2 in
    let whole = four.0 in
    let h = whole_has shape s.reads_left condition whole (over_shape s.over kept.over) read four.1 in
    let same = asked_same 1 h.0.w word (seen_width shape condition) two.0 two.1 h.0.seen in
    let test = allowed_only (nat_lt (length s.open_ifs) 64) (fault_on word TooDeep) three.0 three.1 in
    let few : length s.open_ifs < 64 = grind (arith, nat_tests, test) in
    let free : (f : Fault) → is_fault f shape 1 whole.tree ≡ false =
    λ f. rw h.1 (no_fault shape condition 1 h.0 same f) in
    let reads = h.2 in
    let k = act_kept s (choose whole.tree nothing nothing) whole.left kept (has_room s.statements_left word one.0 one.1)
    (λ f. or_from (is_nesting_fault f (64 - length s.open_ifs)) _ (nesting_free (length s.open_ifs) few f)
    (or_from (is_fault f shape 1 whole.tree) false (free f) refl))
    refl (omega (arith, reads)) in
    subst IsStated (ok_is {F = TextFault} (with_open whole s) next four.2)
    (record { over = k.over; statements = k.statements; reads = k.reads; right = k.right })

is_none-only : {A : Type 0} (x : Option A) → is_none x ≡ true → x ≡ None
is_none-only None is = refl
is_none-only (Some x) is = absurd cc

turn_kept : (s : Stated) (all : List OpenIf) → s.open_ifs ≡ all → can_else all ≡ true → IsStated s
    → IsStated (other_list s all)
turn_kept s [] same can kept = absurd cc
turn_kept s (top ∷ rest) same can kept =
    let none = is_none-only top.first can in
    let e : closed [] (record top { first = Some s.acts } ∷ rest) ≡ closed s.acts s.open_ifs = rw (same, none) refl in
    let statements = kept.statements in
    let reads = kept.reads in
    record { over = kept.over; statements = rw e statements; reads = rw e reads; right = λ f. rw e (kept.right f) }

end_kept : (s : Stated) (all : List OpenIf) → s.open_ifs ≡ all → IsStated s → IsStated (ended s all)
end_kept s [] same kept = kept
end_kept s (top ∷ rest) same kept =
    let e : closed (top.before ++ closed_if top.condition top.first s.acts ∷ []) rest ≡ closed s.acts s.open_ifs =
    rw same refl in
    let statements = kept.statements in
    let reads = kept.reads in
    record { over = kept.over; statements = rw e statements; reads = rw e reads; right = λ f. rw e (kept.right f) }

said_kept : (text : List ℕ) (s next : Stated) (said : Said) → IsStated s → WasSaid (blocks_of s.open_ifs) said
    → with_said text s said ≡ Ok next → IsStated next
said_kept text s next (to_assign name sign value) kept was is = assign_kept text name sign value s next kept was is
said_kept text s next (to_write word address sign value) kept was is =
    write_kept word address sign value s next kept was.0 was.1 is
said_kept text s next (to_put word value) kept was is = put_kept word value s next kept was is
said_kept text s next (to_take word name) kept was is = take_kept text word name s next kept is
said_kept text s next (to_choose word condition) kept was is = if_kept word condition s next kept was is
said_kept text s next to_turn kept was is =
    subst IsStated (ok_is {F = TextFault} (other_list s s.open_ifs) next is) (turn_kept s s.open_ifs refl was kept)
said_kept text s next to_end kept was is = subst IsStated (ok_is {F = TextFault} (ended s s.open_ifs) next is)
    (end_kept s s.open_ifs refl kept)

-- a line of statements
pub stated_kept : (text : List ℕ) (s next : Stated) (line : Line) → IsStated s → with_stated text s line ≡ Ok next
    → IsStated next
unfolding with_stated
stated_kept text s next line kept is =
    let cursor = at_line text line BadSyntax in
    let one = bind_ok (said_of s.over.scope (blocks_of s.open_ifs) cursor) (λ said. with_said text s said) next is in
    said_kept text s next one.0 kept (was_said s.over.scope (blocks_of s.open_ifs) cursor one.0 one.1) one.2
