-- The machine of statements is accepted.
use Rattle.std.proofs.Common.{◌≡◌, ℕ, ◌-◌, ◌≤◌, List, [], ◌∷◌, length, take, Bool, true, false, refl, arith}
use Rattle.std.proofs.Common.{length-take-le}
use Rattle.std.specs.Prelude.{Option, Some, None, not, nat_le, if◌then◌else◌}
use Rattle.std.specs.List.{list_all}
use Rattle.std.proofs.lemmas.Bool.{and_from}
use Rattle.std.proofs.lemmas.Bool.Decides.{nat_tests}
use Rattle.mw_base.specs.declared.cause.Cause.{Cause}
use Rattle.mw_base.specs.declared.cause.Cause.TheVariants.{TooMany, Twice, ValueTooWide, UnknownElement, WidthsDiffer}
use Rattle.mw_base.specs.declared.cause.Cause.TheVariants.{TooDeep}
use Rattle.mw_macro.specs.declared.counts.Counted.TheVariants.{Statements, Reads}
use Rattle.mw_macro.specs.declared.rules.Fault.{Fault}
use Rattle.mw_macro.specs.declared.rules.Fault.TheVariants.{NoElement, OtherWidth, TooNested}
use Rattle.mw_macro.specs.Counts.{total}
use Rattle.mw_macro.specs.Machine.{IsFormed}
use Rattle.mw_macro.specs.Right.{IsBetween}
use Rattle.mw_macro.specs.Rules.{is_within, is_within_limits, are_free, are_short, are_ranges, have_fault, is_free_of}
use Rattle.mw_macro.specs.Rules.{refusal_of}
use Rattle.mw_macro.specs.Statements.{acts_of}
use Rattle.mw_descfile.specs.Kept.{IsOver, IsStated, closed}
use Rattle.mw_descfile.specs.Machine.{description}
use Rattle.mw_descfile.specs.Stating.{Over, OpenIf, Stated, can_end}

-- as many names as elements
named : (over : Over) → IsOver over → length (take over.elements over.scope.names) ≡ over.elements
named over kept = let all = kept.named in length-take-le over.elements over.scope.names (omega (arith, all))

-- ---- it is formed as it has to be

pub formed : (s : Stated) → IsOver s.over → IsFormed (description s)
formed s kept =
    let count = named s.over kept in
    let together = kept.together in
    let sized = kept.sized in
    record {
      spelled = kept.names.spelled;
      registers = omega (arith, count, together);
      elements = omega (arith, count, sized);
      request = rw count kept.request;
    }

-- ---- each rule is kept

le_is : (n most : ℕ) → n ≤ most → nat_le n most ≡ true
le_is n most within = grind (arith, nat_tests, within)

within_is : (low n high : ℕ) → IsBetween low n high → is_within low n high ≡ true
within_is low n high within = and_from (nat_le low n) (nat_le n high) (le_is low n within.0) (le_is n high within.1)

no_fault : (b : Bool) → b ≡ false → not b ≡ true
no_fault true is = absurd cc
no_fault false is = refl

-- a rule that is kept, before others that are
pub rule_kept : (k : Bool) (cause : Cause) (rest : Option Cause) → k ≡ true → rest ≡ None
    → (if k then rest else Some cause) ≡ None
rule_kept true cause rest is none = none
rule_kept false cause rest is none = absurd cc

-- no `if` is open, so the statements are those of the machine
record IsWhole (s : Stated) : Type 0 where
  statements : total Statements (acts_of s.acts) ≤ 4096
  reads : total Reads (acts_of s.acts) ≤ 256
  right : (f : Fault) → have_fault f s.over.scope.shape 64 (acts_of s.acts) ≡ false

whole : (s : Stated) (all : List OpenIf) → s.open_ifs ≡ all → all ≡ [] → IsStated s → IsWhole s
whole s all same none kept =
    let e : closed s.acts s.open_ifs ≡ s.acts = rw (same, none) refl in
    let statements = rw e at kept.statements in
    let reads = rw e at kept.reads in
    record { statements = omega (arith, statements); reads = omega (arith, reads); right = λ f. rw e at (kept.right f) }

pub none_open : (all : List OpenIf) → can_end all ≡ false → all ≡ []
none_open [] is = refl
none_open (top ∷ rest) is = absurd cc

pub accepted : (s : Stated) → s.open_ifs ≡ [] → IsStated s → refusal_of (description s) ≡ None
unfolding refusal_of is_within_limits are_ranges
accepted s none kept =
    let over = kept.over in
    let count = named s.over over in
    let all = whole s s.open_ifs refl none kept in
    let m = description s in
    let temporaries = over.temporaries in
    let few : nat_le (length m.names - m.registers) 128 ≡ true = le_is _ _ (omega (arith, count, temporaries)) in
    let limits : is_within_limits m ≡ true =
    and_from (nat_le m.registers 128) _ (le_is _ _ over.registers)
    (and_from (nat_le (length m.names - m.registers) 128) _ few
    (and_from (nat_le (total Statements m.acts) 4096) _ (le_is _ _ all.statements) (le_is _ _ all.reads))) in
    let short = and_from (are_short m.names) (list_all (λ w. is_within 1 w 32) m.shape.widths) over.names.short
    over.wide in
    let addressed = and_from _ (is_within 1 m.shape.address 16) short (within_is _ _ _ over.address) in
    let ranges : are_ranges m.names m.shape ≡ true =
    and_from _ (is_within 4 m.shape.word 32) addressed (within_is _ _ _ over.word) in
    rule_kept (is_within_limits m) TooMany _ limits
    (rule_kept (are_free m.names) Twice _ over.names.free
    (rule_kept (are_ranges m.names m.shape) ValueTooWide _ ranges
    (rule_kept (is_free_of NoElement m) UnknownElement _ (no_fault _ (all.right NoElement))
    (rule_kept (is_free_of OtherWidth m) WidthsDiffer _ (no_fault _ (all.right OtherWidth))
    (rule_kept (is_free_of TooNested m) TooDeep None (no_fault _ (all.right TooNested)) refl)))))
