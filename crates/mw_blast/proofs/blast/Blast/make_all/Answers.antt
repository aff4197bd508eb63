use Rattle.std.proofs.Common.{◌≡◌, ℕ, List, [], ◌∷◌, ◌++◌, length, ap, sym, ◌∙◌, arith}
use Rattle.std.proofs.lemmas.Bool.Decides.{nat_tests}
use Rattle.mw_blast.specs.declared.fault.BlastFault.TheVariants.{NoMemory}
use Rattle.mw_blast.specs.Causes.{IsCause}
use Rattle.mw_blast.proofs.Bits.{keeps-itself, keeps-then}
use Rattle.mw_blast.proofs.Kept.{same_of}
use Rattle.mw_blast.proofs.Operations.{handed_on}
use Rattle.mw_blast.proofs.Waiting.{begun}
use Rattle.mw_blast.proofs.blast.Blast.make_all.Goals as goal

pub returns-in_err-reserve-clause-of : goal.returns-in_err-reserve-clause-of
returns-in_err-reserve-clause-of c =
    same_of c.args.terms.now c.args.dds.now c.args.self.now c.reserve.new.self c.reserve.ensures.starts
    c.reserve.ensures.bits c.requires.of

pub returns-in_err-reserve-clause-over : goal.returns-in_err-reserve-clause-over
returns-in_err-reserve-clause-over c =
    handed_on c.from_residual.result NoMemory (λ x. Unit {0}) (IsCause c.args.terms.now c.args.term c.args.budget)
    c.from_residual.ensures.1 tt

pub loop-alloc-init : goal.loop-alloc-init
loop-alloc-init c =
    let t = c.args.terms.now in
    let is : c.wait.new.waiting.items ≡ c.args.term ∷ [] =
    c.in_ok-wait.ensures ∙ ap (λ (xs : List ℕ). xs ++ c.args.term ∷ []) c.new-waiting.ensures.items in
    rw is (record {
      way = begun t c.reserve.new.self c.args.term c.in_ok-reserve.ensures.room
          (sym c.is_made.ensures ∙ c.if-is_made.false);
      of = same_of t c.args.dds.now c.args.self.now c.reserve.new.self c.reserve.ensures.starts c.reserve.ensures.bits
          c.requires.of;
      keeps = keeps-itself c.args.dds.now;
    })

pub advance-requires-clause-way : goal.advance-requires-clause-way
advance-requires-clause-way c = (c.args.term, c.requires.there, c.loop-alloc.invariant.way)

pub advance-requires-clause-of : goal.advance-requires-clause-of
advance-requires-clause-of c = c.loop-alloc.invariant.of

pub loop-alloc-smaller : goal.loop-alloc-smaller
loop-alloc-smaller c = c.in_ok-advance.ensures.nearer c.args.term c.loop-alloc.invariant.way

pub loop-alloc-preserved : goal.loop-alloc-preserved
loop-alloc-preserved c = record {
  way = c.in_ok-advance.ensures.way c.args.term c.loop-alloc.invariant.way;
  of = c.advance.ensures.of;
  keeps = keeps-then _ _ _ c.loop-alloc.invariant.keeps c.advance.ensures.keeps;
}

pub returns-in_err-advance-clause-over : goal.returns-in_err-advance-clause-over
returns-in_err-advance-clause-over c =
    handed_on c.from_residual-in_err-advance.result c.in_err-advance.field-0.0 (λ x. Unit {0})
    (IsCause c.args.terms.now c.args.term c.args.budget) c.from_residual-in_err-advance.ensures.1
    (c.in_err-advance.ensures.over c.args.term c.loop-alloc.invariant.way)

pub returns-in_err-advance-clause-keeps : goal.returns-in_err-advance-clause-keeps
returns-in_err-advance-clause-keeps c = keeps-then _ _ _ c.loop-alloc.invariant.keeps c.advance.ensures.keeps

pub returns-clause-made : goal.returns-clause-made
returns-clause-made c =
    let none : length c.loop-alloc.waiting.items ≡ 0 =
    grind (arith, nat_tests, c.loop-alloc.waiting.ok, c.is_empty.ensures, c.loop-alloc-test.false) in
    c.loop-alloc.invariant.way.done none

pub returns-clause-of : goal.returns-clause-of
returns-clause-of c = c.loop-alloc.invariant.of

pub returns-clause-keeps : goal.returns-clause-keeps
returns-clause-keeps c = c.loop-alloc.invariant.keeps
