use Rattle.std.proofs.Common.{◌≡◌, ◌+◌, ◌-◌, length, slice_index, ap, arith, sym, ◌++◌, ◌∷◌, [], drop, take, ◌∙◌}
use Rattle.mw_macro.specs.StepWords.{with_zeros}
use Rattle.mw_term.specs.WordList.{Ended, list_of}
use Rattle.mw_symmach.proofs.Walking.{first_width}
use Rattle.mw_symmach.proofs.Beginning.{zeros_more}
use Rattle.mw_symmach.proofs.zeros.push_zeros.Goals as goal

pub loop-element-preserved : goal.loop-element-preserved
loop-element-preserved c =
    let widths = c.args.widths.now in
    let old = c.args.values.now.items in
    let l = c.loop-element in
    let here : length l.values.items ≡ l.element = omega (arith, l.invariant.zeros.count) in
    let read : slice_index widths l.element ≡ slice_index widths (length l.values.items) =
    ap (slice_index widths) (sym here) in
    let one_more : l.element - length old + 1 ≡ l.element + 1 - length old = omega arith in
    record {
      listed = λ words reads.
          rw c.in_ok-push.ensures.items
          (ap (λ (x : Ended). with_zeros (take (c.args.elements - (l.element + 1)) (drop (l.element + 1) widths))
          (l.values.items ++ x.term ∷ []) x.list) (c.in_ok-zero.ensures.listed words reads)
          ∙ sym (ap (λ ws. with_zeros ws l.values.items (list_of l.terms.ops words reads))
          (first_width widths l.element c.args.elements (omega arith) (omega arith)))
          ∙ l.invariant.listed words reads);
      zeros = rw (c.in_ok-push.ensures.items, ← one_more)
          (zeros_more c.args.terms.now l.terms c.constant.new.terms widths
          old l.values.items (l.element - length old) (slice_index widths l.element) c.in_ok-zero.zero c.requires.table
          l.invariant.zeros c.in_ok-zero.ensures.gives read);
    }

pub returns-clause-listed : goal.returns-clause-listed
returns-clause-listed c = λ words reads.
    (let l = c.loop-element in
    let none : c.args.elements - l.element ≡ 0 = omega arith in
    sym (l.invariant.listed words reads)
    ∙ ap (λ n. with_zeros (take n (drop l.element c.args.widths.now)) l.values.items (list_of l.terms.ops words reads))
    none)
