-- What a step keeps: its values are words of their widths, and so is what it leaves.
use Rattle.std.proofs.Common.{◌≡◌, ℕ, ◌+◌, ◌<◌, ◌^◌, List, Bool, true, false, ◌==◌, ap, subst}
use Rattle.std.specs.Prelude.{if◌then◌else◌, slice_index, Ok, Err, Result}
use Rattle.std.proofs.lemmas.Bool.{and_parts, eqb-true}
use Rattle.mw_base.specs.declared.cause.Cause.{Cause}
use Rattle.mw_expr.specs.declared.shape.Shape.{Shape}
use Rattle.mw_expr.specs.Tree.{Tree}
use Rattle.mw_expr.specs.Values.{value, AreWords, IsImage}
use Rattle.mw_expr.specs.Widths.{width_of}
use Rattle.mw_expr.proofs.Accepted.{widths_are_by_rule}
use Rattle.mw_macro.specs.DescribedStep.{Now, after, after_all, begun, step_of, AreInputs}
use Rattle.mw_macro.specs.Machine.{Description}
use Rattle.mw_macro.specs.Right.{is_asked, is_right, are_right, IsMachine}
use Rattle.mw_macro.specs.State.{MachineState, Fits}
use Rattle.mw_macro.specs.Statements.{Act, assign, write, put, take_in, choose, Acts, nothing, next}
use Rattle.mw_macro.proofs.Steps.{begun_words, left_fits}
use Rattle.mw_rel.proofs.Values.{value_below}
use Rattle.mw_macro.proofs.Words.{set_words, set_image}

-- each value is a word of its width, and the memory has its words
record InRange (s : Shape) (x : Now) : Type 0 where
  values : AreWords s.widths x.values
  memory : IsImage s x.memory

asked_is : (asked : ℕ) (r : Result ℕ Cause) → is_asked asked r ≡ true → r ≡ Ok asked
asked_is asked (Ok w) is = ap Ok (eqb-true w asked is)
asked_is asked (Err cause) is = absurd cc

-- the value of an expression that has the width asked for
asked_below : (s : Shape) (x : Now) (asked : ℕ) (e : Tree) → is_asked asked (width_of s e) ≡ true → InRange s x
    → value s x.values x.memory e < 2 ^ asked
asked_below s x asked e is in_range =
    value_below s x.values x.memory e asked in_range.values in_range.memory
    (widths_are_by_rule s e asked (asked_is asked (width_of s e) is))

either_in : (s : Shape) (test : Bool) (a b : Now) → InRange s a → InRange s b → InRange s (if test then a else b)
either_in s true a b one other = one
either_in s false a b one other = other

mutual
  act_keeps : (s : Shape) (inputs : List ℕ) (first : ℕ) (act : Act) (x : Now)
      → ((i : ℕ) → slice_index inputs i < 2 ^ s.word)
      → is_right s act ≡ true → InRange s x → InRange s (after s inputs first act x)
  act_keeps s inputs first (assign target e) x given right old =
      let h = and_parts _ _ right in
      record {
        values = set_words s.widths x.values target _ old.values
            (asked_below s x (slice_index s.widths target) e h.1 old);
        memory = old.memory;
      }
  act_keeps s inputs first (write address e) x given right old =
      let h = and_parts _ _ right in
      record { values = old.values; memory = set_image s x.memory _ _ old.memory (asked_below s x s.word e h.1 old) }
  act_keeps s inputs first (put e) x given right old = record { values = old.values; memory = old.memory }
  act_keeps s inputs first (take_in target) x given right old =
      let h = and_parts _ _ right in
      let wide : s.word ≡ slice_index s.widths target = eqb-true _ _ h.1 in
      record {
        values = set_words s.widths x.values target _ old.values
            (subst (λ w. slice_index inputs (first + x.taken) < 2 ^ w) wide (given (first + x.taken)));
        memory = old.memory;
      }
  act_keeps s inputs first (choose condition one other) x given right old =
      let h = and_parts _ _ right in
      let lists = and_parts _ _ h.1 in
      either_in s (value s x.values x.memory condition == 1) _ _
      (acts_keep s inputs first one x given lists.0 old) (acts_keep s inputs first other x given lists.1 old)

  acts_keep : (s : Shape) (inputs : List ℕ) (first : ℕ) (all : Acts) (x : Now)
      → ((i : ℕ) → slice_index inputs i < 2 ^ s.word)
      → are_right s all ≡ true → InRange s x → InRange s (after_all s inputs first all x)
  acts_keep s inputs first nothing x given right old = old
  acts_keep s inputs first (next act rest) x given right old =
      let h = and_parts _ _ right in
      acts_keep s inputs first rest (after s inputs first act x) given h.1
      (act_keeps s inputs first act x given h.0 old)

-- a step leaves a state that fits
pub step_fits : (m : Description) (state : MachineState) (request : Bool) (inputs : List ℕ) (first : ℕ) → IsMachine m
    → Fits m state
    → AreInputs m inputs → Fits m (step_of m state request inputs first).state
unfolding step_of
step_fits m state request inputs first is fits given =
    let begins : InRange m.shape (begun m state request) = record {
      values = begun_words m state request is.formed fits;
      memory = record { size = fits.size; words = fits.memory };
    } in
    let last = acts_keep m.shape inputs first m.acts (begun m state request) given is.right.right begins in
    left_fits m _ _ is.formed last.values last.memory
