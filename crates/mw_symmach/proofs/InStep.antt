-- A described step on terms is the step of the machine.
use Rattle.std.proofs.Common.{◌≡◌, ◌<◌, ℕ, zero, suc, List, [], ◌∷◌, ◌++◌, length, slice_index, Bool, append-nil}
use Rattle.std.proofs.Common.{append_assoc, refl, ap, arith, sym, subst, ◌∙◌}
use Rattle.std.specs.Prelude.{Option, Some, None, slice_get}
use Rattle.mw_macro.specs.Machine.{Description, IsFormed}
use Rattle.mw_term.specs.declared.kinds.WordKind.TheVariants.{Input}
use Rattle.mw_term.specs.Table.{Table}
use Rattle.mw_term.specs.declared.event.SymEvent.{SymEvent}
use Rattle.mw_term.specs.declared.word.Word.{Word}
use Rattle.mw_term.specs.WordList.{variable}
use Rattle.mw_symmem.specs.Words.{IsVariable}
use Rattle.mw_symmem.specs.Memory.{Memory, IsOfWidth}
use Rattle.mw_symmem.specs.Workspace.{IsWorkspace}
use Rattle.mw_symmem.proofs.Later.{image_before, images_fit_before}
use Rattle.mw_symmem.proofs.Lists.{behind}
use Rattle.mw_symmach.specs.Laws.{IsInStep, TermsAreThere, TurnsAreOfTheStep, BitsAreOfTheStep, ScenesAreSeenBefore}
use Rattle.mw_symmach.specs.Steps.{Parts, event_term}
use Rattle.mw_symmach.specs.Turns.{HasTerms, bits_to_come}

-- the item behind some others
next_behind : (xs ys : List Bool) → slice_get (xs ++ ys) (length xs) ≡ slice_get ys 0
next_behind [] ys = refl
next_behind (x ∷ xs) ys = next_behind xs ys

pub turns_are_of_the_step : TurnsAreOfTheStep
turns_are_of_the_step d told tnew words mold mnew old new turn given x s request bits is seen within =
    let now_within : IsInStep d tnew mnew given x new s request bits =
    record {
      bits = within.bits ∙ ap (λ more. bits ++ more) (sym (is.bits given x seen));
      ends = within.ends ∙ sym (is.ends given x seen);
    } in (
      now_within,
      λ kind term asks.
          let says = rw asks at is.says in
          ap (λ all. slice_get all (length bits)) now_within.bits
          ∙ next_behind bits (bits_to_come d tnew given mnew x new) ∙ says.next given x seen,
      λ done.
          let says = rw done at is.says in (
            now_within.bits ∙ ap (λ more. bits ++ more) (says.bits given x) ∙ append-nil bits,
            now_within.ends ∙ says.ends given x,
          ),
    )

pub bits_are_of_the_step : BitsAreOfTheStep
bits_are_of_the_step d t words m old new value given x s request bits is within next =
    let first : slice_get (bits_to_come d t given m x old) 0 ≡ Some value =
    sym (next_behind bits (bits_to_come d t given m x old))
    ∙ ap (λ all. slice_get all (length bits)) (sym within.bits)
    ∙ next in
    record {
      bits = within.bits ∙ ap (λ more. bits ++ more) (is.bits given x first)
          ∙ sym (append_assoc bits (value ∷ []) (bits_to_come d t given m x new));
      ends = within.ends ∙ sym (is.ends given x first);
    }

workspace_of : (d : Description) (t : Table) (words : List Word) (m : Memory) (p : Parts) (request : Option ℕ)
    → HasTerms d t words m p request → IsWorkspace t words m
workspace_of d t words m p None has = has.workspace
workspace_of d t words m p (Some request) has = has.0.workspace

pub scenes_are_seen_before : ScenesAreSeenBefore
scenes_are_seen_before told tnew wold wnew mold mnew given x d o stepping goes seen =
    let workspace = workspace_of d told wold mold o.parts o.request stepping.terms in
    record {
      image = image_before mold mnew x.image goes.reads seen.image;
      fit = images_fit_before told tnew wold mold mnew given x.image goes.later workspace.memory goes.reads seen.fit;
      inputs = λ k place term is.
          seen.inputs k place term (subst (λ ws. IsVariable ws place term (Input k)) (sym goes.words)
          (behind wold goes.more place (variable term (Input k)) is))
          ∙ goes.later.keeps.values given term (workspace.of.there place (variable term (Input k)) is);
    }

no_event : (i : ℕ) (e : SymEvent) → slice_get [] i ≡ Some e → ⊥
no_event zero e is = absurd cc
no_event (suc i) e is = absurd cc

terms_of : (d : Description) (t : Table) (words : List Word) (m : Memory) (p : Parts) (request : Option ℕ) → IsFormed d
    → HasTerms d t words m p request
    → ((i : ℕ) → i < d.registers
    → (i < length p.values) × IsOfWidth t (slice_index d.shape.widths i) (slice_index p.values i))
    × ((i : ℕ) (e : SymEvent) → slice_get p.events i ≡ Some e → IsOfWidth t d.shape.word (event_term e))
terms_of d t words m p None formed has = (
  λ i inside.
      let within : i < length d.shape.widths = omega (arith, inside, formed.registers, formed.elements) in
      (omega (arith, within, has.count), has.each i within),
  has.event,
)
terms_of d t words m p (Some request) formed has = (
  λ i inside. (omega (arith, inside, has.0.count), has.0.each i inside),
  λ i e is. absurd (no_event i e (rw has.1 at is)),
)

pub terms_are_there : TermsAreThere
terms_are_there d t words m o formed stepping = terms_of d t words m o.parts o.request formed stepping.terms
