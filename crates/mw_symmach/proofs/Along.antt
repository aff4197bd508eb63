-- The words of a whole described step, turn by turn.
use Rattle.std.proofs.Common.{◌≡◌, ℕ, List, [], ◌∷◌, Bool, append-nil, append_assoc, refl, ap, ap₂, sym, ◌∙◌}
use Rattle.std.specs.Prelude.{Option, None}
use Rattle.mw_macro.specs.StepWords.{acts_words, step_words}
use Rattle.mw_macro.specs.Machine.{Description}
use Rattle.mw_term.specs.Table.{Table}
use Rattle.mw_term.specs.declared.word.Word.{Word}
use Rattle.mw_symmem.specs.declared.turn.Turn.TheVariants.{Ask, Finished}
use Rattle.mw_symmem.specs.Memory.{Memory}
use Rattle.mw_symmach.specs.Along.{StepsBeginAlong, TurnsGoAlong, BitsGoAlong}
use Rattle.mw_symmach.specs.Turns.{Stepping, given_so}
use Rattle.mw_symmach.specs.Walks.{underway_in, underway_by, underway_of}

pub steps_begin_along : StepsBeginAlong
unfolding step_words
steps_begin_along d registers request t words m o left listed further =
    ap₂ (λ acts u. acts_words d.shape acts further u) (sym left) (sym listed)

pub turns_go_along : TurnsGoAlong
turns_go_along said d bits told tnew wold wnew mold mnew old new (Ask kind term) along walks done begun = record {
  begun = begun;
  stops = ap said (sym (append-nil bits)) ∙ along [] ∙ walks.0;
  goes = λ bit further. along (bit ∷ further) ∙ walks.1 bit further;
}
turns_go_along said d bits told tnew wold wnew mold mnew old new Finished along walks done begun =
    ap said (sym (append-nil bits)) ∙ along [] ∙ walks []
    ∙ ap (λ acts. acts_words d.shape acts [] (underway_in tnew wnew mnew new.parts)) (done refl)

-- a step that has its terms is under way with these, whatever bit it was given
under_way : (d : Description) (t : Table) (words : List Word) (m : Memory) (o new : Stepping) (value : Bool)
    → o.request ≡ None → new ≡ given_so o value → underway_in t words m o.parts ≡ underway_of d t words m new
under_way d t words m o new value begun is =
    ap (λ (request : Option ℕ). underway_by d t words m o.parts request) (sym begun)
    ∙ ap (λ (x : Stepping). underway_of d t words m x) (sym is)

pub bits_go_along : BitsGoAlong
bits_go_along said d bits t words m old new term value asks is left further =
    ap said (append_assoc bits (value ∷ []) further) ∙ asks.goes value further
    ∙ ap₂ (λ acts u. acts_words d.shape acts further u) (sym left) (under_way d t words m old new value asks.begun is)
