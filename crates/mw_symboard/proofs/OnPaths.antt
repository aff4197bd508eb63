-- A path of decided bits through the cycles of a board.
use Rattle.std.proofs.Common.{◌≡◌, ℕ, zero, suc, ◌+◌, ◌<◌, List, ◌++◌, arith, refl, inl, inr, ap, sym, subst, ◌∙◌}
use Rattle.std.specs.Prelude.{if◌then◌else◌, Bool, true, false, ◌==◌, Some}
use Rattle.std.proofs.lemmas.Option.{same_Some}
use Rattle.mw_base.specs.Words.{bit_of}
use Rattle.mw_board.specs.declared.parts.BoardParts.{BoardParts}
use Rattle.mw_term.specs.declared.decided.Decided.{Decided}
use Rattle.mw_cycle.specs.Decided.{decided}
use Rattle.mw_cycle.specs.Elements.{bits_of, element_of}
use Rattle.mw_term.specs.declared.word.Word.{Word}
use Rattle.mw_term.specs.Assigned.{Given}
use Rattle.mw_term.specs.Table.{Table}
use Rattle.mw_term.specs.Values.{term_value}
use Rattle.mw_symmem.specs.declared.turn.Turn.{Turn}
use Rattle.mw_symmem.specs.declared.turn.Turn.TheVariants.{Ask, Finished}
use Rattle.mw_term.specs.declared.side.Side.{Side}
use Rattle.mw_symmem.specs.Memory.{IsOfWidth, Memory, writes_of}
use Rattle.mw_symmem.specs.Workspace.{IsLater, IsWorkspace, ReadsMore}
use Rattle.mw_symmem.proofs.Images.{value_within}
use Rattle.mw_symmem.proofs.Later.{width_later}
use Rattle.mw_symmem.proofs.Lists.{pushed}
use Rattle.mw_symboard.specs.Laws.{Course, FitsSoFar, bits_in, run_in}
use Rattle.mw_symboard.specs.Parts.{AreElements}
use Rattle.mw_symboard.specs.Paths.{AreOrigins, IsOneOf, Origin, PassedGoOn, PassedStay, PathsBegin, PathsGoOn, PathsStay}
use Rattle.mw_symboard.specs.Paths.{PathsTakeBits, SplitsAreBy}
use Rattle.mw_symboard.specs.Seen.{Progress}
use Rattle.mw_symboard.specs.Turns.{Symbolic, IsTurn}
use Rattle.mw_symboard.proofs.RunBits.{first_before}
use Rattle.mw_symboard.proofs.Staying.{line_stays}
use Rattle.mw_symboard.proofs.Runs.{bits_are_of_the_run, runs_begin, runs_fit_before, runs_stay, turns_are_of_the_run}

pub paths_begin : PathsBegin
paths_begin board store t words m b o path are has new none always = record {
  origin = are;
  side = new.side_is;
  line = λ term own. are.line term (sym new.line_is ∙ own);
  in_run = λ given x is holds.
      runs_begin board store t m given x b.terms b.side b.at b.sp b.line o has new none is.begins;
  only = λ given x is n less first. always given;
}

elements_later : (board : BoardParts) (told tnew : Table) (terms : List ℕ) → IsLater told tnew
    → AreElements board told terms
    → AreElements board tnew terms
elements_later board told tnew terms later are n below =
    width_later told tnew (bits_of board (element_of board n)) _ later (are n below)

origin_later : (board : BoardParts) (told tnew : Table) (b : Origin) → IsLater told tnew → AreOrigins board told b
    → AreOrigins board tnew b
origin_later board told tnew b later are = record {
  elements = elements_later board told tnew b.terms later are.elements;
  line = line_stays told tnew b.line later are.line;
}

-- a run that is one later was one before
one_before : (board : BoardParts) (told tnew : Table) (wold wnew more : List Word) (mold mnew : Memory) (b : Origin)
    (given : Given) (x : Course) → IsWorkspace told wold mold → IsLater told tnew → wnew ≡ wold ++ more
    → ReadsMore mold mnew
    → AreOrigins board told b → IsOneOf board tnew wnew mnew b given x → IsOneOf board told wold mold b given x
one_before board told tnew wold wnew more mold mnew b given x workspace later words reads are is =
    let before = runs_fit_before b.side board told tnew wold wnew more mold mnew given x workspace later words reads in
    record {
      fits = before.0 is.fits;
      begins = before.1 b.terms b.at b.sp b.line are.elements are.line is.begins;
    }

-- a turn finishes a cycle, or none
cycle_after : (board : BoardParts) (store : List ℕ) (t : Table) (words : List Word) (mold mnew : Memory)
    (old new : Symbolic) (turn : Turn) (n : ℕ) → IsTurn board store t words mold mnew old new turn → new.place.cycle < n
    → old.place.cycle < n
cycle_after board store t words mold mnew old new (Ask kind term) n turn less =
    subst (λ (p : Progress). p.cycle < n) turn.0 less
cycle_after board store t words mold mnew old new Finished n turn less = omega (arith, less, turn.2)

-- it stays on its side
side_after : (board : BoardParts) (store : List ℕ) (t : Table) (words : List Word) (mold mnew : Memory)
    (old new : Symbolic) (turn : Turn) → IsTurn board store t words mold mnew old new turn
    → new.place.side ≡ old.place.side
side_after board store t words mold mnew old new (Ask kind term) turn = ap (λ (p : Progress). p.side) turn.0
side_after board store t words mold mnew old new Finished turn = turn.4

-- the line that was there before its cycle has one bit, while it is in that cycle
line_after : (board : BoardParts) (store : List ℕ) (told t : Table) (words : List Word) (mold mnew : Memory)
    (old new : Symbolic) (turn : Turn) → IsTurn board store t words mold mnew old new turn → IsLater told t
    → ((term : ℕ) → old.place.line ≡ Some term → IsOfWidth told 1 term)
    → (term : ℕ) → new.place.line ≡ Some term → IsOfWidth t 1 term
line_after board store told t words mold mnew old new (Ask kind asked) turn later wide term is =
    line_stays told t old.place.line later wide term (sym (ap (λ (p : Progress). p.line) turn.0) ∙ is)
line_after board store told t words mold mnew old new Finished turn later wide term is =
    let none = turn.5 in absurd cc

pub paths_go_on : PathsGoOn
paths_go_on board store told tnew wold wnew mold mnew old new turn b bits path workspace symbolic goes is_turn is =
    let before : (given : Given) (x : Course) → IsOneOf board tnew wnew mnew b given x
    → IsOneOf board told wold mold b given x =
    λ given x one. one_before board told tnew wold wnew goes.more mold mnew b given x workspace goes.later goes.words
    goes.reads
    is.origin one in
    let law = λ (given : Given) (x : Course) (one : IsOneOf board tnew wnew mnew b given x) (holds : path given ≡ true).
    turns_are_of_the_run board store told tnew wold wnew mold mnew old new turn given x bits workspace symbolic goes
    is_turn
    (subst (λ (s : Side). FitsSoFar s board tnew wnew mnew given x) (sym is.side) one.fits)
    (is.in_run given x (before given x one) holds) in (
      record {
        origin = origin_later board told tnew b goes.later is.origin;
        side = side_after board store tnew wnew mold mnew old new turn is_turn ∙ is.side;
        line = line_after board store told tnew wnew mold mnew old new turn is_turn goes.later is.line;
        in_run = λ given x one holds. (law given x one holds).0;
        only = λ given x one n less first.
            is.only given x (before given x one) n
            (cycle_after board store tnew wnew mold mnew old new turn n is_turn less) first;
      },
      λ kind term asks given x one holds n less. (law given x one holds).1 kind term asks n less,
      λ done given x one holds. (law given x one holds).2 done,
    )

pub paths_take_bits : PathsTakeBits
paths_take_bits board store t words m b o bits kind term value path next is asks by = record {
  origin = is.origin;
  side = is.side;
  line = is.line;
  in_run = λ given x one holds.
      let so = by.so given holds in
      bits_are_of_the_run board store t m o kind value given x bits (is.in_run given x one so.0)
      (asks given x one so.0 (o.place.cycle + 1) (omega arith) ∙ ap (λ (v : Bool). Some (decided kind v)) so.1);
  only = λ given x one n less first.
      let split = first_before bits (bits_in board store x n) (decided kind value) first in
      let holds = is.only given x one n less split.0 in
      let same = same_Some (decided kind (term_value t given term == 1)) (decided kind value)
      (sym (asks given x one holds n less) ∙ split.1) in
      by.only given holds (ap (λ (d : Decided). d.value) same);
}

pub paths_stay : PathsStay
paths_stay board store told tnew wold wnew more mold mnew b o bits path workspace later words reads writes parts es is =
    let before : (given : Given) (x : Course) → IsOneOf board tnew wnew mnew b given x
    → IsOneOf board told wold mold b given x =
    λ given x one. one_before board told tnew wold wnew more mold mnew b given x workspace later words reads is.origin
    one in
    let own : writes_of mnew o.place.side ≡ writes_of mold o.place.side =
    subst (λ (s : Side). writes_of mnew s ≡ writes_of mold s) (sym is.side) writes in
    let stays = runs_stay board store told tnew wold mold mnew o workspace later own parts es is.line in
    record {
      origin = origin_later board told tnew b later is.origin;
      side = is.side;
      line = line_stays told tnew o.place.line later is.line;
      in_run = λ given x one holds. stays.2 given x bits (is.in_run given x (before given x one) holds);
      only = λ given x one n less first. is.only given x (before given x one) n less first;
    }

-- ---- splits

lowest : (v : ℕ) → v < 2 → bit_of v 0 ≡ (v == 1)
lowest zero small = refl
lowest (suc zero) small = refl
lowest (suc (suc v)) small = absurd (omega (arith, small))

where_one : (b path : Bool) → (if b then path else false) ≡ true → (path ≡ true) × (b ≡ true)
where_one true path holds = (holds, refl)
where_one false path holds = absurd cc

where_zero : (b path : Bool) → (if b then false else path) ≡ true → (path ≡ true) × (b ≡ false)
where_zero true path holds = absurd cc
where_zero false path holds = (holds, refl)

pub splits_are_by : SplitsAreBy
splits_are_by t term path next table wide =
    let own : (given : Given) → bit_of (term_value t given term) 0 ≡ (term_value t given term == 1) =
    λ given. lowest (term_value t given term) (value_within t given 1 term table wide) in (
      λ agree. record {
        so = λ given holds.
            let both = where_one (bit_of (term_value t given term) 0) (path given) (sym (agree given) ∙ holds) in
            (both.0, sym (own given) ∙ both.1);
        only = λ given holds is.
            agree given
            ∙ ap (λ (b : Bool). if b then path given else false) (own given ∙ is)
            ∙ holds;
      },
      λ agree. record {
        so = λ given holds.
            let both = where_zero (bit_of (term_value t given term) 0) (path given) (sym (agree given) ∙ holds) in
            (both.0, sym (own given) ∙ both.1);
        only = λ given holds is.
            agree given
            ∙ ap (λ (b : Bool). if b then false else path given) (own given ∙ is)
            ∙ holds;
      },
    )

-- ---- control addresses

pub passed_stay : PassedStay
passed_stay board store told tnew wold wnew more mold mnew b addresses path next workspace later words reads are so is =
    λ given x one holds k at there.
    is given x (one_before board told tnew wold wnew more mold mnew b given x workspace later words reads are one)
    (so given holds) k at there

pub passed_go_on : PassedGoOn
passed_go_on board store t words m b o bits addresses path is count passed =
    λ given x one holds k at there. elim (pushed addresses o.place.at k at there) [
      | inl h ↦ passed given x one holds k at h.1
      | inr h ↦
          let same : k + 1 ≡ o.place.cycle = omega (arith, h.0, count) in
          ap (λ (n : ℕ). (run_in board store x n).state.at) same ∙ (is.in_run given x one holds).state.at ∙ h.1
    ]
