-- A bit that is decided on a course's path, said of the cases of the twin starts at a block.
use Rattle.std.proofs.Common.{◌≡◌, ℕ, List, [], ◌∷◌, ◌++◌, drop, length, ap, sym, ◌∙◌}
use Rattle.std.specs.Prelude.{Bool, Some, true, ◌==◌}
use Rattle.std.proofs.lemmas.Option.{same_Some}
use Rattle.mw_cycle.specs.Decided.{decided}
use Rattle.mw_decide.proofs.Choosing.{AreValues, first_is_chosen}
use Rattle.mw_decide.specs.Decisions.{GoesOnAs, HasValueOn, IsFirstOn, IsListed}
use Rattle.mw_explore.specs.Cases.{Leads}
use Rattle.mw_explore.specs.KeptBits.{IsChosen}
use Rattle.mw_revise.specs.declared.keep.Block.{Block}
use Rattle.mw_revise.specs.Revision.{Revision}
use Rattle.mw_revise.specs.TwinBudgets.{IsTwinCase, IsTwinPrefix}
use Rattle.mw_revise.specs.TwinCase.{twin_case}
use Rattle.mw_revise.specs.TwinWords.{twin_tree}
use Rattle.mw_space.specs.declared.space.Space.{Space}
use Rattle.mw_symboard.proofs.RunBits.{and_rest, first_before, first_next}
use Rattle.mw_symboard.specs.Paths.{IsBy}
use Rattle.mw_term.specs.Assigned.{Given}
use Rattle.mw_term.specs.declared.decided.Decided.{Decided}
use Rattle.mw_term.specs.declared.decided.DecidedKind.{DecidedKind}
use Rattle.mw_term.specs.Functions.{Function}
use Rattle.mw_term.specs.Values.{term_value}
use Rattle.mw_twin.specs.Grounds.{HaveTwinStarts}
use Rattle.mw_twin.specs.OnTwins.{AsksFor}
use Rattle.mw_twin.specs.Origins.{Ground, ground_in}
use Rattle.mw_twin.specs.TwinPaths.{HasDecided, IsNextOfTwins, IsOnWay, IsTwinPath}
use Rattle.mw_twinfork.proofs.TwinPrefixes.{first_at, path_by}

-- ---- the values of the next bit

-- feasible bits are those with which a case begins
pub leads_by : (revision : Revision) (block : Block) (bits : List Decided) → IsTwinPrefix revision block bits
    → Leads (IsTwinCase revision block) bits
leads_by revision block bits f =
    record { rest = f.rest; case = record { twins = f.twins; starts = f.starts; bits_are = f.bits_are } }

feasible_by : (revision : Revision) (block : Block) (bits : List Decided) → Leads (IsTwinCase revision block) bits
    → IsTwinPrefix revision block bits
feasible_by revision block bits leads = record {
  twins = leads.case.twins;
  starts = leads.case.starts;
  rest = leads.rest;
  bits_are = leads.case.bits_are;
}

module _ (revision : Revision) (block : Block) (g : Ground) (bits : List Decided) (path : Function) (kind : DecidedKind)
    (term : ℕ) (have : HaveTwinStarts revision block g) (cases : IsTwinPath revision block g bits path)
    (asked : IsNextOfTwins revision block g bits path kind term) where
  -- the values that the term has on the path are feasible
  feasible_value : (value : Bool) → HasValueOn g.table term path value
      → IsTwinPrefix revision block (bits ++ decided kind value ∷ [])
  feasible_value value has =
      let there = have.there has.given in
      let more = bits ++ decided kind value ∷ [] in
      let case = twin_case revision there.0 in
      record {
        twins = there.0;
        starts = there.1.starts;
        rest = drop (length more) case;
        bits_are = and_rest more case
            (first_next bits case (decided kind value) (cases.first has.given there.0 there.1 has.holds)
            (asked has.given there.0 there.1 has.holds ∙ ap (λ (v : Bool). Some (decided kind v)) has.is));
      }

  -- and no others are
  value_of_feasible : (value : Bool) → IsTwinPrefix revision block (bits ++ decided kind value ∷ [])
      → HasValueOn g.table term path value
  value_of_feasible value feasible =
      let at = first_at revision block g (bits ++ decided kind value ∷ []) have feasible in
      let split = first_before bits (twin_case revision at.twins) (decided kind value) at.first in
      let holds = cases.only at.given at.twins at.is split.0 in
      let same = same_Some (decided kind (term_value g.table at.given term == 1)) (decided kind value)
      (sym (asked at.given at.twins at.is holds) ∙ split.1) in
      record { given = at.given; holds = holds; is = ap (λ (d : Decided). d.value) same }

  -- so they are those with which cases begin
  values : AreValues (IsTwinCase revision block) bits kind g.table term path
  values = record {
    leads = λ value has. leads_by revision block _ (feasible_value value has);
    has = λ value leads. value_of_feasible value (feasible_by revision block _ leads);
  }

-- an assignment takes the path
pub some_on_path : (revision : Revision) (block : Block) (g : Ground) (bits : List Decided) (path : Function)
    → HaveTwinStarts revision block g → IsOnWay revision block g bits path → (given : Given) × (path given ≡ true)
some_on_path revision block g bits path have on =
    let at = first_at revision block g bits have on.feasible in
    (at.given, on.cases.only at.given at.twins at.is at.first)

-- ---- a bit that was decided

-- the list of a course's bits, up to the next one
pub listed_on : (revision : Revision) (block : Block) (old_elements new_elements : List ℕ) (bits : List Decided)
    (space : Space) (path : Function) (term : ℕ)
    → IsOnWay revision block (ground_in space old_elements new_elements) bits path
    → AsksFor revision block bits space term → IsListed (twin_tree revision block) bits space path term
listed_on revision block old_elements new_elements bits space path term on asks =
    record { map = on.stands.space.map; asks = asks; written = on.written }

-- the first value that is feasible is chosen
pub is_chosen : (revision : Revision) (block : Block) (g : Ground) (bits : List Decided) (path : Function)
    (kind : DecidedKind) (term : ℕ) (value other : Bool) → HaveTwinStarts revision block g
    → IsOnWay revision block g bits path → IsNextOfTwins revision block g bits path kind term
    → ((given : Given) → path given ≡ true → IsFirstOn g.table term path value other)
    → IsChosen (IsTwinCase revision block) bits kind value other
is_chosen revision block g bits path kind term value other have on asked first =
    let at = some_on_path revision block g bits path have on in
    first_is_chosen (IsTwinCase revision block) bits kind g.table term path value other
    (values revision block g bits path kind term have on.cases asked) (first at.0 at.1)

-- the course is on its way with a value that the bit has
pub has_decided : (revision : Revision) (block : Block) (g : Ground) (bits : List Decided) (path next : Function)
    (kind : DecidedKind) (term : ℕ) (value : Bool) → HaveTwinStarts revision block g
    → IsOnWay revision block g bits path → IsNextOfTwins revision block g bits path kind term
    → HasValueOn g.table term path value → IsBy g.table term value path next
    → GoesOnAs (twin_tree revision block) bits value next
    → HasDecided revision block g bits path next kind term value
has_decided revision block g bits path next kind term value have on asked has by goes = record {
  on = record {
    stands = on.stands;
    written = goes kind;
    cases = path_by revision block g bits path next kind term value on.cases asked by;
    feasible = feasible_value revision block g bits path kind term have on.cases asked value has;
  };
  by = by;
}
