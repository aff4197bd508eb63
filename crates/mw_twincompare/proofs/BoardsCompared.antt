-- What comparing both boards of a twin case comes to.
use Rattle.std.proofs.Common.{◌≡◌, ◌≢◌, ℕ, List, [], ◌∷◌, map, Bool, true, false, ◌&&◌, ◌==◌, refl, ap, sym, subst, ◌∙◌}
use Rattle.std.specs.Prelude.{All, Err, IfErr, IfOk, IfSome, None, OnOk, Ok, Option, Result, Some, find}
use Rattle.std.specs.Option.{is_some}
use Rattle.mw_blast.specs.Numbers.{OverHaveNumbers}
use Rattle.mw_board.specs.declared.parts.BoardParts.{BoardParts}
use Rattle.mw_compare.specs.Comparing.{Compares, GoesComparing}
use Rattle.mw_compare.specs.TreeComparisons.{AreComparisonsWithin, ComparisonStopsIn}
use Rattle.mw_cycle.specs.Boundary.{is_named}
use Rattle.mw_cycle.specs.Run.{BoardRun}
use Rattle.mw_decide.specs.Faults.{RunStop}
use Rattle.mw_rel.specs.ComparisonWords.{are_alike}
use Rattle.mw_revise.proofs.Same.{segment_of}
use Rattle.mw_revise.proofs.WithoutWaits.{thinned_are_twin_starts, twin_cases_are_thinned}
use Rattle.mw_revise.specs.declared.keep.Block.{Block}
use Rattle.mw_revise.specs.declared.keep.KeepLine.{KeepLine}
use Rattle.mw_revise.specs.declared.programs.Side.{Side}
use Rattle.mw_revise.specs.declared.programs.Side.TheVariants.{Old}
use Rattle.mw_revise.specs.Kept.{IsBlock}
use Rattle.mw_revise.specs.Revision.{addresses_of, block_at}
use Rattle.mw_revise.specs.Sites.{address_on}
use Rattle.mw_revise.specs.TwinStart.{run_on, twins_without_waits}
use Rattle.mw_revise.specs.TwinWords.{twin_tree}
use Rattle.mw_space.specs.declared.space.Space.{Space}
use Rattle.mw_symboard.proofs.RunBits.{first_of}
use Rattle.mw_symboard.specs.Seen.{AreFirst}
use Rattle.mw_symboard.specs.Turns.{Symbolic}
use Rattle.mw_symmem.specs.Words.{HaveOwnKinds}
use Rattle.mw_term.specs.Assigned.{Numbers, given_by}
use Rattle.mw_term.specs.declared.decided.Decided.{Decided}
use Rattle.mw_term.specs.Functions.{Function}
use Rattle.mw_revise.specs.TwinCase.{twin_case}
use Rattle.mw_twin.specs.Origins.{ground_in}
use Rattle.mw_twin.specs.RevisedBlocks.{RevisedBlock}
use Rattle.mw_twincompare.proofs.CaseCompared.{alike_found, alike_stops, alike_within, have_starts, none_differs, unwaiting}
use Rattle.mw_twincompare.specs.Ended.{HaveEnded}
use Rattle.mw_twincompare.specs.Failing.{IsFound, NoneDiffersOf}
use Rattle.mw_twincompare.specs.KeptOnTerms.{AreApart, AreOne, compared_behind, sides_of}

-- ---- the block that the old board has reached

named_or : (side : Side) (b : Block) (rest : List Block) (at : ℕ) (test : Bool) → (address_on side b == at) ≡ test
    → is_named (map (address_on side) rest) at ≡ is_some (find (λ (b : Block). address_on side b == at) rest)
    → is_named (map (address_on side) (b ∷ rest)) at
    ≡ is_some (find (λ (b : Block). address_on side b == at) (b ∷ rest))
named_or side b rest at true is same = rw is refl
named_or side b rest at false is same = rw is same

named_among : (side : Side) (blocks : List Block) (at : ℕ)
    → is_named (map (address_on side) blocks) at ≡ is_some (find (λ (b : Block). address_on side b == at) blocks)
named_among side [] at = refl
named_among side (b ∷ rest) at = named_or side b rest at (address_on side b == at) refl (named_among side rest at)

-- there is one where an old segment has ended at a boundary
pub at_boundary : (s : RevisedBlock) (bits : List Decided) (path : Function) (space : Space)
    (old_elements new_elements : List ℕ) (old_board new_board : Symbolic)
    → HaveEnded s bits path space old_elements new_elements old_board new_board
    → block_at Old s.revision old_board.place.at ≢ None
at_boundary s bits path space old_elements new_elements old_board new_board is none =
    let g = ground_in space old_elements new_elements in
    let first = is.on.feasible in
    let thin = twins_without_waits s.revision first.twins in
    let one = (have_starts s g is.revised is.on.stands).reached thin
    (record {
      begins = thinned_are_twin_starts s.revision first.twins first.starts.begins;
      there = first.starts.there;
    }) (unwaiting s.revision first.twins) in
    let begins : AreFirst bits (twin_case s.revision thin) =
    subst (AreFirst bits) (sym (sym (twin_cases_are_thinned s.revision first.twins).bits ∙ first.bits_are))
    (first_of bits first.rest) in
    let comes = is.old_comes one.0 thin one.1 (is.on.cases.only one.0 thin one.1 begins) in
    let run = run_on Old s.revision thin old_board.place.cycle in
    let ended = segment_of Old s.revision thin run comes.segment in
    let named : is_named (addresses_of Old s.revision) run.state.at ≡ true =
    ap (λ (r : BoardRun). is_named (addresses_of Old s.revision) r.state.at) ended.is ∙ ended.next.named in
    let some : is_some (block_at Old s.revision old_board.place.at) ≡ true =
    sym (named_among Old s.revision.keep.blocks old_board.place.at)
    ∙ ap (is_named (addresses_of Old s.revision)) (sym comes.at) ∙ named in
    let both : false ≡ true = ap is_some (sym none) ∙ some in
    absurd cc

-- ---- all that is compared

-- what a result says of all comparisons at a block of these lines
pub record IsOfAll (board : BoardParts) (lines : List KeepLine) (nodes : ℕ) (old new : Space) (path : Function)
    (old_board new_board : Symbolic) (result : Result (Option Numbers) RunStop) : Type 0 where
  pub goes : OnOk result (GoesComparing old new)
  pub own : OnOk result (HaveOwnKinds new.words)
  pub compared : Compares nodes old new path (compared_behind board lines (sides_of board old old_board new_board)) result
  pub same : IfOk result (λ o. o ≡ None → AreOne board old new path old_board new_board lines)
  pub apart : IfOk result (λ o. IfSome o (λ numbers.
      AreApart board old new (given_by numbers) old_board new_board lines))

-- two boards may agree at a block
abbrev pub MayAgree : Block → (old_board new_board : Symbolic) → Bool
MayAgree reached old_board new_board = are_alike old_board.events new_board.events
    && ((new_board.place.at == reached.after)
    && ((old_board.place.sp == reached.sp) && (new_board.place.sp == reached.sp)))

-- what is said of each case whose segments have ended with these boards
abbrev pub OfEachEnded : RevisedBlock → (path : Function) → Space → (old_board new_board : Symbolic)
    → (Says : (bits : List Decided) → (old_elements new_elements : List ℕ) → Type 0) → Type 0
OfEachEnded s path old old_board new_board Says = (bits : List Decided) (old_elements new_elements : List ℕ)
    → HaveEnded s bits path old old_elements new_elements old_board new_board → Says bits old_elements new_elements

module _ (s : RevisedBlock) (path : Function) (old new : Space) (old_board new_board : Symbolic) (reached : Block)
    (nodes : ℕ) (kept : All (IsBlock s.revision.board) s.revision.keep.blocks)
    (there : block_at Old s.revision old_board.place.at ≡ Some reached)
    (may : MayAgree reached old_board new_board ≡ true) where
  -- where nothing is found, no twin start of the case differs
  pub none_so : (result : Result (Option Numbers) RunStop)
      → IsOfAll s.revision.board reached.lines nodes old new path old_board new_board result
      → IfOk result (λ o. o ≡ None
      → OfEachEnded s path old old_board new_board (λ bits old_elements new_elements. NoneDiffersOf s bits))
  none_so (Err stop) all = tt
  none_so (Ok o) all = λ none bits old_elements new_elements is.
      none_differs s bits path old old_elements new_elements old_board new_board reached is kept there new all.goes
      all.own may (all.same none)

  -- and each comparison is within the budget
  pub within_so : (result : Result (Option Numbers) RunStop)
      → IsOfAll s.revision.board reached.lines nodes old new path old_board new_board result
      → IfOk result (λ o. o ≡ None → OfEachEnded s path old old_board new_board
      (λ bits old_elements new_elements. AreComparisonsWithin (twin_tree s.revision s.block) nodes bits))
  within_so (Err stop) all = tt
  within_so (Ok o) all = λ none bits old_elements new_elements is.
      alike_within s bits path old old_elements new_elements old_board new_board reached is kept there nodes new may
      (subst (λ (x : Option Numbers). Compares nodes old new path (compared_behind s.revision.board reached.lines
      (sides_of s.revision.board old old_board new_board)) (Ok x)) none all.compared)

  -- what is found is the first that is sought
  pub found_so : (result : Result (Option Numbers) RunStop)
      → IsOfAll s.revision.board reached.lines nodes old new path old_board new_board result
      → IfOk result (λ o. IfSome o (λ numbers. OfEachEnded s path old old_board new_board
      (λ bits old_elements new_elements. IsFound s old_elements new_elements bits new numbers)))
  found_so (Err stop) all = tt
  found_so (Ok None) all = tt
  found_so (Ok (Some numbers)) all = λ bits old_elements new_elements is.
      alike_found s bits path old old_elements new_elements old_board new_board reached is kept there new all.goes
      all.own nodes numbers may all.compared all.apart

  -- where the comparing stops, an operation of the case is over the budget
  pub stops_so : (result : Result (Option Numbers) RunStop) → OverHaveNumbers
      → IsOfAll s.revision.board reached.lines nodes old new path old_board new_board result
      → IfErr result (λ stop. OfEachEnded s path old old_board new_board
      (λ bits old_elements new_elements. ComparisonStopsIn (twin_tree s.revision s.block) nodes bits stop))
  stops_so (Ok o) law all = tt
  stops_so (Err stop) law all = λ bits old_elements new_elements is.
      alike_stops s bits path old old_elements new_elements old_board new_board reached is kept there nodes new stop law
      may all.compared

-- the same of an equal board and equal lines
pub all_same : (board other : BoardParts) (lines others : List KeepLine) (nodes : ℕ) (old new : Space) (path : Function)
    (old_board new_board : Symbolic) (result : Result (Option Numbers) RunStop) → board ≡ other → lines ≡ others
    → IsOfAll board lines nodes old new path old_board new_board result
    → IsOfAll other others nodes old new path old_board new_board result
all_same board other lines others nodes old new path old_board new_board result boards are all =
    subst (λ (b : BoardParts). IsOfAll b others nodes old new path old_board new_board result) boards
    (subst (λ (ls : List KeepLine). IsOfAll board ls nodes old new path old_board new_board result) are all)
