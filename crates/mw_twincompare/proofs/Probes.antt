-- For each twin start and each address there is an assignment whose probe is that address; and what is known of twin
-- starts stays while both sides are compared.
use Rattle.std.proofs.Common.{◌≡◌, ℕ, ◌+◌, ◌<◌, ◌%◌, ◌^◌, List, ◌++◌, ap, ◌∙◌, arith, refl}
use Rattle.std.specs.Prelude.{◌==◌, if◌then◌else◌, None, Some}
use Rattle.std.proofs.Math.Nat.{mod-eq_of_lt}
use Rattle.std.proofs.lemmas.Bool.Decides.{nat_tests}
use Rattle.mw_board.specs.declared.parts.BoardParts.{BoardParts}
use Rattle.mw_compare.specs.Comparing.{GoesComparing, IsComparedKind}
use Rattle.mw_course.proofs.Growing.{none_later, width_kept}
use Rattle.mw_cycle.specs.SteadySeries.{Series, kind_of, series_of_kind, width_of}
use Rattle.mw_cycle.proofs.Named.{no_kind}
use Rattle.mw_revise.specs.declared.keep.Block.{Block}
use Rattle.mw_revise.specs.declared.programs.Side.{Side}
use Rattle.mw_revise.specs.Revision.{Revision}
use Rattle.mw_revise.specs.TwinBudgets.{IsTwinStartAt}
use Rattle.mw_revise.specs.TwinStart.{TwinStart}
use Rattle.mw_revise.specs.TwinWords.{memory_side}
use Rattle.mw_space.specs.declared.space.Space.{Space}
use Rattle.mw_symboard.proofs.Environments.{variables_have_values}
use Rattle.mw_symboard.specs.Variables.{HaveVariables}
use Rattle.mw_symmem.specs.Memory.{IsBaseNumber, IsOfWidth}
use Rattle.mw_symmem.specs.Words.{HaveOwnKinds, IsVariable}
use Rattle.mw_symmem.specs.Workspace.{HaveKinds, IsLater}
use Rattle.mw_term.specs.Assigned.{Given}
use Rattle.mw_term.specs.declared.kinds.WordKind.{WordKind}
use Rattle.mw_term.specs.declared.kinds.WordKind.TheVariants.{Base, BesideLine, Element, Probe}
use Rattle.mw_term.specs.declared.side.Side.{Side as MemorySide}
use Rattle.mw_term.specs.declared.side.Side.TheVariants.{Board, Machine}
use Rattle.mw_term.specs.declared.word.Word.{Word}
use Rattle.mw_term.specs.Table.{Table}
use Rattle.mw_term.specs.Values.{term_value}
use Rattle.mw_twin.proofs.BothGrow.{line_wide}
use Rattle.mw_twin.proofs.ElementValues.{with_elements}
use Rattle.mw_twin.proofs.Growing.{GoesTo, ground_later, twins_before}
use Rattle.mw_twin.proofs.StartElements.{values_of_both}
use Rattle.mw_twin.proofs.TwinStartsThere.{AreUnwaiting, reached_from}
use Rattle.mw_twin.proofs.VariableNumbers.{inside, one_kind}
use Rattle.mw_twin.specs.Grounds.{StandsForTwins}
use Rattle.mw_twin.specs.Origins.{Ground, IsGround, ground_in, line_for}
use Rattle.mw_twin.specs.RevisedBlocks.{RevisedBlock}

-- ---- the probe's number is no other variable's

probe_inside : (side : MemorySide) → series_of_kind side Probe ≡ None
probe_inside Board = refl
probe_inside Machine = refl

probe_no_base : (words : List Word) (place term : ℕ) → IsVariable words place term Probe
    → ¬ IsBaseNumber words (place + 1)
probe_no_base words place term is other =
    let e : Probe ≡ Base other.k =
    one_kind words place other.place term other.term Probe (Base other.k) other.number is other.is in cc

probe_no_element : (words : List Word) (i j a b n : ℕ) → IsVariable words i a Probe → IsVariable words j b (Element n)
    → ¬ (i + 1 ≡ j + 1)
probe_no_element words i j a b n is other same =
    let e : Probe ≡ Element n = one_kind words i j a b Probe (Element n) same is other in cc

-- ---- each address is the probe's

-- an assignment with another value for a number
with_number : (number value : ℕ) → Given → Given
with_number number value given n = if n == number then value else given n

own_number : (number value : ℕ) (given : Given) → with_number number value given number ≡ value
unfolding with_number
own_number number value given = grind (arith, nat_tests)

other_number : (number value : ℕ) (given : Given) (n : ℕ) → ¬ (number ≡ n) → with_number number value given n ≡ given n
unfolding with_number
other_number number value given n other = grind (arith, nat_tests)

pub reached_at : (revision : Revision) (block : Block) (g : Ground) (place probe address : ℕ)
    → IsGround revision.board block g → IsVariable g.words place probe Probe
    → IsOfWidth g.table g.memory.address probe → address < 2 ^ g.memory.address
    → (twins : TwinStart) → IsTwinStartAt revision block twins → AreUnwaiting twins
    → (given : Given) × StandsForTwins revision block g given twins × (term_value g.table given probe ≡ address)
reached_at revision block g place probe address ground at wide less twins starts ready =
    let work = ground.space.workspace in
    let width = g.memory.address in
    let values = with_elements g.words (values_of_both revision.board twins.before.state twins.after.state) in
    let reached = reached_from revision block g ground twins starts ready (with_number (place + 1) address values)
    (λ other term n element.
    other_number (place + 1) address values (other + 1)
    (probe_no_element g.words place other probe term n at element)) in
    let has : reached.0 (place + 1) ≡ address =
    reached.2 (place + 1) (inside Board g.words place probe Probe (probe_inside Board) at)
    (inside Machine g.words place probe Probe (probe_inside Machine) at) (probe_no_base g.words place probe at)
    ∙ own_number (place + 1) address values in (
      reached.0,
      reached.1,
      variables_have_values g.table g.words place probe Probe width reached.0 work.table work.of at wide
          ∙ ap (λ v. v % 2 ^ width) has ∙ mod-eq_of_lt less,
    )

-- ---- what is known of twin starts while both sides are compared

compared_named : (side : MemorySide) (kind : WordKind) → IsComparedKind kind → series_of_kind side kind ≡ None
compared_named Board Probe is = refl
compared_named Board (Base n) is = refl
compared_named Machine Probe is = refl
compared_named Machine (Base n) is = refl
compared_named side other is = absurd is

not_compared : (side : MemorySide) (series : Series) (n : ℕ) → ¬ IsComparedKind (kind_of side series n)
not_compared side = no_kind side IsComparedKind (compared_named side)

-- the variables of a board's cycles stay all that there are
cycles_compared : (side : MemorySide) (board : BoardParts) (told tnew : Table) (wold wnew more : List Word) (cycles : ℕ)
    → IsLater told tnew → wnew ≡ wold ++ more → HaveKinds IsComparedKind more
    → HaveVariables side board told wold cycles → HaveVariables side board tnew wnew cycles
cycles_compared side board told tnew wold wnew more cycles later words kinds has = record {
  widths = λ series n term is.
      width_kept IsComparedKind told tnew wold wnew more (kind_of side series n) (width_of board.width series) term later
      words kinds (not_compared side series n) (has.widths series n) is;
  none = λ series by_cycle n past.
      none_later IsComparedKind wold wnew more (kind_of side series n) words kinds (not_compared side series n)
      (has.none series by_cycle n past);
}

no_line_compared : ¬ IsComparedKind (BesideLine 0)
no_line_compared is = is

module _ (s : RevisedBlock) (old new : Space) (old_elements new_elements : List ℕ)
    (ground : IsGround s.revision.board s.block (ground_in old old_elements new_elements))
    (compared : GoesComparing old new) (own : HaveOwnKinds new.words) where
  goes : GoesTo s.revision.board (ground_in old old_elements new_elements) (ground_in new old_elements new_elements)
  goes =
      let on = compared.goes in record {
        later = on.later;
        more = on.more;
        words = on.words;
        reads = on.reads;
        space = record {
          map = on.later.extends.map ∙ ground.space.map;
          address = on.reads.address ∙ ground.space.address;
          word = on.reads.word ∙ ground.space.word;
          workspace = on.workspace;
        };
        before = refl;
        after = refl;
        own = own;
        variables = λ side.
            let has = ground.variables side in (
              has.0,
              cycles_compared (memory_side side) s.revision.board old.terms new.terms old.words new.words on.more has.0
                  on.later on.words on.kinds has.1,
            );
        unlined = none_later IsComparedKind old.words new.words on.more (BesideLine 0) on.words on.kinds
            no_line_compared ground.unlined;
      }

  lined : (side : Side) (term : ℕ) → line_for side (ground_in old old_elements new_elements) ≡ Some term
      → IsOfWidth old.terms 1 term
  lined = line_wide s old old_elements new_elements ground

  -- the ground of both runs
  pub ground_compared : IsGround s.revision.board s.block (ground_in new old_elements new_elements)
  ground_compared = ground_later s.revision s.block (ground_in old old_elements new_elements)
      (ground_in new old_elements new_elements) goes ground lined

  -- a twin start over what there is after a comparison was one before
  pub twins_compared : (given : Given) (twins : TwinStart)
      → StandsForTwins s.revision s.block (ground_in new old_elements new_elements) given twins
      → StandsForTwins s.revision s.block (ground_in old old_elements new_elements) given twins
  twins_compared = twins_before s.revision s.block (ground_in old old_elements new_elements)
      (ground_in new old_elements new_elements) goes ground lined
