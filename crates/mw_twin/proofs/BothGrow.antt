-- What both boards' runs work on grows as one of them goes on.
use Rattle.std.proofs.Common.{◌≡◌, inl, inr, ℕ, ◌≤◌, List, true, Some, None, refl, sym, ap, subst, ◌∙◌, arith}
use Rattle.mw_board.specs.declared.parts.BoardParts.{BoardParts}
use Rattle.mw_cycle.specs.SteadySeries.{Series, Inputs, Line as LineOf, Noise, goes_by_cycle, kind_of}
use Rattle.mw_course.proofs.Growing.{none_later}
use Rattle.mw_revise.specs.declared.programs.Side.{Side}
use Rattle.mw_revise.specs.declared.programs.Side.TheVariants.{Old, New}
use Rattle.mw_revise.specs.TwinWords.{memory_side}
use Rattle.mw_segment.specs.Segments.{IsRunKind}
use Rattle.mw_space.specs.declared.space.Space.{Space}
use Rattle.mw_space.specs.Spaces.{IsSpaceOf}
use Rattle.mw_symboard.specs.Seen.{Progress}
use Rattle.mw_symboard.specs.Turns.{IsSymbolic, Symbolic}
use Rattle.mw_symboard.specs.Variables.{HaveVariables}
use Rattle.mw_symboard.proofs.Environments.{cycles_are_there}
use Rattle.mw_symmem.specs.Memory.{IsOfWidth}
use Rattle.mw_symmem.specs.Words.{HaveOwnKinds}
use Rattle.mw_symmem.specs.Workspace.{GoesOn}
use Rattle.mw_term.specs.declared.kinds.WordKind.TheVariants.{BesideLine, Probe}
use Rattle.mw_term.specs.declared.side.Side.{Side as MemorySide}
use Rattle.mw_term.specs.declared.side.Side.TheVariants.{Board, Machine}
use Rattle.mw_twin.specs.Origins.{IsGround, ground_in, line_for}
use Rattle.mw_twin.specs.RevisedBlocks.{RevisedBlock}
use Rattle.mw_twin.proofs.Growing.{GoesTo, other, others_stay}

-- ---- kinds that no run makes

no_probe_among : (side : MemorySide) (series : Series) (n : ℕ) → Probe ≡ kind_of side series n → ⊥
no_probe_among side Inputs n is = absurd cc
no_probe_among Board LineOf n is = absurd cc
no_probe_among Board Noise n is = absurd cc
no_probe_among Machine LineOf n is = absurd cc
no_probe_among Machine Noise n is = absurd cc

-- a run makes no probe
pub no_probe : (from : Progress) → IsRunKind from Probe → ⊥
no_probe from is = elim is [
  | inl base ↦ absurd cc
  | inr rest ↦ elim rest [
    | inl input ↦ absurd cc
    | inr own ↦ no_probe_among from.side own.0 own.1 own.5
  ]
]

no_line_of_board : (series : Series) (n : ℕ) → goes_by_cycle series ≡ true → BesideLine 0 ≡ kind_of Board series n → ⊥
no_line_of_board Inputs n by is = absurd cc
no_line_of_board LineOf n by is = absurd cc
no_line_of_board Noise n by is = absurd cc

-- the old program's board makes no line of the new one's
pub no_line_by_old : (from : Progress) → from.side ≡ Board → IsRunKind from (BesideLine 0) → ⊥
no_line_by_old from side is = elim is [
  | inl base ↦ absurd cc
  | inr rest ↦ elim rest [
    | inl input ↦ absurd cc
    | inr own ↦
        no_line_of_board own.0 own.1 own.2 (own.5 ∙ ap (λ (s : MemorySide). kind_of s own.0 own.1) side)
  ]
]

no_first_line : (from : Progress) (series : Series) (n : ℕ) → goes_by_cycle series ≡ true → from.cycle ≤ n
    → (series ≡ LineOf → n ≡ from.cycle → from.line ≡ None)
    → (from.cycle ≡ 0 → (term : ℕ) × (from.line ≡ Some term)) → BesideLine 0 ≡ kind_of Machine series n → ⊥
no_first_line from Inputs n by later unlined lined is = absurd cc
no_first_line from LineOf n by later unlined lined is =
    let none : 0 ≡ n = cc in
    let first : from.cycle ≡ 0 = omega (arith, later, none) in
    let line = lined first in
    let both : None ≡ Some line.0 = sym (unlined refl (sym none ∙ sym first)) ∙ line.1 in absurd cc
no_first_line from Noise n by later unlined lined is = absurd cc

-- and the new one none for its first cycle, whose line was there before
pub no_line_by_new : (from : Progress) → from.side ≡ Machine
    → (from.cycle ≡ 0 → (term : ℕ) × (from.line ≡ Some term)) → IsRunKind from (BesideLine 0) → ⊥
no_line_by_new from side lined is = elim is [
  | inl base ↦ absurd cc
  | inr rest ↦ elim rest [
    | inl input ↦ absurd cc
    | inr own ↦
        no_first_line from own.0 own.1 own.2 own.3 own.4 lined
        (own.5 ∙ ap (λ (s : MemorySide). kind_of s own.0 own.1) side)
  ]
]

-- ---- the variables of both boards

-- those of a board
pub own_variables : (side : MemorySide) (board : BoardParts) (store : List ℕ) (space : Space) (o : Symbolic)
    → IsSymbolic board store space.terms space.words space.memory o → o.place.side ≡ side
    → (cycles : ℕ) × HaveVariables side board space.terms space.words cycles
own_variables side board store space o symbolic same =
    let has = cycles_are_there board store space.terms space.words space.memory o symbolic in
    (has.0, subst (λ (s : MemorySide). HaveVariables s board space.terms space.words has.0) same has.1)

-- a number of cycles beyond those of a board's variables
abbrev AreThere : MemorySide → BoardParts → Space → Type 0
AreThere side board space = (cycles : ℕ) × HaveVariables side board space.terms space.words cycles

both_sides : (side : Side) (board : BoardParts) (space : Space) → AreThere (memory_side side) board space
    → AreThere (memory_side (other side)) board space → (each : Side) → AreThere (memory_side each) board space
both_sides Old board space own others Old = own
both_sides Old board space own others New = others
both_sides New board space own others Old = others
both_sides New board space own others New = own

-- ---- the ground

-- the line of the first cycle has one bit
pub line_wide : (s : RevisedBlock) (space : Space) (before after : List ℕ)
    → IsGround s.revision.board s.block (ground_in space before after) → (side : Side) (term : ℕ)
    → line_for side (ground_in space before after) ≡ Some term → IsOfWidth space.terms 1 term
line_wide s space before after ground Old term is = absurd cc
line_wide s space before after ground New term is = (ground.variables Old).1.widths LineOf 0 term is

-- the board of one of both programs went on
pub goes_to : (side : Side) (s : RevisedBlock) (old new : Space) (before after : List ℕ) (from : Progress)
    → from.side ≡ memory_side side
    → GoesOn (IsRunKind from) old.terms new.terms old.words new.words old.memory new.memory → HaveOwnKinds new.words
    → IsSpaceOf s.revision.board new.terms new.words new.memory → AreThere (memory_side side) s.revision.board new
    → IsGround s.revision.board s.block (ground_in old before after) → (IsRunKind from (BesideLine 0) → ⊥)
    → GoesTo s.revision.board (ground_in old before after) (ground_in new before after)
goes_to side s old new before after from same goes own space has ground no_line =
    let board = s.revision.board in
    let others = ground.variables (other side) in
    record {
      later = goes.later;
      more = goes.more;
      words = goes.words;
      reads = goes.reads;
      space = space;
      before = refl;
      after = refl;
      own = own;
      variables = both_sides side board new has (
        others.0,
        others_stay side from board old.terms new.terms old.words new.words goes.more others.0 has.0 same goes.later
            goes.words goes.kinds has.1 others.1,
      );
      unlined = none_later (IsRunKind from) old.words new.words goes.more (BesideLine 0) goes.words goes.kinds no_line
          ground.unlined;
    }
