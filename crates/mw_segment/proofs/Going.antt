-- What stays as a segment goes on through its cycles.
use Rattle.std.proofs.Common.{◌≡◌, inl, inr, ℕ, ◌+◌, ◌≤◌, List, ap, sym, subst, ◌∙◌, arith}
use Rattle.std.specs.Prelude.{Bool, None}
use Rattle.mw_cycle.specs.SegmentWords.{Segment}
use Rattle.mw_cycle.specs.SteadySeries.{kind_of}
use Rattle.mw_segment.specs.Left.{IsAlongSegment}
use Rattle.mw_segment.specs.Programs.{Program}
use Rattle.mw_segment.specs.Segments.{IsOnSegment, IsRunKind}
use Rattle.mw_segment.specs.Turns.{HasTurned, TurnsAlong, TurnsOnPath}
use Rattle.mw_space.specs.declared.space.Space.{Space}
use Rattle.mw_symboard.specs.Paths.{Origin}
use Rattle.mw_symboard.specs.Seen.{Progress}
use Rattle.mw_symboard.specs.Turns.{Symbolic}
use Rattle.mw_symmem.specs.declared.turn.Turn.{Turn}
use Rattle.mw_symmem.specs.declared.turn.Turn.TheVariants.{Finished}
use Rattle.mw_symmem.specs.Workspace.{GoesOn}
use Rattle.mw_symmem.proofs.Later.{goes_as, goes_then}
use Rattle.mw_term.specs.declared.decided.Decided.{Decided}
use Rattle.mw_term.specs.declared.kinds.WordKind.{WordKind}
use Rattle.mw_term.specs.declared.side.Side.{Side}
use Rattle.mw_term.specs.Functions.{Function}

-- a path through the segment is one still
abbrev pub StaysOnSegment : Program → (old new : Space) → (before after : Symbolic) → Type 0
StaysOnSegment program old new before after = (b : Origin) (bits : List Decided) (path : Function)
    → IsOnSegment program old b before bits path → IsOnSegment program new b after bits path

-- a board that is along the words of a segment is so still
abbrev pub StaysAlong : Program → (bound : ℕ) → (old new : Space) → (before after : Symbolic) → Type 0
StaysAlong program bound old new before after = (whole : List Bool → Segment) (bits : List Bool)
    → IsAlongSegment program bound whole bits old before → IsAlongSegment program bound whole bits new after

-- a turn from one on a path
abbrev pub ComesByTurn : Program → (old new : Space) → (before after : Symbolic) → Turn → Type 0
ComesByTurn program old new before after turn = (b : Origin) (bits : List Decided) (path : Function)
    → IsOnSegment program old b before bits path → TurnsOnPath program new b after bits path turn

-- a turn from one that is along the words
abbrev pub ComesAlongByTurn : Program → (bound : ℕ) → (old new : Space) → (before after : Symbolic) → Turn → Type 0
ComesAlongByTurn program bound old new before after turn = (whole : List Bool → Segment) (bits : List Bool)
    → IsAlongSegment program bound whole bits old before → TurnsAlong program bound whole bits new after turn

-- what a board makes from a later place on, it makes from the first one on
since_first : (first now : Progress) → now.side ≡ first.side → first.cycle ≤ now.cycle
    → (now.cycle ≡ first.cycle → now.line ≡ first.line) → (kind : WordKind) → IsRunKind now kind → IsRunKind first kind
since_first first now side later line kind is = elim is [
  | inl base ↦ inl base
  | inr other ↦ elim other [
    | inl input ↦ inr (inl input)
    | inr own ↦
        inr (inr (
          own.0,
          own.1,
          own.2,
          omega (arith, later, own.3),
          λ of_line at.
              (let same : now.cycle ≡ first.cycle = omega (arith, later, own.3, at) in
              sym (line same) ∙ own.4 of_line (at ∙ sym same)),
          own.5 ∙ ap (λ (s : Side). kind_of s own.0 own.1) side,
        ))
  ]
]

-- a further turn adds variables of the run
pub goes_further : (first now : Progress) (old mid new : Space) → now.side ≡ first.side → first.cycle ≤ now.cycle
    → (now.cycle ≡ first.cycle → now.line ≡ first.line)
    → GoesOn (IsRunKind first) old.terms mid.terms old.words mid.words old.memory mid.memory
    → GoesOn (IsRunKind now) mid.terms new.terms mid.words new.words mid.memory new.memory
    → GoesOn (IsRunKind first) old.terms new.terms old.words new.words old.memory new.memory
goes_further first now old mid new side later line so_far more =
    goes_then (IsRunKind first) old.terms mid.terms new.terms old.words mid.words new.words old.memory mid.memory
    new.memory so_far
    (goes_as (IsRunKind now) (IsRunKind first) mid.terms new.terms mid.words new.words mid.memory new.memory
    (since_first first now side later line) more)

-- after a further turn, which came out as this
pub comes_by_turn : (program : Program) (old mid new : Space) (before now after : Symbolic) (turn is : Turn)
    → turn ≡ is → StaysOnSegment program old mid before now → ComesByTurn program mid new now after turn
    → ComesByTurn program old new before after is
comes_by_turn program old mid new before now after turn is same stays turns b bits path on =
    subst (TurnsOnPath program new b after bits path) same (turns b bits path (stays b bits path on))

-- so it is along the words
pub comes_along_by_turn : (program : Program) (bound : ℕ) (old mid new : Space) (before now after : Symbolic)
    (turn is : Turn) → turn ≡ is → StaysAlong program bound old mid before now
    → ((limit : ℕ) → ComesAlongByTurn program limit mid new now after turn)
    → ComesAlongByTurn program bound old new before after is
comes_along_by_turn program bound old mid new before now after turn is same stays turns whole bits along =
    subst (TurnsAlong program bound whole bits new after) same (turns bound whole bits (stays whole bits along))

-- its cycle is finished
pub turned_finished : (program : Program) (space : Space) (old new : Symbolic) (turn : Turn) → turn ≡ Finished
    → HasTurned program space old new turn
    → (new.asked ≡ None) × (new.reading ≡ None) × (new.place.cycle ≡ old.place.cycle + 1)
turned_finished program space old new turn is turned = subst (HasTurned program space old new) is turned
