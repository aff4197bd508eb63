-- A described step on terms from before its first statement to its end.
use Rattle.std.proofs.Common.{◌≡◌, ℕ, ◌+◌, ◌≤◌, List, [], ◌∷◌, ◌++◌, length, ap, arith, sym, subst, inl, inr, ◌∙◌}
use Rattle.std.specs.Prelude.{Bool, Option, Some, None}
use Rattle.mw_macro.specs.declared.counts.Counted.TheVariants.{Reads}
use Rattle.mw_macro.specs.Counts.{total}
use Rattle.mw_macro.specs.Machine.{Description, IsFormed}
use Rattle.mw_macro.specs.Right.{IsRight}
use Rattle.mw_term.specs.declared.kinds.WordKind.{WordKind}
use Rattle.mw_term.specs.declared.kinds.WordKind.TheVariants.{Base, Input}
use Rattle.mw_term.specs.Table.{Table}
use Rattle.mw_symmem.specs.declared.turn.Turn.{Turn}
use Rattle.mw_symmem.specs.declared.turn.Turn.TheVariants.{Ask, Finished}
use Rattle.mw_term.specs.declared.word.Word.{Word}
use Rattle.mw_symmem.specs.Memory.{Memory, IsMemory, IsMemoryAtFirst, IsOfWidth, memory_of}
use Rattle.mw_term.specs.WordList.{variable}
use Rattle.mw_symmem.specs.Words.{AreOf, IsVariable}
use Rattle.mw_symmem.specs.Workspace.{GoesOn, IsLater}
use Rattle.mw_symmem.proofs.Later.{width_later}
use Rattle.mw_symmem.proofs.Lists.{kind_of, pushed}
use Rattle.mw_symmach.specs.Steps.{IsOfStep, Parts}
use Rattle.mw_symmach.specs.Turns.{HasTerms, IsDecided, IsStepping, IsTurn, Stepping, Waits, reads_to_come}
use Rattle.mw_symrows.specs.StepRuns.{AreFirst, AreRegisters, IsFirstKind, IsTurned, IsUnderway}

-- ---- first variables

-- one more is a first variable
pub first_push : (words : List Word) (term : ℕ) (own : WordKind) → AreFirst words → IsFirstKind own
    → AreFirst (words ++ variable term own ∷ [])
first_push words term own first is place other kind at =
    elim (pushed words (variable term own) place (variable other kind) at) [
      | inl h ↦ first place other kind h.1
      | inr h ↦ subst IsFirstKind (kind_of h.1) is
    ]

-- they are no base reads
first_no_base : (words : List Word) → AreFirst words → (place term k : ℕ) → ¬ IsVariable words place term (Base k)
first_no_base words first place term k is = first place term (Base k) is

-- nor inputs
first_no_input : (words : List Word) → AreFirst words → (place term k : ℕ) → ¬ IsVariable words place term (Input k)
first_no_input words first place term k is = first place term (Input k) is

-- ---- before the first statement

-- with variables for its registers and its request, and a new memory
pub waits_first : (d : Description) (told tnew : Table) (words : List Word) (m : Memory)
    (registers : List ℕ) (request : ℕ)
    → IsMemoryAtFirst → IsRight d → AreOf tnew words → AreFirst words → length registers ≡ d.registers
    → AreRegisters d.shape tnew d.registers registers → IsLater told tnew → IsOfWidth told 1 request
    → m ≡ memory_of d.shape.address d.shape.word [] [] [] → Waits d tnew words m registers request
waits_first d told tnew words m registers request law right of first count are later line is = record {
  workspace = record {
    table = later.table;
    of = of;
    memory = subst (IsMemory tnew words) (sym is)
        (law tnew words d.shape.address d.shape.word right.address (omega (arith, right.word.0), right.word.1)
        (first_no_base words first));
  };
  address = ap (λ (x : Memory). x.address) is;
  word = ap (λ (x : Memory). x.word) is;
  count = count;
  each = are;
  line = width_later told tnew 1 request later line;
  input = λ k place term is. absurd (first_no_input words first place term k is);
}

-- a step on what is there already
pub under_waits : (d : Description) (t : Table) (words : List Word) (m : Memory) (registers : List ℕ) (request : ℕ)
    (o : Stepping) → IsRight d → Waits d t words m registers request → length m.reads ≤ 1000
    → reads_to_come d o ≡ total Reads d.acts → IsStepping d t words m o → IsUnderway d t words m o
under_waits d t words m registers request o right waits few reads stepping = record {
  address = waits.address;
  workspace = waits.workspace;
  stepping = stepping;
  few = omega (arith, few, reads, right.reads);
}

-- ---- turns

-- each register has a term
enough_by : (d : Description) (t : Table) (words : List Word) (m : Memory) (p : Parts) (request : Option ℕ) → IsFormed d
    → HasTerms d t words m p request → d.registers ≤ length p.values
enough_by d t words m p None formed has = omega (arith, has.count, formed.elements, formed.registers)
enough_by d t words m p (Some term) formed has = omega (arith, has.0.count)

-- a turn
pub turned : (d : Description) (told tnew : Table) (wold wnew : List Word) (mold mnew : Memory) (old new : Stepping)
    (turn : Turn) → IsFormed d → IsUnderway d told wold mold old → GoesOn IsOfStep told tnew wold wnew mold mnew
    → IsTurn d told tnew wnew mold mnew old new turn
    → length mnew.reads + reads_to_come d new ≤ length mold.reads + reads_to_come d old
    → IsStepping d tnew wnew mnew new
    → IsTurned d tnew wnew mnew new turn
turned d told tnew wold wnew mold mnew old new (Ask kind term) formed under goes is few stepping = (
  record {
    address = goes.reads.address ∙ under.address;
    workspace = goes.workspace;
    stepping = stepping;
    few = omega (arith, few, under.few);
  },
  is.says.asked,
)
turned d told tnew wold wnew mold mnew old new Finished formed under goes is few stepping = record {
  address = goes.reads.address ∙ under.address;
  workspace = goes.workspace;
  few = omega (arith, few, under.few);
  count = enough_by d tnew wnew mnew new.parts new.request formed stepping.terms;
}

-- with a bit that was given
pub decided_under : (d : Description) (t : Table) (words : List Word) (m : Memory) (old new : Stepping) (value : Bool)
    → IsUnderway d t words m old → IsDecided d t words m old new value → IsUnderway d t words m new
decided_under d t words m old new value under decided = record {
  address = under.address;
  workspace = under.workspace;
  stepping = decided.stepping;
  few = omega (arith, decided.few, under.few);
}
