-- What terms stand for in a cycle: the nets of a board in a state, under every assignment and over every
-- image that fits.
use Rattle.std.specs.Prelude.{◌≡◌, ℕ, ◌<◌, ◌^◌, List, length, take, Option, Some, Bool}
use Rattle.std.specs.Option.{option_or}
use Rattle.mw_base.specs.Words.{differ, num}
use Rattle.mw_alu.specs.declared.answer.AluOut.{AluOut}
use Rattle.mw_board.specs.declared.bit.Bit.{Bit}
use Rattle.mw_board.specs.declared.parts.BoardParts.{BoardParts}
use Rattle.mw_board.specs.Store.{word_at}
use Rattle.mw_term.specs.declared.decided.Decided.{Decided}
use Rattle.mw_cycle.specs.declared.elements.Element.{Element}
use Rattle.mw_cycle.specs.declared.microword.Microword.{Microword}
use Rattle.mw_cycle.specs.Cycle.{d_of, answer_of, early_bit, bit_value, pass_of, next_address, direct_address}
use Rattle.mw_cycle.specs.Cycle.{state_after}
use Rattle.mw_cycle.specs.Decided.{decided_of}
use Rattle.mw_cycle.specs.Microword.{points_of}
use Rattle.mw_cycle.specs.declared.state.CycleIn.{CycleIn}
use Rattle.mw_cycle.specs.Elements.{IsElement, value_of}
use Rattle.mw_cycle.specs.State.{BoardState, Fits}
use Rattle.mw_cycle.specs.SteadySeries.{Line, Noise, kind_of}
use Rattle.mw_term.specs.declared.kinds.WordKind.TheVariants.{Input}
use Rattle.mw_term.specs.Assigned.{Given}
use Rattle.mw_term.specs.Table.{Table}
use Rattle.mw_term.specs.Values.{term_value}
use Rattle.mw_term.specs.declared.side.Side.{Side}
use Rattle.mw_term.specs.declared.word.Word.{Word}
use Rattle.mw_term.specs.WordList.{term_of}
use Rattle.mw_symmem.specs.Memory.{Memory, IsImage, IsOfWidth, FitImage, held_by}
use Rattle.mw_cycle.specs.BoardTerms.{Parts, term_of_part}

-- Where a symbolic board is: whose side of the memory it has, its control address and stack pointer, which are numbers, a
-- term for each element, how many cycles it has finished and how many inputs it has taken, the term of its cycle's line,
-- where that was there before the cycle, and the bits decided so far of the cycle that it is in.
pub record Progress : Type 0 where
  pub side : Side
  pub at : ℕ
  pub sp : ℕ
  pub parts : Parts
  pub cycle : ℕ
  pub taken : ℕ
  pub line : Option ℕ
  pub decided : List Decided

-- what a cycle has to do with: an image of the memory, a state, and the outside
pub record Scene : Type 0 where
  pub image : List ℕ
  pub state : BoardState
  pub outside : CycleIn

-- a state has the values of a symbolic board's parts
pub record IsStateOf (board : BoardParts) (t : Table) (given : Given) (m : Memory) (p : Progress) (image : List ℕ)
    (s : BoardState) : Type 0 where
  pub fits : Fits board s
  pub at : s.at ≡ p.at
  pub sp : s.seq.sp ≡ p.sp
  pub elements : (e : Element) → IsElement board e → value_of s e ≡ term_value t given (term_of_part p.parts e)
  pub memory : s.memory ≡ held_by t given m p.side image

-- the term of the line of its cycle: the one that was there before, or else that of a variable
abbrev pub line_term : List Word → Progress → Option ℕ
line_term words p = option_or p.line (term_of words (kind_of p.side Line p.cycle))

-- the outside of a cycle has the values of its line and of its variables, of those that are there
pub record IsOutside (board : BoardParts) (t : Table) (given : Given) (words : List Word) (p : Progress)
    (c : CycleIn) : Type 0 where
  pub line : (term : ℕ) → line_term words p ≡ Some term → term_value t given term ≡ num c.line
  pub noise : (term : ℕ) → term_of words (kind_of p.side Noise p.cycle) ≡ Some term → term_value t given term ≡ c.noise
  pub input : (term : ℕ) → term_of words (Input p.taken) ≡ Some term → term_value t given term ≡ c.input
  pub noise_below : c.noise < 2 ^ 14
  pub input_below : c.input < 2 ^ board.width

-- some decided bits are the first ones of a list
abbrev pub AreFirst : (first all : List Decided) → Type 0
AreFirst first all = take (length first) all ≡ first

-- Under an assignment, a cycle from this place is seen in this scene: its image is one that the base reads fit, its
-- state has the values of the parts, its outside those of the variables, and the bits decided so far are the first
-- ones of its own.
pub record IsSeen (board : BoardParts) (store : List ℕ) (t : Table) (words : List Word) (m : Memory) (p : Progress)
    (given : Given) (x : Scene) : Type 0 where
  pub image : IsImage m x.image
  pub fit : FitImage t given m.reads x.image
  pub state : IsStateOf board t given m p x.image x.state
  pub outside : IsOutside board t given words p x.outside
  pub first : AreFirst p.decided (decided_of board store x.state x.outside)

-- a term of so many bits has, in every scene in which the cycle is seen, the value of a net
pub record Says (board : BoardParts) (store : List ℕ) (t : Table) (words : List Word) (m : Memory) (p : Progress)
    (width term : ℕ) (net : Scene → ℕ) : Type 0 where
  pub wide : IsOfWidth t width term
  pub value : (given : Given) (x : Scene) → IsSeen board store t words m p given x → term_value t given term ≡ net x

-- ---- the nets of a scene

-- the microword of the place
abbrev pub microword_of : BoardParts → List ℕ → Progress → Microword
microword_of board store p = points_of board (word_at board store p.at)

-- D
abbrev pub d_net : BoardParts → List ℕ → Progress → Scene → ℕ
d_net board store p x = d_of board (microword_of board store p) x.state x.outside

-- the Am2901's answers
abbrev pub answer_net : BoardParts → List ℕ → Progress → Scene → AluOut
answer_net board store p x = answer_of board (microword_of board store p) x.state x.outside

-- a bit that stands before F is made
abbrev pub early_net : BoardParts → Bit → Scene → ℕ
early_net board bit x = num (early_bit board bit x.state x.outside)

-- a bit
abbrev pub bit_net : BoardParts → List ℕ → Progress → Bit → Scene → ℕ
bit_net board store p bit x = num (bit_value board bit (answer_net board store p x) x.state x.outside)

-- the condition, turned over where polarity is 1
abbrev pub condition_net : BoardParts → List ℕ → Progress → Scene → ℕ
condition_net board store p x =
    let m = microword_of board store p in
    num (differ m.polarity (bit_value board m.condition (answer_net board store p x) x.state x.outside))

-- whether the test passes
abbrev pub pass_net : BoardParts → List ℕ → Progress → Scene → Bool
pass_net board store p x = pass_of board (microword_of board store p) (answer_net board store p x) x.state x.outside

-- the next address
abbrev pub next_net : BoardParts → List ℕ → Progress → Scene → ℕ
next_net board store p x = next_address board (microword_of board store p) (pass_net board store p x) x.state x.outside

-- the address at the Am2910's D
abbrev pub direct_net : BoardParts → List ℕ → Progress → Scene → ℕ
direct_net board store p x = direct_address board (microword_of board store p) x.state

-- the state after the cycle
abbrev pub after_net : BoardParts → List ℕ → Scene → BoardState
after_net board store x = state_after board store x.state x.outside
