-- A state of a board whose elements have given values.
use Rattle.std.proofs.Common.{◌≡◌, ℕ, zero, suc, ◌+◌, ◌<◌, ◌≤◌, ◌^◌, List, length, refl, sym, ◌∙◌, subst, add-one}
use Rattle.std.proofs.Common.{inl, inr, arith}
use Rattle.std.specs.Prelude.{slice_index}
use Rattle.std.proofs.lemmas.Bool.{cases_lt}
use Rattle.mw_board.specs.declared.parts.BoardParts.{BoardParts}
use Rattle.mw_board.specs.Depth.{depth_of}
use Rattle.mw_board.specs.Elements.{element_count}
use Rattle.mw_cycle.specs.declared.elements.Element.{Element}
use Rattle.mw_cycle.specs.declared.elements.Element.TheVariants.{Register, Q, Mar, Ir, FlipFlop, Pc, R, StackWord}
use Rattle.mw_cycle.specs.Elements.{bits_of, element, element_of, value_of, with_value}
use Rattle.mw_cycle.specs.State.{BoardState, Fits, cleared}
use Rattle.mw_cycle.proofs.Fitting.{cleared_fits}
use Rattle.mw_cycle.proofs.Values.{apart, is_element, leaves, still_fits, takes}
use Rattle.mw_rel.specs.Completed.{standing}

-- some values are ones that the elements of a board can have, by their numbers
abbrev pub AreValues : BoardParts → (ℕ → ℕ) → Type 0
AreValues board values = (n : ℕ) → n < element_count board → values n < 2 ^ bits_of board (element_of board n)

-- a list is a memory of a board
pub record IsMemoryOf (board : BoardParts) (memory : List ℕ) : Type 0 where
  pub size : length memory ≡ 2 ^ board.address
  pub words : (i : ℕ) → slice_index memory i < 2 ^ board.width

-- ---- one element after another

-- a state that fits, in which the first elements have these values
record HasValues (board : BoardParts) (values : ℕ → ℕ) (n : ℕ) : Type 0 where
  state : BoardState
  fits : Fits board state
  set : (e : ℕ) → e < n → element board state e ≡ values e

one_more : (board : BoardParts) (values : ℕ → ℕ) (n : ℕ) → length board.flipflop ≤ 16 → n < element_count board
    → values n < 2 ^ bits_of board (element_of board n) → HasValues board values n → HasValues board values (n + 1)
one_more board values n few there below before =
    let e = element_of board n in
    let valid = is_element board n there in record {
      state = with_value before.state e (values n);
      fits = still_fits board before.state e (values n) before.fits valid below;
      set = λ other within. elim (cases_lt other n) [
        | inl earlier ↦
            leaves board before.state e (element_of board other) (values n) few valid
            (is_element board other (omega arith)) below (apart board other n (λ same. absurd (omega arith)))
            ∙ before.set other earlier
        | inr late ↦ (let same : other ≡ n = omega arith in
            subst (λ k. element board (with_value before.state e (values n)) k ≡ values k) (sym same)
            (takes board before.state e (values n) before.fits few valid below))
      ];
    }

first_values : (board : BoardParts) (values : ℕ → ℕ) (n : ℕ) → length board.flipflop ≤ 16 → n ≤ element_count board
    → AreValues board values → HasValues board values n
first_values board values zero few within each =
    record { state = cleared board; fits = cleared_fits board; set = λ e below. absurd (omega arith) }
first_values board values (suc n) few within each =
    subst (HasValues board values) (add-one n)
    (one_more board values n few (omega arith) (each n (omega arith))
    (first_values board values n few (omega arith) each))

-- ---- and where it stands

pub stands_same : (s : BoardState) (at sp : ℕ) (memory : List ℕ) (e : Element)
    → value_of (standing s at sp memory) e ≡ value_of s e
stands_same s at sp memory (Register n) = refl
stands_same s at sp memory Q = refl
stands_same s at sp memory Mar = refl
stands_same s at sp memory Ir = refl
stands_same s at sp memory (FlipFlop n) = refl
stands_same s at sp memory Pc = refl
stands_same s at sp memory R = refl
stands_same s at sp memory (StackWord n) = refl

pub standing_fits : (board : BoardParts) (s : BoardState) (at sp : ℕ) (memory : List ℕ) → Fits board s → at < 2 ^ 12
    → sp ≤ depth_of board → IsMemoryOf board memory → Fits board (standing s at sp memory)
standing_fits board s at sp memory fits address pointer image = record {
  at = address;
  sixteen = fits.sixteen;
  regs = fits.regs;
  q = fits.q;
  mar = fits.mar;
  ir = fits.ir;
  flips = fits.flips;
  seq = record {
    pc = fits.seq.pc;
    r = fits.seq.r;
    words = fits.seq.words;
    size = fits.seq.size;
    sp = pointer;
  };
  size = image.size;
  memory = image.words;
}

-- a state that fits, and stands at an address, with a stack pointer and a memory, whose elements have these values
pub record StateWith (board : BoardParts) (values : ℕ → ℕ) (at sp : ℕ) (memory : List ℕ) : Type 0 where
  pub state : BoardState
  pub fits : Fits board state
  pub at_is : state.at ≡ at
  pub sp_is : state.seq.sp ≡ sp
  pub memory_is : state.memory ≡ memory
  pub elements : (n : ℕ) → n < element_count board → element board state n ≡ values n

-- there is one
pub state_with : (board : BoardParts) (values : ℕ → ℕ) (at sp : ℕ) (memory : List ℕ) → length board.flipflop ≤ 16
    → AreValues board values → at < 2 ^ 12 → sp ≤ depth_of board → IsMemoryOf board memory
    → StateWith board values at sp memory
state_with board values at sp memory few each address pointer image =
    let all = first_values board values (element_count board) few (omega arith) each in record {
      state = standing all.state at sp memory;
      fits = standing_fits board all.state at sp memory all.fits address pointer image;
      at_is = refl;
      sp_is = refl;
      memory_is = refl;
      elements = λ n below. stands_same all.state at sp memory (element_of board n) ∙ all.set n below;
    }
