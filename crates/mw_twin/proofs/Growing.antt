-- What is known of twin starts stays as the runs of both programs go on.
use Rattle.std.proofs.Common.{◌≡◌, inl, inr, ℕ, ◌+◌, ◌<◌, List, ◌++◌, slice_index, ap, sym, subst, ◌∙◌}
use Rattle.std.specs.Prelude.{true, Some, None}
use Rattle.mw_board.specs.declared.parts.BoardParts.{BoardParts}
use Rattle.mw_board.specs.Elements.{element_count}
use Rattle.mw_cycle.specs.SteadySeries.{Series, Inputs, Line as LineOf, Noise, goes_by_cycle, kind_of}
use Rattle.mw_cycle.proofs.Named.{no_input}
use Rattle.mw_revise.specs.declared.keep.Block.{Block}
use Rattle.mw_revise.specs.declared.programs.Side.{Side}
use Rattle.mw_revise.specs.declared.programs.Side.TheVariants.{Old, New}
use Rattle.mw_revise.specs.Revision.{Revision}
use Rattle.mw_revise.specs.Sites.{address_on}
use Rattle.mw_revise.specs.TwinStart.{TwinStart}
use Rattle.mw_revise.specs.TwinWords.{memory_side}
use Rattle.mw_segment.specs.Segments.{IsRunKind}
use Rattle.mw_space.specs.Spaces.{IsSpaceOf}
use Rattle.mw_symboard.specs.Laws.{BeginsWith, Course}
use Rattle.mw_symboard.specs.Parts.{AreElements}
use Rattle.mw_symboard.specs.Paths.{IsOneOf}
use Rattle.mw_symboard.specs.Seen.{Progress}
use Rattle.mw_symboard.specs.Variables.{HaveVariables, IsKindOfOthers}
use Rattle.mw_symboard.proofs.Environments.{cycles_stay}
use Rattle.mw_symboard.proofs.Runs.{runs_fit_before}
use Rattle.mw_symboard.proofs.Standing.{found_stays}
use Rattle.mw_symboard.proofs.VariableWidths.{no_base}
use Rattle.mw_symmem.specs.Memory.{IsOfWidth}
use Rattle.mw_symmem.specs.Words.{HaveOwnKinds, IsVariable}
use Rattle.mw_symmem.specs.Workspace.{HaveKinds, IsLater, ReadsMore}
use Rattle.mw_symmem.proofs.Later.{width_later}
use Rattle.mw_symmem.proofs.Lists.{behind}
use Rattle.mw_term.specs.Assigned.{Given}
use Rattle.mw_term.specs.declared.decided.Decided.{Decided}
use Rattle.mw_term.specs.declared.kinds.WordKind.TheVariants.{BesideLine, Element, Line}
use Rattle.mw_term.specs.declared.side.Side.{Side as MemorySide}
use Rattle.mw_term.specs.declared.side.Side.TheVariants.{Board, Machine}
use Rattle.mw_term.specs.declared.word.Word.{Word}
use Rattle.mw_term.specs.Functions.{Function}
use Rattle.mw_term.specs.Table.{Table}
use Rattle.mw_term.specs.Values.{term_value}
use Rattle.mw_term.specs.WordList.{term_of, variable}
use Rattle.mw_twin.specs.Grounds.{StandsForTwins, course_on}
use Rattle.mw_twin.specs.Origins.{Ground, IsGround, line_for, origin_on, terms_on}
use Rattle.mw_twin.specs.TwinPaths.{IsOnWay, IsTwinPath}

-- Runs went on: terms, words and base reads were added behind those that there were, no two variables have one kind,
-- there is a number of cycles beyond those of all variables of both boards, and the new one has none for its first line.
pub record GoesTo (board : BoardParts) (old new : Ground) : Type 0 where
  pub later : IsLater old.table new.table
  pub more : List Word
  pub words : new.words ≡ old.words ++ more
  pub reads : ReadsMore old.memory new.memory
  pub space : IsSpaceOf board new.table new.words new.memory
  pub before : new.before ≡ old.before
  pub after : new.after ≡ old.after
  pub own : HaveOwnKinds new.words
  pub variables : (side : Side) → (cycles : ℕ) × HaveVariables (memory_side side) board new.table new.words cycles
  pub unlined : term_of new.words (BesideLine 0) ≡ None

-- ---- the variables of both boards

-- the lists that go by cycle have no variable on both sides
apart_sides : (a b : Series) (n m : ℕ) → goes_by_cycle a ≡ true → goes_by_cycle b ≡ true
    → kind_of Board a n ≡ kind_of Machine b m → ⊥
apart_sides Inputs b n m by other is = absurd cc
apart_sides LineOf Inputs n m by other is = absurd cc
apart_sides LineOf LineOf n m by other is = absurd cc
apart_sides LineOf Noise n m by other is = absurd cc
apart_sides Noise Inputs n m by other is = absurd cc
apart_sides Noise LineOf n m by other is = absurd cc
apart_sides Noise Noise n m by other is = absurd cc

-- the side of the other program
abbrev pub other : Side → Side
other Old = New
other New = Old

apart_on : (side : Side) (a b : Series) (n m : ℕ) → goes_by_cycle a ≡ true → goes_by_cycle b ≡ true
    → kind_of (memory_side side) a n ≡ kind_of (memory_side (other side)) b m → ⊥
apart_on Old a b n m by also is = apart_sides a b n m by also is
apart_on New a b n m by also is = apart_sides b a m n also by (sym is)

-- the board of one program makes no variable of the other's own
others_kinds : (side : Side) (from : Progress) (words : List Word) → from.side ≡ memory_side side
    → HaveKinds (IsRunKind from) words → HaveKinds (IsKindOfOthers (memory_side (other side))) words
others_kinds side from words same_side kinds place term kind is = λ series n by same.
    (elim (kinds place term kind is) [
      | inl h ↦ no_base (memory_side (other side)) series n h.0 (sym same ∙ h.1)
      | inr h ↦ elim h [
        | inl i ↦ no_input (memory_side (other side)) series n i.0 by (sym same ∙ i.1)
        | inr own ↦
            apart_on side own.0 series own.1 n own.2 by
            (ap (λ (s : MemorySide). kind_of s own.0 own.1) (sym same_side) ∙ sym own.5 ∙ same)
      ]
    ])

-- so the variables of the other one stay
pub others_stay : (side : Side) (from : Progress) (board : BoardParts) (told tnew : Table) (wold wnew more : List Word)
    (cycles own : ℕ) → from.side ≡ memory_side side → IsLater told tnew → wnew ≡ wold ++ more
    → HaveKinds (IsRunKind from) more
    → HaveVariables (memory_side side) board tnew wnew own
    → HaveVariables (memory_side (other side)) board told wold cycles
    → HaveVariables (memory_side (other side)) board tnew wnew cycles
others_stay side from board told tnew wold wnew more cycles own same later words kinds has have =
    cycles_stay (memory_side (other side)) board told tnew wold wnew more cycles later words
    (others_kinds side from more same kinds) (has.widths Inputs) have

-- ---- the line of the new board's first cycle

line_stays : (old new : Ground) (more : List Word) (term : ℕ) → new.words ≡ old.words ++ more
    → term_of old.words (Line 0) ≡ Some term → term_of new.words (Line 0) ≡ Some term
line_stays old new more term words is =
    ap (λ (ws : List Word). term_of ws (Line 0)) words ∙ found_stays old.words more (Line 0) term is

-- what begins with the term that is there now began with the one that was there before
line_before : (side : Side) (board : BoardParts) (old new : Ground) (more : List Word) (given : Given)
    (terms : List ℕ) (at sp : ℕ) (x : Course) → new.words ≡ old.words ++ more
    → BeginsWith board new.table given terms at sp (line_for side new) x
    → BeginsWith board new.table given terms at sp (line_for side old) x
line_before Old board old new more given terms at sp x words begins = begins
line_before New board old new more given terms at sp x words begins = record {
  fits = begins.fits;
  address = begins.address;
  depth = begins.depth;
  elements = begins.elements;
  memory = begins.memory;
  first_line = λ term there. begins.first_line term (line_stays old new more term words there);
}

-- ---- a twin start

module _ (revision : Revision) (block : Block) (old new : Ground) (goes : GoesTo revision.board old new)
    (ground : IsGround revision.board block old)
    (lined : (side : Side) (term : ℕ) → line_for side old ≡ Some term → IsOfWidth old.table 1 term) where
  same_terms : (side : Side) → terms_on side new ≡ terms_on side old
  same_terms Old = goes.before
  same_terms New = goes.after

  one_before : (side : Side) (given : Given) (x : Course)
      → IsOneOf revision.board new.table new.words new.memory (origin_on side block new) given x
      → IsOneOf revision.board old.table old.words old.memory (origin_on side block old) given x
  one_before side given x one =
      let before = runs_fit_before (memory_side side) revision.board old.table new.table old.words new.words goes.more
      old.memory new.memory given x ground.space.workspace goes.later goes.words goes.reads in
      let terms = terms_on side old in
      record {
        fits = before.0 one.fits;
        begins = before.1 terms (address_on side block) block.sp (line_for side old) (ground.wide side) (lined side)
            (line_before side revision.board old new goes.more given terms (address_on side block) block.sp x goes.words
            (subst (λ ts. BeginsWith revision.board new.table given ts (address_on side block) block.sp
            (line_for side new) x) (same_terms side) one.begins));
      }

  -- one of what the runs went on to was one before
  pub twins_before : (given : Given) (twins : TwinStart) → StandsForTwins revision block new given twins
      → StandsForTwins revision block old given twins
  twins_before given twins stands = record {
    starts = stands.starts;
    unwaiting = stands.unwaiting;
    boards = λ side. one_before side given (course_on side twins) (stands.boards side);
  }

  -- ---- the ground

  variable_later : (place n term : ℕ) → IsVariable old.words place term (Element n)
      → IsVariable new.words place term (Element n)
  variable_later place n term is =
      subst (λ ws. IsVariable ws place term (Element n)) (sym goes.words)
      (behind old.words goes.more place (variable term (Element n)) is)

  wide_later : (side : Side) → AreElements revision.board new.table (terms_on side new)
  wide_later side =
      subst (AreElements revision.board new.table) (sym (same_terms side))
      (λ n below. width_later old.table new.table _ _ goes.later (ground.wide side n below))

  value_later : (side : Side) (given : Given) (n : ℕ) → n < element_count revision.board
      → term_value new.table given (slice_index (terms_on side new) n)
      ≡ term_value old.table given (slice_index (terms_on side old) n)
  value_later side given n below =
      ap (λ ts. term_value new.table given (slice_index ts n)) (same_terms side)
      ∙ goes.later.keeps.values given (slice_index (terms_on side old) n) (ground.wide side n below).there

  pub ground_later : IsGround revision.board block new
  ground_later = record {
    space = goes.space;
    wide = wide_later;
    old_variable = λ n below loose.
        let own = ground.old_variable n below loose in (
          own.0,
          subst (λ ts. IsVariable new.words own.0 (slice_index ts n) (Element n)) (sym goes.before)
              (variable_later own.0 n (slice_index old.before n) own.1),
        );
    new_variable = λ n below loose.
        let own = ground.new_variable n below loose in
        let number = element_count revision.board + n in (
          own.0,
          subst (λ ts. IsVariable new.words own.0 (slice_index ts n) (Element number)) (sym goes.after)
              (variable_later own.0 number (slice_index old.after n) own.1),
        );
    kept = λ n element below about.
        ap (λ ts. slice_index ts n) goes.after ∙ ground.kept n element below about
        ∙ ap (λ ts. slice_index ts n) (sym goes.before);
    fixed = λ n element old_value new_value below about given.
        let are = ground.fixed n element old_value new_value below about given in
        (value_later Old given n below ∙ are.0, value_later New given n below ∙ are.1);
    variables = goes.variables;
    unlined = goes.unlined;
    own = goes.own;
  }

  -- ---- what holds on a path

  cases_later : (bits : List Decided) (path : Function) → IsTwinPath revision block old bits path
      → IsTwinPath revision block new bits path
  cases_later bits path cases = record {
    first = λ given twins stands. cases.first given twins (twins_before given twins stands);
    only = λ given twins stands. cases.only given twins (twins_before given twins stands);
  }

  pub way_later : (bits : List Decided) (path : Function) → IsOnWay revision block old bits path
      → IsOnWay revision block new bits path
  way_later bits path on = record {
    stands = ground_later;
    written = on.written;
    cases = cases_later bits path on.cases;
    feasible = on.feasible;
  }
