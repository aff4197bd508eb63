-- The law of revisions on two that are worked: one that agrees, and one that doesn't.
use Rattle.std.proofs.Common.{◌≡◌, ℕ, zero, suc, ◌+◌, ◌<◌, ◌≤◌, ◌^◌, List, [], ◌∷◌, Bool, true, false, ◌||◌, ◌==◌, find}
use Rattle.std.proofs.Common.{Some, None, refl, sym, ap, ◌∙◌, subst, arith, lit<, lit≤}
use Rattle.std.specs.Prelude.{All, replicate, slice_get, slice_index}
use Rattle.std.specs.Option.{option_to_list}
use Rattle.std.proofs.lemmas.Bool.{eq-eqb}
use Rattle.std.proofs.lemmas.Nat.{pow_pos}
use Rattle.std.proofs.lemmas.List.Elements.{All-nil, All-cons, All-head, All-replicate, All-tail}
use Rattle.mw_board.specs.Examples.{small_board}
use Rattle.mw_board.specs.Valid.{IsBoard}
use Rattle.mw_board.proofs.Valid.{is_board}
use Rattle.mw_cycle.specs.Boundary.{is_named}
use Rattle.mw_cycle.specs.Cycle.{state_after, nets_of}
use Rattle.mw_cycle.specs.State.{BoardState, Fits}
use Rattle.mw_cycle.specs.declared.state.CycleIn.{CycleIn}
use Rattle.mw_cycle.proofs.OnLiterals.{cycle_on_literals}
use Rattle.mw_cycle.specs.Boundary.{first_segment}
use Rattle.mw_cycle.specs.Environment.{IsEnvironment, values_of}
use Rattle.mw_cycle.specs.declared.series.Series.{Series}
use Rattle.mw_cycle.specs.declared.series.Series.TheVariants.{Inputs, Line, Noise, Wait}
use Rattle.mw_cycle.specs.Series.{width_of}
use Rattle.mw_cycle.proofs.Lists.{bits_below}
use Rattle.mw_ready.proofs.OnLiterals.{waits_on_literals}
use Rattle.mw_revise.specs.declared.difference.TwinDifference.TheVariants as differences
use Rattle.mw_revise.specs.declared.keep.Block.{Block}
use Rattle.mw_revise.specs.declared.keep.KeepLine.{KeepLine}
use Rattle.mw_revise.specs.declared.keep.KeepLine.TheVariants.{Equal, Fixed}
use Rattle.mw_revise.specs.declared.programs.Side.{Side}
use Rattle.mw_revise.specs.declared.programs.Side.TheVariants.{Old, New}
use Rattle.mw_revise.specs.Agreement.{Agreement}
use Rattle.mw_revise.specs.Examples.{eights_with, nothing, ors, register_block, register_lines, small_revision}
use Rattle.mw_revise.specs.Examples.{small_twins, state_at, staying, with_inputs, with_lines}
use Rattle.mw_revise.specs.Laws.{AreSame, NoTwinDiffers}
use Rattle.mw_revise.specs.Revision.{AreApart, IsRevision}
use Rattle.mw_revise.specs.Together.{Holds, StandTogether}
use Rattle.mw_revise.specs.TwinDiffers.{TwinDiffers}
use Rattle.mw_revise.specs.TwinStart.{ProgramStart, TwinStart, AreTwins, IsTwinStart, start_on}
use Rattle.mw_revise.proofs.Agreeing.{agree_where_none_differs}
use Rattle.mw_revise.proofs.OnLiterals.{revisions_on_literals, rules_on_literals}
use Rattle.mw_revise.proofs.ProgramRuns.{run, fits, first_given, one_cycle_state, one_cycle_events, segment_is}
use Rattle.mw_revise.proofs.Same.{none_where_same}

-- ---- the board and the boundary

small_is_board : IsBoard small_board
unfolding waits_on_literals rules_on_literals
small_is_board = is_board small_board refl

only_block : (bound n : ℕ) (block : Block) → slice_get (register_block bound ∷ []) n ≡ Some block
    → register_block bound ≡ block
only_block bound zero block at = cc
only_block bound (suc n) block at = cc

apart : (bound : ℕ) (side : Side) → AreApart side (register_block bound ∷ [])
apart bound Old n block at = subst (λ (b : Block). find (λ (other : Block). other.before == b.before)
    (register_block bound ∷ []) ≡ Some b) (only_block bound n block at) refl
apart bound New n block at = subst (λ (b : Block). find (λ (other : Block). other.after == b.after)
    (register_block bound ∷ []) ≡ Some b) (only_block bound n block at) refl

-- ---- programs that stay where they are

-- a cycle that goes to an address, changes no register, no stack pointer and no memory, and is seen by nobody
record Stays (store : List ℕ) (address : ℕ) (s : BoardState) (given : CycleIn) : Type 0 where
  at : (state_after small_board store s given).at ≡ address
  pc : (state_after small_board store s given).seq.pc ≡ address + 1
  sp : (state_after small_board store s given).seq.sp ≡ s.seq.sp
  regs : (state_after small_board store s given).regs ≡ s.regs
  memory : (state_after small_board store s given).memory ≡ s.memory
  event : (nets_of small_board store s given).event ≡ None

-- a state at its address
at_address : (s : BoardState) (address : ℕ) → s.at ≡ address → record s { at = address } ≡ s
at_address s address is = ap (λ (n : ℕ). let other : BoardState = record s { at = n } in other) (sym is)

old_stays_there : (s : BoardState) (given : CycleIn) → Stays staying.before 0 (record s { at = 0 }) given
unfolding cycle_on_literals waits_on_literals
old_stays_there s given =
    record { at = refl; pc = refl; sp = refl; regs = refl; memory = refl; event = refl }

old_stays : (s : BoardState) (given : CycleIn) → s.at ≡ 0 → Stays staying.before 0 s given
old_stays s given is =
    subst (λ (other : BoardState). Stays staying.before 0 other given) (at_address s 0 is) (old_stays_there s given)

new_stays_there : (s : BoardState) (given : CycleIn) → Stays staying.after 4 (record s { at = 4 }) given
unfolding cycle_on_literals waits_on_literals
new_stays_there s given =
    record { at = refl; pc = refl; sp = refl; regs = refl; memory = refl; event = refl }

new_stays : (s : BoardState) (given : CycleIn) → s.at ≡ 4 → Stays staying.after 4 s given
new_stays s given is =
    subst (λ (other : BoardState). Stays staying.after 4 other given) (at_address s 4 is) (new_stays_there s given)

-- the first segment of such a program has one cycle
ends : (store : List ℕ) (address : ℕ) (start : ProgramStart)
    → Stays store address start.state (first_given small_board store start)
    → first_segment small_board store start.env start.state (address ∷ []) 1
    ≡ Some (run small_board store start 1)
ends store address start stays =
    segment_is small_board store start (address ∷ []) 1 1 (record {
      later = omega arith;
      named = ap (is_named (address ∷ [])) (ap (λ s. s.at) (one_cycle_state small_board store start) ∙ stays.at)
          ∙ ap (λ same. same || false) (eq-eqb address address refl);
      least = λ e after before. absurd (omega arith);
    }) (omega arith)

-- ---- no twin start of theirs differs

staying_is : IsRevision staying
staying_is = record { board = small_is_board; apart = apart 1 }

-- the lines hold on where both states keep their registers, and are behind their jumps
lines_hold : (old_state new_state old_next new_next : BoardState) → old_next.seq.pc ≡ 1 → new_next.seq.pc ≡ 5
    → old_next.regs ≡ old_state.regs → new_next.regs ≡ new_state.regs
    → All (Holds small_board old_state new_state) register_lines
    → All (Holds small_board old_next new_next) register_lines
unfolding waits_on_literals revisions_on_literals
lines_hold old_state new_state old_next new_next old_pc new_pc old_regs new_regs lines =
    let before = Holds small_board old_state new_state in
    let now = Holds small_board old_next new_next in
    let registers = All-tail before (Fixed 19 1 5) (Equal 0 ∷ Equal 1 ∷ []) lines in
    let same : (n : ℕ) → slice_index old_state.regs n ≡ slice_index new_state.regs n
    → slice_index old_next.regs n ≡ slice_index new_next.regs n =
    λ n kept. ap (λ regs. slice_index regs n) old_regs ∙ kept ∙ sym (ap (λ regs. slice_index regs n) new_regs) in
    All-cons now (Fixed 19 1 5) (Equal 0 ∷ Equal 1 ∷ []) (old_pc, new_pc)
    (All-cons now (Equal 0) (Equal 1 ∷ []) (same 0 (All-head before (Equal 0) (Equal 1 ∷ []) registers))
    (All-cons now (Equal 1) [] (same 1 (All-head before (Equal 1) []
    (All-tail before (Equal 0) (Equal 1 ∷ []) registers))) (All-nil now)))

staying_same : (twins : TwinStart) → register_block 1 ≡ twins.block → AreTwins staying twins → AreSame staying twins
staying_same twins is are =
    let block : twins.block ≡ register_block 1 = sym is in
    let together : StandTogether small_board (register_block 1) twins.before.state twins.after.state =
    subst (λ (b : Block). StandTogether small_board b twins.before.state twins.after.state) block are.together in
    let old_given = first_given small_board staying.before twins.before in
    let new_given = first_given small_board staying.after twins.after in
    let old_stay = old_stays twins.before.state old_given together.old_at in
    let new_stay = new_stays twins.after.state new_given together.new_at in
    let old_state = one_cycle_state small_board staying.before twins.before in
    let new_state = one_cycle_state small_board staying.after twins.after in
    let old_within = λ (limit : ℕ). first_segment small_board staying.before twins.before.env
    twins.before.state (0 ∷ []) limit in
    let new_within = λ (limit : ℕ). first_segment small_board staying.after twins.after.env
    twins.after.state (4 ∷ []) limit in
    record {
      old_run = run small_board staying.before twins.before 1;
      new_run = run small_board staying.after twins.after 1;
      reached = register_block 1;
      old_segment = ap (λ (b : Block). old_within b.bound) block ∙ ends staying.before 0 twins.before old_stay;
      new_segment = ap (λ (b : Block). new_within b.bound) block ∙ ends staying.after 4 twins.after new_stay;
      there = (0, refl);
      together = record {
        old_fits = fits small_board staying.before twins.before 1 small_is_board (are.environments Old)
            together.old_fits;
        new_fits = fits small_board staying.after twins.after 1 small_is_board (are.environments New)
            together.new_fits;
        old_at = ap (λ s. s.at) old_state ∙ old_stay.at;
        new_at = ap (λ s. s.at) new_state ∙ new_stay.at;
        old_sp = ap (λ s. s.seq.sp) old_state ∙ old_stay.sp ∙ together.old_sp;
        new_sp = ap (λ s. s.seq.sp) new_state ∙ new_stay.sp ∙ together.new_sp;
        lines = lines_hold twins.before.state twins.after.state
            (run small_board staying.before twins.before 1).state (run small_board staying.after twins.after 1).state
            (ap (λ s. s.seq.pc) old_state ∙ old_stay.pc) (ap (λ s. s.seq.pc) new_state ∙ new_stay.pc)
            (ap (λ s. s.regs) old_state ∙ old_stay.regs) (ap (λ s. s.regs) new_state ∙ new_stay.regs) together.lines;
        memory = ap (λ s. s.memory) old_state ∙ old_stay.memory ∙ together.memory
            ∙ sym (ap (λ s. s.memory) new_state ∙ new_stay.memory);
      };
      events = one_cycle_events small_board staying.before twins.before
          ∙ ap option_to_list (old_stay.event ∙ sym new_stay.event)
          ∙ sym (one_cycle_events small_board staying.after twins.after);
    }

none_differs : NoTwinDiffers staying
none_differs twins difference differs =
    let are = differs.begins.are in
    let block = only_block 1 are.block.0 twins.block are.block.1 in
    let none = none_where_same staying twins staying_is (staying_same twins block are) in
    let shown = differs.shows in
    cc

pub staying_agrees : Agreement staying
staying_agrees = (agree_where_none_differs staying staying_is).1 none_differs

-- ---- a twin start that differs

ors_is : IsRevision (small_revision ors)
ors_is = record { board = small_is_board; apart = apart 2 }

below : (xs : List ℕ) (bound : ℕ) → 0 < bound → All (λ x. x < bound) xs → (i : ℕ) → slice_index xs i < bound
below [] bound some all i = some
below (x ∷ rest) bound some all zero = All-head (λ x. x < bound) x rest all
below (x ∷ rest) bound some all (suc i) = below rest bound some (All-tail (λ x. x < bound) x rest all) i

-- with 8 in the first two registers the sum is 0 and the or is 8
abbrev eights : List ℕ
eights = 8 ∷ 8 ∷ replicate 14 0

eights_below : (i : ℕ) → slice_index eights i < 2 ^ 4
eights_below = below eights (2 ^ 4) (lit< tt) (All-cons (λ x. x < 2 ^ 4) 8 (8 ∷ replicate 14 0) (lit< tt)
    (All-cons (λ x. x < 2 ^ 4) 8 (replicate 14 0) (lit< tt) (All-replicate (λ x. x < 2 ^ 4) 14 0 (lit< tt))))

eights_fit : (at pc : ℕ) → at < 2 ^ 12 → pc < 2 ^ 12 → Fits small_board (state_at at pc (8 ∷ 8 ∷ []))
unfolding waits_on_literals rules_on_literals
eights_fit at pc at_below pc_below = record {
  at = at_below;
  sixteen = refl;
  regs = eights_below;
  q = lit< tt;
  mar = lit< tt;
  ir = lit< tt;
  flips = lit< tt;
  seq = record {
    pc = pc_below;
    r = lit< tt;
    words = below (replicate 5 0) (2 ^ 12) (lit< tt) (All-replicate (λ x. x < 2 ^ 12) 5 0 (lit< tt));
    size = refl;
    sp = lit≤ tt;
  };
  size = refl;
  memory = below (replicate 16 0) (2 ^ 4) (lit< tt) (All-replicate (λ x. x < 2 ^ 4) 16 0 (lit< tt));
}

-- an environment of lines alone is one
lines_below : (lines : List Bool) (series : Series) (i : ℕ)
    → slice_index (values_of (with_lines lines) series) i < 2 ^ width_of small_board.width series
lines_below lines Inputs i = pow_pos small_board.width
lines_below lines Line i = bits_below lines i
lines_below lines Noise i = lit< tt
lines_below lines Wait i = lit< tt

lines_are : (lines : List Bool) → IsEnvironment small_board (with_lines lines)
lines_are lines = record { values = lines_below lines }

-- so is one of nothing
nothing_is : IsEnvironment small_board nothing
nothing_is = lines_are []

nothing_on : (side : Side) → IsEnvironment small_board (start_on side (small_twins (8 ∷ 8 ∷ []))).env
nothing_on Old = nothing_is
nothing_on New = nothing_is

eights_together : StandTogether small_board (register_block 2) (state_at 0 1 (8 ∷ 8 ∷ [])) (state_at 4 5 (8 ∷ 8 ∷ []))
unfolding waits_on_literals revisions_on_literals
eights_together = record {
  old_fits = eights_fit 0 1 (lit< tt) (lit< tt);
  new_fits = eights_fit 4 5 (lit< tt) (lit< tt);
  old_at = refl;
  new_at = refl;
  old_sp = refl;
  new_sp = refl;
  lines = lines_of_eights;
  memory = refl;
}
  where
    now : KeepLine → Type 0
    now = Holds small_board (state_at 0 1 (8 ∷ 8 ∷ [])) (state_at 4 5 (8 ∷ 8 ∷ []))

    lines_of_eights : All now register_lines
    lines_of_eights = All-cons now (Fixed 19 1 5) (Equal 0 ∷ Equal 1 ∷ []) (refl, refl)
        (All-cons now (Equal 0) (Equal 1 ∷ []) refl (All-cons now (Equal 1) [] refl (All-nil now)))

eights_start : IsTwinStart (small_revision ors) (small_twins (8 ∷ 8 ∷ []))
unfolding cycle_on_literals waits_on_literals
eights_start = record {
  are = record {
    block = (0, refl);
    together = eights_together;
    environments = nothing_on;
    inputs = refl;
  };
  line = refl;
}

eights_differ : TwinDiffers (small_revision ors) (small_twins (8 ∷ 8 ∷ [])) (differences.Element 0)
unfolding cycle_on_literals waits_on_literals revisions_on_literals
eights_differ = record { begins = eights_start; shows = refl }

pub ors_disagree : ¬ Agreement (small_revision ors)
ors_disagree agreement =
    (agree_where_none_differs (small_revision ors) ors_is).0 agreement (small_twins (8 ∷ 8 ∷ []))
    (differences.Element 0) eights_differ

-- ---- what twin starts share

lines_on : (old_lines new_lines : List Bool) (side : Side)
    → IsEnvironment small_board (start_on side (eights_with (with_lines old_lines) (with_lines new_lines))).env
lines_on old_lines new_lines Old = lines_are old_lines
lines_on old_lines new_lines New = lines_are new_lines

-- another line in a later cycle
pub later_lines : IsTwinStart (small_revision ors)
    (eights_with (with_lines (true ∷ true ∷ [])) (with_lines (true ∷ false ∷ [])))
unfolding cycle_on_literals waits_on_literals
later_lines = record {
  are = record {
    block = (0, refl);
    together = eights_together;
    environments = lines_on (true ∷ true ∷ []) (true ∷ false ∷ []);
    inputs = refl;
  };
  line = refl;
}

true_is_false : true ≡ false → ⊥
true_is_false same = cc

-- another line in the first cycle
pub first_lines : ¬ IsTwinStart (small_revision ors) (eights_with (with_lines (true ∷ [])) nothing)
unfolding cycle_on_literals waits_on_literals
first_lines begins = true_is_false begins.line

same_inputs : (one two : List ℕ) → one ≡ 1 ∷ [] → two ≡ 2 ∷ [] → one ≡ two → ⊥
same_inputs one two first second same = cc

-- other inputs
pub other_inputs : ¬ AreTwins (small_revision ors) (eights_with (with_inputs (1 ∷ [])) (with_inputs (2 ∷ [])))
other_inputs are = same_inputs (1 ∷ []) (2 ∷ []) refl refl are.inputs
