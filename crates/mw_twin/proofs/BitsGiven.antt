-- A course takes the bit that it waits for.
use Rattle.std.proofs.Common.{◌≡◌, ℕ, ◌<◌, List, [], ◌∷◌, ◌++◌, append_assoc, Bool, true, false, Option, Some, None, refl, sym}
use Rattle.std.proofs.Common.{ap, subst, ◌∙◌}
use Rattle.std.specs.Prelude.{not, ◌==◌, ◌&&◌}
use Rattle.std.specs.Cmp.{both_ways}
use Rattle.mw_cycle.specs.Decided.{decided}
use Rattle.mw_revise.specs.declared.programs.Side.TheVariants.{New, Old}
use Rattle.mw_segment.specs.Segments.{IsRunning}
use Rattle.mw_segment.specs.Programs.{Program}
use Rattle.mw_segment.proofs.Staying.{segments_take_bits}
use Rattle.mw_space.specs.declared.space.Space.{Space}
use Rattle.mw_symboard.specs.Paths.{IsBy}
use Rattle.mw_symboard.specs.Turns.{Asks, IsSymbolic, Symbolic, decided_so}
use Rattle.mw_term.specs.Cofactors.{Agree}
use Rattle.mw_term.specs.declared.decided.Decided.{Decided}
use Rattle.mw_term.specs.declared.decided.DecidedKind.{DecidedKind}
use Rattle.mw_term.specs.Functions.{Function}
use Rattle.mw_term.specs.Table.{Table}
use Rattle.mw_term.specs.Values.{term_value}
use Rattle.mw_course.specs.Courses.{HasTaken}
use Rattle.mw_twin.specs.Courses.{BitsGoOnCourse, BitsMakeReady, HasDecidedOn, IsGiven, IsOnCourse}
use Rattle.mw_twin.specs.Courses.{IsReadyIn, WaitsIn, WaitsOnCourse}
use Rattle.mw_twin.specs.declared.course.Course.{Course}
use Rattle.mw_twin.specs.OnTwins.{AsksInNew, AsksInOld, Behind, IsOnNew, IsOnOld}
use Rattle.mw_twin.specs.Programs.{program_on}
use Rattle.mw_twin.specs.Ready.{IsInNew, IsInOld}
use Rattle.mw_twin.specs.RevisedBlocks.{RevisedBlock}
use Rattle.mw_twin.specs.TwinPaths.{HasDecided}
use Rattle.mw_twin.specs.Origins.{ground_in, origin_on}
use Rattle.mw_twin.proofs.TwinCases.{both_true}

-- ---- a path by a bit

-- whether a bit has a value
is_value : (value bit : Bool) → Bool
is_value true bit = bit
is_value false bit = not bit

value_is : (value bit : Bool) → is_value value bit ≡ true → bit ≡ value
unfolding is_value
value_is true true is = refl
value_is true false is = absurd cc
value_is false true is = absurd cc
value_is false false is = refl

has_value : (value bit : Bool) → bit ≡ value → is_value value bit ≡ true
unfolding is_value
has_value true true is = refl
has_value true false is = absurd cc
has_value false true is = absurd cc
has_value false false is = refl

both_hold : (a b : Bool) → a ≡ true → b ≡ true → (a && b) ≡ true
both_hold true true one other = refl
both_hold true false one other = absurd cc
both_hold false b one other = absurd cc

-- where a path is true, and the term of a bit has this value
by_bit : Table → (term : ℕ) → (value : Bool) → Function → Function
by_bit t term value path = λ given. path given && is_value value (term_value t given term == 1)

by_is : (t : Table) (term : ℕ) (value : Bool) (path : Function) → IsBy t term value path (by_bit t term value path)
unfolding by_bit
by_is t term value path = record {
  so = λ given holds.
      let each = both_true (path given) (is_value value (term_value t given term == 1)) holds in
      (each.0, value_is value (term_value t given term == 1) each.1);
  only = λ given holds same. both_hold (path given) _ holds (has_value value (term_value t given term == 1) same);
}

-- a path that is two others goes on by a bit as one of them does
both_by : (t : Table) (term : ℕ) (value : Bool) (old along path next : Function)
    → Agree path (λ given. old given && along given) → IsBy t term value path next
    → Agree next (λ given. old given && by_bit t term value along given)
unfolding by_bit
both_by t term value old along path next both by given =
    let bit = term_value t given term == 1 in
    both_ways (next given) (old given && (along given && is_value value bit))
    (λ holds.
    let so = by.so given holds in
    let each = both_true (old given) (along given) (sym (both given) ∙ so.0) in
    both_hold (old given) _ each.0 (both_hold (along given) _ each.1 (has_value value bit so.1)))
    (λ holds.
    let outer = both_true (old given) (along given && is_value value bit) holds in
    let inner = both_true (along given) (is_value value bit) outer.1 in
    by.only given (both given ∙ both_hold (old given) (along given) outer.0 inner.0) (value_is value bit inner.1))

-- ---- where it stands

-- a board within its segment is there still
running_given : (program : Program) (space : Space) (o : Symbolic) (kind : DecidedKind) (value : Bool)
    → IsRunning program space o
    → IsSymbolic program.board program.store space.terms space.words space.memory (decided_so o kind value)
    → IsRunning program space (decided_so o kind value)
running_given program space o kind value running symbolic = record {
  space_of = running.space_of;
  symbolic = symbolic;
  taken = running.taken;
  lines = λ side.
      let lines = running.lines side in
      record { unlined = lines.unlined; begun = lines.begun; later = lines.later };
}

in_old_given : (s : RevisedBlock) (space : Space) (o now : Symbolic) (after : List ℕ) (kind : DecidedKind) (term : ℕ)
    (value : Bool) → IsInOld s space o after
    → Asks s.revision.board s.revision.before space.terms space.words space.memory o kind term → HasTaken value o now
    → IsInOld s space now after
in_old_given s space o now after kind term value is asks taken =
    let same = taken.new_is kind asks.asked in
    let symbolic = subst (IsSymbolic s.revision.board s.revision.before space.terms space.words space.memory) same
    (taken.symbolic s.revision.board s.revision.before space.terms space.words space.memory kind term asks
    is.running.symbolic) in
    subst (λ (b : Symbolic). IsInOld s space b after) (sym same) (record {
      revised = is.revised;
      running = running_given (program_on Old s.revision) space o kind value is.running symbolic;
      side = is.side;
      reads = is.reads;
      fresh = is.fresh;
      others = is.others;
      unwritten = is.unwritten;
      count = is.count;
      wide = is.wide;
    })

in_new_given : (s : RevisedBlock) (space : Space) (before o now : Symbolic) (kind : DecidedKind) (term : ℕ) (value : Bool)
    → IsInNew s space before o
    → Asks s.revision.board s.revision.after space.terms space.words space.memory o kind term → HasTaken value o now
    → IsInNew s space before now
in_new_given s space before o now kind term value is asks taken =
    let same = taken.new_is kind asks.asked in
    let symbolic = subst (IsSymbolic s.revision.board s.revision.after space.terms space.words space.memory) same
    (taken.symbolic s.revision.board s.revision.after space.terms space.words space.memory kind term asks
    is.running.symbolic) in
    subst (λ (b : Symbolic). IsInNew s space before b) (sym same) (record {
      revised = is.revised;
      running = running_given (program_on New s.revision) space o kind value is.running symbolic;
      side = is.side;
      lined = is.lined;
      reads = is.reads;
      fresh = is.fresh;
      others = is.others;
      first = is.first;
      old_side = is.old_side;
      old_parts = is.old_parts;
      old_events = is.old_events;
    })

-- it waits for no bit, in the same cycle
idle_given : (o now : Symbolic) (kind : DecidedKind) (value : Bool) (bound : ℕ) → now ≡ decided_so o kind value
    → o.place.cycle < bound → (now.asked ≡ None) × (now.place.cycle < bound)
idle_given o now kind value bound same below =
    subst (λ (b : Symbolic). (b.asked ≡ None) × (b.place.cycle < bound)) (sym same) (refl, below)

ready_by : (s : RevisedBlock) (old new : Course) (kind : DecidedKind) (term : ℕ) (value : Bool) (before after : Option Symbolic)
    → new.space ≡ old.space → new.new_elements.items ≡ old.new_elements.items → WaitsIn s old before kind term
    → IsGiven value old.old_board new.old_board before after → IsReadyIn s new after
ready_by s old new kind term value None after space elements waits given =
    let same = given.1.new_is kind waits.1.0.asked in
    let idle = idle_given old.old_board new.old_board kind value s.block.bound same waits.1.1 in
    let now = in_old_given s old.space old.old_board new.old_board old.new_elements.items kind term value waits.0 waits.1.0 given.1
    in
    subst (λ (o : Option Symbolic). IsReadyIn s new o) (sym given.0) (
      subst (λ (p : Space). IsInOld s p new.old_board new.new_elements.items) (sym space)
          (subst (λ (ts : List ℕ). IsInOld s old.space new.old_board ts) (sym elements) now),
      idle.0,
      idle.1,
    )
ready_by s old new kind term value (Some o) after space elements waits given =
    let same = given.3.new_is kind waits.1.0.asked in
    let idle = idle_given o given.0 kind value s.block.bound same waits.1.1 in
    let now = in_new_given s old.space old.old_board o given.0 kind term value waits.0 waits.1.0 given.3 in
    subst (λ (there : Option Symbolic). IsReadyIn s new there) (sym given.1) (
      subst (λ (p : Space). IsInNew s p new.old_board given.0) (sym space)
          (subst (λ (b : Symbolic). IsInNew s old.space b given.0) (sym given.2) now),
      idle.0,
      idle.1,
    )

pub bits_make_ready : BitsMakeReady
bits_make_ready s old new kind term value waits to =
    ready_by s old new kind term value old.new_board new.new_board to.space to.new_elements waits to.given

-- ---- on its way

-- through the old segment
on_old_given : (s : RevisedBlock) (space : Space) (before elements : List ℕ) (o : Symbolic) (bits : List Decided)
    (path next : Function) (kind : DecidedKind) (term : ℕ) (value : Bool)
    → AsksInOld s.revision s.block space before elements o bits path kind term
    → HasDecided s.revision s.block (ground_in space before elements) bits path next kind term value
    → IsOnOld s.revision s.block space before elements (decided_so o kind value) (bits ++ decided kind value ∷ []) next
on_old_given s space before elements o bits path next kind term value asks has = record {
  on = has.on;
  run = segments_take_bits (program_on Old s.revision) space (origin_on Old s.block (ground_in space before elements)) o
      bits kind term value path next asks.on.run asks.bit has.by;
  begins = asks.on.begins;
  unwritten = asks.on.unwritten;
  listed = λ idle. asks.left value;
}

-- through the new one
on_new_given : (s : RevisedBlock) (space : Space) (before elements : List ℕ) (b : Behind) (o : Symbolic) (bits : List Decided)
    (path next : Function) (kind : DecidedKind) (term : ℕ) (value : Bool)
    → AsksInNew s.revision s.block space before elements b o bits path kind term
    → HasDecided s.revision s.block (ground_in space before elements) bits path next kind term value
    → IsOnNew s.revision s.block space before elements b (decided_so o kind value) (bits ++ decided kind value ∷ []) next
on_new_given s space before elements b o bits path next kind term value asks has =
    let on = asks.on in
    let d = decided kind value in
    record {
      on = has.on;
      behind = on.behind;
      own = on.own ++ d ∷ [];
      met = ap (λ ds. ds ++ d ∷ []) on.met ∙ append_assoc b.bits on.own (d ∷ []);
      along = by_bit space.terms term value on.along;
      both = both_by space.terms term value b.path on.along path next on.both has.by;
      run = segments_take_bits (program_on New s.revision) space
          (origin_on New s.block (ground_in space before elements)) o on.own kind term value on.along
          (by_bit space.terms term value on.along) on.run asks.bit (by_is space.terms term value on.along);
      listed = λ idle. asks.left value;
    }

on_by : (s : RevisedBlock) (bits : List Decided) (path next : Function) (old new : Course) (kind : DecidedKind) (term : ℕ)
    (value : Bool) (there after : Option Symbolic) → new.space ≡ old.space
    → new.old_elements.items ≡ old.old_elements.items → new.new_elements.items ≡ old.new_elements.items
    → WaitsIn s old there kind term → WaitsOnCourse s bits path old there kind term
    → IsGiven value old.old_board new.old_board there after → HasDecidedOn s bits path next old kind term value
    → IsOnCourse s (bits ++ decided kind value ∷ []) next new after
on_by s bits path next old new kind term value None after space old_elements new_elements waits asks given has =
    let same = given.1.new_is kind waits.1.0.asked in
    let on = on_old_given s old.space old.old_elements.items old.new_elements.items old.old_board bits path next kind term
    value asks has in
    rw (given.0, space, old_elements, new_elements, same) on
on_by s bits path next old new kind term value (Some o) after space old_elements new_elements waits asks given has =
    let same = given.3.new_is kind waits.1.0.asked in
    let on = on_new_given s old.space old.old_elements.items old.new_elements.items asks.0 o bits path next kind term
    value asks.2 has in
    rw (given.1, given.2, space, old_elements, new_elements, same) (asks.0, asks.1, on)

pub bits_go_on_course : BitsGoOnCourse
bits_go_on_course s bits path next old new kind term value waits asks to has =
    on_by s bits path next old new kind term value old.new_board new.new_board to.space to.old_elements to.new_elements
    waits asks to.given has
