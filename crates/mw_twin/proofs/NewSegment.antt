-- Where the new program's segment comes to.
use Rattle.std.proofs.Common.{◌≡◌, ℕ, ◌+◌, ◌-◌, ◌≤◌, List, [], ◌++◌, append-nil, length, Bool, Option}
use Rattle.std.proofs.Common.{Some, None, refl, sym, ap, subst, ◌∙◌, arith}
use Rattle.mw_course.proofs.Growing.{none_later}
use Rattle.mw_cycle.specs.Decided.{decided}
use Rattle.mw_cycle.specs.SegmentWords.{Segment, ended_by}
use Rattle.mw_cycle.specs.SegmentWords.SegmentEnd.{passes, reaches, wants}
use Rattle.mw_rel.specs.CaseWords.{bit_values}
use Rattle.mw_revise.specs.declared.programs.Side.TheVariants.{New, Old}
use Rattle.mw_segment.specs.declared.cycles.Came.{Came}
use Rattle.mw_segment.specs.declared.cycles.Came.TheVariants.{Asks, Reached, Late}
use Rattle.mw_segment.specs.Left.{ComesAlong, IsAlongSegment, standing_on}
use Rattle.mw_segment.specs.Segments.{ComesOnPath, HasCome, IsOnSegment, IsRunKind, IsRunning}
use Rattle.mw_segment.proofs.FirstLines.{line_later}
use Rattle.mw_segment.proofs.Staying.{ends_stay}
use Rattle.mw_space.specs.declared.space.Space.{Space}
use Rattle.mw_space.specs.Spaces.{list_of_space}
use Rattle.mw_symboard.specs.Along.{standing_in}
use Rattle.mw_symboard.specs.Paths.{Origin}
use Rattle.mw_symboard.specs.Turns.{Symbolic, decided_so, other_side, reads_to_come}
use Rattle.mw_symboard.proofs.Standing.{found_stays, parts_stay}
use Rattle.mw_symboard.proofs.Staying.{events_stay}
use Rattle.mw_symmem.specs.Memory.{writes_of}
use Rattle.mw_symmem.specs.Workspace.{GoesOn}
use Rattle.mw_term.specs.declared.decided.Decided.{Decided}
use Rattle.mw_term.specs.declared.kinds.WordKind.TheVariants.{Line, Probe}
use Rattle.mw_term.specs.declared.side.Side.{Side}
use Rattle.mw_term.specs.declared.side.Side.TheVariants.{Board, Machine}
use Rattle.mw_term.specs.declared.word.Word.{Word}
use Rattle.mw_term.specs.Functions.{Function}
use Rattle.mw_term.specs.MemoryRead.{Held}
use Rattle.mw_term.specs.WordList.{WordList, term_of}
use Rattle.mw_twin.specs.Comes.{ComesInNew}
use Rattle.mw_twin.specs.OnTwins.{Behind, IsBehind, IsOnNew, behind_words, new_words}
use Rattle.mw_twin.specs.Origins.{ground_in, origin_on}
use Rattle.mw_twin.specs.Programs.{program_on}
use Rattle.mw_twin.specs.Ready.{IsInNew}
use Rattle.mw_twin.specs.RevisedBlocks.{RevisedBlock}
use Rattle.mw_twin.proofs.BothGrow.{line_wide, no_probe, own_variables}
use Rattle.mw_twin.proofs.CaseWords.{new_asks, new_passes, new_reaches, new_terms}
use Rattle.mw_twin.proofs.Growing.{GoesTo, others_stay, way_later}
use Rattle.mw_twin.proofs.OldSegment.{along_with}
use Rattle.mw_twin.proofs.TwinCases.{both_case, next_of_new}

-- what the old program's board has written stays
pub written_still : (old new : Space) (side : Side) → side ≡ Machine
    → writes_of new.memory (other_side side) ≡ writes_of old.memory (other_side side)
    → writes_of new.memory Board ≡ writes_of old.memory Board
written_still old new side same writes =
    subst (λ (s : Side). writes_of new.memory (other_side s) ≡ writes_of old.memory (other_side s)) same writes

-- the line of the first cycle was there before
lined_still : (o now : Symbolic) → o.place.cycle ≤ now.place.cycle
    → (now.place.cycle ≡ o.place.cycle → now.place.line ≡ o.place.line)
    → (o.place.cycle ≡ 0 → (term : ℕ) × (o.place.line ≡ Some term)) → now.place.cycle ≡ 0
    → (term : ℕ) × (now.place.line ≡ Some term)
lined_still o now later line lined none =
    let before : o.place.cycle ≡ 0 = omega (arith, later, none) in
    let there = lined before in
    (there.0, line (none ∙ sym before) ∙ there.1)

-- the new program's board is in its segment still
pub in_new_still : (s : RevisedBlock) (old new : Space) (before o now : Symbolic) → IsInNew s old before o
    → IsRunning (program_on New s.revision) new now
    → GoesOn (IsRunKind o.place) old.terms new.terms old.words new.words old.memory new.memory
    → now.place.side ≡ o.place.side → (now.place.cycle ≡ o.place.cycle → now.place.line ≡ o.place.line)
    → o.place.cycle ≤ now.place.cycle
    → length new.memory.reads + reads_to_come now
    ≤ length old.memory.reads + reads_to_come o + (now.place.cycle - o.place.cycle)
    → IsInNew s new before now
in_new_still s old new before o now is running goes side line later reads =
    let board = s.revision.board in
    let own = own_variables Machine board s.revision.after new now running.symbolic (side ∙ is.side) in
    record {
      revised = is.revised;
      running = running;
      side = side ∙ is.side;
      lined = lined_still o now later line is.lined;
      reads = omega (arith, is.reads, reads, later);
      fresh = none_later (IsRunKind o.place) old.words new.words goes.more Probe goes.words goes.kinds
          (no_probe o.place) is.fresh;
      others = (
        is.others.0,
        others_stay New o.place board old.terms new.terms old.words new.words goes.more is.others.0 own.0 is.side
            goes.later goes.words goes.kinds own.1 is.others.1,
      );
      first = line_later old.terms new.terms old.words new.words goes.more goes.later goes.words is.first;
      old_side = is.old_side;
      old_parts = parts_stay board old.terms new.terms before.place.parts goes.later.extends goes.later.keeps
          is.old_parts;
      old_events = events_stay board old.terms new.terms before.events goes.later is.old_events;
    }

-- ---- what is behind it

-- the old segment's words end where its board stands
listed_still : (old new : Space) (before : Symbolic) (l : Segment) (further : List Bool)
    (list : WordList) → before.place.side ≡ Board → writes_of new.memory Board ≡ writes_of old.memory Board
    → l ≡ ended_by reaches (standing_on old before) further list
    → l ≡ ended_by reaches (standing_on new before) further list
listed_still old new before l further list side writes is =
    let same : writes_of old.memory before.place.side ≡ writes_of new.memory before.place.side =
    ap (writes_of old.memory) side ∙ sym writes ∙ ap (writes_of new.memory) (sym side) in
    is ∙ ap (λ (ws : List Held). ended_by reaches (standing_in before ws) further list) same

-- the old segment has ended still
pub behind_still : (s : RevisedBlock) (old new : Space) (before after : List ℕ) (b : Behind) (o : Symbolic)
    → IsInNew s old b.board o
    → GoesOn (IsRunKind o.place) old.terms new.terms old.words new.words old.memory new.memory
    → writes_of new.memory Board ≡ writes_of old.memory Board
    → IsBehind s.revision s.block old before after b → IsBehind s.revision s.block new before after b
behind_still s old new before after b o is goes writes behind = record {
  ended = ends_stay (program_on Old s.revision) s.block.bound old new goes.more
      (origin_on Old s.block (ground_in old before after)) b.board b.bits b.path (Some b.board.place.cycle)
      is.running.space_of.workspace goes.later goes.words goes.reads writes is.old_parts is.old_events behind.ended;
  begins = behind.begins;
  listed = λ further.
      listed_still old new b.board _ further b.list is.old_side writes (behind.listed further);
}

-- ---- what it begins with

-- it begins with the same, as the line of its first cycle is there already
same_origin : (s : RevisedBlock) (old new : Space) (before after : List ℕ) (more : List Word) (line : ℕ)
    → new.words ≡ old.words ++ more → term_of old.words (Line 0) ≡ Some line
    → origin_on New s.block (ground_in old before after) ≡ origin_on New s.block (ground_in new before after)
same_origin s old new before after more line words there =
    let now : term_of new.words (Line 0) ≡ Some line =
    ap (λ ws. term_of ws (Line 0)) words ∙ found_stays old.words more (Line 0) line there in
    ap (λ (l : Option ℕ). origin_with s after l) (there ∙ sym now)
  where
    origin_with : RevisedBlock → List ℕ → Option ℕ → Origin
    origin_with s after l =
        record { side = Machine; terms = after; at = s.block.after; sp = s.block.sp; line = l }

-- ---- where it comes to

-- the words behind the old segment are those of the new one, over the new board's terms
pub words_behind : (s : RevisedBlock) (after : List ℕ) (b : Behind) (values : List Bool) (segment : Segment)
    → new_terms s.revision s.block ≡ after → behind_words s.revision s.block after b values ≡ segment
    → new_words s.revision s.block (new_terms s.revision s.block) b.list values ≡ segment
words_behind s after b values segment begins is =
    ap (λ ts. new_words s.revision s.block ts b.list values) begins ∙ is

pub comes_in_new : (s : RevisedBlock) (old new : Space) (before after : List ℕ) (b : Behind) (o now : Symbolic)
    (bits : List Decided) (path : Function) (came : Came)
    → GoesTo s.revision.board (ground_in old before after) (ground_in new before after)
    → IsBehind s.revision s.block new before after b
    → HasCome (program_on New s.revision) s.block.bound new now came
    → ((own : List Decided) (along : Function)
    → IsOnSegment (program_on New s.revision) old (origin_on New s.block (ground_in old before after)) o own along
    → ComesOnPath (program_on New s.revision) s.block.bound new
    (origin_on New s.block (ground_in new before after)) now own along came)
    → ((values : List Bool)
    → IsAlongSegment (program_on New s.revision) s.block.bound (behind_words s.revision s.block after b) values old o
    → ComesAlong (program_on New s.revision) s.block.bound (behind_words s.revision s.block after b) values new now came)
    → o.asked ≡ None → IsOnNew s.revision s.block old before after b o bits path
    → ComesInNew s new before after b now bits path came
comes_in_new s old new before after b o now bits path (Asks kind term) to behind come comes along idle on =
    let revision = s.revision in
    let block = s.block in
    let ground = on.on.stands in
    let own = on.own in
    let at = comes own on.along on.run in
    let words = along (bit_values own) (on.listed idle) in
    record {
      on = record {
        on = way_later revision block (ground_in old before after) (ground_in new before after) to ground
            (line_wide s old before after ground) bits path on.on;
        behind = behind;
        own = own;
        met = on.met;
        along = on.along;
        both = on.both;
        run = at.0;
        listed = λ none. (let both : Some kind ≡ None = sym come.0.asked ∙ none in absurd cc);
      };
      bit = at.1;
      next = next_of_new revision block new before after b.board now b.bits own bits b.path on.along path behind.ended
          at.0 on.met on.both come.1 kind term at.1;
      here = new_asks revision block b.bits own bits (standing_on new b.board) words.to b.list (list_of_space new) term
          on.met behind.listed
          (words_behind s after b (bit_values own) (ended_by (wants term) words.to [] (list_of_space new)) behind.begins
          words.here);
      left = λ value.
          along_with (λ ds. IsAlongSegment (program_on New revision) block.bound (behind_words revision block after b) ds
          new (decided_so now kind value)) own (decided kind value) (words.on value);
    }
comes_in_new s old new before after b o now bits path Reached to behind come comes along idle on =
    let revision = s.revision in
    let block = s.block in
    let ground = on.on.stands in
    let own = on.own in
    let values = bit_values own in
    let ended = comes own on.along on.run in
    let last = ended_by reaches (standing_on new now) [] (list_of_space new) in
    record {
      on = way_later revision block (ground_in old before after) (ground_in new before after) to ground
          (line_wide s old before after ground) bits path on.on;
      behind = behind;
      own = own;
      met = on.met;
      along = on.along;
      both = on.both;
      ended = ended;
      case = both_case revision block new before after b.board now b.bits own bits b.path on.along path
          (Some now.place.cycle) behind.ended ended refl on.met on.both;
      late_listed = λ same. absurd cc;
      listed = λ n same.
          new_reaches revision block b.bits own bits (standing_on new b.board) (standing_on new now) b.list
          (list_of_space new) on.met behind.listed
          (words_behind s after b values last behind.begins
          (ap (behind_words revision block after b) (sym (append-nil values)) ∙ along values (on.listed idle) []));
    }
comes_in_new s old new before after b o now bits path Late to behind come comes along idle on =
    let revision = s.revision in
    let block = s.block in
    let ground = on.on.stands in
    let own = on.own in
    let values = bit_values own in
    let ended = comes own on.along on.run in
    let last = ended_by passes (standing_on new now) [] (list_of_space new) in
    record {
      on = way_later revision block (ground_in old before after) (ground_in new before after) to ground
          (line_wide s old before after ground) bits path on.on;
      behind = behind;
      own = own;
      met = on.met;
      along = on.along;
      both = on.both;
      ended = ended;
      case = both_case revision block new before after b.board now b.bits own bits b.path on.along path None
          behind.ended ended (sym come.2) on.met on.both;
      late_listed = λ same.
          new_passes revision block b.bits own bits (standing_on new b.board) (standing_on new now) b.list
          (list_of_space new) on.met behind.listed
          (words_behind s after b values last behind.begins
          (ap (behind_words revision block after b) (sym (append-nil values)) ∙ along values (on.listed idle) []));
      listed = λ n same. absurd cc;
    }

-- ---- as it goes on

-- what it comes to on the paths through what was there is so over what is there now
pub comes_on_new : (s : RevisedBlock) (old new : Space) (before after : List ℕ) (o now : Symbolic) (came : Came)
    (more : List Word) (line : ℕ) → new.words ≡ old.words ++ more → term_of old.words (Line 0) ≡ Some line
    → ((b : Origin) (bits : List Decided) (path : Function)
    → IsOnSegment (program_on New s.revision) old b o bits path
    → ComesOnPath (program_on New s.revision) s.block.bound new b now bits path came)
    → (own : List Decided) (along : Function)
    → IsOnSegment (program_on New s.revision) old (origin_on New s.block (ground_in old before after)) o own along
    → ComesOnPath (program_on New s.revision) s.block.bound new
    (origin_on New s.block (ground_in new before after)) now own along came
comes_on_new s old new before after o now came more line words there comes own along on =
    subst (λ (b : Origin). ComesOnPath (program_on New s.revision) s.block.bound new b now own along came)
    (same_origin s old new before after more line words there) (comes _ own along on)
