-- Where the old program's segment comes to.
use Rattle.std.proofs.Common.{◌≡◌, ℕ, ◌+◌, ◌-◌, ◌≤◌, List, [], ◌∷◌, ◌++◌, append-nil, length, Bool, Some, None}
use Rattle.std.proofs.Common.{sym, ap, subst, ◌∙◌, arith}
use Rattle.mw_cycle.specs.Decided.{decided}
use Rattle.mw_course.proofs.Growing.{none_later}
use Rattle.mw_rel.specs.CaseWords.{bit_values}
use Rattle.mw_revise.specs.declared.programs.Side.TheVariants.{Old}
use Rattle.mw_segment.specs.declared.cycles.Came.{Came}
use Rattle.mw_segment.specs.declared.cycles.Came.TheVariants.{Asks, Reached, Late}
use Rattle.mw_segment.specs.Left.{ComesAlong, IsAlongSegment, standing_on}
use Rattle.mw_segment.specs.Segments.{ComesOnPath, HasCome, IsRunKind, IsRunning}
use Rattle.mw_space.specs.declared.space.Space.{Space}
use Rattle.mw_space.specs.Spaces.{list_of_space}
use Rattle.mw_symboard.specs.Turns.{Symbolic, decided_so, other_side, reads_to_come}
use Rattle.mw_symmem.specs.Memory.{writes_of}
use Rattle.mw_symmem.specs.Workspace.{GoesOn}
use Rattle.mw_symmem.proofs.Later.{width_later}
use Rattle.mw_term.specs.declared.decided.Decided.{Decided}
use Rattle.mw_term.specs.declared.kinds.WordKind.TheVariants.{Probe}
use Rattle.mw_term.specs.declared.side.Side.{Side}
use Rattle.mw_term.specs.declared.side.Side.TheVariants.{Board}
use Rattle.mw_term.specs.Functions.{Function}
use Rattle.mw_twin.specs.Comes.{ComesInOld}
use Rattle.mw_twin.specs.OnTwins.{IsOnOld, old_words}
use Rattle.mw_twin.specs.Origins.{ground_in, origin_on}
use Rattle.mw_twin.specs.Programs.{program_on}
use Rattle.mw_twin.specs.Ready.{IsInOld}
use Rattle.mw_twin.specs.RevisedBlocks.{RevisedBlock}
use Rattle.mw_twin.proofs.BothGrow.{line_wide, no_probe, own_variables}
use Rattle.mw_twin.proofs.CaseWords.{old_asks, old_passes, values_behind}
use Rattle.mw_twin.proofs.Growing.{GoesTo, others_stay, way_later}
use Rattle.mw_twin.proofs.TwinCases.{late_case, next_of_old}

-- what the other side has written stays
unwritten_still : (old new : Space) (side : Side) → side ≡ Board
    → writes_of new.memory (other_side side) ≡ writes_of old.memory (other_side side) → old.memory.machine ≡ []
    → new.memory.machine ≡ []
unwritten_still old new side same writes none =
    subst (λ (s : Side). writes_of new.memory (other_side s) ≡ writes_of old.memory (other_side s)) same writes ∙ none

-- the old program's board is in its segment still
pub in_old_still : (s : RevisedBlock) (old new : Space) (o now : Symbolic) (after : List ℕ) → IsInOld s old o after
    → IsRunning (program_on Old s.revision) new now
    → GoesOn (IsRunKind o.place) old.terms new.terms old.words new.words old.memory new.memory
    → now.place.side ≡ o.place.side
    → writes_of new.memory (other_side o.place.side) ≡ writes_of old.memory (other_side o.place.side)
    → o.place.cycle ≤ now.place.cycle
    → length new.memory.reads + reads_to_come now
    ≤ length old.memory.reads + reads_to_come o + (now.place.cycle - o.place.cycle) → IsInOld s new now after
in_old_still s old new o now after is running goes side writes later reads =
    let board = s.revision.board in
    let own = own_variables Board board s.revision.before new now running.symbolic (side ∙ is.side) in
    record {
      revised = is.revised;
      running = running;
      side = side ∙ is.side;
      reads = omega (arith, is.reads, reads, later);
      fresh = none_later (IsRunKind o.place) old.words new.words goes.more Probe goes.words goes.kinds
          (no_probe o.place) is.fresh;
      others = others_stay Old o.place board old.terms new.terms old.words new.words goes.more 0 own.0 is.side goes.later
          goes.words goes.kinds own.1 is.others;
      unwritten = unwritten_still old new o.place.side is.side writes is.unwritten;
      count = is.count;
      wide = λ n below. width_later old.terms new.terms _ _ goes.later (is.wide n below);
    }

-- with the value of a bit more, the words are along the bits with it
pub along_with : (program_along : List Bool → Type 0) (bits : List Decided) (d : Decided)
    → program_along (bit_values bits ++ d.value ∷ []) → program_along (bit_values (bits ++ d ∷ []))
along_with program_along bits d along = subst program_along (sym (values_behind bits (d ∷ []))) along

-- where it comes to is so of the cases on its path
pub comes_in_old : (s : RevisedBlock) (old new : Space) (before after : List ℕ) (o now : Symbolic) (bits : List Decided)
    (path : Function) (came : Came)
    → GoesTo s.revision.board (ground_in old before after) (ground_in new before after) → new.memory.machine ≡ []
    → HasCome (program_on Old s.revision) s.block.bound new now came
    → ComesOnPath (program_on Old s.revision) s.block.bound new
    (origin_on Old s.block (ground_in old before after)) now bits path came
    → (IsAlongSegment (program_on Old s.revision) s.block.bound (old_words s.revision s.block) (bit_values bits) old o
    → ComesAlong (program_on Old s.revision) s.block.bound (old_words s.revision s.block) (bit_values bits) new now came)
    → o.asked ≡ None → IsOnOld s.revision s.block old before after o bits path
    → ComesInOld s new before after now bits path came
comes_in_old s old new before after o now bits path (Asks kind term) to unwritten come comes along idle on =
    let revision = s.revision in
    let block = s.block in
    let ground = on.on.stands in
    let words = along (on.listed idle) in
    record {
      on = record {
        on = way_later revision block (ground_in old before after) (ground_in new before after) to ground
            (line_wide s old before after ground) bits path on.on;
        run = comes.0;
        begins = on.begins;
        unwritten = unwritten;
        listed = λ none. (let both : Some kind ≡ None = sym come.0.asked ∙ none in absurd cc);
      };
      bit = comes.1;
      next = next_of_old revision block new before after now bits path comes.0 come.1 kind term comes.1;
      here = old_asks revision block bits words.to term (list_of_space new) words.here;
      left = λ value.
          along_with (λ ds. IsAlongSegment (program_on Old revision) block.bound (old_words revision block) ds new
          (decided_so now kind value)) bits (decided kind value) (words.on value);
    }
comes_in_old s old new before after o now bits path Reached to unwritten come comes along idle on =
    let ground = on.on.stands in
    record {
      on = way_later s.revision s.block (ground_in old before after) (ground_in new before after) to ground
          (line_wide s old before after ground) bits path on.on;
      ended = comes;
      begins = on.begins;
      unwritten = unwritten;
      listed = along (on.listed idle);
    }
comes_in_old s old new before after o now bits path Late to unwritten come comes along idle on =
    let revision = s.revision in
    let block = s.block in
    let ground = on.on.stands in
    record {
      on = way_later revision block (ground_in old before after) (ground_in new before after) to ground
          (line_wide s old before after ground) bits path on.on;
      ended = comes;
      case = late_case revision block new before after now bits path comes (sym come.2);
      listed = old_passes revision block bits (standing_on new now) (list_of_space new)
          (ap (old_words revision block) (sym (append-nil (bit_values bits))) ∙ along (on.listed idle) []);
    }
