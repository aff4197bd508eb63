-- The new program's board behind an old segment that has ended at a boundary.
use Rattle.std.proofs.Common.{◌≡◌, ℕ, ◌-◌, ◌<◌, ◌≤◌, ◌^◌, List, [], append-nil, length, Bool, true, false}
use Rattle.std.proofs.Common.{Option, Some, refl, sym, ap, subst, ◌∙◌, arith}
use Rattle.std.specs.Prelude.{◌&&◌}
use Rattle.std.proofs.lemmas.List.{get_or-take}
use Rattle.mw_board.specs.Depth.{depth_of}
use Rattle.mw_board.specs.Elements.{element_count}
use Rattle.mw_course.proofs.FirstListed.{parts_first, same_standings}
use Rattle.mw_cycle.specs.BoardTerms.{Standing}
use Rattle.mw_cycle.specs.SegmentWords.{segment_words}
use Rattle.mw_cycle.specs.SteadySeries.{Line as LineOf}
use Rattle.mw_rel.specs.CaseWords.{parts_with}
use Rattle.mw_revise.specs.declared.programs.Side.TheVariants.{New, Old}
use Rattle.mw_revise.specs.Revision.{addresses_of}
use Rattle.mw_revise.specs.TwinWords as twin_words
use Rattle.mw_segment.specs.declared.cycles.Came.TheVariants.{Reached}
use Rattle.mw_segment.specs.Left.{standing_on}
use Rattle.mw_segment.specs.Segments.{HasCome}
use Rattle.mw_segment.proofs.AlongWords.{segments_begin}
use Rattle.mw_segment.proofs.Staying.{segments_begin_on_paths}
use Rattle.mw_space.specs.declared.space.Space.{Space}
use Rattle.mw_space.specs.Spaces.{list_of_space}
use Rattle.mw_symboard.specs.Laws.{IsBeginning}
use Rattle.mw_symboard.specs.Parts.{AreElements, AreParts, HasElements}
use Rattle.mw_symboard.specs.Turns.{IsSymbolic, Symbolic, reads_by}
use Rattle.mw_symboard.proofs.Runs.{elements_have_terms}
use Rattle.mw_symmem.specs.Memory.{IsOfWidth, writes_of}
use Rattle.mw_term.specs.declared.decided.Decided.{Decided}
use Rattle.mw_term.specs.declared.kinds.WordKind.TheVariants.{Line}
use Rattle.mw_term.specs.declared.side.Side.TheVariants.{Board, Machine}
use Rattle.mw_term.specs.Functions.{Function}
use Rattle.mw_term.specs.WordList.{term_of}
use Rattle.mw_twin.specs.OnTwins.{Behind, HasMetOld, IsOnNew}
use Rattle.mw_twin.specs.Origins.{ground_in, origin_on}
use Rattle.mw_twin.specs.Programs.{program_on}
use Rattle.mw_twin.specs.Ready.{IsInNew, IsInOld}
use Rattle.mw_twin.specs.RevisedBlocks.{RevisedBlock}
use Rattle.mw_twin.proofs.BothGrow.{line_wide, own_variables}

and_true : (b : Bool) → b ≡ (b && true)
and_true true = refl
and_true false = refl

-- ---- where it stands

-- the terms of its elements are its parts
pub parts_are : (s : RevisedBlock) (space : Space) (terms : List ℕ) (o : Symbolic) → length terms ≡ element_count s.revision.board
    → AreParts s.revision.board space.terms o.place.parts → HasElements s.revision.board terms o.place.parts
    → parts_with s.revision.board terms ≡ o.place.parts
parts_are s space terms o count are has =
    let board = s.revision.board in
    parts_first board space.terms terms o (omega (arith, count)) are
    (λ n below. has n below ∙ sym (get_or-take (element_count board) terms n 0 below))

standing_begun : (s : RevisedBlock) (space : Space) (terms : List ℕ) (line : ℕ) (o : Symbolic)
    → length terms ≡ element_count s.revision.board → AreParts s.revision.board space.terms o.place.parts
    → HasElements s.revision.board terms o.place.parts
    → IsBeginning Machine s.block.after s.block.sp (Some line) o → space.memory.machine ≡ []
    → twin_words.standing_on New s.revision s.block terms (Some line) ≡ standing_on space o
standing_begun s space terms line o count are has new unwritten =
    same_standings (twin_words.standing_on New s.revision s.block terms (Some line)) (standing_on space o)
    (sym new.side_is) (sym new.at) (sym new.sp_is) (parts_are s space terms o count are has)
    (sym (ap (writes_of space.memory) new.side_is ∙ unwritten)) (sym new.events) (sym new.cycle) (sym new.taken)
    (sym new.line_is)

-- ---- what is so of it

-- it is in its segment
pub in_new_begun : (s : RevisedBlock) (space : Space) (old o : Symbolic) (after : List ℕ) (line : ℕ)
    → IsInOld s space old after → HasCome (program_on Old s.revision) s.block.bound space old Reached
    → term_of space.words (Line 0) ≡ Some line → IsBeginning Machine s.block.after s.block.sp (Some line) o
    → (s.block.after < 2 ^ 12 → s.block.sp ≤ depth_of s.revision.board
    → AreElements s.revision.board space.terms after → IsOfWidth space.terms 1 line
    → IsSymbolic s.revision.board s.revision.after space.terms space.words space.memory o) → IsInNew s space old o
in_new_begun s space old o after line is come there new symbolic =
    let board = s.revision.board in
    let lines = is.running.lines is.side in
    let has = own_variables Board board s.revision.before space old is.running.symbolic is.side in
    let wide = has.1.widths LineOf 0 line there in
    let block = s.block in
    let none : reads_by o.reading ≡ 1 = ap reads_by new.reading in
    let before : reads_by old.reading ≡ 1 = ap reads_by come.1 in
    let terms = (elements_have_terms board s.revision.before space.terms space.words space.memory old).0
    is.running.symbolic in
    record {
      revised = is.revised;
      running = record {
        space_of = is.running.space_of;
        symbolic = symbolic is.revised.block_is.after is.revised.block_is.sp is.wide wide;
        taken = omega (arith, new.taken, new.cycle);
        lines = λ same. (let both : Machine ≡ Board = sym new.side_is ∙ same in absurd cc);
      };
      side = new.side_is;
      lined = λ first. (line, new.line_is);
      reads = omega (arith, is.reads, before, none, new.cycle, come.3, is.revised.block_is.most);
      fresh = is.fresh;
      others = has;
      first = lines.later come.2;
      old_side = is.side;
      old_parts = terms.0;
      old_events = terms.1;
    }

-- and its segment begins on each path on which the old one has ended
pub on_new_begun : (s : RevisedBlock) (space : Space) (old o : Symbolic) (before after : List ℕ) (line : ℕ)
    (bits : List Decided) (path : Function) → IsInOld s space old after → IsInNew s space old o
    → term_of space.words (Line 0) ≡ Some line → HasElements s.revision.board after o.place.parts
    → IsBeginning Machine s.block.after s.block.sp (Some line) o
    → HasMetOld s.revision s.block space before after old bits path
    → (b : Behind) × (b.board ≡ old) × IsOnNew s.revision s.block space before after b o bits path
on_new_begun s space old o before after line bits path is now there has new met =
    let revision = s.revision in
    let block = s.block in
    let ground = met.on.stands in
    let program = program_on New revision in
    let origin = origin_on New block (ground_in space before after) in
    let b : Behind = record { board = old; bits = bits; path = path; list = list_of_space space } in
    let begins : IsBeginning Machine block.after block.sp (term_of space.words (Line 0)) o =
    subst (λ (l : Option ℕ). IsBeginning Machine block.after block.sp l o) (sym there) new in
    let are = ((elements_have_terms revision.board revision.after space.terms space.words space.memory o).0
    now.running.symbolic).0 in
    let standing = standing_begun s space after line o is.count are has new is.unwritten in
    let all : block.bound - o.place.cycle ≡ block.bound = omega (arith, new.cycle) in (
      b,
      refl,
      record {
        on = met.on;
        behind = record { ended = met.ended; begins = met.begins; listed = met.listed };
        own = [];
        met = sym (append-nil bits);
        along = λ given. true;
        both = λ given. and_true (path given);
        run = segments_begin_on_paths program space origin o (λ given. true)
            (record { elements = ground.wide New; line = line_wide s space before after ground New }) has begins
            is.unwritten (λ given. refl);
        listed = λ idle further.
            ap (λ (l : Option ℕ). segment_words revision.board revision.after (addresses_of New revision) block.bound
            (twin_words.standing_on New revision block after l) further (list_of_space space)) there
            ∙ ap (λ (st : Standing). segment_words revision.board revision.after (addresses_of New revision) block.bound
            st further (list_of_space space)) standing
            ∙ ap (λ (k : ℕ). segment_words revision.board revision.after (addresses_of New revision) k
            (standing_on space o) further (list_of_space space)) (sym all)
            ∙ segments_begin program block.bound space o new.reading
            (omega (arith, new.cycle, is.revised.block_is.some)) further;
      },
    )
