-- A course that stands at the block, and has made no cycle.
use Rattle.std.proofs.Common.{◌≡◌, ℕ, ◌-◌, ◌<◌, ◌≤◌, ◌^◌, List, [], length, Some, None, refl}
use Rattle.std.proofs.Common.{sym, ap, subst, ◌∙◌, arith}
use Rattle.mw_board.specs.Depth.{depth_of}
use Rattle.mw_board.specs.Elements.{element_count}
use Rattle.mw_course.proofs.FirstListed.{same_standings}
use Rattle.mw_cycle.specs.BoardTerms.{Standing}
use Rattle.mw_cycle.specs.SegmentWords.{segment_words}
use Rattle.mw_rel.specs.TreePaths.{path_along}
use Rattle.mw_revise.specs.declared.programs.Side.TheVariants.{New, Old}
use Rattle.mw_revise.specs.Revision.{addresses_of}
use Rattle.mw_revise.specs.TwinCase.{twin_case}
use Rattle.mw_revise.specs.TwinStartWords.{TwinBeginning, twin_start_words}
use Rattle.mw_revise.specs.TwinWords as twin_words
use Rattle.mw_revise.specs.TwinWords.{twin_tree}
use Rattle.mw_segment.specs.Left.{standing_on}
use Rattle.mw_segment.proofs.AlongWords.{segments_begin}
use Rattle.mw_segment.proofs.Staying.{segments_begin_on_paths}
use Rattle.mw_space.specs.declared.space.Space.{Space}
use Rattle.mw_space.specs.Spaces.{list_of_space}
use Rattle.mw_symboard.specs.Laws.{IsBeginning}
use Rattle.mw_symboard.specs.Parts.{AreElements, AreParts, HasElements}
use Rattle.mw_symboard.specs.Kinds.{HaveWidths}
use Rattle.mw_symboard.specs.Turns.{AreNoLater, IsSymbolic, Symbolic, reads_by}
use Rattle.mw_symboard.proofs.Runs.{elements_have_terms}
use Rattle.mw_symboard.proofs.Variables.{none_kind}
use Rattle.mw_symmem.specs.Memory.{writes_of}
use Rattle.mw_symmem.specs.Workspace.{HaveKinds}
use Rattle.mw_term.specs.Cofactors.{Agree}
use Rattle.mw_term.specs.declared.kinds.WordKind.TheVariants.{Element, Probe}
use Rattle.mw_term.specs.declared.side.Side.TheVariants.{Board, Machine}
use Rattle.mw_term.specs.Functions.{Function, always}
use Rattle.mw_term.specs.WordList.{term_of}
use Rattle.mw_twin.specs.OnTwins.{IsOnOld}
use Rattle.mw_twin.specs.Origins.{IsElementKind, IsGround, ground_in, origin_on}
use Rattle.mw_twin.specs.Programs.{program_on}
use Rattle.mw_twin.specs.Ready.{IsInOld}
use Rattle.mw_twin.specs.RevisedBlocks.{IsRevisedBlock, RevisedBlock}
use Rattle.mw_twin.specs.TwinPaths.{IsOnWay}
use Rattle.mw_twin.proofs.ElementGround.{have_variables}
use Rattle.mw_twin.proofs.NewBegun.{parts_are}
use Rattle.mw_twin.proofs.TwinStartsThere.{twin_starts_are_there}

-- among variables of elements alone there is no probe
no_probe : (space : Space) → HaveKinds IsElementKind space.words → term_of space.words Probe ≡ None
no_probe space kinds =
    none_kind IsElementKind space.words Probe kinds
    (λ is. (let same : Probe ≡ Element is.0 = is.1 in absurd cc))

-- a board may go on over terms for its elements, where there is no variable of a cycle
abbrev pub MayGoOn : RevisedBlock → Space → (elements : List ℕ) → Symbolic → Type 0
MayGoOn s space elements o = s.block.before < 2 ^ 12 → s.block.sp ≤ depth_of s.revision.board
    → AreElements s.revision.board space.terms elements → HaveWidths Board s.revision.board space.terms space.words
    → AreNoLater Board 0 space.words
    → IsSymbolic s.revision.board s.revision.before space.terms space.words space.memory o

-- so it may go on
pub symbolic_begun : (s : RevisedBlock) (space : Space) (o : Symbolic) (before after elements : List ℕ) → IsRevisedBlock s
    → IsGround s.revision.board s.block (ground_in space before after) → HaveKinds IsElementKind space.words
    → elements ≡ before → MayGoOn s space elements o
    → IsSymbolic s.revision.board s.revision.before space.terms space.words space.memory o
symbolic_begun s space o before after elements revised ground kinds same may =
    let has = have_variables Board s.revision.board space.terms space.words kinds in
    may revised.block_is.before revised.block_is.sp
    (subst (AreElements s.revision.board space.terms) (sym same) (ground.wide Old)) has.widths has.none

-- the old program's board is in its segment
pub in_old_begun : (s : RevisedBlock) (space : Space) (o : Symbolic) (before after : List ℕ) → IsRevisedBlock s
    → IsGround s.revision.board s.block (ground_in space before after) → HaveKinds IsElementKind space.words
    → space.memory.reads ≡ [] → space.memory.machine ≡ [] → length after ≡ element_count s.revision.board
    → IsBeginning Board s.block.before s.block.sp None o
    → IsSymbolic s.revision.board s.revision.before space.terms space.words space.memory o → IsInOld s space o after
in_old_begun s space o before after revised ground kinds unread unwritten count new symbolic =
    let none : reads_by o.reading ≡ 1 = ap reads_by new.reading in
    record {
      revised = revised;
      running = record {
        space_of = ground.space;
        symbolic = symbolic;
        taken = omega (arith, new.taken, new.cycle);
        lines = λ side. record {
          unlined = new.line_is;
          begun = λ reading there. (let both : None ≡ Some reading = sym new.reading ∙ there in absurd cc);
          later = λ some. absurd (omega (arith, some, new.cycle));
        };
      };
      side = new.side_is;
      reads = omega (arith, none, new.cycle, ap length unread);
      fresh = no_probe space kinds;
      others = have_variables Machine s.revision.board space.terms space.words kinds;
      unwritten = unwritten;
      count = count;
      wide = ground.wide New;
    }

-- every twin start is on the path of no bit
way_begun : (s : RevisedBlock) (space : Space) (before after : List ℕ) (path : Function) → IsRevisedBlock s
    → IsGround s.revision.board s.block (ground_in space before after) → Agree path always
    → IsOnWay s.revision s.block (ground_in space before after) [] path
unfolding path_along
way_begun s space before after path revised ground everywhere =
    let starts = twin_starts_are_there s.revision s.block (ground_in space before after) revised.revision_is revised.block_of
    revised.block_is ground in
    let some = starts.there (λ n. 0) in
    record {
      stands = ground;
      written = everywhere;
      cases = record {
        first = λ given twins stands holds. refl;
        only = λ given twins stands first. everywhere given;
      };
      feasible = record {
        twins = some.0;
        starts = some.1.starts;
        rest = twin_case s.revision some.0;
        bits_are = refl;
      };
    }

standing_begun : (s : RevisedBlock) (space : Space) (terms : List ℕ) (o : Symbolic)
    → length terms ≡ element_count s.revision.board → AreParts s.revision.board space.terms o.place.parts
    → HasElements s.revision.board terms o.place.parts → IsBeginning Board s.block.before s.block.sp None o
    → space.memory.board ≡ [] → twin_words.standing_on Old s.revision s.block terms None ≡ standing_on space o
standing_begun s space terms o count are has new unwritten =
    same_standings (twin_words.standing_on Old s.revision s.block terms None) (standing_on space o)
    (sym new.side_is) (sym new.at) (sym new.sp_is) (parts_are s space terms o count are has)
    (sym (ap (writes_of space.memory) new.side_is ∙ unwritten)) (sym new.events) (sym new.cycle) (sym new.taken)
    (sym new.line_is)

-- what begins a case's list
abbrev beginning : Space → (before after : List ℕ) → TwinBeginning
beginning space before after =
    record { list = list_of_space space; old_terms = before; new_terms = after }

pub on_old_begun : (s : RevisedBlock) (space : Space) (o : Symbolic) (before after : List ℕ) (path : Function) → IsRevisedBlock s
    → IsGround s.revision.board s.block (ground_in space before after) → space.memory.board ≡ []
    → space.memory.machine ≡ [] → length before ≡ element_count s.revision.board
    → twin_start_words s.revision.board s.block.lines ≡ beginning space before after
    → HasElements s.revision.board before o.place.parts → IsBeginning Board s.block.before s.block.sp None o
    → IsSymbolic s.revision.board s.revision.before space.terms space.words space.memory o → Agree path always
    → IsOnOld s.revision s.block space before after o [] path
on_old_begun s space o before after path revised ground unwritten none count listed has new symbolic everywhere =
    let revision = s.revision in
    let block = s.block in
    let program = program_on Old revision in
    let origin = origin_on Old block (ground_in space before after) in
    let are = ((elements_have_terms revision.board revision.before space.terms space.words space.memory o).0 symbolic).0
    in
    let standing = standing_begun s space before o count are has new unwritten in
    let all : block.bound - o.place.cycle ≡ block.bound = omega (arith, new.cycle) in
    record {
      on = way_begun s space before after path revised ground everywhere;
      run = segments_begin_on_paths program space origin o path
          (record { elements = ground.wide Old; line = λ term is. absurd cc }) has new unwritten everywhere;
      begins = ap (λ (b : TwinBeginning). b.new_terms) listed;
      unwritten = none;
      listed = λ idle further.
          ap (λ (b : TwinBeginning). segment_words revision.board revision.before (addresses_of Old revision) block.bound
          (twin_words.standing_on Old revision block b.old_terms None) further b.list) listed
          ∙ ap (λ (st : Standing). segment_words revision.board revision.before (addresses_of Old revision) block.bound
          st further (list_of_space space)) standing
          ∙ ap (λ (k : ℕ). segment_words revision.board revision.before (addresses_of Old revision) k
          (standing_on space o) further (list_of_space space)) (sym all)
          ∙ segments_begin program block.bound space o new.reading
          (omega (arith, new.cycle, revised.block_is.some)) further;
    }
