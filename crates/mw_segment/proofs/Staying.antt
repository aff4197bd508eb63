-- Paths through a segment: how they begin, by a bit, and while other calls are made.
use Rattle.std.proofs.Common.{◌≡◌, ◌++◌, List, [], arith, sym}
use Rattle.mw_segment.specs.Segments.{EndsStay, SegmentsBeginOnPaths, SegmentsTakeBits}
use Rattle.mw_space.specs.declared.space.Space.{Space}
use Rattle.mw_symboard.specs.Laws.{Course}
use Rattle.mw_symboard.specs.Paths.{AreOrigins, IsOneOf, Origin}
use Rattle.mw_symboard.proofs.OnPaths.{paths_begin, paths_stay, paths_take_bits}
use Rattle.mw_symboard.proofs.Runs.{runs_fit_before}
use Rattle.mw_symmem.specs.Workspace.{IsLater, IsWorkspace, ReadsMore}
use Rattle.mw_board.specs.declared.parts.BoardParts.{BoardParts}
use Rattle.mw_term.specs.Assigned.{Given}
use Rattle.mw_term.specs.declared.word.Word.{Word}

pub segments_begin_on_paths : SegmentsBeginOnPaths
segments_begin_on_paths program space b o path are has new none always = record {
  path_is = paths_begin program.board program.store space.terms space.words space.memory b o path are has new none always;
  passed = [];
  at_them = λ given x is holds k at there. absurd cc;
  count = sym new.cycle;
  none = λ k other below. absurd (omega (arith, below));
}

pub segments_take_bits : SegmentsTakeBits
segments_take_bits program space b o bits kind term value path next on asks by = record {
  path_is = paths_take_bits program.board program.store space.terms space.words space.memory b o bits kind term value path
      next on.path_is asks by;
  passed = on.passed;
  at_them = λ given x is holds. on.at_them given x is (by.so given holds).0;
  count = on.count;
  none = on.none;
}

-- a run that fits what was read later fitted what was read before
one_before : (board : BoardParts) (old new : Space) (more : List Word) (b : Origin) (given : Given) (x : Course)
    → IsWorkspace old.terms old.words old.memory → IsLater old.terms new.terms → new.words ≡ old.words ++ more
    → ReadsMore old.memory new.memory → AreOrigins board old.terms b
    → IsOneOf board new.terms new.words new.memory b given x → IsOneOf board old.terms old.words old.memory b given x
one_before board old new more b given x workspace later words reads are is =
    let before = runs_fit_before b.side board old.terms new.terms old.words new.words more old.memory new.memory given x
    workspace later words reads in
    record {
      fits = before.0 is.fits;
      begins = before.1 b.terms b.at b.sp b.line are.elements are.line is.begins;
    }

pub ends_stay : EndsStay
ends_stay program bound old new more b o bits path end workspace later words reads writes parts events ended =
    let before : (given : Given) (x : Course) → IsOneOf program.board new.terms new.words new.memory b given x
    → IsOneOf program.board old.terms old.words old.memory b given x =
    λ given x is. one_before program.board old new more b given x workspace later words reads ended.path_is.origin is in
    record {
      path_is = paths_stay program.board program.store old.terms new.terms old.words new.words more old.memory new.memory b
          o bits path workspace later words reads writes parts events ended.path_is;
      all = λ given x is. ended.all given x (before given x is);
      ends = λ given x is. ended.ends given x (before given x is);
    }
