use Rattle.std.proofs.Common.{refl}
use Rattle.mw_board.specs.Depth.{depth_of}
use Rattle.mw_board.specs.Elements.{elements_of}
use Rattle.mw_board.specs.Examples.{small_fields, small_points, small_board}
use Rattle.mw_rel.specs.Examples.{machine_with}
use Rattle.mw_rel.specs.Job.{shape_of}
use Rattle.mw_rel.specs.StartWords.{start_words}
use Rattle.mw_term.specs.WordList.{memory_read_words}
use Rattle.mw_tests.proofs.words.worked_start_words.Goals as goal

pub returns-clause-small : goal.returns-clause-small
unfolding depth_of elements_of small_fields small_points small_board machine_with shape_of start_words
returns-clause-small c = refl

pub returns-clause-reading : goal.returns-clause-reading
unfolding start_words memory_read_words
returns-clause-reading c = refl
