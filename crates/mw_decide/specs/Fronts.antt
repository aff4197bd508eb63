-- Word lists that go on.
use Rattle.std.specs.Prelude.{◌≡◌, List, ◌++◌}
use Rattle.mw_term.specs.declared.op.Op.{Op}
use Rattle.mw_term.specs.declared.word.Word.{Word}
use Rattle.mw_term.specs.WordList.{WordList}

-- a list goes on as another
pub record IsFrontOf (front all : WordList) : Type 0 where
  pub ops : List Op
  pub words : List Word
  pub ops_are : all.ops ≡ front.ops ++ ops
  pub words_are : all.words ≡ front.words ++ words
