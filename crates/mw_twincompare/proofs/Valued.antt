-- A term that is compared with a constant.
use Rattle.std.proofs.Common.{◌≡◌, ℕ, List, [], ◌∷◌, ◌++◌, ap, sym, ◌∙◌}
use Rattle.std.specs.Prelude.{Option, Some}
use Rattle.std.specs.Option.{unwrap_or}
use Rattle.mw_board.specs.declared.parts.BoardParts.{BoardParts}
use Rattle.mw_board.specs.Elements.{element_width}
use Rattle.mw_compare.specs.Comparing.{GoesComparing, IsComparedKind}
use Rattle.mw_rel.specs.ComparisonWords.{Compared, compared_in, line, with_comparison}
use Rattle.mw_revise.specs.TwinComparisonWords.{with_value}
use Rattle.mw_space.specs.declared.space.Space.{Space}
use Rattle.mw_space.specs.Spaces.{list_of_space}
use Rattle.mw_symboard.proofs.Growing.{grows_constant}
use Rattle.mw_symmem.proofs.Later.{goes_by_growth, writes_itself}
use Rattle.mw_symmem.specs.Memory.{Memory}
use Rattle.mw_symmem.specs.Workspace.{IsWorkspace}
use Rattle.mw_term.specs.declared.op.Op.TheVariants.{Con}
use Rattle.mw_term.specs.declared.word.Word.{Word}
use Rattle.mw_term.specs.Table.{Extends, IsTable, Table, table_of}
use Rattle.mw_term.specs.Values.{Keeps}
use Rattle.mw_term.specs.WordList.{Ended, WordList, ended, with_constant}

-- a space goes on with a constant
pub constant_goes : (told tnew : Table) (words : List Word) (m : Memory) (value width term : ℕ)
    → tnew ≡ table_of (told.ops ++ Con value width ∷ []) told.map → Extends told tnew → Keeps told tnew → IsTable tnew
    → IsWorkspace told words m
    → GoesComparing (record { terms = told; words = words; memory = m })
    (record { terms = tnew; words = words; memory = m })
constant_goes told tnew words m value width term appends extends keeps table workspace = record {
  goes = goes_by_growth IsComparedKind told tnew words words m []
      (grows_constant told tnew value width term words appends extends keeps table) workspace;
  writes = writes_itself m;
}

-- what is compared, behind the constant
pub value_ends : (board : BoardParts) (old mid : Space) (element width term wanted value : ℕ) (so_far : Compared)
    → element_width board element ≡ Some width
    → ended wanted (list_of_space mid) ≡ with_constant value width (list_of_space old)
    → so_far.list ≡ list_of_space old
    → with_value board element term value so_far
    ≡ with_comparison (line element) term wanted (compared_in (list_of_space mid) so_far.comparisons)
value_ends board old mid element width term wanted value so_far wide listed same =
    ap (λ (o : Option ℕ). behind (with_constant value (unwrap_or o 0) so_far.list)) wide
    ∙ ap (λ (l : WordList). behind (with_constant value width l)) same ∙ ap behind (sym listed)
  where
    behind : Ended → Compared
    behind constant = with_comparison (line element) term constant.term (compared_in constant.list so_far.comparisons)
