-- Tables that have grown by words that are no variables.
use Rattle.std.proofs.Common.{◌≡◌, ℕ, List, [], ◌∷◌, ◌++◌, length}
use Rattle.mw_term.specs.declared.op.Op.{Op}
use Rattle.mw_term.specs.declared.op.Op.TheVariants.{Con}
use Rattle.mw_term.specs.Table.{Table, Extends, IsTable, table_of}
use Rattle.mw_term.specs.Values.{Keeps}
use Rattle.mw_term.specs.declared.word.Word.{Word}
use Rattle.mw_symmem.specs.Words.{IsNoVariable}
use Rattle.mw_symmem.specs.Memory.{IsOfWidth}
use Rattle.mw_symmem.specs.Steps.{Grows}
use Rattle.mw_symmem.proofs.Growth.{grows_none, grows_then, width_stays, op_stays}
use Rattle.mw_symmem.proofs.Later.{grows_without_word}
use Rattle.mw_symmem.proofs.Lists.{pushed_there}
use Rattle.mw_symboard.specs.Growth.{Grew}
use Rattle.mw_symboard.specs.Made.{Is}

pub no_constant : (value width : ℕ) → IsNoVariable (Con value width)
no_constant value width = λ number w is. cc

pub grew_none : (t : Table) (words : List Word) → Grew t t words words
grew_none t words = ([], grows_none t words)

pub grew_by : (told tnew : Table) (old new : List Word) (made : List ℕ) → Grows told tnew old new made
    → Grew told tnew old new
grew_by told tnew old new made grows = (made, grows)

pub grew_then : (a b c : Table) (first second third : List Word) → Grew a b first second → Grew b c second third
    → Grew a c first third
grew_then a b c first second third one two =
    (one.0 ++ two.0, grows_then a b c first second third one.0 two.0 one.1 two.1)

-- a term keeps its op and its width
pub is_later : (told tnew : Table) (old new : List Word) (op : Op) (term : ℕ) → Grew told tnew old new → Is told op term
    → Is tnew op term
is_later told tnew old new op term grew is = op_stays told tnew term op grew.1.extends is

pub wide_later : (told tnew : Table) (old new : List Word) (w term : ℕ) → Grew told tnew old new → IsOfWidth told w term
    → IsOfWidth tnew w term
wide_later told tnew old new w term grew is = width_stays told tnew w term grew.1.extends grew.1.keeps is

-- the op of the last term
pub last_is : (told tnew : Table) (op : Op) (term : ℕ) → tnew ≡ table_of (told.ops ++ op ∷ []) told.map
    → term ≡ length told.ops → Is tnew op term
last_is told tnew op term appends place = rw (appends, place) (pushed_there told.ops op)

-- a constant is no word
pub grows_constant : (told tnew : Table) (value width term : ℕ) (words : List Word)
    → tnew ≡ table_of (told.ops ++ Con value width ∷ []) told.map → Extends told tnew → Keeps told tnew → IsTable tnew
    → Grows told tnew words words []
grows_constant told tnew value width term words appends extends keeps table =
    grows_without_word told tnew words (Con value width) appends extends keeps table (no_constant value width)
