-- What a term of an expression stands for.
use Rattle.std.specs.Prelude.{◌≡◌, ℕ, ◌+◌, ◌<◌, ◌≤◌, ◌^◌, List, [], ◌∷◌, length, map, Some, IsSome, slice_index}
use Rattle.mw_expr.specs.declared.shape.Shape.{Shape}
use Rattle.mw_expr.specs.Tree.{Tree, Trees, none, more}
use Rattle.mw_expr.specs.Values.{value}
use Rattle.mw_expr.specs.Widths.{width, total_width}
use Rattle.mw_macro.specs.Counts.{reads, reads_in}
use Rattle.mw_term.specs.declared.kinds.WordKind.{WordKind}
use Rattle.mw_term.specs.declared.kinds.WordKind.TheVariants.{Base}
use Rattle.mw_term.specs.Assigned.{Given}
use Rattle.mw_term.specs.Table.{Table, term_width}
use Rattle.mw_term.specs.Values.{term_value}
use Rattle.mw_term.specs.declared.side.Side.{Side}
use Rattle.mw_term.specs.declared.word.Word.{Word}
use Rattle.mw_symmem.specs.Memory.{Memory, IsImage, FitImage, held_by}
use Rattle.mw_symmem.specs.Workspace.{GoesOn, IsWorkspace, KeepsWrites}

-- each of some terms is one of a table
abbrev pub AreTerms : Table → List ℕ → Type 0
AreTerms t terms = (i : ℕ) → i < length terms → slice_index terms i < length t.ops

-- the values of some terms
abbrev pub values_at : Table → Given → List ℕ → List ℕ
values_at t given terms = map (λ term. term_value t given term) terms

-- the shape over which terms stand for elements: the widths of these terms, and those of a memory
abbrev pub shape_over : Table → (elements : List ℕ) → Memory → Shape
shape_over t elements m = record {
  widths = map (λ term. term_width t term) elements;
  address = m.address;
  word = m.word;
}

-- a variable of a base read
abbrev pub IsBase : WordKind → Type 0
IsBase kind = (n : ℕ) × (kind ≡ Base n)

-- A term stands for an expression over terms for its elements, and over what a side's memory held in a table: it has
-- the expression's width, and, for every assignment and every image that the base reads fit, its value.
pub record Means (told : Table) (mold : Memory) (elements : List ℕ) (side : Side) (tnew : Table) (mnew : Memory)
    (tree : Tree) (term : ℕ) : Type 0 where
  pub there : term < length tnew.ops
  pub width : width (shape_over told elements mold) tree ≡ Some (term_width tnew term)
  pub value : (given : Given) (image : List ℕ) → IsImage mnew image → FitImage tnew given mnew.reads image
      → term_value tnew given term
      ≡ value (shape_over told elements mold) (values_at told given elements) (held_by told given mold side image) tree

-- A run went on with no other variables than those of so many base reads, and nothing was written.
pub record Runs (told tnew : Table) (wold wnew : List Word) (mold mnew : Memory) (count : ℕ) : Type 0 where
  pub goes : GoesOn IsBase told tnew wold wnew mold mnew
  pub writes : KeepsWrites mold mnew
  pub more : length mnew.reads ≡ length mold.reads + count

-- Before an expression becomes a term: there is a table with its words and a memory, a term for each element, the
-- expression has a width over these, and the numbers of its base reads have 32 bits.
pub record IsReady (t : Table) (words : List Word) (m : Memory) (elements : List ℕ) (tree : Tree) : Type 0 where
  pub workspace : IsWorkspace t words m
  pub each : AreTerms t elements
  pub wide : IsSome (width (shape_over t elements m) tree)
  pub few : length m.reads + reads tree ≤ 2 ^ 32

-- An expression became a term, which stands for it, by a run with a base read for each of its reads.
pub record IsMade (told tnew : Table) (wold wnew : List Word) (mold mnew : Memory) (elements : List ℕ) (side : Side)
    (tree : Tree) (term : ℕ) : Type 0 where
  pub runs : Runs told tnew wold wnew mold mnew (reads tree)
  pub means : Means told mold elements side tnew mnew tree term

-- the same of the parts of a join
pub record AreReady (t : Table) (words : List Word) (m : Memory) (elements : List ℕ) (parts : Trees) : Type 0 where
  pub workspace : IsWorkspace t words m
  pub each : AreTerms t elements
  pub wide : IsSome (total_width (shape_over t elements m) parts)
  pub few : length m.reads + reads_in parts ≤ 2 ^ 32

-- a term for each part
abbrev pub MeanParts : (told : Table) (mold : Memory) (elements : List ℕ) (side : Side) (tnew : Table) (mnew : Memory)
    → Trees → List ℕ → Type 0
MeanParts told mold elements side tnew mnew none [] = Unit
MeanParts told mold elements side tnew mnew none (term ∷ terms) = ⊥
MeanParts told mold elements side tnew mnew (more tree rest) [] = ⊥
MeanParts told mold elements side tnew mnew (more tree rest) (term ∷ terms) =
    Means told mold elements side tnew mnew tree term × MeanParts told mold elements side tnew mnew rest terms

-- the parts became terms, one after another
pub record AreMade (told tnew : Table) (wold wnew : List Word) (mold mnew : Memory) (elements : List ℕ) (side : Side)
    (parts : Trees) (terms : List ℕ) : Type 0 where
  pub runs : Runs told tnew wold wnew mold mnew (reads_in parts)
  pub mean : MeanParts told mold elements side tnew mnew parts terms
