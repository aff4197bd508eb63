-- How a source of D goes on.
use Rattle.std.proofs.Common.{◌≡◌, inl, inr, ℕ, List, [], ◌∷◌, ◌++◌, refl}
use Rattle.std.specs.Prelude.{Result, Ok, Err, OnOk}
use Rattle.mw_term.specs.declared.kinds.WordKind.TheVariants.{Input}
use Rattle.mw_term.specs.MemoryRead.{held}
use Rattle.mw_term.specs.Table.{Table, Extends, IsTable}
use Rattle.mw_term.specs.Values.{Keeps}
use Rattle.mw_term.specs.declared.side.Side.{Side}
use Rattle.mw_term.specs.declared.side.Side.TheVariants.{Board}
use Rattle.mw_term.specs.declared.word.Word.{Word}
use Rattle.mw_term.specs.WordList.{variable}
use Rattle.mw_cycle.specs.SteadySeries.{Inputs}
use Rattle.mw_symmem.specs.Memory.{Memory, AddsRead, IsMemory, with_read}
use Rattle.mw_symmem.specs.Words.{AreOf}
use Rattle.mw_symmem.specs.Workspace.{GoesOn, IsWorkspace}
use Rattle.mw_symmem.proofs.Later.{goes_as, goes_by_growth, goes_by_read, goes_by_variable}
use Rattle.mw_symboard.specs.Growth.{Grew}
use Rattle.mw_symboard.specs.Kinds.{IsSourceKind}
use Rattle.mw_symboard.proofs.VariableWidths.{IsBase, no_base}

pub source_kind : (taken : ℕ) → IsSourceKind taken (Input taken)
source_kind taken = inr refl

pub goes_by_input : (taken : ℕ) (told tnew : Table) (wold wnew : List Word) (m : Memory) (term : ℕ)
    → wnew ≡ wold ++ variable term (Input taken) ∷ [] → Extends told tnew → Keeps told tnew → IsTable tnew
    → (AreOf told wold → AreOf tnew wnew) → IsWorkspace told wold m
    → GoesOn (IsSourceKind taken) told tnew wold wnew m m
goes_by_input taken told tnew wold wnew m term words extends keeps table of workspace =
    goes_by_variable (IsSourceKind taken) told tnew wold wnew m term (Input taken) words extends keeps table of
    (source_kind taken) (λ k is. no_base Board Inputs taken k is) workspace

pub goes_by_base : (told tnew : Table) (wold wnew : List Word) (mold mnew : Memory) (side : Side)
    (address base term : ℕ) → AddsRead wold wnew mold
    → mnew ≡ with_read mold (held address base) → IsMemory tnew wnew mnew → AreOf tnew wnew → Extends told tnew
    → Keeps told tnew → IsTable tnew → GoesOn IsBase told tnew wold wnew mold mnew
goes_by_base told tnew wold wnew mold mnew side address base term adds read memory of extends keeps table =
    goes_by_read IsBase told tnew wold wnew mold mnew side address base term (λ n. (n, refl)) adds read memory of
    extends keeps table

pub goes_as_source : (taken : ℕ) (told tnew : Table) (wold wnew : List Word) (mold mnew : Memory)
    → GoesOn IsBase told tnew wold wnew mold mnew → GoesOn (IsSourceKind taken) told tnew wold wnew mold mnew
goes_as_source taken told tnew wold wnew mold mnew goes =
    goes_as IsBase (IsSourceKind taken) told tnew wold wnew mold mnew (λ kind is. inl is) goes

pub goes_ok : {X Y : Type 0} (r : Result X Y) (taken : ℕ) (told tnew : Table) (wold wnew : List Word) (m : Memory)
    → IsWorkspace told wold m → OnOk r (Grew told tnew wold wnew)
    → OnOk r (GoesOn (IsSourceKind taken) told tnew wold wnew m m)
goes_ok (Ok x) taken told tnew wold wnew m workspace grew =
    goes_by_growth (IsSourceKind taken) told tnew wold wnew m grew.0 grew.1 workspace
goes_ok (Err x) taken told tnew wold wnew m workspace grew = tt

-- what a constant adds
pub constant_ok : {X Y : Type 0} (r : Result X Y) (told tnew : Table) (words : List Word)
    → OnOk r ((ws : List Word) → Grew told tnew ws ws) → OnOk r (Grew told tnew words words)
constant_ok (Ok x) told tnew words grew = grew words
constant_ok (Err x) told tnew words grew = tt
