-- Paths remain while what was made grows.
use Rattle.std.proofs.Common.{◌≡◌, ℕ, List, sym, subst, refl}
use Rattle.std.specs.Prelude.{Option, Some, None, IfSome}
use Rattle.std.specs.Option.{is_some}
use Rattle.mw_blast.specs.Shared.{IsShared}
use Rattle.mw_decide.specs.declared.traced.Waiting.{Waiting}
use Rattle.mw_decide.specs.SpacePaths.{HavePaths}
use Rattle.mw_decide.specs.Traces.{paths_over}
use Rattle.mw_dd.specs.Nodes.{IsDd, function_of}
use Rattle.mw_path.proofs.Sharing.{shared_with_more}
use Rattle.mw_path.specs.declared.paths.Paths.{Paths}
use Rattle.mw_path.specs.Paths.{AreMade, ArePaths, HaveGrown}
use Rattle.mw_space.specs.declared.space.Space.{Space}
use Rattle.mw_symmem.specs.Workspace.{IsLater}
use Rattle.mw_term.specs.Cofactors.{Agree}
use Rattle.mw_term.specs.Functions.{Function}
use Rattle.mw_term.specs.Laws.{StandsInMore}

-- functions that agree are one
one_function : (f g : Function) → Agree f g → f ≡ g
one_function f g agree = λ i given. agree given i

-- a path that was there is the same function
pub path_remains : (old new : Paths) (path : ℕ) → HaveGrown old new → IsDd old.dds path
    → function_of old.dds path ≡ function_of new.dds path
path_remains old new path grown there =
    one_function (function_of old.dds path) (function_of new.dds path) (λ given. sym (grown.nodes.same path there given))

-- what was written on it stands at its places still
pub paths_remain : (space : Space) (old new : Paths) (places : List ℕ) (path : ℕ) → StandsInMore → HaveGrown old new
    → AreMade new → ArePaths space.terms old.dds old.shared places path
    → ArePaths space.terms new.dds new.shared places path
paths_remain space old new places path law grown made are = record {
  there = grown.nodes.there path are.there;
  share = record {
    stands = law space.terms old.shared.terms new.shared.terms places grown.extends grown.terms are.share.stands;
    bits = made;
  };
}

-- they are right for what is written more
pub paths_later : (old new : Space) (paths : Paths) → IsLater old.terms new.terms → HavePaths old paths
    → HavePaths new paths
paths_later old new paths later have = record {
  there = have.there;
  share = shared_with_more old.terms new.terms paths.places paths.shared paths.dds later.extends later.keeps have.share;
}

-- those of one that was let wait are those of what was made
pub paths_wait : {C : Type 0} (space other : Space) (paths : Paths) (path : ℕ) (w : Waiting C) → HavePaths space paths
    → IsDd paths.dds path → other ≡ space → w.places ≡ paths.places → w.path ≡ path
    → HavePaths other (paths_over paths w)
paths_wait space other paths path w have there same places is = record {
  there = subst (IsDd paths.dds) (sym is) there;
  share = subst (λ (s : Space). IsShared s.terms paths.shared w.places paths.dds) (sym same)
      (subst (λ (ps : List ℕ). IsShared space.terms paths.shared ps paths.dds) (sym places) have.share);
}

-- ---- one that waits, where there is one

-- what holds of what is there
pub for_some : (P : ℕ → Type 0) (o : Option ℕ) (x : ℕ) → o ≡ Some x → IfSome o P → P x
for_some P o x is holds = subst (λ (p : Option ℕ). IfSome p P) is holds

-- what follows of what is there where another is
pub some_of_both : {W : Type 0} (R : W → ℕ → Type 0) (Q : W → Type 0) (waiting : Option W) (other : Option ℕ)
    → is_some waiting ≡ is_some other → IfSome waiting (λ w. IfSome other (λ path. R w path))
    → ((w : W) (path : ℕ) → other ≡ Some path → R w path → Q w) → IfSome waiting Q
some_of_both R Q None other same both leads = tt
some_of_both R Q (Some w) None same both leads = absurd cc
some_of_both R Q (Some w) (Some path) same both leads = leads w path refl both
