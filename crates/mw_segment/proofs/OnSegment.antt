-- A path through the cycles of a segment.
use Rattle.std.proofs.Common.{◌≡◌, ℕ, zero, suc, ◌+◌, ◌≤◌, List, [], ◌∷◌, ◌++◌, length, length-append, Some, None}
use Rattle.std.proofs.Common.{ap, sym, subst, ◌∙◌, arith, refl}
use Rattle.std.proofs.Common.{inl, inr}
use Rattle.std.specs.Prelude.{All, true, false}
use Rattle.std.proofs.lemmas.List.Elements.{All-append}
use Rattle.mw_cycle.specs.Boundary.{is_named}
use Rattle.mw_segment.specs.Programs.{Program}
use Rattle.mw_segment.specs.Segments.{HasEnded, IsOnSegment, IsRunKind}
use Rattle.mw_segment.specs.Turns.{HasFinished, TurnsOnPath}
use Rattle.mw_segment.proofs.FirstEnd.{NoneNamed, ends_at, ends_late, none_named}
use Rattle.mw_space.specs.declared.space.Space.{Space}
use Rattle.mw_symboard.specs.Kinds.{IsCycleKind}
use Rattle.mw_symboard.specs.Laws.{run_in}
use Rattle.mw_symboard.specs.Paths.{Origin}
use Rattle.mw_symboard.specs.Seen.{Progress}
use Rattle.mw_symboard.specs.Turns.{IsSymbolic, IsTurn, Symbolic}
use Rattle.mw_symboard.proofs.OnPaths.{passed_go_on, passed_stay, paths_go_on}
use Rattle.mw_symmem.specs.declared.turn.Turn.{Turn}
use Rattle.mw_symmem.specs.declared.turn.Turn.TheVariants.{Ask, Finished}
use Rattle.mw_symmem.specs.Memory.{Memory}
use Rattle.mw_symmem.specs.Workspace.{GoesOn, IsWorkspace}
use Rattle.mw_symmem.proofs.Later.{goes_as}
use Rattle.mw_symmem.proofs.Lists.{behind}
use Rattle.mw_term.specs.declared.decided.Decided.{Decided}
use Rattle.mw_term.specs.declared.kinds.WordKind.{WordKind}
use Rattle.mw_term.specs.declared.word.Word.{Word}
use Rattle.mw_term.specs.Functions.{Function}
use Rattle.mw_term.specs.Table.{Table}

-- ---- variables

-- those that the cycle at a place makes
abbrev pub IsKindAt : Progress → WordKind → Type 0
IsKindAt p kind = IsCycleKind p.side p.cycle p.taken p.line kind

run_kind : (p : Progress) (kind : WordKind) → IsKindAt p kind → IsRunKind p kind
run_kind p kind is = elim is [
  | inl source ↦ elim source [
    | inl base ↦ inl base
    | inr input ↦ inr (inl (p.taken, input))
  ]
  | inr listed ↦ inr (inr (listed.0, p.cycle, listed.1, omega arith, λ line same. listed.2 line, listed.3))
]

-- the variables of a cycle are of a run's
pub goes_in_run : (p : Progress) (told tnew : Table) (wold wnew : List Word) (mold mnew : Memory)
    → GoesOn (IsKindAt p) told tnew wold wnew mold mnew → GoesOn (IsRunKind p) told tnew wold wnew mold mnew
goes_in_run p told tnew wold wnew mold mnew =
    goes_as (IsKindAt p) (IsRunKind p) told tnew wold wnew mold mnew (run_kind p)

-- ---- a turn

pub turns_on_path : (program : Program) (old new : Space) (b : Origin) (before after : Symbolic) (bits : List Decided)
    (path : Function) (turn : Turn) → IsWorkspace old.terms old.words old.memory
    → IsSymbolic program.board program.store old.terms old.words old.memory before
    → GoesOn (IsKindAt before.place) old.terms new.terms old.words new.words old.memory new.memory
    → IsTurn program.board program.store new.terms new.words old.memory new.memory before after turn
    → IsOnSegment program old b before bits path → TurnsOnPath program new b after bits path turn
turns_on_path program old new b before after bits path (Ask kind term) workspace symbolic goes turn on =
    let law = paths_go_on program.board program.store old.terms new.terms old.words new.words old.memory new.memory before
    after (Ask kind term) b bits path workspace symbolic goes turn on.path_is in (
      record {
        path_is = law.0;
        passed = on.passed;
        at_them = passed_stay program.board program.store old.terms new.terms old.words new.words goes.more old.memory
            new.memory b on.passed path path workspace goes.later goes.words goes.reads on.path_is.origin
            (λ given holds. holds) on.at_them;
        count = on.count ∙ sym (ap (λ (p : Progress). p.cycle) turn.0);
        none = on.none;
      },
      law.1 kind term refl,
    )
turns_on_path program old new b before after bits path Finished workspace symbolic goes turn on =
    let law = paths_go_on program.board program.store old.terms new.terms old.words new.words old.memory new.memory before
    after Finished b bits path workspace symbolic goes turn on.path_is in
    let passed = passed_stay program.board program.store old.terms new.terms old.words new.words goes.more old.memory
    new.memory b on.passed path path workspace goes.later goes.words goes.reads on.path_is.origin (λ given holds. holds)
    on.at_them in
    record {
      path_is = law.0;
      all = law.2 refl;
      passed = on.passed;
      at_them = passed_go_on program.board program.store new.terms new.words new.memory b after bits on.passed path law.0
          (omega (arith, turn.2, on.count)) passed;
      count = omega (arith, turn.2, on.count);
      none = on.none;
    }

-- ---- between two cycles

-- it is so of all elements of a list that has one
all_of_one : (P : ℕ → Type 0) (x : ℕ) → P x → All P (x ∷ [])
all_of_one P x holds zero other below = holds
all_of_one P x holds (suc k) other below = absurd (omega (arith, below))

-- a cycle that ended at no boundary
pub goes_on_path : (program : Program) (space : Space) (b : Origin) (o : Symbolic) (bits : List Decided) (path : Function)
    → is_named program.addresses o.place.at ≡ false → HasFinished program space b o bits path
    → IsOnSegment program space b o bits path
goes_on_path program space b o bits path other finished = record {
  path_is = finished.path_is;
  passed = finished.passed ++ o.place.at ∷ [];
  at_them = finished.at_them;
  count = omega (arith, length-append finished.passed (o.place.at ∷ []), finished.count);
  none = All-append (λ at. is_named program.addresses at ≡ false) finished.passed (o.place.at ∷ []) finished.none
      (all_of_one (λ at. is_named program.addresses at ≡ false) o.place.at other);
}

-- ---- its end

-- at a boundary
pub ends_on_path : (program : Program) (bound : ℕ) (space : Space) (b : Origin) (o : Symbolic) (bits : List Decided)
    (path : Function) → o.place.cycle ≤ bound → is_named program.addresses o.place.at ≡ true
    → HasFinished program space b o bits path → HasEnded program bound space b o bits path (Some o.place.cycle)
ends_on_path program bound space b o bits path within named finished = record {
  path_is = finished.path_is;
  all = finished.all;
  ends = λ given x is holds.
      let at : ℕ → ℕ = λ n. (run_in program.board program.store x n).state.at in
      let here : at o.place.cycle ≡ o.place.at = (finished.path_is.in_run given x is holds).state.at in
      let n = length finished.passed in
      let last : is_named program.addresses (at (n + 1)) ≡ true =
      ap (λ m. is_named program.addresses (at m)) finished.count ∙ ap (is_named program.addresses) here ∙ named in
      ends_at program.addresses at bound n (omega (arith, within, finished.count)) last
      (none_named program.addresses finished.passed at (λ k there found.
      finished.at_them given x is holds k there (behind finished.passed (o.place.at ∷ []) k there found)) finished.none)
      ∙ ap Some finished.count;
}

-- late
pub ends_late_on_path : (program : Program) (bound : ℕ) (space : Space) (b : Origin) (o : Symbolic)
    (bits : List Decided) (path : Function) → o.place.cycle ≡ bound → is_named program.addresses o.place.at ≡ false
    → HasFinished program space b o bits path → HasEnded program bound space b o bits path None
ends_late_on_path program bound space b o bits path all other finished =
    let on = goes_on_path program space b o bits path other finished in
    record {
      path_is = finished.path_is;
      all = finished.all;
      ends = λ given x is holds.
          let at : ℕ → ℕ = λ n. (run_in program.board program.store x n).state.at in
          ends_late program.addresses at bound
          (subst (NoneNamed program.addresses at) (on.count ∙ all)
          (none_named program.addresses on.passed at (on.at_them given x is holds) on.none));
    }
