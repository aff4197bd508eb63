-- A fault of the grammar ends the front of an expression.
use Rattle.std.proofs.Common.{◌≡◌, ℕ, zero, suc, List, [], ◌∷◌, ◌++◌, append_assoc, append-nil, refl, sym, ap, ◌∙◌}
use Rattle.std.proofs.Common.{subst, arith}
use Rattle.std.specs.Prelude.{Option, Some, None, ok_or, All, Result, Ok, Err}
use Rattle.mw_base.specs.declared.refusal.TextFault.{TextFault}
use Rattle.mw_base.specs.declared.token.Token.{Token}
use Rattle.mw_base.specs.Cursors.{Cursor, misplaced}
use Rattle.mw_base.specs.Reading.{◌>>=◌}
use Rattle.mw_base.specs.Symbols.{symbol_of}
use Rattle.mw_expr.specs.Fronts.{IsInText, longer, IsFront, IsFrontFault, at_token, at_end, FaultsEndFronts}
use Rattle.mw_expr.specs.Grammar.{Meaning, follows, ended, tree_from, tree_of, beginning}
use Rattle.mw_expr.specs.Placed.{State}
use Rattle.mw_expr.proofs.Closing.{closes_any}
use Rattle.mw_expr.proofs.Complete.{step, is_read_where_ruled}
use Rattle.mw_expr.proofs.Longer.{HasRead, follows_longer, Holds, holds}
use Rattle.mw_expr.proofs.Sound.{sound}

-- however the text goes on, these tokens lead to this state
abbrev pub LeadsTo : Meaning → List Token → State → Type 0
LeadsTo m front s = (more : List ℕ) (cursor : Cursor) (rest : List Token)
    → tree_from (longer m more) cursor beginning (front ++ rest) ≡ tree_from (longer m more) cursor s rest

is_front : (m : Meaning) (cursor : Cursor) (front : List Token) (s : State) → HasRead m s.awaits → LeadsTo m front s
    → IsFront m front
is_front m cursor front s read leads =
    let closes = closes_any m cursor s.awaits s.open_now read in
    record {
      more = closes.more;
      rest = closes.rest;
      tree = closes.tree;
      spelled_so = closes.spelled_so;
      whole = sound (longer m closes.more) cursor (front ++ closes.rest)
          (front ++ closes.rest) beginning closes.tree refl
          (leads closes.more cursor closes.rest ∙ closes.reads);
    }

-- a token that can't follow
stops : (m : Meaning) (cursor : Cursor) (s : State) (token : Token) (rest : List Token)
    → follows m token (symbol_of m.text token) s.awaits s.open_now ≡ None
    → tree_from m cursor s (token ∷ rest) ≡ Err (misplaced token cursor)
unfolding tree_from
stops m cursor s token rest is = rw is refl

-- a reader gives a value or a fault
no_both : {A F : Type 0} (r : Result A F) (x : A) (fault : F) → r ≡ Ok x → r ≡ Err fault → ⊥
no_both (Ok y) x fault ok err = cc
no_both (Err y) x fault ok err = cc

is_no_front : (m : Meaning) (cursor : Cursor) (front : List Token) (s : State) (token : Token) → IsInText m.text token
    → HasRead m s.awaits → LeadsTo m front s
    → follows m token (symbol_of m.text token) s.awaits s.open_now ≡ None → IsFront m (front ++ token ∷ []) → ⊥
is_no_front m cursor front s token within read leads is whole =
    let tokens = (front ++ token ∷ []) ++ whole.rest in
    let longest = longer m whole.more in
    let there : Cursor = record cursor { tokens = tokens } in
    let reads = is_read_where_ruled longest there whole.tree whole.whole in
    let refused = ap (λ all. tree_from longest there beginning all) (append_assoc front (token ∷ []) whole.rest)
    ∙ leads whole.more there (token ∷ whole.rest)
    ∙ stops longest there s token whole.rest
    (follows_longer m whole.more token s.awaits s.open_now within read ∙ is) in
    no_both (tree_of longest there) whole.tree (misplaced token there) reads refused

one_further : (m : Meaning) (front : List Token) (s next : State) (token : Token) → IsInText m.text token
    → HasRead m s.awaits → LeadsTo m front s
    → follows m token (symbol_of m.text token) s.awaits s.open_now ≡ Some next → LeadsTo m (front ++ token ∷ []) next
one_further m front s next token within read leads is more cursor rest =
    ap (λ all. tree_from (longer m more) cursor beginning all) (append_assoc front (token ∷ []) rest)
    ∙ leads more cursor (token ∷ rest)
    ∙ step (longer m more) cursor s.awaits s.open_now token rest next
    (follows_longer m more token s.awaits s.open_now within read ∙ is)

of_none : {A F : Type 0} (o : Option A) (end fault : F) → ok_or o end ≡ Err fault → fault ≡ end
of_none (Some x) end fault is = absurd cc
of_none None end fault is = cc

of_refusal : {A B F : Type 0} (o : Option A) (at fault : F) (goes_on : A → Result B F) → o ≡ None
    → (ok_or o at >>= goes_on) ≡ Err fault → fault ≡ at
of_refusal (Some x) at fault goes_on none is = absurd cc
of_refusal None at fault goes_on none is = cc

-- where these tokens are left, and the state to which those before them lead refuses them
abbrev pub Further : Meaning → Cursor → TextFault → List Token → Type 0
Further m cursor fault here = (front : List Token) (s : State) → cursor.tokens ≡ front ++ here
    → All (IsInText m.text) here
    → HasRead m s.awaits → LeadsTo m front s → tree_from m cursor s here ≡ Err fault → IsFrontFault m cursor fault

ends_front : (m : Meaning) (cursor : Cursor) (fault : TextFault) → tree_of m cursor ≡ Err fault → (here : List Token)
    → Further m cursor fault here
unfolding tree_from
ends_front m cursor fault refused [] front s all within read leads is =
    at_end (of_none (ended s.awaits s.open_now) cursor.end fault is)
    (subst (IsFront m) (sym (append-nil front) ∙ sym all) (is_front m cursor front s read leads))
    (λ tree ruled. no_both (tree_of m cursor) tree fault (is_read_where_ruled m cursor tree ruled) refused)
ends_front m cursor fault refused (token ∷ rest) front s all within read leads is =
    on (follows m token (symbol_of m.text token) s.awaits s.open_now) refl (ends_front m cursor fault refused rest)
  where
    first : IsInText m.text token
    first = within zero token (omega arith)

    on : (o : Option State) → follows m token (symbol_of m.text token) s.awaits s.open_now ≡ o
        → Further m cursor fault rest → IsFrontFault m cursor fault
    on None none later =
        at_token front rest token all
        (of_refusal (follows m token (symbol_of m.text token) s.awaits s.open_now) (misplaced token cursor) fault
        (λ next. tree_from m cursor next rest) none is)
        (is_front m cursor front s read leads) (is_no_front m cursor front s token first read leads none)
    on (Some next) follow later =
        later (front ++ token ∷ []) next (all ∙ sym (append_assoc front (token ∷ []) rest))
        (λ k d below. within (suc k) d (omega (arith, below)))
        (subst (Holds m) follow (holds m token s.awaits s.open_now first read))
        (one_further m front s next token first read leads follow)
        (sym (step m cursor s.awaits s.open_now token rest next follow) ∙ is)

pub faults_end_fronts : FaultsEndFronts
faults_end_fronts m cursor fault within refused =
    ends_front m cursor fault refused cursor.tokens [] beginning refl within tt (λ more cursor rest. refl) refused
