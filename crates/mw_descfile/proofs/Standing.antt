-- The elements that stand in an expression that was read stand in its tokens.
use Rattle.std.proofs.Common.{◌≡◌, ℕ, zero, suc, ◌+◌, ◌<◌, ◌≤◌, List, [], ◌∷◌, ◌++◌, length, drop, Bool, true, false}
use Rattle.std.proofs.Common.{refl, ◌∙◌, sym, ap, arith, append_assoc, append-nil}
use Rattle.std.proofs.lemmas.List.{drop_all}
use Rattle.std.specs.Prelude.{Option, Some, None, ◌||◌, ◌&&◌, ◌==◌, unwrap_or}
use Rattle.std.proofs.lemmas.Bool.{and_parts}
use Rattle.std.proofs.lemmas.List.Folds.{list_any-append}
use Rattle.mw_base.specs.declared.sign.Sign.TheVariants as signs
use Rattle.mw_base.specs.declared.symbol.Symbol.TheVariants.{Sign}
use Rattle.mw_base.specs.declared.token.Token.{Token}
use Rattle.mw_base.specs.Symbols.{symbol_of, is_sign}
use Rattle.mw_expr.specs.Grammar.{Meaning}
use Rattle.mw_expr.specs.Placed.{Placed, parts_of}
use Rattle.mw_expr.specs.Plain.{plain, plain_parts, is_small_number, is_small, are_small}
use Rattle.mw_expr.specs.Syntax.{Begin, BeginParts, by_choice, by_pair, by_complement, by_part, by_bit, by_constant}
use Rattle.mw_expr.specs.Syntax.{by_name, by_dotted_name, by_memory, by_group, by_join, by_widening, first_part}
use Rattle.mw_expr.specs.Syntax.{next_part}
use Rattle.mw_expr.specs.Tree.{element}
use Rattle.mw_rel.specs.Lines.{stands_in, stands_in_one}
use Rattle.mw_descfile.specs.declared.uses.Use.{Use}
use Rattle.mw_descfile.specs.KeptRelation.{is_among}
use Rattle.mw_descfile.specs.RelationLines.{dotted_number, use_at, use_first, uses_of}

-- ---- one of two

pub either : {P : Type 0} (a b : Bool) → (a || b) ≡ true → (a ≡ true → P) → (b ≡ true → P) → P
either true b is one other = one refl
either false b is one other = other is

pub first_is : (a b : Bool) → a ≡ true → (a || b) ≡ true
first_is true b is = refl
first_is false b is = absurd cc

pub second_is : (a b : Bool) → b ≡ true → (a || b) ≡ true
second_is true b is = refl
second_is false b is = is

-- ---- uses in tokens

pub among_front : (xs ys : List Use) (e : ℕ) → is_among xs e ≡ true → is_among (xs ++ ys) e ≡ true
among_front xs ys e is =
    list_any-append (λ (u : Use). u.number == e) xs ys ∙ first_is (is_among xs e) (is_among ys e) is

pub among_back : (xs ys : List Use) (e : ℕ) → is_among ys e ≡ true → is_among (xs ++ ys) e ≡ true
among_back xs ys e is =
    list_any-append (λ (u : Use). u.number == e) xs ys ∙ second_is (is_among xs e) (is_among ys e) is

-- from one token on: the element there, and those from the next token on
pub from_next : (text : List ℕ) (names : List (List ℕ)) (tokens : List Token) (n : ℕ) → n < length tokens
    → uses_of text names (drop n tokens)
    ≡ use_first text names (drop n tokens) ++ uses_of text names (drop (n + 1) tokens)
unfolding uses_of
from_next text names [] n within = absurd (omega arith)
from_next text names (token ∷ rest) zero within = refl
from_next text names (token ∷ rest) (suc n) within =
    let e : suc n + 1 ≡ suc (n + 1) = omega arith in
    rw e (from_next text names rest n (omega arith))

pub one_use : (text : List ℕ) (names : List (List ℕ)) (tokens : List Token) (old new total : List Use) (n : ℕ)
    → n < length tokens → new ≡ old ++ use_first text names (drop n tokens)
    → old ++ uses_of text names (drop n tokens) ≡ total → new ++ uses_of text names (drop (n + 1) tokens) ≡ total
one_use text names tokens old new total n within more so_far =
    rw more (append_assoc old (use_first text names (drop n tokens)) (uses_of text names (drop (n + 1) tokens))
    ∙ ap (λ (uses : List Use). old ++ uses) (sym (from_next text names tokens n within)) ∙ so_far)

pub no_use_more : (text : List ℕ) (names : List (List ℕ)) (tokens : List Token) (old total : List Use) (n : ℕ)
    → length tokens ≤ n → old ++ uses_of text names (drop n tokens) ≡ total → old ≡ total
unfolding uses_of
no_use_more text names tokens old total n past so_far = sym (append-nil old) ∙ rw (drop_all n tokens past) at so_far

-- an element stands in some tokens
record Stands (m : Meaning) (e : ℕ) (tokens : List Token) : Type 0 where
  is : is_among (uses_of m.text m.names tokens) e ≡ true

-- so it does where a token more stands before them
behind_one : (m : Meaning) (e : ℕ) (token : Token) (tokens : List Token)
    → is_among (uses_of m.text m.names tokens) e ≡ true
    → is_among (uses_of m.text m.names (token ∷ tokens)) e ≡ true
unfolding uses_of
behind_one m e token tokens is =
    among_back (use_first m.text m.names (token ∷ tokens)) (uses_of m.text m.names tokens) e is

more : {m : Meaning} {e : ℕ} {token : Token} {tokens : List Token} → Stands m e tokens → Stands m e (token ∷ tokens)
more {m = m} {e = e} {token = token} {tokens = tokens} stands = record { is = behind_one m e token tokens stands.is }

-- the use of an element that there is
use_is : (owner : Token) (found : Option ℕ) (e : ℕ) → is_small_number found ≡ true
    → stands_in e (element (unwrap_or found 0)) ≡ true → is_among (use_at owner found) e ≡ true
use_is owner (Some n) e small is = first_is (n == e) false is
use_is owner None e small is = absurd cc

-- an element OWNER . NAME
here : (m : Meaning) (e : ℕ) (owner dot name : Token) (rest : List Token) → symbol_of m.text dot ≡ Sign signs.Dot
    → is_small_number (dotted_number m.text m.names owner name) ≡ true
    → stands_in e (element (unwrap_or (dotted_number m.text m.names owner name) 0)) ≡ true
    → is_among (uses_of m.text m.names (owner ∷ dot ∷ name ∷ rest)) e ≡ true
unfolding uses_of
here m e owner dot name rest is_dot small is =
    let use_here = use_is owner (dotted_number m.text m.names owner name) e small is in
    rw is_dot (among_front (use_at owner (dotted_number m.text m.names owner name))
    (uses_of m.text m.names (dot ∷ name ∷ rest)) e use_here)

-- ---- an element that stands behind an expression stands from its beginning on

mutual
  behind : {m : Meaning} {n : ℕ} {from rest : List Token} {tree : Placed} (e : ℕ) → Begin m n from tree rest
      → Stands m e rest → Stands m e from
  behind e (by_choice c is_q a is_colon b) is = behind e c (more (behind e a (more (behind e b is))))
  behind e (by_pair low a is_sign is_pair b) is = behind e a (more (behind e b is))
  behind e (by_complement low is_not x) is = more (behind e x is)
  behind e (by_part low x bracket high colon low_bit close) is = behind e x (more (more (more (more (more is)))))
  behind e (by_bit low x bracket place close) is = behind e x (more (more (more is)))
  behind e (by_constant low number hash bits) is = more (more (more is))
  behind e (by_name low plain_name name) is = more is
  behind e (by_dotted_name low dotted owner dot name) is = more (more (more is))
  behind e (by_memory low there word bracket x close) is = more (more (behind e x (more is)))
  behind e (by_group low is_open x close) is = more (behind e x (more is))
  behind e (by_join low is_open all two close) is = more (behind_parts e all (more is))
  behind e (by_widening low word is_open x comma bits close) is = more (more (behind e x (more (more (more is)))))

  behind_parts : {m : Meaning} {from rest : List Token} {parts : List Placed} (e : ℕ) → BeginParts m from parts rest
      → Stands m e rest → Stands m e from
  behind_parts e (first_part x) is = behind e x is
  behind_parts e (next_part all comma last) is = behind_parts e all (more (behind e last is))

-- ---- an element that stands in an expression stands in its tokens

-- one that stands in some parts and one more stands in one of both
one_of : {P : Type 0} (e : ℕ) (parts : List Placed) (last : Placed)
    → stands_in_one e (plain_parts (parts_of (parts ++ last ∷ []))) ≡ true
    → (stands_in_one e (plain_parts (parts_of parts)) ≡ true → P) → (stands_in e (plain last) ≡ true → P) → P
one_of e [] last is one other = either (stands_in e (plain last)) false is other (λ no. absurd cc)
one_of e (x ∷ parts) last is one other =
    either (stands_in e (plain x)) (stands_in_one e (plain_parts (parts_of (parts ++ last ∷ [])))) is
    (λ first. one (first_is (stands_in e (plain x)) (stands_in_one e (plain_parts (parts_of parts))) first))
    (λ later. one_of e parts last later
    (λ before. one (second_is (stands_in e (plain x)) (stands_in_one e (plain_parts (parts_of parts))) before)) other)

small_both : (parts : List Placed) (last : Placed) → are_small (parts_of (parts ++ last ∷ [])) ≡ true
    → (are_small (parts_of parts) ≡ true) × (is_small last ≡ true)
small_both [] last small = (refl, (and_parts (is_small last) true small).0)
small_both (x ∷ parts) last small =
    let one = and_parts (is_small x) (are_small (parts_of (parts ++ last ∷ []))) small in
    let rest = small_both parts last one.1 in
    (both_are (is_small x) (are_small (parts_of parts)) one.0 rest.0, rest.1)
  where
    both_are : (a b : Bool) → a ≡ true → b ≡ true → (a && b) ≡ true
    both_are true b is other = other
    both_are false b is other = absurd cc

mutual
  within : {m : Meaning} {n : ℕ} {from rest : List Token} {tree : Placed} (e : ℕ) → m.is_dotted ≡ true
      → Begin m n from tree rest → is_small tree ≡ true → stands_in e (plain tree) ≡ true → Stands m e from
  within e dotted (by_choice c is_q a is_colon b) small is =
      let one = and_parts _ _ small in
      let two = and_parts _ _ one.1 in
      either _ _ is (within e dotted c one.0) (λ later. either _ _ later
      (λ first. behind e c (more (within e dotted a two.0 first)))
      (λ second. behind e c (more (behind e a (more (within e dotted b two.1 second))))))
  within e dotted (by_pair low a is_sign is_pair b) small is =
      let both = and_parts _ _ small in
      either _ _ is (within e dotted a both.0) (λ second. behind e a (more (within e dotted b both.1 second)))
  within e dotted (by_complement low is_not x) small is = more (within e dotted x small is)
  within e dotted (by_part low x bracket high colon low_bit close) small is =
      within e dotted x (and_parts _ _ small).0 is
  within e dotted (by_bit low x bracket place close) small is = within e dotted x (and_parts _ _ small).0 is
  within e dotted (by_constant low number hash bits) small is = absurd cc
  within e dotted (by_name low plain_name name) small is = absurd cc
  within {m = m} e dotted
      (by_dotted_name {rest = rest} {owner = owner} {dot = dot} {name = name} low is_dotted is_owner is_dot is_name)
      small is =
      record { is = here m e owner dot name rest is_dot small is }
  within e dotted (by_memory low there word bracket x close) small is = more (more (within e dotted x small is))
  within e dotted (by_group low is_open x close) small is = more (within e dotted x small is)
  within e dotted (by_join low is_open all two close) small is = more (within_parts e dotted all small is)
  within e dotted (by_widening low word is_open x comma bits close) small is =
      more (more (within e dotted x (and_parts _ _ small).0 is))

  within_parts : {m : Meaning} {from rest : List Token} {parts : List Placed} (e : ℕ) → m.is_dotted ≡ true
      → BeginParts m from parts rest → are_small (parts_of parts) ≡ true
      → stands_in_one e (plain_parts (parts_of parts)) ≡ true → Stands m e from
  within_parts e dotted (first_part x) small is =
      either _ false is (within e dotted x (and_parts _ _ small).0) (λ no. absurd cc)
  within_parts e dotted (next_part {parts = parts} {e = last} all comma x) small is =
      let both = small_both parts last small in
      one_of e parts last is (within_parts e dotted all both.0)
      (λ second. behind_parts e all (more (within e dotted x both.1 second)))

-- of a whole expression
pub stands_in_tokens : (m : Meaning) (e : ℕ) (tokens : List Token) (tree : Placed) → m.is_dotted ≡ true
    → Begin m 0 tokens tree [] → is_small tree ≡ true → stands_in e (plain tree) ≡ true
    → is_among (uses_of m.text m.names tokens) e ≡ true
stands_in_tokens m e tokens tree dotted begun small is = (within e dotted begun small is).is
