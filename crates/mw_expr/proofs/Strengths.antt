-- How strongly what stands open asks an operand to bind, and signs that are spelled alike.
use Rattle.std.proofs.Common.{◌≡◌, ℕ, zero, suc, ◌≤◌, List, true, refl, ap, ◌∙◌, sym, arith}
use Rattle.std.specs.Prelude.{Some}
use Rattle.std.specs.Str.{bytes_eq}
use Rattle.std.proofs.lemmas.Slice.Eq.{bytes_eq-Decides}
use Rattle.mw_base.specs.declared.sign.Sign.{Sign as SignOf}
use Rattle.mw_base.specs.declared.sign.Sign.TheVariants as signs
use Rattle.mw_base.specs.declared.symbol.Symbol.{Symbol}
use Rattle.mw_base.specs.declared.symbol.Symbol.TheVariants.{Name, Number, Sign, Other}
use Rattle.mw_base.specs.declared.token.Token.{Token}
use Rattle.mw_base.specs.Signs.{bytes_of, sign_of}
use Rattle.mw_base.specs.Symbols.{is_sign}
use Rattle.mw_expr.specs.declared.expr.Pair2.{Pair2}
use Rattle.mw_expr.specs.declared.expr.Pair2.TheVariants.{And, Or, Xor, Add, Sub, Same, Differ, Less}
use Rattle.mw_expr.specs.Grammar.{Meaning, strength}
use Rattle.mw_expr.specs.Placed.{Placed, Open, nothing, complementing, pairing, choosing, otherwise, grouping, joining}
use Rattle.mw_expr.specs.Placed.{widening, reading}
use Rattle.mw_expr.specs.Syntax.{prefix, Begin, by_choice, by_pair, by_complement, by_part, by_bit, by_constant}
use Rattle.mw_expr.specs.Syntax.{by_name, by_dotted_name, by_memory, by_group, by_join, by_widening}

-- an operand of what is open binds at least so strongly
abbrev pub floor : Open → ℕ
floor (complementing token below) = prefix
floor (pairing op token left below) = suc (strength op)
floor other = 0

pub strength_most : (op : Pair2) → strength op ≤ 5
strength_most And = omega arith
strength_most Or = omega arith
strength_most Xor = omega arith
strength_most Add = omega arith
strength_most Sub = omega arith
strength_most Same = omega arith
strength_most Differ = omega arith
strength_most Less = omega arith

pub strength_least : (op : Pair2) → 1 ≤ strength op
strength_least And = omega arith
strength_least Or = omega arith
strength_least Xor = omega arith
strength_least Add = omega arith
strength_least Sub = omega arith
strength_least Same = omega arith
strength_least Differ = omega arith
strength_least Less = omega arith

pub floor_most : (o : Open) → floor o ≤ prefix
floor_most nothing = omega arith
floor_most (complementing token below) = omega arith
floor_most (pairing op token left below) = omega (arith, strength_most op)
floor_most (choosing token c below) = omega arith
floor_most (otherwise token c a below) = omega arith
floor_most (grouping token below) = omega arith
floor_most (joining token parts below) = omega arith
floor_most (widening token below) = omega arith
floor_most (reading token below) = omega arith

-- nothing asks for strength 1 alone
pub floor_none : (o : Open) → floor o ≤ 1 → floor o ≤ 0
floor_none nothing low = omega arith
floor_none (complementing token below) low = absurd (omega arith)
floor_none (pairing op token left below) low = absurd (omega (arith, strength_least op))
floor_none (choosing token c below) low = omega arith
floor_none (otherwise token c a below) low = omega arith
floor_none (grouping token below) low = omega arith
floor_none (joining token parts below) low = omega arith
floor_none (widening token below) low = omega arith
floor_none (reading token below) low = omega arith

-- what binds so strongly binds at least as strongly as anything weaker
pub weaker : {m : Meaning} (least n : ℕ) {from rest : List Token} {tree : Placed} → Begin m n from tree rest
    → least ≤ n → Begin m least from tree rest
weaker zero n (by_choice c is_q a is_colon b) le = by_choice c is_q a is_colon b
weaker (suc least) n (by_choice c is_q a is_colon b) le = absurd (omega arith)
weaker least n (by_pair low a is_sign is_pair b) le = by_pair (omega arith) a is_sign is_pair b
weaker least n (by_complement low is_not e) le = by_complement (omega arith) is_not e
weaker least n (by_part low e bracket high colon low_bit close) le = by_part
    (omega arith) e bracket high colon low_bit close
weaker least n (by_bit low e bracket place close) le = by_bit (omega arith) e bracket place close
weaker least n (by_constant low number hash bits) le = by_constant (omega arith) number hash bits
weaker least n (by_name low plain name) le = by_name (omega arith) plain name
weaker least n (by_dotted_name low dotted owner dot name) le = by_dotted_name (omega arith) dotted owner dot name
weaker least n (by_memory low there word bracket e close) le = by_memory (omega arith) there word bracket e close
weaker least n (by_group low is_open e close) le = by_group (omega arith) is_open e close
weaker least n (by_join low brace parts two close) le = by_join (omega arith) brace parts two close
weaker least n (by_widening low word is_open e comma bits close) le = by_widening
    (omega arith) word is_open e comma bits close

-- a sign is the one that is spelled so
pub found_again : (s : SignOf) → sign_of (bytes_of s) ≡ Some s
unfolding sign_of
found_again signs.Equals = refl
found_again signs.Colon = refl
found_again signs.Comma = refl
found_again signs.Hash = refl
found_again signs.Plus = refl
found_again signs.Minus = refl
found_again signs.And = refl
found_again signs.Or = refl
found_again signs.Xor = refl
found_again signs.Not = refl
found_again signs.OpenParenthesis = refl
found_again signs.CloseParenthesis = refl
found_again signs.OpenBracket = refl
found_again signs.CloseBracket = refl
found_again signs.OpenBrace = refl
found_again signs.CloseBrace = refl
found_again signs.Question = refl
found_again signs.Less = refl
found_again signs.Dot = refl
found_again signs.Assign = refl
found_again signs.Same = refl
found_again signs.Differ = refl

pub some_same : {A : Type 0} (x y : A) → Some x ≡ Some y → x ≡ y
some_same x y same = cc

spelled_alike : (a b : SignOf) → bytes_eq (bytes_of a) (bytes_of b) ≡ true → a ≡ b
spelled_alike a b same = some_same a b (sym (found_again a)
    ∙ ap sign_of ((bytes_eq-Decides (bytes_of a) (bytes_of b)).0 same) ∙ found_again b)

-- a symbol that is a sign
pub sign_is : (s : SignOf) (symbol : Symbol) → is_sign s symbol ≡ true → symbol ≡ Sign s
sign_is s (Sign other) is = ap Sign (spelled_alike other s is)
sign_is s Name is = cc
sign_is s (Number value) is = cc
sign_is s Other is = cc
