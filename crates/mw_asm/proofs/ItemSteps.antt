-- One token of a list of items.
use Rattle.std.proofs.Common.{◌≡◌, ℕ, ◌+◌, ◌≤◌, List, [], ◌∷◌, ◌++◌, Some, None, Result, Ok, Err, true, false, refl}
use Rattle.std.proofs.Common.{sym, ◌∙◌, drop, length}
use Rattle.std.proofs.lemmas.List.{drop_all}
use Rattle.mw_base.specs.declared.refusal.Refused.{Refused}
use Rattle.mw_base.specs.declared.refusal.Refused.TheVariants.{At, NoMemory}
use Rattle.mw_base.specs.declared.refusal.TextFault.{TextFault}
use Rattle.mw_base.specs.declared.sign.Sign.TheVariants.{Comma}
use Rattle.mw_base.specs.declared.token.Token.{Token}
use Rattle.mw_base.specs.Cursors.{Cursor}
use Rattle.mw_base.specs.Reading.{with_front, Fails}
use Rattle.mw_base.specs.Symbols.{symbol_of, is_sign}
use Rattle.mw_base.proofs.Lists.{with_front_twice, with_none}
use Rattle.mw_asm.specs.declared.items.Awaits.{Awaits}
use Rattle.mw_asm.specs.declared.items.Awaits.TheVariants as awaits
use Rattle.mw_asm.specs.declared.items.Item.{Item}
use Rattle.mw_asm.specs.Items.{follow, ended, passed, items_from}

-- a token that follows
pub goes_on : (old : List Item) (line : Cursor) (rest : List Token) (before : Awaits) (token : Token) (next : Awaits)
    → is_sign Comma (symbol_of line.text token) ≡ false
    → follow before token (symbol_of line.text token) ≡ Some next
    → with_front old (items_from line next rest) ≡ with_front old (items_from line before (token ∷ rest))
unfolding items_from
goes_on old line rest before token next other follows = rw (other, follows, with_none (items_from line next rest)) refl

-- a comma that ends an item
pub ends : (old : List Item) (line : Cursor) (rest : List Token) (before : Awaits) (token : Token) (item : Item)
    → is_sign Comma (symbol_of line.text token) ≡ true → ended before ≡ Some item
    → with_front (old ++ item ∷ []) (items_from line awaits.Name rest)
    ≡ with_front old (items_from line before (token ∷ rest))
unfolding items_from
ends old line rest before token item comma ended =
    rw (comma, ended, with_front_twice old (item ∷ []) (items_from line awaits.Name rest)) refl

-- a token that can't stand where it does
pub refused_at : (refusal : Refused TextFault) (old : List Item) (line : Cursor) (tokens : List Token) (n : ℕ)
    (token : Token) (before : Awaits) (total : Result (List Item) TextFault)
    → drop n tokens ≡ token ∷ drop (n + 1) tokens → Fails refusal (passed line before token)
    → with_front old (items_from line before (drop n tokens)) ≡ total → Fails refusal total
unfolding items_from
refused_at NoMemory old line tokens n token before total at fails so_far = tt
refused_at (At fault) old line tokens n token before total at fails so_far =
    let one : with_front old (items_from line before (drop n tokens)) ≡ Err fault = rw (at, fails) refl in
    sym so_far ∙ one

-- the line's end, which ends an item or can't stand where it does
pub all_passed : (old : List Item) (line : Cursor) (tokens : List Token) (n : ℕ) (before : Awaits) (item : Item)
    (total : Result (List Item) TextFault)
    → length tokens ≤ n → Some item ≡ ended before → with_front old (items_from line before (drop n tokens)) ≡ total
    → total ≡ Ok (old ++ item ∷ [])
unfolding items_from
all_passed old line tokens n before item total past is so_far =
    let one : with_front old (items_from line before (drop n tokens)) ≡ Ok (old ++ item ∷ []) =
    rw (drop_all n tokens past, ← is) refl in
    sym so_far ∙ one

pub ends_early : (old : List Item) (line : Cursor) (tokens : List Token) (n : ℕ) (before : Awaits)
    (total : Result (List Item) TextFault)
    → length tokens ≤ n → None ≡ ended before → with_front old (items_from line before (drop n tokens)) ≡ total
    → total ≡ Err line.end
unfolding items_from
ends_early old line tokens n before total past is so_far =
    let one : with_front old (items_from line before (drop n tokens)) ≡ Err line.end =
    rw (drop_all n tokens past, ← is) refl in
    sym so_far ∙ one
