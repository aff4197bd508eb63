-- The courses that wait.
use Rattle.std.proofs.Common.{◌≡◌, ◌<◌, List, length, arith, [], ◌∷◌, ◌++◌, append-nil, append_assoc, ap, sym, ◌∙◌, refl}
use Rattle.std.specs.Prelude.{Bool, true, false, Some, None, if◌then◌else◌}
use Rattle.std.specs.List.{AllZip}
use Rattle.mw_explore.specs.declared.way.Kept.{Kept}
use Rattle.mw_explore.specs.Ways.{all_turned, turned, turned_behind, turned_last}
use Rattle.mw_explore.proofs.Ordering.{turned_at, none_turned as last_none}

-- ---- the bits at which they wait

-- a bit that can be turned
one_turned : (before : List Kept) (k : Kept) → k.other ≡ true
    → (if k.other then turned_behind before k.bit.kind ∷ [] else []) ≡ turned_behind before k.bit.kind ∷ []
one_turned before k can =
    ap (λ (b : Bool). if b then turned_behind before k.bit.kind ∷ [] else []) can

-- one that can't
none_turned : (before : List Kept) (k : Kept) → k.other ≡ false
    → (if k.other then turned_behind before k.bit.kind ∷ [] else []) ≡ []
none_turned before k can = ap (λ (b : Bool). if b then turned_behind before k.bit.kind ∷ [] else []) can

-- those of bits, and those of others behind them
turned_then : (before xs ys : List Kept)
    → all_turned before (xs ++ ys) ≡ all_turned before xs ++ all_turned (before ++ xs) ys
turned_then before [] ys = ap (λ (b : List Kept). all_turned b ys) (sym (append-nil before))
turned_then before (x ∷ xs) ys =
    let here = if x.other then turned_behind before x.bit.kind ∷ [] else [] in
    ap (λ (rest : List (List Kept)). here ++ rest) (turned_then (before ++ x ∷ []) xs ys)
    ∙ sym (append_assoc here (all_turned (before ++ x ∷ []) xs) (all_turned ((before ++ x ∷ []) ++ xs) ys))
    ∙ ap (λ (b : List Kept). (here ++ all_turned (before ++ x ∷ []) xs) ++ all_turned b ys)
    (append_assoc before (x ∷ []) xs)

-- where none of some bits can be turned, there are none
no_turned : (before kept : List Kept) → turned_last kept ≡ None → all_turned before kept ≡ []
no_turned before [] none = refl
no_turned before (k ∷ rest) none =
    let no = last_none k (turned_last rest) none in
    ap (λ (l : List (List Kept)). l ++ all_turned (before ++ k ∷ []) rest) (none_turned before k no.1)
    ∙ no_turned (before ++ k ∷ []) rest no.0

-- the last of them is that of the last bit that can be turned
pub last_turned : (kept now : List Kept) → turned_last kept ≡ Some now
    → all_turned [] kept ≡ all_turned [] now ++ now ∷ []
last_turned kept now turns =
    let t = turned_at kept now turns in
    let front = all_turned [] t.front in
    let old : all_turned [] kept ≡ front ++ turned_behind t.front t.bit.bit.kind ∷ [] =
    ap (all_turned []) t.kept_is ∙ turned_then [] t.front (t.bit ∷ t.behind)
    ∙ ap (λ (l : List (List Kept)). front ++ (l ++ all_turned (t.front ++ t.bit ∷ []) t.behind))
    (one_turned t.front t.bit t.can)
    ∙ ap (λ (l : List (List Kept)). front ++ (turned_behind t.front t.bit.bit.kind ∷ l))
    (no_turned (t.front ++ t.bit ∷ []) t.behind t.none) in
    let new : all_turned [] now ≡ front =
    ap (all_turned []) t.now_is ∙ turned_then [] t.front (turned t.bit ∷ []) ∙ append-nil front in
    old ∙ ap (λ (l : List (List Kept)). l ++ turned_behind t.front t.bit.bit.kind ∷ []) (sym new)
    ∙ ap (λ (l : List Kept). all_turned [] now ++ l ∷ []) (sym t.now_is)

-- one bit more, which can't be turned
pub more_fixed : (kept : List Kept) (k : Kept) → k.other ≡ false → all_turned [] (kept ++ k ∷ []) ≡ all_turned [] kept
more_fixed kept k can =
    turned_then [] kept (k ∷ []) ∙ ap (λ (l : List (List Kept)). all_turned [] kept ++ (l ++ [])) (none_turned kept k can)
    ∙ append-nil (all_turned [] kept)

-- or which can
pub more_turned : (kept : List Kept) (k : Kept) → k.other ≡ true
    → all_turned [] (kept ++ k ∷ []) ≡ all_turned [] kept ++ turned_behind kept k.bit.kind ∷ []
more_turned kept k can =
    turned_then [] kept (k ∷ []) ∙ ap (λ (l : List (List Kept)). all_turned [] kept ++ (l ++ [])) (one_turned kept k can)

-- ---- the last of two lists

none_against : {A B : Type 0} (R : A → B → Type 0) (xs : List A) (x : A) → AllZip R (xs ++ x ∷ []) [] → ⊥
none_against R [] x all = all
none_against R (y ∷ xs) x all = all

-- there is a last one
pub some_last : {A B : Type 0} (R : A → B → Type 0) (xs : List A) (x : A) (ys : List B) → AllZip R (xs ++ x ∷ []) ys
    → 0 < length ys
some_last R xs x [] all = absurd (none_against R xs x all)
some_last R xs x (y ∷ ys) all = omega arith

-- so it is of the last of both, and of those before
pub zip_last : {A B : Type 0} (R : A → B → Type 0) (xs : List A) (x : A) (ys : List B) (y : B)
    → AllZip R (xs ++ x ∷ []) (ys ++ y ∷ []) → AllZip R xs ys × R x y
zip_last R [] x [] y all = (tt, all.0)
zip_last R [] x (z ∷ ys) y all = absurd (more ys all.1)
  where
    more : (zs : List _) → AllZip R [] (zs ++ y ∷ []) → ⊥
    more [] none = none
    more (w ∷ zs) none = none
zip_last R (z ∷ xs) x [] y all = absurd (none_against R xs x all.1)
zip_last R (z ∷ xs) x (w ∷ ys) y all =
    let rest = zip_last R xs x ys y all.1 in ((all.0, rest.0), rest.1)

pub zip_more : {A B : Type 0} (R : A → B → Type 0) (xs : List A) (ys : List B) (x : A) (y : B) → AllZip R xs ys
    → R x y → AllZip R (xs ++ x ∷ []) (ys ++ y ∷ [])
zip_more R [] [] x y all is = (is, tt)
zip_more R [] (z ∷ ys) x y all is = absurd all
zip_more R (z ∷ xs) [] x y all is = absurd all
zip_more R (z ∷ xs) (w ∷ ys) x y all is = (all.0, zip_more R xs ys x y all.1 is)

pub zip_map : {A B : Type 0} (R S : A → B → Type 0) (xs : List A) (ys : List B) → ((x : A) (y : B) → R x y → S x y)
    → AllZip R xs ys → AllZip S xs ys
zip_map R S [] [] leads all = tt
zip_map R S [] (y ∷ ys) leads all = absurd all
zip_map R S (x ∷ xs) [] leads all = absurd all
zip_map R S (x ∷ xs) (y ∷ ys) leads all = (leads x y all.0, zip_map R S xs ys leads all.1)
