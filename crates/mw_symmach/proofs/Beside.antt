-- Terms beside one another, joined one after another.
use Rattle.std.proofs.Common.{◌≡◌, ℕ, ◌+◌, ◌*◌, ◌^◌, ◌<◌, ◌≤◌, List, [], ◌∷◌, length, drop, slice_index, refl, ap, ap₂}
use Rattle.std.proofs.Common.{arith, sym, ◌∙◌}
use Rattle.std.proofs.Math.Nat.{add-mul, mul_assoc}
use Rattle.std.proofs.lemmas.Nat.{pow-add}
use Rattle.std.proofs.lemmas.List.{drop_more}
use Rattle.mw_base.specs.Words as bits
use Rattle.mw_term.specs.Assigned.{Given}
use Rattle.mw_term.specs.Table.{Table, term_width}
use Rattle.mw_term.specs.Values.{term_value}
use Rattle.mw_term.specs.declared.word.Word.{Word}
use Rattle.mw_symmach.specs.GivenTerms.{Gives}
use Rattle.mw_symmach.specs.Joined.{width_together, joined_value}
use Rattle.mw_symmach.proofs.Single.{gives_then, gives_alike, gives_itself, of_own_width}

-- a word of w bits with these values is made of the first of some terms, and these are the rest
pub record Joins (t : Table) (all rest : List ℕ) (w : ℕ) (v : Given → ℕ) : Type 0 where
  pub together : w + width_together t rest ≡ width_together t all
  pub told : (given : Given)
      → bits.join (width_together t rest) (v given) (joined_value t given rest) ≡ joined_value t given all

-- the joins so far
pub record JoinsBy (t0 t1 : Table) (w0 w1 : List Word) (all rest : List ℕ) (whole : ℕ) : Type 0 where
  pub width : ℕ
  pub v : Given → ℕ
  pub gives : Gives t0 t1 w0 w1 width whole v
  pub joins : Joins t0 all rest width v

-- one term more
next_value : (v x rest all wx r : ℕ) → v * 2 ^ (wx + r) + (x * 2 ^ r + rest) ≡ all
    → (v * 2 ^ wx + x) * 2 ^ r + rest ≡ all
next_value v x rest all wx r told =
    let powers = pow-add 2 wx r in
    let high = ap (λ n. v * n) powers ∙ sym (mul_assoc v (2 ^ wx) (2 ^ r)) in
    let both = add-mul (v * 2 ^ wx) x (2 ^ r) in
    omega (arith, high, both)

above_value : (wx ux v x whole part : ℕ) → ux ≡ wx → whole ≡ v → part ≡ x → bits.join ux whole part ≡ v * 2 ^ wx + x
above_value wx ux v x whole part wide one two = rw (wide, one, two) refl

pub joins_first : (t : Table) (words : List Word) (first : ℕ) (rest : List ℕ) → first < length t.ops
    → JoinsBy t t words words (first ∷ rest) rest first
joins_first t words first rest there = record {
  width = term_width t first;
  v = λ given. term_value t given first;
  gives = gives_itself t words (term_width t first) first (of_own_width t first there);
  joins = record { together = refl; told = λ given. refl };
}

pub joins_next : (t0 t1 t2 : Table) (w0 w1 w2 : List Word) (all rest : List ℕ) (whole x next : ℕ)
    → JoinsBy t0 t1 w0 w1 all (x ∷ rest) whole → x < length t0.ops
    → Gives t1 t2 w1 w2 (term_width t1 whole + term_width t1 x) next
    (λ given. bits.join (term_width t1 x) (term_value t1 given whole) (term_value t1 given x))
    → JoinsBy t0 t2 w0 w2 all rest next
joins_next t0 t1 t2 w0 w1 w2 all rest whole x next by there gives =
    let keeps = by.gives.grows.keeps in
    let wx = term_width t0 x in
    let now = λ (given : Given). by.v given * 2 ^ wx + term_value t0 given x in
    let same_width : term_width t1 whole + term_width t1 x ≡ by.width + wx =
    ap₂ (λ (m n : ℕ). m + n) by.gives.is.width_is (keeps.widths x there) in
    record {
      width = by.width + wx;
      v = now;
      gives = gives_then t0 t1 t2 w0 w1 w2 by.width whole (by.width + wx) next by.v now by.gives
          (gives_alike t1 t2 w1 w2 (term_width t1 whole + term_width t1 x) (by.width + wx) next _ now gives same_width
          (λ given. above_value wx (term_width t1 x) (by.v given) (term_value t0 given x) (term_value t1 given whole)
          (term_value t1 given x) (keeps.widths x there) (by.gives.value given) (keeps.values given x there)));
      joins = record {
        together = omega (arith, by.joins.together);
        told = λ given. next_value (by.v given) (term_value t0 given x) (joined_value t0 given rest)
            (joined_value t0 given all) wx (width_together t0 rest) (by.joins.told given);
      };
    }

pub joins_all : (t0 t1 : Table) (w0 w1 : List Word) (all : List ℕ) (whole : ℕ) → JoinsBy t0 t1 w0 w1 all [] whole
    → Gives t0 t1 w0 w1 (width_together t0 all) whole (λ given. joined_value t0 given all)
joins_all t0 t1 w0 w1 all whole by =
    gives_alike t0 t1 w0 w1 by.width (width_together t0 all) whole by.v (λ given. joined_value t0 given all) by.gives
    (omega (arith, by.joins.together))
    (λ given. omega (arith, by.joins.told given))

-- what is left has no more bits than all
pub next_fits : (t0 t1 : Table) (w0 w1 : List Word) (all rest : List ℕ) (whole x most : ℕ)
    → JoinsBy t0 t1 w0 w1 all (x ∷ rest) whole → x < length t0.ops → width_together t0 all ≤ most
    → term_width t1 whole + term_width t1 x ≤ most
next_fits t0 t1 w0 w1 all rest whole x most by there within =
    omega (arith, by.gives.is.width_is, by.gives.grows.keeps.widths x there, by.joins.together, within)

pub next_there : (t0 t1 : Table) (w0 w1 : List Word) (all rest : List ℕ) (whole x : ℕ)
    → JoinsBy t0 t1 w0 w1 all rest whole → x < length t0.ops → x < length t1.ops
next_there t0 t1 w0 w1 all rest whole x by there = omega (arith, by.gives.grows.extends.more, there)

pub at_place : (xs : List ℕ) (i : ℕ) → i < length xs → drop i xs ≡ slice_index xs i ∷ drop (i + 1) xs
at_place xs i inside = drop_more xs i 0 inside
