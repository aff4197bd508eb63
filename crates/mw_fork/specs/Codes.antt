-- How the logic stores expressions and statements, which hold themselves: by lists of numbers that tell them apart.
use Rattle.std.proofs.Common.{◌≡◌, ◌≢◌, ℕ, refl, ap, arith}
use Rattle.std.specs.Coded.{Coded, coded_ℕ}
use base.Stored.{Gv, gnil, gnum, gcons}
use Rattle.mw_expr.specs.contracts.expr.Pair2 as sign
use Rattle.mw_expr.specs.Tree.{Tree, element, constant, complement, pair, choice, part, join, widened, memory, Trees}
use Rattle.mw_expr.specs.Tree.{none, more}
use Rattle.mw_macro.specs.Statements.{Act, assign, write, put, take_in, choose, Acts, nothing, next}

-- the first of two
abbrev head : Gv → Gv
head gnil = gnil
head (gnum n) = gnil
head (gcons a b) = a

-- the second of two
abbrev tail : Gv → Gv
tail gnil = gnil
tail (gnum n) = gnil
tail (gcons a b) = b

apart : (m n : ℕ) {a b : Gv} → gcons (gnum m) a ≡ gcons (gnum n) b → m ≢ n → ⊥
apart m n p other = other (cc)

-- the code of an expression
abbrev mutual
  pub tree_code : Tree → Gv
  tree_code (element n) = gcons (gnum 0) (coded_ℕ.code n)
  tree_code (constant n w) = gcons (gnum 1) (gcons (coded_ℕ.code n) (coded_ℕ.code w))
  tree_code (complement a) = gcons (gnum 2) (tree_code a)
  tree_code (pair s a b) = gcons (gnum 3) (gcons (sign.the_row.coded.code s) (gcons (tree_code a) (tree_code b)))
  tree_code (choice c a b) = gcons (gnum 4) (gcons (tree_code c) (gcons (tree_code a) (tree_code b)))
  tree_code (part a h l) = gcons (gnum 5) (gcons (tree_code a) (gcons (coded_ℕ.code h) (coded_ℕ.code l)))
  tree_code (join ts) = gcons (gnum 6) (trees_code ts)
  tree_code (widened a w) = gcons (gnum 7) (gcons (tree_code a) (coded_ℕ.code w))
  tree_code (memory a) = gcons (gnum 8) (tree_code a)

  -- that of the parts of a join
  pub trees_code : Trees → Gv
  trees_code none = gcons (gnum 0) gnil
  trees_code (more t ts) = gcons (gnum 1) (gcons (tree_code t) (trees_code ts))

mutual
  -- expressions of one code are one
  pub tree_inj : (x y : Tree) → tree_code x ≡ tree_code y → x ≡ y
  tree_inj (element n) (element n2) p = λ i. element (coded_ℕ.inj n n2 (ap (λ (g : Gv). tail g) p) i)
  tree_inj (element n) (constant n2 w2) p = absurd (apart 0 1 p (omega arith))
  tree_inj (element n) (complement a2) p = absurd (apart 0 2 p (omega arith))
  tree_inj (element n) (pair s2 a2 b2) p = absurd (apart 0 3 p (omega arith))
  tree_inj (element n) (choice c2 a2 b2) p = absurd (apart 0 4 p (omega arith))
  tree_inj (element n) (part a2 h2 l2) p = absurd (apart 0 5 p (omega arith))
  tree_inj (element n) (join ts2) p = absurd (apart 0 6 p (omega arith))
  tree_inj (element n) (widened a2 w2) p = absurd (apart 0 7 p (omega arith))
  tree_inj (element n) (memory a2) p = absurd (apart 0 8 p (omega arith))
  tree_inj (constant n w) (element n2) p = absurd (apart 1 0 p (omega arith))
  tree_inj (constant n w) (constant n2 w2) p = λ i. constant (coded_ℕ.inj n n2 (ap (λ (g : Gv). head (tail g)) p) i)
      (coded_ℕ.inj w w2 (ap (λ (g : Gv). tail (tail g)) p) i)
  tree_inj (constant n w) (complement a2) p = absurd (apart 1 2 p (omega arith))
  tree_inj (constant n w) (pair s2 a2 b2) p = absurd (apart 1 3 p (omega arith))
  tree_inj (constant n w) (choice c2 a2 b2) p = absurd (apart 1 4 p (omega arith))
  tree_inj (constant n w) (part a2 h2 l2) p = absurd (apart 1 5 p (omega arith))
  tree_inj (constant n w) (join ts2) p = absurd (apart 1 6 p (omega arith))
  tree_inj (constant n w) (widened a2 w2) p = absurd (apart 1 7 p (omega arith))
  tree_inj (constant n w) (memory a2) p = absurd (apart 1 8 p (omega arith))
  tree_inj (complement a) (element n2) p = absurd (apart 2 0 p (omega arith))
  tree_inj (complement a) (constant n2 w2) p = absurd (apart 2 1 p (omega arith))
  tree_inj (complement a) (complement a2) p = λ i. complement (tree_inj a a2 (ap (λ (g : Gv). tail g) p) i)
  tree_inj (complement a) (pair s2 a2 b2) p = absurd (apart 2 3 p (omega arith))
  tree_inj (complement a) (choice c2 a2 b2) p = absurd (apart 2 4 p (omega arith))
  tree_inj (complement a) (part a2 h2 l2) p = absurd (apart 2 5 p (omega arith))
  tree_inj (complement a) (join ts2) p = absurd (apart 2 6 p (omega arith))
  tree_inj (complement a) (widened a2 w2) p = absurd (apart 2 7 p (omega arith))
  tree_inj (complement a) (memory a2) p = absurd (apart 2 8 p (omega arith))
  tree_inj (pair s a b) (element n2) p = absurd (apart 3 0 p (omega arith))
  tree_inj (pair s a b) (constant n2 w2) p = absurd (apart 3 1 p (omega arith))
  tree_inj (pair s a b) (complement a2) p = absurd (apart 3 2 p (omega arith))
  tree_inj (pair s a b) (pair s2 a2 b2) p = λ i. pair (sign.the_row.coded.inj s s2 (ap (λ (g : Gv). head (tail g)) p) i)
      (tree_inj a a2 (ap (λ (g : Gv). head (tail (tail g))) p) i)
      (tree_inj b b2 (ap (λ (g : Gv). tail (tail (tail g))) p) i)
  tree_inj (pair s a b) (choice c2 a2 b2) p = absurd (apart 3 4 p (omega arith))
  tree_inj (pair s a b) (part a2 h2 l2) p = absurd (apart 3 5 p (omega arith))
  tree_inj (pair s a b) (join ts2) p = absurd (apart 3 6 p (omega arith))
  tree_inj (pair s a b) (widened a2 w2) p = absurd (apart 3 7 p (omega arith))
  tree_inj (pair s a b) (memory a2) p = absurd (apart 3 8 p (omega arith))
  tree_inj (choice c a b) (element n2) p = absurd (apart 4 0 p (omega arith))
  tree_inj (choice c a b) (constant n2 w2) p = absurd (apart 4 1 p (omega arith))
  tree_inj (choice c a b) (complement a2) p = absurd (apart 4 2 p (omega arith))
  tree_inj (choice c a b) (pair s2 a2 b2) p = absurd (apart 4 3 p (omega arith))
  tree_inj (choice c a b) (choice c2 a2 b2) p = λ i. choice
      (tree_inj c c2 (ap (λ (g : Gv). head (tail g)) p) i) (tree_inj a a2 (ap (λ (g : Gv). head (tail (tail g))) p) i)
      (tree_inj b b2 (ap (λ (g : Gv). tail (tail (tail g))) p) i)
  tree_inj (choice c a b) (part a2 h2 l2) p = absurd (apart 4 5 p (omega arith))
  tree_inj (choice c a b) (join ts2) p = absurd (apart 4 6 p (omega arith))
  tree_inj (choice c a b) (widened a2 w2) p = absurd (apart 4 7 p (omega arith))
  tree_inj (choice c a b) (memory a2) p = absurd (apart 4 8 p (omega arith))
  tree_inj (part a h l) (element n2) p = absurd (apart 5 0 p (omega arith))
  tree_inj (part a h l) (constant n2 w2) p = absurd (apart 5 1 p (omega arith))
  tree_inj (part a h l) (complement a2) p = absurd (apart 5 2 p (omega arith))
  tree_inj (part a h l) (pair s2 a2 b2) p = absurd (apart 5 3 p (omega arith))
  tree_inj (part a h l) (choice c2 a2 b2) p = absurd (apart 5 4 p (omega arith))
  tree_inj (part a h l) (part a2 h2 l2) p = λ i. part (tree_inj a a2 (ap (λ (g : Gv). head (tail g)) p) i) (coded_ℕ.inj
      h h2 (ap (λ (g : Gv). head (tail (tail g))) p) i) (coded_ℕ.inj l l2 (ap (λ (g : Gv). tail (tail (tail g))) p) i)
  tree_inj (part a h l) (join ts2) p = absurd (apart 5 6 p (omega arith))
  tree_inj (part a h l) (widened a2 w2) p = absurd (apart 5 7 p (omega arith))
  tree_inj (part a h l) (memory a2) p = absurd (apart 5 8 p (omega arith))
  tree_inj (join ts) (element n2) p = absurd (apart 6 0 p (omega arith))
  tree_inj (join ts) (constant n2 w2) p = absurd (apart 6 1 p (omega arith))
  tree_inj (join ts) (complement a2) p = absurd (apart 6 2 p (omega arith))
  tree_inj (join ts) (pair s2 a2 b2) p = absurd (apart 6 3 p (omega arith))
  tree_inj (join ts) (choice c2 a2 b2) p = absurd (apart 6 4 p (omega arith))
  tree_inj (join ts) (part a2 h2 l2) p = absurd (apart 6 5 p (omega arith))
  tree_inj (join ts) (join ts2) p = λ i. join (trees_inj ts ts2 (ap (λ (g : Gv). tail g) p) i)
  tree_inj (join ts) (widened a2 w2) p = absurd (apart 6 7 p (omega arith))
  tree_inj (join ts) (memory a2) p = absurd (apart 6 8 p (omega arith))
  tree_inj (widened a w) (element n2) p = absurd (apart 7 0 p (omega arith))
  tree_inj (widened a w) (constant n2 w2) p = absurd (apart 7 1 p (omega arith))
  tree_inj (widened a w) (complement a2) p = absurd (apart 7 2 p (omega arith))
  tree_inj (widened a w) (pair s2 a2 b2) p = absurd (apart 7 3 p (omega arith))
  tree_inj (widened a w) (choice c2 a2 b2) p = absurd (apart 7 4 p (omega arith))
  tree_inj (widened a w) (part a2 h2 l2) p = absurd (apart 7 5 p (omega arith))
  tree_inj (widened a w) (join ts2) p = absurd (apart 7 6 p (omega arith))
  tree_inj (widened a w) (widened a2 w2) p = λ i. widened (tree_inj a a2 (ap (λ (g : Gv). head (tail g)) p) i)
      (coded_ℕ.inj w w2 (ap (λ (g : Gv). tail (tail g)) p) i)
  tree_inj (widened a w) (memory a2) p = absurd (apart 7 8 p (omega arith))
  tree_inj (memory a) (element n2) p = absurd (apart 8 0 p (omega arith))
  tree_inj (memory a) (constant n2 w2) p = absurd (apart 8 1 p (omega arith))
  tree_inj (memory a) (complement a2) p = absurd (apart 8 2 p (omega arith))
  tree_inj (memory a) (pair s2 a2 b2) p = absurd (apart 8 3 p (omega arith))
  tree_inj (memory a) (choice c2 a2 b2) p = absurd (apart 8 4 p (omega arith))
  tree_inj (memory a) (part a2 h2 l2) p = absurd (apart 8 5 p (omega arith))
  tree_inj (memory a) (join ts2) p = absurd (apart 8 6 p (omega arith))
  tree_inj (memory a) (widened a2 w2) p = absurd (apart 8 7 p (omega arith))
  tree_inj (memory a) (memory a2) p = λ i. memory (tree_inj a a2 (ap (λ (g : Gv). tail g) p) i)

  -- so are the parts of a join
  pub trees_inj : (x y : Trees) → trees_code x ≡ trees_code y → x ≡ y
  trees_inj none none p = refl
  trees_inj none (more t2 ts2) p = absurd (apart 0 1 p (omega arith))
  trees_inj (more t ts) none p = absurd (apart 1 0 p (omega arith))
  trees_inj (more t ts) (more t2 ts2) p = λ i.
      more (tree_inj t t2 (ap (λ (g : Gv). head (tail g)) p) i) (trees_inj ts ts2 (ap (λ (g : Gv). tail (tail g)) p) i)

-- expressions are told apart by their codes
abbrev pub coded_tree : Coded Tree
coded_tree = record { code = tree_code; inj = tree_inj }

-- the code of a statement
abbrev mutual
  pub act_code : Act → Gv
  act_code (assign n v) = gcons (gnum 0) (gcons (coded_ℕ.code n) (tree_code v))
  act_code (write a v) = gcons (gnum 1) (gcons (tree_code a) (tree_code v))
  act_code (put v) = gcons (gnum 2) (tree_code v)
  act_code (take_in n) = gcons (gnum 3) (coded_ℕ.code n)
  act_code (choose c a b) = gcons (gnum 4) (gcons (tree_code c) (gcons (acts_code a) (acts_code b)))

  -- that of statements in their order
  pub acts_code : Acts → Gv
  acts_code nothing = gcons (gnum 0) gnil
  acts_code (next x xs) = gcons (gnum 1) (gcons (act_code x) (acts_code xs))

mutual
  -- statements of one code are one
  pub act_inj : (x y : Act) → act_code x ≡ act_code y → x ≡ y
  act_inj (assign n v) (assign n2 v2) p = λ i. assign (coded_ℕ.inj n n2 (ap (λ (g : Gv). head (tail g)) p) i)
      (tree_inj v v2 (ap (λ (g : Gv). tail (tail g)) p) i)
  act_inj (assign n v) (write a2 v2) p = absurd (apart 0 1 p (omega arith))
  act_inj (assign n v) (put v2) p = absurd (apart 0 2 p (omega arith))
  act_inj (assign n v) (take_in n2) p = absurd (apart 0 3 p (omega arith))
  act_inj (assign n v) (choose c2 a2 b2) p = absurd (apart 0 4 p (omega arith))
  act_inj (write a v) (assign n2 v2) p = absurd (apart 1 0 p (omega arith))
  act_inj (write a v) (write a2 v2) p = λ i.
      write (tree_inj a a2 (ap (λ (g : Gv). head (tail g)) p) i) (tree_inj v v2 (ap (λ (g : Gv). tail (tail g)) p) i)
  act_inj (write a v) (put v2) p = absurd (apart 1 2 p (omega arith))
  act_inj (write a v) (take_in n2) p = absurd (apart 1 3 p (omega arith))
  act_inj (write a v) (choose c2 a2 b2) p = absurd (apart 1 4 p (omega arith))
  act_inj (put v) (assign n2 v2) p = absurd (apart 2 0 p (omega arith))
  act_inj (put v) (write a2 v2) p = absurd (apart 2 1 p (omega arith))
  act_inj (put v) (put v2) p = λ i. put (tree_inj v v2 (ap (λ (g : Gv). tail g) p) i)
  act_inj (put v) (take_in n2) p = absurd (apart 2 3 p (omega arith))
  act_inj (put v) (choose c2 a2 b2) p = absurd (apart 2 4 p (omega arith))
  act_inj (take_in n) (assign n2 v2) p = absurd (apart 3 0 p (omega arith))
  act_inj (take_in n) (write a2 v2) p = absurd (apart 3 1 p (omega arith))
  act_inj (take_in n) (put v2) p = absurd (apart 3 2 p (omega arith))
  act_inj (take_in n) (take_in n2) p = λ i. take_in (coded_ℕ.inj n n2 (ap (λ (g : Gv). tail g) p) i)
  act_inj (take_in n) (choose c2 a2 b2) p = absurd (apart 3 4 p (omega arith))
  act_inj (choose c a b) (assign n2 v2) p = absurd (apart 4 0 p (omega arith))
  act_inj (choose c a b) (write a2 v2) p = absurd (apart 4 1 p (omega arith))
  act_inj (choose c a b) (put v2) p = absurd (apart 4 2 p (omega arith))
  act_inj (choose c a b) (take_in n2) p = absurd (apart 4 3 p (omega arith))
  act_inj (choose c a b) (choose c2 a2 b2) p = λ i. choose
      (tree_inj c c2 (ap (λ (g : Gv). head (tail g)) p) i) (acts_inj a a2 (ap (λ (g : Gv). head (tail (tail g))) p) i)
      (acts_inj b b2 (ap (λ (g : Gv). tail (tail (tail g))) p) i)

  -- so are statements in their order
  pub acts_inj : (x y : Acts) → acts_code x ≡ acts_code y → x ≡ y
  acts_inj nothing nothing p = refl
  acts_inj nothing (next x2 xs2) p = absurd (apart 0 1 p (omega arith))
  acts_inj (next x xs) nothing p = absurd (apart 1 0 p (omega arith))
  acts_inj (next x xs) (next x2 xs2) p = λ i.
      next (act_inj x x2 (ap (λ (g : Gv). head (tail g)) p) i) (acts_inj xs xs2 (ap (λ (g : Gv). tail (tail g)) p) i)

-- statements are told apart by their codes
abbrev pub coded_acts : Coded Acts
coded_acts = record { code = acts_code; inj = acts_inj }
