-- Words of a table that grows.
use Rattle.std.proofs.Common.{◌≡◌, inl, inr, ℕ, ◌+◌, ◌<◌, List, [], ◌∷◌, ◌++◌, length, length-append, refl, ap, arith}
use Rattle.std.proofs.Common.{sym, ◌∙◌}
use Rattle.std.specs.Prelude.{Some, slice_get}
use Rattle.mw_term.specs.declared.kinds.WordKind.{WordKind}
use Rattle.mw_term.specs.declared.op.Op.{Op}
use Rattle.mw_term.specs.declared.op.Op.TheVariants.{Var}
use Rattle.mw_term.specs.Table.{Table, table_of}
use Rattle.mw_term.specs.declared.word.Word.{Word}
use Rattle.mw_term.specs.WordList.{plain, variable}
use Rattle.mw_symmem.specs.Words.{IsListed, AreOf, IsNoVariable, AreOfAtFirst}
use Rattle.mw_symmem.proofs.Lists.{pushed, behind, pushed_there, none_is}

-- the table with one op more
abbrev pub with_op : Table → Op → Table
with_op t op = table_of (t.ops ++ op ∷ []) t.map

inside_more : (t : Table) (op : Op) (term : ℕ) → term < length t.ops → term < length (with_op t op).ops
inside_more t op term inside = omega (arith, inside, length-append t.ops (op ∷ []))

last_inside : (t : Table) (op : Op) → length t.ops < length (with_op t op).ops
last_inside t op = omega (arith, length-append t.ops (op ∷ []))

still_listed : (words : List Word) (w : Word) (term n : ℕ) → IsListed words term n → IsListed (words ++ w ∷ []) term n
still_listed words w term n is = record {
  place = is.place;
  kind = is.kind;
  number = is.number;
  is = behind words (w ∷ []) is.place (variable term is.kind) is.is;
}

-- each word's term is one of the table with one more
terms_there : (t : Table) (words : List Word) (op : Op) (w : Word) → AreOf t words → w.term ≡ length t.ops
    → (place : ℕ) (found : Word)
    → slice_get (words ++ w ∷ []) place ≡ Some found → found.term < length (with_op t op).ops
terms_there t words op w of last place found is = elim (pushed words w place found is) [
  | inl h ↦ inside_more t op found.term (of.there place found h.1)
  | inr h ↦ let term : found.term ≡ length t.ops = ap (λ (x : Word). x.term) (sym h.1) ∙ last in
      omega (arith, term, last_inside t op)
]

pub of_plain : (t : Table) (words : List Word) (op : Op) → IsNoVariable op → AreOf t words
    → AreOf (with_op t op) (words ++ plain (length t.ops) ∷ [])
of_plain t words op none of = record {
  there = terms_there t words op (plain (length t.ops)) of refl;
  variables = λ place term kind is. elim (pushed words (plain (length t.ops)) place (variable term kind) is) [
    | inl h ↦ let found = of.variables place term kind h.1 in
        (found.0, behind t.ops (op ∷ []) term (Var (place + 1) found.0) found.1)
    | inr h ↦ absurd (none_is (ap (λ (w : Word). w.kind) h.1))
  ];
  listed = λ term number width is. elim (pushed t.ops op term (Var number width) is) [
    | inl h ↦ still_listed words (plain (length t.ops)) term number (of.listed term number width h.1)
    | inr h ↦ absurd (none number width h.1)
  ];
}

-- a term that is neither a variable nor a word of the list
pub of_without_word : (t : Table) (words : List Word) (op : Op) → IsNoVariable op → AreOf t words
    → AreOf (with_op t op) words
of_without_word t words op none of = record {
  there = λ place w is. inside_more t op w.term (of.there place w is);
  variables = λ place term kind is.
      (let found = of.variables place term kind is in
      (found.0, behind t.ops (op ∷ []) term (Var (place + 1) found.0) found.1));
  listed = λ term number width is. elim (pushed t.ops op term (Var number width) is) [
    | inl h ↦ of.listed term number width h.1
    | inr h ↦ absurd (none number width h.1)
  ];
}

number_is : (m n v w : ℕ) → Var m v ≡ Var n w → n ≡ m
number_is m n v w is = cc

pub of_variable : (t : Table) (words : List Word) (own : WordKind) (width : ℕ) → AreOf t words
    → AreOf (with_op t (Var (length words + 1) width)) (words ++ variable (length t.ops) own ∷ [])
of_variable t words own width of =
    let op : Op = Var (length words + 1) width in
    record {
      there = terms_there t words op (variable (length t.ops) own) of refl;
      variables = λ place term kind is.
          elim (pushed words (variable (length t.ops) own) place (variable term kind) is) [
            | inl h ↦ let found = of.variables place term kind h.1 in
                (found.0, behind t.ops (op ∷ []) term (Var (place + 1) found.0) found.1)
            | inr h ↦ let at : length t.ops ≡ term = ap (λ (w : Word). w.term) h.1 in
                (width, rw (← at, h.0) (pushed_there t.ops op))
          ];
      listed = λ term number w is. elim (pushed t.ops op term (Var number w) is) [
        | inl h ↦ still_listed words (variable (length t.ops) own) term number (of.listed term number w h.1)
        | inr h ↦ record {
          place = length words;
          kind = own;
          number = number_is (length words + 1) number width w h.1;
          is = rw h.0 (pushed_there words (variable (length t.ops) own));
        }
      ];
    }

pub are_of_at_first : AreOfAtFirst
are_of_at_first map = record {
  there = λ place w is. absurd cc;
  variables = λ place term kind is. absurd cc;
  listed = λ term number width is. absurd cc;
}
