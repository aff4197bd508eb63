-- Tables that grow, and the terms in them.
use Rattle.std.proofs.Common.{◌≡◌, ℕ, ◌≤◌, List, [], ◌∷◌, ◌++◌, length, take, drop, map, refl, ap, arith, sym, ◌∙◌}
use Rattle.std.proofs.Common.{append-nil, append_assoc}
use Rattle.std.specs.Prelude.{Some, slice_get}
use Rattle.std.proofs.lemmas.List.{take-append-drop, take-append-le, take_all}
use Rattle.mw_term.specs.declared.op.Op.{Op}
use Rattle.mw_term.specs.Assigned.{Given}
use Rattle.mw_term.specs.Table.{Table, Extends, Fits, IsTable, width_over, widths_of}
use Rattle.mw_term.specs.Values.{IsTermOf, Keeps, value_over, values_of}
use Rattle.mw_term.proofs.Fitting.{fits_more, width_more, value_more}
use Rattle.mw_term.proofs.Tables.{widths_append, widths_begin, values_append, values_begin, widths_count, values_count}
use Rattle.mw_term.specs.declared.word.Word.{Word}
use Rattle.mw_term.specs.WordList.{plain}
use Rattle.mw_symmem.specs.Words.{AreOf, IsNoVariable}
use Rattle.mw_symmem.specs.Memory.{Has, IsOfWidth}
use Rattle.mw_symmem.specs.Steps.{Grows}
use Rattle.mw_symmem.proofs.Lists.{behind}

-- ---- one table beside one with more terms

-- an op over a table fits, and has its width and value, over one with more terms
pub record IsSame (old new : Table) (op : Op) : Type 0 where
  pub fits : Fits new op
  pub width : width_over new op ≡ width_over old op
  pub value : (given : Given) → value_over new given op ≡ value_over old given op

pub same_op : (old new : Table) (op : Op) → Extends old new → Fits old op → IsSame old new op
same_op old new op extends fits =
    let n = length old.ops in
    let rest = drop n new.ops in
    let parted : new.ops ≡ old.ops ++ rest = sym (take-append-drop n new.ops) ∙ ap (λ ops. ops ++ rest) extends.ops in
    let ws = widths_of old.ops in
    let wider = widths_begin ws rest in
    let widths : widths_of new.ops ≡ ws ++ wider.0 = ap widths_of parted ∙ widths_append [] old.ops rest ∙ wider.1 in
    record {
      fits = rw (extends.map, widths) (fits_more old.map ws wider.0 op fits);
      width = rw widths (width_more old.map ws wider.0 op fits);
      value = λ given.
          let vs = values_of old.map given old.ops in
          let further = values_begin old.map given ws vs rest in
          let values : values_of old.map given new.ops ≡ vs ++ further.0 =
          ap (values_of old.map given) parted ∙ values_append old.map given [] [] old.ops rest ∙ further.1 in
          rw (extends.map, widths, values)
          (value_more old.map given ws vs wider.0 further.0 op fits
          (values_count old.map given old.ops ∙ sym (widths_count old.ops)));
    }

-- what was there is there still
pub op_stays : (old new : Table) (i : ℕ) (op : Op) → Extends old new → slice_get old.ops i ≡ Some op
    → slice_get new.ops i ≡ Some op
op_stays old new i op extends is =
    let n = length old.ops in
    let parted : new.ops ≡ old.ops ++ drop n new.ops =
    sym (take-append-drop n new.ops) ∙ ap (λ ops. ops ++ drop n new.ops) extends.ops in
    rw parted (behind old.ops (drop n new.ops) i op is)

-- a new term has its op over the new table
pub has_made : (old new : Table) (op : Op) (term : ℕ) → Extends old new → Fits old op → IsTermOf old new op term
    → slice_get new.ops term ≡ Some op → Has new op term
has_made old new op term extends fits made op_is =
    let same = same_op old new op extends fits in
    record {
      fits = same.fits;
      is = record {
        there = made.there;
        width = made.width ∙ sym same.width;
        value = λ given. made.value given ∙ sym (same.value given);
      };
      op_is = op_is;
    }

-- and keeps it
pub has_stays : (old new : Table) (op : Op) (term : ℕ) → Extends old new → Keeps old new → Has old op term
    → Has new op term
has_stays old new op term extends keeps has =
    let same = same_op old new op extends has.fits in
    record {
      fits = same.fits;
      is = record {
        there = omega (arith, has.is.there, extends.more);
        width = keeps.widths term has.is.there ∙ has.is.width ∙ sym same.width;
        value = λ given. keeps.values given term has.is.there ∙ has.is.value given ∙ sym (same.value given);
      };
      op_is = op_stays old new term op extends has.op_is;
    }

pub width_stays : (old new : Table) (width term : ℕ) → Extends old new → Keeps old new → IsOfWidth old width term
    → IsOfWidth new width term
width_stays old new width term extends keeps is = record {
  there = omega (arith, is.there, extends.more);
  width_is = keeps.widths term is.there ∙ is.width_is;
}

-- ---- growth on growth

pub extends_then : (a b c : Table) → Extends a b → Extends b c → Extends a c
extends_then a b c first second =
    let n = length b.ops in
    let rest = drop n c.ops in
    let parted : c.ops ≡ b.ops ++ rest = sym (take-append-drop n c.ops) ∙ ap (λ ops. ops ++ rest) second.ops in
    record {
      map = second.map ∙ first.map;
      more = omega (arith, first.more, second.more);
      ops = ap (take (length a.ops)) parted ∙ take-append-le (length a.ops) b.ops rest first.more ∙ first.ops;
    }

pub keeps_then : (a b c : Table) → length a.ops ≤ length b.ops → Keeps a b → Keeps b c → Keeps a c
keeps_then a b c more first second = record {
  widths = λ term inside. second.widths term (omega arith) ∙ first.widths term inside;
  values = λ given term inside. second.values given term (omega arith) ∙ first.values given term inside;
}

pub grows_none : (t : Table) (words : List Word) → Grows t t words words []
grows_none t words = record {
  words = sym (append-nil words);
  extends = record { map = refl; more = omega arith; ops = take_all (length t.ops) t.ops (omega arith) };
  keeps = record { widths = λ term inside. refl; values = λ given term inside. refl };
  table = λ table. table;
  of = λ of. of;
}

pub map_both : (xs ys : List ℕ) → map plain (xs ++ ys) ≡ map plain xs ++ map plain ys
map_both [] ys = refl
map_both (x ∷ xs) ys = ap (λ rest. plain x ∷ rest) (map_both xs ys)

pub grows_then : (a b c : Table) (first second third : List Word) (xs ys : List ℕ) → Grows a b first second xs
    → Grows b c second third ys → Grows a c first third (xs ++ ys)
grows_then a b c first second third xs ys one two = record {
  words = two.words ∙ ap (λ words. words ++ map plain ys) one.words
      ∙ append_assoc first (map plain xs) (map plain ys) ∙ ap (λ words. first ++ words) (sym (map_both xs ys));
  extends = extends_then a b c one.extends two.extends;
  keeps = keeps_then a b c one.extends.more one.keeps two.keeps;
  table = λ table. two.table (one.table table);
  of = λ of. two.of (one.of of);
}

-- one word more
pub grows_one : (a b : Table) (old new : List Word) (op : Op) (term : ℕ) → new ≡ old ++ plain term ∷ []
    → Extends a b → Keeps a b → IsTable b → (IsNoVariable op → AreOf a old → AreOf b new) → IsNoVariable op
    → Grows a b old new (term ∷ [])
grows_one a b old new op term words extends keeps table of none = record {
  words = words;
  extends = extends;
  keeps = keeps;
  table = λ before. table;
  of = of none;
}
