-- What is kept beside words, for their copy.
use Rattle.std.proofs.Common.{◌≡◌, ℕ, List, ap, nat_eq, subst, sym, ◌∙◌}
use Rattle.std.specs.HashMap.{HashMap}
use Rattle.std.specs.Map.{lookup}
use Rattle.mw_term.specs.declared.word.Word.{Word}
use Rattle.mw_term.specs.WordList.{same_kind, term_of, word_number}
use Rattle.mw_symmem.specs.declared.key.Key.{Key}
use Rattle.mw_symmem.specs.Kept.{AreMapsOf}
use Rattle.mw_symmem.specs.Words.{HaveOwnKinds}

pub maps-same : {S R : Type 0} (old new : List Word) (numbers more : HashMap ℕ ℕ S) (terms kinds : HashMap Key ℕ R)
    → new ≡ old → more.entries ≡ numbers.entries → kinds.entries ≡ terms.entries → AreMapsOf old numbers terms
    → AreMapsOf new more kinds
maps-same old new numbers more terms kinds words by_term by_kind are = record {
  numbers = λ term. ap (lookup (nat_eq term)) by_term ∙ are.numbers term ∙ ap (λ l. word_number l term) (sym words);
  terms = λ kind. ap (lookup (λ key. same_kind kind key.0)) by_kind ∙ are.terms kind
      ∙ ap (λ l. term_of l kind) (sym words);
  own = subst HaveOwnKinds (sym words) are.own;
}
