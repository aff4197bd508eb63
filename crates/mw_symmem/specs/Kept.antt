-- What the code keeps beside a list of words.
use Rattle.std.specs.Prelude.{◌≡◌, ℕ, List, nat_eq, ◌==◌, Option, Some, unwrap_or, if◌then◌else◌}
use Rattle.std.specs.HashMap.{HashMap, get, get_by}
use Rattle.mw_term.specs.declared.kinds.WordKind.{WordKind}
use Rattle.mw_term.specs.declared.word.Word.{Word}
use Rattle.mw_symmem.specs.declared.key.Key.{Key}
use Rattle.mw_term.specs.WordList.{same_kind, word_number, term_of}
use Rattle.mw_symmem.specs.Words.{HaveOwnKinds}

-- a term with a number, where it has none yet
abbrev pub with_number : (ℕ → Option ℕ) → (term number : ℕ) → ℕ → Option ℕ
with_number numbers term number other =
    if term == other then Some (unwrap_or (numbers other) number) else numbers other

-- the two maps answer as the list does, and no two of its variables have one kind
pub record AreMapsOf {
    S R : Type 0
    } (words : List Word) (by_term : HashMap ℕ ℕ S) (by_kind : HashMap Key ℕ R) : Type 0 where
  pub numbers : (term : ℕ) → get nat_eq by_term term ≡ word_number words term
  pub terms : (kind : WordKind) → get_by (λ key. same_kind kind key.0) by_kind ≡ term_of words kind
  pub own : HaveOwnKinds words
