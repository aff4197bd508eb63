-- What both programs' boards begin with, of terms that were made for their elements.
use Rattle.std.proofs.Common.{◌≡◌, ◌≢◌, ℕ, ◌+◌, ◌<◌, List, [], ◌++◌, slice_index, refl, ap, sym, subst, ◌∙◌}
use Rattle.std.proofs.Common.{Option, Some, None}
use Rattle.mw_board.specs.declared.parts.BoardParts.{BoardParts}
use Rattle.mw_board.specs.Elements.{element_count}
use Rattle.mw_cycle.specs.SteadySeries.{Series, Line, kind_of, series_of_kind}
use Rattle.mw_cycle.proofs.Named.{no_kind}
use Rattle.mw_revise.specs.declared.keep.Block.{Block}
use Rattle.mw_revise.specs.declared.keep.KeepLine.{KeepLine}
use Rattle.mw_revise.specs.declared.keep.KeepLine.TheVariants.{Equal, Fixed}
use Rattle.mw_revise.specs.declared.programs.Side.{Side as Program}
use Rattle.mw_revise.specs.declared.programs.Side.TheVariants.{Old, New}
use Rattle.mw_revise.specs.Elements.{line_about}
use Rattle.mw_revise.specs.TwinWords.{memory_side}
use Rattle.mw_space.specs.declared.space.Space.{Space}
use Rattle.mw_space.specs.Spaces.{IsSpaceOf}
use Rattle.mw_symboard.specs.Parts.{AreElements}
use Rattle.mw_symboard.specs.Variables.{HaveVariables}
use Rattle.mw_symboard.proofs.Variables.{none_kind}
use Rattle.mw_symmem.specs.Words.{HaveOwnKinds, IsVariable}
use Rattle.mw_symmem.specs.Memory.{IsMemory, Memory}
use Rattle.mw_symmem.specs.Workspace.{HaveKinds}
use Rattle.mw_symmem.proofs.Later.{width_later}
use Rattle.mw_symmem.proofs.Stays.{stays_with_words}
use Rattle.mw_term.specs.declared.kinds.WordKind.{WordKind}
use Rattle.mw_term.specs.declared.kinds.WordKind.TheVariants.{Base, Element}
use Rattle.mw_term.specs.declared.side.Side.{Side}
use Rattle.mw_term.specs.declared.side.Side.TheVariants.{Board, Machine}
use Rattle.mw_term.specs.declared.word.Word.{Word}
use Rattle.mw_term.specs.Table.{Table}
use Rattle.mw_term.specs.WordList.{term_of}
use Rattle.mw_twin.specs.ElementTerms.{AreMade, HasBelow, HasVariable, IsNew, IsNewBy, IsOld, IsOldBy, WentOn}
use Rattle.mw_twin.specs.Origins.{IsElementKind, IsGround, ground_in, terms_on}
use Rattle.mw_twin.proofs.ElementTerms.{old_stays, went_then}

-- ---- variables of elements alone

pub element_kinds : (number : ℕ) (space : Space) → HasBelow number space → HaveKinds IsElementKind space.words
element_kinds number space has place term kind is = let own = has.kinds place term kind is in (own.0, own.2)

element_named : (side : Side) (kind : WordKind) → IsElementKind kind → series_of_kind side kind ≡ None
element_named Board kind is = ap (series_of_kind Board) is.1
element_named Machine kind is = ap (series_of_kind Machine) is.1

-- none of them is of an environment
none_outside : (side : Side) (words : List Word) (series : Series) (n : ℕ) → HaveKinds IsElementKind words
    → term_of words (kind_of side series n) ≡ None
none_outside side words series n kinds =
    none_kind IsElementKind words (kind_of side series n) kinds
    (no_kind side IsElementKind (element_named side) series n)

pub have_variables : (side : Side) (board : BoardParts) (t : Table) (words : List Word) → HaveKinds IsElementKind words
    → HaveVariables side board t words 0
have_variables side board t words kinds = record {
  widths = λ series n term is.
      let no : None ≡ Some term = sym (none_outside side words series n kinds) ∙ is in absurd cc;
  none = λ series by n from. none_outside side words series n kinds;
}

no_base : (words : List Word) → HaveKinds IsElementKind words → (place term k : ℕ)
    → ¬ IsVariable words place term (Base k)
no_base words kinds place term k is =
    let own = kinds place term (Base k) is in
    let same : Base k ≡ Element own.0 = own.1 in cc

-- ---- the space

space_of : (board : BoardParts) (old new : Space) → IsSpaceOf board old.terms old.words old.memory → old.words ≡ []
    → WentOn old new → (below : ℕ) → HasBelow below new → IsSpaceOf board new.terms new.words new.memory
space_of board old new space none on below has =
    let words : new.words ≡ on.more = on.words ∙ ap (λ ws. ws ++ on.more) none in
    let kinds = subst (HaveKinds IsElementKind) words (element_kinds below new has) in
    let before = subst (λ ws. IsMemory old.terms ws old.memory) none space.workspace.memory in
    let memory = stays_with_words old.terms new.terms [] on.more old.memory on.later.extends on.later.keeps
    (no_base on.more kinds) before in
    record {
      map = on.later.extends.map ∙ space.map;
      address = ap (λ (m : Memory). m.address) on.memory ∙ space.address;
      word = ap (λ (m : Memory). m.word) on.memory ∙ space.word;
      workspace = record {
        table = on.later.table;
        of = has.of;
        memory = subst (λ ws. IsMemory new.terms ws new.memory) (sym words)
            (subst (λ m. IsMemory new.terms on.more m) (sym on.memory) memory);
      };
    }

-- ---- the terms

-- where no value is fixed, the term of an old element is its variable
old_variable_of : (about : Option KeepLine) (number : ℕ) (t : Table) (words : List Word) (term : ℕ)
    → ((element old_value new_value : ℕ) → about ≢ Some (Fixed element old_value new_value))
    → IsOldBy about number t words term → HasVariable words number term
old_variable_of None number t words term free is = is
old_variable_of (Some (Equal element)) number t words term free is = is
old_variable_of (Some (Fixed element old_value new_value)) number t words term free is =
    absurd (free element old_value new_value refl)

old_later : (board : BoardParts) (lines : List KeepLine) (count below : ℕ) (old new : Space) (terms : List ℕ)
    → AreMade board (IsOld lines) count below old terms → WentOn old new → (n : ℕ) → n < count
    → IsOldBy (line_about lines n) n new.terms new.words (slice_index terms n)
old_later board lines count below old new terms made on n inside =
    old_stays lines n old new (slice_index terms n) on (made.wide n inside).there (made.is n inside)

-- what both programs' boards begin with
pub ground_made : (board : BoardParts) (block : Block) (first mid last : Space) (before seen after : List ℕ)
    → IsSpaceOf board first.terms first.words first.memory → first.words ≡ [] → WentOn first mid
    → AreMade board (IsOld block.lines) (element_count board) (element_count board) mid before → WentOn mid last
    → seen ≡ before
    → AreMade board (IsNew board block.lines seen) (element_count board) (element_count board + element_count board) last
    after
    → HaveOwnKinds last.words → IsGround board block (ground_in last before after)
ground_made board block first mid last before seen after space none on old further same new own =
    let lines = block.lines in
    let t = last.terms in
    let words = last.words in
    let kinds = element_kinds _ last new.has in
    let new_is = subst (λ xs. (n : ℕ) → n < element_count board
    → IsNew board lines xs n t words (slice_index after n)) same new.is in
    let old_is = old_later board lines _ _ mid last before old further in
    record {
      space = space_of board first last space none (went_then first mid last on further) _ new.has;
      wide = wide_on;
      old_variable = λ n inside free.
          old_variable_of (line_about lines n) n t words (slice_index before n) free (old_is n inside);
      new_variable = λ n inside about.
          subst (λ o. IsNewBy o (slice_index before n) (element_count board + n) t words (slice_index after n)) about
          (new_is n inside);
      kept = λ n element inside about.
          subst (λ o. IsNewBy o (slice_index before n) (element_count board + n) t words (slice_index after n)) about
          (new_is n inside);
      fixed = λ n element old_value new_value inside about given. (
        subst (λ o. IsOldBy o n t words (slice_index before n)) about (old_is n inside) given,
        subst (λ o. IsNewBy o (slice_index before n) (element_count board + n) t words (slice_index after n)) about
            (new_is n inside) given,
      );
      variables = λ side. (0, have_variables (memory_side side) board t words kinds);
      unlined = none_outside Machine words Line 0 kinds;
      own = own;
    }
  where
    wide_on : (side : Program) → AreElements board last.terms (terms_on side (ground_in last before after))
    wide_on Old n inside = width_later mid.terms last.terms _ _ further.later (old.wide n inside)
    wide_on New n inside = new.wide n inside
