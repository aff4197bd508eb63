-- What is so of every assembled microprogram.
use Rattle.std.proofs.Common.{◌≡◌, ℕ, ◌^◌, ◌<◌, List, Bool, Ok, refl, sym, ◌∙◌, subst, arith, length, set}
use Rattle.std.specs.List.{All}
use Rattle.std.proofs.lemmas.List.{length-set, length-map}
use Rattle.std.proofs.lemmas.List.Elements.{All-set, All-map}
use Rattle.std.proofs.lemmas.Nat.{pow_pos}
use Rattle.mw_base.specs.declared.refusal.TextFault.{TextFault}
use Rattle.mw_base.specs.Reading.{◌>>=◌}
use Rattle.mw_board.specs.declared.parts.BoardParts.{BoardParts}
use Rattle.mw_board.specs.Valid.{IsBoard}
use Rattle.mw_asm.specs.declared.assembled.Assembled.{Assembled}
use Rattle.mw_asm.specs.declared.first_pass.Word.{Word}
use Rattle.mw_asm.specs.declared.names.Scope.TheVariants as scopes
use Rattle.mw_asm.specs.Bits.{no_bits, word_of}
use Rattle.mw_asm.specs.FirstPass.{Known, at_first, first_pass}
use Rattle.mw_asm.specs.ItemBits.{bits_of}
use Rattle.mw_base.specs.TokenLines.{token_lines}
use Rattle.mw_asm.specs.Microprogram.{IsAssembled, filled, with_made, second_pass, store_of}
use Rattle.mw_asm.specs.Names.{Names}
use Rattle.mw_asm.proofs.Inside.{IsRight, first_pass_right}
use Rattle.mw_base.proofs.Results.{bind_ok, ok_of, ok_is}
use Rattle.mw_base.proofs.Steps.{steps_keep}
use Rattle.mw_asm.proofs.Widths.{NamesFit, bits_fit, word_fits}

-- a word of so many bits
abbrev Below : ℕ → ℕ → Type 0
Below bits word = word < 2 ^ bits

-- words of so many bits, as many as the store before had
record Keeps (bits : ℕ) (before after : List ℕ) : Type 0 where
  fit : All (Below bits) after
  sized : length after ≡ length before

made_right : (board : BoardParts) (text : List ℕ) (names : Names) (first store next : List ℕ) (word : Word)
    → IsBoard board → NamesFit board.microword names
    → with_made board text names store word ≡ Ok next → Keeps board.microword first store
    → Keeps board.microword first next
unfolding with_made
made_right board text names first store next word valid named is kept =
    let one = bind_ok (bits_of board.fields text names scopes.Word no_bits word.items)
    (λ bits. ok_of {F = TextFault} (set store word.address (word_of board.unset bits))) next is in
    let fits = bits_fit board.microword board.fields text names scopes.Word no_bits one.0 word.items valid.fields named
    (pow_pos board.microword) one.1 in
    let made = word_fits board.microword board.unset one.0 valid.sizes.unset fits in
    let put = All-set (Below board.microword) store word.address (word_of board.unset one.0) made kept.fit in
    subst (Keeps board.microword first)
    (ok_is {F = TextFault} (set store word.address (word_of board.unset one.0)) next one.2) (record {
      fit = put;
      sized = length-set store word.address (word_of board.unset one.0) ∙ kept.sized;
    })

-- a microprogram of what the two passes leave
assembled : (board : BoardParts) (known : Known) (words : List ℕ) (made : Assembled) → IsRight board.microword known
    → Keeps board.microword (filled board.fill known.used) words
    → ok_of {F = TextFault} (record {
      store = record { words = words };
      used = known.used;
      labels = known.labels;
    }) ≡ Ok made → IsAssembled board made
assembled board known words made right kept is =
    let sized : length words ≡ length known.used = kept.sized ∙ length-map known.used (λ (used : Bool). board.fill) in
    let whole : Assembled = record { store = record { words = words }; used = known.used; labels = known.labels } in
    let so : IsAssembled board whole = record {
      few = omega (arith, sized, right.inside.few);
      fit = kept.fit;
      marked = sym sized;
      low = right.labels;
    } in
    subst (IsAssembled board) (ok_is {F = TextFault} whole made is) so

-- what a text spells on a board
pub store_right : (board : BoardParts) (text : List ℕ) (made : Assembled) → IsBoard board
    → store_of board text ≡ Ok made → IsAssembled board made
unfolding store_of
store_right board text made valid is =
    let whole = λ (known : Known) (words : List ℕ). ok_of {F = TextFault} (record {
      store = record { words = words };
      used = known.used;
      labels = known.labels;
    }) in
    let last =
    λ (known : Known). second_pass board text known.names (filled board.fill known.used) known.words >>= whole known in
    let one = bind_ok (token_lines text) (λ lines. first_pass board.fields text at_first lines >>= last) made is in
    let two = bind_ok (first_pass board.fields text at_first one.0) last made one.2 in
    let known = two.0 in
    let three =
    bind_ok (second_pass board text known.names (filled board.fill known.used) known.words) (whole known) made two.2 in
    let right = first_pass_right board.microword board.fields text known one.0 valid.fields two.1 in
    let gaps = All-map (Below board.microword) (λ (used : Bool). board.fill) known.used (λ k d h. valid.sizes.fill) in
    let first = filled board.fill known.used in
    let keeps = λ (store next : List ℕ) (word : Word) (adds : with_made board text known.names store word ≡ Ok next)
    (kept : Keeps board.microword first store).
    made_right board text known.names first store next word valid right.named adds kept in
    let kept = steps_keep (Keeps board.microword first) (with_made board text known.names)
    keeps first three.0 known.words three.1 (record { fit = gaps; sized = refl }) in
    assembled board known three.0 made right kept three.2
