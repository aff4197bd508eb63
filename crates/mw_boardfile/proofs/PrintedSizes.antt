-- The sizes that are printed are read.
use Rattle.std.proofs.Common.{◌≡◌, ℕ, zero, suc, ◌^◌, ◌<◌, Some, Ok, refl, codes}
use Rattle.toml.specs.Data.{Members, get_member}
use Rattle.mw_board.specs.declared.parts.BoardParts.{BoardParts}
use Rattle.mw_board.specs.Rules.{width_rule, microword_rule, address_rule, word_rule, vector_rule, stack_rule}
use Rattle.mw_boardfile.specs.Board.{sizes_of}
use Rattle.mw_boardfile.specs.Sizes.{version_in, width_in, microword_in, address_in, word_in, fill_in, unset_in}
use Rattle.mw_boardfile.specs.Sizes.{vector_in}
use Rattle.mw_boardfile.specs.Sizes.{stack_in}
use Rattle.mw_boardfile.specs.Values.{natural, number_text}
use Rattle.mw_boardfile.specs.Printed.{integer_of, text_of, unless_zero}
use Rattle.mw_boardfile.proofs.Spelled.{above_zero, hex_spelled}

word_read : (microword n : ℕ) → n < 2 ^ 128 → word_rule microword n ≡ Ok tt → word_in microword (text_of n) ≡ Ok n
unfolding word_in number_text
word_read microword n small fits = rw (hex_spelled n small, fits) refl

unset_read : (microword n : ℕ) → n < 2 ^ 128 → word_rule microword n ≡ Ok tt
    → unset_in microword (unless_zero text_of n) ≡ Ok n
unfolding unset_in
unset_read microword zero small fits = refl
unset_read microword (suc m) small fits = rw (above_zero m) (word_read microword (suc m) small fits)

vector_read : (n : ℕ) → vector_rule n ≡ Ok tt → vector_in (unless_zero integer_of n) ≡ Ok n
unfolding vector_in natural
vector_read zero fits = refl
vector_read (suc m) fits = rw (above_zero m, fits) refl

-- a document that has the sizes of a board under their keys
pub sizes_read : (p : BoardParts) (document : Members) → width_rule p.width ≡ Ok tt
    → microword_rule p.microword ≡ Ok tt → address_rule p.width p.address ≡ Ok tt
    → word_rule p.microword p.fill ≡ Ok tt → word_rule p.microword p.unset ≡ Ok tt → vector_rule p.vector ≡ Ok tt
    → stack_rule p.stack ≡ Ok tt → p.fill < 2 ^ 128 → p.unset < 2 ^ 128
    → get_member (codes "version") document ≡ Some (integer_of 2)
    → get_member (codes "width") document ≡ Some (integer_of p.width)
    → get_member (codes "microword") document ≡ Some (integer_of p.microword)
    → get_member (codes "address") document ≡ Some (integer_of p.address)
    → get_member (codes "fill") document ≡ Some (text_of p.fill)
    → get_member (codes "unset") document ≡ unless_zero text_of p.unset
    → get_member (codes "vector") document ≡ unless_zero integer_of p.vector
    → get_member (codes "stack") document ≡ Some (integer_of p.stack)
    → sizes_of document ≡ Ok (record {
      width = p.width;
      microword = p.microword;
      address = p.address;
      fill = p.fill;
      unset = p.unset;
      vector = p.vector;
      stack = p.stack;
    })
unfolding sizes_of version_in width_in microword_in address_in fill_in stack_in natural
sizes_read p document fits_width fits_microword fits_address fits_fill fits_unset fits_vector fits_stack few_fill
    few_unset version width microword address fill unset vector stack =
    rw (
      version,
      width,
      microword,
      address,
      fill,
      unset,
      vector,
      stack,
      fits_width,
      fits_microword,
      fits_address,
      word_read p.microword p.fill few_fill fits_fill,
      unset_read p.microword p.unset few_unset fits_unset,
      vector_read p.vector fits_vector,
      fits_stack,
    ) refl
