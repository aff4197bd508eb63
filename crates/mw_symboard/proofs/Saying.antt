-- What a term says of a net, by its op.
use Rattle.std.proofs.Common.{◌≡◌, inl, inr, ℕ, suc, ◌+◌, ◌-◌, ◌/◌, ◌%◌, ◌^◌, ◌<◌, List, [], ◌∷◌, ◌++◌, length}
use Rattle.std.proofs.Common.{slice_index, refl, ap, ap₂, arith, sym, subst, ◌∙◌}
use Rattle.std.specs.Prelude.{Bool, true, false, Option, Some, slice_get, ◌==◌, bit_and, bit_or, bit_xor, if◌then◌else◌}
use Rattle.std.specs.Prelude.{◌⊎◌}
use Rattle.std.proofs.lemmas.Nat.{mod_below}
use Rattle.std.proofs.lemmas.Option.{same_Some}
use Rattle.mw_base.specs.Carries.{carry_at}
use Rattle.mw_base.specs.Words.{bit_of, complement, differ, join, num, part}
use Rattle.mw_base.proofs.Carries.{num_below}
use Rattle.mw_board.specs.declared.parts.BoardParts.{BoardParts}
use Rattle.mw_term.specs.declared.kinds.WordKind.{WordKind}
use Rattle.mw_term.specs.declared.kinds.WordKind.TheVariants.{Line, Noise, Input}
use Rattle.mw_term.specs.declared.op.Op.{Op}
use Rattle.mw_term.specs.declared.op.Op.TheVariants.{Con, Not, And, Or, Xor, Sum, Cout, Ovf, Eq, Part, Join, Tab}
use Rattle.mw_term.specs.Assigned.{Given}
use Rattle.mw_term.specs.Table.{Table, IsTable, op_width, term_width, width_over, widths_of}
use Rattle.mw_term.specs.Values.{op_value, term_value, value_over}
use Rattle.mw_term.proofs.Tables.{terms_have_ops, widths_count, words_of}
use Rattle.mw_symboard.proofs.Standing.{found_stays}
use Rattle.mw_term.specs.declared.side.Side.TheVariants as side
use Rattle.mw_term.specs.declared.word.Word.{Word}
use Rattle.mw_term.specs.WordList.{is_of, term_of}
use Rattle.mw_symmem.specs.Words.{AreOf}
use Rattle.mw_symmem.specs.Memory.{Memory}
use Rattle.mw_symmem.specs.Workspace.{GoesOn, IsWorkspace, KeepsWrites}
use Rattle.mw_symmem.proofs.Later.{held_by_stays, image_before, images_fit_before, width_later}
use Rattle.mw_symboard.specs.Made.{Is}
use Rattle.mw_symboard.specs.Parts.{AreParts}
use Rattle.mw_cycle.specs.BoardTerms.{term_of_part}
use Rattle.mw_symboard.specs.Seen.{IsSeen, Progress, Says, Scene}

-- the test of a bit as a number is the bit
pub num_is : (b : Bool) → (num b == 1) ≡ b
num_is true = refl
num_is false = refl

-- the part of one bit is the bit
pub part_bit : (low x : ℕ) → part low 1 x ≡ num (bit_of x low)
part_bit low x = sym (num_below (x / 2 ^ low % 2) (mod_below (x / 2 ^ low) 2 (omega arith)))

-- the carry into a bit, of operands that are the same
carry_same : (x f y g c v w : ℕ) (h : Bool) → x ≡ f → y ≡ g → c ≡ num h → v ≡ w
    → carry_at x y (c == 1) v ≡ carry_at f g h w
carry_same x f y g c v w h first second carry wide =
    let bit : (c == 1) ≡ h = ap (λ (n : ℕ). n == 1) carry ∙ num_is h in
    ap (λ (n : ℕ). carry_at n y (c == 1) v) first
    ∙ ap (λ (n : ℕ). carry_at f n (c == 1) v) second
    ∙ ap (λ (b : Bool). carry_at f g b v) bit
    ∙ ap (λ (n : ℕ). carry_at f g h n) wide

module _ {board : BoardParts} {store : List ℕ} {t : Table} {words : List Word} {m : Memory} {p : Progress} where
  -- a term of an op says what the op's value is
  pub says_op : (op : Op) (w x : ℕ) (net : Scene → ℕ) → IsTable t → Is t op x → width_over t op ≡ w
      → ((given : Given) (s : Scene) → IsSeen board store t words m p given s → value_over t given op ≡ net s)
      → Says board store t words m p w x net
  says_op op w x net table is wide value =
      let has = terms_have_ops t x op table is in
      record {
        wide = record { there = has.is.there; width_is = has.is.width ∙ wide };
        value = λ given s seen. has.is.value given ∙ value given s seen;
      }

  -- a net that is the same in every scene that is seen
  pub says_as : (w x : ℕ) (f g : Scene → ℕ) → Says board store t words m p w x f
      → ((given : Given) (s : Scene) → IsSeen board store t words m p given s → f s ≡ g s)
      → Says board store t words m p w x g
  says_as w x f g says same = record {
    wide = says.wide;
    value = λ given s seen. says.value given s seen ∙ same given s seen;
  }

  -- a width that is the same
  pub says_wide : (v w x : ℕ) (f : Scene → ℕ) → v ≡ w → Says board store t words m p v x f
      → Says board store t words m p w x f
  says_wide v w x f same says = record {
    wide = record { there = says.wide.there; width_is = says.wide.width_is ∙ same };
    value = says.value;
  }

  -- a term that is the same
  pub says_same : (w x y : ℕ) (f : Scene → ℕ) → y ≡ x → Says board store t words m p w x f
      → Says board store t words m p w y f
  says_same w x y f same says = subst (λ (z : ℕ). Says board store t words m p w z f) (sym same) says

  -- what a term says has no more bits than the term
  pub says_below : (w x : ℕ) (f : Scene → ℕ) → IsTable t → Says board store t words m p w x f
      → (given : Given) (s : Scene) → IsSeen board store t words m p given s → f s < 2 ^ w
  says_below w x f table says given s seen =
      let there : x < length (widths_of t.ops) = omega (arith, says.wide.there, widths_count t.ops) in
      let below : term_value t given x < 2 ^ term_width t x = (words_of t given table).words x there in
      subst (λ (v : ℕ). f s < 2 ^ v) says.wide.width_is
      (subst (λ (n : ℕ). n < 2 ^ term_width t x) (says.value given s seen) below)

  -- a constant
  pub says_con : (number w x : ℕ) → IsTable t → Is t (Con number w) x → Says board store t words m p w x (λ s. number)
  unfolding op_width op_value
  says_con number w x table is = says_op (Con number w) w x (λ s. number) table is refl (λ given s seen. refl)

  -- a word turned over
  pub says_not : (w a x : ℕ) (f : Scene → ℕ) → IsTable t → Is t (Not a) x → Says board store t words m p w a f
      → Says board store t words m p w x (λ s. complement w (f s))
  unfolding op_width op_value
  says_not w a x f table is says = says_op (Not a) w x (λ s. complement w (f s)) table is says.wide.width_is
      (λ given s seen. ap₂ complement says.wide.width_is (says.value given s seen))

  -- the and of two words
  pub says_and : (w a b x : ℕ) (f g : Scene → ℕ) → IsTable t → Is t (And a b) x → Says board store t words m p w a f
      → Says board store t words m p w b g → Says board store t words m p w x (λ s. bit_and (f s) (g s))
  unfolding op_width op_value
  says_and w a b x f g table is first second =
      says_op (And a b) w x (λ s. bit_and (f s) (g s)) table is first.wide.width_is
      (λ given s seen. ap₂ bit_and (first.value given s seen) (second.value given s seen))

  -- the or of two words
  pub says_or : (w a b x : ℕ) (f g : Scene → ℕ) → IsTable t → Is t (Or a b) x → Says board store t words m p w a f
      → Says board store t words m p w b g → Says board store t words m p w x (λ s. bit_or (f s) (g s))
  unfolding op_width op_value
  says_or w a b x f g table is first second =
      says_op (Or a b) w x (λ s. bit_or (f s) (g s)) table is first.wide.width_is
      (λ given s seen. ap₂ bit_or (first.value given s seen) (second.value given s seen))

  -- the exclusive or of two words
  pub says_xor : (w a b x : ℕ) (f g : Scene → ℕ) → IsTable t → Is t (Xor a b) x → Says board store t words m p w a f
      → Says board store t words m p w b g → Says board store t words m p w x (λ s. bit_xor (f s) (g s))
  unfolding op_width op_value
  says_xor w a b x f g table is first second =
      says_op (Xor a b) w x (λ s. bit_xor (f s) (g s)) table is first.wide.width_is
      (λ given s seen. ap₂ bit_xor (first.value given s seen) (second.value given s seen))

  -- the sum of two words and a bit
  pub says_sum : (w a b c x : ℕ) (f g : Scene → ℕ) (h : Scene → Bool) → IsTable t → Is t (Sum a b c) x
      → Says board store t words m p w a f → Says board store t words m p w b g
      → Says board store t words m p 1 c (λ s. num (h s))
      → Says board store t words m p w x (λ s. (f s + g s + num (h s)) % 2 ^ w)
  unfolding op_width op_value
  says_sum w a b c x f g h table is first second carry =
      says_op (Sum a b c) w x (λ s. (f s + g s + num (h s)) % 2 ^ w) table is first.wide.width_is
      (λ given s seen. ap₂ (λ (n v : ℕ). n % 2 ^ v)
      (ap₂ (λ (n o : ℕ). n + o) (ap₂ (λ (n o : ℕ). n + o) (first.value given s seen) (second.value given s seen))
      (carry.value given s seen)) first.wide.width_is)

  -- the carry out of a sum
  pub says_cout : (w a b c x : ℕ) (f g : Scene → ℕ) (h : Scene → Bool) → IsTable t → Is t (Cout a b c) x
      → Says board store t words m p w a f → Says board store t words m p w b g
      → Says board store t words m p 1 c (λ s. num (h s))
      → Says board store t words m p 1 x (λ s. num (carry_at (f s) (g s) (h s) w))
  unfolding op_width op_value
  says_cout w a b c x f g h table is first second carry =
      says_op (Cout a b c) 1 x (λ s. num (carry_at (f s) (g s) (h s) w)) table is refl
      (λ given s seen. ap num (carry_same _ (f s) _ (g s) _ _ w (h s) (first.value given s seen)
      (second.value given s seen) (carry.value given s seen) first.wide.width_is))

  -- the overflow of a sum
  pub says_ovf : (w a b c x : ℕ) (f g : Scene → ℕ) (h : Scene → Bool) → IsTable t → Is t (Ovf a b c) x
      → Says board store t words m p w a f → Says board store t words m p w b g
      → Says board store t words m p 1 c (λ s. num (h s))
      → Says board store t words m p 1 x
      (λ s. num (differ (carry_at (f s) (g s) (h s) (w - 1)) (carry_at (f s) (g s) (h s) w)))
  unfolding op_width op_value
  says_ovf w a b c x f g h table is first second carry =
      says_op (Ovf a b c) 1 x
      (λ s. num (differ (carry_at (f s) (g s) (h s) (w - 1)) (carry_at (f s) (g s) (h s) w))) table is refl
      (λ given s seen. ap₂ (λ (d e : Bool). num (differ d e))
      (carry_same _ (f s) _ (g s) _ _ (w - 1) (h s) (first.value given s seen) (second.value given s seen)
      (carry.value given s seen) (ap (λ (n : ℕ). n - 1) first.wide.width_is))
      (carry_same _ (f s) _ (g s) _ _ w (h s) (first.value given s seen) (second.value given s seen)
      (carry.value given s seen) first.wide.width_is))

  -- whether two words are equal
  pub says_eq : (w a b x : ℕ) (f g : Scene → ℕ) → IsTable t → Is t (Eq a b) x → Says board store t words m p w a f
      → Says board store t words m p w b g → Says board store t words m p 1 x (λ s. num (f s == g s))
  unfolding op_width op_value
  says_eq w a b x f g table is first second =
      says_op (Eq a b) 1 x (λ s. num (f s == g s)) table is refl
      (λ given s seen. ap₂ (λ (n o : ℕ). num (n == o)) (first.value given s seen) (second.value given s seen))

  -- a run of bits of a word
  pub says_part : (w a low v x : ℕ) (f : Scene → ℕ) → IsTable t → Is t (Part a low v) x
      → Says board store t words m p w a f → Says board store t words m p v x (λ s. part low v (f s))
  unfolding op_width op_value
  says_part w a low v x f table is says = says_op (Part a low v) v x (λ s. part low v (f s)) table is refl
      (λ given s seen. ap (part low v) (says.value given s seen))

  -- one bit of a word
  pub says_bit : (w a low x : ℕ) (f : Scene → ℕ) → IsTable t → Is t (Part a low 1) x
      → Says board store t words m p w a f → Says board store t words m p 1 x (λ s. num (bit_of (f s) low))
  says_bit w a low x f table is says =
      says_as 1 x (λ s. part low 1 (f s)) (λ s. num (bit_of (f s) low)) (says_part w a low 1 x f table is says)
      (λ given s seen. part_bit low (f s))

  -- one word above another
  pub says_join : (w v a b x : ℕ) (f g : Scene → ℕ) → IsTable t → Is t (Join a b) x → Says board store t words m p w a f
      → Says board store t words m p v b g → Says board store t words m p (w + v) x (λ s. join v (f s) (g s))
  unfolding op_width op_value
  says_join w v a b x f g table is high low =
      says_op (Join a b) (w + v) x (λ s. join v (f s) (g s)) table is
      (ap₂ (λ (n o : ℕ). n + o) high.wide.width_is low.wide.width_is)
      (λ given s seen. ap (λ (n : ℕ). join n (term_value t given a) (term_value t given b)) low.wide.width_is
      ∙ ap₂ (join v) (high.value given s seen) (low.value given s seen))

  -- an entry of the map
  pub says_tab : (w a x : ℕ) (f : Scene → ℕ) → IsTable t → Is t (Tab a) x → Says board store t words m p w a f
      → Says board store t words m p 12 x (λ s. slice_index t.map (f s))
  unfolding op_width op_value
  says_tab w a x f table is says = says_op (Tab a) 12 x (λ s. slice_index t.map (f s)) table is refl
      (λ given s seen. ap (slice_index t.map) (says.value given s seen))

-- ---- what was said is said still

-- where the first is taken or what is behind it
first_or : (b : Bool) (a term : ℕ) (rest : Option ℕ) → (if b then Some a else rest) ≡ Some term
    → (a ≡ term) ⊎ (rest ≡ Some term)
first_or true a term rest is = inl (same_Some a term is)
first_or false a term rest is = inr is

-- a word with a term
record HasWord (words : List Word) (term : ℕ) : Type 0 where
  pub place : ℕ
  pub word : Word
  pub is : slice_get words place ≡ Some word
  pub same : word.term ≡ term

term_of_word : (words : List Word) (kind : WordKind) (term : ℕ) → term_of words kind ≡ Some term → HasWord words term
term_of_word [] kind term is = absurd cc
term_of_word (w ∷ words) kind term is = elim (first_or (is_of w.kind kind) w.term term (term_of words kind) is) [
  | inl here ↦ record { place = 0; word = w; is = refl; same = here }
  | inr there ↦
      let behind = term_of_word words kind term there in
      record { place = suc behind.place; word = behind.word; is = behind.is; same = behind.same }
]

-- the term of a kind is one of the table
pub term_of_there : (t : Table) (words : List Word) (kind : WordKind) (term : ℕ) → AreOf t words
    → term_of words kind ≡ Some term → term < length t.ops
term_of_there t words kind term of is =
    let has = term_of_word words kind term is in
    subst (λ (n : ℕ). n < length t.ops) has.same (of.there has.place has.word has.is)
