-- What the expressions of a relation are over.
use Rattle.std.proofs.Common.{◌≡◌, ℕ, zero, suc, ◌+◌, ◌<◌, ◌≤◌, List, [], ◌∷◌, ◌++◌, length, map, take, true, refl, ap}
use Rattle.std.proofs.Common.{arith, length-append, length-take-le}
use Rattle.std.specs.Prelude.{codes, slice_get, slice_index}
use Rattle.std.specs.Option.{option_to_list}
use Rattle.std.specs.List.{All}
use Rattle.std.proofs.lemmas.List.{length-map}
use Rattle.std.proofs.lemmas.List.Elements.{All-nil, All-cons, All-append}
use Rattle.mw_board.specs.declared.flipflop.FlipFlop.{FlipFlop}
use Rattle.mw_board.specs.declared.parts.BoardParts.{BoardParts}
use Rattle.mw_board.specs.Elements.{Element, register_names, address_register_name, instruction_register_name}
use Rattle.mw_board.specs.Elements.{names_behind_of, of_width, elements_of, element_count}
use Rattle.mw_board.specs.Valid.{IsBoard}
use Rattle.mw_board.proofs.Elements.{count_of, words_few}
use Rattle.mw_expr.specs.Grammar.{is_dotted}
use Rattle.mw_macro.specs.Machine.{Description}
use Rattle.mw_macro.specs.Right.{IsBetween, IsMachine}
use Rattle.mw_rel.specs.Job.{shape_of}
use Rattle.mw_descfile.specs.KeptRelation.{IsScope}
use Rattle.mw_descfile.specs.Relation.{names_of, scope_for}

-- ---- elements one by one

-- nothing is taken of nothing
take-nil : {A : Type 0} (n : ℕ) → take {A = A} n [] ≡ []
take-nil zero = refl
take-nil (suc n) = refl

-- the elements up to one more
pub taken_more : {A B : Type 0} (f : A → B) (xs : List A) (n : ℕ)
    → map f (take n xs) ++ map f (option_to_list (slice_get xs n)) ≡ map f (take (n + 1) xs)
taken_more f [] zero = refl
taken_more f [] (suc n) = rw (take-nil (suc n + 1)) refl
taken_more f (x ∷ xs) zero = refl
taken_more f (x ∷ xs) (suc n) =
    let e : suc n + 1 ≡ suc (n + 1) = omega arith in
    rw e (ap (λ rest. f x ∷ rest) (taken_more f xs n))

-- ---- widths and names

-- a width that an element can have
abbrev IsWidth : ℕ → Type 0
IsWidth w = (1 ≤ w) × (w ≤ 32)

-- elements of a width, and others behind them
wide : (w : ℕ) (names : List (List ℕ)) (rest : List Element) → IsWidth w
    → All IsWidth (map (λ (e : Element). e.width) rest)
    → All IsWidth (map (λ (e : Element). e.width) (of_width w names ++ rest))
wide w [] rest is all = all
wide w (name ∷ names) rest is all = All-cons IsWidth w _ is (wide w names rest is all)

last_wide : (w : ℕ) (names : List (List ℕ)) → IsWidth w
    → All IsWidth (map (λ (e : Element). e.width) (of_width w names))
last_wide w [] is = All-nil IsWidth
last_wide w (name ∷ names) is = All-cons IsWidth w _ is (last_wide w names is)

-- each element of a board has 1 to 32 bits
elements_wide : (board : BoardParts) → IsBoard board → All IsWidth (map (λ (e : Element). e.width) (elements_of board))
unfolding elements_of
elements_wide board is =
    let least = is.sizes.least in
    let most = is.sizes.most in
    let some = is.sizes.address_some in
    let few = is.sizes.address_most in
    let word : IsWidth board.width = (omega (arith, least), most) in
    let address : IsWidth board.address = (some, omega (arith, few)) in
    let behind = of_width 12 (names_behind_of board) in
    let flips = of_width 1 (map (λ (f : FlipFlop). f.name) board.flipflop) ++ behind in
    let irs = of_width board.width (instruction_register_name ∷ []) ++ flips in
    let mars = of_width board.address (address_register_name ∷ []) ++ irs in
    wide board.width register_names mars word
    (wide board.address (address_register_name ∷ []) irs address
    (wide board.width (instruction_register_name ∷ []) flips word
    (wide 1 (map (λ (f : FlipFlop). f.name) board.flipflop) behind (omega arith, omega arith)
    (last_wide 12 (names_behind_of board) (omega arith, omega arith)))))

-- each register of a machine has
registers_wide : (n : ℕ) (ws : List ℕ) → ((i : ℕ) → i < length ws → IsBetween 1 (slice_index ws i) 32)
    → All IsWidth (take n ws)
registers_wide zero ws all = All-nil IsWidth
registers_wide (suc n) [] all = All-nil IsWidth
registers_wide (suc n) (w ∷ ws) all = All-cons IsWidth w (take n ws) (all 0 (omega arith))
    (registers_wide n ws (λ i below. all (suc i) (omega (arith, below))))

-- there are few elements
elements_few : (board : BoardParts) → IsBoard board → element_count board ≤ 46
elements_few board is =
    let count = count_of board in
    let last = words_few board in
    let flips = is.few_flipflops in
    omega (arith, count, last, flips)

-- their names have two parts
dotted : (board : BoardParts) (machine : Description) → is_dotted (names_of board machine) ≡ true
unfolding names_of elements_of
dotted board machine = refl

pub scope_kept : (board : BoardParts) (machine : Description) → IsBoard board → IsMachine machine
    → IsScope (scope_for board machine)
unfolding shape_of names_of
scope_kept board machine is described =
    let widths = map (λ (e : Element). e.width) (elements_of board) in
    let registers = take machine.registers machine.shape.widths in
    let named = take machine.registers machine.names in
    let have = described.formed.registers in
    let elements = described.formed.elements in
    let few = described.right.registers in
    let word = described.right.word in
    let first = length-map (elements_of board) (λ (e : Element). e.width) in
    let second = length-take-le machine.registers machine.shape.widths (omega (arith, have, elements)) in
    let third = length-take-le machine.registers machine.names have in
    let both = length-append widths registers in
    let count = elements_few board is in
    let board_names = map (λ (e : Element). codes "b." ++ e.name) (elements_of board) in
    let register_names_of = map (λ (name : List ℕ). codes "m." ++ name) named in
    let fourth = length-map (elements_of board) (λ (e : Element). codes "b." ++ e.name) in
    let fifth = length-map named (λ (name : List ℕ). codes "m." ++ name) in
    let all_names = length-append board_names register_names_of in
    record {
      shape = record {
        few = omega (arith, first, second, both, count, few);
        widths = All-append IsWidth widths registers (elements_wide board is)
            (registers_wide machine.registers machine.shape.widths described.right.widths);
        word = word.1;
        memory = λ some. omega (arith, word.0);
      };
      named = omega (arith, first, second, both, third, fourth, fifth, all_names);
      dotted = dotted board machine;
    }
