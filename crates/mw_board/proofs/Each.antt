-- One rule on each entry, an entry at a time.
use Rattle.std.proofs.Common.{◌≡◌, ℕ, ◌+◌, ◌<◌, ◌≤◌, List, [], ◌∷◌, ◌++◌, length, get_or, take, drop, Ok, Err, refl}
use Rattle.std.proofs.Common.{sym, ap, ◌∙◌}
use Rattle.std.proofs.lemmas.List.{drop_all, take_more}
use Rattle.mw_base.proofs.Lists.{next}
use Rattle.mw_board.specs.declared.fault.PartFault.{PartFault}
use Rattle.mw_board.specs.declared.flipflop.FlipFlop.{FlipFlop}
use Rattle.mw_board.specs.declared.parts.BoardParts.{BoardParts}
use Rattle.mw_board.specs.Rules.{all_of}
use Rattle.mw_board.specs.Check.{Checked, each_from, flipflop_check, flipflops_from}

-- one answer alone
alone : (checked : Checked) → all_of (checked ∷ []) ≡ checked
alone (Ok done) = refl
alone (Err fault) = refl

-- an entry that breaks the rule ends the list
pub each_fails : {A : Type 0} (rule : ℕ → A → Checked) (fault : PartFault) (entries : List A) (n : ℕ) (entry : A)
    (total : Checked)
    → n < length entries → entry ≡ get_or entries n entry → rule n entry ≡ Err fault
    → each_from rule n (drop n entries) ≡ total → Err fault ≡ total
unfolding each_from
each_fails rule fault entries n entry total within is fails so_far =
    let one : each_from rule n (drop n entries) ≡ Err fault = rw (next entries n entry within is, fails) refl in
    sym one ∙ so_far

-- one more entry keeps it
pub each_goes_on : {A : Type 0} (rule : ℕ → A → Checked) (entries : List A) (n : ℕ) (entry : A) (total : Checked)
    → n < length entries → entry ≡ get_or entries n entry → rule n entry ≡ Ok tt
    → each_from rule n (drop n entries) ≡ total → each_from rule (n + 1) (drop (n + 1) entries) ≡ total
unfolding each_from
each_goes_on rule entries n entry total within is holds so_far =
    let one : each_from rule n (drop n entries) ≡ each_from rule (n + 1) (drop (n + 1) entries) =
    rw (next entries n entry within is, holds) (alone (each_from rule (n + 1) (drop (n + 1) entries))) in
    sym one ∙ so_far

-- all entries keep it
pub each_done : {A : Type 0} (rule : ℕ → A → Checked) (entries : List A) (n : ℕ) (total : Checked)
    → length entries ≤ n → each_from rule n (drop n entries) ≡ total → Ok tt ≡ total
unfolding each_from
each_done rule entries n total past so_far =
    let one : each_from rule n (drop n entries) ≡ Ok tt = rw (drop_all n entries past) refl in
    sym one ∙ so_far

-- one more flip-flop stands before those after it
front_grows : (flipflops : List FlipFlop) (i : ℕ) (f : FlipFlop)
    → i < length flipflops → f ≡ get_or flipflops i f → take (i + 1) flipflops ≡ take i flipflops ++ f ∷ []
front_grows flipflops i f within is =
    take_more flipflops i f within ∙ ap (λ (x : FlipFlop). take i flipflops ++ x ∷ []) (sym is)

-- a flip-flop that breaks a rule ends them
pub flipflop_fails : (p : BoardParts) (fault : PartFault) (flipflops : List FlipFlop)
    (i : ℕ) (f : FlipFlop) (total : Checked)
    → i < length flipflops → f ≡ get_or flipflops i f
    → flipflop_check p (take i flipflops) i f ≡ Err fault
    → flipflops_from p (take i flipflops) i (drop i flipflops) ≡ total → Err fault ≡ total
unfolding flipflops_from
flipflop_fails p fault flipflops i f total within is fails so_far =
    let one : flipflops_from p (take i flipflops) i (drop i flipflops) ≡ Err fault =
    rw (next flipflops i f within is, fails) refl in
    sym one ∙ so_far

-- one more flip-flop keeps them
pub flipflop_goes_on : (p : BoardParts) (flipflops : List FlipFlop) (i : ℕ)
    (f : FlipFlop) (total : Checked)
    → i < length flipflops → f ≡ get_or flipflops i f → flipflop_check p (take i flipflops) i f ≡ Ok tt
    → flipflops_from p (take i flipflops) i (drop i flipflops) ≡ total
    → flipflops_from p (take (i + 1) flipflops) (i + 1) (drop (i + 1) flipflops) ≡ total
unfolding flipflops_from
flipflop_goes_on p flipflops i f total within is holds so_far =
    let one : flipflops_from p (take i flipflops) i (drop i flipflops)
    ≡ flipflops_from p (take (i + 1) flipflops) (i + 1) (drop (i + 1) flipflops) =
    rw (next flipflops i f within is, holds, front_grows flipflops i f within is)
    (alone (flipflops_from p (take i flipflops ++ f ∷ []) (i + 1) (drop (i + 1) flipflops))) in
    sym one ∙ so_far

-- all flip-flops keep them
pub flipflops_done : (p : BoardParts) (flipflops : List FlipFlop) (i : ℕ)
    (total : Checked) → length flipflops ≤ i
    → flipflops_from p (take i flipflops) i (drop i flipflops) ≡ total → Ok tt ≡ total
unfolding flipflops_from
flipflops_done p flipflops i total past so_far =
    let one : flipflops_from p (take i flipflops) i (drop i flipflops) ≡ Ok tt =
    rw (drop_all i flipflops past) refl in
    sym one ∙ so_far

-- of three answers, the second is the first fault
pub second_fails : {first second : Checked} (third : Checked) {fault : PartFault}
    → first ≡ Ok tt → second ≡ Err fault → all_of (first ∷ second ∷ third ∷ []) ≡ Err fault
second_fails third holds fails = rw (holds, fails) refl

-- of three answers, the first two hold
pub third_answers : {first second third : Checked}
    → first ≡ Ok tt → second ≡ Ok tt → all_of (first ∷ second ∷ third ∷ []) ≡ third
third_answers {third} one two = rw (one, two) (alone third)
