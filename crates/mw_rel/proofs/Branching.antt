-- The branch bits of two steps of one machine are one, or part at a bit.
use Rattle.std.proofs.Common.{◌≡◌, inl, inr, ℕ, List, [], ◌∷◌, ◌++◌, map, Bool, true, false, ◌==◌, refl, sym, ap, subst}
use Rattle.std.specs.Prelude.{if◌then◌else◌}
use Rattle.mw_term.specs.declared.decided.DecidedKind.TheVariants.{Branch}
use Rattle.mw_term.specs.declared.decided.Decided.{Decided}
use Rattle.mw_cycle.specs.Decided.{decided}
use Rattle.mw_expr.specs.declared.shape.Shape.{Shape}
use Rattle.mw_expr.specs.Values.{value}
use Rattle.mw_macro.specs.Branches.{branches, branches_in, branches_of}
use Rattle.mw_macro.specs.DescribedStep.{Now, after, begun}
use Rattle.mw_macro.specs.Machine.{Description}
use Rattle.mw_macro.specs.State.{MachineState}
use Rattle.mw_macro.specs.Statements.{Act, assign, write, put, take_in, choose, Acts, nothing, next}
use Rattle.mw_rel.proofs.Parting.{Meet, meet_on, meet_bit, part_here}

-- values of branch bits as decided bits
abbrev bits : List Bool → List Decided
bits values = map (decided Branch) values

together : (xs ys : List Bool) → bits (xs ++ ys) ≡ bits xs ++ bits ys
together [] ys = refl
together (x ∷ xs) ys = ap (λ rest. decided Branch x ∷ rest) (together xs ys)

-- a condition, and what is met behind it
chosen : (a b : Bool) (one other two another : List Bool) → Meet (bits one) (bits two)
    → Meet (bits other) (bits another)
    → Meet (bits (a ∷ (if a then one else other))) (bits (b ∷ (if b then two else another)))
chosen true true one other two another first second = meet_bit Branch true true (bits one) (bits two) first
chosen false false one other two another first second = meet_bit Branch false false (bits other) (bits another) second
chosen true false one other two another first second = inr (part_here Branch true (bits one) (bits another))
chosen false true one other two another first second = inr (part_here Branch false (bits other) (bits two))

mutual
  act_meets : (s : Shape) (inputs others : List ℕ) (act : Act) (x y : Now)
      → Meet (bits (branches s inputs 0 act x)) (bits (branches s others 0 act y))
  act_meets s inputs others (assign target e) x y = inl refl
  act_meets s inputs others (write address e) x y = inl refl
  act_meets s inputs others (put e) x y = inl refl
  act_meets s inputs others (take_in target) x y = inl refl
  act_meets s inputs others (choose condition one other) x y =
      chosen (value s x.values x.memory condition == 1) (value s y.values y.memory condition == 1)
      (branches_in s inputs 0 one x) (branches_in s inputs 0 other x)
      (branches_in s others 0 one y) (branches_in s others 0 other y)
      (acts_meet s inputs others one x y) (acts_meet s inputs others other x y)

  acts_meet : (s : Shape) (inputs others : List ℕ) (acts : Acts) (x y : Now)
      → Meet (bits (branches_in s inputs 0 acts x)) (bits (branches_in s others 0 acts y))
  acts_meet s inputs others nothing x y = inl refl
  acts_meet s inputs others (next act rest) x y =
      let then_x : Now = after s inputs 0 act x in
      let then_y : Now = after s others 0 act y in
      subst (λ xs. Meet xs (bits (branches_in s others 0 (next act rest) y)))
      (sym (together (branches s inputs 0 act x) (branches_in s inputs 0 rest then_x)))
      (subst (λ ys. Meet (bits (branches s inputs 0 act x) ++ bits (branches_in s inputs 0 rest then_x)) ys)
      (sym (together (branches s others 0 act y) (branches_in s others 0 rest then_y)))
      (meet_on _ _ _ _ (act_meets s inputs others act x y) (acts_meet s inputs others rest then_x then_y)))

pub steps_meet : (m : Description) (state other : MachineState) (request also : Bool) (inputs others : List ℕ)
    → Meet (bits (branches_of m state request inputs 0)) (bits (branches_of m other also others 0))
unfolding branches_of
steps_meet m state other request also inputs others =
    acts_meet m.shape inputs others m.acts (begun m state request) (begun m other also)
