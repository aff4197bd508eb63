-- Terms that wait for their operands.
use Rattle.std.proofs.Common.{◌≡◌, inl, inr, ℕ, zero, suc, ◌+◌, ◌-◌, ◌*◌, ◌<◌, ◌≤◌, List, [], ◌∷◌, ◌++◌, length, take}
use Rattle.std.proofs.Common.{slice_index, refl, ap, sym, ◌∙◌, arith, subst, length-append}
use Rattle.std.specs.Prelude.{false, Some, None, slice_get, slice_index_or, slice_set, is_some, Contains, not, find}
use Rattle.std.proofs.lemmas.Bool.{cases_lt}
use Rattle.std.proofs.lemmas.List.{get_or_append_left, get_or_push, get_or-take, length-take-le, length-set}
use Rattle.mw_term.specs.declared.op.Op.{Op}
use Rattle.mw_term.specs.Operands.{operands}
use Rattle.mw_term.specs.Table.{Table, IsTable}
use Rattle.mw_blast.specs.declared.fault.BlastFault.{BlastFault}
use Rattle.mw_blast.specs.Causes.{IsCause}
use Rattle.mw_term.specs.Operands.{IsReached}
use Rattle.mw_term.specs.Operands.IsReached.{itself}
use Rattle.mw_blast.specs.Kept.{Made, is_made, AreMade, unmade, IsOnTheWay, distance}
use Rattle.mw_blast.proofs.Bits.{each_push}
use Rattle.mw_blast.proofs.Kept.{made_same, made_other, unmade_fewer, all_made, first_missing}
use Rattle.mw_blast.proofs.Reached.{reached_on, operand_before, cause_on}

-- the one that waits last
abbrev pub last : List ℕ → ℕ
last waiting = slice_index waiting (length waiting - 1)

one_waits : (P : ℕ → Type 0) (x : ℕ) → P x → (i : ℕ) → i < 1 → P (slice_index (x ∷ []) i)
one_waits P x holds zero inside = holds
one_waits P x holds (suc i) inside = absurd (omega arith)

-- the term alone
pub begun : (t : Table) (made : Made) (whole : ℕ) → whole < length made.starts → is_made made whole ≡ false
    → IsOnTheWay t made whole (whole ∷ [])
begun t made whole room missing = record {
  room = room;
  terms = record {
    reached = one_waits (λ x. IsReached t whole x) whole itself;
    missing = one_waits (λ x. is_made made x ≡ false) whole missing;
    within = one_waits (λ x. x ≤ whole) whole (omega arith);
    falling = λ i j earlier inside. absurd (omega (arith, earlier, inside));
  };
  first = λ some. refl;
  done = λ none. absurd (omega (arith, none));
}

last_none : (whole : ℕ) → last [] ≤ whole
last_none whole = omega arith

-- the one that waits last, if there is one, is no later than the first term
last_small : (t : Table) (made : Made) (whole : ℕ) (waiting : List ℕ) → IsOnTheWay t made whole waiting
    → last waiting ≤ whole
last_small t made whole [] way = last_none whole
last_small t made whole (x ∷ rest) way = way.terms.within (length (x ∷ rest) - 1) (omega arith)

module _ (t : Table) (made : Made) (whole : ℕ) (waiting : List ℕ) (way : IsOnTheWay t made whole waiting)
    (some : 0 < length waiting) where
  abbrev top : ℕ
  top = length waiting - 1

  top_inside : top < length waiting
  top_inside = omega (arith, some)

  -- none that waits is before the last one
  last_least : (i : ℕ) → i < length waiting → last waiting ≤ slice_index waiting i
  last_least i inside = elim (cases_lt i top) [
    | inl earlier ↦ omega (arith, way.terms.falling i top earlier top_inside)
    | inr at ↦ let same : i ≡ top = omega (arith, at, inside) in
        omega (arith, ap (slice_index waiting) same)
  ]

  pub last_missing : is_made made (last waiting) ≡ false
  last_missing = way.terms.missing top top_inside

  pub last_room : last waiting < length made.starts
  last_room = omega (arith, way.room, way.terms.within top top_inside)

  -- an operand of the last one waits
  pub pushed : (op : Op) (operand : ℕ) → IsTable t → slice_get t.ops (last waiting) ≡ Some op
      → Contains (operands op) operand → is_made made operand ≡ false
      → IsOnTheWay t made whole (waiting ++ operand ∷ [])
  pushed op operand table has among missing =
      let earlier = operand_before t (last waiting) operand op table has among in
      record {
        room = way.room;
        terms = record {
          reached = each_push (λ i x. IsReached t whole x) waiting operand way.terms.reached
              (reached_on t whole (last waiting) operand op (way.terms.reached top top_inside) has among);
          missing = each_push (λ i x. is_made made x ≡ false) waiting operand way.terms.missing missing;
          within = each_push (λ i x. x ≤ whole) waiting operand way.terms.within
              (omega (arith, earlier, way.terms.within top top_inside));
          falling = λ i j before inside. elim (cases_lt j (length waiting)) [
            | inl there ↦
                let same_i : slice_index (waiting ++ operand ∷ []) i ≡ slice_index waiting i =
                get_or_append_left waiting (operand ∷ []) 0 i (omega (arith, before, there)) in
                let same_j : slice_index (waiting ++ operand ∷ []) j ≡ slice_index waiting j =
                get_or_append_left waiting (operand ∷ []) 0 j there in
                omega (arith, same_i, same_j, way.terms.falling i j before there)
            | inr past ↦
                let end : j ≡ length waiting = omega (arith, past, inside, length-append waiting (operand ∷ [])) in
                let first_inside : i < length waiting = omega (arith, before, end) in
                let same_i : slice_index (waiting ++ operand ∷ []) i ≡ slice_index waiting i =
                get_or_append_left waiting (operand ∷ []) 0 i first_inside in
                let same_j : slice_index (waiting ++ operand ∷ []) j ≡ operand =
                ap (slice_index (waiting ++ operand ∷ [])) end ∙ get_or_push waiting operand 0 (length waiting) refl in
                omega (arith, same_i, same_j, last_least i first_inside, earlier)
          ];
        };
        first = λ more. get_or_append_left waiting (operand ∷ []) 0 0 some ∙ way.first some;
        done = λ none. absurd (omega (arith, none, length-append waiting (operand ∷ [])));
      }

  -- and comes nearer to the first term
  pub pushed_nearer : (op : Op) (operand : ℕ) → IsTable t → slice_get t.ops (last waiting) ≡ Some op
      → Contains (operands op) operand → last (waiting ++ operand ∷ []) < last waiting
  pushed_nearer op operand table has among =
      let end : length (waiting ++ operand ∷ []) - 1 ≡ length waiting =
      omega (arith, length-append waiting (operand ∷ [])) in
      let same : last (waiting ++ operand ∷ []) ≡ operand =
      ap (slice_index (waiting ++ operand ∷ [])) end ∙ get_or_push waiting operand 0 (length waiting) refl in
      omega (arith, same, operand_before t (last waiting) operand op table has among)

  -- the last one's bits were made
  pub popped : (new : Made) (start : ℕ) → new.starts ≡ slice_set made.starts (last waiting) (Some start)
      → IsOnTheWay t new whole (take top waiting)
  popped new start set =
      let count : length (take top waiting) ≡ top = length-take-le top waiting (omega (arith, some)) in
      let made_now = λ (other : ℕ). ap (λ starts. is_some (slice_index_or starts other None)) set in
      let at = λ (i : ℕ) (inside : i < length (take top waiting)).
      get_or-take top waiting i 0 (omega (arith, inside, count)) in
      let before = λ (i : ℕ) (inside : i < length (take top waiting)).
      way.terms.falling i top (omega (arith, inside, count)) top_inside in
      record {
        room = omega (arith, way.room, ap length set, length-set made.starts (last waiting) (Some start));
        terms = record {
          reached = λ i inside. subst (λ (x : ℕ). IsReached t whole x) (sym (at i inside))
              (way.terms.reached i (omega (arith, inside, count)));
          missing = λ i inside.
              let other = slice_index waiting i in
              let differ : other ≡ last waiting → ⊥ = λ same. omega (arith, same, before i inside) in
              ap (λ (x : ℕ). is_made new x) (at i inside)
              ∙ made_now other
              ∙ made_other made (last waiting) other start differ made.bits
              ∙ way.terms.missing i (omega (arith, inside, count));
          within = λ i inside. omega (arith, at i inside, way.terms.within i (omega (arith, inside, count)));
          falling = λ i j earlier inside.
              omega (
                arith,
                at i (omega (arith, earlier, inside)),
                at j inside,
                way.terms.falling i j earlier (omega (arith, inside, count)),
              );
        };
        first = λ more. get_or-take top waiting 0 0 (omega (arith, more, count)) ∙ way.first some;
        done = λ none.
            let alone : top ≡ 0 = omega (arith, none, count) in
            let same : last waiting ≡ whole = ap (slice_index waiting) alone ∙ way.first some in
            ap (λ (x : ℕ). is_made new x) (sym same) ∙ made_now (last waiting)
            ∙ made_same made (last waiting) start last_room made.bits;
      }

  -- and one term fewer is unmade
  pub popped_nearer : (new : Made) (start : ℕ) → new.starts ≡ slice_set made.starts (last waiting) (Some start)
      → unmade new.starts * (whole + 1) + last (take top waiting)
      < unmade made.starts * (whole + 1) + last waiting
  popped_nearer new start set =
      let fewer : unmade new.starts + 1 ≡ unmade made.starts =
      ap (λ starts. unmade starts + 1) set ∙ unmade_fewer made (last waiting) start last_room last_missing in
      let later : last (take top waiting) ≤ whole = last_small t new whole (take top waiting) (popped new start set) in
      let more : unmade made.starts * (whole + 1) ≡ unmade new.starts * (whole + 1) + (whole + 1) =
      ap (λ (n : ℕ). n * (whole + 1)) (sym fewer) ∙ omega arith in
      omega (arith, more, later)

-- ---- one step

-- what a step leaves: terms on the way still, and nearer
pub record IsNearer (t : Table) (whole : ℕ) (made new : Made) (waiting rest : List ℕ) : Type 0 where
  pub way : IsOnTheWay t new whole rest
  pub nearer : distance whole new rest < distance whole made waiting

pub waits_inside : (t : Table) (made : Made) (whole x : ℕ) (waiting : List ℕ) → IsOnTheWay t made whole waiting
    → 0 < length waiting → x ≡ last waiting → whole < length t.ops → x < length t.ops
waits_inside t made whole x waiting way some at there =
    omega (arith, at, there, way.terms.within (length waiting - 1) (omega (arith, some)))

pub waits_room : (t : Table) (made : Made) (whole x : ℕ) (waiting : List ℕ) → IsOnTheWay t made whole waiting
    → 0 < length waiting → x ≡ last waiting → x < length made.starts
waits_room t made whole x waiting way some at = omega (arith, at, last_room t made whole waiting way some)

pub waits_operands : (t : Table) (made : Made) (x : ℕ) (op other : Op) → slice_get t.ops x ≡ Some op
    → find (λ a. not (is_made made a)) (operands op) ≡ None → slice_get t.ops x ≡ Some other
    → AreMade made (operands other)
waits_operands t made x op other has none also =
    let same : op ≡ other = cc in
    subst (λ (o : Op). AreMade made (operands o)) same (all_made made (operands op) none)

pub waits_cause : (t : Table) (made : Made) (whole x budget : ℕ) (waiting : List ℕ) (e : BlastFault)
    → IsOnTheWay t made whole waiting → 0 < length waiting → x ≡ last waiting → IsCause t x budget e
    → IsCause t whole budget e
waits_cause t made whole x budget waiting e way some at cause =
    cause_on t whole x budget e
    (subst (λ (y : ℕ). IsReached t whole y) (sym at) (way.terms.reached (length waiting - 1) (omega (arith, some))))
    cause

pub operand_waits : (t : Table) (made : Made) (whole x operand : ℕ) (op : Op) (waiting new : List ℕ)
    → IsOnTheWay t made whole waiting → 0 < length waiting → x ≡ last waiting → IsTable t → slice_get t.ops x ≡ Some op
    → find (λ a. not (is_made made a)) (operands op) ≡ Some operand → new ≡ waiting ++ operand ∷ []
    → IsNearer t whole made made waiting new
operand_waits t made whole x operand op waiting new way some at table has found is =
    let its = subst (λ (y : ℕ). slice_get t.ops y ≡ Some op) at has in
    let first = first_missing made (operands op) operand found in
    let earlier = pushed_nearer t made whole waiting way some op operand table its first.0 in
    rw is (record {
      way = pushed t made whole waiting way some op operand table its first.0 first.1;
      nearer = omega (arith, earlier);
    })

pub term_made : (t : Table) (made new : Made) (whole x start : ℕ) (waiting rest : List ℕ)
    → IsOnTheWay t made whole waiting → 0 < length waiting → x ≡ last waiting
    → new.starts ≡ slice_set made.starts x (Some start) → rest ≡ take (length waiting - 1) waiting
    → IsNearer t whole made new waiting rest
term_made t made new whole x start waiting rest way some at set is =
    let its = set ∙ ap (λ (y : ℕ). slice_set made.starts y (Some start)) at in
    rw is (record {
      way = popped t made whole waiting way some new start its;
      nearer = popped_nearer t made whole waiting way some new start its;
    })
