-- Elements that are 0 before the first statement.
use Rattle.std.proofs.Common.{◌≡◌, ℕ, zero, suc, ◌+◌, ◌-◌, ◌<◌, List, [], ◌∷◌, ◌++◌, length, map, replicate}
use Rattle.std.proofs.Common.{slice_index, append-nil, append_assoc, refl, ap, ap₂, arith, sym, subst, take_all}
use Rattle.std.proofs.Common.{add-one, ◌∙◌, take, drop}
use Rattle.std.specs.Prelude.{slice_get, Option, Some, None}
use Rattle.mw_macro.specs.DescribedStep.{now}
use Rattle.mw_macro.specs.Machine.{Description, IsFormed}
use Rattle.mw_term.specs.Assigned.{Given}
use Rattle.mw_term.specs.Table.{Table, IsTable}
use Rattle.mw_term.specs.Values.{term_value}
use Rattle.mw_term.specs.declared.side.Side.TheVariants.{Machine}
use Rattle.mw_term.specs.declared.word.Word.{Word}
use Rattle.mw_symmem.specs.Memory.{Memory, IsOfWidth, held_by}
use Rattle.mw_symmem.specs.Steps.{Grows}
use Rattle.mw_symmem.specs.Workspace.{IsLater, IsWorkspace, GoesOn}
use Rattle.mw_symmem.proofs.Growth.{grows_then}
use Rattle.mw_symmem.proofs.Later.{goes_by_growth, held_by_stays, width_later, writes_itself}
use Rattle.mw_symmach.specs.Expressions.{AreTerms, values_at}
use Rattle.mw_symmach.specs.GivenTerms.{Gives}
use Rattle.mw_symmach.specs.Steps.{parts_of, event_of, IsOfStep, Stands}
use Rattle.mw_symmach.specs.Turns.{Stepping, HasTerms, IsStepping, Waits, now_in, values_in, with_parts}
use Rattle.mw_symmach.specs.Zeros.{AreWide, HaveZeros}
use Rattle.mw_macro.specs.StepWords.{underway, with_zeros}
use Rattle.mw_term.specs.MemoryRead.{Held}
use Rattle.mw_term.specs.WordList.{AllEnded, list_of}
use Rattle.mw_symmem.specs.Listed.{list_in}
use Rattle.mw_symmach.specs.Walks.{underway_in, underway_of}
use Rattle.mw_symmach.proofs.Making.{values_same}

-- ---- lists

map_both : (f : ℕ → ℕ) (xs ys : List ℕ) → map f (xs ++ ys) ≡ map f xs ++ map f ys
map_both f [] ys = refl
map_both f (x ∷ xs) ys = ap (λ rest. f x ∷ rest) (map_both f xs ys)

replicate_behind : (n x : ℕ) → replicate n x ++ x ∷ [] ≡ replicate (suc n) x
replicate_behind zero x = refl
replicate_behind (suc n) x = ap (λ (rest : List ℕ). x ∷ rest) (replicate_behind n x)

replicate_more : (n x : ℕ) → replicate n x ++ x ∷ [] ≡ replicate (n + 1) x
replicate_more n x = rw add-one (replicate_behind n x)

size_more : (xs : List ℕ) (x : ℕ) → length (xs ++ x ∷ []) ≡ length xs + 1
size_more [] x = refl
size_more (y ∷ xs) x = omega (arith, size_more xs x)

-- what is so of each item of a list, by its place, and of one more
pub each_more : (P : ℕ → ℕ → Type 0) (xs : List ℕ) (x : ℕ) → ((i : ℕ) → i < length xs → P i (slice_index xs i))
    → P (length xs) x → (i : ℕ) → i < length (xs ++ x ∷ []) → P i (slice_index (xs ++ x ∷ []) i)
each_more P [] x each new zero inside = new
each_more P [] x each new (suc i) inside = absurd (omega (arith, inside))
each_more P (y ∷ xs) x each new zero inside = each 0 (omega arith)
each_more P (y ∷ xs) x each new (suc i) inside =
    each_more (λ k v. P (suc k) v) xs x (λ k within. each (suc k) (omega (arith, within))) new i (omega (arith, inside))

-- ---- elements of the value 0

grows_itself : (t : Table) (words : List Word) → Grows t t words words []
grows_itself t words = record {
  words = sym (append-nil words);
  extends = record { map = refl; more = omega arith; ops = take_all (length t.ops) t.ops (omega arith) };
  keeps = record { widths = λ term inside. refl; values = λ given term inside. refl };
  table = λ table. table;
  of = λ of. of;
}

pub zeros_first : (t : Table) (widths terms : List ℕ) → AreWide t widths terms → HaveZeros t t widths terms terms 0
zeros_first t widths terms wide = record {
  grows = grows_itself t;
  count = omega arith;
  wide = wide;
  values = λ given. sym (append-nil (values_at t given terms));
}

later_of : (told tnew : Table) (words : List Word) → IsTable told → Grows told tnew words words [] → IsLater told tnew
later_of told tnew words table grows = record {
  extends = grows.extends;
  keeps = grows.keeps;
  table = grows.table table;
}

wide_later : (told tnew : Table) (widths terms : List ℕ) → IsLater told tnew → AreWide told widths terms
    → AreWide tnew widths terms
wide_later told tnew widths terms later wide i inside =
    width_later told tnew (slice_index widths i) (slice_index terms i) later (wide i inside)

wide_terms : (t : Table) (widths terms : List ℕ) → AreWide t widths terms → AreTerms t terms
wide_terms t widths terms wide i inside = (wide i inside).there

pub zeros_more : (a b c : Table) (widths old new : List ℕ) (zeros width term : ℕ) → IsTable a
    → HaveZeros a b widths old new zeros
    → ((words : List Word) → Gives b c words words width term (λ given. 0)) → width ≡ slice_index widths (length new)
    → HaveZeros a c widths old (new ++ term ∷ []) (zeros + 1)
zeros_more a b c widths old new zeros width term table have gives wide =
    let made : (words : List Word) → Grows b c words words [] =
    λ words. record {
      words = sym (append-nil words);
      extends = (gives words).grows.extends;
      keeps = (gives words).grows.keeps;
      table = (gives words).grows.table;
      of = (gives words).grows.of;
    } in
    let later = later_of b c [] ((have.grows []).table table) (made []) in
    record {
      grows = λ words. grows_then a b c words words words [] [] (have.grows words) (made words);
      count = omega (arith, size_more new term, have.count);
      wide = each_more (λ i v. IsOfWidth c (slice_index widths i) v) new term
          (wide_later b c widths new later have.wide) (subst (λ w. IsOfWidth c w term) wide (gives []).is);
      values = λ given.
          map_both (λ x. term_value c given x) new (term ∷ [])
          ∙ ap₂ (λ (xs : List ℕ) (x : ℕ). xs ++ x ∷ [])
          (values_same b c given new later.keeps (wide_terms b widths new have.wide) ∙ have.values given)
          ((gives []).value given)
          ∙ append_assoc (values_at a given old) (replicate zeros 0) (0 ∷ [])
          ∙ ap (λ (xs : List ℕ). values_at a given old ++ xs) (replicate_more zeros 0);
    }

-- ---- a step begins

pub begun_goes : (told tnew : Table) (words : List Word) (m : Memory) (widths old new : List ℕ) (count : ℕ)
    → IsWorkspace told words m → HaveZeros told tnew widths old new count → GoesOn IsOfStep told tnew words words m m
begun_goes told tnew words m widths old new count workspace have =
    goes_by_growth IsOfStep told tnew words words m [] (have.grows words) workspace

pub begun_stands : (d : Description) (told tnew : Table) (words : List Word) (m : Memory) (registers new : List ℕ)
    (request : ℕ) → IsFormed d → Waits d told words m registers request
    → HaveZeros told tnew d.shape.widths registers new (length d.names - d.registers)
    → Stands d.shape tnew words m (parts_of (new ++ request ∷ []) [] 0)
begun_stands d told tnew words m registers new request formed waits have =
    let goes =
    begun_goes told tnew words m d.shape.widths registers new (length d.names - d.registers) waits.workspace have in
    let all : length new ≡ length d.names = omega (arith, have.count, waits.count, formed.registers) in
    let size = size_more new request in
    let wide : AreWide tnew d.shape.widths (new ++ request ∷ []) =
    each_more (λ i v. IsOfWidth tnew (slice_index d.shape.widths i) v) new request have.wide
    (rw (all, formed.request) (width_later told tnew 1 request goes.later waits.line)) in
    record {
      workspace = goes.workspace;
      address = waits.address;
      word = waits.word;
      count = omega (arith, size, all, formed.elements);
      each = λ i inside. wide i (omega (arith, inside, size, all, formed.elements));
      event = λ i e is. absurd (no_event i e is);
      input = λ k place term is. width_later told tnew d.shape.word term goes.later (waits.input k place term is);
    }
  where
    no_event : (i : ℕ) {A : Type 0} (e : A) → slice_get [] i ≡ Some e → ⊥
    no_event zero e is = absurd cc
    no_event (suc i) e is = absurd cc

begun_values : (d : Description) (told tnew : Table) (words : List Word) (m : Memory) (given : Given)
    (registers new : List ℕ) (request : ℕ) → Waits d told words m registers request
    → HaveZeros told tnew d.shape.widths registers new (length d.names - d.registers)
    → values_in d tnew given (new ++ request ∷ []) None ≡ values_in d told given registers (Some request)
begun_values d told tnew words m given registers new request waits have =
    map_both (λ x. term_value tnew given x) new (request ∷ [])
    ∙ ap₂ (λ (xs : List ℕ) (x : ℕ). xs ++ x ∷ []) (have.values given)
    ((have.grows words).keeps.values given request waits.line.there)

-- the temporaries and the request got their terms
abbrev pub begun_with : Stepping → (values : List ℕ) → (request : ℕ) → Stepping
begun_with old values request =
    with_parts old (parts_of (values ++ request ∷ []) old.parts.events old.parts.taken) None

pub begun_is : (old between new : Stepping) (request : ℕ)
    → between ≡ with_parts old (parts_of between.parts.values old.parts.events old.parts.taken) old.request
    → new
    ≡ with_parts between (parts_of (between.parts.values ++ request ∷ []) between.parts.events between.parts.taken) None
    → new ≡ begun_with old between.parts.values request
begun_is old between new request first second =
    second
    ∙ ap (λ o. with_parts o (parts_of (between.parts.values ++ request ∷ []) o.parts.events o.parts.taken) None) first

-- what is so before the temporaries have their terms
pub record Before (d : Description) (told tnew : Table) (words : List Word) (m : Memory) (old : Stepping)
    (values : List ℕ) (request : ℕ) : Type 0 where
  pub asks : old.request ≡ Some request
  pub formed : IsFormed d
  pub stepping : IsStepping d told words m old
  pub zeros : HaveZeros told tnew d.shape.widths old.parts.values values (length d.names - d.registers)

pub waits_of : (d : Description) (t : Table) (words : List Word) (m : Memory) (old : Stepping) (request : ℕ)
    → old.request ≡ Some request → IsStepping d t words m old → HasTerms d t words m old.parts (Some request)
waits_of d t words m old request asks stepping =
    subst (λ (r : Option ℕ). HasTerms d t words m old.parts r) asks stepping.terms

pub begun_goes_on : (d : Description) (told tnew : Table) (words : List Word) (m : Memory) (old : Stepping)
    (values : List ℕ) (request : ℕ) → Before d told tnew words m old values request
    → GoesOn IsOfStep told tnew words words m m
begun_goes_on d told tnew words m old values request before =
    begun_goes told tnew words m d.shape.widths old.parts.values values (length d.names - d.registers)
    (waits_of d told words m old request before.asks before.stepping).0.workspace before.zeros

pub begun_same : (d : Description) (told tnew : Table) (words : List Word) (m : Memory) (old new : Stepping)
    (values : List ℕ) (request : ℕ) (given : Given) (image : List ℕ) → Before d told tnew words m old values request
    → new ≡ begun_with old values request → now_in d tnew given m image new ≡ now_in d told given m image old
begun_same d told tnew words m old new values request given image before is =
    let waits = waits_of d told words m old request before.asks before.stepping in
    let keeps = (begun_goes_on d told tnew words m old values request before).later.keeps in
    ap (λ o. now_in d tnew given m image o) is
    ∙ ap
    (λ vs. now vs (held_by tnew given m Machine image) (map (event_of tnew given) old.parts.events) old.parts.taken)
    (begun_values d told tnew words m given old.parts.values values request waits.0 before.zeros)
    ∙ ap (λ held. now (values_in d told given old.parts.values (Some request)) held
    (map (event_of tnew given) old.parts.events) old.parts.taken)
    (held_by_stays told tnew words m m Machine given image keeps waits.0.workspace.memory (writes_itself m))
    ∙ ap (λ es. now (values_in d told given old.parts.values (Some request)) (held_by told given m Machine image) es
    old.parts.taken)
    (ap (map (event_of tnew given)) waits.1 ∙ sym (ap (map (event_of told given)) waits.1))
    ∙ ap (λ (r : Option ℕ). now (values_in d told given old.parts.values r) (held_by told given m Machine image)
    (map (event_of told given) old.parts.events) old.parts.taken) (sym before.asks)

pub begun_stepping : (d : Description) (told tnew : Table) (words : List Word) (m : Memory) (old new : Stepping)
    (values : List ℕ) (request : ℕ) → Before d told tnew words m old values request
    → new ≡ begun_with old values request → IsStepping d tnew words m new
begun_stepping d told tnew words m old new values request before is =
    let waits = waits_of d told words m old request before.asks before.stepping in
    rw is (record {
      terms = rw (waits.1, waits.2)
          (begun_stands d told tnew words m old.parts.values values request before.formed waits.0 before.zeros);
      few = before.stepping.few;
      at = before.stepping.at;
    })

pub begun_listed : (d : Description) (told tnew : Table) (words : List Word) (m : Memory) (old new : Stepping)
    (values : List ℕ) (request : ℕ) → Before d told tnew words m old values request
    → new ≡ with_parts old (parts_of (values ++ request ∷ []) old.parts.events old.parts.taken) None
    → ((ws : List Word) (reads : List Held)
    → with_zeros (take (length d.names - d.registers) (drop d.registers d.shape.widths)) old.parts.values
    (list_of told.ops ws reads)
    ≡ record { list = list_of tnew.ops ws reads; terms = values })
    → underway_in tnew words m new.parts ≡ underway_of d told words m old
begun_listed d told tnew words m old new values request before is listed =
    let parts : new.parts ≡ parts_of (values ++ request ∷ []) old.parts.events old.parts.taken =
    ap (λ (o : Stepping). o.parts) is in
    let terms = subst (λ r. HasTerms d told words m old.parts r) before.asks before.stepping.terms in
    rw (parts, before.asks)
    (ap₂ (λ es n. underway (list_in tnew words m) (values ++ request ∷ []) m.machine es n) terms.1 terms.2
    ∙ sym (ap (λ (x : AllEnded). underway x.list (x.terms ++ request ∷ []) m.machine [] 0) (listed words m.reads)))
