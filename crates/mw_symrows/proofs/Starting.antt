-- A symbolic board from before its first cycle to the end of a cycle.
use Rattle.std.proofs.Common.{◌≡◌, inl, inr, ℕ, ◌+◌, ◌≤◌, List, [], ◌∷◌, ◌++◌, length, refl, ap, arith, sym, subst, ◌∙◌}
use Rattle.std.specs.Prelude.{Bool, true, false, None}
use Rattle.std.proofs.lemmas.Bool.{cases_lt}
use Rattle.std.proofs.lemmas.Option.{slice_get-get_or}
use Rattle.mw_term.specs.declared.side.Side.{Side}
use Rattle.mw_base.specs.Words.{num}
use Rattle.mw_board.specs.declared.parts.BoardParts.{BoardParts}
use Rattle.mw_board.specs.Valid as valid
use Rattle.mw_cycle.specs.declared.microword.Microword.{Microword}
use Rattle.mw_cycle.specs.SteadySeries.{Series}
use Rattle.mw_cycle.specs.SteadySeries.{Inputs}
use Rattle.mw_cycle.specs.Decided.{decides_counter, decides_pass}
use Rattle.mw_cycle.specs.SteadySeries.{kind_of as series_kind, series_of_kind}
use Rattle.mw_cycle.proofs.Named.{no_variable}
use Rattle.mw_term.specs.declared.decided.DecidedKind.{DecidedKind}
use Rattle.mw_term.specs.declared.kinds.WordKind.{WordKind}
use Rattle.mw_term.specs.declared.kinds.WordKind.TheVariants.{Base, Element, Probe}
use Rattle.mw_term.specs.MemoryRead.{held}
use Rattle.mw_term.specs.Table.{IsTable, Table}
use Rattle.mw_symmem.specs.declared.turn.Turn.{Turn}
use Rattle.mw_symmem.specs.declared.turn.Turn.TheVariants.{Ask, Finished}
use Rattle.mw_term.specs.declared.word.Word.{Word}
use Rattle.mw_symmem.specs.Memory.{Memory, IsMemory, IsMemoryAtFirst, memory_of}
use Rattle.mw_term.specs.WordList.{term_of, variable}
use Rattle.mw_symmem.specs.Words.{AreOf, IsVariable}
use Rattle.mw_symmem.specs.Workspace.{GoesOn}
use Rattle.mw_symmem.proofs.Lists.{absent, kind_of, missing, pushed}
use Rattle.mw_symboard.specs.Cycle.{bits_before}
use Rattle.mw_symboard.specs.Kinds.{HaveWidths, IsCycleKind}
use Rattle.mw_symboard.specs.Turns.{AreNoLater, IsSymbolic, IsTurn, Symbolic, decided_so}
use Rattle.mw_symrows.specs.Runs.{AreFree, IsFreeKind, IsTurned, IsUnder}

-- ---- free variables

-- one more is free
pub free_push : (words : List Word) (term : ℕ) (own : WordKind) → AreFree words → IsFreeKind own
    → AreFree (words ++ variable term own ∷ [])
free_push words term own free is place other kind at =
    elim (pushed words (variable term own) place (variable other kind) at) [
      | inl h ↦ free place other kind h.1
      | inr h ↦ subst IsFreeKind (kind_of h.1) is
    ]

-- no variable of an environment is free
free_named : (side : Side) (kind : WordKind) → IsFreeKind kind → series_of_kind side kind ≡ None
free_named side (Element n) is = refl
free_named side Probe is = refl
free_named side kind is = absurd is

not_free : (side : Side) (series : Series) (n : ℕ) → ¬ IsFreeKind (series_kind side series n)
not_free side series n is =
    no_variable side (series_kind side series n) series n (free_named side (series_kind side series n) is) refl

free_without : (side : Side) (words : List Word) (series : Series) (n : ℕ) → AreFree words
    → term_of words (series_kind side series n) ≡ None
free_without side words series n free =
    absent words (series_kind side series n)
    (λ place term is. not_free side series n (free place term (series_kind side series n) is))

-- so none is there
pub free_no_later : (side : Side) (words : List Word) → AreFree words → AreNoLater side 0 words
free_no_later side words free series by_cycle n from = free_without side words series n free

pub free_widths : (side : Side) (board : BoardParts) (t : Table) (words : List Word) → AreFree words
    → HaveWidths side board t words
free_widths side board t words free series n term is =
    let none : term_of words (series_kind side series n) ≡ None = free_without side words series n free in absurd cc

-- nor base reads
pub free_no_base : (words : List Word) → AreFree words → (place term k : ℕ) → ¬ IsVariable words place term (Base k)
free_no_base words free place term k is = free place term (Base k) is

-- ---- base reads

-- where there is no variable of a base read, there are no more reads
pub few_reads : (t : Table) (words : List Word) (m : Memory) (n : ℕ) → IsMemory t words m
    → term_of words (Base n) ≡ None
    → length m.reads ≤ n
few_reads t words m n memory none = elim (cases_lt n (length m.reads)) [
  | inl more ↦
      let read = memory.bases n _ (slice_get-get_or m.reads n (held 0 0) more) in
      absurd (missing words (Base n) read.place _ none read.is)
  | inr few ↦ few
]

-- ---- turns

-- a turn
pub turned : (board : BoardParts) (store : List ℕ) (told tnew : Table) (wold wnew : List Word) (mold mnew : Memory)
    (old new : Symbolic) (turn : Turn) → IsUnder board store told wold mold old
    → GoesOn (IsCycleKind old.place.side old.place.cycle old.place.taken old.place.line) told tnew wold wnew mold mnew
    → IsTurn board store tnew wnew mold mnew old new turn → IsSymbolic board store tnew wnew mnew new
    → IsTurned board store old.place.cycle tnew wnew mnew new turn
turned board store told tnew wold wnew mold mnew old new (Ask kind term) under goes is symbolic =
    let cycle : new.place.cycle ≡ old.place.cycle = ap (λ p. p.cycle) is.0 in
    let taken : new.place.taken ≡ old.place.taken = ap (λ p. p.taken) is.0 in (
      record {
        map = goes.later.extends.map ∙ under.map;
        address = goes.reads.address ∙ under.address;
        word = goes.reads.word ∙ under.word;
        taken = omega (arith, cycle, taken, under.taken);
        workspace = goes.workspace;
        symbolic = symbolic;
      },
      cycle,
      is.3,
    )
turned board store told tnew wold wnew mold mnew old new Finished under goes is symbolic = (
  record {
    map = goes.later.extends.map ∙ under.map;
    address = goes.reads.address ∙ under.address;
    word = goes.reads.word ∙ under.word;
    taken = omega (arith, is.2, is.3, under.taken);
    workspace = goes.workspace;
    symbolic = symbolic;
  },
  record { idle = is.0; cycles = is.2 },
  record {
    address = goes.reads.address ∙ under.address;
    workspace = goes.workspace;
    parts = symbolic.parts;
  },
)

at_most : (a b : Bool) → num a + num b ≤ 2
at_most true true = omega arith
at_most true false = omega arith
at_most false true = omega arith
at_most false false = omega arith

-- at most two bits stand before those of the next address
pub few_before : (m : Microword) → bits_before m ≤ 2
few_before m = at_most (decides_pass m) (decides_counter m)

-- with a bit that was given
pub decided_under : (board : BoardParts) (store : List ℕ) (t : Table) (words : List Word) (m : Memory)
    (old new : Symbolic)
    (kind : DecidedKind) (value : Bool) → new ≡ decided_so old kind value → IsUnder board store t words m old
    → IsSymbolic board store t words m new → IsUnder board store t words m new
decided_under board store t words m old new kind value is under symbolic =
    let cycle : new.place.cycle ≡ old.place.cycle = ap (λ (o : Symbolic). o.place.cycle) is in
    let taken : new.place.taken ≡ old.place.taken = ap (λ (o : Symbolic). o.place.taken) is in
    record {
      map = under.map;
      address = under.address;
      word = under.word;
      taken = omega (arith, cycle, taken, under.taken);
      workspace = under.workspace;
      symbolic = symbolic;
    }

-- ---- before the first cycle

-- a board with a new memory, where the variables are free
pub started : (board : BoardParts) (store : List ℕ) (t : Table) (words : List Word) (m : Memory) (o : Symbolic)
    (address word : ℕ) → valid.IsBoard board → IsMemoryAtFirst → IsTable t → t.map ≡ board.map_entries → AreOf t words
    → AreFree words → address ≡ board.address → word ≡ board.width → m ≡ memory_of address word [] [] []
    → o.place.cycle ≡ 0 → o.place.taken ≡ 0 → IsSymbolic board store t words m o → IsUnder board store t words m o
started board store t words m o address word good new table map of free is_address is_word made cycle taken symbolic =
    record {
      map = map;
      address = ap (λ (x : Memory). x.address) made ∙ is_address;
      word = ap (λ (x : Memory). x.word) made ∙ is_word;
      taken = omega (arith, cycle, taken);
      workspace = record {
        table = table;
        of = of;
        memory = subst (IsMemory t words) (sym made)
            (new t words address word
            (omega (arith, is_address, good.sizes.address_some), omega (arith, is_address, good.sizes.address_most))
            (omega (arith, is_word, good.sizes.least), omega (arith, is_word, good.sizes.most))
            (free_no_base words free));
      };
      symbolic = symbolic;
    }
