-- The memories of both sides, compared at a probe.
use Rattle.std.proofs.Common.{◌≡◌, ap, subst, sym, ◌∙◌, ℕ, ◌<◌, ◌++◌, ◌∷◌, [], List, length, arith}
use Rattle.std.specs.Prelude.{IfOk, IfSome, None, OnOk, Option, Some, Result, Ok, Err}
use Rattle.mw_expr.specs.declared.shape.Shape.{Shape}
use Rattle.mw_rel.specs.ComparisonWords.{Compared, Sides, compared_in, memory, with_comparison, with_memory}
use Rattle.mw_term.specs.declared.side.Side.{Side}
use Rattle.mw_term.specs.declared.side.Side.TheVariants as sides
use Rattle.mw_symmem.specs.Listed.{Lists, list_in}
use Rattle.mw_symmem.specs.Memory.{AddsRead, IsMemory, IsOfWidth, IsRead, Memory, with_read, writes_of}
use Rattle.mw_symmem.specs.Words.{AreOf, IsVariable}
use Rattle.mw_symmem.specs.Workspace.{IsWorkspace}
use Rattle.mw_symmem.proofs.Later.{goes_by_read, goes_by_variable, reads_stay, width_later, writes_by_read}
use Rattle.mw_symmem.proofs.Later.{writes_itself}
use Rattle.mw_symmem.proofs.Lists.{behind, pushed_there}
use Rattle.mw_term.specs.declared.kinds.WordKind.TheVariants.{Base, Probe}
use Rattle.mw_term.specs.declared.op.Op.TheVariants.{Var}
use Rattle.mw_term.specs.Table.{Extends, IsTable, op_width}
use Rattle.mw_term.specs.Assigned.{Numbers, given_by}
use Rattle.mw_term.specs.Functions.{Function}
use Rattle.mw_term.specs.MemoryRead.{Held, held}
use Rattle.mw_term.specs.Values.{IsTermOf, Keeps, term_value}
use Rattle.mw_term.specs.WordList.{Ended, WordList, ended, memory_read_words, variable, with_variable}
use Rattle.mw_space.specs.declared.space.Space.{Space}
use Rattle.mw_decide.specs.Faults.{RunStop}
use Rattle.mw_compare.specs.Comparing.{AreOneAtProbe, AreOneOn, AreTwoAt, AreTwoInMemory, AreWritesOn, GoesComparing}
use Rattle.mw_compare.specs.Comparing.{IsComparedKind}
use Rattle.mw_space.specs.Spaces.{list_of_space}
use Rattle.mw_compare.proofs.ComparingOn.{comparing_then}

-- a variable was made that stands for any address
pub record HasProbe (old new : Space) (width probe : ℕ) : Type 0 where
  pub goes : GoesComparing old new
  pub wide : IsOfWidth new.terms width probe
  pub place : ℕ
  pub is : IsVariable new.words place probe Probe
  pub kept : new.memory ≡ old.memory
  pub listed : ended probe (list_of_space new) ≡ with_variable Probe width (list_of_space old)

-- a side's memory was read there
pub record HasRead (old new : Space) (side : Side) (probe term : ℕ) : Type 0 where
  pub goes : GoesComparing old new
  pub there : term < length new.terms.ops
  pub means : IsRead new.terms new.memory side probe term
  pub listed : ended term (list_of_space new)
      ≡ memory_read_words old.memory.word probe (writes_of old.memory side) (list_of_space old)

pub not_base : (k : ℕ) → ¬ (Probe ≡ Base k)
not_base k is = absurd cc

-- by what the call for a new variable says
pub probe_made : (old new : Space) (width number probe : ℕ) → new.memory ≡ old.memory
    → IsWorkspace old.terms old.words old.memory → new.words ≡ old.words ++ variable probe Probe ∷ []
    → IsTermOf old.terms new.terms (Var number width) probe
    → Lists (with_variable Probe width) old.terms new.terms old.words new.words probe
    → (AreOf old.terms old.words → AreOf new.terms new.words) → Extends old.terms new.terms → Keeps old.terms new.terms
    → IsTable new.terms → HasProbe old new width probe
unfolding op_width
probe_made old new width number probe kept workspace words made listed of extends keeps table = record {
  goes =
      subst (λ (m : Memory). GoesComparing old (record { terms = new.terms; words = new.words; memory = m })) (sym kept)
      (record {
        goes =
            goes_by_variable IsComparedKind old.terms new.terms old.words new.words old.memory probe Probe words extends
            keeps table of tt not_base workspace;
        writes = writes_itself old.memory;
      });
  wide = record { there = made.there; width_is = made.width };
  place = length old.words;
  is = subst (λ ws. IsVariable ws (length old.words) probe Probe) (sym words)
      (pushed_there old.words (variable probe Probe));
  kept = kept;
  listed = listed new.memory.reads
      ∙ ap (λ (m : Memory). with_variable Probe width (list_in old.terms old.words m)) kept;
}

-- what a call for a read adds
pub read_goes : {E : Type 0} (r : Result ℕ E) (old new : Space) (side : Side) (probe : ℕ)
    → OnOk r (AddsRead old.words new.words old.memory)
    → OnOk r ((base : ℕ) × (new.memory ≡ with_read old.memory (held probe base)))
    → OnOk r (IsMemory new.terms new.words new.memory) → OnOk r (AreOf new.terms new.words)
    → OnOk r (Extends old.terms new.terms) → OnOk r (Keeps old.terms new.terms) → OnOk r (IsTable new.terms)
    → OnOk r (GoesComparing old new)
read_goes (Err e) old new side probe adds reads is_memory of extends keeps table = tt
read_goes (Ok term) old new side probe adds reads is_memory of extends keeps table = record {
  goes =
      goes_by_read IsComparedKind old.terms new.terms old.words new.words old.memory new.memory side probe reads.0 term
      (λ n. tt) adds reads.1 is_memory of extends keeps table;
  writes = writes_by_read old.memory new.memory probe reads.0 reads.1;
}

-- ---- the words of both reads

-- what is compared, where the board's word ends
abbrev machine_behind : Shape → Sides → Compared → (probe : ℕ) → Ended → Compared
machine_behind s on so_far probe board =
    let machine = memory_read_words s.word probe on.machine_writes board.list in
    with_comparison (memory probe) board.term machine.term (compared_in machine.list so_far.comparisons)

-- and where the probe does
abbrev both_behind : Shape → Sides → Compared → Ended → Compared
both_behind s on so_far address =
    machine_behind s on so_far address.term (memory_read_words s.word address.term on.board_writes address.list)

memory_is : (s : Shape) (on : Sides) (so_far : Compared) (l0 l1 l2 l3 : WordList) (probe board machine : ℕ)
    → so_far.list ≡ l0 → with_variable Probe s.address l0 ≡ ended probe l1
    → memory_read_words s.word probe on.board_writes l1 ≡ ended board l2
    → memory_read_words s.word probe on.machine_writes l2 ≡ ended machine l3
    → with_memory s on so_far ≡ with_comparison (memory probe) board machine (compared_in l3 so_far.comparisons)
memory_is s on so_far l0 l1 l2 l3 probe board machine same first second third =
    ap (λ l. both_behind s on so_far (with_variable Probe s.address l)) same
    ∙ ap (both_behind s on so_far) first
    ∙ ap (machine_behind s on so_far probe) second
    ∙ ap (λ (e : Ended). with_comparison (memory probe) board e.term (compared_in e.list so_far.comparisons)) third

-- from before the probe to the comparison of what both memories hold there
pub memory_ends : (s : Shape) (s0 s1 s2 s3 : Space) (width probe board machine : ℕ) (on : Sides) (so_far : Compared)
    → s.address ≡ width → s.word ≡ s0.memory.word → HasProbe s0 s1 width probe
    → HasRead s1 s2 sides.Board probe board → HasRead s2 s3 sides.Machine probe machine → AreWritesOn s0 on
    → so_far.list ≡ list_of_space s0
    → with_memory s on so_far
    ≡ with_comparison (memory probe) board machine (compared_in (list_of_space s3) so_far.comparisons)
memory_ends s s0 s1 s2 s3 width probe board machine on so_far address word has first second writes same =
    let word_1 : s.word ≡ s1.memory.word = word ∙ ap (λ m. m.word) (sym has.kept) in
    let word_2 : s.word ≡ s2.memory.word = word_1 ∙ sym first.goes.goes.reads.word in
    let by_board : on.board_writes ≡ s1.memory.board = writes.board ∙ ap (λ m. m.board) (sym has.kept) in
    let by_machine : on.machine_writes ≡ s2.memory.machine =
    writes.machine ∙ ap (λ m. m.machine) (sym has.kept) ∙ sym (first.goes.writes.each sides.Machine) in
    memory_is s on so_far (list_of_space s0) (list_of_space s1) (list_of_space s2) (list_of_space s3) probe board
    machine same
    (ap (λ (w : ℕ). with_variable Probe w (list_of_space s0)) address ∙ sym has.listed)
    (ap (λ (w : ℕ). memory_read_words w probe on.board_writes (list_of_space s1)) word_1
    ∙ ap (λ (ws : List Held). memory_read_words s1.memory.word probe ws (list_of_space s1)) by_board
    ∙ sym first.listed)
    (ap (λ (w : ℕ). memory_read_words w probe on.machine_writes (list_of_space s2)) word_2
    ∙ ap (λ (ws : List Held). memory_read_words s2.memory.word probe ws (list_of_space s2)) by_machine
    ∙ sym second.listed)

-- ---- what both memories hold

-- what was read is what the memory holds later too
read_later : (old new : Space) (side : Side) (probe term : ℕ) → IsWorkspace old.terms old.words old.memory
    → GoesComparing old new → probe < length old.terms.ops
    → term < length old.terms.ops → IsRead old.terms old.memory side probe term
    → IsRead new.terms new.memory side probe term
read_later old new side probe term workspace goes probe_there there means =
    reads_stay old.terms new.terms old.words old.memory new.memory side probe term goes.goes.later
    workspace.memory goes.goes.reads goes.writes probe_there there means

-- two terms that are what the memories of both sides hold at a probe
record AreHeldAtProbe (space : Space) (probe board machine : ℕ) : Type 0 where
  place : ℕ
  is : IsVariable space.words place probe Probe
  by_board : IsRead space.terms space.memory sides.Board probe board
  by_machine : IsRead space.terms space.memory sides.Machine probe machine

held_at_probe : (s0 s1 s2 s3 new : Space) (width probe board machine : ℕ) → HasProbe s0 s1 width probe
    → HasRead s1 s2 sides.Board probe board → HasRead s2 s3 sides.Machine probe machine → GoesComparing s3 new
    → AreHeldAtProbe new probe board machine
held_at_probe s0 s1 s2 s3 new width probe board machine has first second last =
    let on = comparing_then s2 s3 new second.goes last in
    let all = comparing_then s1 s2 new first.goes on in
    let probe_2 : probe < length s2.terms.ops = omega (arith, has.wide.there, first.goes.goes.later.extends.more) in
    let probe_3 : probe < length s3.terms.ops = omega (arith, probe_2, second.goes.goes.later.extends.more) in
    record {
      place = has.place;
      is = subst (λ ws. IsVariable ws has.place probe Probe) (sym all.goes.words)
          (behind s1.words all.goes.more has.place (variable probe Probe) has.is);
      by_board = read_later s2 new sides.Board probe board first.goes.goes.workspace on probe_2 first.there first.means;
      by_machine = read_later s3 new sides.Machine probe machine second.goes.goes.workspace last probe_3
          second.there second.means;
    }

-- the probe is as wide as an address of the memory
probe_wide : (s0 s1 new : Space) (width probe : ℕ) → width ≡ s0.memory.address → HasProbe s0 s1 width probe
    → GoesComparing s1 new → IsOfWidth new.terms new.memory.address probe
probe_wide s0 s1 new width probe address has goes =
    subst (λ w. IsOfWidth new.terms w probe)
    (address ∙ ap (λ (m : Memory). m.address) (sym has.kept) ∙ sym goes.goes.reads.address)
    (width_later s1.terms new.terms width probe goes.goes.later has.wide)

-- where these have one value on the path
pub one_at_probe : (s0 s1 s2 s3 new : Space) (path : Function) (width probe board machine : ℕ)
    (r : Result (Option Numbers) RunStop) → width ≡ s0.memory.address → HasProbe s0 s1 width probe
    → HasRead s1 s2 sides.Board probe board
    → HasRead s2 s3 sides.Machine probe machine → OnOk r (GoesComparing s3 new)
    → IfOk r (λ o. o ≡ None → AreOneOn new.terms path board machine)
    → IfOk r (λ o. o ≡ None → AreOneAtProbe new path)
one_at_probe s0 s1 s2 s3 new path width probe board machine (Err e) address has first second last one = tt
one_at_probe s0 s1 s2 s3 new path width probe board machine (Ok o) address has first second last one = λ none.
    let are = held_at_probe s0 s1 s2 s3 new width probe board machine has first second last in
    record {
      place = are.place;
      probe = probe;
      is = are.is;
      wide = probe_wide s0 s1 new width probe address has
          (comparing_then s1 s2 new first.goes (comparing_then s2 s3 new second.goes last));
      one = λ given image on is fits.
          sym (are.by_board given image is fits) ∙ one none given on ∙ are.by_machine given image is fits;
    }

-- where they have two
pub two_in_memory : (s0 s1 s2 s3 new : Space) (width probe board machine : ℕ) (r : Result (Option Numbers) RunStop)
    → HasProbe s0 s1 width probe → HasRead s1 s2 sides.Board probe board → HasRead s2 s3 sides.Machine probe machine
    → OnOk r (GoesComparing s3 new)
    → IfOk r (λ o. IfSome o (λ numbers. AreTwoAt new.terms (given_by numbers) board machine))
    → IfOk r (λ o. IfSome o (λ numbers. AreTwoInMemory new (given_by numbers)))
two_in_memory s0 s1 s2 s3 new width probe board machine (Err e) has first second last two = tt
two_in_memory s0 s1 s2 s3 new width probe board machine (Ok None) has first second last two = two
two_in_memory s0 s1 s2 s3 new width probe board machine (Ok (Some numbers)) has first second last two =
    let are = held_at_probe s0 s1 s2 s3 new width probe board machine has first second last in
    record {
      address = term_value new.terms (given_by numbers) probe;
      two = λ image is fits same.
          two (are.by_board (given_by numbers) image is fits ∙ same
          ∙ sym (are.by_machine (given_by numbers) image is fits));
    }
