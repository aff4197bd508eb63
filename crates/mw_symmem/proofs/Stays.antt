-- What is kept of a memory stays.
use Rattle.std.proofs.Common.{◌≡◌, inl, inr, ℕ, ◌+◌, List, [], ◌∷◌, ◌++◌, ap, arith, sym, ◌∙◌}
use Rattle.std.specs.Prelude.{Some, slice_get}
use Rattle.mw_term.specs.declared.kinds.WordKind.TheVariants.{Base}
use Rattle.mw_term.specs.declared.op.Op.TheVariants.{Var}
use Rattle.mw_term.specs.MemoryRead.{Held}
use Rattle.mw_term.specs.Table.{Table, Extends}
use Rattle.mw_term.specs.declared.side.Side.TheVariants.{Board, Machine}
use Rattle.mw_term.specs.declared.word.Word.{Word}
use Rattle.mw_term.specs.WordList.{variable}
use Rattle.mw_symmem.specs.Memory.{Memory, IsHeld, AreHeld, IsMemory, StaysWithWords, StaysWithWrites, IsMemoryAtFirst}
use Rattle.mw_symmem.specs.Memory.{variable_number, op_number}
use Rattle.mw_symmem.proofs.Lists.{pushed, among}
use Rattle.mw_symmem.proofs.Made.{all_stay, read_stays, base_number}
use Rattle.mw_symmem.proofs.Growth.{op_stays}

number_stays : (told t : Table) (words : List Word) (m : Memory) → Extends told t → IsMemory told words m → (k : ℕ)
    (read : Held) → slice_get m.reads k ≡ Some read → variable_number t read.word ≡ variable_number told read.word
number_stays told t words m extends memory k read is =
    let base = memory.bases k read is in
    ap op_number (op_stays told t read.word (Var (base.place + 1) m.word) extends base.op)
    ∙ sym (base_number told words m.word k read base)

pub stays_with_words : StaysWithWords
stays_with_words told t words more m extends keeps none memory = record {
  address = memory.address;
  word = memory.word;
  reads = all_stay told t m.address m.word m.reads extends keeps memory.reads;
  board = all_stay told t m.address m.word m.board extends keeps memory.board;
  machine = all_stay told t m.address m.word m.machine extends keeps memory.machine;
  bases = λ k read is. read_stays told t words more m.address m.word k read extends keeps (memory.reads k read is)
      (memory.bases k read is);
  rising = λ i k first later is_first is_later before.
      omega (
        arith,
        number_stays told t words m extends memory i first is_first,
        number_stays told t words m extends memory k later is_later,
        memory.rising i k first later is_first is_later before,
      );
  all = λ k place term is. elim (among words more place (variable term (Base k)) is) [
    | inl h ↦ memory.all k place term h
    | inr h ↦ absurd (none h.0 term k h.1)
  ];
}

held_push : (t : Table) (a w : ℕ) (hs : List Held) (write : Held) → AreHeld t a w hs → IsHeld t a w write
    → AreHeld t a w (hs ++ write ∷ [])
held_push t a w hs write are is k h at = elim (pushed hs write k h at) [
  | inl p ↦ are k h p.1
  | inr p ↦ rw (← p.1) is
]

pub stays_with_writes : StaysWithWrites
stays_with_writes t words m Board write memory is = record {
  address = memory.address;
  word = memory.word;
  reads = memory.reads;
  board = held_push t m.address m.word m.board write memory.board is;
  machine = memory.machine;
  bases = memory.bases;
  rising = memory.rising;
  all = memory.all;
}
stays_with_writes t words m Machine write memory is = record {
  address = memory.address;
  word = memory.word;
  reads = memory.reads;
  board = memory.board;
  machine = held_push t m.address m.word m.machine write memory.machine is;
  bases = memory.bases;
  rising = memory.rising;
  all = memory.all;
}

pub is_memory_at_first : IsMemoryAtFirst
is_memory_at_first t words a w address word none = record {
  address = address;
  word = word;
  reads = λ k h is. absurd cc;
  board = λ k h is. absurd cc;
  machine = λ k h is. absurd cc;
  bases = λ k h is. absurd cc;
  rising = λ i k first later is_first is_later before. absurd cc;
  all = λ k place term is. absurd (none place term k is);
}
