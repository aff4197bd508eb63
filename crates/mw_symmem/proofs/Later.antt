-- What stays true as a run goes on.
use Rattle.std.proofs.Common.{◌≡◌, inl, inr, ℕ, suc, List, [], ◌∷◌, ◌++◌, length, map, take, append-nil, append_assoc}
use Rattle.std.proofs.Common.{refl, ap, ap₂, arith, sym, subst, ◌∙◌}
use Rattle.std.specs.Prelude.{Some, slice_get, slice_index}
use Rattle.std.proofs.lemmas.List.{take-append-le, take_all}
use Rattle.std.proofs.lemmas.Option.{slice_get_within}
use Rattle.mw_term.specs.declared.kinds.WordKind.{WordKind}
use Rattle.mw_term.specs.declared.kinds.WordKind.TheVariants.{Base}
use Rattle.mw_term.specs.declared.op.Op.{Op}
use Rattle.mw_term.specs.Assigned.{Given}
use Rattle.mw_term.specs.MemoryRead.{Held, held}
use Rattle.mw_term.specs.Table.{Table, Extends, IsTable, table_of}
use Rattle.mw_term.specs.Values.{Keeps, term_value}
use Rattle.mw_term.specs.declared.side.Side.{Side}
use Rattle.mw_term.specs.declared.side.Side.TheVariants.{Board, Machine}
use Rattle.mw_term.specs.declared.word.Word.{Word}
use Rattle.mw_term.specs.WordList.{plain, variable}
use Rattle.mw_symmem.specs.Words.{IsVariable, AreOf, IsNoVariable}
use Rattle.mw_symmem.specs.Memory.{Memory, IsMemory, IsImage, IsHeld, IsOfWidth, AreHeld, AddsRead, after, held_by}
use Rattle.mw_symmem.specs.Memory.{read_value, valued, writes_of, with_read, with_write}
use Rattle.mw_symmem.specs.Steps.{Grows}
use Rattle.mw_symmem.specs.Workspace.{IsLater, IsWorkspace, HaveKinds, ReadsMore, GoesOn, KeepsWrites, ImagesFitBefore}
use Rattle.mw_symmem.specs.Workspace.{ReadsStay}
use Rattle.mw_symmem.proofs.Growth.{extends_then, keeps_then, width_stays}
use Rattle.mw_symmem.proofs.Lists.{behind, among, no_variable, only_variable}
use Rattle.mw_symmem.proofs.Listed.{of_without_word}
use Rattle.mw_symmem.proofs.Made.{side_held}
use Rattle.mw_symmem.proofs.Reached.{held_in_front}
use Rattle.mw_symmem.proofs.Stays.{stays_with_words, stays_with_writes}

-- ---- values stay

-- held words have the values that they had
pub valued_stays : (told tnew : Table) (given : Given) (a w : ℕ) (hs : List Held) → Keeps told tnew
    → AreHeld told a w hs → map (valued tnew given) hs ≡ map (valued told given) hs
valued_stays told tnew given a w [] keeps are = refl
valued_stays told tnew given a w (h ∷ hs) keeps are =
    let is = are 0 h refl in
    ap₂ (λ (x : Held) xs. x ∷ xs)
    (ap₂ held (keeps.values given h.address is.address.there) (keeps.values given h.word is.word.there))
    (valued_stays told tnew given a w hs keeps (λ k g at. are (suc k) g at))

front_held : (t : Table) (a w k : ℕ) (hs : List Held) → AreHeld t a w hs → AreHeld t a w (take k hs)
front_held t a w k hs are i h is = are i h (held_in_front hs k i h is)

-- and so does what a base read has
pub read_value_stays : (told tnew : Table) (given : Given) (a w : ℕ) (earlier : List Held) (read : Held)
    → Keeps told tnew → AreHeld told a w earlier → IsHeld told a w read
    → read_value tnew given earlier read ≡ read_value told given earlier read
read_value_stays told tnew given a w earlier read keeps are is =
    rw (
      valued_stays told tnew given a w earlier keeps are,
      keeps.values given read.address is.address.there,
      keeps.values given read.word is.word.there,
    ) refl

-- what a side's memory holds stays while nothing is written
pub held_by_stays : (told tnew : Table) (words : List Word) (mold mnew : Memory) (side : Side) (given : Given)
    (image : List ℕ) → Keeps told tnew → IsMemory told words mold → KeepsWrites mold mnew
    → held_by tnew given mnew side image ≡ held_by told given mold side image
held_by_stays told tnew words mold mnew side given image keeps memory writes =
    ap (λ hs. after image (map (valued tnew given) hs)) (writes.each side)
    ∙ ap (after image) (valued_stays told tnew given mold.address mold.word (writes_of mold side) keeps
    (side_held told words mold side memory))

-- ---- the laws

pub images_fit_before : ImagesFitBefore
images_fit_before told tnew words mold mnew given image later memory more fits k read is =
    let inside = slice_get_within mold.reads k read is in
    let front : take k mnew.reads ≡ take k mold.reads =
    ap (take k) more.reads ∙ take-append-le k mold.reads more.more (omega arith) in
    let there : slice_get mnew.reads k ≡ Some read =
    ap (λ hs. slice_get hs k) more.reads ∙ behind mold.reads more.more k read is in
    let is_held = memory.reads k read is in
    sym (read_value_stays told tnew given mold.address mold.word (take k mold.reads) read later.keeps
    (front_held told mold.address mold.word k mold.reads memory.reads) is_held)
    ∙ ap (λ hs. read_value tnew given hs read) (sym front)
    ∙ fits k read there
    ∙ ap (slice_index image) (later.keeps.values given read.address is_held.address.there)

pub image_before : (old new : Memory) (image : List ℕ) → ReadsMore old new → IsImage new image → IsImage old image
image_before old new image more is = record {
  size = rw (← more.address) is.size;
  words = rw (← more.word) is.words;
}

pub reads_stay : ReadsStay
reads_stay told tnew words mold mnew side address term later memory more writes address_there there is given image
    is_image fits =
    later.keeps.values given term there
    ∙ is given image (image_before mold mnew image more is_image)
    (images_fit_before told tnew words mold mnew given image later memory more fits)
    ∙ ap (slice_index (held_by told given mold side image)) (sym (later.keeps.values given address address_there))
    ∙ ap (λ held. slice_index held (term_value tnew given address))
    (sym (held_by_stays told tnew words mold mnew side given image later.keeps memory writes))

-- ---- one run and then another

pub later_itself : (t : Table) → IsTable t → IsLater t t
later_itself t table = record {
  extends = record { map = refl; more = omega arith; ops = take_all (length t.ops) t.ops (omega arith) };
  keeps = record { widths = λ term inside. refl; values = λ given term inside. refl };
  table = table;
}

pub later_then : (a b c : Table) → IsLater a b → IsLater b c → IsLater a c
later_then a b c first second = record {
  extends = extends_then a b c first.extends second.extends;
  keeps = keeps_then a b c first.extends.more first.keeps second.keeps;
  table = second.table;
}

pub width_later : (told tnew : Table) (w term : ℕ) → IsLater told tnew → IsOfWidth told w term → IsOfWidth tnew w term
width_later told tnew w term later is = width_stays told tnew w term later.extends later.keeps is

pub reads_itself : (m : Memory) → ReadsMore m m
reads_itself m = record { address = refl; word = refl; more = []; reads = sym (append-nil m.reads) }

pub reads_then : (a b c : Memory) → ReadsMore a b → ReadsMore b c → ReadsMore a c
reads_then a b c first second = record {
  address = second.address ∙ first.address;
  word = second.word ∙ first.word;
  more = first.more ++ second.more;
  reads = second.reads ∙ ap (λ hs. hs ++ second.more) first.reads ∙ append_assoc a.reads first.more second.more;
}

pub writes_itself : (m : Memory) → KeepsWrites m m
writes_itself m = record { each = λ side. refl }

pub writes_then : (a b c : Memory) → KeepsWrites a b → KeepsWrites b c → KeepsWrites a c
writes_then a b c first second = record { each = λ side. second.each side ∙ first.each side }

kinds_both : (K : WordKind → Type 0) (xs ys : List Word) → HaveKinds K xs → HaveKinds K ys → HaveKinds K (xs ++ ys)
kinds_both K xs ys first second place term kind is = elim (among xs ys place (variable term kind) is) [
  | inl h ↦ first place term kind h
  | inr h ↦ second h.0 term kind h.1
]

-- nothing was added
pub goes_nowhere : (K : WordKind → Type 0) (t : Table) (words : List Word) (m : Memory) → IsWorkspace t words m
    → GoesOn K t t words words m m
goes_nowhere K t words m workspace = record {
  later = later_itself t workspace.table;
  more = [];
  words = sym (append-nil words);
  kinds = λ place term kind is. absurd cc;
  reads = reads_itself m;
  workspace = workspace;
}

pub goes_then : (K : WordKind → Type 0) (a b c : Table) (wa wb wc : List Word) (ma mb mc : Memory)
    → GoesOn K a b wa wb ma mb → GoesOn K b c wb wc mb mc → GoesOn K a c wa wc ma mc
goes_then K a b c wa wb wc ma mb mc first second = record {
  later = later_then a b c first.later second.later;
  more = first.more ++ second.more;
  words = second.words ∙ ap (λ ws. ws ++ second.more) first.words ∙ append_assoc wa first.more second.more;
  kinds = kinds_both K first.more second.more first.kinds second.kinds;
  reads = reads_then ma mb mc first.reads second.reads;
  workspace = second.workspace;
}

-- with further kinds
pub goes_as : (K L : WordKind → Type 0) (told tnew : Table) (wold wnew : List Word) (mold mnew : Memory)
    → ((kind : WordKind) → K kind → L kind) → GoesOn K told tnew wold wnew mold mnew
    → GoesOn L told tnew wold wnew mold mnew
goes_as K L told tnew wold wnew mold mnew wider goes = record {
  later = goes.later;
  more = goes.more;
  words = goes.words;
  kinds = λ place term kind is. wider kind (goes.kinds place term kind is);
  reads = goes.reads;
  workspace = goes.workspace;
}

-- ---- one step of a run

no_base_among : (xs : List ℕ) → (place term k : ℕ) → ¬ IsVariable (map plain xs) place term (Base k)
no_base_among xs place term k is = no_variable xs place term (Base k) is

-- terms and words that are no variables
pub goes_by_growth : (K : WordKind → Type 0) (told tnew : Table) (wold wnew : List Word) (m : Memory) (made : List ℕ)
    → Grows told tnew wold wnew made → IsWorkspace told wold m → GoesOn K told tnew wold wnew m m
goes_by_growth K told tnew wold wnew m made grows workspace = record {
  later = record { extends = grows.extends; keeps = grows.keeps; table = grows.table workspace.table };
  more = map plain made;
  words = grows.words;
  kinds = λ place term kind is. absurd (no_variable made place term kind is);
  reads = reads_itself m;
  workspace = record {
    table = grows.table workspace.table;
    of = grows.of workspace.of;
    memory = rw grows.words (stays_with_words told tnew wold (map plain made) m grows.extends grows.keeps
        (no_base_among made) workspace.memory);
  };
}

-- a variable of another kind than those of base reads
pub goes_by_variable : (K : WordKind → Type 0) (told tnew : Table) (wold wnew : List Word) (m : Memory) (term : ℕ)
    (kind : WordKind) → wnew ≡ wold ++ variable term kind ∷ [] → Extends told tnew → Keeps told tnew → IsTable tnew
    → (AreOf told wold → AreOf tnew wnew) → K kind → ((k : ℕ) → ¬ (kind ≡ Base k)) → IsWorkspace told wold m
    → GoesOn K told tnew wold wnew m m
goes_by_variable K told tnew wold wnew m term kind words extends keeps table of is other workspace = record {
  later = record { extends = extends; keeps = keeps; table = table };
  more = variable term kind ∷ [];
  words = words;
  kinds = λ place a own at. subst K (only_variable term kind [] place a own at) is;
  reads = reads_itself m;
  workspace = record {
    table = table;
    of = of workspace.of;
    memory = rw words (stays_with_words told tnew wold (variable term kind ∷ []) m extends keeps
        (λ place a k at. other k (only_variable term kind [] place a (Base k) at)) workspace.memory);
  };
}

with_read_more : (m : Memory) (read : Held) → ReadsMore m (with_read m read)
with_read_more m read = record { address = refl; word = refl; more = read ∷ []; reads = refl }

with_read_writes : (m : Memory) (read : Held) → KeepsWrites m (with_read m read)
with_read_writes m read = record { each = λ side. same side }
  where
    same : (side : Side) → writes_of (with_read m read) side ≡ writes_of m side
    same Board = refl
    same Machine = refl

read_kinds : (K : WordKind → Type 0) (same rest : List ℕ) (base n : ℕ) → K (Base n)
    → HaveKinds K (map plain same ++ variable base (Base n) ∷ map plain rest)
read_kinds K same rest base n is place term kind at =
    elim (among (map plain same) (variable base (Base n) ∷ map plain rest) place (variable term kind) at) [
      | inl h ↦ absurd (no_variable same place term kind h)
      | inr h ↦ subst K (only_variable base (Base n) rest h.0 term kind h.1) is
    ]

-- a read of the memory
pub goes_by_read : (K : WordKind → Type 0) (told tnew : Table) (wold wnew : List Word) (mold mnew : Memory)
    (side : Side) (address base term : ℕ) → ((n : ℕ) → K (Base n)) → AddsRead wold wnew mold
    → mnew ≡ with_read mold (held address base) → IsMemory tnew wnew mnew → AreOf tnew wnew → Extends told tnew
    → Keeps told tnew → IsTable tnew → GoesOn K told tnew wold wnew mold mnew
goes_by_read K told tnew wold wnew mold mnew side address base term is adds read memory of extends keeps table =
    record {
      later = record { extends = extends; keeps = keeps; table = table };
      more = map plain adds.same ++ variable adds.base (Base (length mold.reads)) ∷ map plain adds.rest;
      words = adds.words ∙ append_assoc wold (map plain adds.same)
          (variable adds.base (Base (length mold.reads)) ∷ map plain adds.rest);
      kinds = read_kinds K adds.same adds.rest adds.base (length mold.reads) (is (length mold.reads));
      reads = rw read (with_read_more mold (held address base));
      workspace = record { table = table; of = of; memory = memory };
    }

pub writes_by_read : (mold mnew : Memory) (address base : ℕ) → mnew ≡ with_read mold (held address base)
    → KeepsWrites mold mnew
writes_by_read mold mnew address base read = rw read (with_read_writes mold (held address base))

-- a write
pub workspace_with_write : (t : Table) (words : List Word) (m : Memory) (side : Side) (write : Held)
    → IsWorkspace t words m → IsHeld t m.address m.word write → IsWorkspace t words (with_write m side write)
workspace_with_write t words m side write workspace is = record {
  table = workspace.table;
  of = workspace.of;
  memory = stays_with_writes t words m side write workspace.memory is;
}

pub reads_with_write : (m : Memory) (side : Side) (write : Held) → ReadsMore m (with_write m side write)
reads_with_write m Board write = record { address = refl; word = refl; more = []; reads = sym (append-nil m.reads) }
reads_with_write m Machine write = record { address = refl; word = refl; more = []; reads = sym (append-nil m.reads) }

-- a term that is no word, as a constant
pub grows_without_word : (told tnew : Table) (words : List Word) (op : Op)
    → tnew ≡ table_of (told.ops ++ op ∷ []) told.map → Extends told tnew → Keeps told tnew → IsTable tnew
    → IsNoVariable op → Grows told tnew words words []
grows_without_word told tnew words op appends extends keeps table none = record {
  words = sym (append-nil words);
  extends = extends;
  keeps = keeps;
  table = λ before. table;
  of = λ of. rw appends (of_without_word told words op none of);
}
