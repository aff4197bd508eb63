-- The words that are left of a cycle, as it goes on.
use Rattle.std.proofs.Common.{◌≡◌, ℕ, zero, suc, ◌+◌, ◌-◌, ◌*◌, ◌<◌, ◌≤◌, List, [], ◌∷◌, ◌++◌, length, ap, ap₂, refl}
use Rattle.std.proofs.Common.{subst, sym, ◌∙◌, arith}
use Rattle.std.specs.Prelude.{Bool, true, false, ◌==◌, ◌&&◌, nat_lt, if◌then◌else◌, is_some, Option, Some, None}
use Rattle.std.proofs.lemmas.Bool as bool
use Rattle.std.proofs.lemmas.Bool.Decides.{nat_tests}
use Rattle.std.proofs.lemmas.List.{append-nil}
use Rattle.mw_base.specs.Words.{num}
use Rattle.mw_board.specs.declared.bit.DFrom.{DFrom}
use Rattle.mw_board.specs.declared.bit.DFrom.TheVariants as sources
use Rattle.mw_board.specs.declared.parts.BoardParts.{BoardParts}
use Rattle.mw_term.specs.declared.decided.Decided.{Decided}
use Rattle.mw_cycle.specs.declared.microword.Microword.{Microword}
use Rattle.mw_cycle.specs.BoardTerms.{Standing}
use Rattle.mw_cycle.specs.CycleWords.{Come, along_address, along_leaving, along_pass, cycle_words, done, stopped}
use Rattle.mw_cycle.specs.Decided.{decided, decides_counter, decides_pass}
use Rattle.mw_cycle.specs.EdgeWords.{Stands, edge_words, shown, taken_after, with_write_if}
use Rattle.mw_cycle.specs.LeavingWords as ends
use Rattle.mw_cycle.specs.LeavingWords.{leaving_words}
use Rattle.mw_cycle.specs.ReadingWords.{HasRead, Reading, reading_words, zero_words}
use Rattle.mw_term.specs.declared.event.SymEvent.{SymEvent}
use Rattle.mw_term.specs.declared.decided.DecidedKind.{DecidedKind}
use Rattle.mw_term.specs.declared.decided.DecidedKind.TheVariants.{Pass}
use Rattle.mw_term.specs.declared.op.Op.TheVariants.{Part}
use Rattle.mw_term.specs.MemoryRead.{Held}
use Rattle.mw_term.specs.WordList.{WordList, ended, with_word}
use Rattle.mw_term.specs.declared.side.Side.{Side}
use Rattle.mw_term.specs.declared.side.Side.TheVariants.{Board, Machine}
use Rattle.mw_symmem.specs.Memory.{Memory, writes_of}
use Rattle.mw_term.specs.Table.{Table}
use Rattle.mw_symmem.specs.declared.turn.Turn.{Turn}
use Rattle.mw_symmem.specs.declared.turn.Turn.TheVariants.{Ask, Finished}
use Rattle.mw_symboard.specs.declared.leaving.Leaving.{Leaving}
use Rattle.mw_symboard.specs.declared.reading.Reading as read
use Rattle.mw_symboard.specs.Along.{GoesAlong, ListsTurn, StopsAt, address_bits_of, left_behind_reading, left_by}
use Rattle.mw_symboard.specs.Along.{left_of_address, left_to_test, standing_in, words_left}
use Rattle.mw_symboard.specs.Cycle.{bits_before, effect_by, number_in, pass_by, value_in, zero_by}
use Rattle.mw_symboard.specs.Listed.{leaving_of, reading_of, standing_after, standing_of}
use Rattle.mw_symboard.specs.Seen.{Progress, microword_of}
use Rattle.mw_symboard.specs.Turns.{Leaves, Symbolic, cycle_left, decided_so, shown_by, written_if}
use Rattle.mw_symboard.proofs.Deciding.{value_more, count_more}
use Rattle.mw_symboard.proofs.Ends.{number_more}
use Rattle.mw_symboard.proofs.Turning.{effect_same}

-- a place with one decided bit more
abbrev pub with_bit : Progress → DecidedKind → Bool → Progress
with_bit p kind bit = record p { decided = p.decided ++ decided kind bit ∷ [] }

-- ---- what was read

-- before the first bit, what stands behind the reading is what stands behind pass
first_bit : (tests counts : Bool) (board : BoardParts) (m : Microword) (p : Progress) (s : Standing) (r : Reading)
    (bits : List Bool) (l : WordList)
    → decides_pass m ≡ tests → decides_counter m ≡ counts → p.decided ≡ []
    → along_pass board m s r bits l ≡ left_behind_reading board m p s r bits l
first_bit true true board m p s r bits l tests counts none = rw (tests, counts, none) refl
first_bit true false board m p s r bits l tests counts none = rw (tests, counts, none) refl
first_bit false true board m p s r bits l tests counts none = rw (tests, counts, none) refl
first_bit false false board m p s r bits l tests counts none = rw (tests, counts, none) refl

-- a cycle that begins
pub begins : (board : BoardParts) (store : List ℕ) (p : Progress) (writes : List Held) (events : List SymEvent)
    (r : Reading) (l0 l1 : WordList) → p.decided ≡ []
    → reading_words board (microword_of board store p) (standing_of p writes events) l0 ≡ record {
      list = l1;
      reading = r;
    } → (bits : List Bool) → cycle_words board store (standing_of p writes events) bits l0
    ≡ left_behind_reading board (microword_of board store p) p (standing_of p writes events) r bits l1
unfolding cycle_words
begins board store p writes events r l0 l1 none read = λ bits.
    (let m = microword_of board store p in
    let s = standing_of p writes events in
    ap (λ (x : HasRead). along_pass board m s x.reading bits x.list) read
    ∙ first_bit (decides_pass m) (decides_counter m) board m p s r bits l1 refl refl none)

-- ---- pass

-- it stops at pass
pub pass_stops : (counts : Bool) (board : BoardParts) (m : Microword) (p : Progress) (s : Standing) (r : Reading)
    (l : WordList)
    → decides_counter m ≡ counts → decides_pass m ≡ true → p.decided ≡ []
    → left_behind_reading board m p s r [] l ≡ stopped s (ended r.condition l)
pass_stops true board m p s r l counts tests none = rw (tests, counts, none) refl
pass_stops false board m p s r l counts tests none = rw (tests, counts, none) refl

-- and goes on behind it
pub pass_goes : (counts : Bool) (board : BoardParts) (m : Microword) (p : Progress) (s : Standing) (r : Reading)
    (l : WordList) (kind : DecidedKind) (bit : Bool) (bits : List Bool)
    → decides_counter m ≡ counts → decides_pass m ≡ true → p.decided ≡ []
    → left_behind_reading board m p s r (bit ∷ bits) l ≡ left_behind_reading board m (with_bit p kind bit) s r bits l
pass_goes true board m p s r l kind bit bits counts tests none = rw (tests, counts, none) refl
pass_goes false board m p s r l kind bit bits counts tests none = rw (tests, counts, none) refl

-- ---- the counter

-- it stops at the counter
pub zero_stops : (tests : Bool) (ds : List Decided) (board : BoardParts) (m : Microword) (p : Progress) (s : Standing)
    (r : Reading) (l : WordList)
    → decides_pass m ≡ tests → decides_counter m ≡ true → p.decided ≡ ds → length ds ≡ num tests
    → left_behind_reading board m p s r [] l ≡ stopped s (zero_words 12 s.parts.r l)
zero_stops true [] board m p s r l tests counts is many = absurd (omega (arith, many))
zero_stops true (d ∷ []) board m p s r l tests counts is many = rw (tests, counts, is) refl
zero_stops true (d ∷ e ∷ rest) board m p s r l tests counts is many = absurd (omega (arith, many))
zero_stops false [] board m p s r l tests counts is many = rw (tests, counts, is) refl
zero_stops false (d ∷ rest) board m p s r l tests counts is many = absurd (omega (arith, many))

-- and goes on behind it
pub zero_goes : (tests : Bool) (ds : List Decided) (board : BoardParts) (m : Microword) (p : Progress) (s : Standing)
    (r : Reading) (l : WordList) (kind : DecidedKind) (bit : Bool) (bits : List Bool)
    → decides_pass m ≡ tests → decides_counter m ≡ true → p.decided ≡ ds → length ds ≡ num tests
    → left_behind_reading board m p s r (bit ∷ bits) l
    ≡ left_behind_reading board m (with_bit p kind bit) s r bits (zero_words 12 s.parts.r l).list
zero_goes true [] board m p s r l kind bit bits tests counts is many = absurd (omega (arith, many))
zero_goes true (d ∷ []) board m p s r l kind bit bits tests counts is many = rw (tests, counts, is) refl
zero_goes true (d ∷ e ∷ rest) board m p s r l kind bit bits tests counts is many = absurd (omega (arith, many))
zero_goes false [] board m p s r l kind bit bits tests counts is many = rw (tests, counts, is) refl
zero_goes false (d ∷ rest) board m p s r l kind bit bits tests counts is many = absurd (omega (arith, many))

-- ---- the end of the cycle

not_less : (a b : ℕ) → b ≤ a → nat_lt a b ≡ false
not_less a b least = grind (arith, nat_tests)

-- what is known of its end is there, and no bit of the next address is decided
pub prepares : (board : BoardParts) (m : Microword) (p : Progress) (s : Standing) (r : Reading) (leaving : Leaving)
    (l0 l1 : WordList)
    → length p.decided ≡ bits_before m
    → leaving_words board m s.parts s.sp r.sources.noise (effect_by m p.decided) l0 ≡ record {
      list = l1;
      leaving = leaving_of leaving;
    } → (bits : List Bool) → left_behind_reading board m p s r bits l0 ≡ left_of_address board m p s r leaving bits l1
prepares board m p s r leaving l0 l1 many leaves = λ bits.
    (let none : address_bits_of m p ≡ 0 = omega (arith, many) in
    ap (λ b. if b then left_to_test board m p s r bits l0
    else along_leaving board m s r (pass_by m p.decided) (zero_by m p.decided) bits l0)
    (not_less (length p.decided) (bits_before m) (omega (arith, many)))
    ∙ ap (λ (x : ends.Leaves). along_address board m s r x.leaving (effect_by m p.decided) 12 0 bits x.list) leaves
    ∙ ap (λ k. along_address board m s r (leaving_of leaving) (effect_by m p.decided) (12 - k)
    (number_in p.decided (bits_before m) k) bits l1) (sym none))

-- it stops at a bit of the next address: the one of this number from the lowest
pub address_stops : (board : BoardParts) (m : Microword) (p : Progress) (s : Standing) (r : Reading) (leaving : Leaving)
    (l : WordList) (place : ℕ) → 12 - address_bits_of m p ≡ suc place
    → left_of_address board m p s r leaving [] l ≡ stopped s (with_word (Part leaving.next place 1) l)
address_stops board m p s r leaving l place is =
    ap (λ k. along_address board m s r (leaving_of leaving) (effect_by m p.decided) k
    (number_in p.decided (bits_before m) (address_bits_of m p)) [] l) is

-- the number of the bits so far, with one more
number_same : (ds : List Decided) (x : Decided) (before k : ℕ) → before + k ≤ length ds
    → number_in (ds ++ x ∷ []) before k ≡ number_in ds before k
number_same ds x before zero within = refl
number_same ds x before (suc k) within =
    ap₂ (λ n b. n * 2 + num b) (number_same ds x before k (omega (arith, within)))
    (value_more ds x (before + k) (omega (arith, within)))

last_value : (ds : List Decided) (x : Decided) → value_in (ds ++ x ∷ []) (length ds) ≡ x.value
last_value [] x = refl
last_value (d ∷ ds) x = last_value ds x

number_next : (ds : List Decided) (x : Decided) (before k : ℕ) → before + k ≡ length ds
    → number_in (ds ++ x ∷ []) before (k + 1) ≡ number_in ds before k * 2 + num x.value
number_next ds x before k many =
    number_more (ds ++ x ∷ []) before k
    ∙ ap₂ (λ n b. n * 2 + num b) (number_same ds x before k (omega (arith, many)))
    (ap (value_in (ds ++ x ∷ [])) many ∙ last_value ds x)

-- and goes on behind it
pub address_goes : (board : BoardParts) (m : Microword) (p : Progress) (s : Standing) (r : Reading) (leaving : Leaving)
    (l : WordList) (place : ℕ) (kind : DecidedKind) (bit : Bool) (bits : List Bool)
    → 12 - address_bits_of m p ≡ suc place
    → bits_before m ≤ length p.decided
    → left_of_address board m p s r leaving (bit ∷ bits) l
    ≡ left_of_address board m (with_bit p kind bit) s r leaving bits (with_word (Part leaving.next place 1) l).list
address_goes board m p s r leaving l place kind bit bits is within =
    let ds = p.decided in
    let x = decided kind bit in
    let before = bits_before m in
    let k = address_bits_of m p in
    let after : Come =
    along_address board m s r (leaving_of leaving) (effect_by m ds) place (number_in ds before k * 2 + num bit) bits
    (with_word (Part leaving.next place 1) l).list in
    let more = count_more ds x in
    let next : address_bits_of m (with_bit p kind bit) ≡ k + 1 = omega (arith, more, within) in
    let left : 12 - address_bits_of m (with_bit p kind bit) ≡ place = omega (arith, next, is) in
    ap (λ n. along_address board m s r (leaving_of leaving) (effect_by m ds) n (number_in ds before k) (bit ∷ bits) l)
    is
    ∙ sym (ap (λ n. along_address board m s r (leaving_of leaving) (effect_by m (ds ++ x ∷ [])) n
    (number_in (ds ++ x ∷ []) before (address_bits_of m (with_bit p kind bit))) bits
    (with_word (Part leaving.next place 1) l).list) left
    ∙ ap (λ n. along_address board m s r (leaving_of leaving) (effect_by m (ds ++ x ∷ [])) place
    (number_in (ds ++ x ∷ []) before n) bits (with_word (Part leaving.next place 1) l).list) next
    ∙ ap (λ e. along_address board m s r (leaving_of leaving) e place (number_in (ds ++ x ∷ []) before (k + 1)) bits
    (with_word (Part leaving.next place 1) l).list) (effect_same m ds x within)
    ∙ ap (λ n. along_address board m s r (leaving_of leaving) (effect_by m ds) place n bits
    (with_word (Part leaving.next place 1) l).list) (number_next ds x before k (omega (arith, within))))

-- all bits are decided: what is left is the edge
pub address_ends : (board : BoardParts) (m : Microword) (p : Progress) (s : Standing) (r : Reading) (leaving : Leaving)
    (l : WordList) (after : Stands) (at : ℕ)
    → length p.decided ≡ bits_before m + 12 → at ≡ number_in p.decided (bits_before m) 12
    → edge_words board m s r (leaving_of leaving) (effect_by m p.decided) at l ≡ after
    → (bits : List Bool) → left_of_address board m p s r leaving bits l ≡ done bits after
address_ends board m p s r leaving l after at many is edge = λ bits.
    (let all : address_bits_of m p ≡ 12 = omega (arith, many) in
    ap (λ k. along_address board m s r (leaving_of leaving) (effect_by m p.decided) (12 - k)
    (number_in p.decided (bits_before m) k) bits l) all
    ∙ ap (λ n. done bits (edge_words board m s r (leaving_of leaving) (effect_by m p.decided) n l)) (sym is)
    ∙ ap (done bits) edge)

-- ---- what is left behind the edge

-- what the outside sees of a cycle, and how many inputs were taken
abbrev pub with_shown : DFrom → (out : Bool) → (source y : ℕ) → Symbolic → Symbolic
with_shown from out source y o = record o {
  place = record o.place { taken = taken_after from o.place.taken };
  events = o.events ++ shown from out source y;
}

nothing_shown : (o : Symbolic) → o ≡ record o { events = o.events ++ [] }
nothing_shown o = ap (λ (es : List SymEvent). record o { events = es }) (sym (append-nil o.events))

pub shown_is : (from : DFrom) (out : Bool) (source y : ℕ) (o : Symbolic)
    → shown_by from out source y o ≡ with_shown from out source y o
shown_is sources.Input out source y o = refl
shown_is sources.Zero true source y o = refl
shown_is sources.Zero false source y o = nothing_shown o
shown_is sources.Memory true source y o = refl
shown_is sources.Memory false source y o = nothing_shown o
shown_is sources.Ir true source y o = refl
shown_is sources.Ir false source y o = nothing_shown o
shown_is sources.Mar true source y o = refl
shown_is sources.Mar false source y o = nothing_shown o
shown_is (sources.Field n) true source y o = refl
shown_is (sources.Field n) false source y o = nothing_shown o
shown_is (sources.Flip n) true source y o = refl
shown_is (sources.Flip n) false source y o = nothing_shown o

-- the writes of a side
pub writes_after : (write : Bool) (m : Memory) (own : Side) (address value : ℕ)
    → writes_of (written_if write m own address value) own ≡ with_write_if write address value (writes_of m own)
writes_after true m Board address value = refl
writes_after true m Machine address value = refl
writes_after false m own address value = refl

-- where it is once its cycle is left
pub left_cycle : (m : Microword) (source y : ℕ) (old e : Symbolic) (r : Reading) (writes after : List Held)
    → e.place.side ≡ old.place.side → e.place.cycle ≡ old.place.cycle → e.place.taken ≡ old.place.taken → e.events ≡ old.events → source ≡ r.source
    → y ≡ r.y → after ≡ with_write_if m.memory_write old.place.parts.mar r.y writes
    → standing_after m old.place e.place r writes old.events
    ≡ standing_in (cycle_left (with_shown m.d.from m.out source y e)) after
left_cycle m source y old e r writes after same cycle taken events is_source is_y wrote =
    let whole : Side → ℕ → ℕ → List SymEvent → ℕ → ℕ → List Held → Standing = λ d c t es s v w. record {
      side = d;
      at = e.place.at;
      sp = e.place.sp;
      parts = e.place.parts;
      writes = w;
      events = es ++ shown m.d.from m.out s v;
      cycle = c + 1;
      taken = taken_after m.d.from t;
      line = None;
    } in
    sym (ap (λ d. whole d e.place.cycle e.place.taken e.events source y after) same
    ∙ ap (λ c. whole old.place.side c e.place.taken e.events source y after) cycle
    ∙ ap (λ t. whole old.place.side old.place.cycle t e.events source y after) taken
    ∙ ap (λ es. whole old.place.side old.place.cycle old.place.taken es source y after) events
    ∙ ap (λ s. whole old.place.side old.place.cycle old.place.taken old.events s y after) is_source
    ∙ ap (λ v. whole old.place.side old.place.cycle old.place.taken old.events r.source v after) is_y
    ∙ ap (whole old.place.side old.place.cycle old.place.taken old.events r.source r.y) wrote)

-- ---- what is there and what isn't

-- what isn't there
pub none_is : {A : Type 0} (o : Option A) → is_some o ≡ false → o ≡ None
none_is None none = refl
none_is (Some x) none = absurd (bool.both_ways false refl (sym none))

-- a cycle that hasn't begun knows nothing of its end
pub not_begun : (board : BoardParts) (store : List ℕ) (t : Table) (p : Progress) (reading : Option read.Reading)
    (leaving : Option Leaving)
    → reading ≡ None → Leaves board store t p reading leaving → leaving ≡ None
not_begun board store t p reading None none leaves = refl
not_begun board store t p reading (Some l) none leaves =
    absurd (subst (λ (x : Option read.Reading). Leaves board store t p x (Some l)) none leaves)

-- one that knows nothing of it has decided no bit of the next address
pub few_decided : (board : BoardParts) (store : List ℕ) (t : Table) (p : Progress) (r : read.Reading)
    (reading : Option read.Reading) (leaving : Option Leaving)
    → reading ≡ Some r → leaving ≡ None → Leaves board store t p reading leaving
    → length p.decided ≤ bits_before (microword_of board store p)
few_decided board store t p r reading leaving is none leaves =
    subst (λ (x : Option Leaving). Leaves board store t p (Some r) x) none
    (subst (λ (x : Option read.Reading). Leaves board store t p x leaving) is leaves)

-- ---- turns

abbrev kind_in : Turn → DecidedKind
kind_in (Ask kind term) = kind
kind_in Finished = Pass

abbrev term_in : Turn → ℕ
term_in (Ask kind term) = term
term_in Finished = 0

-- a turn asks for one bit
pub asked_one : (turn : Turn) (k kind : DecidedKind) (t term : ℕ) (P : DecidedKind → ℕ → Type 0) → turn ≡ Ask k t
    → turn ≡ Ask kind term → P k t → P kind term
asked_one turn k kind t term P one other is =
    let kinds : k ≡ kind = ap kind_in (sym one ∙ other) in
    let terms : t ≡ term = ap term_in (sym one ∙ other) in
    subst (λ x. P kind x) terms (subst (λ x. P x t) kinds is)

-- while pass or the counter is to be decided it knows nothing of its end
pub not_leaving : (board : BoardParts) (store : List ℕ) (t : Table) (p : Progress) (r : read.Reading)
    (reading : Option read.Reading) (leaving : Option Leaving)
    → reading ≡ Some r → Leaves board store t p reading leaving
    → length p.decided < bits_before (microword_of board store p) → leaving ≡ None
not_leaving board store t p r reading None is leaves few = refl
not_leaving board store t p r reading (Some l) is leaves few =
    let known = subst (λ (x : Option read.Reading). Leaves board store t p x (Some l)) is leaves in
    absurd (omega (arith, known.1, few))

-- and so it stops before its end is known
pub stops_before : (board : BoardParts) (store : List ℕ) (writes : List Held) (old new : Symbolic) (r : read.Reading)
    (l0 l1 : WordList) (kind : DecidedKind) (term : ℕ) (asked : Option DecidedKind) → new ≡ record old { asked = asked }
    → old.reading ≡ Some r → old.leaving ≡ None
    → left_behind_reading board (microword_of board store old.place) old.place (standing_in old writes)
    (reading_of r) [] l0
    ≡ stopped (standing_in old writes) (ended term l1)
    → ((bit : Bool) (bits : List Bool)
    → left_behind_reading board (microword_of board store old.place) old.place (standing_in old writes)
    (reading_of r) (bit ∷ bits) l0
    ≡ left_behind_reading board (microword_of board store old.place) (with_bit old.place kind bit)
    (standing_in old writes) (reading_of r) bits l1)
    → StopsAt board store writes old new l0 l1 kind term
stops_before board store writes old new r l0 l1 kind term asked is reading leaving here goes =
    let left = λ (p : Progress) (bits : List Bool) (l : WordList).
    ap₂ (λ x y. left_by board store p (standing_of p writes old.events) x y bits l) reading leaving in
    record {
      here = left old.place [] l0 ∙ here;
      on = λ bit bits.
          (left old.place (bit ∷ bits) l0 ∙ goes bit bits ∙ sym (left (with_bit old.place kind bit) bits l1)
          ∙ sym (ap (λ (n : Symbolic). words_left board store (decided_so n kind bit) writes bits l1) is));
    }

-- and once it is
pub stops_behind : (board : BoardParts) (store : List ℕ) (writes : List Held) (old new : Symbolic) (r : read.Reading)
    (leaving : Leaving) (l0 l1 : WordList) (kind : DecidedKind) (term : ℕ) (asked : Option DecidedKind)
    → new ≡ record old { asked = asked } → old.reading ≡ Some r → old.leaving ≡ Some leaving
    → left_of_address board (microword_of board store old.place) old.place (standing_in old writes)
    (reading_of r) leaving [] l0
    ≡ stopped (standing_in old writes) (ended term l1)
    → ((bit : Bool) (bits : List Bool)
    → left_of_address board (microword_of board store old.place) old.place (standing_in old writes)
    (reading_of r) leaving (bit ∷ bits) l0
    ≡ left_of_address board (microword_of board store old.place) (with_bit old.place kind bit) (standing_in old writes)
    (reading_of r) leaving bits l1)
    → StopsAt board store writes old new l0 l1 kind term
stops_behind board store writes old new r leaving l0 l1 kind term asked is reading leaves here goes =
    let left = λ (p : Progress) (bits : List Bool) (l : WordList).
    ap₂ (λ x y. left_by board store p (standing_of p writes old.events) x y bits l) reading leaves in
    record {
      here = left old.place [] l0 ∙ here;
      on = λ bit bits.
          (left old.place (bit ∷ bits) l0 ∙ goes bit bits ∙ sym (left (with_bit old.place kind bit) bits l1)
          ∙ sym (ap (λ (n : Symbolic). words_left board store (decided_so n kind bit) writes bits l1) is));
    }

-- no bit is decided
pub none_decided : (ds : List Decided) → length ds ≡ 0 → ds ≡ []
none_decided [] none = refl
none_decided (d ∷ ds) none = absurd (omega (arith, none))

-- it goes on twice
pub goes_on : (board : BoardParts) (store : List ℕ) (writes : List Held) (old mid new : Symbolic) (l0 l1 l2 : WordList)
    → GoesAlong board store writes old mid l0 l1 → GoesAlong board store writes mid new l1 l2
    → GoesAlong board store writes old new l0 l2
goes_on board store writes old mid new l0 l1 l2 first second = λ bits. (first bits ∙ second bits)

-- it goes on, and then stops at a bit
pub stops_later : (board : BoardParts) (store : List ℕ) (writes : List Held) (old mid new : Symbolic)
    (l0 l1 l2 : WordList) (mold mnew : Memory) (turn : Turn) (kind : DecidedKind) (term : ℕ)
    → turn ≡ Ask kind term → mid.place ≡ old.place
    → mid.events ≡ old.events → writes_of mold old.place.side ≡ writes → GoesAlong board store writes old mid l0 l1
    → StopsAt board store writes mid new l1 l2 kind term → ListsTurn board store mold mnew old new l0 l2 turn
stops_later board store writes old mid new l0 l1 l2 mold mnew turn kind term is place events same goes stops =
    let standing = ap₂ (λ (p : Progress) (es : List SymEvent). standing_of p writes es) place events in
    subst (λ (t : Turn). ListsTurn board store mold mnew old new l0 l2 t) (sym is)
    (subst (λ (ws : List Held). StopsAt board store ws old new l0 l2 kind term) (sym same) (record {
      here = goes [] ∙ stops.here ∙ ap (λ (s : Standing). stopped s (ended term l2)) standing;
      on = λ bit bits. (goes (bit ∷ bits) ∙ stops.on bit bits);
    }))
