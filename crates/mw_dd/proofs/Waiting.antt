-- Operations that wait for one below them.
use Rattle.std.proofs.Common.{◌≡◌, ◌⊎◌, inl, inr, ℕ, zero, suc, ◌+◌, ◌<◌, ◌≤◌, List, [], ◌∷◌, ◌++◌, length, arith}
use Rattle.std.proofs.Common.{refl, ap, ◌∙◌, sym, subst}
use Rattle.std.specs.Prelude.{Option, Some, None, Bool, true, false, slice_get, if◌then◌else◌}
use Rattle.std.proofs.lemmas.Bool.{cases_eq, false≢true}
use Rattle.std.proofs.lemmas.List.{same_from_push}
use Rattle.std.proofs.lemmas.Option.{same_Some}
use Rattle.mw_term.specs.Assigned.{Given}
use Rattle.mw_term.specs.Cofactors.{Variable, value_of}
use Rattle.mw_dd.specs.declared.nodes.Node.{Node}
use Rattle.mw_dd.specs.declared.nodes.Triple.{Triple}
use Rattle.mw_dd.specs.declared.memo.Memo.{Memo}
use Rattle.mw_dd.specs.declared.notes.Waiting.{Waiting}
use Rattle.mw_dd.specs.declared.notes.Notes.{Notes}
use Rattle.mw_dd.specs.Kept.{IsKept, AreMade, Adds}
use Rattle.mw_dd.specs.Links.{IsAbsent}
use Rattle.mw_dd.specs.Memos.{IsCleared, IsMet, HasResult, IsDone, IsBegun, IsEnded, AreLeft}
use Rattle.mw_dd.specs.Nodes.{value_at, IsDd, IsFrom, IsReduced}
use Rattle.mw_dd.specs.Steps.{Grows, AreDds, HasVariable, IsTop, IsSide, IsResult, IsLeft, AreAmong, ends, size}
use Rattle.mw_dd.specs.Waiting.{AwaitsHigh, Awaits, AreWaiting, IsAwaited, AreCounted, HasEnded}
use Rattle.mw_dd.specs.Waiting.{AreNoted, most_steps, steps_of, all_steps}
use Rattle.mw_dd.proofs.Lists.{get-push, get-push_old, get-push_new}
use Rattle.mw_dd.proofs.Cofactors.{Stay, dds-grows, are_among-grows, left-side, left_itself}
use Rattle.mw_dd.proofs.Memos.{are_from-grows, result-grows, IsStep, step_result, step_among}
use Rattle.mw_dd.proofs.Memos.{begun_stay, begun_cases, begun_at, begun_keys, begun_done, begun_left}
use Rattle.mw_dd.proofs.Keeping.{step-kept}
use Rattle.mw_dd.proofs.Values.{grows-none}
use Rattle.mw_dd.proofs.Memos.{ended_back, ended_keys, ended_left, ended_done, ended_own}

-- ---- as nodes grow, and more is met

has_variable-grows : (old new : List Node) (x : ℕ) (v : Variable) → Grows old new → HasVariable old x v
    → HasVariable new x v
has_variable-grows old new x v grows has = (has.0, has.1, has.2, grows.stay has.0 has.1 has.3, has.4)

top-grows : (old new : List Node) (t : Triple) (v : Variable) → Grows old new → AreDds old t → IsTop old t v
    → IsTop new t v
top-grows old new t v grows there top = record {
  one = elim top.one [
    | inl f ↦ inl (has_variable-grows old new t.f v grows f)
    | inr other ↦ elim other [
      | inl g ↦ inr (inl (has_variable-grows old new t.g v grows g))
      | inr h ↦ inr (inr (has_variable-grows old new t.h v grows h))
    ]
  ];
  from = are_from-grows old new v t grows there top.from;
}

side-grows : (old new : List Node) (t s : Triple) (v : Variable) (b : Bool) → Grows old new → AreDds old t
    → IsSide old t v b s → IsSide new t v b s
side-grows old new t s v b grows all side =
    let own = side.there in
    record {
      f = λ given is. grows.same given s.f own.f ∙ side.f given is ∙ sym (grows.same given t.f all.f);
      g = λ given is. grows.same given s.g own.g ∙ side.g given is ∙ sym (grows.same given t.g all.g);
      h = λ given is. grows.same given s.h own.h ∙ side.h given is ∙ sym (grows.same given t.h all.h);
      from = are_from-grows old new _ s grows own side.from;
      there = dds-grows old new s grows own;
      earlier = side.earlier;
    }

module _ (old new : List Node) (triples more : List Triple) (budget : Option ℕ) (grows : Grows old new)
    (stay : (b : ℕ) → budget ≡ Some b → Stay triples more) where
  awaits-grows : (w : Waiting) (t : Triple) → Awaits old triples budget w t → Awaits new more budget w t
  awaits-grows w t is = record {
    there = dds-grows old new w.triple grows is.there;
    top = top-grows old new w.triple w.top.variable grows is.there is.top;
    high = side-grows old new w.triple w.at_high w.top.variable true grows is.there is.high;
    half = elim is.half [
      | inl low ↦ inl (record {
        none = low.none;
        side = side-grows old new w.triple t w.top.variable false grows is.there low.side;
      })
      | inr high ↦ inr (record {
        at_low = high.at_low;
        some = high.some;
        side = side-grows old new w.triple high.at_low w.top.variable false grows is.there high.side;
        result = result-grows old new high.at_low w.low grows high.side.there high.result;
        among = λ b counts. are_among-grows old new triples more high.at_low grows (stay b counts) high.side.there
            (high.among b counts);
        next = high.next;
      })
    ];
    met = λ b counts. stay b counts w.place w.triple (is.met b counts);
  }

  pub waiting-grows : (whole : Triple) (ws : List Waiting) (t : Triple) → AreWaiting old triples budget whole ws t
      → AreWaiting new more budget whole ws t
  waiting-grows whole ws t (AreWaiting.none nothing same) = AreWaiting.none nothing same
  waiting-grows whole ws t (AreWaiting.more {before} {w} is rest awaits) =
      AreWaiting.more is (waiting-grows whole before w.triple rest) (awaits-grows w t awaits)

-- ---- what waits

none_met : (i : ℕ) (t : Triple) → ¬ (slice_get {X = Triple} [] i ≡ Some t)
none_met i t at = cc

module _ (nodes : List Node) (triples : List Triple) (budget : Option ℕ) (whole : Triple) where
  awaited_side : (w : Waiting) (t : Triple) → Awaits nodes triples budget w t
      → (b : Bool) × IsSide nodes w.triple w.top.variable b t
  awaited_side w t is = elim is.half [
    | inl low ↦ (false, low.side)
    | inr high ↦ (true, subst (IsSide nodes w.triple w.top.variable true) (sym high.next) is.high)
  ]

  nothing_at : (ws : List Waiting) (j : ℕ) (w : Waiting) → ws ≡ [] → ¬ (slice_get ws j ≡ Some w)
  nothing_at ws j w none at =
      let nothing : slice_get {X = Waiting} [] j ≡ Some w =
      sym (ap (λ (all : List Waiting). slice_get all j) none) ∙ at in
      cc

  -- the last one, and those before it
  waiting_last : (front : List Waiting) (last : Waiting) (t : Triple)
      → AreWaiting nodes triples budget whole (front ++ last ∷ []) t
      → AreWaiting nodes triples budget whole front last.triple × Awaits nodes triples budget last t
  waiting_last front last t (AreWaiting.none nothing same) =
      absurd (nothing_at (front ++ last ∷ []) (length front) last nothing (get-push_new front last))
  waiting_last front last t (AreWaiting.more {before} {w} is rest awaits) =
      let same = same_from_push front before last w is in (
        subst (λ (all : List Waiting). AreWaiting nodes triples budget whole all last.triple) (sym same.0)
            (subst (λ (x : Waiting). AreWaiting nodes triples budget whole before x.triple) (sym same.1) rest),
        subst (λ (x : Waiting). Awaits nodes triples budget x t) (sym same.1) awaits,
      )

  pub waiting_split : (ws front : List Waiting) (last : Waiting) (t : Triple) → ws ≡ front ++ last ∷ []
      → AreWaiting nodes triples budget whole ws t
      → AreWaiting nodes triples budget whole front last.triple × Awaits nodes triples budget last t
  waiting_split ws front last t is waiting =
      waiting_last front last t (subst (λ (all : List Waiting). AreWaiting nodes triples budget whole all t) is waiting)

  -- where none waits, the whole is next
  pub waiting_none : (t : Triple) → AreWaiting nodes triples budget whole [] t → whole ≡ t
  waiting_none t (AreWaiting.none nothing same) = same
  waiting_none t (AreWaiting.more {before} {w} is rest awaits) =
      absurd (nothing_at (before ++ w ∷ []) (length before) w (sym is) (get-push_new before w))

  pub waiting_there : (ws : List Waiting) (t : Triple) → AreDds nodes whole
      → AreWaiting nodes triples budget whole ws t → AreDds nodes t
  waiting_there ws t there (AreWaiting.none nothing same) = subst (AreDds nodes) same there
  waiting_there ws t there (AreWaiting.more {before} {w} is rest awaits) = (awaited_side w t awaits).1.there

  -- what is next is smaller than all that wait
  waiting_smaller : (ws : List Waiting) (t : Triple) → AreWaiting nodes triples budget whole ws t
      → (j : ℕ) (v : Waiting) → slice_get ws j ≡ Some v → size t < size v.triple
  waiting_smaller ws t (AreWaiting.none nothing same) j v at = absurd (nothing_at ws j v nothing at)
  waiting_smaller ws t (AreWaiting.more {before} {w} is rest awaits) j v at =
      let less = (awaited_side w t awaits).1.earlier in
      elim (get-push before w j v (rw is at at)) [
        | inl old ↦
            let more = waiting_smaller before w.triple rest j v old in
            omega (arith, less, more)
        | inr new ↦ subst (λ (x : Waiting). size t < size x.triple) new.1 less
      ]

  waiting_met : (ws : List Waiting) (t : Triple) (b : ℕ) → budget ≡ Some b → AreWaiting nodes triples budget whole ws t
      → (j : ℕ) (v : Waiting) → slice_get ws j ≡ Some v → slice_get triples v.place ≡ Some v.triple
  waiting_met ws t b counts (AreWaiting.none nothing same) j v at = absurd (nothing_at ws j v nothing at)
  waiting_met ws t b counts (AreWaiting.more {before} {w} is rest awaits) j v at =
      elim (get-push before w j v (rw is at at)) [
        | inl old ↦ waiting_met before w.triple b counts rest j v old
        | inr new ↦ subst (λ (x : Waiting). slice_get triples x.place ≡ Some x.triple) new.1 (awaits.met b counts)
      ]

module _ (nodes : List Node) (r : IsReduced nodes) (memo : Memo) (budget : Option ℕ) (whole : Triple)
    (all : AreDds nodes whole) (b : ℕ) (counts : budget ≡ Some b) where
  -- what is next is left of the whole
  pub waiting_left : (ws : List Waiting) (t : Triple) → AreLeft nodes memo whole
      → AreWaiting nodes memo.triples budget whole ws t → IsLeft nodes whole t
  waiting_left ws t left (AreWaiting.none nothing same) =
      subst (IsLeft nodes whole) same (left_itself nodes r whole all)
  waiting_left ws t left (AreWaiting.more {before} {w} is rest awaits) =
      let side = awaited_side nodes memo.triples budget whole w t awaits in
      left-side nodes r whole all w.triple t w.top.variable side.0 awaits.top side.1
      (left w.place w.triple (awaits.met b counts))

  -- a triple that is met again doesn't wait, so it is done
  pub met_ended : (ws : List Waiting) (t : Triple) (result : ℕ) → AreCounted nodes memo ws whole b
      → AreWaiting nodes memo.triples budget whole ws t → HasResult memo t result
      → HasEnded nodes memo.triples budget t result
  met_ended ws t result counted waiting has = elim (counted.settled has.0 t has.1) [
    | inl done ↦
        let one : done.result ≡ result = same_Some done.result result (sym done.at ∙ has.2) in
        record { result = subst (IsResult nodes t) one done.is; among = λ b counts. done.among }
    | inr awaited ↦
        let w = awaited.1 in
        let met = waiting_met nodes memo.triples budget whole ws t b counts waiting awaited.0 w awaited.2 in
        let own : slice_get memo.triples w.place ≡ Some t = rw awaited.3 has.1 in
        let same : w.triple ≡ t = same_Some w.triple t (sym met ∙ own) in
        let less = waiting_smaller nodes memo.triples budget whole ws t waiting awaited.0 w awaited.2 in
        absurd (omega (arith, less, ap size same))
  ]

-- ---- what is counted

awaited_push : (ws : List Waiting) (w : Waiting) (i : ℕ) → IsAwaited ws i → IsAwaited (ws ++ w ∷ []) i
awaited_push ws w i is = (is.0, is.1, get-push_old ws w is.0 is.1 is.2, is.3)

awaited_last : (ws : List Waiting) (w : Waiting) (i : ℕ) → IsAwaited (ws ++ w ∷ []) i
    → IsAwaited ws i ⊎ (w.place ≡ i)
awaited_last ws w i is = elim (get-push ws w is.0 is.1 is.2) [
  | inl old ↦ inl (is.0, is.1, old, is.3)
  | inr new ↦ inr (ap (λ (x : Waiting). x.place) new.1 ∙ is.3)
]

-- an operation is met and waits
counted_begun : (nodes : List Node) (before now : Memo) (ws : List Waiting) (w : Waiting) (whole t : Triple)
    (place b : ℕ) → AreCounted nodes before ws whole b → IsBegun before now t place → length now.triples ≤ b
    → w.place ≡ place → AreDds nodes t → ends t ≡ false → IsAbsent before.triples t → IsLeft nodes whole t
    → AreCounted nodes now (ws ++ w ∷ []) whole b
counted_begun nodes before now ws w whole t place b counted begun within same there counts absent left = record {
  keys = begun_keys nodes before now t place begun counted.keys there counts absent;
  within = within;
  left = begun_left nodes before now t place begun counted.keys whole left counted.left;
  settled = λ i s at. elim (begun_cases nodes before now t place begun counted.keys i s at) [
    | inl old ↦ elim (counted.settled i s old) [
      | inl done ↦ inl (begun_done nodes before now t place begun counted.keys i s old done)
      | inr awaited ↦ inr (awaited_push ws w i awaited)
    ]
    | inr new ↦ inr (length ws, w, get-push_new ws w, same ∙ begun.place ∙ sym new.0)
  ];
}

-- it waits again
counted_turned : (nodes : List Node) (memo : Memo) (before : List Waiting) (w v : Waiting) (whole : Triple) (b : ℕ)
    → v.place ≡ w.place → AreCounted nodes memo (before ++ w ∷ []) whole b
    → AreCounted nodes memo (before ++ v ∷ []) whole b
counted_turned nodes memo before w v whole b same counted = record {
  keys = counted.keys;
  within = counted.within;
  left = counted.left;
  settled = λ i s at. elim (counted.settled i s at) [
    | inl done ↦ inl done
    | inr awaited ↦ elim (awaited_last before w i awaited) [
      | inl old ↦ inr (awaited_push before v i old)
      | inr own ↦ inr (length before, v, get-push_new before v, same ∙ own)
    ]
  ];
}

-- and is done
counted_ended : (old new : List Node) (before now : Memo) (ws : List Waiting) (w : Waiting) (whole : Triple)
    (made b : ℕ) → AreCounted old before (ws ++ w ∷ []) whole b → IsEnded before now w.place made → Grows old new
    → AreDds old whole → IsMet before w.place w.triple → IsResult new w.triple made
    → AreAmong new before.triples w.triple → AreCounted new now ws whole b
counted_ended old new before now ws w whole made b counted ended grows all met is among =
    let keys = counted.keys in
    let own = ended_own old new before now w.place made ended grows keys w.triple met is among in
    record {
      keys = ended_keys old new before now w.place made ended grows keys;
      within = rw ended.triples counted.within;
      left = ended_left old new before now w.place made ended grows keys whole all counted.left;
      settled = λ i s at.
          let was = ended_back old new before now w.place made ended grows keys i s at in
          elim (cases_eq i w.place) [
            | inl same ↦
                let one : w.triple ≡ s =
                same_Some w.triple s (sym met ∙ ap (slice_get before.triples) (sym same) ∙ was) in
                inl (subst (λ (x : Triple). IsDone new now i x) one
                (subst (λ (j : ℕ). IsDone new now j w.triple) (sym same) own))
            | inr differ ↦ elim (counted.settled i s was) [
              | inl done ↦
                  inl (ended_done old new before now w.place made ended grows keys i s differ was done)
              | inr awaited ↦ elim (awaited_last ws w i awaited) [
                | inl older ↦ inr older
                | inr is_own ↦ absurd (differ (sym is_own))
              ]
            ]
          ];
    }

-- ---- which half is next

pub low_side : (nodes : List Node) (triples : List Triple) (budget : Option ℕ) (w : Waiting) (t : Triple)
    → Awaits nodes triples budget w t → w.has_low ≡ false → IsSide nodes w.triple w.top.variable false t
low_side nodes triples budget w t awaits none = elim awaits.half [
  | inl low ↦ low.side
  | inr high ↦ absurd (false≢true (sym none ∙ high.some))
]

pub high_half : (nodes : List Node) (triples : List Triple) (budget : Option ℕ) (w : Waiting) (t : Triple)
    → Awaits nodes triples budget w t → w.has_low ≡ true → AwaitsHigh nodes triples budget w t
high_half nodes triples budget w t awaits some = elim awaits.half [
  | inl low ↦ absurd (false≢true (sym low.none ∙ some))
  | inr high ↦ high
]

-- ---- steps

-- a result that was met or kept
pub known_ended : (nodes : List Node) (notes : Notes) (budget : Option ℕ) (whole t : Triple) (r : ℕ)
    → AreNoted nodes notes budget whole → AreWaiting nodes notes.memo.triples budget whole notes.waiting.items t
    → ((b : ℕ) → budget ≡ Some b → HasResult notes.memo t r) → (budget ≡ None → IsKept notes.results t r)
    → HasEnded nodes notes.memo.triples budget t r
known_ended nodes notes None whole t r noted waiting met kept =
    record { result = (noted.made t r (kept refl)).is; among = λ b counts. absurd (cc) }
known_ended nodes notes (Some b) whole t r noted waiting met kept =
    met_ended nodes noted.reduced notes.memo (Some b) whole noted.there b refl notes.waiting.items t r
    (noted.counted b refl) waiting (met b refl)

-- nothing was met
pub none_counted : (nodes : List Node) (memo : Memo) (ws : List Waiting) (whole : Triple) (b : ℕ) → IsCleared memo
    → AreCounted nodes memo ws whole b
none_counted nodes memo ws whole b cleared =
    let never : (i : ℕ) (t : Triple) → ¬ IsMet memo i t = λ i t at.
    none_met i t (sym (ap (λ (ts : List Triple). slice_get ts i) cleared.triples) ∙ at) in
    record {
      keys = record {
        there = λ i t at. absurd (never i t at);
        counted = λ i t at. absurd (never i t at);
        once = λ i j t at of. absurd (never i t at);
        beside = ap length cleared.results ∙ sym (ap length cleared.triples);
      };
      within = omega (arith, ap length cleared.triples);
      left = λ i t at. absurd (never i t at);
      settled = λ i t at. absurd (never i t at);
    }

-- an operation is entered, and waits for its low half
pub entered : (nodes : List Node) (old new : Notes) (budget : Option ℕ) (whole t lo : Triple) (w : Waiting)
    → AreNoted nodes old budget whole → AreWaiting nodes old.memo.triples budget whole old.waiting.items t
    → w.triple ≡ t → w.has_low ≡ false → IsTop nodes t w.top.variable → IsSide nodes t w.top.variable true w.at_high
    → IsSide nodes t w.top.variable false lo → ends t ≡ false
    → ((b : ℕ) → budget ≡ Some b → IsAbsent old.memo.triples t)
    → ((b : ℕ) → budget ≡ Some b → IsBegun old.memo new.memo t w.place × (length new.memo.triples ≤ b))
    → new.results ≡ old.results → new.waiting.items ≡ old.waiting.items ++ w ∷ []
    → AreNoted nodes new budget whole × AreWaiting nodes new.memo.triples budget whole new.waiting.items lo
entered nodes old new budget whole t lo w noted waiting same none top high low going absent begun results waits =
    let there = waiting_there nodes old.memo.triples budget whole old.waiting.items t noted.there waiting in
    let stay : (b : ℕ) → budget ≡ Some b → Stay old.memo.triples new.memo.triples = λ b counts.
    begun_stay nodes old.memo new.memo t w.place (begun b counts).0 (noted.counted b counts).keys in (
      record {
        there = noted.there;
        reduced = noted.reduced;
        made = subst (AreMade nodes) (sym results) noted.made;
        counted = λ b counts. rw waits
            (counted_begun nodes old.memo new.memo old.waiting.items w whole t w.place b (noted.counted b counts)
            (begun b counts).0 (begun b counts).1 refl there going (absent b counts)
            (waiting_left nodes noted.reduced old.memo budget whole noted.there b counts old.waiting.items t
            (noted.counted b counts).left waiting));
      },
      AreWaiting.more waits
          (subst (AreWaiting nodes new.memo.triples budget whole old.waiting.items) (sym same)
          (waiting-grows nodes nodes old.memo.triples new.memo.triples budget (grows-none nodes) stay whole
          old.waiting.items t waiting))
          (record {
            there = subst (AreDds nodes) (sym same) there;
            top = subst (λ (x : Triple). IsTop nodes x w.top.variable) (sym same) top;
            high = subst (λ (x : Triple). IsSide nodes x w.top.variable true w.at_high) (sym same) high;
            half = inl (record {
              none = none;
              side = subst (λ (x : Triple). IsSide nodes x w.top.variable false lo) (sym same) low;
            });
            met = λ b counts. subst (λ (x : Triple). slice_get new.memo.triples w.place ≡ Some x) (sym same)
                (begun_at nodes old.memo new.memo t w.place (begun b counts).0 (noted.counted b counts).keys);
          }),
    )

-- its low half has a result, and it waits for its high half
pub turned : (nodes : List Node) (old new : Notes) (budget : Option ℕ) (whole t : Triple) (before : List Waiting)
    (w v : Waiting) (r : ℕ) → AreNoted nodes old budget whole → old.waiting.items ≡ before ++ w ∷ []
    → AreWaiting nodes old.memo.triples budget whole before w.triple → Awaits nodes old.memo.triples budget w t
    → HasEnded nodes old.memo.triples budget t r → w.has_low ≡ false → v.triple ≡ w.triple → v.place ≡ w.place
    → v.top ≡ w.top → v.at_high ≡ w.at_high → v.has_low ≡ true → v.low ≡ r → new.memo ≡ old.memo
    → new.results ≡ old.results → new.waiting.items ≡ before ++ v ∷ []
    → AreNoted nodes new budget whole × AreWaiting nodes new.memo.triples budget whole new.waiting.items w.at_high
turned nodes old new budget whole t before w v r noted was rest awaits ended none triple place top high some low
    memo results waits = (
      record {
        there = noted.there;
        reduced = noted.reduced;
        made = subst (AreMade nodes) (sym results) noted.made;
        counted = λ b counts. rw (memo, waits)
            (counted_turned nodes old.memo before w v whole b place (rw was at (noted.counted b counts)));
      },
      AreWaiting.more waits (rw (memo, triple) rest)
          (record {
            there = rw triple awaits.there;
            top = rw (triple, top) awaits.top;
            high = rw (triple, top, high) awaits.high;
            half = inr (record {
              at_low = t;
              some = some;
              side = rw (triple, top) (low_side nodes old.memo.triples budget w t awaits none);
              result = rw low ended.result;
              among = λ b counts. rw memo (ended.among b counts);
              next = sym high;
            });
            met = λ b counts. rw (memo, triple, place) (awaits.met b counts);
          }),
    )

-- both halves have results
pub joined_step : (old new : List Node) (triples : List Triple) (budget : Option ℕ) (w : Waiting) (t : Triple)
    (r made : ℕ) → Grows old new → Awaits old triples budget w t → (high : AwaitsHigh old triples budget w t)
    → IsResult old t r → IsDd new made
    → ((given : Given) → value_at given new made
    ≡ (if value_of w.top.variable given then value_at given old r else value_at given old w.low))
    → IsFrom new w.top.variable made → IsStep old new w.triple high.at_low t w.top.variable w.low r made
joined_step old new triples budget w t r made grows awaits high is there value from = record {
  grows = grows;
  there = awaits.there;
  top = awaits.top;
  low_side = high.side;
  high_side = subst (IsSide old w.triple w.top.variable true) (sym high.next) awaits.high;
  low_is = high.result;
  high_is = is;
  made_there = there;
  made_value = value;
  made_from = from;
}

-- so it has one, and doesn't wait
pub joined : (old new : List Node) (before now : Notes) (budget : Option ℕ) (whole t : Triple) (w : Waiting)
    (r made : ℕ) → AreNoted old before budget whole → before.waiting.items ≡ now.waiting.items ++ w ∷ []
    → AreWaiting old before.memo.triples budget whole now.waiting.items w.triple
    → Awaits old before.memo.triples budget w t → (high : AwaitsHigh old before.memo.triples budget w t)
    → HasEnded old before.memo.triples budget t r → IsStep old new w.triple high.at_low t w.top.variable w.low r made
    → IsReduced new → Adds before.results now.results w.triple made
    → ((b : ℕ) → budget ≡ Some b → IsEnded before.memo now.memo w.place made)
    → AreNoted new now budget whole × ((u : Triple)
    × AreWaiting new now.memo.triples budget whole now.waiting.items u × HasEnded new now.memo.triples budget u made)
joined old new before now budget whole t w r made noted was rest awaits high end step reduced adds ended =
    let is = step_result old new w.triple high.at_low t w.top.variable w.low r made step in
    let among : (b : ℕ) → budget ≡ Some b → AreAmong new before.memo.triples w.triple = λ b counts.
    step_among old new w.triple high.at_low t w.top.variable w.low r made step before.memo.triples w.place noted.reduced
    (awaits.met b counts) (high.among b counts) (end.among b counts) in
    let stay : (b : ℕ) → budget ≡ Some b → Stay before.memo.triples now.memo.triples =
    λ b counts i s at. rw (ended b counts).triples at in (
      record {
        there = dds-grows old new whole step.grows noted.there;
        reduced = reduced;
        made = step-kept old new w.triple high.at_low t w.top.variable w.low r made step before.results now.results
            noted.made adds;
        counted = λ b counts. counted_ended old new before.memo now.memo now.waiting.items w whole made b
            (rw was at (noted.counted b counts)) (ended b counts) step.grows noted.there (awaits.met b counts) is
            (among b counts);
      },
      (
        w.triple,
        waiting-grows old new before.memo.triples now.memo.triples budget step.grows stay whole now.waiting.items
            w.triple rest,
        record { result = is; among = λ b counts. rw (ended b counts).triples (among b counts) },
      ),
    )

-- none waits, so the whole has a result
pub finished : (nodes : List Node) (old new : Notes) (budget : Option ℕ) (whole t : Triple) (r : ℕ)
    → AreNoted nodes old budget whole → AreWaiting nodes old.memo.triples budget whole old.waiting.items t
    → HasEnded nodes old.memo.triples budget t r → old.waiting.items ≡ [] → new.waiting.items ≡ []
    → new.memo ≡ old.memo → new.results ≡ old.results
    → AreNoted nodes new budget whole × HasEnded nodes new.memo.triples budget whole r
finished nodes old new budget whole t r noted waiting ended none fewer memo results =
    let same = waiting_none nodes old.memo.triples budget whole t (rw none at waiting) in (
      record {
        there = noted.there;
        reduced = noted.reduced;
        made = subst (AreMade nodes) (sym results) noted.made;
        counted = λ b counts. rw (memo, fewer) (rw none at (noted.counted b counts));
      },
      record {
        result = subst (λ (x : Triple). IsResult nodes x r) (sym same) ended.result;
        among = λ b counts. rw (memo, same) (ended.among b counts);
      },
    )

-- ---- how far it is from the end

pub some_steps : (n : ℕ) → 1 < most_steps n
unfolding most_steps
some_steps zero = omega arith
some_steps (suc n) = omega arith

more_steps : (a b : ℕ) → a < b → most_steps a + most_steps a + 2 ≤ most_steps b
unfolding most_steps
more_steps a zero less = absurd (omega (arith, less))
more_steps a (suc b) less = elim (cases_eq a b) [
  | inl same ↦ rw same (omega arith)
  | inr differ ↦ let before = more_steps a b (omega (arith, less, differ)) in omega (arith, before)
]

push_steps : (ws : List Waiting) (w : Waiting) → all_steps (ws ++ w ∷ []) ≡ all_steps ws + steps_of w
push_steps [] w = omega arith
push_steps (v ∷ ws) w = let rest = push_steps ws w in omega (arith, rest)

low_steps : (w : Waiting) → w.has_low ≡ false → steps_of w ≡ most_steps (size w.at_high) + 1
low_steps w is = rw is refl

high_steps : (w : Waiting) → w.has_low ≡ true → steps_of w ≡ 1
high_steps w is = rw is refl

pub entered_steps : (ws now : List Waiting) (w : Waiting) (t lo : Triple) → now ≡ ws ++ w ∷ [] → w.has_low ≡ false
    → size w.at_high < size t → size lo < size t
    → all_steps now + most_steps (size lo) < all_steps ws + most_steps (size t)
entered_steps ws now w t lo is none high low =
    let one = more_steps (size w.at_high) (size t) high in
    let two = more_steps (size lo) (size t) low in
    omega (arith, one, two, ap all_steps is, push_steps ws w, low_steps w none)

pub turned_steps : (ws old now : List Waiting) (w v : Waiting) → old ≡ ws ++ w ∷ [] → now ≡ ws ++ v ∷ []
    → w.has_low ≡ false → v.has_low ≡ true → all_steps now + most_steps (size w.at_high) < all_steps old + 1
turned_steps ws old now w v was is none some =
    omega (
      arith,
      ap all_steps was,
      ap all_steps is,
      push_steps ws w,
      push_steps ws v,
      low_steps w none,
      high_steps v some,
    )

pub joined_steps : (old now : List Waiting) (w : Waiting) → old ≡ now ++ w ∷ [] → w.has_low ≡ true
    → all_steps now + 1 < all_steps old + 1
joined_steps old now w was some = omega (arith, ap all_steps was, push_steps now w, high_steps w some)
