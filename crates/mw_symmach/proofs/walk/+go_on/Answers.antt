use Rattle.std.specs.Prelude.{Some}
use Rattle.std.proofs.Common.{◌≡◌, suc, ◌+◌, ◌∷◌, [], drop, take, take-take, arith, sym, ap, ◌∙◌, add-one, drop-cons}
use Rattle.mw_macro.specs.declared.counts.Counted.TheVariants.{Reads, Events}
use Rattle.mw_macro.specs.Statements.{acts}
use Rattle.mw_symmach.specs.Places.{dropped, list_at, left_of, then_acts}
use Rattle.mw_symmach.proofs.AtIf.{stops_here, stops_within}
use Rattle.mw_symmach.proofs.Carrying.{within_few, right_list, right_dropped, reaches_out, out_then, carries_out}
use Rattle.mw_symmach.proofs.Carrying.{front_at, front_before, none_behind, past_end}
use Rattle.mw_symmach.proofs.Walking.{walks_out, walks_then, walks_within}
use Rattle.mw_symmach.proofs.walk.+go_on.Goals as goal

pub go_on-requires : goal.go_on-requires
go_on-requires t c =
    let all = acts c.args.statements.now in
    let old = c.args.levels.now.items in
    let i = c.args.level in
    let within = c.index-within.result.now in
    let s = c.args.shape.now in
    let here : drop i old ≡ within ∷ drop (i + 1) old =
    rw add-one (drop-cons old i within (omega (arith, c.len.ensures))
    ∙ ap (λ x. x ∷ drop (suc i) old) (sym c.index-within.ensures)) in
    let few_reads = rw here at c.requires.few_reads in
    let few_events = rw here at c.requires.few_events in
    let reads_in = within_few Reads all within (drop (i + 1) old) c.args.position in
    let events_in = within_few Events all within (drop (i + 1) old) c.args.position in (
      omega (arith, c.len.ensures),
      (
        c.requires.stands,
        (
          rw c.list-list.ensures (right_list s within.first (dropped within.position all)
              (right_dropped s within.position all c.requires.right)),
          (
            rw c.list-list.ensures (omega (arith, few_reads, reads_in)),
            rw c.list-list.ensures (omega (arith, few_events, events_in)),
          ),
        ),
      ),
    )

pub returns-in-Some-clause-reaches : goal.returns-in-Some-clause-reaches
returns-in-Some-clause-reaches t c =
    let all = acts c.args.statements.now in
    let old = c.args.levels.now.items in
    let i = c.args.level in
    let within = c.index-within.result.now in
    let s = c.args.shape.now in
    let here : drop i old ≡ within ∷ drop (i + 1) old =
    rw add-one (drop-cons old i within (omega (arith, c.len.ensures))
    ∙ ap (λ x. x ∷ drop (suc i) old) (sym c.index-within.ensures)) in
    let few_reads = rw here at c.requires.few_reads in
    let few_events = rw here at c.requires.few_events in
    let new = c.go_on.new.levels.items in
    let front = c.in_ok-inner.ensures.front in
    let reaches = rw (c.list-list.ensures, c.in-Some.is) at c.in_ok-inner.ensures.reaches in
    rw (here, front_at i new old within front here)
    (reaches_out s c.args.terms.now c.go_on.new.terms c.args.words.now c.go_on.new.words c.args.memory.now
    c.go_on.new.memory c.args.parts.now c.go_on.new.parts all within (drop (i + 1) old)
    (drop (i + 1) new) c.args.position c.in_ok-inner.inner.position c.in-Some.term reaches)

pub returns-in-Some-clause-front : goal.returns-in-Some-clause-front
returns-in-Some-clause-front t c =
    front_before c.args.level c.go_on.new.levels.items c.args.levels.now.items c.in_ok-inner.ensures.front

pub go_through-requires-2-clause-few_reads : goal.go_through-requires-2-clause-few_reads
go_through-requires-2-clause-few_reads t c =
    let all = acts c.args.statements.now in
    let old = c.args.levels.now.items in
    let i = c.args.level in
    let within = c.index-within.result.now in
    let s = c.args.shape.now in
    let here : drop i old ≡ within ∷ drop (i + 1) old =
    rw add-one (drop-cons old i within (omega (arith, c.len.ensures))
    ∙ ap (λ x. x ∷ drop (suc i) old) (sym c.index-within.ensures)) in
    let few_reads = rw here at c.requires.few_reads in
    let few_events = rw here at c.requires.few_events in
    let new = c.go_on.new.levels.items in
    let front = c.in_ok-inner.ensures.front in
    let reaches = rw (c.list-list.ensures, c.in_default.is) at c.in_ok-inner.ensures.reaches in
    let last =
    left_of (list_at within.first (dropped within.position all)) (drop (i + 1) new) c.in_ok-inner.inner.position in
    let out = carries_out s c.args.terms.now c.go_on.new.terms c.args.words.now c.go_on.new.words c.args.memory.now
    c.go_on.new.memory c.args.parts.now c.go_on.new.parts
    (left_of (list_at within.first (dropped within.position all)) (drop (i + 1) old) c.args.position) last
    (dropped (within.position + 1) all) reaches in
    omega (arith, out.few_reads, few_reads)

pub go_through-requires-2-clause-few_events : goal.go_through-requires-2-clause-few_events
go_through-requires-2-clause-few_events t c =
    let all = acts c.args.statements.now in
    let old = c.args.levels.now.items in
    let i = c.args.level in
    let within = c.index-within.result.now in
    let s = c.args.shape.now in
    let here : drop i old ≡ within ∷ drop (i + 1) old =
    rw add-one (drop-cons old i within (omega (arith, c.len.ensures))
    ∙ ap (λ x. x ∷ drop (suc i) old) (sym c.index-within.ensures)) in
    let few_reads = rw here at c.requires.few_reads in
    let few_events = rw here at c.requires.few_events in
    let new = c.go_on.new.levels.items in
    let front = c.in_ok-inner.ensures.front in
    let reaches = rw (c.list-list.ensures, c.in_default.is) at c.in_ok-inner.ensures.reaches in
    let last =
    left_of (list_at within.first (dropped within.position all)) (drop (i + 1) new) c.in_ok-inner.inner.position in
    let out = carries_out s c.args.terms.now c.go_on.new.terms c.args.words.now c.go_on.new.words c.args.memory.now
    c.go_on.new.memory c.args.parts.now c.go_on.new.parts
    (left_of (list_at within.first (dropped within.position all)) (drop (i + 1) old) c.args.position) last
    (dropped (within.position + 1) all) reaches in
    omega (arith, out.few_events, few_events)

pub returns-clause-reaches : goal.returns-clause-reaches
returns-clause-reaches t c =
    let all = acts c.args.statements.now in
    let old = c.args.levels.now.items in
    let i = c.args.level in
    let within = c.index-within.result.now in
    let s = c.args.shape.now in
    let here : drop i old ≡ within ∷ drop (i + 1) old =
    rw add-one (drop-cons old i within (omega (arith, c.len.ensures))
    ∙ ap (λ x. x ∷ drop (suc i) old) (sym c.index-within.ensures)) in
    let few_reads = rw here at c.requires.few_reads in
    let few_events = rw here at c.requires.few_events in
    let new = c.go_on.new.levels.items in
    let front = c.in_ok-inner.ensures.front in
    let reaches = rw (c.list-list.ensures, c.in_default.is) at c.in_ok-inner.ensures.reaches in
    let last =
    left_of (list_at within.first (dropped within.position all)) (drop (i + 1) new) c.in_ok-inner.inner.position in
    let none : drop i c.truncate.new.self.items ≡ [] = ap (drop i) c.truncate.ensures.items ∙ none_behind i new in
    rw (here, none) (out_then s c.args.terms.now c.go_on.new.terms c.go_through-2.new.terms c.args.words.now
    c.go_on.new.words c.go_through-2.new.words c.args.memory.now c.go_on.new.memory c.go_through-2.new.memory
    c.args.parts.now c.go_on.new.parts c.go_through-2.new.self all within (drop (i + 1) old) c.args.position
    c.in_ok-reached-2.reached.position last c.in_ok-reached-2.reached.asked reaches c.in_ok-reached-2.ensures.reaches)

pub returns-clause-front : goal.returns-clause-front
returns-clause-front t c =
    let new = c.go_on.new.levels.items in
    let i = c.args.level in
    ap (take i) c.truncate.ensures.items ∙ take-take i i new (omega arith)
    ∙ front_before i new c.args.levels.now.items c.in_ok-inner.ensures.front

pub returns-then-level-len-clause-stops : goal.returns-then-level-len-clause-stops
returns-then-level-len-clause-stops t c =
    let all = acts c.args.statements.now in
    let none : drop c.args.level c.args.levels.now.items ≡ [] =
    past_end c.args.level c.args.levels.now.items (omega (arith, c.len.ensures)) in
    rw none (stops_here c.args.shape.now c.args.terms.now c.go_through.new.terms c.args.words.now c.go_through.new.words
    c.args.memory.now c.go_through.new.memory c.args.parts.now c.go_through.new.self (dropped c.args.position all) all
    c.in_ok-reached.reached.position c.in_ok-reached.reached.asked c.in_ok-reached.ensures.reaches)

pub returns-in-Some-clause-stops : goal.returns-in-Some-clause-stops
returns-in-Some-clause-stops t c =
    let all = acts c.args.statements.now in
    let old = c.args.levels.now.items in
    let i = c.args.level in
    let within = c.index-within.result.now in
    let here : drop i old ≡ within ∷ drop (i + 1) old =
    rw add-one (drop-cons old i within (omega (arith, c.len.ensures))
    ∙ ap (λ x. x ∷ drop (suc i) old) (sym c.index-within.ensures)) in
    let new = c.go_on.new.levels.items in
    let stops = rw (c.list-list.ensures, c.in-Some.is) at c.in_ok-inner.ensures.stops in
    rw (front_at i new old within c.in_ok-inner.ensures.front here)
    (stops_within all within (drop (i + 1) new) c.in_ok-inner.inner.position (Some c.in-Some.term) stops)

pub returns-clause-stops : goal.returns-clause-stops
returns-clause-stops t c =
    let all = acts c.args.statements.now in
    let new = c.go_on.new.levels.items in
    let i = c.args.level in
    let none : drop i c.truncate.new.self.items ≡ [] = ap (drop i) c.truncate.ensures.items ∙ none_behind i new in
    rw none (stops_here c.args.shape.now c.go_on.new.terms c.go_through-2.new.terms c.go_on.new.words
    c.go_through-2.new.words c.go_on.new.memory c.go_through-2.new.memory c.go_on.new.parts c.go_through-2.new.self
    (dropped (c.index-within.result.now.position + 1) all) all
    c.in_ok-reached-2.reached.position c.in_ok-reached-2.reached.asked c.in_ok-reached-2.ensures.reaches)

pub returns-in-Some-clause-listed : goal.returns-in-Some-clause-listed
returns-in-Some-clause-listed t c =
    let all = acts c.args.statements.now in
    let old = c.args.levels.now.items in
    let i = c.args.level in
    let within = c.index-within.result.now in
    let s = c.args.shape.now in
    let here : drop i old ≡ within ∷ drop (i + 1) old =
    rw add-one (drop-cons old i within (omega (arith, c.len.ensures))
    ∙ ap (λ x. x ∷ drop (suc i) old) (sym c.index-within.ensures)) in
    let new = c.go_on.new.levels.items in
    let front = c.in_ok-inner.ensures.front in
    let inner = list_at within.first (dropped within.position all) in
    let behind = dropped (within.position + 1) all in
    let reaches = rw (c.list-list.ensures, c.in-Some.is) at c.in_ok-inner.ensures.reaches in
    let walks = rw (c.list-list.ensures, c.in-Some.is) at c.in_ok-inner.ensures.listed in
    rw (here, front_at i new old within front here)
    (walks_within s _ _ (left_of inner (drop (i + 1) old) c.args.position)
    (left_of inner (drop (i + 1) new) c.in_ok-inner.inner.position) behind _ _ c.in-Some.term reaches.1.is walks)

pub returns-clause-listed : goal.returns-clause-listed
returns-clause-listed t c =
    let all = acts c.args.statements.now in
    let old = c.args.levels.now.items in
    let i = c.args.level in
    let within = c.index-within.result.now in
    let s = c.args.shape.now in
    let here : drop i old ≡ within ∷ drop (i + 1) old =
    rw add-one (drop-cons old i within (omega (arith, c.len.ensures))
    ∙ ap (λ x. x ∷ drop (suc i) old) (sym c.index-within.ensures)) in
    let new = c.go_on.new.levels.items in
    let front = c.in_ok-inner.ensures.front in
    let inner = list_at within.first (dropped within.position all) in
    let behind = dropped (within.position + 1) all in
    let reaches = rw (c.list-list.ensures, c.in_default.is) at c.in_ok-inner.ensures.reaches in
    let walks = rw (c.list-list.ensures, c.in_default.is) at c.in_ok-inner.ensures.listed in
    let none : drop i c.truncate.new.self.items ≡ [] = ap (drop i) c.truncate.ensures.items ∙ none_behind i new in
    rw (here, none)
    (walks_then s _ _ _ (then_acts (left_of inner (drop (i + 1) old) c.args.position) behind) behind
    (dropped c.in_ok-reached-2.reached.position all) c.in_ok-reached-2.reached.asked
    (walks_out s _ _ (left_of inner (drop (i + 1) old) c.args.position)
    (left_of inner (drop (i + 1) new) c.in_ok-inner.inner.position) behind walks reaches.1)
    c.in_ok-reached-2.ensures.listed)

pub returns-then-level-len-clause-listed : goal.returns-then-level-len-clause-listed
returns-then-level-len-clause-listed t c =
    let none : drop c.args.level c.args.levels.now.items ≡ [] =
    past_end c.args.level c.args.levels.now.items (omega (arith, c.len.ensures)) in
    rw none c.in_ok-reached.ensures.listed
