-- The words of statements, one after another.
use Rattle.std.proofs.Common.{◌≡◌, ℕ, suc, ◌+◌, ◌-◌, List, [], ◌∷◌, ◌++◌, ◌<◌, drop, length, take, ap, refl, sym, ◌∙◌}
use Rattle.std.proofs.Common.{arith}
use Rattle.std.specs.Prelude.{Bool, true, false, if◌then◌else◌, Option, Some, None, slice_index, slice_set}
use Rattle.mw_expr.specs.declared.shape.Shape.{Shape}
use Rattle.mw_expr.specs.Tree.{Tree}
use Rattle.mw_macro.specs.ExpressionWords.{expression_words}
use Rattle.mw_macro.specs.Statements.{Act, choose, Acts, nothing, next}
use Rattle.mw_macro.specs.StepWords.{Underway, underway, stopped, then_by, then_behind, act_words, acts_words}
use Rattle.mw_macro.specs.StepWords.{assign_words, put_words, take_words, write_words}
use Rattle.mw_term.specs.declared.event.SymEvent.TheVariants.{Out, Taken}
use Rattle.mw_term.specs.declared.word.Word.{Word}
use Rattle.mw_term.specs.MemoryRead.{Held, held}
use Rattle.mw_term.specs.Table.{Table}
use Rattle.mw_term.specs.WordList.{Ended, ended, with_input}
use Rattle.mw_term.specs.declared.side.Side.TheVariants.{Machine}
use Rattle.mw_symmem.specs.Listed.{list_in, Lists, ListsOver}
use Rattle.mw_symmem.specs.Memory.{Memory, with_write}
use Rattle.mw_symmach.specs.Expressions.{IsMade}
use Rattle.mw_symmach.specs.Places.{list_of, then_acts}
use Rattle.mw_symmach.specs.Steps.{Parts, Stands, parts_of}
use Rattle.mw_symmach.specs.Walks.{ActWalks, Walks, chosen, underway_in}
use Rattle.mw_symmach.proofs.Acting.{stands_shape, stands_after}
use Rattle.mw_symmach.proofs.AtIf.{then_assoc}
use Rattle.mw_symmach.proofs.Beside.{at_place}
use Rattle.mw_symmach.proofs.Listing.{words_over}

-- ---- one expression of a statement

-- the words of an expression are said over the machine's shape and its writes
pub said_over : (s : Shape) (t0 t1 : Table) (w0 w1 : List Word) (m0 m1 : Memory) (p : Parts) (e : Tree) (term : ℕ)
    → Stands s t0 w0 m0 p → ListsOver (words_over t0 m0 p.values Machine e) t0 t1 w0 w1 m0 m1 term
    → ended term (list_in t1 w1 m1) ≡ expression_words s p.values m0.machine e (list_in t0 w0 m0)
said_over s t0 t1 w0 w1 m0 m1 p e term stands listed =
    listed
    ∙ ap (λ shape. expression_words shape p.values m0.machine e (list_in t0 w0 m0)) (stands_shape s t0 w0 m0 p stands)

pub assign_listed : (s : Shape) (t0 t1 : Table) (w0 w1 : List Word) (m0 m1 : Memory) (p : Parts) (target : ℕ) (e : Tree)
    (term : ℕ) → Stands s t0 w0 m0 p → IsMade t0 t1 w0 w1 m0 m1 p.values Machine e term
    → ListsOver (words_over t0 m0 p.values Machine e) t0 t1 w0 w1 m0 m1 term
    → underway_in t1 w1 m1 (parts_of (slice_set p.values target term) p.events p.taken)
    ≡ assign_words s target e (underway_in t0 w0 m0 p)
assign_listed s t0 t1 w0 w1 m0 m1 p target e term stands made listed =
    ap (λ writes. underway (list_in t1 w1 m1) (slice_set p.values target term) writes p.events p.taken)
    (made.runs.writes.each Machine)
    ∙ ap (λ (x : Ended). underway x.list (slice_set p.values target x.term) m0.machine p.events p.taken)
    (said_over s t0 t1 w0 w1 m0 m1 p e term stands listed)

pub put_listed : (s : Shape) (t0 t1 : Table) (w0 w1 : List Word) (m0 m1 : Memory) (p : Parts) (e : Tree) (term : ℕ)
    → Stands s t0 w0 m0 p → IsMade t0 t1 w0 w1 m0 m1 p.values Machine e term
    → ListsOver (words_over t0 m0 p.values Machine e) t0 t1 w0 w1 m0 m1 term
    → underway_in t1 w1 m1 (parts_of p.values (p.events ++ Out term ∷ []) p.taken)
    ≡ put_words s e (underway_in t0 w0 m0 p)
put_listed s t0 t1 w0 w1 m0 m1 p e term stands made listed =
    ap (λ writes. underway (list_in t1 w1 m1) p.values writes (p.events ++ Out term ∷ []) p.taken)
    (made.runs.writes.each Machine)
    ∙ ap (λ (x : Ended). underway x.list p.values m0.machine (p.events ++ Out x.term ∷ []) p.taken)
    (said_over s t0 t1 w0 w1 m0 m1 p e term stands listed)

pub write_listed : (s : Shape) (t0 t1 t2 : Table) (w0 w1 w2 : List Word) (m0 m1 m2 : Memory) (p : Parts) (a e : Tree)
    (place term : ℕ) → Stands s t0 w0 m0 p → IsMade t0 t1 w0 w1 m0 m1 p.values Machine a place
    → IsMade t1 t2 w1 w2 m1 m2 p.values Machine e term
    → ListsOver (words_over t0 m0 p.values Machine a) t0 t1 w0 w1 m0 m1 place
    → ListsOver (words_over t1 m1 p.values Machine e) t1 t2 w1 w2 m1 m2 term
    → underway_in t2 w2 (with_write m2 Machine (held place term)) p ≡ write_words s a e (underway_in t0 w0 m0 p)
write_listed s t0 t1 t2 w0 w1 w2 m0 m1 m2 p a e place term stands first second one other =
    let middle = stands_after s t0 t1 w0 w1 m0 m1 p a place stands first in
    let before = first.runs.writes.each Machine in
    let say = λ (writes : List Held). (λ (x : Ended). expression_words s p.values writes e x.list) in
    let behind = λ (place' : ℕ). (λ (x : Ended).
    underway x.list p.values (m0.machine ++ held place' x.term ∷ []) p.events p.taken) in
    ap (λ writes. underway (list_in t2 w2 m2) p.values (writes ++ held place term ∷ []) p.events p.taken)
    (second.runs.writes.each Machine ∙ before)
    ∙ ap (behind place)
    (said_over s t1 t2 w1 w2 m1 m2 p e term middle other
    ∙ ap (λ writes. say writes (ended place (list_in t1 w1 m1))) before)
    ∙ ap (λ (x : Ended). behind x.term (say m0.machine x)) (said_over s t0 t1 w0 w1 m0 m1 p a place stands one)

pub take_listed : (s : Shape) (t0 t1 : Table) (w0 w1 : List Word) (m : Memory) (p : Parts) (target term : ℕ)
    → Lists (with_input p.taken s.word) t0 t1 w0 w1 term
    → underway_in t1 w1 m
    (parts_of (slice_set p.values target term) (p.events ++ Taken term ∷ []) (p.taken + 1))
    ≡ take_words s target (underway_in t0 w0 m p)
take_listed s t0 t1 w0 w1 m p target term listed =
    ap (λ (x : Ended).
    underway x.list (slice_set p.values target x.term) m.machine (p.events ++ Taken x.term ∷ []) (p.taken + 1))
    (listed m.reads)

pub condition_walks : (s : Shape) (t0 t1 : Table) (w0 w1 : List Word) (m0 m1 : Memory) (p : Parts) (e : Tree)
    (one other : Acts) (term : ℕ)
    → Stands s t0 w0 m0 p → IsMade t0 t1 w0 w1 m0 m1 p.values Machine e term
    → ListsOver (words_over t0 m0 p.values Machine e) t0 t1 w0 w1 m0 m1 term
    → ActWalks s (underway_in t0 w0 m0 p) (underway_in t1 w1 m1 p) (choose e one other) (Some term)
condition_walks s t0 t1 w0 w1 m0 m1 p e one other term stands made listed =
    let said = sym (said_over s t0 t1 w0 w1 m0 m1 p e term stands listed) in
    let writes = sym (made.runs.writes.each Machine) in
    let behind = λ (ws : List Held). (λ (x : Ended). underway x.list p.values ws p.events p.taken) in
    let here : behind m0.machine (expression_words s p.values m0.machine e (list_in t0 w0 m0))
    ≡ underway_in t1 w1 m1 p =
    ap (behind m0.machine) said ∙ ap (λ ws. behind ws (ended term (list_in t1 w1 m1))) writes in (
      ap (λ (x : Ended). stopped x.term (behind m0.machine x)) said
          ∙ ap (λ ws. stopped term (behind ws (ended term (list_in t1 w1 m1)))) writes,
      λ bit bits. chosen_list s e one other bit bits _ _ here,
    )
  where
    chosen_list : (s : Shape) (e : Tree) (one other : Acts) (bit : Bool) (bits : List Bool) (u v : Underway) → u ≡ v
        → (if bit then acts_words s one bits u else acts_words s other bits u)
        ≡ acts_words s (list_of bit (choose e one other)) bits v
    chosen_list s e one other true bits u v is = ap (acts_words s one bits) is
    chosen_list s e one other false bits u v is = ap (acts_words s other bits) is

-- ---- acts behind others

then_twice : (s : Shape) (rest others : Acts)
    → ((bits : List Bool) (u : Underway)
    → acts_words s (then_acts rest others) bits u ≡ then_behind (acts_words s rest bits u) (acts_words s others))
    → (o : Option ℕ) (bits : List Bool) (u : Underway)
    → then_by o bits u (acts_words s (then_acts rest others))
    ≡ then_behind (then_by o bits u (acts_words s rest)) (acts_words s others)
then_twice s rest others so None bits u = so bits u
then_twice s rest others so (Some term) bits u = refl

pub then_words : (s : Shape) (acts others : Acts) (bits : List Bool) (u : Underway)
    → acts_words s (then_acts acts others) bits u ≡ then_behind (acts_words s acts bits u) (acts_words s others)
then_words s nothing others bits u = refl
then_words s (next act rest) others bits u =
    let first = act_words s act bits u in
    then_twice s rest others (then_words s rest others) first.asked first.bits first.to

-- one act, and those behind it
pub act_done : (s : Shape) (old new : Underway) (act : Act) (rest : Acts) → ActWalks s old new act None
    → Walks s old new (next act rest) rest None
act_done s old new act rest walks bits = ap (λ c. then_behind c (acts_words s rest)) (walks bits)

pub act_asks : (s : Shape) (old new : Underway) (act : Act) (rest : Acts) (term : ℕ)
    → ActWalks s old new act (Some term) → Walks s old new (next act rest) (next act rest) (Some term)
act_asks s old new act rest term walks = (
  ap (λ c. then_behind c (acts_words s rest)) walks.0,
  λ bit bits. ap (λ c. then_behind c (acts_words s rest)) (walks.1 bit bits)
      ∙ sym (then_words s (list_of bit act) rest bits new),
)

-- some acts, and then others
pub walks_then : (s : Shape) (u0 u1 u2 : Underway) (lold middle lnew : Acts) (asked : Option ℕ)
    → Walks s u0 u1 lold middle None → Walks s u1 u2 middle lnew asked → Walks s u0 u2 lold lnew asked
walks_then s u0 u1 u2 lold middle lnew None first second = λ bits. first bits ∙ second bits
walks_then s u0 u1 u2 lold middle lnew (Some term) first second =
    (first [] ∙ second.0, λ bit bits. first (bit ∷ bits) ∙ second.1 bit bits)

-- where the acts of a list are done, what is behind their `if` is left
pub walks_out : (s : Shape) (u0 u1 : Underway) (lold lnew behind : Acts) → Walks s u0 u1 lold lnew None → lnew ≡ nothing
    → Walks s u0 u1 (then_acts lold behind) behind None
walks_out s u0 u1 lold lnew behind walks is bits =
    then_words s lold behind bits u0
    ∙ ap (λ c. then_behind c (acts_words s behind)) (walks bits ∙ ap (λ acts. acts_words s acts bits u1) is)

-- where a list asks for a bit, what is behind its `if` is left too
pub walks_within : (s : Shape) (u0 u1 : Underway) (lold lnew behind : Acts) (act : Act) (rest : Acts) (term : ℕ)
    → lnew ≡ next act rest → Walks s u0 u1 lold lnew (Some term)
    → Walks s u0 u1 (then_acts lold behind) (then_acts lnew behind) (Some term)
walks_within s u0 u1 lold lnew behind act rest term is walks = (
  then_words s lold behind [] u0 ∙ ap (λ c. then_behind c (acts_words s behind)) walks.0,
  λ bit bits. then_words s lold behind (bit ∷ bits) u0
      ∙ ap (λ c. then_behind c (acts_words s behind)) (walks.1 bit bits)
      ∙ sym (then_words s (chosen bit lnew) behind bits u1)
      ∙ ap (λ acts. acts_words s acts bits u1) (then_chosen bit),
)
  where
    then_chosen : (bit : Bool) → then_acts (chosen bit lnew) behind ≡ chosen bit (then_acts lnew behind)
    then_chosen bit = rw is (then_assoc (list_of bit act) rest behind)

-- ---- the temporaries

-- the widths of the elements from one on up to a number begin with that of the first of them
pub first_width : (widths : List ℕ) (i n : ℕ) → i < n → i < length widths
    → take (n - i) (drop i widths) ≡ slice_index widths i ∷ take (n - (i + 1)) (drop (i + 1) widths)
first_width widths i n below inside =
    let one_more : n - i ≡ suc (n - (i + 1)) = omega arith in
    rw (one_more, at_place widths i inside) refl
