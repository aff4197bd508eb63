-- The words of a memory read are those of the word table.
use Rattle.std.proofs.Common.{◌≡◌, ℕ, List, [], ◌∷◌, ◌++◌, length, ap, sym, ◌∙◌}
use Rattle.mw_term.specs.declared.kinds.WordKind.TheVariants.{Base}
use Rattle.mw_term.specs.declared.word.Word.{Word}
use Rattle.mw_term.specs.MemoryRead.{Held, held}
use Rattle.mw_term.specs.Table.{Table}
use Rattle.mw_term.specs.WordList.{Ended, ended, kept_read, list_of, memory_read_words, over_reads, over_writes}
use Rattle.mw_term.specs.WordList.{with_same, with_variable}
use Rattle.mw_symmem.specs.Listed.{Lists, ListsAll}

pub read_listed : (width address base middle value : ℕ) (reads writes : List Held) (same : List ℕ)
    (t0 t1 t2 t3 t4 : Table) (w0 w1 w2 w3 w4 : List Word)
    → ListsAll (with_same address reads) t0 t1 w0 w1 same
    → Lists (with_variable (Base (length reads)) width) t1 t2 w1 w2 base
    → Lists (over_reads reads same base) t2 t3 w2 w3 middle
    → Lists (over_writes address writes middle) t3 t4 w3 w4 value
    → ended value (list_of t4.ops w4 (reads ++ held address base ∷ []))
    ≡ memory_read_words width address writes (list_of t0.ops w0 reads)
unfolding memory_read_words
read_listed width address base middle value reads writes same t0 t1 t2 t3 t4 w0 w1 w2 w3 w4 first second third fourth =
    let told = list_of t0.ops w0 reads in
    let variable = with_variable (Base (length reads)) width in
    let base_is : variable (with_same address reads told).list ≡ ended base (list_of t2.ops w2 reads) =
    ap variable (first reads).0 ∙ sym (second reads) in
    let older : over_reads reads same base (list_of t2.ops w2 reads) ≡ ended middle (list_of t3.ops w3 reads) =
    sym (third reads) in
    let newer : over_writes address writes middle (list_of t3.ops w3 reads) ≡ ended value (list_of t4.ops w4 reads) =
    sym (fourth reads) in
    let behind = λ (b : Ended). (λ (terms : List ℕ).
    (let o = over_reads reads terms b.term b.list in
    kept_read address b.term (over_writes address writes o.term o.list))) in
    let last = λ (o : Ended). kept_read address base (over_writes address writes o.term o.list) in
    sym (ap (λ b. behind b (with_same address reads told).terms) base_is
    ∙ ap (behind (ended base (list_of t2.ops w2 reads))) (first reads).1
    ∙ ap last older
    ∙ ap (kept_read address base) newer)
