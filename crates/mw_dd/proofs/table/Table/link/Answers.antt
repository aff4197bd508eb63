use Rattle.std.proofs.Common.{◌≡◌, ◌∙◌, ap, ap₂, arith, length, ◌<◌, ℕ, get_or}
use Rattle.std.specs.Prelude.{slice_index}
use Rattle.std.proofs.lemmas.List.{get_or_default}
use Rattle.mw_dd.specs.Links.{bucket_of}
use Rattle.mw_dd.proofs.Links.{linked-push}
use Rattle.mw_dd.proofs.table.Table.link.Goals as goal

pub invariant_of-self-2 : goal.invariant_of-self-2
invariant_of-self-2 g c =
    let entries = c.self.inside.entries.items in
    let heads = c.self.inside.heads.items in
    let place : c.len-place.result ≡ length entries = c.len-place.ensures ∙ c.self.inside.entries.ok.0 in
    let count : c.len-2.result ≡ length heads = c.len-2.ensures ∙ c.self.inside.heads.ok.0 in
    let own : c.bucket-bucket.result ≡ bucket_of (g.K.Key.hash_of c.args.key) (length heads) =
    c.bucket-bucket.ensures.exact ∙ ap₂ bucket_of c.hash.ensures count in
    let below : bucket_of (g.K.Key.hash_of c.args.key) (length heads) < length heads =
    rw (own, count) at c.bucket-bucket.ensures.below in
    let head : c.index-head.result.now ≡ slice_index heads (bucket_of (g.K.Key.hash_of c.args.key) (length heads)) =
    c.index-head.ensures ∙ ap (λ (b : ℕ). get_or heads b c.index-head.result.now) own
    ∙ get_or_default heads _ c.index-head.result.now 0 below in
    rw (c.in_ok-push.ensures.items, place, own)
    (linked-push g.K.Key.hash_of entries heads _ c.self.invariant below
    (omega (arith, c.if-len-ge-MOST.false, c.len.ensures, c.self.inside.entries.ok.0))
    (rw place at c.earlier-next.ensures.earlier)
    (λ less. c.earlier-next.ensures.same (rw (head, place) less) ∙ head))
