use Rattle.std.proofs.Common.{◌≡◌, ◌^◌, ◌==◌, nat_lt, length, sym, ap, ◌∙◌}
use Rattle.std.specs.List.{list_all}
use Rattle.mw_board.specs.declared.parts.BoardParts.{BoardParts}
use Rattle.mw_expr.specs.declared.shape.Shape.{Shape}
use Rattle.mw_rel.specs.Views.{job_of}
use Rattle.mw_rel.proofs.Choice.{image_if}
use Rattle.mw_rel.proofs.Standing.{board_address}
use Rattle.mw_rel.proofs.begin.is_image.Goals as goal

pub returns : goal.returns
returns c =
    let job = job_of c.args.job.now in
    let address : c.parts.result.now.address ≡ job.relation.shape.address =
    ap (λ (p : BoardParts). p.address) c.parts.ensures.exact ∙ sym (board_address job c.args.job.now.is_job) in
    image_if job.relation.shape c.args.memory.now c.is_two_to-sized.result c.have_bits-words.result
    (c.is_two_to-sized.ensures ∙ ap (λ b. length c.args.memory.now == 2 ^ b) address)
    (c.have_bits-words.ensures
    ∙ ap (λ (s : Shape). list_all (λ n. nat_lt n (2 ^ s.word)) c.args.memory.now) c.shape-shape.ensures)
