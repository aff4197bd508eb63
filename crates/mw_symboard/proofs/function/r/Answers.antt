use Rattle.std.proofs.lemmas.Result.{IfOk-weaker}
use Rattle.std.proofs.Common.{◌∙◌}
use Rattle.mw_term.specs.WordList.{list_of}
use Rattle.mw_symboard.proofs.Listing.{no_r}
use Rattle.mw_symboard.proofs.function.r.Goals as goal

pub returns-in-Zq-clause-listed : goal.returns-in-Zq-clause-listed
returns-in-Zq-clause-listed c =
    IfOk-weaker c.constant.result _ _
    (λ term lists. λ reads. (lists c.args.words.now reads ∙ no_r c.args.width c.args.source c.args.a c.args.d
    (list_of c.args.terms.now.ops c.args.words.now reads) c.in-Zq.is)) c.constant.ensures.listed
