use Rattle.mw_debug.specs.Views.{moments_of}
use Rattle.mw_debug.proofs.Moments.{begun_is}
use Rattle.mw_debug.proofs.session.Session.begun.Goals as goal

pub returns-clause-kept : goal.returns-clause-kept
unfolding moments_of
returns-clause-kept c = rw (c.start.ensures, c.new.ensures.items, c.new-2.ensures.items, c.new-3.ensures.items)
    (begun_is c.args.board.now c.args.state c.requires)
