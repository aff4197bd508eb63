use Rattle.mw_symboard.proofs.Growing.{grew_then}
use Rattle.mw_symboard.proofs.Standing.{addend_r_stays}
use Rattle.mw_symboard.proofs.reading.addends.Goals as goal

pub returns-clause-first : goal.returns-clause-first
returns-clause-first c =
    addend_r_stays c.addend_r.new.terms c.addend_s.new.terms c.args.function c.args.operands.0 c.in_ok-first.first
    c.in_ok-second.ensures.grew.1.extends c.in_ok-first.ensures.is

pub returns-clause-grew : goal.returns-clause-grew
returns-clause-grew c =
    grew_then c.args.terms.now c.addend_r.new.terms c.addend_s.new.terms c.args.words.now c.addend_r.new.words
    c.addend_s.new.words c.in_ok-first.ensures.grew c.in_ok-second.ensures.grew
