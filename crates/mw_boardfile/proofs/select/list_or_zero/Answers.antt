use Rattle.mw_boardfile.proofs.select.list_or_zero.Goals as goal

pub returns-in-Some-clause-exact : goal.returns-in-Some-clause-exact
returns-in-Some-clause-exact g c = λ reader reads. rw c.in-Some.is (c.given_list.ensures.exact reader reads)

pub returns-in-None-clause-exact : goal.returns-in-None-clause-exact
returns-in-None-clause-exact g c = λ reader reads. rw c.in-None.is c.zero_list.ensures.exact

pub returns-in-Some-clause-kept : goal.returns-in-Some-clause-kept
returns-in-Some-clause-kept g c = λ rule keeps zero. c.given_list.ensures.kept rule keeps

pub returns-in-None-clause-kept : goal.returns-in-None-clause-kept
returns-in-None-clause-kept g c = λ rule keeps zero. c.zero_list.ensures.kept rule zero
