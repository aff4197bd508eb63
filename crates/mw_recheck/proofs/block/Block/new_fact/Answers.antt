use Rattle.std.proofs.Common.{arith}
use Rattle.mw_recheck.specs.Facts.{triple}
use Rattle.mw_recheck.proofs.Blocks.{there_few}
use Rattle.mw_recheck.proofs.block.Block.new_fact.Goals as goal

pub overflow_cast-triple : goal.overflow_cast-triple
overflow_cast-triple c =
    let nodes = c.self.inside.nodes in
    let entry = c.args.entry in
    let all = there_few c.deref.result.now nodes.items (triple entry.f entry.g entry.h) entry.r c.are_there.result
    (omega (arith, nodes.ok.0, nodes.ok.1, nodes.small)) c.deref.ensures.value c.are_there.ensures
    c.if-not-are_there.false in
    omega (arith, all.0)

pub overflow_cast-triple-2 : goal.overflow_cast-triple-2
overflow_cast-triple-2 c =
    let nodes = c.self.inside.nodes in
    let entry = c.args.entry in
    let all = there_few c.deref.result.now nodes.items (triple entry.f entry.g entry.h) entry.r c.are_there.result
    (omega (arith, nodes.ok.0, nodes.ok.1, nodes.small)) c.deref.ensures.value c.are_there.ensures
    c.if-not-are_there.false in
    omega (arith, all.1)

pub overflow_cast-triple-3 : goal.overflow_cast-triple-3
overflow_cast-triple-3 c =
    let nodes = c.self.inside.nodes in
    let entry = c.args.entry in
    let all = there_few c.deref.result.now nodes.items (triple entry.f entry.g entry.h) entry.r c.are_there.result
    (omega (arith, nodes.ok.0, nodes.ok.1, nodes.small)) c.deref.ensures.value c.are_there.ensures
    c.if-not-are_there.false in
    omega (arith, all.2)

pub overflow_cast-r : goal.overflow_cast-r
overflow_cast-r c =
    let nodes = c.self.inside.nodes in
    let entry = c.args.entry in
    let all = there_few c.deref.result.now nodes.items (triple entry.f entry.g entry.h) entry.r c.are_there.result
    (omega (arith, nodes.ok.0, nodes.ok.1, nodes.small)) c.deref.ensures.value c.are_there.ensures
    c.if-not-are_there.false in
    omega (arith, all.3)
