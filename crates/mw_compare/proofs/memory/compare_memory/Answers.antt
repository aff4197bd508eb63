use Rattle.std.proofs.Common.{refl, sym, ◌∙◌}
use Rattle.std.proofs.lemmas.Result.{on_ok_weaker}
use Rattle.mw_rel.specs.ComparisonWords.{memory, with_memory}
use Rattle.mw_term.specs.declared.side.Side.TheVariants as sides
use Rattle.mw_symmem.proofs.Later.{width_later}
use Rattle.mw_space.specs.declared.space.Space.{Space}
use Rattle.mw_compare.specs.Comparing.{GoesComparing}
use Rattle.mw_path.specs.Paths.{path_in}
use Rattle.mw_compare.proofs.ComparingOn.{compares_later, comparing_paths, comparing_then}
use Rattle.mw_compare.proofs.MemoryCompared.{HasProbe, HasRead, memory_ends, one_at_probe, probe_made, two_in_memory}
use Rattle.mw_compare.proofs.memory.compare_memory.Given.{Over}
use Rattle.mw_compare.proofs.memory.compare_memory.Goals as goal

pub read_at-requires-clause-workspace : goal.read_at-requires-clause-workspace
read_at-requires-clause-workspace g c =
    let e = c.in_ok-probe.ensures in
    (probe_made c.args.space.now
    (record { terms = c.fresh.new.terms; words = c.fresh.new.self; memory = c.args.space.now.memory }) _ _
    c.in_ok-probe.probe refl c.requires.workspace e.words e.made e.listed e.of e.extends e.keeps
    e.table).goes.goes.workspace

pub read_at-requires-clause-probe : goal.read_at-requires-clause-probe
read_at-requires-clause-probe g c =
    let e = c.in_ok-probe.ensures in
    let wide = (probe_made c.args.space.now
    (record { terms = c.fresh.new.terms; words = c.fresh.new.self; memory = c.args.space.now.memory }) _ _
    c.in_ok-probe.probe refl c.requires.workspace e.words e.made e.listed e.of e.extends e.keeps e.table).wide in
    record {
      there = wide.there;
      width_is = wide.width_is ∙ sym c.requires.address;
    }

pub read_at-requires-2-clause-probe : goal.read_at-requires-2-clause-probe
read_at-requires-2-clause-probe g c =
    let e = c.in_ok-probe.ensures in
    let has = probe_made c.args.space.now
    (record { terms = c.fresh.new.terms; words = c.fresh.new.self; memory = c.args.space.now.memory }) _ _
    c.in_ok-probe.probe refl c.requires.workspace e.words e.made e.listed e.of e.extends e.keeps e.table in
    let board = c.in_ok-board.ensures.goes.goes in
    let later = width_later _ c.read_at.new.space.terms _ c.in_ok-probe.probe board.later has.wide in
    record {
      there = later.there;
      width_is = later.width_is ∙ sym c.requires.address ∙ sym board.reads.address;
    }

abbrev first_space : (g : Over) (c : goal.After-apart g) → Space
first_space g c = record { terms = c.fresh.new.terms; words = c.fresh.new.self; memory = c.args.space.now.memory }

probed : (g : Over) (c : goal.After-apart g)
    → HasProbe c.args.space.now (first_space g c) c.args.address c.in_ok-probe.probe
probed g c =
    let e = c.in_ok-probe.ensures in
    probe_made c.args.space.now (first_space g c) c.args.address _ c.in_ok-probe.probe refl
    c.requires.workspace e.words e.made e.listed e.of e.extends e.keeps e.table

board_read : (g : Over) (c : goal.After-apart g)
    → HasRead (first_space g c) c.read_at.new.space sides.Board c.in_ok-probe.probe c.in_ok-board.board
board_read g c =
    let e = c.in_ok-board.ensures in
    record { goes = e.goes; there = e.wide.there; means = e.means; listed = e.listed }

machine_read : (g : Over) (c : goal.After-apart g)
    → HasRead c.read_at.new.space c.read_at-2.new.space sides.Machine c.in_ok-probe.probe c.in_ok-machine.machine
machine_read g c =
    let e = c.in_ok-machine.ensures in
    record { goes = e.goes; there = e.wide.there; means = e.means; listed = e.listed }

to_apart : (g : Over) (c : goal.After-apart g) → GoesComparing c.args.space.now c.read_at-2.new.space
to_apart g c =
    comparing_then c.args.space.now c.read_at.new.space c.read_at-2.new.space
    (comparing_then c.args.space.now (first_space g c) c.read_at.new.space (probed g c).goes (board_read g c).goes)
    (machine_read g c).goes

pub apart-requires-clause-paths : goal.apart-requires-clause-paths
apart-requires-clause-paths g c =
    let e = c.in_ok-probe.ensures in
    let s1 : Space = record { terms = c.fresh.new.terms; words = c.fresh.new.self; memory = c.args.space.now.memory } in
    let has =
    probe_made c.args.space.now s1 _ _ c.in_ok-probe.probe refl c.requires.workspace e.words e.made e.listed
    e.of e.extends e.keeps e.table in
    comparing_paths c.read_at.new.space c.read_at-2.new.space c.args.paths.now c.in_ok-machine.ensures.goes
    (comparing_paths s1 c.read_at.new.space c.args.paths.now c.in_ok-board.ensures.goes
    (comparing_paths c.args.space.now s1 c.args.paths.now has.goes c.requires.paths))

pub returns-clause-goes : goal.returns-clause-goes
returns-clause-goes g c =
    on_ok_weaker c.apart.result (comparing_then c.args.space.now c.read_at-2.new.space c.apart.new.space (to_apart g c))
    c.apart.ensures.goes

pub returns-clause-compared : goal.returns-clause-compared
returns-clause-compared g c = λ s sides address word on.
    compares_later c.args.nodes c.args.space.now c.read_at-2.new.space c.apart.new.space (path_in c.args.paths.now)
    (memory c.in_ok-probe.probe) c.in_ok-board.board c.in_ok-machine.machine (with_memory s sides) c.apart.result
    (to_apart g c).goes.later.extends.map
    (λ so_far same. memory_ends s c.args.space.now (first_space g c) c.read_at.new.space c.read_at-2.new.space
    c.args.address c.in_ok-probe.probe c.in_ok-board.board c.in_ok-machine.machine sides so_far
    (address ∙ c.requires.address) word (probed g c) (board_read g c) (machine_read g c) on same)
    (c.apart.ensures.compared (memory c.in_ok-probe.probe))

pub returns-clause-same : goal.returns-clause-same
returns-clause-same g c =
    one_at_probe c.args.space.now (first_space g c) c.read_at.new.space c.read_at-2.new.space c.apart.new.space
    (path_in c.args.paths.now) _ c.in_ok-probe.probe c.in_ok-board.board c.in_ok-machine.machine c.apart.result
    (sym c.requires.address) (probed g c) (board_read g c) (machine_read g c)
    c.apart.ensures.goes c.apart.ensures.same

pub returns-clause-apart : goal.returns-clause-apart
returns-clause-apart g c =
    two_in_memory c.args.space.now (first_space g c) c.read_at.new.space c.read_at-2.new.space c.apart.new.space
    c.args.address c.in_ok-probe.probe c.in_ok-board.board c.in_ok-machine.machine c.apart.result (probed g c)
    (board_read g c) (machine_read g c) c.apart.ensures.goes c.apart.ensures.apart
