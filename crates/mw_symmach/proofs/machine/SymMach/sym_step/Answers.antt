use Rattle.std.proofs.Common.{◌∙◌, ap, sym}
use Rattle.mw_macro.specs.Described.{description_of}
use Rattle.mw_symmach.specs.Turns.{Stepping}
use Rattle.mw_symmach.proofs.Turning.{Went, come_request, entered_request, may_go_on, position_fits, went_board}
use Rattle.mw_symmach.proofs.Turning.{went_done, went_few, went_goes, went_listed, went_on, went_stepping, went_turn}
use Rattle.mw_symmach.proofs.machine.SymMach.sym_step.Goals as goal

pub enter-requires : goal.enter-requires
enter-requires c =
    let d = description_of c.args.machine.now in
    position_fits d c.begin.new.terms c.args.words.now c.args.memory.now c.begin.new.self c.in_ok-begin.ensures.stepping
    c.args.machine.now.is_machine.right.statements

pub go_on-requires : goal.go_on-requires
go_on-requires c =
    let d = description_of c.args.machine.now in
    let may = may_go_on d c.begin.new.terms c.args.words.now c.args.memory.now c.args.self.now c.begin.new.self
    c.enter.new.self c.requires.idle c.in_ok-begin.ensures.stands c.in_ok-begin.ensures.stepping c.requires.few
    c.in_ok-enter.ensures in
    record { stands = may.stands; few_reads = may.few_reads; few_events = may.few_events }

pub returns : goal.returns
returns c =
    let d = description_of c.args.machine.now in
    let begun = c.begin.new.self in
    let new = c.go_on.new.self in
    let position = c.in_ok-reached.reached.position in
    let asked = c.in_ok-reached.reached.asked in
    let t0 = c.args.terms.now in
    let t1 = c.begin.new.terms in
    let t2 = c.go_on.new.terms in
    let w0 = c.args.words.now in
    let w2 = c.go_on.new.words in
    let m0 = c.args.memory.now in
    let m2 = c.go_on.new.memory in
    let went : Went d t0 t1 t2 w0 w2 m0 m2 c.args.self.now begun new position asked =
    record {
      idle = c.requires.idle;
      same = c.in_ok-begin.ensures.same;
      stands = c.in_ok-begin.ensures.stands;
      goes = c.in_ok-begin.ensures.goes;
      stepping = c.in_ok-begin.ensures.stepping;
      reaches = went_on d t1 t2 w0 w2 m0 m2 c.args.self.now begun c.enter.new.self new position asked c.requires.idle
          c.in_ok-begin.ensures.stands c.in_ok-enter.ensures c.in_ok-reached.ensures.reaches;
      stops = c.in_ok-reached.ensures.stops;
      request = c.go_on.ensures.request ∙ ap (λ (o : Stepping). o.request) c.in_ok-enter.ensures ∙ entered_request begun
          ∙ c.in_ok-begin.ensures.begun;
    } in
    record {
      turn = rw (c.turn.ensures.said, c.turn.ensures.new)
          (went_turn d t0 t1 t2 w0 w2 m0 m2 c.args.self.now begun new position asked went);
      listed = rw (c.turn.ensures.said, c.turn.ensures.new)
          (went_listed d t0 t1 t2 w0 w2 m0 m2 c.args.self.now begun c.enter.new.self new position asked c.requires.idle
          c.in_ok-begin.ensures.stands c.in_ok-enter.ensures c.in_ok-begin.ensures.listed
          c.in_ok-reached.ensures.listed);
      done = λ finished. rw c.turn.ensures.new
          (went_done d t1 t2 w0 w2 m0 m2 _ _ _ new position asked c.in_ok-reached.ensures.reaches
          (sym c.turn.ensures.said ∙ finished));
      begun = rw c.turn.ensures.new (come_request new position asked ∙ went.request);
      goes = went_goes d t0 t1 t2 w0 w2 m0 m2 c.args.self.now begun new position asked went;
      board = went_board d t0 t1 t2 w0 w2 m0 m2 c.args.self.now begun new position asked went;
      few = rw c.turn.ensures.new (went_few d t0 t1 t2 w0 w2 m0 m2 c.args.self.now begun new position asked went);
      stepping = rw c.turn.ensures.new
          (went_stepping d t0 t1 t2 w0 w2 m0 m2 c.args.self.now begun new position asked went);
    }
