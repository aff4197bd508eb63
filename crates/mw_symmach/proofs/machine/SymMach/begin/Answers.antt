use Rattle.std.proofs.Common.{ap, refl, sym, ◌∙◌}
use Rattle.mw_macro.specs.Described.{description_of}
use Rattle.mw_symmach.specs.Turns.{Stepping}
use Rattle.mw_symmach.proofs.Beginning.{Before, begun_goes_on, begun_is, begun_listed, begun_same, begun_stepping}
use Rattle.mw_symmach.proofs.machine.SymMach.begin.Goals as goal

pub returns : goal.returns
returns c =
    let d = description_of c.args.machine.now in
    let old = c.args.self.now in
    let new = c.add_request.new.self in
    let request = c.in-Some.request in
    let values = c.add_temporaries.new.self.parts.values in
    let t0 = c.args.terms.now in
    let t1 = c.add_temporaries.new.terms in
    let words = c.args.words.now in
    let m = c.args.memory.now in
    let before : Before d t0 t1 words m old values request =
    record {
      asks = sym c.request.ensures ∙ c.in-Some.is;
      formed = c.args.machine.now.is_machine.formed;
      stepping = c.requires.stepping;
      zeros = c.in_ok-add_temporaries.ensures.zeros;
    } in
    let is = begun_is old c.add_temporaries.new.self new request c.in_ok-add_temporaries.ensures.same
    c.in_ok-add_request.ensures in
    record {
      begun = ap (λ (o : Stepping). o.request) is;
      stands = rw is refl;
      same = λ given image. begun_same d t0 t1 words m old new values request given image before is;
      listed = begun_listed d t0 t1 words m old new values request before is c.in_ok-add_temporaries.ensures.listed;
      goes = begun_goes_on d t0 t1 words m old values request before;
      stepping = begun_stepping d t0 t1 words m old new values request before is;
    }
