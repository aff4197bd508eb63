use Rattle.std.proofs.Common.{◌≡◌, true, sym, subst}
use Rattle.mw_symmach.specs.Turns.{Stepping, IsDecided, IsStepping, given_so, is_asked, left_in}
use Rattle.mw_symmach.specs.Walks.{chosen}
use Rattle.mw_symmach.proofs.Turning.{decided, left_given}
use Rattle.mw_symmach.proofs.machine.SymMach.decide.Goals as goal

pub returns-clause-decided : goal.returns-clause-decided
returns-clause-decided c = λ d t words m stepping.
    let inside = c.self.inside in
    let old : Stepping = record {
      parts = inside.parts;
      request = inside.request;
      levels = inside.levels.items;
      position = inside.position;
      pending = inside.pending;
    } in
    let asked : is_asked old.pending ≡ true =
    subst (λ o. is_asked o.pending ≡ true) (sym c.self.view_is) c.requires.asked in
    let within : IsStepping d t words m old = subst (λ o. IsStepping d t words m o) (sym c.self.view_is) stepping in
    subst (λ o. IsDecided d t words m o (given_so old c.args.value) c.args.value) c.self.view_is
    (decided d t words m old c.args.value asked within)

pub returns-clause-left : goal.returns-clause-left
returns-clause-left c = λ d t words m stepping.
    let inside = c.self.inside in
    let old : Stepping = record {
      parts = inside.parts;
      request = inside.request;
      levels = inside.levels.items;
      position = inside.position;
      pending = inside.pending;
    } in
    let asked : is_asked old.pending ≡ true =
    subst (λ o. is_asked o.pending ≡ true) (sym c.self.view_is) c.requires.asked in
    let within : IsStepping d t words m old = subst (λ o. IsStepping d t words m o) (sym c.self.view_is) stepping in
    subst (λ o. left_in d (given_so old c.args.value) ≡ chosen c.args.value (left_in d o)) c.self.view_is
    (left_given d t words m old c.args.value asked within)
