use Rattle.std.proofs.Common.{◌≡◌, ◌∙◌, ◌<◌, ◌≤◌, ◌-◌, ap, length, map, slice_get, List, ℕ, rules}
use Rattle.mw_board.specs.declared.flipflop.FlipFlop.{FlipFlop}
use Rattle.mw_board.proofs.Elements.{name_before, name_of_flipflop, name_behind}
use Rattle.mw_board.proofs.board.Board.element_name.Goals as goal

pub returns-then-number-lt19 : goal.returns-then-number-lt19
returns-then-number-lt19 c = c.name_at.ensures ∙ name_before c.args.self.now c.args.number c.if-number-lt19.true

pub returns-then-number-flipflops : goal.returns-then-number-flipflops
returns-then-number-flipflops c =
    let flipflops : c.as_slice-flipflops.result.now ≡ c.args.self.now.flipflop = search rules in
    let within : c.args.number - 19 < length c.args.self.now.flipflop = rw (← flipflops) c.if-number-flipflops.true in
    c.flipflop_name.ensures
    ∙ ap (λ (fs : List FlipFlop). slice_get (map (λ (f : FlipFlop). f.name) fs) (c.args.number - 19)) flipflops
    ∙ name_of_flipflop c.args.self.now c.args.number c.if-number-lt19.false within

pub returns : goal.returns
returns c =
    let flipflops : c.as_slice-flipflops.result.now ≡ c.args.self.now.flipflop = search rules in
    let past : length c.args.self.now.flipflop ≤ c.args.number - 19 = rw (← flipflops) c.if-number-flipflops.false in
    c.name_at-2.ensures
    ∙ ap (λ (names : List (List ℕ)). slice_get names (c.args.number - 19 - length c.as_slice-flipflops.result.now))
    c.names_behind.ensures
    ∙ rw flipflops (name_behind c.args.self.now c.args.number c.if-number-lt19.false past)
