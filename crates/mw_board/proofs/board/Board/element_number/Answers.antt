use Rattle.std.proofs.Common.{◌≡◌, rules}
use Rattle.mw_board.proofs.Elements.{number_before, number_of_flipflop, number_behind, no_number}
use Rattle.mw_board.proofs.board.Board.element_number.Goals as goal

pub returns-in-Some : goal.returns-in-Some
returns-in-Some c = number_before c.args.self.now c.args.name.now c.in-Some.place (search rules)

pub returns-in-Some-flipflop_of : goal.returns-in-Some-flipflop_of
returns-in-Some-flipflop_of c =
    number_of_flipflop c.args.self.now c.args.name.now c.in-Some-flipflop_of.place (search rules) (search rules)

pub returns-in-Some-place_of : goal.returns-in-Some-place_of
returns-in-Some-place_of c =
    let flipflops : c.as_slice-flipflops.result.now ≡ c.args.self.now.flipflop = search rules in
    rw flipflops (number_behind c.args.self.now c.args.name.now c.in-Some-place_of.place (search rules)
    (search rules) (search rules))

pub returns-in-None : goal.returns-in-None
returns-in-None c = no_number c.args.self.now c.args.name.now (search rules) (search rules) (search rules)
