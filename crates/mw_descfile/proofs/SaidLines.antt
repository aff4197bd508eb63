-- What a line of statements says was read from it.
use Rattle.std.proofs.Common.{◌≡◌, ◌+◌, Bool, true, false, refl, subst}
use Rattle.std.specs.Prelude.{Option, Some, None, Ok}
use Rattle.mw_base.specs.declared.refusal.TextFault.{TextFault}
use Rattle.mw_base.specs.declared.sign.Sign.TheVariants as signs
use Rattle.mw_base.specs.Cursors.{Cursor, after, misplaced, token_at, name_at, sign_at, end_at}
use Rattle.mw_base.proofs.Results.{ok_of, ok_is, bind_ok}
use Rattle.mw_descfile.specs.declared.said.Blocks.{Blocks}
use Rattle.mw_descfile.specs.declared.said.Keyword.{Keyword}
use Rattle.mw_descfile.specs.declared.said.Keyword.TheVariants as keywords
use Rattle.mw_descfile.specs.declared.scope.Scope.{Scope}
use Rattle.mw_descfile.specs.Expressions.{written_of}
use Rattle.mw_descfile.specs.Statements.{Said, to_assign, to_write, to_put, to_take, to_choose, to_turn, to_end}
use Rattle.mw_descfile.specs.Statements.{assign_of, inside, first_tokens, write_of, put_of, take_of, if_of, allowed}
use Rattle.mw_descfile.specs.Statements.{alone, alone_of, keyword_in, said_after, said_of}
use Rattle.mw_descfile.proofs.Expressions.{WasRead}

-- its expressions were read, and `else` and `end` stand where they can
abbrev pub WasSaid : Blocks → Said → Type 0
WasSaid blocks (to_assign name sign value) = WasRead value
WasSaid blocks (to_write word address sign value) = WasRead address × WasRead value
WasSaid blocks (to_put word value) = WasRead value
WasSaid blocks (to_take word name) = Unit {0}
WasSaid blocks (to_choose word condition) = WasRead condition
WasSaid blocks to_turn = blocks.can_else ≡ true
WasSaid blocks to_end = blocks.can_end ≡ true

assign_said : (blocks : Blocks) (scope : Scope) (line : Cursor) (said : Said) → assign_of scope line ≡ Ok said
    → WasSaid blocks said
unfolding assign_of
assign_said blocks scope line said is =
    let one = bind_ok (name_at 0 line) _ said is in
    let two = bind_ok (sign_at signs.Assign 1 line) _ said one.2 in
    let three = bind_ok (written_of scope (after 2 line)) _ said two.2 in
    subst (WasSaid blocks) (ok_is {F = TextFault} (to_assign one.0 two.0 three.0) said three.2)
    (record { m = _; cursor = _; is = three.1 })

write_said : (blocks : Blocks) (scope : Scope) (line : Cursor) (said : Said) → write_of scope line ≡ Ok said
    → WasSaid blocks said
unfolding write_of
write_said blocks scope line said is =
    let one = bind_ok (token_at 0 line) _ said is in
    let two = bind_ok (sign_at signs.OpenBracket 1 line) _ said one.2 in
    let three = bind_ok (written_of scope (first_tokens (inside line) (after 2 line))) _ said two.2 in
    let four = bind_ok (sign_at signs.CloseBracket (inside line) (after 2 line)) _ said three.2 in
    let five = bind_ok (sign_at signs.Assign (inside line + 1) (after 2 line)) _ said four.2 in
    let six = bind_ok (written_of scope (after (inside line + 2) (after 2 line))) _ said five.2 in
    subst (WasSaid blocks) (ok_is {F = TextFault} (to_write one.0 three.0 five.0 six.0) said six.2)
    (record { m = _; cursor = _; is = three.1 }, record { m = _; cursor = _; is = six.1 })

put_said : (blocks : Blocks) (scope : Scope) (line : Cursor) (said : Said) → put_of scope line ≡ Ok said
    → WasSaid blocks said
unfolding put_of
put_said blocks scope line said is =
    let one = bind_ok (token_at 0 line) _ said is in
    let two = bind_ok (written_of scope (after 1 line)) _ said one.2 in
    subst (WasSaid blocks) (ok_is {F = TextFault} (to_put one.0 two.0) said two.2)
    (record { m = _; cursor = _; is = two.1 })

take_said : (blocks : Blocks) (line : Cursor) (said : Said) → take_of line ≡ Ok said → WasSaid blocks said
unfolding take_of
take_said blocks line said is =
    let one = bind_ok (token_at 0 line) _ said is in
    let two = bind_ok (name_at 1 line) _ said one.2 in
    let three = bind_ok (end_at 2 line) _ said two.2 in
    subst (WasSaid blocks) (ok_is {F = TextFault} (to_take one.0 two.0) said three.2) tt

if_said : (blocks : Blocks) (scope : Scope) (line : Cursor) (said : Said) → if_of scope line ≡ Ok said
    → WasSaid blocks said
unfolding if_of
if_said blocks scope line said is =
    let one = bind_ok (token_at 0 line) _ said is in
    let two = bind_ok (written_of scope (after 1 line)) _ said one.2 in
    subst (WasSaid blocks) (ok_is {F = TextFault} (to_choose one.0 two.0) said two.2)
    (record { m = _; cursor = _; is = two.1 })

pub allowed_only : (b : Bool) (fault : TextFault) (done : Unit {0}) → allowed b fault ≡ Ok done → b ≡ true
allowed_only true fault done is = refl
allowed_only false fault done is = absurd cc

can : (can_stand : Bool) (line : Cursor) (done : Unit {0}) → alone can_stand line ≡ Ok done → can_stand ≡ true
unfolding alone
can can_stand line done is =
    let one = bind_ok (token_at 0 line) _ done is in
    let two = bind_ok (allowed can_stand (misplaced one.0 line)) _ done one.2 in
    allowed_only can_stand (misplaced one.0 line) two.0 two.1

alone_said : (can_stand : Bool) (blocks : Blocks) (one said : Said) (line : Cursor)
    → (can_stand ≡ true → WasSaid blocks one)
    → alone_of can_stand one line ≡ Ok said → WasSaid blocks said
alone_said can_stand blocks one said line so is =
    let stands = bind_ok (alone can_stand line) (λ stands. ok_of {F = TextFault} one) said is in
    subst (WasSaid blocks) (ok_is {F = TextFault} one said stands.2) (so (can can_stand line stands.0 stands.1))

after_said : (scope : Scope) (blocks : Blocks) (line : Cursor) (keyword : Option Keyword) (said : Said)
    → said_after scope blocks line keyword ≡ Ok said → WasSaid blocks said
after_said scope blocks line (Some keywords.Mem) said is = write_said blocks scope line said is
after_said scope blocks line (Some keywords.Put) said is = put_said blocks scope line said is
after_said scope blocks line (Some keywords.Take) said is = take_said blocks line said is
after_said scope blocks line (Some keywords.If) said is = if_said blocks scope line said is
after_said scope blocks line (Some keywords.Else) said is =
    alone_said blocks.can_else blocks to_turn said line (λ can. can) is
after_said scope blocks line (Some keywords.End) said is =
    alone_said blocks.can_end blocks to_end said line (λ can. can) is
after_said scope blocks line None said is = assign_said blocks scope line said is

-- what a line says
pub was_said : (scope : Scope) (blocks : Blocks) (line : Cursor) (said : Said) → said_of scope blocks line ≡ Ok said
    → WasSaid blocks said
unfolding said_of
was_said scope blocks line said is = after_said scope blocks line (keyword_in line) said is
