-- The boundaries that a KEEP text says are at control addresses of their own in both programs.
use Rattle.std.proofs.Common.{◌≡◌, ℕ, zero, suc, ◌+◌, List, [], ◌∷◌, ◌++◌, Bool, true, false}
use Rattle.std.proofs.Common.{not, ◌||◌, ◌==◌, cond, find}
use Rattle.std.proofs.Common.{Option, Some, None, Result, Ok, Err, refl, sym, ap, ◌∙◌, subst, ◌⊎◌, inl, inr}
use Rattle.std.specs.Prelude.{IfOk, IfSome, is_none, nat_lt, length, ok_or, slice_get}
use Rattle.mw_base.specs.declared.cause.Cause.TheVariants.{BadSyntax, NoStackPointer, TooMany, Twice}
use Rattle.mw_base.specs.declared.cursor.Dotted.{Dotted}
use Rattle.mw_base.specs.declared.cursor.Numeral.{Numeral}
use Rattle.mw_base.specs.declared.line.Line.{Line}
use Rattle.mw_base.specs.declared.place.Place.{Place}
use Rattle.mw_base.specs.declared.refusal.Refused.{Refused}
use Rattle.mw_base.specs.declared.refusal.TextFault.{TextFault}
use Rattle.mw_base.specs.declared.token.Token.{Token}
use Rattle.mw_base.specs.Cursors.{at_line}
use Rattle.mw_base.specs.Places.{address_of}
use Rattle.mw_base.specs.Reading.{Gives}
use Rattle.mw_base.specs.Steps.{steps}
use Rattle.mw_base.specs.TokenLines.{fault_on, text_end, token_lines}
use Rattle.mw_base.proofs.Results.{bind_ok, if_ok, ok_is, ok_of}
use Rattle.mw_base.proofs.Steps.{steps_keep}
use Rattle.mw_asm.specs.Labels.{label_named}
use Rattle.mw_board.specs.declared.parts.BoardParts.{BoardParts}
use Rattle.mw_board.specs.Depth.{depth_of}
use Rattle.mw_descfile.specs.Boundaries.{bounded, place_token}
use Rattle.mw_descfile.specs.Statements.{allowed}
use Rattle.mw_descfile.proofs.SaidLines.{allowed_only}
use Rattle.mw_sim.specs.Settings.{value_below}
use Rattle.mw_revise.specs.declared.beginning.Beginning.{Beginning}
use Rattle.mw_revise.specs.declared.keep.Block.{Block}
use Rattle.mw_revise.specs.declared.keep.Keep.{Keep}
use Rattle.mw_revise.specs.declared.programs.Side.{Side}
use Rattle.mw_revise.specs.declared.programs.Side.TheVariants.{Old, New}
use Rattle.mw_revise.specs.declared.said.Said.{Said}
use Rattle.mw_revise.specs.declared.said.Said.TheVariants.{StackPointer, Equal, Fixed, End}
use Rattle.mw_revise.specs.declared.site.Site.{Site}
use Rattle.mw_revise.specs.Beginnings.{beginning_of}
use Rattle.mw_revise.specs.Blocks.{OpenBlock, begun_block, with_stack_pointer, with_equal, with_fixed, closed_block}
use Rattle.mw_revise.specs.Blocks.{room, with_line}
use Rattle.mw_revise.specs.Elements.{equal_line, fixed_line}
use Rattle.mw_revise.specs.KeepLines.{said_of}
use Rattle.mw_revise.specs.KeepText.{Known, at_first, finished, keep_of, keep_with, known_after, still_open, with_any}
use Rattle.mw_revise.specs.KeepText.{with_said, with_tokens}
use Rattle.mw_revise.specs.Revision.{AreApart}
use Rattle.mw_revise.proofs.Once.{once_more}
use Rattle.mw_revise.specs.Sites.{Programs, address_on, both, free_address, is_taken, labels_of, site_of}

-- ---- boundaries with one more behind them

-- one more is apart from those at whose addresses it isn't
apart_more : (side : Side) (blocks : List Block) (last : Block) → AreApart side blocks
    → is_taken side blocks (address_on side last) ≡ false → AreApart side (blocks ++ last ∷ [])
apart_more side blocks last apart free = once_more (address_on side) blocks last apart free

-- ---- what is known after some lines

-- the address of a place in one of both programs
abbrev address_in : Side → Site → ℕ
address_in Old site = site.before
address_in New site = site.after

-- no boundary stands at a place in either program
abbrev IsFree : List Block → Site → Type 0
IsFree blocks site = (side : Side) → is_taken side blocks (address_in side site) ≡ false

-- the boundaries are apart, and the open one will be
record IsApart (known : Known) : Type 0 where
  blocks : (side : Side) → AreApart side known.blocks
  free : IfSome known.block (λ (block : OpenBlock). IsFree known.blocks block.site)

not_true : (b : Bool) → not b ≡ true → b ≡ false
not_true true is = cc
not_true false is = refl

free_there : (side : Side) (programs : Programs) (text : List ℕ) (blocks : List Block) (place : Place) (address : ℕ)
    → free_address side programs text blocks place ≡ Ok address → is_taken side blocks address ≡ false
unfolding free_address
free_there side programs text blocks place address is =
    let one = bind_ok (address_of text (label_named (labels_of side programs)) place) _ address is in
    let two = bind_ok (allowed (not (is_taken side blocks one.0)) (fault_on (place_token place) Twice)) _ address
    one.2 in
    subst (λ a. is_taken side blocks a ≡ false) (ok_is {F = TextFault} one.0 address two.2)
    (not_true _ (allowed_only (not (is_taken side blocks one.0)) (fault_on (place_token place) Twice) two.0 two.1))

-- both addresses of a place
both_ok : (before after : Result ℕ TextFault) (site : Site) → both before after ≡ Ok site
    → (before ≡ Ok site.before) × (after ≡ Ok site.after)
both_ok (Ok before) (Ok after) site is =
    let same : site ≡ record { before = before; after = after } = cc in
    (ap (λ (s : Site). ok_of s.before) (sym same), ap (λ (s : Site). ok_of s.after) (sym same))
both_ok (Ok before) (Err second) site is = cc
both_ok (Err first) (Ok after) site is = cc
both_ok (Err first) (Err second) site is = cc

site_free : (programs : Programs) (text : List ℕ) (blocks : List Block) (place : Place) (site : Site)
    → site_of programs text blocks place ≡ Ok site → IsFree blocks site
unfolding site_of
site_free programs text blocks place site is Old =
    free_there Old programs text blocks place site.before
    (both_ok (free_address Old programs text blocks place) (free_address New programs text blocks place) site is).0
site_free programs text blocks place site is New =
    free_there New programs text blocks place site.after
    (both_ok (free_address Old programs text blocks place) (free_address New programs text blocks place) site is).1

begun_free : (programs : Programs) (text : List ℕ) (blocks : List Block) (said : Beginning) (next : OpenBlock)
    → begun_block programs text blocks said ≡ Ok next → IsFree blocks next.site
unfolding begun_block
begun_free programs text blocks said next is =
    let one = bind_ok (allowed (nat_lt (length blocks) 64) (fault_on said.word TooMany)) _ next is in
    let two = bind_ok (site_of programs text blocks said.place) _ next one.2 in
    let three = bind_ok (bounded said.bound) _ next two.2 in
    subst (λ (b : OpenBlock). IsFree blocks b.site)
    (ok_is {F = TextFault} (record { site = two.0; bound = three.0; sp = None; lines = [] }) next three.2)
    (site_free programs text blocks said.place two.0 two.1)

-- ---- a line of a block leaves its place

pointer_stays : (depth : ℕ) (word : Token) (value : Numeral) (block next : OpenBlock)
    → with_stack_pointer depth word value block ≡ Ok next → block.site ≡ next.site
unfolding with_stack_pointer
pointer_stays depth word value block next is =
    let one = bind_ok (allowed (is_none block.sp) (fault_on word Twice)) _ next is in
    let two = bind_ok (value_below (depth + 1) value) _ next one.2 in
    ap (λ (b : OpenBlock). b.site) (ok_is {F = TextFault} (record block { sp = Some two.0 }) next two.2)

equal_stays : (board : BoardParts) (text : List ℕ) (word : Token) (element : Dotted) (block next : OpenBlock)
    → with_equal board text word element block ≡ Ok next → block.site ≡ next.site
unfolding with_equal
equal_stays board text word element block next is =
    let one = bind_ok (room block word) _ next is in
    let two = bind_ok (equal_line board text block.lines element) _ next one.2 in
    ap (λ (b : OpenBlock). b.site) (ok_is {F = TextFault} (with_line two.0 block) next two.2)

fixed_stays : (board : BoardParts) (text : List ℕ) (word : Token) (element : Dotted) (old_value new_value : Numeral)
    (block next : OpenBlock) → with_fixed board text word element old_value new_value block ≡ Ok next
    → block.site ≡ next.site
unfolding with_fixed
fixed_stays board text word element old_value new_value block next is =
    let one = bind_ok (room block word) _ next is in
    let two = bind_ok (fixed_line board text block.lines element old_value new_value) _ next one.2 in
    ap (λ (b : OpenBlock). b.site) (ok_is {F = TextFault} (with_line two.0 block) next two.2)

-- ---- each line keeps them apart

-- what is known where this block is open
apart_open : (blocks : List Block) (block next : OpenBlock) → ((side : Side) → AreApart side blocks)
    → IsFree blocks block.site → block.site ≡ next.site → IsApart (record { blocks = blocks; block = Some next })
apart_open blocks block next apart free same =
    record { blocks = apart; free = subst (IsFree blocks) same free }

-- of a block that is read on with, or refused
opened : (blocks : List Block) (read : Result OpenBlock TextFault) (next : Known) → still_open blocks read ≡ Ok next
    → (block : OpenBlock) × (read ≡ Ok block) × (record { blocks = blocks; block = Some block } ≡ next)
opened blocks read next is =
    let one = bind_ok read (λ block. ok_of {F = TextFault} (record { blocks = blocks; block = Some block })) next is in
    (one.0, one.1, ok_is {F = TextFault} _ next one.2)

closed_apart : (blocks : List Block) (block : OpenBlock) (word : Token) (ended : Block)
    → ((side : Side) → AreApart side blocks) → IsFree blocks block.site → closed_block block word ≡ Ok ended
    → (side : Side) → AreApart side (blocks ++ ended ∷ [])
unfolding closed_block
closed_apart blocks block word ended apart free is Old =
    let one = bind_ok (ok_or block.sp (fault_on word NoStackPointer)) _ ended is in
    let same : block.site.before ≡ ended.before = ap (λ (b : Block). b.before) (ok_is {F = TextFault} _ ended one.2) in
    apart_more Old blocks ended (apart Old) (subst (λ a. is_taken Old blocks a ≡ false) same (free Old))
closed_apart blocks block word ended apart free is New =
    let one = bind_ok (ok_or block.sp (fault_on word NoStackPointer)) _ ended is in
    let same : block.site.after ≡ ended.after = ap (λ (b : Block). b.after) (ok_is {F = TextFault} _ ended one.2) in
    apart_more New blocks ended (apart New) (subst (λ a. is_taken New blocks a ≡ false) same (free New))

said_apart : (board : BoardParts) (text : List ℕ) (blocks : List Block) (block : OpenBlock) (said : Said) (next : Known)
    → ((side : Side) → AreApart side blocks) → IsFree blocks block.site
    → with_said board text blocks block said ≡ Ok next → IsApart next
unfolding with_said
said_apart board text blocks block (StackPointer word value) next apart free is =
    let one = opened blocks (with_stack_pointer (depth_of board) word value block) next is in
    subst IsApart one.2 (apart_open blocks block one.0 apart free
    (pointer_stays (depth_of board) word value block one.0 one.1))
said_apart board text blocks block (Equal word element) next apart free is =
    let one = opened blocks (with_equal board text word element block) next is in
    subst IsApart one.2 (apart_open blocks block one.0 apart free
    (equal_stays board text word element block one.0 one.1))
said_apart board text blocks block (Fixed word element old_value new_value) next apart free is =
    let one = opened blocks (with_fixed board text word element old_value new_value block) next is in
    subst IsApart one.2 (apart_open blocks block one.0 apart free
    (fixed_stays board text word element old_value new_value block one.0 one.1))
said_apart board text blocks block (End word) next apart free is =
    let one = bind_ok (closed_block block word) _ next is in
    subst IsApart (ok_is {F = TextFault} _ next one.2)
    (record { blocks = closed_apart blocks block word one.0 apart free one.1; free = tt })

tokens_apart : (programs : Programs) (text : List ℕ) (blocks : List Block) (block : Option OpenBlock) (line : Line)
    (next : Known) → IsApart (record { blocks = blocks; block = block })
    → with_tokens programs text blocks block line ≡ Ok next → IsApart next
unfolding with_tokens
tokens_apart programs text blocks None line next apart is =
    let one = bind_ok (beginning_of (at_line text line BadSyntax)) _ next is in
    let two = opened blocks (begun_block programs text blocks one.0) next one.2 in
    subst IsApart two.2
    (record { blocks = apart.blocks; free = begun_free programs text blocks one.0 two.0 two.1 })
tokens_apart programs text blocks (Some block) line next apart is =
    let one = bind_ok (said_of (at_line text line BadSyntax)) _ next is in
    said_apart programs.board text blocks block one.0 next apart.blocks apart.free one.2

any_apart : (programs : Programs) (text : List ℕ) (known next : Known) (line : Line) (tokens : List Token)
    → with_any programs text known line tokens ≡ Ok next → IsApart known → IsApart next
any_apart programs text known next line [] is apart = subst IsApart (ok_is {F = TextFault} known next is) apart
any_apart programs text known next line (token ∷ rest) is apart =
    tokens_apart programs text known.blocks known.block line next apart is

-- ---- and so does the whole text

first_apart : IsApart at_first
first_apart = record { blocks = λ side n block at. cc; free = tt }

kept_apart : (blocks : List Block) (keep : Keep) → keep_with blocks ≡ Ok keep
    → ((side : Side) → AreApart side blocks) → (side : Side) → AreApart side keep.blocks
kept_apart blocks keep is apart side =
    let one = if_ok (nat_lt 0 (length blocks)) (record { blocks = blocks }) keep _ is in
    subst (λ (k : Keep). AreApart side k.blocks) one.1 (apart side)

finished_apart : (fault : TextFault) (blocks : List Block) (block : Option OpenBlock) (keep : Keep)
    → finished fault blocks block ≡ Ok keep → ((side : Side) → AreApart side blocks)
    → (side : Side) → AreApart side keep.blocks
finished_apart fault blocks None keep is apart = kept_apart blocks keep is apart
finished_apart fault blocks (Some block) keep is apart = cc

keep_is_apart : (programs : Programs) (text : List ℕ) (keep : Keep) → keep_of programs text ≡ Ok keep
    → (side : Side) → AreApart side keep.blocks
unfolding keep_of
keep_is_apart programs text keep is =
    let one = bind_ok (token_lines text) _ keep is in
    let two = bind_ok (steps (known_after programs text) at_first one.0) _ keep one.2 in
    let known = steps_keep IsApart (known_after programs text)
    (λ before after line. any_apart programs text before after line line.tokens) at_first two.0 one.0 two.1
    first_apart in
    finished_apart (text_end one.0 BadSyntax) two.0.blocks two.0.block keep two.2 known.blocks

-- so are those of a text that was read
pub read_is_apart : (programs : Programs) (text : List ℕ) (read : Result Keep (Refused TextFault))
    → Gives (λ keep. keep) read (keep_of programs text)
    → IfOk read (λ keep. (side : Side) → AreApart side keep.blocks)
read_is_apart programs text (Ok keep) gives = keep_is_apart programs text keep gives
read_is_apart programs text (Err refusal) gives = tt
