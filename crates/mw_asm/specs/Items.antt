-- Items, separated by commas: each is NAME or NAME = VALUE, and VALUE is a number or a name.
use Rattle.std.specs.Prelude.{List, [], ◌∷◌, if◌then◌else◌, Option, Some, None, ok_or, Result, Ok}
use Rattle.mw_base.specs.declared.refusal.TextFault.{TextFault}
use Rattle.mw_base.specs.declared.sign.Sign.TheVariants as signs
use Rattle.mw_base.specs.declared.symbol.Symbol.{Symbol}
use Rattle.mw_base.specs.declared.symbol.Symbol.TheVariants.{Name, Number, Sign}
use Rattle.mw_base.specs.declared.token.Token.{Token}
use Rattle.mw_base.specs.Cursors.{Cursor, misplaced}
use Rattle.mw_base.specs.Reading.{◌>>=◌, with_front}
use Rattle.mw_base.specs.Symbols.{symbol_of, is_sign}
use Rattle.mw_asm.specs.declared.items.Awaits.{Awaits}
use Rattle.mw_asm.specs.declared.items.Awaits.TheVariants as awaits
use Rattle.mw_asm.specs.declared.items.Item.{Item}

-- an item that is a name alone
abbrev pub alone : Token → Item
alone name = record { name = name; value = None }

-- an item that is a field and its value
abbrev pub valued : Token → Token → Item
valued name value = record { name = name; value = Some value }

-- what can follow this token, which is no comma; nothing where it can't stand here
abbrev pub follow : Awaits → Token → Symbol → Option Awaits
follow awaits.Name token Name = Some (awaits.Equals (alone token))
follow (awaits.Equals item) token (Sign signs.Equals) = Some (awaits.Value item.name)
follow (awaits.Value name) token Name = Some (awaits.Comma (valued name token))
follow (awaits.Value name) token (Number value) = Some (awaits.Comma (valued name token))
follow other token symbol = None

-- the item that ends here, if one can
abbrev pub ended : Awaits → Option Item
ended (awaits.Equals item) = Some item
ended (awaits.Comma item) = Some item
ended other = None

-- the items that a comma ends, and what can follow it
abbrev pub comma_passed : Cursor → Awaits → Token → Result (List Item × Awaits) TextFault
comma_passed line before token = do
  item ← ok_or (ended before) (misplaced token line)
  Ok (item ∷ [], awaits.Name)

-- the items that another token ends, which are none, and what can follow it
abbrev pub other_passed : Cursor → Awaits → Token → Result (List Item × Awaits) TextFault
other_passed line before token = do
  next ← ok_or (follow before token (symbol_of line.text token)) (misplaced token line)
  Ok ([], next)

-- the items that this token ends, and what can follow it
abbrev pub passed : Cursor → Awaits → Token → Result (List Item × Awaits) TextFault
passed line before token =
    if is_sign signs.Comma (symbol_of line.text token) then comma_passed line before token
    else other_passed line before token

-- the items of the rest of a line
unfoldable pub items_from : Cursor → Awaits → List Token → Result (List Item) TextFault
items_from line before [] = do
  item ← ok_or (ended before) line.end
  Ok (item ∷ [])
items_from line before (token ∷ rest) = do
  first ← passed line before token
  with_front first.0 (items_from line first.1 rest)

-- the items that these tokens of a line are; there are one or more
abbrev pub items_of : Cursor → Result (List Item) TextFault
items_of line = items_from line awaits.Name line.tokens

-- these items, or none where there are no tokens
abbrev pub items_or_none : Cursor → List Token → Result (List Item) TextFault
items_or_none line [] = Ok []
items_or_none line (token ∷ rest) = items_of line

-- the items that they are, or none where there are no tokens
abbrev pub optional_items : Cursor → Result (List Item) TextFault
optional_items line = items_or_none line line.tokens
