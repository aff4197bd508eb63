-- What is read of a script is the front of one.
use Rattle.std.proofs.Common.{◌≡◌, ℕ, ◌+◌, ◌≤◌, List, [], ◌∷◌, ◌++◌, refl, sym, ap, ◌∙◌, arith, add_assoc}
use Rattle.std.proofs.lemmas.List.Elements.{All-nil, All-push}
use Rattle.mw_board.specs.declared.parts.BoardParts.{BoardParts}
use Rattle.mw_debug.specs.declared.script.Entry.{Entry}
use Rattle.mw_debug.specs.Kept.{IsAct, IsReading, cycles_in, cycles_of}
use Rattle.mw_debug.specs.Script.{Reading, nothing_read}

-- the cycles of an entry more
cycles_more : (entries : List Entry) (entry : Entry)
    → cycles_of (entries ++ entry ∷ []) ≡ cycles_of entries + cycles_in entry.act
cycles_more [] entry = let same : cycles_in entry.act + 0 ≡ 0 + cycles_in entry.act = omega arith in same
cycles_more (first ∷ rest) entry =
    ap (λ n. cycles_in first.act + n) (cycles_more rest entry)
    ∙ sym (add_assoc (cycles_in first.act) (cycles_of rest) (cycles_in entry.act))

-- nothing is read yet
pub nothing_is : (board : BoardParts) → IsReading board nothing_read
nothing_is board = record {
  acts = All-nil (λ (entry : Entry). IsAct board entry.act);
  counted = refl;
  few = omega arith;
}

-- an entry more
pub one_more : (board : BoardParts) (reading : Reading) (entry : Entry) (cycles : ℕ) → IsReading board reading
    → IsAct board entry.act → cycles ≡ reading.cycles + cycles_in entry.act → cycles ≤ 100000
    → IsReading board (record { entries = reading.entries ++ entry ∷ []; cycles = cycles })
one_more board reading entry cycles is act sum few = record {
  acts = All-push (λ (entry : Entry). IsAct board entry.act) reading.entries entry is.acts act;
  counted = omega (arith, sum, is.counted, cycles_more reading.entries entry);
  few = few;
}
