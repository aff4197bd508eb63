-- Lines that are appended, the last of them after the others.
use Rattle.std.proofs.Common.{◌≡◌, List, [], ◌∷◌, ◌++◌, map, ◌∙◌, sym, ap, append_assoc}
use Rattle.std.proofs.lemmas.List.{map-append}
use Rattle.mw_rel.specs.Lines.{Line}
use Rattle.mw_rel.specs.declared.line.Line.{Line as KeptLine}
use Rattle.mw_rel.specs.Seen.{line_of, lines_of}
use Rattle.mw_descfile.specs.declared.block.PlacedLine.{PlacedLine as KeptPlacedLine}
use Rattle.mw_descfile.specs.Boundaries.{PlacedLine}
use Rattle.mw_descfile.specs.RelationViews.{given_seen}

-- the lines of some that were given and one more
pub last_line : (before : List Line) (now : List KeptLine) (front : List KeptPlacedLine) (last : KeptPlacedLine)
    → lines_of now ≡ before ++ map (λ (g : PlacedLine). g.line) (map given_seen front)
    → lines_of (now ++ last.line ∷ [])
    ≡ before ++ map (λ (g : PlacedLine). g.line) (map given_seen (front ++ last ∷ []))
last_line before now front last is =
    map-append line_of now (last.line ∷ []) ∙ ap (λ (lines : List Line). lines ++ line_of last.line ∷ []) is
    ∙ append_assoc before (map (λ (g : PlacedLine). g.line) (map given_seen front)) (line_of last.line ∷ [])
    ∙ ap (λ (rest : List Line). before ++ rest) (sym (ap (map (λ (g : PlacedLine). g.line))
    (map-append given_seen front (last ∷ [])) ∙ map-append (λ (g : PlacedLine). g.line) (map given_seen front)
    (given_seen last ∷ [])))
