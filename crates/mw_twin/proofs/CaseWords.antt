-- The word lists of twin cases, by the words of both segments.
use Rattle.std.proofs.Common.{◌≡◌, ℕ, List, [], ◌++◌, Bool, ap, ◌∙◌}
use Rattle.std.proofs.lemmas.List.{map-append}
use Rattle.mw_cycle.specs.BoardTerms.{Standing}
use Rattle.mw_cycle.specs.SegmentWords.{Segment, ended_by}
use Rattle.mw_cycle.specs.SegmentWords.SegmentEnd.{wants, reaches, passes}
use Rattle.mw_rel.specs.CaseWords.{bit_values, stopped, whole}
use Rattle.mw_rel.specs.ComparisonWords.{compared_in}
use Rattle.mw_revise.specs.declared.keep.Block.{Block}
use Rattle.mw_revise.specs.declared.programs.Side.TheVariants.{Old}
use Rattle.mw_revise.specs.Revision.{Revision, block_at}
use Rattle.mw_revise.specs.TwinStartWords.{twin_start_words}
use Rattle.mw_revise.specs.TwinWords.{behind_new, behind_old, compared_at, twin_tree, twin_words_along}
use Rattle.mw_term.specs.declared.decided.Decided.{Decided}
use Rattle.mw_term.specs.WordList.{WordList}
use Rattle.mw_twin.specs.OnTwins.{new_words, old_words}

-- the terms of the new board's elements at the start
abbrev pub new_terms : Revision → Block → List ℕ
new_terms revision block = (twin_start_words revision.board block.lines).new_terms

-- by the old segment
words_by : (revision : Revision) (block : Block) (bits : List Decided) (segment : Segment)
    → old_words revision block (bit_values bits) ≡ segment
    → (twin_tree revision block).words bits ≡ behind_old segment.ends revision block (new_terms revision block) segment
unfolding twin_words_along
words_by revision block bits segment is =
    ap (λ (s : Segment). behind_old s.ends revision block (new_terms revision block) s) is

-- where it asks, the list stops
pub old_asks : (revision : Revision) (block : Block) (bits : List Decided) (to : Standing) (term : ℕ) (l : WordList)
    → old_words revision block (bit_values bits) ≡ ended_by (wants term) to [] l
    → (twin_tree revision block).words bits ≡ stopped term l
old_asks revision block bits to term l is = words_by revision block bits (ended_by (wants term) to [] l) is

-- where it is late, the list ends
pub old_passes : (revision : Revision) (block : Block) (bits : List Decided) (to : Standing) (l : WordList)
    → old_words revision block (bit_values bits) ≡ ended_by passes to [] l
    → (twin_tree revision block).words bits ≡ whole l (compared_in l [])
old_passes revision block bits to l is = words_by revision block bits (ended_by passes to [] l) is

-- the values of bits behind others
pub values_behind : (front own : List Decided) → bit_values (front ++ own) ≡ bit_values front ++ bit_values own
values_behind front own = map-append (λ (bit : Decided). bit.value) front own

-- by both segments
both_by : (revision : Revision) (block : Block) (old_bits own bits : List Decided) (to : Standing) (l : WordList)
    (segment : Segment) → bits ≡ old_bits ++ own
    → ((further : List Bool) → old_words revision block (bit_values old_bits ++ further) ≡ ended_by reaches to further l)
    → new_words revision block (new_terms revision block) l (bit_values own) ≡ segment
    → (twin_tree revision block).words bits ≡ behind_new segment.ends revision to segment
both_by revision block old_bits own bits to l segment met ended is =
    words_by revision block bits (ended_by reaches to (bit_values own) l)
    (ap (λ (ds : List Decided). old_words revision block (bit_values ds)) met
    ∙ ap (old_words revision block) (values_behind old_bits own) ∙ ended (bit_values own))
    ∙ ap (λ (s : Segment). behind_new s.ends revision to s) is

-- where the new one asks, the list stops
pub new_asks : (revision : Revision) (block : Block) (old_bits own bits : List Decided) (to new_to : Standing)
    (before l : WordList) (term : ℕ) → bits ≡ old_bits ++ own
    → ((further : List Bool)
    → old_words revision block (bit_values old_bits ++ further) ≡ ended_by reaches to further before)
    → new_words revision block (new_terms revision block) before (bit_values own) ≡ ended_by (wants term) new_to [] l
    → (twin_tree revision block).words bits ≡ stopped term l
new_asks revision block old_bits own bits to new_to before l term met ended is =
    both_by revision block old_bits own bits to before (ended_by (wants term) new_to [] l) met ended is

-- where it is late, nothing is compared
pub new_passes : (revision : Revision) (block : Block) (old_bits own bits : List Decided) (to new_to : Standing)
    (before l : WordList) → bits ≡ old_bits ++ own
    → ((further : List Bool)
    → old_words revision block (bit_values old_bits ++ further) ≡ ended_by reaches to further before)
    → new_words revision block (new_terms revision block) before (bit_values own) ≡ ended_by passes new_to [] l
    → (twin_tree revision block).words bits ≡ whole l (compared_in l [])
new_passes revision block old_bits own bits to new_to before l met ended is =
    both_by revision block old_bits own bits to before (ended_by passes new_to [] l) met ended is

-- where it has ended at a boundary, both are compared
pub new_reaches : (revision : Revision) (block : Block) (old_bits own bits : List Decided) (to new_to : Standing)
    (before l : WordList) → bits ≡ old_bits ++ own
    → ((further : List Bool)
    → old_words revision block (bit_values old_bits ++ further) ≡ ended_by reaches to further before)
    → new_words revision block (new_terms revision block) before (bit_values own) ≡ ended_by reaches new_to [] l
    → (twin_tree revision block).words bits
    ≡ whole l (compared_at revision (block_at Old revision to.at) to new_to l)
new_reaches revision block old_bits own bits to new_to before l met ended is =
    both_by revision block old_bits own bits to before (ended_by reaches new_to [] l) met ended is
