-- A map of numbers, seen as a finite map.
use Rattle.std.proofs.Common.{◌≡◌, ℕ, List, [], ◌∷◌, Some, cond, refl, sym, ap, ◌∙◌}
use Rattle.std.specs.BTreeMap.{is_at}
use Rattle.std.specs.Cmp.{nat_cmp_total, eq_by_cmp_equiv}
use Rattle.std.specs.Map.{lookup}
use Rattle.std.specs.Ordering.{nat_cmp, eq_by_cmp}
use Rattle.std.specs.FinMap.{get, insert, find, from_entries, get-from_entries, get-insert, same_map}
use Rattle.std.specs.FinMap.{nat_cmp-IsAntisymmetric}

found : (word : ℕ) (entries : List (ℕ × ℕ)) → lookup (is_at (nat_cmp word)) entries ≡ find nat_cmp word entries
found word [] = refl
found word (entry ∷ rest) = ap (cond (eq_by_cmp nat_cmp word entry.0) (Some entry.1)) (found word rest)

-- what the entries say of a word
pub seen : (entries : List (ℕ × ℕ)) (word : ℕ)
    → get (from_entries {R = nat_cmp} entries) word ≡ lookup (is_at (nat_cmp word)) entries
seen entries word = get-from_entries nat_cmp_total entries word ∙ sym (found word entries)

-- after one more entry the map is the one with this number in place of that word's
pub one_more : (old new : List (ℕ × ℕ)) (word number : ℕ)
    → ((other : ℕ) → lookup (is_at (nat_cmp other)) new
    ≡ cond (is_at (nat_cmp word) other) (Some number) (lookup (is_at (nat_cmp other)) old))
    → from_entries {R = nat_cmp} new ≡ insert (from_entries old) word number
one_more old new word number updates =
    same_map nat_cmp_total nat_cmp-IsAntisymmetric _ _ (λ other.
    seen new other
    ∙ updates other
    ∙ ap (cond (eq_by_cmp nat_cmp word other) (Some number)) (sym (seen old other))
    ∙ ap (λ b. cond b (Some number) (get (from_entries {R = nat_cmp} old) other))
    ((eq_by_cmp_equiv nat_cmp_total).symm word other)
    ∙ sym (get-insert nat_cmp_total (from_entries old) word number other))
