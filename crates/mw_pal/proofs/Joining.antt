-- One word of a statement after those before it.
use Rattle.std.proofs.Common.{◌≡◌, ℕ, ◌+◌, ◌<◌, ◌≤◌, List, [], true, false, ◌&&◌, Ok, Err, refl, sym, ap, ◌∙◌}
use Rattle.std.proofs.Common.{cond, drop, get_or, take, length}
use Rattle.std.specs.List.{list_all}
use Rattle.std.proofs.Math.ListN.{drop_of_length-le}
use Rattle.std.proofs.lemmas.List.{take_more}
use Rattle.std.proofs.lemmas.List.Folds.{list_all_more}
use Rattle.mw_base.specs.declared.cause.Cause.TheVariants.{MixedWords}
use Rattle.mw_base.specs.TokenLines.{fault_on}
use Rattle.mw_base.proofs.Lists.{next_or}
use Rattle.mw_pal.specs.declared.joins.Room.{Room}
use Rattle.mw_pal.specs.declared.joins.Spelled.{Spelled}
use Rattle.mw_pal.specs.declared.operation.Kind.{Kind}
use Rattle.mw_pal.specs.Joins.{all_join, all_join_behind, joins, joins_all}
use Rattle.mw_pal.specs.Operations.{kind_of}
use Rattle.mw_pal.specs.Views.{room_seen}

-- the room behind some words is what each of them joins
abbrev pub IsRoom : Room → List Spelled → Type 0
IsRoom room words = (kind : Kind)
    → room_seen room kind ≡ list_all (λ (other : Spelled). joins (kind_of other.operation) kind) words

-- a word more
pub more_room : (room after : Room) (words : List Spelled) (n : ℕ) (d : Spelled) → n < length words
    → ((kind : Kind) → room_seen after kind
    ≡ (room_seen room kind && joins (kind_of (get_or words n d).operation) kind))
    → IsRoom room (take n words) → IsRoom after (take (n + 1) words)
more_room room after words n d inside each is = λ kind.
    each kind ∙ ap (λ b. b && joins (kind_of (get_or words n d).operation) kind) (is kind)
    ∙ sym (list_all_more (λ (other : Spelled). joins (kind_of other.operation) kind) words n d inside)

-- the words from one on
here : (words : List Spelled) (n : ℕ) (d : Spelled) → n < length words
    → all_join_behind (take n words) (drop n words)
    ≡ cond (joins_all (take n words) (get_or words n d))
    (all_join_behind (take (n + 1) words) (drop (n + 1) words)) (Err (fault_on (get_or words n d).token MixedWords))
here words n d inside = rw (next_or words n d inside, take_more words n d inside) refl

-- a word that joins those before it
pub joined : (room : Room) (words : List Spelled) (n : ℕ) (d : Spelled) → n < length words
    → room_seen room (kind_of (get_or words n d).operation) ≡ true → IsRoom room (take n words)
    → all_join_behind (take n words) (drop n words) ≡ all_join words
    → all_join_behind (take (n + 1) words) (drop (n + 1) words) ≡ all_join words
joined room words n d inside admitted is so_far =
    let joins_them : joins_all (take n words) (get_or words n d) ≡ true =
    sym (is (kind_of (get_or words n d).operation)) ∙ admitted in
    let step : all_join_behind (take n words) (drop n words) ≡ all_join_behind (take (n + 1) words) (drop (n + 1) words) =
    here words n d inside ∙ rw joins_them refl in
    sym step ∙ so_far

-- a word that doesn't
pub mixed : (room : Room) (words : List Spelled) (n : ℕ) (d : Spelled) → n < length words
    → room_seen room (kind_of (get_or words n d).operation) ≡ false → IsRoom room (take n words)
    → all_join_behind (take n words) (drop n words) ≡ all_join words
    → Err (fault_on (get_or words n d).token MixedWords) ≡ all_join words
mixed room words n d inside refused is so_far =
    let fails : joins_all (take n words) (get_or words n d) ≡ false =
    sym (is (kind_of (get_or words n d).operation)) ∙ refused in
    let step : all_join_behind (take n words) (drop n words) ≡ Err (fault_on (get_or words n d).token MixedWords) =
    here words n d inside ∙ rw fails refl in
    sym step ∙ so_far

-- no word more
pub all_joined : (words : List Spelled) (n : ℕ) → length words ≤ n
    → all_join_behind (take n words) (drop n words) ≡ all_join words → Ok tt ≡ all_join words
all_joined words n past so_far = rw (drop_of_length-le words past) at so_far
