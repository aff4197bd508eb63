-- The boundary that a run has reached.
use Rattle.std.proofs.Common.{◌≡◌, ℕ, zero, suc, ◌+◌, ◌<◌, ◌≤◌, List, [], ◌∷◌, length, map, get_or, Option, Some}
use Rattle.std.proofs.Common.{option_map, find, slice_index, slice_index_or, Bool, true, false, cond, ◌==◌, refl, sym}
use Rattle.std.proofs.Common.{ap, ◌∙◌, arith}
use Rattle.std.specs.List.{position_from}
use Rattle.std.proofs.lemmas.Iterator.Adapters.{position_from-zero}
use Rattle.std.proofs.lemmas.List.{length-map}
use Rattle.std.proofs.lemmas.Grind.{same_number_lists}
use Rattle.mw_rel.specs.declared.boundary.Boundary.{Boundary as KeptBoundary}
use Rattle.mw_rel.specs.Certified.{boundary_at}
use Rattle.mw_rel.specs.Free.{no_boundary, numbered}
use Rattle.mw_rel.specs.Job.{Job}
use Rattle.mw_rel.specs.Relation.{Boundary}
use Rattle.mw_rel.specs.Seen.{boundaries_of}
use Rattle.mw_rel.specs.Start.{addresses_of}
use Rattle.mw_replay.specs.CounterText.{number_at}

-- ---- by number

by_test : (n : ℕ) (x : Boundary) (found : Option Boundary) (place : Option ℕ) (all : List Boundary) (b : Bool)
    → x ≡ slice_index_or all n no_boundary
    → found ≡ option_map (λ (k : ℕ). slice_index_or all k no_boundary) place
    → cond b (Some x) found ≡ option_map (λ (k : ℕ). slice_index_or all k no_boundary) (cond b (Some n) place)
by_test n x found place all true here later = ap Some here
by_test n x found place all false here later = later

-- the item at the first place at which a test passes, among those from a number on
found_on : (test : Boundary → Bool) (n : ℕ) (xs all : List Boundary)
    → ((i : ℕ) → slice_index_or xs i no_boundary ≡ slice_index_or all (n + i) no_boundary)
    → find test xs ≡ option_map (λ (k : ℕ). slice_index_or all k no_boundary) (position_from test n xs)
found_on test n [] all same = refl
found_on test n (x ∷ xs) all same =
    let first : n + 0 ≡ n = omega arith in
    let here : x ≡ slice_index_or all n no_boundary =
    same 0 ∙ ap (λ k. slice_index_or all k no_boundary) first in
    let rest : (i : ℕ) → slice_index_or xs i no_boundary ≡ slice_index_or all (n + 1 + i) no_boundary =
    λ i. same (suc i) ∙ ap (λ k. slice_index_or all k no_boundary) (omega arith) in
    by_test n x (find test xs) (position_from test (n + 1) xs) all (test x) here (found_on test (n + 1) xs all rest)

-- the boundary at an address is that of its number
pub boundary_by_number : (job : Job) (at : ℕ) → boundary_at job at ≡ option_map (numbered job) (number_at job at)
boundary_by_number job at =
    let test = λ (boundary : Boundary). boundary.address == at in
    let all = job.relation.boundaries in
    found_on test 0 all all (λ i. ap (λ k. slice_index_or all k no_boundary) (omega arith))
    ∙ ap (option_map (numbered job)) (sym (position_from-zero test all))

-- ---- the addresses

-- the address of the boundary with a number
pub address_seen : (kept : List KeptBoundary) (n : ℕ) (b : KeptBoundary) → n < length kept → b ≡ get_or kept n b
    → b.address ≡ slice_index (map (λ (boundary : Boundary). boundary.address) (boundaries_of kept)) n
address_seen [] n b below is = absurd (omega arith)
address_seen (x ∷ rest) zero b below is = ap (λ (k : KeptBoundary). k.address) is
address_seen (x ∷ rest) (suc n) b below is = address_seen rest n b (omega arith) is

pub addresses_count : (job : Job) → length (addresses_of job) ≡ length job.relation.boundaries
addresses_count job = length-map job.relation.boundaries (λ (boundary : Boundary). boundary.address)

-- a list that has each is the addresses
pub addresses_are : (job : Job) (addresses : List ℕ) (n : ℕ) → length addresses ≡ length job.relation.boundaries
    → length job.relation.boundaries ≤ n
    → ((i : ℕ) → i < n → slice_index addresses i ≡ slice_index (addresses_of job) i) → addresses ≡ addresses_of job
addresses_are job addresses n size all each =
    same_number_lists addresses (addresses_of job) (size ∙ sym (addresses_count job)) (λ i below. each i (omega arith))
