-- One file more, and what is known of files that were read.
use Rattle.std.proofs.Common.{◌≡◌, ℕ, zero, suc, ◌<◌, ◌≤◌, inl, inr, List, [], ◌∷◌, ◌++◌, length, Option, Some, None}
use Rattle.std.proofs.Common.{IfSome, refl, ap, arith, sym, ◌∙◌}
use Rattle.std.specs.Prelude.{slice_get}
use Rattle.mw_outside.specs.declared.read.ReadRefusal.{ReadRefusal}
use Rattle.mw_outside.specs.declared.read.ReadRefusal.TheVariants as refusals
use Rattle.mw_outside.specs.declared.read.TheConstants.{MOST_BYTES}
use Rattle.mw_outside.specs.Causes.{Rose}
use Rattle.mw_outside.specs.Views.{ShelfView, IsLater}
use Rattle.mw_plan.specs.declared.fault.FileFault.TheVariants.{TooLong}
use Rattle.mw_plan.specs.Plan.{Plan, refused, file}
use Rattle.mw_plan.specs.Files.{FilesRead, next_name, IsLeft}
use Rattle.mw_plan.specs.Steps.{Stops, stop_of}
use Rattle.mw_plan.specs.Shelf.{AreRead}
use Rattle.mw_plan.proofs.Plans.{after_more}

-- a view that is later than a later one
pub later_still : (first then now : ShelfView) → IsLater first then → IsLater then now → IsLater first now
later_still first then now since more = record {
  kept = λ name. more.kept name ∙ since.kept name;
  later = λ name. omega (arith, since.later name, more.later name);
}

-- the contents of one more file were read
read_more : (shelf : ShelfView) (names contents : List (List ℕ)) (name bytes : List ℕ)
    → slice_get names (length contents) ≡ Some name
    → AreRead shelf names contents → IfSome (shelf.told name) (λ whole. bytes ≡ whole)
    → AreRead shelf names (contents ++ bytes ∷ [])
read_more shelf [] [] name bytes named read is = absurd cc
read_more shelf [] (whole ∷ contents) name bytes named read is = absurd read
read_more shelf (first ∷ names) [] name bytes named read is =
    let same : first ≡ name = cc in
    rw same (is, tt)
read_more shelf (first ∷ names) (whole ∷ contents) name bytes named read is =
    (read.0, read_more shelf names contents name bytes named read.1 is)

-- one more file of a plan was read, at a later view of the shelf
pub left_more : {F A : Type 0} (plan : Plan F A) (first then : ShelfView) (files : FilesRead)
    (next : List ℕ → Plan F A) (name bytes : List ℕ) (left : Plan F A)
    → IsLater first then → IsLeft plan first files (file next) → next_name files ≡ Some name
    → IfSome (then.told name) (λ whole. bytes ≡ whole)
    → next bytes ≡ left → IsLeft plan first (record files { contents = files.contents ++ bytes ∷ [] }) left
left_more plan first then files next name bytes left since stood named told is = record {
  read = read_more first files.names files.contents name bytes named stood.read (rw (sym (since.kept name)) told);
  left_is = after_more plan (file next) files.contents (bytes ∷ []) stood.left_is ∙ ap Some is;
}

-- the contents of a file are kept behind those of the files before it
pub kept_more : (files old new : FilesRead) (bytes : List ℕ) (contents : List (List ℕ)) → old ≡ files
    → new ≡ record old { contents = contents }
    → contents ≡ old.contents ++ bytes ∷ [] → new ≡ record files { contents = files.contents ++ bytes ∷ [] }
kept_more files old new bytes contents was is more =
    is ∙ ap (λ (c : List (List ℕ)). record old { contents = c }) more
    ∙ ap (λ (f : FilesRead). record f { contents = f.contents ++ bytes ∷ [] }) was

-- bytes of any length
many_bytes : (n : ℕ) → (bytes : List ℕ) × (length bytes ≡ n)
many_bytes zero = ([], refl)
many_bytes (suc n) = let rest = many_bytes n in (0 ∷ rest.0, ap suc rest.1)

-- contents that are too long: those that are told, or any
pub long_contents : (most : ℕ) (told : Option (List ℕ)) → IfSome told (λ whole. most < length whole)
    → (bytes : List ℕ) × IfSome told (λ whole. bytes ≡ whole) × (most < length bytes)
long_contents most (Some whole) long = (whole, refl, long)
long_contents most None long =
    let many = many_bytes (suc most) in
    (many.0, tt, omega (arith, many.1))

-- a count that rose since a later view rose since the first
rose_since : (first then now : ℕ) → first ≤ then → Rose then now → Rose first now
rose_since first then now later rose = elim rose [
  | inl more ↦ inl (omega (arith, later, more))
  | inr last ↦ inr last
]

-- a file that can't be read whole stops the plan that asks for it
pub unread_stops : {F A : Type 0} (plan : Plan F A) (first then now : ShelfView) (files : FilesRead)
    (next : List ℕ → Plan F A) (name : List ℕ) (refusal : ReadRefusal)
    → IsLater first then → IsLeft plan first files (file next) → next_name files ≡ Some name
    → (refusal ≡ refusals.Fault → Rose (then.faults name) (now.faults name))
    → (refusal ≡ refusals.TooLong → IfSome (then.told name) (λ whole. MOST_BYTES < length whole))
    → ((bytes : List ℕ) → MOST_BYTES < length bytes → next bytes ≡ refused TooLong)
    → Stops plan first now files (stop_of refusal)
unread_stops plan first then now files next name refusals.Fault since left named failed long refuses = (
  name,
  record { next = next; left = left; name_is = named },
  rose_since _ _ _ (since.later name) (failed refl),
)
unread_stops plan first then now files next name refusals.TooLong since left named failed long refuses =
    let last = long_contents MOST_BYTES _ (long refl) in (
      name,
      record {
        last = last.0;
        left = left_more plan first then files next name last.0 _ since left named last.1 (refuses last.0 last.2);
        name_is = named;
      },
    )
unread_stops plan first then now files next name refusals.NoMemory since left named failed long refuses = tt
