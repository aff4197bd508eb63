-- What names stand for, and which may be defined; `Names` has how they are spelled.
use Rattle.std.specs.Prelude.{ℕ, List, length, Bool, ◌||◌, if◌then◌else◌, nat_le, is_some, Option, Some, None, Result}
use Rattle.std.specs.Prelude.{Ok, Err}
use Rattle.std.specs.HashMap.{get_by}
use Rattle.std.specs.Map.{update}
use Rattle.std.specs.Str.{bytes_eq}
use Rattle.mw_base.specs.declared.cause.Cause.TheVariants.{Twice, ValueTooWide}
use Rattle.mw_base.specs.declared.named as kept
use Rattle.mw_base.specs.declared.refusal.TextFault.{TextFault}
use Rattle.mw_base.specs.declared.token.Token.{Token}
use Rattle.mw_base.specs.Symbols.{spelled}
use Rattle.mw_base.specs.TokenLines.{fault_on}

-- no name stands for anything
abbrev pub no_names : {M : Type 0} → List ℕ → Option M
no_names name = None

-- with one name more
abbrev pub with_name : {M : Type 0} → (List ℕ → Option M) → List ℕ → M → List ℕ → Option M
with_name names name meaning = update bytes_eq names name (Some meaning)

-- a name can be defined that stands for nothing yet, isn't reserved and isn't too long
unfoldable pub new_name : {M : Type 0} → List ℕ → (List ℕ → Option M) → Bool → Token → Result (Unit {0}) TextFault
new_name text names is_reserved token =
    if is_some (names (spelled text token)) || is_reserved then Err (fault_on token Twice)
    else (if nat_le (length (spelled text token)) 64 then Ok tt else Err (fault_on token ValueTooWide))

-- what the names that the code keeps stand for
abbrev pub names_seen : {M : Type 0} → kept.Names.Names M → List ℕ → Option M
names_seen names = λ name. get_by (λ key. bytes_eq name key.now) names.meanings
