-- Declarations found by name.
use Rattle.std.specs.Prelude.{◌≡◌, ℕ, if◌then◌else◌, List, Option, Some, None, String, string_bytes}
use Rattle.std.specs.Map.{lookup}
use Rattle.std.specs.Str.{bytes_eq}
use Rattle.ess_semantics.specs.Values.{Text}
use Rattle.ess_semantics.specs.Order.{same_text}
use Rattle.eprime_eval_kinds.specs.declared.declared.Shape.{Shape}
use Rattle.eprime_eval_kinds.specs.Shapes.{first_place}

-- A map has for each name the number of its first declaration.
abbrev pub Places : {A : Type 0} → List Shape → List (String A × ℕ) → Type 0
Places ss es = (a : Text) → lookup (λ k. bytes_eq a (string_bytes k)) es ≡ first_place ss a

-- The first of two that is there.
abbrev pub first_of : {A : Type 0} → Option A → Option A → Option A
first_of None o = o
first_of (Some x) o = Some x

-- A map with the number n for one name more, where it has none for it yet.
abbrev pub Noted : {A : Type 0} → Text → ℕ → List (String A × ℕ) → List (String A × ℕ) → Type 0
Noted name n es fs =
    (a : Text) → lookup (λ k. bytes_eq a (string_bytes k)) fs
    ≡ first_of (lookup (λ k. bytes_eq a (string_bytes k)) es) (if same_text name a then Some n else None)
