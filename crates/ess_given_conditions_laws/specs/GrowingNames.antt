-- Sets of names that grow by reserved names alone.
use Rattle.std.specs.Prelude.{◌≡◌, Bool, true, false, ℕ, ◌≤◌, ◌<◌, ◌^◌}
use Rattle.ess_semantics.specs.Values.{Text}
use Rattle.ess_semantics.specs.Order.{same_text}
use Rattle.ess_given_laws.specs.conjure_model_laws.ToldApart.{reserved}

-- The set has no reserved name from the n-th on, below the 2 ^ 64-th.
abbrev pub HasNoneFrom : ℕ → (Text → Bool) → Type 0
HasNoneFrom n u = (j : ℕ) → n ≤ j → j < 2 ^ 64 → u (reserved j) ≡ false

-- The second set has what the first one has; others that it has are reserved names from the n-th on; and it has none from the m-th on.
pub record Grows (n m : ℕ) (u v : Text → Bool) : Type 0 where
  pub more : (a : Text) → u a ≡ true → v a ≡ true
  pub but_reserved : (a : Text) → ((j : ℕ) → n ≤ j → j < 2 ^ 64 → same_text a (reserved j) ≡ false) → v a ≡ u a
  pub none_from : HasNoneFrom m v
