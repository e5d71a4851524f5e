-- Chains spare the reserved names that they haven't come to: a tree has none of those that the next step takes.
use Rattle.std.specs.Prelude.{◌≡◌, ℕ, ◌<◌, ◌≤◌, ◌^◌, Bool, true, false, not}
use Rattle.ess_semantics.specs.Values.{Text}
use Rattle.ess_semantics.specs.Order.{same_text}
use Rattle.ess_semantics.specs.Names.{Names}
use Rattle.ess_semantics.specs.Trees.{Ex}
use Rattle.ess_semantics.specs.Types.{Ty}
use Rattle.ess_semantics.specs.Contexts.{In, fill}
use Rattle.ess_semantics.specs.Substitution.{NamesAre}
use Rattle.ess_rules_laws.specs.Rules.{Unused}
use Rattle.conjure_model_laws.specs.ToldApart.{reserved}
use Rattle.ess_chain_names_laws.specs.NamesHave.{NamesHave}
use Rattle.ess_chain_names_laws.specs.Steps.{IsStep, Chain}

-- The tree has no reserved name from the n-th on, below the 2 ^ 64-th.
pub record Spares (n : ℕ) (e : Ex) : Type 0 where
  pub among : Text → Bool
  pub has : NamesHave among e
  pub spared : (j : ℕ) → n ≤ j → j < 2 ^ 64 → among (reserved j) ≡ false

-- What a tree spares a step leaves, behind the names that it takes; so does a chain. Each name that a tree spares is one that it
-- neither uses nor binds; and a tree whose names are all of another kind spares all reserved ones.
pub record ChainsSpareNames : Type 0 where
  pub by_a_step : (n m : ℕ) (g : Names Ty) (a b : Ex) → IsStep n g a b m → (c : In) → Spares n (fill c a) → Spares m (fill c b)
  pub along : (n m : ℕ) (g : Names Ty) (old new : Ex) → Chain IsStep n g old new m → Spares n old → Spares m new
  pub unused : (n j : ℕ) (e : Ex) → Spares n e → n ≤ j → j < 2 ^ 64 → Unused (reserved j) e
  pub unbound : (n j : ℕ) (e : Ex) → Spares n e → n ≤ j → j < 2 ^ 64 → NamesAre (λ a. true) (λ a. not (same_text (reserved j) a)) e
  pub later : (n m : ℕ) (e : Ex) → n ≤ m → Spares n e → Spares m e
