-- Chains of steps, along which the names that are fixed grow by the reserved ones that are taken.
use Rattle.std.specs.Prelude.{◌≡◌, Bool, true, false, [], ℕ, ◌+◌, ◌≤◌, ◌^◌, Some}
use Rattle.ess_semantics.specs.Values.{Text}
use Rattle.ess_semantics.specs.Names.{Names}
use Rattle.ess_semantics.specs.Trees.{Ex, ex2}
use Rattle.ess_semantics.specs.Types.{Ty}
use Rattle.ess_semantics.specs.Contexts.{In, fill}
use Rattle.ess_refine_laws.specs.AllRules.{Rule, equal_matrices_at, rewrite}
use Rattle.ess_given_laws.specs.conjure_model_laws.ToldApart.{told, told_apart}
use Rattle.ess_given_laws.specs.ess_chain_names_laws.Steps.{supply_at, behind_names, Chain}
use Rattle.ess_given_laws.specs.Given.{is_fixed, GivenIn}
use Rattle.ess_given_conditions_laws.specs.GivenAxes.{counts_items}
use Rattle.ess_given_conditions_laws.specs.GrowingNames.{HasNoneFrom, Grows}

-- No index domain that the rule takes counts items.
abbrev pub CountsNothing : Rule → Ex → Type 0
CountsNothing equal_matrices_at (ex2 m o a b) = (counts_items a ≡ false) × (counts_items b ≡ false)
CountsNothing r e = Unit {0}

-- A step of refining, as `IsStep` says, in which comprehensions aren't compared as matrices over index domains.
pub data IsGivenStep : ℕ → Names Ty → Ex → Ex → ℕ → Type 0 where
  by_given_rule : {n m : ℕ} {g : Names Ty} {a b : Ex} (count : ℕ) (rule : Rule) → CountsNothing rule a →
      rewrite (supply_at n count) g rule a ≡ Some b → n + 3 + count ≤ m → behind_names (n + 3 + count) rule a ≤ m → IsGivenStep n g a b m
  by_new_names : {n m : ℕ} {g : Names Ty} {a : Ex} → (told a [] n).1 ≤ m → IsGivenStep n g a (told_apart n a) m

-- The tree has neither a name nor a table with the name of a reserved one from the n-th on, in domains and views too.
pub record SparesAll (n : ℕ) (e : Ex) : Type 0 where
  pub among : Text → Bool
  pub has : is_fixed among e ≡ true
  pub spared : HasNoneFrom n among

-- What is given in the tree is given for names that grow by reserved ones between the n-th and the m-th.
pub record StaysGiven (n m : ℕ) (u : Text → Bool) (e : Ex) : Type 0 where
  pub names : Text → Bool
  pub grow : Grows n m u names
  pub given : GivenIn names e
  pub spares : SparesAll m e

-- What is given stays, at a part and along chains: of no step anything is asked but that it spares names and counts no items.
pub record ChainsKeepGiven : Type 0 where
  pub by_a_step : (u : Text → Bool) (n m : ℕ) (g : Names Ty) (a b : Ex) → IsGivenStep n g a b m → m ≤ 2 ^ 64 → (c : In) →
      HasNoneFrom n u → SparesAll n (fill c a) → GivenIn u (fill c a) → StaysGiven n m u (fill c b)
  pub along : (u : Text → Bool) (n m : ℕ) (g : Names Ty) (old new : Ex) → Chain IsGivenStep n g old new m → m ≤ 2 ^ 64 →
      HasNoneFrom n u → SparesAll n old → GivenIn u old → StaysGiven n m u new
