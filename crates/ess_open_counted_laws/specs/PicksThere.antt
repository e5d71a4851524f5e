-- Operators on a picked value that is there, and may have nothing themselves, as a quotient in a natural place; and truth values that are
-- picked out of what is picked itself, at an index that may be none.
use Rattle.std.specs.Prelude.{◌≡◌, Bool, true, false, ℕ, List, Option, Some, None, IsTrue, is_some}
use Rattle.ess_semantics.specs.Values.{Text}
use Rattle.ess_semantics.specs.Trees.{Ex, node_ex}
use Rattle.ess_semantics.specs.Meaning.{Env, meaning}
use Rattle.ess_semantics.specs.Kept.{Keeps}
use Rattle.ess_rules_laws.specs.Rules.{Unused, IsNumber}
use Rattle.ess_rules_laws.specs.LiteralRules.{nth}
use Rattle.ess_rules_laws.specs.Listings.{Alternative}
use Rattle.ess_rules_laws.specs.AlternativeLookups.{LooksUpEach, select_each, lookup_through_each, select_whole_each}
use Rattle.ess_refine_laws.specs.AllRules.{OfSome}

-- The operand is there.
abbrev pub OperandThere : Option Ex → Env → Type 0
OperandThere None env = ⊥
OperandThere (Some t) env = IsTrue (is_some (meaning t env))

-- What isn't Boolean has a picked operand that is there, and has a number if it has a value.
abbrev pub FitsOverThere : Bool → Option Ex → Ex → Env → Type 0
FitsOverThere true o e env = Unit {0}
FitsOverThere false o e env = OperandThere o env × OfSome (meaning e env) (λ v. IsNumber (Some v))

-- The alternatives look up the operand, and the root fits.
abbrev pub SelectsThere : ℕ → List Alternative → Ex → Env → Type 0
SelectsThere k l (node_ex b op es) env = LooksUpEach (nth es k) l env × FitsOverThere b (nth es k) (node_ex b op es) env
SelectsThere k l e env = Unit {0}

-- The alternatives look up the k-th operand, and the root is Boolean.
abbrev pub TruthOver : ℕ → List Alternative → Ex → Env → Type 0
TruthOver k l (node_ex true op es) env = LooksUpEach (nth es k) l env
TruthOver k l e env = ⊥

-- So an operator on what is picked keeps its meaning over the alternatives: where it has nothing, the one item of the sum has nothing. And
-- a Boolean that is made of what is picked keeps its meaning over the alternatives that are made of those: where it has nothing their one
-- item is false.
pub record PicksThereKeep : Type 0 where
  pub of_an_operand : (x : Text) (k : ℕ) (l : List Alternative) (e f : Ex) → select_each x k l e ≡ Some f → Unused x e → (env : Env) →
      SelectsThere k l e env → Keeps e f env
  pub of_a_truth : (x y : Text) (k : ℕ) (l m : List Alternative) (e f : Ex) → lookup_through_each y k l e ≡ Some m →
      select_whole_each x m e ≡ Some f → Unused y e → (env : Env) → TruthOver k l e env → Keeps e f env
