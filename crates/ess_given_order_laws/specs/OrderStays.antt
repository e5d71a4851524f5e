-- Comprehensions where order counts stay in order: by each rule at its root, at a part, and along chains.
use Rattle.std.specs.Prelude.{◌≡◌, Bool, true, false, ℕ, ◌≤◌, ◌^◌, Some}
use Rattle.ess_semantics.specs.Values.{Text}
use Rattle.ess_semantics.specs.Names.{Names}
use Rattle.ess_semantics.specs.Trees.{Ex, comp_ex, fun1}
use Rattle.ess_semantics.specs.Types.{Ty}
use Rattle.ess_semantics.specs.Contexts.{In, fill}
use Rattle.ess_refine_laws.specs.AllRules.{Rule, least_under_a_condition, Supply, opposite_copied, rewrite}
use Rattle.ess_given_laws.specs.ess_chain_names_laws.Steps.{Chain}
use Rattle.ess_given_laws.specs.Given.{is_fixed, GivenIn}
use Rattle.ess_given_laws.specs.GivenStays.{NewGiven}
use Rattle.ess_given_conditions_laws.specs.GrowingNames.{HasNoneFrom, Grows}
use Rattle.ess_given_conditions_laws.specs.GivenChains.{IsGivenStep, SparesAll}
use Rattle.ess_given_order_laws.specs.InOrder.{in_order, Ordered, InOrder}

-- The copy that a rule takes is in order.
abbrev pub TakesOrder : (Text → Bool) → Supply → Rule → Ex → Type 0
TakesOrder u s least_under_a_condition (fun1 false f (comp_ex e gs)) = InOrder u (opposite_copied s (fun1 false f (comp_ex e gs)))
TakesOrder u s r e = Unit {0}

-- In the tree what is given is given and comprehensions where order counts are in order, for names that grow by reserved ones between the
-- n-th and the m-th.
pub record StaysOrdered (n m : ℕ) (u : Text → Bool) (e : Ex) : Type 0 where
  pub names : Text → Bool
  pub grow : Grows n m u names
  pub given : GivenIn names e
  pub ordered : Ordered names e
  pub spares : SparesAll m e

-- So it stays.
pub record OrderStays : Type 0 where
  pub by_each_rule : (u : Text → Bool) (s : Supply) (g : Names Ty) (r : Rule) (e f : Ex) → rewrite s g r e ≡ Some f → NewGiven u s r e →
      TakesOrder u s r e → GivenIn u e → Ordered u e → Ordered u f
  pub in_its_place : (u : Text → Bool) (s : Supply) (g : Names Ty) (r : Rule) (e f : Ex) → rewrite s g r e ≡ Some f → NewGiven u s r e →
      TakesOrder u s r e → GivenIn u e → Ordered u e → in_order u e ≡ true → in_order u f ≡ true
  pub at_a_part : (u : Text → Bool) (c : In) (a b : Ex) → (Ordered u a → Ordered u b) →
      (Ordered u a → in_order u a ≡ true → in_order u b ≡ true) → (is_fixed u a ≡ true → is_fixed u b ≡ true) → Ordered u (fill c a) →
      Ordered u (fill c b)
  pub along : (u : Text → Bool) (n m : ℕ) (g : Names Ty) (old new : Ex) → Chain IsGivenStep n g old new m → m ≤ 2 ^ 64 →
      HasNoneFrom n u → SparesAll n old → GivenIn u old → Ordered u old → StaysOrdered n m u new
