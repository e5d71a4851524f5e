-- Steps by rules that read the kind of a view: what is given stays, at a part and along chains, for names that grow by those that they
-- take.
use Rattle.std.specs.Prelude.{◌≡◌, Bool, true, ℕ, ◌+◌, ◌≤◌, ◌^◌, Some}
use Rattle.ess_semantics.specs.Values.{Text}
use Rattle.ess_semantics.specs.Names.{Names}
use Rattle.ess_semantics.specs.Trees.{Ex}
use Rattle.ess_semantics.specs.Types.{Ty}
use Rattle.ess_semantics.specs.Contexts.{In, fill}
use Rattle.ess_chain_names_laws.specs.Steps.{supply_at, Chain}
use Rattle.ess_kind_rules_laws.specs.KindRules.{KindRule, kind_rewrite}
use Rattle.ess_given_laws.specs.Given.{is_fixed, GivenIn}
use Rattle.ess_given_laws.specs.GivenStays.{KeepsGiven}
use Rattle.ess_given_conditions_laws.specs.GrowingNames.{HasNoneFrom, Grows}
use Rattle.ess_given_conditions_laws.specs.GivenChains.{SparesAll}
use Rattle.ess_given_order_laws.specs.InOrder.{in_order, Ordered}
use Rattle.ess_given_order_laws.specs.OrderStays.{StaysOrdered}
use Rattle.ess_given_kinds_laws.specs.ess_given_offers_laws.Seen.{Counts}

-- A rule fires with names from the n-th reserved one on, of which count serve as those of components, and leaves the m-th behind.
pub data IsKindStep : ℕ → Names Ty → Ex → Ex → ℕ → Type 0 where
  by_a_kind : {n m : ℕ} {g : Names Ty} {a b : Ex} (count : ℕ) (rule : KindRule) → kind_rewrite (supply_at n count) g rule a ≡ Some b →
      n + 3 + count ≤ m → IsKindStep n g a b m

-- The names of z and those that the step takes keep what is given in what it rewrites, and comprehensions in order.
pub record StepOrders (n m : ℕ) (z : Text → Bool) (a b : Ex) : Type 0 where
  pub names : Text → Bool
  pub grow : Grows n m z names
  pub keep : KeepsGiven names a b
  pub order : GivenIn z a → Ordered names a → Ordered names b
  pub place : GivenIn z a → Ordered names a → in_order names a ≡ true → in_order names b ≡ true

-- So it is at a root that has no reserved name from the n-th on, at a part, and along chains. Sizes may bind a name that is none of these.
pub record KindStepsKeepGiven : Type 0 where
  pub at_a_root : (z w : Text → Bool) (n m : ℕ) (g : Names Ty) (a b : Ex) → IsKindStep n g a b m → m ≤ 2 ^ 64 → Counts z →
      HasNoneFrom n z → HasNoneFrom n w → is_fixed w a ≡ true → StepOrders n m z a b
  pub at_a_part : (u : Text → Bool) (n m : ℕ) (g : Names Ty) (a b : Ex) → IsKindStep n g a b m → m ≤ 2 ^ 64 → (c : In) → Counts u →
      HasNoneFrom n u → SparesAll n (fill c a) → GivenIn u (fill c a) → Ordered u (fill c a) → StaysOrdered n m u (fill c b)
  pub along : (u : Text → Bool) (n m : ℕ) (g : Names Ty) (old new : Ex) → Chain IsKindStep n g old new m → m ≤ 2 ^ 64 → Counts u →
      HasNoneFrom n u → SparesAll n old → GivenIn u old → Ordered u old → StaysOrdered n m u new
