-- What is given in domains, and comprehensions where order counts, stay where conditions are gathered, and by each rule of comprehensions
-- whose items have an order.
use Rattle.std.specs.Prelude.{◌≡◌, Bool, true, Some}
use Rattle.ess_semantics.specs.Values.{Text}
use Rattle.ess_semantics.specs.Names.{Names}
use Rattle.ess_semantics.specs.Trees.{Ex}
use Rattle.ess_semantics.specs.Types.{Ty}
use Rattle.ess_refine_laws.specs.AllRules.{Supply}
use Rattle.ess_gathered_laws.specs.GatheredConditions.{conditions_gathered}
use Rattle.ess_ordered_laws.specs.OrderedRules.{OrderedRule, ordered_rewrite}
use Rattle.ess_given_laws.specs.Given.{is_fixed, GivenIn}
use Rattle.ess_given_order_laws.specs.InOrder.{in_order, Ordered}
use Rattle.ess_given_offers_laws.specs.Seen.{Counts}
use Rattle.ess_given_ordered_laws.specs.OrderedNames.{NewOrdered}

-- So each of these rules keeps what is given, and what is fixed; comprehensions where order counts stay in order, and so does one that
-- stands where order counts itself. The lookup of what a comprehension runs over may count the members of domains.
pub record OrderedStays : Type 0 where
  pub given : (u : Text → Bool) (s : Supply) (g : Names Ty) (r : OrderedRule) (e f : Ex) → ordered_rewrite s g r e ≡ Some f → Counts u →
      NewOrdered u s g r e → GivenIn u e → GivenIn u f
  pub fixed : (u : Text → Bool) (s : Supply) (g : Names Ty) (r : OrderedRule) (e f : Ex) → ordered_rewrite s g r e ≡ Some f → Counts u →
      NewOrdered u s g r e → is_fixed u e ≡ true → is_fixed u f ≡ true
  pub ordered : (u : Text → Bool) (s : Supply) (g : Names Ty) (r : OrderedRule) (e f : Ex) → ordered_rewrite s g r e ≡ Some f →
      NewOrdered u s g r e → Ordered u e → Ordered u f
  pub in_its_place : (u : Text → Bool) (s : Supply) (g : Names Ty) (r : OrderedRule) (e f : Ex) → ordered_rewrite s g r e ≡ Some f →
      NewOrdered u s g r e → Ordered u e → in_order u e ≡ true → in_order u f ≡ true

-- The rule that gathers conditions takes no names.
pub record GatheringStays : Type 0 where
  pub given : (u : Text → Bool) (e f : Ex) → conditions_gathered e ≡ Some f → GivenIn u e → GivenIn u f
  pub fixed : (u : Text → Bool) (e f : Ex) → conditions_gathered e ≡ Some f → is_fixed u e ≡ true → is_fixed u f ≡ true
  pub ordered : (u : Text → Bool) (e f : Ex) → conditions_gathered e ≡ Some f → Ordered u e → Ordered u f
  pub in_its_place : (u : Text → Bool) (e f : Ex) → conditions_gathered e ≡ Some f → Ordered u e → in_order u f ≡ true
