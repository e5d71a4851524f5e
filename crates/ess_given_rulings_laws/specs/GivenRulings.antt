-- What is given in domains, and comprehensions in order where order counts, stay along chains of all rules but those of counted sources:
-- those that read no kind, those that do, those of openings, the one that gathers conditions, and those of comprehensions whose items have
-- an order.
use Rattle.std.specs.Prelude.{◌≡◌, Bool, true, Option, Some}
use Rattle.ess_semantics.specs.Values.{Text}
use Rattle.ess_semantics.specs.Names.{Names}
use Rattle.ess_semantics.specs.Trees.{Ex}
use Rattle.ess_semantics.specs.Types.{Ty}
use Rattle.ess_refine_laws.specs.AllRules.{Rule, Supply, rewrite}
use Rattle.ess_open_rules_laws.specs.OpenRules.{KindRuling, of_kind, of_opening, kind_ruled}
use Rattle.ess_gathered_laws.specs.GatheredConditions.{conditions_gathered}
use Rattle.ess_ordered_laws.specs.OrderedRules.{OrderedRule, ordered_rewrite}
use Rattle.ess_given_laws.specs.Given.{is_fixed, GivenIn}
use Rattle.ess_given_laws.specs.GivenStays.{NewGiven}
use Rattle.ess_given_order_laws.specs.InOrder.{in_order, Ordered}
use Rattle.ess_given_order_laws.specs.OrderStays.{TakesOrder}
use Rattle.ess_given_offers_laws.specs.Seen.{Counts}
use Rattle.ess_given_kind_steps_laws.specs.ess_given_kinds_laws.GivenKinds.{NewOfKinds}
use Rattle.ess_given_ordered_laws.specs.ess_given_opened_laws.OpenedStays.{NewOpened}
use Rattle.ess_given_ordered_laws.specs.OrderedNames.{NewOrdered}

-- A rule of each sort but that of counted sources.
pub data GivenRuling : Type 0 where
  plainly : Rule → GivenRuling
  by_kind : KindRuling → GivenRuling
  gathering : GivenRuling
  by_order : OrderedRule → GivenRuling

-- What it makes of the root.
abbrev pub made_by : Supply → Names Ty → GivenRuling → Ex → Option Ex
made_by s g (plainly r) e = rewrite s g r e
made_by s g (by_kind r) e = kind_ruled s g r e
made_by s g gathering e = conditions_gathered e
made_by s g (by_order r) e = ordered_rewrite s g r e

-- Which of the names that it takes belong to u, what index domains and copies it takes, that a source picked in order is picked by what is
-- fixed, and that the items of one that is picked out of written lists are counted by what is. Who uses the rules delivers it: names are
-- reserved ones, of which each belongs to u or not as asked; an index domain is fixed unless it counts the items of a comprehension, and
-- then the domains and conditions of that are fixed, which has no source; and names of an index are bound over domains, or over what is
-- fixed.
abbrev pub Takes : (Text → Bool) → Supply → Names Ty → GivenRuling → Ex → Type 0
Takes u s g (plainly r) e = NewGiven u s r e × TakesOrder u s r e
Takes u s g (by_kind (of_kind r)) e = NewOfKinds u s r e
Takes u s g (by_kind (of_opening r)) e = NewOpened u s g r e
Takes u s g gathering e = Unit {0}
Takes u s g (by_order r) e = NewOrdered u s g r e

-- b is given and fixed where a is, its comprehensions are in order where those of a are, and so is b itself.
pub record StaysInRule (u : Text → Bool) (a b : Ex) : Type 0 where
  pub given : GivenIn u a → GivenIn u b
  pub fixed : is_fixed u a ≡ true → is_fixed u b ≡ true
  pub ordered : GivenIn u a → Ordered u a → Ordered u b
  pub in_its_place : GivenIn u a → Ordered u a → in_order u a ≡ true → in_order u b ≡ true

-- So a rule of any of these sorts does with the root that it rewrites.
abbrev pub RulingsKeepGiven : Type 0
RulingsKeepGiven = (u : Text → Bool) (s : Supply) (g : Names Ty) (r : GivenRuling) (a b : Ex) → made_by s g r a ≡ Some b → Counts u →
    Takes u s g r a → StaysInRule u a b
