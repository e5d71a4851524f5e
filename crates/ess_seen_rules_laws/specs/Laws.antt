-- The law of rules that fire in trees over views of sets, stated at a function that does nothing.
use Rattle.std.specs.Prelude.{◌≡◌, ◌⊎◌, ℕ, Bool, true, Option, Some, None, List}
use Rattle.ess_semantics.specs.Values.{Text}
use Rattle.ess_semantics.specs.Names.{Names}
use Rattle.ess_semantics.specs.Trees.{Ex}
use Rattle.ess_semantics.specs.Types.{Ty}
use Rattle.ess_refine_laws.specs.AllRules.{Supply, Rule, rewrite}
use Rattle.ess_gathered_laws.specs.GatheredConditions.{conditions_gathered}
use Rattle.ess_open_rules_laws.specs.OpenRules.{KindRuling, kind_ruled}
use Rattle.ess_ordered_laws.specs.OrderedRules.{OrderedRule, ordered_rewrite}
use Rattle.ess_numbered_laws.specs.NumberRules.{NumberRule, number_rewrite}
use Rattle.ess_seen_laws.specs.Seen.{Kind, Bound, bound_types, Seen, SetTerm}
use Rattle.ess_seen_laws.specs.SeenParts.{Items, IsStill}
use Rattle.ess_seen_laws.specs.MayFire.{may_fire, may_fire_by_kind, CountsMembers}

-- No rule fires at the root, whatever it takes and whatever the types of names are.
pub record NoneFires (e : Ex) : Type 0 where
  pub plainly : (s : Supply) (g : Names Ty) (u : Rule) → rewrite s g u e ≡ None
  pub by_kind : (s : Supply) (g : Names Ty) (u : KindRuling) → kind_ruled s g u e ≡ None
  pub gathering : conditions_gathered e ≡ None
  pub in_order : (s : Supply) (g : Names Ty) (u : OrderedRule) → ordered_rewrite s g u e ≡ None
  pub by_number : (s : Supply) (g : Names Ty) (u : NumberRule) → number_rewrite s g u e ≡ None

-- At the root of a tree over views only the rules fire that are told, whatever they take, and the one that counts members of sets, which
-- isn't used there: none gathers conditions, asks for an order or counts the items of a source. None at all fires at a set, at a list, at
-- an index of a view or in a number of slots.
pub record FewRulesFire : Type 0 where
  pub plainly : (cells : Text → Option (Bool × List ℕ)) (s : Supply) (r : Names Bound) (u : Rule) (e f : Ex) (m : Bool) → Seen cells r e m →
      rewrite s (bound_types r) u e ≡ Some f → (may_fire u ≡ true) ⊎ CountsMembers (bound_types r) u e
  pub by_kind : (cells : Text → Option (Bool × List ℕ)) (s : Supply) (r : Names Bound) (u : KindRuling) (e f : Ex) (m : Bool) →
      Seen cells r e m → kind_ruled s (bound_types r) u e ≡ Some f → may_fire_by_kind u ≡ true
  pub gathering : (cells : Text → Option (Bool × List ℕ)) (r : Names Bound) (e : Ex) (m : Bool) → Seen cells r e m →
      conditions_gathered e ≡ None
  pub in_order : (cells : Text → Option (Bool × List ℕ)) (s : Supply) (r : Names Bound) (u : OrderedRule) (e : Ex) (m : Bool) →
      Seen cells r e m → ordered_rewrite s (bound_types r) u e ≡ None
  pub by_number : (cells : Text → Option (Bool × List ℕ)) (s : Supply) (r : Names Bound) (u : NumberRule) (e : Ex) (m : Bool) →
      Seen cells r e m → number_rewrite s (bound_types r) u e ≡ None
  pub at_a_set : (cells : Text → Option (Bool × List ℕ)) (r : Names Bound) (e : Ex) (k : Kind) → SetTerm cells r e k → NoneFires e
  pub at_a_list : (cells : Text → Option (Bool × List ℕ)) (r : Names Bound) (e : Ex) (m : Bool) → Items cells r e m → NoneFires e
  pub at_a_still_part : (r : Names Bound) (e : Ex) → IsStill r e → NoneFires e
