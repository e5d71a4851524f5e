-- The law of what rules leave of trees over views of sets, stated at a function that does nothing.
use Rattle.std.specs.Prelude.{◌≡◌, ℕ, Bool, true, Option, Some, List}
use Rattle.ess_semantics.specs.Values.{Text}
use Rattle.ess_semantics.specs.Names.{Names}
use Rattle.ess_semantics.specs.Trees.{Ex}
use Rattle.ess_refine_laws.specs.AllRules.{Supply, Rule, rewrite}
use Rattle.ess_open_rules_laws.specs.OpenRules.{KindRuling, kind_ruled}
use Rattle.ess_seen_laws.specs.Seen.{Bound, bound_types, Seen}
use Rattle.ess_seen_laws.specs.MayFire.{may_fire, may_fire_by_kind}
use Rattle.ess_seen_laws.specs.Apart.{Apart}

-- What a rule that may fire makes of a tree over views is one with the same mark, where names are told apart and the rule takes a new one.
pub record StaysSeen : Type 0 where
  pub plainly : (cells : Text → Option (Bool × List ℕ)) (s : Supply) (r : Names Bound) (u : Rule) (e f : Ex) (m : Bool) → Seen cells r e m →
      Apart s.one r e → may_fire u ≡ true → rewrite s (bound_types r) u e ≡ Some f → Seen cells r f m
  pub by_kind : (cells : Text → Option (Bool × List ℕ)) (s : Supply) (r : Names Bound) (u : KindRuling) (e f : Ex) (m : Bool) →
      Seen cells r e m → Apart s.one r e → may_fire_by_kind u ≡ true → kind_ruled s (bound_types r) u e ≡ Some f → Seen cells r f m
