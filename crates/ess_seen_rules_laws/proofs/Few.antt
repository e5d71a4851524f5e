-- Which rules fire in trees over views, in one.
use Rattle.std.proofs.Common.{◌≡◌, refl, ℕ, Bool, true, false, List, Option, Some, None}
use Rattle.ess_semantics.specs.Values.{Text}
use Rattle.ess_semantics.specs.Names.{Names}
use Rattle.ess_semantics.specs.Trees.{Ex, fun1}
use Rattle.ess_semantics.specs.declared.words.Fun.{Fun}
use Rattle.ess_refine_laws.specs.AllRules.{Supply}
use Rattle.ess_gathered_laws.specs.GatheredConditions.{conditions_gathered}
use Rattle.ess_open_rules_laws.specs.OpenRules.{KindRuling, of_kind, of_opening, kind_ruled, open_rewrite}
use Rattle.ess_kind_rules_laws.specs.KindRules.{kind_rewrite}
use Rattle.ess_flat_laws.specs.Flat.{denied, both}
use Rattle.ess_seen_laws.specs.ess_bare_laws.Lean.{of_all, of_some, of_sum}
use Rattle.ess_seen_laws.specs.Seen.{Bound, bound_types, so_many, from_to, from_0, subsets, none_below, Seen, number, truth, named, counted, figure, flag, atom, one, two, chosen, folded, of_items, size, within, set_within, compared}
use Rattle.ess_seen_laws.specs.Laws.{SeenTreesHaveTypes}
use Rattle.ess_seen_laws.specs.MayFire.{may_fire_by_kind, may_fire_at_views, may_fire_at_sources}
use Rattle.ess_seen_rules_laws.specs.Laws.{FewRulesFire}
use Rattle.ess_seen_rules_laws.proofs.Allowed.{allowed-so}
use Rattle.ess_seen_rules_laws.proofs.PlainRules.{fires}
use Rattle.ess_seen_rules_laws.proofs.KindRules.{kind-allowed}
use Rattle.ess_seen_rules_laws.proofs.OpenRules.{open-allowed}
use Rattle.ess_seen_rules_laws.proofs.OrderRules.{no-order}
use Rattle.ess_seen_rules_laws.proofs.NumberRules.{no-number}
use Rattle.ess_seen_rules_laws.proofs.SetsRest.{sets-rest}
use Rattle.ess_seen_rules_laws.proofs.ListsRest.{lists-rest}
use Rattle.ess_seen_rules_laws.proofs.StillRest.{still-rest}

module _ (cells : Text → Option (Bool × List ℕ)) where
  kinds-fire : (s : Supply) (r : Names Bound) (u : KindRuling) (e f : Ex) (m : Bool) → Seen cells r e m →
      kind_ruled s (bound_types r) u e ≡ Some f → may_fire_by_kind u ≡ true
  kinds-fire s r (of_kind u) e f m h q =
      allowed-so (may_fire_at_views u) (kind_rewrite s (bound_types r) u e) f (kind-allowed cells s (bound_types r) r h u) q
  kinds-fire s r (of_opening u) e f m h q =
      allowed-so (may_fire_at_sources u) (open_rewrite s (bound_types r) u e) f (open-allowed cells s (bound_types r) r h u) q

  chosen-gathers : {r : Names Bound} {x : Ex} {m : Bool} → Seen cells r x m → conditions_gathered (fun1 false Fun.ToInt x) ≡ None
  chosen-gathers number = refl
  chosen-gathers truth = refl
  chosen-gathers (named h k) = refl
  chosen-gathers (figure h i) = refl
  chosen-gathers (flag h i) = refl
  chosen-gathers (atom h p) = refl
  chosen-gathers (one o f) = refl
  chosen-gathers (two o f h) = refl
  chosen-gathers (chosen f) = refl
  chosen-gathers (folded w k f) = refl
  chosen-gathers (counted so_many) = refl
  chosen-gathers (counted (from_to q)) = refl
  chosen-gathers (counted from_0) = refl
  chosen-gathers (counted (subsets t)) = refl
  chosen-gathers (counted (none_below t)) = refl
  chosen-gathers (of_items w l) = refl
  chosen-gathers (size h) = refl
  chosen-gathers (within f h) = refl
  chosen-gathers (set_within h k) = refl
  chosen-gathers (compared o h k) = refl

  no-gathering : {r : Names Bound} {e : Ex} {m : Bool} → Seen cells r e m → conditions_gathered e ≡ None
  no-gathering (one denied f) = refl
  no-gathering (two both f h) = refl
  no-gathering (chosen f) = chosen-gathers f
  no-gathering (folded of_all k f) = refl
  no-gathering (folded of_some k f) = refl
  no-gathering (folded of_sum k f) = refl
  no-gathering (of_items of_all l) = refl
  no-gathering (counted so_many) = refl
  no-gathering (counted (from_to q)) = refl
  no-gathering (counted from_0) = refl
  no-gathering (counted (subsets t)) = refl
  no-gathering (counted (none_below t)) = refl
  no-gathering f = refl

-- The law.
pub few-rules-fire : SeenTreesHaveTypes → FewRulesFire
few-rules-fire types = record {
  plainly = λ cells s r u e f m h q. fires types cells s r u e f m h q;
  by_kind = kinds-fire;
  gathering = λ cells r e m h. no-gathering cells h;
  in_order = λ cells s r u e m h. no-order s (bound_types r) cells r h u;
  by_number = λ cells s r u e m h. no-number cells r s (bound_types r) h u;
  at_a_set = λ cells r e k h. sets-rest cells r e k h;
  at_a_list = λ cells r e m h. lists-rest cells r e m h;
  at_a_still_part = λ r e h. still-rest r e h;
}
