-- Each rule that reads no kind and fires at a tree over views keeps it.
use Rattle.std.proofs.Common.{◌≡◌, refl, ℕ, Bool, true, List, Option, Some}
use Rattle.ess_semantics.specs.Values.{Text}
use Rattle.ess_semantics.specs.Names.{Names}
use Rattle.ess_semantics.specs.Trees.{Ex}
use Rattle.ess_semantics.specs.Meaning.{Env}
use Rattle.ess_rules_laws.proofs.FoldRules.{alone-keeps, one-keeps, bare-keeps}
use Rattle.ess_rules_laws.proofs.InclusionRules.{turned-keeps}
use Rattle.ess_rules_laws.proofs.MembershipRules.{member_combined-keeps}
use Rattle.ess_rules_laws.proofs.ChoiceRules.{choices-keep}
use Rattle.ess_refine_laws.specs.AllRules.{Supply, Rule, over_one, over_one_binding, over_a_condition, over_a_source, of_one_source, not_equal, turned, strictly, equal_sets, included_sets, in_two, in_a_term, size as size_rule, choice, condition, rewrite}
use Rattle.ess_refine_laws.proofs.AllRules.{all-keep}
use Rattle.ess_values_along_laws.specs.Valued.{Valued}
use Rattle.ess_rules_values_laws.proofs.RulesKeepValues.{rules-keep-values}
use Rattle.ess_values_terms_laws.proofs.TermsKeepValues.{terms-keep-values}
use Rattle.ess_seen_laws.specs.Seen.{Bound, bound_types, Seen}
use Rattle.ess_seen_laws.specs.MayFire.{may_fire}
use Rattle.ess_seen_laws.specs.Apart.{Apart}
use Rattle.ess_seen_everywhere_laws.specs.Laws.{SeenNumbersAreEverywhere}
use Rattle.ess_seen_values_laws.specs.Laws.{IsMet, StaysAlike}
use Rattle.ess_seen_values_laws.proofs.PlainRules.{one-fits, bare-fits, choices-fit, sized}
use Rattle.ess_seen_values_laws.proofs.SetSigns.{differ-kept, strictly-kept, included-kept, equal-kept, combined-there}
use Rattle.ess_seen_values_laws.proofs.SourcesKept.{source-kept, source-once-kept}
use Rattle.ess_seen_values_laws.proofs.ConditionRules.{condition-keeps}

module _ (every : SeenNumbersAreEverywhere) (cells : Text → Option (Bool × List ℕ)) where
  -- Each of these rules keeps such a tree.
  pub plain-keeps : (s : Supply) (r : Names Bound) (u : Rule) (e f : Ex) {m : Bool} → Seen cells r e m → Apart s.one r e →
      may_fire u ≡ true → rewrite s (bound_types r) u e ≡ Some f → (env : Env) → IsMet cells r e env → (w : Bool) → Valued w e env →
      StaysAlike w e f env
  plain-keeps s r over_one e f h n k q env i w v =
      let c = one-keeps e f q env (one-fits cells env i.holds.typed e f w q h i.met v) i.met in
      record { means = c.0; met = c.1; valued = rules-keep-values s (bound_types r) over_one e f q refl n.unused tt env c.0 w v }
  plain-keeps s r over_one_binding e f h n k q env i w v =
      let c = bare-keeps e f q env (bare-fits cells env i.holds.typed e f w q h i.met v) i.met in
      record { means = c.0; met = c.1; valued = rules-keep-values s (bound_types r) over_one_binding e f q refl n.unused tt env c.0 w v }
  plain-keeps s r over_a_condition e f h n k q env i w v =
      let c = alone-keeps e f q env i.met in
      record { means = c.0; met = c.1; valued = rules-keep-values s (bound_types r) over_a_condition e f q refl n.unused tt env c.0 w v }
  plain-keeps s r over_a_source e f h n k q env i w v = source-kept cells s r e f h n q env i w v
  plain-keeps s r of_one_source e f h n k q env i w v = source-once-kept cells s r e f h n q env i w v
  plain-keeps s r not_equal e f h n k q env i w v =
      let c = differ-kept cells env i.holds.typed e f h q w v i.met in
      record { means = c.0; met = c.1; valued = rules-keep-values s (bound_types r) not_equal e f q refl n.unused tt env c.0 w v }
  plain-keeps s r turned e f h n k q env i w v =
      let c = turned-keeps e f q env i.met in
      record { means = c.0; met = c.1; valued = rules-keep-values s (bound_types r) turned e f q refl n.unused tt env c.0 w v }
  plain-keeps s r strictly e f h n k q env i w v =
      let c = strictly-kept cells env i.holds.typed s.one e f h q i.met in
      record { means = c.0; met = c.1; valued = rules-keep-values s (bound_types r) strictly e f q refl n.unused tt env c.0 w v }
  plain-keeps s r equal_sets e f h n k q env i w v =
      let o = equal-kept cells env i.holds.typed s.one e f h n.unused q in
      let c = o.0 i.met in
      record { means = c.0; met = c.1; valued = terms-keep-values s (bound_types r) equal_sets e f q refl n.unused o.1 env c.0 w v }
  plain-keeps s r included_sets e f h n k q env i w v =
      let c = included-kept cells env i.holds.typed s.one e f h n.unused q w v i.met in
      record { means = c.0; met = c.1; valued = rules-keep-values s (bound_types r) included_sets e f q refl n.unused tt env c.0 w v }
  plain-keeps s r in_two e f h n k q env i w v =
      let c = member_combined-keeps e f q env (combined-there cells env i.holds.typed e f h q i.met w v) i.met in
      record { means = c.0; met = c.1; valued = rules-keep-values s (bound_types r) in_two e f q refl n.unused tt env c.0 w v }
  plain-keeps s r in_a_term e f h n k q env i w v =
      let c = all-keep.each s (bound_types r) in_a_term e f q env i.holds.typed n.unused i.met in
      record { means = c.0; met = c.1; valued = rules-keep-values s (bound_types r) in_a_term e f q refl n.unused tt env c.0 w v }
  plain-keeps s r size_rule e f h n k q env i w v =
      let c = sized cells env i.holds.typed s e f w h i.met v q in
      let d = c.0 in
      record { means = d.0; met = d.1; valued = terms-keep-values s (bound_types r) size_rule e f q refl n.unused c.1 env d.0 w v }
  plain-keeps s r choice e f h n k q env i w v =
      let c = choices-keep e f q env (choices-fit cells env i.holds.typed e f w q h i.met v) i.met in
      record { means = c.0; met = c.1; valued = rules-keep-values s (bound_types r) choice e f q refl n.unused tt env c.0 w v }
  plain-keeps s r condition e f h n k q env i w v = condition-keeps every cells s e f h env i w v q
  plain-keeps s r _ e f h n k q env i w v = cc
