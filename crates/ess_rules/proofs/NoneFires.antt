-- None of the rules that are asked fires: where each is used, and with the names at a number.
use Rattle.std.proofs.Common.{◌≡◌, refl, sym, ap, ◌∙◌, subst, ℕ, ◌+◌, true, false, List, [], ◌∷◌, ◌++◌, Option, None}
use Rattle.std.specs.Prelude.{option_map}
use Rattle.std.specs.List.{list_all, list_any}
use Rattle.ess_semantics.specs.Values.{Text}
use Rattle.ess_semantics.specs.Names.{Names}
use Rattle.ess_semantics.specs.Trees.{Ex}
use Rattle.ess_semantics.specs.Types.{Ty}
use Rattle.ess_semantics.proofs.Tests.{and-left, and-right, or-left-no, or-right-no}
use Rattle.ess_core_nodes.specs.declared.nodes.Node.{Node}
use Rattle.ess_core_nodes.specs.NodeViews.{pure_node}
use Rattle.conjure_model_laws.specs.ToldApart.{reserved, told_apart}
use Rattle.ess_refine_laws.specs.AllRules.{
  Supply,
  rewrite,
  equal_matrices_at,
  included_multisets,
  condition,
  condition_behind,
  least_under_a_condition,
}
use Rattle.ess_rules_listings.specs.Offered.{supply_of}
use Rattle.ess_kind_rules.specs.Supplies.{told_axis}
use Rattle.ess_rules.specs.Ruled.{
  Ruling,
  plainly,
  gathering,
  puts_source,
  MayRule,
  ruled,
  root_of,
  with_new_source,
  reserved_from,
  supply_at,
  first_asked,
  source_rules_asked,
  later_asked,
  extremes_asked,
  NoneOf,
  NoneFires,
}
use Rattle.ess_rules.specs.Supplies.{IsRewritten, IsSourcedBehind, IsRewrittenBehind}
use Rattle.ess_rules.specs.WaitingConditions.{may_leave}
use Rattle.ess_rules.proofs.NoneOfRules.{none_both, none_rewritten}
use Rattle.ess_rules.proofs.Turned.{same-supply, unless, when}

-- ---- where rules are used

-- A rule that puts a source in may be used at each root.
may-sourced : (g : Names Ty) (r : Ruling) (e : Ex) → puts_source r ≡ true → MayRule g r e
may-sourced g (plainly equal_matrices_at) e h = cc
may-sourced g (plainly included_multisets) e h = cc
may-sourced g (plainly condition) e h = cc
may-sourced g (plainly condition_behind) e h = cc
may-sourced g (plainly least_under_a_condition) e h = cc
may-sourced g gathering e h = cc
may-sourced g r e h = tt

module _ (j : ℕ) (s : Supply) (g : Names Ty) (a : Ex) where
  -- Rules that put no source in are used at the root itself.
  pub none_plainly : (rs : List Ruling) → list_any puts_source rs ≡ false → NoneOf (ruled s g) g rs a
      → NoneOf (λ r e. ruled s g r (root_of j r e)) g rs a
  none_plainly [] p h = tt
  none_plainly (r ∷ rs) p h = (
    λ m. ap (ruled s g r) (sym (unless (puts_source r) (with_new_source j a).0 a (or-left-no (puts_source r) (list_any puts_source rs) p)))
        ∙ h.0 m,
    none_plainly rs (or-right-no (puts_source r) (list_any puts_source rs) p) h.1,
  )

  -- Rules that put one in are used where it is told apart.
  pub none_sourced : (rs : List Ruling) → list_all puts_source rs ≡ true → NoneOf (ruled s g) g rs (with_new_source j a).0
      → NoneOf (λ r e. ruled s g r (root_of j r e)) g rs a
  none_sourced [] p h = tt
  none_sourced (r ∷ rs) p h =
      let q : puts_source r ≡ true = and-left (puts_source r) (list_all puts_source rs) p in (
        λ m. ap (ruled s g r) (sym (when (puts_source r) (with_new_source j a).0 a q)) ∙ h.0 (may-sourced g r (with_new_source j a).0 q),
        none_sourced rs (and-right (puts_source r) (list_all puts_source rs) p) h.1,
      )

-- ---- all of them

-- Where none of the four lists fires, none of all rules does, with the names at a number.
pub none_fire : (n k j m i : ℕ) (g : Names Ty) (a : Ex) (y z w : Text) (ys : List Text) (o p q r : Option Node) → y ≡ reserved n
    → z ≡ reserved (n + 1) → w ≡ reserved (n + 2) → ys ≡ reserved_from (n + 3) k → j ≡ n + 3 + k
    → IsRewritten first_asked (supply_of y z w ys told_axis (told_apart j)) g a (option_map pure_node o) → o ≡ None
    → IsSourcedBehind (supply_of y z w ys told_axis (told_apart j)) g a (option_map pure_node p) j m → p ≡ None
    → IsRewritten later_asked (supply_of y z w ys told_axis (told_apart j)) g a (option_map pure_node q) → q ≡ None
    → IsRewrittenBehind (supply_of y z w ys told_axis (told_apart j)) a (option_map pure_node r) j i → r ≡ None
    → NoneFires n g a
none_fire n k j m i g a y z w ys o p q r b c d f e h t l u v x aa bb =
    let s : Supply = supply_of y z w ys told_axis (told_apart j) in
    let same : s ≡ supply_at n k = same-supply n k j y z w ys b c d f e in
    let made : Ruling → Ex → Option Ex = λ r e. ruled (supply_at n k) g r (root_of (n + 3 + k) r e) in
    record {
      count = k;
      none = none_both made g a first_asked (source_rules_asked ++ (later_asked ++ extremes_asked))
          (none_plainly (n + 3 + k) (supply_at n k) g a first_asked refl
          (subst (λ v. NoneOf (ruled v g) g first_asked a) same (none_rewritten s g a o first_asked h t)))
          (none_both made g a source_rules_asked (later_asked ++ extremes_asked)
          (none_sourced (n + 3 + k) (supply_at n k) g a source_rules_asked refl
          (subst (λ v. NoneOf (ruled (supply_at n k) g) g source_rules_asked (with_new_source v a).0) e
          (subst (λ v. NoneOf (ruled v g) g source_rules_asked (with_new_source j a).0) same
          (subst (λ v. IsSourcedBehind s g a (option_map pure_node v) j m) u l))))
          (none_both made g a later_asked extremes_asked
          (none_plainly (n + 3 + k) (supply_at n k) g a later_asked refl
          (subst (λ v. NoneOf (ruled v g) g later_asked a) same (none_rewritten s g a q later_asked v x))) (
            subst (λ v. may_leave a ≡ true → rewrite v [] least_under_a_condition a ≡ None) same
                (subst (λ v. IsRewrittenBehind s a (option_map pure_node v) j i) bb aa),
            tt,
          )));
    }
