-- Components of views, by the parts of the term and of the view.
use Rattle.std.proofs.Common.{◌≡◌, refl, ap, ℕ, zero, suc, ◌-◌, List, [], ◌∷◌, take, drop, Some, None, arith}
use Rattle.ess_semantics.specs.declared.words.ReprKind.{ReprKind}
use Rattle.ess_semantics.specs.Lists.{and_then}
use Rattle.ess_semantics.specs.Representations.{width}
use Rattle.ess_semantics.specs.Values.{Text}
use Rattle.ess_semantics.specs.Trees.{by_value, to_component, to_field, Repr, Reprs, repr, no_reprs, more_reprs, index, Ex, Exs, node_ex, seen_ex, no_exs, more_exs, Dom, Doms, no_doms, more_doms, tuple_dom, record_dom}
use Rattle.ess_views_laws.specs.ComponentViews.{child_at, component_view}
use Rattle.ess_rules_children.specs.Stepped.{stepped, component_of}

-- By the step.
pub component_by_step : (e : Ex) → component_view e ≡ and_then (stepped e) (λ p. component_of p.0 p.1)
component_by_step (node_ex b (index (to_component k ∷ [])) (more_exs (seen_ex (repr ReprKind.Tuple rs) (tuple_dom ds) ns js) no_exs)) = refl
component_by_step (node_ex b (index (to_component k ∷ [])) (more_exs v no_exs)) = refl
component_by_step (node_ex b (index (to_component k ∷ [])) (more_exs v (more_exs u us))) = refl
component_by_step (node_ex b (index (to_component k ∷ [])) no_exs) = refl
component_by_step (node_ex b (index (to_field a ∷ [])) (more_exs (seen_ex (repr ReprKind.Rec rs) (record_dom fs ds) ns js) no_exs)) = refl
component_by_step (node_ex b (index (to_field a ∷ [])) (more_exs v no_exs)) = refl
component_by_step (node_ex b (index (to_field a ∷ [])) (more_exs v (more_exs u us))) = refl
component_by_step (node_ex b (index (to_field a ∷ [])) no_exs) = refl
component_by_step (node_ex b (index (by_value ∷ [])) (more_exs v no_exs)) = refl
component_by_step (node_ex b (index (by_value ∷ [])) (more_exs v (more_exs u us))) = refl
component_by_step (node_ex b (index (by_value ∷ [])) no_exs) = refl
component_by_step e = refl

-- ---- children by their number

pub no_children : (k : ℕ) (ds : Doms) (ns : List Text) (js : Exs) → child_at k no_reprs ds ns js ≡ None
no_children zero ds ns js = refl
no_children (suc zero) ds ns js = refl
no_children (suc (suc k)) ds ns js = refl

pub no_domains : (k : ℕ) (r : Repr) (rs : Reprs) (ns : List Text) (js : Exs) → child_at k (more_reprs r rs) no_doms ns js ≡ None
no_domains zero r rs ns js = refl
no_domains (suc zero) r rs ns js = refl
no_domains (suc (suc k)) r rs ns js = refl

-- The first one.
pub child_first : (k : ℕ) (r : Repr) (rs : Reprs) (d : Dom) (ds : Doms) (ns : List Text) (js : Exs) → k ≡ 1
    → Some (seen_ex r d (take (width r) ns) js) ≡ child_at k (more_reprs r rs) (more_doms d ds) ns js
child_first zero r rs d ds ns js h = absurd (omega (arith, h))
child_first (suc zero) r rs d ds ns js h = refl
child_first (suc (suc k)) r rs d ds ns js h = absurd (omega (arith, h))

-- One behind it is one less of the others.
pub child_next : (k : ℕ) (r : Repr) (rs : Reprs) (d : Dom) (ds : Doms) (ns : List Text) (js : Exs) → (k ≡ 0 → ⊥) → (k ≡ 1 → ⊥)
    → child_at (k - 1) rs ds (drop (width r) ns) js ≡ child_at k (more_reprs r rs) (more_doms d ds) ns js
child_next zero r rs d ds ns js h g = absurd (h refl)
child_next (suc zero) r rs d ds ns js h g = absurd (g refl)
child_next (suc (suc k)) r rs d ds ns js h g =
    let p : suc (suc k) - 1 ≡ suc k = omega arith in ap (λ i. child_at i rs ds (drop (width r) ns) js) p
