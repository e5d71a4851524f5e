-- Lists in place of matrices that aren't numbered from 1: by items, by the type of a view, and by the sources of comprehensions.
use Rattle.std.proofs.Common.{◌≡◌, refl, ap, ◌∙◌, ℕ, zero, suc, ◌+◌, ◌-◌, ◌<◌, Bool, true, false, if◌then◌else◌, List, [], ◌∷◌, length, map, get_or, Option, Some, None, option_map, arith}
use Rattle.ess_semantics.specs.Lists.{and_then}
use Rattle.ess_semantics.specs.Values.{Text, a_matrix}
use Rattle.ess_semantics.specs.Names.{Names}
use Rattle.ess_semantics.specs.NamesAt.{names_behind}
use Rattle.ess_semantics.specs.Trees.{by_value, index, matrix_literal, name_pat, Ex, node_ex, matrix_ex, seen_ex, comp_ex, no_exs, more_exs, Gens, from, Dom, ex2}
use Rattle.ess_semantics.specs.Types.{Ty, compound2}
use Rattle.ess_core.specs.TreeViews.{exs_of}
use Rattle.ess_core_nodes.specs.declared.nodes.Node.{Node}
use Rattle.ess_core_nodes.specs.NodeViews.{pure_node, pure_nodes}
use Rattle.ess_refine_laws.specs.AllRules.{Supply}
use Rattle.ess_ordered_laws.specs.IndexedSources.{items_at}
use Rattle.ess_guard_forms.proofs.Weights.{weight, weights}
use Rattle.ess_rules_forms.specs.Forms.{truth_pair, of_pair}
use Rattle.ess_rules_ordered.specs.IndexForms.{item_of_matrix}
use Rattle.ess_numbered_laws.specs.ListedPicks.{view_as_list, with_lists, each_with_lists, listed_term, listed_source, listed_behind, lists_picked}
use Rattle.ess_rules_numbered.specs.CountedForms.{item_at}
use Rattle.ess_rules_numbered.specs.BehindForms.{behind_parts, with_source, item_parts}
use Rattle.ess_rules_numbered.specs.ListedForms.{as_list, within_items, lists_here}
use Rattle.ess_rules_numbered.proofs.BehindForms.{of-source, source_by_parts}
use Rattle.ess_rules_numbered.proofs.MostWeights.{lighter_item}

-- ---- a view

-- By the type of its items.
pub view_by_type : (z : Text) (v : Ex) (t : Ty) (d : Dom) → view_as_list z v t (Some d) ≡ elim (item_of_matrix (Some t)) [
  | None ↦ v
  | Some u ↦ items_at z d v u
]
view_by_type z v (compound2 a_matrix i u) d = refl
view_by_type z v t d = refl

-- ---- terms

-- By whether the term is an item of a list.
pub lists_by_item : (z : Text) (k : ℕ) (e : Ex) → with_lists z k e ≡ elim (item_parts e) [
  | None ↦ lists_here z k e
  | Some p ↦ if p.0 then lists_here z k e else item_at false (with_lists z (suc k) p.1.0) p.1.1
]
lists_by_item z k (node_ex false (index (by_value ∷ [])) (more_exs t (more_exs i no_exs))) = refl
lists_by_item z zero (node_ex true (index (by_value ∷ [])) (more_exs t (more_exs i no_exs))) = refl
lists_by_item z (suc k) (node_ex true (index (by_value ∷ [])) (more_exs t (more_exs i no_exs))) = refl
lists_by_item z (suc k) (node_ex false matrix_literal es) = refl
lists_by_item z (suc k) (matrix_ex es d) = refl
lists_by_item z zero (matrix_ex es d) = refl
lists_by_item z zero (seen_ex r d ns es) = refl
lists_by_item z zero e = refl
lists_by_item z (suc k) e = refl

-- By whether an index is left.
pub lists_at_none : (z : Text) (k : ℕ) (e : Ex) → k ≡ 0 → as_list z e ≡ lists_here z k e
lists_at_none z zero e h = refl
lists_at_none z (suc k) e h = absurd (omega (arith, h))

pub lists_at_more : (z : Text) (k : ℕ) (e : Ex) → (k ≡ 0 → ⊥) → within_items z (k - 1) e ≡ lists_here z k e
lists_at_more z zero e h = absurd (h refl)
lists_at_more z (suc k) e h = let p : suc k - 1 ≡ k = omega arith in ap (λ i. within_items z i e) p

each-of-all : (z : Text) (k : ℕ) (es : List Ex) → exs_of (map (with_lists z k) es) ≡ each_with_lists z k (exs_of es)
each-of-all z k [] = refl
each-of-all z k (e ∷ es) = ap (more_exs (with_lists z k e)) (each-of-all z k es)

-- Several, one by one.
pub each_by_one : (z : Text) (k : ℕ) (ts ns : List Node) → map pure_node ns ≡ map (with_lists z k) (map pure_node ts)
    → pure_nodes ns ≡ each_with_lists z k (pure_nodes ts)
each_by_one z k ts ns h = ap exs_of h ∙ each-of-all z k (map pure_node ts)

-- ---- weights

abbrev weight-listed : Option (Bool × (Ex × Ex)) → ℕ
weight-listed None = 0
weight-listed (Some p) = weight p.1.0

-- A list weighs less than its item.
pub lighter_list : (e a i : Ex) (b : Bool) → item_parts e ≡ Some (b, (a, i)) → 1 + weight a < 1 + weight e
lighter_list (node_ex c (index (by_value ∷ [])) (more_exs t (more_exs j no_exs))) a i b h =
    let w : weight t ≡ weight a = ap weight-listed h in omega (arith, w)
lighter_list e a i b h = absurd cc

-- An item of a row weighs less than the row.
pub lighter_of_row : (ns : List Node) (k : ℕ) (x : Node) → k < length ns → x ≡ get_or ns k x
    → 1 + weight (pure_node x) < 1 + weights (pure_nodes ns)
lighter_of_row ns k x h is = let l : weight (pure_node x) < weights (pure_nodes ns) = lighter_item ns k x h is in omega (arith, l)

-- ---- a comprehension

first-listed : (s : Supply) (g : Names Ty) (e : Ex) (hs : Gens) → listed_source s g (comp_ex e hs) ≡ of-source (listed_term s g) e hs
first-listed s g e (from (name_pat y) t hs) = refl
first-listed s g e hs = refl

-- By its source at the first generator that isn't plain.
pub listed_by_parts : (s : Supply) (g : Names Ty) (e : Ex) → listed_behind s g e
    ≡ and_then (behind_parts e) (λ p. option_map (with_source p) (listed_term s (names_behind p.before g) p.source))
listed_by_parts s g e = source_by_parts g (listed_term s) (listed_source s) (first-listed s) e

-- ---- where such a comprehension stands

-- By the parts of an item, else by both sides.
pub picked_by_form : (s : Supply) (g : Names Ty) (e : Ex) → lists_picked s g e ≡ elim (item_parts e) [
  | None ↦ of_pair (lists_picked s g) (truth_pair e)
  | Some p ↦ option_map (λ c. item_at p.0 c p.1.1) (listed_behind s g p.1.0)
]
picked_by_form s g (node_ex b (index (by_value ∷ [])) (more_exs a (more_exs i no_exs))) = refl
picked_by_form s g (ex2 true o a b) = refl
picked_by_form s g (node_ex true o es) = refl
picked_by_form s g (node_ex false o es) = refl
picked_by_form s g e = refl
