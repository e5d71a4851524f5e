-- The index domains of the domain that a term follows.
use Rattle.std.proofs.Common.{◌≡◌, refl, sym, ap, ◌∙◌, List, [], ◌∷◌, Option, Some, false}
use Rattle.ess_semantics.specs.Trees.{Step, by_value, index, Exs, no_exs, more_exs, node_ex, Dom, Doms, matrix_dom, more_doms}
use Rattle.ess_core_nodes.specs.declared.nodes.Node.{Node}
use Rattle.ess_core_nodes.specs.NodeViews.{pure_node, pure_nodes}
use Rattle.ess_guard_laws.specs.IndexDomains.{item_dom, dom_behind, dom_followed, first_index}
use Rattle.ess_guard_forms.specs.PartForms.{axes_of, axes_behind, first_axis, inner_axes}

-- The first of them is the first index domain.
pub first_followed : (o : Option Dom) → first_axis (axes_of o) ≡ first_index o
first_followed (Some (matrix_dom (more_doms i is) d)) = refl
first_followed o = refl

inner-of : (o : Option Dom) → axes_of (item_dom o) ≡ inner_axes (axes_of o)
inner-of (Some (matrix_dom (more_doms i (more_doms j is)) d)) = refl
inner-of o = refl

-- Those behind several steps.
pub axes_after : (o : Option Dom) (qs : List Step) (is : Exs) → axes_of (dom_behind o qs is) ≡ axes_behind (axes_of o) qs is
axes_after o [] no_exs = refl
axes_after o (by_value ∷ qs) (more_exs i is) = axes_after (item_dom o) qs is ∙ ap (λ t. axes_behind t qs is) (inner-of o)
axes_after o qs is = refl

-- Those of an index: behind its steps, those of what is indexed.
pub followed_split : (a b : Option Doms) (qs : List Step) (ns : List Node) (m : Node) (is : List Node)
    → ns ≡ m ∷ is
    → a ≡ axes_of (dom_followed (pure_node m))
    → b ≡ axes_behind a qs (pure_nodes is)
    → b ≡ axes_of (dom_followed (node_ex false (index qs) (pure_nodes ns)))
followed_split a b qs ns m is e h k =
    rw e (k ∙ ap (λ t. axes_behind t qs (pure_nodes is)) h ∙ sym (axes_after (dom_followed (pure_node m)) qs (pure_nodes is)))
