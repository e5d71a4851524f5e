-- Scalars among nodes, one by one.
use Rattle.std.proofs.Common.{◌≡◌, sym, ap, ◌∙◌, ℕ, ◌+◌, ◌<◌, ◌≤◌, true, false, ◌&&◌, List, length, drop, get_or}
use Rattle.std.proofs.lemmas.List.{at_drop_more, at_drop_all}
use Rattle.std.specs.List.{list_all}
use Rattle.ess_semantics.specs.Names.{Names}
use Rattle.ess_semantics.specs.Types.{Ty}
use Rattle.ess_semantics.specs.Typing.{type_of, types_of}
use Rattle.ess_core_nodes.specs.NodeViews.{pure_node, pure_nodes}
use Rattle.ess_core_nodes.specs.declared.nodes.Node.{Node}
use Rattle.ess_refine_laws.specs.ScalarItems.{is_scalar}

left : (xs : List Node) (i : ℕ) (x : Node) (g : Names Ty) → i < length xs → x ≡ get_or xs i x
    → list_all is_scalar (types_of (pure_nodes (drop i xs)) g)
    ≡ (is_scalar (type_of (pure_node x) g) && list_all is_scalar (types_of (pure_nodes (drop (i + 1) xs)) g))
left xs i x g h is =
    at_drop_more (λ l. list_all is_scalar (types_of (pure_nodes l) g)) xs i x h
    ∙ ap (λ y. is_scalar (type_of (pure_node y) g) && list_all is_scalar (types_of (pure_nodes (drop (i + 1) xs)) g)) (sym is)

pub scalars_more : (xs : List Node) (i : ℕ) (x : Node) (g : Names Ty) → i < length xs → x ≡ get_or xs i x
    → is_scalar (type_of (pure_node x) g) ≡ true
    → list_all is_scalar (types_of (pure_nodes (drop i xs)) g) ≡ list_all is_scalar (types_of (pure_nodes (drop (i + 1) xs)) g)
scalars_more xs i x g h is e = left xs i x g h is ∙ ap (λ b. b && list_all is_scalar (types_of (pure_nodes (drop (i + 1) xs)) g)) e

pub scalars_not : (xs : List Node) (i : ℕ) (x : Node) (g : Names Ty) → i < length xs → x ≡ get_or xs i x
    → is_scalar (type_of (pure_node x) g) ≡ false
    → list_all is_scalar (types_of (pure_nodes (drop i xs)) g) ≡ false
scalars_not xs i x g h is e = left xs i x g h is ∙ ap (λ b. b && list_all is_scalar (types_of (pure_nodes (drop (i + 1) xs)) g)) e

pub scalars_end : (xs : List Node) (i : ℕ) (g : Names Ty) → length xs ≤ i → list_all is_scalar (types_of (pure_nodes (drop i xs)) g) ≡ true
scalars_end xs i g h = at_drop_all (λ l. list_all is_scalar (types_of (pure_nodes l) g)) xs i h
