-- The items of literals as alternatives, one by one.
use Rattle.std.proofs.Common.{◌≡◌, refl, sym, ap, ◌∙◌, ℕ, ◌+◌, ◌<◌, List, [], ◌∷◌, ◌++◌, length, map, reverse, take, drop, get_or}
use Rattle.std.proofs.lemmas.List.{append_assoc, map_push, reverse-append, take_more, drop_more}
use Rattle.ess_semantics.specs.Trees.{Ex}
use Rattle.ess_core.specs.TreeViews.{exs_of}
use Rattle.ess_core_nodes.specs.declared.nodes.Node.{Node}
use Rattle.ess_core_nodes.specs.declared.nodes.Gen.{Gen}
use Rattle.ess_core_nodes.specs.NodeViews.{pure_node, pure_gens}
use Rattle.ess_rules_laws.specs.Listings as listings
use Rattle.ess_rules_laws.specs.Listings.{each_item, each_first, none_of}
use Rattle.ess_rules_forms.specs.declared.alternatives.Alternative.{Alternative}
use Rattle.ess_rules_forms.specs.PureAlternatives.{pure_alternative}
use Rattle.ess_rules_sources.specs.PureAlternatives.{alternative_of}
use Rattle.ess_rules_listings.specs.ListedTerms.{item_alone, unless_apart}

-- Each item by itself.
pub items_alone : (es : List Ex) → each_item (exs_of es) ≡ map item_alone es
items_alone [] = refl
items_alone (a ∷ es) = ap (λ l. item_alone a ∷ l) (items_alone es)

-- What is before the next place is the item there and what is before it, the newest first.
pub before_next : (ns : List Node) (i : ℕ) (x : Node) → i < length ns → x ≡ get_or ns i x
    → reverse (map pure_node (take (i + 1) ns)) ≡ pure_node x ∷ reverse (map pure_node (take i ns))
before_next ns i x lt is =
    ap (λ l. reverse (map pure_node l)) (take_more ns i x lt ∙ ap (λ z. take i ns ++ z ∷ []) (sym is))
    ∙ ap reverse (map_push pure_node (take i ns) x)
    ∙ reverse-append (map pure_node (take i ns)) (pure_node x ∷ [])

-- That an item is none of those before the next place.
pub none_more : (ns : List Node) (i : ℕ) (x a : Node) (gs hs : List Gen) → i < length ns → x ≡ get_or ns i x
    → pure_gens hs ≡ unless_apart (pure_node x) (pure_node a) (pure_gens gs)
    → pure_gens gs ≡ none_of (reverse (map pure_node (take i ns))) (pure_node a)
    → pure_gens hs ≡ none_of (reverse (map pure_node (take (i + 1) ns))) (pure_node a)
none_more ns i x a gs hs lt is here before =
    here
    ∙ ap (unless_apart (pure_node x) (pure_node a)) before
    ∙ ap (λ l. none_of l (pure_node a)) (sym (before_next ns i x lt is))

-- Each item where it is none of those before it, one more.
pub first_more : (ns : List Node) (i : ℕ) (x : Node) → i < length ns → x ≡ get_or ns i x
    → each_first (reverse (map pure_node (take i ns))) (exs_of (map pure_node (drop i ns)))
    ≡ alternative_of (none_of (reverse (map pure_node (take i ns))) (pure_node x)) (pure_node x)
    ∷ each_first (reverse (map pure_node (take (i + 1) ns))) (exs_of (map pure_node (drop (i + 1) ns)))
first_more ns i x lt is =
    ap (λ l. each_first (reverse (map pure_node (take i ns))) (exs_of (map pure_node l)))
    (drop_more ns i x lt ∙ ap (λ z. z ∷ drop (i + 1) ns) (sym is))
    ∙ ap (λ l. alternative_of (none_of (reverse (map pure_node (take i ns))) (pure_node x)) (pure_node x)
    ∷ each_first l (exs_of (map pure_node (drop (i + 1) ns)))) (sym (before_next ns i x lt is))

-- The same behind those that are there.
pub first_behind : (all : List Alternative) (a : Alternative) (ns : List Node) (i : ℕ) (x : Node) (r : List listings.Alternative)
    → i < length ns → x ≡ get_or ns i x
    → pure_alternative a ≡ alternative_of (none_of (reverse (map pure_node (take i ns))) (pure_node x)) (pure_node x)
    → map pure_alternative all ++ each_first (reverse (map pure_node (take i ns))) (exs_of (map pure_node (drop i ns))) ≡ r
    → map pure_alternative (all ++ a ∷ [])
    ++ each_first (reverse (map pure_node (take (i + 1) ns))) (exs_of (map pure_node (drop (i + 1) ns))) ≡ r
first_behind all a ns i x r lt is here before =
    ap (λ l. l ++ each_first (reverse (map pure_node (take (i + 1) ns))) (exs_of (map pure_node (drop (i + 1) ns))))
    (map_push pure_alternative all a)
    ∙ append_assoc (map pure_alternative all) (pure_alternative a ∷ [])
    (each_first (reverse (map pure_node (take (i + 1) ns))) (exs_of (map pure_node (drop (i + 1) ns))))
    ∙ ap (λ z. map pure_alternative all ++ z
    ∷ each_first (reverse (map pure_node (take (i + 1) ns))) (exs_of (map pure_node (drop (i + 1) ns)))) here
    ∙ ap (λ l. map pure_alternative all ++ l) (sym (first_more ns i x lt is))
    ∙ before
