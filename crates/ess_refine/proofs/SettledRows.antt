-- Rows of nodes, domains and generators, settled item by item.
use Rattle.std.proofs.Common.{◌≡◌, sym, subst, ℕ, ◌+◌, ◌<◌, ◌≤◌, List, [], ◌∷◌, length, map, drop, get_or}
use Rattle.std.proofs.lemmas.List.{at_drop_more, at_drop_all}
use Rattle.ess_semantics.specs.Names.{Names}
use Rattle.ess_semantics.specs.Trees.{no_exs, more_exs, no_gens, no_doms, more_doms}
use Rattle.ess_semantics.specs.Types.{Ty}
use Rattle.ess_semantics.specs.NamesAt.{names_behind}
use Rattle.ess_core.specs.TreeViews.{Item, over_item, from_item, cond_item, gens_of}
use Rattle.ess_core_nodes.specs.declared.nodes.Node.{Node}
use Rattle.ess_core_nodes.specs.declared.nodes.Gen.{Gen}
use Rattle.ess_core_nodes.specs.declared.nodes.NodeDom.{NodeDom}
use Rattle.ess_core_nodes.specs.NodeViews.{pure_node, pure_nodes, pure_gen, pure_gens, pure_dom, pure_doms}
use Rattle.ess_refine.specs.Settled.{Settled, AllSettled, GensSettled, DomSettled, DomsSettled, ItemSettled}
use Rattle.ess_refine.proofs.SettledForms.{all_settled_by_parts, gens_settled_by_parts, doms_settled_by_parts}

nodes-left : (n : ℕ) (g : Names Ty) (xs : List Node) (i : ℕ) (x : Node) → i < length xs → x ≡ get_or xs i x → Settled n g (pure_node x)
    → AllSettled n g (pure_nodes (drop (i + 1) xs)) → AllSettled n g (pure_nodes (drop i xs))
nodes-left n g xs i x l is h w =
    subst (AllSettled n g) (sym (at_drop_more pure_nodes xs i x l))
    (all_settled_by_parts n g (more_exs (pure_node (get_or xs i x)) (pure_nodes (drop (i + 1) xs)))
    (subst (λ y. Settled n g (pure_node y)) is h, w))

pub nodes_rest_more : (n : ℕ) (g : Names Ty) (xs : List Node) (i : ℕ) (x : Node) → i < length xs → x ≡ get_or xs i x
    → Settled n g (pure_node x) → (AllSettled n g (pure_nodes (drop i xs)) → AllSettled n g (pure_nodes xs))
    → AllSettled n g (pure_nodes (drop (i + 1) xs)) → AllSettled n g (pure_nodes xs)
nodes_rest_more n g xs i x l is h f w = f (nodes-left n g xs i x l is h w)

pub nodes_rest_all : (n : ℕ) (g : Names Ty) (xs : List Node) (i : ℕ) → length xs ≤ i
    → (AllSettled n g (pure_nodes (drop i xs)) → AllSettled n g (pure_nodes xs)) → AllSettled n g (pure_nodes xs)
nodes_rest_all n g xs i l f =
    f (subst (AllSettled n g) (sym (at_drop_all pure_nodes xs i l)) (all_settled_by_parts n g no_exs tt))

-- The same of domains.
pub doms_rest_more : (n : ℕ) (g : Names Ty) (xs : List NodeDom) (i : ℕ) (x : NodeDom) → i < length xs → x ≡ get_or xs i x
    → DomSettled n g (pure_dom x) → (DomsSettled n g (pure_doms (drop i xs)) → DomsSettled n g (pure_doms xs))
    → DomsSettled n g (pure_doms (drop (i + 1) xs)) → DomsSettled n g (pure_doms xs)
doms_rest_more n g xs i x l is h f w =
    f (subst (DomsSettled n g) (sym (at_drop_more pure_doms xs i x l))
    (doms_settled_by_parts n g (more_doms (pure_dom (get_or xs i x)) (pure_doms (drop (i + 1) xs)))
    (subst (λ y. DomSettled n g (pure_dom y)) is h, w)))

pub doms_rest_all : (n : ℕ) (g : Names Ty) (xs : List NodeDom) (i : ℕ) → length xs ≤ i
    → (DomsSettled n g (pure_doms (drop i xs)) → DomsSettled n g (pure_doms xs)) → DomsSettled n g (pure_doms xs)
doms_rest_all n g xs i l f =
    f (subst (DomsSettled n g) (sym (at_drop_all pure_doms xs i l)) (doms_settled_by_parts n g no_doms tt))

-- The same of generators, under the names of those before.
item-first : (n : ℕ) (g : Names Ty) (i : Item) (is : List Item) → ItemSettled n g i
    → GensSettled n (names_behind (gens_of (i ∷ [])) g) (gens_of is) → GensSettled n g (gens_of (i ∷ is))
item-first n g (over_item p d) is h w = gens_settled_by_parts n g (gens_of (over_item p d ∷ is)) (h, w)
item-first n g (from_item p e) is h w = gens_settled_by_parts n g (gens_of (from_item p e ∷ is)) (h, w)
item-first n g (cond_item e) is h w = gens_settled_by_parts n g (gens_of (cond_item e ∷ is)) (h, w)

pub gens_rest_more : (n : ℕ) (g u v : Names Ty) (xs : List Gen) (i : ℕ) (x : Gen) → i < length xs → x ≡ get_or xs i x
    → ItemSettled n u (pure_gen x) → names_behind (gens_of (pure_gen x ∷ [])) u ≡ v
    → (GensSettled n u (pure_gens (drop i xs)) → GensSettled n g (pure_gens xs))
    → GensSettled n v (pure_gens (drop (i + 1) xs)) → GensSettled n g (pure_gens xs)
gens_rest_more n g u v xs i x l is h b f w =
    f (subst (GensSettled n u) (sym (at_drop_more pure_gens xs i x l))
    (subst (λ y. GensSettled n u (gens_of (pure_gen y ∷ map pure_gen (drop (i + 1) xs)))) is
    (item-first n u (pure_gen x) (map pure_gen (drop (i + 1) xs)) h
    (subst (λ y. GensSettled n y (pure_gens (drop (i + 1) xs))) (sym b) w))))

pub gens_rest_all : (n : ℕ) (g u : Names Ty) (xs : List Gen) (i : ℕ) → length xs ≤ i
    → (GensSettled n u (pure_gens (drop i xs)) → GensSettled n g (pure_gens xs)) → GensSettled n g (pure_gens xs)
gens_rest_all n g u xs i l f =
    f (subst (GensSettled n u) (sym (at_drop_all pure_gens xs i l)) (gens_settled_by_parts n u no_gens tt))
