-- What is shown of an operator's node, and trees shown one by one.
use Rattle.std.proofs.Common.{◌≡◌, refl, sym, ap, ◌∙◌, ℕ, ◌≤◌, Bool, List, [], ◌∷◌, ◌++◌, length, take, map, get_or, Option, Some, None}
use Rattle.std.proofs.lemmas.List.{take_all}
use Rattle.ess_semantics.specs.declared.words.Op2.{Op2}
use Rattle.ess_semantics.specs.Values.{Text}
use Rattle.ess_semantics.specs.Names.{Names}
use Rattle.ess_semantics.specs.Trees.{Op, binary, Ex, Exs, name_ex, node_ex, no_exs, more_exs, Gens, over, from, cond, Dom, more_doms}
use Rattle.ess_semantics.specs.Kinds.{doms_of}
use Rattle.ess_core.specs.TreeViews.{Item, over_item, from_item, cond_item, exs_of, gens_of}
use Rattle.ess_core_nodes.specs.declared.nodes.Node.{Node}
use Rattle.ess_core_nodes.specs.NodeViews.{pure_node}
use Rattle.conjure_model_laws.specs.Shown.{Shows, in_place, shown, shown_all, shown_gens, shown_dom, shown_doms}
use Rattle.ess_model_shown.specs.ShownParts.{second_name, member_name, with_last, shown_item}

-- An operator's node: of `in` the right operand is the last view.
pub op_shown : (sh : Shows) (b : Bool) (op : Op) (es : Exs)
    → shown sh (node_ex b op es) ≡ node_ex b op (with_last sh.last (member_name op es) (shown_all sh es))
op_shown sh b (binary Op2.Member) (more_exs e (more_exs (name_ex a) no_exs)) = refl
op_shown sh b op es = refl

-- The node that is made of what is shown of the operands.
pub op_node_shown : (sh : Shows) (b : Bool) (op : Op) (es fs : Exs) (n : Ex) → fs ≡ shown_all sh es
    → n ≡ node_ex b op (with_last sh.last (member_name op es) fs) → n ≡ shown sh (node_ex b op es)
op_node_shown sh b op es fs n p e = e ∙ ap (λ fs. node_ex b op (with_last sh.last (member_name op es) fs)) p ∙ sym (op_shown sh b op es)

-- What stands for a name comes behind the first.
pub last_put : (vs : Names Ex) (a : Text) (ns new : List Node) (n : Node) → new ≡ take 1 ns ++ n ∷ [] → pure_node n ≡ in_place vs a
    → exs_of (map pure_node new) ≡ with_last vs (Some a) (exs_of (map pure_node ns))
last_put vs a [] new n p e = ap (λ l. exs_of (map pure_node l)) p ∙ ap (λ x. more_exs x no_exs) e
last_put vs a (m ∷ ns) new n p e = ap (λ l. exs_of (map pure_node l)) p ∙ ap (λ x. more_exs (pure_node m) (more_exs x no_exs)) e

-- The second of two nodes.
pub second_of : (ns : List Node) (y : Node) → length ns ≡ 2 → y ≡ get_or ns 1 y
    → second_name (exs_of (map pure_node ns)) ≡ second_name (more_exs (pure_node y) (more_exs (pure_node y) no_exs))
second_of [] y h e = cc
second_of (x ∷ []) y h e = cc
second_of (x ∷ z ∷ []) y h e = go (pure_node z) (pure_node y) (ap pure_node e)
  where
    any_first : (b x : Ex) → second_name (more_exs x (more_exs b no_exs)) ≡ second_name (more_exs b (more_exs b no_exs))
    any_first (name_ex a) x = refl
    any_first b x = refl

    go : (a b : Ex) → b ≡ a → second_name (more_exs (pure_node x) (more_exs a no_exs)) ≡ second_name (more_exs b (more_exs b no_exs))
    go a b p = sym (ap (λ b. second_name (more_exs (pure_node x) (more_exs b no_exs))) p) ∙ any_first b (pure_node x)
second_of (x ∷ z ∷ w ∷ ns) y h e = cc

-- Other numbers of nodes have no second one of two.
pub second_none : (ns : List Node) → (length ns ≡ 2 → ⊥) → None ≡ second_name (exs_of (map pure_node ns))
second_none [] h = refl
second_none (x ∷ []) h = refl
second_none (x ∷ z ∷ []) h = absurd (h refl)
second_none (x ∷ z ∷ w ∷ ns) h = go (pure_node z)
  where
    go : (a : Ex) → None ≡ second_name (more_exs (pure_node x) (more_exs a (more_exs (pure_node w) (exs_of (map pure_node ns)))))
    go (name_ex a) = refl
    go a = refl

-- ---- several trees

-- Operands one by one.
pub all_shown : (sh : Shows) (es : List Ex) → shown_all sh (exs_of es) ≡ exs_of (map (shown sh) es)
all_shown sh [] = refl
all_shown sh (e ∷ es) = ap (λ l. more_exs (shown sh e) l) (all_shown sh es)

-- Domains one by one.
pub doms_shown : (sh : Shows) (ds : List Dom) → shown_doms sh (doms_of ds) ≡ doms_of (map (shown_dom sh) ds)
doms_shown sh [] = refl
doms_shown sh (d ∷ ds) = ap (λ l. more_doms (shown_dom sh d) l) (doms_shown sh ds)

-- Generators and conditions one by one.
pub gens_shown : (sh : Shows) (is : List Item) → shown_gens sh (gens_of is) ≡ gens_of (map (shown_item sh) is)
gens_shown sh [] = refl
gens_shown sh (over_item p d ∷ is) = ap (λ gs. over p (shown_dom sh d) gs) (gens_shown sh is)
gens_shown sh (from_item p e ∷ is) = ap (λ gs. from p (shown sh e) gs) (gens_shown sh is)
gens_shown sh (cond_item e ∷ is) = ap (λ gs. cond (shown sh e) gs) (gens_shown sh is)

-- What is made one by one of a list is made of all of it behind its last place.
pub all_made : {A B C : Type 0} (f : A → B) (g : B → C) (xs : List A) (i : ℕ) (made : List C) → length xs ≤ i
    → made ≡ map g (map f (take i xs)) → made ≡ map g (map f xs)
all_made f g xs i made le e = e ∙ ap (λ l. map g (map f l)) (take_all i xs le)
