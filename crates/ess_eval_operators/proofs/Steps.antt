-- The steps of an index.
use Rattle.std.proofs.Common.{◌≡◌, refl, sym, ap, ◌∙◌, ℕ, zero, suc, ◌+◌, ◌<◌, ◌≤◌, List, [], ◌∷◌, length, get_or, drop, Option, Some, None, option_map, arith, false, if◌then◌else◌}
use Rattle.std.proofs.lemmas.List.{at_drop_all, at_drop_more}
use Rattle.ess_semantics.specs.Lists.{and_then, all_some}
use Rattle.ess_semantics.specs.Values.{Value, Values, nil, cons}
use Rattle.ess_semantics.specs.Order.{same}
use Rattle.ess_semantics.specs.Trees.{Step, index}
use Rattle.ess_semantics.specs.Operators.{value_of_node, value_of_op, path_value, item_at, component}
use Rattle.ess_core.specs.declared.values.Val.{Val}
use Rattle.ess_core.specs.ValueViews.{pure_val, pure_vals}

-- A node of an index whose operands have values.
pub node_indexed : (v : Value) (qs : List Step) (os : List (Option Value)) (xs : List Value) → Some xs ≡ all_some os
    → value_of_node (index qs) (Some v ∷ os) ≡ path_value v qs xs
node_indexed v qs os xs e = sym (ap (λ o. and_then (option_map (λ ys. v ∷ ys) o) (value_of_op (index qs))) e)

-- One of whose steps has none.
pub node_not_indexed : (v : Value) (qs : List Step) (os : List (Option Value)) → None ≡ all_some os
    → value_of_node (index qs) (Some v ∷ os) ≡ None
node_not_indexed v qs os e = sym (ap (λ o. and_then (option_map (λ ys. v ∷ ys) o) (value_of_op (index qs))) e)

no_item : (is : Values) (v : Value) → item_at is nil v ≡ None
no_item nil v = refl
no_item (cons i is) v = refl

-- Where the items have ended there is none left.
pub items_ended : (is xs : List Val) (k : ℕ) (v : Value) → length xs ≤ k → item_at (pure_vals (drop k is)) (pure_vals (drop k xs)) v ≡ None
items_ended is xs k v h = at_drop_all (λ l. item_at (pure_vals (drop k is)) (pure_vals l) v) xs k h ∙ no_item (pure_vals (drop k is)) v

-- The next index, where this one is another.
pub next_item : (is xs : List Val) (k : ℕ) (i : Val) (v : Value) → k < length is → k < length xs → i ≡ get_or is k i
    → same (pure_val i) v ≡ false
    → item_at (pure_vals (drop k is)) (pure_vals (drop k xs)) v ≡ item_at (pure_vals (drop (k + 1) is)) (pure_vals (drop (k + 1) xs)) v
next_item is xs k i v h l e n =
    at_drop_more (λ js. item_at (pure_vals js) (pure_vals (drop k xs)) v) is k i h
    ∙ at_drop_more (λ ys. item_at (pure_vals (get_or is k i ∷ drop (k + 1) is)) (pure_vals ys) v) xs k i l
    ∙ ap (λ b. if b then Some (pure_val (get_or xs k i)) else item_at (pure_vals (drop (k + 1) is)) (pure_vals (drop (k + 1) xs)) v)
    (ap (λ j. same (pure_val j) v) (sym e) ∙ n)

-- Components are counted from 1.
pub component_there : (xs : List Val) (k j : ℕ) (x : Val) → k ≡ suc j → j < length xs → x ≡ get_or xs j x
    → Some (pure_val x) ≡ component (pure_vals xs) k
component_there [] k j x e h is = absurd (omega arith)
component_there (y ∷ ys) k zero x e h is = ap (λ z. Some (pure_val z)) is ∙ ap (component (pure_vals (y ∷ ys))) (sym e)
component_there (y ∷ ys) k (suc j) x e h is = component_there ys (suc j) j x refl (omega arith) is
    ∙ ap (component (pure_vals (y ∷ ys))) (sym e)

-- Behind the last one there is none.
pub component_past : (xs : List Val) (k : ℕ) → length xs < k → None ≡ component (pure_vals xs) k
component_past [] k h = refl
component_past (y ∷ ys) zero h = absurd (omega arith)
component_past (y ∷ ys) (suc zero) h = absurd (omega arith)
component_past (y ∷ ys) (suc (suc k)) h = component_past ys (suc k) (omega arith)

pub no_component : (xs : Values) (k : ℕ) → k ≡ 0 → component xs k ≡ None
no_component nil zero h = refl
no_component (cons x xs) zero h = refl
no_component xs (suc k) h = absurd (omega arith)

pub ruleset steps = (node_indexed, node_not_indexed, items_ended, component_there, component_past, no_component)
