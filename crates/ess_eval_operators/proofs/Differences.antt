-- Differences of values that have items.
use Rattle.std.proofs.Common.{◌≡◌, sym, ap, ◌∙◌, List, map, not, Some}
use Rattle.std.specs.Prelude.{filter}
use Rattle.ess_semantics.specs.declared.words.Op2.{Op2}
use Rattle.ess_semantics.specs.Values.{Value, node, a_tuple, a_set, a_mset, a_relation, a_partition, of_list, items_of}
use Rattle.ess_semantics.specs.Collections.{holds}
use Rattle.ess_semantics.specs.Operators.{value_of_binary}
use Rattle.ess_semantics.proofs.Orders.{to_list-of_list}
use Rattle.ess_core.specs.declared.values.Val.{Val}
use Rattle.ess_core.specs.declared.values.Val.TheVariants as variant
use Rattle.ess_core.specs.ValueViews.{pure_val}
use Rattle.ess_core.proofs.ValueEquations.{pure_tuple, pure_set, pure_mset, pure_relation, pure_partition}

pub less_tuple : (v : Val) (b : Value) (vs ws : List Val) → v ≡ variant.Tuple vs
    → map pure_val ws ≡ filter (λ x. not (holds (items_of b) x)) (map pure_val vs)
    → Some (pure_val (variant.Tuple ws)) ≡ value_of_binary Op2.Minus (pure_val v) b
less_tuple v b vs ws e h =
    ap Some (pure_tuple ws ∙ ap (λ l. node a_tuple (of_list l)) (h
    ∙ ap (filter (λ x. not (holds (items_of b) x))) (sym (to_list-of_list (map pure_val vs)))))
    ∙ sym (ap (λ w. value_of_binary Op2.Minus (pure_val w) b) e ∙ ap (λ w. value_of_binary Op2.Minus w b) (pure_tuple vs))

pub less_set : (v : Val) (b : Value) (vs ws : List Val) → v ≡ variant.Set vs
    → map pure_val ws ≡ filter (λ x. not (holds (items_of b) x)) (map pure_val vs)
    → Some (pure_val (variant.Set ws)) ≡ value_of_binary Op2.Minus (pure_val v) b
less_set v b vs ws e h =
    ap Some (pure_set ws ∙ ap (λ l. node a_set (of_list l)) (h
    ∙ ap (filter (λ x. not (holds (items_of b) x))) (sym (to_list-of_list (map pure_val vs)))))
    ∙ sym (ap (λ w. value_of_binary Op2.Minus (pure_val w) b) e ∙ ap (λ w. value_of_binary Op2.Minus w b) (pure_set vs))

pub less_mset : (v : Val) (b : Value) (vs ws : List Val) → v ≡ variant.MSet vs
    → map pure_val ws ≡ filter (λ x. not (holds (items_of b) x)) (map pure_val vs)
    → Some (pure_val (variant.MSet ws)) ≡ value_of_binary Op2.Minus (pure_val v) b
less_mset v b vs ws e h =
    ap Some (pure_mset ws ∙ ap (λ l. node a_mset (of_list l)) (h
    ∙ ap (filter (λ x. not (holds (items_of b) x))) (sym (to_list-of_list (map pure_val vs)))))
    ∙ sym (ap (λ w. value_of_binary Op2.Minus (pure_val w) b) e ∙ ap (λ w. value_of_binary Op2.Minus w b) (pure_mset vs))

pub less_relation : (v : Val) (b : Value) (vs ws : List Val) → v ≡ variant.Relation vs
    → map pure_val ws ≡ filter (λ x. not (holds (items_of b) x)) (map pure_val vs)
    → Some (pure_val (variant.Relation ws)) ≡ value_of_binary Op2.Minus (pure_val v) b
less_relation v b vs ws e h =
    ap Some (pure_relation ws ∙ ap (λ l. node a_relation (of_list l)) (h
    ∙ ap (filter (λ x. not (holds (items_of b) x))) (sym (to_list-of_list (map pure_val vs)))))
    ∙ sym (ap (λ w. value_of_binary Op2.Minus (pure_val w) b) e ∙ ap (λ w. value_of_binary Op2.Minus w b) (pure_relation vs))

pub less_partition : (v : Val) (b : Value) (vs ws : List Val) → v ≡ variant.Partition vs
    → map pure_val ws ≡ filter (λ x. not (holds (items_of b) x)) (map pure_val vs)
    → Some (pure_val (variant.Partition ws)) ≡ value_of_binary Op2.Minus (pure_val v) b
less_partition v b vs ws e h =
    ap Some (pure_partition ws ∙ ap (λ l. node a_partition (of_list l)) (h
    ∙ ap (filter (λ x. not (holds (items_of b) x))) (sym (to_list-of_list (map pure_val vs)))))
    ∙ sym (ap (λ w. value_of_binary Op2.Minus (pure_val w) b) e ∙ ap (λ w. value_of_binary Op2.Minus w b) (pure_partition vs))

pub ruleset differences = (less_tuple, less_set, less_mset, less_relation, less_partition)
