-- The parts of a partition that is built.
use Rattle.std.proofs.Common.{◌≡◌, refl, sym, ap, ◌∙◌, Bool, true, false, not, ◌&&◌, ◌==◌, List, [], ◌∷◌, map, length, Some, None, ne_eqb}
use Rattle.ess_semantics.specs.Lists.{when, is_empty, append_all}
use Rattle.ess_semantics.specs.Values.{Value, node, a_partition, of_list, items_of, itself}
use Rattle.ess_semantics.specs.Collections.{sorted, sorted_once, no_twice, partition_of, has_empty_part, has_overlap}
use Rattle.ess_core.specs.declared.values.Val.{Val}
use Rattle.ess_core.specs.declared.values.Val.TheVariants as variant
use Rattle.ess_core.specs.ValueViews.{pure_val}
use Rattle.ess_core.proofs.ValueEquations.{pure_partition}
use Rattle.ess_values.specs.Neighbours.{neighbours_differ}
use Rattle.ess_values.proofs.Repeated.{neighbours-sorted}
use Rattle.ess_eval_operators.specs.Items.{spare_items, items_or}
use Rattle.ess_eval_operators.proofs.ItemLists.{listed_items}

empty_mapped : (xs : List Val) → (length xs == 0) ≡ is_empty (map pure_val xs)
empty_mapped [] = refl
empty_mapped (x ∷ xs) = ne_eqb (length (x ∷ xs)) 0 (λ e. cc)

pub empty_items : (v : Val) (xs ss : List Val) → map pure_val xs ≡ items_or (map pure_val ss) (pure_val v)
    → map pure_val ss ≡ spare_items (pure_val v)
    → (length xs == 0) ≡ is_empty (items_of (pure_val v))
empty_items v xs ss l s = empty_mapped xs ∙ ap is_empty (listed_items v xs ss l s)

pub empty_part_found : (vs : List Value) → has_empty_part vs ≡ true → None ≡ partition_of vs
empty_part_found vs e = sym (ap (λ b. when (not b && not (has_overlap vs)) (node a_partition (of_list (sorted_once vs)))) e)

overlap_by_neighbours : (vs : List Value) (ms rs : List Val) (b : Bool) → map pure_val ms ≡ append_all (map items_of vs)
    → map pure_val rs ≡ sorted (map pure_val ms)
    → neighbours_differ (map pure_val rs) ≡ b → has_overlap vs ≡ not b
overlap_by_neighbours vs ms rs b m r d =
    ap not (ap (no_twice itself) (sym m) ∙ neighbours-sorted (map pure_val ms) ∙ ap neighbours_differ (sym r) ∙ d)

pub overlap_found : (vs : List Value) (ms rs : List Val) → map pure_val ms ≡ append_all (map items_of vs)
    → map pure_val rs ≡ sorted (map pure_val ms)
    → has_empty_part vs ≡ false → neighbours_differ (map pure_val rs) ≡ false → None ≡ partition_of vs
overlap_found vs ms rs m r e d =
    sym (ap (λ b. when (not b && not (has_overlap vs)) (node a_partition (of_list (sorted_once vs)))) e
    ∙ ap (λ b. when (not b) (node a_partition (of_list (sorted_once vs)))) (overlap_by_neighbours vs ms rs false m r d))

pub partition_found : (vs : List Value) (ms rs qs : List Val) → map pure_val ms ≡ append_all (map items_of vs)
    → map pure_val rs ≡ sorted (map pure_val ms)
    → has_empty_part vs ≡ false → neighbours_differ (map pure_val rs) ≡ true → map pure_val qs ≡ sorted_once vs
    → Some (pure_val (variant.Partition qs)) ≡ partition_of vs
partition_found vs ms rs qs m r e d q =
    sym (ap (λ b. when (not b && not (has_overlap vs)) (node a_partition (of_list (sorted_once vs)))) e
    ∙ ap (λ b. when (not b) (node a_partition (of_list (sorted_once vs)))) (overlap_by_neighbours vs ms rs true m r d)
    ∙ ap (λ l. Some (node a_partition (of_list l))) (sym q) ∙ ap Some (sym (pure_partition qs)))

pub ruleset part_lists = (empty_part_found, overlap_found, partition_found)
