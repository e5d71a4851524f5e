-- The parts of a partition.
use Rattle.std.proofs.Common.{◌≡◌, refl, sym, ap, ◌∙◌, Bool, true, false, ◌&&◌, ◌||◌, not, List, [], ◌∷◌, map, Some}
use Rattle.std.specs.List.{list_all, list_any}
use Rattle.std.specs.Prelude.{IsTrue, ◌↔◌}
use Rattle.ess_semantics.specs.Lists.{when, is_empty, append_all}
use Rattle.ess_semantics.specs.Values.{Text, Value, number, truth, item, node, a_tuple, a_matrix, a_set, a_mset, a_function, a_relation, a_partition, a_record, of_list, items_of, itself}
use Rattle.ess_semantics.specs.Collections.{sorted, sorted_once, no_twice, partition_of, has_empty_part, has_overlap}
use Rattle.ess_semantics.proofs.Tests.{and-left, and-right}
use Rattle.ess_semantics.proofs.Orders.{to_list-of_list}
use Rattle.ess_core.specs.declared.values.Val.{Val}
use Rattle.ess_core.specs.declared.values.Val.TheVariants.{Set, Partition, rolls-Set, rolls-Partition}
use Rattle.ess_core.specs.declared.values.Val.TheOpen.{Val-F}
use Rattle.ess_core.specs.declared.values.Val.TheFolds.{fold-roll-Val}
use Rattle.ess_core.specs.ValueViews.{pure_val, val_step, field_val_step, pair_step}
use Rattle.ess_values.specs.Neighbours.{neighbours_differ}
use Rattle.ess_semantics.specs.Membership.{is_set}
use Rattle.ess_values.specs.Parts.{set_members}
use Rattle.ess_values.proofs.Repeated.{neighbours-sorted}

-- ---- a set's members

pure_set : (ms : List Val) → pure_val (Set ms) ≡ node a_set (of_list (map pure_val ms))
pure_set ms = ap pure_val (sym (rolls-Set ms)) ∙ fold-roll-Val Value (Text × Value) Value val_step field_val_step pair_step (Val-F.Set ms)

pure_partition : (ms : List Val) → pure_val (Partition ms) ≡ node a_partition (of_list (map pure_val ms))
pure_partition ms = ap pure_val (sym (rolls-Partition ms)) ∙ fold-roll-Val Value (Text × Value) Value val_step field_val_step pair_step (Val-F.Partition ms)

pub members_of_set : (v : Val) (ms : List Val) → v ≡ Set ms → map pure_val ms ≡ set_members (pure_val v)
members_of_set v ms e = sym (ap (λ w. set_members (pure_val w)) e ∙ ap set_members (pure_set ms) ∙ to_list-of_list (map pure_val ms))

told_empty : (b : Bool) (ms : List Val) → (IsTrue b ↔ (ms ≡ [])) → b ≡ is_empty (map pure_val ms)
told_empty true [] h = refl
told_empty true (m ∷ ms) h = let e = h.0 refl in cc
told_empty false [] h = let e : false ≡ true = h.1 refl in cc
told_empty false (m ∷ ms) h = refl

pub empty_set : (b : Bool) (v : Val) (ms : List Val) → v ≡ Set ms → (IsTrue b ↔ (ms ≡ [])) → b ≡ is_empty (set_members (pure_val v))
empty_set b v ms e h = told_empty b ms h ∙ ap is_empty (members_of_set v ms e)

-- ---- all parts are sets

set-items : (v : Value) → is_set v ≡ true → set_members v ≡ items_of v
set-items (number n) e = cc
set-items (truth b) e = cc
set-items (item t k) e = cc
set-items (node a_tuple xs) e = cc
set-items (node a_matrix xs) e = cc
set-items (node a_set xs) e = refl
set-items (node a_mset xs) e = cc
set-items (node a_function xs) e = cc
set-items (node a_relation xs) e = cc
set-items (node a_partition xs) e = cc
set-items (node (a_record fs) xs) e = cc

all-items : (vs : List Value) → list_all is_set vs ≡ true → map set_members vs ≡ map items_of vs
all-items [] h = refl
all-items (v ∷ vs) h =
    ap (λ xs. xs ∷ map set_members vs) (set-items v (and-left (is_set v) (list_all is_set vs) h))
    ∙ ap (λ l. items_of v ∷ l) (all-items vs (and-right (is_set v) (list_all is_set vs) h))

any-empty : (vs : List Value) → list_all is_set vs ≡ true → list_any (λ p. is_empty (set_members p)) vs ≡ has_empty_part vs
any-empty [] h = refl
any-empty (v ∷ vs) h =
    ap (λ xs. is_empty xs || list_any (λ p. is_empty (set_members p)) vs) (set-items v (and-left (is_set v) (list_all is_set vs) h))
    ∙ ap (λ b. is_empty (items_of v) || b) (any-empty vs (and-right (is_set v) (list_all is_set vs) h))

pub empty_there : (vs : List Value) (b : Bool) → list_all is_set vs ≡ true → list_any (λ p. is_empty (set_members p)) vs ≡ b → has_empty_part vs ≡ b
empty_there vs b h e = sym (any-empty vs h) ∙ e

pub overlap_there : (vs : List Value) (ms rs : List Val) (b : Bool) → list_all is_set vs ≡ true → map pure_val ms ≡ append_all (map set_members vs) → map pure_val rs ≡ sorted (map pure_val ms)
    → neighbours_differ (map pure_val rs) ≡ b → has_overlap vs ≡ not b
overlap_there vs ms rs b h m r d =
    ap not (ap (λ l. no_twice itself (append_all l)) (sym (all-items vs h)) ∙ ap (no_twice itself) (sym m) ∙ neighbours-sorted (map pure_val ms) ∙ ap neighbours_differ (sym r) ∙ d)

pub partition_there : (vs : List Value) (qs : List Val) → has_empty_part vs ≡ false → has_overlap vs ≡ false → map pure_val qs ≡ sorted_once vs → partition_of vs ≡ Some (pure_val (Partition qs))
partition_there vs qs e o q =
    ap (λ b. when (not b && not (has_overlap vs)) (node a_partition (of_list (sorted_once vs)))) e
    ∙ ap (λ b. when (not b) (node a_partition (of_list (sorted_once vs)))) o
    ∙ ap (λ l. Some (node a_partition (of_list l))) (sym q) ∙ ap Some (sym (pure_partition qs))
