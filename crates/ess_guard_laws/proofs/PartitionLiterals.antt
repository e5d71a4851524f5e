-- The conditions of a literal of a partition are total, and where they hold it has a value.
use Rattle.std.proofs.Common.{◌≡◌, refl, sym, ap, ◌∙◌, Bool, true, false, ◌||◌, not, List, [], ◌∷◌, ◌++◌, map, Option, Some, None, is_some}
use Rattle.ess_semantics.specs.declared.words.Fun.{Fun}
use Rattle.ess_semantics.specs.Lists.{and_then, all_some, when, append_all}
use Rattle.ess_semantics.specs.Values.{a_partition, Text, Value, node, of_list, items_of, itself}
use Rattle.ess_semantics.specs.Collections.{sorted_once, no_twice, set_of, has_empty_part, has_overlap, partition_of}
use Rattle.ess_semantics.specs.Trees.{word, set_literal, partition_literal, matrix_literal, name_pat, Exs, name_ex, node_ex, comp_ex, no_exs, more_exs, no_gens, from}
use Rattle.ess_semantics.specs.Operators.{as_truth, value_of_node, value_of_op}
use Rattle.ess_semantics.specs.Meaning.{Env, meaning, meanings, with_pat}
use Rattle.ess_semantics.specs.Totality.{HasValue, Total, TotalAll}
use Rattle.ess_semantics.proofs.Orders.{to_list-of_list}
use Rattle.ess_semantics.proofs.Sorting.{Distinct, distinct-twice}
use Rattle.ess_semantics.proofs.Tests.{and-both}
use Rattle.ess_guard_laws.specs.Conditions.{unless, has_items, has_item, some_item, have_members, are_disjoint, is_single_set, partition_conditions}
use Rattle.ess_guard_laws.specs.Holds.{Hold}
use Rattle.ess_guard_laws.proofs.Holding.{hold-left, hold-right, the-value}
use Rattle.ess_guard_laws.proofs.LiteralRows.{first-value, no-values, disjoint-means}
use Rattle.ess_guard_laws.proofs.MetRows.{each-in-always}
use Rattle.ess_guard_laws.proofs.Safe.{all-there}
use Rattle.ess_guard_laws.proofs.Behind.{EachTotal, each-total-append, each-total-unless, safe-total}
use Rattle.ess_guard_laws.proofs.Differ.{sorted-distinct, different-distinct, no-more}
use Rattle.ess_guard_laws.proofs.TotalRows.{has-item-total, some-item-tells, some-value}

-- ---- the conditions are total

members-total : (x : Text) (es : Exs) (env : Env) → TotalAll es env → EachTotal (have_members x es) env
members-total x no_exs env t = tt
members-total x (more_exs s es) env t =
    each-total-append (some_item x s) (have_members x es) env
    (each-total-unless (has_items s) (has_item x s) env (has-item-total x s env t.0)) (members-total x es env t.1)

disjoint-total : (x y : Text) (es : Exs) (env : Env) → TotalAll es env → Total (are_disjoint x y es) env
disjoint-total x y es env t =
    safe-total true (word Fun.AllDiff)
    (more_exs (comp_ex (name_ex x)
    (from (name_pat y) (node_ex false matrix_literal es) (from (name_pat x) (name_ex y) no_gens))) no_exs) env refl (
      (
        safe-total false matrix_literal es env refl t,
        each-in-always (meaning (node_ex false matrix_literal es) env) _
            (λ v. (tt, each-in-always (meaning (name_ex y) (with_pat (name_pat y) v env)) _ (λ w. tt))),
      ),
      tt,
    )

-- That parts have members and share none is total.
pub parts-total : (x y : Text) (es : Exs) (env : Env) → TotalAll es env → EachTotal (partition_conditions x y es) env
parts-total x y es env t =
    each-total-append (have_members x es) (unless (is_single_set es) (are_disjoint x y es)) env (members-total x es env t)
    (each-total-unless (is_single_set es) (are_disjoint x y es) env (disjoint-total x y es env t))

-- ---- what they tell

members-tell : (x : Text) (es : Exs) (env : Env) (ws : List Value) → all_some (meanings es env) ≡ Some ws → Hold (have_members x es) env →
    has_empty_part ws ≡ false
members-tell x no_exs env ws e h = ap has_empty_part (no-values ws e)
members-tell x (more_exs s es) env ws e h =
    let r = first-value (meaning s env) (all_some (meanings es env)) ws e in
    ap has_empty_part r.4
    ∙ ap (λ b. b || has_empty_part r.1) (some-item-tells x s env r.0 r.2 (hold-left (some_item x s) (have_members x es) env h))
    ∙ members-tell x es env r.1 r.3 (hold-right (some_item x s) (have_members x es) env h)

no-twice-of : (xs : List Value) → Distinct xs → no_twice itself xs ≡ true
no-twice-of = distinct-twice

-- The members of a single set.
single-distinct : (es : Exs) (env : Env) (ws : List Value) → is_single_set es ≡ true → all_some (meanings es env) ≡ Some ws →
    no_twice itself (append_all (map items_of ws)) ≡ true
single-distinct no_exs env ws t e = ap (λ l. no_twice itself (append_all (map items_of l))) (no-values ws e)
single-distinct (more_exs (node_ex false set_literal es) no_exs) env ws t e =
    let r = first-value (meaning (node_ex false set_literal es) env) (Some []) ws e in
    ap (λ l. no_twice itself (append_all (map items_of l))) (r.4 ∙ ap (λ l. r.0 ∷ l) (no-values r.1 r.3))
    ∙ go (all_some (meanings es env)) r.0 r.2
  where
    go : (o : Option (List Value)) (v : Value) → and_then o (value_of_op set_literal) ≡ Some v → no_twice itself (items_of v ++ []) ≡ true
    go None v q = cc
    go (Some us) v q = ap (λ z. no_twice itself (items_of z ++ [])) (sym (some-value (set_of us) v q))
        ∙ ap (λ l. no_twice itself l) (no-more (items_of (set_of us)))
        ∙ ap (no_twice itself) (to_list-of_list (sorted_once us)) ∙ no-twice-of (sorted_once us) (sorted-distinct us)
single-distinct es env ws t e = cc

disjoint-tells : (x y : Text) (es : Exs) (env : Env) (ws : List Value) → all_some (meanings es env) ≡ Some ws →
    Hold (unless (is_single_set es) (are_disjoint x y es)) env → no_twice itself (append_all (map items_of ws)) ≡ true
disjoint-tells x y es env ws e h = go (is_single_set es) refl h
  where
    go : (t : Bool) → is_single_set es ≡ t → Hold (unless t (are_disjoint x y es)) env →
        no_twice itself (append_all (map items_of ws)) ≡ true
    go true q h = single-distinct es env ws q e
    go false q h = no-twice-of (append_all (map items_of ws))
        (different-distinct (append_all (map items_of ws)) (ap as_truth (sym (disjoint-means x y es env ws e)) ∙ h.0))

-- Where parts have members and share none they are a partition.
pub parts-partition : (x y : Text) (es : Exs) (env : Env) → Hold (partition_conditions x y es) env →
    HasValue (value_of_node partition_literal (meanings es env)) (meanings es env)
parts-partition x y es env h k =
    let r = the-value (all_some (meanings es env)) (all-there (meanings es env) k) in
    ap (λ o. is_some (and_then o partition_of)) r.1
    ∙ one r.0 (members-tell x es env r.0 r.1 (hold-left (have_members x es) _ env h))
    (disjoint-tells x y es env r.0 r.1 (hold-right (have_members x es) _ env h))
  where
    one : (ps : List Value) → has_empty_part ps ≡ false → no_twice itself (append_all (map items_of ps)) ≡ true →
        is_some (partition_of ps) ≡ true
    one ps e f = ap (λ b. is_some (when b (node a_partition (of_list (sorted_once ps)))))
        (and-both (not (has_empty_part ps)) (not (has_overlap ps)) (ap not e) (ap (λ b. not (not b)) f))
