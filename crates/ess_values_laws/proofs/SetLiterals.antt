-- Sets, multisets, relations, functions and partitions that a literal has are printed as literals that have them: their
-- members in order, without repeats where the value has none.
use Rattle.std.proofs.Common.{◌≡◌, refl, sym, ap, ◌∙◌, subst, Bool, true, false, ◌&&◌, ◌||◌, not, List, [], ◌∷◌, Some, option_map}
use Rattle.std.specs.List.{list_all}
use Rattle.ess_semantics.specs.Lists.{and_then, when, is_empty}
use Rattle.ess_semantics.specs.Values.{a_set, a_mset, a_function, a_relation, a_partition, Value, node, of_list, from_of, items_of}
use Rattle.ess_semantics.specs.Collections.{sorted_once, sorted, set_of, mset_of, relation_of, function_of, partition_of, no_twice, has_double_argument, has_empty_part, has_overlap}
use Rattle.ess_semantics.specs.Trees.{set_literal, mset_literal, function_literal, relation_literal, partition_literal}
use Rattle.ess_semantics.specs.Types.{Ty, compound1, join_all}
use Rattle.ess_semantics.specs.OperatorTypes.{type_of_op, function_ty, relation_ty, partition_ty}
use Rattle.ess_semantics.specs.Operators.{value_of_op}
use Rattle.ess_semantics.specs.Meaning.{Env}
use Rattle.ess_semantics.proofs.Orders.{order_total}
use Rattle.ess_semantics.proofs.Tests.{and-left, and-right, and-both, not-true}
use Rattle.ess_semantics.proofs.Sorting.{Has, has-holds, holds-has, holds-sorted_once, sorted_once-rises, sorted_once-itself, all-sorted_once}
use Rattle.ess_semantics.proofs.Multisets.{sorted-rises, sorted-itself, count-sorted, same-members}
use Rattle.ess_semantics.proofs.Overlaps.{apart-distinct, sorted_once-apart, no-overlap, overlap-none}
use Rattle.ess_values_laws.proofs.Options.{then-some, map-some, when-some}
use Rattle.ess_values_laws.proofs.LiteralTypes.{function-within, relation-within, partition-within}
use Rattle.ess_values_laws.proofs.Printed.{Printed, PrintedEach, Together, together}

-- ---- members in order

sorted_once-has : (xs : List Value) (x : Value) → Has order_total xs x → Has order_total (sorted_once xs) x
sorted_once-has xs x h = holds-has (sorted_once xs) x (holds-sorted_once xs x ∙ has-holds xs x h)

has-sorted_once : (xs : List Value) (x : Value) → Has order_total (sorted_once xs) x → Has order_total xs x
has-sorted_once xs x h = holds-has xs x (sym (holds-sorted_once xs x) ∙ has-holds (sorted_once xs) x h)

sorted-has : (xs : List Value) (x : Value) → Has order_total xs x → Has order_total (sorted xs) x
sorted-has xs x h = holds-has (sorted xs) x (same-members (sorted xs) xs (count-sorted xs) x ∙ has-holds xs x h)

has-sorted : (xs : List Value) (x : Value) → Has order_total (sorted xs) x → Has order_total xs x
has-sorted xs x h = holds-has xs x (sym (same-members (sorted xs) xs (count-sorted xs) x) ∙ has-holds (sorted xs) x h)

sorted_once-again : (xs : List Value) → sorted_once (sorted_once xs) ≡ sorted_once xs
sorted_once-again xs = sorted_once-itself (sorted_once xs) (sorted_once-rises xs)

-- ---- partitions

empty-parts : (ps : List Value) → has_empty_part ps ≡ not (list_all (λ p. not (is_empty (items_of p))) ps)
empty-parts [] = refl
empty-parts (p ∷ ps) = go (is_empty (items_of p)) (empty-parts ps)
  where
    go : (b : Bool) → has_empty_part ps ≡ not (list_all (λ p. not (is_empty (items_of p))) ps) → b || has_empty_part ps ≡ not (not b && list_all (λ p. not (is_empty (items_of p))) ps)
    go true ih = refl
    go false ih = ih

no-empty-part : (ps : List Value) → has_empty_part (sorted_once ps) ≡ has_empty_part ps
no-empty-part ps = empty-parts (sorted_once ps) ∙ ap not (all-sorted_once (λ p. not (is_empty (items_of p))) ps) ∙ sym (empty-parts ps)

-- The parts of a partition in order are those of a partition.
partition-again : (ps : List Value) (v : Value) → partition_of ps ≡ Some v → (node a_partition (of_list (sorted_once ps)) ≡ v) × (partition_of (sorted_once ps) ≡ Some v)
partition-again ps v e =
    let h = when-some (not (has_empty_part ps) && not (has_overlap ps)) (node a_partition (of_list (sorted_once ps))) v e in
    let no = and-left (not (has_empty_part ps)) (not (has_overlap ps)) h.0 in
    let apart = no-overlap ps (and-right (not (has_empty_part ps)) (not (has_overlap ps)) h.0) in
    let distinct = apart-distinct ps (not-true (has_empty_part ps) no) apart in
    let both = and-both (not (has_empty_part (sorted_once ps))) (not (has_overlap (sorted_once ps))) (ap not (no-empty-part ps) ∙ no) (overlap-none (sorted_once ps) (sorted_once-apart ps distinct apart)) in
    (h.1, ap (λ b. when b (node a_partition (of_list (sorted_once (sorted_once ps))))) both ∙ ap (λ l. Some (node a_partition (of_list l))) (sorted_once-again ps) ∙ ap Some h.1)

-- ---- printed

module _ (env : Env) (xs : List Value) (ts : List Ty) (p : PrintedEach env xs ts) where
  abbrev each_sorted : (s : Ty) → join_all ts ≡ Some s → Together env (sorted_once xs) s
  each_sorted s q = together env xs ts s p q (sorted_once xs) (sorted_once-has xs) (has-sorted_once xs)

  pub set-literal-printed : (t : Ty) → type_of_op set_literal ts ≡ Some t → Printed env (set_of xs) t
  set-literal-printed t e =
      let s = map-some (join_all ts) (compound1 a_set) t e in
      let j = each_sorted s.0 s.1 in
      subst (Printed env (set_of xs)) s.2 (record {
        u = compound1 a_set j.w;
        typed = ap (λ o. and_then o (type_of_op set_literal)) j.types ∙ ap (option_map (compound1 a_set)) j.join;
        valued = ap (λ o. and_then o (value_of_op set_literal)) j.values ∙ ap (λ l. Some (node a_set (of_list l))) (sorted_once-again xs);
        within = (refl, (j.within, tt));
        parts = λ h. refl;
      })

  pub mset-literal-printed : (t : Ty) → type_of_op mset_literal ts ≡ Some t → Printed env (mset_of xs) t
  mset-literal-printed t e =
      let s = map-some (join_all ts) (compound1 a_mset) t e in
      let j = together env xs ts s.0 p s.1 (sorted xs) (sorted-has xs) (has-sorted xs) in
      subst (Printed env (mset_of xs)) s.2 (record {
        u = compound1 a_mset j.w;
        typed = ap (λ o. and_then o (type_of_op mset_literal)) j.types ∙ ap (option_map (compound1 a_mset)) j.join;
        valued = ap (λ o. and_then o (value_of_op mset_literal)) j.values ∙ ap (λ l. Some (node a_mset (of_list l))) (sorted-itself (sorted xs) (sorted-rises xs));
        within = (refl, (j.within, tt));
        parts = λ h. refl;
      })

  pub relation-literal-printed : (t : Ty) → type_of_op relation_literal ts ≡ Some t → Printed env (relation_of xs) t
  relation-literal-printed t e =
      let s = then-some (join_all ts) relation_ty t e in
      let j = each_sorted s.0 s.1 in
      let r = relation-within s.0 t j.w s.2 j.within j.parts in
      record {
        u = r.0;
        typed = ap (λ o. and_then o (type_of_op relation_literal)) j.types ∙ ap (λ o. and_then o relation_ty) j.join ∙ r.1;
        valued = ap (λ o. and_then o (value_of_op relation_literal)) j.values ∙ ap (λ l. Some (node a_relation (of_list l))) (sorted_once-again xs);
        within = r.2;
        parts = r.3;
      }

  pub function-literal-printed : (t : Ty) (v : Value) → type_of_op function_literal ts ≡ Some t → function_of xs ≡ Some v → Printed env v t
  function-literal-printed t v e f =
      let s = then-some (join_all ts) function_ty t e in
      let j = each_sorted s.0 s.1 in
      let r = function-within s.0 t j.w s.2 j.within j.parts in
      let h = when-some (not (has_double_argument xs)) (node a_function (of_list (sorted_once xs))) v f in
      let again : function_of (sorted_once xs) ≡ Some (node a_function (of_list (sorted_once xs))) =
      ap (λ l. when (not (not (no_twice from_of l))) (node a_function (of_list l))) (sorted_once-again xs) ∙ ap (λ b. when b (node a_function (of_list (sorted_once xs)))) h.0 in
      subst (λ w. Printed env w t) h.1 (record {
        u = r.0;
        typed = ap (λ o. and_then o (type_of_op function_literal)) j.types ∙ ap (λ o. and_then o function_ty) j.join ∙ r.1;
        valued = ap (λ o. and_then o (value_of_op function_literal)) j.values ∙ again;
        within = r.2;
        parts = λ q. r.3;
      })

  pub partition-literal-printed : (t : Ty) (v : Value) → type_of_op partition_literal ts ≡ Some t → partition_of xs ≡ Some v → Printed env v t
  partition-literal-printed t v e f =
      let s = then-some (join_all ts) partition_ty t e in
      let j = each_sorted s.0 s.1 in
      let r = partition-within s.0 t j.w s.2 j.within j.parts in
      let h = partition-again xs v f in
      subst (λ w. Printed env w t) h.0 (record {
        u = r.0;
        typed = ap (λ o. and_then o (type_of_op partition_literal)) j.types ∙ ap (λ o. and_then o partition_ty) j.join ∙ r.1;
        valued = ap (λ o. and_then o (value_of_op partition_literal)) j.values ∙ h.1 ∙ ap Some (sym h.0);
        within = r.2;
        parts = λ q. r.3;
      })
