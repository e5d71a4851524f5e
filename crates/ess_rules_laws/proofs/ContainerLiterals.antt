-- Literals offer their items as listings.
use Rattle.std.proofs.Common.{◌≡◌, refl, sym, ap, ◌∙◌, subst, Bool, true, false, ◌&&◌, not, List, [], ◌∷◌, map, length, nat_eq, Option, Some, None, option_map}
use Rattle.std.specs.Prelude.{is_some}
use Rattle.std.specs.List.{list_all}
use Rattle.ess_semantics.specs.declared.words.Fun.{Fun}
use Rattle.ess_semantics.specs.Lists.{and_then, all_some, when}
use Rattle.ess_semantics.specs.Values.{Text, matrix, a_function, a_partition, Value, node, of_list, items_of}
use Rattle.ess_semantics.specs.Collections.{sorted_once, set_of, function_of, partition_of, has_double_argument, has_empty_part, has_overlap}
use Rattle.ess_semantics.specs.Trees.{Op, word, function_literal, partition_literal, set_literal, matrix_literal, Ex, Exs, node_ex, matrix_ex, fun1, Dom}
use Rattle.ess_semantics.specs.Operators.{yes_no, as_truth, connective, value_of_op, value_of_node}
use Rattle.ess_semantics.specs.Meaning.{Env, meaning, meanings, matrix_value, members_in, domain_of}
use Rattle.ess_semantics.specs.Contexts.{guards}
use Rattle.ess_semantics.specs.Meets.{Meets, MeetsAll}
use Rattle.ess_semantics.proofs.Tests.{not-true}
use Rattle.ess_semantics.proofs.Orders.{to_list-of_list}
use Rattle.ess_semantics.proofs.Sorting.{Distinct}
use Rattle.ess_semantics.proofs.Overlaps.{no-overlap, apart-distinct}
use Rattle.ess_rules_laws.specs.Rules.{Unused}
use Rattle.ess_rules_laws.specs.Listings.{all_listed, SameLists, Lists, each_item, each_first}
use Rattle.ess_rules_laws.specs.ListedSources.{Offers}
use Rattle.ess_rules_laws.proofs.MembershipRules.{values, all-there}
use Rattle.ess_rules_laws.proofs.ListedItems.{same-lists, counted-same, each-listed, firsts-list}
use Rattle.ess_rules_laws.proofs.ListingStructures.{listings-met}
use Rattle.ess_rules_laws.proofs.ListsOnce.{sorted-counts}

-- The value of a word on a term that is there.
pub there : (o : Option Value) (W : Fun) → is_some (value_of_node (word W) (o ∷ [])) ≡ true → (v : Value) × (o ≡ Some v)
there None W t = cc
there (Some v) W t = (v, refl)

-- ---- literals

-- Where all values are there each is.
some-all : (os : List (Option Value)) → is_some (all_some os) ≡ true → list_all is_some os ≡ true
some-all [] t = refl
some-all (None ∷ os) t = cc
some-all (Some x ∷ os) t = some-all os (go (all_some os) t)
  where
    go : (o : Option (List Value)) → is_some (option_map (λ xs. x ∷ xs) o) ≡ true → is_some o ≡ true
    go None t = cc
    go (Some xs) t = refl

-- The items of a literal that is there are.
items-there : (os : List (Option Value)) (h : List Value → Option Value) → is_some (and_then (all_some os) h) ≡ true →
    list_all is_some os ≡ true
items-there os h t = some-all os (go (all_some os) t)
  where
    go : (o : Option (List Value)) → is_some (and_then o h) ≡ true → is_some o ≡ true
    go None t = cc
    go (Some xs) t = refl

-- Where a literal has a value with these items sorted, it lists each once.
firsts-offer : (e : Ex) (es : Exs) (env : Env) (s : Value) → list_all is_some (meanings es env) ≡ true → meaning e env ≡ Some s →
    items_of s ≡ sorted_once (values (meanings es env)) →
    Lists e (each_first [] es) env
firsts-offer e es env s t j q =
    subst (λ z. SameLists z (all_listed (each_first [] es) env)) (sym (ap (option_map items_of) j)) (firsts-list es env s t q)

-- A function literal that has a value has its pairs, each once.
function-made : (xs : List Value) → is_some (function_of xs) ≡ true → function_of xs ≡ Some (node a_function (of_list (sorted_once xs)))
function-made xs t = go (not (has_double_argument xs)) t
  where
    go : (b : Bool) → is_some (when b (node a_function (of_list (sorted_once xs)))) ≡ true →
        when b (node a_function (of_list (sorted_once xs))) ≡ Some (node a_function (of_list (sorted_once xs)))
    go true t = refl
    go false t = cc

-- A partition literal that has a value has its parts, which differ.
partition-made : (xs : List Value) → is_some (partition_of xs) ≡ true →
    (partition_of xs ≡ Some (node a_partition (of_list (sorted_once xs)))) × Distinct xs
partition-made xs t = go (not (has_empty_part xs)) refl (not (has_overlap xs)) refl t
  where
    go : (b : Bool) → not (has_empty_part xs) ≡ b → (c : Bool) → not (has_overlap xs) ≡ c →
        is_some (when (b && c) (node a_partition (of_list (sorted_once xs)))) ≡ true →
        (when (b && c) (node a_partition (of_list (sorted_once xs))) ≡ Some (node a_partition (of_list (sorted_once xs)))) × Distinct xs
    go true q true r t = (refl, apart-distinct xs (not-true (has_empty_part xs) q) (no-overlap xs r))
    go true q false r t = cc
    go false q c r t = cc

-- The same from the values of operands.
literal-means : (os : List (Option Value)) (h : List Value → Option Value) → list_all is_some os ≡ true →
    and_then (all_some os) h ≡ h (values os)
literal-means os h t = ap (λ o. and_then o h) (all-there os t)

-- A function literal that is there offers each pair once.
pub function-literal : (x : Text) (es : Exs) (env : Env) → Unused x (node_ex false set_literal es) →
    is_some (meaning (node_ex false function_literal es) env) ≡ true → Meets (node_ex false function_literal es) env →
    Offers (node_ex false function_literal es) (each_first [] es) env
function-literal x es env new t m =
    let h = items-there (meanings es env) function_of t in
    let j = literal-means (meanings es env) function_of h in
    let k = function-made (values (meanings es env)) (ap is_some (sym j) ∙ t) in record {
      lists = firsts-offer (node_ex false function_literal es) es env
          (node a_function (of_list (sorted_once (values (meanings es env))))) h (j ∙ k)
          (to_list-of_list (sorted_once (values (meanings es env))));
      met = listings-met [] x (node_ex false set_literal es) (each_first [] es) refl new env m;
    }

-- A partition literal that is there offers its parts.
pub partition-literal : (x : Text) (es : Exs) (env : Env) → Unused x (node_ex false set_literal es) →
    is_some (meaning (node_ex false partition_literal es) env) ≡ true → Meets (node_ex false partition_literal es) env →
    Offers (node_ex false partition_literal es) (each_item es) env
partition-literal x es env new t m =
    let h = items-there (meanings es env) partition_of t in
    let j = literal-means (meanings es env) partition_of h in
    let k = partition-made (values (meanings es env)) (ap is_some (sym j) ∙ t) in record {
      lists = counted-same _ _ (sorted_once (values (meanings es env))) (values (meanings es env))
          (ap (option_map items_of) (j ∙ k.0) ∙ ap Some (to_list-of_list (sorted_once (values (meanings es env)))))
          (each-listed es env ∙ all-there (meanings es env) h) (sorted-counts (values (meanings es env)) k.1);
      met = listings-met [] x (node_ex false matrix_literal es) (each_item es) refl new env m;
    }

-- A set made of a literal; s is the value of the literal.
pub set-made : (x : Text) (op : Op) (s : List Value → Value) → ((xs : List Value) → value_of_op op xs ≡ Some (s xs)) →
    ((xs : List Value) → sorted_once (items_of (s xs)) ≡ sorted_once xs) →
    connective op ≡ None → guards op ≡ false → (es : Exs) (env : Env) → Unused x (node_ex false set_literal es) →
    is_some (meaning (fun1 false Fun.ToSet (node_ex false op es)) env) ≡ true → MeetsAll false es env →
    Offers (fun1 false Fun.ToSet (node_ex false op es)) (each_first [] es) env
set-made x op s made once c q es env new t m =
    let r = there (meaning (node_ex false op es) env) Fun.ToSet t in
    let i : value_of_node op (meanings es env) ≡ and_then (all_some (meanings es env)) (value_of_op op) = plain (connective op) c in
    let h = items-there (meanings es env) (value_of_op op) (ap is_some (sym i ∙ r.1)) in
    let j : meaning (node_ex false op es) env ≡ Some (s (values (meanings es env))) =
    i ∙ literal-means (meanings es env) (value_of_op op) h ∙ made (values (meanings es env)) in record {
      lists = firsts-offer (fun1 false Fun.ToSet (node_ex false op es)) es env (set_of (items_of (s (values (meanings es env))))) h
          (ap (λ o. value_of_node (word Fun.ToSet) (o ∷ [])) j)
          (to_list-of_list (sorted_once (items_of (s (values (meanings es env))))) ∙ once (values (meanings es env)));
      met = listings-met [] x (node_ex false set_literal es) (each_first [] es) refl new env m;
    }
  where
    plain : (o : Option (List Bool → Bool)) → o ≡ None →
        elim o [ Some f ↦ yes_no (f (map as_truth (meanings es env))) | None ↦ and_then (all_some (meanings es env)) (value_of_op op) ]
        ≡ and_then (all_some (meanings es env)) (value_of_op op)
    plain None c = refl
    plain (Some f) c = cc

-- A matrix literal over a domain has its items.
pub matrix-offers : (x : Text) (es : Exs) (d : Dom) (env : Env) → Unused x (node_ex false matrix_literal es) →
    is_some (meaning (matrix_ex es d) env) ≡ true → MeetsAll false es env →
    Offers (matrix_ex es d) (each_item es) env
matrix-offers x es d env new t m =
    let h = items-there (meanings es env) (matrix_value (members_in (domain_of d env))) t in
    let j = literal-means (meanings es env) (matrix_value (members_in (domain_of d env))) h in record {
      lists = same-lists _ _
          (ap (option_map items_of) j ∙ made (members_in (domain_of d env)) (values (meanings es env)) (ap is_some (sym j) ∙ t)
          ∙ sym (each-listed es env ∙ all-there (meanings es env) h));
      met = listings-met [] x (node_ex false matrix_literal es) (each_item es) refl new env m;
    }
  where
    made : (o : Option (List Value)) (xs : List Value) → is_some (matrix_value o xs) ≡ true →
        option_map items_of (matrix_value o xs) ≡ Some xs
    made None xs t = cc
    made (Some is) xs t = go (nat_eq (length is) (length xs)) t
      where
        go : (b : Bool) → is_some (when b (matrix (of_list is) (of_list xs))) ≡ true →
            option_map items_of (when b (matrix (of_list is) (of_list xs))) ≡ Some xs
        go true t = ap Some (to_list-of_list xs)
        go false t = cc
