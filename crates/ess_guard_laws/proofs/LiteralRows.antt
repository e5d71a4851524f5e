-- The conditions of literals of functions, partitions and matrices hold where these have a value.
use Rattle.std.proofs.Common.{◌≡◌, refl, sym, ap, ◌∙◌, ℕ, suc, ◌+◌, Bool, true, false, ◌&&◌, ◌||◌, not, List, [], ◌∷◌, ◌++◌, map, length, pos, ◌+ℤ◌, Option, Some, None, option_map, is_some, nat_eq, arith}
use Rattle.std.proofs.lemmas.Bool.{eqb-true}
use Rattle.std.specs.List.{list_any}
use Rattle.ess_semantics.specs.declared.words.Op2.{Op2}
use Rattle.ess_semantics.specs.declared.words.Fun.{Fun}
use Rattle.ess_semantics.specs.Lists.{and_then, all_some, when, is_empty, append_all}
use Rattle.ess_semantics.specs.Values.{Text, Value, number, truth, from_of, to_of, items_of, itself, pair}
use Rattle.ess_semantics.specs.Order.{same}
use Rattle.ess_semantics.specs.Collections.{holds, sorted_once, no_twice, has_double_argument, function_of, has_empty_part, has_overlap, partition_of}
use Rattle.ess_semantics.specs.Trees.{binary, word, name_pat, tuple_literal, matrix_literal, Ex, Exs, number_ex, name_ex, node_ex, comp_ex, no_exs, more_exs, no_gens, over, from, Dom, fun1}
use Rattle.ess_semantics.specs.Operators.{as_truth, implies, all_different, sum_of, list_value, value_of_node, value_of_op, false_where_undefined}
use Rattle.ess_semantics.specs.Meaning.{Env, meaning, meanings, items_under, with_pat, collect, domain_of, members_in, matrix_value}
use Rattle.ess_semantics.specs.Constants.{operand_count}
use Rattle.ess_semantics.proofs.Orders.{to_list-of_list, same-itself, same-equal}
use Rattle.ess_semantics.proofs.Sorting.{Distinct, holds-sorted_once, twice-distinct}
use Rattle.ess_semantics.proofs.Tests.{and-left, and-right, and-both, not-true}
use Rattle.ess_rules_laws.proofs.Agreement.{look-itself}
use Rattle.ess_guard_laws.specs.Conditions.{unless, some_item, agree, have_other_arguments, agree_all, function_conditions, have_members, are_disjoint, is_single_set, partition_conditions, has_size, matrix_conditions}
use Rattle.ess_guard_laws.specs.Holds.{Hold}
use Rattle.ess_guard_laws.proofs.Holding.{hold-append, unless-holds}
use Rattle.ess_guard_laws.proofs.ItemRows.{some-item-holds}

-- ---- operands

-- The values of operands, the first and those behind it.
pub first-value : (o : Option Value) (q : Option (List Value)) (vs : List Value) → and_then o (λ x. option_map (λ xs. x ∷ xs) q) ≡ Some vs →
    (v : Value) × (ws : List Value) × (o ≡ Some v) × (q ≡ Some ws) × (vs ≡ v ∷ ws)
first-value None q vs e = cc
first-value (Some v) None vs e = cc
first-value (Some v) (Some ws) vs e = (v, ws, refl, refl, ap (λ o. elim o [ None ↦ vs | Some z ↦ z ]) (sym e))

-- No operands have no values.
pub no-values : (vs : List Value) → Some [] ≡ Some vs → vs ≡ []
no-values vs e = ap (λ o. elim o [ None ↦ vs | Some z ↦ z ]) (sym e)

-- ---- functions

-- Two items that f takes to one value are one, where f takes no two to one.
once-only : (f : Value → Value) (xs : List Value) (p q : Value) → no_twice f xs ≡ true → holds xs p ≡ true → holds xs q ≡ true → same (f p) (f q) ≡ true → p ≡ q
once-only f [] p q n hp hq e = cc
once-only f (x ∷ xs) p q n hp hq e = go (same x p) (same x q) refl refl hp hq (λ a b. once-only f xs p q (and-right (not (list_any (λ y. same (f x) (f y)) xs)) (no_twice f xs) n) a b e)
  where
    none : (z : Value) → same (f x) (f z) ≡ true → holds xs z ≡ true → ⊥
    none z s h = let r : true ≡ false = sym (found xs h) ∙ not-true (list_any (λ y. same (f x) (f y)) xs) (and-left (not (list_any (λ y. same (f x) (f y)) xs)) (no_twice f xs) n) in cc
      where
        found : (ys : List Value) → holds ys z ≡ true → list_any (λ y. same (f x) (f y)) ys ≡ true
        found [] h = cc
        found (y ∷ ys) h = at (same y z) refl h (found ys)
          where
            at : (t : Bool) → same y z ≡ t → t || holds ys z ≡ true → (holds ys z ≡ true → list_any (λ y. same (f x) (f y)) ys ≡ true) → same (f x) (f y) || list_any (λ y. same (f x) (f y)) ys ≡ true
            at true w h k = ap (λ b. b || list_any (λ y. same (f x) (f y)) ys) (ap (λ u. same (f x) (f u)) (same-equal y z w) ∙ s)
            at false w h k = last (same (f x) (f y)) (k h)
              where
                last : (a : Bool) → list_any (λ y. same (f x) (f y)) ys ≡ true → a || list_any (λ y. same (f x) (f y)) ys ≡ true
                last true h = refl
                last false h = h

    go : (a b : Bool) → same x p ≡ a → same x q ≡ b → a || holds xs p ≡ true → b || holds xs q ≡ true → (holds xs p ≡ true → holds xs q ≡ true → p ≡ q) → p ≡ q
    go true true u w hp hq k = sym (same-equal x p u) ∙ same-equal x q w
    go true false u w hp hq k = absurd (none q (ap (λ z. same (f z) (f q)) (same-equal x p u) ∙ e) hq)
    go false true u w hp hq k = absurd (none p (ap (λ z. same (f z) (f p)) (same-equal x q w) ∙ ap (λ z. same z (f p)) (sym (same-equal (f p) (f q) e)) ∙ same-itself (f p)) hp)
    go false false u w hp hq k = k hp hq

-- The pairs of a function with one argument are one.
pub one-pair : (ps : List Value) (p q : Value) → has_double_argument ps ≡ false → holds ps p ≡ true → holds ps q ≡ true → same (from_of p) (from_of q) ≡ true → p ≡ q
one-pair ps p q h hp hq e = once-only from_of (sorted_once ps) p q (not-true' (no_twice from_of (sorted_once ps)) h) (holds-sorted_once ps p ∙ hp) (holds-sorted_once ps q ∙ hq) e
  where
    not-true' : (b : Bool) → not b ≡ false → b ≡ true
    not-true' true e = refl
    not-true' false e = cc

-- Whether two pairs of a function agree.
agree-holds : (p q : Ex) (env : Env) (ps : List Value) (v w : Value) → has_double_argument ps ≡ false → meaning p env ≡ Some v → meaning q env ≡ Some w → holds ps v ≡ true → holds ps w ≡ true →
    as_truth (meaning (agree p q) env) ≡ true
agree-holds (node_ex false tuple_literal (more_exs a (more_exs b no_exs))) (node_ex false tuple_literal (more_exs c (more_exs d no_exs))) env ps v w n e f hv hw =
    go (meaning a env) (meaning b env) (meaning c env) (meaning d env) e f
  where
    go : (a b c d : Option Value) → value_of_node tuple_literal (a ∷ b ∷ []) ≡ Some v → value_of_node tuple_literal (c ∷ d ∷ []) ≡ Some w →
        implies (as_truth (value_of_node (binary Op2.Eq) (a ∷ c ∷ []))) (as_truth (value_of_node (binary Op2.Eq) (b ∷ d ∷ []))) ≡ true
    go None b c d e f = cc
    go (Some a) None c d e f = cc
    go (Some a) (Some b) None d e f = cc
    go (Some a) (Some b) (Some c) None e f = cc
    go (Some a) (Some b) (Some c) (Some d) e f = at (same a c) refl
      where
        vs : v ≡ pair a b
        vs = ap (λ o. elim o [ None ↦ v | Some z ↦ z ]) (sym e)

        ws : w ≡ pair c d
        ws = ap (λ o. elim o [ None ↦ w | Some z ↦ z ]) (sym f)

        at : (t : Bool) → same a c ≡ t → implies t (same b d) ≡ true
        at true r = ap (λ z. same (to_of z) d) (sym vs ∙ one-pair ps v w n hv hw (ap (λ z. same (from_of z) (from_of w)) vs ∙ ap (λ z. same a (from_of z)) ws ∙ r) ∙ ws) ∙ same-itself d
        at false r = refl
agree-holds p q env ps v w n e f hv hw = refl

agree-all-holds : (p : Ex) (qs : Exs) (env : Env) (ps : List Value) (v : Value) (ws : List Value) → has_double_argument ps ≡ false → meaning p env ≡ Some v → all_some (meanings qs env) ≡ Some ws → holds ps v ≡ true →
    ((z : Value) → holds ws z ≡ true → holds ps z ≡ true) → Hold (agree_all p qs) env
agree-all-holds p no_exs env ps v ws n e f hv hw = tt
agree-all-holds p (more_exs q qs) env ps v ws n e f hv hw =
    let r = first-value (meaning q env) (all_some (meanings qs env)) ws f in
    hold-append (unless (have_other_arguments p q) (agree p q)) (agree_all p qs) env
    (unless-holds (have_other_arguments p q) (agree p q) env
    (agree-holds p q env ps v r.0 n e r.2 hv (hw r.0 (ap (λ l. holds l r.0) r.4 ∙ ap (λ b. b || holds r.1 r.0) (same-itself r.0)))))
    (agree-all-holds p qs env ps v r.1 n e r.3 hv (λ z h. hw z (ap (λ l. holds l z) r.4 ∙ later (same r.0 z) (holds r.1 z) h)))
  where
    later : (a b : Bool) → b ≡ true → a || b ≡ true
    later true b e = refl
    later false b e = e

-- The pairs of a function agree.
pub functions-hold : (es : Exs) (env : Env) (ps ws : List Value) → has_double_argument ps ≡ false → all_some (meanings es env) ≡ Some ws → ((z : Value) → holds ws z ≡ true → holds ps z ≡ true) → Hold (function_conditions es) env
functions-hold no_exs env ps ws n f hw = tt
functions-hold (more_exs p es) env ps ws n f hw =
    let r = first-value (meaning p env) (all_some (meanings es env)) ws f in
    let rest : (z : Value) → holds r.1 z ≡ true → holds ps z ≡ true = λ z h. hw z (ap (λ l. holds l z) r.4 ∙ later (same r.0 z) (holds r.1 z) h) in
    hold-append (agree_all p es) (function_conditions es) env
    (agree-all-holds p es env ps r.0 r.1 n r.2 r.3 (hw r.0 (ap (λ l. holds l r.0) r.4 ∙ ap (λ b. b || holds r.1 r.0) (same-itself r.0))) rest)
    (functions-hold es env ps r.1 n r.3 rest)
  where
    later : (a b : Bool) → b ≡ true → a || b ≡ true
    later true b e = refl
    later false b e = e

when-some : (b : Bool) (v : Value) → is_some (when b v) ≡ true → b ≡ true
when-some true v h = refl
when-some false v h = cc

no-not : (b : Bool) → not (not b) ≡ true → b ≡ true
no-not true e = refl
no-not false e = cc

when-not : (b : Bool) (v : Value) → is_some (when (not b) v) ≡ true → b ≡ false
when-not true v h = cc
when-not false v h = refl

-- The conditions of a function literal hold where it has a value.
pub function-holds : (es : Exs) (env : Env) → is_some (and_then (all_some (meanings es env)) function_of) ≡ true → Hold (function_conditions es) env
function-holds es env h = go (all_some (meanings es env)) refl h
  where
    go : (o : Option (List Value)) → all_some (meanings es env) ≡ o → is_some (and_then o function_of) ≡ true → Hold (function_conditions es) env
    go None e h = cc
    go (Some ps) e h = functions-hold es env ps ps (when-not (has_double_argument ps) _ h) e (λ z q. q)

-- ---- partitions

-- The parts of a partition have members.
pub members-hold : (x : Text) (es : Exs) (env : Env) (ws : List Value) → all_some (meanings es env) ≡ Some ws → has_empty_part ws ≡ false → Hold (have_members x es) env
members-hold x no_exs env ws e h = tt
members-hold x (more_exs s es) env ws e h =
    let r = first-value (meaning s env) (all_some (meanings es env)) ws e in
    let q : is_empty (items_of r.0) || has_empty_part r.1 ≡ false = ap has_empty_part (sym r.4) ∙ h in
    hold-append (some_item x s) (have_members x es) env (some-item-holds x s env r.0 r.2 (left (is_empty (items_of r.0)) (has_empty_part r.1) q)) (members-hold x es env r.1 r.3 (right (is_empty (items_of r.0)) (has_empty_part r.1) q))
  where
    left : (a b : Bool) → a || b ≡ false → a ≡ false
    left true b e = cc
    left false b e = refl

    right : (a b : Bool) → a || b ≡ false → b ≡ false
    right true b e = cc
    right false b e = e

-- Two tests that say whether no item stands twice.
different-twice : (xs : List Value) → no_twice itself xs ≡ true → all_different xs ≡ true
different-twice xs h = go xs (twice-distinct xs h)
  where
    go : (xs : List Value) → Distinct xs → all_different xs ≡ true
    go [] d = refl
    go (x ∷ xs) d = and-both (not (holds xs x)) (all_different xs) (ap not d.0) (go xs d.1)

-- `allDiff([x | y <- [s1, .., sk], x <- y])` says that the members of the parts all differ.
pub disjoint-means : (x y : Text) (es : Exs) (env : Env) (ws : List Value) → all_some (meanings es env) ≡ Some ws → meaning (are_disjoint x y es) env ≡ Some (truth (all_different (append_all (map items_of ws))))
disjoint-means x y es env ws e = ap all_diff (source ∙ outer ws) ∙ ap (λ l. Some (truth (all_different l))) (to_list-of_list (append_all (map items_of ws)))
  where
    all_diff : Option (List Value) → Option Value
    all_diff o = false_where_undefined true (value_of_node (word Fun.AllDiff) (option_map list_value o ∷ []))

    inner_of : Value → Option (List Value)
    inner_of v = and_then (meaning (name_ex y) (with_pat (name_pat y) v env)) (λ s. collect (items_of s) (λ u. option_map (λ w. w ∷ []) (meaning (name_ex x) (with_pat (name_pat x) u (with_pat (name_pat y) v env)))))

    items : Env → Option (List Value)
    items here = option_map (λ w. w ∷ []) (meaning (name_ex x) here)

    source : items_under (from (name_pat y) (node_ex false matrix_literal es) (from (name_pat x) (name_ex y) no_gens)) env items ≡ collect ws inner_of
    source = ap (λ o. and_then (and_then o (value_of_op matrix_literal)) (λ s. collect (items_of s) inner_of)) e ∙ ap (λ l. collect l inner_of) (to_list-of_list ws)

    alone : (us : List Value) (v : Value) → collect us (λ u. option_map (λ w. w ∷ []) (meaning (name_ex x) (with_pat (name_pat x) u (with_pat (name_pat y) v env)))) ≡ Some us
    alone [] v = refl
    alone (u ∷ us) v = ap (λ o. and_then (option_map (λ w. w ∷ []) o) (λ xs. option_map (λ ys. xs ++ ys) (collect us (λ u. option_map (λ w. w ∷ []) (meaning (name_ex x) (with_pat (name_pat x) u (with_pat (name_pat y) v env))))))) (look-itself x u ((y, v) ∷ env.vals))
        ∙ ap (option_map (λ ys. u ∷ ys)) (alone us v)

    inner : (v : Value) → inner_of v ≡ Some (items_of v)
    inner v = ap (λ o. and_then o (λ s. collect (items_of s) (λ u. option_map (λ w. w ∷ []) (meaning (name_ex x) (with_pat (name_pat x) u (with_pat (name_pat y) v env)))))) (look-itself y v env.vals) ∙ alone (items_of v) v

    outer : (vs : List Value) → collect vs inner_of ≡ Some (append_all (map items_of vs))
    outer [] = refl
    outer (v ∷ vs) = ap (λ o. and_then o (λ xs. option_map (λ ys. xs ++ ys) (collect vs inner_of))) (inner v) ∙ ap (option_map (λ ys. items_of v ++ ys)) (outer vs)

-- The conditions of a partition literal hold where it has a value.
pub partition-holds : (x y : Text) (es : Exs) (env : Env) → is_some (and_then (all_some (meanings es env)) partition_of) ≡ true → Hold (partition_conditions x y es) env
partition-holds x y es env h = go (all_some (meanings es env)) refl h
  where
    go : (o : Option (List Value)) → all_some (meanings es env) ≡ o → is_some (and_then o partition_of) ≡ true → Hold (partition_conditions x y es) env
    go None e h = cc
    go (Some ws) e h =
        let s : not (has_empty_part ws) && not (has_overlap ws) ≡ true = when-some (not (has_empty_part ws) && not (has_overlap ws)) _ h in
        hold-append (have_members x es) _ env (members-hold x es env ws e (not-true (has_empty_part ws) (and-left (not (has_empty_part ws)) (not (has_overlap ws)) s)))
        (unless-holds (is_single_set es) (are_disjoint x y es) env
        (ap as_truth (disjoint-means x y es env ws e) ∙ different-twice (append_all (map items_of ws)) (no-not (no_twice itself (append_all (map items_of ws))) (and-right (not (has_empty_part ws)) (not (has_overlap ws)) s))))

-- ---- matrices

-- Operands are as many as their values.
pub number-of-values : (es : Exs) (env : Env) (ws : List Value) → all_some (meanings es env) ≡ Some ws → operand_count es ≡ length ws
number-of-values no_exs env ws e = ap length (sym (no-values ws e))
number-of-values (more_exs s es) env ws e =
    let r = first-value (meaning s env) (all_some (meanings es env)) ws e in
    ap suc (number-of-values es env r.1 r.3) ∙ ap length (sym r.4)

one-more : (n : ℕ) → 1 + n ≡ suc n
one-more n = omega arith

-- `sum([1 | x : D])` counts the members of D.
pub count-means : (x : Text) (d : Dom) (env : Env) (is : List Value) → members_in (domain_of d env) ≡ Some is →
    meaning (fun1 false Fun.Sum (comp_ex (number_ex (pos 1)) (over (name_pat x) d no_gens))) env ≡ Some (number (pos (length is)))
count-means x d env is e = ap total (ap (λ o. and_then o (λ vs. collect vs (λ v. Some (number (pos 1) ∷ [])))) e ∙ ones is) ∙ ap (λ l. Some (number (sum_of l))) (to_list-of_list (map (λ v. number (pos 1)) is)) ∙ ap (λ z. Some (number z)) (counted is)
  where
    total : Option (List Value) → Option Value
    total o = value_of_node (word Fun.Sum) (option_map list_value o ∷ [])

    ones : (vs : List Value) → collect vs (λ v. Some (number (pos 1) ∷ [])) ≡ Some (map (λ v. number (pos 1)) vs)
    ones [] = refl
    ones (v ∷ vs) = ap (option_map (λ ys. number (pos 1) ∷ ys)) (ones vs)

    counted : (vs : List Value) → sum_of (map (λ v. number (pos 1)) vs) ≡ pos (length vs)
    counted [] = refl
    counted (v ∷ vs) = ap (λ z. pos 1 +ℤ z) (counted vs) ∙ ap pos (one-more (length vs))

-- The conditions of a matrix literal hold where it has a value.
pub matrix-holds : (x : Text) (es : Exs) (d : Dom) (env : Env) → is_some (and_then (all_some (meanings es env)) (matrix_value (members_in (domain_of d env)))) ≡ true → Hold (matrix_conditions x es d) env
matrix-holds x es d env h = go (all_some (meanings es env)) (members_in (domain_of d env)) refl refl h
  where
    go : (o p : Option (List Value)) → all_some (meanings es env) ≡ o → members_in (domain_of d env) ≡ p → is_some (and_then o (matrix_value p)) ≡ true → Hold (matrix_conditions x es d) env
    go None p e f h = cc
    go (Some ws) None e f h = cc
    go (Some ws) (Some is) e f h = unless-holds (has_size d (operand_count es)) _ env
        (ap (λ o. as_truth (false_where_undefined true (value_of_node (binary Op2.Eq) (o ∷ Some (number (pos (operand_count es))) ∷ [])))) (count-means x d env is f)
        ∙ ap (λ n. same (number (pos (length is))) (number (pos n))) (number-of-values es env ws e ∙ sym (eqb-true (length is) (length ws) (when-some (nat_eq (length is) (length ws)) _ h)))
        ∙ same-itself (number (pos (length is))))
