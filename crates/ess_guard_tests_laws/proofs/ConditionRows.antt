-- The conditions of each row are total as their operands are.
use Rattle.ess_guard_laws.proofs.MetRows.{each-in-always, each-of-always}
use Rattle.ess_guard_laws.proofs.Safe.{is_safe}
use Rattle.ess_guard_laws.proofs.TotalMatrices.{matrix-tells}
use Rattle.ess_guard_laws.specs.Conditions.{agree, agree_all, are_disjoint, as_number, function_conditions, has_item, has_items, has_size, have_members, have_other_arguments, in_dom, is_above_zero, is_not_zero, is_single_set, matrix_conditions, members_of, nil_ex, partition_conditions, party_conditions, power_conditions, quotient_conditions, some_item, unless}
use Rattle.ess_guard_laws.specs.Origins.{Origin, is_number}
use Rattle.ess_semantics.specs.Constants.{operand_count}
use Rattle.ess_semantics.specs.Meaning.{Env, domain_of, meaning, meanings, members_in, with_pat}
use Rattle.ess_semantics.specs.Names.{Names}
use Rattle.ess_semantics.specs.Totality.{HasValue}
use Rattle.ess_semantics.specs.Trees.{Dom, Ex, Exs, binary, both_ends, cell_ex, comp_ex, ex2, from, fun1, int_dom, matrix_ex, matrix_literal, more_exs, name_ex, name_pat, no_exs, no_gens, node_ex, number_ex, over, seen_ex, truth_ex, tuple_literal, word}
use Rattle.ess_semantics.specs.Values.{Text}
use Rattle.ess_semantics.specs.declared.words.Fun.{Fun}
use Rattle.ess_semantics.specs.declared.words.Op2.{Op2}
use Rattle.std.proofs.Common.{Bool, [], false, if◌then◌else◌, pos, refl, true, ◌∷◌, ◌≡◌}
use Rattle.ess_guard_tests_laws.proofs.Places.{T, TA, unplaced, no-test, safe-total, under-map}
use Rattle.ess_guard_tests_laws.proofs.Behind.{Behind, EachTotal, each-total-append, each-total-unless, behind-asked}
use Rattle.ess_guard_tests_laws.specs.TotalButTests.{IsTest, TotalButTests, DomTotalButTests}

-- ---- numbers

-- The number that an operator reads.
pub number-total : (k : Names Origin) (b : Ex) (env : Env) → T b env → T (as_number k b) env
number-total k b env t = go (is_number k b)
  where
    go : (z : Bool) → T (if z then b else ex2 false Op2.Plus b nil_ex) env
    go true = t
    go false = safe-total false (binary Op2.Plus) (more_exs b (more_exs nil_ex no_exs)) env refl (t, (tt, tt))

compare-total : (o : Op2) (k : Names Origin) (b : Ex) (env : Env) → is_safe (binary o) ≡ true → T b env →
    T (ex2 true o (as_number k b) nil_ex) env
compare-total o k b env s t =
    safe-total true (binary o) (more_exs (as_number k b) (more_exs nil_ex no_exs)) env s (number-total k b env t, (tt, tt))

-- The condition of a quotient or a remainder is total.
pub quotient-asked : (k : Names Origin) (b : Ex) (env : Env) → T b env → EachTotal (quotient_conditions k b) env
quotient-asked k b env t = each-total-unless (is_not_zero b) _ env (compare-total Op2.Ne k b env refl t)

-- The conditions of a power are total.
pub power-asked : (k : Names Origin) (a b : Ex) (env : Env) → T a env → T b env → EachTotal (power_conditions k a b) env
power-asked k a b env ta tb = go (is_above_zero b)
  where
    go : (t : Bool) →
        EachTotal (if t then [] else ex2 true Op2.Ge (as_number k b) nil_ex ∷ unless (is_not_zero a)
        (ex2 true Op2.Or (ex2 true Op2.Ne (as_number k b) nil_ex) (ex2 true Op2.Ne (as_number k a) nil_ex))) env
    go true = tt
    go false = (
      compare-total Op2.Ge k b env refl tb,
      each-total-unless (is_not_zero a) _ env
          (safe-total true (binary Op2.Or)
          (more_exs (ex2 true Op2.Ne (as_number k b) nil_ex) (more_exs (ex2 true Op2.Ne (as_number k a) nil_ex) no_exs)) env refl
          (compare-total Op2.Ne k b env refl tb, (compare-total Op2.Ne k a env refl ta, tt))),
    )

-- ---- items

from-item-total : (x : Text) (s : Ex) (env : Env) → T s env →
    T (fun1 true Fun.Or (comp_ex (truth_ex true) (from (name_pat x) s no_gens))) env
from-item-total x s env t =
    safe-total true (word Fun.Or) (more_exs (comp_ex (truth_ex true) (from (name_pat x) s no_gens)) no_exs) env refl
    ((t, each-in-always (meaning s env) _ (λ v. tt)), tt)

-- That a container has an item is total.
pub has-item-total : (x : Text) (s : Ex) (env : Env) → T s env → T (has_item x s) env
has-item-total x (comp_ex e gs) env t =
    safe-total true (word Fun.Or) (more_exs (comp_ex (truth_ex true) gs) no_exs) env refl (under-map gs env _ _ (λ h q. tt) t, tt)
has-item-total x (number_ex n) env t = from-item-total x (number_ex n) env t
has-item-total x (truth_ex b) env t = from-item-total x (truth_ex b) env t
has-item-total x (name_ex a) env t = from-item-total x (name_ex a) env t
has-item-total x (node_ex b op es) env t = from-item-total x (node_ex b op es) env t
has-item-total x (matrix_ex es d) env t = from-item-total x (matrix_ex es d) env t
has-item-total x (cell_ex b n es) env t = from-item-total x (cell_ex b n es) env t
has-item-total x (seen_ex r d ns es) env t = from-item-total x (seen_ex r d ns es) env t

-- The condition of a part is total.
pub party-asked : (a p : Ex) (env : Env) → T a env → T p env → EachTotal (party_conditions a p) env
party-asked a p env ta tp = (
  safe-total true (binary Op2.Member) (more_exs a (more_exs (fun1 false Fun.Participants p) no_exs)) env refl
      (ta, (safe-total false (word Fun.Participants) (more_exs p no_exs) env refl (tp, tt), tt)),
  tt,
)

-- ---- literals

-- The operands of a pair are no sides of a test.
of-pair : (a b e : Ex) (env : Env) → TotalButTests (IsTest false tuple_literal (more_exs a (more_exs b no_exs))) e env → T e env
of-pair a b e env t = unplaced (IsTest false tuple_literal (more_exs a (more_exs b no_exs)))
    (no-test tuple_literal (more_exs a (more_exs b no_exs))) e env t

agree-total : (p q : Ex) (env : Env) → T p env → T q env → T (agree p q) env
agree-total (node_ex false tuple_literal (more_exs a (more_exs b no_exs)))
    (node_ex false tuple_literal (more_exs c (more_exs d no_exs))) env t u =
    safe-total true (binary Op2.Implies) (more_exs (ex2 true Op2.Eq a c) (more_exs (ex2 true Op2.Eq b d) no_exs)) env refl (
      safe-total true (binary Op2.Eq) (more_exs a (more_exs c no_exs)) env refl (of-pair a b a env t.1.0, (of-pair c d c env u.1.0, tt)),
      (
        safe-total true (binary Op2.Eq) (more_exs b (more_exs d no_exs)) env refl
            (of-pair a b b env t.1.1.0, (of-pair c d d env u.1.1.0, tt)),
        tt,
      ),
    )
agree-total p q env t u = tt

agree-all-total : (p : Ex) (qs : Exs) (env : Env) → T p env → TA qs env → EachTotal (agree_all p qs) env
agree-all-total p no_exs env t u = tt
agree-all-total p (more_exs q qs) env t u =
    each-total-append (unless (have_other_arguments p q) (agree p q)) (agree_all p qs) env
    (each-total-unless (have_other_arguments p q) (agree p q) env (agree-total p q env t u.0)) (agree-all-total p qs env t u.1)

-- That pairs agree is total.
pub agreement-total : (es : Exs) (env : Env) → TA es env → EachTotal (function_conditions es) env
agreement-total no_exs env t = tt
agreement-total (more_exs p es) env t =
    each-total-append (agree_all p es) (function_conditions es) env (agree-all-total p es env t.0 t.1) (agreement-total es env t.1)

members-total : (x : Text) (es : Exs) (env : Env) → TA es env → EachTotal (have_members x es) env
members-total x no_exs env t = tt
members-total x (more_exs s es) env t =
    each-total-append (some_item x s) (have_members x es) env
    (each-total-unless (has_items s) (has_item x s) env (has-item-total x s env t.0)) (members-total x es env t.1)

disjoint-total : (x y : Text) (es : Exs) (env : Env) → TA es env → T (are_disjoint x y es) env
disjoint-total x y es env t =
    safe-total true (word Fun.AllDiff)
    (more_exs (comp_ex (name_ex x)
    (from (name_pat y) (node_ex false matrix_literal es) (from (name_pat x) (name_ex y) no_gens))) no_exs) env refl (
      (
        safe-total false matrix_literal es env refl t,
        each-in-always (meaning (node_ex false matrix_literal es) env) _
            (λ v. (tt, each-in-always (meaning (name_ex y) (with_pat (name_pat y) v env)) _ (λ w. tt))),
      ),
      tt,
    )

-- That parts have members and share none is total.
pub parts-total : (x y : Text) (es : Exs) (env : Env) → TA es env → EachTotal (partition_conditions x y es) env
parts-total x y es env t =
    each-total-append (have_members x es) (unless (is_single_set es) (are_disjoint x y es)) env (members-total x es env t)
    (each-total-unless (is_single_set es) (are_disjoint x y es) env (disjoint-total x y es env t))

matrix-asked : (x : Text) (es : Exs) (d : Dom) (env : Env) → DomTotalButTests d env → EachTotal (matrix_conditions x es d) env
matrix-asked x es d env t = each-total-unless (has_size d (operand_count es)) _ env
    (safe-total true (binary Op2.Eq)
    (more_exs (fun1 false Fun.Sum (comp_ex (number_ex (pos 1)) (over (name_pat x) d no_gens)))
    (more_exs (number_ex (pos (operand_count es))) no_exs)) env refl (
      safe-total false (word Fun.Sum) (more_exs (comp_ex (number_ex (pos 1)) (over (name_pat x) d no_gens)) no_exs) env refl
          ((t, each-of-always (members_in (domain_of d env)) (λ v. Unit {0}) (λ v. tt)), tt),
      (tt, tt),
    ))

-- The row of a matrix literal.
pub matrix-total : (x : Text) (es fs : Exs) (d : Dom) (env : Env) → operand_count es ≡ operand_count fs → DomTotalButTests d env →
    Behind (matrix_conditions x es d) env (HasValue (meaning (matrix_ex fs d) env) (meanings fs env))
matrix-total x es fs d env q t = behind-asked (matrix_conditions x es d) env _ (matrix-asked x es d env t) (matrix-tells x es fs d env q)

-- ---- index domains

-- `i in D` is total.
pub in-dom-total : (x : Text) (i : Ex) (d : Dom) (env : Env) → T i env → DomTotalButTests d env → T (in_dom x i d) env
in-dom-total x i (int_dom (both_ends ∷ []) (more_exs a (more_exs b no_exs))) env t u =
    let low = safe-total true (binary Op2.Le) (more_exs (as_number [] a) (more_exs i no_exs)) env refl
    (number-total [] a env u.0, (t, tt)) in
    let high = safe-total true (binary Op2.Le) (more_exs i (more_exs (as_number [] b) no_exs)) env refl
    (t, (number-total [] b env u.1.0, tt)) in
    safe-total true (binary Op2.And)
    (more_exs (ex2 true Op2.Le (as_number [] a) i) (more_exs (ex2 true Op2.Le i (as_number [] b)) no_exs)) env refl (low, (high, tt))
in-dom-total x i d env t u = safe-total true (binary Op2.Member) (more_exs i (more_exs (members_of x d) no_exs)) env refl (
  t,
  (
    safe-total false (word Fun.ToSet) (more_exs (comp_ex (name_ex x) (over (name_pat x) d no_gens)) no_exs) env refl
        ((u, each-of-always (members_in (domain_of d env)) (λ v. Unit {0}) (λ v. tt)), tt),
    tt,
  ),
)
