-- The conditions of a literal of a function are total, and where they hold it has a value.
use Rattle.std.proofs.Common.{◌≡◌, refl, sym, ap, ◌∙◌, Bool, true, false, not, List, [], ◌∷◌, Option, Some, None, is_some}
use Rattle.ess_semantics.specs.declared.words.Op2.{Op2}
use Rattle.ess_semantics.specs.Lists.{and_then, all_some, when}
use Rattle.ess_semantics.specs.Values.{a_function, Value, node, of_list, from_of, pair}
use Rattle.ess_semantics.specs.Order.{same}
use Rattle.ess_semantics.specs.Collections.{holds, sorted_once, no_twice, function_of}
use Rattle.ess_semantics.specs.Trees.{binary, tuple_literal, function_literal, Ex, Exs, node_ex, no_exs, more_exs, ex2}
use Rattle.ess_semantics.specs.Operators.{as_truth, implies, value_of_node}
use Rattle.ess_semantics.specs.Meaning.{Env, meaning, meanings}
use Rattle.ess_semantics.specs.Totality.{HasValue, Total, TotalAll}
use Rattle.ess_semantics.proofs.Orders.{same-itself, same-equal}
use Rattle.ess_semantics.proofs.Sorting.{holds-sorted_once}
use Rattle.ess_semantics.proofs.Tests.{and-left, and-right, if-so}
use Rattle.ess_rules_laws.proofs.Apart.{apart-differ}
use Rattle.ess_guard_laws.specs.Conditions.{unless, agree, have_other_arguments, agree_all, function_conditions}
use Rattle.ess_guard_laws.specs.Covered.{is_pair, are_pairs}
use Rattle.ess_guard_laws.specs.Holds.{Hold}
use Rattle.ess_guard_laws.proofs.Holding.{hold-left, hold-right, the-value}
use Rattle.ess_guard_laws.proofs.LiteralRows.{first-value, no-values}
use Rattle.ess_guard_laws.proofs.Safe.{all-there}
use Rattle.ess_guard_laws.proofs.Behind.{EachTotal, each-total-append, each-total-unless, safe-total}
use Rattle.ess_guard_laws.proofs.Differ.{held-split, distinct-parts, sorted-distinct}

-- ---- the conditions are total

agree-total : (p q : Ex) (env : Env) → Total p env → Total q env → Total (agree p q) env
agree-total (node_ex false tuple_literal (more_exs a (more_exs b no_exs)))
    (node_ex false tuple_literal (more_exs c (more_exs d no_exs))) env t u =
    safe-total true (binary Op2.Implies) (more_exs (ex2 true Op2.Eq a c) (more_exs (ex2 true Op2.Eq b d) no_exs)) env refl (
      safe-total true (binary Op2.Eq) (more_exs a (more_exs c no_exs)) env refl (t.1.0, (u.1.0, tt)),
      (safe-total true (binary Op2.Eq) (more_exs b (more_exs d no_exs)) env refl (t.1.1.0, (u.1.1.0, tt)), tt),
    )
agree-total p q env t u = tt

agree-all-total : (p : Ex) (qs : Exs) (env : Env) → Total p env → TotalAll qs env → EachTotal (agree_all p qs) env
agree-all-total p no_exs env t u = tt
agree-all-total p (more_exs q qs) env t u =
    each-total-append (unless (have_other_arguments p q) (agree p q)) (agree_all p qs) env
    (each-total-unless (have_other_arguments p q) (agree p q) env (agree-total p q env t u.0)) (agree-all-total p qs env t u.1)

-- That pairs agree is total.
pub agreement-total : (es : Exs) (env : Env) → TotalAll es env → EachTotal (function_conditions es) env
agreement-total no_exs env t = tt
agreement-total (more_exs p es) env t =
    each-total-append (agree_all p es) (function_conditions es) env (agree-all-total p es env t.0 t.1) (agreement-total es env t.1)

-- ---- what they tell

agree-tells : (p q : Ex) (env : Env) (v w : Value) → is_pair p ≡ true → is_pair q ≡ true → meaning p env ≡ Some v → meaning q env ≡ Some w →
    as_truth (meaning (agree p q) env) ≡ true →
    same (from_of v) (from_of w) ≡ true → v ≡ w
agree-tells (node_ex false tuple_literal (more_exs a (more_exs b no_exs)))
    (node_ex false tuple_literal (more_exs c (more_exs d no_exs))) env v w s t e f h z =
    go (meaning a env) (meaning b env) (meaning c env) (meaning d env) e f h
  where
    go : (a b c d : Option Value) → value_of_node tuple_literal (a ∷ b ∷ []) ≡ Some v → value_of_node tuple_literal (c ∷ d ∷ []) ≡ Some w →
        implies (as_truth (value_of_node (binary Op2.Eq) (a ∷ c ∷ []))) (as_truth (value_of_node (binary Op2.Eq) (b ∷ d ∷ []))) ≡ true →
        v ≡ w
    go None b c d e f h = cc
    go (Some a) None c d e f h = cc
    go (Some a) (Some b) None d e f h = cc
    go (Some a) (Some b) (Some c) None e f h = cc
    go (Some a) (Some b) (Some c) (Some d) e f h =
        vs ∙ ap (λ x. pair x b) (same-equal a c first) ∙ ap (pair c) (same-equal b d (if-so (same a c) (same b d) first h)) ∙ sym ws
      where
        vs : v ≡ pair a b
        vs = ap (λ o. elim o [ None ↦ v | Some z ↦ z ]) (sym e)

        ws : w ≡ pair c d
        ws = ap (λ o. elim o [ None ↦ w | Some z ↦ z ]) (sym f)

        first : same a c ≡ true
        first = ap (λ x. same a (from_of x)) (sym ws) ∙ ap (λ x. same (from_of x) (from_of w)) (sym vs) ∙ z
agree-tells p q env v w s t e f h z = cc

-- The parts of a pair have values.
pair-parts : (o p : Option Value) (v : Value) → value_of_node tuple_literal (o ∷ p ∷ []) ≡ Some v →
    (a : Value) × (b : Value) × (o ≡ Some a) × (p ≡ Some b) × (v ≡ pair a b)
pair-parts None p v e = cc
pair-parts (Some a) None v e = cc
pair-parts (Some a) (Some b) v e = (a, b, refl, refl, ap (λ o. elim o [ None ↦ v | Some z ↦ z ]) (sym e))

-- Pairs whose arguments are others by their form have different arguments.
other-arguments : (p q : Ex) (env : Env) (v w : Value) → have_other_arguments p q ≡ true → meaning p env ≡ Some v →
    meaning q env ≡ Some w → same (from_of v) (from_of w) ≡ false
other-arguments (node_ex false tuple_literal (more_exs a (more_exs b no_exs)))
    (node_ex false tuple_literal (more_exs c (more_exs d no_exs))) env v w t e f =
    let r = pair-parts (meaning a env) (meaning b env) v e in
    let s = pair-parts (meaning c env) (meaning d env) w f in
    ap (λ x. same (from_of x) (from_of w)) r.4 ∙ ap (λ x. same r.0 (from_of x)) s.4 ∙ apart-differ a c env t r.0 s.0 r.2 s.2
other-arguments p q env v w t e f = cc

-- Two pairs with one argument are one, where it is asked that they agree, or the form tells that they have others.
pair-tells : (t : Bool) (p q : Ex) (env : Env) (v w : Value) → have_other_arguments p q ≡ t → is_pair p ≡ true → is_pair q ≡ true →
    meaning p env ≡ Some v → meaning q env ≡ Some w → Hold (unless t (agree p q)) env → same (from_of v) (from_of w) ≡ true → v ≡ w
pair-tells true p q env v w o s t e f h z = let d : true ≡ false = sym z ∙ other-arguments p q env v w o e f in cc
pair-tells false p q env v w o s t e f h z = agree-tells p q env v w s t e f h.0 z

agree-all-tell : (p : Ex) (qs : Exs) (env : Env) (v : Value) (ws : List Value) → is_pair p ≡ true → are_pairs qs ≡ true →
    meaning p env ≡ Some v → all_some (meanings qs env) ≡ Some ws → Hold (agree_all p qs) env →
    (w : Value) → holds ws w ≡ true → same (from_of v) (from_of w) ≡ true → v ≡ w
agree-all-tell p no_exs env v ws s t e f h w k z = let r : holds [] w ≡ true = ap (λ l. holds l w) (sym (no-values ws f)) ∙ k in cc
agree-all-tell p (more_exs q qs) env v ws s t e f h w k z =
    let r = first-value (meaning q env) (all_some (meanings qs env)) ws f in
    held-split r.0 r.1 w (v ≡ w) (ap (λ l. holds l w) (sym r.4) ∙ k)
    (λ u. pair-tells (have_other_arguments p q) p q env v r.0 refl s (and-left (is_pair q) (are_pairs qs) t) e r.2
    (hold-left (unless (have_other_arguments p q) (agree p q)) (agree_all p qs) env h) (ap (λ x. same (from_of v) (from_of x)) u ∙ z) ∙ u)
    (λ u. agree-all-tell p qs env v r.1 s (and-right (is_pair q) (are_pairs qs) t) e r.3
    (hold-right (unless (have_other_arguments p q) (agree p q)) (agree_all p qs) env h) w u z)

agreement-tells : (es : Exs) (env : Env) (ws : List Value) → are_pairs es ≡ true → all_some (meanings es env) ≡ Some ws →
    Hold (function_conditions es) env →
    (v w : Value) → holds ws v ≡ true → holds ws w ≡ true → same (from_of v) (from_of w) ≡ true → v ≡ w
agreement-tells no_exs env ws t f h v w i j z = let r : holds [] w ≡ true = ap (λ l. holds l w) (sym (no-values ws f)) ∙ j in cc
agreement-tells (more_exs p es) env ws t f h v w i j z =
    held-split r.0 r.1 v (v ≡ w) (ap (λ l. holds l v) (sym r.4) ∙ i)
    (λ a. held-split r.0 r.1 w (v ≡ w) (ap (λ l. holds l w) (sym r.4) ∙ j) (λ b. sym a ∙ b)
    (λ b. sym a ∙ first w b (ap (λ x. same (from_of x) (from_of w)) a ∙ z)))
    (λ a. held-split r.0 r.1 w (v ≡ w) (ap (λ l. holds l w) (sym r.4) ∙ j) (λ b. sym (first v a (turned b)) ∙ b)
    (λ b. agreement-tells es env r.1 (and-right (is_pair p) (are_pairs es) t) r.3
    (hold-right (agree_all p es) (function_conditions es) env h) v w a b z))
  where
    r : (v : Value) × (us : List Value) × (meaning p env ≡ Some v) × (all_some (meanings es env) ≡ Some us) × (ws ≡ v ∷ us)
    r = first-value (meaning p env) (all_some (meanings es env)) ws f

    first : (w : Value) → holds r.1 w ≡ true → same (from_of r.0) (from_of w) ≡ true → r.0 ≡ w
    first = agree-all-tell p es env r.0 r.1 (and-left (is_pair p) (are_pairs es) t) (and-right (is_pair p) (are_pairs es) t) r.2 r.3
        (hold-left (agree_all p es) (function_conditions es) env h)

    turned : r.0 ≡ w → same (from_of r.0) (from_of v) ≡ true
    turned b = ap (λ x. same x (from_of v)) (ap from_of b ∙ sym (same-equal (from_of v) (from_of w) z)) ∙ same-itself (from_of v)

-- Where pairs agree they are a function.
pub agreement-function : (es : Exs) (env : Env) → are_pairs es ≡ true → Hold (function_conditions es) env →
    HasValue (value_of_node function_literal (meanings es env)) (meanings es env)
agreement-function es env t h k =
    let r = the-value (all_some (meanings es env)) (all-there (meanings es env) k) in
    ap (λ o. is_some (and_then o function_of)) r.1 ∙ one r.0
    (distinct-parts from_of (sorted_once r.0) (sorted-distinct r.0)
    (λ v w a b z. agreement-tells es env r.0 t r.1 h v w (sym (holds-sorted_once r.0 v) ∙ a) (sym (holds-sorted_once r.0 w) ∙ b) z))
  where
    one : (ps : List Value) → no_twice from_of (sorted_once ps) ≡ true → is_some (function_of ps) ≡ true
    one ps e = ap (λ b. is_some (when (not (not b)) (node a_function (of_list (sorted_once ps))))) e
