-- A matrix has an item at each member of the index domain that its form tells.
use Rattle.std.proofs.Common.{◌≡◌, refl, sym, ap, ◌∙◌, subst, Bool, true, false, List, [], ◌∷◌, length, pos, Option, Some, None, option_map, is_some, nat_eq}
use Rattle.std.proofs.lemmas.Bool.{eqb-true}
use Rattle.ess_semantics.specs.declared.words.Fun.{Fun}
use Rattle.ess_semantics.specs.Lists.{and_then, all_some, list_or_none, when}
use Rattle.ess_semantics.specs.Values.{Value, of_list, matrix}
use Rattle.ess_semantics.specs.Collections.{holds}
use Rattle.ess_semantics.specs.Trees.{matrix_literal, Ex, Exs, number_ex, node_ex, matrix_ex, comp_ex, Gens, Dom, matrix_dom, more_doms, fun1}
use Rattle.ess_semantics.specs.Operators.{number_in, at_index, value_of_op, list_value}
use Rattle.ess_semantics.specs.Domains.{integers, members, member_list, between}
use Rattle.ess_semantics.specs.Meaning.{Env, meaning, meanings, items_under, domain_of, domains_of, members_in, matrix_value}
use Rattle.ess_semantics.specs.Constants.{operand_count}
use Rattle.ess_guard_laws.specs.IndexDomains.{one_up_to, dom_followed, first_index, index_dom}
use Rattle.ess_guard_laws.proofs.LiteralRows.{number-of-values}
use Rattle.ess_guard_laws.proofs.Axes.{IsNested, HasAxis, nested-axis}
use Rattle.ess_guard_laws.proofs.IndexRows.{Follows, split-doms, some-dom, plain-axis, follows, counted-under}
use Rattle.ess_guard_laws.proofs.TotalIndices.{inside-items, list-there}

-- The matrix has an item at each listed member of the domain.
abbrev pub ItemsOver : Ex → Env → Dom → Type 0
ItemsOver m env d = (v w : Value) (is : List Value) → meaning m env ≡ Some v → members_in (domain_of d env) ≡ Some is → holds is w ≡ true →
    is_some (at_index v w) ≡ true

is-value : (u v : Value) → Some u ≡ Some v → v ≡ u
is-value u v e = ap (λ o. elim o [ None ↦ v | Some z ↦ z ]) (sym e)

list-items : (es : Exs) (env : Env) → ItemsOver (node_ex false matrix_literal es) env (one_up_to (number_ex (pos (operand_count es))))
list-items es env v w is e q h = go (all_some (meanings es env)) refl e
  where
    go : (o : Option (List Value)) → all_some (meanings es env) ≡ o → and_then o (value_of_op matrix_literal) ≡ Some v →
        is_some (at_index v w) ≡ true
    go None r e = cc
    go (Some xs) r e = ap (λ z. is_some (at_index z w)) (is-value (list_value xs) v e)
        ∙ list-there xs w is (ap (λ n. members (between (pos 1) (pos n))) (sym (number-of-values es env xs r)) ∙ q) h

comp-items : (b : Ex) (gs : Gens) (env : Env) →
    ItemsOver (comp_ex b gs) env (one_up_to (fun1 false Fun.Sum (comp_ex (number_ex (pos 1)) gs)))
comp-items b gs env v w is e q h = go (items_under gs env (λ here. option_map (λ u. u ∷ []) (meaning b here))) refl e
  where
    go : (o : Option (List Value)) → items_under gs env (λ here. option_map (λ u. u ∷ []) (meaning b here)) ≡ o →
        option_map list_value o ≡ Some v → is_some (at_index v w) ≡ true
    go None r e = cc
    go (Some xs) r e = ap (λ z. is_some (at_index z w)) (is-value (list_value xs) v e)
        ∙ list-there xs w is (ap
        (λ o. members_in (option_map integers
        (and_then (option_map number_in o) (λ m. Some (record { low = Some (pos 1); high = Some m } ∷ [])))))
        (sym (counted-under b gs env xs r)) ∙ q) h

matrix-items : (es : Exs) (d : Dom) (env : Env) → ItemsOver (matrix_ex es d) env d
matrix-items es d env v w is e q h = go (all_some (meanings es env)) e
  where
    at : (xs : List Value) (b : Bool) → nat_eq (length is) (length xs) ≡ b → when b (matrix (of_list is) (of_list xs)) ≡ Some v →
        is_some (at_index v w) ≡ true
    at xs false r e = cc
    at xs true r e = ap (λ z. is_some (at_index z w)) (is-value (matrix (of_list is) (of_list xs)) v e)
        ∙ inside-items is xs w (sym (eqb-true (length is) (length xs) r)) h

    go : (o : Option (List Value)) → and_then o (matrix_value (members_in (domain_of d env))) ≡ Some v → is_some (at_index v w) ≡ true
    go None e = cc
    go (Some xs) e = at xs (nat_eq (length is) (length xs)) refl (ap (λ o. matrix_value o xs) (sym q) ∙ e)

followed-items : (m : Ex) (d : Dom) (env : Env) → first_index (dom_followed m) ≡ Some d → ItemsOver m env d
followed-items m d env i v w ws p q h = go (dom_followed m) (follows m env v p) i
  where
    go : (o : Option Dom) → Follows o env v → first_index o ≡ Some d → is_some (at_index v w) ≡ true
    go (Some (matrix_dom (more_doms c is) e)) f i =
        let r = f (more_doms c is) e refl in
        let s = split-doms (domain_of c env) (domains_of is env) r.0 r.1 in
        let x : HasAxis s.0 s.1 v = nested-axis s.0 s.1 v (subst (λ z. IsNested z v) s.4 r.2) in
        ap (λ z. is_some (at_index z w)) x.2
        ∙ inside-items (member_list s.0) x.0 w x.1
        (ap (λ o. holds (list_or_none o) w) (ap members_in (sym s.2) ∙ ap (λ z. members_in (domain_of z env)) (some-dom c d i) ∙ q) ∙ h)
    go o f i = cc

-- So it is for the index domain of any term that tells one.
pub axis-items : (m : Ex) (d : Dom) (env : Env) → index_dom m ≡ Some d → ItemsOver m env d
axis-items (node_ex false matrix_literal es) d env i =
    subst (ItemsOver (node_ex false matrix_literal es) env) (some-dom _ d i) (list-items es env)
axis-items (comp_ex b gs) d env i = subst (ItemsOver (comp_ex b gs) env) (some-dom _ d i) (comp-items b gs env)
axis-items (matrix_ex es c) d env i = subst (ItemsOver (matrix_ex es c) env) (some-dom c d i) (matrix-items es c env)
axis-items m d env i = followed-items m d env (plain-axis (first_index (dom_followed m)) d i)
