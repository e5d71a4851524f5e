-- What is fixed at its place is given there, and in order.
use Rattle.std.proofs.Common.{◌≡◌, refl, Bool, true, false, ◌&&◌}
use Rattle.std.specs.List.{list_all}
use Rattle.ess_semantics.specs.Values.{Text}
use Rattle.ess_semantics.specs.Trees.{Ex, Exs, number_ex, truth_ex, name_ex, node_ex, matrix_ex, comp_ex, cell_ex, seen_ex, no_exs, more_exs, Gens, no_gens, over, from, cond}
use Rattle.ess_semantics.specs.ExpressionJudgements.{forgets_order}
use Rattle.ess_semantics.proofs.Tests.{and-left, and-right, and-both}
use Rattle.ess_given_laws.specs.Given.{is_fixed_dom}
use Rattle.ess_given_laws.proofs.FixedTrees.{both-so, then-so}
use Rattle.ess_given_conditions_laws.specs.InScope.{bound_as, is_fixed_in, are_fixed_in, are_gens_fixed_in, fixed_behind, is_dom_fixed_in, is_given_in, are_given_in, are_gens_given_in}
use Rattle.ess_given_order_laws.specs.OrderInScope.{is_in_order_in, are_gens_in_order_in, is_ordered_in, are_ordered_in, are_gens_ordered_in}

module _ (t : Text → Bool) where
  mutual
    -- What is fixed is given.
    pub given-from : (e : Ex) (s : Text → Bool) → is_fixed_in t s e ≡ true → is_given_in t s e ≡ true
    given-from (number_ex n) s h = refl
    given-from (truth_ex b) s h = refl
    given-from (name_ex a) s h = refl
    given-from (node_ex b op es) s h = all-from es s h
    given-from (matrix_ex es d) s h = both-so (are_fixed_in t s es) (is_dom_fixed_in t s d) (are_given_in t s es) (is_dom_fixed_in t s d)
        (all-from es s) (λ q. q) h
    given-from (comp_ex e gs) s h = both-so (are_gens_fixed_in t s gs) (is_fixed_in t (fixed_behind t s gs) e) (are_gens_given_in t s gs)
        (is_given_in t (fixed_behind t s gs) e) (gens-from gs s) (given-from e (fixed_behind t s gs)) h
    given-from (cell_ex b n es) s h = all-from es s (and-right (t n) (are_fixed_in t s es) h)
    given-from (seen_ex r d ns es) s h = then-so (is_fixed_dom t d) (are_fixed_in t s es) (are_given_in t s es) (all-from es s)
        (and-right (list_all t ns) (is_fixed_dom t d && are_fixed_in t s es) h)

    all-from : (es : Exs) (s : Text → Bool) → are_fixed_in t s es ≡ true → are_given_in t s es ≡ true
    all-from no_exs s h = refl
    all-from (more_exs e es) s h = both-so (is_fixed_in t s e) (are_fixed_in t s es) (is_given_in t s e) (are_given_in t s es)
        (given-from e s) (all-from es s) h

    gens-from : (gs : Gens) (s : Text → Bool) → are_gens_fixed_in t s gs ≡ true → are_gens_given_in t s gs ≡ true
    gens-from no_gens s h = refl
    gens-from (over p d gs) s h = then-so (is_dom_fixed_in t s d) (are_gens_fixed_in t (bound_as true p s) gs)
        (are_gens_given_in t (bound_as true p s) gs) (gens-from gs (bound_as true p s)) h
    gens-from (from p e gs) s h = let i = bound_as (is_fixed_in t s e) p s in
        both-so (is_fixed_in t s e) (are_gens_fixed_in t i gs) (is_given_in t s e) (are_gens_given_in t i gs)
        (given-from e s) (gens-from gs i) h
    gens-from (cond c gs) s h = both-so (is_fixed_in t s c) (are_gens_fixed_in t s gs) (is_given_in t s c) (are_gens_given_in t s gs)
        (given-from c s) (gens-from gs s) h

  mutual
    -- It is in order, if it is a comprehension.
    pub place-from : (e : Ex) (s : Text → Bool) → is_fixed_in t s e ≡ true → is_in_order_in t s e ≡ true
    place-from (comp_ex e gs) s h = gens-place gs s (and-left (are_gens_fixed_in t s gs) (is_fixed_in t (fixed_behind t s gs) e) h)
    place-from (number_ex n) s h = refl
    place-from (truth_ex b) s h = refl
    place-from (name_ex a) s h = refl
    place-from (node_ex b op es) s h = refl
    place-from (matrix_ex es d) s h = refl
    place-from (cell_ex b n es) s h = refl
    place-from (seen_ex r d ns es) s h = refl

    gens-place : (gs : Gens) (s : Text → Bool) → are_gens_fixed_in t s gs ≡ true → are_gens_in_order_in t s gs ≡ true
    gens-place no_gens s h = refl
    gens-place (over p d gs) s h =
        gens-place gs (bound_as true p s) (and-right (is_dom_fixed_in t s d) (are_gens_fixed_in t (bound_as true p s) gs) h)
    gens-place (from p e gs) s h = let i = bound_as (is_fixed_in t s e) p s in
        both-so (is_fixed_in t s e) (are_gens_fixed_in t i gs) (is_in_order_in t s e) (are_gens_in_order_in t i gs)
        (place-from e s) (gens-place gs i) h
    gens-place (cond c gs) s h =
        then-so (is_fixed_in t s c) (are_gens_fixed_in t s gs) (are_gens_in_order_in t s gs) (gens-place gs s) h

  mutual
    -- Comprehensions within are in order.
    pub order-from : (e : Ex) (s : Text → Bool) → is_fixed_in t s e ≡ true → is_ordered_in t s e ≡ true
    order-from (number_ex n) s h = refl
    order-from (truth_ex b) s h = refl
    order-from (name_ex a) s h = refl
    order-from (node_ex b op es) s h = all-order es (forgets_order op) s h
    order-from (matrix_ex es d) s h = all-order es false s (and-left (are_fixed_in t s es) (is_dom_fixed_in t s d) h)
    order-from (comp_ex e gs) s h = let i = fixed_behind t s gs in let k = and-right (are_gens_fixed_in t s gs) (is_fixed_in t i e) h in
        and-both (are_gens_ordered_in t s gs) (is_in_order_in t i e && is_ordered_in t i e)
        (gens-order gs s (and-left (are_gens_fixed_in t s gs) (is_fixed_in t i e) h))
        (and-both (is_in_order_in t i e) (is_ordered_in t i e) (place-from e i k) (order-from e i k))
    order-from (cell_ex b n es) s h = all-order es false s (and-right (t n) (are_fixed_in t s es) h)
    order-from (seen_ex r d ns es) s h = all-order es false s (and-right (is_fixed_dom t d) (are_fixed_in t s es)
        (and-right (list_all t ns) (is_fixed_dom t d && are_fixed_in t s es) h))

    all-order : (es : Exs) (c : Bool) (s : Text → Bool) → are_fixed_in t s es ≡ true → are_ordered_in t s es c ≡ true
    all-order no_exs c s h = refl
    all-order (more_exs e es) true s h = both-so (is_fixed_in t s e) (are_fixed_in t s es) (is_ordered_in t s e)
        (are_ordered_in t s es true) (order-from e s) (all-order es true s) h
    all-order (more_exs e es) false s h = both-so (is_fixed_in t s e) (are_fixed_in t s es) (is_in_order_in t s e && is_ordered_in t s e)
        (are_ordered_in t s es false)
        (λ k. and-both (is_in_order_in t s e) (is_ordered_in t s e) (place-from e s k) (order-from e s k)) (all-order es false s) h

    gens-order : (gs : Gens) (s : Text → Bool) → are_gens_fixed_in t s gs ≡ true → are_gens_ordered_in t s gs ≡ true
    gens-order no_gens s h = refl
    gens-order (over p d gs) s h =
        gens-order gs (bound_as true p s) (and-right (is_dom_fixed_in t s d) (are_gens_fixed_in t (bound_as true p s) gs) h)
    gens-order (from p e gs) s h = let i = bound_as (is_fixed_in t s e) p s in
        both-so (is_fixed_in t s e) (are_gens_fixed_in t i gs) (is_ordered_in t s e) (are_gens_ordered_in t i gs)
        (order-from e s) (gens-order gs i) h
    gens-order (cond c gs) s h = both-so (is_fixed_in t s c) (are_gens_fixed_in t s gs) (is_in_order_in t s c && is_ordered_in t s c)
        (are_gens_ordered_in t s gs)
        (λ k. and-both (is_in_order_in t s c) (is_ordered_in t s c) (place-from c s k) (order-from c s k)) (gens-order gs s) h
