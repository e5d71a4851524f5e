-- What is fixed is in order: its conditions are fixed.
use Rattle.std.proofs.Common.{◌≡◌, refl, Bool, true, false, ◌&&◌}
use Rattle.std.specs.List.{list_all}
use Rattle.ess_semantics.specs.Values.{Text}
use Rattle.ess_semantics.specs.Trees.{Ex, Exs, number_ex, truth_ex, name_ex, node_ex, matrix_ex, comp_ex, cell_ex, seen_ex, no_exs, more_exs, Gens, no_gens, over, from, cond}
use Rattle.ess_semantics.specs.ExpressionJudgements.{forgets_order}
use Rattle.ess_semantics.proofs.Tests.{and-left, and-right, and-both}
use Rattle.ess_given_laws.specs.Given.{all_bound, is_fixed, are_fixed, are_fixed_gens, is_fixed_dom}
use Rattle.ess_given_order_laws.specs.InOrder.{in_order, gens_in_order, Ordered, AllOrdered, GensOrdered, InOrder}

module _ (u : Text → Bool) where
  mutual
    fixed-in : (e : Ex) → is_fixed u e ≡ true → in_order u e ≡ true
    fixed-in (comp_ex e gs) h = gens-in gs (and-right (is_fixed u e) (are_fixed_gens u gs) h)
    fixed-in (number_ex n) h = refl
    fixed-in (truth_ex b) h = refl
    fixed-in (name_ex a) h = refl
    fixed-in (node_ex b op es) h = refl
    fixed-in (matrix_ex es d) h = refl
    fixed-in (cell_ex b n es) h = refl
    fixed-in (seen_ex r d ns es) h = refl

    gens-in : (gs : Gens) → are_fixed_gens u gs ≡ true → gens_in_order u gs ≡ true
    gens-in no_gens h = refl
    gens-in (over p d gs) h = gens-in gs (and-right (is_fixed_dom u d) (are_fixed_gens u gs)
        (and-right (all_bound u p) (is_fixed_dom u d && are_fixed_gens u gs) h))
    gens-in (from p e gs) h = let k = and-right (all_bound u p) (is_fixed u e && are_fixed_gens u gs) h in
        and-both (in_order u e) (gens_in_order u gs) (fixed-in e (and-left (is_fixed u e) (are_fixed_gens u gs) k))
        (gens-in gs (and-right (is_fixed u e) (are_fixed_gens u gs) k))
    gens-in (cond c gs) h = and-both (is_fixed u c) (gens_in_order u gs) (and-left (is_fixed u c) (are_fixed_gens u gs) h)
        (gens-in gs (and-right (is_fixed u c) (are_fixed_gens u gs) h))

  mutual
    fixed-ordered : (e : Ex) → is_fixed u e ≡ true → Ordered u e
    fixed-ordered (number_ex n) h = tt
    fixed-ordered (truth_ex b) h = tt
    fixed-ordered (name_ex a) h = tt
    fixed-ordered (node_ex b op es) h = all-ordered es (forgets_order op) h
    fixed-ordered (matrix_ex es d) h = all-ordered es false (and-left (are_fixed u es) (is_fixed_dom u d) h)
    fixed-ordered (comp_ex e gs) h = let k = and-left (is_fixed u e) (are_fixed_gens u gs) h in
        ((fixed-in e k, fixed-ordered e k), gens-ordered gs (and-right (is_fixed u e) (are_fixed_gens u gs) h))
    fixed-ordered (cell_ex b n es) h = all-ordered es false (and-right (u n) (are_fixed u es) h)
    fixed-ordered (seen_ex r d ns es) h = all-ordered es false (and-right (is_fixed_dom u d) (are_fixed u es)
        (and-right (list_all u ns) (is_fixed_dom u d && are_fixed u es) h))

    all-ordered : (es : Exs) (c : Bool) → are_fixed u es ≡ true → AllOrdered u es c
    all-ordered no_exs c h = tt
    all-ordered (more_exs e es) true h =
        (fixed-ordered e (and-left (is_fixed u e) (are_fixed u es) h), all-ordered es true (and-right (is_fixed u e) (are_fixed u es) h))
    all-ordered (more_exs e es) false h = let k = and-left (is_fixed u e) (are_fixed u es) h in
        ((fixed-in e k, fixed-ordered e k), all-ordered es false (and-right (is_fixed u e) (are_fixed u es) h))

    gens-ordered : (gs : Gens) → are_fixed_gens u gs ≡ true → GensOrdered u gs
    gens-ordered no_gens h = tt
    gens-ordered (over p d gs) h = gens-ordered gs (and-right (is_fixed_dom u d) (are_fixed_gens u gs)
        (and-right (all_bound u p) (is_fixed_dom u d && are_fixed_gens u gs) h))
    gens-ordered (from p e gs) h = let k = and-right (all_bound u p) (is_fixed u e && are_fixed_gens u gs) h in (
      fixed-ordered e (and-left (is_fixed u e) (are_fixed_gens u gs) k),
      gens-ordered gs (and-right (is_fixed u e) (are_fixed_gens u gs) k),
    )
    gens-ordered (cond c gs) h = let k = and-left (is_fixed u c) (are_fixed_gens u gs) h in
        ((fixed-in c k, fixed-ordered c k), gens-ordered gs (and-right (is_fixed u c) (are_fixed_gens u gs) h))

  -- It is in order wherever it stands.
  pub fixed-order : (e : Ex) → is_fixed u e ≡ true → InOrder u e
  fixed-order e h = (fixed-in e h, fixed-ordered e h)
