-- Comprehensions in order are so at their places, where the names that are fixed have those of the set.
use Rattle.std.proofs.Common.{◌≡◌, refl, Bool, true, false, ◌&&◌, ◌||◌}
use Rattle.ess_semantics.specs.Values.{Text}
use Rattle.ess_semantics.specs.Trees.{Pat, Ex, Exs, number_ex, truth_ex, name_ex, node_ex, matrix_ex, comp_ex, cell_ex, seen_ex, no_exs, more_exs, Gens, no_gens, over, from, cond}
use Rattle.ess_semantics.specs.ExpressionJudgements.{forgets_order}
use Rattle.ess_semantics.proofs.Tests.{and-both}
use Rattle.ess_given_laws.specs.PartsHave.{AllHave, GensHave}
use Rattle.ess_given_laws.specs.Given.{none_bound, is_fixed, given, GivenIn}
use Rattle.ess_given_laws.proofs.FixedTrees.{both-so}
use Rattle.ess_given_conditions_laws.specs.InScope.{bound_as, is_fixed_in, fixed_behind}
use Rattle.ess_given_conditions_laws.proofs.ScopedGiven.{Within, within-bound, within-drawn, fixed-scoped, drawn-so, within-given}
use Rattle.ess_given_order_laws.specs.InOrder.{in_order, gens_in_order, Ordered, AllOrdered, GensOrdered}
use Rattle.ess_given_order_laws.specs.OrderInScope.{is_in_order_in, are_gens_in_order_in, is_ordered_in, are_ordered_in, are_gens_ordered_in}

module _ (u : Text → Bool) where
  bound-within : (p : Pat) (e : Ex) (s : Text → Bool) → Within u s → none_bound u p || is_fixed u e ≡ true →
      Within u (bound_as (is_fixed_in u s e) p s)
  bound-within p e s f h = within-drawn u (is_fixed_in u s e) p s (drawn-so u p e s f h) f

  mutual
    -- At its own place.
    pub place-scoped : (e : Ex) (s : Text → Bool) → Within u s → GivenIn u e → in_order u e ≡ true → is_in_order_in u s e ≡ true
    place-scoped (comp_ex e gs) s f i h = gens-placed gs s f i.1 h
    place-scoped (number_ex n) s f i h = refl
    place-scoped (truth_ex b) s f i h = refl
    place-scoped (name_ex a) s f i h = refl
    place-scoped (node_ex b op es) s f i h = refl
    place-scoped (matrix_ex es d) s f i h = refl
    place-scoped (cell_ex b n es) s f i h = refl
    place-scoped (seen_ex r d ns es) s f i h = refl

    gens-placed : (gs : Gens) (s : Text → Bool) → Within u s → GensHave (given u) gs → gens_in_order u gs ≡ true →
        are_gens_in_order_in u s gs ≡ true
    gens-placed no_gens s f i h = refl
    gens-placed (over p d gs) s f i h = gens-placed gs (bound_as true p s) (within-bound u p s f) i.2 h
    gens-placed (from p e gs) s f i h = let t = bound_as (is_fixed_in u s e) p s in
        both-so (in_order u e) (gens_in_order u gs) (is_in_order_in u s e) (are_gens_in_order_in u t gs)
        (place-scoped e s f i.1) (gens-placed gs t (bound-within p e s f i.0) i.2) h
    gens-placed (cond c gs) s f i h = both-so (is_fixed u c) (gens_in_order u gs) (is_fixed_in u s c) (are_gens_in_order_in u s gs)
        (fixed-scoped u c s f) (gens-placed gs s f i.1) h

  mutual
    -- Comprehensions within.
    pub order-scoped : (e : Ex) (s : Text → Bool) → Within u s → GivenIn u e → Ordered u e → is_ordered_in u s e ≡ true
    order-scoped (number_ex n) s f i h = refl
    order-scoped (truth_ex b) s f i h = refl
    order-scoped (name_ex a) s f i h = refl
    order-scoped (node_ex b op es) s f i h = all-scoped es (forgets_order op) s f i h
    order-scoped (matrix_ex es d) s f i h = all-scoped es false s f i.0 h
    order-scoped (comp_ex e gs) s f i h = let t = fixed_behind u s gs in let w = within-given u gs s f i.1 in
        and-both (are_gens_ordered_in u s gs) (is_in_order_in u t e && is_ordered_in u t e) (gens-ordered gs s f i.1 h.1)
        (and-both (is_in_order_in u t e) (is_ordered_in u t e) (place-scoped e t w i.0 h.0.0) (order-scoped e t w i.0 h.0.1))
    order-scoped (cell_ex b n es) s f i h = all-scoped es false s f i.1 h
    order-scoped (seen_ex r d ns es) s f i h = all-scoped es false s f i.2 h

    -- The same of operands.
    pub all-scoped : (es : Exs) (c : Bool) (s : Text → Bool) → Within u s → AllHave (given u) es → AllOrdered u es c →
        are_ordered_in u s es c ≡ true
    all-scoped no_exs c s f i h = refl
    all-scoped (more_exs e es) true s f i h = and-both (is_ordered_in u s e) (are_ordered_in u s es true) (order-scoped e s f i.0 h.0)
        (all-scoped es true s f i.1 h.1)
    all-scoped (more_exs e es) false s f i h =
        and-both (is_in_order_in u s e && is_ordered_in u s e) (are_ordered_in u s es false)
        (and-both (is_in_order_in u s e) (is_ordered_in u s e) (place-scoped e s f i.0 h.0.0) (order-scoped e s f i.0 h.0.1))
        (all-scoped es false s f i.1 h.1)

    gens-ordered : (gs : Gens) (s : Text → Bool) → Within u s → GensHave (given u) gs → GensOrdered u gs →
        are_gens_ordered_in u s gs ≡ true
    gens-ordered no_gens s f i h = refl
    gens-ordered (over p d gs) s f i h = gens-ordered gs (bound_as true p s) (within-bound u p s f) i.2 h
    gens-ordered (from p e gs) s f i h = let t = bound_as (is_fixed_in u s e) p s in
        and-both (is_ordered_in u s e) (are_gens_ordered_in u t gs) (order-scoped e s f i.1 h.0)
        (gens-ordered gs t (bound-within p e s f i.0) i.2 h.1)
    gens-ordered (cond c gs) s f i h = and-both (is_in_order_in u s c && is_ordered_in u s c) (are_gens_ordered_in u s gs)
        (and-both (is_in_order_in u s c) (is_ordered_in u s c) (place-scoped c s f i.0 h.0.0) (order-scoped c s f i.0 h.0.1))
        (gens-ordered gs s f i.1 h.1)
