-- Refined trees bind single names alone, over bool, over ranges or over a named type, and have no views.
use Rattle.std.proofs.Common.{◌≡◌, refl, true, false, Bool, ◌&&◌, ◌||◌}
use Rattle.ess_semantics.specs.Trees.{matrix_literal, is_truth_op, name_pat, tuple_pat, Ex, Exs, number_ex, truth_ex, name_ex, node_ex, matrix_ex, comp_ex, cell_ex, seen_ex, no_exs, more_exs, Gens, no_gens, over, from, cond, Dom, bool_dom, int_dom, name_dom}
use Rattle.ess_semantics.specs.Operators.{iff}
use Rattle.ess_semantics.specs.Kinds.{is_bounded}
use Rattle.ess_semantics.specs.Refined.{is_refined, are_refined, is_refined_list, are_refined_lists, are_refined_gens, is_scalar_op, is_list_op}
use Rattle.ess_semantics.proofs.Tests.{and-left, and-right}

abbrev mutual
  -- The expression binds single names alone.
  pub Single : Ex → Type 0
  Single (number_ex n) = Unit {0}
  Single (truth_ex b) = Unit {0}
  Single (name_ex a) = Unit {0}
  Single (node_ex b op es) = SingleAll es
  Single (matrix_ex es d) = ⊥
  Single (comp_ex e gs) = Single e × SingleGens gs
  Single (cell_ex b n es) = SingleAll es
  Single (seen_ex r d ns es) = ⊥

  pub SingleAll : Exs → Type 0
  SingleAll no_exs = Unit {0}
  SingleAll (more_exs e es) = Single e × SingleAll es

  pub SingleGens : Gens → Type 0
  SingleGens no_gens = Unit {0}
  SingleGens (over (name_pat a) d gs) = SingleDom d × SingleGens gs
  SingleGens (over (tuple_pat ps) d gs) = ⊥
  SingleGens (from p e gs) = ⊥
  SingleGens (cond e gs) = Single e × SingleGens gs

  pub SingleDom : Dom → Type 0
  SingleDom bool_dom = Unit {0}
  SingleDom (name_dom t) = Unit {0}
  SingleDom (int_dom rs es) = SingleAll es
  SingleDom d = ⊥

one-of-two : {P : Type 0} (a b c d : Bool) → (b ≡ true → P) → (d ≡ true → P) → (a && b) || (c && d) ≡ true → P
one-of-two true true c d f g e = f refl
one-of-two true false true true f g e = g refl
one-of-two true false true false f g e = cc
one-of-two true false false d f g e = cc
one-of-two false b true true f g e = g refl
one-of-two false b true false f g e = cc
one-of-two false b false d f g e = cc

mutual
  -- So does a refined expression.
  pub refined-single : (e : Ex) → is_refined e ≡ true → Single e
  refined-single (number_ex n) h = tt
  refined-single (truth_ex b) h = tt
  refined-single (name_ex a) h = tt
  refined-single (cell_ex b n es) h = all-single es h
  refined-single (node_ex b op es) h =
      one-of-two (is_scalar_op op) (are_refined es) (is_list_op op) (are_refined_lists es) (all-single es) (lists-single es)
      (and-right (iff b (is_truth_op op)) _ h)
  refined-single (matrix_ex es d) h = cc
  refined-single (comp_ex e gs) h = cc
  refined-single (seen_ex r d ns es) h = cc

  all-single : (es : Exs) → are_refined es ≡ true → SingleAll es
  all-single no_exs h = tt
  all-single (more_exs e es) h =
      (refined-single e (and-left (is_refined e) (are_refined es) h), all-single es (and-right (is_refined e) (are_refined es) h))

  list-single : (e : Ex) → is_refined_list e ≡ true → Single e
  list-single (comp_ex e gs) h = (
    refined-single e (and-left (is_refined e) (are_refined_gens gs) h),
    gens-single gs (and-right (is_refined e) (are_refined_gens gs) h),
  )
  list-single (node_ex false matrix_literal es) h = all-single es h
  list-single _ h = cc

  lists-single : (es : Exs) → are_refined_lists es ≡ true → SingleAll es
  lists-single no_exs h = tt
  lists-single (more_exs e es) h = (
    list-single e (and-left (is_refined_list e) (are_refined_lists es) h),
    lists-single es (and-right (is_refined_list e) (are_refined_lists es) h),
  )

  gens-single : (gs : Gens) → are_refined_gens gs ≡ true → SingleGens gs
  gens-single no_gens h = tt
  gens-single (over (name_pat a) bool_dom gs) h = (tt, gens-single gs h)
  gens-single (over (name_pat a) (name_dom t) gs) h = (tt, gens-single gs h)
  gens-single (over (name_pat a) (int_dom rs es) gs) h = (
    all-single es (and-right (is_bounded rs) (are_refined es) (and-left (is_bounded rs && are_refined es) (are_refined_gens gs) h)),
    gens-single gs (and-right (is_bounded rs && are_refined es) (are_refined_gens gs) h),
  )
  gens-single (cond e gs) h = (
    refined-single e (and-left (is_refined e) (are_refined_gens gs) h),
    gens-single gs (and-right (is_refined e) (are_refined_gens gs) h),
  )
  gens-single _ h = cc
