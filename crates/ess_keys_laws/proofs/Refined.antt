-- Keys are made plain in all parts of a refined tree.
use Rattle.std.proofs.Common.{◌≡◌, refl, Bool, true, false, ◌&&◌, ◌||◌, ◌⊎◌, inl, inr}
use Rattle.ess_semantics.specs.Trees.{matrix_literal, is_truth_op, name_pat, Ex, Exs, number_ex, truth_ex, name_ex, node_ex, matrix_ex}
use Rattle.ess_semantics.specs.Trees.{comp_ex, cell_ex, seen_ex, no_exs, more_exs, Gens, no_gens, over, cond, bool_dom, int_dom, name_dom}
use Rattle.ess_semantics.specs.Operators.{iff}
use Rattle.ess_semantics.specs.Kinds.{is_bounded}
use Rattle.ess_semantics.specs.Refined.{is_scalar_op, is_list_op, is_refined, are_refined, is_refined_list, are_refined_lists}
use Rattle.ess_semantics.specs.Refined.{are_refined_gens}
use Rattle.ess_semantics.proofs.Tests.{and-left, and-right, and-both}
use Rattle.ess_keys_laws.proofs.Keying.{is_keyable, are_keyable, are_keyable_gens}

one-way : (a b c d : Bool) → (a && b) || (c && d) ≡ true → (b ≡ true) ⊎ (d ≡ true)
one-way true true c d e = inl refl
one-way true false true true e = inr refl
one-way true false true false e = cc
one-way true false false d e = cc
one-way false b true true e = inr refl
one-way false b true false e = cc
one-way false b false d e = cc

mutual
  pub refined-keyable : (e : Ex) → is_refined e ≡ true → is_keyable e ≡ true
  refined-keyable (number_ex n) t = refl
  refined-keyable (truth_ex b) t = refl
  refined-keyable (name_ex a) t = refl
  refined-keyable (cell_ex b n es) t = all-keyable es t
  refined-keyable (node_ex b op es) t =
      elim (one-way (is_scalar_op op) (are_refined es) (is_list_op op) (are_refined_lists es) (and-right (iff b (is_truth_op op)) _ t)) [
        | inl p ↦ all-keyable es p
        | inr p ↦ lists-keyable es p
      ]
  refined-keyable (matrix_ex es d) t = cc
  refined-keyable (comp_ex e gs) t = cc
  refined-keyable (seen_ex r d ns es) t = cc

  all-keyable : (es : Exs) → are_refined es ≡ true → are_keyable es ≡ true
  all-keyable no_exs t = refl
  all-keyable (more_exs e es) t =
      and-both (is_keyable e) (are_keyable es) (refined-keyable e (and-left (is_refined e) (are_refined es) t))
      (all-keyable es (and-right (is_refined e) (are_refined es) t))

  list-keyable : (e : Ex) → is_refined_list e ≡ true → is_keyable e ≡ true
  list-keyable (comp_ex e gs) t =
      and-both (is_keyable e) (are_keyable_gens gs) (refined-keyable e (and-left (is_refined e) (are_refined_gens gs) t))
      (gens-keyable gs (and-right (is_refined e) (are_refined_gens gs) t))
  list-keyable (node_ex false matrix_literal es) t = all-keyable es t
  list-keyable e t = cc

  lists-keyable : (es : Exs) → are_refined_lists es ≡ true → are_keyable es ≡ true
  lists-keyable no_exs t = refl
  lists-keyable (more_exs e es) t =
      and-both (is_keyable e) (are_keyable es) (list-keyable e (and-left (is_refined_list e) (are_refined_lists es) t))
      (lists-keyable es (and-right (is_refined_list e) (are_refined_lists es) t))

  gens-keyable : (gs : Gens) → are_refined_gens gs ≡ true → are_keyable_gens gs ≡ true
  gens-keyable no_gens t = refl
  gens-keyable (over (name_pat a) bool_dom gs) t = gens-keyable gs t
  gens-keyable (over (name_pat a) (name_dom n) gs) t = gens-keyable gs t
  gens-keyable (over (name_pat a) (int_dom rs es) gs) t =
      let r = and-left (is_bounded rs && are_refined es) (are_refined_gens gs) t in
      and-both (are_keyable es) (are_keyable_gens gs) (all-keyable es (and-right (is_bounded rs) (are_refined es) r))
      (gens-keyable gs (and-right (is_bounded rs && are_refined es) (are_refined_gens gs) t))
  gens-keyable (cond e gs) t =
      and-both (is_keyable e) (are_keyable_gens gs) (refined-keyable e (and-left (is_refined e) (are_refined_gens gs) t))
      (gens-keyable gs (and-right (is_refined e) (are_refined_gens gs) t))
  gens-keyable gs t = cc
