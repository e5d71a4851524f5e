-- The parts of a tuple of two, and those of any other one.
use Rattle.std.proofs.Common.{◌≡◌, refl, sym, ap, ◌∙◌, ℕ, zero, suc, ◌≢◌, List, [], ◌∷◌, length, map, get_or, arith}
use Rattle.ess_semantics.specs.Values.{from_of, to_of, node, a_tuple}
use Rattle.ess_core.specs.declared.values.Val.{Val}
use Rattle.ess_core.specs.declared.values.Val.TheVariants as variant
use Rattle.ess_core.specs.ValueViews.{pure_val, pure_vals}
use Rattle.ess_core.proofs.ValueEquations.{pure_tuple}

pub first_pair : (vs : List Val) (a d : Val) → length vs ≡ 2 → a ≡ get_or vs 0 d → pure_val a ≡ from_of (pure_val (variant.Tuple vs))
first_pair [] a d h is = cc
first_pair (x ∷ []) a d h is = cc
first_pair (x ∷ y ∷ []) a d h is = ap pure_val is ∙ ap from_of (sym (pure_tuple (x ∷ y ∷ [])))
first_pair (x ∷ y ∷ z ∷ vs) a d h is = cc

pub second_pair : (vs : List Val) (a d : Val) → length vs ≡ 2 → a ≡ get_or vs 1 d → pure_val a ≡ to_of (pure_val (variant.Tuple vs))
second_pair [] a d h is = cc
second_pair (x ∷ []) a d h is = cc
second_pair (x ∷ y ∷ []) a d h is = ap pure_val is ∙ ap to_of (sym (pure_tuple (x ∷ y ∷ [])))
second_pair (x ∷ y ∷ z ∷ vs) a d h is = cc

pub first_other : (vs : List Val) → length vs ≢ 2 → pure_val (variant.Tuple vs) ≡ from_of (pure_val (variant.Tuple vs))
first_other [] h = pure_tuple [] ∙ ap from_of (sym (pure_tuple []))
first_other (x ∷ []) h = pure_tuple (x ∷ []) ∙ ap from_of (sym (pure_tuple (x ∷ [])))
first_other (x ∷ y ∷ []) h = absurd (h refl)
first_other (x ∷ y ∷ z ∷ vs) h = pure_tuple (x ∷ y ∷ z ∷ vs) ∙ ap from_of (sym (pure_tuple (x ∷ y ∷ z ∷ vs)))

pub second_other : (vs : List Val) → length vs ≢ 2 → pure_val (variant.Tuple vs) ≡ to_of (pure_val (variant.Tuple vs))
second_other [] h = pure_tuple [] ∙ ap to_of (sym (pure_tuple []))
second_other (x ∷ []) h = pure_tuple (x ∷ []) ∙ ap to_of (sym (pure_tuple (x ∷ [])))
second_other (x ∷ y ∷ []) h = absurd (h refl)
second_other (x ∷ y ∷ z ∷ vs) h = pure_tuple (x ∷ y ∷ z ∷ vs) ∙ ap to_of (sym (pure_tuple (x ∷ y ∷ z ∷ vs)))
