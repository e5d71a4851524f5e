-- Flat trees have values of their marks where their cells have, and simplifying leaves them flat with the same value.
use Rattle.std.proofs.Common.{◌≡◌, refl, ap, ◌∙◌, Bool, true, false, [], ◌∷◌, ℤ, Option, Some, None}
use Rattle.ess_semantics.specs.declared.words.Op1.{Op1}
use Rattle.ess_semantics.specs.declared.words.Op2.{Op2}
use Rattle.ess_semantics.specs.declared.words.Fun.{Fun}
use Rattle.ess_semantics.specs.Values.{Text, Value, number, truth}
use Rattle.ess_semantics.specs.Trees.{unary, binary, word, Ex, Exs, number_ex, truth_ex, name_ex, node_ex, matrix_ex, comp_ex, cell_ex, seen_ex, no_exs, more_exs}
use Rattle.ess_semantics.specs.Operators.{value_of_node, false_where_undefined}
use Rattle.ess_semantics.specs.Meaning.{Env, meaning}
use Rattle.ess_flat_laws.specs.Flat.{OneOp, denied, negative, absolute, TwoOp, both, either, implied, agreeing, equal, unequal, below, at_most, above, at_least, sum, difference, product, Flat, number as number_is, truth as truth_is, named, cell, one, two, chosen, none_marked}

-- A value of a mark: a truth value or a number.
pub data Marked : Bool → Value → Type 0 where
  a_truth : {b : Bool} → Marked true (truth b)
  a_number : {k : ℤ} → Marked false (number k)

-- ---- operators

-- An operator gives a value of its mark.
one-value : {b m : Bool} {o : Op1} {v : Value} → OneOp b o m → Marked m v →
    (u : Value) × Marked b u × (false_where_undefined b (value_of_node (unary o) (Some v ∷ [])) ≡ Some u)
one-value denied a_truth = (_, a_truth, refl)
one-value negative a_number = (_, a_number, refl)
one-value absolute a_number = (_, a_number, refl)

two-value : {b m k : Bool} {o : Op2} {v w : Value} → TwoOp b o m k → Marked m v → Marked k w →
    (u : Value) × Marked b u × (false_where_undefined b (value_of_node (binary o) (Some v ∷ Some w ∷ [])) ≡ Some u)
two-value both a_truth a_truth = (_, a_truth, refl)
two-value either a_truth a_truth = (_, a_truth, refl)
two-value implied a_truth a_truth = (_, a_truth, refl)
two-value agreeing a_truth a_truth = (_, a_truth, refl)
two-value equal p q = (_, a_truth, refl)
two-value unequal p q = (_, a_truth, refl)
two-value below p q = (_, a_truth, refl)
two-value at_most p q = (_, a_truth, refl)
two-value above p q = (_, a_truth, refl)
two-value at_least p q = (_, a_truth, refl)
two-value sum a_number a_number = (_, a_number, refl)
two-value difference a_number a_number = (_, a_number, refl)
two-value product a_number a_number = (_, a_number, refl)

chosen-value : {v : Value} → Marked true v →
    (u : Value) × Marked false u × (false_where_undefined false (value_of_node (word Fun.ToInt) (Some v ∷ [])) ≡ Some u)
chosen-value a_truth = (_, a_number, refl)

-- ---- numbers in trees

-- Each number in the tree has the property Q.
module _ (Q : ℤ → Type 0) where
  abbrev mutual
    pub AllNumbers : Ex → Type 0
    AllNumbers (number_ex n) = Q n
    AllNumbers (truth_ex b) = Unit {0}
    AllNumbers (name_ex a) = Unit {0}
    AllNumbers (node_ex b op es) = NumbersOfAll es
    AllNumbers (matrix_ex es d) = Unit {0}
    AllNumbers (comp_ex e gs) = Unit {0}
    AllNumbers (cell_ex b n es) = Unit {0}
    AllNumbers (seen_ex r d ns es) = Unit {0}

    -- The same of operands.
    pub NumbersOfAll : Exs → Type 0
    NumbersOfAll no_exs = Unit {0}
    NumbersOfAll (more_exs e es) = (AllNumbers e) × (NumbersOfAll es)

-- ---- trees

module _ (cells : Text → Option Bool) (env : Env)
    (valued : (n : Text) (b : Bool) → cells n ≡ Some b → (v : Value) × Marked b v × (meaning (cell_ex b n no_exs) env ≡ Some v)) where
  abbrev F : Ex → Bool → Type 0
  F = Flat none_marked cells

  -- A flat tree has a value of its mark.
  pub flat-value : {e : Ex} {m : Bool} → F e m → (v : Value) × Marked m v × (meaning e env ≡ Some v)
  flat-value number_is = (_, a_number, refl)
  flat-value truth_is = (_, a_truth, refl)
  flat-value (named h) = absurd (no h)
    where
      no : {m : Bool} → None ≡ Some m → ⊥
      no h = cc
  flat-value (cell {b = b} {a = a} h) = valued a b h
  flat-value (one {b = b} {o = o} w f) =
      let v = flat-value f in
      let u = one-value w v.1 in
      (u.0, u.1, ap (λ p. false_where_undefined b (value_of_node (unary o) (p ∷ []))) v.2 ∙ u.2)
  flat-value (two {b = b} {o = o} {x = x} {y = y} w f h c) =
      let v = flat-value f in
      let r = flat-value h in
      let u = two-value w v.1 r.1 in (
        u.0,
        u.1,
        ap (λ p. false_where_undefined b (value_of_node (binary o) (p ∷ meaning y env ∷ []))) v.2
            ∙ ap (λ p. false_where_undefined b (value_of_node (binary o) (Some v.0 ∷ p ∷ []))) r.2 ∙ u.2,
      )
  flat-value (chosen f) =
      let v = flat-value f in
      let u = chosen-value v.1 in
      (u.0, u.1, ap (λ p. false_where_undefined false (value_of_node (word Fun.ToInt) (p ∷ []))) v.2 ∙ u.2)
