-- Flat trees with cells in the place of names: flat, of the same value; and where a flat constraint keeps its form.
use Rattle.std.proofs.Common.{◌≡◌, refl, sym, ap, ◌∙◌, subst, Bool, true, false, ◌&&◌, not, List, [], ◌∷◌, ℤ, Option, Some, None}
use Rattle.ess_semantics.specs.declared.words.Op1.{Op1}
use Rattle.ess_semantics.specs.declared.words.Op2.{Op2}
use Rattle.ess_semantics.specs.declared.words.Fun.{Fun}
use Rattle.ess_semantics.specs.Values.{Text}
use Rattle.ess_semantics.specs.Names.{look}
use Rattle.ess_semantics.specs.Trees.{unary, binary, word, Ex, no_exs, more_exs, ex1, ex2, fun1}
use Rattle.ess_semantics.specs.Operators.{value_of_node, false_where_undefined}
use Rattle.ess_semantics.specs.Meaning.{Env, meaning}
use Rattle.ess_semantics.specs.Plans.{Plan}
use Rattle.ess_semantics.specs.Models.{scalar_cell, is_flat, begins_with_not, cell_for, with_cells}
use Rattle.ess_semantics.proofs.Tests.{and-left, and-right}
use Rattle.ess_simplify_laws.specs.declared.words.Outcome.{Outcome}
use Rattle.ess_simplify_laws.specs.Simplifying.{said, denied as undenied, outcome, left, simplified}
use Rattle.ess_flat_laws.specs.Flat.{denied, negative, absolute, TwoOp, both, either, implied, agreeing, equal, unequal, below, at_most, above, at_least, sum, difference, product, is_choice, Flat, number as number_is, truth as truth_is, named, cell, one, two, chosen, none_marked}
use Rattle.ess_flat_models_laws.specs.FlatSpecifications.{scalar_mark}
use Rattle.ess_flat_models_laws.proofs.FlatValues.{AllNumbers}

-- ---- a product that no condition chooses

other-choice : {b m k : Bool} {o : Op2} (x z : Ex) → TwoOp b o m k → is_choice o x ≡ false →
    (is_choice Op2.Times x ≡ false → is_choice Op2.Times z ≡ false) → is_choice o z ≡ false
other-choice x z both c f = refl
other-choice x z either c f = refl
other-choice x z implied c f = refl
other-choice x z agreeing c f = refl
other-choice x z equal c f = refl
other-choice x z unequal c f = refl
other-choice x z below c f = refl
other-choice x z at_most c f = refl
other-choice x z above c f = refl
other-choice x z at_least c f = refl
other-choice x z sum c f = refl
other-choice x z difference c f = refl
other-choice x z product c f = f c

no-cell : {b : Bool} → None ≡ Some b → ⊥
no-cell h = cc

-- ---- trees

module _ (Ps : List Plan) where
  abbrev names : Text → Option Bool
  names = scalar_mark Ps

  cell-chosen : (a : Text) (o : Option (Bool × Text)) → is_choice Op2.Times (cell_for a o) ≡ false
  cell-chosen a None = refl
  cell-chosen a (Some c) = refl

  choice-stays : {e : Ex} {m : Bool} → Flat names none_marked e m → is_choice Op2.Times e ≡ false → is_choice Op2.Times
      (with_cells Ps e) ≡ false
  choice-stays number_is c = refl
  choice-stays truth_is c = refl
  choice-stays (named {a = a} h) c = cell-chosen a (scalar_cell Ps a)
  choice-stays (cell h) c = absurd (no-cell h)
  choice-stays (one w f) c = refl
  choice-stays (two w f h d) c = refl
  choice-stays (chosen f) c = c

  -- Numbers stay.
  cell-numbers : (Q : ℤ → Type 0) (a : Text) (o : Option (Bool × Text)) → AllNumbers Q (cell_for a o)
  cell-numbers Q a None = tt
  cell-numbers Q a (Some c) = tt

  pub numbers-stay : (Q : ℤ → Type 0) {e : Ex} {m : Bool} → Flat names none_marked e m → AllNumbers Q e → AllNumbers Q (with_cells Ps e)
  numbers-stay Q number_is n = n
  numbers-stay Q truth_is n = tt
  numbers-stay Q (named {a = a} h) n = cell-numbers Q a (scalar_cell Ps a)
  numbers-stay Q (cell h) n = absurd (no-cell h)
  numbers-stay Q (one w f) n = (numbers-stay Q f n.0, tt)
  numbers-stay Q (two w f h c) n = (numbers-stay Q f n.0, (numbers-stay Q h n.1.0, tt))
  numbers-stay Q (chosen f) n = (numbers-stay Q f n.0, tt)

  -- With cells that have the marks of the names, the tree is flat.
  pub cells-flat : (cells : Text → Option Bool) →
      ((a : Text) (m : Bool) → names a ≡ Some m → (n : Text) × (scalar_cell Ps a ≡ Some (m, n)) × (cells n ≡ Some m)) →
      {e : Ex} {m : Bool} → Flat names none_marked e m → Flat none_marked cells (with_cells Ps e) m
  cells-flat cells g number_is = number_is
  cells-flat cells g truth_is = truth_is
  cells-flat cells g (named {a = a} {m = m} h) =
      let r = g a m h in subst (λ o. Flat none_marked cells (cell_for a o) m) (sym r.1) (cell r.2)
  cells-flat cells g (cell h) = absurd (no-cell h)
  cells-flat cells g (one w f) = one w (cells-flat cells g f)
  cells-flat cells g (two {x = x} w f h c) =
      two w (cells-flat cells g f) (cells-flat cells g h) (other-choice x (with_cells Ps x) w c (choice-stays f))
  cells-flat cells g (chosen f) = chosen (cells-flat cells g f)

  -- It means what the tree means, where cells have the values of names.
  pub cells-mean : (env there : Env) →
      ((a : Text) (m : Bool) → names a ≡ Some m → meaning (cell_for a (scalar_cell Ps a)) there ≡ look env.vals a) →
      {e : Ex} {m : Bool} → Flat names none_marked e m → meaning (with_cells Ps e) there ≡ meaning e env
  cells-mean env there g number_is = refl
  cells-mean env there g truth_is = refl
  cells-mean env there g (named {a = a} {m = m} h) = g a m h
  cells-mean env there g (cell h) = absurd (no-cell h)
  cells-mean env there g (one {b = b} {o = o} w f) =
      ap (λ p. false_where_undefined b (value_of_node (unary o) (p ∷ []))) (cells-mean env there g f)
  cells-mean env there g (two {b = b} {o = o} {x = x} {y = y} w f h c) =
      ap (λ p. false_where_undefined b (value_of_node (binary o) (p ∷ meaning (with_cells Ps y) there ∷ []))) (cells-mean env there g f)
      ∙ ap (λ p. false_where_undefined b (value_of_node (binary o) (meaning x env ∷ p ∷ []))) (cells-mean env there g h)
  cells-mean env there g (chosen f) =
      ap (λ p. false_where_undefined false (value_of_node (word Fun.ToInt) (p ∷ []))) (cells-mean env there g f)

  -- ---- flat constraints keep their form

  said-cell : (a : Text) (o : Option (Bool × Text)) → said (cell_for a o) ≡ None
  said-cell a None = refl
  said-cell a (Some c) = refl

  simple-cell : (a : Text) (o : Option (Bool × Text)) → simplified (cell_for a o) ≡ cell_for a o
  simple-cell a None = refl
  simple-cell a (Some c) = refl

  said-nothing : {e : Ex} {m : Bool} → Flat names none_marked e m → is_flat Ps e ≡ true → said (with_cells Ps e) ≡ None
  said-nothing number_is q = refl
  said-nothing truth_is q = cc
  said-nothing (named {a = a} h) q = said-cell a (scalar_cell Ps a)
  said-nothing (cell h) q = absurd (no-cell h)
  said-nothing (one w f) q = refl
  said-nothing (two w f h c) q = refl
  said-nothing (chosen f) q = refl

  undenied-cell : (a : Text) (o : Option (Bool × Text)) → undenied true (cell_for a o) ≡ ex1 true Op1.Not (cell_for a o)
  undenied-cell a None = refl
  undenied-cell a (Some c) = refl

  not-again : {e : Ex} {m : Bool} → Flat names none_marked e m → is_flat Ps e ≡ true → begins_with_not (more_exs e no_exs) ≡ false →
      undenied true (with_cells Ps e) ≡ ex1 true Op1.Not (with_cells Ps e)
  not-again number_is q n = refl
  not-again truth_is q n = cc
  not-again (named {a = a} h) q n = undenied-cell a (scalar_cell Ps a)
  not-again (cell h) q n = absurd (no-cell h)
  not-again (one denied f) q n = cc
  not-again (one negative f) q n = refl
  not-again (one absolute f) q n = refl
  not-again (two w f h c) q n = refl
  not-again (chosen f) q n = refl

  no-not : (a : Bool) → not a ≡ true → a ≡ false
  no-not false h = refl
  no-not true h = cc

  first-flat : (c : Bool) (x : Ex) → (true && not c) && (is_flat Ps x && true) ≡ true → (c ≡ false) × (is_flat Ps x ≡ true)
  first-flat c x q = (
    no-not c (and-left (not c) (is_flat Ps x && true) q),
    and-left (is_flat Ps x) true (and-right (not c) (is_flat Ps x && true) q),
  )

  both-flat : (x y : Ex) → is_flat Ps x && (is_flat Ps y && true) ≡ true → (is_flat Ps x ≡ true) × (is_flat Ps y ≡ true)
  both-flat x y q = (
    and-left (is_flat Ps x) (is_flat Ps y && true) q,
    and-left (is_flat Ps y) true (and-right (is_flat Ps x) (is_flat Ps y && true) q),
  )

  stays : (o : Op2) → outcome o None None ≡ Outcome.Stays
  stays Op2.And = refl
  stays o = refl

  two-kept : (b : Bool) (o : Op2) (x y : Ex) → said x ≡ None → said y ≡ None → simplified x ≡ x → simplified y ≡ y →
      simplified (ex2 b o x y) ≡ ex2 b o x y
  two-kept b o x y p q s t =
      ap (λ z. left b o z (simplified y) (outcome o (said z) (said (simplified y)))) s
      ∙ ap (λ z. left b o x z (outcome o (said x) (said z))) t
      ∙ ap (λ r. left b o x y (outcome o r (said y))) p ∙ ap (λ r. left b o x y (outcome o None r)) q ∙ ap (left b o x y) (stays o)

  -- A flat constraint with cells is as simple as can be.
  pub form-stays : {e : Ex} {m : Bool} → Flat names none_marked e m → is_flat Ps e ≡ true →
      simplified (with_cells Ps e) ≡ with_cells Ps e
  form-stays number_is q = refl
  form-stays truth_is q = refl
  form-stays (named {a = a} h) q = simple-cell a (scalar_cell Ps a)
  form-stays (cell h) q = absurd (no-cell h)
  form-stays (one {x = x} denied f) q =
      let r = first-flat (begins_with_not (more_exs x no_exs)) x q in
      ap (undenied true) (form-stays f r.1) ∙ not-again f r.1 r.0
  form-stays (one {x = x} negative f) q = ap (ex1 false Op1.Minus) (form-stays f (first-flat false x q).1)
  form-stays (one {x = x} absolute f) q = ap (ex1 false Op1.Bar) (form-stays f (first-flat false x q).1)
  form-stays (two {x = x} {y = y} both f h c) q =
      let r = both-flat x y q in
      two-kept true Op2.And (with_cells Ps x) (with_cells Ps y) (said-nothing f r.0) (said-nothing h r.1) (form-stays f r.0)
      (form-stays h r.1)
  form-stays (two {x = x} {y = y} either f h c) q =
      let r = both-flat x y q in
      two-kept true Op2.Or (with_cells Ps x) (with_cells Ps y) (said-nothing f r.0) (said-nothing h r.1) (form-stays f r.0)
      (form-stays h r.1)
  form-stays (two {x = x} {y = y} implied f h c) q =
      let r = both-flat x y q in
      two-kept true Op2.Implies (with_cells Ps x) (with_cells Ps y) (said-nothing f r.0) (said-nothing h r.1) (form-stays f r.0)
      (form-stays h r.1)
  form-stays (two {x = x} {y = y} agreeing f h c) q =
      let r = both-flat x y q in
      two-kept true Op2.Iff (with_cells Ps x) (with_cells Ps y) (said-nothing f r.0) (said-nothing h r.1) (form-stays f r.0)
      (form-stays h r.1)
  form-stays (two {x = x} {y = y} equal f h c) q =
      let r = both-flat x y q in
      two-kept true Op2.Eq (with_cells Ps x) (with_cells Ps y) (said-nothing f r.0) (said-nothing h r.1) (form-stays f r.0)
      (form-stays h r.1)
  form-stays (two {x = x} {y = y} unequal f h c) q =
      let r = both-flat x y q in
      two-kept true Op2.Ne (with_cells Ps x) (with_cells Ps y) (said-nothing f r.0) (said-nothing h r.1) (form-stays f r.0)
      (form-stays h r.1)
  form-stays (two {x = x} {y = y} below f h c) q =
      let r = both-flat x y q in
      two-kept true Op2.Lt (with_cells Ps x) (with_cells Ps y) (said-nothing f r.0) (said-nothing h r.1) (form-stays f r.0)
      (form-stays h r.1)
  form-stays (two {x = x} {y = y} at_most f h c) q =
      let r = both-flat x y q in
      two-kept true Op2.Le (with_cells Ps x) (with_cells Ps y) (said-nothing f r.0) (said-nothing h r.1) (form-stays f r.0)
      (form-stays h r.1)
  form-stays (two {x = x} {y = y} above f h c) q =
      let r = both-flat x y q in
      two-kept true Op2.Gt (with_cells Ps x) (with_cells Ps y) (said-nothing f r.0) (said-nothing h r.1) (form-stays f r.0)
      (form-stays h r.1)
  form-stays (two {x = x} {y = y} at_least f h c) q =
      let r = both-flat x y q in
      two-kept true Op2.Ge (with_cells Ps x) (with_cells Ps y) (said-nothing f r.0) (said-nothing h r.1) (form-stays f r.0)
      (form-stays h r.1)
  form-stays (two {x = x} {y = y} sum f h c) q =
      let r = both-flat x y q in
      two-kept false Op2.Plus (with_cells Ps x) (with_cells Ps y) (said-nothing f r.0) (said-nothing h r.1) (form-stays f r.0)
      (form-stays h r.1)
  form-stays (two {x = x} {y = y} difference f h c) q =
      let r = both-flat x y q in
      two-kept false Op2.Minus (with_cells Ps x) (with_cells Ps y) (said-nothing f r.0) (said-nothing h r.1) (form-stays f r.0)
      (form-stays h r.1)
  form-stays (two {x = x} {y = y} product f h c) q =
      let r = both-flat x y q in
      two-kept false Op2.Times (with_cells Ps x) (with_cells Ps y) (said-nothing f r.0) (said-nothing h r.1) (form-stays f r.0)
      (form-stays h r.1)
  form-stays (chosen {x = x} f) q = ap (fun1 false Fun.ToInt) (form-stays f (first-flat false x q).1)
