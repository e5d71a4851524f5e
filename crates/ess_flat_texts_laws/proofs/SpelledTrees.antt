-- Trees of scalars that are a model's: numbers that a token has, declared cells, and operators of models. Simplified they are so too, and
-- so is a flat tree whose numbers tokens have, with cells in the place of its names.
use Rattle.std.proofs.Common.{◌≡◌, refl, sym, ap, ◌∙◌, subst, Bool, true, false, ◌&&◌, [], ℤ, List, Some, None}
use Rattle.ess_semantics.specs.declared.words.Op1.{Op1}
use Rattle.ess_semantics.specs.declared.words.Op2.{Op2}
use Rattle.ess_semantics.specs.declared.words.Fun.{Fun}
use Rattle.ess_semantics.specs.Values.{Text}
use Rattle.ess_semantics.specs.Names.{look}
use Rattle.ess_semantics.specs.Trees.{Ex, number_ex, truth_ex, cell_ex, no_exs, ex1, ex2, fun1}
use Rattle.ess_semantics.specs.Plans.{Plan}
use Rattle.ess_semantics.specs.Models.{scalar_cell, cell_for, with_cells}
use Rattle.ess_semantics.proofs.Tests.{and-both}
use Rattle.ess_grammar.specs.Readable.{is_name_token, is_number_token}
use Rattle.ess_grammar.specs.Models.{Scope, same_truth, is_plain_cell, is_model_ex}
use Rattle.ess_simplify_laws.specs.declared.words.Outcome.{Outcome}
use Rattle.ess_simplify_laws.specs.Simplifying.{said, denied as undenied, outcome, left, simplified}
use Rattle.ess_flat_laws.specs.Flat.{OneOp, denied, negative, absolute, TwoOp, both, either, implied, agreeing, equal, unequal, below, at_most, above, at_least, sum, difference, product, Flat, number as number_is, truth as truth_is, named, cell as cell_is, one as one_is, two as two_is, chosen as chosen_is, none_marked}
use Rattle.ess_flat_models_laws.specs.FlatSpecifications.{scalar_mark}
use Rattle.ess_flat_models_laws.proofs.FlatValues.{AllNumbers}

same-itself : (b : Bool) → same_truth b b && true ≡ true
same-itself true = refl
same-itself false = refl

-- The number is one that a number token has.
abbrev pub HasToken : ℤ → Type 0
HasToken n = is_number_token n ≡ true

module _ (t : Scope) where
  -- The tree is one of a model, where earlier lines declare this.
  pub data Spelled : Ex → Type 0 where
    number : {k : ℤ} → is_number_token k ≡ true → Spelled (number_ex k)
    truth : {b : Bool} → Spelled (truth_ex b)
    cell : {b : Bool} {a : Text} → is_name_token a ≡ true → look t.tables a ≡ Some b → Spelled (cell_ex b a no_exs)
    one : {b m : Bool} {o : Op1} {x : Ex} → OneOp b o m → Spelled x → Spelled (ex1 b o x)
    two : {b m k : Bool} {o : Op2} {x y : Ex} → TwoOp b o m k → Spelled x → Spelled y → Spelled (ex2 b o x y)
    chosen : {x : Ex} → Spelled x → Spelled (fun1 false Fun.ToInt x)

  abbrev M : Ex → Bool
  M = is_model_ex t true []

  -- So the test says.
  pub spelled-model : {e : Ex} → Spelled e → M e ≡ true
  spelled-model (number q) = q
  spelled-model truth = refl
  spelled-model (cell {b = b} {a = a} q l) =
      and-both (is_name_token a && true) (is_plain_cell [] a b (look t.tables a)) (and-both (is_name_token a) true q refl)
      (ap (is_plain_cell [] a b) l ∙ same-itself b)
  spelled-model (one denied f) = spelled-model f
  spelled-model (one negative f) = spelled-model f
  spelled-model (one absolute f) = spelled-model f
  spelled-model (two {x = x} {y = y} both f h) = and-both (M x) (M y) (spelled-model f) (spelled-model h)
  spelled-model (two {x = x} {y = y} either f h) = and-both (M x) (M y) (spelled-model f) (spelled-model h)
  spelled-model (two {x = x} {y = y} implied f h) = and-both (M x) (M y) (spelled-model f) (spelled-model h)
  spelled-model (two {x = x} {y = y} agreeing f h) = and-both (M x) (M y) (spelled-model f) (spelled-model h)
  spelled-model (two {x = x} {y = y} equal f h) = and-both (M x) (M y) (spelled-model f) (spelled-model h)
  spelled-model (two {x = x} {y = y} unequal f h) = and-both (M x) (M y) (spelled-model f) (spelled-model h)
  spelled-model (two {x = x} {y = y} below f h) = and-both (M x) (M y) (spelled-model f) (spelled-model h)
  spelled-model (two {x = x} {y = y} at_most f h) = and-both (M x) (M y) (spelled-model f) (spelled-model h)
  spelled-model (two {x = x} {y = y} above f h) = and-both (M x) (M y) (spelled-model f) (spelled-model h)
  spelled-model (two {x = x} {y = y} at_least f h) = and-both (M x) (M y) (spelled-model f) (spelled-model h)
  spelled-model (two {x = x} {y = y} sum f h) = and-both (M x) (M y) (spelled-model f) (spelled-model h)
  spelled-model (two {x = x} {y = y} difference f h) = and-both (M x) (M y) (spelled-model f) (spelled-model h)
  spelled-model (two {x = x} {y = y} product f h) = and-both (M x) (M y) (spelled-model f) (spelled-model h)
  spelled-model (chosen f) = spelled-model f

  -- ---- simplified

  denied-spelled : {x : Ex} → Spelled x → Spelled (undenied true x)
  denied-spelled (number q) = one denied (number q)
  denied-spelled truth = truth
  denied-spelled (cell q l) = one denied (cell q l)
  denied-spelled (one denied f) = f
  denied-spelled (one negative f) = one denied (one negative f)
  denied-spelled (one absolute f) = one denied (one absolute f)
  denied-spelled (two w f h) = one denied (two w f h)
  denied-spelled (chosen f) = one denied (chosen f)

  left-spelled : {m k : Bool} {o : Op2} {x y : Ex} → TwoOp true o m k → Spelled x → Spelled y → (u : Outcome) →
      Spelled (left true o x y u)
  left-spelled w f h Outcome.Stays = two w f h
  left-spelled w f h Outcome.First = f
  left-spelled w f h Outcome.Second = h
  left-spelled w f h Outcome.FirstDenied = denied-spelled f
  left-spelled w f h Outcome.SecondDenied = denied-spelled h
  left-spelled w f h (Outcome.Says v) = truth

  -- The simplified tree is one of a model.
  pub simplified-spelled : {e : Ex} → Spelled e → Spelled (simplified e)
  simplified-spelled (number q) = number q
  simplified-spelled truth = truth
  simplified-spelled (cell q l) = cell q l
  simplified-spelled (one denied f) = denied-spelled (simplified-spelled f)
  simplified-spelled (one negative f) = one negative (simplified-spelled f)
  simplified-spelled (one absolute f) = one absolute (simplified-spelled f)
  simplified-spelled (two {x = x} {y = y} both f h) =
      left-spelled both (simplified-spelled f) (simplified-spelled h) (outcome Op2.And (said (simplified x)) (said (simplified y)))
  simplified-spelled (two {x = x} {y = y} either f h) =
      left-spelled either (simplified-spelled f) (simplified-spelled h) (outcome Op2.Or (said (simplified x)) (said (simplified y)))
  simplified-spelled (two {x = x} {y = y} implied f h) =
      left-spelled implied (simplified-spelled f) (simplified-spelled h) (outcome Op2.Implies (said (simplified x)) (said (simplified y)))
  simplified-spelled (two {x = x} {y = y} agreeing f h) =
      left-spelled agreeing (simplified-spelled f) (simplified-spelled h) (outcome Op2.Iff (said (simplified x)) (said (simplified y)))
  simplified-spelled (two (equal {m = m}) f h) = two (equal {m = m}) (simplified-spelled f) (simplified-spelled h)
  simplified-spelled (two (unequal {m = m}) f h) = two (unequal {m = m}) (simplified-spelled f) (simplified-spelled h)
  simplified-spelled (two (below {m = m}) f h) = two (below {m = m}) (simplified-spelled f) (simplified-spelled h)
  simplified-spelled (two (at_most {m = m}) f h) = two (at_most {m = m}) (simplified-spelled f) (simplified-spelled h)
  simplified-spelled (two (above {m = m}) f h) = two (above {m = m}) (simplified-spelled f) (simplified-spelled h)
  simplified-spelled (two (at_least {m = m}) f h) = two (at_least {m = m}) (simplified-spelled f) (simplified-spelled h)
  simplified-spelled (two sum f h) = two sum (simplified-spelled f) (simplified-spelled h)
  simplified-spelled (two difference f h) = two difference (simplified-spelled f) (simplified-spelled h)
  simplified-spelled (two product f h) = two product (simplified-spelled f) (simplified-spelled h)
  simplified-spelled (chosen f) = chosen (simplified-spelled f)

  -- ---- with cells

  -- Each scalar name has a cell of its mark that is declared.
  abbrev pub CellsDeclared : List Plan → Type 0
  CellsDeclared Ps = (a : Text) (m : Bool) → scalar_mark Ps a ≡ Some m →
      (n : Text) × (scalar_cell Ps a ≡ Some (m, n)) × (is_name_token n ≡ true) × (look t.tables n ≡ Some m)

  no-cell : {b : Bool} → None ≡ Some b → ⊥
  no-cell h = cc

  -- A flat tree whose numbers tokens have is one of a model, with cells in the place of names.
  pub cells-spelled : (Ps : List Plan) → CellsDeclared Ps → {e : Ex} {m : Bool} → Flat (scalar_mark Ps) none_marked e m →
      AllNumbers HasToken e → Spelled (with_cells Ps e)
  cells-spelled Ps g number_is n = number n
  cells-spelled Ps g truth_is n = truth
  cells-spelled Ps g (named {a = a} {m = m} h) n =
      let c = g a m h in subst (λ o. Spelled (cell_for a o)) (sym c.1) (cell c.2 c.3)
  cells-spelled Ps g (cell_is h) n = absurd (no-cell h)
  cells-spelled Ps g (one_is w f) n = one w (cells-spelled Ps g f n.0)
  cells-spelled Ps g (two_is w f h c) n = two w (cells-spelled Ps g f n.0) (cells-spelled Ps g h n.1.0)
  cells-spelled Ps g (chosen_is f) n = chosen (cells-spelled Ps g f n.0)
