-- Worked examples: `given n : int(1..3)  find x : int(1..5)  such that x > n, true -> !(x = 2)` and its model.
use Rattle.std.proofs.Common.{◌≡◌, refl, true, false, List, [], ◌∷◌, pos, codes}
use Rattle.ess_semantics.specs.declared.words.Op1.{Op1}
use Rattle.ess_semantics.specs.declared.words.Op2.{Op2}
use Rattle.ess_semantics.specs.Values.{Text}
use Rattle.ess_semantics.specs.Trees.{both_ends, Ex, number_ex, truth_ex, name_ex, cell_ex, no_exs, more_exs, Dom, int_dom, name_dom, Stm, given, let_ex, let_dom, find, such_that, minimise, ex1, ex2}
use Rattle.ess_semantics.specs.ModelTrees.{no_goal, least}
use Rattle.ess_flat_models_laws.specs.FlatSpecifications.{is_flat_specification}
use Rattle.ess_flat_models_laws.specs.FlatModels.{flat_model}

abbrev n : Text
n = codes "n"

abbrev x : Text
x = codes "x"

-- `int(1..k)`
abbrev upto : Ex → Dom
upto k = int_dom (both_ends ∷ []) (more_exs (number_ex (pos 1)) (more_exs k no_exs))

abbrev not_two : Ex → Ex
not_two e = ex1 true Op1.Not (ex2 true Op2.Eq e (number_ex (pos 2)))

abbrev S : List Stm
S =
    given n (upto (number_ex (pos 3))) ∷ find x (upto (number_ex (pos 5))) ∷ such_that (ex2 true Op2.Gt (name_ex x) (name_ex n))
    ∷ such_that (ex2 true Op2.Implies (truth_ex true) (not_two (name_ex x))) ∷ []

is-flat : is_flat_specification S [] ≡ true
is-flat = refl

-- Each is a cell with its domain; the second constraint is simplified.
its-model : flat_model S [] ≡ record {
  givens = record { name = n; axes = []; cell = upto (number_ex (pos 3)) } ∷ [];
  finds = record { name = x; axes = []; cell = upto (number_ex (pos 5)) } ∷ [];
  goal = no_goal;
  rules = ex2 true Op2.Gt (cell_ex false x no_exs) (cell_ex false n no_exs) ∷ not_two (cell_ex false x no_exs) ∷ [];
}
its-model = refl

-- ---- bounds with names

-- `given n : int(1..3)  find x : int(1..n + 1)`: the given's cell stands in the bound.
named-bounds : is_flat_specification
    (given n (upto (number_ex (pos 3))) ∷ find x (upto (ex2 false Op2.Plus (name_ex n) (number_ex (pos 1)))) ∷ []) [] ≡ true
named-bounds = refl

cells-in-bounds : flat_model
    (given n (upto (number_ex (pos 3))) ∷ find x (upto (ex2 false Op2.Plus (name_ex n) (number_ex (pos 1)))) ∷ []) []
    ≡ record {
      givens = record { name = n; axes = []; cell = upto (number_ex (pos 3)) } ∷ [];
      finds = record { name = x; axes = []; cell = upto (ex2 false Op2.Plus (cell_ex false n no_exs) (number_ex (pos 1))) } ∷ [];
      goal = no_goal;
      rules = [];
    }
cells-in-bounds = refl

-- A bound by a name that is declared later, or by a find, is of no such specification.
not-later : is_flat_specification (find x (upto (name_ex n)) ∷ given n (upto (number_ex (pos 3))) ∷ []) [] ≡ false
not-later = refl

-- ---- lettings and an objective

-- `letting k be 4  letting D be domain int(1..k * 2)  find x : D  minimising x + k  such that x > k, true -> !(x = 2)` and its model.
abbrev L : List Stm
L =
    let_ex (codes "k") (number_ex (pos 4)) ∷ let_dom (codes "D") (upto (ex2 false Op2.Times (name_ex (codes "k")) (number_ex (pos 2)))) ∷ find x (name_dom (codes "D"))
    ∷ minimise (ex2 false Op2.Plus (name_ex x) (name_ex (codes "k")))
    ∷ such_that (ex2 true Op2.Gt (name_ex x) (name_ex (codes "k"))) ∷ such_that (ex2 true Op2.Implies (truth_ex true) (not_two (name_ex x)))
    ∷ []

is-flat-too : is_flat_specification L [] ≡ true
is-flat-too = refl

-- Lettings are put in, bounds stay as they are written, and `true` says that the objective has a value.
its-model-too : flat_model L [] ≡ record {
  givens = [];
  finds = record { name = x; axes = []; cell = upto (ex2 false Op2.Times (number_ex (pos 4)) (number_ex (pos 2))) } ∷ [];
  goal = least (ex2 false Op2.Plus (cell_ex false x no_exs) (number_ex (pos 4)));
  rules = truth_ex true ∷ ex2 true Op2.Gt (cell_ex false x no_exs) (number_ex (pos 4)) ∷ not_two (cell_ex false x no_exs) ∷ [];
}
its-model-too = refl

-- An objective that may have no value is of no such specification.
not-quotients : is_flat_specification
    (find x (upto (number_ex (pos 5))) ∷ minimise (ex2 false Op2.Div (number_ex (pos 1)) (name_ex x)) ∷ []) [] ≡ false
not-quotients = refl

-- Neither is a flat constraint whose nodes haven't the marks of their types.
not-unmarked : is_flat_specification
    (find x (upto (number_ex (pos 5))) ∷ such_that (ex2 true Op2.Gt (ex2 true Op2.Plus (name_ex x) (name_ex x)) (name_ex x)) ∷ []) []
    ≡ false
not-unmarked = refl
