-- Worked examples of numbers outside 64 bits in whole specifications and models.
use Rattle.std.specs.Prelude.{◌≡◌, refl, ℕ, ◌-◌, ◌^◌, true, false, List, [], ◌∷◌, map, pos, codes}
use Rattle.ess_semantics.specs.declared.words.Op2.{Op2}
use Rattle.ess_semantics.specs.declared.words.ReprKind.{ReprKind}
use Rattle.ess_semantics.specs.Names.{Names}
use Rattle.ess_semantics.specs.Trees.{Ex, cell_ex, no_exs, Stm, given, let_ex, needs, find, such_that, maximise}
use Rattle.ess_semantics.specs.Tables.{Table, one_cell}
use Rattle.ess_semantics.specs.Choice.{alone}
use Rattle.ess_semantics.specs.Assignments.{Assignment, nothing_given}
use Rattle.ess_semantics.specs.LargeSpecifications.{parameter_is_large, solution_is_large, tables_are_large}
use Rattle.ess_semantics.specs.ModelTrees.{no_goal, greatest, Model}
use Rattle.ess_semantics.specs.LargeModels.{declares_large, model_is_large}
use Rattle.ess_semantics.proofs.Shorthands.{N, n, bi, range, set, v, gives1}

-- given n : int(0..64) / letting p be 2 ** 99 / where n * n >= 0 / find x : int(0..9) / such that 2 ** n > x / maximising x + 2 ** n
abbrev powers : List Stm
powers =
    given (codes "n") (range (n 0) (n 64)) ∷ let_ex (codes "p") (bi Op2.Pow (n 2) (n 99)) ∷ needs (bi Op2.Ge (bi Op2.Times (N (codes "n")) (N (codes "n"))) (n 0)) ∷
    find (codes "x") (range (n 0) (n 9)) ∷ such_that (bi Op2.Gt (bi Op2.Pow (n 2) (N (codes "n"))) (N (codes "x"))) ∷ maximise (N (codes "x")) ∷ []

abbrev with_n : ℕ → Assignment
with_n k = gives1 (codes "n") (v k)

-- A letting that isn't used doesn't count, and for a parameter no constraint does.
in_parameters : map (λ k. parameter_is_large powers (with_n k)) (1 ∷ 63 ∷ 2 ^ 32 ∷ []) ≡ false ∷ false ∷ true ∷ []
in_parameters = refl

in_solutions : map (λ k. solution_is_large powers (with_n k) (gives1 (codes "x") (v 1))) (62 ∷ 63 ∷ []) ≡ false ∷ true ∷ []
in_solutions = refl

-- find s : set of int(0..2 ** 63 - 1): with a dummy that is 2 ** 63
abbrev wide_set : List Stm
wide_set = find (codes "s") (set (range (n 0) (n (2 ^ 63 - 1)))) ∷ []

the_dummy_counts : map (λ k. tables_are_large wide_set ((codes "s", alone k ∷ []) ∷ []) nothing_given) (ReprKind.Occurrence ∷ ReprKind.ExplicitVarSizeWithDummy ∷ []) ≡ false ∷ true ∷ []
the_dummy_counts = refl

-- find x : int(0..9), maximising x * m, such that x + m > 0
abbrev times : ℕ → Model
times m = record {
  givens = [];
  finds = record { name = codes "x"; axes = []; cell = range (n 0) (n 9) } ∷ [];
  goal = greatest (bi Op2.Times x (n m));
  rules = bi Op2.Gt (bi Op2.Plus x (n m)) (n 0) ∷ [];
}
  where
    x : Ex
    x = cell_ex false (codes "x") no_exs

abbrev x_is : ℕ → Names Table
x_is k = (codes "x", one_cell (pos k)) ∷ []

in_models : map (λ m. model_is_large (times m) [] (x_is 2)) (2 ^ 61 ∷ 2 ^ 62 ∷ 2 ^ 63 ∷ []) ≡ false ∷ true ∷ true ∷ []
in_models = refl

-- only the constraint: x = 1
in_constraints : map (λ m. model_is_large (record (times m) { goal = no_goal }) [] (x_is 1)) ((2 ^ 63 - 2) ∷ (2 ^ 63 - 1) ∷ []) ≡ false ∷ true ∷ []
in_constraints = refl

not_in_domains : declares_large (times (2 ^ 63)) [] ≡ false
not_in_domains = refl
