-- Worked examples: the cell b is false, and `1 / 0` has no value. A condition that leaves a fold of numbers takes the guard from a Boolean
-- in the number, and a part of that has no value then; under truth values the condition guards on. A condition that moves behind another
-- one under `min` takes the guard from that.
use Rattle.std.proofs.Common.{◌≡◌, refl, false, true, [], ◌∷◌, pos, Some, codes}
use Rattle.std.specs.Prelude.{IsTrue}
use Rattle.ess_semantics.specs.declared.words.Op2.{Op2}
use Rattle.ess_semantics.specs.declared.words.Fun.{Fun}
use Rattle.ess_semantics.specs.Values.{Text}
use Rattle.ess_semantics.specs.Tables.{row_of}
use Rattle.ess_semantics.specs.Trees.{both_ends, matrix_literal, name_pat, Ex, node_ex, comp_ex, cell_ex, ex2, fun1, no_exs, more_exs, Gens, no_gens, over, cond, int_dom}
use Rattle.ess_semantics.specs.Meaning.{Env, empty_env, meaning}
use Rattle.ess_semantics.proofs.Shorthands.{N, n}
use Rattle.ess_refine_laws.specs.Everywhere.{chosen}
use Rattle.ess_refine_laws.specs.LeavingConditions.{condition_leaves}
use Rattle.ess_refine_laws.specs.MovingConditions.{condition_later}
use Rattle.ess_refine_laws.specs.ExtremeRules.{either_number, extreme_condition}
use Rattle.ess_values_along_laws.specs.Valued.{Valued}

-- A cell that no table gives a value is false.
abbrev b : Ex
b = cell_ex true (codes "b") no_exs

-- `allDiff([1 / 0])`.
abbrev differ : Ex
differ = fun1 true Fun.AllDiff (node_ex false matrix_literal (more_exs (ex2 false Op2.Div (n 1) (n 0)) no_exs))

-- `sum([toInt(allDiff([1 / 0])) | b])` becomes `sum([toInt(b) * sum([toInt(allDiff([1 / 0])) | ]) | ])`.
abbrev guarded_sum : Ex
guarded_sum = fun1 false Fun.Sum (comp_ex (chosen differ) (cond b no_gens))

abbrev open_sum : Ex
open_sum = fun1 false Fun.Sum (comp_ex (ex2 false Op2.Times (chosen b) (fun1 false Fun.Sum (comp_ex (chosen differ) no_gens))) no_gens)

leaves : condition_leaves guarded_sum ≡ Some open_sum
leaves = refl

same : meaning guarded_sum empty_env ≡ meaning open_sum empty_env
same = refl

-- Each part of the first has a value where its context holds.
guarded-valued : Valued false guarded_sum empty_env
guarded-valued = (refl, ((refl, ((tt, tt), λ t. cc)), tt))

-- Of the second the list `[1 / 0]` has none.
open-lacks : Valued false open_sum empty_env → ⊥
open-lacks h = no h.1.0.1.1.1.0.1.0.1.1.0.1.0.0
  where
    no : IsTrue false → ⊥
    no q = cc

-- ---- under `min`

-- The cell at 0 is false, that at 1 is true.
abbrev here : Env
here = record empty_env { cells = (codes "c", row_of (pos 0 ∷ pos 1 ∷ []) (pos 0 ∷ pos 1 ∷ [])) ∷ [] }

abbrev x : Text
x = codes "x"

-- `c[x]`.
abbrev cell : Ex
cell = cell_ex true (codes "c") (more_exs (N x) no_exs)

-- `allDiff([1 / x])`.
abbrev apart : Ex
apart = fun1 true Fun.AllDiff (node_ex false matrix_literal (more_exs (ex2 false Op2.Div (n 1) (N x)) no_exs))

-- `x : int(0..1)` before others.
abbrev over_both : Gens → Gens
over_both gs = over (name_pat x) (int_dom (both_ends ∷ []) (more_exs (n 0) (more_exs (n 1) no_exs))) gs

-- `min([1 | x : int(0..1), c[x], allDiff([1 / x])])` becomes `min([1 | x : int(0..1), allDiff([1 / x]), c[x]])`.
abbrev guarded_least : Ex
guarded_least = fun1 false Fun.Min (comp_ex (n 1) (over_both (cond cell (cond apart no_gens))))

abbrev open_least : Ex
open_least = fun1 false Fun.Min (comp_ex (n 1) (over_both (cond apart (cond cell no_gens))))

moves : condition_later guarded_least ≡ Some open_least
moves = refl

moved-same : meaning guarded_least here ≡ meaning open_least here
moved-same = refl

least-valued : Valued false guarded_least here
least-valued = (
  refl,
  (
    (
      refl,
      (
        (tt, (tt, tt)),
        (
          ((tt, (refl, tt)), λ t. cc),
          (((tt, (refl, tt)), λ t. ((tt, ((refl, ((refl, (tt, (refl, tt))), tt)), tt)), λ u. tt)), tt),
        ),
      ),
    ),
    tt,
  ),
)

-- At 0 the list `[1 / x]` has no value.
least-lacks : Valued false open_least here → ⊥
least-lacks h = no h.1.0.1.1.0.0.1.0.0
  where
    no : IsTrue false → ⊥
    no q = cc

-- `min([toInt(allDiff([1 / x])) | x : int(0..1), c[x]])`, with 1 as the greatest of all, becomes the least of
-- `toInt(c[x]) * toInt(allDiff([1 / x])) + toInt(!c[x]) * 1` over both.
abbrev under_cell : Ex
under_cell = fun1 false Fun.Min (comp_ex (chosen apart) (over_both (cond cell no_gens)))

abbrev either : Ex
either = fun1 false Fun.Min (comp_ex (either_number cell (chosen apart) (n 1)) (over_both no_gens))

chooses : extreme_condition (n 1) under_cell ≡ Some either
chooses = refl

either-same : meaning under_cell here ≡ meaning either here
either-same = refl

under-valued : Valued false under_cell here
under-valued = (
  refl,
  (
    (
      refl,
      (
        (tt, (tt, tt)),
        (
          ((tt, (refl, tt)), λ t. cc),
          (((tt, (refl, tt)), λ t. (refl, ((tt, ((refl, ((refl, (tt, (refl, tt))), tt)), tt)), tt))), tt),
        ),
      ),
    ),
    tt,
  ),
)

-- At 0 the list `[1 / x]` has no value.
either-lacks : Valued false either here → ⊥
either-lacks h = no h.1.0.1.1.0.1.0.1.1.0.1.0.1.0.0
  where
    no : IsTrue false → ⊥
    no q = cc
