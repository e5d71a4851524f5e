-- Which rules fire at the root of a bare tree: those of folds without generators, of folds over a condition alone, of a condition that
-- leaves a fold of truth values, and of a product of numbers that conditions choose.
use Rattle.std.specs.Prelude.{◌≡◌, Bool, true, false, Some}
use Rattle.ess_semantics.specs.Trees.{Ex}
use Rattle.ess_rules_laws.specs.ChoiceRules.{choice_shorter}
use Rattle.ess_rules_laws.specs.FoldRules.{fold_alone, fold_bare}
use Rattle.ess_refine_laws.specs.LeavingConditions.{condition_leaves}

-- One of these makes f of e, which has the mark m.
pub data Fires (e f : Ex) : Bool → Type 0 where
  without_generators : {m : Bool} → fold_bare e ≡ Some f → Fires e f m
  over_one_condition : fold_alone e ≡ Some f → Fires e f true
  as_a_condition_leaves : condition_leaves e ≡ Some f → Fires e f true
  as_one_choice : choice_shorter e ≡ Some f → Fires e f false
