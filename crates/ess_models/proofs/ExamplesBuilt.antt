-- A worked example of a model that is built: `find x : bool`, `such that x`. Nothing is rewritten, since a truth value is a cell.
use Rattle.std.proofs.Common.{◌≡◌, refl, ap, ◌∙◌, true, false, List, [], ◌∷◌, ◌++◌, codes, arith, Some}
use Rattle.ess_semantics.specs.Lists.{is_empty}
use Rattle.ess_semantics.specs.Trees.{Ex, truth_ex, name_ex, cell_ex, no_exs, bool_dom, Stm, find, such_that}
use Rattle.ess_semantics.specs.DeclaredTables.{TableDecl}
use Rattle.ess_semantics.specs.Prepared.{prepared}
use Rattle.ess_semantics.specs.ModelTrees.{Model, no_goal, header_of}
use Rattle.ess_semantics.specs.Models.{constraints_of}
use Rattle.conjure_laws.specs.SideBySide.{Along}
use Rattle.conjure_model_laws.specs.Shown.{shows_of}
use Rattle.conjure_model_laws.specs.IsBuiltFrom.{taken_names}
use Rattle.ess_model_written.specs.ess_refine.Chains.{as_it_was}
use Rattle.ess_model_written.specs.Coming.{none_written, one_written}
use Rattle.ess_model_written.specs.RulesWritten.{ConstraintComes}
use Rattle.ess_models.specs.Parts.{scope_of_tables}
use Rattle.ess_models.specs.Built.{IsBuilt}

abbrev spec : List Stm
spec = find (codes "x") bool_dom ∷ such_that (name_ex (codes "x")) ∷ []

abbrev cell : Ex
cell = cell_ex true (codes "x") no_exs

abbrev table : TableDecl
table = record { name = codes "x"; axes = []; cell = bool_dom }

abbrev model : Model
model = record { givens = []; finds = table ∷ []; goal = no_goal; rules = cell ∷ [] }

built : IsBuilt spec [] (header_of spec []) model
built = record {
  header = refl;
  declared = record { givens = none_written; finds = one_written (refl, tt, tt) none_written };
  rules = record {
    structures = [];
    channels = [];
    goals = [];
    constraints = cell ∷ [];
    all = refl;
    structures_written = record {
      rows = [] ∷ [];
      each = (
        record {
          new = truth_ex true;
          comes = (2, (record { last = truth_ex true; leads = as_it_was (omega arith); few = omega arith; refined = refl; writes = refl }, refl));
          is = refl;
        },
        tt,
      );
      all = refl;
    };
    channels_written = record { each = tt };
    goal_written = refl;
    constraints_written = record {
      each = ((2, (record { last = cell; leads = as_it_was (omega arith); few = omega arith; refined = refl; writes = refl }, refl)), tt);
    };
  };
}

not-empty : (xs : List Ex) (r : Ex) (rs : List Ex) → is_empty (xs ++ r ∷ rs) ≡ false
not-empty [] r rs = refl
not-empty (x ∷ xs) r rs = refl

-- A model without the constraint isn't built.
dropped : IsBuilt spec [] (header_of spec []) (record model { rules = [] }) → ⊥
dropped b = go (b.rules.structures ++ b.rules.channels ++ b.rules.goals) b.rules.constraints b.rules.all b.rules.constraints_written.each
  where
    go : (first last : List Ex) → [] ≡ first ++ last
        → Along (constraints_of (prepared spec)) last
        (λ c e. ConstraintComes (scope_of_tables [] (table ∷ [])) (taken_names spec []) (shows_of spec []) c (Some e)) → ⊥
    go first [] e w = w
    go first (r ∷ rs) e w = let q : true ≡ false = ap is_empty e ∙ not-empty first r rs in cc
