-- A worked example of a model that is built: `find x : bool`, `such that x`. Nothing is rewritten, since a truth value is a cell.
use Rattle.std.specs.Prelude.{◌≡◌, refl, true, false, List, [], ◌∷◌, ◌++◌, map, codes}
use Rattle.std.proofs.Common.{ap, ◌∙◌}
use Rattle.ess_semantics.specs.Lists.{append_all, is_empty}
use Rattle.ess_semantics.specs.Trees.{Ex, name_ex, cell_ex, no_exs, bool_dom, Stm, find, such_that}
use Rattle.ess_semantics.specs.Kept.{Kept}
use Rattle.ess_semantics.specs.ModelTrees.{Model, no_goal, header_of}
use Rattle.ess_rules_laws.specs.Rewriting.{as_it_was}
use Rattle.ess_semantics.specs.Prepared.{prepared}
use Rattle.ess_semantics.specs.Models.{constraints_of}
use Rattle.conjure_laws.specs.SideBySide.{Along}
use Rattle.conjure_model_laws.specs.Shown.{shows_of}
use Rattle.conjure_model_laws.specs.IsBuiltFrom.{constraint_tree, taken_names, IsWrittenFor, IsBuiltFrom}

abbrev spec : List Stm
spec = find (codes "x") bool_dom ∷ such_that (name_ex (codes "x")) ∷ []

abbrev cell : Ex
cell = cell_ex true (codes "x") no_exs

abbrev model : Model
model = record {
  givens = [];
  finds = record { name = codes "x"; axes = []; cell = bool_dom } ∷ [];
  goal = no_goal;
  rules = cell ∷ [];
}

built : IsBuiltFrom Kept spec [] (header_of spec []) model
built = record {
  structures = [] ∷ [];
  channels = [];
  goals = [];
  constraints = cell ∷ [];
  header = refl;
  givens = tt;
  finds = ((refl, tt, tt), tt);
  goal = refl;
  all_rules = refl;
  structures_written = (as_it_was, tt);
  channels_written = tt;
  constraints_written = ((cell, as_it_was, refl, refl, refl), tt);
}

-- A model without the constraint isn't built.
not-empty : (xs : List Ex) (r : Ex) (rs : List Ex) → is_empty (xs ++ r ∷ rs) ≡ false
not-empty [] r rs = refl
not-empty (x ∷ xs) r rs = refl

dropped : IsBuiltFrom Kept spec [] (header_of spec []) (record model { rules = [] }) → ⊥
dropped b = go (append_all b.structures ++ b.channels ++ b.goals) b.constraints b.all_rules b.constraints_written
  where
    go : (first last : List Ex) → [] ≡ first ++ last →
        Along (map (constraint_tree (shows_of spec [])) (constraints_of (prepared spec))) last (IsWrittenFor Kept (taken_names spec [])) → ⊥
    go first [] e w = w
    go first (r ∷ rs) e w = let q : true ≡ false = ap is_empty e ∙ not-empty first r rs in cc
