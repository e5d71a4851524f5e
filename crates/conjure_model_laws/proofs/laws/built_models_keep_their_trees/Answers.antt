use Rattle.conjure_model_laws.proofs.laws.built_models_keep_their_trees.Goals as goal
use Rattle.std.proofs.Common.{sym, ◌∙◌}
use Rattle.ess_semantics.specs.Prepared.{prepared}
use Rattle.ess_semantics.specs.ModelTrees.{goal_of}
use Rattle.conjure_model_laws.specs.Shown.{shows_of}
use Rattle.conjure_model_laws.specs.IsBuiltFrom.{taken_names}
use Rattle.conjure_model_laws.proofs.Directions.{direction-kept}
use Rattle.conjure_model_laws.proofs.Built.{written-direction, rules-come, declarations-come}

pub returns : goal.returns
returns c = record {
  header = λ S o H E b. b.header;
  direction = λ S o H E b. written-direction (taken_names S o) (shows_of S o) (goal_of (prepared S)) E.goal b.goals b.goal;
  written_direction = λ S o H E b.
      sym (direction-kept S E.goal) ∙ written-direction (taken_names S o) (shows_of S o) (goal_of (prepared S)) E.goal b.goals b.goal;
  rules = rules-come;
  declarations = declarations-come;
}
