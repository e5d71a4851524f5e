use Rattle.std.proofs.Common.{◌≡◌, ◌++◌, map, drop}
use Rattle.ess_semantics.specs.Solutions.{finds}
use Rattle.ess_core.specs.StatementViews.{pure_stm}
use Rattle.ess_core_nodes.specs.NodeViews.{pure_node}
use Rattle.ess_model_shown.specs.Tables.{pure_shows}
use Rattle.ess_translate_plans.specs.Views.{pure_plan}
use Rattle.ess_model_finds.specs.Finds.{channels_of}
use Rattle.ess_model_finds.proofs.views.channel_trees.Given as goal

abbrev pub invariant-loop-stm : goal.invariant-loop-stm
invariant-loop-stm l =
    map pure_node l.trees ++ channels_of (pure_shows l.shows) (map pure_plan l.plans) (finds (map pure_stm (drop l.stm-index l.stms)))
    ≡ channels_of (pure_shows l.shows) (map pure_plan l.plans) (finds (map pure_stm l.stms))
