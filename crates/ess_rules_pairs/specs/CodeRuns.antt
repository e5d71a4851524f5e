-- What a run over arguments in the code stands for.
use Rattle.ess_core.specs.TreeViews.{pure_pat}
use Rattle.ess_core_nodes.specs.NodeViews.{pure_node, pure_nodes}
use Rattle.ess_rules_laws.specs.FunctionViews as laws
use Rattle.ess_rules_pairs.specs.declared.runs.Run.{Run}

-- The pattern, the indices and the argument.
abbrev pub pure_run : Run → laws.Run
pure_run u = record { pattern = pure_pat u.pattern; keys = pure_nodes u.keys; argument = pure_node u.argument }
