use Rattle.ess_rules_laws.proofs.view_laws.function_views_are_listed.Goals as goal
use Rattle.ess_rules_laws.proofs.Function1DViews.{function_1d-listed}
use Rattle.ess_rules_laws.proofs.Function1DPartialViews.{function_1d_partial-listed}
use Rattle.ess_rules_laws.proofs.FunctionNDViews.{function_nd-listed}
use Rattle.ess_rules_laws.proofs.FunctionNDPartialViews.{function_nd_partial-listed}

pub returns : goal.returns
returns c = record {
  total_from_an_atom = function_1d-listed;
  flagged_from_an_atom = function_1d_partial-listed;
  total_from_a_tuple = function_nd-listed;
  flagged_from_a_tuple = function_nd_partial-listed;
}
