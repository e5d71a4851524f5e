use Rattle.ess_rules_laws.specs.FunctionLookups.{unmarked}
use Rattle.ess_rules_laws.proofs.view_laws.function_views_are_looked_up.Goals as goal
use Rattle.ess_rules_laws.proofs.FunctionLookups.{looks}
use Rattle.ess_rules_laws.specs.Function1DViews.{function_1d_lookup}
use Rattle.ess_rules_laws.specs.Function1DPartialViews.{function_1d_partial_lookup}
use Rattle.ess_rules_laws.specs.FunctionNDViews.{function_nd_lookup}
use Rattle.ess_rules_laws.specs.FunctionNDPartialViews.{function_nd_partial_lookup}
use Rattle.ess_rules_laws.proofs.Function1DViews.{function_1d-looked}
use Rattle.ess_rules_laws.proofs.Function1DPartialViews.{function_1d_partial-looked}
use Rattle.ess_rules_laws.proofs.FunctionNDViews.{function_nd-looked}
use Rattle.ess_rules_laws.proofs.FunctionNDPartialViews.{function_nd_partial-looked}

pub returns : goal.returns
returns c = record {
  total_from_an_atom = λ x e l q o env m h. looks (function_1d_lookup x e) (unmarked e) l env (function_1d-looked x e env o m h) q;
  flagged_from_an_atom = λ x e l q o env m h. looks (function_1d_partial_lookup x e) (unmarked e) l env
      (function_1d_partial-looked x e env o m h) q;
  total_from_a_tuple = λ x e l q o env m h. looks (function_nd_lookup x e) (unmarked e) l env (function_nd-looked x e env o m h) q;
  flagged_from_a_tuple = λ x e l q o env m h. looks (function_nd_partial_lookup x e) (unmarked e) l env
      (function_nd_partial-looked x e env o m h) q;
}
