use Rattle.ess_rules_laws.specs.FunctionLookups.{unmarked}
use Rattle.ess_rules_laws.specs.FunctionKeys.{lookup_behind_flag}
use Rattle.ess_rules_laws.proofs.view_laws.function_keys_serve.Goals as goal
use Rattle.ess_rules_laws.proofs.FunctionLookups.{looks}
use Rattle.ess_rules_laws.proofs.FunctionKeys.{result_at_argument-keeps, defined_everywhere-keeps}
use Rattle.ess_rules_laws.proofs.FunctionFlags.{defined_where_flagged-keeps, behind_flag-looked}

pub returns : goal.returns
returns c = record {
  a_result_is_the_view = result_at_argument-keeps;
  each_member_is_an_argument = defined_everywhere-keeps;
  a_flag_says_so = defined_where_flagged-keeps;
  behind_a_flag = λ e l q env h m. looks (lookup_behind_flag e) (unmarked e) l env (behind_flag-looked e env h m) q;
}
