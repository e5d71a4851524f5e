use Rattle.ess_rules_laws.specs.FunctionLookups.{unmarked}
use Rattle.ess_rules_laws.specs.AlternativeLookups.{list_lookup, function_literal_lookup}
use Rattle.ess_rules_laws.proofs.view_laws.literals_are_looked_up.Goals as goal
use Rattle.ess_rules_laws.proofs.LiteralLookups.{list-answer, looks-by}
use Rattle.ess_rules_laws.proofs.FunctionLiteralLookups.{function_literal-answer}

pub returns : goal.returns
returns c = record {
  of_lists = λ e l q env t m. looks-by (list_lookup e) (unmarked e) l env (list-answer e env t m) q;
  of_functions = λ e l q env t m. looks-by (function_literal_lookup e) (unmarked e) l env (function_literal-answer e env t m) q;
}
