use Rattle.ess_rules_laws.specs.FunctionLookups.{unmarked}
use Rattle.ess_rules_laws.specs.AlternativeLookups.{lookup_through_each}
use Rattle.ess_rules_laws.proofs.view_laws.alternatives_serve.Goals as goal
use Rattle.ess_rules_laws.proofs.LiteralLookups.{looks-by}
use Rattle.ess_rules_laws.proofs.AlternativeSelections.{select_each-keeps, select_whole_each-keeps}
use Rattle.ess_rules_laws.proofs.LookedContainers.{in_order-offered, members-offered, looked-alternative, through_each-answer}

pub returns : goal.returns
returns c = record {
  an_operand_is_selected = select_each-keeps;
  the_whole_is_selected = select_whole_each-keeps;
  through_an_operand = λ x k l e m q o env h n. looks-by (lookup_through_each x k l e) (unmarked e) m env
      (through_each-answer x k l e o env h n) q;
  members_are_offered = members-offered;
  a_lookup_is_one = looked-alternative;
  in_order_is_offered = in_order-offered;
}
