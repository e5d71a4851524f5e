use Rattle.ess_rules_laws.proofs.laws.membership_rules_keep.Goals as goal
use Rattle.ess_rules_laws.proofs.MembershipRules.{member_term-keeps, member_combined-keeps, member_changed-keeps, member_listed-keeps}
use Rattle.ess_rules_laws.proofs.FunctionMembershipRules.{member_of_function-keeps, member_related-keeps}

pub returns : goal.returns
returns c = record {
  in_a_term = member_term-keeps;
  in_two = member_combined-keeps;
  in_one_made_of_another = member_changed-keeps;
  in_a_literal = member_listed-keeps;
  in_what_a_function_has = member_of_function-keeps;
  in_its_pairs = member_related-keeps;
}
