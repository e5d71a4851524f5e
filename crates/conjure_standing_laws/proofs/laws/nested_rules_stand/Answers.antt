use Rattle.conjure_standing_laws.proofs.NestedLaws.{nested-rules-stand}
use Rattle.conjure_standing_laws.proofs.laws.nested_rules_stand.Goals as goal

pub returns : goal.returns
returns c = nested-rules-stand
