use Rattle.std.proofs.Common.{◌≡◌}
use Rattle.ess_core.specs.declared.values.Val.TheVariants.{Set}
use Rattle.ess_values.proofs.Parts.{members_of_set}
use Rattle.ess_values.proofs.partitions.members.Goals as goal

pub returns-in-Set : goal.returns-in-Set
returns-in-Set c =
    let is = c.in-Set.is in let same = c.in_ok-other.ensures in
    let e : c.args.part.now ≡ Set c.in-Set.own = cc in
    members_of_set _ _ e
