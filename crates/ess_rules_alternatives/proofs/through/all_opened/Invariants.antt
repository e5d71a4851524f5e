use Rattle.std.proofs.Common.{◌≡◌, map, take}
use Rattle.ess_rules_forms.specs.PureAlternatives.{pure_alternative}
use Rattle.ess_rules_alternatives.specs.Cases.{members_of}
use Rattle.ess_rules_alternatives.proofs.through.all_opened.Given as goal

abbrev pub invariant-loop-one : goal.invariant-loop-one
invariant-loop-one l =
    map pure_alternative l.all ≡ map (members_of l.picked l.member) (map pure_alternative (take l.one-index l.offered))
