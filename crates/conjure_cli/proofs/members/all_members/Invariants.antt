use Rattle.std.proofs.Common.{◌≡◌, map}
use Rattle.ess_parse.specs.LettingViews.{pure_letting}
use Rattle.conjure_cli.specs.Members.{all_members}
use Rattle.conjure_cli.proofs.members.all_members.Given as goal

abbrev pub invariant-loop-before : goal.invariant-loop-before
invariant-loop-before l = l.members ≡ all_members (map pure_letting l.file) l.before
