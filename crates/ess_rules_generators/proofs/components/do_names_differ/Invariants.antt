use Rattle.std.proofs.Common.{◌≡◌, drop}
use Rattle.ess_rules_generators.specs.GeneratorParts.{do_names_differ}
use Rattle.ess_rules_generators.proofs.components.do_names_differ.Given as goal

abbrev pub invariant-loop-place : goal.invariant-loop-place
invariant-loop-place l = do_names_differ l.names ≡ do_names_differ (drop l.place l.names)
