use Rattle.std.proofs.Common.{◌≡◌, drop}
use Rattle.ess_rules_laws.specs.ComponentRules.{has_text}
use Rattle.ess_rules_generators.proofs.components.has_text.Given as goal

abbrev pub invariant-loop-other : goal.invariant-loop-other
invariant-loop-other l = has_text l.names l.name ≡ has_text (drop l.other-index l.names) l.name
