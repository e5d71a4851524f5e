use Rattle.std.proofs.Common.{◌≡◌, drop}
use Rattle.ess_rules_generators.specs.RecordParts.{do_rise}
use Rattle.ess_rules_generators.proofs.records.do_rise.Given as goal

abbrev pub invariant-loop-place : goal.invariant-loop-place
invariant-loop-place l = do_rise l.fields ≡ do_rise (drop l.place l.fields)
