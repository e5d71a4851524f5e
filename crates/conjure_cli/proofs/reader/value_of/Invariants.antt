use Rattle.std.proofs.Common.{◌≡◌, drop}
use Rattle.conjure_cli_laws.specs.SmallGrammar.{value_from}
use Rattle.conjure_cli.proofs.reader.value_of.Given as goal

abbrev pub invariant-loop-digit : goal.invariant-loop-digit
invariant-loop-digit l = value_from 0 l.digits ≡ value_from l.value (drop l.digit-index l.digits)
