use Rattle.std.proofs.Common.{◌≡◌, ◌≤◌, drop}
use Rattle.ess_values.specs.Items.{small_number}
use Rattle.ess_values.proofs.ItemLemmas.{small_from}
use Rattle.ess_values.proofs.naming.number.Given as goal

abbrev pub invariant-loop-digit : goal.invariant-loop-digit
invariant-loop-digit l = (small_number l.limit l.digits ≡ small_from l.limit l.so_far (drop l.digit-index l.digits)) × (l.so_far ≤ l.limit)
