use Rattle.std.proofs.Common.{◌≡◌, drop}
use Rattle.conjure_options.specs.Items.{found}
use Rattle.conjure_options.proofs.ItemLaws.{doms}
use Rattle.conjure_options.proofs.items.domain_of.Given as goal

abbrev pub invariant-loop-stm : goal.invariant-loop-stm
invariant-loop-stm l = found (doms (drop l.stm-index l.stms)) l.name ≡ found (doms l.stms) l.name
