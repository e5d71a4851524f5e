use Rattle.std.proofs.Common.{[], map, take}
use Rattle.ess_core.specs.StatementViews.{pure_stm}
use Rattle.ess_parse.specs.NamedReprViews.{pure_named_reprs}
use Rattle.conjure_options.specs.Items.{domains_of, AreItems}
use Rattle.conjure_options.proofs.ListLaws.{texts}
use Rattle.conjure_options.proofs.options.options_of.Given as goal

abbrev pub invariant-loop-i : goal.invariant-loop-i
invariant-loop-i l = AreItems (domains_of (map pure_stm l.stms)) [] (texts (take l.i l.item-items)) (map pure_named_reprs l.done)
