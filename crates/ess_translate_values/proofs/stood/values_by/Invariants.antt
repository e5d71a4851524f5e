use Rattle.std.proofs.Common.{map}
use Rattle.ess_core.specs.TableViews.{pure_named_table}
use Rattle.ess_translate_values.proofs.StoodLoops.{StoodSoFar}
use Rattle.ess_translate_values.proofs.stood.values_by.Given as goal

abbrev pub invariant-loop-name : goal.invariant-loop-name
invariant-loop-name l = StoodSoFar l.plans l.closed (map pure_named_table l.cells) l.finds l.name-index l.all
