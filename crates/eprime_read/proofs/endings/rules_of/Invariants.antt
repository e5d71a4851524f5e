use Rattle.std.proofs.Common.{drop, map}
use Rattle.ess_grammar.specs.Readable.{ReadableStms}
use Rattle.ess_core.specs.StatementViews.{pure_stm}
use Rattle.eprime_tree.specs.Views.{pure_ex}
use Rattle.eprime_read_convert.specs.Lines.{scope_of}
use Rattle.eprime_read_convert.proofs.Sweeps.{Sweep}
use Rattle.eprime_read.specs.Statements.{model_rule}
use Rattle.eprime_read.proofs.endings.rules_of.Given as goal

abbrev pub invariant-loop-stm : goal.invariant-loop-stm
invariant-loop-stm l = record {
  readable : ReadableStms (map pure_stm (drop l.stm-index l.stms));
  left : Sweep (model_rule (scope_of l.lines)) (map (pure_ex (scope_of l.lines)) l.rules) (map pure_stm (drop l.stm-index l.stms)) (map pure_stm l.stms);
}
