use Rattle.std.proofs.Common.{true, drop, map}
use Rattle.ess_grammar.specs.Readable.{ReadableDoms}
use Rattle.ess_core.specs.TreeViews as R
use Rattle.eprime_tree.specs.Views.{pure_dom}
use Rattle.eprime_read_convert.specs.Lines.{scope_of}
use Rattle.eprime_read_convert.specs.Converted.{model_dom}
use Rattle.eprime_read_convert.proofs.Sweeps.{Sweep}
use Rattle.eprime_read_convert.proofs.declarations.convert_axes.Given as goal

abbrev pub invariant-loop-axis : goal.invariant-loop-axis
invariant-loop-axis l = record {
  readable : ReadableDoms (R.pure_doms (drop l.axis-index l.axes));
  left : Sweep (model_dom (scope_of l.lines) true l.bound) (map (pure_dom (scope_of l.lines)) l.doms) (map R.pure_dom (drop l.axis-index l.axes)) (map R.pure_dom l.axes);
}
