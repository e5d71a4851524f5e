use Rattle.std.proofs.Common.{◌++◌, drop, map, reverse}
use Rattle.ess_core.specs.TreeViews as R
use Rattle.ess_grammar.specs.Readable.{ReadableExs}
use Rattle.eprime_tree.specs.Views.{pure_ex, pure_gen, pure_range}
use Rattle.eprime_read_convert.specs.Lines.{scope_of}
use Rattle.eprime_read_convert.specs.Converted.{Each, ReadableItem, ReadableRange, ReadableSteps, model_ex, model_range}
use Rattle.eprime_read_convert.proofs.Sweeps.{Sweep, ItemSweep}
use Rattle.eprime_read_convert.proofs.+convert.Given as goal

abbrev pub invariant-domains::convert_ranges-loop-range : goal.invariant-domains::convert_ranges-loop-range
invariant-domains::convert_ranges-loop-range l = record {
  readable : Each ReadableRange (map R.pure_range (drop l.range-index l.ranges));
  left : Sweep (model_range (scope_of l.lines) l.half_open l.bound) (map (pure_range (scope_of l.lines)) l.items) (map R.pure_range (drop l.range-index l.ranges)) (map R.pure_range l.ranges);
}

abbrev pub invariant-expressions::convert_steps-loop-step : goal.invariant-expressions::convert_steps-loop-step
invariant-expressions::convert_steps-loop-step l = record {
  readable : ReadableSteps (map R.pure_step (drop l.step-index l.steps));
  left : Sweep (model_ex (scope_of l.lines) l.finds l.bound) (map (pure_ex (scope_of l.lines)) l.indices) (R.within (map R.pure_step (drop l.step-index l.steps))) (R.within (map R.pure_step l.steps));
}

abbrev pub invariant-lists::convert_exs-loop-ex : goal.invariant-lists::convert_exs-loop-ex
invariant-lists::convert_exs-loop-ex l = record {
  readable : ReadableExs (R.pure_exs (drop l.ex-index l.exs));
  left : Sweep (model_ex (scope_of l.lines) l.finds l.bound) (map (pure_ex (scope_of l.lines)) l.items) (map R.pure_ex (drop l.ex-index l.exs)) (map R.pure_ex l.exs);
}

abbrev pub invariant-lists::convert_gens-loop-part : goal.invariant-lists::convert_gens-loop-part
invariant-lists::convert_gens-loop-part l = record {
  readable : Each ReadableItem (map R.pure_gen (drop l.part-index l.gens));
  left : ItemSweep (scope_of l.lines) (reverse l.names ++ l.bound) (map (pure_gen (scope_of l.lines)) l.items) (map R.pure_gen (drop l.part-index l.gens)) l.bound (map R.pure_gen l.gens);
}
