use Rattle.std.proofs.Common.{◌≤◌, drop}
use Rattle.ess_print_laws.specs.Parts.{comma_space, times}
use Rattle.ess_print.proofs.Writing.{Writing}
use Rattle.ess_print.proofs.Items.{exs_printers, doms_printers, fields_printers, pairs_printers, field_doms_printers, ranges_printers, attrs_printers, steps_printers, args_printers, gens_printers}
use Rattle.ess_print.proofs.+put.Given as goal

abbrev pub invariant-collections::put_function-loop-index : goal.invariant-collections::put_function-loop-index
invariant-collections::put_function-loop-index l = Writing comma_space l.initial.out l.out l.index (pairs_printers l.pairs) (pairs_printers (drop l.index l.pairs))

abbrev pub invariant-collections::put_record-loop-index : goal.invariant-collections::put_record-loop-index
invariant-collections::put_record-loop-index l = Writing comma_space l.initial.out l.out l.index (fields_printers l.fields) (fields_printers (drop l.index l.fields))

abbrev pub invariant-domains::put_attrs-loop-index : goal.invariant-domains::put_attrs-loop-index
invariant-domains::put_attrs-loop-index l = Writing comma_space l.initial.out l.out l.index (attrs_printers l.attrs) (attrs_printers (drop l.index l.attrs))

abbrev pub invariant-domains::put_doms-loop-index : goal.invariant-domains::put_doms-loop-index
invariant-domains::put_doms-loop-index l = Writing comma_space l.initial.out l.out l.index (doms_printers l.doms) (doms_printers (drop l.index l.doms))

abbrev pub invariant-domains::put_factors-loop-index : goal.invariant-domains::put_factors-loop-index
invariant-domains::put_factors-loop-index l = Writing times l.initial.out l.out l.index (doms_printers l.doms) (doms_printers (drop l.index l.doms))

abbrev pub invariant-domains::put_int-loop-index : goal.invariant-domains::put_int-loop-index
invariant-domains::put_int-loop-index l = Writing comma_space l.initial.out l.out l.index (ranges_printers l.ranges) (ranges_printers (drop l.index l.ranges))

abbrev pub invariant-domains::put_record-loop-index : goal.invariant-domains::put_record-loop-index
invariant-domains::put_record-loop-index l = Writing comma_space l.initial.out l.out l.index (field_doms_printers l.fields) (field_doms_printers (drop l.index l.fields))

abbrev pub invariant-expressions::put_call-loop-index : goal.invariant-expressions::put_call-loop-index
invariant-expressions::put_call-loop-index l =
    Writing comma_space l.initial.out l.out l.index (args_printers l.brackets 0 l.args) (args_printers l.brackets l.index (drop l.index l.args))

abbrev pub invariant-expressions::put_exs-loop-index : goal.invariant-expressions::put_exs-loop-index
invariant-expressions::put_exs-loop-index l = Writing comma_space l.initial.out l.out l.index (exs_printers l.exs) (exs_printers (drop l.index l.exs))

abbrev pub invariant-expressions::put_steps-loop-step : goal.invariant-expressions::put_steps-loop-step
invariant-expressions::put_steps-loop-step l =
    Writing comma_space l.initial.out l.out l.count (steps_printers l.steps) (steps_printers (drop l.step-index l.steps)) × (l.count ≤ l.step-index)

abbrev pub invariant-generators::put_gens-loop-index : goal.invariant-generators::put_gens-loop-index
invariant-generators::put_gens-loop-index l = Writing comma_space l.initial.out l.out l.index (gens_printers l.gens) (gens_printers (drop l.index l.gens))
