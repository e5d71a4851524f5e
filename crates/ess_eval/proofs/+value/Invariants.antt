use Rattle.std.proofs.Common.{◌≡◌, ◌+◌, ◌++◌, true, drop, map, length, option_map}
use Rattle.ess_semantics.specs.Kinds.{doms_of}
use Rattle.ess_core.specs.ValueViews.{pure_val}
use Rattle.ess_core.specs.TreeViews.{pure_ex, pure_exs, pure_dom, pure_doms, pure_gen, pure_gens, pure_pat, pure_step, pure_field_ex, pure_pair_ex, pure_field_dom, pure_range, pure_attr, exs_of, field_values, words_of, within}
use Rattle.ess_eval.specs.Environments.{env_at}
use Rattle.ess_eval.specs.Items.{swept, large_swept}
use Rattle.ess_eval.specs.Folds.{folded, pure_fold}
use Rattle.std.specs.Prelude.{reverse}
use Rattle.ess_semantics.specs.Values.{number}
use Rattle.ess_semantics.specs.Trees.{name_pat}
use Rattle.ess_eval.proofs.Weights.{weight, weight_inside, weights, weight_gens, weight_dom, weight_doms}
use Rattle.ess_eval.proofs.+value.Given as goal

abbrev pub decreases-evaluating::value_at : goal.decreases-evaluating::value_at
decreases-evaluating::value_at l = weight (pure_ex l.ex.now)

abbrev pub decreases-literals::literal_at : goal.decreases-literals::literal_at
decreases-literals::literal_at l = weight_inside (pure_ex l.ex.now)

abbrev pub decreases-evaluating::two_at : goal.decreases-evaluating::two_at
decreases-evaluating::two_at l = 2 + weight (pure_ex l.a.now) + weight (pure_ex l.b.now)

abbrev pub decreases-evaluating::indexed_at : goal.decreases-evaluating::indexed_at
decreases-evaluating::indexed_at l = 2 + weight (pure_ex l.of.now) + length (words_of (map pure_step l.steps.now)) + weights (exs_of (within (map pure_step l.steps.now)))

abbrev pub decreases-evaluating::applied_at : goal.decreases-evaluating::applied_at
decreases-evaluating::applied_at l = 3 + weight (pure_ex l.of.now) + weights (pure_exs l.args.now)

abbrev pub decreases-evaluating::matrix_at : goal.decreases-evaluating::matrix_at
decreases-evaluating::matrix_at l = 3 + weights (pure_exs l.items.now) + weight_dom (pure_dom l.axis.now)

abbrev pub decreases-operands::values_at : goal.decreases-operands::values_at
decreases-operands::values_at l = 2 + weights (pure_exs l.exs.now)

abbrev pub decreases-operands::add_values : goal.decreases-operands::add_values
decreases-operands::add_values l = 1 + weights (pure_exs l.exs.now)

abbrev pub decreases-operands::field_values_at : goal.decreases-operands::field_values_at
decreases-operands::field_values_at l = 2 + weights (exs_of (field_values (map pure_field_ex l.fields.now)))

abbrev pub decreases-operands::add_field_values : goal.decreases-operands::add_field_values
decreases-operands::add_field_values l = 1 + weights (exs_of (field_values (map pure_field_ex l.fields.now)))

abbrev pub decreases-operands::pairs_at : goal.decreases-operands::pairs_at
decreases-operands::pairs_at l = 1 + weights (exs_of (map pure_pair_ex l.pairs.now))

abbrev pub decreases-operands::pair_at : goal.decreases-operands::pair_at
decreases-operands::pair_at l = weight (pure_pair_ex l.pair.now)

abbrev pub decreases-operands::steps_at : goal.decreases-operands::steps_at
decreases-operands::steps_at l = 1 + length (words_of (map pure_step l.steps.now)) + weights (exs_of (within (map pure_step l.steps.now)))

abbrev pub decreases-evaluating::number_at : goal.decreases-evaluating::number_at
decreases-evaluating::number_at l = 1 + weight (pure_ex l.ex.now)

abbrev pub decreases-generating::comprehension : goal.decreases-generating::comprehension
decreases-generating::comprehension l = 3 + weight (pure_ex l.item.now) + weight_gens (pure_gens l.gens.now)

abbrev pub decreases-generating::runs : goal.decreases-generating::runs
decreases-generating::runs l = 2 + weight (pure_ex l.item.now) + weight_gens (pure_gens l.gens.now)

abbrev pub decreases-generating::runs_from : goal.decreases-generating::runs_from
decreases-generating::runs_from l = 6 + weight (pure_ex l.item.now) + weight (pure_ex l.source.now) + weight_gens (pure_gens l.rest.now)

abbrev pub decreases-generating::runs_over : goal.decreases-generating::runs_over
decreases-generating::runs_over l = 6 + weight (pure_ex l.item.now) + weight_dom (pure_dom l.dom.now) + weight_gens (pure_gens l.rest.now)

abbrev pub decreases-generating::source_values : goal.decreases-generating::source_values
decreases-generating::source_values l = 1 + weight (pure_ex l.source.now)

abbrev pub decreases-sweeping::sweep : goal.decreases-sweeping::sweep
decreases-sweeping::sweep l = 5 + weight (pure_ex l.item.now) + weight_gens (pure_gens l.rest.now)

abbrev pub decreases-sweeping::point : goal.decreases-sweeping::point
decreases-sweeping::point l = 3 + weight (pure_ex l.item.now) + weight_gens (pure_gens l.rest.now)

abbrev pub decreases-closing::domain_members : goal.decreases-closing::domain_members
decreases-closing::domain_members l = 1 + weight_dom (pure_dom l.dom.now)

abbrev pub decreases-closing::closed_at : goal.decreases-closing::closed_at
decreases-closing::closed_at l = weight_dom (pure_dom l.dom.now)

abbrev pub decreases-closing::functions_at : goal.decreases-closing::functions_at
decreases-closing::functions_at l = 3 + length (words_of (map pure_attr l.attrs.now)) + weights (exs_of (within (map pure_attr l.attrs.now))) + weight_dom (pure_dom l.from.now) + weight_dom (pure_dom l.to.now)

abbrev pub decreases-closing::closeds_at : goal.decreases-closing::closeds_at
decreases-closing::closeds_at l = 2 + weight_doms (pure_doms l.doms.now)

abbrev pub decreases-closing::add_closeds : goal.decreases-closing::add_closeds
decreases-closing::add_closeds l = 1 + weight_doms (pure_doms l.doms.now)

abbrev pub decreases-closing::fields_at : goal.decreases-closing::fields_at
decreases-closing::fields_at l = 2 + weight_doms (doms_of (field_values (map pure_field_dom l.fields.now)))

abbrev pub decreases-closing::add_fields : goal.decreases-closing::add_fields
decreases-closing::add_fields l = 1 + weight_doms (doms_of (field_values (map pure_field_dom l.fields.now)))

abbrev pub decreases-numbering::spans_at : goal.decreases-numbering::spans_at
decreases-numbering::spans_at l = 2 + length (words_of (map pure_range l.ranges.now)) + weights (exs_of (within (map pure_range l.ranges.now)))

abbrev pub decreases-numbering::add_spans : goal.decreases-numbering::add_spans
decreases-numbering::add_spans l = 1 + length (words_of (map pure_range l.ranges.now)) + weights (exs_of (within (map pure_range l.ranges.now)))

abbrev pub decreases-numbering::attributes_at : goal.decreases-numbering::attributes_at
decreases-numbering::attributes_at l = 2 + length (words_of (map pure_attr l.attrs.now)) + weights (exs_of (within (map pure_attr l.attrs.now)))

abbrev pub decreases-numbering::add_attributes : goal.decreases-numbering::add_attributes
decreases-numbering::add_attributes l = 1 + length (words_of (map pure_attr l.attrs.now)) + weights (exs_of (within (map pure_attr l.attrs.now)))

abbrev pub decreases-evaluating::call_at : goal.decreases-evaluating::call_at
decreases-evaluating::call_at l = 3 + weights (pure_exs l.args.now)

abbrev pub decreases-evaluating::call_one : goal.decreases-evaluating::call_one
decreases-evaluating::call_one l = 2 + weight (pure_ex l.a.now)

abbrev pub decreases-evaluating::call_two : goal.decreases-evaluating::call_two
decreases-evaluating::call_two l = 2 + weight (pure_ex l.a.now) + weight (pure_ex l.b.now)

abbrev pub decreases-operands::unnamed_at : goal.decreases-operands::unnamed_at
decreases-operands::unnamed_at l = 1 + weight (pure_ex l.ex.now)

abbrev pub decreases-generating::word_over : goal.decreases-generating::word_over
decreases-generating::word_over l = 3 + weight (pure_ex l.item.now) + weight_gens (pure_gens l.gens.now)

abbrev pub decreases-generating::runs_numbers : goal.decreases-generating::runs_numbers
decreases-generating::runs_numbers l =
    8 + weight (pure_ex l.item.now) + length (words_of (map pure_range l.ranges.now))
    + weights (exs_of (within (map pure_range l.ranges.now))) + weight_gens (pure_gens l.rest.now)

abbrev pub decreases-generating::numbers_at : goal.decreases-generating::numbers_at
decreases-generating::numbers_at l =
    3 + length (words_of (map pure_range l.ranges.now)) + weights (exs_of (within (map pure_range l.ranges.now)))

abbrev pub decreases-sweeping::sweep_name : goal.decreases-sweeping::sweep_name
decreases-sweeping::sweep_name l = 4 + weight (pure_ex l.item.now) + weight_gens (pure_gens l.rest.now)

abbrev pub decreases-sweeping::sweep_numbers : goal.decreases-sweeping::sweep_numbers
decreases-sweeping::sweep_numbers l = 4 + weight (pure_ex l.item.now) + weight_gens (pure_gens l.rest.now)

abbrev pub decreases-sweeping::sweep_parts : goal.decreases-sweeping::sweep_parts
decreases-sweeping::sweep_parts l = 4 + weight (pure_ex l.item.now) + weight_gens (pure_gens l.rest.now)

abbrev pub decreases-sweeping::turn : goal.decreases-sweeping::turn
decreases-sweeping::turn l = 3 + weight (pure_ex l.item.now) + weight_gens (pure_gens l.rest.now)

-- What is left to take gives the same in the end.
abbrev pub invariant-sweeping::sweep_parts-loop-val : goal.invariant-sweeping::sweep_parts-loop-val
invariant-sweeping::sweep_parts-loop-val l = record {
  bound_same : l.bound ≡ l.initial.bound;
  left : option_map (folded (pure_fold l.fold))
      (swept (pure_ex l.item) (pure_pat l.pat) (map pure_val (drop l.val-index l.vals))
      (map pure_gen l.rest) (env_at l.env l.initial.bound))
      ≡ option_map (folded (pure_fold l.initial.fold))
      (swept (pure_ex l.item) (pure_pat l.pat) (map pure_val l.vals) (map pure_gen l.rest) (env_at l.env l.initial.bound));
  large_left : large_swept (pure_ex l.item) (pure_pat l.pat) (map pure_val (drop l.val-index l.vals))
      (map pure_gen l.rest) (env_at l.env l.initial.bound) ≡ true
      → large_swept (pure_ex l.item) (pure_pat l.pat) (map pure_val l.vals) (map pure_gen l.rest) (env_at l.env l.initial.bound) ≡ true;
}

abbrev pub invariant-sweeping::sweep_numbers-loop-number : goal.invariant-sweeping::sweep_numbers-loop-number
invariant-sweeping::sweep_numbers-loop-number l = record {
  bound_same : l.bound ≡ l.initial.bound;
  named : l.own ≡ l.name;
  left : option_map (folded (pure_fold l.fold))
      (swept (pure_ex l.item) (name_pat l.name) (map number (drop l.number-index l.numbers))
      (map pure_gen l.rest) (env_at l.env l.initial.bound))
      ≡ option_map (folded (pure_fold l.initial.fold))
      (swept (pure_ex l.item) (name_pat l.name) (map number l.numbers) (map pure_gen l.rest) (env_at l.env l.initial.bound));
  large_left : large_swept (pure_ex l.item) (name_pat l.name) (map number (drop l.number-index l.numbers))
      (map pure_gen l.rest) (env_at l.env l.initial.bound) ≡ true
      → large_swept (pure_ex l.item) (name_pat l.name) (map number l.numbers) (map pure_gen l.rest) (env_at l.env l.initial.bound) ≡ true;
}

abbrev pub invariant-sweeping::sweep_name-loop-val : goal.invariant-sweeping::sweep_name-loop-val
invariant-sweeping::sweep_name-loop-val l = record {
  bound_same : l.bound ≡ l.initial.bound;
  named : l.own ≡ l.name;
  left : option_map (folded (pure_fold l.fold))
      (swept (pure_ex l.item) (name_pat l.name) (map pure_val (reverse l.left)) (map pure_gen l.rest) (env_at l.env l.initial.bound))
      ≡ option_map (folded (pure_fold l.initial.fold))
      (swept (pure_ex l.item) (name_pat l.name) (map pure_val l.fn.vals) (map pure_gen l.rest) (env_at l.env l.initial.bound));
  large_left : large_swept (pure_ex l.item) (name_pat l.name) (map pure_val (reverse l.left))
      (map pure_gen l.rest) (env_at l.env l.initial.bound) ≡ true
      → large_swept (pure_ex l.item) (name_pat l.name) (map pure_val l.fn.vals) (map pure_gen l.rest) (env_at l.env l.initial.bound) ≡ true;
}

abbrev pub decreases-sweeping::sweep_name-loop-val : goal.decreases-sweeping::sweep_name-loop-val
decreases-sweeping::sweep_name-loop-val l = length l.left
