use Rattle.std.proofs.Common.{◌≡◌, ◌+◌, ◌++◌, true, drop, map, length, option_map}
use Rattle.ess_semantics.specs.Lists.{append_all}
use Rattle.eprime_tree.specs.Views.{exs_of, gens_of}
use Rattle.eprime_eval_kinds.specs.KindedViews.{pure_kex, pure_klist, pure_kgen, pure_kdom, pure_krange}
use Rattle.eprime_eval_scalars.specs.ScalarViews.{pure_scalar}
use Rattle.eprime_eval.specs.Environments.{env_at}
use Rattle.eprime_eval.specs.MemberViews.{member_values}
use Rattle.eprime_eval.specs.Items.{swept, large_swept}
use Rattle.eprime_eval.proofs.Weights.{weight, weights, weight_gens, weight_dom}
use Rattle.eprime_eval.proofs.+value.Given as goal

abbrev pub decreases-evaluating::value_at : goal.decreases-evaluating::value_at
decreases-evaluating::value_at l = weight (pure_kex l.known.now.names l.ex.now)

abbrev pub decreases-evaluating::operand_at : goal.decreases-evaluating::operand_at
decreases-evaluating::operand_at l = 1 + weight (pure_kex l.known.now.names l.ex.now)

abbrev pub decreases-evaluating::cell_at : goal.decreases-evaluating::cell_at
decreases-evaluating::cell_at l = 3 + weights (exs_of (map (pure_kex l.known.now.names) l.index.now))

abbrev pub decreases-evaluating::one_at : goal.decreases-evaluating::one_at
decreases-evaluating::one_at l = 1 + weight (pure_kex l.known.now.names l.a.now)

abbrev pub decreases-evaluating::list_of : goal.decreases-evaluating::list_of
decreases-evaluating::list_of l = 1 + weight (pure_klist l.known.now.names l.list.now)

abbrev pub decreases-evaluating::two_at : goal.decreases-evaluating::two_at
decreases-evaluating::two_at l = 2 + weight (pure_kex l.known.now.names l.a.now) + weight (pure_kex l.known.now.names l.b.now)

abbrev pub decreases-evaluating::fold_at : goal.decreases-evaluating::fold_at
decreases-evaluating::fold_at l = 1 + weight (pure_klist l.known.now.names l.list.now)

abbrev pub decreases-evaluating::lex_at : goal.decreases-evaluating::lex_at
decreases-evaluating::lex_at l = 2 + weight (pure_klist l.known.now.names l.a.now) + weight (pure_klist l.known.now.names l.b.now)

abbrev pub decreases-evaluating::list_at : goal.decreases-evaluating::list_at
decreases-evaluating::list_at l = weight (pure_klist l.known.now.names l.list.now)

abbrev pub decreases-evaluating::values_at : goal.decreases-evaluating::values_at
decreases-evaluating::values_at l = 1 + weights (exs_of (map (pure_kex l.known.now.names) l.exs.now))

abbrev pub decreases-ranging::number_at : goal.decreases-ranging::number_at
decreases-ranging::number_at l = 1 + weight (pure_kex l.known.now.names l.ex.now)

abbrev pub decreases-generating::runs : goal.decreases-generating::runs
decreases-generating::runs l = 2 + weight (pure_kex l.known.now.names l.item.now) + weight_gens (gens_of (map (pure_kgen l.known.now.names) l.gens.now))

abbrev pub decreases-generating::runs_over : goal.decreases-generating::runs_over
decreases-generating::runs_over l =
    5 + weight (pure_kex l.known.now.names l.item.now) + weight_dom (pure_kdom l.known.now.names l.dom.now) + weight_gens (gens_of (map (pure_kgen l.known.now.names) l.rest.now))

abbrev pub decreases-generating::domain_members : goal.decreases-generating::domain_members
decreases-generating::domain_members l = 1 + weight_dom (pure_kdom l.known.now.names l.dom.now)

abbrev pub decreases-generating::sweep : goal.decreases-generating::sweep
decreases-generating::sweep l = 4 + weight (pure_kex l.known.now.names l.item.now) + weight_gens (gens_of (map (pure_kgen l.known.now.names) l.rest.now))

abbrev pub decreases-generating::point : goal.decreases-generating::point
decreases-generating::point l = 3 + weight (pure_kex l.known.now.names l.item.now) + weight_gens (gens_of (map (pure_kgen l.known.now.names) l.rest.now))

abbrev pub decreases-ranging::closed_at : goal.decreases-ranging::closed_at
decreases-ranging::closed_at l = weight_dom (pure_kdom l.known.now.names l.dom.now)

abbrev pub decreases-ranging::add_ranges : goal.decreases-ranging::add_ranges
decreases-ranging::add_ranges l =
    1 + length (map (λ r. r.0) (map (pure_krange l.known.now.names) l.ranges.now)) + weights (exs_of (append_all (map (λ r. r.1) (map (pure_krange l.known.now.names) l.ranges.now))))

-- What is left to gather gives the same in the end.
abbrev pub invariant-generating::sweep-loop-place : goal.invariant-generating::sweep-loop-place
invariant-generating::sweep-loop-place l = record {
  bound_same : l.bound ≡ l.initial.bound;
  named : l.own ≡ l.name;
  left : option_map (λ xs. map pure_scalar l.items ++ xs)
      (swept (pure_kex l.known.names l.item) l.name (drop l.place (member_values l.vals)) (map (pure_kgen l.known.names) l.rest)
      (env_at l.known l.initial.bound))
      ≡ option_map (λ xs. map pure_scalar l.initial.items ++ xs)
      (swept (pure_kex l.known.names l.item) l.name (member_values l.vals) (map (pure_kgen l.known.names) l.rest)
      (env_at l.known l.initial.bound));
  large_left :
      large_swept (pure_kex l.known.names l.item) l.name (drop l.place (member_values l.vals)) (map (pure_kgen l.known.names) l.rest)
      (env_at l.known l.initial.bound) ≡ true
      → large_swept (pure_kex l.known.names l.item) l.name (member_values l.vals) (map (pure_kgen l.known.names) l.rest)
      (env_at l.known l.initial.bound) ≡ true;
}
