use Rattle.ess_types_judging.proofs.DeeperLemmas.{on_gens}
use Rattle.ess_types_judging.proofs.IndexLemmas.{on_steps}
use Rattle.ess_types_judging.proofs.NumberLemmas.{on_attrs, on_ranges, on_doms, on_field_doms}
use Rattle.ess_types_judging.proofs.RowLemmas.{on_exs, on_fields, on_pairs}
use Rattle.ess_types_judging.specs.Findings.{pure_operands, pure_found}
use Rattle.ess_types_judging.specs.Indexing.{pure_reached}
use Rattle.ess_types_judging.specs.Judging.{pure_gathered, pure_numbers}
use Rattle.ess_types_judging.specs.ScopeViews.{pure_scope, Deeper}
use Rattle.ess_types_judging_laws.specs.Accumulated.{no_number}
use Rattle.ess_types_judging_laws.specs.Combined.{nothing_gathered}
use Rattle.ess_types_judging_laws.specs.Found.{all_well}
use Rattle.std.proofs.Common.{◌≡◌, drop}
use Rattle.ess_types_judging.proofs.+judge.Given as goal

abbrev pub invariant-expressions::judge_operands-loop-i : goal.invariant-expressions::judge_operands-loop-i
invariant-expressions::judge_operands-loop-i l =
    (on_exs l.exs (pure_scope l.initial.scope) (pure_operands l.initial.operands)
    ≡ on_exs (drop l.i l.exs) (pure_scope l.initial.scope) (pure_operands l.operands))
    × (l.scope ≡ l.initial.scope)

abbrev pub invariant-expressions::judge_values-loop-i : goal.invariant-expressions::judge_values-loop-i
invariant-expressions::judge_values-loop-i l =
    (on_fields l.fields (pure_scope l.initial.scope) (pure_operands l.initial.operands)
    ≡ on_fields (drop l.i l.fields) (pure_scope l.initial.scope) (pure_operands l.operands))
    × (l.scope ≡ l.initial.scope)

abbrev pub invariant-expressions::judge_pairs-loop-i : goal.invariant-expressions::judge_pairs-loop-i
invariant-expressions::judge_pairs-loop-i l =
    (on_pairs l.pairs (pure_scope l.initial.scope) (pure_operands l.initial.operands)
    ≡ on_pairs (drop l.i l.pairs) (pure_scope l.initial.scope) (pure_operands l.operands))
    × (l.scope ≡ l.initial.scope)

abbrev pub invariant-indices::judge_steps-loop-i : goal.invariant-indices::judge_steps-loop-i
invariant-indices::judge_steps-loop-i l =
    (on_steps (pure_reached l.initial.reached) l.steps (pure_scope l.initial.scope)
    ≡ on_steps (pure_reached l.reached) (drop l.i l.steps) (pure_scope l.initial.scope))
    × (l.scope ≡ l.initial.scope)

abbrev pub invariant-comprehensions::judge_gens-loop-i : goal.invariant-comprehensions::judge_gens-loop-i
invariant-comprehensions::judge_gens-loop-i l =
    (on_gens l.gens (nothing_gathered (pure_scope l.initial.scope))
    ≡ on_gens (drop l.i l.gens) (pure_gathered l.gathered (pure_scope l.scope)))
    × Deeper l.initial.scope l.scope

abbrev pub invariant-numbers::judge_attrs-loop-i : goal.invariant-numbers::judge_attrs-loop-i
invariant-numbers::judge_attrs-loop-i l =
    (on_attrs l.attrs (pure_scope l.initial.scope) no_number ≡ on_attrs (drop l.i l.attrs) (pure_scope l.initial.scope)
    (pure_numbers l.numbers))
    × (l.scope ≡ l.initial.scope)

abbrev pub invariant-numbers::judge_ranges-loop-i : goal.invariant-numbers::judge_ranges-loop-i
invariant-numbers::judge_ranges-loop-i l =
    (on_ranges l.ranges (pure_scope l.initial.scope) no_number
    ≡ on_ranges (drop l.i l.ranges) (pure_scope l.initial.scope) (pure_numbers l.numbers))
    × (l.scope ≡ l.initial.scope)

abbrev pub invariant-domains::judge_doms-loop-i : goal.invariant-domains::judge_doms-loop-i
invariant-domains::judge_doms-loop-i l =
    (on_doms l.doms (pure_scope l.initial.scope) all_well ≡ on_doms (drop l.i l.doms) (pure_scope l.initial.scope) (pure_found l.found))
    × (l.scope ≡ l.initial.scope)

abbrev pub invariant-domains::judge_fields-loop-i : goal.invariant-domains::judge_fields-loop-i
invariant-domains::judge_fields-loop-i l =
    (on_field_doms l.fields (pure_scope l.initial.scope) all_well
    ≡ on_field_doms (drop l.i l.fields) (pure_scope l.initial.scope) (pure_found l.found))
    × (l.scope ≡ l.initial.scope)
