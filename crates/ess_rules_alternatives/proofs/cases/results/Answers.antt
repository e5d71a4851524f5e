use Rattle.std.proofs.Common.{[], ap, ◌∙◌, map, reverse}
use Rattle.ess_core_nodes.specs.NodeViews.{pure_node, pure_nodes}
use Rattle.ess_rules_laws.specs.AlternativeLookups.{first_results}
use Rattle.ess_rules_alternatives.specs.Cases.{case_of}
use Rattle.ess_rules_alternatives.proofs.CaseRows.{results_more}
use Rattle.ess_rules_alternatives.proofs.cases.results.Goals as goal

-- One more result.
pub loop-pair-preserved : goal.loop-pair-preserved
loop-pair-preserved c =
    results_more c.loop-pair.all c.push.new.self c.in_ok-one-in-Some-tuple_pair.one c.loop-pair.before
    c.push-in-Some-tuple_pair.new.self c.into_inner.result (pure_node c.args.term.now) (pure_node c.in-Some-tuple_pair.argument.now)
    (pure_node c.in-Some-tuple_pair.value.now) c.in-Some.pair.now c.in-Some.behind.now c.loop-pair.rest.now
    (first_results [] (pure_node c.args.term.now) (pure_nodes c.args.pairs.now))
    c.in_ok-push-in-Some-tuple_pair.ensures.ok c.in_ok-push-in-Some-tuple_pair-2.ensures.ok c.in-Some.ensures.cases.0
    c.in-Some-tuple_pair.ensures
    (c.in_ok-one-in-Some-tuple_pair.ensures
    ∙ ap (λ ns. case_of (reverse (map pure_node ns)) (pure_node c.args.term.now) (pure_node c.in-Some-tuple_pair.argument.now)
    (pure_node c.in-Some-tuple_pair.value.now)) c.as_slice.ensures)
    (ap pure_node (c.into_inner.ensures ∙ c.in_ok-copy-in-Some-tuple_pair.ensures)) c.loop-pair.invariant
