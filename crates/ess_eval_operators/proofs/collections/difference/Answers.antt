use Rattle.std.proofs.Common.{ap, ◌∙◌, map, not}
use Rattle.std.specs.Prelude.{filter}
use Rattle.ess_semantics.specs.Collections.{holds}
use Rattle.ess_semantics.specs.Values.{items_of}
use Rattle.ess_core.specs.ValueViews.{pure_val}
use Rattle.ess_eval_operators.proofs.Differences.{less_tuple, less_set, less_mset, less_relation, less_partition}
use Rattle.ess_eval_operators.proofs.collections.difference.Goals as goal

pub returns-in_ok-less-in-Tuple-clause-ok : goal.returns-in_ok-less-in-Tuple-clause-ok
returns-in_ok-less-in-Tuple-clause-ok c =
    less_tuple c.args.a.now (pure_val c.args.b.now) c.in-Tuple.parts c.in_ok-less-in-Tuple.field-0 c.in-Tuple.is
    (c.in_ok-less-in-Tuple.ensures
    ∙ ap (λ l. filter (λ x. not (holds (items_of (pure_val c.args.b.now)) x)) (map pure_val l)) c.as_slice.ensures)

pub returns-in_ok-less-in-Set-clause-ok : goal.returns-in_ok-less-in-Set-clause-ok
returns-in_ok-less-in-Set-clause-ok c =
    less_set c.args.a.now (pure_val c.args.b.now) c.in-Set.members c.in_ok-less-in-Set.field-0 c.in-Set.is
    (c.in_ok-less-in-Set.ensures
    ∙ ap (λ l. filter (λ x. not (holds (items_of (pure_val c.args.b.now)) x)) (map pure_val l)) c.as_slice-in-Set.ensures)

pub returns-in_ok-less-in-MSet-clause-ok : goal.returns-in_ok-less-in-MSet-clause-ok
returns-in_ok-less-in-MSet-clause-ok c =
    less_mset c.args.a.now (pure_val c.args.b.now) c.in-MSet.members c.in_ok-less-in-MSet.field-0 c.in-MSet.is
    (c.in_ok-less-in-MSet.ensures
    ∙ ap (λ l. filter (λ x. not (holds (items_of (pure_val c.args.b.now)) x)) (map pure_val l)) c.as_slice-in-MSet.ensures)

pub returns-in_ok-less-in-Relation-clause-ok : goal.returns-in_ok-less-in-Relation-clause-ok
returns-in_ok-less-in-Relation-clause-ok c =
    less_relation c.args.a.now (pure_val c.args.b.now) c.in-Relation.tuples c.in_ok-less-in-Relation.field-0 c.in-Relation.is
    (c.in_ok-less-in-Relation.ensures
    ∙ ap (λ l. filter (λ x. not (holds (items_of (pure_val c.args.b.now)) x)) (map pure_val l)) c.as_slice-in-Relation.ensures)

pub returns-in_ok-less-in-Partition-clause-ok : goal.returns-in_ok-less-in-Partition-clause-ok
returns-in_ok-less-in-Partition-clause-ok c =
    less_partition c.args.a.now (pure_val c.args.b.now) c.in-Partition.parts c.in_ok-less-in-Partition.field-0 c.in-Partition.is
    (c.in_ok-less-in-Partition.ensures
    ∙ ap (λ l. filter (λ x. not (holds (items_of (pure_val c.args.b.now)) x)) (map pure_val l)) c.as_slice-in-Partition.ensures)
