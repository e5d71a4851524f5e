use Rattle.std.proofs.Common.{◌≡◌, true, false, map}
use Rattle.ess_semantics.specs.Values.{from_of}
use Rattle.ess_core.specs.ValueViews.{pure_pair}
use Rattle.ess_values.specs.Neighbours.{neighbours_differ}
use Rattle.ess_values.proofs.Arguments.{function_there, double_there}
use Rattle.ess_values.proofs.functions.function_of.Goals as goal

pub returns-then-not-arguments_differ-clause-double : goal.returns-then-not-arguments_differ-clause-double
returns-then-not-arguments_differ-clause-double c =
    let seen = c.as_slice.ensures in let apart = c.arguments_differ.ensures in let yes = c.if-not-arguments_differ.true in
    let near : neighbours_differ (map from_of (map pure_pair c.in_ok-pairs.pairs)) ≡ false = cc in
    λ e. double_there (map pure_pair c.args.pairs) c.in_ok-pairs.pairs c.in_ok-pairs.ensures near

pub returns-clause-ok : goal.returns-clause-ok
returns-clause-ok c =
    let seen = c.as_slice.ensures in let apart = c.arguments_differ.ensures in let yes = c.if-not-arguments_differ.false in
    let near : neighbours_differ (map from_of (map pure_pair c.in_ok-pairs.pairs)) ≡ true = cc in
    function_there (map pure_pair c.args.pairs) c.in_ok-pairs.pairs c.in_ok-pairs.ensures near
