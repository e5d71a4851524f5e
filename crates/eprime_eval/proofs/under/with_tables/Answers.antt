use Rattle.std.proofs.Common.{◌++◌, map}
use Rattle.ess_core.specs.TableViews.{pure_named_table}
use Rattle.eprime_eval.proofs.Unders.{is_under}
use Rattle.eprime_eval.proofs.under.with_tables.Goals as goal

pub returns : goal.returns
returns c =
    is_under (record { shapes = c.in_ok-shapes.shapes; known = c.in_ok-known.known }) (c.args.givens.now ++ c.args.finds.now)
    (map pure_named_table (c.args.given.now ++ c.args.found.now)) c.in_ok-known.ensures.known c.in_ok-known.ensures.names c.in_ok-known.ensures.cells
    c.in_ok-shapes.ensures
