use Rattle.std.proofs.Common.{◌≡◌, drop}
use Rattle.ess_semantics.specs.Cells.{order_rows}
use Rattle.ess_repr_rows_laws.specs.SlotOrder.{rows_in}
use Rattle.ess_repr_tables.specs.SlotViews.{pure_tables}
use Rattle.ess_repr_tables.proofs.ordering.order_tables.Given as goal

abbrev pub invariant-loop-k : goal.invariant-loop-k
invariant-loop-k l =
    order_rows (rows_in (pure_tables l.a)) (rows_in (pure_tables l.b)) ≡
    order_rows (rows_in (pure_tables (drop l.k l.a))) (rows_in (pure_tables (drop l.k l.b)))
