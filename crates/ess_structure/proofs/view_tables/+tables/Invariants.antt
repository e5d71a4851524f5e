use Rattle.std.proofs.Common.{◌≡◌, ◌-◌, ◌++◌, drop, length}
use Rattle.ess_structure_terms.specs.ShapeViews.{pure_shapes}
use Rattle.ess_structure.proofs.ComponentSteps.{tables_from}
use Rattle.ess_structure.proofs.view_tables.+tables.Given as goal

abbrev pub invariant-tables_of_each-loop-i : goal.invariant-tables_of_each-loop-i
invariant-tables_of_each-loop-i l =
    pure_shapes l.all ++ tables_from (drop l.i l.children) (drop l.i l.parts) l.rest ≡ tables_from l.children l.parts l.names

abbrev pub decreases-tables_of_each-loop-i : goal.decreases-tables_of_each-loop-i
decreases-tables_of_each-loop-i l = length l.children - l.i
