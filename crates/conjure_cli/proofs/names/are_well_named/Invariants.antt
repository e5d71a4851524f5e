use Rattle.std.proofs.Common.{◌≡◌, ℕ, List, [], drop}
use Rattle.conjure_cli.specs.Reading.{fit_from}
use Rattle.conjure_cli.specs.Lines.{statements, Holds}
use Rattle.conjure_cli.proofs.names.are_well_named.Given as goal

abbrev pub invariant-loop-line : goal.invariant-loop-line
invariant-loop-line l = (names : List (List ℕ)) × Holds l.known names
    × (fit_from [] (statements l.lines) ≡ fit_from names (statements (drop l.line-index l.lines)))
