-- The runs that a list of runs stands for.
use Rattle.std.specs.Prelude.{List, map}
use Rattle.ess_grammar.specs.ValueTexts as pure
use Rattle.ess_values.specs.declared.runs.Run.{Run}

-- The pure run of a run.
abbrev pub pure_run : Run → pure.Run
pure_run r = (r.first, r.last)

-- The pure runs of several runs.
abbrev pub pure_runs : List Run → List pure.Run
pure_runs rs = map pure_run rs
