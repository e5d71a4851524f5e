-- The sides of files: those of parameters and those of solutions.
use Rattle.ess_semantics.specs.Plans as pure
use Rattle.ess_semantics.specs.Plans.{givens_side, finds_side}
use Rattle.ess_translate.specs.declared.side.Side.{Side}
use Rattle.ess_translate.specs.declared.side.Side.TheVariants.{Givens, Finds}

-- The side that one stands for.
abbrev pub pure_side : Side → pure.Side
pure_side Givens = givens_side
pure_side Finds = finds_side
