-- Conditions that hold.
use Rattle.std.specs.Prelude.{◌≡◌, true, List, [], ◌∷◌}
use Rattle.ess_semantics.specs.Trees.{Ex}
use Rattle.ess_semantics.specs.Operators.{as_truth}
use Rattle.ess_semantics.specs.Meaning.{Env, meaning}

-- Each condition holds.
abbrev pub Hold : List Ex → Env → Type 0
Hold [] env = Unit {0}
Hold (c ∷ cs) env = (as_truth (meaning c env) ≡ true) × Hold cs env
