-- The one value that several answers agree on.
use Rattle.std.specs.Prelude.{List, [], ◌∷◌, Option, None}
use Rattle.std.specs.List.{list_all}
use Rattle.ess_semantics.specs.Lists.{and_then, when}
use Rattle.ess_semantics.specs.Values.{Value}
use Rattle.ess_semantics.specs.Plans.{same_value}

-- The first answer's value, where each of the others has the same. None where there is no answer.
abbrev pub agreed : List (Option Value) → Option Value
agreed [] = None
agreed (o ∷ os) = and_then o (λ v. when (list_all (same_value v) os) v)
