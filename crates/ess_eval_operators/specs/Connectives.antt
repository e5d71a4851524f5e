-- The connectives among the operators on two operands.
use Rattle.std.specs.Prelude.{Bool, true, false, ◌&&◌, ◌||◌}
use Rattle.ess_semantics.specs.declared.words.Op2.{Op2}
use Rattle.ess_semantics.specs.Operators.{implies, iff}

-- Whether the operator connects two truth values.
abbrev pub connects : Op2 → Bool
connects Op2.And = true
connects Op2.Or = true
connects Op2.Implies = true
connects Op2.Iff = true
connects _ = false

-- What a connective makes of two truth values.
abbrev pub connected : Op2 → Bool → Bool → Bool
connected Op2.And a b = a && b
connected Op2.Or a b = a || b
connected Op2.Implies a b = implies a b
connected Op2.Iff a b = iff a b
connected _ a b = false
