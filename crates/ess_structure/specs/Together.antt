-- Constraints one behind the other.
use Rattle.std.specs.Prelude.{List, [], ◌∷◌}
use Rattle.ess_semantics.specs.Trees.{Ex}
use Rattle.ess_repr_laws.specs.StructureParts.{and_ex}

-- All of these hold, and the last one.
abbrev pub together : List Ex → Ex → Ex
together [] t = t
together (e ∷ es) t = and_ex e (together es t)
