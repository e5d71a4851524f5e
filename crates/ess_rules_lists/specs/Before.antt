-- Operands behind others.
use Rattle.std.specs.Prelude.{List, [], ◌∷◌}
use Rattle.ess_semantics.specs.Trees.{Ex, Exs, more_exs}

-- The operands with these before them.
abbrev pub exs_before : List Ex → Exs → Exs
exs_before [] es = es
exs_before (x ∷ xs) es = more_exs x (exs_before xs es)
