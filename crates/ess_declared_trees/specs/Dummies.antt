-- Bounds of an atom with its dummy behind them.
use Rattle.std.specs.Prelude.{Bool, true, false, [], ◌∷◌}
use Rattle.ess_semantics.specs.Trees.{one_value, both_ends, Exs, no_exs, more_exs, Dom, int_dom}
use Rattle.ess_repr_laws.specs.StructureParts.{add_ex}
use Rattle.ess_repr_declare_laws.specs.SizeTerms.{dummy_ex}

-- Whether there are two terms.
abbrev pub is_pair : Exs → Bool
is_pair (more_exs a (more_exs b no_exs)) = true
is_pair _ = false

-- From the one of these bounds to the other one, and the dummy of the domain d.
abbrev pub dummy_beside : Exs → Dom → Dom
dummy_beside es d = int_dom (both_ends ∷ one_value ∷ []) (add_ex es (dummy_ex d))
