-- What type soundness asks of each part of a judged tree: what the judgement of types asks, and that the tuples of a relation
-- literal have parts, as they have in each text.
use Rattle.std.specs.Prelude.{Bool, true, ◌&&◌}
use Rattle.ess_semantics.specs.Trees.{Ex, node_ex}
use Rattle.ess_semantics.specs.Typing.{types_of}
use Rattle.ess_semantics.specs.Scopes.{Scope, Asked, asking}
use Rattle.ess_semantics.specs.DomainJudgements.{dom_fits}
use Rattle.ess_semantics.specs.ExpressionJudgements.{ex_fits, pattern_fits}
use Rattle.ess_types_laws.specs.WellBound.{tuples_have_parts}

-- The tuples of a relation literal have parts.
abbrev pub relation_has_parts : Ex → Scope → Bool
relation_has_parts (node_ex b op es) s = tuples_have_parts op (types_of es s.tys)
relation_has_parts e s = true

-- What is asked of each part.
abbrev pub sound_parts : Asked
sound_parts = record asking { of_ex = λ e s. ex_fits e s && relation_has_parts e s; of_dom = dom_fits; of_pattern = λ p t s. pattern_fits p t }
