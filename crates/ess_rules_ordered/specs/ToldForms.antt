-- Domains that are looked through, and the domain that a term follows by its operator and its operands.
use Rattle.std.specs.Prelude.{List, [], ◌∷◌, Option, Some, None}
use Rattle.ess_semantics.specs.declared.words.Fun.{Fun}
use Rattle.ess_semantics.specs.Trees.{Step, by_value, to_component, to_field, Op, index, application, word, Exs, no_exs, more_exs, Dom}
use Rattle.ess_semantics.specs.Trees.{Doms, matrix_dom}
use Rattle.ess_core_nodes.specs.NodeViews.{pure_dom, pure_doms}
use Rattle.ess_ordered_laws.specs.ToldAxes.{results_of, component_dom, field_dom, items_dom, dom_told}
use Rattle.ess_rules_ordered.specs.declared.told.Told.{Told}

-- The domain that a domain which is looked through stands for.
abbrev pub pure_told : Told → Dom
pure_told (Told.Whole d) = pure_dom d.now
pure_told (Told.Matrix is d) = matrix_dom (pure_doms is.now) (pure_dom d.now)

-- The index domains of a domain of matrices, and the domain of the items.
abbrev pub matrix_parts : Option Dom → Option (Doms × Dom)
matrix_parts (Some (matrix_dom is d)) = Some (is, d)
matrix_parts o = None

-- ---- the domain that a term follows

-- That of the only operand, and of the first of two.
abbrev pub told_of_one : Exs → Option Dom
told_of_one (more_exs t no_exs) = dom_told t
told_of_one es = None

abbrev pub told_of_two : Exs → Option Dom
told_of_two (more_exs t (more_exs a no_exs)) = dom_told t
told_of_two es = None

-- The only step.
abbrev pub only_step : List Step → Option Step
only_step (q ∷ []) = Some q
only_step qs = None

-- What a step picks.
abbrev pub told_by : Step → Exs → Option Dom
told_by by_value es = items_dom (told_of_two es)
told_by (to_component k) es = component_dom k (told_of_one es)
told_by (to_field a) es = field_dom a (told_of_one es)

-- What an operator picks.
abbrev pub told_at : Op → Exs → Option Dom
told_at application es = results_of (told_of_two es)
told_at (word Fun.Image) es = results_of (told_of_two es)
told_at (index (q ∷ [])) es = told_by q es
told_at o es = None
