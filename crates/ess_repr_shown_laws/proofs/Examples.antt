-- Worked examples: a set of values of a named type.
use Rattle.std.proofs.Common.{◌≡◌, refl, true, [], ◌∷◌, pos}
use Rattle.std.specs.Prelude.{codes}
use Rattle.ess_semantics.specs.declared.words.ReprKind.{ReprKind}
use Rattle.ess_semantics.specs.Trees.{Repr, repr, no_reprs, number_ex, no_exs, Dom, name_dom, set_dom}
use Rattle.ess_semantics.specs.Kinds.{fits}
use Rattle.ess_repr_laws.specs.StructureParts.{upto}
use Rattle.conjure_model_laws.specs.Shown.{Shows, shows_nothing, shown_dom}

-- The type T has three values.
abbrev of_three : Shows
of_three = record shows_nothing { sizes = (codes "T", number_ex (pos 3)) ∷ [] }

-- `set of T`
abbrev sets_of : Dom
sets_of = set_dom [] no_exs (name_dom (codes "T"))

abbrev occurring : Repr
occurring = repr ReprKind.Occurrence no_reprs

pub of-sets : shown_dom of_three sets_of ≡ set_dom [] no_exs (upto (number_ex (pos 3)))
of-sets = refl

pub of-sets-fit : fits occurring (shown_dom of_three sets_of) ≡ true
of-sets-fit = refl
