-- Whether the domains can be listed that attributes list, kind by kind.
use Rattle.std.specs.Prelude.{Bool, true, not, ◌&&◌, ◌||◌, List}
use Rattle.ess_semantics.specs.declared.words.Key.{Key}
use Rattle.ess_semantics.specs.Trees.{Mark, Dom, Doms, no_doms, more_doms}
use Rattle.ess_semantics.specs.Kinds.{has_key}
use Rattle.ess_semantics.specs.DomainJudgements.{is_enumerable}

-- Those of a function: its arguments where it is total, its values where each of them is one.
abbrev pub function_is_listable : List Mark → Dom → Dom → Bool
function_is_listable ms d c =
    (not (has_key Key.Total ms) || is_enumerable d) && (not (has_key Key.Surjective ms || has_key Key.Bijective ms) || is_enumerable c)

-- The members of the first domain can be listed, where there is one.
abbrev pub first_is_enumerable : Doms → Bool
first_is_enumerable no_doms = true
first_is_enumerable (more_doms d ds) = is_enumerable d

-- That of a relation: its first domain, where it is reflexive.
abbrev pub relation_is_listable : List Mark → Doms → Bool
relation_is_listable ms ds = not (has_key Key.Reflexive ms) || first_is_enumerable ds
