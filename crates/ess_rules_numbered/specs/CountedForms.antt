-- An item of a list by its number, and a sign between two sides.
use Rattle.std.specs.Prelude.{Bool, true, [], ◌∷◌, Option, option_map}
use Rattle.ess_semantics.specs.declared.words.Op2.{Op2}
use Rattle.ess_semantics.specs.Lists.{or_else}
use Rattle.ess_semantics.specs.Names.{Names}
use Rattle.ess_semantics.specs.Trees.{by_value, index, Ex, node_ex, no_exs, more_exs, ex2}
use Rattle.ess_semantics.specs.Types.{Ty}
use Rattle.ess_refine_laws.specs.AllRules.{Supply}
use Rattle.ess_numbered_laws.specs.CountedSources.{numbered_side}

-- The item of a list at an index.
abbrev pub item_at : Bool → Ex → Ex → Ex
item_at b c i = node_ex b (index (by_value ∷ [])) (more_exs c (more_exs i no_exs))

-- A sign between two sides, the first of which is put by its numbers, else the second.
abbrev pub within_sides : Supply → Names Ty → Op2 → Ex → Ex → Option Ex
within_sides s g o a b =
    or_else (option_map (λ c. ex2 true o c b) (numbered_side s g a)) (option_map (λ c. ex2 true o a c) (numbered_side s g b))
