-- Generators that are one name over a domain.
use Rattle.std.specs.Prelude.{if◌then◌else◌, Option, None, option_map}
use Rattle.ess_semantics.specs.Lists.{and_then}
use Rattle.ess_semantics.specs.Values.{Text}
use Rattle.ess_semantics.specs.Trees.{Gens, Dom}
use Rattle.ess_rules_folds.specs.Forms.{are_no_gens, pattern_name}
use Rattle.ess_rules_generators.specs.GeneratorParts.{over_parts}

-- A name over a domain, alone.
abbrev pub alone_over : Gens → Option (Text × Dom)
alone_over gs =
    and_then (over_parts gs) (λ o. if are_no_gens o.2 then option_map (λ x. (x, o.1)) (pattern_name o.0) else None)
