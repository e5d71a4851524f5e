-- The domains of several domain expressions as lists.
use Rattle.std.specs.Prelude.{List, [], ◌∷◌, Option, Some, option_map}
use Rattle.ess_semantics.specs.Lists.{and_then}
use Rattle.ess_semantics.specs.Names.{Names}
use Rattle.ess_semantics.specs.Trees.{Dom}
use Rattle.ess_semantics.specs.Domains.{Domain}
use Rattle.ess_semantics.specs.Meaning.{Env, domain_of}

-- The domains, where each has one.
abbrev pub listed_domains : List Dom → Env → Option (List Domain)
listed_domains [] env = Some []
listed_domains (d ∷ ds) env = and_then (domain_of d env) (λ x. option_map (λ xs. x ∷ xs) (listed_domains ds env))

-- The fields of a record, where each has a domain.
abbrev pub listed_fields : Names Dom → Env → Option (Names Domain)
listed_fields [] env = Some []
listed_fields (f ∷ fs) env = and_then (domain_of f.1 env) (λ x. option_map (λ xs. (f.0, x) ∷ xs) (listed_fields fs env))
