-- The family of a domain: whose layers it has.
use Rattle.ess_semantics.specs.Domains.{Domain, booleans, integers, named, tuples, records, matrices, sets, msets, functions, relations, partitions}
use Rattle.ess_translate_layers.specs.declared.families.Family.{Family}
use Rattle.ess_translate_layers.specs.declared.families.Family.TheVariants as variant

abbrev pub family_of : Domain → Family
family_of booleans = variant.Scalars
family_of (integers ss) = variant.Scalars
family_of (named t n) = variant.Scalars
family_of (matrices is d) = variant.Scalars
family_of (sets ks d) = variant.Collections
family_of (msets ks d) = variant.Collections
family_of (functions ks d c) = variant.Functions
family_of (relations ks ds) = variant.Relations
family_of (partitions ks d) = variant.Relations
family_of (tuples ds) = variant.Compounds
family_of (records fs ds) = variant.Compounds
