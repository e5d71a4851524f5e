-- Each rule of generators by the parts of the comprehension.
use Rattle.std.proofs.Common.{◌≡◌, refl, List}
use Rattle.ess_semantics.specs.Lists.{and_then}
use Rattle.ess_semantics.specs.Values.{Text}
use Rattle.ess_semantics.specs.Trees.{name_pat, tuple_pat, Ex, comp_ex, over, from, tuple_dom}
use Rattle.ess_rules_laws.specs.SpliceRules.{splice}
use Rattle.ess_rules_laws.specs.SplitRules.{split}
use Rattle.ess_rules_laws.specs.TupleNames.{name_over_tuple}
use Rattle.ess_rules_folds.specs.Forms.{comp_parts}
use Rattle.ess_rules_generators.specs.GeneratorParts.{spliced, split_made, tuple_made}

-- Over a comprehension.
pub splice_by_parts : (e : Ex) → splice e ≡ and_then (comp_parts e) spliced
splice_by_parts (comp_ex e (from (name_pat y) (comp_ex h ks) hs)) = refl
splice_by_parts e = refl

-- A pattern over a tuple of domains.
pub split_by_parts : (e : Ex) → split e ≡ and_then (comp_parts e) split_made
split_by_parts (comp_ex e (over (tuple_pat ps) (tuple_dom ds) hs)) = refl
split_by_parts e = refl

-- A name over one.
pub tuple_by_parts : (ys : List Text) (e : Ex) → name_over_tuple ys e ≡ and_then (comp_parts e) (tuple_made ys)
tuple_by_parts ys (comp_ex e (over (name_pat x) (tuple_dom ds) hs)) = refl
tuple_by_parts ys e = refl
