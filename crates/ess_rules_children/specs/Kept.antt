-- Domains of children of values that are kept as another value, and the terms that operators on them ask.
use Rattle.std.specs.Prelude.{false, Option, Some, None}
use Rattle.ess_semantics.specs.declared.words.Fun.{Fun}
use Rattle.ess_semantics.specs.declared.words.ReprKind.{ReprKind}
use Rattle.ess_semantics.specs.Trees.{Ex, fun1, Dom, function_dom, relation_dom, partition_dom}
use Rattle.ess_repr_laws.specs.StructureParts.{tuple_set_dom}
use Rattle.ess_repr_laws.specs.ViewParts.{pair_relation_dom, part_set_dom}
use Rattle.ess_repr_declare_laws.specs.SizeTerms.{size_terms}

-- ---- domains

-- The set of a relation's tuples.
abbrev pub tuples_of : Dom → Option Dom
tuples_of (relation_dom ms es ds) = Some (tuple_set_dom ms es ds)
tuples_of d = None

-- The relation of a function's pairs.
abbrev pub pairs_of : Dom → Option Dom
pairs_of (function_dom ms es d c) = Some (pair_relation_dom size_terms ms es d c)
pairs_of d = None

-- The set of a partition's parts.
abbrev pub parts_of : Dom → Option Dom
parts_of (partition_dom ms es d) = Some (part_set_dom size_terms ms es d)
parts_of d = None

-- The domain of the child, where the kind is one of these for the domain.
abbrev pub kept_dom : ReprKind → Dom → Option Dom
kept_dom ReprKind.RelationAsSet d = tuples_of d
kept_dom ReprKind.FunctionAsRelation d = pairs_of d
kept_dom ReprKind.PartitionAsSet d = parts_of d
kept_dom k d = None

-- ---- what is asked

-- What stands behind `toRelation`, or the term itself.
abbrev pub behind_relation : Ex → Ex
behind_relation (fun1 false Fun.ToRelation v) = v
behind_relation e = e

-- The same by a function word on one operand, where there is one.
abbrev pub behind_relation_word : Ex → Option (Fun × Ex) → Ex
behind_relation_word e (Some (Fun.ToRelation, v)) = v
behind_relation_word e o = e

-- What stands behind `parts`, or the term itself.
abbrev pub behind_parts : Ex → Ex
behind_parts (fun1 false Fun.Parts v) = v
behind_parts e = e

-- The same by a function word on one operand, where there is one.
abbrev pub behind_parts_word : Ex → Option (Fun × Ex) → Ex
behind_parts_word e (Some (Fun.Parts, v)) = v
behind_parts_word e o = e
