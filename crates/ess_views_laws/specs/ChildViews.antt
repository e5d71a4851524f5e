-- Values that are kept as another value: a relation as the set of its tuples, a function as the relation of its pairs, a partition as
-- the set of its parts. The view has the members of the child's, so that operators ask the child.
use Rattle.std.specs.Prelude.{true, false, List, [], ◌∷◌, Option, Some, None}
use Rattle.ess_semantics.specs.declared.words.Op1.{Op1}
use Rattle.ess_semantics.specs.declared.words.Op2.{Op2}
use Rattle.ess_semantics.specs.declared.words.Fun.{Fun}
use Rattle.ess_semantics.specs.declared.words.ReprKind.{ReprKind}
use Rattle.ess_semantics.specs.Lists.{and_then}
use Rattle.ess_semantics.specs.Values.{Text}
use Rattle.ess_semantics.specs.Trees.{repr, no_reprs, more_reprs, Ex, ex1, ex2, fun1, seen_ex, no_gens, function_dom, relation_dom, partition_dom}
use Rattle.ess_repr_laws.specs.StructureParts.{tuple_set_dom}
use Rattle.ess_repr_laws.specs.ViewParts.{pair_relation_dom, part_set_dom}
use Rattle.ess_repr_declare_laws.specs.SizeTerms.{size_terms}
use Rattle.ess_rules_laws.specs.Listings.{Alternative, those}

-- The view of the child.
abbrev pub kept_as : Ex → Option Ex
kept_as (seen_ex (repr ReprKind.RelationAsSet (more_reprs r no_reprs)) (relation_dom ms es ds) ns js) =
    Some (seen_ex r (tuple_set_dom ms es ds) ns js)
kept_as (seen_ex (repr ReprKind.FunctionAsRelation (more_reprs r no_reprs)) (function_dom ms es d c) ns js) =
    Some (seen_ex r (pair_relation_dom size_terms ms es d c) ns js)
kept_as (seen_ex (repr ReprKind.PartitionAsSet (more_reprs r no_reprs)) (partition_dom ms es d) ns js) =
    Some (seen_ex r (part_set_dom size_terms ms es d) ns js)
kept_as e = None

-- Its members: those of the child.
abbrev pub child_listing : Text → Ex → Option (List Alternative)
child_listing x e = and_then (kept_as e) (λ c. Some (those x c no_gens ∷ []))

-- `a in v`, and `a in toRelation(v)` of a function, asks the child; so do sizes, of a partition that of its parts.
abbrev pub asked_of_child : Ex → Option Ex
asked_of_child (ex2 true Op2.Member a (fun1 false Fun.ToRelation v)) = and_then (kept_as v) (λ c. Some (ex2 true Op2.Member a c))
asked_of_child (ex2 true Op2.Member a v) = and_then (kept_as v) (λ c. Some (ex2 true Op2.Member a c))
asked_of_child (ex1 false Op1.Bar (fun1 false Fun.Parts v)) = and_then (kept_as v) (λ c. Some (ex1 false Op1.Bar c))
asked_of_child (ex1 false Op1.Bar v) = and_then (kept_as v) (λ c. Some (ex1 false Op1.Bar c))
asked_of_child e = None
