-- What is found of matrices, cells, views and domains, from what is found of the parts in them.
use Rattle.std.specs.Prelude.{true, Option, Some, None, option_map}
use Rattle.ess_semantics.specs.Lists.{and_then}
use Rattle.ess_semantics.specs.Values.{a_matrix}
use Rattle.ess_semantics.specs.Trees as pure
use Rattle.ess_semantics.specs.Types.{Ty, compound2, join_all, type_of_dom}
use Rattle.ess_semantics.specs.Kinds.{is_atom}
use Rattle.ess_semantics.specs.Scopes.{Scope}
use Rattle.ess_semantics.specs.ExpressionJudgements.{is_list}
use Rattle.ess_types_judging_laws.specs.Found.{Found, all_well, both, at_place}
use Rattle.ess_types_judging_laws.specs.Judged.{Judged, judged, judged_dom, judged_doms}
use Rattle.ess_types_judging_laws.specs.Accumulated.{Several, over_parts, Numbers, with_number}

-- A part of type t that is well formed by itself, of whose parts f is found.
abbrev pub typed_part : Ty → Found → Judged
typed_part t f = record { ty = Some t; ordered = is_list t; found = f }

-- A part together with another, of which f is found.
abbrev pub beside : Judged → Found → Judged
beside j f = record j { found = both j.found f }

-- A matrix literal with its index domain, of which f is found.
abbrev pub matrix_over : pure.Dom → Several → Found → Judged
matrix_over d v f =
    beside
    (over_parts (and_then v.tys (λ ts. option_map (compound2 a_matrix (type_of_dom d)) (join_all ts))) (is_atom d) (at_place true v.found))
    f

-- With the number of a bound or of an attribute more, where there is one.
abbrev pub bound_on : Option pure.Ex → Scope → Numbers → Numbers
bound_on None s v = v
bound_on (Some e) s v = with_number v (judged e s)

-- The numbers that stand in a domain's own layer.
abbrev pub numbers_of : pure.Dom → pure.Exs
numbers_of (pure.int_dom rs es) = es
numbers_of (pure.set_dom ms es d) = es
numbers_of (pure.mset_dom ms es d) = es
numbers_of (pure.function_dom ms es d c) = es
numbers_of (pure.relation_dom ms es ds) = es
numbers_of (pure.partition_dom ms es d) = es
numbers_of d = pure.no_exs

-- What is found of the domains that stand in a domain.
abbrev pub parts_found : pure.Dom → Scope → Found
parts_found (pure.tuple_dom ds) s = judged_doms ds s
parts_found (pure.record_dom fs ds) s = judged_doms ds s
parts_found (pure.matrix_dom is d) s = both (judged_doms is s) (judged_dom d s)
parts_found (pure.set_dom ms es d) s = judged_dom d s
parts_found (pure.mset_dom ms es d) s = judged_dom d s
parts_found (pure.function_dom ms es d c) s = both (judged_dom d s) (judged_dom c s)
parts_found (pure.relation_dom ms es ds) s = judged_doms ds s
parts_found (pure.partition_dom ms es d) s = judged_dom d s
parts_found d s = all_well
