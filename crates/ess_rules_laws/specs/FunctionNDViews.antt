-- What a view of a total function from tuples of atoms offers, kept as a result for each member of the first domain. The names
-- are those of the components of an argument.
use Rattle.std.specs.Prelude.{List, Option, Some, None, if◌then◌else◌}
use Rattle.ess_semantics.specs.declared.words.ReprKind.{ReprKind}
use Rattle.ess_semantics.specs.Values.{Text}
use Rattle.ess_semantics.specs.Trees.{repr, no_reprs, more_reprs, Ex, seen_ex, function_dom, tuple_dom}
use Rattle.ess_rules_laws.specs.Listings.{Alternative}
use Rattle.ess_rules_laws.specs.FunctionViews.{by_names, names_fit, total_pairs, total_result, of_application}

-- Its pairs: the names over the first domain, with the result there.
abbrev pub function_nd_listing : List Text → Ex → Option Alternative
function_nd_listing xs (seen_ex (repr ReprKind.FunctionND (more_reprs r no_reprs)) (function_dom ms es (tuple_dom ds) c) ns js) =
    if names_fit xs ds then Some (total_pairs (by_names xs) r (tuple_dom ds) c ns js) else None
function_nd_listing xs e = None

-- Its result at a: the names over the first domain, where the tuple of them is a, the result there.
abbrev pub function_nd_result : List Text → Ex → Ex → Option Ex
function_nd_result xs (seen_ex (repr ReprKind.FunctionND (more_reprs r no_reprs)) (function_dom ms es (tuple_dom ds) c) ns js) a =
    if names_fit xs ds then Some (total_result (by_names xs) r (tuple_dom ds) c ns js a) else None
function_nd_result xs f a = None

-- The lookup of `f(a)` and of `image(f, a)`.
abbrev pub function_nd_lookup : List Text → Ex → Option Ex
function_nd_lookup xs e = of_application (function_nd_result xs) e
