-- What a view of a total function from an atom offers, kept as a result for each member of the first domain.
use Rattle.std.specs.Prelude.{Option, Some, None}
use Rattle.ess_semantics.specs.declared.words.ReprKind.{ReprKind}
use Rattle.ess_semantics.specs.Values.{Text}
use Rattle.ess_semantics.specs.Trees.{repr, no_reprs, more_reprs, Ex, seen_ex, function_dom}
use Rattle.ess_rules_laws.specs.Listings.{Alternative}
use Rattle.ess_rules_laws.specs.FunctionViews.{by_name, total_pairs, total_result, of_application}

-- Its pairs: x over the first domain, with the result at x.
abbrev pub function_1d_listing : Text → Ex → Option Alternative
function_1d_listing x (seen_ex (repr ReprKind.Function1D (more_reprs r no_reprs)) (function_dom ms es d c) ns js) =
    Some (total_pairs (by_name x) r d c ns js)
function_1d_listing x e = None

-- Its result at a: x over the first domain, where x is a, the result at x.
abbrev pub function_1d_result : Text → Ex → Ex → Option Ex
function_1d_result x (seen_ex (repr ReprKind.Function1D (more_reprs r no_reprs)) (function_dom ms es d c) ns js) a =
    Some (total_result (by_name x) r d c ns js a)
function_1d_result x f a = None

-- The lookup of `f(a)` and of `image(f, a)`.
abbrev pub function_1d_lookup : Text → Ex → Option Ex
function_1d_lookup x e = of_application (function_1d_result x) e
