-- What a view of a function from an atom offers, kept as a flag and a result for each member of the first domain.
use Rattle.std.specs.Prelude.{◌∷◌, Option, Some, None}
use Rattle.ess_semantics.specs.declared.words.ReprKind.{ReprKind}
use Rattle.ess_semantics.specs.Values.{Text}
use Rattle.ess_semantics.specs.Trees.{repr, no_reprs, more_reprs, Ex, seen_ex, function_dom}
use Rattle.ess_rules_laws.specs.Listings.{Alternative}
use Rattle.ess_rules_laws.specs.FunctionViews.{by_name, flagged_pairs, flagged_result, of_application}

-- Its pairs: x over the first domain, where the flag of x is true, with the result at x.
abbrev pub function_1d_partial_listing : Text → Ex → Option Alternative
function_1d_partial_listing x (seen_ex (repr ReprKind.Function1DPartial (more_reprs r no_reprs)) (function_dom ms es d c) (m ∷ ns) js) =
    Some (flagged_pairs (by_name x) r d c m ns js)
function_1d_partial_listing x e = None

-- Its result at a: x over the first domain, where x is a and the flag of x is true, the result at x.
abbrev pub function_1d_partial_result : Text → Ex → Ex → Option Ex
function_1d_partial_result x (seen_ex (repr ReprKind.Function1DPartial (more_reprs r no_reprs)) (function_dom ms es d c) (m ∷ ns) js) a =
    Some (flagged_result (by_name x) r d c m ns js a)
function_1d_partial_result x f a = None

-- The lookup of `f(a)` and of `image(f, a)`.
abbrev pub function_1d_partial_lookup : Text → Ex → Option Ex
function_1d_partial_lookup x e = of_application (function_1d_partial_result x) e
