-- Lookups in views of functions from atoms, from the parts of the view.
use Rattle.std.proofs.Common.{◌≡◌, refl, ◌∷◌}
use Rattle.ess_semantics.specs.declared.words.Fun.{Fun}
use Rattle.ess_semantics.specs.declared.words.ReprKind.{ReprKind}
use Rattle.ess_semantics.specs.Lists.{and_then}
use Rattle.ess_semantics.specs.Values.{Text}
use Rattle.ess_semantics.specs.Trees.{word, application, repr, no_reprs, more_reprs, Ex, node_ex, seen_ex, no_exs, more_exs, function_dom}
use Rattle.ess_rules_laws.specs.Function1DViews.{function_1d_result, function_1d_lookup}
use Rattle.ess_rules_laws.specs.Function1DPartialViews.{function_1d_partial_result, function_1d_partial_lookup}
use Rattle.ess_rules_views.specs.ViewForms.{applied, by_argument}
use Rattle.ess_rules_views.specs.ViewRules.{result_where, flagged_where}

-- A total function at a.
pub result_by_argument : (x : Text) (f a : Ex)
    → function_1d_result x f a ≡ and_then (by_argument f) (λ v. result_where v.kind x a v)
result_by_argument x (seen_ex (repr ReprKind.Function1D (more_reprs r no_reprs)) (function_dom ms es d c) ns js) a = refl
result_by_argument x (seen_ex (repr k no_reprs) d ns js) a = refl
result_by_argument x (seen_ex (repr k (more_reprs r no_reprs)) (function_dom ms es d c) ns js) a = refl
result_by_argument x f a = refl

-- An application or `image` of one.
pub single_by_parts : (x : Text) (e : Ex) → function_1d_lookup x e ≡ and_then (applied e) (λ p. function_1d_result x p.1.0 p.1.1)
single_by_parts x (node_ex b application (more_exs f (more_exs a no_exs))) = refl
single_by_parts x (node_ex b (word Fun.Image) (more_exs f (more_exs a no_exs))) = refl
single_by_parts x e = refl

-- A function with flags at a.
pub partial_by_argument : (x : Text) (f a : Ex)
    → function_1d_partial_result x f a ≡ and_then (by_argument f) (λ v. flagged_where v.kind v.cells x a v)
partial_by_argument x (seen_ex (repr ReprKind.Function1DPartial (more_reprs r no_reprs)) (function_dom ms es d c) (m ∷ ns) js) a = refl
partial_by_argument x (seen_ex (repr k no_reprs) d ns js) a = refl
partial_by_argument x (seen_ex (repr k (more_reprs r no_reprs)) (function_dom ms es d c) ns js) a = refl
partial_by_argument x f a = refl

-- An application or `image` of one.
pub partial_by_parts : (x : Text) (e : Ex)
    → function_1d_partial_lookup x e ≡ and_then (applied e) (λ p. function_1d_partial_result x p.1.0 p.1.1)
partial_by_parts x (node_ex b application (more_exs f (more_exs a no_exs))) = refl
partial_by_parts x (node_ex b (word Fun.Image) (more_exs f (more_exs a no_exs))) = refl
partial_by_parts x e = refl
