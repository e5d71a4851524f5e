-- Lookups in views kept by argument, by the operands and by the parts of the view.
use Rattle.std.proofs.Common.{◌≡◌, refl, List}
use Rattle.ess_semantics.specs.declared.words.Fun.{Fun}
use Rattle.ess_semantics.specs.declared.words.ReprKind.{ReprKind}
use Rattle.ess_semantics.specs.Lists.{and_then}
use Rattle.ess_semantics.specs.Values.{Text}
use Rattle.ess_semantics.specs.Trees.{word, application, repr, no_reprs, more_reprs, Ex, node_ex, seen_ex, no_exs, more_exs}
use Rattle.ess_rules_laws.specs.FunctionNDViews.{function_nd_result, function_nd_lookup}
use Rattle.ess_rules_laws.specs.FunctionNDPartialViews.{function_nd_partial_result, function_nd_partial_lookup}
use Rattle.ess_rules_kinds.specs.ViewParts.{nested, nested_view}
use Rattle.ess_rules_pairs.specs.Applications.{applied}

-- A total function at an argument.
pub function_nd_result_by_parts : (xs : List Text) (f a : Ex)
    → function_nd_result xs f a ≡ and_then (nested f) (λ p. function_nd_result xs (nested_view p) a)
function_nd_result_by_parts xs (seen_ex (repr k (more_reprs r no_reprs)) d ns js) a = refl
function_nd_result_by_parts xs (seen_ex (repr ReprKind.FunctionND no_reprs) d ns js) a = refl
function_nd_result_by_parts xs (seen_ex (repr ReprKind.FunctionND (more_reprs r (more_reprs q rs))) d ns js) a = refl
function_nd_result_by_parts xs f a = refl

-- An application or `image` of one.
pub function_nd_lookup_by_operands : (xs : List Text) (e : Ex)
    → function_nd_lookup xs e ≡ and_then (applied e) (λ p. function_nd_result xs p.0 p.1)
function_nd_lookup_by_operands xs (node_ex b application (more_exs f (more_exs a no_exs))) = refl
function_nd_lookup_by_operands xs (node_ex b (word Fun.Image) (more_exs f (more_exs a no_exs))) = refl
function_nd_lookup_by_operands xs e = refl

-- A function with flags at an argument.
pub function_nd_partial_result_by_parts : (xs : List Text) (f a : Ex)
    → function_nd_partial_result xs f a ≡ and_then (nested f) (λ p. function_nd_partial_result xs (nested_view p) a)
function_nd_partial_result_by_parts xs (seen_ex (repr k (more_reprs r no_reprs)) d ns js) a = refl
function_nd_partial_result_by_parts xs (seen_ex (repr ReprKind.FunctionNDPartial no_reprs) d ns js) a = refl
function_nd_partial_result_by_parts xs (seen_ex (repr ReprKind.FunctionNDPartial (more_reprs r (more_reprs q rs))) d ns js) a = refl
function_nd_partial_result_by_parts xs f a = refl

-- An application or `image` of one.
pub function_nd_partial_lookup_by_operands : (xs : List Text) (e : Ex)
    → function_nd_partial_lookup xs e ≡ and_then (applied e) (λ p. function_nd_partial_result xs p.0 p.1)
function_nd_partial_lookup_by_operands xs (node_ex b application (more_exs f (more_exs a no_exs))) = refl
function_nd_partial_lookup_by_operands xs (node_ex b (word Fun.Image) (more_exs f (more_exs a no_exs))) = refl
function_nd_partial_lookup_by_operands xs e = refl
