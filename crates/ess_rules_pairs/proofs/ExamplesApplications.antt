-- Worked examples: applications, and lookups by the kind and the names.
use Rattle.std.proofs.Common.{◌≡◌, refl, Bool, true, false, List, [], ◌∷◌, Some, None}
use Rattle.ess_semantics.specs.declared.words.Fun.{Fun}
use Rattle.ess_semantics.specs.declared.words.ReprKind.{ReprKind}
use Rattle.ess_semantics.specs.Values.{Text}
use Rattle.ess_semantics.specs.Trees.{word, application, Repr, repr, no_reprs, more_reprs, Ex, name_ex, node_ex, fun1, seen_ex}
use Rattle.ess_semantics.specs.Trees.{no_exs, more_exs, Dom, bool_dom, tuple_dom, function_dom, no_doms, more_doms}
use Rattle.ess_rules_laws.specs.FunctionViews.{by_names, total_result, flagged_result}
use Rattle.ess_rules_laws.specs.FunctionNDViews.{function_nd_lookup}
use Rattle.ess_rules_laws.specs.FunctionNDPartialViews.{function_nd_partial_lookup}
use Rattle.ess_rules_pairs.specs.Applications.{applied}

abbrev pub x : Text
x = 120 ∷ []

abbrev pub y : Text
y = 121 ∷ []

abbrev pub m : Text
m = 109 ∷ []

abbrev pub t : Text
t = 116 ∷ []

abbrev pub a : Ex
a = name_ex (97 ∷ [])

abbrev pub f : Ex
f = name_ex (102 ∷ [])

-- `f(a)` and `image(f, a)` are applications, `image(f)` isn't one.
pub application_of_a_name : applied (node_ex false application (more_exs f (more_exs a no_exs))) ≡ Some (f, a)
application_of_a_name = refl

pub image_of_a_name : applied (node_ex true (word Fun.Image) (more_exs f (more_exs a no_exs))) ≡ Some (f, a)
image_of_a_name = refl

pub image_of_one_is_none : applied (fun1 false Fun.Image f) ≡ None
image_of_one_is_none = refl

-- ---- a function from pairs of truth values

abbrev pub atom : Repr
atom = repr ReprKind.Atom no_reprs

abbrev pub pairs : Dom
pairs = tuple_dom (more_doms bool_dom (more_doms bool_dom no_doms))

abbrev pub view : ReprKind → List Text → Ex
view k ns = seen_ex (repr k (more_reprs atom no_reprs)) (function_dom [] no_exs pairs bool_dom) ns no_exs

abbrev pub at_a : Ex → Ex
at_a g = node_ex false application (more_exs g (more_exs a no_exs))

-- With a name for each component.
pub total_at : function_nd_lookup (x ∷ y ∷ []) (at_a (view ReprKind.FunctionND (t ∷ [])))
    ≡ Some (total_result (by_names (x ∷ y ∷ [])) atom pairs bool_dom (t ∷ []) no_exs a)
total_at = refl

-- One name is too few, and the same name twice doesn't fit.
pub too_few : function_nd_lookup (x ∷ []) (at_a (view ReprKind.FunctionND (t ∷ []))) ≡ None
too_few = refl

pub twice : function_nd_lookup (x ∷ x ∷ []) (at_a (view ReprKind.FunctionND (t ∷ []))) ≡ None
twice = refl

-- The first table holds the flags; without one there is no lookup.
pub flagged_at : function_nd_partial_lookup (x ∷ y ∷ []) (at_a (view ReprKind.FunctionNDPartial (m ∷ t ∷ [])))
    ≡ Some (flagged_result (by_names (x ∷ y ∷ [])) atom pairs bool_dom m (t ∷ []) no_exs a)
flagged_at = refl

pub no_flags : function_nd_partial_lookup (x ∷ y ∷ []) (at_a (view ReprKind.FunctionNDPartial [])) ≡ None
no_flags = refl

-- The kind with flags isn't total.
pub not_total : function_nd_lookup (x ∷ y ∷ []) (at_a (view ReprKind.FunctionNDPartial (t ∷ []))) ≡ None
not_total = refl
