-- Worked examples: lookups in views of functions from atoms, by the kind and the tables.
use Rattle.std.proofs.Common.{◌≡◌, refl, [], ◌∷◌, Some, None}
use Rattle.ess_semantics.specs.declared.words.ReprKind.{ReprKind}
use Rattle.ess_semantics.specs.Values.{Text}
use Rattle.ess_semantics.specs.Trees.{Repr, repr, no_reprs, Ex, name_ex, no_exs, bool_dom}
use Rattle.ess_rules_laws.specs.FunctionViews.{by_name, total_result, flagged_result}
use Rattle.ess_rules_views.specs.ViewForms.{Arguments}
use Rattle.ess_rules_views.specs.ViewRules.{result_where, flagged_where}

abbrev pub x : Text
x = 120 ∷ []

abbrev pub t : Text
t = 116 ∷ []

abbrev pub a : Ex
a = name_ex (97 ∷ [])

abbrev pub atom : Repr
atom = repr ReprKind.Atom no_reprs

abbrev pub view : Arguments
view = record { kind = ReprKind.Function1D; child = atom; first = bool_dom; last = bool_dom; cells = t ∷ []; at = no_exs }

pub total_at : result_where ReprKind.Function1D x a view ≡ Some (total_result (by_name x) atom bool_dom bool_dom (t ∷ []) no_exs a)
total_at = refl

-- The kind with flags isn't total.
pub not_total : result_where ReprKind.Function1DPartial x a view ≡ None
not_total = refl

-- The first table holds the flags; without one there is no lookup.
pub flagged_at : flagged_where ReprKind.Function1DPartial (x ∷ t ∷ []) x a view
    ≡ Some (flagged_result (by_name x) atom bool_dom bool_dom x (t ∷ []) no_exs a)
flagged_at = refl

pub no_flags : flagged_where ReprKind.Function1DPartial [] x a view ≡ None
no_flags = refl

pub not_partial : flagged_where ReprKind.Function1D (x ∷ t ∷ []) x a view ≡ None
not_partial = refl
