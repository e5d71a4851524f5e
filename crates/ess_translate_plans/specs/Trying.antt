-- What is found where names are tried beside a few that are avoided.
use Rattle.std.specs.Prelude.{◌≡◌, true, false, List, map}
use Rattle.ess_semantics.specs.Values.{Text}
use Rattle.ess_semantics.specs.Names.{is_among}
use Rattle.ess_semantics.specs.Kinds.{fits}
use Rattle.ess_semantics.specs.Trees.{Repr, Dom}
use Rattle.ess_semantics.specs.TableNames.{table_names, named_tables}
use Rattle.ess_repr_declare_laws.specs.Laws.{Sound}
use Rattle.ess_translate_plans.specs.declared.naming.Tried.{Tried}
use Rattle.ess_translate_plans.specs.Views.{pure_table_name}

-- Each name that is avoided is taken.
abbrev pub AreTaken : List Text → List Text → Type 0
AreTaken avoided taken = (a : Text) → is_among avoided a ≡ true → is_among taken a ≡ true

-- The names that are free beside all that is taken, or a name that is taken and wasn't avoided.
abbrev pub IsTried : Repr → Dom → Text → List Text → List Text → Tried → Type 0
IsTried r d x taken avoided (Tried.Free ns) =
    AreTaken avoided taken → Sound d → fits r d ≡ true → map pure_table_name ns ≡ named_tables x (table_names r d) taken
IsTried r d x taken avoided (Tried.Taken a) = (is_among taken a ≡ true) × (is_among avoided a ≡ false)
