-- The rule of a field of a record literal.
use Rattle.std.specs.Prelude.{[], ◌∷◌, List, Option, Some, None, IsTrue, is_some, if◌then◌else◌, false}
use Rattle.std.specs.List.{list_all}
use Rattle.ess_semantics.specs.Values.{Text}
use Rattle.ess_semantics.specs.Order.{same_text}
use Rattle.ess_semantics.specs.Trees.{to_field, index, record_literal, Ex, Exs, node_ex, no_exs, more_exs}
use Rattle.ess_semantics.specs.Meaning.{Env, meanings}
use Rattle.ess_rules_laws.specs.LiteralRules.{FitsMark}

-- The term of a field, where these terms belong to the fields.
abbrev pub field_term : List Text → Exs → Text → Option Ex
field_term (f ∷ fs) (more_exs e es) a = if same_text f a then Some e else field_term fs es a
field_term fs es a = None

-- `record {a = e, ..}[a]` is e.
abbrev pub field_listed : Ex → Option Ex
field_listed (node_ex b (index (to_field a ∷ [])) (more_exs (node_ex false (record_literal fs) es) no_exs)) = field_term fs es a
field_listed e = None

-- What it counts on: the fields have values, the picked one a truth value where it is Boolean.
abbrev pub FieldFits : Ex → Env → Type 0
FieldFits (node_ex b (index (to_field a ∷ [])) (more_exs (node_ex false (record_literal fs) es) no_exs)) env =
    IsTrue (list_all is_some (meanings es env)) × FitsMark b (field_term fs es a) env
FieldFits e env = Unit {0}
