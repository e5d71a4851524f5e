-- Terms whose listings have items of the type of their members, so that these may be put for a name.
use Rattle.std.specs.Prelude.{◌≡◌, false, List, Some}
use Rattle.ess_semantics.specs.Lists.{and_then}
use Rattle.ess_semantics.specs.Values.{Text}
use Rattle.ess_semantics.specs.Names.{Names}
use Rattle.ess_semantics.specs.Trees.{Ex, Exs, node_ex, ex2, no_exs, more_exs, set_literal, mset_literal, relation_literal, matrix_literal}
use Rattle.ess_semantics.specs.Types.{Ty}
use Rattle.ess_semantics.specs.OperatorTypes.{member_ty}
use Rattle.ess_semantics.specs.Typing.{type_of}
use Rattle.ess_rules_laws.specs.Listings.{Alternative, listing}
use Rattle.ess_refine_types_laws.specs.TypeNames.{IsUntyped}
use Rattle.ess_listing_marks_laws.specs.ListingsMarked.{EachAlike}

-- Each of these has the type m.
abbrev pub AllOfType : Names Ty → Ty → Exs → Type 0
AllOfType g m no_exs = Unit {0}
AllOfType g m (more_exs e es) = (type_of e g ≡ Some m) × AllOfType g m es

-- The parts of the term are of one type: the items of a literal, and the members of the operands of a union, an intersection or a
-- difference.
-- `{}` and `{1}` are of two types, so `{{}, {1}}` isn't meant.
abbrev pub PartsAlike : Names Ty → Ty → Ex → Type 0
PartsAlike g m (ex2 false o a b) = (and_then (type_of a g) member_ty ≡ Some m) × (and_then (type_of b g) member_ty ≡ Some m)
PartsAlike g m (node_ex false set_literal es) = AllOfType g m es
PartsAlike g m (node_ex false mset_literal es) = AllOfType g m es
PartsAlike g m (node_ex false relation_literal es) = AllOfType g m es
PartsAlike g m (node_ex false matrix_literal es) = AllOfType g m es
PartsAlike g m e = Unit {0}

-- So each alternative that such a term with members offers has items of their type; the name that it binds is new.
abbrev pub ListingsAreAlike : Type 0
ListingsAreAlike = (g : Names Ty) (x : Text) (t : Ex) (l : List Alternative) → listing g x t ≡ Some l → IsUntyped x t → (m : Ty) →
    and_then (type_of t g) member_ty ≡ Some m → PartsAlike g m t → EachAlike g t l
