-- What an index says, and the fields of records by name.
use Rattle.std.specs.Prelude.{ℕ, map, Option, Some, None}
use Rattle.ess_semantics.specs.Values.{Text}
use Rattle.ess_semantics.specs.Names.{Names, keys}
use Rattle.ess_semantics.specs.Types as pure
use Rattle.ess_semantics.specs.Types.{tys_of}
use Rattle.ess_semantics.specs.Typing.{Static, a_number, a_name, field_ty}

-- The number that an index says.
abbrev pub number_of : Static → Option ℕ
number_of (a_number n) = Some n
number_of s = None

-- The name that an index says.
abbrev pub name_of : Static → Option Text
name_of (a_name a) = Some a
name_of s = None

-- The type of a field, of fields with their types.
abbrev pub field_in : Names pure.Ty → Text → Option pure.Ty
field_in fs a = field_ty (keys fs) (tys_of (map (λ f. f.1) fs)) a
