-- The values of named types that names name, type by type.
use Rattle.std.specs.Prelude.{ℕ, ◌&&◌, if◌then◌else◌, Option, nat_le}
use Rattle.ess_semantics.specs.Lists.{when, is_empty}
use Rattle.ess_semantics.specs.Values.{Text, Value}
use Rattle.ess_semantics.specs.Types.{Ty}
use Rattle.ess_semantics.specs.Meaning.{TypeEntry}
use Rattle.ess_semantics.specs.NameTokens.{are_digits}
use Rattle.ess_semantics.specs.NameTokens.{value_after as number_of}
use Rattle.ess_semantics.specs.Literals.{named_item, unnamed_item, type_of_item}
use Rattle.ess_values.specs.TypedLiterals.{both}

-- The value of this type that a name names.
abbrev pub item_of_entry : TypeEntry → Text → Option Value
item_of_entry t a = if is_empty t.names then unnamed_item t a else named_item t.name 1 t.names a

-- The type and the value of a name.
abbrev pub typed_item : Option Value → Option (Ty × Value)
typed_item o = both (type_of_item o) o

-- The number of digits, where there are some and it is within the limit.
abbrev pub small_number : ℕ → Text → Option ℕ
small_number limit ds = when (are_digits ds && nat_le (number_of 0 ds) limit) (number_of 0 ds)
