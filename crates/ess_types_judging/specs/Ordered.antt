-- Types of which the items of a matrix or the members of a set may be, as far as order goes.
use Rattle.std.specs.Prelude.{Bool, true, not}
use Rattle.ess_semantics.specs.Names.{is_among}
use Rattle.ess_semantics.specs.Types.{Ty, named_ty}
use Rattle.ess_semantics.specs.Scopes.{Scope}

-- The type isn't an unnamed one.
abbrev pub is_ordered_item : Ty → Scope → Bool
is_ordered_item (named_ty t) s = not (is_among s.unnamed t)
is_ordered_item t s = true
