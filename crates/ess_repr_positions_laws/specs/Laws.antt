-- Laws of positions and types, each stated at a function that does nothing, so that its proof is checked with the code.
use Rattle.std.specs.Prelude.{◌≡◌, true}
use Rattle.ess_semantics.specs.Values.{Value}
use Rattle.ess_semantics.specs.Domains.{Domain}
use Rattle.ess_semantics.specs.Positions.{domain_with_positions, with_types}
use Rattle.ess_translate_positions_laws.specs.Forms.{has_form}
use Rattle.ess_repr_positions_laws.specs.TypedParts.{typed}

-- Of a value of the domain's form the types are put back part by part.
abbrev pub TypedIsWithTypes : Type 0
TypedIsWithTypes = (d : Domain) (v : Value) → has_form d v ≡ true → typed d v ≡ with_types d v

-- A value has the form of a domain exactly where it has that of the domain with positions.
abbrev pub FormIsKept : Type 0
FormIsKept = (d : Domain) (v : Value) → has_form (domain_with_positions d) v ≡ has_form d v
