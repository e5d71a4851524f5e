-- Attribute values below 0, of one layer of a domain and of several domains.
use Rattle.std.specs.Prelude.{Bool, List, pos, int_le}
use Rattle.ess_semantics.specs.Domains.{Attribute, Domains}
use Rattle.ess_semantics.specs.Attributes.{each_number_holds}
use Rattle.ess_semantics.specs.Membership.{each_layer_of_all}

-- No number of these attributes is below 0.
abbrev pub no_negative_number : List Attribute → Bool
no_negative_number ks = each_number_holds ks (λ k n. int_le (pos 0) n)

-- No attribute value of these domains is below 0.
abbrev pub no_negative_attribute_in : Domains → Bool
no_negative_attribute_in ds = each_layer_of_all no_negative_number ds
