-- The elements of matrices, index by index.
use Rattle.std.specs.Prelude.{ℕ, Bool, ◌&&◌, List, [], ◌∷◌, map, length, Option, Some, None, option_map, nat_eq}
use Rattle.ess_semantics.specs.Lists.{and_then, when, is_some_and, all_some, append_all}
use Rattle.ess_semantics.specs.Values.{Value, matrix, to_list}
use Rattle.ess_semantics.specs.Domains.{Domains, no_domains, more_domains, members}
use Rattle.ess_semantics.specs.Membership.{same_list}

-- The items of a matrix whose indices are these, where it is one.
abbrev pub matrix_items : Option (List Value) → Value → Option (List Value)
matrix_items o (matrix ix xs) =
    when (is_some_and o (λ vs. same_list vs (to_list ix)) && nat_eq (length (to_list ix)) (length (to_list xs))) (to_list xs)
matrix_items o _ = None

-- The items of all of these matrices, one behind the other, where each is one.
abbrev pub all_items : Option (List Value) → List Value → Option (List Value)
all_items o vs = option_map append_all (all_some (map (matrix_items o) vs))

-- The elements of nested matrices over these index domains, where each is one.
abbrev pub leaves : Domains → List Value → Option (List Value)
leaves no_domains vs = Some vs
leaves (more_domains i is) vs = and_then (all_items (members i) vs) (leaves is)
