-- Names that each have a representation.
use Rattle.std.specs.Prelude.{Bool, true, false, List, [], ◌∷◌}
use Rattle.std.specs.List.{list_all}
use Rattle.ess_semantics.specs.Names.{Names}
use Rattle.ess_semantics.specs.Trees.{Repr}

-- Whether there is one.
abbrev pub is_one_there : List Repr → Bool
is_one_there [] = false
is_one_there (r ∷ rs) = true

-- Whether each name has one.
abbrev pub have_reprs : Names (List Repr) → Bool
have_reprs rs = list_all (λ c. is_one_there c.1) rs
