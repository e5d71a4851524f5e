-- Names that are bound inside an expression, with whether they depend on finds.
use Rattle.std.specs.Prelude.{Bool, if◌then◌else◌, List, [], ◌∷◌, ◌++◌}
use Rattle.ess_semantics.specs.Values.{Text}
use Rattle.ess_semantics.specs.Names.{is_among}
use Rattle.ess_semantics.specs.Scopes.{names_but}
use Rattle.ess_types_judging.specs.declared.bounds.Bound.{Bound}

-- The names that depend on finds, with names that are bound.
abbrev pub drawn : Bool → List Text → List Text → List Text
drawn b ns fs = if b then ns ++ fs else names_but ns fs

-- The names that depend on finds under names that are bound, the oldest first.
abbrev pub finds_under : List Bound → List Text → List Text
finds_under [] fs = fs
finds_under (b ∷ bs) fs = finds_under bs (drawn b.draws b.names fs)

-- Whether a name depends on a find under bound names, where `x` says so of it without them.
abbrev pub draws_under : List Bound → Text → Bool → Bool
draws_under [] a x = x
draws_under (b ∷ bs) a x = draws_under bs a (if is_among b.names a then b.draws else x)
