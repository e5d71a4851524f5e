-- The names of declarations and those of tables.
use Rattle.std.specs.Prelude.{List, [], ◌∷◌, map, if◌then◌else◌, Option, Some, None}
use Rattle.ess_semantics.specs.Values.{Text}
use Rattle.ess_semantics.specs.Order.{same_text}
use Rattle.ess_semantics.specs.Names.{is_among}
use Rattle.eprime_tree.specs.declared.models.PDecl.{PDecl}

-- The declared names.
abbrev pub declared_names : List PDecl → List Text
declared_names ds = map (λ d. d.name) ds

-- The first of some names that isn't among others.
abbrev pub missing_of : List Text → List Text → Option Text
missing_of [] ks = None
missing_of (a ∷ as') ks = if is_among ks a then missing_of as' ks else Some a

-- The first of the second names that doesn't stand in its place among the first ones.
abbrev pub extra_of : List Text → List Text → Option Text
extra_of as' [] = None
extra_of [] (k ∷ ks) = Some k
extra_of (a ∷ as') (k ∷ ks) = if same_text a k then extra_of as' ks else Some k
