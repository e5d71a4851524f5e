-- The names of declarations and lettings, and where they stand.
use Rattle.std.specs.Prelude.{◌≡◌, ℕ, suc, List, [], ◌∷◌, map, if◌then◌else◌, Option, Some, None, option_map}
use Rattle.std.specs.BTreeMap.{BTreeMap, get}
use Rattle.ess_semantics.specs.Values.{Text}
use Rattle.ess_semantics.specs.Order.{order_text, same_text}
use Rattle.ess_semantics.specs.Names.{is_among}
use Rattle.eprime_tree.specs.declared.models.PDecl.{PDecl}

-- The declared names.
abbrev pub declared_names : List PDecl → List Text
declared_names ds = map (λ d. d.name) ds

-- The first of some names that isn't among others.
abbrev pub missing_of : List Text → List Text → Option Text
missing_of [] ns = None
missing_of (a ∷ as') ns = if is_among ns a then missing_of as' ns else Some a

-- The place of a name in a list, from 0: the first where it stands.
abbrev pub place_of : List Text → Text → Option ℕ
place_of [] a = None
place_of (n ∷ ns) a = if same_text n a then Some 0 else option_map suc (place_of ns a)

-- The map says of each name where it stands first in the list.
abbrev pub HasPlaces : List Text → BTreeMap Text ℕ → Type 0
HasPlaces ns m = (a : Text) → get order_text m a ≡ place_of ns a
