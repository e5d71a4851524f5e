-- Names of values of unnamed types.
use Rattle.std.specs.Prelude.{◌≡◌, ◌&&◌, ◌||◌, List, [], ◌∷◌, Option, Some, None, option_map, if◌then◌else◌, nat_eq}
use Rattle.std.specs.List.{list_any}
use Rattle.ess_semantics.specs.Values.{Text}
use Rattle.ess_semantics.specs.Names.{is_among}
use Rattle.ess_semantics.specs.NameTokens.{are_digits}
use Rattle.ess_semantics.specs.Judgements.{is_value_name}

-- T, where the name is `T_` with digits.
abbrev pub stem_of : Text → Option Text
stem_of [] = None
stem_of (b ∷ bs) = if nat_eq b 95 && are_digits bs then Some [] else option_map (λ t. b ∷ t) (stem_of bs)

-- Whether the names t are the names s and each T with `T_` and digits among other names.
abbrev pub StemsAdded : List Text → List Text → List Text → Type 0
StemsAdded ns s t = (u : Text) → is_among t u ≡ list_any (is_value_name u) ns || is_among s u
