-- Nested matrices by their depth and by the members of their index domains.
use Rattle.std.specs.Prelude.{ℕ, zero, suc, ◌*◌, List, [], ◌∷◌, map, length, Option, option_map}
use Rattle.ess_semantics.specs.Lists.{each_of, only_of, append_all}
use Rattle.ess_semantics.specs.Values.{Value, matrix, to_list, of_list}
use Rattle.ess_semantics.specs.ScalarLayers.{in_lists_of}

-- The elements of a matrix that is nested so deep, row by row.
abbrev pub elements_at : ℕ → Value → List Value
elements_at zero v = v ∷ []
elements_at (suc n) (matrix is xs) = append_all (map (elements_at n) (to_list xs))
elements_at (suc n) _ = []

-- How many elements a matrix over these members has.
abbrev pub places_in : List (List Value) → ℕ
places_in [] = 1
places_in (ms ∷ mss) = length ms * places_in mss

-- The nested matrix of these elements over the members of each index domain.
abbrev pub nested_in : List (List Value) → List Value → Option Value
nested_in [] vs = only_of vs
nested_in (ms ∷ mss) vs =
    option_map (λ ys. matrix (of_list ms) (of_list ys)) (each_of (in_lists_of (length ms) (places_in mss) vs) (nested_in mss))
