-- The forms of ranges that sizes ask for: one value, or one range with both bounds.
use Rattle.std.specs.Prelude.{Bool, true, false, if◌then◌else◌, List, [], ◌∷◌, Option, Some, None}
use Rattle.ess_semantics.specs.Trees.{Ends, one_value, both_ends, Ex, Exs, no_exs, more_exs}

-- Whether these are one range of one value.
abbrev pub is_single : List Ends → Bool
is_single (one_value ∷ []) = true
is_single _ = false

-- Whether these are one range with both bounds.
abbrev pub is_span : List Ends → Bool
is_span (both_ends ∷ []) = true
is_span _ = false

-- Two terms, where there are no others.
abbrev pub pair_of : Exs → Option (Ex × Ex)
pair_of (more_exs a (more_exs b no_exs)) = Some (a, b)
pair_of _ = None

-- The bounds of one range that has both.
abbrev pub span_of : List Ends → Exs → Option (Ex × Ex)
span_of rs es = if is_span rs then pair_of es else None
