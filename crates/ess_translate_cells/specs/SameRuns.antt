-- Whether two lists of ranges are equal.
use Rattle.std.specs.Prelude.{Bool, true, false, ◌&&◌, List, [], ◌∷◌, ℤ, Option, Some, None}
use Rattle.ess_semantics.specs.Order.{same_int}
use Rattle.ess_semantics.specs.Domains.{Span}

-- Whether two ends are equal, or both missing.
abbrev pub same_end : Option ℤ → Option ℤ → Bool
same_end None None = true
same_end (Some a) (Some b) = same_int a b
same_end _ b = false

-- Whether two ranges have the same ends.
abbrev pub same_span : Span → Span → Bool
same_span r s = same_end r.low s.low && same_end r.high s.high

-- Whether two lists of ranges are equal.
abbrev pub same_spans : List Span → List Span → Bool
same_spans [] [] = true
same_spans (r ∷ rs) (s ∷ ss) = same_span r s && same_spans rs ss
same_spans _ ss = false
