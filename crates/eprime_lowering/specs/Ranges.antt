-- Ranges of their forms and of their bounds, which stand one behind the other.
use Rattle.std.specs.Prelude.{List, [], ◌∷◌, Option, Some, None, option_map}
use Rattle.ess_semantics.specs.Lists.{and_then}
use Rattle.ess_core_nodes.specs.declared.words.Ends.{Ends}
use Rattle.eprime_tree.specs.declared.expressions.PEx.{PEx}
use Rattle.eprime_tree.specs.declared.expressions.PRange.{PRange}
use Rattle.eprime_tree.specs.declared.expressions.PRange.TheVariants as range

-- A range of this form with the first of the bounds, and the bounds that are left, where there are enough.
abbrev pub first_range : Ends → List PEx → Option (PRange × List PEx)
first_range Ends.One (a ∷ es) = Some (range.One a, es)
first_range Ends.Both (a ∷ b ∷ es) = Some (range.Span (Some a) (Some b), es)
first_range Ends.Low (a ∷ es) = Some (range.Span (Some a) None, es)
first_range Ends.High (b ∷ es) = Some (range.Span None (Some b), es)
first_range _ _ = None

-- All ranges, where there are just their bounds.
abbrev pub ranges_of : List Ends → List PEx → Option (List PRange)
ranges_of [] [] = Some []
ranges_of [] (e ∷ es) = None
ranges_of (r ∷ rs) es = and_then (first_range r es) (λ p. option_map (λ ranges. p.0 ∷ ranges) (ranges_of rs p.1))
