-- Worked examples of the forms of ranges.
use Rattle.std.proofs.Common.{◌≡◌, refl, true, false, [], ◌∷◌, pos, Some, None}
use Rattle.ess_semantics.specs.Trees.{one_value, both_ends, low_end, number_ex, no_exs, more_exs}
use Rattle.ess_size_terms.specs.RangeForms.{is_single, is_span, pair_of, span_of}

-- One value, and a value among others.
single_value : is_single (one_value ∷ []) ≡ true
single_value = refl

value_and_range : is_single (one_value ∷ both_ends ∷ []) ≡ false
value_and_range = refl

-- One range with both bounds has them; with one bound, or beside another range, it hasn't.
both_bounds : span_of (both_ends ∷ []) (more_exs (number_ex (pos 1)) (more_exs (number_ex (pos 3)) no_exs)) ≡ Some (number_ex (pos 1), number_ex (pos 3))
both_bounds = refl

one_bound : span_of (low_end ∷ []) (more_exs (number_ex (pos 1)) no_exs) ≡ None
one_bound = refl

no_bounds : span_of (both_ends ∷ []) no_exs ≡ None
no_bounds = refl

two_ranges : is_span (both_ends ∷ both_ends ∷ []) ≡ false
two_ranges = refl

three_terms : pair_of (more_exs (number_ex (pos 1)) (more_exs (number_ex (pos 2)) (more_exs (number_ex (pos 3)) no_exs))) ≡ None
three_terms = refl
