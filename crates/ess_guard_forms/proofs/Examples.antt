-- Worked examples of the forms of trees.
use Rattle.std.proofs.Common.{◌≡◌, refl, true, false, [], ◌∷◌, pos, Some, None}
use Rattle.ess_semantics.specs.declared.words.Op1.{Op1}
use Rattle.ess_semantics.specs.declared.words.Op2.{Op2}
use Rattle.ess_semantics.specs.Trees.{by_value, to_component, unary, binary, one_value, both_ends, low_end}
use Rattle.ess_semantics.specs.Trees.{number_ex, name_ex, no_exs, more_exs, bool_dom, int_dom, matrix_dom, no_doms, more_doms}
use Rattle.ess_guard_forms.specs.PartForms.{both_operands, two_bounds, one_range, two_numbers, range_within, number_within, size_is, axes_of}
use Rattle.ess_guard_forms.specs.PartForms.{first_axis, inner_axes, axes_behind, is_plain_operator}

-- ---- operands: two, and no others

two-there : both_operands (more_exs (number_ex (pos 1)) (more_exs (number_ex (pos 2)) no_exs)) ≡ Some (number_ex (pos 1), number_ex (pos 2))
two-there = refl

one-alone : both_operands (more_exs (number_ex (pos 1)) no_exs) ≡ None
one-alone = refl

three-are-not-two : both_operands (more_exs (number_ex (pos 1)) (more_exs (number_ex (pos 2)) (more_exs (number_ex (pos 3)) no_exs))) ≡ None
three-are-not-two = refl

-- ---- ranges

-- `int(1..4)`
one-to-four : two_numbers (one_range (int_dom (both_ends ∷ []) (more_exs (number_ex (pos 1)) (more_exs (number_ex (pos 4)) no_exs))))
    ≡ Some (pos 1, pos 4)
one-to-four = refl

-- `int(1..)` has no two bounds.
open-range : one_range (int_dom (low_end ∷ []) (more_exs (number_ex (pos 1)) no_exs)) ≡ None
open-range = refl

-- `int(1, 4)` has two values, which are no bounds of one range.
two-values : one_range (int_dom (one_value ∷ one_value ∷ []) (more_exs (number_ex (pos 1)) (more_exs (number_ex (pos 4)) no_exs))) ≡ None
two-values = refl

-- Bounds that are no numbers.
bound-named : two_numbers (two_bounds (both_ends ∷ []) (more_exs (number_ex (pos 1)) (more_exs (name_ex (110 ∷ [])) no_exs))) ≡ None
bound-named = refl

within-there : range_within (Some (pos 2, pos 3)) (Some (pos 1, pos 4)) false ≡ true
within-there = refl

within-neither : range_within (Some (pos 0, pos 3)) (Some (pos 1, pos 4)) true ≡ false
within-neither = refl

within-said : range_within None (Some (pos 1, pos 4)) true ≡ true
within-said = refl

number-at-the-end : number_within (pos 4) (Some (pos 1, pos 4)) ≡ true
number-at-the-end = refl

number-behind : number_within (pos 5) (Some (pos 1, pos 4)) ≡ false
number-behind = refl

-- From 3 to 5 there are three numbers.
size-three : size_is (Some (pos 3, pos 5)) 3 ≡ true
size-three = refl

size-two : size_is (Some (pos 3, pos 5)) 2 ≡ false
size-two = refl

size-none : size_is (Some (pos 3, pos 2)) 0 ≡ false
size-none = refl

-- ---- index domains

axes-of-matrix : axes_of (Some (matrix_dom (more_doms bool_dom no_doms) bool_dom)) ≡ Some (more_doms bool_dom no_doms)
axes-of-matrix = refl

axes-of-none : axes_of (Some bool_dom) ≡ None
axes-of-none = refl

first-there : first_axis (Some (more_doms bool_dom no_doms)) ≡ Some bool_dom
first-there = refl

-- The items of a matrix of one index domain are no matrices.
inner-of-one : inner_axes (Some (more_doms bool_dom no_doms)) ≡ None
inner-of-one = refl

-- `m[1]` of a matrix of two index domains, and `m[1, 2]`.
behind-one : axes_behind (Some (more_doms bool_dom (more_doms bool_dom no_doms))) (by_value ∷ []) (more_exs (number_ex (pos 1)) no_exs)
    ≡ Some (more_doms bool_dom no_doms)
behind-one = refl

behind-two : axes_behind (Some (more_doms bool_dom (more_doms bool_dom no_doms))) (by_value ∷ by_value ∷ [])
    (more_exs (number_ex (pos 1)) (more_exs (number_ex (pos 2)) no_exs)) ≡ None
behind-two = refl

behind-component : axes_behind (Some (more_doms bool_dom no_doms)) (to_component 1 ∷ []) no_exs ≡ None
behind-component = refl

-- ---- operators, representations

minus-is-plain : is_plain_operator (unary Op1.Minus) ≡ true
minus-is-plain = refl

quotient-is-not : is_plain_operator (binary Op2.Div) ≡ false
quotient-is-not = refl
