-- Parts of trees that have one form, where they have it.
use Rattle.std.specs.Prelude.{ℕ, suc, Bool, true, false, List, [], ◌∷◌, ℤ, pos, ◌+ℤ◌, Option, Some, None}
use Rattle.ess_semantics.specs.declared.words.Op1.{Op1}
use Rattle.ess_semantics.specs.declared.words.Op2.{Op2}
use Rattle.ess_semantics.specs.Order.{same_int}
use Rattle.ess_semantics.specs.Trees.{Step, by_value, Op, unary, binary, Ends, both_ends}
use Rattle.ess_semantics.specs.Trees.{Ex, Exs, number_ex, no_exs, more_exs}
use Rattle.ess_semantics.specs.Trees.{Dom, Doms, more_doms, int_dom, matrix_dom}
use Rattle.ess_guard_laws.specs.Origins.{holds_range}

-- Two operands, where they are the only ones.
abbrev pub both_operands : Exs → Option (Ex × Ex)
both_operands (more_exs a (more_exs b no_exs)) = Some (a, b)
both_operands es = None

-- The two bounds of one range.
abbrev pub two_bounds : List Ends → Exs → Option (Ex × Ex)
two_bounds (both_ends ∷ []) es = both_operands es
two_bounds rs es = None

-- The bounds of a domain of one range with both.
abbrev pub one_range : Dom → Option (Ex × Ex)
one_range (int_dom rs es) = two_bounds rs es
one_range d = None

-- Two bounds that are numbers.
abbrev pub two_numbers : Option (Ex × Ex) → Option (ℤ × ℤ)
two_numbers (Some (number_ex a, number_ex b)) = Some (a, b)
two_numbers o = None

-- Whether two ranges of numbers are given, and the second holds the first; else what is said.
abbrev pub range_within : Option (ℤ × ℤ) → Option (ℤ × ℤ) → Bool → Bool
range_within (Some (a, b)) (Some (c, d)) said = holds_range c d a b
range_within o u said = said

-- Whether a range of numbers is given that holds this one.
abbrev pub number_within : ℤ → Option (ℤ × ℤ) → Bool
number_within n (Some (a, b)) = holds_range a b n n
number_within n None = false

-- Whether a range of numbers is given that has this many.
abbrev pub size_is : Option (ℤ × ℤ) → ℕ → Bool
size_is (Some (a, b)) (suc n) = same_int b (a +ℤ pos n)
size_is o n = false

-- The index domains of a domain of matrices.
abbrev pub axes_of : Option Dom → Option Doms
axes_of (Some (matrix_dom is d)) = Some is
axes_of o = None

-- The first of index domains.
abbrev pub first_axis : Option Doms → Option Dom
first_axis (Some (more_doms i is)) = Some i
first_axis o = None

-- The index domains behind the first one, where there are some.
abbrev pub inner_axes : Option Doms → Option Doms
inner_axes (Some (more_doms i (more_doms j is))) = Some (more_doms j is)
inner_axes o = None

-- The index domains behind several steps by the values of these operands.
abbrev pub axes_behind : Option Doms → List Step → Exs → Option Doms
axes_behind o [] no_exs = o
axes_behind o (by_value ∷ qs) (more_exs i is) = axes_behind (inner_axes o) qs is
axes_behind o qs is = None

-- Whether the operator is one of sums, differences and products.
abbrev pub is_plain_operator : Op → Bool
is_plain_operator (unary Op1.Minus) = true
is_plain_operator (binary Op2.Plus) = true
is_plain_operator (binary Op2.Minus) = true
is_plain_operator (binary Op2.Times) = true
is_plain_operator op = false
