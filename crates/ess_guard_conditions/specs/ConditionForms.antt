-- Conditions by the parts that trees of one form have.
use Rattle.std.specs.Prelude.{Bool, true, false, List, [], ◌∷◌, Option, Some, None}
use Rattle.ess_semantics.specs.declared.words.Op2.{Op2}
use Rattle.ess_semantics.specs.declared.words.ReprKind.{ReprKind}
use Rattle.ess_semantics.specs.Values.{Text}
use Rattle.ess_semantics.specs.Names.{Names}
use Rattle.ess_semantics.specs.Trees.{Repr, repr, more_reprs, tuple_literal, Ex, Exs, truth_ex, node_ex, no_exs, more_exs, Dom, function_dom, ex2}
use Rattle.ess_rules_laws.specs.Apart.{are_apart}
use Rattle.ess_guard_laws.specs.Origins.{Origin, is_sure}
use Rattle.ess_guard_laws.specs.Conditions.{as_number, members_of, chained}
use Rattle.ess_guard_forms.specs.PartForms.{both_operands}

-- What is said of two operands, where they are the only ones, else nothing.
abbrev pub of_pair : Option (Ex × Ex) → (Ex → Ex → List Ex) → List Ex
of_pair (Some (a, b)) f = f a b
of_pair None f = []

-- What is said of an operand, where it is the only one, else nothing.
abbrev pub of_only : Exs → (Ex → List Ex) → List Ex
of_only (more_exs a no_exs) f = f a
of_only es f = []

-- That i is in a domain, whose bounds are given where it has one range.
abbrev pub within_bounds : Text → Ex → Dom → Option (Ex × Ex) → Ex
within_bounds x i d (Some (a, b)) = ex2 true Op2.And (ex2 true Op2.Le (as_number [] a) i) (ex2 true Op2.Le i (as_number [] b))
within_bounds x i d None = ex2 true Op2.Member i (members_of x d)

-- Whether it is the representation of a total function that is kept for each argument of its domain.
abbrev pub is_by_argument : Repr → Bool
is_by_argument (repr ReprKind.Function1D (more_reprs r rs)) = true
is_by_argument r = false

-- Whether it is a domain of functions, and the term is sure to be one of their arguments.
abbrev pub is_among_arguments : Names Origin → Ex → Dom → Bool
is_among_arguments k a (function_dom ms es d c) = is_sure k a d
is_among_arguments k a d = false

-- The two parts of a pair.
abbrev pub pair_of : Ex → Option (Ex × Ex)
pair_of (node_ex false tuple_literal es) = both_operands es
pair_of e = None

-- `a = c -> b = d` of two pairs.
abbrev pub pairs_agree : Option (Ex × Ex) → Option (Ex × Ex) → Ex
pairs_agree (Some (a, b)) (Some (c, d)) = ex2 true Op2.Implies (ex2 true Op2.Eq a c) (ex2 true Op2.Eq b d)
pairs_agree p q = truth_ex true

-- Whether two pairs have different arguments, by their form.
abbrev pub are_pairs_apart : Option (Ex × Ex) → Option (Ex × Ex) → Bool
are_pairs_apart (Some (a, b)) (Some (c, d)) = are_apart a c
are_pairs_apart p q = false

-- A Boolean under conditions, each asked under those before it.
abbrev pub under_each : List Ex → Ex → Ex
under_each [] e = e
under_each (c ∷ cs) e = chained (c ∷ []) (under_each cs e)
