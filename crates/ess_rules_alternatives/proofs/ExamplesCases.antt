-- Worked examples: alternatives of literals.
use Rattle.std.proofs.Common.{◌≡◌, refl, true, false, [], ◌∷◌, pos, Some, None}
use Rattle.ess_semantics.specs.declared.words.Op2.{Op2}
use Rattle.ess_semantics.specs.Trees.{tuple_literal, Ex, number_ex, name_ex, node_ex, ex2, no_exs, more_exs, no_gens, cond}
use Rattle.ess_rules_sources.specs.PureAlternatives.{alternative_of}
use Rattle.ess_rules_alternatives.specs.Cases.{tuple_pair, differs, case_of}

abbrev pub a : Ex
a = name_ex (97 ∷ [])

abbrev pub b : Ex
b = name_ex (98 ∷ [])

abbrev pub x : Ex
x = name_ex (120 ∷ [])

abbrev pub pair : Ex → Ex → Ex
pair c d = node_ex false tuple_literal (more_exs c (more_exs d no_exs))

-- A tuple of two items is a pair; one of one item isn't, nor is a name.
pub a_pair : tuple_pair (pair a b) ≡ Some (a, b)
a_pair = refl

pub one_item : tuple_pair (node_ex false tuple_literal (more_exs a no_exs)) ≡ None
one_item = refl

pub no_tuple : tuple_pair a ≡ None
no_tuple = refl

-- The result b where x is a, behind a pair with the argument b.
pub second_result : case_of (b ∷ []) x a b ≡ alternative_of (cond (ex2 true Op2.Eq x a) (cond (differs b x) no_gens)) b
second_result = refl

-- Behind one with a numeral at a numeral there is no condition on that.
abbrev pub one : Ex
one = number_ex (pos 1)

abbrev pub two : Ex
two = number_ex (pos 2)

pub another_numeral : case_of (one ∷ []) x two b ≡ alternative_of (cond (ex2 true Op2.Eq x two) no_gens) b
another_numeral = refl
