-- Domains that generators of models run over, and the operators `!` and that of lists.
use Rattle.std.specs.Prelude.{Bool, true, false, ◌&&◌}
use Rattle.ess_semantics.specs.declared.words.Op1.{Op1}
use Rattle.ess_semantics.specs.Trees.{Op, unary, matrix_literal, Dom, bool_dom, int_dom, name_dom}
use Rattle.ess_semantics.specs.Refined.{are_refined}
use Rattle.ess_semantics.specs.Kinds.{is_bounded}

-- Whether the domain is bool, a named type, or bounded ranges with refined bounds.
abbrev pub is_ranged : Dom → Bool
is_ranged bool_dom = true
is_ranged (name_dom t) = true
is_ranged (int_dom rs es) = is_bounded rs && are_refined es
is_ranged d = false

-- Whether the operator is `!`.
abbrev pub is_denial : Op → Bool
is_denial (unary Op1.Not) = true
is_denial op = false

-- Whether the operator makes a list of its operands.
abbrev pub is_list : Op → Bool
is_list matrix_literal = true
is_list op = false
