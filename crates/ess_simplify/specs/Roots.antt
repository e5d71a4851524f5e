-- What a node on simplified operands becomes, part by part.
use Rattle.std.specs.Prelude.{true, not}
use Rattle.ess_semantics.specs.declared.words.Op1.{Op1}
use Rattle.ess_semantics.specs.Trees.{Op, unary, Ex, Exs, truth_ex, node_ex, no_exs, more_exs}
use Rattle.ess_simplify.specs.declared.roots.Denial.{Denial}

-- The only one of the expressions, or `true`.
abbrev pub only : Exs → Ex
only (more_exs a no_exs) = a
only es = truth_ex true

-- The only operand, or `true`.
abbrev pub inner : Ex → Ex
inner (node_ex b op es) = only es
inner e = truth_ex true

-- What `!` makes of an operator's node.
abbrev pub denial_by : Op → Denial
denial_by (unary Op1.Not) = Denial.Undone
denial_by op = Denial.Stays

-- What `!` makes of an operand.
abbrev pub denial : Ex → Denial
denial (truth_ex v) = Denial.Says (not v)
denial (node_ex b op es) = denial_by op
denial e = Denial.Stays
