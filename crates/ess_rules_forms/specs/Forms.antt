-- Forms that several rules share: the parts of a tree that has the form, and nothing of another.
use Rattle.std.specs.Prelude.{Bool, true, false, Option, Some, None}
use Rattle.ess_semantics.specs.declared.words.Op2.{Op2}
use Rattle.ess_semantics.specs.declared.words.Fun.{Fun}
use Rattle.ess_semantics.specs.Trees.{Op, Ex, Exs, node_ex, ex2, fun1, matrix_literal, no_exs, more_exs}

-- The only operand.
abbrev pub only_operand : Exs → Option Ex
only_operand (more_exs a no_exs) = Some a
only_operand es = None

-- Two operands, where they are the only ones.
abbrev pub both_operands : Exs → Option (Ex × Ex)
both_operands (more_exs a (more_exs b no_exs)) = Some (a, b)
both_operands es = None

-- A Boolean operator between two operands.
abbrev pub truth_pair : Ex → Option (Op2 × (Ex × Ex))
truth_pair (ex2 true o a b) = Some (o, (a, b))
truth_pair e = None

-- An operator between two operands that isn't Boolean.
abbrev pub plain_pair : Ex → Option (Op2 × (Ex × Ex))
plain_pair (ex2 false o a b) = Some (o, (a, b))
plain_pair e = None

-- A function word on one operand that isn't Boolean.
abbrev pub plain_word : Ex → Option (Fun × Ex)
plain_word (fun1 false f a) = Some (f, a)
plain_word e = None

-- An operator with its operands that isn't Boolean.
abbrev pub plain_node : Ex → Option (Op × Exs)
plain_node (node_ex false op es) = Some (op, es)
plain_node e = None

-- Whether it is the list of no items.
abbrev pub is_nothing : Ex → Bool
is_nothing (node_ex false matrix_literal no_exs) = true
is_nothing e = false

-- What a rule makes of a Boolean operator between two operands.
abbrev pub of_pair : (Ex → Option Ex) → Option (Op2 × (Ex × Ex)) → Option Ex
of_pair f None = None
of_pair f (Some p) = f (ex2 true p.0 p.1.0 p.1.1)

-- The same of one that isn't Boolean.
abbrev pub of_plain_pair : (Ex → Option Ex) → Option (Op2 × (Ex × Ex)) → Option Ex
of_plain_pair f None = None
of_plain_pair f (Some p) = f (ex2 false p.0 p.1.0 p.1.1)

-- The same of a function word on one operand.
abbrev pub of_plain_word : (Ex → Option Ex) → Option (Fun × Ex) → Option Ex
of_plain_word f None = None
of_plain_word f (Some p) = f (fun1 false p.0 p.1)

-- The same of the only operand.
abbrev pub of_only : (Ex → Option Ex) → Option Ex → Option Ex
of_only f None = None
of_only f (Some a) = f a

-- The same of two operands.
abbrev pub of_both : (Ex → Ex → Option Ex) → Option (Ex × Ex) → Option Ex
of_both f None = None
of_both f (Some p) = f p.0 p.1

-- Whether a test of a Boolean operator between two operands holds.
abbrev pub holds_of_pair : (Ex → Bool) → Option (Op2 × (Ex × Ex)) → Bool
holds_of_pair f None = false
holds_of_pair f (Some p) = f (ex2 true p.0 p.1.0 p.1.1)
