-- An index of the literal `[]` has the type of an empty literal's members whatever the index is, and no value. The judgement of types takes
-- it; a tree with one under conditions may have no type, so it is left out.
use Rattle.std.specs.Prelude.{Bool, true, false, not}
use Rattle.ess_semantics.specs.Trees.{Op, index, matrix_literal, Ex, Exs, node_ex, no_exs, more_exs}
use Rattle.ess_semantics.specs.Scopes.{Scope, Asked, asking}

-- Whether it is the literal `[]`.
abbrev pub is_nothing : Ex → Bool
is_nothing (node_ex b matrix_literal no_exs) = true
is_nothing e = false

-- Whether the operator is no index of it.
abbrev pub is_index_of_items : Op → Exs → Bool
is_index_of_items (index qs) (more_exs m is) = not (is_nothing m)
is_index_of_items op es = true

-- Whether the expression is none.
abbrev pub indexes_something : Ex → Scope → Bool
indexes_something (node_ex b op es) s = is_index_of_items op es
indexes_something e s = true

-- What is asked of each part: that it is no index of `[]`.
abbrev pub indexing : Asked
indexing = record asking { of_ex = indexes_something }
