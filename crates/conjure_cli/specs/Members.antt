-- How many members the sets of the self-test have in a file of a solution.
use Rattle.std.specs.Prelude.{ℕ, zero, suc, ◌+◌, List, length, ◌++◌, Option, Some, codes, decimal}
use Rattle.ess_semantics.specs.Lists.{and_then}
use Rattle.ess_semantics.specs.Values.{Text, Value, node, a_set, to_list}
use Rattle.ess_semantics.specs.Names.{look}
use Rattle.ess_semantics.specs.Trees.{Ex, Stm}
use Rattle.ess_semantics.specs.Types.{Ty, compound1}
use Rattle.ess_semantics.specs.Meaning.{empty_env}
use Rattle.ess_semantics.specs.Literals.{literal_value}
use Rattle.ess_translate_laws.specs.FileAssignments.{value_lettings}

-- The number of members of a set, and 0 for any other value.
abbrev pub members_of : Value → ℕ
members_of (node a_set vs) = length (to_list vs)
members_of v = 0

-- The same where there may be no value.
abbrev pub members_in : Option Value → ℕ
members_in (Some v) = members_of v
members_in o = 0

-- The type of sets of numbers.
abbrev pub set_type : Ty
set_type = compound1 a_set Ty.int_ty

-- The value of a literal of this type.
abbrev pub set_of : Ex → Option Value
set_of e = literal_value e set_type empty_env

-- The name of the j-th set.
abbrev pub set_name : ℕ → Text
set_name j = codes "s" ++ decimal j

-- The members of the j-th set in the file G.
abbrev pub set_members : List Stm → ℕ → ℕ
set_members G j = members_in (and_then (look (value_lettings G) (set_name j)) set_of)

-- The members of the first k sets in all.
abbrev pub all_members : List Stm → ℕ → ℕ
all_members G zero = 0
all_members G (suc k) = all_members G k + set_members G (suc k)
