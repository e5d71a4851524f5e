-- Rules of `in`.
use Rattle.std.specs.Prelude.{Bool, true, false, Option, Some, None, if◌then◌else◌, IsTrue, is_some}
use Rattle.std.specs.List.{list_all}
use Rattle.ess_semantics.specs.declared.words.Op1.{Op1}
use Rattle.ess_semantics.specs.declared.words.Op2.{Op2}
use Rattle.ess_semantics.specs.declared.words.Fun.{Fun}
use Rattle.ess_semantics.specs.Values.{Text, a_set, a_mset, a_relation, Value, node}
use Rattle.ess_semantics.specs.Names.{Names}
use Rattle.ess_semantics.specs.Trees.{set_literal, mset_literal, relation_literal, matrix_literal, name_pat, Ex, Exs, name_ex, node_ex, comp_ex, ex1, ex2, fun1, no_exs, more_exs, no_gens, from}
use Rattle.ess_semantics.specs.Types.{Ty, compound}
use Rattle.ess_semantics.specs.Typing.{type_of}
use Rattle.ess_semantics.specs.Meaning.{Env, meaning, meanings}

-- `x in s` is `or([y = x | y <- s])`.
abbrev pub member_term : Text → Ex → Option Ex
member_term y (ex2 true Op2.Member a s) = Some (fun1 true Fun.Or (comp_ex (ex2 true Op2.Eq (name_ex y) a) (from (name_pat y) s no_gens)))
member_term y e = None

-- `x in (a union b)` is `x in a \/ x in b`, `x in (a intersect b)` is `x in a /\ x in b`, and `x in (a - b)` is
-- `x in a /\ !(x in b)`.
abbrev pub member_combined : Ex → Option Ex
member_combined (ex2 true Op2.Member x (ex2 false Op2.Union a b)) = Some (ex2 true Op2.Or (ex2 true Op2.Member x a) (ex2 true Op2.Member x b))
member_combined (ex2 true Op2.Member x (ex2 false Op2.Intersect a b)) = Some (ex2 true Op2.And (ex2 true Op2.Member x a) (ex2 true Op2.Member x b))
member_combined (ex2 true Op2.Member x (ex2 false Op2.Minus a b)) = Some (ex2 true Op2.And (ex2 true Op2.Member x a) (ex1 true Op1.Not (ex2 true Op2.Member x b)))
member_combined e = None

-- Whether the type is of containers of which `in` asks: it asks of no function, no partition and no matrix.
abbrev pub is_asked : Option Ty → Bool
is_asked (Some (compound a_set ts)) = true
is_asked (Some (compound a_mset ts)) = true
is_asked (Some (compound a_relation ts)) = true
is_asked t = false

-- That x is a member of m: `x in m` where `in` asks of m, else `or([y = x | y <- m])`.
abbrev pub member_of : Names Ty → Text → Ex → Ex → Option Ex
member_of g y x m = if is_asked (type_of m g) then Some (ex2 true Op2.Member x m) else member_term y (ex2 true Op2.Member x m)

-- A set made of a multiset, list, function or relation has the same members, so has a multiset made of a set or a list, and so have
-- the parts of a partition.
abbrev pub member_changed : Names Ty → Text → Ex → Option Ex
member_changed g y (ex2 true Op2.Member x (fun1 false Fun.ToSet m)) = member_of g y x m
member_changed g y (ex2 true Op2.Member x (fun1 false Fun.ToMSet s)) = member_of g y x s
member_changed g y (ex2 true Op2.Member x (fun1 false Fun.Parts p)) = member_of g y x p
member_changed g y e = None

-- That x is one of these.
abbrev pub equations : Ex → Exs → Exs
equations x no_exs = no_exs
equations x (more_exs a es) = more_exs (ex2 true Op2.Eq x a) (equations x es)

-- `x in {a, b, ..}` is `or([x = a, x = b, ..])`.
abbrev pub member_listed : Ex → Option Ex
member_listed (ex2 true Op2.Member x (node_ex false set_literal es)) = Some (fun1 true Fun.Or (node_ex false matrix_literal (equations x es)))
member_listed (ex2 true Op2.Member x (node_ex false mset_literal es)) = Some (fun1 true Fun.Or (node_ex false matrix_literal (equations x es)))
member_listed (ex2 true Op2.Member x (node_ex false relation_literal es)) = Some (fun1 true Fun.Or (node_ex false matrix_literal (equations x es)))
member_listed e = None

-- There is a set or a relation.
abbrev pub IsContainer : Option Value → Type 0
IsContainer (Some (node a_set vs)) = Unit {0}
IsContainer (Some (node a_relation vs)) = Unit {0}
IsContainer o = ⊥

-- What `member_combined` counts on: the terms that are combined are there, the first one a set or a relation.
abbrev pub CombinedThere : Ex → Env → Type 0
CombinedThere (ex2 true Op2.Member x (ex2 false o a b)) env = IsContainer (meaning a env) × IsTrue (is_some (meaning b env))
CombinedThere e env = Unit {0}

-- What `member_listed` counts on: the items of the literal have values.
abbrev pub ItemsThere : Ex → Env → Type 0
ItemsThere (ex2 true Op2.Member x (node_ex false op es)) env = IsTrue (list_all is_some (meanings es env))
ItemsThere e env = Unit {0}
