-- Rules of the signs of inclusion, and of `=` and `!=` between containers.
use Rattle.std.specs.Prelude.{Bool, true, false, ◌||◌, Option, Some, None, if◌then◌else◌}
use Rattle.ess_semantics.specs.declared.words.Op1.{Op1}
use Rattle.ess_semantics.specs.declared.words.Op2.{Op2}
use Rattle.ess_semantics.specs.declared.words.Fun.{Fun}
use Rattle.ess_semantics.specs.Values.{Text, a_set, a_mset, a_function, a_relation}
use Rattle.ess_semantics.specs.Names.{Names}
use Rattle.ess_semantics.specs.Trees.{word, name_pat, Ex, name_ex, node_ex, comp_ex, ex1, ex2, fun1, no_exs, more_exs, no_gens, from}
use Rattle.ess_semantics.specs.Types.{Ty, compound}
use Rattle.ess_semantics.specs.Typing.{type_of}

-- The body holds of each x of the container.
abbrev pub every : Text → Ex → Ex → Ex
every x s body = fun1 true Fun.And (comp_ex body (from (name_pat x) s no_gens))

-- How often x is in the container.
abbrev pub frequency : Ex → Ex → Ex
frequency m x = node_ex false (word Fun.Freq) (more_exs m (more_exs x no_exs))

-- Whether both are sets, or both relations: their lists rise strictly.
abbrev pub both_sets : Option Ty → Option Ty → Bool
both_sets (Some (compound a_set ts)) (Some (compound a_set us)) = true
both_sets (Some (compound a_relation ts)) (Some (compound a_relation us)) = true
both_sets t u = false

-- Whether both are multisets.
abbrev pub both_msets : Option Ty → Option Ty → Bool
both_msets (Some (compound a_mset ts)) (Some (compound a_mset us)) = true
both_msets t u = false

-- `a != b` is `!(a = b)`, where a and b have values.
abbrev pub unequal : Ex → Option Ex
unequal (ex2 true Op2.Ne a b) = Some (ex1 true Op1.Not (ex2 true Op2.Eq a b))
unequal e = None

-- `a supsetEq b` is `b subsetEq a`, and `a supset b` is `b subset a`.
abbrev pub included_turned : Ex → Option Ex
included_turned (ex2 true Op2.SupsetEq a b) = Some (ex2 true Op2.SubsetEq b a)
included_turned (ex2 true Op2.Supset a b) = Some (ex2 true Op2.Subset b a)
included_turned e = None

-- `a subset b` is `a subsetEq b /\ !(b subsetEq a)`.
abbrev pub included_strictly : Names Ty → Text → Ex → Option Ex
included_strictly g x (ex2 true Op2.Subset a b) =
    if both_sets (type_of a g) (type_of b g) || both_msets (type_of a g) (type_of b g)
    then Some (ex2 true Op2.And (ex2 true Op2.SubsetEq a b) (ex1 true Op1.Not (ex2 true Op2.SubsetEq b a))) else None
included_strictly g x e = None

-- Of sets and relations `a subsetEq b` is `and([x in b | x <- a])`.
abbrev pub included_members : Names Ty → Text → Ex → Option Ex
included_members g x (ex2 true Op2.SubsetEq a b) = if both_sets (type_of a g) (type_of b g) then Some (every x a (ex2 true Op2.Member (name_ex x) b)) else None
included_members g x e = None

-- Of multisets it is `and([freq(a, x) <= freq(b, x) | x <- a])`, which is so of any containers.
abbrev pub included_often : Text → Ex → Option Ex
included_often x (ex2 true Op2.SubsetEq a b) = Some (every x a (ex2 true Op2.Le (frequency a (name_ex x)) (frequency b (name_ex x))))
included_often x e = None

-- Of sets and relations `a = b` is `and([x in b | x <- a]) /\ and([x in a | x <- b])`.
abbrev pub equal_members : Names Ty → Text → Ex → Option Ex
equal_members g x (ex2 true Op2.Eq a b) =
    if both_sets (type_of a g) (type_of b g)
    then Some (ex2 true Op2.And (every x a (ex2 true Op2.Member (name_ex x) b)) (every x b (ex2 true Op2.Member (name_ex x) a))) else None
equal_members g x e = None

-- Of multisets it is `and([freq(a, x) = freq(b, x) | x <- toSet(a)]) /\ and([x in a | x <- b])`.
abbrev pub equal_often : Names Ty → Text → Ex → Option Ex
equal_often g x (ex2 true Op2.Eq a b) =
    if both_msets (type_of a g) (type_of b g)
    then Some (ex2 true Op2.And (every x (fun1 false Fun.ToSet a) (ex2 true Op2.Eq (frequency a (name_ex x)) (frequency b (name_ex x)))) (every x b (ex2 true Op2.Member (name_ex x) a)))
    else None
equal_often g x e = None

-- Whether both are functions.
abbrev pub both_functions : Option Ty → Option Ty → Bool
both_functions (Some (compound a_function ts)) (Some (compound a_function us)) = true
both_functions t u = false

-- Of functions it is `and([x in toRelation(b) | x <- a]) /\ and([x in toRelation(a) | x <- b])`.
abbrev pub equal_pairs : Names Ty → Text → Ex → Option Ex
equal_pairs g x (ex2 true Op2.Eq a b) =
    if both_functions (type_of a g) (type_of b g)
    then Some (ex2 true Op2.And (every x a (ex2 true Op2.Member (name_ex x) (fun1 false Fun.ToRelation b))) (every x b (ex2 true Op2.Member (name_ex x) (fun1 false Fun.ToRelation a))))
    else None
equal_pairs g x e = None
