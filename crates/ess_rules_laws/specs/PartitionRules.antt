-- The rule of `=` between partitions: each part of one lies in a part of the other.
use Rattle.std.specs.Prelude.{Bool, true, false, Option, Some, None, if◌then◌else◌}
use Rattle.ess_semantics.specs.declared.words.Op2.{Op2}
use Rattle.ess_semantics.specs.declared.words.Fun.{Fun}
use Rattle.ess_semantics.specs.Values.{Text, a_partition}
use Rattle.ess_semantics.specs.Names.{Names}
use Rattle.ess_semantics.specs.Trees.{word, Ex, name_ex, node_ex, ex2, no_exs, more_exs}
use Rattle.ess_semantics.specs.Types.{Ty, compound}
use Rattle.ess_semantics.specs.Typing.{type_of}
use Rattle.ess_rules_laws.specs.InclusionRules.{every}

-- Whether both are partitions.
abbrev pub both_partitions : Option Ty → Option Ty → Bool
both_partitions (Some (compound a_partition ts)) (Some (compound a_partition us)) = true
both_partitions t u = false

-- `together(s, p)`: the members of s stand in one part of p.
abbrev pub lie_together : Ex → Ex → Ex
lie_together s p = node_ex true (word Fun.Together) (more_exs s (more_exs p no_exs))

-- Of partitions `a = b` is `and([together(x, b) | x <- a]) /\ and([together(x, a) | x <- b])`.
abbrev pub equal_parts : Names Ty → Text → Ex → Option Ex
equal_parts g x (ex2 true Op2.Eq a b) =
    if both_partitions (type_of a g) (type_of b g)
    then Some (ex2 true Op2.And (every x a (lie_together (name_ex x) b)) (every x b (lie_together (name_ex x) a))) else None
equal_parts g x e = None
