-- Rules of `|..|`, `freq` and `together`.
use Rattle.std.specs.Prelude.{Bool, true, false, pos, Option, Some, None, if◌then◌else◌}
use Rattle.ess_semantics.specs.declared.words.Op1.{Op1}
use Rattle.ess_semantics.specs.declared.words.Op2.{Op2}
use Rattle.ess_semantics.specs.declared.words.Fun.{Fun}
use Rattle.ess_semantics.specs.Values.{Text, a_set, a_mset, a_function, a_relation}
use Rattle.ess_semantics.specs.Names.{Names}
use Rattle.ess_semantics.specs.Trees.{word, name_pat, Ex, number_ex, name_ex, node_ex, comp_ex, ex1, ex2, fun1, no_exs, more_exs, no_gens, from, cond}
use Rattle.ess_semantics.specs.Types.{Ty, compound}
use Rattle.ess_semantics.specs.Typing.{type_of}

-- Whether the type is of containers with members, pairs or tuples.
abbrev pub is_counted : Option Ty → Bool
is_counted (Some (compound a_set ts)) = true
is_counted (Some (compound a_mset ts)) = true
is_counted (Some (compound a_function ts)) = true
is_counted (Some (compound a_relation ts)) = true
is_counted t = false

-- `|s|` is `sum([1 | x <- s])`.
abbrev pub size_term : Names Ty → Text → Ex → Option Ex
size_term g x (ex1 false Op1.Bar s) = if is_counted (type_of s g) then Some (fun1 false Fun.Sum (comp_ex (number_ex (pos 1)) (from (name_pat x) s no_gens))) else None
size_term g x e = None

-- `freq(m, a)` is `sum([1 | x <- m, x = a])`.
abbrev pub frequency_term : Text → Ex → Option Ex
frequency_term x (node_ex false (word Fun.Freq) (more_exs m (more_exs a no_exs))) =
    Some (fun1 false Fun.Sum (comp_ex (number_ex (pos 1)) (from (name_pat x) m (cond (ex2 true Op2.Eq (name_ex x) a) no_gens))))
frequency_term x e = None

-- `together(s, p)` is `or([s subsetEq q | q <- parts(p)])`.
abbrev pub together_term : Text → Ex → Option Ex
together_term q (node_ex true (word Fun.Together) (more_exs s (more_exs p no_exs))) =
    Some (fun1 true Fun.Or (comp_ex (ex2 true Op2.SubsetEq s (name_ex q)) (from (name_pat q) (fun1 false Fun.Parts p) no_gens)))
together_term q e = None
