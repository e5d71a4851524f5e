-- Rules of `in` what is made of a function: its arguments, its results, the arguments of a result, and its pairs.
use Rattle.std.specs.Prelude.{true, false, ℕ, Option, Some, None}
use Rattle.ess_semantics.specs.declared.words.Op2.{Op2}
use Rattle.ess_semantics.specs.declared.words.Fun.{Fun}
use Rattle.ess_semantics.specs.Values.{Text, a_function}
use Rattle.ess_semantics.specs.Names.{Names}
use Rattle.ess_semantics.specs.Trees.{word, tuple_literal, name_pat, Ex, name_ex, node_ex, comp_ex, ex2, fun1, no_exs, more_exs, no_gens, from}
use Rattle.ess_semantics.specs.Types.{Ty, compound2}
use Rattle.ess_semantics.specs.Typing.{type_of}
use Rattle.ess_rules_laws.specs.ComponentRules.{component_of}

-- That the k-th component, which is of type t, of some pair of f is a.
abbrev pub some_component : Text → ℕ → Ty → Ex → Ex → Ex
some_component y k t a f = fun1 true Fun.Or (comp_ex (ex2 true Op2.Eq (component_of t k (name_ex y)) a) (from (name_pat y) f no_gens))

-- The pair of two terms.
abbrev pub pair_ex : Ex → Ex → Ex
pair_ex a b = node_ex false tuple_literal (more_exs a (more_exs b no_exs))

-- Where f is a function, an argument of it.
abbrev pub an_argument : Option Ty → Text → Ex → Ex → Option Ex
an_argument (Some (compound2 a_function t u)) y a f = Some (some_component y 1 t a f)
an_argument t y a f = None

-- Where f is a function, a result of it.
abbrev pub a_result : Option Ty → Text → Ex → Ex → Option Ex
a_result (Some (compound2 a_function t u)) y a f = Some (some_component y 2 u a f)
a_result t y a f = None

-- Where f is a function, an argument at which it gives b.
abbrev pub a_source : Option Ty → Ex → Ex → Ex → Option Ex
a_source (Some (compound2 a_function t u)) a f b = Some (ex2 true Op2.Member (pair_ex a b) (fun1 false Fun.ToRelation f))
a_source t a f b = None

-- `a in defined(f)` is `or([y[1] = a | y <- f])`, `a in range(f)` is `or([y[2] = a | y <- f])`, and `a in preImage(f, b)` is
-- `(a, b) in toRelation(f)`.
abbrev pub member_of_function : Names Ty → Text → Ex → Option Ex
member_of_function g y (ex2 true Op2.Member a (fun1 false Fun.Defined f)) = an_argument (type_of f g) y a f
member_of_function g y (ex2 true Op2.Member a (fun1 false Fun.Range f)) = a_result (type_of f g) y a f
member_of_function g y (ex2 true Op2.Member a (node_ex false (word Fun.PreImage) (more_exs f (more_exs b no_exs)))) =
    a_source (type_of f g) a f b
member_of_function g y e = None

-- `p in toRelation(f)` is `or([y = p | y <- f])`.
abbrev pub member_related : Text → Ex → Option Ex
member_related y (ex2 true Op2.Member p (fun1 false Fun.ToRelation f)) =
    Some (fun1 true Fun.Or (comp_ex (ex2 true Op2.Eq (name_ex y) p) (from (name_pat y) f no_gens)))
member_related y e = None
