-- Rules of operators on literals: a component of a tuple, `allDiff` of a list, and `min` and `max` of a set or multiset.
use Rattle.std.specs.Prelude.{Bool, true, false, [], ◌∷◌, ℕ, zero, suc, Option, Some, None, IsTrue, is_some}
use Rattle.std.specs.List.{list_all}
use Rattle.ess_semantics.specs.declared.words.Op2.{Op2}
use Rattle.ess_semantics.specs.declared.words.Fun.{Fun}
use Rattle.ess_semantics.specs.Trees.{to_component, index, tuple_literal, set_literal, mset_literal, matrix_literal, Ex, Exs, node_ex, ex2, fun1, no_exs, more_exs}
use Rattle.ess_semantics.specs.Meaning.{Env, meaning, meanings}
use Rattle.ess_rules_laws.specs.Rules.{IsTruth}

-- The k-th of these, from 1.
abbrev pub nth : Exs → ℕ → Option Ex
nth (more_exs a es) (suc zero) = Some a
nth (more_exs a es) (suc n) = nth es n
nth es k = None

-- `(a, b, ..)[k]` is the k-th of these.
abbrev pub component_listed : Ex → Option Ex
component_listed (node_ex b (index (to_component k ∷ [])) (more_exs (node_ex false tuple_literal es) no_exs)) = nth es k
component_listed e = None

-- There is a truth value, where the place is Boolean.
abbrev pub FitsMark : Bool → Option Ex → Env → Type 0
FitsMark true (Some a) env = IsTruth (meaning a env)
FitsMark b o env = Unit {0}

-- What it counts on: the items have values, the picked one a truth value where the component is Boolean.
abbrev pub ComponentFits : Ex → Env → Type 0
ComponentFits (node_ex b (index (to_component k ∷ [])) (more_exs (node_ex false op es) no_exs)) env =
    IsTrue (list_all is_some (meanings es env)) × FitsMark b (nth es k) env
ComponentFits e env = Unit {0}

-- That none of these is a, before others.
abbrev pub unequal_each : Ex → Exs → Exs → Exs
unequal_each a no_exs rest = rest
unequal_each a (more_exs b es) rest = more_exs (ex2 true Op2.Ne b a) (unequal_each a es rest)

-- That no two of these are equal.
abbrev pub unequal_pairs : Exs → Exs
unequal_pairs no_exs = no_exs
unequal_pairs (more_exs a es) = unequal_each a es (unequal_pairs es)

-- `allDiff([a, b, c, ..])` is `and([b != a, c != a, .., c != b, ..])`.
abbrev pub different_listed : Ex → Option Ex
different_listed (fun1 true Fun.AllDiff (node_ex false matrix_literal es)) =
    Some (fun1 true Fun.And (node_ex false matrix_literal (unequal_pairs es)))
different_listed e = None

-- What it counts on: the items have values.
abbrev pub ListThere : Ex → Env → Type 0
ListThere (fun1 b f (node_ex c op es)) env = IsTrue (list_all is_some (meanings es env))
ListThere e env = Unit {0}

-- `min({a, b, ..})` is `min([a, b, ..])`. So it is of multisets, and with `max`.
abbrev pub extreme_listed : Ex → Option Ex
extreme_listed (fun1 m Fun.Min (node_ex false set_literal es)) = Some (fun1 m Fun.Min (node_ex false matrix_literal es))
extreme_listed (fun1 m Fun.Max (node_ex false set_literal es)) = Some (fun1 m Fun.Max (node_ex false matrix_literal es))
extreme_listed (fun1 m Fun.Min (node_ex false mset_literal es)) = Some (fun1 m Fun.Min (node_ex false matrix_literal es))
extreme_listed (fun1 m Fun.Max (node_ex false mset_literal es)) = Some (fun1 m Fun.Max (node_ex false matrix_literal es))
extreme_listed e = None
