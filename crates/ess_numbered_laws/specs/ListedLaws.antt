-- What is said of lists in place of matrices that aren't numbered from 1.
use Rattle.std.specs.Prelude.{◌≡◌, ℕ, zero, suc, true, false, [], ◌∷◌, Some, IsTrue, is_some, option_map}
use Rattle.ess_semantics.specs.Values.{Text, items_of}
use Rattle.ess_semantics.specs.Names.{Names}
use Rattle.ess_semantics.specs.NamesAt.{names_behind}
use Rattle.ess_semantics.specs.Trees.{by_value, index, matrix_literal, name_pat, Ex, Exs, node_ex, matrix_ex, comp_ex, seen_ex, no_exs, more_exs, from, Dom, ex2}
use Rattle.ess_semantics.specs.Types.{Ty, type_of_dom}
use Rattle.ess_semantics.specs.Contexts.{AtEach}
use Rattle.ess_semantics.specs.Meaning.{Env, meaning}
use Rattle.ess_semantics.specs.Kept.{Keeps}
use Rattle.ess_guard_laws.specs.IndexDomains.{first_index, plain_axis}
use Rattle.ess_rules_laws.specs.Rules.{Unused}
use Rattle.ess_refine_laws.specs.AllRules.{Supply, OfSome}
use Rattle.ess_open_rules_laws.specs.OpenGenerators.{at_first_open}
use Rattle.ess_ordered_laws.specs.Laws.{IndicesTold}
use Rattle.ess_numbered_laws.specs.ListedPicks.{shifted_axis, with_lists, listed_term, lists_picked}

-- ---- what is picked

-- A view over d is a matrix over its index domain, where that is one of numbers other than `int(1..n)`; the new name doesn't stand in it.
abbrev pub ViewTold : Text → Ex → Dom → Env → Type 0
ViewTold z v d env = Unused z v × IndicesTold (shifted_axis (plain_axis (first_index (Some d)))) (Some (type_of_dom d)) v env

abbrev mutual
  -- What the lists count on, of what as many indices reach: a literal over a domain has a value, and views are such matrices.
  pub PicksTold : Text → ℕ → Ex → Env → Type 0
  PicksTold z k (node_ex false (index (by_value ∷ [])) (more_exs t (more_exs i no_exs))) env = PicksTold z (suc k) t env
  PicksTold z (suc k) (node_ex false matrix_literal es) env = EachTold z k es env
  PicksTold z (suc k) (matrix_ex es d) env = EachTold z k es env
  PicksTold z zero (matrix_ex es d) env = IsTrue (is_some (meaning (matrix_ex es d) env))
  PicksTold z zero (seen_ex r d ns es) env = ViewTold z (seen_ex r d ns es) d env
  PicksTold z k e env = Unit {0}

  -- The same of several.
  pub EachTold : Text → ℕ → Exs → Env → Type 0
  EachTold z k no_exs env = Unit {0}
  EachTold z k (more_exs e es) env = PicksTold z k e env × EachTold z k es env

-- So the term has the same items with lists in place, in order.
abbrev pub ListsHaveTheItems : Type 0
ListsHaveTheItems = (z : Text) (t : Ex) (env : Env) → PicksTold z zero t env →
    option_map items_of (meaning (with_lists z zero t) env) ≡ option_map items_of (meaning t env)

-- ---- where order counts

-- What a comprehension counts on whose first generator runs over such a term.
abbrev pub SourcePicks : Supply → Names Ty → Ex → Env → Type 0
SourcePicks s g (comp_ex e (from (name_pat y) t hs)) env = OfSome (listed_term s g t) (λ l. PicksTold s.one zero t env)
SourcePicks s g e env = Unit {0}

-- The same behind plain generators: at each binding of these.
abbrev pub ListPicks : Supply → Names Ty → Ex → Env → Type 0
ListPicks s g (comp_ex e gs) env =
    OfSome (at_first_open gs) (λ t. AtEach t.before env (SourcePicks s (names_behind t.before g) (comp_ex e t.after)))
ListPicks s g e env = Unit {0}

-- What an item of a comprehension counts on, and a pair between whose sides order counts: either comprehension has what it asks.
abbrev pub PickedAsks : Supply → Names Ty → Ex → Env → Type 0
PickedAsks s g (node_ex b (index (by_value ∷ [])) (more_exs a (more_exs i no_exs))) env = ListPicks s g a env
PickedAsks s g (ex2 true o a b) env = ListPicks s g a env × ListPicks s g b env
PickedAsks s g e env = Unit {0}

-- So it is kept.
abbrev pub PickedListsKeep : Type 0
PickedListsKeep = (s : Supply) (g : Names Ty) (e f : Ex) → lists_picked s g e ≡ Some f → (env : Env) → PickedAsks s g e env → Keeps e f env
