-- Lookups by alternatives: what a picked value is, case by case. Of literals the condition of each case is on the index or on the
-- argument. An operator on the picked value becomes one on the item of each alternative.
use Rattle.std.specs.Prelude.{◌≡◌, ℕ, suc, Bool, true, false, ◌&&◌, ◌||◌, List, [], ◌∷◌, pos, Option, Some, None}
use Rattle.std.specs.Prelude.{IsTrue, is_some, option_map, if◌then◌else◌}
use Rattle.ess_semantics.specs.declared.words.Op1.{Op1}
use Rattle.ess_semantics.specs.declared.words.Op2.{Op2}
use Rattle.ess_semantics.specs.declared.words.Fun.{Fun}
use Rattle.ess_semantics.specs.Values.{Text}
use Rattle.ess_semantics.specs.Trees.{by_value, index, matrix_literal, function_literal, tuple_literal, name_pat}
use Rattle.ess_semantics.specs.Trees.{Ex, Exs, number_ex, name_ex, node_ex, ex1, ex2, fun1, no_exs, more_exs, Gens, no_gens, from, cond}
use Rattle.ess_semantics.specs.Meaning.{Env, meaning}
use Rattle.ess_rules_laws.specs.LiteralRules.{nth}
use Rattle.ess_rules_laws.specs.Apart.{are_apart}
use Rattle.ess_rules_laws.specs.Listings.{Alternative, all_listed, those}
use Rattle.ess_rules_laws.specs.ListedSources.{laid_out, AllMet}
use Rattle.ess_rules_laws.specs.SourceRules.{list_of}
use Rattle.ess_rules_laws.specs.Lookups.{found, put_nth, is_plain, picking, FitsNumber}
use Rattle.ess_rules_laws.specs.PartLookups.{FitsWhereThere}
use Rattle.ess_rules_laws.specs.FunctionViews.{of_application}

-- The alternatives look up the value of a term: together they have it as their one item, or no item where there is none. The
-- tables meet their structures.
pub record LookedBy (t : Ex) (l : List Alternative) (env : Env) : Type 0 where
  pub items : all_listed l env ≡ Some (found (meaning t env))
  pub met : AllMet l env

-- ---- literals

-- Each item where i is its number, from k on.
abbrev pub numbered_items : ℕ → Ex → Exs → List Alternative
numbered_items k i no_exs = []
numbered_items k i (more_exs e es) =
    record { gens = cond (ex2 true Op2.Eq i (number_ex (pos k))) no_gens; item = e } ∷ numbered_items (suc k) i es

-- `[e1, .., en][i]`: e_k where i is k.
abbrev pub list_lookup : Ex → Option (List Alternative)
list_lookup (node_ex b (index (by_value ∷ [])) (more_exs (node_ex false matrix_literal es) (more_exs i no_exs))) =
    Some (numbered_items 1 i es)
list_lookup e = None

-- That x is none of these, where it is a. Of those that are apart from a, or from x, the form tells that.
abbrev pub none_at : List Ex → Ex → Ex → Gens
none_at [] a x = no_gens
none_at (b ∷ bs) a x =
    if are_apart b a || are_apart b x then none_at bs a x else cond (ex1 true Op1.Not (ex2 true Op2.Eq b x)) (none_at bs a x)

-- Each result where x is its argument and none of those before it.
abbrev pub first_results : List Ex → Ex → Exs → Option (List Alternative)
first_results bs x no_exs = Some []
first_results bs x (more_exs (node_ex false tuple_literal (more_exs a (more_exs b no_exs))) ps) =
    option_map (λ l. record { gens = cond (ex2 true Op2.Eq x a) (none_at bs a x); item = b } ∷ l) (first_results (a ∷ bs) x ps)
first_results bs x ps = None

-- The pairs of a function literal at x.
abbrev pub pairs_by_cases : Ex → Ex → Option (List Alternative)
pairs_by_cases (node_ex false function_literal ps) x = first_results [] x ps
pairs_by_cases f x = None

-- `function(a1 --> b1, ..)(x)`: b_k where x is a_k and none of those before it.
abbrev pub function_literal_lookup : Ex → Option (List Alternative)
function_literal_lookup e = of_application pairs_by_cases e

-- The first operand has a value.
abbrev pub FirstOperandThere : Ex → Env → Type 0
FirstOperandThere (node_ex b op (more_exs a es)) env = IsTrue (is_some (meaning a env))
FirstOperandThere e env = Unit {0}

-- ---- an operator on a picked value

-- What folds the parts: `or` of truth values, `sum` of numbers.
abbrev pub fold_word : Bool → Fun
fold_word true = Fun.Or
fold_word false = Fun.Sum

-- What picks the one item of each alternative, which is called x.
abbrev pub each_picked : Bool → Text → List Alternative → Ex → Exs
each_picked b x [] e = no_exs
each_picked b x (a ∷ l) e = more_exs (picking b x (laid_out a) e) (each_picked b x l e)

-- All of them: `or([or([e | x <- [a | ks]]), ..])`, of numbers with `sum`.
abbrev pub picking_each : Bool → Text → List Alternative → Ex → Ex
picking_each b x l e = fun1 b (fold_word b) (list_of (each_picked b x l e))

-- `N[t]` over the alternatives of t, which is the k-th operand of N; x is a new name.
abbrev pub select_each : Text → ℕ → List Alternative → Ex → Option Ex
select_each x k l (node_ex b op es) =
    if is_plain op && is_some (nth es k) then Some (picking_each b x l (node_ex b op (put_nth es k (name_ex x)))) else None
select_each x k l e = None

-- A picked scalar by itself.
abbrev pub select_whole_each : Text → List Alternative → Ex → Option Ex
select_whole_each x l (node_ex b op es) = Some (picking_each b x l (name_ex x))
select_whole_each x l e = None

-- The alternatives look up the operand that is there.
abbrev pub LooksUpEach : Option Ex → List Alternative → Env → Type 0
LooksUpEach None l env = ⊥
LooksUpEach (Some t) l env = LookedBy t l env

-- What they count on: the alternatives look up the operand or the term, and what isn't Boolean has a number.
abbrev pub SelectsEach : ℕ → List Alternative → Ex → Env → Type 0
SelectsEach k l (node_ex b op es) env = LooksUpEach (nth es k) l env × FitsNumber b (meaning (node_ex b op es) env)
SelectsEach k l e env = Unit {0}

-- The same of a scalar by itself.
abbrev pub SelectsWholeEach : List Alternative → Ex → Env → Type 0
SelectsWholeEach l (node_ex b op es) env = LookedBy (node_ex false op es) l env × FitsNumber b (meaning (node_ex b op es) env)
SelectsWholeEach l e env = Unit {0}

-- ---- a picked container

-- The members of what each alternative picks, which is called y; each member is called x.
abbrev pub members_of_each : Text → Text → List Alternative → List Alternative
members_of_each y x [] = []
members_of_each y x (a ∷ l) =
    record { gens = from (name_pat y) (laid_out a) (from (name_pat x) (name_ex y) no_gens); item = name_ex x } ∷ members_of_each y x l

-- ---- one lookup, and what is made of a looked up operand

-- A lookup as the one alternative; x is a new name.
abbrev pub as_alternative : Text → Ex → List Alternative
as_alternative x l = those x l no_gens ∷ []

-- Each alternative's item, which is called x, as the operand in e.
abbrev pub each_through : Text → List Alternative → Ex → List Alternative
each_through x [] e = []
each_through x (a ∷ l) e = record { gens = from (name_pat x) (laid_out a) no_gens; item = e } ∷ each_through x l e

-- `N[t]` through the alternatives of t, which is the k-th operand of N; x is a new name.
abbrev pub lookup_through_each : Text → ℕ → List Alternative → Ex → Option (List Alternative)
lookup_through_each x k l (node_ex b op es) =
    if is_plain op && is_some (nth es k) then Some (each_through x l (node_ex b op (put_nth es k (name_ex x)))) else None
lookup_through_each x k l e = None

-- What it counts on: the alternatives look up the operand, and where that has a value so has the tree.
abbrev pub LooksThroughEach : ℕ → List Alternative → Ex → Env → Type 0
LooksThroughEach k l (node_ex b op es) env = LooksUpEach (nth es k) l env × FitsWhereThere (nth es k) b (node_ex false op es) env
LooksThroughEach k l e env = Unit {0}
