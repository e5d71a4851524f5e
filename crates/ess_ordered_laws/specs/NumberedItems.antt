-- Items of comprehensions by their numbers: `[e | x : d][i]` is looked up by `[e | x : d, p = i]`, where p is the number of x among the
-- members of d. Where d is `int(1..n)` that is x itself. `[e | x : d, gs][i]` is looked up at each value w of d by `[e | gs][i - n]` with w in
-- the place of x, where n is how many items the values before w bring.
use Rattle.std.specs.Prelude.{Bool, true, false, List, [], ◌∷◌, pos, Option, Some, None, option_map, if◌then◌else◌}
use Rattle.std.specs.Ordering.{int_eq}
use Rattle.ess_semantics.specs.declared.words.Op2.{Op2}
use Rattle.ess_semantics.specs.declared.words.Fun.{Fun}
use Rattle.ess_semantics.specs.Lists.{and_then}
use Rattle.ess_semantics.specs.Values.{Text}
use Rattle.ess_semantics.specs.Trees.{by_value, index, both_ends, name_pat, Ex, number_ex, name_ex, node_ex, comp_ex, no_exs, more_exs, Gens, no_gens, over, cond, Dom, int_dom, ex2, fun1}
use Rattle.ess_semantics.specs.Substitution.{substitute, substitute_gens, for_name}
use Rattle.ess_rules_laws.specs.Listings.{Alternative}
use Rattle.ess_rules_laws.specs.AlternativeLookups.{lookup_through_each}
use Rattle.ess_refine_laws.specs.ItemsOnce.{is_atom_dom}
use Rattle.ess_refine_laws.specs.ExtremeRules.{are_none}
use Rattle.ess_kind_rules_laws.specs.TermLookups.{count_below, picked_within}

-- Whether the expression is the numeral 1.
abbrev pub is_one : Ex → Bool
is_one (number_ex n) = int_eq n (pos 1)
is_one e = false

-- Whether the domain is one range of numbers from 1.
abbrev pub is_from_one : Dom → Bool
is_from_one (int_dom (both_ends ∷ []) (more_exs a (more_exs n no_exs))) = is_one a
is_from_one d = false

-- The number of x among the members of d, from 1: x itself, or how many members, each of which is called z, are below x, and 1.
abbrev pub place_in : Text → Text → Dom → Ex
place_in z x d =
    if is_from_one d then name_ex x else ex2 false Op2.Plus (count_below z d (name_ex x)) (number_ex (pos 1))

-- The item at the number i.
abbrev pub numbered_item : Text → Text → Dom → Ex → Ex → Alternative
numbered_item z x d e i =
    record { gens = over (name_pat x) d (cond (ex2 true Op2.Eq (place_in z x d) i) no_gens); item = e }

-- ---- several generators, and conditions

-- How many items the values before w bring: `sum([1 | x : d, x < w, gs])`.
abbrev pub count_before : Text → Text → Dom → Gens → Ex
count_before w x d gs =
    fun1 false Fun.Sum (comp_ex (number_ex (pos 1)) (over (name_pat x) d (cond (ex2 true Op2.Lt (name_ex x) (name_ex w)) gs)))

-- The number behind them.
abbrev pub number_behind : Text → Text → Dom → Gens → Ex → Ex
number_behind w x d gs i = ex2 false Op2.Minus i (count_before w x d gs)

-- The only item, where i is 1.
abbrev pub only_item : Ex → Ex → Alternative
only_item e i = record { gens = cond (ex2 true Op2.Eq i (number_ex (pos 1))) no_gens; item = e }

-- The alternative under a condition, and at each value w of a domain.
abbrev pub under_condition : Ex → Alternative → Alternative
under_condition c a = record a { gens = cond c a.gens }

abbrev pub at_each_value : Text → Dom → Alternative → Alternative
at_each_value w d a = record a { gens = over (name_pat w) d a.gens }

-- The item at the number i of `[e | gs]`, where gs are conditions and names over the domains of atoms. Each of them takes one of the new
-- names, and so does the end behind a condition.
abbrev pub numbered_gens : List Text → Ex → Gens → Ex → Option Alternative
numbered_gens [] e gs i = None
numbered_gens (w ∷ ws) e no_gens i = Some (only_item e i)
numbered_gens (w ∷ ws) e (cond c gs) i = option_map (under_condition c) (numbered_gens ws e gs i)
numbered_gens (w ∷ ws) e (over (name_pat x) d gs) i =
    if is_atom_dom d
    then (if are_none gs then Some (numbered_item x w d (substitute (for_name x (name_ex w)) e) i)
    else option_map (at_each_value w d) (numbered_gens ws (substitute (for_name x (name_ex w)) e)
    (substitute_gens (for_name x (name_ex w)) gs) (number_behind w x d gs i))) else None
numbered_gens (w ∷ ws) e gs i = None

-- ---- the lookup

-- The item at the number i: over the domain of an atom alone no name is taken but z.
abbrev pub numbered_over : Text → List Text → Ex → Gens → Ex → Option (List Alternative)
numbered_over z ws e (over (name_pat x) d no_gens) i = if is_atom_dom d then Some (numbered_item z x d e i ∷ []) else None
numbered_over z ws e gs i = option_map (λ a. a ∷ []) (numbered_gens ws e gs i)

-- `[e | gs][i]`.
abbrev pub numbered_lookup : Text → List Text → Ex → Option (List Alternative)
numbered_lookup z ws (node_ex b (index (by_value ∷ [])) (more_exs (comp_ex e gs) (more_exs i no_exs))) = numbered_over z ws e gs i
numbered_lookup z ws e = None

-- What is picked out of such an item, at any depth. The first name is z, the others are for what is picked within, and behind these for the
-- generators.
abbrev pub ordered_lookup : Text → List Text → Ex → Option (List Alternative)
ordered_lookup z [] e = None
ordered_lookup z (y ∷ ys) e = elim (picked_within e) [
  | None ↦ numbered_lookup z ys e
  | Some t ↦ and_then (ordered_lookup z ys t) (λ l. lookup_through_each y 1 l e)
]
