-- A source that is an item of a comprehension by its number, or picked out of one: a generator over it becomes one over what its lookup picks,
-- which is one value at most. Under a word that forgets order so it is whatever conditions pick it; in any place where no table decides them.
use Rattle.std.specs.Prelude.{Bool, true, false, ◌||◌, Option, None, Some, option_map, if◌then◌else◌}
use Rattle.ess_semantics.specs.Lists.{and_then}
use Rattle.ess_semantics.specs.Values.{Text}
use Rattle.ess_semantics.specs.Trees.{word, name_pat, Ex, name_ex, comp_ex, Gens, from, fun1}
use Rattle.ess_semantics.specs.ExpressionJudgements.{forgets_order}
use Rattle.ess_rules_laws.specs.Listings.{Alternative}
use Rattle.ess_rules_laws.specs.ListedSources.{laid_out}
use Rattle.ess_refine_laws.specs.AllRules.{Supply, only_one}
use Rattle.ess_open_rules_laws.specs.OpenGenerators.{behind_plain}
use Rattle.ess_open_rules_laws.specs.OpenSources.{are_decided}
use Rattle.ess_ordered_laws.specs.NumberedItems.{ordered_lookup}

-- Whether the alternative may be taken: any, or one that no table decides.
abbrev pub may_be_taken : Bool → Alternative → Bool
may_be_taken any a = any || are_decided a.gens

-- `[e | y <- t, hs]` is `[e | z <- [i | ks], y <- z, hs]`, where the alternative has the generators ks and the item i.
abbrev pub over_the_item : Text → Text → Ex → Gens → Alternative → Ex
over_the_item z y e hs a = comp_ex e (from (name_pat z) (laid_out a) (from (name_pat y) (name_ex z) hs))

-- A comprehension whose first generator runs over such an item.
abbrev pub item_source : Supply → Bool → Ex → Option Ex
item_source s any (comp_ex e (from (name_pat y) t hs)) = and_then (only_one (ordered_lookup s.third s.parts t))
    (λ a. if may_be_taken any a then Some (over_the_item s.other y e hs a) else None)
item_source s any e = None

-- The same at the first generator that isn't plain.
abbrev pub item_behind : Supply → Bool → Ex → Option Ex
item_behind s any e = behind_plain (λ gs. item_source s any) e

-- At a word that forgets order, and at a comprehension in any place.
abbrev pub over_an_item : Supply → Ex → Option Ex
over_an_item s (fun1 m f (comp_ex e gs)) =
    if forgets_order (word f) then option_map (fun1 m f) (item_behind s true (comp_ex e gs)) else None
over_an_item s (comp_ex e gs) = item_behind s false (comp_ex e gs)
over_an_item s e = None
