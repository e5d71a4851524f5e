-- Comprehensions over what is picked, where the order of items counts and nothing tells how many there are: `N[[e | y <- t, hs]]` is N of
-- `[e | y <- x, hs]` for the one x that t picks.
use Rattle.std.specs.Prelude.{Bool, ◌&&◌, ◌||◌, not, List, [], ◌∷◌, Option, None, option_map, is_some, if◌then◌else◌}
use Rattle.ess_semantics.specs.Lists.{or_else}
use Rattle.ess_semantics.specs.Values.{Text}
use Rattle.ess_semantics.specs.Names.{Names}
use Rattle.ess_semantics.specs.Trees.{name_pat, Ex, name_ex, comp_ex, Gens, no_gens, from}
use Rattle.ess_semantics.specs.Types.{Ty}
use Rattle.ess_guard_laws.specs.IndexDomains.{index_dom}
use Rattle.ess_rules_laws.specs.Listings.{Alternative}
use Rattle.ess_rules_laws.specs.ListedSources.{laid_out}
use Rattle.ess_refine_laws.specs.AllRules.{Supply}
use Rattle.ess_kind_rules_laws.specs.TermLookups.{picks, looked_up}
use Rattle.ess_open_rules_laws.specs.OpenSources.{in_order_told}
use Rattle.ess_ordered_laws.specs.NumberedItems.{ordered_lookup}

-- Whether the term is picked, with no index domain that its form tells, and can't be taken in order as it is.
abbrev pub is_untold : Supply → Names Ty → Ex → Bool
is_untold s g t = picks t && not (is_some (index_dom t) || is_some (in_order_told s g t))

-- What a source picks: an item of a comprehension by its number, or what is picked out of one; else what any other term picks.
abbrev pub source_lookup : Supply → Names Ty → Ex → Option (List Alternative)
source_lookup s g t = or_else (ordered_lookup s.third s.parts t) (looked_up g s.third s.parts t)

-- `[e | y <- x, hs]`, where x is what an alternative picks.
abbrev pub each_source : Text → Text → List Alternative → Ex → Gens → List Alternative
each_source x y [] e hs = []
each_source x y (a ∷ l) e hs =
    record { gens = from (name_pat x) (laid_out a) no_gens; item = comp_ex e (from (name_pat y) (name_ex x) hs) } ∷ each_source x y l e hs

-- The comprehension over each alternative of its first source.
abbrev pub picked_source : Supply → Names Ty → Ex → Option (List Alternative)
picked_source s g (comp_ex e (from (name_pat y) t hs)) =
    if is_untold s g t then option_map (λ l. each_source s.other y l e hs) (source_lookup s g t) else None
picked_source s g e = None
