-- What is picked where nothing tells how many items it has, by what it looks up; and generators that no table decides, one by one.
use Rattle.std.specs.Prelude.{Bool, true, false, ◌&&◌, not, if◌then◌else◌, List, [], ◌∷◌, Option, Some, None}
use Rattle.ess_semantics.specs.Lists.{and_then, or_else}
use Rattle.ess_semantics.specs.Names.{Names}
use Rattle.ess_semantics.specs.Occurrences.{has_cells}
use Rattle.ess_semantics.specs.Trees.{Ex}
use Rattle.ess_semantics.specs.Types.{Ty}
use Rattle.ess_core.specs.TreeViews.{Item, over_item, from_item, cond_item}
use Rattle.ess_rules_laws.specs.Listings.{Alternative}
use Rattle.ess_refine_laws.specs.AllRules.{Supply}
use Rattle.ess_kind_rules_laws.specs.TermLookups.{looked_up}
use Rattle.ess_open_rules_laws.specs.OpenSources.{is_decided, are_decided}
use Rattle.ess_ordered_laws.specs.NumberedItems.{ordered_lookup}
use Rattle.ess_ordered_laws.specs.PickedSources.{is_untold, source_lookup}

-- What the term picks, where it can't be taken in order as it is.
abbrev pub untold_lookup : Supply → Names Ty → Ex → Option (List Alternative)
untold_lookup s g t = if is_untold s g t then source_lookup s g t else None

-- Whether the alternatives are one alone, and no table says which items it has.
abbrev pub is_told : List Alternative → Bool
is_told (a ∷ []) = are_decided a.gens
is_told l = false

-- Whether there isn't one alone so.
abbrev pub is_not_told : Option (List Alternative) → Bool
is_not_told None = true
is_not_told (Some l) = not (is_told l)

-- What a term picks as an item of a comprehension by its number; else as any other term, where that isn't told in order.
abbrev pub item_or_other : Supply → Names Ty → Ex → Option (List Alternative)
item_or_other s g t = or_else (ordered_lookup s.third s.parts t)
    (and_then (looked_up g s.third s.parts t) (λ l. if is_told l then None else Some l))

-- Whether a generator is over a domain or a comprehension that no table decides, or is a condition that reads no table.
abbrev pub is_decided_item : Item → Bool
is_decided_item (over_item p d) = true
is_decided_item (from_item p e) = is_decided e
is_decided_item (cond_item c) = not (has_cells c)

-- The same of each.
abbrev pub are_decided_items : List Item → Bool
are_decided_items [] = true
are_decided_items (i ∷ is) = is_decided_item i && are_decided_items is
