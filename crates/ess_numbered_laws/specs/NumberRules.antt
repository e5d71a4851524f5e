-- Rules of comprehensions over sources whose items are counted, where their order counts.
use Rattle.std.specs.Prelude.{Option}
use Rattle.ess_semantics.specs.Names.{Names}
use Rattle.ess_semantics.specs.Trees.{Ex}
use Rattle.ess_semantics.specs.Types.{Ty}
use Rattle.ess_refine_laws.specs.AllRules.{Supply}
use Rattle.ess_numbered_laws.specs.CountedSources.{within_an_item, within_a_pair}
use Rattle.ess_numbered_laws.specs.EqualByNumber.{equal_by_number}
use Rattle.ess_numbered_laws.specs.OrderByNumber.{order_by_number}
use Rattle.ess_numbered_laws.specs.ListedPicks.{lists_picked}

-- The rules, by what they rewrite: equality of lists, a sign between lists, an item of a list, a list that is a side of an equality or a
-- sign, where nothing tells how many items it has at most, and one of these over what is picked, where that may not be numbered from 1.
pub data NumberRule : Type 0 where
  equality_of_lists sign_between_lists item_of_a_list side_of_a_pair lists_of_what_is_picked : NumberRule

-- What the rule makes of the root, where it fires.
abbrev pub number_rewrite : Supply → Names Ty → NumberRule → Ex → Option Ex
number_rewrite s g equality_of_lists e = equal_by_number s g e
number_rewrite s g sign_between_lists e = order_by_number s g e
number_rewrite s g item_of_a_list e = within_an_item s g e
number_rewrite s g side_of_a_pair e = within_a_pair s g e
number_rewrite s g lists_of_what_is_picked e = lists_picked s g e
