-- Names of generators printed, one generator or condition after the other.
use Rattle.std.specs.Prelude.{List, [], ◌∷◌, length}
use Rattle.ess_semantics.specs.Values.{Text}
use Rattle.ess_semantics.specs.Names.{Names}
use Rattle.ess_semantics.specs.Trees.{Pat, name_pat}
use Rattle.ess_core.specs.TreeViews.{Item, over_item, from_item, cond_item}
use Rattle.conjure_model_laws.specs.Printed.{printed_name, with_printed, printed, printed_dom}

module _ (taken : List Text) where
  -- The pattern of a range with a printed name. A pattern of several names stays.
  abbrev pub printed_pat : Pat → Names Text → Pat
  printed_pat (name_pat a) r = name_pat (printed_name taken (length r))
  printed_pat p r = p

  -- The names behind the pattern of a range with what is printed for them.
  abbrev pub pat_behind : Pat → Names Text → Names Text
  pat_behind (name_pat a) r = with_printed taken a r
  pat_behind p r = r

  -- A generator or condition with printed names.
  abbrev pub printed_item : Item → Names Text → Item
  printed_item (over_item p d) r = over_item (printed_pat p r) (printed_dom taken d r)
  printed_item (from_item p e) r = from_item p (printed taken e r)
  printed_item (cond_item e) r = cond_item (printed taken e r)

  -- The names behind it with what is printed for them.
  abbrev pub item_behind : Item → Names Text → Names Text
  item_behind (over_item p d) r = pat_behind p r
  item_behind (from_item p e) r = r
  item_behind (cond_item e) r = r

  -- Several, each under the names of those before it.
  abbrev pub printed_items : List Item → Names Text → List Item
  printed_items [] r = []
  printed_items (i ∷ is) r = printed_item i r ∷ printed_items is (item_behind i r)

  -- The names behind them.
  abbrev pub items_behind : List Item → Names Text → Names Text
  items_behind [] r = r
  items_behind (i ∷ is) r = items_behind is (item_behind i r)
