-- Lettings put into the parts of expressions and domains, one at a time.
use Rattle.std.specs.Prelude.{List, [], ◌∷◌, map, Option}
use Rattle.ess_semantics.specs.Values.{Text}
use Rattle.ess_semantics.specs.Names.{Names}
use Rattle.ess_semantics.specs.Trees.{Step, Ex, Exs, Dom, more_exs}
use Rattle.ess_semantics.specs.Types.{Ty, type_of_dom, bind_types}
use Rattle.ess_semantics.specs.Typing.{source_ty}
use Rattle.ess_semantics.specs.Lettings.{Lettings, put_steps, put_ex, put_exs, put_dom}
use Rattle.ess_core.specs.TreeViews.{With, words_of, within, Item, over_item, from_item, cond_item, exs_of}

-- A field of a record literal with lettings put in.
abbrev pub put_field : Text × Ex → Lettings → Names Ty → Text × Ex
put_field f l g = (f.0, put_ex f.1 l g)

-- A field of a record's domain with lettings put in.
abbrev pub put_field_dom : Text × Dom → Lettings → Names Ty → Text × Dom
put_field_dom f l g = (f.0, put_dom f.1 l g)

-- A word with lettings put into the expressions that stand in it.
abbrev pub put_with : {W : Type 0} → With W → Lettings → Names Ty → With W
put_with w l g = (w.0, map (λ e. put_ex e l g) w.1)

-- ---- generators

-- A generator or condition with lettings put in.
abbrev pub put_item : Item → Lettings → Names Ty → Item
put_item (over_item p d) l g = over_item p (put_dom d l g)
put_item (from_item p e) l g = from_item p (put_ex e l g)
put_item (cond_item e) l g = cond_item (put_ex e l g)

-- The types of names behind it.
abbrev pub item_behind : Item → Lettings → Names Ty → Names Ty
item_behind (over_item p d) l g = bind_types p (type_of_dom (put_dom d l g)) g
item_behind (from_item p e) l g = bind_types p (source_ty (put_ex e l g) g) g
item_behind (cond_item e) l g = g

-- Several, each under the names of those before it.
abbrev pub put_items : List Item → Lettings → Names Ty → List Item
put_items [] l g = []
put_items (x ∷ xs) l g = put_item x l g ∷ put_items xs l (item_behind x l g)

-- The types of names behind them.
abbrev pub names_behind : List Item → Lettings → Names Ty → Names Ty
names_behind [] l g = g
names_behind (x ∷ xs) l g = names_behind xs l (item_behind x l g)

-- ---- indices

-- The values of steps behind a place of type t with lettings put in.
abbrev pub put_values : Option Ty → List (With Step) → Lettings → Names Ty → Exs
put_values t ws l g = let es : Exs = exs_of (within ws) in put_steps t (words_of ws) es (put_exs es l g) g

-- Operands in front of others.
abbrev pub exs_before : List Ex → Exs → Exs
exs_before [] fs = fs
exs_before (e ∷ es) fs = more_exs e (exs_before es fs)
