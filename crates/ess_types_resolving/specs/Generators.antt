-- Generators and conditions, resolved one by one.
use Rattle.std.specs.Prelude.{List, [], ◌∷◌, Option, Some, None}
use Rattle.ess_semantics.specs.Names.{Names}
use Rattle.ess_semantics.specs.Types.{Ty, type_of_dom, bind_types}
use Rattle.ess_semantics.specs.Typing.{source_ty}
use Rattle.ess_semantics.specs.Resolving.{resolve, resolve_dom}
use Rattle.ess_core.specs.TreeViews.{Item, over_item, from_item, cond_item}
use Rattle.ess_types_names.specs.declared.under.Under.{Under}
use Rattle.ess_types_names.specs.declared.under.Under.TheVariants.{Fits, Misfits}

-- A generator or condition by itself.
abbrev pub resolved_item : Item → Names Ty → Item
resolved_item (over_item p d) g = over_item p (resolve_dom d g)
resolved_item (from_item p e) g = from_item p (resolve e g)
resolved_item (cond_item e) g = cond_item (resolve e g)

-- The types of names behind it.
abbrev pub item_behind : Item → Names Ty → Names Ty
item_behind (over_item p d) g = bind_types p (type_of_dom d) g
item_behind (from_item p e) g = bind_types p (source_ty e g) g
item_behind (cond_item e) g = g

-- Several, each under the names of those before it.
abbrev pub resolved_items : List Item → Names Ty → List Item
resolved_items [] g = []
resolved_items (x ∷ xs) g = resolved_item x g ∷ resolved_items xs (item_behind x g)

-- The types of names behind them.
abbrev pub names_behind : List Item → Names Ty → Names Ty
names_behind [] g = g
names_behind (x ∷ xs) g = names_behind xs (item_behind x g)

-- What there is where the types fit.
abbrev pub fitting : {A : Type 0} → Under → Option A → Option A
fitting Fits o = o
fitting Misfits o = None

-- Whether the types of the first and of the second fit.
abbrev pub both_fit : Under → Under → Under
both_fit Fits u = u
both_fit Misfits u = Misfits

-- Whether there is something.
abbrev pub fits_of : {A : Type 0} → Option A → Under
fits_of None = Misfits
fits_of (Some x) = Fits
