-- What the rules of items take, as the code holds it.
use Rattle.std.specs.Prelude.{List}
use Rattle.ess_semantics.specs.Values.{Text}
use Rattle.ess_semantics.specs.Trees.{bool_dom}
use Rattle.ess_refine_laws.specs.AllRules.{Supply}
use Rattle.ess_rules_ordered.specs.declared.names.ItemNames.{ItemNames}

-- A supply with three names and those for components. The rules take nothing else of it, so what else stands in it doesn't count.
abbrev pub supply_with : Text → Text → Text → List Text → Supply
supply_with x y z ys = record { one = x; other = y; third = z; parts = ys; index_domain = λ e. bool_dom; copy = λ e. e }

-- The supply of the names that are taken.
abbrev pub item_supply : ItemNames → Supply
item_supply n = supply_with n.item.now n.other.now n.counted.now n.parts.now
