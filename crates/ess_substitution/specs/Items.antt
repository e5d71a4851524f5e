-- Generators and conditions one by one, with an expression in the place of names.
use Rattle.ess_semantics.specs.Values.{Text}
use Rattle.ess_semantics.specs.Trees.{Ex}
use Rattle.ess_semantics.specs.Substitution.{substitute, substitute_dom}
use Rattle.ess_core.specs.TreeViews.{Item, over_item, from_item, cond_item}

-- A generator or condition with f of each name in the place of the name.
abbrev pub substitute_item : (Text → Ex) → Item → Item
substitute_item f (over_item p d) = over_item p (substitute_dom f d)
substitute_item f (from_item p e) = from_item p (substitute f e)
substitute_item f (cond_item e) = cond_item (substitute f e)
