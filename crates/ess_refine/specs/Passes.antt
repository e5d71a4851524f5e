-- What passes lead to: chains of rules, which count the reserved names on.
use Rattle.std.specs.Prelude.{◌≡◌, Option, Some, None}
use Rattle.ess_semantics.specs.Names.{Names}
use Rattle.ess_semantics.specs.Trees.{Ex, Exs, Gens, Dom, Doms}
use Rattle.ess_semantics.specs.Types.{Ty}
use Rattle.ess_semantics.specs.Contexts.{fill, fill_exs, fill_gens, fill_dom, fill_doms}
use Rattle.ess_semantics.specs.NamesAt.{names_at, names_at_exs, names_at_gens, names_at_dom, names_at_doms}
use Rattle.ess_core.specs.TreeViews.{Item, over_item, from_item, cond_item}
use Rattle.ess_rules.specs.Ruled.{IsRuled}
use Rattle.ess_refine.specs.Chains.{LeadsIn}
use Rattle.ess_refine.specs.declared.passing.Turns.{Turns}

-- What the rules make of the root of a tree: where one fires what it makes, else nothing, and no name is taken.
abbrev pub IsTaken : Turns → Names Ty → Ex → Option Ex → Turns → Type 0
IsTaken o g a None n = n.next ≡ o.next
IsTaken o g a (Some b) n = IsRuled o.next g a b n.next

-- Trees of one sort, those of them with an open part, and the types of the names at that part.
module _ {C T : Type 0} (filled : C → Ex → T) (types_at : C → Names Ty → Names Ty) where
  -- Rules lead from one tree to another, where names have the types g.
  abbrev pub PassesIn : Turns → Names Ty → T → T → Turns → Type 0
  PassesIn o g t u n = LeadsIn IsRuled filled types_at o.next g t u n.next

-- From one expression to another.
abbrev pub Passes : Turns → Names Ty → Ex → Ex → Turns → Type 0
Passes = PassesIn fill names_at

-- The same of operands.
abbrev pub AllPass : Turns → Names Ty → Exs → Exs → Turns → Type 0
AllPass = PassesIn fill_exs names_at_exs

-- The same of generators.
abbrev pub GensPass : Turns → Names Ty → Gens → Gens → Turns → Type 0
GensPass = PassesIn fill_gens names_at_gens

-- The same of domains.
abbrev pub DomPasses : Turns → Names Ty → Dom → Dom → Turns → Type 0
DomPasses = PassesIn fill_dom names_at_dom

abbrev pub DomsPass : Turns → Names Ty → Doms → Doms → Turns → Type 0
DomsPass = PassesIn fill_doms names_at_doms

-- The same of one generator or condition.
abbrev pub ItemPasses : Turns → Names Ty → Item → Item → Turns → Type 0
ItemPasses o g (over_item p d) (over_item q e) n = (p ≡ q) × DomPasses o g d e n
ItemPasses o g (from_item p d) (from_item q e) n = (p ≡ q) × Passes o g d e n
ItemPasses o g (cond_item d) (cond_item e) n = Passes o g d e n
ItemPasses o g i j n = ⊥
