-- Trees at whose parts no rule fires any more.
use Rattle.std.specs.Prelude.{◌≡◌, ℕ}
use Rattle.ess_semantics.specs.Names.{Names}
use Rattle.ess_semantics.specs.Trees.{Ex, Exs, Gens, Dom, Doms}
use Rattle.ess_semantics.specs.Types.{Ty}
use Rattle.ess_semantics.specs.Contexts.{fill, fill_exs, fill_gens, fill_dom, fill_doms}
use Rattle.ess_semantics.specs.NamesAt.{names_at, names_at_exs, names_at_gens, names_at_dom, names_at_doms}
use Rattle.ess_core.specs.TreeViews.{Item, over_item, from_item, cond_item}
use Rattle.ess_rules.specs.Ruled.{NoneFires}

-- Trees of one sort, those of them with an open part, and the types of the names at that part.
module _ {C T : Type 0} (filled : C → Ex → T) (types_at : C → Names Ty → Names Ty) where
  -- Where names have the types g, none of the rules that are asked fires at any part of the tree, with reserved names from the n-th on.
  abbrev pub SettledIn : ℕ → Names Ty → T → Type 0
  SettledIn n g t = (c : C) (a : Ex) → filled c a ≡ t → NoneFires n (types_at c g) a

-- Of an expression.
abbrev pub Settled : ℕ → Names Ty → Ex → Type 0
Settled = SettledIn fill names_at

-- The same of operands.
abbrev pub AllSettled : ℕ → Names Ty → Exs → Type 0
AllSettled = SettledIn fill_exs names_at_exs

-- The same of generators.
abbrev pub GensSettled : ℕ → Names Ty → Gens → Type 0
GensSettled = SettledIn fill_gens names_at_gens

-- The same of domains.
abbrev pub DomSettled : ℕ → Names Ty → Dom → Type 0
DomSettled = SettledIn fill_dom names_at_dom

abbrev pub DomsSettled : ℕ → Names Ty → Doms → Type 0
DomsSettled = SettledIn fill_doms names_at_doms

-- The same of one generator or condition.
abbrev pub ItemSettled : ℕ → Names Ty → Item → Type 0
ItemSettled n g (over_item p d) = DomSettled n g d
ItemSettled n g (from_item p e) = Settled n g e
ItemSettled n g (cond_item e) = Settled n g e
