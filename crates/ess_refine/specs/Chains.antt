-- Chains of rules, each at a part of what the ones before left. They count the reserved names: a rule takes its names from a number on
-- that no rule before it has passed.
use Rattle.std.specs.Prelude.{◌≡◌, ℕ, ◌≤◌}
use Rattle.ess_semantics.specs.Names.{Names}
use Rattle.ess_semantics.specs.Trees.{Ex, Exs, Gens, Dom, Doms}
use Rattle.ess_semantics.specs.Types.{Ty}
use Rattle.ess_semantics.specs.Contexts.{fill, fill_exs, fill_gens, fill_dom, fill_doms}
use Rattle.ess_semantics.specs.NamesAt.{names_at, names_at_exs, names_at_gens, names_at_dom, names_at_doms}
use Rattle.ess_core.specs.TreeViews.{Item, over_item, from_item, cond_item}

-- R n g a b k are the rules: where names have the types g, they make b of a, with reserved names from the n-th on and none from the
-- k-th on.
module _ (R : ℕ → Names Ty → Ex → Ex → ℕ → Type 0) where
  -- Trees of one sort, those of them with an open part, and the types of the names at that part.
  module _ {C T : Type 0} (filled : C → Ex → T) (types_at : C → Names Ty → Names Ty) where
    -- Rules lead from one tree to another, with reserved names from the n-th on and none from the m-th on.
    pub data LeadsIn : ℕ → Names Ty → T → T → ℕ → Type 0 where
      as_it_was : {n m : ℕ} {g : Names Ty} {t : T} → n ≤ m → LeadsIn n g t t m
      led_at : {n s k m : ℕ} {g : Names Ty} {a b : Ex} {t : T} (c : C) → n ≤ s → R s (types_at c g) a b k
          → LeadsIn k g (filled c b) t m → LeadsIn n g (filled c a) t m

  -- From one expression to another.
  abbrev pub Leads : ℕ → Names Ty → Ex → Ex → ℕ → Type 0
  Leads = LeadsIn fill names_at

  -- The same of operands.
  abbrev pub AllLead : ℕ → Names Ty → Exs → Exs → ℕ → Type 0
  AllLead = LeadsIn fill_exs names_at_exs

  -- The same of generators.
  abbrev pub GensLead : ℕ → Names Ty → Gens → Gens → ℕ → Type 0
  GensLead = LeadsIn fill_gens names_at_gens

  -- The same of domains.
  abbrev pub DomLeads : ℕ → Names Ty → Dom → Dom → ℕ → Type 0
  DomLeads = LeadsIn fill_dom names_at_dom

  abbrev pub DomsLead : ℕ → Names Ty → Doms → Doms → ℕ → Type 0
  DomsLead = LeadsIn fill_doms names_at_doms

  -- The same of one generator or condition.
  abbrev pub ItemLeads : ℕ → Names Ty → Item → Item → ℕ → Type 0
  ItemLeads n g (over_item p d) (over_item q e) m = (p ≡ q) × DomLeads n g d e m
  ItemLeads n g (from_item p d) (from_item q e) m = (p ≡ q) × Leads n g d e m
  ItemLeads n g (cond_item d) (cond_item e) m = Leads n g d e m
  ItemLeads n g i j m = ⊥
