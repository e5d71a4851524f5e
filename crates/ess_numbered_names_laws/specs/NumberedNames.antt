-- The rules of comprehensions over sources whose items are counted take no names but three of the supply: what these and all names of a
-- tree have, all names of what a rule makes of the tree have.
use Rattle.std.specs.Prelude.{◌≡◌, ℕ, ◌+◌, ◌≤◌, Bool, Some, IsTrue}
use Rattle.ess_semantics.specs.Values.{Text}
use Rattle.ess_semantics.specs.Names.{Names}
use Rattle.ess_semantics.specs.Trees.{Ex}
use Rattle.ess_semantics.specs.Types.{Ty}
use Rattle.ess_semantics.specs.Contexts.{In, fill}
use Rattle.ess_refine_laws.specs.AllRules.{Supply}
use Rattle.ess_numbered_laws.specs.NumberRules.{NumberRule, number_rewrite}
use Rattle.ess_chain_names_laws.specs.RulesKeepNames.{KeepsNames}
use Rattle.ess_chain_names_laws.specs.Steps.{supply_at}
use Rattle.ess_chain_names_laws.specs.SparedNames.{Spares}

-- The names for numbers, for items that are counted, and for members of index domains are such.
pub record ThreeHave (u : Text → Bool) (s : Supply) : Type 0 where
  pub one : IsTrue (u s.one)
  pub other : IsTrue (u s.other)
  pub third : IsTrue (u s.third)

-- So each rule keeps it. With reserved names from the n-th on and none from the m-th on, at any part of a tree which spares those from the
-- n-th on, it leaves a tree that spares those from the m-th on.
pub record NumberRulesKeepNames : Type 0 where
  pub by_each_rule : (u : Text → Bool) (s : Supply) (g : Names Ty) (r : NumberRule) (e f : Ex) → number_rewrite s g r e ≡ Some f →
      ThreeHave u s → KeepsNames u e f
  pub spared : (n k m : ℕ) (g : Names Ty) (r : NumberRule) (a b : Ex) → number_rewrite (supply_at n k) g r a ≡ Some b → n + 3 ≤ m →
      (c : In) → Spares n (fill c a) → Spares m (fill c b)
