-- The rules of comprehensions whose items have an order take no names but those of the supply: what these and all names of a tree have, all
-- names of what a rule makes of the tree have. Where a comprehension over what is picked becomes one over each alternative of that, a view
-- of a partial function is spelled by a cell of one of its tables: there the tables of the view have it too.
use Rattle.std.specs.Prelude.{◌≡◌, ℕ, ◌+◌, ◌≤◌, ◌<◌, ◌^◌, Bool, true, false, Some, IsTrue}
use Rattle.ess_semantics.specs.Values.{Text}
use Rattle.ess_semantics.specs.Names.{Names}
use Rattle.ess_semantics.specs.Trees.{Ex, Exs, node_ex, comp_ex, seen_ex, no_exs, more_exs, from}
use Rattle.ess_semantics.specs.Types.{Ty}
use Rattle.ess_semantics.specs.Contexts.{In, fill}
use Rattle.ess_refine_laws.specs.AllRules.{Supply}
use Rattle.ess_ordered_laws.specs.OrderedRules.{OrderedRule, of_an_item, source_of_an_item, keeps_order, ordered_rewrite}
use Rattle.conjure_model_laws.specs.ToldApart.{reserved}
use Rattle.ess_chain_names_laws.specs.NamesHave.{EachHas}
use Rattle.ess_chain_names_laws.specs.RulesKeepNames.{KeepsNames}
use Rattle.ess_chain_names_laws.specs.Steps.{supply_at}
use Rattle.ess_chain_names_laws.specs.SparedNames.{Spares}

-- The name that is bound over an item as a source is such, where that is the rule.
abbrev pub OtherHas : (Text → Bool) → Supply → OrderedRule → Type 0
OtherHas u s source_of_an_item = IsTrue (u s.other)
OtherHas u s r = Unit {0}

-- The names that the rule takes are such: the first, the third, those for what is picked within and for generators, and that one.
pub record TakenHave (u : Text → Bool) (s : Supply) (r : OrderedRule) : Type 0 where
  pub one : IsTrue (u s.one)
  pub other : OtherHas u s r
  pub third : IsTrue (u s.third)
  pub parts : EachHas u s.parts

-- ---- comprehensions over what is picked

-- P holds of the first source of the comprehension.
abbrev pub AtSource : (Ex → Type 0) → Ex → Type 0
AtSource P (comp_ex e (from p t gs)) = P t
AtSource P e = Unit {0}

-- The same of each operand.
abbrev pub AtSources : (Ex → Type 0) → Exs → Type 0
AtSources P no_exs = Unit {0}
AtSources P (more_exs e es) = AtSource P e × AtSources P es

-- The same of the operands of a root that such a rule may rewrite: of an operator for whose operands order counts.
abbrev pub WherePicked : (Ex → Type 0) → OrderedRule → Ex → Type 0
WherePicked P of_an_item (node_ex b op es) = keeps_order (node_ex b op es) ≡ true → AtSources P es
WherePicked P r e = Unit {0}

module _ (u : Text → Bool) where
  -- The tables of the view that a pick goes to have u.
  abbrev pub ViewHas : Ex → Type 0
  ViewHas (seen_ex r d ns es) = EachHas u ns
  ViewHas (node_ex b op (more_exs t es)) = ViewHas t
  ViewHas e = Unit {0}

  -- So has the name that is bound over what is picked.
  abbrev pub PickHas : Supply → Ex → Type 0
  PickHas s t = IsTrue (u s.other) × ViewHas t

-- ---- the law

-- So each rule keeps it. With reserved names from the n-th on and none from the m-th on, at any part of a tree which spares those from the
-- n-th on, it leaves a tree that spares those from the m-th on, where these are no tables of views which are picked from.
pub record OrderedRulesKeepNames : Type 0 where
  pub by_each_rule : (u : Text → Bool) (s : Supply) (g : Names Ty) (r : OrderedRule) (e f : Ex) → ordered_rewrite s g r e ≡ Some f →
      TakenHave u s r → WherePicked (PickHas u s) r e → KeepsNames u e f
  pub spared : (n k m : ℕ) (g : Names Ty) (r : OrderedRule) (a b : Ex) → ordered_rewrite (supply_at n k) g r a ≡ Some b → n + 3 + k ≤ m →
      (v : Text → Bool) → WherePicked (ViewHas v) r a → ((j : ℕ) → m ≤ j → j < 2 ^ 64 → v (reserved j) ≡ false) →
      (c : In) → Spares n (fill c a) → Spares m (fill c b)
