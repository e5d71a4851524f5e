-- Which names a rule makes a tree have: those that the tree has, and the names that the rule takes.
use Rattle.std.specs.Prelude.{◌≡◌, Bool, Some, IsTrue}
use Rattle.ess_semantics.specs.Values.{Text}
use Rattle.ess_semantics.specs.Names.{Names}
use Rattle.ess_semantics.specs.Trees.{Ex, ex2}
use Rattle.ess_semantics.specs.Types.{Ty}
use Rattle.ess_semantics.specs.Contexts.{In, fill}
use Rattle.ess_refine_laws.specs.AllRules.{Rule, equal_matrices_at, least_under_a_condition, Supply, opposite_copied, rewrite}
use Rattle.ess_chain_names_laws.specs.NamesHave.{NamesHave, DomNamesHave, EachHas}

-- The index domains that the rule takes have such names, and so has a copy.
abbrev pub TakesHave : (Text → Bool) → Supply → Rule → Ex → Type 0
TakesHave u s equal_matrices_at (ex2 m o a b) = DomNamesHave u (s.index_domain a) × DomNamesHave u (s.index_domain b)
TakesHave u s least_under_a_condition e = NamesHave u (opposite_copied s e)
TakesHave u s r e = Unit {0}

-- What the rule takes has such names.
pub record SupplyHas (u : Text → Bool) (s : Supply) (r : Rule) (e : Ex) : Type 0 where
  pub one : IsTrue (u s.one)
  pub other : IsTrue (u s.other)
  pub third : IsTrue (u s.third)
  pub parts : EachHas u s.parts
  pub taken : TakesHave u s r e

-- What all names of the first tree have, all names of the second one have.
abbrev pub KeepsNames : (Text → Bool) → Ex → Ex → Type 0
KeepsNames u a b = NamesHave u a → NamesHave u b

-- Each rule keeps it where what the rule takes has it, and a part that keeps it keeps that of the whole.
pub record RulesKeepNames : Type 0 where
  pub by_each_rule : (u : Text → Bool) (s : Supply) (g : Names Ty) (r : Rule) (e f : Ex) → rewrite s g r e ≡ Some f → SupplyHas u s r e →
      KeepsNames u e f
  pub at_a_part : (u : Text → Bool) (c : In) (a b : Ex) → KeepsNames u a b → KeepsNames u (fill c a) (fill c b)
  pub of_a_part : (u : Text → Bool) (c : In) (a : Ex) → NamesHave u (fill c a) → NamesHave u a
