-- Two names that stand nowhere in a tree.
use Rattle.std.specs.Prelude.{not, IsTrue}
use Rattle.ess_semantics.specs.Values.{Text}
use Rattle.ess_semantics.specs.Order.{same_text}
use Rattle.ess_semantics.specs.Trees.{Ex}
use Rattle.ess_rules_laws.specs.Rules.{Unused}

-- The names x and y are new, and differ.
pub record TwoNew (x y : Text) (v : Ex) : Type 0 where
  pub first : Unused x v
  pub second : Unused y v
  pub differ : IsTrue (not (same_text y x))
