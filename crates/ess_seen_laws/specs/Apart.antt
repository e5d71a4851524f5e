-- Names of a tree over views that are told apart, and a new name, as rules ask for it that put the item of a view in the place of a name.
use Rattle.std.specs.Prelude.{◌≡◌, Bool, true, not, Some, None}
use Rattle.ess_semantics.specs.Values.{Text}
use Rattle.ess_semantics.specs.Order.{same_text}
use Rattle.ess_semantics.specs.Names.{Names, look}
use Rattle.ess_semantics.specs.Trees.{Ex}
use Rattle.ess_semantics.specs.Substitution.{NamesAre}
use Rattle.ess_semantics.specs.Scoped.{Scoped}
use Rattle.ess_rules_laws.specs.Rules.{Unused}
use Rattle.ess_seen_laws.specs.Seen.{Bound}

-- Names are told apart at a tree around which the names r are bound: it is in scope, no bound name of it hides another one, and names that
-- are bound around are in scope. The new name x is none of these, and the tree neither uses nor binds it.
pub record Apart (x : Text) (r : Names Bound) (e : Ex) : Type 0 where
  pub declared : Text → Bool
  pub scope : Text → Bool
  pub ranging : Text → Bool
  pub scoped : Scoped declared scope ranging e
  pub covers : (a : Text) (b : Bound) → look r a ≡ Some b → scope a ≡ true
  pub new : look r x ≡ None
  pub unused : Unused x e
  pub unbound : NamesAre (λ a. true) (λ a. not (same_text x a)) e
