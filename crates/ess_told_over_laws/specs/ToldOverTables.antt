-- Trees over tables whose bound names are told apart anew, as terms want it that are put in at several places.
use Rattle.std.specs.Prelude.{◌≡◌, ℕ, ◌<◌, ◌≤◌, ◌^◌, Bool, false, [], IsTrue}
use Rattle.ess_semantics.specs.Values.{Text}
use Rattle.ess_semantics.specs.Trees.{Ex}
use Rattle.ess_semantics.specs.Scoped.{Scoped}
use Rattle.ess_semantics.specs.Meaning.{Env, meaning}
use Rattle.ess_semantics.specs.Kept.{Keeps}
use Rattle.conjure_model_laws.specs.ToldApart.{reserved, told, told_apart}

-- The tree is in scope: z are the names that domains of declarations may use, s those in scope, o those of them that are bound over
-- domains; and none in scope is a reserved name from the k-th on, below the 2 ^ 64-th.
pub record IsScopedBelow (z s o : Text → Bool) (k : ℕ) (e : Ex) : Type 0 where
  pub scoped : Scoped z s o e
  pub around : (c : Text) → IsTrue (z c) → IsTrue (s c)
  pub within : (c : Text) → IsTrue (o c) → IsTrue (s c)
  pub spared : (j : ℕ) → k ≤ j → j < 2 ^ 64 → s (reserved j) ≡ false

-- Such a tree, told apart from the k-th name on, means what it meant in every env, with its cells and views, is kept, and stays in scope.
pub record ToldTreesKeep : Type 0 where
  pub means : (z s o : Text → Bool) (k : ℕ) (e : Ex) → IsScopedBelow z s o k e → (told e [] k).1 ≤ 2 ^ 64 → (env : Env) →
      meaning (told_apart k e) env ≡ meaning e env
  pub keeps : (z s o : Text → Bool) (k : ℕ) (e : Ex) → IsScopedBelow z s o k e → (told e [] k).1 ≤ 2 ^ 64 → (env : Env) →
      Keeps e (told_apart k e) env
  pub stays : (z s o : Text → Bool) (k : ℕ) (e : Ex) → IsScopedBelow z s o k e → (told e [] k).1 ≤ 2 ^ 64 →
      Scoped z s o (told_apart k e)
