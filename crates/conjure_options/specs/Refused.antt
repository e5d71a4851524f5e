-- Why a list of representations is refused.
use Rattle.std.specs.Prelude.{◌≡◌, ℕ, suc, List, [], ◌∷◌, ◌++◌, length}
use Rattle.ess_semantics.specs.Values.{Text}
use Rattle.ess_semantics.specs.Names.{Names, keys}
use Rattle.ess_semantics.specs.Trees.{Repr, Dom}
use Rattle.ess_semantics.specs.Plans.{Options}
use Rattle.conjure_options.specs.Items.{IsItem, AreItems}
use Rattle.conjure_options.specs.declared.options.OptionsNo.{OptionsNo}
use Rattle.conjure_options.specs.declared.options.OptionsNo.TheVariants.{BadItem, NoMemory}

-- The item of this number, counted from 1, is the first that isn't taken.
pub record IsFirstRefused (ds : Names Dom) (items : List Text) (k : ℕ) : Type 0 where
  pub front : List Text
  pub item : Text
  pub rest : List Text
  pub before : Options
  pub there : items ≡ front ++ item ∷ rest
  pub taken : AreItems ds [] front before
  pub number : k ≡ suc (length front)
  pub refused : (b : Text × List Repr) → IsItem ds (keys before) item b → ⊥

-- Why the list of these items is refused.
abbrev pub IsRefusedAt : Names Dom → List Text → OptionsNo → Type 0
IsRefusedAt ds items (BadItem k) = IsFirstRefused ds items k
IsRefusedAt ds items NoMemory = Unit {0}
