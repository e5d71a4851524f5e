-- Which options a specification takes (the option `--use-repr` is this project's own): each item names a given or find with
-- a domain, one that no item before it names, and gives it one or more representations, which fit its domain and differ.
use Rattle.std.specs.Prelude.{◌≡◌, ℕ, not, List, [], ◌∷◌, Some, IsTrue}
use Rattle.std.specs.List.{list_all}
use Rattle.ess_semantics.specs.Lists.{is_some_and, is_empty, item_number}
use Rattle.ess_semantics.specs.Values.{Text}
use Rattle.ess_semantics.specs.Names.{Names, look, is_among}
use Rattle.ess_semantics.specs.Trees.{Repr, Dom, Stm}
use Rattle.ess_semantics.specs.Kinds.{fits}
use Rattle.ess_semantics.specs.Plans.{Options, kept_names}

-- No item stands twice.
abbrev pub Differ : {A : Type 0} → List A → Type 0
Differ [] = Unit {0}
Differ (x ∷ xs) = ((k : ℕ) → item_number xs k ≡ Some x → ⊥) × Differ xs

-- The item gives a name, which is none of those of the items before it, representations of its domain.
pub record ItemFits (ds : Names Dom) (done : List Text) (x : Text) (rs : List Repr) : Type 0 where
  pub new : IsTrue (not (is_among done x))
  pub some : IsTrue (not (is_empty rs))
  pub fitting : IsTrue (is_some_and (look ds x) (λ d. list_all (λ r. fits r d) rs))
  pub differ : Differ rs

-- Each item fits, behind items that give the names `done`.
abbrev pub ItemsFit : Names Dom → List Text → Options → Type 0
ItemsFit ds done [] = Unit {0}
ItemsFit ds done (b ∷ bs) = ItemFits ds done b.0 b.1 × ItemsFit ds (b.0 ∷ done) bs

-- The specification takes the options.
abbrev pub OptionsFit : List Stm → Options → Type 0
OptionsFit S o = ItemsFit (kept_names S) [] o
