-- Views of judged domains under an env; what a view of a set offers in the place of a member is one again.
use Rattle.std.specs.Prelude.{◌≡◌, ℕ, ◌<◌, true, false, List, ◌∷◌, Some}
use Rattle.ess_semantics.specs.Values.{Text, Value}
use Rattle.ess_semantics.specs.Order.{same_text}
use Rattle.ess_semantics.specs.Trees.{Repr, Ex, seen_ex, Dom}
use Rattle.ess_semantics.specs.Domains.{Domain}
use Rattle.ess_semantics.specs.Meaning.{Env}
use Rattle.ess_repr_structure_laws.specs.Laws.{JudgedView}
use Rattle.ess_rules_laws.specs.Rules.{Unused}
use Rattle.ess_rules_laws.specs.Listings.{Alternative}
use Rattle.ess_kind_rules_laws.specs.ViewListings.{view_listing}
use Rattle.ess_kind_sizes_laws.specs.ViewsBehind.{is_view_of_set}

-- The domain is judged, denotes one under the env, and the representation fits it; `names` are ones that it doesn't use. The judgements on
-- a specification deliver it for the views of its finds and givens, and these for what they offer.
pub record JudgedSeen (r : Repr) (d : Dom) (env : Env) : Type 0 where
  pub names : ℕ → Text
  pub differ : (m l : ℕ) → l < m → same_text (names m) (names l) ≡ false
  pub domain : Domain
  pub judged : JudgedView env names r d domain

-- So it is of a view.
abbrev pub IsJudged : Ex → Env → Type 0
IsJudged (seen_ex r d ns js) env = JudgedSeen r d env
IsJudged e env = Unit {0}

-- The env with a value for one more name.
abbrev pub with_value : Text → Value → Env → Env
with_value x v env = record env { vals = (x, v) ∷ env.vals }

-- So the item that a view of a set offers is a view of a judged domain where the set's is one, or a name.
abbrev pub ItemsOfSetsAreJudged : Type 0
ItemsOfSetsAreJudged =
    (x y : Text) (zs : List Text) (t : Ex) (a : Alternative) → view_listing x y zs t ≡ Some a → is_view_of_set t ≡ true → Unused x t →
    (env : Env) → IsJudged t env → (v : Value) → IsJudged a.item (with_value x v env)
