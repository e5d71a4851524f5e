-- A generator over a term that becomes the generators of what lists the term: so values are kept, whatever offers the listing, where each
-- part of the listing has a value.
use Rattle.std.specs.Prelude.{◌≡◌, Bool, false, List, [], ◌∷◌, Some}
use Rattle.ess_semantics.specs.Values.{Text}
use Rattle.ess_semantics.specs.Trees.{Ex}
use Rattle.ess_semantics.specs.Meaning.{Env, meaning}
use Rattle.ess_rules_laws.specs.Listings.{Alternative}
use Rattle.ess_rules_laws.specs.ListedSources.{source_in_order, source_alone, source_parts, SourceApart, SourceInOrder, SourceOffers}
use Rattle.ess_values_along_laws.specs.Valued.{Valued, UnderValued}

-- Each part of the alternative's generators has a value wherever its context holds, and so has each part of its item at each of their
-- bindings.
abbrev pub Under : Alternative → Env → Type 0
Under a env = UnderValued a.gens env (λ here. Valued false a.item here)

-- So it is of each alternative.
abbrev pub AllUnder : List Alternative → Env → Type 0
AllUnder [] env = Unit {0}
AllUnder (a ∷ l) env = Under a env × AllUnder l env

-- The rules over what a source offers keep values: in order, under a word that forgets order where they keep the meaning, and under a fold
-- over several alternatives.
pub record ListedSourcesKeepValues : Type 0 where
  pub in_order : (r s : Text → Bool) (a : Alternative) (e f : Ex) → source_in_order a e ≡ Some f → SourceApart r s (a ∷ []) e →
      (env : Env) → SourceInOrder a e env → Under a env → (w : Bool) → Valued w e env → Valued w f env
  pub alone : (r s : Text → Bool) (a : Alternative) (e f : Ex) → source_alone a e ≡ Some f → SourceApart r s (a ∷ []) e →
      (env : Env) → SourceOffers (a ∷ []) e env → Under a env → meaning e env ≡ meaning f env → (w : Bool) → Valued w e env →
      Valued w f env
  pub in_parts : (r s : Text → Bool) (l : List Alternative) (e f : Ex) → source_parts l e ≡ Some f → SourceApart r s l e →
      (env : Env) → SourceOffers l e env → AllUnder l env → (w : Bool) → Valued w e env → Valued w f env
