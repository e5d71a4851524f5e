-- The law of names of the values of enumerated types, stated at a function that does nothing.
use Rattle.std.specs.Prelude.{◌≡◌, ℕ, suc, true, List, [], ◌∷◌, pos, Some, None}
use Rattle.ess_semantics.specs.Values.{Text, item}
use Rattle.ess_semantics.specs.Names.{Names, look, is_among}
use Rattle.ess_semantics.specs.Trees.{Ex, number_ex, Stm, let_enum}
use Rattle.ess_semantics.specs.Prepared.{prepared}
use Rattle.ess_semantics.specs.Assignments.{Assignment, env_of}
use Rattle.ess_semantics.specs.Parameters.{Param}
use Rattle.ess_semantics.specs.Judgements.{fault}
use Rattle.ess_semantics.specs.Plans.{Options}
use Rattle.conjure_laws.specs.Members.{In}
use Rattle.conjure_model_laws.specs.Shown.{in_place, shows_of}

-- The positions from the k-th on stand for the names.
abbrev pub ArePositions : Names Ex → ℕ → List Text → Type 0
ArePositions vs k [] = Unit {0}
ArePositions vs k (n ∷ ns) = (look vs n ≡ Some (number_ex (pos k))) × ArePositions vs (suc k) ns

-- In a well typed specification, whatever the options are, the positions of values stand for the names that an enumerated type gives them,
-- counted from 1, and nothing that is declared later stands in their place. Under a parameter each such name has the value at its position.
pub record NamedValuesArePositions : Type 0 where
  pub shown : (S : List Stm) (o : Options) (t : Text) (ns : List Text) → fault S ≡ None → In (let_enum t ns) (prepared S) →
      ArePositions (shows_of S o).first 1 ns
  pub held : (S : List Stm) (o : Options) (p a : Assignment) (t : Text) (ns : List Text) (n : Text) → fault S ≡ None → Param S p →
      In (let_enum t ns) (prepared S) → is_among ns n ≡ true →
      (k : ℕ) × (look (env_of S p a).vals n ≡ Some (item t k)) × (in_place (shows_of S o).first n ≡ number_ex (pos k))
