-- Lists that are collected, and what holds of each of their items.
use Rattle.std.proofs.Common.{◌≡◌, refl, List, [], ◌∷◌, ◌++◌, Option, Some, None, option_map}
use Rattle.std.specs.Prelude.{IsTrue, is_some}
use Rattle.ess_semantics.specs.Lists.{and_then}
use Rattle.ess_semantics.specs.Values.{Value}
use Rattle.ess_semantics.specs.Operators.{list_value}
use Rattle.ess_semantics.specs.Meaning.{collect}
use Rattle.ess_semantics.specs.Contexts.{Each}
use Rattle.ess_rules_laws.specs.Listings.{SameLists}
use Rattle.ess_rules_laws.proofs.Bindings.{each-join}
use Rattle.ess_rules_laws.proofs.Permutations.{Perm}
use Rattle.ess_rules_laws.proofs.Splices.{first-there, rest-there}
use Rattle.ess_rules_laws.proofs.Folds.{perm-counts}

-- A value that is there.
pub there-is : (o : Option Value) → IsTrue (is_some o) → (w : Value) × (o ≡ Some w)
there-is None t = cc
there-is (Some w) t = (w, refl)

-- Alternatives of a list that is there are there, in some order.
pub listed-there : (o : Option (List Value)) (xs : List Value) → SameLists (Some xs) o → (ws : List Value) × (o ≡ Some ws) × Perm xs ws
listed-there None xs h = absurd h
listed-there (Some ws) xs h = (ws, refl, perm-counts xs ws h)

-- Where lists are collected, each of them is there.
pub each-some : (vs : List Value) (F : Value → Option (List Value)) → IsTrue (is_some (collect vs F)) →
    Each vs (λ v. IsTrue (is_some (F v)))
each-some [] F h = tt
each-some (v ∷ vs) F h = (first-there (F v) (collect vs F) h, each-some vs F (rest-there (F v) (collect vs F) h))

-- And where each is there, all are.
pub some-each : (vs : List Value) (F : Value → Option (List Value)) → Each vs (λ v. IsTrue (is_some (F v))) →
    IsTrue (is_some (collect vs F))
some-each [] F h = refl
some-each (v ∷ vs) F h = go (F v) (collect vs F) h.0 (some-each vs F h.1)
  where
    go : (o p : Option (List Value)) → IsTrue (is_some o) → IsTrue (is_some p) →
        IsTrue (is_some (and_then o (λ xs. option_map (λ ys. xs ++ ys) p)))
    go None p h k = h
    go (Some xs) None h k = k
    go (Some xs) (Some ys) h k = refl

-- A list that is there is there as a value.
pub some-list : (o : Option (List Value)) → IsTrue (is_some o) → IsTrue (is_some (option_map list_value o))
some-list None h = h
some-list (Some xs) h = refl

-- And the other way round.
pub list-some : (o : Option (List Value)) → IsTrue (is_some (option_map list_value o)) → IsTrue (is_some o)
list-some None h = h
list-some (Some xs) h = refl

-- What holds of both.
pub each-both : (vs : List Value) (P Q : Value → Type 0) → Each vs P → Each vs Q → Each vs (λ v. P v × Q v)
each-both vs P Q p q = each-join vs P Q (λ v. P v × Q v) (λ v a b. (a, b)) p q

-- What holds with another thing holds.
pub left-of-both : (vs : List Value) (P Q : Value → Type 0) → Each vs (λ v. P v × Q v) → Each vs P
left-of-both [] P Q h = tt
left-of-both (v ∷ vs) P Q h = (h.0.0, left-of-both vs P Q h.1)

-- So does the other.
pub right-of-both : (vs : List Value) (P Q : Value → Type 0) → Each vs (λ v. P v × Q v) → Each vs Q
right-of-both [] P Q h = tt
right-of-both (v ∷ vs) P Q h = (h.0.1, right-of-both vs P Q h.1)
