-- What a judged expression's domain has: each attribute with a number stands once, and the domains are listed whose members attributes
-- ask for. Children that a kind makes of such a domain are such domains.
use Rattle.std.proofs.Common.{◌≡◌, refl, ap, ◌∙◌, ℕ, Bool, true, false, ◌||◌, if◌then◌else◌, List, [], ◌∷◌, ℤ, pos, Option, Some, None}
use Rattle.std.proofs.lemmas.Bool.{eq-eqb}
use Rattle.ess_semantics.specs.declared.words.Key.{Key}
use Rattle.ess_semantics.specs.Lists.{or_else}
use Rattle.ess_semantics.specs.Domains.{Attribute, numbered, flagged, Domain, Domains, tuples, records, matrices, sets, msets, functions, relations, partitions, no_domains, more_domains, attribute, has, same_key, key_number}
use Rattle.ess_semantics.specs.Sizes.{bound, size_attributes, pair_sizes, child_relation, child_set, child_parts}
use Rattle.ess_semantics.proofs.Tests.{or-yes}
use Rattle.ess_repr_laws.specs.StructureMeaning.{EachFlag}
use Rattle.ess_repr_laws.proofs.Enumerables.{IsEnumerated}

-- P of each attribute with a number.
abbrev pub EachNumber : (Key → ℤ → Type 0) → List Attribute → Type 0
EachNumber P [] = Unit {0}
EachNumber P (numbered k z ∷ ks) = P k z × EachNumber P ks
EachNumber P (flagged k ∷ ks) = EachNumber P ks

-- This is the number of the attribute, and isn't below 0.
abbrev pub IsTold : List Attribute → Key → ℤ → Type 0
IsTold ks k z = (m : ℕ) × (z ≡ pos m) × (attribute k ks ≡ Some m)

-- Each attribute's number is the only one of its key.
abbrev pub Told : List Attribute → Type 0
Told ks = EachNumber (IsTold ks) ks

-- The domain that the attribute lists has listed members.
abbrev pub FunctionFlag : Domain → Domain → Key → Type 0
FunctionFlag x y Key.Total = IsEnumerated x
FunctionFlag x y Key.Surjective = IsEnumerated y
FunctionFlag x y Key.Bijective = IsEnumerated y
FunctionFlag x y _ = Unit {0}

-- So of a relation between x and y.
abbrev pub PairFlag : Domain → Domain → Key → Type 0
PairFlag x y Key.Reflexive = IsEnumerated x
PairFlag x y _ = Unit {0}

-- A relation with an attribute without a number is one between two.
abbrev pub RelationFlag : Domains → Key → Type 0
RelationFlag (more_domains x (more_domains y no_domains)) k = PairFlag x y k
RelationFlag xs k = ⊥

abbrev mutual
  -- Each layer is so.
  pub NeatDomain : Domain → Type 0
  NeatDomain (tuples ds) = AllNeatDomains ds
  NeatDomain (records fs ds) = AllNeatDomains ds
  NeatDomain (matrices is d) = NeatDomain d
  NeatDomain (sets ks d) = Told ks × NeatDomain d
  NeatDomain (msets ks d) = Told ks × NeatDomain d
  NeatDomain (functions ks d c) = Told ks × EachFlag (FunctionFlag d c) ks × NeatDomain d × NeatDomain c
  NeatDomain (relations ks ds) = Told ks × EachFlag (RelationFlag ds) ks × AllNeatDomains ds
  NeatDomain (partitions ks d) = Told ks × IsEnumerated d × NeatDomain d
  NeatDomain d = Unit {0}

  -- The same of several domains.
  pub AllNeatDomains : Domains → Type 0
  AllNeatDomains no_domains = Unit {0}
  AllNeatDomains (more_domains d ds) = NeatDomain d × AllNeatDomains ds

-- ---- sizes of children

-- Sizes that are made of numbers are told.
pub sizes-told : (s a b : Option ℕ) → Told (size_attributes s a b)
sizes-told None None None = tt
sizes-told None None (Some n) = ((n, refl, refl), tt)
sizes-told None (Some n) None = ((n, refl, refl), tt)
sizes-told None (Some n) (Some m) = ((n, refl, refl), ((m, refl, refl), tt))
sizes-told (Some n) None None = ((n, refl, refl), tt)
sizes-told (Some n) None (Some m) = ((n, refl, refl), ((m, refl, refl), tt))
sizes-told (Some n) (Some m) None = ((n, refl, refl), ((m, refl, refl), tt))
sizes-told (Some n) (Some m) (Some o) = ((n, refl, refl), ((m, refl, refl), ((o, refl, refl), tt)))

-- They have no attribute without a number.
pub sizes-unflagged : (Q : Key → Type 0) (s a b : Option ℕ) → EachFlag Q (size_attributes s a b)
sizes-unflagged Q None None None = tt
sizes-unflagged Q None None (Some n) = tt
sizes-unflagged Q None (Some n) None = tt
sizes-unflagged Q None (Some n) (Some m) = tt
sizes-unflagged Q (Some n) None None = tt
sizes-unflagged Q (Some n) None (Some m) = tt
sizes-unflagged Q (Some n) (Some m) None = tt
sizes-unflagged Q (Some n) (Some m) (Some o) = tt

pair-sizes-neat : (Q : Key → Type 0) (ks : List Attribute) (x : Domain) → Told (pair_sizes ks x) × EachFlag Q (pair_sizes ks x)
pair-sizes-neat Q ks x =
    go (has Key.Total ks) (if has Key.Size ks then attribute Key.MaxSize ks else or_else (attribute Key.MaxSize ks) (Some (bound x)))
  where
    go : (b : Bool) (o : Option ℕ) →
        Told (if b then size_attributes (Some (bound x)) (attribute Key.MinSize ks) (attribute Key.MaxSize ks)
        else size_attributes (attribute Key.Size ks) (attribute Key.MinSize ks) o)
        × EachFlag Q (if b then size_attributes (Some (bound x)) (attribute Key.MinSize ks) (attribute Key.MaxSize ks)
        else size_attributes (attribute Key.Size ks) (attribute Key.MinSize ks) o)
    go true o = (
      sizes-told (Some (bound x)) (attribute Key.MinSize ks) (attribute Key.MaxSize ks),
      sizes-unflagged Q (Some (bound x)) (attribute Key.MinSize ks) (attribute Key.MaxSize ks),
    )
    go false o = (
      sizes-told (attribute Key.Size ks) (attribute Key.MinSize ks) o,
      sizes-unflagged Q (attribute Key.Size ks) (attribute Key.MinSize ks) o,
    )

-- The relation of a function's pairs.
pub relation-neat : (ks : List Attribute) (x y : Domain) → NeatDomain x → NeatDomain y → NeatDomain (child_relation ks x y)
relation-neat ks x y n m = let p = pair-sizes-neat (PairFlag x y) ks x in (p.0, p.1, (n, (m, tt)))

-- The set of a relation's tuples.
pub set-neat : (ks : List Attribute) (xs : Domains) → AllNeatDomains xs → NeatDomain (child_set ks xs)
set-neat ks xs n = (sizes-told (attribute Key.Size ks) (attribute Key.MinSize ks) (attribute Key.MaxSize ks), n)

-- The set of a partition's parts.
pub parts-neat : (ks : List Attribute) (x : Domain) → NeatDomain x → NeatDomain (child_parts ks x)
parts-neat ks x n = (
  sizes-told (attribute Key.NumParts ks) (attribute Key.MinNumParts ks)
      (if has Key.NumParts ks then attribute Key.MaxNumParts ks else or_else (attribute Key.MaxNumParts ks) (Some (bound x))),
  (sizes-told (attribute Key.PartSize ks) (attribute Key.MinPartSize ks) (attribute Key.MaxPartSize ks), n),
)

-- ---- attributes without a number

-- An attribute that stands without a number stands.
pub flags-there : (ks : List Attribute) → EachFlag (λ k. has k ks ≡ true) ks
flags-there ks = go ks (λ k h. h)
  where
    key-itself : (k : Key) → same_key k k ≡ true
    key-itself k = eq-eqb (key_number k) (key_number k) refl

    go : (js : List Attribute) → ((k : Key) → has k js ≡ true → has k ks ≡ true) → EachFlag (λ k. has k ks ≡ true) js
    go [] f = tt
    go (numbered k n ∷ js) f = go js (λ j h. f j (ap (λ b. same_key j k || b) h ∙ or-yes (same_key j k)))
    go (flagged k ∷ js) f = (
      f k (ap (λ b. b || has k js) (key-itself k)),
      go js
          (λ j h. f j (ap (λ b. same_key j k || b) h ∙ or-yes (same_key j k))),
    )
