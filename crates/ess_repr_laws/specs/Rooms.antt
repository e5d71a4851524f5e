-- When a representation has room for each member of a domain: each kind stands over a domain for which it is one, slots are
-- enough, and what is listed can be listed. And the weaker form of it, under which canonical cells are one for a value.
use Rattle.std.specs.Prelude.{◌≡◌, true, false, List, [], ◌∷◌, ◌⊎◌, IsTrue, is_some}
use Rattle.ess_semantics.specs.declared.words.Key.{Key}
use Rattle.ess_semantics.specs.declared.words.ReprKind.{ReprKind}
use Rattle.ess_semantics.specs.Trees.{Repr, Reprs, repr, no_reprs, more_reprs}
use Rattle.ess_semantics.specs.Domains.{Attribute, Domain, integers, named, tuples, records, matrices, sets, msets, functions, relations, partitions, domain_list, attribute, has}
use Rattle.ess_semantics.specs.Atoms.{IsAtom, AreAtoms}
use Rattle.ess_semantics.specs.Sizes.{greatest_size, child_relation, child_set, child_parts}
use Rattle.ess_repr_laws.specs.Finite.{FiniteAtom, FiniteAtoms, HaveLists, Enumerated, Bounded, IsFlagged, OccursBound}

-- ---- what single kinds need

-- A domain with a dummy: one range with an upper bound, or a named type.
abbrev pub HasDummy : Domain → Type 0
HasDummy (integers (s ∷ [])) = IsTrue (is_some s.high)
HasDummy (named t n) = Unit {0}
HasDummy _ = ⊥

-- The number of slots of a set is given, or the bound of the inner domain is one.
abbrev pub SetRoom : List Attribute → Domain → Type 0
SetRoom ks d = IsTrue (is_some (greatest_size ks)) ⊎ Bounded d

-- The same of a multiset, where also occurrences are bounded.
abbrev pub MsetRoom : List Attribute → Domain → Type 0
MsetRoom ks d = OccursBound ks × (IsTrue (is_some (greatest_size ks)) ⊎ Bounded d)

-- A total function is from a domain whose members are listed; any other one from a domain with a bound.
pub record FunctionRoom (ks : List Attribute) (d : Domain) : Type 0 where
  pub total : has Key.Total ks ≡ true → IsFlagged Key.Total ks × Enumerated d
  pub bounded : has Key.Total ks ≡ false → Bounded d

-- ---- each kind over its domain

abbrev mutual
  -- Each kind stands over a domain for which it is one.
  pub Covered : Repr → Domain → Type 0
  Covered (repr ReprKind.Atom no_reprs) d = IsAtom d
  Covered (repr ReprKind.Tuple rs) (tuples ds) = AllCovered rs (domain_list ds)
  Covered (repr ReprKind.Rec rs) (records fs ds) = AllCovered rs (domain_list ds)
  Covered (repr ReprKind.Matrix (more_reprs r no_reprs)) (matrices is d) = AreAtoms is × HaveLists is × Covered r d
  Covered (repr ReprKind.Occurrence no_reprs) (sets ks d) = IsAtom d
  Covered (repr ReprKind.Explicit (more_reprs r no_reprs)) (sets ks d) = Covered r d
  Covered (repr ReprKind.ExplicitVarSizeWithMarker (more_reprs r no_reprs)) (sets ks d) = Covered r d
  Covered (repr ReprKind.ExplicitVarSizeWithFlags (more_reprs r no_reprs)) (sets ks d) = Covered r d
  Covered (repr ReprKind.ExplicitVarSizeWithDummy no_reprs) (sets ks d) = HasDummy d
  Covered (repr ReprKind.MSetOccurrence no_reprs) (msets ks d) = IsAtom d
  Covered (repr ReprKind.MSetExplicitWithRepetition (more_reprs r no_reprs)) (msets ks d) = Covered r d
  Covered (repr ReprKind.MSetExplicitWithFlags (more_reprs r no_reprs)) (msets ks d) = Covered r d
  Covered (repr ReprKind.Function1D (more_reprs r no_reprs)) (functions ks d c) = IsAtom d × Covered r c
  Covered (repr ReprKind.Function1DPartial (more_reprs r no_reprs)) (functions ks d c) = IsAtom d × Covered r c
  Covered (repr ReprKind.FunctionND (more_reprs r no_reprs)) (functions ks (tuples ds) c) = AreAtoms ds × Covered r c
  Covered (repr ReprKind.FunctionNDPartial (more_reprs r no_reprs)) (functions ks (tuples ds) c) = AreAtoms ds × Covered r c
  Covered (repr ReprKind.FunctionAsRelation (more_reprs r no_reprs)) (functions ks d c) = Covered r (child_relation ks d c)
  Covered (repr ReprKind.RelationAsMatrix no_reprs) (relations ks ds) = AreAtoms ds
  Covered (repr ReprKind.RelationAsSet (more_reprs r no_reprs)) (relations ks ds) = Covered r (child_set ks ds)
  Covered (repr ReprKind.PartitionOccurrence no_reprs) (partitions ks d) = IsAtom d
  Covered (repr ReprKind.PartitionAsSet (more_reprs r no_reprs)) (partitions ks d) = Covered r (child_parts ks d)
  Covered _ d = ⊥

  -- Each representation over its domain.
  pub AllCovered : Reprs → List Domain → Type 0
  AllCovered no_reprs [] = Unit {0}
  AllCovered (more_reprs r rs) (d ∷ ds) = Covered r d × AllCovered rs ds
  AllCovered _ _ = ⊥

-- ---- room

abbrev mutual
  -- The representation has room for each member of the domain.
  pub Roomy : Repr → Domain → Type 0
  Roomy (repr ReprKind.Atom no_reprs) d = IsAtom d
  Roomy (repr ReprKind.Tuple rs) (tuples ds) = AllRoomy rs (domain_list ds)
  Roomy (repr ReprKind.Rec rs) (records fs ds) = AllRoomy rs (domain_list ds)
  Roomy (repr ReprKind.Matrix (more_reprs r no_reprs)) (matrices is d) = FiniteAtoms is × Roomy r d
  Roomy (repr ReprKind.Occurrence no_reprs) (sets ks d) = FiniteAtom d
  Roomy (repr ReprKind.Explicit (more_reprs r no_reprs)) (sets ks d) = IsTrue (is_some (attribute Key.Size ks)) × Roomy r d
  Roomy (repr ReprKind.ExplicitVarSizeWithMarker (more_reprs r no_reprs)) (sets ks d) = SetRoom ks d × Roomy r d
  Roomy (repr ReprKind.ExplicitVarSizeWithFlags (more_reprs r no_reprs)) (sets ks d) = SetRoom ks d × Roomy r d
  Roomy (repr ReprKind.ExplicitVarSizeWithDummy no_reprs) (sets ks d) = HasDummy d × SetRoom ks d
  Roomy (repr ReprKind.MSetOccurrence no_reprs) (msets ks d) = FiniteAtom d × OccursBound ks
  Roomy (repr ReprKind.MSetExplicitWithRepetition (more_reprs r no_reprs)) (msets ks d) = Roomy r d × MsetRoom ks d
  Roomy (repr ReprKind.MSetExplicitWithFlags (more_reprs r no_reprs)) (msets ks d) = Roomy r d × MsetRoom ks d
  Roomy (repr ReprKind.Function1D (more_reprs r no_reprs)) (functions ks d c) = FiniteAtom d × IsFlagged Key.Total ks × Roomy r c
  Roomy (repr ReprKind.Function1DPartial (more_reprs r no_reprs)) (functions ks d c) = FiniteAtom d × Roomy r c
  Roomy (repr ReprKind.FunctionND (more_reprs r no_reprs)) (functions ks (tuples ds) c) =
      FiniteAtoms ds × IsFlagged Key.Total ks × Roomy r c
  Roomy (repr ReprKind.FunctionNDPartial (more_reprs r no_reprs)) (functions ks (tuples ds) c) = FiniteAtoms ds × Roomy r c
  Roomy (repr ReprKind.FunctionAsRelation (more_reprs r no_reprs)) (functions ks d c) = FunctionRoom ks d × Roomy r (child_relation ks d c)
  Roomy (repr ReprKind.RelationAsMatrix no_reprs) (relations ks ds) = FiniteAtoms ds
  Roomy (repr ReprKind.RelationAsSet (more_reprs r no_reprs)) (relations ks ds) = Roomy r (child_set ks ds)
  Roomy (repr ReprKind.PartitionOccurrence no_reprs) (partitions ks d) = FiniteAtom d × Bounded d
  Roomy (repr ReprKind.PartitionAsSet (more_reprs r no_reprs)) (partitions ks d) = Bounded d × Roomy r (child_parts ks d)
  Roomy _ d = ⊥

  -- Each representation for those of its domain.
  pub AllRoomy : Reprs → List Domain → Type 0
  AllRoomy no_reprs [] = Unit {0}
  AllRoomy (more_reprs r rs) (d ∷ ds) = Roomy r d × AllRoomy rs ds
  AllRoomy _ _ = ⊥
