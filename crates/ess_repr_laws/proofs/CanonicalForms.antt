-- Canonical cells stand for a member, are one for each value, and are tidy: by induction over the representation.
use Rattle.std.proofs.Common.{◌≡◌, refl, List, [], ◌∷◌, ℤ, pos, ◌+ℤ◌, Option, Some, None, IsTrue, is_some}
use Rattle.ess_semantics.specs.declared.words.ReprKind.{ReprKind}
use Rattle.ess_semantics.specs.Trees.{Repr, Reprs, repr, no_reprs, more_reprs}
use Rattle.ess_semantics.specs.Domains.{Attribute, Domain, Domains, booleans, integers, named, tuples, records, sets, msets, matrices, functions, relations, partitions, no_domains, more_domains, domain_list}
use Rattle.ess_repr_laws.proofs.CanonicalPlaces.{AllRight}
use Rattle.ess_repr_laws.proofs.CanonicalScalars.{boolean-right, integer-right, named-right, tuple-right, record-right}
use Rattle.ess_repr_laws.proofs.CanonicalMatrices.{matrix-right}
use Rattle.ess_repr_laws.proofs.CanonicalSets.{explicit-right, marker-right, flags-right}
use Rattle.ess_repr_laws.proofs.CanonicalOccurrence.{occurrence-right}
use Rattle.ess_semantics.specs.Sizes.{child_relation, child_set, child_parts}
use Rattle.ess_repr_laws.specs.Rooms.{HasDummy, Covered, AllCovered}
use Rattle.ess_repr_laws.specs.CanonicalTables.{Right}
use Rattle.ess_semantics.specs.Atoms.{IsAtom, AreAtoms}
use Rattle.ess_repr_laws.proofs.CanonicalFunctions.{function-1d-right, function-nd-right}
use Rattle.ess_repr_laws.proofs.CanonicalPartial.{function-1d-partial-right, function-nd-partial-right}
use Rattle.ess_repr_laws.proofs.CanonicalRelations.{relation-matrix-right}
use Rattle.ess_repr_laws.proofs.CanonicalConversions.{relation-as-set-right, function-as-relation-right}
use Rattle.ess_repr_laws.proofs.Dummies.{dummy-integers, dummy-named}
use Rattle.ess_repr_laws.proofs.CanonicalDummy.{dummy-right}
use Rattle.ess_repr_laws.proofs.CanonicalMultisets.{mset-occurrence-right}
use Rattle.ess_repr_laws.proofs.CanonicalRepetition.{repetition-right}
use Rattle.ess_repr_laws.proofs.CanonicalCounted.{mset-flags-right}
use Rattle.ess_repr_laws.proofs.CanonicalPartitions.{partition-as-set-right}
use Rattle.ess_repr_laws.proofs.CanonicalNumbers.{partition-occurrence-right}
use Rattle.ess_repr_laws.proofs.TupleMembers.{AllListed}
use Rattle.ess_semantics.proofs.MemberLists.{atom-listed}

-- Atoms have lists of members that rise.
pub atoms-listed : (ds : Domains) → AreAtoms ds → AllListed ds
atoms-listed no_domains a = tt
atoms-listed (more_domains d ds) a = (atom-listed d a.0, atoms-listed ds a.1)

with-dummy : (d : Domain) (ks : List Attribute) → HasDummy d → Right (repr ReprKind.ExplicitVarSizeWithDummy no_reprs) (sets ks d)
with-dummy (integers (s ∷ [])) ks h = go s.high refl h
  where
    go : (o : Option ℤ) → s.high ≡ o → IsTrue (is_some o) → Right (repr ReprKind.ExplicitVarSizeWithDummy no_reprs) (sets ks (integers (s ∷ [])))
    go None q h = cc
    go (Some b) q h = dummy-right (integers (s ∷ [])) ks (b +ℤ pos 1) (dummy-integers s b q)
with-dummy (named t n) ks h = dummy-right (named t n) ks (pos n +ℤ pos 1) (dummy-named t n)
with-dummy (integers []) ks h = absurd h
with-dummy (integers (s ∷ r ∷ ss)) ks h = absurd h
with-dummy _ ks h = absurd h

atom-right : (d : Domain) → IsAtom d → Right (repr ReprKind.Atom no_reprs) d
atom-right booleans a = boolean-right
atom-right (integers ss) a = integer-right ss
atom-right (named t n) a = named-right t n
atom-right _ a = absurd a

mutual
  -- Canonical cells stand for a value, are one for each value, and are tidy.
  pub right : (r : Repr) (d : Domain) → Covered r d → Right r d
  right (repr ReprKind.Atom no_reprs) d h = atom-right d h
  right (repr ReprKind.Tuple rs) (tuples ds) h = tuple-right rs ds (all-right rs (domain_list ds) h)
  right (repr ReprKind.Rec rs) (records fs ds) h = record-right rs fs ds (all-right rs (domain_list ds) h)
  right (repr ReprKind.Matrix (more_reprs r no_reprs)) (matrices is d) h = matrix-right r is d h.1 (right r d h.2)
  right (repr ReprKind.Occurrence no_reprs) (sets ks d) h = occurrence-right d ks (atom-listed d h)
  right (repr ReprKind.Explicit (more_reprs r no_reprs)) (sets ks d) h = explicit-right r d ks (right r d h)
  right (repr ReprKind.ExplicitVarSizeWithMarker (more_reprs r no_reprs)) (sets ks d) h = marker-right r d ks (right r d h)
  right (repr ReprKind.ExplicitVarSizeWithFlags (more_reprs r no_reprs)) (sets ks d) h = flags-right r d ks (right r d h)
  right (repr ReprKind.ExplicitVarSizeWithDummy no_reprs) (sets ks d) h = with-dummy d ks h
  right (repr ReprKind.MSetOccurrence no_reprs) (msets ks d) h = mset-occurrence-right d ks (atom-listed d h)
  right (repr ReprKind.MSetExplicitWithRepetition (more_reprs r no_reprs)) (msets ks d) h = repetition-right r d ks (right r d h)
  right (repr ReprKind.MSetExplicitWithFlags (more_reprs r no_reprs)) (msets ks d) h = mset-flags-right r d ks (right r d h)
  right (repr ReprKind.Function1D (more_reprs r no_reprs)) (functions ks d c) h = function-1d-right r ks d c (atom-listed d h.0) (right r c h.1)
  right (repr ReprKind.Function1DPartial (more_reprs r no_reprs)) (functions ks d c) h = function-1d-partial-right r ks d c (atom-listed d h.0) (right r c h.1)
  right (repr ReprKind.FunctionND (more_reprs r no_reprs)) (functions ks (tuples ds) c) h = function-nd-right r ks ds c (atoms-listed ds h.0) (right r c h.1)
  right (repr ReprKind.FunctionNDPartial (more_reprs r no_reprs)) (functions ks (tuples ds) c) h = function-nd-partial-right r ks ds c (atoms-listed ds h.0) (right r c h.1)
  right (repr ReprKind.FunctionAsRelation (more_reprs r no_reprs)) (functions ks d c) h = function-as-relation-right r ks d c (right r (child_relation ks d c) h)
  right (repr ReprKind.RelationAsMatrix no_reprs) (relations ks ds) h = relation-matrix-right ks ds (atoms-listed ds h)
  right (repr ReprKind.RelationAsSet (more_reprs r no_reprs)) (relations ks ds) h = relation-as-set-right r ks ds (right r (child_set ks ds) h)
  right (repr ReprKind.PartitionOccurrence no_reprs) (partitions ks d) h = partition-occurrence-right d ks (atom-listed d h)
  right (repr ReprKind.PartitionAsSet (more_reprs r no_reprs)) (partitions ks d) h = partition-as-set-right r ks d (right r (child_parts ks d) h)
  right _ d h = absurd h

  all-right : (rs : Reprs) (ds : List Domain) → AllCovered rs ds → AllRight rs ds
  all-right no_reprs [] h = tt
  all-right (more_reprs r rs) (d ∷ ds) h = (right r d h.0, all-right rs ds h.1)
  all-right no_reprs (d ∷ ds) h = absurd h
  all-right (more_reprs r rs) [] h = absurd h
