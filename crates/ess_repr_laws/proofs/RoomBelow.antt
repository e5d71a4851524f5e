-- Where a representation has room for the members of a domain, its child has room for those of the child's domain.
use Rattle.std.proofs.Common.{◌≡◌, subst, false, List, [], ◌∷◌, Option, Some, None}
use Rattle.ess_semantics.specs.declared.words.ReprKind.{ReprKind}
use Rattle.ess_semantics.specs.Trees.{Repr, repr, no_reprs, more_reprs}
use Rattle.ess_semantics.specs.Domains.{Domain, tuples, matrices, sets, msets, functions, relations, partitions}
use Rattle.ess_semantics.specs.Layers.{Layer}
use Rattle.ess_semantics.specs.Representations.{layer}
use Rattle.ess_repr_laws.specs.Rooms.{Roomy}
use Rattle.ess_repr_laws.specs.CanonicalTables.{is_compound}

-- The only child has room.
abbrev OnlyRoomy : Repr → List Domain → Type 0
OnlyRoomy r (e ∷ []) = Roomy r e
OnlyRoomy r es = Unit {0}

-- The only child of a layer that is there.
abbrev Below : Repr → Option Layer → Type 0
Below r o = elim o as (λ o. Type 0) [ None ↦ Unit {0} | Some l ↦ OnlyRoomy r l.children ]

below : (k : ReprKind) (r : Repr) (d : Domain) → is_compound k ≡ false → Roomy (repr k (more_reprs r no_reprs)) d → Below r (layer k d)
below ReprKind.Tuple r d n h = cc
below ReprKind.Rec r d n h = cc
below ReprKind.Matrix r (matrices is d) n h = h.1
below ReprKind.Explicit r (sets ks d) n h = h.1
below ReprKind.ExplicitVarSizeWithMarker r (sets ks d) n h = h.1
below ReprKind.ExplicitVarSizeWithFlags r (sets ks d) n h = h.1
below ReprKind.MSetExplicitWithRepetition r (msets ks d) n h = h.0
below ReprKind.MSetExplicitWithFlags r (msets ks d) n h = h.0
below ReprKind.Function1D r (functions ks d c) n h = h.2
below ReprKind.Function1DPartial r (functions ks d c) n h = h.1
below ReprKind.FunctionND r (functions ks (tuples ds) c) n h = h.2
below ReprKind.FunctionNDPartial r (functions ks (tuples ds) c) n h = h.1
below ReprKind.FunctionAsRelation r (functions ks d c) n h = h.1
below ReprKind.RelationAsSet r (relations ks ds) n h = h
below ReprKind.PartitionAsSet r (partitions ks d) n h = h.1
below _ r d n h = absurd h

-- The room of the child.
pub room-below : (k : ReprKind) (r : Repr) (d e : Domain) (l : Layer) → is_compound k ≡ false → Roomy (repr k (more_reprs r no_reprs)) d →
    layer k d ≡ Some l → l.children ≡ e ∷ [] → Roomy r e
room-below k r d e l n h at only = subst (OnlyRoomy r) only (subst (Below r) at (below k r d n h))
