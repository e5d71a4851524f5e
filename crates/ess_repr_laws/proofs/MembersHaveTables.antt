-- Each member of a domain has canonical tables that stand for it: by induction over the representation.
use Rattle.std.proofs.Common.{◌≡◌, sym, ap, ◌∙◌, subst, true, false, List, [], ◌∷◌}
use Rattle.ess_semantics.specs.declared.words.ReprKind.{ReprKind}
use Rattle.ess_semantics.specs.Values.{Value}
use Rattle.ess_semantics.specs.Trees.{Repr, Reprs, repr, no_reprs, more_reprs}
use Rattle.ess_semantics.specs.Domains.{Domain, Domains, no_domains, more_domains, tuples, records, matrices, sets, msets, functions, relations, partitions, domain_list}
use Rattle.ess_semantics.specs.Membership.{member}
use Rattle.ess_semantics.specs.Sizes.{child_relation, child_set, child_parts}
use Rattle.ess_semantics.specs.Cells.{cells_of}
use Rattle.ess_semantics.specs.Representations.{value_of_cells}
use Rattle.ess_semantics.specs.Declarations.{declarations}
use Rattle.ess_repr_laws.specs.Rooms.{Covered, AllCovered, Roomy, AllRoomy}
use Rattle.ess_repr_laws.specs.CanonicalTables.{OneForm, TablesFit}
use Rattle.ess_repr_laws.specs.Finite.{HaveLists, FiniteAtoms}
use Rattle.ess_repr_laws.proofs.AxesOfTables.{canonical-once}
use Rattle.ess_repr_laws.proofs.Behind.{behind-none}
use Rattle.ess_repr_laws.proofs.CellsOfMembers.{MembersHaveCells, cells-tables}
use Rattle.ess_repr_laws.proofs.FittingTables.{tables-fit}
use Rattle.ess_repr_laws.proofs.CellDomains.{canonical-fits}
use Rattle.ess_repr_laws.proofs.CellsOfOccurrences.{are-atoms, atom-members, occurrence-members, relation-matrix-members}
use Rattle.ess_repr_laws.proofs.CellsOfSets.{explicit-members, marker-members, flags-members}
use Rattle.ess_repr_laws.proofs.CellsOfFunctions.{function-1d-members, function-1d-partial-members, function-nd-members, function-nd-partial-members}
use Rattle.ess_repr_laws.proofs.CellsOfConversions.{relation-as-set-members}
use Rattle.ess_repr_laws.proofs.FunctionsAsRelations.{function-as-relation-members}
use Rattle.ess_repr_laws.proofs.CellsOfTuples.{AllHaveCells, tuple-members, record-members}
use Rattle.ess_repr_laws.proofs.CellsOfMatrices.{matrix-members}
use Rattle.ess_repr_laws.proofs.CellsOfDummies.{dummy-members}
use Rattle.ess_repr_laws.proofs.CellsOfOccurrenceCounts.{mset-occurrence-members}
use Rattle.ess_repr_laws.proofs.CellsOfMultisets.{repetition-members, mset-flags-members}
use Rattle.ess_repr_laws.proofs.CellsOfPartitions.{partition-as-set-members}
use Rattle.ess_repr_laws.proofs.CellsOfPartNumbers.{partition-occurrence-members}

mutual
  -- Each member of a domain has canonical cells.
  pub members_have_cells : (r : Repr) (d : Domain) → Roomy r d → MembersHaveCells r d
  members_have_cells (repr ReprKind.Atom no_reprs) d h = atom-members d h
  members_have_cells (repr ReprKind.Tuple rs) (tuples ds) h = tuple-members rs ds (all-members rs (domain_list ds) h)
  members_have_cells (repr ReprKind.Rec rs) (records fs ds) h = record-members rs ds (all-members rs (domain_list ds) h) fs
  members_have_cells (repr ReprKind.Matrix (more_reprs r no_reprs)) (matrices is d) h = matrix-members r is d (are-atoms is h.0) (members_have_cells r d h.1)
  members_have_cells (repr ReprKind.Occurrence no_reprs) (sets ks d) h = occurrence-members d ks h
  members_have_cells (repr ReprKind.Explicit (more_reprs r no_reprs)) (sets ks d) h = explicit-members r d ks (members_have_cells r d h.1) h.0
  members_have_cells (repr ReprKind.ExplicitVarSizeWithMarker (more_reprs r no_reprs)) (sets ks d) h = marker-members r d ks (members_have_cells r d h.1) h.0
  members_have_cells (repr ReprKind.ExplicitVarSizeWithFlags (more_reprs r no_reprs)) (sets ks d) h = flags-members r d ks (members_have_cells r d h.1) h.0
  members_have_cells (repr ReprKind.ExplicitVarSizeWithDummy no_reprs) (sets ks d) h = dummy-members d ks h.0 h.1
  members_have_cells (repr ReprKind.MSetOccurrence no_reprs) (msets ks d) h = mset-occurrence-members d ks h.0 h.1
  members_have_cells (repr ReprKind.MSetExplicitWithRepetition (more_reprs r no_reprs)) (msets ks d) h = repetition-members r d ks (members_have_cells r d h.0) h.1
  members_have_cells (repr ReprKind.MSetExplicitWithFlags (more_reprs r no_reprs)) (msets ks d) h = mset-flags-members r d ks (members_have_cells r d h.0) h.1
  members_have_cells (repr ReprKind.Function1D (more_reprs r no_reprs)) (functions ks d c) h = function-1d-members r ks d c h.0 (members_have_cells r c h.2) h.1
  members_have_cells (repr ReprKind.Function1DPartial (more_reprs r no_reprs)) (functions ks d c) h = function-1d-partial-members r ks d c h.0 (members_have_cells r c h.1)
  members_have_cells (repr ReprKind.FunctionND (more_reprs r no_reprs)) (functions ks (tuples ds) c) h = function-nd-members r ks ds c h.0 (members_have_cells r c h.2) h.1
  members_have_cells (repr ReprKind.FunctionNDPartial (more_reprs r no_reprs)) (functions ks (tuples ds) c) h = function-nd-partial-members r ks ds c h.0 (members_have_cells r c h.1)
  members_have_cells (repr ReprKind.FunctionAsRelation (more_reprs r no_reprs)) (functions ks d c) h = function-as-relation-members r ks d c h.0 (members_have_cells r (child_relation ks d c) h.1)
  members_have_cells (repr ReprKind.RelationAsMatrix no_reprs) (relations ks ds) h = relation-matrix-members ds ks h
  members_have_cells (repr ReprKind.RelationAsSet (more_reprs r no_reprs)) (relations ks ds) h = relation-as-set-members r ks ds (members_have_cells r (child_set ks ds) h)
  members_have_cells (repr ReprKind.PartitionOccurrence no_reprs) (partitions ks d) h = partition-occurrence-members d ks h.0 h.1
  members_have_cells (repr ReprKind.PartitionAsSet (more_reprs r no_reprs)) (partitions ks d) h = partition-as-set-members r ks d h.0 (members_have_cells r (child_parts ks d) h.1)
  members_have_cells _ d h = absurd h

  all-members : (rs : Reprs) (ds : List Domain) → AllRoomy rs ds → AllHaveCells rs ds
  all-members no_reprs [] h = tt
  all-members (more_reprs r rs) (d ∷ ds) h = (members_have_cells r d h.0, all-members rs ds h.1)
  all-members no_reprs (d ∷ ds) h = absurd h
  all-members (more_reprs r rs) [] h = absurd h

-- ---- the same as for the other parts

all-finite : (is : Domains) → FiniteAtoms is → HaveLists is
all-finite no_domains f = tt
all-finite (more_domains d ds) f = (f.0.1, all-finite ds f.1)

mutual
  -- Where there is room, each kind stands over its domain.
  pub roomy-covered : (r : Repr) (d : Domain) → Roomy r d → Covered r d
  roomy-covered (repr ReprKind.Atom no_reprs) d h = h
  roomy-covered (repr ReprKind.Tuple rs) (tuples ds) h = all-covered rs (domain_list ds) h
  roomy-covered (repr ReprKind.Rec rs) (records fs ds) h = all-covered rs (domain_list ds) h
  roomy-covered (repr ReprKind.Matrix (more_reprs r no_reprs)) (matrices is d) h = (are-atoms is h.0, all-finite is h.0, roomy-covered r d h.1)
  roomy-covered (repr ReprKind.Occurrence no_reprs) (sets ks d) h = h.0
  roomy-covered (repr ReprKind.Explicit (more_reprs r no_reprs)) (sets ks d) h = roomy-covered r d h.1
  roomy-covered (repr ReprKind.ExplicitVarSizeWithMarker (more_reprs r no_reprs)) (sets ks d) h = roomy-covered r d h.1
  roomy-covered (repr ReprKind.ExplicitVarSizeWithFlags (more_reprs r no_reprs)) (sets ks d) h = roomy-covered r d h.1
  roomy-covered (repr ReprKind.ExplicitVarSizeWithDummy no_reprs) (sets ks d) h = h.0
  roomy-covered (repr ReprKind.MSetOccurrence no_reprs) (msets ks d) h = h.0.0
  roomy-covered (repr ReprKind.MSetExplicitWithRepetition (more_reprs r no_reprs)) (msets ks d) h = roomy-covered r d h.0
  roomy-covered (repr ReprKind.MSetExplicitWithFlags (more_reprs r no_reprs)) (msets ks d) h = roomy-covered r d h.0
  roomy-covered (repr ReprKind.Function1D (more_reprs r no_reprs)) (functions ks d c) h = (h.0.0, roomy-covered r c h.2)
  roomy-covered (repr ReprKind.Function1DPartial (more_reprs r no_reprs)) (functions ks d c) h = (h.0.0, roomy-covered r c h.1)
  roomy-covered (repr ReprKind.FunctionND (more_reprs r no_reprs)) (functions ks (tuples ds) c) h = (are-atoms ds h.0, roomy-covered r c h.2)
  roomy-covered (repr ReprKind.FunctionNDPartial (more_reprs r no_reprs)) (functions ks (tuples ds) c) h = (are-atoms ds h.0, roomy-covered r c h.1)
  roomy-covered (repr ReprKind.FunctionAsRelation (more_reprs r no_reprs)) (functions ks d c) h = roomy-covered r (child_relation ks d c) h.1
  roomy-covered (repr ReprKind.RelationAsMatrix no_reprs) (relations ks ds) h = are-atoms ds h
  roomy-covered (repr ReprKind.RelationAsSet (more_reprs r no_reprs)) (relations ks ds) h = roomy-covered r (child_set ks ds) h
  roomy-covered (repr ReprKind.PartitionOccurrence no_reprs) (partitions ks d) h = h.0.0
  roomy-covered (repr ReprKind.PartitionAsSet (more_reprs r no_reprs)) (partitions ks d) h = roomy-covered r (child_parts ks d) h.1
  roomy-covered _ d h = absurd h

  all-covered : (rs : Reprs) (ds : List Domain) → AllRoomy rs ds → AllCovered rs ds
  all-covered no_reprs [] h = tt
  all-covered (more_reprs r rs) (d ∷ ds) h = (roomy-covered r d h.0, all-covered rs ds h.1)
  all-covered no_reprs (d ∷ ds) h = absurd h
  all-covered (more_reprs r rs) [] h = absurd h

-- Each member has one canonical form.
pub one-form : (r : Repr) (d : Domain) → Roomy r d → (v : Value) → member d v ≡ true → OneForm r d v
one-form r d h v m =
    let x = members_have_cells r d h in
    let y = x.of_member v m in
    let t = cells-tables r d v y in
    let c = roomy-covered r d h in
    record {
      tables = t.tables;
      there = t.there;
      over = t.over;
      fit = subst (TablesFit (declarations r d)) (sym t.made) (tables-fit (declarations r d) t.cells (canonical-fits false r d c t.cells t.ready));
      passes = t.passes;
      stands = t.stands;
      only = λ ts o p q. canonical-once r d c ts t.tables o t.over p t.passes (sym (ap (value_of_cells r d) (behind-none (cells_of ts))) ∙ q ∙ sym t.stands ∙ ap (value_of_cells r d) (behind-none (cells_of t.tables)));
    }
