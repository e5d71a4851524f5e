-- Members of atoms, sets of atoms and relations of atoms as cells of their own.
use Rattle.std.proofs.Common.{◌≡◌, refl, sym, ap, ◌∙◌, subst, ℕ, Bool, true, false, ◌&&◌, ◌||◌, if◌then◌else◌, List, [], ◌∷◌, map, length, ℤ, Option, Some, None, option_map, nat_le}
use Rattle.std.specs.List.{list_all}
use Rattle.ess_semantics.specs.declared.words.ReprKind.{ReprKind}
use Rattle.ess_semantics.specs.Lists.{and_then, is_some_and}
use Rattle.ess_semantics.specs.Values.{Text, a_tuple, a_matrix, a_set, a_mset, a_function, a_relation, a_partition, a_record, Value, number, truth, item, node, Values, nil, cons, to_list, of_list, items_of, itself}
use Rattle.ess_semantics.specs.Order.{same_text, order_text}
use Rattle.ess_semantics.specs.Collections.{holds, rises}
use Rattle.ess_semantics.specs.Trees.{repr, no_reprs}
use Rattle.ess_semantics.specs.Domains.{Span, Attribute, Domain, Domains, booleans, integers, named, tuples, sets, relations, no_domains, more_domains, domain_list, member_list}
use Rattle.ess_semantics.specs.Attributes.{set_attributes_hold, relation_attributes_hold}
use Rattle.ess_semantics.specs.Membership.{member, tuple_member}
use Rattle.ess_semantics.specs.Tables.{Tables, code, atom_value, one_cell, row_of, truth_number, is_cell}
use Rattle.ess_semantics.specs.Cells.{Axes, Cells, only_grid}
use Rattle.ess_semantics.specs.Layers.{Slot, as_cell, codes_of, widened_table, fixed_table, chosen, own_row, count_true, always_tidy, always_canonical}
use Rattle.ess_repr_laws.specs.Finite.{FiniteAtom, FiniteAtoms}
use Rattle.ess_semantics.specs.Atoms.{IsAtom, AreAtoms}
use Rattle.ess_semantics.proofs.Tests.{and-left, and-right, and-both}
use Rattle.ess_semantics.proofs.Orders.{text_exact, equal-of, of_list-to_list, to_list-of_list}
use Rattle.ess_semantics.proofs.MemberLists.{atom-listed}
use Rattle.ess_repr_laws.proofs.TupleMembers.{AllListed, place_of}
use Rattle.ess_repr_laws.proofs.Arguments.{Arguments, atom-arguments, tuple-arguments}
use Rattle.ess_repr_laws.proofs.AxesOfTables.{axes-differ}
use Rattle.ess_repr_laws.proofs.TablesAndCells.{NumbersDiffer, AxesDiffer}
use Rattle.ess_repr_laws.proofs.ExactCells.{exact-items}
use Rattle.ess_repr_laws.proofs.CellsOfMembers.{HasCells, MembersHaveCells}
use Rattle.ess_repr_laws.proofs.CellsWithoutChildren.{Alone, alone-wide, alone-cells}
use Rattle.ess_repr_laws.proofs.CompleteLists.{atom-complete, tuples-complete}
use Rattle.ess_repr_laws.proofs.ArgumentTables.{argument-exact, occurrence-fits, occurrence-chosen, occurrence-count}

-- ---- atoms

-- The number of an atom's member is in its domain, and stands for the member.
pub record Coded (d : Domain) (v : Value) : Type 0 where
  pub fit : is_cell (as_cell d) (code v) ≡ true
  pub back : atom_value d (code v) ≡ Some v

-- Truth values.
pub boolean-coded : (v : Value) → member booleans v ≡ true → Coded booleans v
boolean-coded (truth true) h = record { fit = refl; back = refl }
boolean-coded (truth false) h = record { fit = refl; back = refl }
boolean-coded (number n) h = cc
boolean-coded (item t k) h = cc
boolean-coded (node k vs) h = cc

-- Numbers.
pub integer-coded : (ss : List Span) (v : Value) → member (integers ss) v ≡ true → Coded (integers ss) v
integer-coded ss (number n) h = record { fit = h; back = refl }
integer-coded ss (truth b) h = cc
integer-coded ss (item t k) h = cc
integer-coded ss (node k vs) h = cc

-- Values of named types.
pub named-coded : (t : Text) (n : ℕ) (v : Value) → member (named t n) v ≡ true → Coded (named t n) v
named-coded t n (item u k) h =
    let e : t ≡ u = text_exact t u (equal-of (order_text t u) (and-left (same_text t u) (nat_le 1 k) (and-left (same_text t u && nat_le 1 k) (nat_le k n) h))) in
    let a = and-right (same_text t u) (nat_le 1 k) (and-left (same_text t u && nat_le 1 k) (nat_le k n) h) in
    let b = and-right (same_text t u && nat_le 1 k) (nat_le k n) h in
    record {
      fit = ap (λ c. c || false) (and-both (nat_le 1 k) (nat_le k n) a b);
      back = ap (λ c. if c then Some (item t k) else None) (and-both (nat_le 1 k) (nat_le k n) a b) ∙ ap (λ w. Some (item w k)) e;
    }
named-coded t n (number k) h = cc
named-coded t n (truth b) h = cc
named-coded t n (node k vs) h = cc

module _ (d : Domain) where
  abbrev atom_tables : Value → List (Option Slot) → Tables
  atom_tables v ss = one_cell (code v) ∷ []

  abbrev atom_built : Cells → List (List Value) → Option Value
  atom_built c vss = only_grid c (λ f. and_then (f []) (atom_value d))

  atom-alone : (v : Value) → Coded d v → Alone ReprKind.Atom d (widened_table [] (as_cell d) ∷ []) false false atom_tables atom_built always_canonical always_tidy v
  atom-alone v h = record { exact = (exact-items [] (code v ∷ []) refl, tt); fit = ap (λ c. c && true) h.fit; built = h.back; asked = refl }

-- Truth values in a cell.
pub boolean-members : MembersHaveCells (repr ReprKind.Atom no_reprs) booleans
boolean-members = record {
  wide = refl;
  of_member = λ v h. alone-cells ReprKind.Atom booleans (widened_table [] booleans ∷ []) false false (atom_tables booleans) (atom_built booleans) always_canonical always_tidy refl refl v (atom-alone booleans v (boolean-coded v h));
}

-- Numbers in a cell.
pub integer-members : (ss : List Span) → MembersHaveCells (repr ReprKind.Atom no_reprs) (integers ss)
integer-members ss = record {
  wide = refl;
  of_member = λ v h. alone-cells ReprKind.Atom (integers ss) (widened_table [] (integers ss) ∷ []) false false (atom_tables (integers ss)) (atom_built (integers ss)) always_canonical always_tidy refl refl v (atom-alone (integers ss) v (integer-coded ss v h));
}

-- Values of a named type in a cell.
pub named-members : (t : Text) (n : ℕ) → MembersHaveCells (repr ReprKind.Atom no_reprs) (named t n)
named-members t n = record {
  wide = refl;
  of_member = λ v h. alone-cells ReprKind.Atom (named t n) (widened_table [] (as_cell (named t n)) ∷ []) false false (atom_tables (named t n)) (atom_built (named t n)) always_canonical always_tidy refl refl v (atom-alone (named t n) v (named-coded t n v h));
}

-- Members of atoms.
pub atom-members : (d : Domain) → IsAtom d → MembersHaveCells (repr ReprKind.Atom no_reprs) d
atom-members booleans a = boolean-members
atom-members (integers ss) a = integer-members ss
atom-members (named t n) a = named-members t n
atom-members _ a = absurd a

-- ---- axes over atoms

-- The numbers of an atom's members differ.
pub atom-axis : (d : Domain) → IsAtom d → NumbersDiffer (codes_of d)
atom-axis d a = let h : (NumbersDiffer (codes_of d) × Unit {0}) × Unit {0} = axes-differ (repr ReprKind.Occurrence no_reprs) (sets [] d) a in h.0.0

-- So on each axis.
pub atom-axes : (ds : Domains) → AreAtoms ds → AxesDiffer (map codes_of (domain_list ds))
atom-axes no_domains a = tt
atom-axes (more_domains d ds) a = (atom-axis d a.0, atom-axes ds a.1)

-- Finite atoms are atoms.
pub are-atoms : (ds : Domains) → FiniteAtoms ds → AreAtoms ds
are-atoms no_domains f = tt
are-atoms (more_domains d ds) f = (f.0.0, are-atoms ds f.1)

-- The members of atoms are listed.
pub atoms-listed : (ds : Domains) → AreAtoms ds → AllListed ds
atoms-listed no_domains a = tt
atoms-listed (more_domains d ds) a = (atom-listed d a.0, atoms-listed ds a.1)

-- ---- sets of atoms

-- what membership of a set says
pub record SetMember (ks : List Attribute) (d : Domain) (xs : List Value) : Type 0 where
  pub rise : rises itself xs ≡ true
  pub inside : list_all (member d) xs ≡ true
  pub attributes : set_attributes_hold ks (length xs) ≡ true

-- A member of a domain of sets is a set of such members.
pub set-member : (ks : List Attribute) (d : Domain) (v : Value) → member (sets ks d) v ≡ true → (xs : List Value) × (v ≡ node a_set (of_list xs)) × SetMember ks d xs
set-member ks d (node a_set vs) h = (
  to_list vs,
  ap (λ w. node a_set w) (sym (of_list-to_list vs)),
  record {
    rise = and-left (rises itself (to_list vs)) (list_all (member d) (to_list vs)) (and-left (rises itself (to_list vs) && list_all (member d) (to_list vs)) (set_attributes_hold ks (length (to_list vs))) h);
    inside = and-right (rises itself (to_list vs)) (list_all (member d) (to_list vs)) (and-left (rises itself (to_list vs) && list_all (member d) (to_list vs)) (set_attributes_hold ks (length (to_list vs))) h);
    attributes = and-right (rises itself (to_list vs) && list_all (member d) (to_list vs)) (set_attributes_hold ks (length (to_list vs))) h;
  },
)
set-member ks d (number n) h = cc
set-member ks d (truth b) h = cc
set-member ks d (item t k) h = cc
set-member ks d (node a_tuple vs) h = cc
set-member ks d (node a_matrix vs) h = cc
set-member ks d (node a_mset vs) h = cc
set-member ks d (node a_function vs) h = cc
set-member ks d (node a_relation vs) h = cc
set-member ks d (node a_partition vs) h = cc
set-member ks d (node (a_record fs) vs) h = cc

module _ (d : Domain) (ks : List Attribute) (finite : FiniteAtom d) where
  abbrev axes : Axes
  axes = codes_of d ∷ []

  abbrev index : Value → List ℤ
  index x = code x ∷ []

  args : Arguments d axes index
  args = atom-arguments d (atom-listed d finite.0)

  differ : AxesDiffer axes
  differ = (atom-axis d finite.0, tt)

  abbrev set_tables : Value → List (Option Slot) → Tables
  set_tables v ss = row_of (codes_of d) (map (λ x. truth_number (holds (items_of v) x)) (member_list d)) ∷ []

  abbrev set_built : Cells → List (List Value) → Option Value
  set_built c vss = only_grid c (λ f. option_map (λ xs. node a_set (of_list xs)) (chosen (member_list d) (λ x. f (code x ∷ []))))

  abbrev set_asked : Cells → List (List Value) → Bool
  set_asked c vss = set_attributes_hold ks (count_true (own_row axes c))

  set-alone : (vs : Values) → SetMember ks d (to_list vs) → Alone ReprKind.Occurrence (sets ks d) (fixed_table axes booleans ∷ []) false false set_tables set_built set_asked always_tidy (node a_set vs)
  set-alone vs h = record {
    exact = (argument-exact d axes index args differ (λ x. truth_number (holds (to_list vs) x)), tt);
    fit = ap (λ c. c && true) (occurrence-fits d axes index args differ (atom-complete d finite) (to_list vs) h.rise h.inside);
    built = ap (option_map (λ xs. node a_set (of_list xs))) (occurrence-chosen d axes index args differ (atom-complete d finite) (to_list vs) h.rise h.inside) ∙ ap (λ w. Some (node a_set w)) (of_list-to_list vs);
    asked = ap (set_attributes_hold ks) (occurrence-count d axes index args differ (atom-complete d finite) (to_list vs) h.rise h.inside) ∙ h.attributes;
  }

  -- Members of sets of atoms as the members that occur.
  pub occurrence-members : MembersHaveCells (repr ReprKind.Occurrence no_reprs) (sets ks d)
  occurrence-members = record {
    wide = alone-wide ReprKind.Occurrence (sets ks d) (fixed_table axes booleans ∷ []) false false set_tables set_built set_asked always_tidy refl refl;
    of_member = λ v h. let m = set-member ks d v h in
        subst (HasCells (repr ReprKind.Occurrence no_reprs) (sets ks d)) (sym m.1)
        (alone-cells ReprKind.Occurrence (sets ks d) (fixed_table axes booleans ∷ []) false false set_tables set_built set_asked always_tidy refl refl (node a_set (of_list m.0))
        (set-alone (of_list m.0) (subst (SetMember ks d) (sym (to_list-of_list m.0)) m.2)));
  }

-- ---- relations of atoms

-- The tuples of a member rise strictly, are tuples of members, and the attributes hold.
pub record RelationMember (ks : List Attribute) (ds : Domains) (xs : List Value) : Type 0 where
  pub rise : rises itself xs ≡ true
  pub inside : list_all (tuple_member ds) xs ≡ true
  pub attributes : relation_attributes_hold ks ds xs ≡ true

-- A member of a domain of relations is a relation of such tuples.
pub relation-member : (ks : List Attribute) (ds : Domains) (v : Value) → member (relations ks ds) v ≡ true → (xs : List Value) × (v ≡ node a_relation (of_list xs)) × RelationMember ks ds xs
relation-member ks ds (node a_relation vs) h = (
  to_list vs,
  ap (λ w. node a_relation w) (sym (of_list-to_list vs)),
  record {
    rise = and-left (rises itself (to_list vs)) (list_all (tuple_member ds) (to_list vs)) (and-left (rises itself (to_list vs) && list_all (tuple_member ds) (to_list vs)) (relation_attributes_hold ks ds (to_list vs)) h);
    inside = and-right (rises itself (to_list vs)) (list_all (tuple_member ds) (to_list vs)) (and-left (rises itself (to_list vs) && list_all (tuple_member ds) (to_list vs)) (relation_attributes_hold ks ds (to_list vs)) h);
    attributes = and-right (rises itself (to_list vs) && list_all (tuple_member ds) (to_list vs)) (relation_attributes_hold ks ds (to_list vs)) h;
  },
)
relation-member ks ds (number n) h = cc
relation-member ks ds (truth b) h = cc
relation-member ks ds (item t k) h = cc
relation-member ks ds (node a_tuple vs) h = cc
relation-member ks ds (node a_matrix vs) h = cc
relation-member ks ds (node a_set vs) h = cc
relation-member ks ds (node a_mset vs) h = cc
relation-member ks ds (node a_function vs) h = cc
relation-member ks ds (node a_partition vs) h = cc
relation-member ks ds (node (a_record fs) vs) h = cc

member-of-tuple : (ds : Domains) (v : Value) → tuple_member ds v ≡ true → member (tuples ds) v ≡ true
member-of-tuple no_domains (node a_tuple nil) h = refl
member-of-tuple no_domains (node a_tuple (cons v vs)) h = cc
member-of-tuple (more_domains d ds) (node a_tuple nil) h = cc
member-of-tuple (more_domains d ds) (node a_tuple (cons v vs)) h = h
member-of-tuple no_domains (number n) h = cc
member-of-tuple no_domains (truth b) h = cc
member-of-tuple no_domains (item t k) h = cc
member-of-tuple no_domains (node a_matrix vs) h = cc
member-of-tuple no_domains (node a_set vs) h = cc
member-of-tuple no_domains (node a_mset vs) h = cc
member-of-tuple no_domains (node a_function vs) h = cc
member-of-tuple no_domains (node a_relation vs) h = cc
member-of-tuple no_domains (node a_partition vs) h = cc
member-of-tuple no_domains (node (a_record fs) vs) h = cc
member-of-tuple (more_domains d ds) (number n) h = cc
member-of-tuple (more_domains d ds) (truth b) h = cc
member-of-tuple (more_domains d ds) (item t k) h = cc
member-of-tuple (more_domains d ds) (node a_matrix vs) h = cc
member-of-tuple (more_domains d ds) (node a_set vs) h = cc
member-of-tuple (more_domains d ds) (node a_mset vs) h = cc
member-of-tuple (more_domains d ds) (node a_function vs) h = cc
member-of-tuple (more_domains d ds) (node a_relation vs) h = cc
member-of-tuple (more_domains d ds) (node a_partition vs) h = cc
member-of-tuple (more_domains d ds) (node (a_record fs) vs) h = cc

-- Tuples of members are members of the domain of tuples.
pub members-of-tuples : (ds : Domains) (vs : List Value) → list_all (tuple_member ds) vs ≡ true → list_all (member (tuples ds)) vs ≡ true
members-of-tuples ds [] h = refl
members-of-tuples ds (v ∷ vs) h =
    and-both (member (tuples ds) v) (list_all (member (tuples ds)) vs) (member-of-tuple ds v (and-left (tuple_member ds v) (list_all (tuple_member ds) vs) h))
    (members-of-tuples ds vs (and-right (tuple_member ds v) (list_all (tuple_member ds) vs) h))

module _ (ds : Domains) (ks : List Attribute) (finite : FiniteAtoms ds) where
  abbrev tuple_axes : Axes
  tuple_axes = map codes_of (domain_list ds)

  tuple-args : Arguments (tuples ds) tuple_axes place_of
  tuple-args = tuple-arguments ds (atoms-listed ds (are-atoms ds finite))

  abbrev relation_tables : Value → List (Option Slot) → Tables
  relation_tables v ss = record { axes = tuple_axes; items = map (λ x. truth_number (holds (items_of v) x)) (member_list (tuples ds)) } ∷ []

  abbrev relation_built : Cells → List (List Value) → Option Value
  relation_built c vss = only_grid c (λ f. option_map (λ xs. node a_relation (of_list xs)) (chosen (member_list (tuples ds)) (λ x. f (map code (items_of x)))))

  abbrev relation_asked : Cells → List (List Value) → Bool
  relation_asked c vss = is_some_and (relation_built c vss) (λ v. relation_attributes_hold ks ds (items_of v))

  relation-alone : (vs : Values) → RelationMember ks ds (to_list vs) → Alone ReprKind.RelationAsMatrix (relations ks ds) (fixed_table tuple_axes booleans ∷ []) false false relation_tables relation_built relation_asked always_tidy (node a_relation vs)
  relation-alone vs h =
      let m = members-of-tuples ds (to_list vs) h.inside in
      let c = occurrence-chosen (tuples ds) tuple_axes place_of tuple-args (atom-axes ds (are-atoms ds finite)) (tuples-complete ds finite) (to_list vs) h.rise m in
      let b = ap (option_map (λ xs. node a_relation (of_list xs))) c ∙ ap (λ w. Some (node a_relation w)) (of_list-to_list vs) in
      record {
        exact = (argument-exact (tuples ds) tuple_axes place_of tuple-args (atom-axes ds (are-atoms ds finite)) (λ x. truth_number (holds (to_list vs) x)), tt);
        fit = ap (λ c. c && true) (occurrence-fits (tuples ds) tuple_axes place_of tuple-args (atom-axes ds (are-atoms ds finite)) (tuples-complete ds finite) (to_list vs) h.rise m);
        built = b;
        asked = ap (λ o. is_some_and o (λ v. relation_attributes_hold ks ds (items_of v))) b ∙ h.attributes;
      }

  -- Members of relations of atoms as the tuples that occur.
  pub relation-matrix-members : MembersHaveCells (repr ReprKind.RelationAsMatrix no_reprs) (relations ks ds)
  relation-matrix-members = record {
    wide = alone-wide ReprKind.RelationAsMatrix (relations ks ds) (fixed_table tuple_axes booleans ∷ []) false false relation_tables relation_built relation_asked always_tidy refl refl;
    of_member = λ v h. let m = relation-member ks ds v h in
        subst (HasCells (repr ReprKind.RelationAsMatrix no_reprs) (relations ks ds)) (sym m.1)
        (alone-cells ReprKind.RelationAsMatrix (relations ks ds) (fixed_table tuple_axes booleans ∷ []) false false relation_tables relation_built relation_asked always_tidy refl refl (node a_relation (of_list m.0))
        (relation-alone (of_list m.0) (subst (RelationMember ks ds) (sym (to_list-of_list m.0)) m.2)));
  }
