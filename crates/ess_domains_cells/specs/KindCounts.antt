-- The kinds by the form of what they keep, and what each counts.
use Rattle.std.specs.Prelude.{ℕ, ◌+◌, ◌*◌, Bool, true, false, if◌then◌else◌, List, [], ◌∷◌, length, Option, Some, None}
use Rattle.ess_semantics.specs.declared.words.ReprKind.{ReprKind}
use Rattle.ess_semantics.specs.declared.words.Key.{Key}
use Rattle.ess_semantics.specs.Lists.{or_else}
use Rattle.ess_semantics.specs.Trees.{Reprs, no_reprs, more_reprs}
use Rattle.ess_semantics.specs.Domains.{Attribute, Domain, Domains, tuples, member_list, attribute, has}
use Rattle.ess_semantics.specs.Sizes.{bound}
use Rattle.ess_domains_cells.specs.Kept.{greater}
use Rattle.ess_domains_cells.specs.Products.{member_product}
use Rattle.ess_domains_cells.specs.Counted.{counted_children}
use Rattle.ess_domains_cells.specs.LayerCounts.{longest_members, counted_sets, counted_relation}

-- Whether a kind is that of atoms.
abbrev pub is_atom_kind : ReprKind → Bool
is_atom_kind ReprKind.Atom = true
is_atom_kind _ = false

-- Whether a kind is that of tuples.
abbrev pub is_tuple_kind : ReprKind → Bool
is_tuple_kind ReprKind.Tuple = true
is_tuple_kind _ = false

-- Whether a kind is that of records.
abbrev pub is_record_kind : ReprKind → Bool
is_record_kind ReprKind.Rec = true
is_record_kind _ = false

-- Whether a kind is that of matrices.
abbrev pub is_matrix_kind : ReprKind → Bool
is_matrix_kind ReprKind.Matrix = true
is_matrix_kind _ = false

-- Whether a kind of functions has a flag for each argument.
abbrev pub has_flags : ReprKind → Bool
has_flags ReprKind.Function1DPartial = true
has_flags ReprKind.FunctionNDPartial = true
has_flags _ = false

-- Whether a kind of functions is the relation of the pairs.
abbrev pub is_pairs_kind : ReprKind → Bool
is_pairs_kind ReprKind.FunctionAsRelation = true
is_pairs_kind _ = false

-- Whether a kind of relations has a truth value for each tuple.
abbrev pub is_relation_table : ReprKind → Bool
is_relation_table ReprKind.RelationAsMatrix = true
is_relation_table _ = false

-- Whether a kind of relations is the set of the tuples.
abbrev pub is_relation_set : ReprKind → Bool
is_relation_set ReprKind.RelationAsSet = true
is_relation_set _ = false

-- Whether a kind of partitions has a number for each member.
abbrev pub is_partition_table : ReprKind → Bool
is_partition_table ReprKind.PartitionOccurrence = true
is_partition_table _ = false

-- Whether a kind of partitions is the set of the parts.
abbrev pub is_partition_set : ReprKind → Bool
is_partition_set ReprKind.PartitionAsSet = true
is_partition_set _ = false

-- The cells of an atom.
abbrev pub counted_atom : ReprKind → ℕ → ℕ → ℕ
counted_atom k v l = if is_atom_kind k then greater v l else 0

-- The axes over which a kind keeps the values of a function from d: how many cells, and how many members the longest has.
abbrev pub function_axes : ReprKind → Domain → Option (ℕ × ℕ)
function_axes ReprKind.Function1D d = Some (length (member_list d), length (member_list d))
function_axes ReprKind.Function1DPartial d = Some (length (member_list d), length (member_list d))
function_axes ReprKind.FunctionND (tuples ds) = Some (member_product ds, longest_members ds)
function_axes ReprKind.FunctionNDPartial (tuples ds) = Some (member_product ds, longest_members ds)
function_axes _ d = None

-- The cells of a function to c over such axes.
abbrev pub counted_over : ReprKind → Reprs → Option (ℕ × ℕ) → Domain → ℕ → ℕ → ℕ
counted_over k rs None c v l = 0
counted_over k rs (Some a) c v l =
    (if has_flags k then greater (v * a.0) (greater l a.1) else 0) + counted_children rs (c ∷ []) (v * a.0) (greater l a.1)

-- The size of the relation of a function's pairs.
abbrev pub pair_size : List Attribute → Domain → Option ℕ
pair_size ks d =
    if has Key.Total ks then Some (bound d)
    else or_else (attribute Key.Size ks) (if has Key.Size ks then attribute Key.MaxSize ks else or_else (attribute Key.MaxSize ks) (Some (bound d)))

-- The size of the set of a partition's parts.
abbrev pub parts_size : List Attribute → Domain → Option ℕ
parts_size ks d = or_else (attribute Key.NumParts ks) (if has Key.NumParts ks then attribute Key.MaxNumParts ks else or_else (attribute Key.MaxNumParts ks) (Some (bound d)))

-- The size of each part.
abbrev pub part_size : List Attribute → Option ℕ
part_size ks = or_else (attribute Key.PartSize ks) (attribute Key.MaxPartSize ks)

-- The cells of an only child that is a relation, or a set of sets.
abbrev pub first_relation : Reprs → Option ℕ → Domains → ℕ → ℕ → ℕ
first_relation (more_reprs r rs) s ds v l = counted_relation r s ds v l
first_relation no_reprs s ds v l = 0

abbrev pub first_sets : Reprs → Option ℕ → Option ℕ → Domain → ℕ → ℕ → ℕ
first_sets (more_reprs r rs) s t d v l = counted_sets r s t d v l
first_sets no_reprs s t d v l = 0
