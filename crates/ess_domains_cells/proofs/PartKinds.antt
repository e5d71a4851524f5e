-- The tables of kinds of relations and partitions, by sizes alone.
use Rattle.std.proofs.Common.{◌≡◌, refl, sym, ap, ◌∙◌, ℕ, ◌+◌, ◌*◌, ◌^◌, Bool, true, false, if◌then◌else◌, List, [], ◌∷◌, map, length, Option, Some, None}
use Rattle.ess_semantics.specs.declared.words.ReprKind.{ReprKind}
use Rattle.ess_semantics.specs.declared.words.Key.{Key}
use Rattle.ess_semantics.specs.Lists.{or_else, or_default}
use Rattle.ess_semantics.specs.Trees.{Repr, Reprs, repr, no_reprs, more_reprs}
use Rattle.ess_semantics.specs.Domains.{Attribute, Domain, Domains, booleans, integers, named, tuples, records, matrices, sets, msets, functions, relations, partitions, no_domains, more_domains, domain_list, member_list, attribute, has}
use Rattle.ess_semantics.specs.Sizes.{greatest_size, bound, size_attributes, pair_sizes, child_relation, child_set, child_parts}
use Rattle.ess_semantics.specs.Tables.{volume}
use Rattle.ess_semantics.specs.Layers.{codes_of}
use Rattle.ess_semantics.specs.Declarations.{longest}
use Rattle.ess_domains_cells.specs.Kept.{greater}
use Rattle.ess_domains_cells.specs.Products.{member_product}
use Rattle.ess_domains_cells.specs.Counted.{counted, counted_children}
use Rattle.ess_domains_cells.specs.LayerCounts.{table, longest_members, table_over, set_own, has_slots, counted_set, first_set, counted_sets, counted_relation}
use Rattle.ess_domains_cells.specs.KindCounts.{is_pairs_kind, is_partition_table, is_partition_set, function_axes, counted_over, pair_size, parts_size, part_size, first_relation, first_sets}
use Rattle.ess_domains_cells.proofs.LayerForms.{axis-length, one-axis, no-axis, no-children, behind-axis, behind-none, plus, set-counted}
use Rattle.ess_domains_cells.proofs.KindForms.{over-axes, behind-axes, nothing-and, plus-0, kind-of, kids-of}

-- ---- relations and partitions

sized : (s a b : Option ℕ) → greatest_size (size_attributes s a b) ≡ or_else s b
sized None None None = refl
sized None None (Some z) = refl
sized None (Some y) None = refl
sized None (Some y) (Some z) = refl
sized (Some x) a b = refl

first-set-is : (rs : Reprs) (ks : List Attribute) (d : Domain) (v l : ℕ) → counted_children rs (sets ks d ∷ []) v l ≡ first_set rs (greatest_size ks) d v l
first-set-is no_reprs ks d v l = refl
first-set-is (more_reprs r rs) ks d v l =
    ap (λ n. counted r (sets ks d) v l + n) (no-children rs v l) ∙ plus-0 (counted r (sets ks d) v l) ∙ set-counted r ks d v l

pub relation-counted : (r : Repr) (ks : List Attribute) (ds : Domains) (v l : ℕ) → counted r (relations ks ds) v l ≡ counted_relation r (greatest_size ks) ds v l
relation-counted (repr ReprKind.Atom rs) ks ds v l = refl
relation-counted (repr ReprKind.Tuple rs) ks ds v l = refl
relation-counted (repr ReprKind.Rec rs) ks ds v l = refl
relation-counted (repr ReprKind.Matrix rs) ks ds v l = refl
relation-counted (repr ReprKind.Occurrence rs) ks ds v l = refl
relation-counted (repr ReprKind.Explicit rs) ks ds v l = refl
relation-counted (repr ReprKind.ExplicitVarSizeWithMarker rs) ks ds v l = refl
relation-counted (repr ReprKind.ExplicitVarSizeWithFlags rs) ks ds v l = refl
relation-counted (repr ReprKind.ExplicitVarSizeWithDummy rs) ks ds v l = refl
relation-counted (repr ReprKind.MSetOccurrence rs) ks ds v l = refl
relation-counted (repr ReprKind.MSetExplicitWithRepetition rs) ks ds v l = refl
relation-counted (repr ReprKind.MSetExplicitWithFlags rs) ks ds v l = refl
relation-counted (repr ReprKind.Function1D rs) ks ds v l = refl
relation-counted (repr ReprKind.Function1DPartial rs) ks ds v l = refl
relation-counted (repr ReprKind.FunctionND rs) ks ds v l = refl
relation-counted (repr ReprKind.FunctionNDPartial rs) ks ds v l = refl
relation-counted (repr ReprKind.FunctionAsRelation rs) ks ds v l = refl
relation-counted (repr ReprKind.RelationAsMatrix rs) ks ds v l = plus (greater (v * volume (map codes_of (domain_list ds))) (greater l (longest (map codes_of (domain_list ds)))) + 0) (counted_children rs [] (v * 1) (greater l 0)) (table_over v l ds) 0 (over-axes v l ds) (no-children rs (v * 1) (greater l 0)) ∙ plus-0 (table_over v l ds)
relation-counted (repr ReprKind.RelationAsSet rs) ks ds v l = nothing-and (counted_children rs (child_set ks ds ∷ []) (v * 1) (greater l 0)) (first_set rs (greatest_size ks) (tuples ds) v l) (behind-none rs (child_set ks ds ∷ []) v l ∙ first-set-is rs (size_attributes (attribute Key.Size ks) (attribute Key.MinSize ks) (attribute Key.MaxSize ks)) (tuples ds) v l ∙ ap (λ s. first_set rs s (tuples ds) v l) (sized (attribute Key.Size ks) (attribute Key.MinSize ks) (attribute Key.MaxSize ks)))
relation-counted (repr ReprKind.PartitionOccurrence rs) ks ds v l = refl
relation-counted (repr ReprKind.PartitionAsSet rs) ks ds v l = refl

first-relation-is : (rs : Reprs) (ks : List Attribute) (ds : Domains) (v l : ℕ) → counted_children rs (relations ks ds ∷ []) v l ≡ first_relation rs (greatest_size ks) ds v l
first-relation-is no_reprs ks ds v l = refl
first-relation-is (more_reprs r rs) ks ds v l =
    ap (λ n. counted r (relations ks ds) v l + n) (no-children rs v l) ∙ plus-0 (counted r (relations ks ds) v l) ∙ relation-counted r ks ds v l

sets-is : (r : Repr) (s : Option ℕ) (ks : List Attribute) (d : Domain) (v l : ℕ) → counted_set r s (sets ks d) v l ≡ counted_sets r s (greatest_size ks) d v l
sets-is (repr k rs) s ks d v l =
    ap (λ n. set_own k v l (or_default s (2 ^ bound d)) 0 + (if has_slots k then n else 0))
    (first-set-is rs ks d (v * or_default s (2 ^ bound d)) (greater l (or_default s (2 ^ bound d))))

first-sets-is : (rs : Reprs) (s : Option ℕ) (ks : List Attribute) (d : Domain) (v l : ℕ) → first_set rs s (sets ks d) v l ≡ first_sets rs s (greatest_size ks) d v l
first-sets-is no_reprs s ks d v l = refl
first-sets-is (more_reprs r rs) s ks d v l = sets-is r s ks d v l

pair-size-is : (ks : List Attribute) (d : Domain) → greatest_size (pair_sizes ks d) ≡ pair_size ks d
pair-size-is ks d = go (has Key.Total ks)
  where
    go : (t : Bool)
        → greatest_size (if t then size_attributes (Some (bound d)) (attribute Key.MinSize ks) (attribute Key.MaxSize ks)
        else size_attributes (attribute Key.Size ks) (attribute Key.MinSize ks) (if has Key.Size ks then attribute Key.MaxSize ks else or_else (attribute Key.MaxSize ks) (Some (bound d))))
        ≡ (if t then Some (bound d) else or_else (attribute Key.Size ks) (if has Key.Size ks then attribute Key.MaxSize ks else or_else (attribute Key.MaxSize ks) (Some (bound d))))
    go true = sized (Some (bound d)) (attribute Key.MinSize ks) (attribute Key.MaxSize ks)
    go false = sized (attribute Key.Size ks) (attribute Key.MinSize ks) (if has Key.Size ks then attribute Key.MaxSize ks else or_else (attribute Key.MaxSize ks) (Some (bound d)))

-- The pairs of a function.
pub pairs-counted : (r : Repr) (ks : List Attribute) (d c : Domain) (v l : ℕ) → is_pairs_kind (kind-of r) ≡ true
    → counted r (functions ks d c) v l ≡ first_relation (kids-of r) (pair_size ks d) (more_domains d (more_domains c no_domains)) v l
pairs-counted (repr ReprKind.Atom rs) ks d c v l h = cc
pairs-counted (repr ReprKind.Tuple rs) ks d c v l h = cc
pairs-counted (repr ReprKind.Rec rs) ks d c v l h = cc
pairs-counted (repr ReprKind.Matrix rs) ks d c v l h = cc
pairs-counted (repr ReprKind.Occurrence rs) ks d c v l h = cc
pairs-counted (repr ReprKind.Explicit rs) ks d c v l h = cc
pairs-counted (repr ReprKind.ExplicitVarSizeWithMarker rs) ks d c v l h = cc
pairs-counted (repr ReprKind.ExplicitVarSizeWithFlags rs) ks d c v l h = cc
pairs-counted (repr ReprKind.ExplicitVarSizeWithDummy rs) ks d c v l h = cc
pairs-counted (repr ReprKind.MSetOccurrence rs) ks d c v l h = cc
pairs-counted (repr ReprKind.MSetExplicitWithRepetition rs) ks d c v l h = cc
pairs-counted (repr ReprKind.MSetExplicitWithFlags rs) ks d c v l h = cc
pairs-counted (repr ReprKind.Function1D rs) ks d c v l h = cc
pairs-counted (repr ReprKind.Function1DPartial rs) ks d c v l h = cc
pairs-counted (repr ReprKind.FunctionND rs) ks d c v l h = cc
pairs-counted (repr ReprKind.FunctionNDPartial rs) ks d c v l h = cc
pairs-counted (repr ReprKind.FunctionAsRelation rs) ks d c v l h = nothing-and (counted_children rs (child_relation ks d c ∷ []) (v * 1) (greater l 0)) (first_relation rs (pair_size ks d) (more_domains d (more_domains c no_domains)) v l) (behind-none rs (child_relation ks d c ∷ []) v l ∙ first-relation-is rs (pair_sizes ks d) (more_domains d (more_domains c no_domains)) v l ∙ ap (λ s. first_relation rs s (more_domains d (more_domains c no_domains)) v l) (pair-size-is ks d))
pairs-counted (repr ReprKind.RelationAsMatrix rs) ks d c v l h = cc
pairs-counted (repr ReprKind.RelationAsSet rs) ks d c v l h = cc
pairs-counted (repr ReprKind.PartitionOccurrence rs) ks d c v l h = cc
pairs-counted (repr ReprKind.PartitionAsSet rs) ks d c v l h = cc

-- A function over axes.
pub function-counted : (r : Repr) (ks : List Attribute) (d c : Domain) (v l : ℕ) → is_pairs_kind (kind-of r) ≡ false
    → counted r (functions ks d c) v l ≡ counted_over (kind-of r) (kids-of r) (function_axes (kind-of r) d) c v l
function-counted (repr ReprKind.Atom rs) ks d c v l h = refl
function-counted (repr ReprKind.Tuple rs) ks d c v l h = refl
function-counted (repr ReprKind.Rec rs) ks d c v l h = refl
function-counted (repr ReprKind.Matrix rs) ks d c v l h = refl
function-counted (repr ReprKind.Occurrence rs) ks d c v l h = refl
function-counted (repr ReprKind.Explicit rs) ks d c v l h = refl
function-counted (repr ReprKind.ExplicitVarSizeWithMarker rs) ks d c v l h = refl
function-counted (repr ReprKind.ExplicitVarSizeWithFlags rs) ks d c v l h = refl
function-counted (repr ReprKind.ExplicitVarSizeWithDummy rs) ks d c v l h = refl
function-counted (repr ReprKind.MSetOccurrence rs) ks d c v l h = refl
function-counted (repr ReprKind.MSetExplicitWithRepetition rs) ks d c v l h = refl
function-counted (repr ReprKind.MSetExplicitWithFlags rs) ks d c v l h = refl
function-counted (repr ReprKind.Function1D rs) ks d c v l h = ap (λ n. 0 + n) (behind-axis rs (c ∷ []) v l (length (codes_of d)) (length (member_list d)) (axis-length d))
function-counted (repr ReprKind.Function1DPartial rs) ks d c v l h = plus (greater (v * (length (codes_of d) * 1)) (greater l (greater (length (codes_of d)) 0)) + 0) (counted_children rs (c ∷ []) (v * (length (codes_of d) * 1)) (greater l (greater (length (codes_of d)) 0))) (table v l (length (member_list d))) (counted_children rs (c ∷ []) (v * length (member_list d)) (greater l (length (member_list d)))) (one-axis v l (length (codes_of d)) (length (member_list d)) (axis-length d)) (behind-axis rs (c ∷ []) v l (length (codes_of d)) (length (member_list d)) (axis-length d))
function-counted (repr ReprKind.FunctionND rs) ks booleans c v l h = refl
function-counted (repr ReprKind.FunctionND rs) ks (integers ss) c v l h = refl
function-counted (repr ReprKind.FunctionND rs) ks (named t n) c v l h = refl
function-counted (repr ReprKind.FunctionND rs) ks (tuples ds) c v l h = ap (λ n. 0 + n) (behind-axes rs (c ∷ []) v l ds)
function-counted (repr ReprKind.FunctionND rs) ks (records fs ds) c v l h = refl
function-counted (repr ReprKind.FunctionND rs) ks (matrices is e) c v l h = refl
function-counted (repr ReprKind.FunctionND rs) ks (sets js e) c v l h = refl
function-counted (repr ReprKind.FunctionND rs) ks (msets js e) c v l h = refl
function-counted (repr ReprKind.FunctionND rs) ks (functions js e f) c v l h = refl
function-counted (repr ReprKind.FunctionND rs) ks (relations js ds) c v l h = refl
function-counted (repr ReprKind.FunctionND rs) ks (partitions js e) c v l h = refl
function-counted (repr ReprKind.FunctionNDPartial rs) ks booleans c v l h = refl
function-counted (repr ReprKind.FunctionNDPartial rs) ks (integers ss) c v l h = refl
function-counted (repr ReprKind.FunctionNDPartial rs) ks (named t n) c v l h = refl
function-counted (repr ReprKind.FunctionNDPartial rs) ks (tuples ds) c v l h = plus (greater (v * volume (map codes_of (domain_list ds))) (greater l (longest (map codes_of (domain_list ds)))) + 0) (counted_children rs (c ∷ []) (v * volume (map codes_of (domain_list ds))) (greater l (longest (map codes_of (domain_list ds))))) (table_over v l ds) (counted_children rs (c ∷ []) (v * member_product ds) (greater l (longest_members ds))) (over-axes v l ds) (behind-axes rs (c ∷ []) v l ds)
function-counted (repr ReprKind.FunctionNDPartial rs) ks (records fs ds) c v l h = refl
function-counted (repr ReprKind.FunctionNDPartial rs) ks (matrices is e) c v l h = refl
function-counted (repr ReprKind.FunctionNDPartial rs) ks (sets js e) c v l h = refl
function-counted (repr ReprKind.FunctionNDPartial rs) ks (msets js e) c v l h = refl
function-counted (repr ReprKind.FunctionNDPartial rs) ks (functions js e f) c v l h = refl
function-counted (repr ReprKind.FunctionNDPartial rs) ks (relations js ds) c v l h = refl
function-counted (repr ReprKind.FunctionNDPartial rs) ks (partitions js e) c v l h = refl
function-counted (repr ReprKind.FunctionAsRelation rs) ks d c v l h = cc
function-counted (repr ReprKind.RelationAsMatrix rs) ks d c v l h = refl
function-counted (repr ReprKind.RelationAsSet rs) ks d c v l h = refl
function-counted (repr ReprKind.PartitionOccurrence rs) ks d c v l h = refl
function-counted (repr ReprKind.PartitionAsSet rs) ks d c v l h = refl

-- A partition.
pub partition-counted : (r : Repr) (ks : List Attribute) (d : Domain) (v l : ℕ)
    → counted r (partitions ks d) v l
    ≡ (if is_partition_table (kind-of r) then greater v l + table v l (length (member_list d))
    else (if is_partition_set (kind-of r) then first_sets (kids-of r) (parts_size ks d) (part_size ks) d v l else 0))
partition-counted (repr ReprKind.Atom rs) ks d v l = refl
partition-counted (repr ReprKind.Tuple rs) ks d v l = refl
partition-counted (repr ReprKind.Rec rs) ks d v l = refl
partition-counted (repr ReprKind.Matrix rs) ks d v l = refl
partition-counted (repr ReprKind.Occurrence rs) ks d v l = refl
partition-counted (repr ReprKind.Explicit rs) ks d v l = refl
partition-counted (repr ReprKind.ExplicitVarSizeWithMarker rs) ks d v l = refl
partition-counted (repr ReprKind.ExplicitVarSizeWithFlags rs) ks d v l = refl
partition-counted (repr ReprKind.ExplicitVarSizeWithDummy rs) ks d v l = refl
partition-counted (repr ReprKind.MSetOccurrence rs) ks d v l = refl
partition-counted (repr ReprKind.MSetExplicitWithRepetition rs) ks d v l = refl
partition-counted (repr ReprKind.MSetExplicitWithFlags rs) ks d v l = refl
partition-counted (repr ReprKind.Function1D rs) ks d v l = refl
partition-counted (repr ReprKind.Function1DPartial rs) ks d v l = refl
partition-counted (repr ReprKind.FunctionND rs) ks d v l = refl
partition-counted (repr ReprKind.FunctionNDPartial rs) ks d v l = refl
partition-counted (repr ReprKind.FunctionAsRelation rs) ks d v l = refl
partition-counted (repr ReprKind.RelationAsMatrix rs) ks d v l = refl
partition-counted (repr ReprKind.RelationAsSet rs) ks d v l = refl
partition-counted (repr ReprKind.PartitionOccurrence rs) ks d v l = plus (greater (v * 1) (greater l 0) + (greater (v * (length (codes_of d) * 1)) (greater l (greater (length (codes_of d)) 0)) + 0)) (counted_children rs [] (v * 1) (greater l 0)) (greater v l + table v l (length (member_list d))) 0 (plus (greater (v * 1) (greater l 0)) (greater (v * (length (codes_of d) * 1)) (greater l (greater (length (codes_of d)) 0)) + 0) (greater v l) (table v l (length (member_list d))) (sym (plus-0 (greater (v * 1) (greater l 0))) ∙ no-axis v l) (one-axis v l (length (codes_of d)) (length (member_list d)) (axis-length d))) (no-children rs (v * 1) (greater l 0)) ∙ plus-0 (greater v l + table v l (length (member_list d)))
partition-counted (repr ReprKind.PartitionAsSet rs) ks d v l = nothing-and (counted_children rs (child_parts ks d ∷ []) (v * 1) (greater l 0)) (first_sets rs (parts_size ks d) (part_size ks) d v l) (behind-none rs (child_parts ks d ∷ []) v l ∙ first-set-is rs (size_attributes (attribute Key.NumParts ks) (attribute Key.MinNumParts ks) (if has Key.NumParts ks then attribute Key.MaxNumParts ks else or_else (attribute Key.MaxNumParts ks) (Some (bound d)))) (sets (size_attributes (attribute Key.PartSize ks) (attribute Key.MinPartSize ks) (attribute Key.MaxPartSize ks)) d) v l ∙ first-sets-is rs (greatest_size (size_attributes (attribute Key.NumParts ks) (attribute Key.MinNumParts ks) (if has Key.NumParts ks then attribute Key.MaxNumParts ks else or_else (attribute Key.MaxNumParts ks) (Some (bound d))))) (size_attributes (attribute Key.PartSize ks) (attribute Key.MinPartSize ks) (attribute Key.MaxPartSize ks)) d v l ∙ ap (λ s. first_sets rs s (greatest_size (size_attributes (attribute Key.PartSize ks) (attribute Key.MinPartSize ks) (attribute Key.MaxPartSize ks))) d v l) (sized (attribute Key.NumParts ks) (attribute Key.MinNumParts ks) (if has Key.NumParts ks then attribute Key.MaxNumParts ks else or_else (attribute Key.MaxNumParts ks) (Some (bound d)))) ∙ ap (λ s. first_sets rs (parts_size ks d) s d v l) (sized (attribute Key.PartSize ks) (attribute Key.MinPartSize ks) (attribute Key.MaxPartSize ks)))
