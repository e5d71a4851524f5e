-- What each kind counts, by the form of what it keeps.
use Rattle.std.proofs.Common.{◌≡◌, refl, ap, ◌∙◌, ℕ, ◌+◌, ◌*◌, if◌then◌else◌, List, [], ◌∷◌, map, length, arith}
use Rattle.ess_semantics.specs.declared.words.ReprKind.{ReprKind}
use Rattle.ess_semantics.specs.Values.{Text}
use Rattle.ess_semantics.specs.Trees.{Repr, Reprs, repr}
use Rattle.ess_semantics.specs.Domains.{Span, Domain, Domains, booleans, integers, named, tuples, records, matrices, no_domains, more_domains, domain_list, member_list}
use Rattle.ess_semantics.specs.Tables.{volume}
use Rattle.ess_semantics.specs.Layers.{codes_of}
use Rattle.ess_semantics.specs.Declarations.{longest}
use Rattle.ess_domains_cells.specs.Kept.{greater}
use Rattle.ess_domains_cells.specs.Products.{member_product}
use Rattle.ess_domains_cells.specs.Counted.{counted, counted_children}
use Rattle.ess_domains_cells.specs.LayerCounts.{longest_members, table_over}
use Rattle.ess_domains_cells.specs.KindCounts.{is_tuple_kind, is_record_kind, is_matrix_kind, counted_atom}
use Rattle.ess_domains_cells.proofs.LayerForms.{axis-length, no-axis, no-children, behind-none, plus}

-- ---- several axes

pub volume-axes : (ds : Domains) → volume (map codes_of (domain_list ds)) ≡ member_product ds
volume-axes no_domains = refl
volume-axes (more_domains d ds) = ap (λ n. n * volume (map codes_of (domain_list ds))) (axis-length d) ∙ ap (λ n. length (member_list d) * n) (volume-axes ds)

pub longest-axes : (ds : Domains) → longest (map codes_of (domain_list ds)) ≡ longest_members ds
longest-axes no_domains = refl
longest-axes (more_domains d ds) =
    ap (λ n. greater n (longest (map codes_of (domain_list ds)))) (axis-length d) ∙ ap (λ n. greater (length (member_list d)) n) (longest-axes ds)

-- A table over several axes.
pub over-axes : (v l : ℕ) (ds : Domains) → greater (v * volume (map codes_of (domain_list ds))) (greater l (longest (map codes_of (domain_list ds)))) + 0 ≡ table_over v l ds
over-axes v l ds =
    let a = greater (v * volume (map codes_of (domain_list ds))) (greater l (longest (map codes_of (domain_list ds)))) in
    let z : a + 0 ≡ a = omega arith in
    z ∙ ap (λ n. greater (v * n) (greater l (longest (map codes_of (domain_list ds))))) (volume-axes ds) ∙ ap (λ n. greater (v * member_product ds) (greater l n)) (longest-axes ds)

-- Children behind several axes.
pub behind-axes : (rs : Reprs) (es : List Domain) (v l : ℕ) (ds : Domains)
    → counted_children rs es (v * volume (map codes_of (domain_list ds))) (greater l (longest (map codes_of (domain_list ds)))) ≡ counted_children rs es (v * member_product ds) (greater l (longest_members ds))
behind-axes rs es v l ds =
    ap (λ n. counted_children rs es (v * n) (greater l (longest (map codes_of (domain_list ds))))) (volume-axes ds)
    ∙ ap (λ n. counted_children rs es (v * member_product ds) (greater l n)) (longest-axes ds)

pub nothing-and : (a b : ℕ) → a ≡ b → 0 + a ≡ b
nothing-and a b e = let z : 0 + a ≡ a = omega arith in z ∙ e

pub plus-0 : (a : ℕ) → a + 0 ≡ a
plus-0 a = omega arith

abbrev pub kind-of : Repr → ReprKind
kind-of (repr k rs) = k

abbrev pub kids-of : Repr → Reprs
kids-of (repr k rs) = rs

-- ---- atoms, tuples, records, matrices

pub bool-counted : (r : Repr) (v l : ℕ) → counted r booleans v l ≡ counted_atom (kind-of r) v l
bool-counted (repr ReprKind.Atom rs) v l = plus (greater (v * 1) (greater l 0) + 0) (counted_children rs [] (v * 1) (greater l 0)) (greater v l) 0 (no-axis v l) (no-children rs (v * 1) (greater l 0)) ∙ plus-0 (greater v l)
bool-counted (repr ReprKind.Tuple rs) v l = refl
bool-counted (repr ReprKind.Rec rs) v l = refl
bool-counted (repr ReprKind.Matrix rs) v l = refl
bool-counted (repr ReprKind.Occurrence rs) v l = refl
bool-counted (repr ReprKind.Explicit rs) v l = refl
bool-counted (repr ReprKind.ExplicitVarSizeWithMarker rs) v l = refl
bool-counted (repr ReprKind.ExplicitVarSizeWithFlags rs) v l = refl
bool-counted (repr ReprKind.ExplicitVarSizeWithDummy rs) v l = refl
bool-counted (repr ReprKind.MSetOccurrence rs) v l = refl
bool-counted (repr ReprKind.MSetExplicitWithRepetition rs) v l = refl
bool-counted (repr ReprKind.MSetExplicitWithFlags rs) v l = refl
bool-counted (repr ReprKind.Function1D rs) v l = refl
bool-counted (repr ReprKind.Function1DPartial rs) v l = refl
bool-counted (repr ReprKind.FunctionND rs) v l = refl
bool-counted (repr ReprKind.FunctionNDPartial rs) v l = refl
bool-counted (repr ReprKind.FunctionAsRelation rs) v l = refl
bool-counted (repr ReprKind.RelationAsMatrix rs) v l = refl
bool-counted (repr ReprKind.RelationAsSet rs) v l = refl
bool-counted (repr ReprKind.PartitionOccurrence rs) v l = refl
bool-counted (repr ReprKind.PartitionAsSet rs) v l = refl

pub int-counted : (r : Repr) (ss : List Span) (v l : ℕ) → counted r (integers ss) v l ≡ counted_atom (kind-of r) v l
int-counted (repr ReprKind.Atom rs) ss v l = plus (greater (v * 1) (greater l 0) + 0) (counted_children rs [] (v * 1) (greater l 0)) (greater v l) 0 (no-axis v l) (no-children rs (v * 1) (greater l 0)) ∙ plus-0 (greater v l)
int-counted (repr ReprKind.Tuple rs) ss v l = refl
int-counted (repr ReprKind.Rec rs) ss v l = refl
int-counted (repr ReprKind.Matrix rs) ss v l = refl
int-counted (repr ReprKind.Occurrence rs) ss v l = refl
int-counted (repr ReprKind.Explicit rs) ss v l = refl
int-counted (repr ReprKind.ExplicitVarSizeWithMarker rs) ss v l = refl
int-counted (repr ReprKind.ExplicitVarSizeWithFlags rs) ss v l = refl
int-counted (repr ReprKind.ExplicitVarSizeWithDummy rs) ss v l = refl
int-counted (repr ReprKind.MSetOccurrence rs) ss v l = refl
int-counted (repr ReprKind.MSetExplicitWithRepetition rs) ss v l = refl
int-counted (repr ReprKind.MSetExplicitWithFlags rs) ss v l = refl
int-counted (repr ReprKind.Function1D rs) ss v l = refl
int-counted (repr ReprKind.Function1DPartial rs) ss v l = refl
int-counted (repr ReprKind.FunctionND rs) ss v l = refl
int-counted (repr ReprKind.FunctionNDPartial rs) ss v l = refl
int-counted (repr ReprKind.FunctionAsRelation rs) ss v l = refl
int-counted (repr ReprKind.RelationAsMatrix rs) ss v l = refl
int-counted (repr ReprKind.RelationAsSet rs) ss v l = refl
int-counted (repr ReprKind.PartitionOccurrence rs) ss v l = refl
int-counted (repr ReprKind.PartitionAsSet rs) ss v l = refl

pub named-counted : (r : Repr) (t : Text) (n : ℕ) (v l : ℕ) → counted r (named t n) v l ≡ counted_atom (kind-of r) v l
named-counted (repr ReprKind.Atom rs) t n v l = plus (greater (v * 1) (greater l 0) + 0) (counted_children rs [] (v * 1) (greater l 0)) (greater v l) 0 (no-axis v l) (no-children rs (v * 1) (greater l 0)) ∙ plus-0 (greater v l)
named-counted (repr ReprKind.Tuple rs) t n v l = refl
named-counted (repr ReprKind.Rec rs) t n v l = refl
named-counted (repr ReprKind.Matrix rs) t n v l = refl
named-counted (repr ReprKind.Occurrence rs) t n v l = refl
named-counted (repr ReprKind.Explicit rs) t n v l = refl
named-counted (repr ReprKind.ExplicitVarSizeWithMarker rs) t n v l = refl
named-counted (repr ReprKind.ExplicitVarSizeWithFlags rs) t n v l = refl
named-counted (repr ReprKind.ExplicitVarSizeWithDummy rs) t n v l = refl
named-counted (repr ReprKind.MSetOccurrence rs) t n v l = refl
named-counted (repr ReprKind.MSetExplicitWithRepetition rs) t n v l = refl
named-counted (repr ReprKind.MSetExplicitWithFlags rs) t n v l = refl
named-counted (repr ReprKind.Function1D rs) t n v l = refl
named-counted (repr ReprKind.Function1DPartial rs) t n v l = refl
named-counted (repr ReprKind.FunctionND rs) t n v l = refl
named-counted (repr ReprKind.FunctionNDPartial rs) t n v l = refl
named-counted (repr ReprKind.FunctionAsRelation rs) t n v l = refl
named-counted (repr ReprKind.RelationAsMatrix rs) t n v l = refl
named-counted (repr ReprKind.RelationAsSet rs) t n v l = refl
named-counted (repr ReprKind.PartitionOccurrence rs) t n v l = refl
named-counted (repr ReprKind.PartitionAsSet rs) t n v l = refl

pub tuple-counted : (r : Repr) (ds : Domains) (v l : ℕ) → counted r (tuples ds) v l ≡ (if is_tuple_kind (kind-of r) then counted_children (kids-of r) (domain_list ds) v l else 0)
tuple-counted (repr ReprKind.Atom rs) ds v l = refl
tuple-counted (repr ReprKind.Tuple rs) ds v l = nothing-and (counted_children rs (domain_list ds) (v * 1) (greater l 0)) (counted_children rs (domain_list ds) v l) (behind-none rs (domain_list ds) v l)
tuple-counted (repr ReprKind.Rec rs) ds v l = refl
tuple-counted (repr ReprKind.Matrix rs) ds v l = refl
tuple-counted (repr ReprKind.Occurrence rs) ds v l = refl
tuple-counted (repr ReprKind.Explicit rs) ds v l = refl
tuple-counted (repr ReprKind.ExplicitVarSizeWithMarker rs) ds v l = refl
tuple-counted (repr ReprKind.ExplicitVarSizeWithFlags rs) ds v l = refl
tuple-counted (repr ReprKind.ExplicitVarSizeWithDummy rs) ds v l = refl
tuple-counted (repr ReprKind.MSetOccurrence rs) ds v l = refl
tuple-counted (repr ReprKind.MSetExplicitWithRepetition rs) ds v l = refl
tuple-counted (repr ReprKind.MSetExplicitWithFlags rs) ds v l = refl
tuple-counted (repr ReprKind.Function1D rs) ds v l = refl
tuple-counted (repr ReprKind.Function1DPartial rs) ds v l = refl
tuple-counted (repr ReprKind.FunctionND rs) ds v l = refl
tuple-counted (repr ReprKind.FunctionNDPartial rs) ds v l = refl
tuple-counted (repr ReprKind.FunctionAsRelation rs) ds v l = refl
tuple-counted (repr ReprKind.RelationAsMatrix rs) ds v l = refl
tuple-counted (repr ReprKind.RelationAsSet rs) ds v l = refl
tuple-counted (repr ReprKind.PartitionOccurrence rs) ds v l = refl
tuple-counted (repr ReprKind.PartitionAsSet rs) ds v l = refl

pub record-counted : (r : Repr) (fs : List Text) (ds : Domains) (v l : ℕ) → counted r (records fs ds) v l ≡ (if is_record_kind (kind-of r) then counted_children (kids-of r) (domain_list ds) v l else 0)
record-counted (repr ReprKind.Atom rs) fs ds v l = refl
record-counted (repr ReprKind.Tuple rs) fs ds v l = refl
record-counted (repr ReprKind.Rec rs) fs ds v l = nothing-and (counted_children rs (domain_list ds) (v * 1) (greater l 0)) (counted_children rs (domain_list ds) v l) (behind-none rs (domain_list ds) v l)
record-counted (repr ReprKind.Matrix rs) fs ds v l = refl
record-counted (repr ReprKind.Occurrence rs) fs ds v l = refl
record-counted (repr ReprKind.Explicit rs) fs ds v l = refl
record-counted (repr ReprKind.ExplicitVarSizeWithMarker rs) fs ds v l = refl
record-counted (repr ReprKind.ExplicitVarSizeWithFlags rs) fs ds v l = refl
record-counted (repr ReprKind.ExplicitVarSizeWithDummy rs) fs ds v l = refl
record-counted (repr ReprKind.MSetOccurrence rs) fs ds v l = refl
record-counted (repr ReprKind.MSetExplicitWithRepetition rs) fs ds v l = refl
record-counted (repr ReprKind.MSetExplicitWithFlags rs) fs ds v l = refl
record-counted (repr ReprKind.Function1D rs) fs ds v l = refl
record-counted (repr ReprKind.Function1DPartial rs) fs ds v l = refl
record-counted (repr ReprKind.FunctionND rs) fs ds v l = refl
record-counted (repr ReprKind.FunctionNDPartial rs) fs ds v l = refl
record-counted (repr ReprKind.FunctionAsRelation rs) fs ds v l = refl
record-counted (repr ReprKind.RelationAsMatrix rs) fs ds v l = refl
record-counted (repr ReprKind.RelationAsSet rs) fs ds v l = refl
record-counted (repr ReprKind.PartitionOccurrence rs) fs ds v l = refl
record-counted (repr ReprKind.PartitionAsSet rs) fs ds v l = refl

pub matrix-counted : (r : Repr) (is : Domains) (d : Domain) (v l : ℕ) → counted r (matrices is d) v l ≡ (if is_matrix_kind (kind-of r) then counted_children (kids-of r) (d ∷ []) (v * member_product is) (greater l (longest_members is)) else 0)
matrix-counted (repr ReprKind.Atom rs) is d v l = refl
matrix-counted (repr ReprKind.Tuple rs) is d v l = refl
matrix-counted (repr ReprKind.Rec rs) is d v l = refl
matrix-counted (repr ReprKind.Matrix rs) is d v l = nothing-and (counted_children rs (d ∷ []) (v * volume (map codes_of (domain_list is))) (greater l (longest (map codes_of (domain_list is))))) (counted_children rs (d ∷ []) (v * member_product is) (greater l (longest_members is))) (behind-axes rs (d ∷ []) v l is)
matrix-counted (repr ReprKind.Occurrence rs) is d v l = refl
matrix-counted (repr ReprKind.Explicit rs) is d v l = refl
matrix-counted (repr ReprKind.ExplicitVarSizeWithMarker rs) is d v l = refl
matrix-counted (repr ReprKind.ExplicitVarSizeWithFlags rs) is d v l = refl
matrix-counted (repr ReprKind.ExplicitVarSizeWithDummy rs) is d v l = refl
matrix-counted (repr ReprKind.MSetOccurrence rs) is d v l = refl
matrix-counted (repr ReprKind.MSetExplicitWithRepetition rs) is d v l = refl
matrix-counted (repr ReprKind.MSetExplicitWithFlags rs) is d v l = refl
matrix-counted (repr ReprKind.Function1D rs) is d v l = refl
matrix-counted (repr ReprKind.Function1DPartial rs) is d v l = refl
matrix-counted (repr ReprKind.FunctionND rs) is d v l = refl
matrix-counted (repr ReprKind.FunctionNDPartial rs) is d v l = refl
matrix-counted (repr ReprKind.FunctionAsRelation rs) is d v l = refl
matrix-counted (repr ReprKind.RelationAsMatrix rs) is d v l = refl
matrix-counted (repr ReprKind.RelationAsSet rs) is d v l = refl
matrix-counted (repr ReprKind.PartitionOccurrence rs) is d v l = refl
matrix-counted (repr ReprKind.PartitionAsSet rs) is d v l = refl
