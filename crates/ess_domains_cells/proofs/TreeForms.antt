-- The steps by which code counts the cells of each form of domain.
use Rattle.std.proofs.Common.{◌≡◌, sym, ap, ◌∙◌, ℕ, ◌+◌, ◌*◌, true, false, if◌then◌else◌, List, [], ◌∷◌, map, Option, Some, option_map, arith}
use Rattle.ess_semantics.specs.declared.words.ReprKind.{ReprKind}
use Rattle.ess_semantics.specs.Values.{Text}
use Rattle.ess_semantics.specs.Trees as pure
use Rattle.ess_semantics.specs.Domains as domains
use Rattle.ess_semantics.specs.Domains.{Domain, Domains, tuples, functions, relations, partitions, no_domains, more_domains, domain_list, member_list}
use Rattle.ess_semantics.specs.Names.{keys}
use Rattle.ess_semantics.specs.Sizes.{greatest_size, slots_of_mset}
use Rattle.ess_core.specs.declared.representations.Repr.{Repr}
use Rattle.ess_core.specs.declared.representations.Repr.TheViews.{out-Repr}
use Rattle.ess_core.specs.TreeViews.{pure_repr}
use Rattle.ess_eval_domains.specs.declared.closed.Span.{Span}
use Rattle.ess_eval_domains.specs.declared.closed.Attribute.{Attribute}
use Rattle.ess_eval_domains.specs.declared.closed.Closed.{Closed}
use Rattle.ess_eval_domains.specs.declared.closed.Closed.TheVariants as variant
use Rattle.ess_eval_domains.specs.declared.closed.FieldClosed.{FieldClosed}
use Rattle.ess_eval_domains.specs.ClosedViews.{pure_span, pure_attributes, domains_of, record_domain, pure_closed, pure_field_closed, pure_closeds}
use Rattle.ess_eval_domains.proofs.ClosedEquations.{pure_closed_bool, pure_closed_int, pure_closed_named, pure_closed_tuple, pure_closed_rec, pure_closed_matrix, pure_closed_set, pure_closed_mset, pure_closed_function, pure_closed_relation, pure_closed_partition}
use Rattle.ess_domains_cells.specs.Kept.{kept, greater}
use Rattle.ess_domains_cells.specs.Counted.{counted, counted_children}
use Rattle.ess_domains_cells.specs.LayerCounts.{counted_set, counted_mset, counted_relation}
use Rattle.ess_domains_cells.specs.KindCounts.{is_pairs_kind, is_record_kind, has_flags, counted_atom, function_axes, counted_over, pair_size, first_relation}
use Rattle.ess_domains_cells.proofs.KeptNumbers.{kept_twice}
use Rattle.ess_domains_cells.proofs.CountsKept.{greater-same, children-same}
use Rattle.ess_domains_cells.proofs.KindForms.{kind-of, bool-counted, int-counted, named-counted}
use Rattle.ess_domains_cells.proofs.PartKinds.{relation-counted, pairs-counted, function-counted}
use Rattle.ess_domains_cells.proofs.LayerForms.{mset-counted}
use Rattle.ess_domains_cells.proofs.LayerSteps.{set_form, sum-kept}
use Rattle.ess_domains_cells.proofs.SizeSteps.{relation-same, first-relation-same, mset-same, over-same}
use Rattle.ess_domains_cells.proofs.TreeSteps.{kids, kind-is, kids-are, record_yes, record_no}

-- ---- the forms of closed domains

at-form : (x : pure.Repr) (d e : Domain) (v l r : ℕ) → r ≡ kept (counted x d v l) → e ≡ d → r ≡ kept (counted x e v l)
at-form x d e v l r p q = p ∙ ap (λ c. kept (counted x c v l)) (sym q)

pub at_bool : (x : Repr) (v l r : ℕ) → r ≡ kept (counted_atom (out-Repr x).kind v l) → r ≡ kept (counted (pure_repr x) (pure_closed variant.Bool) v l)
at_bool x v l r p =
    at-form (pure_repr x) domains.booleans (pure_closed variant.Bool) v l r
    (p ∙ ap (λ k. kept (counted_atom k v l)) (sym (kind-is x)) ∙ ap kept (sym (bool-counted (pure_repr x) v l))) pure_closed_bool

pub at_int : (x : Repr) (ss : List Span) (v l r : ℕ) → r ≡ kept (counted_atom (out-Repr x).kind v l) → r ≡ kept (counted (pure_repr x) (pure_closed (variant.Int ss)) v l)
at_int x ss v l r p =
    at-form (pure_repr x) (domains.integers (map pure_span ss)) (pure_closed (variant.Int ss)) v l r
    (p ∙ ap (λ k. kept (counted_atom k v l)) (sym (kind-is x)) ∙ ap kept (sym (int-counted (pure_repr x) (map pure_span ss) v l))) (pure_closed_int ss)

pub at_named : (x : Repr) (t : Text) (n : ℕ) (v l r : ℕ) → r ≡ kept (counted_atom (out-Repr x).kind v l) → r ≡ kept (counted (pure_repr x) (pure_closed (variant.Named t n)) v l)
at_named x t n v l r p =
    at-form (pure_repr x) (domains.named t n) (pure_closed (variant.Named t n)) v l r
    (p ∙ ap (λ k. kept (counted_atom k v l)) (sym (kind-is x)) ∙ ap kept (sym (named-counted (pure_repr x) t n v l))) (pure_closed_named t n)

pub at_tuple : (x : Repr) (ds : List Closed) (v l r : ℕ) → r ≡ kept (counted (pure_repr x) (tuples (pure_closeds ds)) v l) → r ≡ kept (counted (pure_repr x) (pure_closed (variant.Tuple ds)) v l)
at_tuple x ds v l r p = at-form (pure_repr x) (tuples (pure_closeds ds)) (pure_closed (variant.Tuple ds)) v l r p (pure_closed_tuple ds)

pub at_record : (x : Repr) (fs : List FieldClosed) (v l r : ℕ) → r ≡ kept (counted (pure_repr x) (record_domain (map pure_field_closed fs)) v l)
    → r ≡ kept (counted (pure_repr x) (pure_closed (variant.Rec fs)) v l)
at_record x fs v l r p = at-form (pure_repr x) (record_domain (map pure_field_closed fs)) (pure_closed (variant.Rec fs)) v l r p (pure_closed_rec fs)

pub at_matrix : (x : Repr) (is : List Closed) (d : Closed) (v l r : ℕ) → r ≡ kept (counted (pure_repr x) (domains.matrices (pure_closeds is) (pure_closed d)) v l)
    → r ≡ kept (counted (pure_repr x) (pure_closed (variant.Matrix is d)) v l)
at_matrix x is d v l r p = at-form (pure_repr x) (domains.matrices (pure_closeds is) (pure_closed d)) (pure_closed (variant.Matrix is d)) v l r p (pure_closed_matrix is d)

pub at_set : (x : Repr) (ks : List Attribute) (d : Closed) (o s : Option ℕ) (v l r : ℕ) → o ≡ greatest_size (pure_attributes ks) → s ≡ option_map kept o
    → r ≡ kept (counted_set (pure_repr x) s (pure_closed d) v l) → r ≡ kept (counted (pure_repr x) (pure_closed (variant.Set ks d)) v l)
at_set x ks d o s v l r e f p =
    at-form (pure_repr x) (domains.sets (pure_attributes ks) (pure_closed d)) (pure_closed (variant.Set ks d)) v l r
    (set_form x (pure_attributes ks) (pure_closed d) v l r (p ∙ ap (λ q. kept (counted_set (pure_repr x) q (pure_closed d) v l)) (f ∙ ap (option_map kept) e))) (pure_closed_set ks d)

pub at_mset : (x : Repr) (ks : List Attribute) (d : Closed) (n v l r : ℕ) → n ≡ kept (slots_of_mset (pure_attributes ks) (pure_closed d))
    → r ≡ kept (counted_mset (pure_repr x) n (pure_closed d) v l) → r ≡ kept (counted (pure_repr x) (pure_closed (variant.MSet ks d)) v l)
at_mset x ks d n v l r e p =
    let slots = slots_of_mset (pure_attributes ks) (pure_closed d) in
    at-form (pure_repr x) (domains.msets (pure_attributes ks) (pure_closed d)) (pure_closed (variant.MSet ks d)) v l r
    (p ∙ mset-same (pure_repr x) n slots (pure_closed d) v l (ap kept e ∙ kept_twice slots) ∙ ap kept (sym (mset-counted (pure_repr x) (pure_attributes ks) (pure_closed d) v l)))
    (pure_closed_mset ks d)

pub at_function : (x : Repr) (ks : List Attribute) (d c : Closed) (v l r : ℕ) → r ≡ kept (counted (pure_repr x) (functions (pure_attributes ks) (pure_closed d) (pure_closed c)) v l)
    → r ≡ kept (counted (pure_repr x) (pure_closed (variant.Function ks d c)) v l)
at_function x ks d c v l r p = at-form (pure_repr x) (functions (pure_attributes ks) (pure_closed d) (pure_closed c)) (pure_closed (variant.Function ks d c)) v l r p (pure_closed_function ks d c)

pub at_relation : (x : Repr) (ks : List Attribute) (ds : List Closed) (o s : Option ℕ) (v l r : ℕ) → o ≡ greatest_size (pure_attributes ks) → s ≡ option_map kept o
    → r ≡ kept (counted_relation (pure_repr x) s (pure_closeds ds) v l) → r ≡ kept (counted (pure_repr x) (pure_closed (variant.Relation ks ds)) v l)
at_relation x ks ds o s v l r e f p =
    at-form (pure_repr x) (relations (pure_attributes ks) (pure_closeds ds)) (pure_closed (variant.Relation ks ds)) v l r
    (p ∙ ap (λ q. kept (counted_relation (pure_repr x) q (pure_closeds ds) v l)) (f ∙ ap (option_map kept) e)
    ∙ relation-same (pure_repr x) (greatest_size (pure_attributes ks)) (pure_closeds ds) v l
    ∙ ap kept (sym (relation-counted (pure_repr x) (pure_attributes ks) (pure_closeds ds) v l))) (pure_closed_relation ks ds)

pub at_partition : (x : Repr) (ks : List Attribute) (d : Closed) (v l r : ℕ) → r ≡ kept (counted (pure_repr x) (partitions (pure_attributes ks) (pure_closed d)) v l)
    → r ≡ kept (counted (pure_repr x) (pure_closed (variant.Partition ks d)) v l)
at_partition x ks d v l r p = at-form (pure_repr x) (partitions (pure_attributes ks) (pure_closed d)) (pure_closed (variant.Partition ks d)) v l r p (pure_closed_partition ks d)

-- ---- records

-- The domains of fields.
abbrev pub fields_domains : List FieldClosed → Domains
fields_domains fs = domains_of (map (λ f. f.1) (map pure_field_closed fs))

pub record_there : (x : Repr) (fs : List FieldClosed) (v l r : ℕ) → is_record_kind (out-Repr x).kind ≡ true → r ≡ kept (counted_children (kids (out-Repr x).children) (domain_list (fields_domains fs)) v l)
    → r ≡ kept (counted (pure_repr x) (record_domain (map pure_field_closed fs)) v l)
record_there x fs v l r h p = record_yes x (keys (map pure_field_closed fs)) (fields_domains fs) v l r h p

pub record_other : (x : Repr) (fs : List FieldClosed) (v l : ℕ) → is_record_kind (out-Repr x).kind ≡ false → 0 ≡ kept (counted (pure_repr x) (record_domain (map pure_field_closed fs)) v l)
record_other x fs v l h = record_no x (keys (map pure_field_closed fs)) (fields_domains fs) v l h

-- ---- functions

pub pairs_there : (x : Repr) (ks : List domains.Attribute) (d c : Domain) (s : Option ℕ) (v l r : ℕ) → is_pairs_kind (out-Repr x).kind ≡ true → s ≡ option_map kept (pair_size ks d)
    → r ≡ kept (first_relation (kids (out-Repr x).children) s (more_domains d (more_domains c no_domains)) v l) → r ≡ kept (counted (pure_repr x) (functions ks d c) v l)
pairs_there x ks d c s v l r h e p =
    let ds = more_domains d (more_domains c no_domains) in
    p ∙ ap (λ q. kept (first_relation (kids (out-Repr x).children) q ds v l)) e ∙ first-relation-same (kids (out-Repr x).children) (pair_size ks d) ds v l
    ∙ ap (λ q. kept (first_relation q (pair_size ks d) ds v l)) (sym (kids-are x))
    ∙ ap kept (sym (pairs-counted (pure_repr x) ks d c v l (ap is_pairs_kind (kind-is x) ∙ h)))

pub over_there : (x : Repr) (ks : List domains.Attribute) (d c : Domain) (a : Option (ℕ × ℕ)) (v l r : ℕ) → is_pairs_kind (out-Repr x).kind ≡ false
    → a ≡ option_map (λ p. (kept p.0, kept p.1)) (function_axes (out-Repr x).kind d)
    → r ≡ kept (counted_over (out-Repr x).kind (kids (out-Repr x).children) a c v l) → r ≡ kept (counted (pure_repr x) (functions ks d c) v l)
over_there x ks d c a v l r h e p =
    let k = (out-Repr x).kind in
    let rs = kids (out-Repr x).children in
    p ∙ ap (λ q. kept (counted_over k rs q c v l)) e ∙ over-same k rs (function_axes k d) c v l
    ∙ ap (λ q. kept (counted_over q rs (function_axes q d) c v l)) (sym (kind-is x))
    ∙ ap (λ q. kept (counted_over (kind-of (pure_repr x)) q (function_axes (kind-of (pure_repr x)) d) c v l)) (sym (kids-are x))
    ∙ ap kept (sym (function-counted (pure_repr x) ks d c v l (ap is_pairs_kind (kind-is x) ∙ h)))

over-below : (rs : pure.Reprs) (c : Domain) (v l n m v' l' : ℕ) → v' ≡ kept (v * n) → l' ≡ greater l m
    → kept (counted_children rs (c ∷ []) v' l') ≡ kept (counted_children rs (c ∷ []) (v * n) (greater l m))
over-below rs c v l n m v' l' e f = children-same rs (c ∷ []) v' (v * n) l' (greater l m) (ap kept e ∙ kept_twice (v * n)) (ap kept f)

pub over_flags : (k : ReprKind) (rs : pure.Reprs) (c : Domain) (v l n m v' l' below a g r : ℕ) → has_flags k ≡ true → v' ≡ kept (v * n) → l' ≡ greater l m
    → below ≡ kept (counted_children rs (c ∷ []) v' l') → a ≡ greater v' l' → g ≡ kept a → r ≡ kept (g + below) → r ≡ kept (counted_over k rs (Some (n, m)) c v l)
over_flags k rs c v l n m v' l' below a g r h ev el eb ea eg er =
    let own : kept (greater v' l') ≡ kept (greater (v * n) (greater l m)) = greater-same v' l' (v * n) (greater l m) (ap kept ev ∙ kept_twice (v * n)) (ap kept el) in
    sum-kept g below (greater (v * n) (greater l m)) (counted_children rs (c ∷ []) (v * n) (greater l m)) r
    (eg ∙ ap kept ea ∙ own) (eb ∙ over-below rs c v l n m v' l' ev el) er
    ∙ ap (λ t. kept ((if t then greater (v * n) (greater l m) else 0) + counted_children rs (c ∷ []) (v * n) (greater l m))) (sym h)

pub over_plain : (k : ReprKind) (rs : pure.Reprs) (c : Domain) (v l n m v' l' below : ℕ) → has_flags k ≡ false → v' ≡ kept (v * n) → l' ≡ greater l m
    → below ≡ kept (counted_children rs (c ∷ []) v' l') → below ≡ kept (counted_over k rs (Some (n, m)) c v l)
over_plain k rs c v l n m v' l' below h ev el eb =
    let x = counted_children rs (c ∷ []) (v * n) (greater l m) in
    let z : x ≡ 0 + x = omega arith in
    eb ∙ over-below rs c v l n m v' l' ev el ∙ ap kept z
    ∙ ap (λ t. kept ((if t then greater (v * n) (greater l m) else 0) + x)) (sym h)
