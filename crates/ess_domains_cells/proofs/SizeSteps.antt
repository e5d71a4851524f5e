-- What is kept of the sizes serves: for sets, sets of sets, relations and functions.
use Rattle.std.proofs.Common.{◌≡◌, refl, ◌∙◌, ℕ, ◌*◌, ◌^◌, Bool, true, false, if◌then◌else◌, [], ◌∷◌, length, Option, Some, None, option_map}
use Rattle.ess_semantics.specs.declared.words.ReprKind.{ReprKind}
use Rattle.ess_semantics.specs.Lists.{or_default}
use Rattle.ess_semantics.specs.Trees.{Repr, Reprs, repr, no_reprs, more_reprs}
use Rattle.ess_semantics.specs.Domains.{Domain, Domains, tuples, member_list}
use Rattle.ess_semantics.specs.Sizes.{bound}
use Rattle.ess_domains_cells.specs.Kept.{kept, greater}
use Rattle.ess_domains_cells.specs.Counted.{counted_children}
use Rattle.ess_domains_cells.specs.LayerCounts.{set_own, has_slots, counted_set, first_set, counted_sets, mset_own, has_mset_slots, counted_mset, counted_relation}
use Rattle.ess_domains_cells.specs.KindCounts.{has_flags, counted_over, first_relation, first_sets}
use Rattle.ess_domains_cells.proofs.KeptNumbers.{kept_twice}
use Rattle.ess_domains_cells.proofs.CountsKept.{sum-same, product-same, greater-same, children-same}
use Rattle.ess_domains_cells.proofs.LayerSteps.{set-same, set-own-same, mset-own-same, size-same}

pub if-same : (t : Bool) (a b : ℕ) → kept a ≡ kept b → kept (if t then a else 0) ≡ kept (if t then b else 0)
if-same true a b e = e
if-same false a b e = refl

first-same : (rs : Reprs) (s : Option ℕ) (d : Domain) (v l : ℕ) → kept (first_set rs (option_map kept s) d v l) ≡ kept (first_set rs s d v l)
first-same no_reprs s d v l = refl
first-same (more_reprs r rs) s d v l = set-same r s d v l

pub relation-same : (r : Repr) (s : Option ℕ) (ds : Domains) (v l : ℕ) → kept (counted_relation r (option_map kept s) ds v l) ≡ kept (counted_relation r s ds v l)
relation-same (repr ReprKind.Atom rs) s ds v l = refl
relation-same (repr ReprKind.Tuple rs) s ds v l = refl
relation-same (repr ReprKind.Rec rs) s ds v l = refl
relation-same (repr ReprKind.Matrix rs) s ds v l = refl
relation-same (repr ReprKind.Occurrence rs) s ds v l = refl
relation-same (repr ReprKind.Explicit rs) s ds v l = refl
relation-same (repr ReprKind.ExplicitVarSizeWithMarker rs) s ds v l = refl
relation-same (repr ReprKind.ExplicitVarSizeWithFlags rs) s ds v l = refl
relation-same (repr ReprKind.ExplicitVarSizeWithDummy rs) s ds v l = refl
relation-same (repr ReprKind.MSetOccurrence rs) s ds v l = refl
relation-same (repr ReprKind.MSetExplicitWithRepetition rs) s ds v l = refl
relation-same (repr ReprKind.MSetExplicitWithFlags rs) s ds v l = refl
relation-same (repr ReprKind.Function1D rs) s ds v l = refl
relation-same (repr ReprKind.Function1DPartial rs) s ds v l = refl
relation-same (repr ReprKind.FunctionND rs) s ds v l = refl
relation-same (repr ReprKind.FunctionNDPartial rs) s ds v l = refl
relation-same (repr ReprKind.FunctionAsRelation rs) s ds v l = refl
relation-same (repr ReprKind.RelationAsMatrix rs) s ds v l = refl
relation-same (repr ReprKind.RelationAsSet rs) s ds v l = first-same rs s (tuples ds) v l
relation-same (repr ReprKind.PartitionOccurrence rs) s ds v l = refl
relation-same (repr ReprKind.PartitionAsSet rs) s ds v l = refl

pub first-relation-same : (rs : Reprs) (s : Option ℕ) (ds : Domains) (v l : ℕ) → kept (first_relation rs (option_map kept s) ds v l) ≡ kept (first_relation rs s ds v l)
first-relation-same no_reprs s ds v l = refl
first-relation-same (more_reprs r rs) s ds v l = relation-same r s ds v l

-- The own tables of a set depend on what is kept of the volume and the longest axis.
own-behind : (k : ReprKind) (v w l m n o : ℕ) → kept v ≡ kept w → kept l ≡ kept m → kept (set_own k v l n o) ≡ kept (set_own k w m n o)
own-behind ReprKind.Atom v w l m n o e f = refl
own-behind ReprKind.Tuple v w l m n o e f = refl
own-behind ReprKind.Rec v w l m n o e f = refl
own-behind ReprKind.Matrix v w l m n o e f = refl
own-behind ReprKind.Occurrence v w l m n o e f = greater-same (v * o) (greater l o) (w * o) (greater m o) (product-same v o w o e refl) (greater-same l o m o f refl)
own-behind ReprKind.Explicit v w l m n o e f = refl
own-behind ReprKind.ExplicitVarSizeWithMarker v w l m n o e f = greater-same v l w m e f
own-behind ReprKind.ExplicitVarSizeWithFlags v w l m n o e f = greater-same (v * n) (greater l n) (w * n) (greater m n) (product-same v n w n e refl) (greater-same l n m n f refl)
own-behind ReprKind.ExplicitVarSizeWithDummy v w l m n o e f = greater-same (v * n) (greater l n) (w * n) (greater m n) (product-same v n w n e refl) (greater-same l n m n f refl)
own-behind ReprKind.MSetOccurrence v w l m n o e f = refl
own-behind ReprKind.MSetExplicitWithRepetition v w l m n o e f = refl
own-behind ReprKind.MSetExplicitWithFlags v w l m n o e f = refl
own-behind ReprKind.Function1D v w l m n o e f = refl
own-behind ReprKind.Function1DPartial v w l m n o e f = refl
own-behind ReprKind.FunctionND v w l m n o e f = refl
own-behind ReprKind.FunctionNDPartial v w l m n o e f = refl
own-behind ReprKind.FunctionAsRelation v w l m n o e f = refl
own-behind ReprKind.RelationAsMatrix v w l m n o e f = refl
own-behind ReprKind.RelationAsSet v w l m n o e f = refl
own-behind ReprKind.PartitionOccurrence v w l m n o e f = refl
own-behind ReprKind.PartitionAsSet v w l m n o e f = refl

-- A set depends on what is kept of the volume and the longest axis.
pub set-behind-same : (r : Repr) (s : Option ℕ) (d : Domain) (v w l m : ℕ) → kept v ≡ kept w → kept l ≡ kept m → kept (counted_set r s d v l) ≡ kept (counted_set r s d w m)
set-behind-same (repr k rs) s d v w l m e f =
    let n = or_default s (bound d) in
    sum-same (set_own k v l n (length (member_list d))) (if has_slots k then counted_children rs (d ∷ []) (v * n) (greater l n) else 0)
    (set_own k w m n (length (member_list d))) (if has_slots k then counted_children rs (d ∷ []) (w * n) (greater m n) else 0)
    (own-behind k v w l m n (length (member_list d)) e f)
    (if-same (has_slots k) (counted_children rs (d ∷ []) (v * n) (greater l n)) (counted_children rs (d ∷ []) (w * n) (greater m n))
    (children-same rs (d ∷ []) (v * n) (w * n) (greater l n) (greater m n) (product-same v n w n e refl) (greater-same l n m n f refl)))

pub first-behind-same : (rs : Reprs) (s : Option ℕ) (d : Domain) (v w l m : ℕ) → kept v ≡ kept w → kept l ≡ kept m → kept (first_set rs s d v l) ≡ kept (first_set rs s d w m)
first-behind-same no_reprs s d v w l m e f = refl
first-behind-same (more_reprs r rs) s d v w l m e f = set-behind-same r s d v w l m e f

-- Sets of sets.
pub sets-same : (r : Repr) (s t : Option ℕ) (d : Domain) (v l : ℕ) → kept (counted_sets r (option_map kept s) (option_map kept t) d v l) ≡ kept (counted_sets r s t d v l)
sets-same (repr k rs) s t d v l =
    let n = or_default (option_map kept s) (2 ^ bound d) in
    let N = or_default s (2 ^ bound d) in
    let same : kept n ≡ kept N = size-same s (2 ^ bound d) in
    sum-same (set_own k v l n 0) (if has_slots k then first_set rs (option_map kept t) d (v * n) (greater l n) else 0)
    (set_own k v l N 0) (if has_slots k then first_set rs t d (v * N) (greater l N) else 0)
    (set-own-same k v l n 0 N 0 same refl)
    (if-same (has_slots k) (first_set rs (option_map kept t) d (v * n) (greater l n)) (first_set rs t d (v * N) (greater l N))
    (first-same rs t d (v * n) (greater l n)
    ∙ first-behind-same rs t d (v * n) (v * N) (greater l n) (greater l N) (product-same v n v N refl same) (greater-same l n l N refl same)))

pub first-sets-same : (rs : Reprs) (s t : Option ℕ) (d : Domain) (v l : ℕ) → kept (first_sets rs (option_map kept s) (option_map kept t) d v l) ≡ kept (first_sets rs s t d v l)
first-sets-same no_reprs s t d v l = refl
first-sets-same (more_reprs r rs) s t d v l = sets-same r s t d v l

-- Multisets.
pub mset-same : (r : Repr) (n m : ℕ) (d : Domain) (v l : ℕ) → kept n ≡ kept m → kept (counted_mset r n d v l) ≡ kept (counted_mset r m d v l)
mset-same (repr k rs) n m d v l e =
    let o = length (member_list d) in
    sum-same (mset_own k v l n o) (if has_mset_slots k then counted_children rs (d ∷ []) (v * n) (greater l n) else 0)
    (mset_own k v l m o) (if has_mset_slots k then counted_children rs (d ∷ []) (v * m) (greater l m) else 0)
    (mset-own-same k v l n o m o e refl)
    (if-same (has_mset_slots k) (counted_children rs (d ∷ []) (v * n) (greater l n)) (counted_children rs (d ∷ []) (v * m) (greater l m))
    (children-same rs (d ∷ []) (v * n) (v * m) (greater l n) (greater l m) (product-same v n v m refl e) (greater-same l n l m refl e)))

-- Functions over axes.
pub over-same : (k : ReprKind) (rs : Reprs) (a : Option (ℕ × ℕ)) (c : Domain) (v l : ℕ)
    → kept (counted_over k rs (option_map (λ p. (kept p.0, kept p.1)) a) c v l) ≡ kept (counted_over k rs a c v l)
over-same k rs None c v l = refl
over-same k rs (Some p) c v l =
    let volumes : kept (v * kept p.0) ≡ kept (v * p.0) = product-same v (kept p.0) v p.0 refl (kept_twice p.0) in
    let longests : kept (greater l (kept p.1)) ≡ kept (greater l p.1) = greater-same l (kept p.1) l p.1 refl (kept_twice p.1) in
    sum-same (if has_flags k then greater (v * kept p.0) (greater l (kept p.1)) else 0) (counted_children rs (c ∷ []) (v * kept p.0) (greater l (kept p.1)))
    (if has_flags k then greater (v * p.0) (greater l p.1) else 0) (counted_children rs (c ∷ []) (v * p.0) (greater l p.1))
    (if-same (has_flags k) (greater (v * kept p.0) (greater l (kept p.1))) (greater (v * p.0) (greater l p.1))
    (greater-same (v * kept p.0) (greater l (kept p.1)) (v * p.0) (greater l p.1) volumes longests))
    (children-same rs (c ∷ []) (v * kept p.0) (v * p.0) (greater l (kept p.1)) (greater l p.1) volumes longests)
