-- What one layer counts, by the sizes of its domain.
use Rattle.std.proofs.Common.{◌≡◌, refl, ap, ◌∙◌, ℕ, zero, suc, ◌+◌, ◌*◌, List, [], ◌∷◌, map, length, arith}
use Rattle.std.proofs.Math.Nat.{mul-one}
use Rattle.ess_semantics.specs.declared.words.ReprKind.{ReprKind}
use Rattle.ess_semantics.specs.Numbers.{run_from, one_to}
use Rattle.ess_semantics.specs.Values.{Value}
use Rattle.ess_semantics.specs.Trees.{Repr, Reprs, repr, no_reprs, more_reprs}
use Rattle.ess_semantics.specs.Domains.{Attribute, Domain, sets, msets, member_list}
use Rattle.ess_semantics.specs.Sizes.{greatest_size, slots_of_set, slots_of_mset}
use Rattle.ess_semantics.specs.Tables.{code}
use Rattle.ess_semantics.specs.Layers.{codes_of}
use Rattle.ess_domains_cells.specs.Kept.{greater}
use Rattle.ess_domains_cells.specs.Counted.{counted, counted_children}
use Rattle.ess_domains_cells.specs.LayerCounts.{table, counted_set, counted_mset}

-- ---- axes

codes-length : (vs : List Value) → length (map code vs) ≡ length vs
codes-length [] = refl
codes-length (v ∷ vs) = ap suc (codes-length vs)

run-length : (k n : ℕ) → length (run_from k n) ≡ n
run-length k zero = refl
run-length k (suc n) = ap suc (run-length (suc k) n)

-- The axis of a domain has as many members as the domain.
pub axis-length : (d : Domain) → length (codes_of d) ≡ length (member_list d)
axis-length d = codes-length (member_list d)

pub greater-0 : (a : ℕ) → greater a 0 ≡ a
greater-0 a = grind arith

-- A table over one axis of n members.
pub one-axis : (v l a n : ℕ) → a ≡ n → greater (v * (a * 1)) (greater l (greater a 0)) + 0 ≡ table v l n
one-axis v l a n e =
    let z : greater (v * (a * 1)) (greater l (greater a 0)) + 0 ≡ greater (v * (a * 1)) (greater l (greater a 0)) = omega arith in
    z ∙ ap (λ m. greater (v * m) (greater l (greater a 0))) (mul-one a) ∙ ap (λ m. greater (v * a) (greater l m)) (greater-0 a) ∙ ap (table v l) e

-- A table without axes of its own.
pub no-axis : (v l : ℕ) → greater (v * 1) (greater l 0) + 0 ≡ greater v l
no-axis v l =
    let z : greater (v * 1) (greater l 0) + 0 ≡ greater (v * 1) (greater l 0) = omega arith in
    z ∙ ap (λ m. greater m (greater l 0)) (mul-one v) ∙ ap (greater v) (greater-0 l)

pub no-children : (rs : Reprs) (v l : ℕ) → counted_children rs [] v l ≡ 0
no-children no_reprs v l = refl
no-children (more_reprs r rs) v l = refl

-- Children behind one axis of n members.
pub behind-axis : (rs : Reprs) (ds : List Domain) (v l a n : ℕ) → a ≡ n → counted_children rs ds (v * (a * 1)) (greater l (greater a 0)) ≡ counted_children rs ds (v * n) (greater l n)
behind-axis rs ds v l a n e =
    ap (λ m. counted_children rs ds (v * m) (greater l (greater a 0))) (mul-one a ∙ e)
    ∙ ap (λ m. counted_children rs ds (v * n) (greater l m)) (greater-0 a ∙ e)

-- Children behind no axis.
pub behind-none : (rs : Reprs) (ds : List Domain) (v l : ℕ) → counted_children rs ds (v * 1) (greater l 0) ≡ counted_children rs ds v l
behind-none rs ds v l =
    ap (λ m. counted_children rs ds m (greater l 0)) (mul-one v) ∙ ap (λ m. counted_children rs ds v m) (greater-0 l)

pub plus : (a b c d : ℕ) → a ≡ c → b ≡ d → a + b ≡ c + d
plus a b c d e f = ap (λ n. n + b) e ∙ ap (λ n. c + n) f

-- ---- sets

-- A set counts by its number of slots alone.
pub set-counted : (r : Repr) (ks : List Attribute) (d : Domain) (v l : ℕ) → counted r (sets ks d) v l ≡ counted_set r (greatest_size ks) d v l
set-counted (repr ReprKind.Atom rs) ks d v l = refl
set-counted (repr ReprKind.Tuple rs) ks d v l = refl
set-counted (repr ReprKind.Rec rs) ks d v l = refl
set-counted (repr ReprKind.Matrix rs) ks d v l = refl
set-counted (repr ReprKind.Occurrence rs) ks d v l = plus (greater (v * (length (codes_of d) * 1)) (greater l (greater (length (codes_of d)) 0)) + 0) (counted_children rs [] (v * 1) (greater l 0)) (table v l (length (member_list d))) 0 (one-axis v l (length (codes_of d)) (length (member_list d)) (axis-length d)) (no-children rs (v * 1) (greater l 0))
set-counted (repr ReprKind.Explicit rs) ks d v l = let n = slots_of_set ks d in plus 0 (counted_children rs (d ∷ []) (v * (length (one_to n) * 1)) (greater l (greater (length (one_to n)) 0))) 0 (counted_children rs (d ∷ []) (v * n) (greater l n)) refl (behind-axis rs (d ∷ []) v l (length (one_to n)) n (run-length 1 n))
set-counted (repr ReprKind.ExplicitVarSizeWithMarker rs) ks d v l = let n = slots_of_set ks d in plus (greater (v * 1) (greater l 0) + 0) (counted_children rs (d ∷ []) (v * (length (one_to n) * 1)) (greater l (greater (length (one_to n)) 0))) (greater v l) (counted_children rs (d ∷ []) (v * n) (greater l n)) (no-axis v l) (behind-axis rs (d ∷ []) v l (length (one_to n)) n (run-length 1 n))
set-counted (repr ReprKind.ExplicitVarSizeWithFlags rs) ks d v l = let n = slots_of_set ks d in plus (greater (v * (length (one_to n) * 1)) (greater l (greater (length (one_to n)) 0)) + 0) (counted_children rs (d ∷ []) (v * (length (one_to n) * 1)) (greater l (greater (length (one_to n)) 0))) (table v l n) (counted_children rs (d ∷ []) (v * n) (greater l n)) (one-axis v l (length (one_to n)) n (run-length 1 n)) (behind-axis rs (d ∷ []) v l (length (one_to n)) n (run-length 1 n))
set-counted (repr ReprKind.ExplicitVarSizeWithDummy rs) ks d v l = let n = slots_of_set ks d in plus (greater (v * (length (one_to n) * 1)) (greater l (greater (length (one_to n)) 0)) + 0) (counted_children rs [] (v * 1) (greater l 0)) (table v l n) 0 (one-axis v l (length (one_to n)) n (run-length 1 n)) (no-children rs (v * 1) (greater l 0))
set-counted (repr ReprKind.MSetOccurrence rs) ks d v l = refl
set-counted (repr ReprKind.MSetExplicitWithRepetition rs) ks d v l = refl
set-counted (repr ReprKind.MSetExplicitWithFlags rs) ks d v l = refl
set-counted (repr ReprKind.Function1D rs) ks d v l = refl
set-counted (repr ReprKind.Function1DPartial rs) ks d v l = refl
set-counted (repr ReprKind.FunctionND rs) ks d v l = refl
set-counted (repr ReprKind.FunctionNDPartial rs) ks d v l = refl
set-counted (repr ReprKind.FunctionAsRelation rs) ks d v l = refl
set-counted (repr ReprKind.RelationAsMatrix rs) ks d v l = refl
set-counted (repr ReprKind.RelationAsSet rs) ks d v l = refl
set-counted (repr ReprKind.PartitionOccurrence rs) ks d v l = refl
set-counted (repr ReprKind.PartitionAsSet rs) ks d v l = refl

-- ---- multisets

-- A multiset counts by its number of slots alone.
pub mset-counted : (r : Repr) (ks : List Attribute) (d : Domain) (v l : ℕ) → counted r (msets ks d) v l ≡ counted_mset r (slots_of_mset ks d) d v l
mset-counted (repr ReprKind.Atom rs) ks d v l = refl
mset-counted (repr ReprKind.Tuple rs) ks d v l = refl
mset-counted (repr ReprKind.Rec rs) ks d v l = refl
mset-counted (repr ReprKind.Matrix rs) ks d v l = refl
mset-counted (repr ReprKind.Occurrence rs) ks d v l = refl
mset-counted (repr ReprKind.Explicit rs) ks d v l = refl
mset-counted (repr ReprKind.ExplicitVarSizeWithMarker rs) ks d v l = refl
mset-counted (repr ReprKind.ExplicitVarSizeWithFlags rs) ks d v l = refl
mset-counted (repr ReprKind.ExplicitVarSizeWithDummy rs) ks d v l = refl
mset-counted (repr ReprKind.MSetOccurrence rs) ks d v l = plus (greater (v * (length (codes_of d) * 1)) (greater l (greater (length (codes_of d)) 0)) + 0) (counted_children rs [] (v * 1) (greater l 0)) (table v l (length (member_list d))) 0 (one-axis v l (length (codes_of d)) (length (member_list d)) (axis-length d)) (no-children rs (v * 1) (greater l 0))
mset-counted (repr ReprKind.MSetExplicitWithRepetition rs) ks d v l = let n = slots_of_mset ks d in plus (greater (v * 1) (greater l 0) + 0) (counted_children rs (d ∷ []) (v * (length (one_to n) * 1)) (greater l (greater (length (one_to n)) 0))) (greater v l) (counted_children rs (d ∷ []) (v * n) (greater l n)) (no-axis v l) (behind-axis rs (d ∷ []) v l (length (one_to n)) n (run-length 1 n))
mset-counted (repr ReprKind.MSetExplicitWithFlags rs) ks d v l = let n = slots_of_mset ks d in plus (greater (v * (length (one_to n) * 1)) (greater l (greater (length (one_to n)) 0)) + 0) (counted_children rs (d ∷ []) (v * (length (one_to n) * 1)) (greater l (greater (length (one_to n)) 0))) (table v l n) (counted_children rs (d ∷ []) (v * n) (greater l n)) (one-axis v l (length (one_to n)) n (run-length 1 n)) (behind-axis rs (d ∷ []) v l (length (one_to n)) n (run-length 1 n))
mset-counted (repr ReprKind.Function1D rs) ks d v l = refl
mset-counted (repr ReprKind.Function1DPartial rs) ks d v l = refl
mset-counted (repr ReprKind.FunctionND rs) ks d v l = refl
mset-counted (repr ReprKind.FunctionNDPartial rs) ks d v l = refl
mset-counted (repr ReprKind.FunctionAsRelation rs) ks d v l = refl
mset-counted (repr ReprKind.RelationAsMatrix rs) ks d v l = refl
mset-counted (repr ReprKind.RelationAsSet rs) ks d v l = refl
mset-counted (repr ReprKind.PartitionOccurrence rs) ks d v l = refl
mset-counted (repr ReprKind.PartitionAsSet rs) ks d v l = refl
