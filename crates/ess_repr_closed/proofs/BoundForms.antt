-- The steps by which code counts a bound.
use Rattle.std.proofs.Common.{◌≡◌, refl, sym, ap, ◌∙◌, ℕ, zero, suc, ◌+◌, ◌*◌, ◌^◌, ◌<◌, ◌≤◌, List, [], ◌∷◌, ℤ, map, length, drop, get_or, Some, None, arith}
use Rattle.std.proofs.Math.Nat.{mul_assoc, mul_comm, one-mul, mul-one, zero-mul, pow-zero, pow-succ'}
use Rattle.std.proofs.lemmas.List.{at_drop_more, at_drop_all}
use Rattle.ess_semantics.specs.Lists.{list_or_none}
use Rattle.ess_semantics.specs.Values.{Text, number}
use Rattle.ess_semantics.specs.Domains.{integers, member_list, int_members}
use Rattle.ess_semantics.specs.Sizes.{occurrences, bound, product_bound}
use Rattle.ess_eval_domains.specs.declared.closed.Span.{Span}
use Rattle.ess_eval_domains.specs.declared.closed.Attribute.{Attribute}
use Rattle.ess_eval_domains.specs.declared.closed.Closed.{Closed}
use Rattle.ess_eval_domains.specs.declared.closed.Closed.TheVariants as variant
use Rattle.ess_eval_domains.specs.declared.closed.Closed.TheViews.{out-FieldClosed}
use Rattle.ess_eval_domains.specs.declared.closed.FieldClosed.{FieldClosed}
use Rattle.ess_eval_domains.specs.ClosedViews.{pure_span, pure_attributes, domains_of, pure_closed, pure_closeds, pure_field_closed}
use Rattle.ess_eval_domains.proofs.ClosedEquations.{pure_closed_int, pure_closed_named, pure_closed_tuple, pure_closed_rec, pure_closed_matrix, pure_closed_set, pure_closed_mset, pure_closed_function, pure_closed_relation, pure_closed_partition, pure_field_closed_is}

-- ---- forms

pub bound_int : (ss : List Span) → length (member_list (integers (map pure_span ss))) ≡ bound (pure_closed (variant.Int ss))
bound_int ss = ap bound (sym (pure_closed_int ss))

pub bound_named : (t : Text) (n : ℕ) → n ≡ bound (pure_closed (variant.Named t n))
bound_named t n = ap bound (sym (pure_closed_named t n))

pub bound_tuple : (ds : List Closed) → product_bound (pure_closeds ds) ≡ bound (pure_closed (variant.Tuple ds))
bound_tuple ds = ap bound (sym (pure_closed_tuple ds))

pub bound_record : (fs : List FieldClosed) → product_bound (domains_of (map (λ f. f.1) (map pure_field_closed fs))) ≡ bound (pure_closed (variant.Rec fs))
bound_record fs = ap bound (sym (pure_closed_rec fs))

pub bound_matrix : (r a b : ℕ) (is : List Closed) (d : Closed) → r ≡ suc a ^ b → a ≡ bound (pure_closed d) → b ≡ product_bound (pure_closeds is) →
    r ≡ bound (pure_closed (variant.Matrix is d))
bound_matrix r a b is d e p q = e ∙ ap (λ n. suc n ^ b) p ∙ ap (λ n. suc (bound (pure_closed d)) ^ n) q ∙ ap bound (sym (pure_closed_matrix is d))

pub bound_set : (r b : ℕ) (ks : List Attribute) (d : Closed) → r ≡ 2 ^ b → b ≡ bound (pure_closed d) → r ≡ bound (pure_closed (variant.Set ks d))
bound_set r b ks d e q = e ∙ ap (λ n. 2 ^ n) q ∙ ap bound (sym (pure_closed_set ks d))

pub bound_mset : (r a b : ℕ) (ks : List Attribute) (d : Closed) → r ≡ suc a ^ b → a ≡ occurrences (pure_attributes ks) → b ≡ bound (pure_closed d) →
    r ≡ bound (pure_closed (variant.MSet ks d))
bound_mset r a b ks d e p q = e ∙ ap (λ n. suc n ^ b) p ∙ ap (λ n. suc (occurrences (pure_attributes ks)) ^ n) q ∙ ap bound (sym (pure_closed_mset ks d))

pub bound_function : (r a b : ℕ) (ks : List Attribute) (d c : Closed) → r ≡ suc a ^ b → a ≡ bound (pure_closed c) → b ≡ bound (pure_closed d) →
    r ≡ bound (pure_closed (variant.Function ks d c))
bound_function r a b ks d c e p q = e ∙ ap (λ n. suc n ^ b) p ∙ ap (λ n. suc (bound (pure_closed c)) ^ n) q ∙ ap bound (sym (pure_closed_function ks d c))

pub bound_relation : (r b : ℕ) (ks : List Attribute) (ds : List Closed) → r ≡ 2 ^ b → b ≡ product_bound (pure_closeds ds) →
    r ≡ bound (pure_closed (variant.Relation ks ds))
bound_relation r b ks ds e q = e ∙ ap (λ n. 2 ^ n) q ∙ ap bound (sym (pure_closed_relation ks ds))

pub bound_partition : (r b : ℕ) (ks : List Attribute) (d : Closed) → r ≡ suc b ^ b → b ≡ bound (pure_closed d) →
    r ≡ bound (pure_closed (variant.Partition ks d))
bound_partition r b ks d e q = e ∙ ap (λ n. suc n ^ n) q ∙ ap bound (sym (pure_closed_partition ks d))

-- ---- numbers

numbers-long : (ns : List ℤ) → length (map number ns) ≡ length ns
numbers-long [] = refl
numbers-long (n ∷ ns) = ap suc (numbers-long ns)

pub numbers_there : (ns : List ℤ) (ss : List Span) → Some (map number ns) ≡ int_members (map pure_span ss) → length ns ≡ length (member_list (integers (map pure_span ss)))
numbers_there ns ss e = sym (numbers-long ns) ∙ ap (λ o. length (list_or_none o)) e

pub numbers_none : (ss : List Span) → None ≡ int_members (map pure_span ss) → 0 ≡ length (member_list (integers (map pure_span ss)))
numbers_none ss e = ap (λ o. length (list_or_none o)) e

-- ---- products

begun : (a : ℕ) → 1 * a ≡ a
begun a = one-mul a

more : (t t' n own later all : ℕ) → n ≡ own → t' ≡ t * n → t * (own * later) ≡ all → t' * later ≡ all
more t t' n own later all e g p = ap (λ k. k * later) (g ∙ ap (λ k. t * k) e) ∙ mul_assoc t own later ∙ p

ended : (t left all : ℕ) → left ≡ 1 → t * left ≡ all → t ≡ all
ended t left all e p = sym (mul-one t) ∙ ap (λ n. t * n) (sym e) ∙ p

pub bounds_none : (ds : List Closed) → 1 * product_bound (pure_closeds ds) ≡ product_bound (pure_closeds ds)
bounds_none ds = begun (product_bound (pure_closeds ds))

pub bounds_more : (ds : List Closed) (i : ℕ) (d : Closed) (t t' n : ℕ) → i < length ds → d ≡ get_or ds i d → n ≡ bound (pure_closed d) → t' ≡ t * n →
    t * product_bound (pure_closeds (drop i ds)) ≡ product_bound (pure_closeds ds) → t' * product_bound (pure_closeds (drop (i + 1) ds)) ≡ product_bound (pure_closeds ds)
bounds_more ds i d t t' n h is e g p =
    more t t' n (bound (pure_closed d)) (product_bound (pure_closeds (drop (i + 1) ds))) (product_bound (pure_closeds ds)) e g
    (ap (λ c. t * (bound (pure_closed c) * product_bound (pure_closeds (drop (i + 1) ds)))) is ∙ ap (λ k. t * k) (sym (at_drop_more (λ l. product_bound (pure_closeds l)) ds i d h)) ∙ p)

pub bounds_all : (ds : List Closed) (i t : ℕ) → length ds ≤ i → t * product_bound (pure_closeds (drop i ds)) ≡ product_bound (pure_closeds ds) → t ≡ product_bound (pure_closeds ds)
bounds_all ds i t h p = ended t (product_bound (pure_closeds (drop i ds))) (product_bound (pure_closeds ds)) (at_drop_all (λ l. product_bound (pure_closeds l)) ds i h) p

-- The product of the bounds of fields.
abbrev pub fields_product : List FieldClosed → ℕ
fields_product fs = product_bound (domains_of (map (λ f. f.1) (map pure_field_closed fs)))

pub field_bounds_none : (fs : List FieldClosed) → 1 * fields_product fs ≡ fields_product fs
field_bounds_none fs = begun (fields_product fs)

pub field_bounds_more : (fs : List FieldClosed) (i : ℕ) (f : FieldClosed) (t t' n : ℕ) → i < length fs → f ≡ get_or fs i f → n ≡ bound (pure_closed (out-FieldClosed f).domain) → t' ≡ t * n →
    t * fields_product (drop i fs) ≡ fields_product fs → t' * fields_product (drop (i + 1) fs) ≡ fields_product fs
field_bounds_more fs i f t t' n h is e g p =
    more t t' n (bound (pure_field_closed f).1) (fields_product (drop (i + 1) fs)) (fields_product fs) (e ∙ ap (λ q. bound q.1) (sym (pure_field_closed_is f))) g
    (ap (λ c. t * (bound (pure_field_closed c).1 * fields_product (drop (i + 1) fs))) is ∙ ap (λ k. t * k) (sym (at_drop_more fields_product fs i f h)) ∙ p)

pub field_bounds_all : (fs : List FieldClosed) (i t : ℕ) → length fs ≤ i → t * fields_product (drop i fs) ≡ fields_product fs → t ≡ fields_product fs
field_bounds_all fs i t h p = ended t (fields_product (drop i fs)) (fields_product fs) (at_drop_all fields_product fs i h) p

-- ---- powers

power-of-0 : (n : ℕ) → 0 < n → 0 ^ n ≡ 0
power-of-0 zero z = absurd (omega arith)
power-of-0 (suc n) z = pow-succ' 0 n ∙ zero-mul (0 ^ n)

power-of-1 : (n : ℕ) → 1 ^ n ≡ 1
power-of-1 zero = pow-zero 1
power-of-1 (suc n) = let p = power-of-1 n in let e = pow-succ' 1 n in omega arith

pub power_to_0 : (a n : ℕ) → n ≡ 0 → 1 ≡ a ^ n
power_to_0 a n e = sym (ap (λ k. a ^ k) e ∙ pow-zero a)

-- 0 and 1 to a power above 0 are themselves.
pub power_small : (a n : ℕ) → a ≤ 1 → 0 < n → a ≡ a ^ n
power_small zero n h z = sym (power-of-0 n z)
power_small (suc zero) n h z = sym (power-of-1 n)
power_small (suc (suc a)) n h z = absurd (omega arith)

pub power_none : (a : ℕ) → 1 ≡ a ^ 0
power_none a = sym (pow-zero a)

-- One factor more.
pub power_more : (a k t t' : ℕ) → t ≡ a ^ k → t' ≡ t * a → t' ≡ a ^ (k + 1)
power_more a k t t' e g =
    let q : suc k ≡ k + 1 = omega arith in
    g ∙ ap (λ n. n * a) e ∙ mul_comm (a ^ k) a ∙ sym (pow-succ' a k) ∙ ap (λ n. a ^ n) q
