-- Bounds of closed domains, kept at the limit, form by form.
use Rattle.std.proofs.Common.{◌≡◌, refl, sym, ap, ◌∙◌, ℕ, suc, ◌+◌, ◌*◌, ◌^◌, ◌<◌, ◌≤◌, List, length, map, drop, get_or, arith}
use Rattle.ess_semantics.specs.Values.{Text}
use Rattle.ess_semantics.specs.Domains.{Domain, Domains}
use Rattle.ess_semantics.specs.Sizes.{occurrences, bound, product_bound}
use Rattle.ess_eval_domains.specs.declared.closed.Attribute.{Attribute}
use Rattle.ess_eval_domains.specs.declared.closed.Closed.{Closed}
use Rattle.ess_eval_domains.specs.declared.closed.Closed.TheVariants as variant
use Rattle.ess_eval_domains.specs.declared.closed.Closed.TheViews.{out-FieldClosed}
use Rattle.ess_eval_domains.specs.declared.closed.FieldClosed.{FieldClosed}
use Rattle.ess_eval_domains.specs.ClosedViews.{pure_attributes, domains_of, pure_closed, pure_field_closed, pure_closeds}
use Rattle.ess_eval_domains.proofs.ClosedEquations.{pure_closed_named, pure_closed_tuple, pure_closed_rec, pure_closed_matrix, pure_closed_set, pure_closed_mset, pure_closed_function, pure_closed_relation, pure_closed_partition, pure_field_closed_is}
use Rattle.ess_domains_cells.specs.Kept.{kept}
use Rattle.ess_domains_cells.proofs.KeptNumbers.{kept_power, kept_twice}
use Rattle.ess_domains_cells.proofs.PartProducts.{product-more, product-all, product-none}

-- ---- powers of kept numbers

base-kept : (a n : ℕ) → kept (kept a ^ n) ≡ kept (a ^ n)
base-kept a n = sym (kept_power (kept a) n) ∙ ap (λ m. kept (m ^ kept n)) (kept_twice a) ∙ kept_power a n

pub exponent-kept : (a n : ℕ) → kept (a ^ kept n) ≡ kept (a ^ n)
exponent-kept a n = sym (kept_power a (kept n)) ∙ ap (λ m. kept (kept a ^ m)) (kept_twice n) ∙ kept_power a n

next-kept : (a : ℕ) → kept (suc (kept a)) ≡ kept (suc a)
next-kept a = grind arith

pub next_power_is : (a s r n : ℕ) → s ≡ kept (a + 1) → r ≡ kept (s ^ n) → r ≡ kept (suc a ^ n)
next_power_is a s r n e p =
    let next : a + 1 ≡ suc a = omega arith in
    p ∙ ap (λ m. kept (m ^ n)) (e ∙ ap kept next) ∙ base-kept (suc a) n

next-base-kept : (a n : ℕ) → kept (suc (kept a) ^ n) ≡ kept (suc a ^ n)
next-base-kept a n = sym (base-kept (suc (kept a)) n) ∙ ap (λ m. kept (m ^ n)) (next-kept a) ∙ base-kept (suc a) n

-- One more than a to the power of n, where both are known by what is kept of them.
next-power : (a n b k r : ℕ) → b ≡ kept a → k ≡ kept n → r ≡ kept (suc b ^ k) → r ≡ kept (suc a ^ n)
next-power a n b k r e f p =
    p ∙ ap (λ m. kept (suc m ^ k)) e ∙ ap (λ m. kept (suc (kept a) ^ m)) f ∙ exponent-kept (suc (kept a)) n ∙ next-base-kept a n

-- ---- form by form

at-bound : (d e : Domain) (r : ℕ) → r ≡ kept (bound d) → e ≡ d → r ≡ kept (bound e)
at-bound d e r p q = p ∙ ap (λ x. kept (bound x)) (sym q)

-- The domains of fields.
abbrev pub fields_domains : List FieldClosed → Domains
fields_domains fs = domains_of (map (λ f. f.1) (map pure_field_closed fs))

pub bound_named : (t : Text) (n : ℕ) → n < 18446744073709551616 → n ≡ kept (bound (pure_closed (variant.Named t n)))
bound_named t n h = let small : n ≡ kept n = grind arith in at-bound _ (pure_closed (variant.Named t n)) n small (pure_closed_named t n)

pub bound_tuple : (ds : List Closed) (r : ℕ) → r ≡ kept (product_bound (pure_closeds ds)) → r ≡ kept (bound (pure_closed (variant.Tuple ds)))
bound_tuple ds r e = at-bound _ (pure_closed (variant.Tuple ds)) r e (pure_closed_tuple ds)

pub bound_record : (fs : List FieldClosed) (r : ℕ) → r ≡ kept (product_bound (fields_domains fs)) → r ≡ kept (bound (pure_closed (variant.Rec fs)))
bound_record fs r e = at-bound _ (pure_closed (variant.Rec fs)) r e (pure_closed_rec fs)

pub bound_matrix : (is : List Closed) (d : Closed) (b k r : ℕ) → b ≡ kept (bound (pure_closed d)) → k ≡ kept (product_bound (pure_closeds is)) → r ≡ kept (suc b ^ k)
    → r ≡ kept (bound (pure_closed (variant.Matrix is d)))
bound_matrix is d b k r e f p =
    at-bound _ (pure_closed (variant.Matrix is d)) r (next-power (bound (pure_closed d)) (product_bound (pure_closeds is)) b k r e f p) (pure_closed_matrix is d)

pub bound_set : (ks : List Attribute) (d : Closed) (b r : ℕ) → b ≡ kept (bound (pure_closed d)) → r ≡ kept (2 ^ b) → r ≡ kept (bound (pure_closed (variant.Set ks d)))
bound_set ks d b r e p =
    at-bound _ (pure_closed (variant.Set ks d)) r (p ∙ ap (λ m. kept (2 ^ m)) e ∙ exponent-kept 2 (bound (pure_closed d))) (pure_closed_set ks d)

pub bound_mset : (ks : List Attribute) (d : Closed) (o b r : ℕ) → o ≡ occurrences (pure_attributes ks) → b ≡ kept (bound (pure_closed d)) → r ≡ kept (suc o ^ b)
    → r ≡ kept (bound (pure_closed (variant.MSet ks d)))
bound_mset ks d o b r g e p =
    at-bound _ (pure_closed (variant.MSet ks d)) r
    (p ∙ ap (λ m. kept (suc m ^ b)) g ∙ ap (λ m. kept (suc (occurrences (pure_attributes ks)) ^ m)) e
    ∙ exponent-kept (suc (occurrences (pure_attributes ks))) (bound (pure_closed d)))
    (pure_closed_mset ks d)

pub bound_function : (ks : List Attribute) (d c : Closed) (b k r : ℕ) → b ≡ kept (bound (pure_closed c)) → k ≡ kept (bound (pure_closed d)) → r ≡ kept (suc b ^ k)
    → r ≡ kept (bound (pure_closed (variant.Function ks d c)))
bound_function ks d c b k r e f p =
    at-bound _ (pure_closed (variant.Function ks d c)) r (next-power (bound (pure_closed c)) (bound (pure_closed d)) b k r e f p) (pure_closed_function ks d c)

pub bound_relation : (ks : List Attribute) (ds : List Closed) (b r : ℕ) → b ≡ kept (product_bound (pure_closeds ds)) → r ≡ kept (2 ^ b)
    → r ≡ kept (bound (pure_closed (variant.Relation ks ds)))
bound_relation ks ds b r e p =
    at-bound _ (pure_closed (variant.Relation ks ds)) r (p ∙ ap (λ m. kept (2 ^ m)) e ∙ exponent-kept 2 (product_bound (pure_closeds ds))) (pure_closed_relation ks ds)

pub bound_partition : (ks : List Attribute) (d : Closed) (b r : ℕ) → b ≡ kept (bound (pure_closed d)) → r ≡ kept (suc b ^ b) → r ≡ kept (bound (pure_closed (variant.Partition ks d)))
bound_partition ks d b r e p =
    at-bound _ (pure_closed (variant.Partition ks d)) r (next-power (bound (pure_closed d)) (bound (pure_closed d)) b b r e e p) (pure_closed_partition ks d)

-- ---- part by part

field-domain : (f : FieldClosed) → (pure_field_closed f).1 ≡ pure_closed (out-FieldClosed f).domain
field-domain f = ap (λ p. p.1) (pure_field_closed_is f)

pub bounds_none : (ds : List Closed) → kept (1 * product_bound (pure_closeds ds)) ≡ kept (product_bound (pure_closeds ds))
bounds_none ds = product-none (product_bound (pure_closeds ds))

pub bounds_more : (ds : List Closed) (i : ℕ) (d : Closed) (t t' n : ℕ) → i < length ds → d ≡ get_or ds i d
    → n ≡ kept (bound (pure_closed d)) → t' ≡ kept (t * n)
    → kept (t * product_bound (pure_closeds (drop i ds))) ≡ kept (product_bound (pure_closeds ds))
    → kept (t' * product_bound (pure_closeds (drop (i + 1) ds))) ≡ kept (product_bound (pure_closeds ds))
bounds_more ds i d t t' n h is e g p =
    product-more (λ c. bound (pure_closed c)) (λ l. product_bound (pure_closeds l)) ds i d t t' n (λ y ys. refl) h is e g p

pub bounds_all : (ds : List Closed) (i t : ℕ) → length ds ≤ i → kept t ≡ t
    → kept (t * product_bound (pure_closeds (drop i ds))) ≡ kept (product_bound (pure_closeds ds)) → t ≡ kept (product_bound (pure_closeds ds))
bounds_all ds i t h k p = product-all (λ l. product_bound (pure_closeds l)) ds i t refl h k p

pub field_bounds_none : (fs : List FieldClosed) → kept (1 * product_bound (fields_domains fs)) ≡ kept (product_bound (fields_domains fs))
field_bounds_none fs = product-none (product_bound (fields_domains fs))

pub field_bounds_more : (fs : List FieldClosed) (i : ℕ) (f : FieldClosed) (t t' n : ℕ) → i < length fs → f ≡ get_or fs i f
    → n ≡ kept (bound (pure_closed (out-FieldClosed f).domain)) → t' ≡ kept (t * n)
    → kept (t * product_bound (fields_domains (drop i fs))) ≡ kept (product_bound (fields_domains fs))
    → kept (t' * product_bound (fields_domains (drop (i + 1) fs))) ≡ kept (product_bound (fields_domains fs))
field_bounds_more fs i f t t' n h is e g p =
    product-more (λ c. bound (pure_field_closed c).1) (λ l. product_bound (fields_domains l)) fs i f t t' n (λ y ys. refl) h is
    (e ∙ ap (λ d. kept (bound d)) (sym (field-domain f))) g p

pub field_bounds_all : (fs : List FieldClosed) (i t : ℕ) → length fs ≤ i → kept t ≡ t
    → kept (t * product_bound (fields_domains (drop i fs))) ≡ kept (product_bound (fields_domains fs)) → t ≡ kept (product_bound (fields_domains fs))
field_bounds_all fs i t h k p = product-all (λ l. product_bound (fields_domains l)) fs i t refl h k p
