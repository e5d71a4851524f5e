-- The numbers of members of tuples and records are products.
use Rattle.std.proofs.Common.{◌≡◌, refl, sym, ap, ◌∙◌, ℕ, zero, suc, ◌+◌, ◌*◌, ◌<◌, ◌≤◌, List, [], ◌∷◌, length, map, drop, get_or, Option, Some, None, option_map, arith}
use Rattle.std.proofs.lemmas.List.{length-append}
use Rattle.std.proofs.Math.Nat.{mul-zero, zero-mul}
use Rattle.ess_semantics.specs.Lists.{all_some, list_or_none}
use Rattle.ess_semantics.specs.Values.{Text, Value, node, a_record, tuple, of_list}
use Rattle.ess_semantics.specs.Names.{keys}
use Rattle.ess_semantics.specs.Domains.{Domains, tuples, records, no_domains, more_domains, members_of_each, member_list, add_heads, lists_of, items_from}
use Rattle.ess_eval_domains.specs.declared.closed.Closed.{Closed}
use Rattle.ess_eval_domains.specs.declared.closed.Closed.TheVariants as variant
use Rattle.ess_eval_domains.specs.declared.closed.Closed.TheViews.{out-FieldClosed}
use Rattle.ess_eval_domains.specs.declared.closed.FieldClosed.{FieldClosed}
use Rattle.ess_eval_domains.specs.ClosedViews.{domains_of, pure_closed, pure_field_closed, pure_closeds}
use Rattle.ess_eval_domains.proofs.ClosedEquations.{pure_closed_tuple, pure_closed_rec, pure_closed_named, pure_field_closed_is}
use Rattle.ess_domains_cells.specs.Kept.{kept}
use Rattle.ess_domains_cells.specs.Products.{member_product}
use Rattle.ess_domains_cells.proofs.PartProducts.{product-more, product-all, product-none}

-- ---- lists with one item from each

mapped-length : {A B : Type 0} (f : A → B) (xs : List A) → length (map f xs) ≡ length xs
mapped-length f [] = refl
mapped-length f (x ∷ xs) = ap suc (mapped-length f xs)

heads-length : {A : Type 0} (xs : List A) (ls : List (List A)) → length (add_heads xs ls) ≡ length xs * length ls
heads-length [] ls = sym (zero-mul (length ls))
heads-length (x ∷ xs) ls =
    length-append (map (λ l. x ∷ l) ls) (add_heads xs ls) ∙ ap (λ n. n + length (add_heads xs ls)) (mapped-length (λ l. x ∷ l) ls)
    ∙ ap (λ n. length ls + n) (heads-length xs ls) ∙ sym (next-times (length xs) (length ls))
  where
    next-times : (a b : ℕ) → suc a * b ≡ b + a * b
    next-times a b = grind arith

abbrev list-count : (os : List (Option (List Value))) → ℕ
list-count [] = 1
list-count (o ∷ os) = length (list_or_none o) * list-count os

-- How many lists there are, none where some choice is missing.
lists-length : (os : List (Option (List Value))) → length (list_or_none (option_map lists_of (all_some os))) ≡ list-count os
lists-length [] = refl
lists-length (None ∷ os) = sym (zero-mul (list-count os))
lists-length (Some xs ∷ os) = go (all_some os) (lists-length os)
  where
    go : (p : Option (List (List Value))) → length (list_or_none (option_map lists_of p)) ≡ list-count os
        → length (list_or_none (option_map lists_of (option_map (λ ys. xs ∷ ys) p))) ≡ length xs * list-count os
    go None e = sym (ap (λ n. length xs * n) (sym e) ∙ mul-zero (length xs))
    go (Some ys) e = heads-length xs (lists_of ys) ∙ ap (λ n. length xs * n) e

parts-count : (ds : Domains) → list-count (members_of_each ds) ≡ member_product ds
parts-count no_domains = refl
parts-count (more_domains d ds) = ap (λ n. length (member_list d) * n) (parts-count ds)

built-length : (f : List Value → Value) (o : Option (List (List Value))) → length (list_or_none (option_map (λ ls. map f (lists_of ls)) o)) ≡ length (list_or_none (option_map lists_of o))
built-length f None = refl
built-length f (Some ls) = mapped-length f (lists_of ls)

pub tuples-length : (ds : Domains) → length (member_list (tuples ds)) ≡ member_product ds
tuples-length ds =
    built-length (λ l. tuple (of_list l)) (all_some (members_of_each ds)) ∙ lists-length (members_of_each ds) ∙ parts-count ds

records-length : (fs : List Text) (ds : Domains) → length (member_list (records fs ds)) ≡ member_product ds
records-length fs ds =
    built-length (λ l. node (a_record fs) (of_list l)) (all_some (members_of_each ds)) ∙ lists-length (members_of_each ds) ∙ parts-count ds

-- ---- at closed domains

-- The domains of fields.
abbrev pub fields_domains : List FieldClosed → Domains
fields_domains fs = domains_of (map (λ f. f.1) (map pure_field_closed fs))

pub count_tuple : (ds : List Closed) (r : ℕ) → r ≡ kept (member_product (pure_closeds ds)) → r ≡ kept (length (member_list (pure_closed (variant.Tuple ds))))
count_tuple ds r e = e ∙ ap kept (sym (tuples-length (pure_closeds ds))) ∙ ap (λ d. kept (length (member_list d))) (sym (pure_closed_tuple ds))

pub count_record : (fs : List FieldClosed) (r : ℕ) → r ≡ kept (member_product (fields_domains fs)) → r ≡ kept (length (member_list (pure_closed (variant.Rec fs))))
count_record fs r e =
    e ∙ ap kept (sym (records-length (keys (map pure_field_closed fs)) (fields_domains fs))) ∙ ap (λ d. kept (length (member_list d))) (sym (pure_closed_rec fs))

items-length : (t : Text) (k n : ℕ) → length (items_from t k n) ≡ n
items-length t k zero = refl
items-length t k (suc n) = ap suc (items-length t (suc k) n)

pub count_named : (t : Text) (n : ℕ) → n < 18446744073709551616 → n ≡ kept (length (member_list (pure_closed (variant.Named t n))))
count_named t n h =
    let small : n ≡ kept n = grind arith in
    small ∙ ap kept (sym (items-length t 1 n)) ∙ ap (λ d. kept (length (member_list d))) (sym (pure_closed_named t n))

-- ---- part by part

field-domain : (f : FieldClosed) → (pure_field_closed f).1 ≡ pure_closed (out-FieldClosed f).domain
field-domain f = ap (λ p. p.1) (pure_field_closed_is f)

pub members_none : (ds : List Closed) → kept (1 * member_product (pure_closeds ds)) ≡ kept (member_product (pure_closeds ds))
members_none ds = product-none (member_product (pure_closeds ds))

pub members_more : (ds : List Closed) (i : ℕ) (d : Closed) (t t' n : ℕ) → i < length ds → d ≡ get_or ds i d
    → n ≡ kept (length (member_list (pure_closed d))) → t' ≡ kept (t * n)
    → kept (t * member_product (pure_closeds (drop i ds))) ≡ kept (member_product (pure_closeds ds))
    → kept (t' * member_product (pure_closeds (drop (i + 1) ds))) ≡ kept (member_product (pure_closeds ds))
members_more ds i d t t' n h is e g p =
    product-more (λ c. length (member_list (pure_closed c))) (λ l. member_product (pure_closeds l)) ds i d t t' n (λ y ys. refl) h is e g p

pub members_all : (ds : List Closed) (i t : ℕ) → length ds ≤ i → kept t ≡ t
    → kept (t * member_product (pure_closeds (drop i ds))) ≡ kept (member_product (pure_closeds ds)) → t ≡ kept (member_product (pure_closeds ds))
members_all ds i t h k p = product-all (λ l. member_product (pure_closeds l)) ds i t refl h k p

pub field_members_none : (fs : List FieldClosed) → kept (1 * member_product (fields_domains fs)) ≡ kept (member_product (fields_domains fs))
field_members_none fs = product-none (member_product (fields_domains fs))

pub field_members_more : (fs : List FieldClosed) (i : ℕ) (f : FieldClosed) (t t' n : ℕ) → i < length fs → f ≡ get_or fs i f
    → n ≡ kept (length (member_list (pure_closed (out-FieldClosed f).domain))) → t' ≡ kept (t * n)
    → kept (t * member_product (fields_domains (drop i fs))) ≡ kept (member_product (fields_domains fs))
    → kept (t' * member_product (fields_domains (drop (i + 1) fs))) ≡ kept (member_product (fields_domains fs))
field_members_more fs i f t t' n h is e g p =
    product-more (λ c. length (member_list (pure_field_closed c).1)) (λ l. member_product (fields_domains l)) fs i f t t' n (λ y ys. refl) h is
    (e ∙ ap (λ d. kept (length (member_list d))) (sym (field-domain f))) g p

pub field_members_all : (fs : List FieldClosed) (i t : ℕ) → length fs ≤ i → kept t ≡ t
    → kept (t * member_product (fields_domains (drop i fs))) ≡ kept (member_product (fields_domains fs)) → t ≡ kept (member_product (fields_domains fs))
field_members_all fs i t h k p = product-all (λ l. member_product (fields_domains l)) fs i t refl h k p
