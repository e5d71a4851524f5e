-- A record's domain as it is read: its fields by name are the written ones, and their names rise. Fields whose names rise
-- already stay as they are.
use Rattle.std.proofs.Common.{◌≡◌, refl, ap, ◌∙◌, Bool, true, ◌&&◌, List, [], ◌∷◌, map}
use Rattle.std.specs.Ordering.{is_le, ordering_reverse}
use Rattle.std.specs.declared.cmp.Ordering.{Ordering}
use Rattle.std.specs.declared.cmp.Ordering.TheVariants.{Less, Equal, Greater}
use Rattle.ess_semantics.specs.Values.{Text}
use Rattle.ess_semantics.specs.Lists.{zip}
use Rattle.ess_semantics.specs.Order.{order_text}
use Rattle.ess_semantics.specs.Names.{Names, keys, insert_by, insert_name, by_name}
use Rattle.ess_semantics.specs.Kinds.{dom_list, doms_of}
use Rattle.ess_semantics.specs.Trees.{Dom, record_dom, Doms, no_doms, more_doms}
use Rattle.ess_semantics.proofs.Orders.{text_total}
use Rattle.ess_semantics.proofs.Tests.{and-left, and-right, and-both}
use Rattle.ess_grammar.specs.Grammar.{record_of, sorted_record}
use Rattle.ess_grammar.specs.Readable.{is_name_token, are_name_tokens, names_rise, some_doms, fit_domains, ReadableDom, ReadableDoms}

-- ---- the names rise

turned : (a b : Text) → order_text a b ≡ Greater → is_le (order_text b a) ≡ true
turned a b q = ap is_le (text_total.antisymm b a ∙ ap ordering_reverse q)

one-more : (a b : Text) (ns : List Text) → is_le (order_text a b) ≡ true → names_rise (b ∷ ns) ≡ true → names_rise (a ∷ b ∷ ns) ≡ true
one-more a b ns h k = and-both (is_le (order_text a b)) (names_rise (b ∷ ns)) h k

-- an entry goes in behind a first one that isn't above it
insert-behind : {A : Type 0} (a : Text) (x : Text × A) (xs : Names A) → is_le (order_text a x.0) ≡ true → names_rise (a ∷ keys xs) ≡ true →
    names_rise (a ∷ keys (insert_name x xs)) ≡ true
insert-behind a x [] h k = one-more a x.0 [] h refl
insert-behind {A = A} a x (y ∷ ys) h k = go (order_text x.0 y.0) refl (insert-behind y.0 x ys)
  where
    before : is_le (order_text a y.0) ≡ true
    before = and-left (is_le (order_text a y.0)) (names_rise (y.0 ∷ keys ys)) k

    rest : names_rise (y.0 ∷ keys ys) ≡ true
    rest = and-right (is_le (order_text a y.0)) (names_rise (y.0 ∷ keys ys)) k

    go : (o : Ordering) → order_text x.0 y.0 ≡ o →
        (is_le (order_text y.0 x.0) ≡ true → names_rise (y.0 ∷ keys ys) ≡ true → names_rise (y.0 ∷ keys (insert_name x ys)) ≡ true) →
        names_rise (a ∷ keys (insert_by o x y ys (insert_name x ys))) ≡ true
    go Less q ih = one-more a x.0 (y.0 ∷ keys ys) h (one-more x.0 y.0 (keys ys) (ap is_le q) rest)
    go Equal q ih = one-more a x.0 (y.0 ∷ keys ys) h (one-more x.0 y.0 (keys ys) (ap is_le q) rest)
    go Greater q ih = one-more a y.0 (keys (insert_name x ys)) before (ih (turned x.0 y.0 q) rest)

insert-rises : {A : Type 0} (x : Text × A) (xs : Names A) → names_rise (keys xs) ≡ true → names_rise (keys (insert_name x xs)) ≡ true
insert-rises x [] h = refl
insert-rises x (y ∷ ys) h = go (order_text x.0 y.0) refl
  where
    go : (o : Ordering) → order_text x.0 y.0 ≡ o → names_rise (keys (insert_by o x y ys (insert_name x ys))) ≡ true
    go Less q = one-more x.0 y.0 (keys ys) (ap is_le q) h
    go Equal q = one-more x.0 y.0 (keys ys) (ap is_le q) h
    go Greater q = insert-behind y.0 x ys (turned x.0 y.0 q) h

pub by-name-rises : {A : Type 0} (xs : Names A) → names_rise (keys (by_name xs)) ≡ true
by-name-rises [] = refl
by-name-rises (x ∷ xs) = insert-rises x (by_name xs) (by-name-rises xs)

-- ---- what rises stays

tail-rises : (a : Text) (ns : List Text) → names_rise (a ∷ ns) ≡ true → names_rise ns ≡ true
tail-rises a [] h = refl
tail-rises a (b ∷ ns) h = and-right (is_le (order_text a b)) (names_rise (b ∷ ns)) h

insert-first : {A : Type 0} (x : Text × A) (xs : Names A) → names_rise (x.0 ∷ keys xs) ≡ true → insert_name x xs ≡ x ∷ xs
insert-first x [] h = refl
insert-first x (y ∷ ys) h = go (order_text x.0 y.0) (and-left (is_le (order_text x.0 y.0)) (names_rise (y.0 ∷ keys ys)) h)
  where
    go : (o : Ordering) → is_le o ≡ true → insert_by o x y ys (insert_name x ys) ≡ x ∷ y ∷ ys
    go Less e = refl
    go Equal e = refl
    go Greater e = cc

pub by-name-itself : {A : Type 0} (xs : Names A) → names_rise (keys xs) ≡ true → by_name xs ≡ xs
by-name-itself [] h = refl
by-name-itself (x ∷ xs) h = ap (insert_name x) (by-name-itself xs (tail-rises x.0 (keys xs) h)) ∙ insert-first x xs h

-- names and domains side by side
keys-of-zip : (ns : List Text) (ds : Doms) → fit_domains ns ds ≡ true → keys (zip ns (dom_list ds)) ≡ ns
keys-of-zip [] no_doms h = refl
keys-of-zip [] (more_doms d ds) h = cc
keys-of-zip (a ∷ ns) no_doms h = cc
keys-of-zip (a ∷ ns) (more_doms d ds) h = ap (λ ms. a ∷ ms) (keys-of-zip ns ds h)

domains-of-zip : (ns : List Text) (ds : Doms) → fit_domains ns ds ≡ true → doms_of (map (λ x. x.1) (zip ns (dom_list ds))) ≡ ds
domains-of-zip [] no_doms h = refl
domains-of-zip [] (more_doms d ds) h = cc
domains-of-zip (a ∷ ns) no_doms h = cc
domains-of-zip (a ∷ ns) (more_doms d ds) h = ap (more_doms d) (domains-of-zip ns ds h)

-- A readable domain's fields, written in its own order, are read as that domain.
pub sorted-record-itself : (ns : List Text) (ds : Doms) → fit_domains ns ds ≡ true → names_rise ns ≡ true →
    sorted_record ns ds ≡ record_dom ns ds
sorted-record-itself ns ds h k =
    ap record_of (by-name-itself (zip ns (dom_list ds)) (ap names_rise (keys-of-zip ns ds h) ∙ k))
    ∙ ap (λ ms. record_dom ms (doms_of (map (λ x. x.1) (zip ns (dom_list ds))))) (keys-of-zip ns ds h)
    ∙ ap (record_dom ns) (domains-of-zip ns ds h)

-- ---- readable fields

-- Each name is a name token, and each domain is readable.
abbrev pub ReadableFields : Names Dom → Type 0
ReadableFields [] = Unit {0}
ReadableFields (x ∷ xs) = ((is_name_token x.0 ≡ true) × ReadableDom x.1) × ReadableFields xs

insert-readable : (x : Text × Dom) (xs : Names Dom) → (is_name_token x.0 ≡ true) × ReadableDom x.1 → ReadableFields xs →
    ReadableFields (insert_name x xs)
insert-readable x [] h k = (h, tt)
insert-readable x (y ∷ ys) h k = go (order_text x.0 y.0) (insert-readable x ys h k.1)
  where
    go : (o : Ordering) → ReadableFields (insert_name x ys) → ReadableFields (insert_by o x y ys (insert_name x ys))
    go Less ih = (h, k)
    go Equal ih = (h, k)
    go Greater ih = (k.0, ih)

by-name-readable : (xs : Names Dom) → ReadableFields xs → ReadableFields (by_name xs)
by-name-readable [] h = tt
by-name-readable (x ∷ xs) h = insert-readable x (by_name xs) h.0 (by-name-readable xs h.1)

names-readable : (xs : Names Dom) → ReadableFields xs →
    (are_name_tokens (keys xs) && fit_domains (keys xs) (doms_of (map (λ x. x.1) xs))) ≡ true
names-readable [] h = refl
names-readable (x ∷ xs) h =
    let names = are_name_tokens (keys xs) in let fit = fit_domains (keys xs) (doms_of (map (λ x. x.1) xs)) in
    and-both (is_name_token x.0 && names) fit
    (and-both (is_name_token x.0) names h.0.0 (and-left names fit (names-readable xs h.1)))
    (and-right names fit (names-readable xs h.1))

domains-readable : (xs : Names Dom) → ReadableFields xs → ReadableDoms (doms_of (map (λ x. x.1) xs))
domains-readable [] h = tt
domains-readable (x ∷ xs) h = (h.0.1, domains-readable xs h.1)

-- there is one or more
abbrev pub some_fields : Names Dom → Bool
some_fields xs = some_doms (doms_of (map (λ x. x.1) xs))

insert-some : (x : Text × Dom) (xs : Names Dom) → some_fields (insert_name x xs) ≡ true
insert-some x [] = refl
insert-some x (y ∷ ys) = go (order_text x.0 y.0)
  where
    go : (o : Ordering) → some_fields (insert_by o x y ys (insert_name x ys)) ≡ true
    go Less = refl
    go Equal = refl
    go Greater = refl

by-name-some : (xs : Names Dom) → some_fields xs ≡ true → some_fields (by_name xs) ≡ true
by-name-some [] h = cc
by-name-some (x ∷ xs) h = insert-some x (by_name xs)

-- Fields by name make a readable domain.
pub fields-readable : (xs : Names Dom) → some_fields xs ≡ true → ReadableFields xs → ReadableDom (record_of (by_name xs))
fields-readable xs h k =
    let ys = by_name xs in let q = by-name-readable xs k in (
      and-both (some_fields ys) (are_name_tokens (keys ys) && fit_domains (keys ys) (doms_of (map (λ x. x.1) ys)))
          (by-name-some xs h) (names-readable ys q),
      by-name-rises xs,
      domains-readable ys q,
    )
