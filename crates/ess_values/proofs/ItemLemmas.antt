-- The values of named types that names name.
use Rattle.std.proofs.Common.{◌≡◌, refl, sym, ap, ◌∙◌, ℕ, suc, ◌+◌, ◌-◌, ◌*◌, ◌<◌, ◌≤◌, Bool, true, false, ◌&&◌, if◌then◌else◌, eqb, List, [], ◌∷◌, ◌++◌, length, map, take, drop, get_or, Option, Some, None, option_map, codes, arith}
use Rattle.std.specs.Prelude.{nat_le}
use Rattle.std.specs.List.{list_all}
use Rattle.std.proofs.lemmas.List.{at_drop_more, at_drop_all, take_more, reverse-append, length-take}
use Rattle.std.proofs.lemmas.Bool.{false≢true}
use Rattle.std.proofs.lemmas.Bool.Decides.{nat_tests}
use Rattle.std.specs.Ordering.{is_eq}
use Rattle.std.specs.declared.cmp.Ordering.{Ordering}
use Rattle.std.specs.declared.cmp.Ordering.TheVariants.{Less, Equal, Greater}
use Rattle.std.specs.Prelude.{◌≢◌}
use Rattle.ess_semantics.specs.Lists.{and_then, when, or_else}
use Rattle.ess_semantics.specs.Values.{Text, Value, item}
use Rattle.ess_semantics.specs.Types.{named_ty}
use Rattle.ess_semantics.specs.Order.{same_text, order_text}
use Rattle.ess_semantics.specs.Meaning as meaning
use Rattle.ess_semantics.specs.NameTokens.{is_digit}
use Rattle.ess_semantics.specs.NameTokens.{are_digits}
use Rattle.ess_semantics.specs.Judgements.{after_prefix}
use Rattle.ess_semantics.specs.NameTokens.{value_after as number_of}
use Rattle.ess_semantics.specs.Literals.{unnamed_item, named_item, item_of_name}
use Rattle.ess_semantics.specs.Assignments.{unnamed_name}
use Rattle.ess_semantics.proofs.Orders.{text_exact, equal-of}
use Rattle.ess_core.specs.TableViews.{pure_type_entry, pure_type_entries}
use Rattle.ess_core.specs.declared.tables.TypeEntry.{TypeEntry}
use Rattle.ess_values.specs.Items.{item_of_entry, typed_item, small_number}
use Rattle.ess_values.proofs.Joins.{nil_of_test}

-- ---- a number read digit by digit

-- The number of the digits behind those of n, where all are digits and it is within the limit.
abbrev pub small_from : ℕ → ℕ → Text → Option ℕ
small_from limit n ds = when (list_all is_digit ds && nat_le (number_of n ds) limit) (number_of n ds)

pub no_digits : (limit : ℕ) (ds : Text) → eqb (length ds) 0 ≡ true → small_number limit ds ≡ None
no_digits limit ds h = ap (small_number limit) (nil_of_test ds h)

pub some_digits : (limit : ℕ) (ds : Text) → eqb (length ds) 0 ≡ false → small_number limit ds ≡ small_from limit 0 ds
some_digits limit [] h = absurd (false≢true (sym h))
some_digits limit (d ∷ ds) h = refl

-- a digit and a limit that holds
digit_there : (b : Bool) (m limit more : ℕ) → Some more ≡ when (b && nat_le m limit) m → (b ≡ true) × (more ≡ m) × (m ≤ limit)
digit_there true m limit more e = go (nat_le m limit) refl e
  where
    go : (c : Bool) → nat_le m limit ≡ c → Some more ≡ when c m → (true ≡ true) × (more ≡ m) × (m ≤ limit)
    go true h e = (refl, cc, grind (arith, nat_tests))
    go false h e = cc
digit_there false m limit more e = cc

number_grows : (n : ℕ) (ds : Text) → n ≤ number_of n ds
number_grows n [] = omega arith
number_grows n (d ∷ ds) = let h = number_grows (10 * n + (d - 48)) ds in omega (arith, h)

one_more : (limit n d more : ℕ) (ds : Text) → Some more ≡ when (is_digit d && nat_le (10 * n + (d - 48)) limit) (10 * n + (d - 48)) → small_from limit n (d ∷ ds) ≡ small_from limit more ds
one_more limit n d more ds e =
    let h = digit_there (is_digit d) (10 * n + (d - 48)) limit more e in
    ap (λ b. when ((b && list_all is_digit ds) && nat_le (number_of (10 * n + (d - 48)) ds) limit) (number_of (10 * n + (d - 48)) ds)) h.0
    ∙ ap (λ m. small_from limit m ds) (sym h.1)

pub one_digit : (limit n d more i : ℕ) (ds : Text) → i < length ds → d ≡ get_or ds i d → Some more ≡ when (is_digit d && nat_le (10 * n + (d - 48)) limit) (10 * n + (d - 48))
    → small_from limit n (drop i ds) ≡ small_from limit more (drop (i + 1) ds)
one_digit limit n d more i ds h is e =
    at_drop_more (small_from limit n) ds i d h ∙ ap (λ x. small_from limit n (x ∷ drop (i + 1) ds)) (sym is) ∙ one_more limit n d more (drop (i + 1) ds) e

pub within_limit : (limit m more : ℕ) (b : Bool) → Some more ≡ when (b && nat_le m limit) m → more ≤ limit
within_limit limit m more b e = let h = digit_there b m limit more e in omega (arith, h.1, h.2)

above : (limit m : ℕ) (ds : Text) → nat_le m limit ≡ false → nat_le (number_of m ds) limit ≡ false
above limit m ds h = let k = number_grows m ds in grind (arith, nat_tests)

none_more : (limit n d : ℕ) (ds : Text) → None ≡ when (is_digit d && nat_le (10 * n + (d - 48)) limit) (10 * n + (d - 48)) → small_from limit n (d ∷ ds) ≡ None
none_more limit n d ds e = go (is_digit d) e
  where
    last : (b c : Bool) (m : ℕ) → c ≡ false → when (b && c) m ≡ None
    last true c m h = ap (λ x. when x m) h
    last false c m h = refl

    inner : (c : Bool) → nat_le (10 * n + (d - 48)) limit ≡ c → None ≡ when c (10 * n + (d - 48))
        → when (list_all is_digit ds && nat_le (number_of (10 * n + (d - 48)) ds) limit) (number_of (10 * n + (d - 48)) ds) ≡ None
    inner true h e = cc
    inner false h e = last (list_all is_digit ds) (nat_le (number_of (10 * n + (d - 48)) ds) limit) (number_of (10 * n + (d - 48)) ds) (above limit (10 * n + (d - 48)) ds h)

    go : (b : Bool) → None ≡ when (b && nat_le (10 * n + (d - 48)) limit) (10 * n + (d - 48))
        → when ((b && list_all is_digit ds) && nat_le (number_of (10 * n + (d - 48)) ds) limit) (number_of (10 * n + (d - 48)) ds) ≡ None
    go true e = inner (nat_le (10 * n + (d - 48)) limit) refl e
    go false e = refl

pub no_digit : (limit n i : ℕ) (ds : Text) → i < length ds → None ≡ when (is_digit (get_or ds i 0) && nat_le (10 * n + (get_or ds i 0 - 48)) limit) (10 * n + (get_or ds i 0 - 48))
    → small_from limit n (drop i ds) ≡ None
no_digit limit n i ds h e = at_drop_more (small_from limit n) ds i 0 h ∙ none_more limit n (get_or ds i 0) (drop (i + 1) ds) e

pub digits_end : (limit n i : ℕ) (ds : Text) → length ds ≤ i → n ≤ limit → small_from limit n (drop i ds) ≡ Some n
digits_end limit n i ds h k = at_drop_all (small_from limit n) ds i h ∙ ap (λ b. when b n) (within n limit k)
  where
    within : (a b : ℕ) → a ≤ b → nat_le a b ≡ true
    within a b k = grind (arith, nat_tests)

-- ---- what stands behind a prefix

text_itself : (p q : Text) → same_text p q ≡ true → p ≡ q
text_itself p q h = text_exact p q (equal-of (order_text p q) h)

pub not_shorter : (p a : Text) → length a < length p → after_prefix p a ≡ None
not_shorter p a h = go (same_text p (take (length p) a)) refl
  where
    go : (b : Bool) → same_text p (take (length p) a) ≡ b → (if b then Some (drop (length p) a) else None) ≡ None
    go true e = let l = ap length (text_itself p (take (length p) a) e) in absurd (omega (arith, l, length-take (length p) a))
    go false e = refl

pub behind_prefix : (p a : Text) → order_text p (take (length p) a) ≡ Equal → after_prefix p a ≡ Some (drop (length p) a)
behind_prefix p a e = ap (λ o. if is_eq o then Some (drop (length p) a) else None) e

pub other_prefix : (p a : Text) → order_text p (take (length p) a) ≢ Equal → after_prefix p a ≡ None
other_prefix p a h = go (order_text p (take (length p) a)) h
  where
    go : (o : Ordering) → o ≢ Equal → (if is_eq o then Some (drop (length p) a) else None) ≡ None
    go Less h = refl
    go Equal h = absurd (h refl)
    go Greater h = refl

-- ---- a value of an unnamed type

pub unnamed_there : (t : meaning.TypeEntry) (p a : Text) (k : ℕ) → p ≡ t.name ++ codes "_" → Some k ≡ and_then (after_prefix p a) (small_number t.count)
    → unnamed_item t a ≡ option_map (item t.name) (when (same_text a (unnamed_name t.name k) && nat_le 1 k && nat_le k t.count) k)
unnamed_there t p a k is e = go (after_prefix (t.name ++ codes "_") a) (e ∙ ap (λ q. and_then (after_prefix q a) (small_number t.count)) is)
  where
    mapped : (b : Bool) (n : ℕ) → when b (item t.name n) ≡ option_map (item t.name) (when b n)
    mapped true n = refl
    mapped false n = refl

    inner : (b : Bool) (ds : Text) → are_digits ds ≡ b → Some k ≡ when (b && nat_le (number_of 0 ds) t.count) (number_of 0 ds)
        → when (b && same_text a (unnamed_name t.name (number_of 0 ds)) && nat_le 1 (number_of 0 ds) && nat_le (number_of 0 ds) t.count) (item t.name (number_of 0 ds))
        ≡ option_map (item t.name) (when (same_text a (unnamed_name t.name k) && nat_le 1 k && nat_le k t.count) k)
    inner true ds h e =
        let w = digit_there true (number_of 0 ds) t.count k e in
        mapped (same_text a (unnamed_name t.name (number_of 0 ds)) && nat_le 1 (number_of 0 ds) && nat_le (number_of 0 ds) t.count) (number_of 0 ds)
        ∙ ap (λ n. option_map (item t.name) (when (same_text a (unnamed_name t.name n) && nat_le 1 n && nat_le n t.count) n)) (sym w.1)
    inner false ds h e = cc

    go : (o : Option Text) → Some k ≡ and_then o (small_number t.count)
        → and_then o (λ ds. when (are_digits ds && same_text a (unnamed_name t.name (number_of 0 ds)) && nat_le 1 (number_of 0 ds) && nat_le (number_of 0 ds) t.count) (item t.name (number_of 0 ds)))
        ≡ option_map (item t.name) (when (same_text a (unnamed_name t.name k) && nat_le 1 k && nat_le k t.count) k)
    go None e = cc
    go (Some ds) e = inner (are_digits ds) ds refl e

pub unnamed_none : (t : meaning.TypeEntry) (p a : Text) → p ≡ t.name ++ codes "_" → None ≡ and_then (after_prefix p a) (small_number t.count) → unnamed_item t a ≡ None
unnamed_none t p a is e = go (after_prefix (t.name ++ codes "_") a) (e ∙ ap (λ q. and_then (after_prefix q a) (small_number t.count)) is)
  where
    last : (s l c : Bool) (n : ℕ) (v : Value) → None ≡ when c n → when (s && l && c) v ≡ None
    last true true true n v e = cc
    last true true false n v e = refl
    last true false c n v e = refl
    last false l c n v e = refl

    inner : (b : Bool) (ds : Text) → None ≡ when (b && nat_le (number_of 0 ds) t.count) (number_of 0 ds)
        → when (b && same_text a (unnamed_name t.name (number_of 0 ds)) && nat_le 1 (number_of 0 ds) && nat_le (number_of 0 ds) t.count) (item t.name (number_of 0 ds)) ≡ None
    inner true ds e = last (same_text a (unnamed_name t.name (number_of 0 ds))) (nat_le 1 (number_of 0 ds)) (nat_le (number_of 0 ds) t.count) (number_of 0 ds) (item t.name (number_of 0 ds)) e
    inner false ds e = refl

    go : (o : Option Text) → None ≡ and_then o (small_number t.count)
        → and_then o (λ ds. when (are_digits ds && same_text a (unnamed_name t.name (number_of 0 ds)) && nat_le 1 (number_of 0 ds) && nat_le (number_of 0 ds) t.count) (item t.name (number_of 0 ds))) ≡ None
    go None e = refl
    go (Some ds) e = inner (are_digits ds) ds e

-- ---- a value of an enumerated type

pub listed_found : (t : Text) (ns : List Text) (i : ℕ) (n a : Text) → i < length ns → n ≡ get_or ns i n → same_text n a ≡ true → named_item t (suc i) (drop i ns) a ≡ Some (item t (i + 1))
listed_found t ns i n a h is e =
    at_drop_more (λ l. named_item t (suc i) l a) ns i n h ∙ ap (λ x. named_item t (suc i) (x ∷ drop (i + 1) ns) a) (sym is)
    ∙ ap (λ b. if b then Some (item t (suc i)) else named_item t (suc (suc i)) (drop (i + 1) ns) a) e ∙ ap (λ k. Some (item t k)) (omega arith)

pub listed_next : (t : Text) (ns : List Text) (i : ℕ) (n a : Text) → i < length ns → n ≡ get_or ns i n → same_text n a ≡ false
    → named_item t (suc i) (drop i ns) a ≡ named_item t (suc (i + 1)) (drop (i + 1) ns) a
listed_next t ns i n a h is e =
    at_drop_more (λ l. named_item t (suc i) l a) ns i n h ∙ ap (λ x. named_item t (suc i) (x ∷ drop (i + 1) ns) a) (sym is)
    ∙ ap (λ b. if b then Some (item t (suc i)) else named_item t (suc (suc i)) (drop (i + 1) ns) a) e ∙ ap (λ k. named_item t k (drop (i + 1) ns) a) (omega arith)

-- ---- the last type that has the name

entries_more : (ts : List TypeEntry) (i : ℕ) (e : TypeEntry) → i < length ts → e ≡ get_or ts i e → pure_type_entries (take (i + 1) ts) ≡ pure_type_entry e ∷ pure_type_entries (take i ts)
entries_more ts i e h is =
    ap pure_type_entries (take_more ts i e h) ∙ ap (λ x. pure_type_entries (take i ts ++ x ∷ [])) (sym is) ∙ ap (map pure_type_entry) (reverse-append (take i ts) (e ∷ []))

pub newer_item : (ts : List TypeEntry) (i : ℕ) (e : TypeEntry) (a : Text) (k : ℕ) → i < length ts → e ≡ get_or ts i e → Some (item e.name k) ≡ item_of_entry (pure_type_entry e) a
    → typed_item (item_of_name (pure_type_entries (take (i + 1) ts)) a) ≡ Some (named_ty e.name, item e.name k)
newer_item ts i e a k h is found =
    ap (λ l. typed_item (item_of_name l a)) (entries_more ts i e h is)
    ∙ ap (λ o. typed_item (or_else o (item_of_name (pure_type_entries (take i ts)) a))) (sym found)

pub no_newer_item : (ts : List TypeEntry) (i : ℕ) (e : TypeEntry) (a : Text) → i < length ts → e ≡ get_or ts i e → None ≡ item_of_entry (pure_type_entry e) a
    → typed_item (item_of_name (pure_type_entries (take (i + 1) ts)) a) ≡ typed_item (item_of_name (pure_type_entries (take i ts)) a)
no_newer_item ts i e a h is none =
    ap (λ l. typed_item (item_of_name l a)) (entries_more ts i e h is)
    ∙ ap (λ o. typed_item (or_else o (item_of_name (pure_type_entries (take i ts)) a))) (sym none)
