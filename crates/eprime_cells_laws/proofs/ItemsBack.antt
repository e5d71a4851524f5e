-- The literal of a table stands for the table's items, over its axes.
use Rattle.std.proofs.Common.{◌≡◌, refl, sym, ap, ◌∙◌, subst, ℕ, zero, suc, ◌+◌, ◌*◌, ◌≤◌, Bool, true, false, ◌&&◌, ◌||◌, List, [], ◌∷◌, ◌++◌, map, length, take, drop, ℤ, pos, Option, Some, None, option_map, nat_eq, arith}
use Rattle.std.specs.List.{list_all}
use Rattle.std.proofs.lemmas.Bool.{and_parts}
use Rattle.std.proofs.lemmas.Bool.Decides.{nat_tests}
use Rattle.ess_semantics.specs.Lists.{and_then, when, is_some_and, each_of, append_all}
use Rattle.ess_semantics.specs.Values.{Value, number, of_list, itself, matrix}
use Rattle.ess_semantics.specs.Order.{same_int, same_ints}
use Rattle.ess_semantics.specs.Collections.{rises}
use Rattle.ess_semantics.specs.Large.{in_64_bits}
use Rattle.ess_semantics.specs.Trees.{Ex}
use Rattle.ess_semantics.specs.Domains.{booleans}
use Rattle.ess_semantics.specs.Meaning.{meaning, empty_env, cell_value}
use Rattle.ess_semantics.specs.Tables.{volume, code, is_cell}
use Rattle.ess_semantics.proofs.Orders.{same_int-equal, same_ints-itself}
use Rattle.ess_grammar.specs.ValueTexts.{literal_of, literals_of, index_literal}
use Rattle.ess_values_laws.proofs.IntervalRuns.{AllNumbers, number-means}
use Rattle.ess_values_laws.proofs.IndexDomains.{numbers-printed}
use Rattle.eprime_cells_laws.specs.TableReading.{item_of_value, exs_list, is_index_of, list_over, items_over}
use Rattle.eprime_cells_laws.specs.CellsText.{rows_from, table_value, no_names}
use Rattle.eprime_cells_laws.specs.Laws.{is_plain_axis}

-- ---- items

-- Where truth values are asked for, each item is one.
abbrev pub ItemsFit : Bool → List ℤ → Type 0
ItemsFit b is = b ≡ true → list_all (is_cell booleans) is ≡ true

truth-back : (n : ℤ) → is_cell booleans n ≡ true → item_of_value true (Some (cell_value true n)) ≡ Some n
truth-back n h = go (same_int n (pos 0)) refl
  where
    go : (i : Bool) → same_int n (pos 0) ≡ i → item_of_value true (Some (cell_value true n)) ≡ Some n
    go true e = let f = same_int-equal n (pos 0) e in subst (λ m. item_of_value true (Some (cell_value true m)) ≡ Some m) (sym f) refl
    go false e =
        let f = same_int-equal n (pos 1) (ap (λ i. i || same_int n (pos 1)) (sym e) ∙ h) in
        subst (λ m. item_of_value true (Some (cell_value true m)) ≡ Some m) (sym f) refl

item-back : (b : Bool) (n : ℤ) → (b ≡ true → is_cell booleans n ≡ true) →
    item_of_value b (meaning (literal_of no_names (cell_value b n)) empty_env) ≡ Some n
item-back true n h = truth-back n (h refl)
item-back false n h = ap (item_of_value false) (number-means n empty_env)

first-fits : (b : Bool) (n : ℤ) (is : List ℤ) → ItemsFit b (n ∷ is) → b ≡ true → is_cell booleans n ≡ true
first-fits b n is h e = (and_parts (is_cell booleans n) (list_all (is_cell booleans) is) (h e)).0

all-behind : (p : ℤ → Bool) (v : ℕ) (is : List ℤ) → list_all p is ≡ true → list_all p (drop v is) ≡ true
all-behind p zero is h = h
all-behind p (suc v) [] h = h
all-behind p (suc v) (n ∷ is) h = all-behind p v is (and_parts (p n) (list_all p is) h).1

-- ---- an index domain

codes-back : (a : List ℤ) → map code (map number a) ≡ a
codes-back [] = refl
codes-back (x ∷ xs) = ap (λ l. x ∷ l) (codes-back xs)

are-numbers : (a : List ℤ) → AllNumbers (map number a)
are-numbers [] = tt
are-numbers (x ∷ xs) = are-numbers xs

index-back : (x : ℤ) (xs : List ℤ) → rises itself (map number (x ∷ xs)) ≡ true →
    is_index_of (x ∷ xs) (index_literal (of_list (map number (x ∷ xs)))) ≡ true
index-back x xs h =
    let found = numbers-printed empty_env x (map number xs) (are-numbers xs) h in
    ap (λ o. is_some_and (option_map (map code) o) (λ is. same_ints is (x ∷ xs))) found.members
    ∙ ap (λ is. same_ints is (x ∷ xs)) (codes-back (x ∷ xs)) ∙ same_ints-itself (x ∷ xs)

-- ---- lists

literals-list : (vs : List Value) → exs_list (literals_of no_names (of_list vs)) ≡ map (literal_of no_names) vs
literals-list [] = refl
literals-list (v ∷ vs) = ap (λ es. literal_of no_names v ∷ es) (literals-list vs)

rows-count : {A : Type 0} (f : List ℤ → A) (a : List ℤ) (v : ℕ) (is : List ℤ) → length (map f (rows_from a v is)) ≡ length a
rows-count f [] v is = refl
rows-count f (x ∷ xs) v is = ap suc (rows-count f xs v (drop v is))

map-map : {A B C : Type 0} (g : B → C) (f : A → B) (xs : List A) → map g (map f xs) ≡ map (λ x. g (f x)) xs
map-map g f [] = refl
map-map g f (x ∷ xs) = ap (λ l. g (f x) ∷ l) (map-map g f xs)

equal-lengths : (n : ℕ) → nat_eq n n ≡ true
equal-lengths n = grind (arith, nat_tests)

take-none : (k : ℕ) → take {A = ℤ} k [] ≡ []
take-none zero = refl
take-none (suc k) = refl

taken : (v m : ℕ) (is : List ℤ) → take v is ++ take m (drop v is) ≡ take (v + m) is
taken zero m is = let e : m ≡ 0 + m = omega arith in ap (λ k. take k is) e
taken (suc v) m [] = take-none m ∙ sym (take-none (suc v + m))
taken (suc v) m (n ∷ is) = let e : suc (v + m) ≡ suc v + m = omega arith in ap (λ l. n ∷ l) (taken v m is) ∙ ap (λ k. take k (n ∷ is)) e

one-more : (y t : List ℤ) (o : Option (List (List ℤ))) → option_map append_all o ≡ Some t →
    option_map append_all (option_map (λ ys. y ∷ ys) o) ≡ Some (y ++ t)
one-more y t None h = cc
one-more y t (Some ys) h = let e : append_all ys ≡ t = cc in ap (λ l. Some (y ++ l)) e

length-behind : (v m : ℕ) (is : List ℤ) → v + m ≤ length is → m ≤ length (drop v is)
length-behind zero m is h = omega (arith, h)
length-behind (suc v) m [] h = absurd (omega (arith, h))
length-behind (suc v) m (n ∷ is) h = length-behind v m is (omega (arith, h))

one_more_row : (n v : ℕ) → v + n * v ≡ suc n * v
one_more_row n v = omega arith

one_row : (n v l : ℕ) → suc n * v ≤ l → v ≤ l
one_row n v l h = omega (arith, h)

first_row : (n v l : ℕ) → suc n * v ≤ l → v + n * v ≤ l
first_row n v l h = omega (arith, h)

-- The rows stand for the items, one behind the other.
rows-back : (b : Bool) (f : List ℤ → Ex) (g : Ex → Option (List ℤ)) (v : ℕ) →
    ((is : List ℤ) → ItemsFit b is → v ≤ length is → g (f is) ≡ Some (take v is)) → (a : List ℤ) (is : List ℤ) → ItemsFit b is →
    length a * v ≤ length is →
    option_map append_all (each_of (map f (rows_from a v is)) g) ≡ Some (take (length a * v) is)
rows-back b f g v p [] is h k = let e : 0 ≡ 0 * v = omega arith in ap (λ n. Some (take n is)) e
rows-back b f g v p (x ∷ xs) is h k =
    ap (λ o. option_map append_all (and_then o (λ y. option_map (λ ys. y ∷ ys) (each_of (map f (rows_from xs v (drop v is))) g))))
    (p is h (one_row (length xs) v (length is) k))
    ∙ one-more (take v is) (take (length xs * v) (drop v is)) (each_of (map f (rows_from xs v (drop v is))) g)
    (rows-back b f g v p xs (drop v is) (λ e. all-behind (is_cell booleans) v is (h e))
    (length-behind v (length xs * v) is (first_row (length xs) v (length is) k)))
    ∙ ap Some (taken v (length xs * v) is) ∙ ap (λ n. Some (take n is)) (one_more_row (length xs) v)

-- ---- tables

list-back : (x : ℤ) (xs : List ℤ) (vs : List Value) (v : Value) → rises itself (map number (x ∷ xs)) ≡ true →
    length (v ∷ vs) ≡ length (x ∷ xs) →
    list_over (x ∷ xs) (literal_of no_names (matrix (of_list (map number (x ∷ xs))) (of_list (v ∷ vs))))
    ≡ Some (map (literal_of no_names) (v ∷ vs))
list-back x xs vs v h k =
    let es = literals_of no_names (of_list (v ∷ vs)) in
    ap (λ b. when (b && nat_eq (length (exs_list es)) (length (x ∷ xs))) (exs_list es)) (index-back x xs h)
    ∙ ap (λ l. when (nat_eq (length l) (length (x ∷ xs))) l) (literals-list (v ∷ vs))
    ∙ ap (λ n. when (nat_eq n (length (x ∷ xs))) (map (literal_of no_names) (v ∷ vs))) (map-length (literal_of no_names) (v ∷ vs) ∙ k)
    ∙ ap (λ b. when b (map (literal_of no_names) (v ∷ vs))) (equal-lengths (length (x ∷ xs)))
  where
    map-length : {A B : Type 0} (f : A → B) (ys : List A) → length (map f ys) ≡ length ys
    map-length f [] = refl
    map-length f (y ∷ ys) = ap suc (map-length f ys)

-- The literal of a table stands for the first items.
pub items-back : (b : Bool) (as' : List (List ℤ)) → list_all is_plain_axis as' ≡ true → (is : List ℤ) → ItemsFit b is →
    volume as' ≤ length is →
    items_over as' b (literal_of no_names (table_value b as' is)) ≡ Some (take (volume as') is)
items-back b [] h [] f k = absurd (omega (arith, k))
items-back b [] h (n ∷ is) f k = ap (option_map (λ n. n ∷ [])) (item-back b n (first-fits b n is f))
items-back b ([] ∷ as') h is f k = let e : 0 ≡ 0 * volume as' = omega arith in ap (λ n. Some (take n is)) e
items-back b ((x ∷ xs) ∷ as') h is f k =
    let parts = and_parts (is_plain_axis (x ∷ xs)) (list_all is_plain_axis as') h in
    let axis = and_parts (rises itself (map number (x ∷ xs))) (list_all in_64_bits (x ∷ xs)) parts.0 in
    let value = table_value b as' in
    let rows = rows_from (x ∷ xs) (volume as') is in
    ap (λ o. and_then o (λ es. option_map append_all (each_of es (items_over as' b))))
    (list-back x xs (map value (rows_from xs (volume as') (drop (volume as') is))) (value is) axis.0
    (rows-count value (x ∷ xs) (volume as') is))
    ∙ ap (λ es. option_map append_all (each_of es (items_over as' b))) (map-map (literal_of no_names) value rows)
    ∙ rows-back b (λ js. literal_of no_names (value js)) (items_over as' b) (volume as') (items-back b as' parts.1) (x ∷ xs) is f k
