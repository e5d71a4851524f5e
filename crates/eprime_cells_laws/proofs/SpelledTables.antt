-- The value of a table has a literal, where its numbers lie in 64 bits.
use Rattle.std.proofs.Common.{◌≡◌, refl, ℕ, zero, suc, Bool, true, false, List, [], ◌∷◌, map, drop, ℤ, pos, negsuc}
use Rattle.std.specs.List.{list_all}
use Rattle.std.proofs.lemmas.Bool.{and_parts, and_from}
use Rattle.ess_semantics.specs.Values.{Value, number, of_list, itself}
use Rattle.ess_semantics.specs.Collections.{rises}
use Rattle.ess_semantics.specs.Large.{in_64_bits}
use Rattle.ess_semantics.specs.Tables.{volume}
use Rattle.ess_semantics.specs.Meaning.{cell_value}
use Rattle.ess_print_laws.specs.Spelled.{is_spelled_number, are_spelled_numbers, is_spelled, are_spelled}
use Rattle.eprime_cells_laws.specs.CellsText.{first_item, rows_from, table_value, no_names}
use Rattle.eprime_cells_laws.specs.Laws.{is_plain_axis}

number-spelled : (n : ℤ) → in_64_bits n ≡ true → is_spelled_number n ≡ true
number-spelled (pos n) h = h
number-spelled (negsuc n) h = h

numbers-spelled : (ns : List ℤ) → list_all in_64_bits ns ≡ true → are_spelled_numbers (of_list (map number ns)) ≡ true
numbers-spelled [] h = refl
numbers-spelled (n ∷ ns) h =
    let parts = and_parts (in_64_bits n) (list_all in_64_bits ns) h in
    and_from (is_spelled_number n) (are_spelled_numbers (of_list (map number ns))) (number-spelled n parts.0) (numbers-spelled ns parts.1)

cell-spelled : (b : Bool) (n : ℤ) → in_64_bits n ≡ true → is_spelled no_names (cell_value b n) ≡ true
cell-spelled true n h = refl
cell-spelled false n h = number-spelled n h

first-fits : (is : List ℤ) → list_all in_64_bits is ≡ true → in_64_bits (first_item is) ≡ true
first-fits [] h = refl
first-fits (n ∷ is) h = (and_parts (in_64_bits n) (list_all in_64_bits is) h).0

drop-fits : (v : ℕ) (is : List ℤ) → list_all in_64_bits is ≡ true → list_all in_64_bits (drop v is) ≡ true
drop-fits zero is h = h
drop-fits (suc v) [] h = h
drop-fits (suc v) (n ∷ is) h = drop-fits v is (and_parts (in_64_bits n) (list_all in_64_bits is) h).1

-- What is spelled at all items that fit, is spelled at each row of such items.
rows-spelled : (f : List ℤ → Value) → ((is : List ℤ) → list_all in_64_bits is ≡ true → is_spelled no_names (f is) ≡ true) →
    (a : List ℤ) (v : ℕ) (is : List ℤ) → list_all in_64_bits is ≡ true → are_spelled no_names (of_list (map f (rows_from a v is))) ≡ true
rows-spelled f p [] v is h = refl
rows-spelled f p (x ∷ xs) v is h =
    and_from (is_spelled no_names (f is)) (are_spelled no_names (of_list (map f (rows_from xs v (drop v is))))) (p is h)
    (rows-spelled f p xs v (drop v is) (drop-fits v is h))

-- The value of a table is spelled.
pub table-spelled : (b : Bool) (as' : List (List ℤ)) → list_all is_plain_axis as' ≡ true → (is : List ℤ) → list_all in_64_bits is ≡ true →
    is_spelled no_names (table_value b as' is) ≡ true
table-spelled b [] h is k = cell-spelled b (first_item is) (first-fits is k)
table-spelled b ([] ∷ as') h is k = refl
table-spelled b ((x ∷ xs) ∷ as') h is k =
    let parts = and_parts (is_plain_axis (x ∷ xs)) (list_all is_plain_axis as') h in
    let axis = and_parts (rises itself (map number (x ∷ xs))) (list_all in_64_bits (x ∷ xs)) parts.0 in
    and_from (are_spelled_numbers (of_list (map number (x ∷ xs)))) _ (numbers-spelled (x ∷ xs) axis.1)
    (rows-spelled (table_value b as') (table-spelled b as' parts.1) (x ∷ xs) (volume as') is k)
