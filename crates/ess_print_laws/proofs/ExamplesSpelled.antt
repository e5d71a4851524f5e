-- Which values are spelled.
use Rattle.std.specs.Prelude.{ℕ, ◌^◌, ◌-◌, ◌≡◌, refl, true, false, [], ◌∷◌, pos, negsuc, codes}
use Rattle.ess_semantics.specs.Values.{Text, a_set, a_function, a_record, number, truth, item, node, nil, cons, tuple, pair, matrix}
use Rattle.ess_print_laws.specs.Spelled.{is_spelled}

abbrev named : Text → ℕ → Text
named t k = t

-- [true, false; int(1..2)], a record, a function and a value of a named type
matrices : is_spelled named (matrix (cons (number (pos 1)) (cons (number (pos 2)) nil)) (cons (truth true) (cons (truth false) nil))) ≡ true
matrices = refl

records : is_spelled named (node (a_record (codes "a" ∷ [])) (cons (node a_set nil) nil)) ≡ true
records = refl

functions : is_spelled named (node a_function (cons (pair (number (pos 1)) (item (codes "E") 1)) nil)) ≡ true
functions = refl

-- a number up to 2^63 - 1 and its opposite, and none beyond
largest : is_spelled named (number (pos (2 ^ 63 - 1))) ≡ true
largest = refl

least : is_spelled named (number (negsuc (2 ^ 63 - 2))) ≡ true
least = refl

below_least : is_spelled named (number (negsuc (2 ^ 63 - 1))) ≡ false
below_least = refl

-- no text has a tuple without parts, a matrix with items and no indices, or a word as a name
empty_tuples : is_spelled named (tuple nil) ≡ false
empty_tuples = refl

no_indices : is_spelled named (matrix nil (cons (truth true) nil)) ≡ false
no_indices = refl

words : is_spelled named (item (codes "set") 1) ≡ false
words = refl
