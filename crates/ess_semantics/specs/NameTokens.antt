-- Names as a text spells them (Essence, Constraints 13, 2008): letters, digits and `_`, but none of the reserved words and
-- none of the words of the whole language that stand outside the subset. Numbers are spelled in digits.
use Rattle.std.specs.Prelude.{ℕ, ◌+◌, ◌-◌, ◌*◌, Bool, false, ◌&&◌, ◌||◌, not, List, [], ◌∷◌, nat_eq, codes}
use Rattle.std.specs.Char.{is_ascii_digit, is_ascii_alphabetic}
use Rattle.std.specs.List.{list_all}
use Rattle.ess_semantics.specs.Values.{Text}
use Rattle.ess_semantics.specs.Names.{is_among}

-- A digit of ASCII.
abbrev pub is_digit : ℕ → Bool
is_digit = is_ascii_digit

-- One or more digits.
abbrev pub are_digits : Text → Bool
are_digits [] = false
are_digits (b ∷ bs) = list_all is_digit (b ∷ bs)

-- The value of the digits, behind digits of the value `high`.
abbrev pub value_after : ℕ → Text → ℕ
value_after high [] = high
value_after high (b ∷ bs) = value_after (10 * high + (b - 48)) bs

-- A letter of ASCII or `_`.
abbrev pub is_letter : ℕ → Bool
is_letter b = is_ascii_alphabetic b || nat_eq b 95

-- What may stand in a name behind its first byte.
abbrev pub is_name_byte : ℕ → Bool
is_name_byte b = is_letter b || is_digit b

-- A letter or `_`, then letters, digits or `_`.
abbrev pub is_name : Text → Bool
is_name [] = false
is_name (b ∷ bs) = is_letter b && list_all is_name_byte bs

-- The reserved words.
abbrev pub reserved : List Text
reserved =
    codes "language" ∷ codes "given" ∷ codes "find" ∷ codes "letting" ∷ codes "be" ∷ codes "new" ∷ codes "type" ∷ codes "enum" ∷
    codes "domain" ∷ codes "of" ∷ codes "where" ∷ codes "such" ∷ codes "that" ∷ codes "minimising" ∷ codes "maximising" ∷ codes "bool" ∷
    codes "int" ∷ codes "tuple" ∷ codes "record" ∷ codes "matrix" ∷ codes "indexed" ∷ codes "by" ∷ codes "set" ∷ codes "mset" ∷
    codes "function" ∷ codes "relation" ∷ codes "partition" ∷ codes "from" ∷ codes "true" ∷ codes "false" ∷ codes "forAll" ∷
    codes "exists" ∷ codes "sum" ∷ codes "product" ∷ codes "and" ∷ codes "or" ∷ codes "min" ∷ codes "max" ∷ codes "allDiff" ∷
    codes "toInt" ∷ codes "image" ∷ codes "preImage" ∷ codes "defined" ∷ codes "range" ∷ codes "toSet" ∷ codes "toMSet" ∷
    codes "toRelation" ∷ codes "freq" ∷ codes "parts" ∷ codes "party" ∷ codes "participants" ∷ codes "together" ∷ codes "in" ∷
    codes "subset" ∷ codes "subsetEq" ∷ codes "supset" ∷ codes "supsetEq" ∷ codes "union" ∷ codes "intersect" ∷ []

-- The words of the whole language that stand outside the subset.
abbrev pub outside : List Text
outside =
    codes "variant" ∷ codes "permutation" ∷ codes "sequence" ∷ codes "powerSet" ∷ codes "hist" ∷ codes "table" ∷ codes "factorial" ∷
    codes "catchUndef" ∷ codes "branching" ∷ codes "heuristic" ∷ codes "dim" ∷ codes "apart" ∷ codes "flatten" ∷ codes "concatenate" ∷
    codes "subsequence" ∷ codes "substring" ∷ codes "inverse" ∷ codes "restrict" ∷ codes "pred" ∷ codes "succ" ∷ codes "gcc" ∷
    codes "atleast" ∷ codes "atmost" ∷ codes "alldifferent_except" ∷ codes "imageSet" ∷ codes "active" ∷ codes "connex" ∷
    codes "Euclidean" ∷ codes "serial" ∷ codes "equivalence" ∷ codes "partialOrder" ∷ []

-- A name that a text can spell.
abbrev pub is_name_token : Text → Bool
is_name_token a = is_name a && (not (is_among reserved a) && not (is_among outside a))

-- Whether all are.
abbrev pub are_name_tokens : List Text → Bool
are_name_tokens ns = list_all is_name_token ns
