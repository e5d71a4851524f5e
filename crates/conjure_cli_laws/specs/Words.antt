-- The words of Essence that are no names: those that the language reserves, and those of the language
-- that this tool doesn't read.
use Rattle.std.specs.Prelude.{ℕ, Bool, List, [], ◌∷◌, ◌++◌, codes, bytes_eq}
use Rattle.std.specs.List.{list_any}

-- whether the name is among the names
abbrev pub is_among : List (List ℕ) → List ℕ → Bool
is_among names name = list_any (λ known. bytes_eq known name) names

-- words that begin statements, domains and expressions
abbrev pub statement_words : List (List ℕ)
statement_words =
    codes "language" ∷ codes "given" ∷ codes "find" ∷ codes "letting" ∷ codes "be" ∷ codes "new" ∷ codes "type" ∷ codes "enum" ∷
    codes "domain" ∷ codes "of" ∷ codes "where" ∷ codes "such" ∷ codes "that" ∷ codes "minimising" ∷ codes "maximising" ∷ []

abbrev pub domain_words : List (List ℕ)
domain_words =
    codes "bool" ∷ codes "int" ∷ codes "tuple" ∷ codes "record" ∷ codes "matrix" ∷ codes "indexed" ∷ codes "by" ∷ codes "set" ∷
    codes "mset" ∷ codes "function" ∷ codes "relation" ∷ codes "partition" ∷ codes "from" ∷ []

abbrev pub expression_words : List (List ℕ)
expression_words =
    codes "true" ∷ codes "false" ∷ codes "forAll" ∷ codes "exists" ∷ codes "sum" ∷ codes "product" ∷ codes "and" ∷ codes "or" ∷
    codes "min" ∷ codes "max" ∷ codes "allDiff" ∷ codes "in" ∷ codes "subset" ∷ codes "subsetEq" ∷ codes "supset" ∷ codes "supsetEq" ∷
    codes "union" ∷ codes "intersect" ∷ codes "toInt" ∷ codes "image" ∷ codes "preImage" ∷ codes "defined" ∷ codes "range" ∷
    codes "toSet" ∷ codes "toMSet" ∷ codes "toRelation" ∷ codes "freq" ∷ codes "parts" ∷ codes "party" ∷ codes "participants" ∷
    codes "together" ∷ []

-- words of the language that this tool doesn't read
abbrev pub words_outside : List (List ℕ)
words_outside =
    codes "variant" ∷ codes "permutation" ∷ codes "sequence" ∷ codes "powerSet" ∷ codes "hist" ∷ codes "table" ∷ codes "factorial" ∷
    codes "catchUndef" ∷ codes "branching" ∷ codes "heuristic" ∷ codes "dim" ∷ codes "apart" ∷ codes "flatten" ∷ codes "concatenate" ∷
    codes "subsequence" ∷ codes "substring" ∷ codes "inverse" ∷ codes "restrict" ∷ codes "pred" ∷ codes "succ" ∷ codes "gcc" ∷
    codes "atleast" ∷ codes "atmost" ∷ codes "alldifferent_except" ∷ codes "imageSet" ∷ codes "active" ∷ codes "connex" ∷
    codes "Euclidean" ∷ codes "serial" ∷ codes "equivalence" ∷ codes "partialOrder" ∷ []

unfoldable pub language_words : List (List ℕ)
language_words = statement_words ++ domain_words ++ expression_words ++ words_outside
