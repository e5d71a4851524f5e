-- The small grammar: the texts that this tool reads so far, and what they say. A text is its bytes.
use Rattle.std.specs.Prelude.{◌≡◌, ℕ, ◌+◌, ◌-◌, ◌*◌, ◌^◌, Bool, true, false, not, ◌&&◌, ◌||◌, List, [], ◌∷◌, ◌++◌, codes, if◌then◌else◌, ◌==◌, nat_le}
use Rattle.std.specs.List.{list_all, concat}
use Rattle.conjure_cli_laws.specs.Words.{is_among, language_words}

-- What a line says: a set of numbers from low to high is to be found under the name, or the number is
-- a member of the set of that name.
pub data Statement : Type 0 where
  find : (name : List ℕ) → (low high : ℕ) → Statement
  such_that : (number : ℕ) → (name : List ℕ) → Statement

-- ASCII letters and digits
abbrev pub is_letter : ℕ → Bool
is_letter b = (nat_le 65 b && nat_le b 90) || (nat_le 97 b && nat_le b 122)

abbrev pub is_digit : ℕ → Bool
is_digit b = nat_le 48 b && nat_le b 57

abbrev pub is_name_byte : ℕ → Bool
is_name_byte b = is_letter b || is_digit b

-- A name is a letter, then letters and digits, and no word of the language.
abbrev pub is_name : List ℕ → Bool
is_name [] = false
is_name (first ∷ rest) = (is_letter first && list_all is_name_byte rest) && not (is_among language_words (first ∷ rest))

-- the number that decimal digits stand for behind a front that stands for the number given
abbrev pub value_from : ℕ → List ℕ → ℕ
value_from front [] = front
value_from front (d ∷ digits) = value_from (10 * front + (d - 48)) digits

-- A number is one digit or more, of a value below 2 ^ 63.
abbrev pub is_number : List ℕ → Bool
is_number [] = false
is_number (d ∷ digits) = list_all is_digit (d ∷ digits) && not (nat_le (2 ^ 63) (value_from 0 (d ∷ digits)))

-- the digits are those of a number, and the number is n
pub record IsNumeral (digits : List ℕ) (n : ℕ) : Type 0 where
  pub number : is_number digits ≡ true
  pub value : n ≡ value_from 0 digits

-- `find NAME : set of int(LOW..HIGH)`, with single spaces as shown
pub record SaysFind (line name : List ℕ) (low high : ℕ) : Type 0 where
  pub lows : List ℕ
  pub highs : List ℕ
  pub named : is_name name ≡ true
  pub lowest : IsNumeral lows low
  pub highest : IsNumeral highs high
  pub pieces : line ≡ concat (codes "find " ∷ name ∷ codes " : set of int(" ∷ lows ∷ codes ".." ∷ highs ∷ codes ")" ∷ [])

-- `such that NUMBER in NAME`, with single spaces as shown
pub record SaysSuchThat (line : List ℕ) (number : ℕ) (name : List ℕ) : Type 0 where
  pub digits : List ℕ
  pub numeral : IsNumeral digits number
  pub named : is_name name ≡ true
  pub pieces : line ≡ concat (codes "such that " ∷ digits ∷ codes " in " ∷ name ∷ [])

-- The line says the statement.
abbrev pub Says : List ℕ → Statement → Type 0
Says line (find name low high) = SaysFind line name low high
Says line (such_that number name) = SaysSuchThat line number name

-- The lines of a text: each is ended by a line feed, which the last may lack.
abbrev pub onto_first_line : ℕ → List (List ℕ) → List (List ℕ)
onto_first_line b [] = (b ∷ []) ∷ []
onto_first_line b (line ∷ lines) = (b ∷ line) ∷ lines

abbrev pub lines_of : List ℕ → List (List ℕ)
lines_of [] = []
lines_of (b ∷ text) = if b == 10 then [] ∷ lines_of text else onto_first_line b (lines_of text)

-- each line says the statement at its place, and there are as many of both
abbrev pub SayEach : List (List ℕ) → List Statement → Type 0
SayEach [] [] = Unit {0}
SayEach [] (statement ∷ statements) = ⊥
SayEach (line ∷ lines) [] = ⊥
SayEach (line ∷ lines) (statement ∷ statements) = Says line statement × SayEach lines statements

-- what f gives of each statement of a kind, in order
abbrev pub each_find : {A : Type 0} → (List ℕ → ℕ → ℕ → A) → List Statement → List A
each_find f [] = []
each_find f (find name low high ∷ more) = f name low high ∷ each_find f more
each_find f (such_that number name ∷ more) = each_find f more

abbrev pub each_constraint : {A : Type 0} → (ℕ → List ℕ → A) → List Statement → List A
each_constraint f [] = []
each_constraint f (find name low high ∷ more) = each_constraint f more
each_constraint f (such_that number name ∷ more) = f number name ∷ each_constraint f more

-- the names of the sets that are to be found
abbrev pub found_names : List Statement → List (List ℕ)
found_names = each_find (λ name low high. name)

-- A set is found under a new name, and a constraint speaks of a name that is found before it.
abbrev pub fits_after : List (List ℕ) → Statement → Bool
fits_after known (find name low high) = not (is_among known name)
fits_after known (such_that number name) = is_among known name

-- each statement fits after the names that are found before it
abbrev pub AreWellNamed : List Statement → Type 0
AreWellNamed statements = (before : List Statement) (statement : Statement) (after : List Statement)
    → statements ≡ before ++ statement ∷ after → fits_after (found_names before) statement ≡ true

-- The text is one of the small grammar, and says these statements.
pub record Reads (text : List ℕ) (statements : List Statement) : Type 0 where
  pub lines : SayEach (lines_of text) statements
  pub names : AreWellNamed statements

-- the text is one of the small grammar
abbrev pub IsInSmallGrammar : List ℕ → Type 0
IsInSmallGrammar text = (statements : List Statement) × Reads text statements
