-- The specification of the self-test with the number N, and its parameter: K sets, each with a function that has one value at exactly
-- the members of the set.
use Rattle.std.specs.Prelude.{ℕ, zero, suc, ◌+◌, ◌*◌, ◌%◌, ◌==◌, Bool, [], ◌++◌, codes, decimal}
use Rattle.ess_semantics.specs.Values.{Text}

-- How many sets there are, and functions.
abbrev pub pairs : ℕ → ℕ
pairs N = 1 + N % 100

-- The value of the j-th function at each of its arguments.
abbrev pub value : ℕ → ℕ → ℕ
value N j = (N + j) % 10

-- Whether i is a member of the j-th set in the solution.
abbrev pub is_member : ℕ → ℕ → ℕ → Bool
is_member N j i = (N + j * i) % 3 == 0

-- The texts of the numbers from 1 to k, one after another.
abbrev pub upto : (ℕ → Text) → ℕ → Text
upto f zero = []
upto f (suc k) = upto f k ++ f (suc k)

-- A number between two texts.
abbrev pub numbered : Text → ℕ → Text → Text
numbered a n b = a ++ decimal n ++ b

-- The line of the j-th set.
abbrev pub set_line : ℕ → Text
set_line j = numbered (codes "find s") j (codes " : set of int(1..n)\n")

-- The line of the j-th function.
abbrev pub function_line : ℕ → Text
function_line j = numbered (codes "find f") j (codes " : function int(1..n) --> int(0..9)\n")

-- The line that says that the j-th function has the value v at the members of the j-th set.
abbrev pub constraint_line : ℕ → ℕ → Text
constraint_line j v =
    numbered (codes "such that forAll i in s") j (codes " . f") ++ numbered [] j (codes "(i) = ") ++ numbered [] v (codes "\n")

-- The lines of the j-th set, its function, and the constraint on both.
abbrev pub pair_lines : ℕ → ℕ → Text
pair_lines N j = set_line j ++ function_line j ++ constraint_line j (value N j)

-- The text of the specification.
abbrev pub specification_text : ℕ → Text
specification_text N = codes "language Essence 1.3\ngiven n : int(1..)\n" ++ upto (pair_lines N) (pairs N)

-- The text of the parameter.
abbrev pub parameter_text : Text
parameter_text = codes "letting n be 20\n"
