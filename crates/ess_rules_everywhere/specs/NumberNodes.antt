-- Operators on numbers that are there everywhere.
use Rattle.std.specs.Prelude.{Bool, true, false, ◌&&◌}
use Rattle.ess_semantics.specs.declared.words.Op1.{Op1}
use Rattle.ess_semantics.specs.declared.words.Op2.{Op2}
use Rattle.ess_semantics.specs.declared.words.Fun.{Fun}
use Rattle.ess_semantics.specs.Trees.{Op, unary, binary, word, Ex, Exs, node_ex, no_exs, more_exs, ex2}
use Rattle.ess_refine_laws.specs.Everywhere.{everywhere_list, divisor, raised, extreme}

-- Whether there is one operand.
abbrev pub has_one : Exs → Bool
has_one (more_exs a no_exs) = true
has_one es = false

-- Whether there are two.
abbrev pub has_two : Exs → Bool
has_two (more_exs a (more_exs b no_exs)) = true
has_two es = false

-- Whether the sign is between numbers and gives a number.
abbrev pub is_number_sign : Op2 → Bool
is_number_sign Op2.Plus = true
is_number_sign Op2.Minus = true
is_number_sign Op2.Times = true
is_number_sign Op2.Div = true
is_number_sign Op2.Mod = true
is_number_sign Op2.Pow = true
is_number_sign o = false

-- Whether the word folds numbers, or picks the least or the greatest.
abbrev pub is_number_fold : Fun → Bool
is_number_fold Fun.Sum = true
is_number_fold Fun.Product = true
is_number_fold Fun.Min = true
is_number_fold Fun.Max = true
is_number_fold f = false

-- Whether the operator gives a number of as many numbers as it has operands.
abbrev pub is_number_op : Op → Exs → Bool
is_number_op (unary Op1.Minus) es = has_one es
is_number_op (unary Op1.Bar) es = has_one es
is_number_op (binary o) es = is_number_sign o && has_two es
is_number_op op es = false

-- Whether it gives a number of one list of numbers.
abbrev pub is_fold_op : Op → Exs → Bool
is_fold_op (word f) es = is_number_fold f && has_one es
is_fold_op op es = false

-- A quotient whose divisor isn't 0.
abbrev pub quotient : Op2 → Exs → Ex
quotient o (more_exs a (more_exs b no_exs)) = ex2 false o a (divisor b)
quotient o es = node_ex false (binary o) es

-- A power that is there.
abbrev pub power : Exs → Ex
power (more_exs a (more_exs b no_exs)) = raised a b
power es = node_ex false (binary Op2.Pow) es

-- The operator on numbers that are there everywhere, there everywhere itself.
abbrev pub guarded_op : Op → Exs → Ex
guarded_op (binary Op2.Div) es = quotient Op2.Div es
guarded_op (binary Op2.Mod) es = quotient Op2.Mod es
guarded_op (binary Op2.Pow) es = power es
guarded_op op es = node_ex false op es

-- The least or the greatest of a list that may be empty.
abbrev pub extreme_item : Fun → Exs → Ex
extreme_item f (more_exs l no_exs) = extreme f l
extreme_item f es = node_ex false (word f) es

-- The word of a list of numbers that are there everywhere, there everywhere itself.
abbrev pub folded_op : Op → Exs → Ex
folded_op (word Fun.Min) es = extreme_item Fun.Min es
folded_op (word Fun.Max) es = extreme_item Fun.Max es
folded_op op es = node_ex false op es

-- Several lists whose numbers are there everywhere.
abbrev pub everywhere_lists : Exs → Exs
everywhere_lists no_exs = no_exs
everywhere_lists (more_exs e es) = more_exs (everywhere_list e) (everywhere_lists es)
