-- Worked examples: conditions that have to leave a list, and that wait for those of the parts.
use Rattle.std.proofs.Common.{◌≡◌, refl, true, false, [], ◌∷◌, codes}
use Rattle.ess_semantics.specs.declared.words.Fun.{Fun}
use Rattle.ess_semantics.specs.declared.words.Op2.{Op2}
use Rattle.ess_semantics.specs.declared.words.ReprKind.{ReprKind}
use Rattle.ess_semantics.specs.Values.{Text}
use Rattle.ess_semantics.specs.Trees.{name_pat, repr, no_reprs, Ex, truth_ex, comp_ex, matrix_ex, cell_ex, seen_ex, no_exs, Gens, no_gens, over, from, cond, bool_dom}
use Rattle.ess_semantics.proofs.Shorthands.{N, n, es1, es2, bi, fn, fn2, range, upto}
use Rattle.ess_rules.specs.WaitingConditions.{says_there, has_leaving, is_open, has_open, gens_have_open, has_open_parts, may_leave}

abbrev f : Text
f = codes "f"

abbrev j : Text
j = codes "j"

-- The cell `f[j]`.
abbrev flag : Ex
flag = cell_ex true f (es1 (N j))

-- `j : int(1..3)` before others.
abbrev numbers : Gens → Gens
numbers gs = over (name_pat j) (upto 3) gs

-- `sum([e | j : int(1..3), c])`.
abbrev sum_where : Ex → Ex → Ex
sum_where e c = fn Fun.Sum (comp_ex e (numbers (cond c no_gens)))

-- `sum([j | j : int(1..3), f[j]])`.
abbrev chosen_sum : Ex
chosen_sum = sum_where (N j) flag

-- `or([true | j : int(1..k)])`, where k is the cell `k[]`: it reads a cell, by its bound.
abbrev some_number : Ex
some_number = fn Fun.Or (comp_ex (truth_ex true) (over (name_pat j) (range (n 1) (cell_ex false (codes "k") no_exs)) no_gens))

-- A condition that reads a cell has to leave, one that reads none doesn't.
reads_a_cell : (is_open chosen_sum ≡ true) × (is_open (sum_where (N j) (bi Op2.Lt (N j) (n 2))) ≡ false)
reads_a_cell = (refl, refl)

-- Only a word's list counts, and only where it stands first.
of_a_word : (is_open (comp_ex (N j) (cond flag no_gens)) ≡ false)
    × (is_open (bi Op2.Plus (comp_ex (N j) (cond flag no_gens)) (n 1)) ≡ false)
    × (is_open (fn2 Fun.Min (n 1) (comp_ex (N j) (cond flag no_gens))) ≡ false)
of_a_word = (refl, refl, refl)

-- `or([true | gs])` says that there is a binding, `or([false | gs])` and `and([true | gs])` don't.
there : (says_there some_number ≡ true) × (says_there (fn Fun.Or (comp_ex (truth_ex false) no_gens)) ≡ false)
    × (says_there (fn Fun.And (comp_ex (truth_ex true) no_gens)) ≡ false)
there = (refl, refl, refl)

-- Such a one may stay where it is the only one that reads a cell; it has to leave where another one stands before it.
may_stay : (has_leaving (numbers (cond some_number no_gens)) ≡ false) × (has_leaving (cond flag (cond some_number no_gens)) ≡ true)
    × (has_leaving (cond some_number (cond flag no_gens)) ≡ true) × (has_leaving (cond some_number (cond some_number no_gens)) ≡ true)
may_stay = (refl, refl, refl, refl)

-- The inner list comes first: the outer one waits for it, whether it stands in the body, in a source or in a condition.
inner_first : (may_leave chosen_sum ≡ true) × (may_leave (sum_where chosen_sum flag) ≡ false)
    × (may_leave (fn Fun.Sum (comp_ex (N j) (from (name_pat j) chosen_sum (cond flag no_gens)))) ≡ false)
    × (may_leave (sum_where (N j) (bi Op2.Lt chosen_sum (n 2))) ≡ false)
inner_first = (refl, refl, refl, refl)

-- A part is found in operands, items, indices and lists that stand alone.
found_in : (has_open (bi Op2.Plus (n 1) chosen_sum) ≡ true) × (has_open (matrix_ex (es2 (n 1) chosen_sum) bool_dom) ≡ true)
    × (has_open (cell_ex true f (es1 chosen_sum)) ≡ true) × (has_open (comp_ex chosen_sum no_gens) ≡ true)
found_in = (refl, refl, refl, refl)

-- It is not looked for in domains and in views.
not_found_in : (gens_have_open (over (name_pat j) (range (n 1) chosen_sum) no_gens) ≡ false)
    × (has_open (matrix_ex (es1 (n 1)) (range (n 1) chosen_sum)) ≡ false)
    × (has_open (seen_ex (repr ReprKind.Occurrence no_reprs) bool_dom (f ∷ []) (es1 chosen_sum)) ≡ false)
not_found_in = (refl, refl, refl)

-- Of another root than a word's list no parts are looked at.
no_list : has_open_parts (bi Op2.Plus (n 1) chosen_sum) ≡ false
no_list = refl
