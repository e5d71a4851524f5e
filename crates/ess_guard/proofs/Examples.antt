-- Worked examples of generators with what is asked before them.
use Rattle.std.proofs.Common.{◌≡◌, refl, true, false, [], ◌∷◌, pos}
use Rattle.std.specs.Prelude.{codes}
use Rattle.ess_semantics.specs.declared.words.Op2.{Op2}
use Rattle.ess_semantics.specs.declared.words.Fun.{Fun}
use Rattle.ess_semantics.specs.Values.{Text}
use Rattle.ess_semantics.specs.Trees.{name_pat, tuple_pat, no_pats, more_pats}
use Rattle.ess_semantics.specs.Trees.{Ex, number_ex, name_ex, comp_ex, cell_ex, no_exs, more_exs, no_gens, over, from, cond}
use Rattle.ess_semantics.specs.Trees.{Dom, bool_dom, int_dom, both_ends, ex2, fun1}
use Rattle.ess_core.specs.TreeViews.{over_item, from_item, cond_item}
use Rattle.ess_guard_laws.specs.Origins.{runs_over, anywhere}
use Rattle.ess_guard.specs.Steps.{known_by, known_after, step_of, steps_of, items_of, around, around_all}

-- Reserved names.
abbrev q : Text
q = 0 ∷ 1 ∷ []

abbrev r : Text
r = 0 ∷ 2 ∷ []

abbrev i : Text
i = codes "i"

abbrev j : Text
j = codes "j"

abbrev one : Ex
one = number_ex (pos 1)

abbrev two : Ex
two = number_ex (pos 2)

-- The cell c, a number.
abbrev c : Ex
c = cell_ex false (codes "c") no_exs

-- `2 / c`, and its condition.
abbrev quotient : Ex
quotient = ex2 false Op2.Div two c

abbrev not_zero : Ex
not_zero = ex2 true Op2.Ne c (number_ex (pos 0))

-- `int(1..2 / c)`
abbrev up_to_quotient : Dom
up_to_quotient = int_dom (both_ends ∷ []) (more_exs one (more_exs quotient no_exs))

-- `a = b`
abbrev equal : Ex → Ex → Ex
equal a b = ex2 true Op2.Eq a b

-- ---- names behind generators

-- `i : bool` tells the domain, `i <- c` nothing, and neither do the names of a tuple.
known_over : known_by (over_item (name_pat i) bool_dom) [] ≡ (i, runs_over bool_dom) ∷ []
known_over = refl

known_from : known_by (from_item (name_pat i) c) [] ≡ (i, anywhere) ∷ []
known_from = refl

known_tuple : known_by (over_item (tuple_pat (more_pats (name_pat i) (more_pats (name_pat j) no_pats))) bool_dom) []
    ≡ (j, anywhere) ∷ (i, anywhere) ∷ []
known_tuple = refl

known_cond : known_by (cond_item (name_ex i)) [] ≡ []
known_cond = refl

-- The newest comes first.
known_two : known_after (over_item (name_pat i) bool_dom ∷ from_item (name_pat j) c ∷ []) [] ≡ (j, anywhere) ∷ (i, runs_over bool_dom) ∷ []
known_two = refl

-- ---- generators with what is asked before them

-- `i : int(1..2 / c)` asks `c != 0` before it.
step_over : step_of false q r [] (over_item (name_pat i) up_to_quotient) ≡ (over_item (name_pat i) up_to_quotient, not_zero ∷ [])
step_over = refl

-- A condition stands under its own and asks nothing.
step_cond : step_of false q r [] (cond_item (equal quotient one))
    ≡ (cond_item (fun1 true Fun.Or (comp_ex (equal quotient one) (cond not_zero no_gens))), [])
step_cond = refl

-- In a natural place a quotient asks nothing.
step_natural : step_of true q r [] (cond_item (equal quotient one)) ≡ (cond_item (equal quotient one), [])
step_natural = refl

-- Behind `i : int(1..2 / c)` it is known that i is a number: `2 / i` asks `i != 0`, and behind `i <- c` it asks `i + 0 != 0`.
steps_over : steps_of false q r []
    (over_item (name_pat i) bool_dom ∷ over_item (name_pat i) up_to_quotient ∷ from_item (name_pat j) (ex2 false Op2.Div two (name_ex i)) ∷ [])
    ≡ (over_item (name_pat i) bool_dom, []) ∷ (over_item (name_pat i) up_to_quotient, not_zero ∷ [])
    ∷ (from_item (name_pat j) (ex2 false Op2.Div two (name_ex i)), ex2 true Op2.Ne (name_ex i) (number_ex (pos 0)) ∷ []) ∷ []
steps_over = refl

steps_from : steps_of false q r [] (from_item (name_pat i) c ∷ from_item (name_pat j) (ex2 false Op2.Div two (name_ex i)) ∷ [])
    ≡ (from_item (name_pat i) c, [])
    ∷ (
      from_item (name_pat j) (ex2 false Op2.Div two (name_ex i)),
      ex2 true Op2.Ne (ex2 false Op2.Plus (name_ex i) (number_ex (pos 0))) (number_ex (pos 0)) ∷ [],
    ) ∷ []
steps_from = refl

items_there : items_of ((cond_item c, []) ∷ (from_item (name_pat i) c, not_zero ∷ []) ∷ []) ≡ cond_item c ∷ from_item (name_pat i) c ∷ []
items_there = refl

-- What is asked behind `i : bool` is asked at each i, behind what the generator asks.
around_over : around (over_item (name_pat i) bool_dom, one ∷ []) (not_zero ∷ [])
    ≡ one ∷ fun1 true Fun.And (comp_ex not_zero (over (name_pat i) bool_dom no_gens)) ∷ []
around_over = refl

around_from : around (from_item (name_pat i) c, []) (not_zero ∷ []) ≡ fun1 true Fun.And (comp_ex not_zero (from (name_pat i) c no_gens)) ∷ []
around_from = refl

around_cond : around (cond_item (name_ex i), []) (not_zero ∷ []) ≡ ex2 true Op2.Implies (name_ex i) not_zero ∷ []
around_cond = refl

-- Where nothing is asked behind it, what the generator asks stays.
around_nothing : around (over_item (name_pat i) bool_dom, one ∷ []) [] ≡ one ∷ []
around_nothing = refl

-- From the outside in.
around_two : around_all ((over_item (name_pat i) bool_dom, []) ∷ (cond_item (name_ex i), []) ∷ []) (not_zero ∷ [])
    ≡ fun1 true Fun.And (comp_ex (ex2 true Op2.Implies (name_ex i) not_zero) (over (name_pat i) bool_dom no_gens)) ∷ []
around_two = refl
