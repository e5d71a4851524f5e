-- Worked examples of gathered conditions.
use Rattle.std.specs.Prelude.{◌≡◌, refl, true, false, ℤ, pos, [], ◌∷◌, codes, Some, None}
use Rattle.ess_semantics.specs.declared.words.Op2.{Op2}
use Rattle.ess_semantics.specs.declared.words.Fun.{Fun}
use Rattle.ess_semantics.specs.Values.{Text}
use Rattle.ess_semantics.specs.Trees.{name_pat, Ex, comp_ex, cell_ex, Gens, no_gens, over, from, cond, no_exs}
use Rattle.ess_semantics.specs.Tables.{Table}
use Rattle.ess_semantics.specs.Meaning.{Env, empty_env, meaning}
use Rattle.ess_semantics.proofs.Shorthands.{N, n, v, bi, fn, range, upto}
use Rattle.ess_refine_laws.specs.Everywhere.{divisor}
use Rattle.ess_refine_laws.specs.ExtremeRules.{either_number, extreme_condition}
use Rattle.ess_refine_laws.specs.LeavingConditions.{at_last_condition, condition_leaves}
use Rattle.ess_gathered_laws.specs.GatheredConditions.{conditions_gathered}

abbrev j : Text
j = codes "j"

abbrev q : Text
q = codes "q"

-- The cells `b`, `c` and `k`, of which the last is a number.
abbrev b : Ex
b = cell_ex true (codes "b") no_exs

abbrev c : Ex
c = cell_ex true (codes "c") no_exs

abbrev k : Ex
k = cell_ex false (codes "k") no_exs

-- ---- conditions

-- `max([1 | j : int(1..k), b, c])` is `max([1 | j : int(1..k), b /\ c])`, which has no other condition that reads cells.
abbrev over_given : Gens → Gens
over_given gs = over (name_pat j) (range (n 1) k) gs

abbrev several : Ex
several = fn Fun.Max (comp_ex (n 1) (over_given (cond b (cond c no_gens))))

abbrev alone : Ex
alone = fn Fun.Max (comp_ex (n 1) (over_given (cond (bi Op2.And b c) no_gens)))

gathered : (conditions_gathered several ≡ Some alone) × (conditions_gathered alone ≡ None)
gathered = (refl, refl)

-- With the least of all as the other number no condition is left, also within that number: so refining ends.
abbrev least : Ex
least = fn Fun.Min (comp_ex (n 1) (over_given no_gens))

abbrev without_any : Ex
without_any = fn Fun.Max (comp_ex (either_number (bi Op2.And b c) (n 1) least) (over_given no_gens))

taken_in : extreme_condition least alone ≡ Some without_any
taken_in = refl

none_left : (conditions_gathered without_any ≡ None) × (extreme_condition least without_any ≡ None) × (condition_leaves without_any ≡ None)
    × (at_last_condition (over_given no_gens) ≡ None)
none_left = (refl, refl, refl, refl)

-- ---- other lists

abbrev differs : Ex
differs = bi Op2.Ne (N j) (n 2)

-- `max([j * q | j : int(1..3), b, j != 2, q : int(1..6 / j), c])`: conditions that read no cell stay where they are, and bounds are
-- made to be there everywhere.
abbrev mixed : Ex
mixed = fn Fun.Max (comp_ex (bi Op2.Times (N j) (N q)) (over (name_pat j) (upto 3) (cond b (cond differs
    (over (name_pat q) (range (n 1) (bi Op2.Div (n 6) (N j))) (cond c no_gens))))))

mixed_gathered : conditions_gathered mixed ≡ Some (fn Fun.Max (comp_ex (bi Op2.Times (N j) (N q)) (over (name_pat j) (upto 3) (cond differs
    (over (name_pat q) (range (n 1) (bi Op2.Div (n 6) (divisor (N j)))) (cond (bi Op2.And b c) no_gens))))))
mixed_gathered = refl

-- Of three conditions.
three : conditions_gathered (fn Fun.Min (comp_ex (n 1) (cond b (cond c (cond b no_gens)))))
    ≡ Some (fn Fun.Min (comp_ex (n 1) (cond (bi Op2.And b (bi Op2.And c b)) no_gens)))
three = refl

-- One condition stays, and so do several under another word, or beside a source.
others_stay : (conditions_gathered (fn Fun.Min (comp_ex (n 1) (cond b (over_given no_gens)))) ≡ None)
    × (conditions_gathered (fn Fun.Sum (comp_ex (n 1) (cond b (cond c no_gens)))) ≡ None)
    × (conditions_gathered (fn Fun.Min (comp_ex (n 1) (from (name_pat j) (N q) (cond b (cond c no_gens))))) ≡ None)
others_stay = (refl, refl, refl)

-- ---- meanings

abbrev flag : ℤ → Table
flag i = record { axes = []; items = i ∷ [] }

-- b and c as given, and k = 2.
abbrev tables : ℤ → ℤ → Env
tables x y = record empty_env { cells = (codes "b", flag x) ∷ (codes "c", flag y) ∷ (codes "k", flag (pos 2)) ∷ [] }

-- Where both hold there is a greatest number, else there is none.
means : (meaning several (tables (pos 1) (pos 1)) ≡ Some (v 1)) × (meaning alone (tables (pos 1) (pos 1)) ≡ Some (v 1))
    × (meaning several (tables (pos 1) (pos 0)) ≡ None) × (meaning alone (tables (pos 1) (pos 0)) ≡ None)
means = (refl, refl, refl, refl)
