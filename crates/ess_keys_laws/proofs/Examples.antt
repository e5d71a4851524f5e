-- Worked examples of plain keys.
use Rattle.std.proofs.Common.{◌≡◌, refl, ℕ, zero, suc, true, false, codes}
use Rattle.ess_semantics.specs.declared.words.Op2.{Op2}
use Rattle.ess_semantics.specs.declared.words.Fun.{Fun}
use Rattle.ess_semantics.specs.Values.{Text}
use Rattle.ess_semantics.specs.Trees.{matrix_literal, name_pat, Ex, Exs, truth_ex, node_ex, comp_ex, cell_ex, no_exs, more_exs, Gens}
use Rattle.ess_semantics.specs.Trees.{no_gens, over, cond, Dom, bool_dom, ex2, fun1}
use Rattle.ess_semantics.proofs.Shorthands.{N, n, es1, upto, range}
use Rattle.ess_keys_laws.specs.Chains.{all_under_and}
use Rattle.ess_keys_laws.specs.Keyed.{nothing_around, keyed}

abbrev x : Ex
x = N (codes "x")

abbrev j : Ex
j = N (codes "j")

abbrev k : Ex
k = N (codes "k")

abbrev Over : Text → Dom → Gens → Gens
Over a d gs = over (name_pat a) d gs

-- f[e], a number, and s[e], a truth value
abbrev f : Ex → Ex
f e = cell_ex false (codes "f") (es1 e)

abbrev s : Ex → Ex
s e = cell_ex true (codes "s") (es1 e)

abbrev equal : Ex → Ex → Ex
equal a b = ex2 true Op2.Eq a b

abbrev sum : Ex → Gens → Ex
sum e gs = fun1 false Fun.Sum (comp_ex e gs)

-- int(1..m), where m is a size that is given
abbrev up_to_m : Dom
up_to_m = range (n 1) (cell_ex false (codes "m") no_exs)

-- ---- truth values as indices

-- `s[true]` is `s[1]`, `s[b]` for a b over bool `s[toInt(b)]`, and `s[s[1]]` is `s[toInt(s[1])]`.
literal_index : keyed nothing_around (s (truth_ex true)) ≡ s (n 1)
literal_index = refl

bound_index : keyed nothing_around (sum (f x) (Over (codes "x") bool_dom no_gens))
    ≡ sum (f (fun1 false Fun.ToInt x)) (Over (codes "x") bool_dom no_gens)
bound_index = refl

cell_index : keyed nothing_around (s (s (n 1))) ≡ s (fun1 false Fun.ToInt (s (n 1)))
cell_index = refl

-- A number stays, and so does a name over numbers.
number_index : keyed nothing_around (sum (f x) (Over (codes "x") up_to_m no_gens)) ≡ sum (f x) (Over (codes "x") up_to_m no_gens)
number_index = refl

-- ---- keys

-- `allDiff([sum([f[j] | j : int(1..m), j = x]) | x : int(1..m)])` is `allDiff([f[x] | x : int(1..m)])`.
looked_up : keyed nothing_around
    (fun1 true Fun.AllDiff (comp_ex (sum (f j) (Over (codes "j") up_to_m (cond (equal j x) no_gens))) (Over (codes "x") up_to_m no_gens)))
    ≡ fun1 true Fun.AllDiff (comp_ex (f x) (Over (codes "x") up_to_m no_gens))
looked_up = refl

-- The equation may stand the other way round, and conditions before it stay: `or([s[j] | j : int(1..3), s[j], 2 = j])` is `s[2] /\ s[2]`.
turned : keyed nothing_around (fun1 true Fun.Or (comp_ex (s j) (Over (codes "j") (upto 3) (cond (s j) (cond (equal (n 2) j) no_gens)))))
    ≡ ex2 true Op2.And (s (n 2)) (s (n 2))
turned = refl

-- Two keys of a pair, in one conjunction.
pair : keyed nothing_around
    (sum (sum (f j) (Over (codes "j") (upto 3) (Over (codes "k") (upto 4) (cond (ex2 true Op2.And (equal j x) (equal k (n 4))) no_gens))))
    (Over (codes "x") (upto 2) no_gens))
    ≡ sum (f x) (Over (codes "x") (upto 2) no_gens)
pair = refl

-- Of two names that are equal the later one goes, where the domain of the other lies in its own.
later : keyed nothing_around (sum (f k) (Over (codes "j") (upto 3) (Over (codes "k") (upto 4) (cond (equal j k) no_gens))))
    ≡ sum (f j) (Over (codes "j") (upto 3) no_gens)
later = refl

-- A key of another domain isn't sure.
unsure : keyed nothing_around (sum (f j) (Over (codes "j") (upto 3) (cond (equal j (n 4)) no_gens)))
    ≡ sum (f j) (Over (codes "j") (upto 3) (cond (equal j (n 4)) no_gens))
unsure = refl

-- A chain: `j : int(1..3), j = x, k : int(1..3), k = j` leaves f[x], here in a list that isn't folded.
chain : keyed nothing_around
    (sum (fun1 false Fun.Min (comp_ex (f k) (Over (codes "j") (upto 3) (cond (equal j x) (Over (codes "k") (upto 3) (cond
    (equal k j) no_gens))))))
    (Over (codes "x") (upto 2) no_gens))
    ≡ sum (fun1 false Fun.Min (node_ex false matrix_literal (more_exs (f x) no_exs))) (Over (codes "x") (upto 2) no_gens)
chain = refl

-- ---- many conditions

-- The conditions `s[i]`, .., `s[1]`.
abbrev conditions : ℕ → Gens
conditions zero = no_gens
conditions (suc i) = cond (s (n (suc i))) (conditions i)

-- The chain `s[i] /\ (.. (s[1] /\ s[0]))`.
abbrev chain_of : ℕ → Ex
chain_of zero = s (n 0)
chain_of (suc i) = ex2 true Op2.And (s (n (suc i))) (chain_of i)

-- The items `s[i]`, .., `s[0]`.
abbrev items_of : ℕ → Exs
items_of zero = es1 (s (n 0))
items_of (suc i) = more_exs (s (n (suc i))) (items_of i)

-- The items `s[i + 1]`, .., `s[1]`.
abbrev conditions_from : ℕ → Exs
conditions_from zero = es1 (s (n 1))
conditions_from (suc i) = more_exs (s (n (suc (suc i)))) (conditions_from i)

-- The chain `s[i + 1] /\ (.. /\ s[1])`.
abbrev chain_from : ℕ → Ex
chain_from zero = s (n 1)
chain_from (suc i) = ex2 true Op2.And (s (n (suc (suc i)))) (chain_from i)

-- `or([s[0] | s[15], .., s[1]])` is a chain: fifteen conditions are few.
fifteen : keyed nothing_around (fun1 true Fun.Or (comp_ex (s (n 0)) (conditions 15))) ≡ chain_of 15
fifteen = refl

-- `or([s[0] | s[16], .., s[1]])` is `and([s[16], .., s[1], s[0]])`: sixteen are many.
sixteen : keyed nothing_around (fun1 true Fun.Or (comp_ex (s (n 0)) (conditions 16)))
    ≡ all_under_and (items_of 16)
sixteen = refl

-- Conditions that hold by their form don't count: `or([s[0] | true, s[15], .., s[1]])`.
without_settled : keyed nothing_around (fun1 true Fun.Or (comp_ex (s (n 0)) (cond (truth_ex true) (conditions 15)))) ≡ chain_of 15
without_settled = refl

-- Conditions under one `and` are conditions each, and a long conjunction among conditions is taken apart: `or([s[0] | and([s[16], .., s[1]])])`
-- and `or([s[0] | s[16] /\ (.. /\ s[1])])` are `and([s[16], .., s[0]])`.
listed_conditions : keyed nothing_around (fun1 true Fun.Or (comp_ex (s (n 0)) (cond (all_under_and (conditions_from 15)) no_gens)))
    ≡ all_under_and (items_of 16)
listed_conditions = refl

chained_conditions : keyed nothing_around (fun1 true Fun.Or (comp_ex (s (n 0)) (cond (chain_from 15) no_gens))) ≡ all_under_and (items_of 16)
chained_conditions = refl

-- Under `and` fifteen conditions are a chain of `->`, here `s[15] -> .. `; sixteen are a list, `and([s[16], .., s[1]]) -> s[0]`.
abbrev implied_by : ℕ → Ex
implied_by zero = s (n 0)
implied_by (suc i) = ex2 true Op2.Implies (s (n (suc i))) (implied_by i)

fifteen_under_and : keyed nothing_around (fun1 true Fun.And (comp_ex (s (n 0)) (conditions 15))) ≡ implied_by 15
fifteen_under_and = refl

sixteen_under_and : keyed nothing_around (fun1 true Fun.And (comp_ex (s (n 0)) (conditions 16)))
    ≡ ex2 true Op2.Implies (all_under_and (conditions_from 15)) (s (n 0))
sixteen_under_and = refl

-- ---- many conjuncts

-- A chain of fifteen conjuncts stays.
fifteen_conjuncts : keyed nothing_around (chain_of 14) ≡ chain_of 14
fifteen_conjuncts = refl

-- With one more it is a list of sixteen, and each further one goes into the list.
sixteen_conjuncts : keyed nothing_around (chain_of 15) ≡ all_under_and (items_of 15)
sixteen_conjuncts = refl

seventeen_conjuncts : keyed nothing_around (chain_of 16) ≡ all_under_and (items_of 16)
seventeen_conjuncts = refl

-- So does one before a list of sixteen items; fifteen items are left alone.
before_sixteen : keyed nothing_around (ex2 true Op2.And (s (n 16)) (all_under_and (items_of 15))) ≡ all_under_and (items_of 16)
before_sixteen = refl

before_fifteen : keyed nothing_around (ex2 true Op2.And (s (n 15)) (all_under_and (items_of 14)))
    ≡ ex2 true Op2.And (s (n 15)) (all_under_and (items_of 14))
before_fifteen = refl

-- Before a chain that conditions leave, too: `s[16] /\ or([s[0] | s[15], .., s[1]])`.
before_conditions : keyed nothing_around (ex2 true Op2.And (s (n 16)) (fun1 true Fun.Or (comp_ex (s (n 0)) (conditions 15))))
    ≡ all_under_and (items_of 16)
before_conditions = refl

-- Other connectives stay a chain.
other_connective : keyed nothing_around (implied_by 16) ≡ implied_by 16
other_connective = refl

-- A flat constraint keeps its form, however long: `b /\ (.. (b /\ b))`, where b is a single cell.
abbrev flat_chain : ℕ → Ex
flat_chain zero = cell_ex true (codes "b") no_exs
flat_chain (suc i) = ex2 true Op2.And (cell_ex true (codes "b") no_exs) (flat_chain i)

flat_conjuncts : keyed nothing_around (flat_chain 15) ≡ flat_chain 15
flat_conjuncts = refl

-- Before a chain of sixteen flat ones one that isn't flat makes a list of all.
abbrev flat_items : ℕ → Exs
flat_items zero = es1 (cell_ex true (codes "b") no_exs)
flat_items (suc i) = more_exs (cell_ex true (codes "b") no_exs) (flat_items i)

before_flat : keyed nothing_around (ex2 true Op2.And (s (n 1)) (flat_chain 15)) ≡ all_under_and (more_exs (s (n 1)) (flat_items 15))
before_flat = refl
