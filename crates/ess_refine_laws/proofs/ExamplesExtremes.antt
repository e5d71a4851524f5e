-- Worked examples of the least and the greatest under a condition, and of names over records.
use Rattle.std.specs.Prelude.{◌≡◌, refl, true, false, pos, [], ◌∷◌, codes, Some, None}
use Rattle.ess_semantics.specs.declared.words.Op1.{Op1}
use Rattle.ess_semantics.specs.declared.words.Op2.{Op2}
use Rattle.ess_semantics.specs.declared.words.Fun.{Fun}
use Rattle.ess_semantics.specs.Values.{Text}
use Rattle.ess_semantics.specs.Trees.{name_pat, Ex, comp_ex, cell_ex, no_gens, over, from, cond, Doms, record_dom, bool_dom}
use Rattle.ess_semantics.specs.Meaning.{Env, empty_env, meaning}
use Rattle.ess_semantics.proofs.Shorthands.{N, n, v, es1, ds2, bi, un, fn, upto}
use Rattle.ess_refine_laws.specs.ExtremeRules.{either_number, extreme_condition}
use Rattle.ess_refine_laws.specs.AllRules.{Supply, rule_at}
use Rattle.ess_refine_laws.specs.MovingConditions.{condition_later}
use Rattle.ess_refine_laws.specs.RecordNames.{are_in_order, records_over, name_over_record}

abbrev f : Text
f = codes "f"

abbrev j : Text
j = codes "j"

abbrev q : Text
q = codes "q"

abbrev x : Text
x = codes "x"

-- The cell `f[j]`.
abbrev flag : Ex
flag = cell_ex true f (es1 (N j))

-- `min([j | j : int(1..3), f[j]])`, and `max([q | q : int(1..3)])` for what is left out.
abbrev least : Ex
least = fn Fun.Min (comp_ex (N j) (over (name_pat j) (upto 3) (cond flag no_gens)))

abbrev most : Ex
most = fn Fun.Max (comp_ex (N q) (over (name_pat q) (upto 3) no_gens))

abbrev all_of_them : Ex
all_of_them = fn Fun.Min (comp_ex (either_number flag (N j) most) (over (name_pat j) (upto 3) no_gens))

without_the_condition : extreme_condition most least ≡ Some all_of_them
without_the_condition = refl

chosen_or_most : either_number flag (N j) most ≡
    bi Op2.Plus (bi Op2.Times (fn Fun.ToInt flag) (N j)) (bi Op2.Times (fn Fun.ToInt (un Op1.Not flag)) most)
chosen_or_most = refl

-- A condition that reads no cell stays, and one before a generator.
others_stay : (extreme_condition most (fn Fun.Min (comp_ex (N j) (over (name_pat j) (upto 3) (cond (bi Op2.Lt (n 1)
    (N j)) no_gens)))) ≡ None)
    × (extreme_condition most (fn Fun.Min (comp_ex (N j) (cond flag (over (name_pat q) (upto 3) no_gens)))) ≡ None)
    × (extreme_condition most (fn Fun.Sum (comp_ex (N j) (over (name_pat j) (upto 3) (cond flag no_gens)))) ≡ None)
others_stay = (refl, refl, refl)

-- Over f = [0, 1, 1] both are 2. Over f = [0, 0, 0] the first has no value and the second is 3: so a value is asked of the first.
abbrev table : Env
table = record empty_env { cells = (f, record { axes = (pos 1 ∷ pos 2 ∷ pos 3 ∷ []) ∷ []; items = pos 0 ∷ pos 1 ∷ pos 1 ∷ [] }) ∷ [] }

abbrev no_flags : Env
no_flags = record empty_env { cells = (f, record { axes = (pos 1 ∷ pos 2 ∷ pos 3 ∷ []) ∷ []; items = pos 0 ∷ pos 0 ∷ pos 0 ∷ [] }) ∷ [] }

over_the_table : (meaning least table ≡ Some (v 2)) × (meaning all_of_them table ≡ Some (v 2)) × (meaning least no_flags ≡ None)
    × (meaning all_of_them no_flags ≡ Some (v 3))
over_the_table = (refl, refl, refl, refl)

-- ---- a condition that isn't last

-- `min([j * q | j : int(1..3), f[j], q : int(1..3)])`, and with the condition behind the second generator.
abbrev products : Ex
products = fn Fun.Min (comp_ex (bi Op2.Times (N j) (N q)) (over (name_pat j) (upto 3) (cond flag (over (name_pat q) (upto 3) no_gens))))

abbrev condition_last : Ex
condition_last =
    fn Fun.Min (comp_ex (bi Op2.Times (N j) (N q)) (over (name_pat j) (upto 3) (over (name_pat q) (upto 3) (cond flag no_gens))))

-- So it moves until it is last; then it is taken into the numbers. Under `sum` it doesn't move.
moved : (condition_later products ≡ Some condition_last) × (condition_later condition_last ≡ None)
    × (condition_later (fn Fun.Sum (comp_ex (N j) (over (name_pat j) (upto 3) (cond flag (over (name_pat q) (upto 3) no_gens))))) ≡ None)
moved = (refl, refl, refl)

-- Behind another condition too.
behind_a_condition :
    condition_later (fn Fun.Max (comp_ex (N j) (over (name_pat j) (upto 3) (cond flag (cond (bi Op2.Lt (n 1) (N j)) no_gens)))))
    ≡ Some (fn Fun.Max (comp_ex (N j) (over (name_pat j) (upto 3) (cond (bi Op2.Lt (n 1) (N j)) (cond flag no_gens)))))
behind_a_condition = refl

same_products : (meaning products table ≡ Some (v 2)) × (meaning condition_last table ≡ Some (v 2))
same_products = (refl, refl)

-- With a copy of what it takes the greatest of, both fire among all rules.
abbrev supply : Supply
supply = record { one = x; other = q; third = codes "w"; parts = []; index_domain = λ e. upto 3; copy = λ e. most }

among_all_rules : (rule_at supply [] products ≡ Some condition_last) × (rule_at supply [] least ≡ Some all_of_them)
among_all_rules = (refl, refl)

-- ---- records

abbrev parts : Doms
parts = ds2 bool_dom (upto 2)

record_of_names : name_over_record (j ∷ q ∷ []) (comp_ex (N x) (over (name_pat x) (record_dom (f ∷ x ∷ []) parts) no_gens)) ≡
    Some (comp_ex (N x) (from (name_pat x) (records_over (f ∷ x ∷ []) (j ∷ q ∷ []) parts) no_gens))
record_of_names = refl

-- Both have the same items.
same_records : meaning (comp_ex (N x) (over (name_pat x) (record_dom (f ∷ x ∷ []) parts) no_gens)) empty_env ≡
    meaning (records_over (f ∷ x ∷ []) (j ∷ q ∷ []) parts) empty_env
same_records = refl

-- Fields out of order, a field twice, too few names or one name twice: no rule.
other_records : (are_in_order (x ∷ f ∷ []) parts ≡ false) × (are_in_order (f ∷ f ∷ []) parts ≡ false)
    × (are_in_order (f ∷ []) parts ≡ false)
    × (name_over_record (j ∷ []) (comp_ex (N x) (over (name_pat x) (record_dom (f ∷ x ∷ []) parts) no_gens)) ≡ None)
    × (name_over_record (j ∷ j ∷ []) (comp_ex (N x) (over (name_pat x) (record_dom (f ∷ x ∷ []) parts) no_gens)) ≡ None)
other_records = (refl, refl, refl, refl, refl)
