-- Worked examples of the least and the greatest over several alternatives.
use Rattle.std.specs.Prelude.{◌≡◌, refl, true, false, List, [], ◌∷◌, codes, Some, None}
use Rattle.ess_semantics.specs.declared.words.Op1.{Op1}
use Rattle.ess_semantics.specs.declared.words.Op2.{Op2}
use Rattle.ess_semantics.specs.declared.words.Fun.{Fun}
use Rattle.ess_semantics.specs.Values.{Text, Value, a_set, node, of_list}
use Rattle.ess_semantics.specs.Names.{Names}
use Rattle.ess_semantics.specs.Trees.{name_pat, Ex, comp_ex, ex1, ex2, no_gens, from, cond}
use Rattle.ess_semantics.specs.Types.{Ty, int_ty, compound1}
use Rattle.ess_semantics.specs.Meaning.{Env, empty_env, meaning}
use Rattle.ess_semantics.proofs.Shorthands.{N, n, v, es2, bi, fn, upto}
use Rattle.ess_rules_laws.specs.Listings.{Alternative, those}
use Rattle.ess_rules_laws.specs.SourceRules.{list_of}
use Rattle.ess_refine_laws.specs.ExtremeAlternatives.{flat, extreme_or, past_all, extreme_alternatives}
use Rattle.ess_refine_laws.specs.AllRules.{Supply, rule_at}

abbrev s : Text
s = codes "s"

abbrev t : Text
t = codes "t"

abbrev j : Text
j = codes "j"

abbrev x : Text
x = codes "x"

-- `min([j + 1 | j <- s union t])`.
abbrev next : Ex
next = bi Op2.Plus (N j) (n 1)

abbrev over_both : Ex
over_both = comp_ex next (from (name_pat j) (ex2 false Op2.Union (N s) (N t)) no_gens)

-- The alternatives of the union, and those of the comprehension.
abbrev first : Alternative
first = those x (N s) no_gens

abbrev second : Alternative
second = those x (N t) (cond (ex1 true Op1.Not (ex2 true Op2.Member (N x) (N s))) no_gens)

abbrev both : List Alternative
both = record { gens = first.gens; item = bi Op2.Plus (N x) (n 1) } ∷ record { gens = second.gens; item = bi Op2.Plus (N x) (n 1) } ∷ []

as_many : flat (first ∷ second ∷ []) over_both ≡ Some both
as_many = refl

-- `min([sum([min([x + 1 | x <- s]) | or([true | x <- s])]) + toInt(!or([true | x <- s])) * m, ..])`, where m is
-- `sum([sum([|x + 1| | x <- s]), ..])`.
abbrev one_each : Fun → Ex
one_each f = fn f (list_of (es2 (extreme_or f (past_all f both) (record { gens = first.gens; item = bi Op2.Plus (N x) (n 1) }))
    (extreme_or f (past_all f both) (record { gens = second.gens; item = bi Op2.Plus (N x) (n 1) }))))

rewritten : (extreme_alternatives both (fn Fun.Min over_both) ≡ Some (one_each Fun.Min))
    × (extreme_alternatives both (fn Fun.Max over_both) ≡ Some (one_each Fun.Max))
    × (extreme_alternatives both (fn Fun.Sum over_both) ≡ None)
rewritten = (refl, refl, refl)

-- Among all rules it fires at a union of sets.
abbrev types : Names Ty
types = (s, compound1 a_set int_ty) ∷ (t, compound1 a_set int_ty) ∷ []

abbrev supply : Supply
supply = record { one = x; other = j; third = codes "q"; parts = []; index_domain = λ e. upto 1; copy = λ e. e }

fires : rule_at supply types (fn Fun.Min over_both) ≡ Some (one_each Fun.Min)
fires = refl

-- ---- what they mean

abbrev set_of_these : List Value → Value
set_of_these vs = node a_set (of_list vs)

abbrev where_they_are : List Value → List Value → Env
where_they_are us ws = record empty_env { vals = (s, set_of_these us) ∷ (t, set_of_these ws) ∷ [] }

-- Over {2, 5} and {} the second alternative has no item and gives 9, past 3 and 6.
one_is_empty : (meaning (fn Fun.Min over_both) (where_they_are (v 2 ∷ v 5 ∷ []) []) ≡ Some (v 3))
    × (meaning (one_each Fun.Min) (where_they_are (v 2 ∷ v 5 ∷ []) []) ≡ Some (v 3))
    × (meaning (extreme_or Fun.Min (past_all Fun.Min both) (record { gens = second.gens; item = bi Op2.Plus (N x) (n 1) }))
    (where_they_are (v 2 ∷ v 5 ∷ []) []) ≡ Some (v 9))
    × (meaning (one_each Fun.Max) (where_they_are (v 2 ∷ v 5 ∷ []) []) ≡ Some (v 6))
one_is_empty = (refl, refl, refl, refl)

-- Both have items, and 2 is in both. Where none has any the first has no value, so a value is asked of it.
both_have_items : (meaning (one_each Fun.Min) (where_they_are (v 2 ∷ []) (v 1 ∷ v 2 ∷ [])) ≡ Some (v 2))
    × (meaning (one_each Fun.Max) (where_they_are (v 2 ∷ []) (v 1 ∷ v 2 ∷ [])) ≡ Some (v 3))
    × (meaning (fn Fun.Min over_both) (where_they_are [] []) ≡ None) × (meaning (one_each Fun.Min) (where_they_are [] []) ≡ Some (v 0))
both_have_items = (refl, refl, refl, refl)
