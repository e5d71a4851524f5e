-- Worked examples of rules on names over tuples, on quantifiers over sets made of lists, on products, and of indices of lists.
use Rattle.std.specs.Prelude.{◌≡◌, refl, false, [], ◌∷◌, codes, Some, None, option_map}
use Rattle.ess_semantics.specs.declared.words.Op2.{Op2}
use Rattle.ess_semantics.specs.declared.words.Fun.{Fun}
use Rattle.ess_semantics.specs.Values.{Text}
use Rattle.ess_semantics.specs.Trees.{matrix_literal, name_pat, Ex, node_ex, comp_ex, no_gens, over, from, tuple_dom}
use Rattle.ess_semantics.specs.Meaning.{empty_env, meaning, domain_of, members_in}
use Rattle.ess_semantics.proofs.Shorthands.{N, n, es2, ds2, bi, fn, upto}
use Rattle.ess_rules_laws.specs.ChoiceRules.{choice_shorter}
use Rattle.ess_rules_laws.specs.LooseRules.{fold_loosely}
use Rattle.ess_rules_laws.specs.PartLookups.{indices_of}
use Rattle.ess_rules_laws.specs.SlotListings.{slots_dom}
use Rattle.ess_rules_laws.specs.TupleNames.{tuples_over, name_over_tuple}

abbrev x : Text
x = codes "x"

abbrev y : Text
y = codes "y"

abbrev z : Text
z = codes "z"

-- ---- names over tuples

pair_named : name_over_tuple (y ∷ z ∷ []) (comp_ex (N x) (over (name_pat x) (tuple_dom (ds2 (upto 1) (upto 2))) no_gens)) ≡
    Some (comp_ex (N x) (from (name_pat x) (tuples_over (y ∷ z ∷ []) (ds2 (upto 1) (upto 2))) no_gens))
pair_named = refl

-- One name twice, or one name for two domains, names no pair.
names_twice : name_over_tuple (y ∷ y ∷ []) (comp_ex (N x) (over (name_pat x) (tuple_dom (ds2 (upto 1) (upto 2))) no_gens)) ≡ None
names_twice = refl

one_name : name_over_tuple (y ∷ []) (comp_ex (N x) (over (name_pat x) (tuple_dom (ds2 (upto 1) (upto 2))) no_gens)) ≡ None
one_name = refl

-- `[x | x : (int(1..1), int(1..2))]` and the tuples of the names.
same_pairs : meaning (tuples_over (y ∷ z ∷ []) (ds2 (upto 1) (upto 2))) empty_env ≡
    meaning (comp_ex (N x) (over (name_pat x) (tuple_dom (ds2 (upto 1) (upto 2))) no_gens)) empty_env
same_pairs = refl

-- ---- sets made of lists

abbrev twice : Ex
twice = node_ex false matrix_literal (es2 (n 1) (n 1))

every_of_a_set : fold_loosely (fn Fun.And (comp_ex (N x) (from (name_pat x) (fn Fun.ToSet twice) no_gens))) ≡
    Some (fn Fun.And (comp_ex (N x) (from (name_pat x) twice no_gens)))
every_of_a_set = refl

-- A sum sees repeats: `sum([x | x <- toSet([1, 1])])` is 1, and `sum([x | x <- [1, 1]])` is 2.
sum_of_a_set : fold_loosely (fn Fun.Sum (comp_ex (N x) (from (name_pat x) (fn Fun.ToSet twice) no_gens))) ≡ None
sum_of_a_set = refl

-- ---- products

both_chosen : choice_shorter (bi Op2.Times (fn Fun.ToInt (N x)) (fn Fun.ToInt (N y))) ≡ Some (fn Fun.ToInt (bi Op2.And (N x) (N y)))
both_chosen = refl

one_chosen : choice_shorter (bi Op2.Times (fn Fun.ToInt (N x)) (n 1)) ≡ Some (fn Fun.ToInt (N x))
one_chosen = refl

two_chosen : choice_shorter (bi Op2.Times (fn Fun.ToInt (N x)) (n 2)) ≡ None
two_chosen = refl

-- ---- indices of lists

list_of_two : option_map indices_of (meaning twice empty_env) ≡ members_in (domain_of (slots_dom (n 2)) empty_env)
list_of_two = refl
