-- Worked examples of the rules: what they answer, and where a rule that isn't guarded would change a meaning.
use Rattle.std.specs.Prelude.{◌≡◌, refl, true, false, [], ◌∷◌, pos, codes, Some, None}
use Rattle.ess_semantics.specs.declared.words.Op1.{Op1}
use Rattle.ess_semantics.specs.declared.words.Op2.{Op2}
use Rattle.ess_semantics.specs.declared.words.Fun.{Fun}
use Rattle.ess_semantics.specs.Values.{Text, truth, number, a_set, a_mset}
use Rattle.ess_semantics.specs.Names.{Names}
use Rattle.ess_semantics.specs.Trees.{name_pat, set_literal, mset_literal, matrix_literal, Ex, node_ex, comp_ex, ex1, no_exs, no_gens, from, cond}
use Rattle.ess_semantics.specs.Types.{Ty, int_ty, compound1}
use Rattle.ess_semantics.specs.Meaning.{empty_env, meaning}
use Rattle.ess_semantics.proofs.Shorthands.{N, n, es1, es2, bi, fn}
use Rattle.ess_rules_laws.specs.FoldRules.{fold_alone, fold_nothing, fold_one, fold_term}
use Rattle.ess_rules_laws.specs.MembershipRules.{member_term, member_combined, member_changed, member_listed}
use Rattle.ess_rules_laws.specs.InclusionRules.{every, frequency, unequal, included_turned, included_strictly, included_members, included_often, equal_members, equal_often}
use Rattle.ess_rules_laws.specs.SizeRules.{size_term, frequency_term}
use Rattle.ess_rules_laws.specs.Listings.{those, listing}

abbrev pub a : Text
a = codes "a"

abbrev pub b : Text
b = codes "b"

abbrev pub c : Text
c = codes "c"

abbrev pub x : Text
x = codes "x"

abbrev pub y : Text
y = codes "y"

-- sets a and b, a multiset c
abbrev pub g : Names Ty
g = (a, compound1 a_set int_ty) ∷ (b, compound1 a_set int_ty) ∷ (c, compound1 a_mset int_ty) ∷ []

abbrev pub set2 : Ex → Ex → Ex
set2 p q = node_ex false set_literal (es2 p q)

-- ---- folds

alone_and : fold_alone (fn Fun.And (comp_ex (N y) (cond (N x) no_gens))) ≡ Some (bi Op2.Implies (N x) (N y))
alone_and = refl

alone_or : fold_alone (fn Fun.Or (comp_ex (N y) (cond (N x) no_gens))) ≡ Some (bi Op2.And (N x) (N y))
alone_or = refl

alone_sum : fold_alone (fn Fun.Sum (comp_ex (N y) (cond (N x) no_gens))) ≡ None
alone_sum = refl

nothing_added : fold_nothing (fn Fun.Sum (node_ex false matrix_literal no_exs)) ≡ Some (n 0)
nothing_added = refl

one_added : fold_one (fn Fun.Sum (node_ex false matrix_literal (es1 (N x)))) ≡ Some (N x)
one_added = refl

term_added : fold_term x (fn Fun.Sum (N a)) ≡ Some (fn Fun.Sum (comp_ex (N x) (from (name_pat x) (N a) no_gens)))
term_added = refl

-- `and([x])` is false where x has no value, and x has nothing there
no_value : (meaning (fn Fun.And (node_ex false matrix_literal (es1 (N x)))) empty_env ≡ Some (truth false)) × (meaning (N x) empty_env ≡ None)
no_value = (refl, refl)

-- ---- membership

in_a_name : member_term x (bi Op2.Member (n 1) (N a)) ≡ Some (fn Fun.Or (comp_ex (bi Op2.Eq (N x) (n 1)) (from (name_pat x) (N a) no_gens)))
in_a_name = refl

in_union : member_combined (bi Op2.Member (n 1) (bi Op2.Union (N a) (N b))) ≡ Some (bi Op2.Or (bi Op2.Member (n 1) (N a)) (bi Op2.Member (n 1) (N b)))
in_union = refl

in_rest : member_combined (bi Op2.Member (n 1) (bi Op2.Minus (N a) (N b))) ≡ Some (bi Op2.And (bi Op2.Member (n 1) (N a)) (ex1 true Op1.Not (bi Op2.Member (n 1) (N b))))
in_rest = refl

in_made : member_changed g y (bi Op2.Member (n 1) (fn Fun.ToSet (N c))) ≡ Some (bi Op2.Member (n 1) (N c))
in_made = refl

-- a list has no `in`
in_made_of_a_list : member_changed g y (bi Op2.Member (n 1) (fn Fun.ToSet (node_ex false matrix_literal (es2 (n 1) (n 2)))))
    ≡ Some (fn Fun.Or (comp_ex (bi Op2.Eq (N y) (n 1)) (from (name_pat y) (node_ex false matrix_literal (es2 (n 1) (n 2))) no_gens)))
in_made_of_a_list = refl

in_two : member_listed (bi Op2.Member (N x) (set2 (n 1) (n 2))) ≡ Some (fn Fun.Or (node_ex false matrix_literal (es2 (bi Op2.Eq (N x) (n 1)) (bi Op2.Eq (N x) (n 2)))))
in_two = refl

-- a term without a value
abbrev pub nothing : Ex
nothing = bi Op2.Div (n 1) (n 0)

abbrev pub nowhere : Ex
nowhere = node_ex false set_literal (es1 nothing)

abbrev pub one_set : Ex
one_set = node_ex false set_literal (es1 (n 1))

-- `1 in ({1} union {1/0})` is false, and `1 in {1} \/ 1 in {1/0}` is true
union_without_value : (meaning (bi Op2.Member (n 1) (bi Op2.Union one_set nowhere)) empty_env ≡ Some (truth false))
    × (meaning (bi Op2.Or (bi Op2.Member (n 1) one_set) (bi Op2.Member (n 1) nowhere)) empty_env ≡ Some (truth true))
union_without_value = (refl, refl)

-- so it is with `1 in {1, 1/0}`
literal_without_value : (meaning (bi Op2.Member (n 1) (set2 (n 1) nothing)) empty_env ≡ Some (truth false))
    × (meaning (fn Fun.Or (node_ex false matrix_literal (es2 (bi Op2.Eq (n 1) (n 1)) (bi Op2.Eq (n 1) nothing)))) empty_env ≡ Some (truth true))
literal_without_value = (refl, refl)

-- ---- inclusion and equality

not_equal : unequal (bi Op2.Ne (N a) (N b)) ≡ Some (ex1 true Op1.Not (bi Op2.Eq (N a) (N b)))
not_equal = refl

-- `1/0 != 1` is false, and `!(1/0 = 1)` is true
unequal_without_value : (meaning (bi Op2.Ne nothing (n 1)) empty_env ≡ Some (truth false)) × (meaning (ex1 true Op1.Not (bi Op2.Eq nothing (n 1))) empty_env ≡ Some (truth true))
unequal_without_value = (refl, refl)

includes : included_turned (bi Op2.SupsetEq (N a) (N b)) ≡ Some (bi Op2.SubsetEq (N b) (N a))
includes = refl

properly : included_strictly g x (bi Op2.Subset (N a) (N b)) ≡ Some (bi Op2.And (bi Op2.SubsetEq (N a) (N b)) (ex1 true Op1.Not (bi Op2.SubsetEq (N b) (N a))))
properly = refl

sets_included : included_members g x (bi Op2.SubsetEq (N a) (N b)) ≡ Some (every x (N a) (bi Op2.Member (N x) (N b)))
sets_included = refl

multisets_not_so : included_members g x (bi Op2.SubsetEq (N c) (N c)) ≡ None
multisets_not_so = refl

multisets_included : included_often x (bi Op2.SubsetEq (N c) (N c)) ≡ Some (every x (N c) (bi Op2.Le (frequency (N c) (N x)) (frequency (N c) (N x))))
multisets_included = refl

-- `{} subsetEq {1/0}` is false, and `and([x in {1/0} | x <- {}])` is true
included_without_value : (meaning (bi Op2.SubsetEq (node_ex false set_literal no_exs) nowhere) empty_env ≡ Some (truth false))
    × (meaning (every x (node_ex false set_literal no_exs) (bi Op2.Member (N x) nowhere)) empty_env ≡ Some (truth true))
included_without_value = (refl, refl)

sets_equal : equal_members g x (bi Op2.Eq (N a) (N b)) ≡ Some (bi Op2.And (every x (N a) (bi Op2.Member (N x) (N b))) (every x (N b) (bi Op2.Member (N x) (N a))))
sets_equal = refl

multisets_equal : equal_often g x (bi Op2.Eq (N c) (N c))
    ≡ Some (bi Op2.And (every x (fn Fun.ToSet (N c)) (bi Op2.Eq (frequency (N c) (N x)) (frequency (N c) (N x)))) (every x (N c) (bi Op2.Member (N x) (N c))))
multisets_equal = refl

-- ---- sizes

size_added : size_term g x (ex1 false Op1.Bar (N a)) ≡ Some (fn Fun.Sum (comp_ex (n 1) (from (name_pat x) (N a) no_gens)))
size_added = refl

-- `|-1|` is no size
no_size : size_term g x (ex1 false Op1.Bar (n 1)) ≡ None
no_size = refl

occurrences : frequency_term x (frequency (N c) (n 1)) ≡ Some (fn Fun.Sum (comp_ex (n 1) (from (name_pat x) (N c) (cond (bi Op2.Eq (N x) (n 1)) no_gens))))
occurrences = refl

-- `freq(mset(), 1/0)` has nothing, and `sum([1 | x <- mset(), x = 1/0])` is 0
frequency_without_value : (meaning (frequency (node_ex false mset_literal no_exs) nothing) empty_env ≡ None)
    × (meaning (fn Fun.Sum (comp_ex (n 1) (from (name_pat x) (node_ex false mset_literal no_exs) (cond (bi Op2.Eq (N x) nothing) no_gens)))) empty_env ≡ Some (number (pos 0)))
frequency_without_value = (refl, refl)

-- ---- listings

two_listed : listing g x (set2 (n 1) (N y)) ≡ Some (record { gens = no_gens; item = n 1 } ∷ record { gens = cond (ex1 true Op1.Not (bi Op2.Eq (n 1) (N y))) no_gens; item = N y } ∷ [])
two_listed = refl

union_listed : listing g x (bi Op2.Union (N a) (N b)) ≡ Some (those x (N a) no_gens ∷ those x (N b) (cond (ex1 true Op1.Not (bi Op2.Member (N x) (N a))) no_gens) ∷ [])
union_listed = refl

difference_listed : listing g x (bi Op2.Minus (N a) (N b)) ≡ Some (those x (N a) (cond (ex1 true Op1.Not (bi Op2.Member (N x) (N b))) no_gens) ∷ [])
difference_listed = refl

-- a difference of numbers has no listing
numbers_not_listed : listing g x (bi Op2.Minus (n 2) (n 1)) ≡ None
numbers_not_listed = refl
