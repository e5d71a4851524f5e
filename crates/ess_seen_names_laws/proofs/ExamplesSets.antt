-- Worked examples of what rules make of sets made of two, and of signs between sets.
use Rattle.std.proofs.Common.{◌≡◌, refl, true, false, [], ◌∷◌, Some, None, codes}
use Rattle.ess_semantics.specs.declared.words.Op1.{Op1}
use Rattle.ess_semantics.specs.declared.words.Op2.{Op2}
use Rattle.ess_semantics.specs.declared.words.Fun.{Fun}
use Rattle.ess_semantics.specs.Values.{Text, a_set}
use Rattle.ess_semantics.specs.Names.{Names}
use Rattle.ess_semantics.specs.Types.{Ty, int_ty, compound1}
use Rattle.ess_semantics.specs.Trees.{name_pat, Ex, name_ex, comp_ex, no_exs, more_exs, Gens, no_gens, over, from, cond, bool_dom, ex1, ex2, fun1}
use Rattle.ess_rules_laws.specs.SourceRules.{list_of}
use Rattle.ess_rules_laws.specs.Listings.{those}
use Rattle.ess_refine_laws.specs.AllRules.{Supply, over_a_source, of_one_source, equal_sets, strictly, in_two, rewrite}
use Rattle.ess_open_rules_laws.specs.OpenRules.{over_one_source, open_rewrite}
use Rattle.ess_seen_names_laws.specs.Shapes.{of_the_first, else_of_the_second, of_the_first_alone, by_two, Shape, equal, strictly_included, in_the_first_alone, in_a_list, alone, opened}

abbrev x : Text
x = codes "x"

abbrev z : Text
z = codes "z"

-- The sets a and b of numbers, and what is said of z.
abbrev a : Ex
a = name_ex (codes "a")

abbrev b : Ex
b = name_ex (codes "b")

abbrev p : Text → Ex
p y = ex2 true Op2.Member (name_ex y) (name_ex (codes "c"))

abbrev types : Names Ty
types = (codes "a", compound1 a_set int_ty) ∷ (codes "b", compound1 a_set int_ty) ∷ []

-- The new name is "x".
abbrev taken : Supply
taken = record { one = x; other = codes "y"; third = codes "w"; parts = []; index_domain = λ e. bool_dom; copy = λ e. e }

-- What is in a and isn't in b.
abbrev not_in_b : Gens
not_in_b = cond (ex1 true Op1.Not (ex2 true Op2.Member (name_ex x) b)) no_gens

-- `and([p(z) | z <- a union b])` becomes `and([and([p(x) | x <- a]), and([p(x) | x <- b, !(x in a)])])`.
abbrev over_union : Ex
over_union = fun1 true Fun.And (comp_ex (p z) (from (name_pat z) (ex2 false Op2.Union a b) no_gens))

abbrev two_folds : Ex
two_folds = fun1 true Fun.And (list_of (more_exs
    (fun1 true Fun.And (comp_ex (p x) (from (name_pat x) a no_gens))) (more_exs
    (fun1 true Fun.And (comp_ex (p x) (from (name_pat x) b (cond (ex1 true Op1.Not (ex2 true Op2.Member (name_ex x) a)) no_gens))))
    no_exs)))

union_in_a_list : rewrite taken types over_a_source over_union ≡ Some two_folds
union_in_a_list = refl

union_shape : Shape x over_union two_folds
union_shape = in_a_list z no_gens (those x a no_gens ∷ those x b (cond (ex1 true Op1.Not (ex2 true Op2.Member (name_ex x) a)) no_gens) ∷ [])
    (by_two of_the_first, (by_two else_of_the_second, tt))

-- There is no one fold of it.
union_not_alone : rewrite taken types of_one_source over_union ≡ None
union_not_alone = refl

-- `and([p(z) | z <- a - b])` becomes `and([p(x) | x <- a, !(x in b)])`.
abbrev over_difference : Ex
over_difference = fun1 true Fun.And (comp_ex (p z) (from (name_pat z) (ex2 false Op2.Minus a b) no_gens))

abbrev one_fold : Ex
one_fold = fun1 true Fun.And (comp_ex (p x) (from (name_pat x) a not_in_b))

difference_alone : rewrite taken types of_one_source over_difference ≡ Some one_fold
difference_alone = refl

difference_shape : Shape x over_difference one_fold
difference_shape = alone z no_gens (by_two of_the_first_alone)

-- Behind `y : bool` it is opened there.
abbrev behind_another : Ex
behind_another =
    fun1 true Fun.And (comp_ex (p z) (over (name_pat (codes "y")) bool_dom (from (name_pat z) (ex2 false Op2.Minus a b) no_gens)))

abbrev opened_there : Ex
opened_there = fun1 true Fun.And (comp_ex (p x) (over (name_pat (codes "y")) bool_dom (from (name_pat x) a not_in_b)))

difference_opened : open_rewrite taken types over_one_source behind_another ≡ Some opened_there
difference_opened = refl

opened_shape : Shape x behind_another opened_there
opened_shape = opened (over (name_pat (codes "y")) bool_dom no_gens) z no_gens (by_two of_the_first_alone)

-- `a = b` becomes `and([x in b | x <- a]) /\ and([x in a | x <- b])`.
abbrev by_members : Ex
by_members = ex2 true Op2.And
    (fun1 true Fun.And (comp_ex (ex2 true Op2.Member (name_ex x) b) (from (name_pat x) a no_gens)))
    (fun1 true Fun.And (comp_ex (ex2 true Op2.Member (name_ex x) a) (from (name_pat x) b no_gens)))

equal_by_members : rewrite taken types equal_sets (ex2 true Op2.Eq a b) ≡ Some by_members
equal_by_members = refl

equal_shape : Shape x (ex2 true Op2.Eq a b) by_members
equal_shape = equal

-- `a subset b` becomes `a subsetEq b /\ !(b subsetEq a)`.
abbrev both_ways : Ex
both_ways = ex2 true Op2.And (ex2 true Op2.SubsetEq a b) (ex1 true Op1.Not (ex2 true Op2.SubsetEq b a))

strict_both_ways : rewrite taken types strictly (ex2 true Op2.Subset a b) ≡ Some both_ways
strict_both_ways = refl

strict_shape : Shape x (ex2 true Op2.Subset a b) both_ways
strict_shape = strictly_included

-- `z in a - b` becomes `z in a /\ !(z in b)`.
abbrev in_one : Ex
in_one = ex2 true Op2.And (ex2 true Op2.Member (name_ex z) a) (ex1 true Op1.Not (ex2 true Op2.Member (name_ex z) b))

in_a_difference : rewrite taken types in_two (ex2 true Op2.Member (name_ex z) (ex2 false Op2.Minus a b)) ≡ Some in_one
in_a_difference = refl

in_a_difference_shape : Shape x (ex2 true Op2.Member (name_ex z) (ex2 false Op2.Minus a b)) in_one
in_a_difference_shape = in_the_first_alone
