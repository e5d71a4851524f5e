-- Worked examples of what terms offer, part by part, and of the folds over it.
use Rattle.std.specs.Prelude.{◌≡◌, refl, true, false, [], ◌∷◌, codes, Some, None}
use Rattle.ess_semantics.specs.declared.words.Op1.{Op1}
use Rattle.ess_semantics.specs.declared.words.Op2.{Op2}
use Rattle.ess_semantics.specs.declared.words.Fun.{Fun}
use Rattle.ess_semantics.specs.Values.{Text, a_function}
use Rattle.ess_semantics.specs.Types.{bool_ty, int_ty, compound2}
use Rattle.ess_semantics.specs.Trees.{matrix_literal, mset_literal, name_pat, Ex, node_ex, comp_ex, ex1, ex2, fun1, no_gens, from, cond}
use Rattle.ess_semantics.proofs.Shorthands.{N, n, es1, es2}
use Rattle.ess_rules_sources.specs.PureAlternatives.{alternative_of}
use Rattle.ess_rules_listings.specs.ListedTerms.{is_not, unless_apart, comprehended, united, common, difference, one_or_two}
use Rattle.ess_rules_listings.specs.Marks.{marks_of, component_by, has_result}
use Rattle.ess_rules_listings.specs.Offered.{offered_by, listed_by, listed_once_by, extremes_by}

abbrev x : Text
x = codes "x"

abbrev y : Text
y = codes "y"

abbrev z : Text
z = codes "z"

-- ---- parts

-- Of a function from truth values to numbers the arguments are truth values; a set has no such marks.
of_a_function : marks_of (Some (compound2 a_function bool_ty int_ty)) ≡ Some (true, false)
of_a_function = refl

of_no_function : marks_of (Some int_ty) ≡ None
of_no_function = refl

-- The pair x has the result 3.
result : has_result false x (n 3) ≡ ex2 true Op2.Eq (component_by false 2 (N x)) (n 3)
result = refl

-- 3 isn't 4.
different : is_not (n 4) (n 3) ≡ ex1 true Op1.Not (ex2 true Op2.Eq (n 4) (n 3))
different = refl

-- Of these the form tells it; a name may be any number.
told : unless_apart (n 4) (n 3) no_gens ≡ no_gens
told = refl

not_told : unless_apart (N x) (n 3) no_gens ≡ cond (is_not (N x) (n 3)) no_gens
not_told = refl

-- A union has the members of the first, and those of the second that the first hasn't.
union : united x (N y) (N z)
    ≡ alternative_of (from (name_pat x) (N y) no_gens) (N x)
    ∷ alternative_of (from (name_pat x) (N z) (cond (ex1 true Op1.Not (ex2 true Op2.Member (N x) (N y))) no_gens)) (N x) ∷ []
union = refl

-- An intersection has the members of the first that the second has, a difference those that it hasn't.
intersection : common x (N y) (N z) ≡ alternative_of (from (name_pat x) (N y) (cond (ex2 true Op2.Member (N x) (N z)) no_gens)) (N x) ∷ []
intersection = refl

without : difference x (N y) (N z)
    ≡ alternative_of (from (name_pat x) (N y) (cond (ex1 true Op1.Not (ex2 true Op2.Member (N x) (N z))) no_gens)) (N x) ∷ []
without = refl

-- What is made of one operand is tried before what is made of two.
of_one : one_or_two (Some (n 3)) (Some (n 3, n 4)) (λ a. Some a) (λ p. Some p.1) ≡ Some (n 3)
of_one = refl

of_two : one_or_two None (Some (n 3, n 4)) (λ a. Some a) (λ p. Some p.1) ≡ Some (n 4)
of_two = refl

-- ---- folds over a source

-- The list of 3 and 4.
abbrev items : Ex
items = node_ex false matrix_literal (es2 (n 3) (n 4))

-- A list literal offers each item; a name offers nothing.
of_a_list : offered_by [] x y z items ≡ Some (alternative_of no_gens (n 3) ∷ alternative_of no_gens (n 4) ∷ [])
of_a_list = refl

of_a_name : offered_by [] x y z (N y) ≡ None
of_a_name = refl

-- `toSet([3])` offers its items once where nothing else does.
of_a_set : offered_by [] x y z (fun1 false Fun.ToSet (comp_ex (n 3) no_gens)) ≡ Some (comprehended (n 3) no_gens)
of_a_set = refl

-- `sum([z | z <- [3, 4]])` is the sum of two sums; only one alternative counts where the word isn't one of folds.
sum : listed_by [] x y z (fun1 false Fun.Sum (comp_ex (N z) (from (name_pat z) items no_gens)))
    ≡ Some (fun1 false Fun.Sum (node_ex false matrix_literal
    (es2 (fun1 false Fun.Sum (comp_ex (n 3) no_gens)) (fun1 false Fun.Sum (comp_ex (n 4) no_gens)))))
sum = refl

not_of_two : listed_once_by [] x y z (fun1 false Fun.Min (comp_ex (N z) (from (name_pat z) items no_gens))) ≡ None
not_of_two = refl

least_of_one : listed_once_by [] x y z
    (fun1 false Fun.Min (comp_ex (N z) (from (name_pat z) (node_ex false mset_literal (es1 (n 3))) no_gens)))
    ≡ Some (fun1 false Fun.Min (comp_ex (n 3) no_gens))
least_of_one = refl

-- The least over no alternatives isn't offered under a Boolean word, nor with a second operand.
not_marked : extremes_by [] x y z (fun1 true Fun.Min (comp_ex (N z) (from (name_pat z) items no_gens))) ≡ None
not_marked = refl
