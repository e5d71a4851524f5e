-- Worked examples of the shorter rules of sizes and frequencies, and of the rules of `in` what is made of a function.
use Rattle.std.specs.Prelude.{◌≡◌, refl, false, [], ◌∷◌, pos, codes, Some, None}
use Rattle.ess_semantics.specs.declared.words.Op1.{Op1}
use Rattle.ess_semantics.specs.declared.words.Op2.{Op2}
use Rattle.ess_semantics.specs.declared.words.Fun.{Fun}
use Rattle.ess_semantics.specs.Values.{Text, number, a_set, a_mset, a_function, a_partition}
use Rattle.ess_semantics.specs.Names.{Names}
use Rattle.ess_semantics.specs.Trees.{name_pat, set_literal, mset_literal, matrix_literal, Ex, node_ex, comp_ex, ex1, no_exs, no_gens, from}
use Rattle.ess_semantics.specs.Types.{Ty, int_ty, compound1, compound2}
use Rattle.ess_semantics.specs.Meaning.{empty_env, meaning}
use Rattle.ess_semantics.proofs.Shorthands.{N, n, es2, bi, fn, fn2}
use Rattle.ess_rules_laws.specs.InclusionRules.{frequency}
use Rattle.ess_rules_laws.specs.ComponentRules.{component_of}
use Rattle.ess_rules_laws.specs.FunctionMembershipRules.{pair_ex, member_of_function, member_related}
use Rattle.ess_rules_laws.specs.ShortSizeRules.{size_made, frequency_made, frequency_listed}

abbrev pub f : Text
f = codes "f"

abbrev pub s : Text
s = codes "s"

abbrev pub m : Text
m = codes "m"

abbrev pub p : Text
p = codes "p"

abbrev pub x : Text
x = codes "x"

-- a function f, a set s, a multiset m, a partition p
abbrev pub g : Names Ty
g = (f, compound2 a_function int_ty int_ty) ∷ (s, compound1 a_set int_ty) ∷ (m, compound1 a_mset int_ty) ∷ (p, compound1 a_partition int_ty) ∷ []

-- The size.
abbrev pub size : Ex → Ex
size e = ex1 false Op1.Bar e

-- ---- sizes

arguments_counted : size_made g x (size (fn Fun.Defined (N f))) ≡ Some (size (N f))
arguments_counted = refl

pairs_counted : size_made g x (size (fn Fun.ToRelation (N f))) ≡ Some (size (N f))
pairs_counted = refl

members_counted : size_made g x (size (fn Fun.ToMSet (N s))) ≡ Some (size (N s))
members_counted = refl

parts_counted : size_made g x (size (fn Fun.Parts (N p))) ≡ Some (fn Fun.Sum (comp_ex (n 1) (from (name_pat x) (N p) no_gens)))
parts_counted = refl

-- a multiset may have fewer members than items
repeats_not_counted : size_made g x (size (fn Fun.ToSet (N m))) ≡ None
repeats_not_counted = refl

-- so `|toSet(mset(1, 1))|` is 1, and `|mset(1, 1)|` is 2
repeats : (meaning (size (fn Fun.ToSet (node_ex false mset_literal (es2 (n 1) (n 1))))) empty_env ≡ Some (number (pos 1)))
    × (meaning (size (node_ex false mset_literal (es2 (n 1) (n 1)))) empty_env ≡ Some (number (pos 2)))
repeats = (refl, refl)

-- ---- frequencies

once_or_never : frequency_made g x (frequency (fn Fun.ToMSet (N s)) (n 1)) ≡ Some (fn Fun.ToInt (bi Op2.Member (n 1) (N s)))
once_or_never = refl

-- of a multiset it may be more
more_often : frequency_made g x (frequency (fn Fun.ToMSet (N m)) (n 1)) ≡ None
more_often = refl

each_compared : frequency_listed (frequency (node_ex false mset_literal (es2 (n 1) (N x))) (n 2))
    ≡ Some (fn Fun.Sum (node_ex false matrix_literal (es2 (fn Fun.ToInt (bi Op2.Eq (n 1) (n 2))) (fn Fun.ToInt (bi Op2.Eq (N x) (n 2))))))
each_compared = refl

-- `freq(toMSet({}), 1/0)` has nothing, and `toInt(1/0 in {})` is 0
frequency_without_value : (meaning (frequency (fn Fun.ToMSet (node_ex false set_literal no_exs)) (bi Op2.Div (n 1) (n 0))) empty_env ≡ None)
    × (meaning (fn Fun.ToInt (bi Op2.Member (bi Op2.Div (n 1) (n 0)) (node_ex false set_literal no_exs))) empty_env ≡ Some (number (pos 0)))
frequency_without_value = (refl, refl)

-- ---- membership

is_argument : member_of_function g x (bi Op2.Member (n 1) (fn Fun.Defined (N f))) ≡ Some (fn Fun.Or (comp_ex (bi Op2.Eq (component_of int_ty 1 (N x)) (n 1)) (from (name_pat x) (N f) no_gens)))
is_argument = refl

is_result : member_of_function g x (bi Op2.Member (n 1) (fn Fun.Range (N f))) ≡ Some (fn Fun.Or (comp_ex (bi Op2.Eq (component_of int_ty 2 (N x)) (n 1)) (from (name_pat x) (N f) no_gens)))
is_result = refl

is_source : member_of_function g x (bi Op2.Member (n 1) (fn2 Fun.PreImage (N f) (n 2))) ≡ Some (bi Op2.Member (pair_ex (n 1) (n 2)) (fn Fun.ToRelation (N f)))
is_source = refl

is_pair : member_related x (bi Op2.Member (pair_ex (n 1) (n 2)) (fn Fun.ToRelation (N f))) ≡ Some (fn Fun.Or (comp_ex (bi Op2.Eq (N x) (pair_ex (n 1) (n 2))) (from (name_pat x) (N f) no_gens)))
is_pair = refl

-- a set has no arguments
no_argument : member_of_function g x (bi Op2.Member (n 1) (fn Fun.Defined (N s))) ≡ None
no_argument = refl
