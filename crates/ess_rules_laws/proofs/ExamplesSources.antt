-- Worked examples of the rules for components and for generators, and where they would change a meaning.
use Rattle.std.specs.Prelude.{◌≡◌, refl, true, false, [], ◌∷◌, pos, Some, None}
use Rattle.ess_semantics.specs.declared.words.Op1.{Op1}
use Rattle.ess_semantics.specs.declared.words.Op2.{Op2}
use Rattle.ess_semantics.specs.declared.words.Fun.{Fun}
use Rattle.ess_semantics.specs.Values.{a_function, a_tuple, a_record, truth, number}
use Rattle.ess_semantics.specs.Trees.{truth_ex, name_pat, Ex, comp_ex, ex1, no_gens, from, cond}
use Rattle.ess_semantics.specs.Types.{Ty, bool_ty, int_ty, compound, no_tys, more_tys}
use Rattle.ess_semantics.specs.Meaning.{empty_env, meaning}
use Rattle.ess_semantics.proofs.Shorthands.{N, n, es2, bi, fn}
use Rattle.ess_rules_laws.specs.ComponentRules.{component_of, equal_components, field_of, equal_fields}
use Rattle.ess_rules_laws.specs.GeneratorRules.{generate}
use Rattle.ess_rules_laws.specs.InclusionRules.{every, equal_pairs}
use Rattle.ess_rules_laws.specs.SpliceRules.{splice}
use Rattle.ess_rules_laws.specs.SourceRules.{fold_union, fold_items, list_of}
use Rattle.ess_rules_laws.proofs.ExamplesRules.{a, b, c, x, y, g, nothing, nowhere, one_set}

-- ---- components

-- a pair of a number and a truth value
abbrev pair_ty : Ty
pair_ty = compound a_tuple (more_tys int_ty (more_tys bool_ty no_tys))

pairs_equal : equal_components ((x, pair_ty) ∷ (y, pair_ty) ∷ []) a (bi Op2.Eq (N x) (N y))
    ≡ Some (bi Op2.And (bi Op2.Eq (component_of int_ty 1 (N x)) (component_of int_ty 1 (N y)))
    (bi Op2.And (bi Op2.Eq (component_of bool_ty 2 (N x)) (component_of bool_ty 2 (N y))) (truth_ex true)))
pairs_equal = refl

-- Where x and y have no value `x = y` is false, and `x[1] = y[1]` of truth values is true.
components_without_value : (meaning (bi Op2.Eq (N x) (N y)) empty_env ≡ Some (truth false))
    × (meaning (bi Op2.Eq (component_of bool_ty 1 (N x)) (component_of bool_ty 1 (N y))) empty_env ≡ Some (truth true))
components_without_value = (refl, refl)

abbrev record_ty : Ty
record_ty = compound (a_record (a ∷ b ∷ [])) (more_tys int_ty (more_tys int_ty no_tys))

records_equal : equal_fields ((x, record_ty) ∷ (y, record_ty) ∷ []) c (bi Op2.Eq (N x) (N y))
    ≡ Some (bi Op2.And (bi Op2.Eq (field_of int_ty a (N x)) (field_of int_ty a (N y))) (bi Op2.And (bi Op2.Eq (field_of int_ty b (N x)) (field_of int_ty b (N y))) (truth_ex true)))
records_equal = refl

abbrev function_ty : Ty
function_ty = compound a_function (more_tys int_ty (more_tys int_ty no_tys))

functions_equal : equal_pairs ((a, function_ty) ∷ (b, function_ty) ∷ []) x (bi Op2.Eq (N a) (N b))
    ≡ Some (bi Op2.And (every x (N a) (bi Op2.Member (N x) (fn Fun.ToRelation (N b)))) (every x (N b) (bi Op2.Member (N x) (fn Fun.ToRelation (N a)))))
functions_equal = refl

-- ---- splices

-- `[x + 1 | x <- [y * 2 | y <- a], x = 4]`
spliced : splice (comp_ex (bi Op2.Plus (N x) (n 1)) (from (name_pat x) (comp_ex (bi Op2.Times (N y) (n 2)) (from (name_pat y) (N a) no_gens)) (cond (bi Op2.Eq (N x) (n 4)) no_gens)))
    ≡ Some (comp_ex (bi Op2.Plus (bi Op2.Times (N y) (n 2)) (n 1)) (from (name_pat y) (N a) (cond (bi Op2.Eq (bi Op2.Times (N y) (n 2)) (n 4)) no_gens)))
spliced = refl

-- `sum([1 | x <- [1/0 | y <- {1}]])` has nothing, and `sum([1 | y <- {1}])` is 1
splice_without_value : (meaning (fn Fun.Sum (comp_ex (n 1) (from (name_pat x) (comp_ex nothing (from (name_pat y) one_set no_gens)) no_gens))) empty_env ≡ None)
    × (meaning (fn Fun.Sum (comp_ex (n 1) (from (name_pat y) one_set no_gens))) empty_env ≡ Some (number (pos 1)))
splice_without_value = (refl, refl)

-- ---- generators

abbrev sum_over : Ex → Ex
sum_over s = comp_ex (N x) (from (name_pat x) s no_gens)

over_both : generate g (sum_over (bi Op2.Intersect (N a) (N b))) ≡ Some (comp_ex (N x) (from (name_pat x) (N a) (cond (bi Op2.Member (N x) (N b)) no_gens)))
over_both = refl

over_set : generate g (sum_over (fn Fun.ToSet (N a))) ≡ Some (sum_over (N a))
over_set = refl

over_multiset : generate g (sum_over (fn Fun.ToSet (N c))) ≡ None
over_multiset = refl

-- `[x | x <- {1} intersect {1/0}]` has nothing, and `[x | x <- {1}, x in {1/0}]` has no item
both_without_value : (meaning (fn Fun.Sum (sum_over (bi Op2.Intersect one_set nowhere))) empty_env ≡ None)
    × (meaning (fn Fun.Sum (comp_ex (N x) (from (name_pat x) one_set (cond (bi Op2.Member (N x) nowhere) no_gens)))) empty_env ≡ Some (number (pos 0)))
both_without_value = (refl, refl)

-- ---- sources

-- `sum([x | x <- a union b])`
union_parted : fold_union g (fn Fun.Sum (sum_over (bi Op2.Union (N a) (N b))))
    ≡ Some (fn Fun.Sum (list_of (es2 (fn Fun.Sum (sum_over (N a))) (fn Fun.Sum (comp_ex (N x) (from (name_pat x) (N b) (cond (ex1 true Op1.Not (bi Op2.Member (N x) (N a))) no_gens)))))))
union_parted = refl

-- `and([x = 1 | x <- [1, y]])`
items_parted : fold_items (fn Fun.And (comp_ex (bi Op2.Eq (N x) (n 1)) (from (name_pat x) (list_of (es2 (n 1) (N y))) no_gens)))
    ≡ Some (fn Fun.And (list_of (es2 (fn Fun.And (comp_ex (bi Op2.Eq (n 1) (n 1)) no_gens)) (fn Fun.And (comp_ex (bi Op2.Eq (N y) (n 1)) no_gens)))))
items_parted = refl

-- `min` is no fold
min_not_parted : fold_items (fn Fun.Min (sum_over (list_of (es2 (n 1) (N y))))) ≡ None
min_not_parted = refl

-- `or([true | x <- {1} union {1/0}])` is false, and so is one of its parts, but the other one is true
union_parts_without_value : (meaning (fn Fun.Or (comp_ex (truth_ex true) (from (name_pat x) (bi Op2.Union one_set nowhere) no_gens))) empty_env ≡ Some (truth false))
    × (meaning (fn Fun.Or (comp_ex (truth_ex true) (from (name_pat x) one_set no_gens))) empty_env ≡ Some (truth true))
union_parts_without_value = (refl, refl)
