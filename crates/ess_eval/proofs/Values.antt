-- What a generator over a value runs over, kind by kind.
use Rattle.std.proofs.Common.{◌≡◌, refl, ap, sym, ◌∙◌, List, [], ◌∷◌, map, Option, Some, None}
use Rattle.ess_semantics.specs.Lists.{and_then}
use Rattle.ess_semantics.specs.Names.{Names}
use Rattle.ess_semantics.specs.Operators.{list_value}
use Rattle.ess_semantics.specs.Meaning.{bind, bind_all, matrix_value}
use Rattle.ess_core.specs.TreeViews.{pure_pat, pats_of}
use Rattle.ess_core.specs.declared.expressions.Pat.{Pat}
use Rattle.ess_core.specs.declared.expressions.Pat.TheVariants as pat
use Rattle.ess_core.proofs.PartEquations.{pure_pat_tuple}
use Rattle.ess_semantics.specs.Values.{Value, to_list, of_list, items_of}
use Rattle.ess_core.specs.ValueViews.{pure_val}
use Rattle.ess_core.specs.declared.values.Val.{Val}
use Rattle.ess_core.specs.declared.values.Val.TheVariants as variant
use Rattle.ess_core.proofs.ValueEquations.{pure_tuple, pure_matrix, pure_set, pure_mset, pure_relation, pure_partition}

-- The parts of a compound value are those that it was made of.
to_list_of_list : (vs : List Value) → to_list (of_list vs) ≡ vs
to_list_of_list [] = refl
to_list_of_list (v ∷ vs) = ap (λ ws. v ∷ ws) (to_list_of_list vs)

pub items_of_tuple : (vs : List Val) → items_of (pure_val (variant.Tuple vs)) ≡ map pure_val vs
items_of_tuple vs = rw (pure_tuple vs) (to_list_of_list (map pure_val vs))

pub items_of_matrix : (is vs : List Val) → items_of (pure_val (variant.Matrix is vs)) ≡ map pure_val vs
items_of_matrix is vs = rw (pure_matrix is vs) (to_list_of_list (map pure_val vs))

pub items_of_set : (vs : List Val) → items_of (pure_val (variant.Set vs)) ≡ map pure_val vs
items_of_set vs = rw (pure_set vs) (to_list_of_list (map pure_val vs))

pub items_of_mset : (vs : List Val) → items_of (pure_val (variant.MSet vs)) ≡ map pure_val vs
items_of_mset vs = rw (pure_mset vs) (to_list_of_list (map pure_val vs))

pub items_of_relation : (vs : List Val) → items_of (pure_val (variant.Relation vs)) ≡ map pure_val vs
items_of_relation vs = rw (pure_relation vs) (to_list_of_list (map pure_val vs))

pub items_of_partition : (vs : List Val) → items_of (pure_val (variant.Partition vs)) ≡ map pure_val vs
items_of_partition vs = rw (pure_partition vs) (to_list_of_list (map pure_val vs))

-- A tuple of patterns binds the parts of a tuple.
pub bind_tuple : (ps : List Pat) (vs : List Val) (g : Names Value)
    → bind (pure_pat (pat.Tuple ps)) (pure_val (variant.Tuple vs)) g ≡ bind_all (pats_of (map pure_pat ps)) (map pure_val vs) g
bind_tuple ps vs g = rw (pure_pat_tuple ps) (ap (λ xs. bind_all (pats_of (map pure_pat ps)) xs g) (items_of_tuple vs))

-- A list holds the items that it was made of.
pub items_of_list : (vs : List Value) → items_of (list_value vs) ≡ vs
items_of_list vs = to_list_of_list vs

-- A matrix of items that each have a value.
pub matrix_there : (o : Option (List Value)) (is : Option (List Value)) (v : Value) → Some v ≡ and_then o (λ xs. Some (list_value xs))
    → and_then o (matrix_value is) ≡ matrix_value is (items_of v)
matrix_there None is v h = cc
matrix_there (Some xs) is v h =
    let e : list_value xs ≡ v = cc in
    ap (matrix_value is) (sym (to_list_of_list xs) ∙ ap items_of e)

-- A matrix of items of which one has no value.
pub matrix_none : (o : Option (List Value)) (is : Option (List Value)) → None ≡ and_then o (λ xs. Some (list_value xs))
    → and_then o (matrix_value is) ≡ None
matrix_none None is h = refl
matrix_none (Some xs) is h = cc

pub ruleset items_of_collections = (items_of_matrix, items_of_set, items_of_mset, items_of_relation, items_of_partition)
