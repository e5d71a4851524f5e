-- The type and the value of a literal side by side, from those of its parts.
use Rattle.std.proofs.Common.{◌≡◌, refl, sym, ap, ◌∙◌, ℕ, ◌+◌, ◌<◌, ◌≤◌, Bool, true, false, if◌then◌else◌, List, [], ◌∷◌, ◌++◌, length, map, drop, get_or, Option, Some, None, option_map, nat_eq}
use Rattle.std.proofs.lemmas.List.{at_drop_more, at_drop_all, map_push}
use Rattle.ess_semantics.specs.Lists.{and_then, when, all_some, is_some_and}
use Rattle.ess_semantics.specs.Values.{Value, a_tuple, a_matrix, of_list, matrix, pair}
use Rattle.std.specs.Prelude.{is_some}
use Rattle.ess_semantics.specs.Types.{Ty, compound2, join, join_all, type_of_dom}
use Rattle.ess_semantics.specs.Trees as pure
use Rattle.ess_semantics.specs.Trees.{Op, tuple_literal, set_literal, mset_literal, function_literal, relation_literal, partition_literal, matrix_literal, record_literal, node_ex, matrix_ex, no_exs, more_exs, Exs, Dom}
use Rattle.ess_semantics.specs.OperatorTypes.{type_of_op}
use Rattle.ess_semantics.specs.Operators.{value_of_op}
use Rattle.ess_semantics.specs.Meaning.{Env, members_in, matrix_value, domain_of}
use Rattle.ess_semantics.specs.Literals.{type_of_literal, types_of_literals, value_of_literal, values_of_literals, is_literal_index, literal_value}
use Rattle.ess_core.specs.TreeViews.{exs_of, pure_ex, pure_exs, pure_pair_ex}
use Rattle.ess_core.specs.ValueViews.{pure_val, pure_pair}
use Rattle.ess_core.specs.declared.expressions.Ex.{Ex}
use Rattle.ess_core.specs.declared.expressions.PairEx.{PairEx}
use Rattle.ess_core.specs.declared.values.Val.{Val}
use Rattle.ess_core.specs.declared.values.Pair.{Pair}
use Rattle.ess_values.specs.Shapes.{pure_shape}
use Rattle.ess_values.specs.declared.shapes.Shape.{Shape}
use Rattle.ess_values.specs.TypedLiterals.{both, typed_literal, typed_literals, typed_node, typed_matrix}
use Rattle.ess_values.proofs.Ahead.{both_ahead, both_all, both_one}

-- ---- two answers side by side

both_none : {A B : Type 0} (o : Option A) → both {A = A} {B = B} o None ≡ None
both_none None = refl
both_none (Some x) = refl

both_then : {A B C D : Type 0} (o : Option A) (p : Option B) (f : A → Option C) (g : B → Option D) → both (and_then o f) (and_then p g) ≡ and_then (both o p) (λ x. both (f x.0) (g x.1))
both_then None p f g = refl
both_then (Some x) None f g = both_none (f x)
both_then (Some x) (Some y) f g = refl

-- ---- compound literals

pub tuple_is_read : (es : Exs) (env : Env) → typed_literal (node_ex false tuple_literal es) env ≡ and_then (typed_literals es env) (typed_node tuple_literal)
tuple_is_read es env = both_then (all_some (types_of_literals es env)) (all_some (values_of_literals es env)) (type_of_op tuple_literal) (value_of_op tuple_literal)

pub set_is_read : (es : Exs) (env : Env) → typed_literal (node_ex false set_literal es) env ≡ and_then (typed_literals es env) (typed_node set_literal)
set_is_read es env = both_then (all_some (types_of_literals es env)) (all_some (values_of_literals es env)) (type_of_op set_literal) (value_of_op set_literal)

pub mset_is_read : (es : Exs) (env : Env) → typed_literal (node_ex false mset_literal es) env ≡ and_then (typed_literals es env) (typed_node mset_literal)
mset_is_read es env = both_then (all_some (types_of_literals es env)) (all_some (values_of_literals es env)) (type_of_op mset_literal) (value_of_op mset_literal)

pub function_is_read : (es : Exs) (env : Env) → typed_literal (node_ex false function_literal es) env ≡ and_then (typed_literals es env) (typed_node function_literal)
function_is_read es env = both_then (all_some (types_of_literals es env)) (all_some (values_of_literals es env)) (type_of_op function_literal) (value_of_op function_literal)

pub relation_is_read : (es : Exs) (env : Env) → typed_literal (node_ex false relation_literal es) env ≡ and_then (typed_literals es env) (typed_node relation_literal)
relation_is_read es env = both_then (all_some (types_of_literals es env)) (all_some (values_of_literals es env)) (type_of_op relation_literal) (value_of_op relation_literal)

pub partition_is_read : (es : Exs) (env : Env) → typed_literal (node_ex false partition_literal es) env ≡ and_then (typed_literals es env) (typed_node partition_literal)
partition_is_read es env = both_then (all_some (types_of_literals es env)) (all_some (values_of_literals es env)) (type_of_op partition_literal) (value_of_op partition_literal)

pub list_is_read : (es : Exs) (env : Env) → typed_literal (node_ex false matrix_literal es) env ≡ and_then (typed_literals es env) (typed_node matrix_literal)
list_is_read es env = both_then (all_some (types_of_literals es env)) (all_some (values_of_literals es env)) (type_of_op matrix_literal) (value_of_op matrix_literal)

-- ---- a matrix with its index domain

then_none : {A B : Type 0} (o : Option A) → and_then {A = A} {B = B} o (λ x. None) ≡ None
then_none None = refl
then_none (Some x) = refl

-- The type and the members of an index domain with these members, where they are so many.
abbrev pub ranged_index : Dom → Option (List Value) → ℕ → Option (Ty × List Value)
ranged_index d m n = and_then m (λ is. when (nat_eq (length is) n) (type_of_dom d, is))

-- The type and the value of a matrix with an index and items.
abbrev pub matrix_from : List Value → Ty → Ty × List Value → Option (Ty × Value)
matrix_from vs t i = Some (compound2 a_matrix i.0 t, matrix (of_list i.1) (of_list vs))

matrix_fits : (d : Dom) (t : Ty) (is vs : List Value) (b : Bool) → both (Some (compound2 a_matrix (type_of_dom d) t)) (when b (matrix (of_list is) (of_list vs))) ≡ and_then (when b (type_of_dom d, is)) (matrix_from vs t)
matrix_fits d t is vs true = refl
matrix_fits d t is vs false = refl

matrix_ranged : (d : Dom) (m : Option (List Value)) (t : Ty) (vs : List Value) → both (Some (compound2 a_matrix (type_of_dom d) t)) (matrix_value m vs) ≡ and_then (ranged_index d m (length vs)) (matrix_from vs t)
matrix_ranged d None t vs = refl
matrix_ranged d (Some is) t vs = matrix_fits d t is vs (nat_eq (length is) (length vs))

matrix_typed : (d : Dom) (o : Option Ty) (m : Option (List Value)) (vs : List Value)
    → both (and_then o (λ t. Some (compound2 a_matrix (type_of_dom d) t))) (matrix_value m vs) ≡ and_then o (λ t. and_then (ranged_index d m (length vs)) (matrix_from vs t))
matrix_typed d None m vs = refl
matrix_typed d (Some t) m vs = matrix_ranged d m t vs

-- The index domain, where it is a literal.
abbrev pub index_where : Bool → Dom → Option (List Value) → ℕ → Option (Ty × List Value)
index_where b d m n = if b then ranged_index d m n else None

matrix_parted : (d : Dom) (m : Option (List Value)) (b : Bool) (o : Option (List Ty)) (p : Option (List Value))
    → both (if b then and_then o (λ ts. and_then (join_all ts) (λ t. Some (compound2 a_matrix (type_of_dom d) t))) else None) (and_then p (matrix_value m))
    ≡ and_then (both o p) (λ q. and_then (join_all q.0) (λ t. and_then (index_where b d m (length q.1)) (matrix_from q.1 t)))
matrix_parted d m true None p = refl
matrix_parted d m true (Some ts) None = both_none (and_then (join_all ts) (λ t. Some (compound2 a_matrix (type_of_dom d) t)))
matrix_parted d m true (Some ts) (Some vs) = matrix_typed d (join_all ts) m vs
matrix_parted d m false None p = refl
matrix_parted d m false (Some ts) None = refl
matrix_parted d m false (Some ts) (Some vs) = sym (then_none (join_all ts))

pub matrix_is_read : (es : Exs) (d : Dom) (env : Env) → typed_literal (matrix_ex es d) env ≡ and_then (typed_literals es env) (typed_matrix d env)
matrix_is_read es d env = matrix_parted d (members_in (domain_of d env)) (is_literal_index d) (all_some (types_of_literals es env)) (all_some (values_of_literals es env))

-- ---- several literals

-- One more type and value in front of others.
abbrev pub typed_more : Ty × Value → List Ty × List Value → List Ty × List Value
typed_more x p = (x.0 ∷ p.0, x.1 ∷ p.1)

pub literals_more : (e : pure.Ex) (es : Exs) (env : Env)
    → typed_literals (more_exs e es) env ≡ and_then (typed_literal e env) (λ x. option_map (typed_more x) (typed_literals es env))
literals_more e es env =
    both_then (type_of_literal e env) (value_of_literal e env) (λ t. option_map (λ ts. t ∷ ts) (all_some (types_of_literals es env))) (λ v. option_map (λ vs. v ∷ vs) (all_some (values_of_literals es env)))
    ∙ ap (and_then (typed_literal e env)) (λ i x. inner (all_some (types_of_literals es env)) (all_some (values_of_literals es env)) x i)
  where
    inner : (o : Option (List Ty)) (p : Option (List Value)) (x : Ty × Value)
        → both (option_map (λ ts. x.0 ∷ ts) o) (option_map (λ vs. x.1 ∷ vs) p) ≡ option_map (typed_more x) (both o p)
    inner None p x = refl
    inner (Some ts) None x = refl
    inner (Some ts) (Some vs) x = refl

module _ {A B : Type 0} (f : A → pure.Ex) (g : B → Value) where
  one_step : (xs : List A) (i : ℕ) (x : A) (env : Env) (ts us : List Shape) (vs ws : List B) (s : Shape) (v : B) → i < length xs → x ≡ get_or xs i x
      → Some (pure_shape s, g v) ≡ typed_literal (f x) env → us ≡ ts ++ s ∷ [] → ws ≡ vs ++ v ∷ []
      → both_ahead (map pure_shape us) (map g ws) (typed_literals (exs_of (map f (drop (i + 1) xs))) env) ≡ both_ahead (map pure_shape ts) (map g vs) (typed_literals (exs_of (map f (drop i xs))) env)
  one_step xs i x env ts us vs ws s v h is e p q =
      ap (λ l. both_ahead (map pure_shape l) (map g ws) (typed_literals (exs_of (map f (drop (i + 1) xs))) env)) p
      ∙ ap (λ l. both_ahead (map pure_shape (ts ++ s ∷ [])) (map g l) (typed_literals (exs_of (map f (drop (i + 1) xs))) env)) q
      ∙ ap (λ l. both_ahead l (map g (vs ++ v ∷ [])) (typed_literals (exs_of (map f (drop (i + 1) xs))) env)) (map_push pure_shape ts s)
      ∙ ap (λ l. both_ahead (map pure_shape ts ++ pure_shape s ∷ []) l (typed_literals (exs_of (map f (drop (i + 1) xs))) env)) (map_push g vs v)
      ∙ both_one (map pure_shape ts) (map g vs) (pure_shape s) (g v) (typed_literals (exs_of (map f (drop (i + 1) xs))) env)
      ∙ ap (λ o. both_ahead (map pure_shape ts) (map g vs) (and_then o (λ y. option_map (typed_more y) (typed_literals (exs_of (map f (drop (i + 1) xs))) env)))) e
      ∙ ap (both_ahead (map pure_shape ts) (map g vs))
      (sym (at_drop_more (λ l. typed_literals (exs_of (map f l)) env) xs i x h
      ∙ ap (λ y. typed_literals (more_exs (f y) (exs_of (map f (drop (i + 1) xs)))) env) (sym is)
      ∙ literals_more (f x) (exs_of (map f (drop (i + 1) xs))) env))

  one_none : (xs : List A) (i : ℕ) (x : A) (env : Env) (ts : List Shape) (vs : List B) → i < length xs → x ≡ get_or xs i x → None ≡ typed_literal (f x) env
      → both_ahead (map pure_shape ts) (map g vs) (typed_literals (exs_of (map f (drop i xs))) env) ≡ None
  one_none xs i x env ts vs h is e =
      ap (both_ahead (map pure_shape ts) (map g vs))
      (at_drop_more (λ l. typed_literals (exs_of (map f l)) env) xs i x h
      ∙ ap (λ y. typed_literals (more_exs (f y) (exs_of (map f (drop (i + 1) xs)))) env) (sym is)
      ∙ literals_more (f x) (exs_of (map f (drop (i + 1) xs))) env
      ∙ ap (λ o. and_then o (λ y. option_map (typed_more y) (typed_literals (exs_of (map f (drop (i + 1) xs))) env))) (sym e))

  one_end : (xs : List A) (i : ℕ) (env : Env) (ts : List Shape) (vs : List B) → length xs ≤ i
      → both_ahead (map pure_shape ts) (map g vs) (typed_literals (exs_of (map f (drop i xs))) env) ≡ Some (map pure_shape ts, map g vs)
  one_end xs i env ts vs h = at_drop_all (λ l. both_ahead (map pure_shape ts) (map g vs) (typed_literals (exs_of (map f l)) env)) xs i h ∙ both_all (map pure_shape ts) (map g vs)

pub literals_step : (xs : List Ex) (i : ℕ) (x : Ex) (env : Env) (ts us : List Shape) (vs ws : List Val) (s : Shape) (v : Val) → i < length xs → x ≡ get_or xs i x
    → Some (pure_shape s, pure_val v) ≡ typed_literal (pure_ex x) env → us ≡ ts ++ s ∷ [] → ws ≡ vs ++ v ∷ []
    → both_ahead (map pure_shape us) (map pure_val ws) (typed_literals (pure_exs (drop (i + 1) xs)) env) ≡ both_ahead (map pure_shape ts) (map pure_val vs) (typed_literals (pure_exs (drop i xs)) env)
literals_step = one_step pure_ex pure_val

pub literals_none : (xs : List Ex) (i : ℕ) (x : Ex) (env : Env) (ts : List Shape) (vs : List Val) → i < length xs → x ≡ get_or xs i x → None ≡ typed_literal (pure_ex x) env
    → both_ahead (map pure_shape ts) (map pure_val vs) (typed_literals (pure_exs (drop i xs)) env) ≡ None
literals_none = one_none pure_ex pure_val

pub literals_end : (xs : List Ex) (i : ℕ) (env : Env) (ts : List Shape) (vs : List Val) → length xs ≤ i
    → both_ahead (map pure_shape ts) (map pure_val vs) (typed_literals (pure_exs (drop i xs)) env) ≡ Some (map pure_shape ts, map pure_val vs)
literals_end = one_end pure_ex pure_val

pub pairs_step : (xs : List PairEx) (i : ℕ) (x : PairEx) (env : Env) (ts us : List Shape) (vs ws : List Pair) (s : Shape) (v : Pair) → i < length xs → x ≡ get_or xs i x
    → Some (pure_shape s, pure_pair v) ≡ typed_literal (pure_pair_ex x) env → us ≡ ts ++ s ∷ [] → ws ≡ vs ++ v ∷ []
    → both_ahead (map pure_shape us) (map pure_pair ws) (typed_literals (exs_of (map pure_pair_ex (drop (i + 1) xs))) env) ≡ both_ahead (map pure_shape ts) (map pure_pair vs) (typed_literals (exs_of (map pure_pair_ex (drop i xs))) env)
pairs_step = one_step pure_pair_ex pure_pair

pub pairs_none : (xs : List PairEx) (i : ℕ) (x : PairEx) (env : Env) (ts : List Shape) (vs : List Pair) → i < length xs → x ≡ get_or xs i x → None ≡ typed_literal (pure_pair_ex x) env
    → both_ahead (map pure_shape ts) (map pure_pair vs) (typed_literals (exs_of (map pure_pair_ex (drop i xs))) env) ≡ None
pairs_none = one_none pure_pair_ex pure_pair

pub pairs_end : (xs : List PairEx) (i : ℕ) (env : Env) (ts : List Shape) (vs : List Pair) → length xs ≤ i
    → both_ahead (map pure_shape ts) (map pure_pair vs) (typed_literals (exs_of (map pure_pair_ex (drop i xs))) env) ≡ Some (map pure_shape ts, map pure_pair vs)
pairs_end = one_end pure_pair_ex pure_pair

-- ---- a pair

pub pair_is_read : (a b : pure.Ex) (env : Env) → typed_literal (node_ex false tuple_literal (more_exs a (more_exs b no_exs))) env
    ≡ and_then (typed_literal a env) (λ x. and_then (typed_literal b env) (λ y. Some (compound2 a_tuple x.0 y.0, pair x.1 y.1)))
pair_is_read a b env =
    tuple_is_read (more_exs a (more_exs b no_exs)) env
    ∙ ap (λ o. and_then o (typed_node tuple_literal)) (literals_more a (more_exs b no_exs) env)
    ∙ ap (λ o. and_then (and_then (typed_literal a env) (λ x. option_map (typed_more x) o)) (typed_node tuple_literal)) (literals_more b no_exs env)
    ∙ go (typed_literal a env) (typed_literal b env)
  where
    go : (o p : Option (Ty × Value))
        → and_then (and_then o (λ x. option_map (typed_more x) (and_then p (λ y. option_map (typed_more y) (typed_literals no_exs env))))) (typed_node tuple_literal)
        ≡ and_then o (λ x. and_then p (λ y. Some (compound2 a_tuple x.0 y.0, pair x.1 y.1)))
    go None p = refl
    go (Some x) None = refl
    go (Some x) (Some y) = refl

-- ---- the value of a literal of a type

pub typed_value : (e : pure.Ex) (t : Ty) (env : Env) (x : Ty × Value) → typed_literal e env ≡ Some x → literal_value e t env ≡ when (is_some (join x.0 t)) x.1
typed_value e t env x h = go (type_of_literal e env) (value_of_literal e env) h
  where
    chosen : (b : Bool) (v : Value) → (if b then Some v else None) ≡ when b v
    chosen true v = refl
    chosen false v = refl

    go : (o : Option Ty) (p : Option Value) → both o p ≡ Some x → (if is_some_and o (λ u. is_some (join u t)) then p else None) ≡ when (is_some (join x.0 t)) x.1
    go None p h = cc
    go (Some u) None h = cc
    go (Some u) (Some v) h = let z : (u, v) ≡ x = cc in chosen (is_some (join u t)) v ∙ ap (λ (y : Ty × Value). when (is_some (join y.0 t)) y.1) z

pub no_value : (e : pure.Ex) (t : Ty) (env : Env) → typed_literal e env ≡ None → literal_value e t env ≡ None
no_value e t env h = go (type_of_literal e env) (value_of_literal e env) h
  where
    nothing : (b : Bool) → ◌≡◌ {A = Option Value} (if b then None else None) None
    nothing true = refl
    nothing false = refl

    go : (o : Option Ty) (p : Option Value) → both o p ≡ None → (if is_some_and o (λ u. is_some (join u t)) then p else None) ≡ None
    go None p h = refl
    go (Some u) None h = nothing (is_some (join u t))
    go (Some u) (Some v) h = cc
