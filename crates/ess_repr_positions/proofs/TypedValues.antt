-- Types put back, kind by kind.
use Rattle.std.proofs.Common.{◌≡◌, refl, sym, ap, ◌∙◌, ℕ, ℤ, List, [], ◌∷◌, map, Option, Some, None, option_map}
use Rattle.ess_semantics.specs.Lists.{and_then, each_of}
use Rattle.ess_semantics.specs.Values.{Text, Kind, Value, node, a_tuple, a_record, a_set, a_mset, a_function, a_relation, a_partition, of_list, to_list}
use Rattle.ess_semantics.specs.Names.{Names, keys}
use Rattle.ess_semantics.specs.Domains.{named, tuples, sets, msets, functions, relations, partitions}
use Rattle.ess_semantics.specs.Tables.{item_of_type}
use Rattle.ess_semantics.proofs.Orders.{to_list-of_list}
use Rattle.ess_core.specs.declared.values.Val.{Val}
use Rattle.ess_core.specs.declared.values.FieldVal.{FieldVal}
use Rattle.ess_core.specs.declared.values.Pair.{Pair}
use Rattle.ess_core.specs.declared.values.Val.TheVariants as val
use Rattle.ess_core.specs.ValueViews.{record_value, pure_val, pure_field_val, pure_pair, pure_vals}
use Rattle.ess_core.proofs.ValueEquations.{pure_num, pure_tuple, pure_rec, pure_set, pure_mset, pure_function, pure_relation, pure_partition}
use Rattle.ess_eval_domains.specs.declared.closed.Attribute.{Attribute}
use Rattle.ess_eval_domains.specs.declared.closed.Closed.{Closed}
use Rattle.ess_eval_domains.specs.declared.closed.FieldClosed.{FieldClosed}
use Rattle.ess_eval_domains.specs.declared.closed.Closed.TheVariants as domain
use Rattle.ess_eval_domains.specs.ClosedViews.{domains_of, record_domain, pure_attributes, pure_closed, pure_closeds, pure_field_closed}
use Rattle.ess_eval_domains.proofs.ClosedEquations.{pure_closed_bool, pure_closed_int, pure_closed_named, pure_closed_tuple, pure_closed_rec, pure_closed_matrix, pure_closed_set, pure_closed_mset, pure_closed_function, pure_closed_relation, pure_closed_partition}
use Rattle.ess_eval_domains.specs.declared.closed.Span.{Span}
use Rattle.ess_repr_positions_laws.specs.TypedParts.{made_of, typed, typed_each, typed_pair, typed_tuple, typed_set}
use Rattle.ess_repr_positions.specs.Typed.{each_both, val_typed, field_typed, nested_typed, pair_typed, tuple_typed, part_typed}

-- ---- lists

pub each_of-map : {A B C : Type 0} (g : A → B) (f : B → Option C) (xs : List A) → each_of (map g xs) f ≡ each_of xs (λ x. f (g x))
each_of-map g f [] = refl
each_of-map g f (x ∷ xs) = ap (λ o. and_then (f (g x)) (λ y. option_map (λ ys. y ∷ ys) o)) (each_of-map g f xs)

-- the values of rows are listed again
pub each-listed : {A : Type 0} (g : A → Value) (f : Value → Option Value) (xs : List A) →
    each_of (to_list (of_list (map g xs))) f ≡ each_of xs (λ x. f (g x))
each-listed g f xs = ap (λ l. each_of l f) (to_list-of_list (map g xs)) ∙ each_of-map g f xs

components : (ds : List Closed) (vs : List Val) → typed_each (pure_closeds ds) (map pure_val vs) ≡ each_both val_typed ds vs
components [] [] = refl
components [] (v ∷ vs) = refl
components (d ∷ ds) [] = refl
components (d ∷ ds) (v ∷ vs) = ap (λ o. and_then (val_typed d v) (λ w. option_map (λ ws. w ∷ ws) o)) (components ds vs)

pub components-listed : (ds : List Closed) (vs : List Val) → typed_each (pure_closeds ds) (to_list (pure_vals vs)) ≡ each_both val_typed ds vs
components-listed ds vs = ap (typed_each (pure_closeds ds)) (to_list-of_list (map pure_val vs)) ∙ components ds vs

there : (k : Kind) (vs : List Value) (o : Option (List Value)) → Some vs ≡ o → Some (node k (of_list vs)) ≡ made_of k o
there k vs o e = ap (made_of k) e

-- ---- atoms

pub bool_kept : (v : Val) → Some (pure_val v) ≡ val_typed domain.Bool v
bool_kept v = ap (λ d. typed d (pure_val v)) (sym pure_closed_bool)

pub int_kept : (ss : List Span) (v : Val) → Some (pure_val v) ≡ val_typed (domain.Int ss) v
int_kept ss v = ap (λ d. typed d (pure_val v)) (sym (pure_closed_int ss))

pub named_typed : (t : Text) (n : ℕ) (k : ℤ) (o : Option Value) → o ≡ item_of_type t n k → o ≡ val_typed (domain.Named t n) (val.Num k)
named_typed t n k o e =
    e ∙ ap (typed (named t n)) (sym (pure_num k)) ∙ ap (λ d. typed d (pure_val (val.Num k))) (sym (pure_closed_named t n))

-- ---- tuples and matrices

tuple-is : (ds : List Closed) (vs : List Val) → val_typed (domain.Tuple ds) (val.Tuple vs) ≡ made_of a_tuple (each_both val_typed ds vs)
tuple-is ds vs =
    ap (λ d. typed d (pure_val (val.Tuple vs))) (pure_closed_tuple ds) ∙ ap (typed (tuples (pure_closeds ds))) (pure_tuple vs)
    ∙ ap (made_of a_tuple) (components-listed ds vs)

pub tuple_there : (ds : List Closed) (vs ws : List Val) → Some (map pure_val ws) ≡ each_both val_typed ds vs →
    Some (pure_val (val.Tuple ws)) ≡ val_typed (domain.Tuple ds) (val.Tuple vs)
tuple_there ds vs ws e = ap Some (pure_tuple ws) ∙ there a_tuple (map pure_val ws) (each_both val_typed ds vs) e ∙ sym (tuple-is ds vs)

pub tuple_not : (ds : List Closed) (vs : List Val) → None ≡ each_both val_typed ds vs → None ≡ val_typed (domain.Tuple ds) (val.Tuple vs)
tuple_not ds vs e = ap (made_of a_tuple) e ∙ sym (tuple-is ds vs)

pub matrix_typed : (is : List Closed) (d : Closed) (v : Val) (o : Option Value) → o ≡ nested_typed is d v → o ≡ val_typed (domain.Matrix is d) v
matrix_typed is d v o e = e ∙ ap (λ c. typed c (pure_val v)) (sym (pure_closed_matrix is d))

-- ---- records

record-fields : (fs : List FieldClosed) (vs : List FieldVal) →
    made_of (a_record (keys (map pure_field_val vs))) (typed_each (domains_of (map (λ f. f.1) (map pure_field_closed fs))) (map (λ f. f.1) (map pure_field_val vs)))
    ≡ option_map record_value (each_both field_typed fs vs)
record-fields fs vs = sym (named fs vs)
  where
    -- fields, as their names and their values
    Split : List Text → Option (List Value) → Option (Names Value) → Type 0
    Split ns None None = Unit {0}
    Split ns (Some ws) (Some gs) = (keys gs ≡ ns) × (map (λ g. g.1) gs ≡ ws)
    Split ns _ _ = ⊥

    one : (n : Text) (ns : List Text) (o : Option Value) (p : Option (List Value)) (q : Option (Names Value)) → Split ns p q →
        Split (n ∷ ns) (and_then o (λ w. option_map (λ ws. w ∷ ws) p)) (and_then (option_map (λ w. (n, w)) o) (λ g. option_map (λ gs. g ∷ gs) q))
    one n ns None p q h = tt
    one n ns (Some w) None None h = tt
    one n ns (Some w) None (Some gs) h = absurd h
    one n ns (Some w) (Some ws) None h = absurd h
    one n ns (Some w) (Some ws) (Some gs) h = (ap (λ l. n ∷ l) h.0, ap (λ l. w ∷ l) h.1)

    split : (fs : List FieldClosed) (vs : List FieldVal) → Split (keys (map pure_field_val vs))
        (typed_each (domains_of (map (λ f. f.1) (map pure_field_closed fs))) (map (λ f. f.1) (map pure_field_val vs))) (each_both field_typed fs vs)
    split [] [] = (refl, refl)
    split [] (v ∷ vs) = tt
    split (f ∷ fs) [] = tt
    split (f ∷ fs) (v ∷ vs) = one (pure_field_val v).0 (keys (map pure_field_val vs)) (typed (pure_field_closed f).1 (pure_field_val v).1)
        (typed_each (domains_of (map (λ f. f.1) (map pure_field_closed fs))) (map (λ f. f.1) (map pure_field_val vs))) (each_both field_typed fs vs) (split fs vs)

    joined : (ns : List Text) (p : Option (List Value)) (q : Option (Names Value)) → Split ns p q → option_map record_value q ≡ made_of (a_record ns) p
    joined ns None None h = refl
    joined ns None (Some gs) h = absurd h
    joined ns (Some ws) None h = absurd h
    joined ns (Some ws) (Some gs) h = ap (λ l. Some (node (a_record l) (of_list (map (λ g. g.1) gs)))) h.0 ∙ ap (λ l. Some (node (a_record ns) (of_list l))) h.1

    named : (fs : List FieldClosed) (vs : List FieldVal) → option_map record_value (each_both field_typed fs vs)
        ≡ made_of (a_record (keys (map pure_field_val vs))) (typed_each (domains_of (map (λ f. f.1) (map pure_field_closed fs))) (map (λ f. f.1) (map pure_field_val vs)))
    named fs vs = joined (keys (map pure_field_val vs)) (typed_each (domains_of (map (λ f. f.1) (map pure_field_closed fs))) (map (λ f. f.1) (map pure_field_val vs)))
        (each_both field_typed fs vs) (split fs vs)

record-is : (fs : List FieldClosed) (vs : List FieldVal) → val_typed (domain.Rec fs) (val.Rec vs) ≡ option_map record_value (each_both field_typed fs vs)
record-is fs vs =
    ap (λ d. typed d (pure_val (val.Rec vs))) (pure_closed_rec fs) ∙ ap (typed (record_domain (map pure_field_closed fs))) (pure_rec vs)
    ∙ ap (λ l. made_of (a_record (keys (map pure_field_val vs))) (typed_each (domains_of (map (λ f. f.1) (map pure_field_closed fs))) l))
    (to_list-of_list (map (λ f. f.1) (map pure_field_val vs)))
    ∙ record-fields fs vs

pub record_there : (fs : List FieldClosed) (vs ws : List FieldVal) → Some (map pure_field_val ws) ≡ each_both field_typed fs vs →
    Some (pure_val (val.Rec ws)) ≡ val_typed (domain.Rec fs) (val.Rec vs)
record_there fs vs ws e = ap Some (pure_rec ws) ∙ ap (option_map record_value) e ∙ sym (record-is fs vs)

pub record_not : (fs : List FieldClosed) (vs : List FieldVal) → None ≡ each_both field_typed fs vs → None ≡ val_typed (domain.Rec fs) (val.Rec vs)
record_not fs vs e = ap (option_map record_value) e ∙ sym (record-is fs vs)

-- ---- sets and multisets

set-is : (ks : List Attribute) (d : Closed) (vs : List Val) → val_typed (domain.Set ks d) (val.Set vs) ≡ made_of a_set (each_of vs (nested_typed [] d))
set-is ks d vs =
    ap (λ c. typed c (pure_val (val.Set vs))) (pure_closed_set ks d) ∙ ap (typed (sets (pure_attributes ks) (pure_closed d))) (pure_set vs)
    ∙ ap (made_of a_set) (each-listed pure_val (typed (pure_closed d)) vs)

pub set_there : (ks : List Attribute) (d : Closed) (vs ws : List Val) → Some (map pure_val ws) ≡ each_of vs (nested_typed [] d) →
    Some (pure_val (val.Set ws)) ≡ val_typed (domain.Set ks d) (val.Set vs)
set_there ks d vs ws e = ap Some (pure_set ws) ∙ ap (made_of a_set) e ∙ sym (set-is ks d vs)

pub set_not : (ks : List Attribute) (d : Closed) (vs : List Val) → None ≡ each_of vs (nested_typed [] d) →
    None ≡ val_typed (domain.Set ks d) (val.Set vs)
set_not ks d vs e = ap (made_of a_set) e ∙ sym (set-is ks d vs)

mset-is : (ks : List Attribute) (d : Closed) (vs : List Val) → val_typed (domain.MSet ks d) (val.MSet vs) ≡ made_of a_mset (each_of vs (nested_typed [] d))
mset-is ks d vs =
    ap (λ c. typed c (pure_val (val.MSet vs))) (pure_closed_mset ks d) ∙ ap (typed (msets (pure_attributes ks) (pure_closed d))) (pure_mset vs)
    ∙ ap (made_of a_mset) (each-listed pure_val (typed (pure_closed d)) vs)

pub mset_there : (ks : List Attribute) (d : Closed) (vs ws : List Val) → Some (map pure_val ws) ≡ each_of vs (nested_typed [] d) →
    Some (pure_val (val.MSet ws)) ≡ val_typed (domain.MSet ks d) (val.MSet vs)
mset_there ks d vs ws e = ap Some (pure_mset ws) ∙ ap (made_of a_mset) e ∙ sym (mset-is ks d vs)

pub mset_not : (ks : List Attribute) (d : Closed) (vs : List Val) → None ≡ each_of vs (nested_typed [] d) →
    None ≡ val_typed (domain.MSet ks d) (val.MSet vs)
mset_not ks d vs e = ap (made_of a_mset) e ∙ sym (mset-is ks d vs)

-- ---- functions, relations, partitions

function-is : (ks : List Attribute) (d c : Closed) (ps : List Pair) →
    val_typed (domain.Function ks d c) (val.Function ps) ≡ made_of a_function (each_of ps (pair_typed d c))
function-is ks d c ps =
    ap (λ x. typed x (pure_val (val.Function ps))) (pure_closed_function ks d c)
    ∙ ap (typed (functions (pure_attributes ks) (pure_closed d) (pure_closed c))) (pure_function ps)
    ∙ ap (made_of a_function) (each-listed pure_pair (typed_pair (typed (pure_closed d)) (typed (pure_closed c))) ps)

pub function_there : (ks : List Attribute) (d c : Closed) (ps qs : List Pair) → Some (map pure_pair qs) ≡ each_of ps (pair_typed d c) →
    Some (pure_val (val.Function qs)) ≡ val_typed (domain.Function ks d c) (val.Function ps)
function_there ks d c ps qs e = ap Some (pure_function qs) ∙ ap (made_of a_function) e ∙ sym (function-is ks d c ps)

pub function_not : (ks : List Attribute) (d c : Closed) (ps : List Pair) → None ≡ each_of ps (pair_typed d c) →
    None ≡ val_typed (domain.Function ks d c) (val.Function ps)
function_not ks d c ps e = ap (made_of a_function) e ∙ sym (function-is ks d c ps)

relation-is : (ks : List Attribute) (ds : List Closed) (vs : List Val) →
    val_typed (domain.Relation ks ds) (val.Relation vs) ≡ made_of a_relation (each_of vs (tuple_typed ds))
relation-is ks ds vs =
    ap (λ x. typed x (pure_val (val.Relation vs))) (pure_closed_relation ks ds)
    ∙ ap (typed (relations (pure_attributes ks) (pure_closeds ds))) (pure_relation vs)
    ∙ ap (made_of a_relation) (each-listed pure_val (typed_tuple (typed_each (pure_closeds ds))) vs)

pub relation_there : (ks : List Attribute) (ds : List Closed) (vs ws : List Val) → Some (map pure_val ws) ≡ each_of vs (tuple_typed ds) →
    Some (pure_val (val.Relation ws)) ≡ val_typed (domain.Relation ks ds) (val.Relation vs)
relation_there ks ds vs ws e = ap Some (pure_relation ws) ∙ ap (made_of a_relation) e ∙ sym (relation-is ks ds vs)

pub relation_not : (ks : List Attribute) (ds : List Closed) (vs : List Val) → None ≡ each_of vs (tuple_typed ds) →
    None ≡ val_typed (domain.Relation ks ds) (val.Relation vs)
relation_not ks ds vs e = ap (made_of a_relation) e ∙ sym (relation-is ks ds vs)

partition-is : (ks : List Attribute) (d : Closed) (vs : List Val) →
    val_typed (domain.Partition ks d) (val.Partition vs) ≡ made_of a_partition (each_of vs (part_typed d))
partition-is ks d vs =
    ap (λ x. typed x (pure_val (val.Partition vs))) (pure_closed_partition ks d)
    ∙ ap (typed (partitions (pure_attributes ks) (pure_closed d))) (pure_partition vs)
    ∙ ap (made_of a_partition) (each-listed pure_val (typed_set (λ xs. each_of xs (typed (pure_closed d)))) vs)

pub partition_there : (ks : List Attribute) (d : Closed) (vs ws : List Val) → Some (map pure_val ws) ≡ each_of vs (part_typed d) →
    Some (pure_val (val.Partition ws)) ≡ val_typed (domain.Partition ks d) (val.Partition vs)
partition_there ks d vs ws e = ap Some (pure_partition ws) ∙ ap (made_of a_partition) e ∙ sym (partition-is ks d vs)

pub partition_not : (ks : List Attribute) (d : Closed) (vs : List Val) → None ≡ each_of vs (part_typed d) →
    None ≡ val_typed (domain.Partition ks d) (val.Partition vs)
partition_not ks d vs e = ap (made_of a_partition) e ∙ sym (partition-is ks d vs)

-- what each kind has
pub ruleset kinds = (
  bool_kept,
  int_kept,
  named_typed,
  tuple_there,
  tuple_not,
  matrix_typed,
  record_there,
  record_not,
  set_there,
  set_not,
  mset_there,
  mset_not,
  function_there,
  function_not,
  relation_there,
  relation_not,
  partition_there,
  partition_not,
)
