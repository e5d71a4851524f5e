-- Membership of each kind of value, by its form and the members of its parts.
use Rattle.std.proofs.Common.{◌≡◌, refl, sym, ap, ◌∙◌, Bool, true, false, ◌&&◌, List, [], ◌∷◌, map, length, Option, Some, None}
use Rattle.std.specs.List.{list_all}
use Rattle.ess_semantics.specs.Lists.{is_some_and}
use Rattle.ess_semantics.specs.Values.{Value, Values, number, truth, item, node, tuple, nil, cons, itself, from_of, to_of, of_list}
use Rattle.ess_semantics.specs.Names.{keys}
use Rattle.ess_semantics.specs.Order.{same_texts}
use Rattle.ess_semantics.specs.Collections.{rises, rises_weakly}
use Rattle.ess_semantics.specs.Attributes.{set_attributes_hold, mset_attributes_hold, function_attributes_hold, relation_attributes_hold}
use Rattle.ess_semantics.specs.Domains.{Domains, no_domains, more_domains, sets, msets, functions, relations}
use Rattle.ess_semantics.specs.Membership.{member, member_of_each, tuple_member, is_pair, nested_matrix}
use Rattle.ess_semantics.proofs.Orders.{to_list-of_list}
use Rattle.ess_core.specs.declared.values.Val.{Val}
use Rattle.ess_core.specs.declared.values.FieldVal.{FieldVal}
use Rattle.ess_core.specs.declared.values.Pair.{Pair}
use Rattle.ess_core.specs.declared.values.Val.TheVariants as val
use Rattle.ess_core.specs.ValueViews.{pure_val, pure_vals, pure_field_val, pure_pair, record_value}
use Rattle.ess_core.proofs.ValueEquations.{pure_tuple, pure_rec, pure_set, pure_mset, pure_function, pure_relation, pure_pair_is}
use Rattle.ess_eval_domains.specs.declared.closed.Attribute.{Attribute}
use Rattle.ess_eval_domains.specs.declared.closed.Closed.{Closed}
use Rattle.ess_eval_domains.specs.declared.closed.FieldClosed.{FieldClosed}
use Rattle.ess_eval_domains.specs.declared.closed.Closed.TheVariants as domain
use Rattle.ess_eval_domains.specs.ClosedViews.{pure_closed, pure_closeds, pure_field_closed, pure_attributes, domains_of, record_domain}
use Rattle.ess_eval_domains.proofs.ClosedEquations.{pure_closed_rec, pure_closed_matrix, pure_closed_set, pure_closed_mset, pure_closed_function, pure_closed_relation}
use Rattle.ess_domains_members.specs.Forms.{set_form, mset_form, function_form, relation_form, is_tuple}
use Rattle.ess_domains_members.specs.Leaves.{leaves}
use Rattle.ess_domains_members.proofs.MatrixLeaves.{one-nested}
use Rattle.ess_domains_members.proofs.PartitionForms.{partition_some, partition_none}

-- ---- truth values

and-true : (b : Bool) → b ≡ b && true
and-true true = refl
and-true false = refl

form-so : (r l a b : Bool) → r && a ≡ true → b ≡ l → b ≡ r && l && a
form-so true l true b h e = e ∙ and-true l
form-so true l false b h e = cc
form-so false l a b h e = cc

form-not : (r l a : Bool) → r && a ≡ false → false ≡ r && l && a
form-not false l a h = refl
form-not true true a h = sym h
form-not true false a h = refl

parts-not : (r l a : Bool) → l ≡ false → false ≡ r && l && a
parts-not true l a e = ap (λ x. x && a) (sym e)
parts-not false l a e = refl

regrouped : (a b c d : Bool) → (a && b) && (c && d) ≡ (a && c) && (b && d)
regrouped false b c d = refl
regrouped true false true d = refl
regrouped true false false d = refl
regrouped true true true d = refl
regrouped true true false d = refl

-- ---- records

record-is : (fs : List FieldClosed) (vs : List FieldVal) → member (pure_closed (domain.Rec fs)) (pure_val (val.Rec vs))
    ≡ same_texts (keys (map pure_field_closed fs)) (keys (map pure_field_val vs))
    && member_of_each (domains_of (map (λ f. f.1) (map pure_field_closed fs))) (of_list (map (λ f. f.1) (map pure_field_val vs)))
record-is fs vs =
    ap (λ z. member z (pure_val (val.Rec vs))) (pure_closed_rec fs) ∙ ap (member (record_domain (map pure_field_closed fs))) (pure_rec vs)

pub record_names : (fs : List FieldClosed) (vs : List FieldVal) (b : Bool)
    → same_texts (keys (map pure_field_closed fs)) (keys (map pure_field_val vs)) ≡ true
    → b ≡ member_of_each (domains_of (map (λ f. f.1) (map pure_field_closed fs))) (of_list (map (λ f. f.1) (map pure_field_val vs)))
    → b ≡ member (pure_closed (domain.Rec fs)) (pure_val (val.Rec vs))
record_names fs vs b h e =
    e ∙ ap (λ x. x && member_of_each (domains_of (map (λ f. f.1) (map pure_field_closed fs))) (of_list (map (λ f. f.1) (map pure_field_val vs)))) (sym h)
    ∙ sym (record-is fs vs)

pub record_other : (fs : List FieldClosed) (vs : List FieldVal)
    → same_texts (keys (map pure_field_closed fs)) (keys (map pure_field_val vs)) ≡ false
    → false ≡ member (pure_closed (domain.Rec fs)) (pure_val (val.Rec vs))
record_other fs vs h =
    ap (λ x. x && member_of_each (domains_of (map (λ f. f.1) (map pure_field_closed fs))) (of_list (map (λ f. f.1) (map pure_field_val vs)))) (sym h)
    ∙ sym (record-is fs vs)

-- ---- matrices

matrix-is : (is : List Closed) (d : Closed) (v : Val) → member (pure_closed (domain.Matrix is d)) (pure_val v)
    ≡ is_some_and (leaves (pure_closeds is) (pure_val v ∷ [])) (list_all (member (pure_closed d)))
matrix-is is d v =
    ap (λ z. member z (pure_val v)) (pure_closed_matrix is d) ∙ one-nested (pure_closeds is) (member (pure_closed d)) (pure_val v)

pub matrix_some : (is : List Closed) (d : Closed) (v : Val) (all : List Val) (b : Bool)
    → Some (map pure_val all) ≡ leaves (pure_closeds is) (pure_val v ∷ [])
    → b ≡ list_all (member (pure_closed d)) (map pure_val all) → b ≡ member (pure_closed (domain.Matrix is d)) (pure_val v)
matrix_some is d v all b s e = e ∙ ap (λ o. is_some_and o (list_all (member (pure_closed d)))) s ∙ sym (matrix-is is d v)

pub matrix_none : (is : List Closed) (d : Closed) (v : Val) → None ≡ leaves (pure_closeds is) (pure_val v ∷ [])
    → false ≡ member (pure_closed (domain.Matrix is d)) (pure_val v)
matrix_none is d v s = ap (λ o. is_some_and o (list_all (member (pure_closed d)))) s ∙ sym (matrix-is is d v)

-- ---- sets and multisets

set-is : (ks : List Attribute) (d : Closed) (vs : List Val) → member (pure_closed (domain.Set ks d)) (pure_val (val.Set vs))
    ≡ rises itself (map pure_val vs) && list_all (member (pure_closed d)) (map pure_val vs) && set_attributes_hold (pure_attributes ks) (length (map pure_val vs))
set-is ks d vs =
    ap (λ z. member z (pure_val (val.Set vs))) (pure_closed_set ks d) ∙ ap (member (sets (pure_attributes ks) (pure_closed d))) (pure_set vs)
    ∙ ap (λ l. rises itself l && list_all (member (pure_closed d)) l && set_attributes_hold (pure_attributes ks) (length l)) (to_list-of_list (map pure_val vs))

pub set_formed : (ks : List Attribute) (d : Closed) (vs : List Val) (b : Bool) → set_form (pure_attributes ks) (map pure_val vs) ≡ true
    → b ≡ list_all (member (pure_closed d)) (map pure_val vs) → b ≡ member (pure_closed (domain.Set ks d)) (pure_val (val.Set vs))
set_formed ks d vs b h e =
    let xs = map pure_val vs in
    form-so (rises itself xs) (list_all (member (pure_closed d)) xs) (set_attributes_hold (pure_attributes ks) (length xs)) b h e ∙ sym (set-is ks d vs)

pub set_other : (ks : List Attribute) (d : Closed) (vs : List Val) → set_form (pure_attributes ks) (map pure_val vs) ≡ false
    → false ≡ member (pure_closed (domain.Set ks d)) (pure_val (val.Set vs))
set_other ks d vs h =
    let xs = map pure_val vs in
    form-not (rises itself xs) (list_all (member (pure_closed d)) xs) (set_attributes_hold (pure_attributes ks) (length xs)) h ∙ sym (set-is ks d vs)

mset-is : (ks : List Attribute) (d : Closed) (vs : List Val) → member (pure_closed (domain.MSet ks d)) (pure_val (val.MSet vs))
    ≡ rises_weakly (map pure_val vs) && list_all (member (pure_closed d)) (map pure_val vs) && mset_attributes_hold (pure_attributes ks) (map pure_val vs)
mset-is ks d vs =
    ap (λ z. member z (pure_val (val.MSet vs))) (pure_closed_mset ks d) ∙ ap (member (msets (pure_attributes ks) (pure_closed d))) (pure_mset vs)
    ∙ ap (λ l. rises_weakly l && list_all (member (pure_closed d)) l && mset_attributes_hold (pure_attributes ks) l) (to_list-of_list (map pure_val vs))

pub mset_formed : (ks : List Attribute) (d : Closed) (vs : List Val) (b : Bool) → mset_form (pure_attributes ks) (map pure_val vs) ≡ true
    → b ≡ list_all (member (pure_closed d)) (map pure_val vs) → b ≡ member (pure_closed (domain.MSet ks d)) (pure_val (val.MSet vs))
mset_formed ks d vs b h e =
    let xs = map pure_val vs in
    form-so (rises_weakly xs) (list_all (member (pure_closed d)) xs) (mset_attributes_hold (pure_attributes ks) xs) b h e ∙ sym (mset-is ks d vs)

pub mset_other : (ks : List Attribute) (d : Closed) (vs : List Val) → mset_form (pure_attributes ks) (map pure_val vs) ≡ false
    → false ≡ member (pure_closed (domain.MSet ks d)) (pure_val (val.MSet vs))
mset_other ks d vs h =
    let xs = map pure_val vs in
    form-not (rises_weakly xs) (list_all (member (pure_closed d)) xs) (mset_attributes_hold (pure_attributes ks) xs) h ∙ sym (mset-is ks d vs)

-- ---- functions

is-pair : (p : Pair) (x : Bool) → is_pair (pure_pair p) && x ≡ x
is-pair p x = ap (λ v. is_pair v && x) (pure_pair_is p)

pairs-split : (f g : Value → Bool) (ps : List Pair) → list_all (λ p. is_pair p && f (from_of p) && g (to_of p)) (map pure_pair ps)
    ≡ list_all (λ p. f (from_of p)) (map pure_pair ps) && list_all (λ p. g (to_of p)) (map pure_pair ps)
pairs-split f g [] = refl
pairs-split f g (p ∷ ps) =
    let a = f (from_of (pure_pair p)) in let b = g (to_of (pure_pair p)) in
    ap (λ x. x && list_all (λ q. is_pair q && f (from_of q) && g (to_of q)) (map pure_pair ps)) (ap (λ y. y && b) (is-pair p a))
    ∙ ap (λ x. (a && b) && x) (pairs-split f g ps)
    ∙ regrouped a b (list_all (λ q. f (from_of q)) (map pure_pair ps)) (list_all (λ q. g (to_of q)) (map pure_pair ps))

function-is : (ks : List Attribute) (d c : Closed) (ps : List Pair) → member (pure_closed (domain.Function ks d c)) (pure_val (val.Function ps))
    ≡ rises from_of (map pure_pair ps)
    && (list_all (λ p. member (pure_closed d) (from_of p)) (map pure_pair ps) && list_all (λ p. member (pure_closed c) (to_of p)) (map pure_pair ps))
    && function_attributes_hold (pure_attributes ks) (pure_closed d) (pure_closed c) (map pure_pair ps)
function-is ks d c ps =
    let as' = pure_attributes ks in let dd = pure_closed d in let cc' = pure_closed c in let xs = map pure_pair ps in
    ap (λ z. member z (pure_val (val.Function ps))) (pure_closed_function ks d c) ∙ ap (member (functions as' dd cc')) (pure_function ps)
    ∙ ap (λ l. rises from_of l && list_all (λ p. is_pair p && member dd (from_of p) && member cc' (to_of p)) l && function_attributes_hold as' dd cc' l) (to_list-of_list xs)
    ∙ ap (λ b. rises from_of xs && b && function_attributes_hold as' dd cc' xs) (pairs-split (member dd) (member cc') ps)

pub function_formed : (ks : List Attribute) (d c : Closed) (ps : List Pair) (b : Bool)
    → function_form (pure_attributes ks) (pure_closed d) (pure_closed c) (map pure_pair ps) ≡ true
    → list_all (λ p. member (pure_closed d) (from_of p)) (map pure_pair ps) ≡ true
    → b ≡ list_all (λ p. member (pure_closed c) (to_of p)) (map pure_pair ps)
    → b ≡ member (pure_closed (domain.Function ks d c)) (pure_val (val.Function ps))
function_formed ks d c ps b h g e =
    let as' = pure_attributes ks in let dd = pure_closed d in let cc' = pure_closed c in let xs = map pure_pair ps in
    form-so (rises from_of xs) (list_all (λ p. member dd (from_of p)) xs && list_all (λ p. member cc' (to_of p)) xs) (function_attributes_hold as' dd cc' xs) b h
    (e ∙ ap (λ x. x && list_all (λ p. member cc' (to_of p)) xs) (sym g))
    ∙ sym (function-is ks d c ps)

pub function_other : (ks : List Attribute) (d c : Closed) (ps : List Pair)
    → function_form (pure_attributes ks) (pure_closed d) (pure_closed c) (map pure_pair ps) ≡ false
    → false ≡ member (pure_closed (domain.Function ks d c)) (pure_val (val.Function ps))
function_other ks d c ps h =
    let as' = pure_attributes ks in let dd = pure_closed d in let cc' = pure_closed c in let xs = map pure_pair ps in
    form-not (rises from_of xs) (list_all (λ p. member dd (from_of p)) xs && list_all (λ p. member cc' (to_of p)) xs) (function_attributes_hold as' dd cc' xs) h
    ∙ sym (function-is ks d c ps)

pub function_argument : (ks : List Attribute) (d c : Closed) (ps : List Pair)
    → list_all (λ p. member (pure_closed d) (from_of p)) (map pure_pair ps) ≡ false
    → false ≡ member (pure_closed (domain.Function ks d c)) (pure_val (val.Function ps))
function_argument ks d c ps g =
    let as' = pure_attributes ks in let dd = pure_closed d in let cc' = pure_closed c in let xs = map pure_pair ps in
    parts-not (rises from_of xs) (list_all (λ p. member dd (from_of p)) xs && list_all (λ p. member cc' (to_of p)) xs) (function_attributes_hold as' dd cc' xs)
    (ap (λ x. x && list_all (λ p. member cc' (to_of p)) xs) g)
    ∙ sym (function-is ks d c ps)

-- ---- relations

one-tuple : (ds : Domains) (vs : Values) → member_of_each ds vs ≡ tuple_member ds (tuple vs)
one-tuple no_domains nil = refl
one-tuple no_domains (cons v vs) = refl
one-tuple (more_domains d ds) nil = refl
one-tuple (more_domains d ds) (cons v vs) = refl

pub tuple_there : (ds : List Closed) (vs : List Val) (b : Bool) → b ≡ member_of_each (pure_closeds ds) (pure_vals vs)
    → b ≡ tuple_member (pure_closeds ds) (pure_val (val.Tuple vs))
tuple_there ds vs b e = e ∙ one-tuple (pure_closeds ds) (pure_vals vs) ∙ ap (tuple_member (pure_closeds ds)) (sym (pure_tuple vs))

pub tuple_other : (ds : List Closed) (v : Value) → is_tuple v ≡ false → false ≡ tuple_member (pure_closeds ds) v
tuple_other [] (tuple nil) h = cc
tuple_other [] (tuple (cons v vs)) h = cc
tuple_other [] _ h = refl
tuple_other (d ∷ ds) (tuple nil) h = cc
tuple_other (d ∷ ds) (tuple (cons v vs)) h = cc
tuple_other (d ∷ ds) _ h = refl

relation-is : (ks : List Attribute) (ds : List Closed) (ts : List Val) → member (pure_closed (domain.Relation ks ds)) (pure_val (val.Relation ts))
    ≡ rises itself (map pure_val ts) && list_all (tuple_member (pure_closeds ds)) (map pure_val ts)
    && relation_attributes_hold (pure_attributes ks) (pure_closeds ds) (map pure_val ts)
relation-is ks ds ts =
    ap (λ z. member z (pure_val (val.Relation ts))) (pure_closed_relation ks ds)
    ∙ ap (member (relations (pure_attributes ks) (pure_closeds ds))) (pure_relation ts)
    ∙ ap (λ l. rises itself l && list_all (tuple_member (pure_closeds ds)) l && relation_attributes_hold (pure_attributes ks) (pure_closeds ds) l) (to_list-of_list (map pure_val ts))

pub relation_formed : (ks : List Attribute) (ds : List Closed) (ts : List Val) (b : Bool)
    → relation_form (pure_attributes ks) (pure_closeds ds) (map pure_val ts) ≡ true
    → b ≡ list_all (tuple_member (pure_closeds ds)) (map pure_val ts) → b ≡ member (pure_closed (domain.Relation ks ds)) (pure_val (val.Relation ts))
relation_formed ks ds ts b h e =
    let xs = map pure_val ts in
    form-so (rises itself xs) (list_all (tuple_member (pure_closeds ds)) xs) (relation_attributes_hold (pure_attributes ks) (pure_closeds ds) xs) b h e
    ∙ sym (relation-is ks ds ts)

pub relation_other : (ks : List Attribute) (ds : List Closed) (ts : List Val)
    → relation_form (pure_attributes ks) (pure_closeds ds) (map pure_val ts) ≡ false
    → false ≡ member (pure_closed (domain.Relation ks ds)) (pure_val (val.Relation ts))
relation_other ks ds ts h =
    let xs = map pure_val ts in
    form-not (rises itself xs) (list_all (tuple_member (pure_closeds ds)) xs) (relation_attributes_hold (pure_attributes ks) (pure_closeds ds) xs) h
    ∙ sym (relation-is ks ds ts)

-- the kinds whose members have members
pub ruleset kinds = (
  record_names,
  record_other,
  matrix_some,
  matrix_none,
  set_formed,
  set_other,
  mset_formed,
  mset_other,
  function_formed,
  function_other,
  function_argument,
  relation_formed,
  relation_other,
  partition_some,
  partition_none,
)
