-- What operators give for scalars and sets: values of their kinds.
use Rattle.std.proofs.Common.{◌≡◌, refl, sym, ap, ◌∙◌, subst, Bool, true, false, not, if◌then◌else◌, List, [], ◌∷◌, ◌++◌, filter, Some}
use Rattle.std.specs.declared.cmp.Ordering.{Ordering}
use Rattle.std.specs.declared.cmp.Ordering.TheVariants.{Less, Equal, Greater}
use Rattle.ess_semantics.specs.declared.words.Op1.{Op1}
use Rattle.ess_semantics.specs.declared.words.Op2.{Op2}
use Rattle.ess_semantics.specs.declared.words.Fun.{Fun}
use Rattle.ess_semantics.specs.Values.{a_set, Value, Values, node, to_list, of_list}
use Rattle.ess_semantics.specs.Order.{order}
use Rattle.ess_semantics.specs.Collections.{holds, place_by, place, sorted_once}
use Rattle.ess_semantics.specs.Trees.{unary, binary, word}
use Rattle.ess_semantics.specs.Operators.{value_of_node, false_where_undefined}
use Rattle.ess_semantics.specs.Contexts.{Each}
use Rattle.ess_semantics.proofs.Orders.{to_list-of_list}
use Rattle.ess_flat_laws.specs.Flat.{OneOp, denied, negative, absolute, TwoOp, both, either, implied, agreeing, equal, unequal, below, at_most, above, at_least, sum, difference, product}
use Rattle.ess_seen_laws.specs.Seen.{Combines, united, shared, lessened}
use Rattle.ess_setwise_laws.specs.Laws.{HasMark, a_truth, a_number}
use Rattle.ess_setwise_laws.proofs.ShownForms.{IsSetOf}

-- ---- scalars and sizes

-- An operator on one scalar gives a value of its mark.
pub one-value : {b m : Bool} {o : Op1} {v : Value} → OneOp b o m → HasMark m v →
    (u : Value) × HasMark b u × (false_where_undefined b (value_of_node (unary o) (Some v ∷ [])) ≡ Some u)
one-value denied a_truth = (_, a_truth, refl)
one-value negative a_number = (_, a_number, refl)
one-value absolute a_number = (_, a_number, refl)

-- So does one on two.
pub two-value : {b m k : Bool} {o : Op2} {v w : Value} → TwoOp b o m k → HasMark m v → HasMark k w →
    (u : Value) × HasMark b u × (false_where_undefined b (value_of_node (binary o) (Some v ∷ Some w ∷ [])) ≡ Some u)
two-value both a_truth a_truth = (_, a_truth, refl)
two-value either a_truth a_truth = (_, a_truth, refl)
two-value implied a_truth a_truth = (_, a_truth, refl)
two-value agreeing a_truth a_truth = (_, a_truth, refl)
two-value equal p q = (_, a_truth, refl)
two-value unequal p q = (_, a_truth, refl)
two-value below p q = (_, a_truth, refl)
two-value at_most p q = (_, a_truth, refl)
two-value above p q = (_, a_truth, refl)
two-value at_least p q = (_, a_truth, refl)
two-value sum a_number a_number = (_, a_number, refl)
two-value difference a_number a_number = (_, a_number, refl)
two-value product a_number a_number = (_, a_number, refl)

-- `toInt` gives a number.
pub chosen-value : {v : Value} → HasMark true v →
    (u : Value) × HasMark false u × (false_where_undefined false (value_of_node (word Fun.ToInt) (Some v ∷ [])) ≡ Some u)
chosen-value a_truth = (_, a_number, refl)

-- A set has a size.
pub size-value : (P : Value → Type 0) (v : Value) → IsSetOf P v →
    (u : Value) × HasMark false u × (false_where_undefined false (value_of_node (unary Op1.Bar) (Some v ∷ [])) ≡ Some u)
size-value P v x = (
  _,
  a_number,
  ap (λ z. false_where_undefined false (value_of_node (unary Op1.Bar) (Some z ∷ []))) x.is,
)

-- ---- sets made of two

each-filtered : (f : Value → Bool) (vs : List Value) (P : Value → Type 0) → Each vs P → Each (filter f vs) P
each-filtered f [] P h = tt
each-filtered f (v ∷ vs) P h = go (f v) (each-filtered f vs P h.1)
  where
    go : (b : Bool) → Each (filter f vs) P → Each (if b then v ∷ filter f vs else filter f vs) P
    go true k = (h.0, k)
    go false k = k

each-both : (vs ws : List Value) (P : Value → Type 0) → Each vs P → Each ws P → Each (vs ++ ws) P
each-both [] ws P h k = k
each-both (v ∷ vs) ws P h k = (h.0, each-both vs ws P h.1 k)

each-placed-by : (o : Ordering) (v x : Value) (xs ys : List Value) (P : Value → Type 0) → P v → P x → Each xs P → Each ys P →
    Each (place_by o v x xs ys) P
each-placed-by Less v x xs ys P p q h k = (p, (q, h))
each-placed-by Equal v x xs ys P p q h k = (q, h)
each-placed-by Greater v x xs ys P p q h k = (q, k)

each-placed : (v : Value) (xs : List Value) (P : Value → Type 0) → P v → Each xs P → Each (place v xs) P
each-placed v [] P p h = (p, tt)
each-placed v (x ∷ xs) P p h = each-placed-by (order v x) v x xs (place v xs) P p h.0 h.1 (each-placed v xs P p h.1)

each-sorted : (vs : List Value) (P : Value → Type 0) → Each vs P → Each (sorted_once vs) P
each-sorted [] P h = tt
each-sorted (v ∷ vs) P h = each-placed v (sorted_once vs) P h.0 (each-sorted vs P h.1)

-- A set of members that have the property.
set-of-each : (P : Value → Type 0) (vs : List Value) → Each vs P → IsSetOf P (node a_set (of_list vs))
set-of-each P vs h = record { members = of_list vs; is = refl; each = subst (λ l. Each l P) (sym (to_list-of_list vs)) h }

node-value : (P : Value → Type 0) (xs ys : Values) {o : Op2} → Combines o → Each (to_list xs) P → Each (to_list ys) P →
    (u : Value) × IsSetOf P u × (value_of_node (binary o) (Some (node a_set xs) ∷ Some (node a_set ys) ∷ []) ≡ Some u)
node-value P xs ys united h k = (
  _,
  set-of-each P (sorted_once (to_list xs ++ to_list ys))
      (each-sorted (to_list xs ++ to_list ys) P (each-both (to_list xs) (to_list ys) P h k)),
  refl,
)
node-value P xs ys shared h k = (
  _,
  set-of-each P (filter (λ x. holds (to_list ys) x) (to_list xs)) (each-filtered (λ x. holds (to_list ys) x) (to_list xs) P h),
  refl,
)
node-value P xs ys lessened h k = (
  _,
  set-of-each P (filter (λ x. not (holds (to_list ys) x)) (to_list xs))
      (each-filtered (λ x. not (holds (to_list ys) x)) (to_list xs) P h),
  refl,
)

-- A set made of two, whose members have the property, is one whose members have it.
pub combined-value : (P : Value → Type 0) (v w : Value) {o : Op2} → Combines o → IsSetOf P v → IsSetOf P w →
    (u : Value) × IsSetOf P u × (value_of_node (binary o) (Some v ∷ Some w ∷ []) ≡ Some u)
combined-value P v w {o} c x y =
    let z = node-value P x.members y.members c x.each y.each in (
      z.0,
      z.1,
      ap (λ k. value_of_node (binary o) (Some k ∷ Some w ∷ [])) x.is
          ∙ ap (λ k. value_of_node (binary o) (Some (node a_set x.members) ∷ Some k ∷ [])) y.is ∙ z.2,
    )
