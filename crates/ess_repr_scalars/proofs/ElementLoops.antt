-- The elements of nested matrices, put one behind the other.
use Rattle.std.proofs.Common.{◌≡◌, refl, sym, ap, ◌∙◌, ℤ, Bool, ℕ, zero, suc, ◌+◌, ◌-◌, ◌<◌, ◌≤◌, List, [], ◌∷◌, ◌++◌, map, length, take, get_or, arith}
use Rattle.std.proofs.lemmas.List.{append_assoc, append-nil, map-append, take_more, take_all}
use Rattle.ess_semantics.specs.Lists.{append_all}
use Rattle.ess_semantics.specs.Values.{Text, Value, to_list, of_list}
use Rattle.ess_semantics.proofs.Orders.{to_list-of_list}
use Rattle.ess_core.specs.declared.values.Val.{Val}
use Rattle.ess_core.specs.declared.values.Val.TheVariants as val
use Rattle.ess_core.specs.declared.values.FieldVal.{FieldVal}
use Rattle.ess_core.specs.declared.values.Pair.{Pair}
use Rattle.ess_core.specs.ValueViews.{pure_val}
use Rattle.ess_core.proofs.ValueEquations.{pure_num, pure_truth, pure_item, pure_tuple, pure_rec, pure_matrix, pure_set, pure_mset, pure_function, pure_relation, pure_partition}
use Rattle.ess_repr_scalars.specs.NestedMatrices.{elements_at}

pub elements_made : (r0 r1 : List Val) (n : ℕ) (v : Val) → r0 ≡ [] → map pure_val r1 ≡ map pure_val r0 ++ elements_at n (pure_val v) → map pure_val r1 ≡ elements_at n (pure_val v)
elements_made r0 r1 n v e p = p ∙ ap (λ l. map pure_val l ++ elements_at n (pure_val v)) e

pub value_alone : (old all : List Val) (n : ℕ) (v : Val) → n ≡ 0 → all ≡ old ++ v ∷ [] → map pure_val all ≡ map pure_val old ++ elements_at n (pure_val v)
value_alone old all n v e p = ap (map pure_val) p ∙ map-append pure_val old (v ∷ []) ∙ ap (λ m. map pure_val old ++ elements_at m (pure_val v)) (sym e)

pub of_matrix : (old all : List Val) (n m : ℕ) (is vs : List Val) → (n ≡ 0 → ⊥) → m ≡ n - 1 → map pure_val all ≡ map pure_val old ++ append_all (map (elements_at m) (map pure_val vs)) →
    map pure_val all ≡ map pure_val old ++ elements_at n (pure_val (val.Matrix is vs))
of_matrix old all zero m is vs h e p = absurd (h refl)
of_matrix old all (suc n) m is vs h e p =
    let q : m ≡ n = e ∙ omega arith in
    p ∙ ap (λ k. map pure_val old ++ append_all (map (elements_at k) (map pure_val vs))) q
    ∙ ap (λ l. map pure_val old ++ append_all (map (elements_at n) l)) (sym (to_list-of_list (map pure_val vs)))
    ∙ ap (λ w. map pure_val old ++ elements_at (suc n) w) (sym (pure_matrix is vs))

none : (old : List Val) (n : ℕ) (w v : Value) → (n ≡ 0 → ⊥) → ((m : ℕ) → elements_at (suc m) v ≡ []) → w ≡ v → map pure_val old ≡ map pure_val old ++ elements_at n w
none old zero w v h f e = absurd (h refl)
none old (suc n) w v h f e = sym (append-nil (map pure_val old)) ∙ ap (λ l. map pure_val old ++ l) (sym (f n)) ∙ ap (λ u. map pure_val old ++ elements_at (suc n) u) (sym e)

module _ (old : List Val) (n : ℕ) (h : n ≡ 0 → ⊥) where
  pub of_num : (z : ℤ) → map pure_val old ≡ map pure_val old ++ elements_at n (pure_val (val.Num z))
  of_num z = none old n _ _ h (λ m. refl) (pure_num z)

  pub of_truth : (b : Bool) → map pure_val old ≡ map pure_val old ++ elements_at n (pure_val (val.Truth b))
  of_truth b = none old n _ _ h (λ m. refl) (pure_truth b)

  pub of_item : (t : Text) (k : ℕ) → map pure_val old ≡ map pure_val old ++ elements_at n (pure_val (val.Item t k))
  of_item t k = none old n _ _ h (λ m. refl) (pure_item t k)

  pub of_tuple : (vs : List Val) → map pure_val old ≡ map pure_val old ++ elements_at n (pure_val (val.Tuple vs))
  of_tuple vs = none old n _ _ h (λ m. refl) (pure_tuple vs)

  pub of_rec : (fs : List FieldVal) → map pure_val old ≡ map pure_val old ++ elements_at n (pure_val (val.Rec fs))
  of_rec fs = none old n _ _ h (λ m. refl) (pure_rec fs)

  pub of_set : (vs : List Val) → map pure_val old ≡ map pure_val old ++ elements_at n (pure_val (val.Set vs))
  of_set vs = none old n _ _ h (λ m. refl) (pure_set vs)

  pub of_mset : (vs : List Val) → map pure_val old ≡ map pure_val old ++ elements_at n (pure_val (val.MSet vs))
  of_mset vs = none old n _ _ h (λ m. refl) (pure_mset vs)

  pub of_function : (ps : List Pair) → map pure_val old ≡ map pure_val old ++ elements_at n (pure_val (val.Function ps))
  of_function ps = none old n _ _ h (λ m. refl) (pure_function ps)

  pub of_relation : (vs : List Val) → map pure_val old ≡ map pure_val old ++ elements_at n (pure_val (val.Relation vs))
  of_relation vs = none old n _ _ h (λ m. refl) (pure_relation vs)

  pub of_partition : (vs : List Val) → map pure_val old ≡ map pure_val old ++ elements_at n (pure_val (val.Partition vs))
  of_partition vs = none old n _ _ h (λ m. refl) (pure_partition vs)

all-both : (f : Value → List Value) (xs ys : List Value) → append_all (map f (xs ++ ys)) ≡ append_all (map f xs) ++ append_all (map f ys)
all-both f [] ys = refl
all-both f (x ∷ xs) ys = ap (λ l. f x ++ l) (all-both f xs ys) ∙ sym (append_assoc (f x) (append_all (map f xs)) (append_all (map f ys)))

-- The elements of the first i values behind others.
abbrev pub after_first : ℕ → List Val → ℕ → List Val → List Value
after_first n vs i old = map pure_val old ++ append_all (map (elements_at n) (map pure_val (take i vs)))

pub each_more : (n : ℕ) (vs : List Val) (i : ℕ) (v : Val) (old all all' : List Val) → i < length vs → v ≡ get_or vs i v →
    map pure_val all' ≡ map pure_val all ++ elements_at n (pure_val v) → map pure_val all ≡ after_first n vs i old → map pure_val all' ≡ after_first n vs (i + 1) old
each_more n vs i v old all all' h is e p =
    e ∙ ap (λ l. l ++ elements_at n (pure_val v)) p ∙ append_assoc (map pure_val old) (append_all (map (elements_at n) (map pure_val (take i vs)))) (elements_at n (pure_val v))
    ∙ ap (λ l. map pure_val old ++ l)
    (ap (λ w. append_all (map (elements_at n) (map pure_val (take i vs))) ++ w) (sym (append-nil (elements_at n (pure_val v))) ∙ ap (λ u. append_all (map (elements_at n) (pure_val u ∷ []))) is)
    ∙ sym (all-both (elements_at n) (map pure_val (take i vs)) (pure_val (get_or vs i v) ∷ []))
    ∙ ap (λ l. append_all (map (elements_at n) l)) (sym (map-append pure_val (take i vs) (get_or vs i v ∷ [])) ∙ ap (map pure_val) (sym (take_more vs i v h))))

pub each_all : (n : ℕ) (vs : List Val) (i : ℕ) (old all : List Val) → length vs ≤ i → map pure_val all ≡ after_first n vs i old →
    map pure_val all ≡ map pure_val old ++ append_all (map (elements_at n) (map pure_val vs))
each_all n vs i old all h p = p ∙ ap (λ l. map pure_val old ++ append_all (map (elements_at n) (map pure_val l))) (take_all i vs h)
