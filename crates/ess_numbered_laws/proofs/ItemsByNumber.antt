-- Items of lists by their numbers, how many there are, and how two are compared.
use Rattle.std.proofs.Common.{◌≡◌, refl, sym, ap, ◌∙◌, subst, ℕ, zero, suc, ◌+◌, ◌<◌, Bool, true, false, ◌&&◌, if◌then◌else◌, List, [], ◌∷◌, map, length, pos, Option, Some, None, option_map, arith}
use Rattle.std.specs.Prelude.{is_some, ◌+ℤ◌, nat_le}
use Rattle.std.specs.List.{list_all}
use Rattle.std.proofs.Math.Dec.{leb-suc-suc, leb-suc-zero}
use Rattle.std.proofs.lemmas.Bool.{le-leb}
use Rattle.std.proofs.lemmas.Int.{ints}
use Rattle.ess_semantics.specs.declared.words.Op2.{Op2}
use Rattle.ess_semantics.specs.declared.words.Fun.{Fun}
use Rattle.ess_semantics.specs.Lists.{and_then}
use Rattle.ess_semantics.specs.Values.{Text, Value, number, truth, Values, matrix, to_list, of_list, items_of, a_matrix}
use Rattle.ess_semantics.specs.Order.{same}
use Rattle.ess_semantics.specs.Numbers.{run_from, one_to}
use Rattle.ess_semantics.specs.Trees.{binary, word, by_value, index, Ex, number_ex, ex2}
use Rattle.ess_semantics.specs.Types.{Ty, compound2, is_bool}
use Rattle.ess_semantics.specs.TypeMembers.{is_of}
use Rattle.ess_semantics.specs.Operators.{as_truth, component, item_at, list_value, sum_of, value_of_node, false_where_undefined}
use Rattle.ess_semantics.specs.Meaning.{Env, TypeEntry, meaning, collect}
use Rattle.ess_semantics.specs.Meets.{Meets}
use Rattle.ess_semantics.proofs.Orders.{of_list-to_list, to_list-of_list, same-equal, same-itself}
use Rattle.ess_semantics.proofs.Tests.{and-left, and-right}
use Rattle.ess_rules_laws.specs.FoldRules.{is_laid_open}
use Rattle.ess_rules_laws.specs.MatrixRules.{item_of}
use Rattle.ess_rules_laws.specs.PartLookups.{indices_of}
use Rattle.ess_rules_laws.proofs.ComponentRules.{of-mark}
use Rattle.ess_rules_laws.proofs.ListIndices.{list-indexed}
use Rattle.ess_rules_laws.proofs.MatrixItems.{matrix-value}
use Rattle.ess_rules_laws.proofs.RuleAnswers.{behind, each-in-any}
use Rattle.ess_rules_laws.proofs.SlotNumbers.{slots-members}
use Rattle.ess_numbered_laws.specs.CountedSources.{items_counted}
use Rattle.ess_numbered_laws.specs.OrderLaws.{both_have, at_both}
use Rattle.ess_numbered_laws.proofs.LowerByNumber.{right-none}

-- ---- how many items there are

-- A 1 for each item, and their sum.
abbrev pub ones : List Value → List Value
ones [] = []
ones (x ∷ xs) = number (pos 1) ∷ ones xs

-- A 1 for each item is collected.
pub collect-ones : (xs : List Value) → collect xs (λ v. Some (number (pos 1) ∷ [])) ≡ Some (ones xs)
collect-ones [] = refl
collect-ones (x ∷ xs) = ap (option_map (λ ys. number (pos 1) ∷ ys)) (collect-ones xs)

-- The 1s sum up to the number of items.
pub sum-ones : (xs : List Value) → sum_of (ones xs) ≡ pos (length xs)
sum-ones [] = refl
sum-ones (x ∷ xs) = ap (λ m. pos 1 +ℤ m) (sum-ones xs) ∙ (let e : pos 1 +ℤ pos (length xs)
    ≡ pos (suc (length xs)) = omega (arith, ints) in e)

-- `sum([1 | z <- a])` is the number of the items of a.
pub count-means : (z : Text) (a : Ex) (env : Env) (v : Value) → meaning a env ≡ Some v →
    meaning (items_counted z a) env ≡ Some (number (pos (length (items_of v))))
count-means z a env v q =
    ap (λ o. value_of_node (word Fun.Sum) (option_map list_value (and_then o
    (λ s. collect (items_of s) (λ u. Some (number (pos 1) ∷ [])))) ∷ [])) q
    ∙ ap (λ o. value_of_node (word Fun.Sum) (option_map list_value o ∷ [])) (collect-ones (items_of v))
    ∙ ap (λ l. Some (number (sum_of l))) (to_list-of_list (ones (items_of v))) ∙ ap (λ m. Some (number m)) (sum-ones (items_of v))

-- The tables meet its structures where they meet those of a.
pub count-met : (z : Text) (a : Ex) (env : Env) → Meets a env → Meets (items_counted z a) env
count-met z a env m = ((m, each-in-any (meaning a env) (λ v. Meets (number_ex (pos 1)) (behind z v env)) (λ v. tt)), tt)

-- ---- lists

-- A list is a matrix whose indices are the numbers of its items.
abbrev pub listed : List Value → Value
listed xs = matrix (of_list (map number (one_to (length xs)))) (of_list xs)

-- A list of items of a type.
pub record ListOf (p : Bool) (es : List TypeEntry) (t : Ty) (v : Value) : Type 0 where
  pub items : List Value
  pub is_list : v ≡ listed items
  pub typed : list_all (is_of p es t) items ≡ true

-- A literal or a comprehension that has a value of a type of matrices is a list of items of their type.
pub list-of-type : (z : Text) (a : Ex) (env : Env) (i t : Ty) (v : Value) → is_laid_open a ≡ true → meaning a env ≡ Some v → Meets a env →
    is_of env.positions env.types (compound2 a_matrix i t) v ≡ true → ListOf env.positions env.types t v
list-of-type z a env i t v q j m h =
    let p = matrix-value env.positions env.types i t v h in
    let c = count-means z a env v j in
    let by = list-indexed (items_counted z a) a env q (ap is_some j) (c ∙ sym (ap (option_map (λ w. number (pos (length (items_of w))))) j))
    (count-met z a env m) in
    let e : Some (to_list p.indices) ≡ Some (map number (one_to (length (to_list p.parts)))) =
    sym (ap (option_map indices_of) (j ∙ ap Some p.is_matrix)) ∙ by.indices
    ∙ slots-members (items_counted z a) env (length (to_list p.parts)) (c
    ∙ ap (λ w. Some (number (pos (length (items_of w))))) p.is_matrix) in record {
      items = to_list p.parts;
      is_list = p.is_matrix ∙ ap (λ l. matrix l p.parts) (sym (of_list-to_list p.indices)
          ∙ ap of_list (ap (λ o. elim o [ Some l ↦ l | None ↦ [] ]) e))
          ∙ ap (matrix (of_list (map number (one_to (length (to_list p.parts)))))) (sym (of_list-to_list p.parts));
      typed = p.typed;
    }

same-number : (j k : ℕ) → same (number (pos j)) (number (pos k)) ≡ true → j ≡ k
same-number j k e = ap (λ v. elim v [ number (pos n) ↦ n | _ ↦ j ]) (same-equal (number (pos j)) (number (pos k)) e)

differ : (j k : ℕ) → (j ≡ k → ⊥) → same (number (pos j)) (number (pos k)) ≡ false
differ j k h = go (same (number (pos j)) (number (pos k))) refl
  where
    go : (b : Bool) → same (number (pos j)) (number (pos k)) ≡ b → b ≡ false
    go true e = absurd (h (same-number j k e))
    go false e = refl

-- No number before the first one picks an item.
none-before : (k : ℕ) (xs : List Value) (m : ℕ) → m < k →
    item_at (of_list (map number (run_from k (length xs)))) (of_list xs) (number (pos m)) ≡ None
none-before k [] m h = refl
none-before k (x ∷ xs) m h =
    ap (λ b. if b then Some x else item_at (of_list (map number (run_from (suc k) (length xs)))) (of_list xs) (number (pos m)))
    (differ k m (λ e. omega arith)) ∙ none-before (suc k) xs m (omega arith)

item-from : (k : ℕ) (xs : List Value) (j m : ℕ) → m ≡ k + j →
    item_at (of_list (map number (run_from (suc k) (length xs)))) (of_list xs) (number (pos m)) ≡ component (of_list xs) j
item-from k [] j m h = refl
item-from k (x ∷ xs) zero m h =
    ap (λ b. if b then Some x else item_at (of_list (map number (run_from (suc (suc k)) (length xs)))) (of_list xs) (number (pos m)))
    (differ (suc k) m (λ e. omega arith)) ∙ none-before (suc (suc k)) xs m (omega arith)
item-from k (x ∷ xs) (suc zero) m h =
    ap (λ b. if b then Some x else item_at (of_list (map number (run_from (suc (suc k)) (length xs)))) (of_list xs) (number (pos m)))
    (ap (λ i. same (number (pos (suc k))) (number (pos i))) (let e : m ≡ suc k = omega arith in e) ∙ same-itself (number (pos (suc k))))
item-from k (x ∷ xs) (suc (suc j)) m h =
    ap (λ b. if b then Some x else item_at (of_list (map number (run_from (suc (suc k)) (length xs)))) (of_list xs) (number (pos m)))
    (differ (suc k) m (λ e. omega arith)) ∙ item-from (suc k) xs (suc j) m (omega arith)

-- The item of a list at a number.
pub item-by-number : (xs : List Value) (j : ℕ) →
    item_at (of_list (map number (one_to (length xs)))) (of_list xs) (number (pos j)) ≡ component (of_list xs) j
item-by-number xs j = item-from zero xs j j (omega arith)

-- ---- where there is an item

-- There is one at each number up to how many there are.
pub item-there : (xs : List Value) (j : ℕ) → nat_le (suc j) (length xs) ≡ true → (x : Value) × (component (of_list xs) (suc j) ≡ Some x)
item-there [] j h = let e : false ≡ true = sym (leb-suc-zero j) ∙ h in cc
item-there (x ∷ xs) zero h = (x, refl)
item-there (x ∷ xs) (suc j) h = item-there xs j (sym (leb-suc-suc (suc j) (length xs)) ∙ h)

-- There is none behind these.
pub item-none : (xs : List Value) (j : ℕ) → nat_le (suc j) (length xs) ≡ false → component (of_list xs) (suc j) ≡ None
item-none [] j h = refl
item-none (x ∷ xs) zero h = let e : nat_le 1 (suc (length xs)) ≡ true = le-leb 1 (suc (length xs)) (omega arith) in cc
item-none (x ∷ xs) (suc j) h = item-none xs j (sym (leb-suc-suc (suc j) (length xs)) ∙ h)

-- What holds of each item holds of the one at a number.
pub item-has : (P : Value → Bool) (xs : List Value) (j : ℕ) (x : Value) → list_all P xs ≡ true → component (of_list xs) j ≡ Some x → P x
    ≡ true
item-has P [] j x h e = cc
item-has P (y ∷ ys) zero x h e = cc
item-has P (y ∷ ys) (suc zero) x h e = subst (λ w. P w ≡ true) (let z : y ≡ x = cc in z) (and-left (P y) (list_all P ys) h)
item-has P (y ∷ ys) (suc (suc j)) x h e = item-has P ys (suc j) x (and-right (P y) (list_all P ys) h) e

-- ---- items that are compared

-- What an operator says of two items of types t and u, each there or not.
abbrev pub compared : Op2 → Ty → Ty → Option Value → Option Value → Bool
compared o t u p q =
    as_truth (value_of_node (binary o) (false_where_undefined (is_bool (Some t)) p ∷ false_where_undefined (is_bool (Some u)) q ∷ []))

-- The item at the value of an index.
item-means : (t : Ty) (a i : Ex) (env : Env) (is xs : Values) (w : Value) → meaning a env ≡ Some (matrix is xs) → meaning i env ≡ Some w →
    meaning (item_of t a i) env ≡ false_where_undefined (is_bool (Some t)) (item_at is xs w)
item-means t a i env is xs w p q =
    ap (λ o. false_where_undefined (is_bool (Some t)) (value_of_node (index (by_value ∷ [])) (o ∷ meaning i env ∷ []))) p
    ∙ ap (λ o. false_where_undefined (is_bool (Some t)) (value_of_node (index (by_value ∷ [])) (Some (matrix is xs) ∷ o ∷ []))) q
    ∙ ap (false_where_undefined (is_bool (Some t))) (itself (item_at is xs w))
  where
    itself : (o : Option Value) → and_then o (λ v. Some v) ≡ o
    itself None = refl
    itself (Some v) = refl

-- `a[i] o b[i]` of lists, at a number.
pub compared-means : (o : Op2) (t u : Ty) (a b i : Ex) (env : Env) (xs ys : List Value) (j : ℕ) → meaning a env ≡ Some (listed xs) →
    meaning b env ≡ Some (listed ys) → meaning i env ≡ Some (number (pos j)) →
    meaning (ex2 true o (item_of t a i) (item_of u b i)) env ≡ Some (truth
    (compared o t u (component (of_list xs) j) (component (of_list ys) j)))
compared-means o t u a b i env xs ys j p q r =
    ap (λ v. false_where_undefined true (value_of_node (binary o) (v ∷ meaning (item_of u b i) env ∷ [])))
    (item-means t a i env _ _ (number (pos j)) p r ∙ ap (false_where_undefined (is_bool (Some t))) (item-by-number xs j))
    ∙ ap (λ v. false_where_undefined true
    (value_of_node (binary o) (false_where_undefined (is_bool (Some t)) (component (of_list xs) j) ∷ v ∷ [])))
    (item-means u b i env _ _ (number (pos j)) q r ∙ ap (false_where_undefined (is_bool (Some u))) (item-by-number ys j))

module _ (p : Bool) (es : List TypeEntry) (t u : Ty) (xs ys : List Value) (typed-xs : list_all (is_of p es t) xs ≡ true)
    (typed-ys : list_all (is_of p es u) ys ≡ true) (o : Op2) (f : Value → Value → Bool)
    (says : (x y : Value) → as_truth (value_of_node (binary o) (Some x ∷ Some y ∷ [])) ≡ f x y) where
  -- Where both are there it is said of the two.
  pub compared-both : (j : ℕ) → nat_le (suc j) (length xs) ≡ true → nat_le (suc j) (length ys) ≡ true →
      compared o t u (component (of_list xs) (suc j)) (component (of_list ys) (suc j)) ≡ at_both f xs ys (suc j)
  compared-both j h k =
      let x = item-there xs j h in
      let y = item-there ys j k in
      ap (λ q. compared o t u q (component (of_list ys) (suc j))) x.1 ∙ ap (compared o t u (Some x.0)) y.1
      ∙ ap (λ q. as_truth (value_of_node (binary o) (q ∷ false_where_undefined (is_bool (Some u)) (Some y.0) ∷ [])))
      (of-mark p es t x.0 (item-has (is_of p es t) xs (suc j) x.0 typed-xs x.1))
      ∙ ap (λ q. as_truth (value_of_node (binary o) (Some x.0 ∷ q ∷ [])))
      (of-mark p es u y.0 (item-has (is_of p es u) ys (suc j) y.0 typed-ys y.1))
      ∙ says x.0 y.0
      ∙ sym (ap (λ q. both_have f q (component (of_list ys) (suc j))) x.1 ∙ ap (both_have f (Some x.0)) y.1)

  -- Where one isn't there nothing is said.
  pub compared-neither : (j : ℕ) → nat_le (suc j) (length xs) && nat_le (suc j) (length ys) ≡ false → at_both f xs ys (suc j) ≡ false
  compared-neither j h = go (nat_le (suc j) (length xs)) refl (nat_le (suc j) (length ys)) refl h
    where
      go : (b : Bool) → nat_le (suc j) (length xs) ≡ b → (c : Bool) → nat_le (suc j) (length ys) ≡ c → b && c ≡ false →
          at_both f xs ys (suc j) ≡ false
      go false q c r e = ap (λ v. both_have f v (component (of_list ys) (suc j))) (item-none xs j q)
      go true q false r e = ap (both_have f (component (of_list xs) (suc j))) (item-none ys j r)
          ∙ right-none f (component (of_list xs) (suc j))
      go true q true r e = cc
