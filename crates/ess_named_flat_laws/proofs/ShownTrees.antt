-- With cells and positions in the place of names a flat tree over scalars means what it meant, or its position, and is flat over cells.
use Rattle.std.proofs.Common.{◌≡◌, refl, sym, ap, ◌∙◌, subst, ℕ, Bool, true, false, not, [], ◌∷◌, pos, Option, Some, ◌<◌, ◌<ℤ◌, arith}
use Rattle.std.specs.Ordering.{int_cmp, nat_cmp, ordering_then, is_eq, is_lt, MatchOrdering}
use Rattle.std.specs.declared.cmp.Ordering.{Ordering}
use Rattle.std.specs.declared.cmp.Ordering.TheVariants.{Less, Equal, Greater}
use Rattle.std.specs.Cmp.{int_cmp_is, ranked}
use Rattle.std.proofs.lemmas.Int.{ints}
use Rattle.std.proofs.lemmas.Cmp.{tied_itself}
use Rattle.ess_semantics.specs.declared.words.Op1.{Op1}
use Rattle.ess_semantics.specs.declared.words.Op2.{Op2}
use Rattle.ess_semantics.specs.declared.words.Fun.{Fun}
use Rattle.ess_semantics.specs.Values.{Text, Value, item}
use Rattle.ess_semantics.specs.Values.{number as a_number_value, truth as a_truth_value}
use Rattle.ess_semantics.specs.Order.{order}
use Rattle.ess_semantics.specs.Trees.{unary, binary, word, Ex, node_ex, no_exs, more_exs, ex1, ex2, fun1}
use Rattle.ess_semantics.specs.Operators.{value_of_node, false_where_undefined}
use Rattle.ess_semantics.specs.Meaning.{Env, meaning}
use Rattle.ess_semantics.specs.Positions.{with_positions}
use Rattle.ess_semantics.proofs.Orders.{text_total}
use Rattle.conjure_model_laws.specs.ToldApart.{told}
use Rattle.conjure_model_laws.specs.Shown.{Shows, shown}
use Rattle.ess_flat_laws.specs.Flat.{OneOp, denied, negative, absolute, TwoOp, both, either, implied, agreeing, equal, unequal, below, at_most, above, at_least, sum, difference, product, is_choice, compares, Flat, none_marked}
use Rattle.ess_flat_laws.specs.Flat.{number as flat_number, truth as flat_truth, cell as flat_cell, one as flat_one, two as flat_two, chosen as flat_chosen}
use Rattle.ess_named_flat_laws.specs.NamedFlat.{Sort, truths, numbers, values_of, sort_of, mark_of, OfSort, a_truth, a_number, an_item, NamedFlat, number, truth, named, one, two, alike, chosen, IsScalarView, position, single}
use Rattle.ess_named_flat_laws.specs.Laws.{ScalarsHeld, ScalarsShown}

-- ---- comparisons

-- What compares values compares numbers.
compared-op : (o : Op2) → compares o ≡ true → TwoOp true o false false
compared-op Op2.Eq h = equal
compared-op Op2.Ne h = unequal
compared-op Op2.Lt h = below
compared-op Op2.Le h = at_most
compared-op Op2.Gt h = above
compared-op Op2.Ge h = at_least
compared-op o h = cc

-- Only products are chosen by conditions.
not-times : (o : Op2) → compares o ≡ true → (z : Ex) → is_choice o z ≡ false
not-times Op2.Eq h z = refl
not-times Op2.Ne h z = refl
not-times Op2.Lt h z = refl
not-times Op2.Le h z = refl
not-times Op2.Gt h z = refl
not-times Op2.Ge h z = refl
not-times o h z = cc

-- Positions stand in the order of the values of a type.
position-order : (a b : ℕ) → int_cmp (pos a) (pos b) ≡ nat_cmp a b
position-order a b = sym (int_cmp_is (pos a) (pos b) (nat_cmp a b) (go (nat_cmp a b) (ranked a b (nat_cmp a b) refl)))
  where
    go : (r : Ordering) → MatchOrdering r (a < b) (a ≡ b) (b < a) → MatchOrdering r (pos a <ℤ pos b) (pos a ≡ pos b) (pos b <ℤ pos a)
    go Less h = omega (arith, ints)
    go Equal h = ap pos h
    go Greater h = omega (arith, ints)

items-order : (t : Text) (i j : ℕ) → order (a_number_value (pos i)) (a_number_value (pos j)) ≡ order (item t i) (item t j)
items-order t i j = position-order i j ∙ sym (ap (λ o. ordering_then o (nat_cmp i j)) (tied_itself text_total t))

-- The value of an operator on these.
abbrev U : Bool → Op1 → Value → Option Value
U b o v = false_where_undefined b (value_of_node (unary o) (Some v ∷ []))

abbrev B : Bool → Op2 → Value → Value → Option Value
B b o v w = false_where_undefined b (value_of_node (binary o) (Some v ∷ Some w ∷ []))

-- Two values of a type compare as their positions.
items-compare : (o : Op2) → compares o ≡ true → (t : Text) (i j : ℕ) →
    (c : Bool) × (B true o (item t i) (item t j) ≡ Some (a_truth_value c))
    × (B true o (a_number_value (pos i)) (a_number_value (pos j)) ≡ Some (a_truth_value c))
items-compare Op2.Eq h t i j = (_, refl, ap (λ r. Some (a_truth_value (is_eq r))) (items-order t i j))
items-compare Op2.Ne h t i j = (_, refl, ap (λ r. Some (a_truth_value (not (is_eq r)))) (items-order t i j))
items-compare Op2.Lt h t i j = (_, refl, ap (λ r. Some (a_truth_value (is_lt r))) (items-order t i j))
items-compare Op2.Le h t i j = (_, refl, ap (λ r. Some (a_truth_value (not (is_lt r)))) (items-order t j i))
items-compare Op2.Gt h t i j = (_, refl, ap (λ r. Some (a_truth_value (is_lt r))) (items-order t j i))
items-compare Op2.Ge h t i j = (_, refl, ap (λ r. Some (a_truth_value (not (is_lt r)))) (items-order t i j))
items-compare o h t i j = cc

-- ---- operators

-- An operator gives a value of its sort, and the same of positions.
one-value : {b m : Bool} {o : Op1} {v : Value} → OneOp b o m → OfSort (sort_of m) v →
    (u : Value) × OfSort (sort_of b) u × (U b o v ≡ Some u) × (U b o (with_positions v) ≡ Some (with_positions u))
one-value denied a_truth = (_, a_truth, refl, refl)
one-value negative a_number = (_, a_number, refl, refl)
one-value absolute a_number = (_, a_number, refl, refl)

two-value : {b m k : Bool} {o : Op2} {v w : Value} → TwoOp b o m k → OfSort (sort_of m) v → OfSort (sort_of k) w →
    (u : Value) × OfSort (sort_of b) u × (B b o v w ≡ Some u) × (B b o (with_positions v) (with_positions w) ≡ Some (with_positions u))
two-value both a_truth a_truth = (_, a_truth, refl, refl)
two-value either a_truth a_truth = (_, a_truth, refl, refl)
two-value implied a_truth a_truth = (_, a_truth, refl, refl)
two-value agreeing a_truth a_truth = (_, a_truth, refl, refl)
two-value (equal {m = true}) a_truth a_truth = (_, a_truth, refl, refl)
two-value (equal {m = false}) a_number a_number = (_, a_truth, refl, refl)
two-value (unequal {m = true}) a_truth a_truth = (_, a_truth, refl, refl)
two-value (unequal {m = false}) a_number a_number = (_, a_truth, refl, refl)
two-value (below {m = true}) a_truth a_truth = (_, a_truth, refl, refl)
two-value (below {m = false}) a_number a_number = (_, a_truth, refl, refl)
two-value (at_most {m = true}) a_truth a_truth = (_, a_truth, refl, refl)
two-value (at_most {m = false}) a_number a_number = (_, a_truth, refl, refl)
two-value (above {m = true}) a_truth a_truth = (_, a_truth, refl, refl)
two-value (above {m = false}) a_number a_number = (_, a_truth, refl, refl)
two-value (at_least {m = true}) a_truth a_truth = (_, a_truth, refl, refl)
two-value (at_least {m = false}) a_number a_number = (_, a_truth, refl, refl)
two-value sum a_number a_number = (_, a_number, refl, refl)
two-value difference a_number a_number = (_, a_number, refl, refl)
two-value product a_number a_number = (_, a_number, refl, refl)

item-value : (o : Op2) {t : Text} {v w : Value} → compares o ≡ true → OfSort (values_of t) v → OfSort (values_of t) w →
    (u : Value) × OfSort truths u × (B true o v w ≡ Some u) × (B true o (with_positions v) (with_positions w) ≡ Some (with_positions u))
item-value o {t = t} h (an_item {k = i}) (an_item {k = j}) =
    let r = items-compare o h t i j in (a_truth_value r.0, a_truth, r.1, r.2)

chosen-value : {v : Value} → OfSort truths v →
    (u : Value) × OfSort numbers u × (false_where_undefined false (value_of_node (word Fun.ToInt) (Some v ∷ [])) ≡ Some u)
    × (false_where_undefined false (value_of_node (word Fun.ToInt) (Some (with_positions v) ∷ [])) ≡ Some (with_positions u))
chosen-value a_truth = (_, a_number, refl, refl)

-- ---- operators over tables

module _ (sh : Shows) where
  -- An operator of flat trees is none that takes the last view of a name.
  shown-two : {b m k : Bool} {o : Op2} → TwoOp b o m k → (x y : Ex) → shown sh (ex2 b o x y) ≡ ex2 b o (shown sh x) (shown sh y)
  shown-two both x y = refl
  shown-two either x y = refl
  shown-two implied x y = refl
  shown-two agreeing x y = refl
  shown-two equal x y = refl
  shown-two unequal x y = refl
  shown-two below x y = refl
  shown-two at_most x y = refl
  shown-two above x y = refl
  shown-two at_least x y = refl
  shown-two sum x y = refl
  shown-two difference x y = refl
  shown-two product x y = refl

-- ---- trees

module _ (names : Text → Option Sort) where
  abbrev N : Ex → Sort → Type 0
  N = NamedFlat names

  -- Nothing is bound in such a tree.
  pub told-named : {e : Ex} {m : Sort} → N e m → (k : ℕ) → told e [] k ≡ (e, k)
  told-named number k = refl
  told-named truth k = refl
  told-named (named h) k = refl
  told-named (one {b = b} {o = o} w f) k = ap (λ q. (node_ex b (unary o) (more_exs q.0 no_exs), q.1)) (told-named f k)
  told-named (two {b = b} {o = o} {x = x} {y = y} w f h c) k =
      ap (λ q. let u : Ex × ℕ = told y [] q.1 in (ex2 b o q.0 u.0, u.1)) (told-named f k)
      ∙ ap (λ u. (ex2 b o x u.0, u.1)) (told-named h k)
  told-named (alike {o = o} {x = x} {y = y} c f h) k =
      ap (λ q. let u : Ex × ℕ = told y [] q.1 in (ex2 true o q.0 u.0, u.1)) (told-named f k)
      ∙ ap (λ u. (ex2 true o x u.0, u.1)) (told-named h k)
  told-named (chosen f) k = ap (λ q. (fun1 false Fun.ToInt q.0, q.1)) (told-named f k)

  module _ (sh : Shows) (env there : Env) (held : ScalarsHeld names sh env there) where
    -- Its value, and what it means over tables.
    abbrev Means : Ex → Sort → Type 0
    Means e m = (v : Value) × OfSort m v × (meaning e env ≡ Some v) × (meaning (shown sh e) there ≡ Some (with_positions v))

    binary-means : (b : Bool) (o : Op2) (x y : Ex) (s : Sort) (v w u : Value) → shown sh (ex2 b o x y) ≡ ex2 b o (shown sh x) (shown sh y) →
        meaning x env ≡ Some v → meaning (shown sh x) there ≡ Some (with_positions v) → meaning y env ≡ Some w →
        meaning (shown sh y) there ≡ Some (with_positions w) → OfSort s u → B b o v w ≡ Some u →
        B b o (with_positions v) (with_positions w) ≡ Some (with_positions u) → Means (ex2 b o x y) s
    binary-means b o x y s v w u q p p' r r' k e e' = (
      u,
      k,
      ap (λ z. false_where_undefined b (value_of_node (binary o) (z ∷ meaning y env ∷ []))) p
          ∙ ap (λ z. false_where_undefined b (value_of_node (binary o) (Some v ∷ z ∷ []))) r ∙ e,
      ap (λ z. meaning z there) q
          ∙ ap (λ z. false_where_undefined b (value_of_node (binary o) (z ∷ meaning (shown sh y) there ∷ []))) p'
          ∙ ap (λ z. false_where_undefined b (value_of_node (binary o) (Some (with_positions v) ∷ z ∷ []))) r' ∙ e',
    )

    -- So it means its value's position.
    pub named-means : {e : Ex} {m : Sort} → N e m → Means e m
    named-means number = (_, a_number, refl, refl)
    named-means truth = (_, a_truth, refl, refl)
    named-means (named {a = a} {m = m} h) = held.held a m h
    named-means (one {b = b} {o = o} w f) =
        let v = named-means f in
        let u = one-value w v.1 in (
          u.0,
          u.1,
          ap (λ z. false_where_undefined b (value_of_node (unary o) (z ∷ []))) v.2 ∙ u.2,
          ap (λ z. false_where_undefined b (value_of_node (unary o) (z ∷ []))) v.3 ∙ u.3,
        )
    named-means (two {b = b} {o = o} {x = x} {y = y} w f h c) =
        let v = named-means f in
        let r = named-means h in
        let u = two-value w v.1 r.1 in
        binary-means b o x y (sort_of b) v.0 r.0 u.0 (shown-two sh w x y) v.2 v.3 r.2 r.3 u.1 u.2 u.3
    named-means (alike {o = o} {x = x} {y = y} c f h) =
        let v = named-means f in
        let r = named-means h in
        let u = item-value o c v.1 r.1 in
        binary-means true o x y truths v.0 r.0 u.0 (shown-two sh (compared-op o c) x y) v.2 v.3 r.2 r.3 u.1 u.2 u.3
    named-means (chosen f) =
        let v = named-means f in
        let u = chosen-value v.1 in (
          u.0,
          u.1,
          ap (λ z. false_where_undefined false (value_of_node (word Fun.ToInt) (z ∷ []))) v.2 ∙ u.2,
          ap (λ z. false_where_undefined false (value_of_node (word Fun.ToInt) (z ∷ []))) v.3 ∙ u.3,
        )

  module _ (cells : Text → Option Bool) (sh : Shows) (views : ScalarsShown names cells sh) where
    abbrev F : Ex → Bool → Type 0
    F = Flat none_marked cells

    mark-back : (m : Bool) → mark_of (sort_of m) ≡ m
    mark-back true = refl
    mark-back false = refl

    view-flat : {e : Ex} {m : Bool} → IsScalarView cells e m → F e m
    view-flat position = flat_number
    view-flat (single h) = flat_cell h

    view-unchosen : {e : Ex} {m : Bool} → IsScalarView cells e m → is_choice Op2.Times e ≡ false
    view-unchosen position = refl
    view-unchosen (single h) = refl

    -- A number that no condition chooses stays one.
    unchosen : {e : Ex} {m : Sort} → N e m → is_choice Op2.Times e ≡ false → is_choice Op2.Times (shown sh e) ≡ false
    unchosen number c = refl
    unchosen truth c = refl
    unchosen (named {a = a} {m = m} h) c = view-unchosen (views.views a m h)
    unchosen (one w f) c = refl
    unchosen (two {x = x} {y = y} w f h d) c = ap (is_choice Op2.Times) (shown-two sh w x y)
    unchosen (alike {o = o} {x = x} {y = y} d f h) c = ap (is_choice Op2.Times) (shown-two sh (compared-op o d) x y)
    unchosen (chosen f) c = c

    other-choice : {b m k : Bool} {o : Op2} (x z : Ex) → TwoOp b o m k → is_choice o x ≡ false →
        (is_choice Op2.Times x ≡ false → is_choice Op2.Times z ≡ false) → is_choice o z ≡ false
    other-choice x z both c f = refl
    other-choice x z either c f = refl
    other-choice x z implied c f = refl
    other-choice x z agreeing c f = refl
    other-choice x z equal c f = refl
    other-choice x z unequal c f = refl
    other-choice x z below c f = refl
    other-choice x z at_most c f = refl
    other-choice x z above c f = refl
    other-choice x z at_least c f = refl
    other-choice x z sum c f = refl
    other-choice x z difference c f = refl
    other-choice x z product c f = f c

    -- Over tables it is flat.
    pub named-flat : {e : Ex} {m : Sort} → N e m → F (shown sh e) (mark_of m)
    named-flat number = flat_number
    named-flat truth = flat_truth
    named-flat (named {a = a} {m = m} h) = view-flat (views.views a m h)
    named-flat (one {b = b} {m = m} {o = o} {x = x} w f) =
        subst (F (ex1 b o (shown sh x))) (sym (mark-back b)) (flat_one w (subst (F (shown sh x)) (mark-back m) (named-flat f)))
    named-flat (two {b = b} {m = m} {k = k} {o = o} {x = x} {y = y} w f h c) =
        subst (λ z. F z (mark_of (sort_of b))) (sym (shown-two sh w x y))
        (subst (F (ex2 b o (shown sh x) (shown sh y))) (sym (mark-back b))
        (flat_two w (subst (F (shown sh x)) (mark-back m) (named-flat f)) (subst (F (shown sh y)) (mark-back k) (named-flat h))
        (other-choice x (shown sh x) w c (unchosen f))))
    named-flat (alike {o = o} {x = x} {y = y} c f h) =
        subst (λ z. F z true) (sym (shown-two sh (compared-op o c) x y))
        (flat_two (compared-op o c) (named-flat f) (named-flat h) (not-times o c (shown sh x)))
    named-flat (chosen f) = flat_chosen (named-flat f)
