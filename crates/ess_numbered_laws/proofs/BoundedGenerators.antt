-- Bounds of comprehensions, from bounds of what stands behind each generator.
use Rattle.std.proofs.Common.{◌≡◌, refl, sym, ap, ◌∙◌, subst, ℕ, ◌*◌, ◌≤◌, Bool, true, false, if◌then◌else◌, List, [], ◌∷◌, ◌++◌, length, pos, Option, Some, None, option_map, arith}
use Rattle.std.specs.Prelude.{◌+ℤ◌, ◌*ℤ◌}
use Rattle.std.proofs.lemmas.Int.{ints}
use Rattle.std.proofs.lemmas.Bool.{leb-true}
use Rattle.std.proofs.Math.Nat.{mul-le-mul_right}
use Rattle.ess_semantics.specs.declared.words.Fun.{Fun}
use Rattle.ess_semantics.specs.declared.words.Op2.{Op2}
use Rattle.ess_semantics.specs.Lists.{and_then}
use Rattle.ess_semantics.specs.Values.{Value, number, truth, items_of}
use Rattle.ess_semantics.specs.Names.{Names}
use Rattle.ess_semantics.specs.Occurrences.{parts_of, parts_of_gens, parts_of_dom, free_of, has_cells}
use Rattle.ess_semantics.specs.Trees.{binary, word, name_pat, Pat, Ex, no_exs, more_exs, Gens, no_gens, over, from, cond, Dom, ex2}
use Rattle.ess_semantics.specs.Operators.{as_truth, number_in, sum_of, list_value, value_of_node}
use Rattle.ess_semantics.specs.Meaning.{Env, meaning, domain_of, members_in, items_under, collect, where_true, bind}
use Rattle.ess_semantics.specs.Contexts.{Each, EachOf, EachIn}
use Rattle.ess_semantics.specs.Meets.{Meets, MeetsGens}
use Rattle.ess_semantics.proofs.Orders.{to_list-of_list}
use Rattle.ess_rules_laws.specs.Rules.{Unused}
use Rattle.ess_rules_laws.proofs.RuleAnswers.{meaning-behind}
use Rattle.ess_numbered_laws.specs.ThereByForm.{is_there}
use Rattle.ess_numbered_laws.specs.MostItems.{Pick, sum_at, so_often, behind_condition}
use Rattle.ess_numbered_laws.specs.BoundLaws.{reach_at_most, PartFits}
use Rattle.ess_numbered_laws.proofs.Answered.{Answered, answered-under}
use Rattle.ess_numbered_laws.proofs.MostNumbers.{Natural, IsNatural}
use Rattle.ess_numbered_laws.proofs.BoundedSums.{Adds, sum-bounds, times-bounds}
use Rattle.ess_numbered_laws.proofs.UnnamedParts.{free-unnamed}

-- ---- lists of parts

-- What holds of each part holds of each of the first ones.
pub each-left : (P : Ex → Type 0) (xs ys : List Ex) → Each (xs ++ ys) P → Each xs P
each-left P [] ys h = tt
each-left P (x ∷ xs) ys h = (h.0, each-left P xs ys h.1)

-- What holds of each part holds of each in what is behind the first ones.
pub each-right : (P : Ex → Type 0) (xs ys : List Ex) → Each (xs ++ ys) P → Each ys P
each-right P [] ys h = h
each-right P (x ∷ xs) ys h = each-right P xs ys h.1

each-to : (P Q : Value → Type 0) (vs : List Value) → Each vs P → ((v : Value) → P v → Q v) → Each vs Q
each-to P Q [] h k = tt
each-to P Q (v ∷ vs) h k = (k v h.0, each-to P Q vs h.1 k)

-- ---- sums that are there

-- The answer behind one is there with it.
pub then-there : {A B : Type 0} (o : Option A) (f : A → Option B) (y : B) → and_then o f ≡ Some y → (x : A) × (o ≡ Some x) × (f x ≡ Some y)
then-there None f y e = cc
then-there (Some x) f y e = (x, refl, e)

-- The items of a sum that is there.
pub sum-there : (o : Option (List Value)) (k : ℕ) → value_of_node (word Fun.Sum) (option_map list_value o ∷ []) ≡ Some (number (pos k)) →
    (ws : List Value) × (o ≡ Some ws) × (sum_of ws ≡ pos k)
sum-there None k e = cc
sum-there (Some ws) k e = (ws, refl, sym (ap sum_of (to_list-of_list ws)) ∙ (let z : sum_of (items_of (list_value ws)) ≡ pos k = cc in z))

times-there : (o p : Option Value) (k : ℕ) → ((v : Value) → o ≡ Some v → Natural v) → ((v : Value) → p ≡ Some v → Natural v) →
    value_of_node (binary Op2.Times) (o ∷ p ∷ []) ≡ Some (number (pos k)) →
    (a : ℕ) × (b : ℕ) × (o ≡ Some (number (pos a))) × (p ≡ Some (number (pos b))) × (a * b ≡ k)
times-there None p k h l e = cc
times-there (Some v) None k h l e = cc
times-there (Some v) (Some w) k h l e = let r = h v refl in let s = l w refl in
    let x : number_in v *ℤ number_in w ≡ pos k = cc in
    let y : pos (r.0 * s.0) ≡ pos k = sym (ap (λ a. number_in a *ℤ number_in w) r.1 ∙ ap (λ a. pos r.0 *ℤ number_in a) s.1) ∙ x in
    (r.0, s.0, ap Some r.1, ap Some s.1, let z : r.0 * s.0 ≡ k = cc in z)

module _ (base : Env) where
  -- The env with other values of names.
  abbrev pub Here : Names Value → Env
  Here g = record base { vals = g }

  -- What is needed of a part.
  abbrev pub Good : Ex → Type 0
  Good e = (vals : Names Value) → PartFits e (Here vals)

  -- What is needed of each of several parts.
  abbrev pub AllGood : List Ex → Type 0
  AllGood l = Each l Good

  -- The value of n bounds what steps reach from t.
  abbrev pub Bounds : List Pick → Ex → Ex → Type 0
  Bounds ps t n = AllGood (parts_of t) → (g : Names Value) → Meets t (Here g) → (k : ℕ) → meaning n (Here g) ≡ Some (number (pos k)) →
      (v : Value) → meaning t (Here g) ≡ Some v → reach_at_most ps k v ≡ true

  -- What a comprehension has at a binding.
  abbrev pub OneItem : Ex → Env → Option (List Value)
  OneItem e here = option_map (λ v. v ∷ []) (meaning e here)

  -- The value of m passes the test with the item.
  abbrev pub AtItem : Ex → Ex → (ℕ → List Value → Bool) → Type 0
  AtItem e m f = (g : Names Value) → Meets e (Here g) → (k : ℕ) → meaning m (Here g) ≡ Some (number (pos k)) →
      (ys : List Value) → OneItem e (Here g) ≡ Some ys → f k ys ≡ true

  -- Then the value of n passes it with all items.
  abbrev pub Behind : Ex → Gens → Ex → Ex → Type 0
  Behind e gs m n = (f : ℕ → List Value → Bool) → Adds f → AtItem e m f → AllGood (parts_of_gens gs) → (g : Names Value) →
      MeetsGens gs (Here g) (λ here. Meets e here) → (k : ℕ) → meaning n (Here g) ≡ Some (number (pos k)) →
      (xs : List Value) → items_under gs (Here g) (OneItem e) ≡ Some xs → f k xs ≡ true

  module _ (e m : Ex) where
    -- Over a domain.
    pub behind-over : (p : Pat) (d : Dom) (gs : Gens) (n : Ex) → IsNatural n → Behind e gs m n →
        Behind e (over p d gs) m (sum_at n (over p d no_gens))
    behind-over p d gs n nat h f adds leaf good g met k q xs i =
        let s = sum-there (and_then (members_in (domain_of d (Here g)))
        (λ vs. collect vs (λ v. option_map (λ w. w ∷ []) (meaning n (Here (bind p v g)))))) k q in
        let r = then-there (members_in (domain_of d (Here g))) (λ vs. collect vs
        (λ v. option_map (λ w. w ∷ []) (meaning n (Here (bind p v g))))) s.0 s.1 in
        sum-bounds f adds (λ v. items_under gs (Here (bind p v g)) (OneItem e)) (λ v. meaning n (Here (bind p v g)))
        (λ v w t. nat (Here (bind p v g)) w t) r.0 s.0 xs k r.2 s.2
        (each-to (λ v. MeetsGens gs (Here (bind p v g)) (λ here. Meets e here)) _ r.0
        (subst (λ o. EachOf o (λ v. MeetsGens gs (Here (bind p v g)) (λ here. Meets e here))) r.1 met.1)
        (λ v mv j t ys y. h f adds leaf (each-right Good (parts_of_dom d) (parts_of_gens gs) good) (bind p v g) mv j t ys y))
        (sym (ap (λ o. and_then o (λ vs. collect vs (λ v. items_under gs (Here (bind p v g)) (OneItem e)))) r.1) ∙ i)

    -- Over the items of a term.
    pub behind-from : (p : Pat) (t : Ex) (gs : Gens) (l n : Ex) → IsNatural l → IsNatural n → Bounds [] t l → Behind e gs m n →
        Answered (so_often p l n) (Behind e (from p t gs) m)
    behind-from (name_pat y) t gs l n nat-l nat-n b h = answered-under (Behind e (from (name_pat y) t gs) m)
        (free_of (y ∷ []) (more_exs n no_exs)) (ex2 false Op2.Times l n)
        (λ c. at (free-unnamed y (more_exs n no_exs) c).0)
      where
        at : Unused y n → Behind e (from (name_pat y) t gs) m (ex2 false Op2.Times l n)
        at new f adds leaf good g met k q xs i =
            let r = times-there (meaning l (Here g)) (meaning n (Here g)) k (λ v w. nat-l (Here g) v w) (λ v w. nat-n (Here g) v w) q in
            let s = then-there (meaning t (Here g)) (λ s. collect (items_of s) (λ v. items_under gs (Here ((y, v) ∷ g)) (OneItem e))) xs
            i in
            let a : length (items_of s.0) ≤ r.0 = leb-true (length (items_of s.0)) r.0
            (b (each-left Good (parts_of t) (parts_of_gens gs) good) g met.0 r.0 r.2 s.0 s.1) in
            let w = mul-le-mul_right r.1 a in
            subst (λ j. f j xs ≡ true) r.4 (adds.more (length (items_of s.0) * r.1) (r.0 * r.1) xs w
            (times-bounds f adds (λ v. items_under gs (Here ((y, v) ∷ g)) (OneItem e)) r.1 (items_of s.0) xs
            (each-to (λ v. MeetsGens gs (Here ((y, v) ∷ g)) (λ here. Meets e here)) _ (items_of s.0)
            (subst (λ o. EachIn o (λ v. MeetsGens gs (Here ((y, v) ∷ g)) (λ here. Meets e here))) s.1 met.1)
            (λ v mv ys z. h f adds leaf (each-right Good (parts_of t) (parts_of_gens gs) good) ((y, v) ∷ g) mv r.1
            (meaning-behind y v n (Here g) new ∙ r.3) ys z))
            s.2))
    behind-from _ t gs l n nat-l nat-n b h = tt

    -- The value of n, where the condition is true.
    behind-true : (c n : Ex) → IsNatural n → (g : Names Value) (k : ℕ) → meaning c (Here g) ≡ Some (truth true) →
        meaning (sum_at n (cond c no_gens)) (Here g) ≡ Some (number (pos k)) → meaning n (Here g) ≡ Some (number (pos k))
    behind-true c n nat g k t q =
        let s = sum-there (option_map (λ w. w ∷ []) (meaning n (Here g))) k
        (sym (ap (λ o. value_of_node (word Fun.Sum) (option_map list_value
        (where_true o (λ u. option_map (λ w. w ∷ []) (meaning n (Here g)))) ∷ [])) t) ∙ q) in
        one (meaning n (Here g)) s.0 s.1 s.2 (λ v y. nat (Here g) v y)
      where
        one : (o : Option Value) (ws : List Value) → option_map (λ w. w ∷ []) o ≡ Some ws → sum_of ws ≡ pos k →
            ((v : Value) → o ≡ Some v → Natural v) →
            o ≡ Some (number (pos k))
        one None ws a b l = cc
        one (Some w) ws a b l = let r = l w refl in
            let z : w ∷ [] ≡ ws = cc in
            let y : pos r.0 +ℤ pos 0 ≡ pos k = sym (ap (λ v. number_in v +ℤ pos 0) r.1) ∙ ap sum_of z ∙ b in
            let x : r.0 ≡ k = omega (arith, ints) in ap Some r.1 ∙ ap (λ j. Some (number (pos j))) x

    -- A number that says no more than n where the condition is true.
    under-cond : (c : Ex) (gs : Gens) (n w : Ex) → Behind e gs m n →
        ((g : Names Value) (k : ℕ) → meaning c (Here g) ≡ Some (truth true) → meaning w (Here g) ≡ Some (number (pos k)) →
        meaning n (Here g) ≡ Some (number (pos k))) → Behind e (cond c gs) m w
    under-cond c gs n w h bare f adds leaf good g met k q xs i =
        go (meaning c (Here g)) refl i
      where
        none : Some [] ≡ Some xs → f k xs ≡ true
        none j = subst (λ l. f k l ≡ true) (let z : [] ≡ xs = cc in z) (adds.nothing k)

        go : (o : Option Value) → meaning c (Here g) ≡ o → where_true o (λ u. items_under gs (Here g) (OneItem e)) ≡ Some xs → f k xs ≡ true
        go (Some (truth true)) t j = h f adds leaf (each-right Good (parts_of c) (parts_of_gens gs) good) g (met.1 (ap as_truth t)) k
            (bare g k t q) xs j
        go _ t j = none j

    -- Under a condition.
    pub behind-cond : (c : Ex) (gs : Gens) (n : Ex) → IsNatural n → Behind e gs m n →
        Answered (behind_condition c n) (Behind e (cond c gs) m)
    behind-cond c gs n nat h = by (has_cells c)
      where
        by : (b : Bool) →
            Answered (if b then (if is_there n then Some n else None) else Some (sum_at n (cond c no_gens))) (Behind e (cond c gs) m)
        by true = answered-under (Behind e (cond c gs) m) (is_there n) n (λ q. under-cond c gs n n h (λ g k t r. r))
        by false = under-cond c gs n (sum_at n (cond c no_gens)) h (λ g k t r. behind-true c n nat g k t r)
