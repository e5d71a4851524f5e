-- Matrices are equal where they have as many items, each index of the first is one of the second, and items at these are equal.
use Rattle.std.proofs.Common.{◌≡◌, refl, sym, ap, ◌∙◌, subst, ℕ, suc, ◌≤◌, Bool, true, false, ◌&&◌, List, [], ◌∷◌, map, length, pos, arith, ◌⊎◌, inl, inr}
use Rattle.std.proofs.lemmas.Int.{ints}
use Rattle.std.proofs.lemmas.List.{length-map}
use Rattle.std.specs.List.{list_all}
use Rattle.ess_semantics.specs.Values.{Value, number, Values, to_list, matrix, itself}
use Rattle.ess_semantics.specs.Order.{order, same}
use Rattle.ess_semantics.specs.Collections.{holds, rises}
use Rattle.ess_semantics.specs.Numbers.{one_to}
use Rattle.ess_semantics.specs.Types.{Ty}
use Rattle.ess_semantics.specs.TypeMembers.{is_of}
use Rattle.ess_semantics.specs.Operators.{item_at}
use Rattle.ess_semantics.specs.Meaning.{TypeEntry}
use Rattle.ess_semantics.proofs.Tests.{and-left, and-right, and-both, both-ways, run-length}
use Rattle.ess_semantics.proofs.Orders.{order_total, same-itself, same_int-equal}
use Rattle.ess_semantics.proofs.Sorting.{Rising, Has, below-has, not-itself, sorted-of, holds-has, has-holds, one-sorted-list, all-holds, holds-all}
use Rattle.ess_rules_laws.proofs.MatrixItems.{equal_options, matrices-equal}

-- Whether two lists are equally long, as the sums of their items say it.
abbrev pub as_long : List Value → List Value → Bool
as_long is js = same (number (pos (length is))) (number (pos (length js)))

-- So they are.
pub long-as : (is js : List Value) → as_long is js ≡ true → length is ≡ length js
long-as is js e = let p : pos (length is) ≡ pos (length js) = same_int-equal (pos (length is)) (pos (length js)) e in omega (arith, ints)

-- So many are the numbers up to n.
run-long : (is : List Value) (n : ℕ) → is ≡ map number (one_to n) → length is ≡ n
run-long is n e = ap length e ∙ length-map (one_to n) number ∙ run-length 1 n

-- Of two lists that rise the first is the second where it lies in that and is as long.
one-within : (xs ys : List Value) → Rising order_total xs → Rising order_total ys
    → ((v : Value) → Has order_total xs v → Has order_total ys v) → length ys ≤ length xs → xs ≡ ys
one-within [] [] p q f n = refl
one-within [] (y ∷ ys) p q f n = absurd (let z : suc (length ys) ≤ 0 = n in omega (arith, z))
one-within (x ∷ xs) [] p q f n = absurd (f x (inl refl))
one-within (x ∷ xs) (y ∷ ys) p q f n = go (f x (inl refl)) (one-within xs ys p.1 q.1) (one-within (x ∷ xs) ys p q.1)
  where
    behind-it : (y ≡ x) → (v : Value) → Has order_total xs v → (y ≡ v) ⊎ Has order_total ys v → Has order_total ys v
    behind-it e v h (inl d) =
        absurd (not-itself order_total x (below-has order_total x x xs p.0 (subst (Has order_total xs) (sym d ∙ e) h)))
    behind-it e v h (inr k) = k

    above : Has order_total ys x → (v : Value) → (x ≡ v) ⊎ Has order_total xs v → (y ≡ v) ⊎ Has order_total ys v → Has order_total ys v
    above k v (inl d) w = subst (Has order_total ys) d k
    above k v (inr h) (inl d) = absurd (not-itself order_total y
        (order_total.trans y x y (below-has order_total y x ys q.0 k) (ap (order x) d ∙ below-has order_total x v xs p.0 h)))
    above k v (inr h) (inr j) = j

    go : (y ≡ x) ⊎ Has order_total ys x
        → (((v : Value) → Has order_total xs v → Has order_total ys v) → length ys ≤ length xs → xs ≡ ys)
        → (((v : Value) → (x ≡ v) ⊎ Has order_total xs v → Has order_total ys v) → length ys ≤ suc (length xs) → x ∷ xs ≡ ys)
        → x ∷ xs ≡ y ∷ ys
    go (inl e) a b = ap (λ z. z ∷ xs) (sym e) ∙ ap (λ l. y ∷ l) (a (λ v h. behind-it e v h (f v (inr h))) (omega (arith, n)))
    go (inr k) a b = let l = ap length (b (λ v h. above k v h (f v h)) (omega (arith, n))) in absurd (omega (arith, n, l))

-- Of two lists that rise, each lies in the other where they are equally long and the first lies in the second.
pub lie-both : (is js : List Value) → rises itself is ≡ true → rises itself js ≡ true
    → list_all (holds js) is && list_all (holds is) js ≡ as_long is js && list_all (holds js) is
lie-both is js r s = both-ways (list_all (holds js) is && list_all (holds is) js) (as_long is js && list_all (holds js) is)
    (λ q. let e : is ≡ js = one-sorted-list is js r s (λ v. both-ways (holds is v) (holds js v)
    (λ z. all-holds (holds js) is v (and-left _ _ q) z) (λ z. all-holds (holds is) js v (and-right _ _ q) z)) in
    and-both (as_long is js) (list_all (holds js) is)
    (subst (λ l. as_long is l ≡ true) e (same-itself (number (pos (length is))))) (and-left _ _ q))
    (λ q. let i : list_all (holds js) is ≡ true = and-right (as_long is js) (list_all (holds js) is) q in
    and-both (list_all (holds js) is) (list_all (holds is) js) i
    (subst (λ l. list_all (holds is) l ≡ true) (one-within is js (sorted-of is r) (sorted-of js s)
    (λ v z. holds-has js v (all-holds (holds js) is v i (has-holds is v z)))
    (let e = long-as is js (and-left (as_long is js) (list_all (holds js) is) q) in omega (arith, e)))
    (holds-all (holds is) is (λ v z. z))))

module _ (p : Bool) (es : List TypeEntry) (t u : Ty) (is js xs ys : Values) (r : rises itself (to_list is) ≡ true)
    (s : rises itself (to_list js) ≡ true) (m : length (to_list is) ≡ length (to_list xs)) (n : length (to_list js) ≡ length (to_list ys))
    (h : list_all (is_of p es t) (to_list xs) ≡ true) (k : list_all (is_of p es u) (to_list ys) ≡ true) where
  -- Whether the items at an index are equal.
  abbrev pub Equal : Value → Bool
  Equal i = equal_options t u (item_at is xs i) (item_at js ys i)

  -- Two matrices.
  pub over-equal : same (matrix is xs) (matrix js ys)
      ≡ (as_long (to_list is) (to_list js) && list_all (holds (to_list js)) (to_list is)) && list_all Equal (to_list is)
  over-equal = matrices-equal p es t u is js xs ys r s m n h k
      ∙ ap (λ b. b && list_all Equal (to_list is)) (lie-both (to_list is) (to_list js) r s)

  -- Two lists.
  pub lists-equal : (a b : ℕ) → to_list is ≡ map number (one_to a) → to_list js ≡ map number (one_to b)
      → same (matrix is xs) (matrix js ys) ≡ as_long (to_list is) (to_list js) && list_all Equal (to_list is)
  lists-equal a b e f = over-equal ∙ go (as_long (to_list is) (to_list js)) refl
    where
      go : (c : Bool) → as_long (to_list is) (to_list js) ≡ c
          → (c && list_all (holds (to_list js)) (to_list is)) && list_all Equal (to_list is) ≡ c && list_all Equal (to_list is)
      go false q = refl
      go true q = ap (λ d. d && list_all Equal (to_list is))
          (holds-all (holds (to_list js)) (to_list is) (λ v z. ap (λ l. holds l v) (sym one) ∙ z))
        where
          long : a ≡ b
          long = sym (run-long (to_list is) a e) ∙ long-as (to_list is) (to_list js) q ∙ run-long (to_list js) b f

          one : to_list is ≡ to_list js
          one = e ∙ ap (λ c. map number (one_to c)) long ∙ sym f
