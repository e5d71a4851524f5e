-- The items of a nested matrix: each is made of the values at the places behind its index.
use Rattle.std.proofs.Common.{◌≡◌, refl, sym, ap, ◌∙◌, subst, ℕ, zero, suc, Bool, true, false, ◌||◌, if◌then◌else◌, List, [], ◌∷◌, ◌++◌, map, take, drop, length, ℤ, Option, Some, None, option_map, arith}
use Rattle.std.specs.List.{list_all}
use Rattle.ess_semantics.specs.Lists.{and_then, each_of}
use Rattle.ess_semantics.specs.Values.{Value, of_list}
use Rattle.ess_semantics.specs.Order.{same}
use Rattle.ess_semantics.specs.Collections.{holds}
use Rattle.ess_semantics.specs.Domains.{add_heads}
use Rattle.ess_semantics.specs.Operators.{item_at}
use Rattle.ess_semantics.specs.Tables.{code}
use Rattle.ess_semantics.specs.ScalarLayers.{in_lists_of}
use Rattle.ess_semantics.proofs.Tests.{and-left, and-right, and-both}
use Rattle.ess_semantics.proofs.Orders.{same-equal}

no : {A : Type 0} → false ≡ true → A
no h = cc

-- ---- answers on lists

-- Answers on two lists, one behind the other.
each-append : (xs ys : List (List ℤ)) (f : List ℤ → Option Value) (vs : List Value) → each_of (xs ++ ys) f ≡ Some vs →
    (us : List Value) × (ws : List Value) × (each_of xs f ≡ Some us) × (each_of ys f ≡ Some ws) × (vs ≡ us ++ ws)
each-append [] ys f vs q = ([], vs, refl, q, refl)
each-append (x ∷ xs) ys f vs q = go (f x) (each_of (xs ++ ys) f) refl refl q (λ ws j. each-append xs ys f ws j)
  where
    Parts : List Value → Type 0
    Parts vs = (us : List Value) × (ws : List Value) × (each_of (x ∷ xs) f ≡ Some us) × (each_of ys f ≡ Some ws) × (vs ≡ us ++ ws)

    go : (o : Option Value) (p : Option (List Value)) → f x ≡ o → each_of (xs ++ ys) f ≡ p →
        and_then o (λ y. option_map (λ zs. y ∷ zs) p) ≡ Some vs →
        ((ws : List Value) → each_of (xs ++ ys) f ≡ Some ws →
        (us : List Value) × (zs : List Value) × (each_of xs f ≡ Some us) × (each_of ys f ≡ Some zs) × (ws ≡ us ++ zs)) → Parts vs
    go None p a b q r = cc
    go (Some v) None a b q r = cc
    go (Some v) (Some ws) a b q r = let t = r ws b in (
      v ∷ t.0,
      t.1,
      ap (λ o. and_then o (λ y. option_map (λ zs. y ∷ zs) (each_of xs f))) a ∙ ap (option_map (λ zs. v ∷ zs)) t.2,
      t.3,
      sym (let z : v ∷ ws ≡ vs = cc in z) ∙ ap (λ l. v ∷ l) t.4,
    )

-- Answers on mapped items.
each-map : (g : List ℤ → List ℤ) (xs : List (List ℤ)) (f : List ℤ → Option Value) → each_of (map g xs) f ≡ each_of xs (λ j. f (g j))
each-map g [] f = refl
each-map g (x ∷ xs) f = ap (λ o. and_then (f (g x)) (λ y. option_map (λ zs. y ∷ zs) o)) (each-map g xs f)

-- As many answers as items.
each-long : (xs : List (List ℤ)) (f : List ℤ → Option Value) (vs : List Value) → each_of xs f ≡ Some vs → length vs ≡ length xs
each-long [] f vs q = sym (ap length (let e : [] ≡ vs = cc in e))
each-long (x ∷ xs) f vs q = go (f x) (each_of xs f) refl q (λ us e. each-long xs f us e)
  where
    go : (o : Option Value) (p : Option (List Value)) → each_of xs f ≡ p → and_then o (λ v. option_map (λ us. v ∷ us) p) ≡ Some vs →
        ((us : List Value) → each_of xs f ≡ Some us → length us ≡ length xs) → length vs ≡ suc (length xs)
    go None p e q r = cc
    go (Some v) None e q r = cc
    go (Some v) (Some us) e q r = sym (ap length (let z : v ∷ us ≡ vs = cc in z)) ∙ ap suc (r us e)

map-long : (g : List ℤ → List ℤ) (xs : List (List ℤ)) → length (map g xs) ≡ length xs
map-long g [] = refl
map-long g (x ∷ xs) = ap suc (map-long g xs)

take-first : (n : ℕ) (us ws : List Value) → length us ≡ n → take n (us ++ ws) ≡ us
take-first zero [] ws h = refl
take-first zero (u ∷ us) ws h = absurd (omega arith)
take-first (suc n) [] ws h = absurd (omega arith)
take-first (suc n) (u ∷ us) ws h = ap (λ l. u ∷ l) (take-first n us ws (omega arith))

drop-first : (n : ℕ) (us ws : List Value) → length us ≡ n → drop n (us ++ ws) ≡ ws
drop-first zero [] ws h = refl
drop-first zero (u ∷ us) ws h = absurd (omega arith)
drop-first (suc n) [] ws h = absurd (omega arith)
drop-first (suc n) (u ∷ us) ws h = drop-first n us ws (omega arith)

all-append : (xs ys : List (List ℤ)) (f : List ℤ → Bool) → list_all f (xs ++ ys) ≡ true →
    (list_all f xs ≡ true) × (list_all f ys ≡ true)
all-append [] ys f h = (refl, h)
all-append (x ∷ xs) ys f h = let t = all-append xs ys f (and-right (f x) _ h) in
    (and-both (f x) (list_all f xs) (and-left (f x) _ h) t.0, t.1)

all-map : (g : List ℤ → List ℤ) (xs : List (List ℤ)) (f : List ℤ → Bool) → list_all f (map g xs) ≡ true →
    list_all (λ j. f (g j)) xs ≡ true
all-map g [] f h = refl
all-map g (x ∷ xs) f h = and-both (f (g x)) _ (and-left (f (g x)) _ h) (all-map g xs f (and-right (f (g x)) _ h))

-- ---- the item at an index

module _ (F : List Value → Option Value) (V : List ℤ → Option Value) (O : List ℤ → Bool) (G : Value → Bool) (Q : List (List ℤ)) (w : Value)
  where
    -- The item at w is made of the values at the places behind the number of w.
    pub record ItemStands (p : Option Value) : Type 0 where
      pub item : Value
      pub values : List Value
      pub is_item : p ≡ Some item
      pub are_values : each_of Q (λ j. V (code w ∷ j)) ≡ Some values
      pub made : F values ≡ Some item
      pub orderly : list_all (λ j. O (code w ∷ j)) Q ≡ true
      pub typed : G item ≡ true

    -- So it is where w is one of the indices.
    pub item-stands : (n : ℕ) → length Q ≡ n → (ms vs ys : List Value) → each_of (add_heads (map code ms) Q) V ≡ Some vs →
        each_of (in_lists_of (length ms) n vs) F ≡ Some ys → list_all O (add_heads (map code ms) Q) ≡ true → list_all G ys ≡ true →
        holds ms w ≡ true → ItemStands (item_at (of_list ms) (of_list ys) w)
    item-stands n l [] vs ys q c o g h = no h
    item-stands n l (m ∷ ms) vs ys q c o g h =
        let s = each-append (map (λ j. code m ∷ j) Q) (add_heads (map code ms) Q) V vs q in
        let a = all-append (map (λ j. code m ∷ j) Q) (add_heads (map code ms) Q) O o in
        let u : each_of Q (λ j. V (code m ∷ j)) ≡ Some s.0 = sym (each-map (λ j. code m ∷ j) Q V) ∙ s.2 in
        let long : length s.0 ≡ n = each-long (map (λ j. code m ∷ j) Q) V s.0 s.2 ∙ map-long (λ j. code m ∷ j) Q ∙ l in
        go (F (take n vs)) refl (each_of (in_lists_of (length ms) n (drop n vs)) F) refl c
        s.0 (ap (take n) s.4 ∙ take-first n s.0 s.1 long) u (all-map (λ j. code m ∷ j) Q O a.0)
        (λ zs d k e. item-stands n l ms s.1 zs s.3
        (ap (λ z. each_of (in_lists_of (length ms) n z) F) (sym (ap (drop n) s.4 ∙ drop-first n s.0 s.1 long)) ∙ d) a.1 k e)
      where
        Rest : Type 0
        Rest = (zs : List Value) → each_of (in_lists_of (length ms) n (drop n vs)) F ≡ Some zs → list_all G zs ≡ true →
            holds ms w ≡ true → ItemStands (item_at (of_list ms) (of_list zs) w)

        at : (y : Value) (zs us : List Value) → F us ≡ Some y → each_of (in_lists_of (length ms) n (drop n vs)) F ≡ Some zs →
            list_all G (y ∷ zs) ≡ true → each_of Q (λ j. V (code m ∷ j)) ≡ Some us → list_all (λ j. O (code m ∷ j)) Q ≡ true → (b : Bool) →
            same m w ≡ b → b || holds ms w ≡ true → Rest → ItemStands (if b then Some y else item_at (of_list ms) (of_list zs) w)
        at y zs us f d k u p true s h r = record {
          item = y;
          values = us;
          is_item = refl;
          are_values = ap (λ z. each_of Q (λ j. V (code z ∷ j))) (sym (same-equal m w s)) ∙ u;
          made = f;
          orderly = ap (λ z. list_all (λ j. O (code z ∷ j)) Q) (sym (same-equal m w s)) ∙ p;
          typed = and-left _ _ k;
        }
        at y zs us f d k u p false s h r = r zs d (and-right _ _ k) h

        go : (x : Option Value) → F (take n vs) ≡ x → (z : Option (List Value)) → each_of (in_lists_of (length ms) n (drop n vs)) F ≡ z →
            and_then x (λ y. option_map (λ zs. y ∷ zs) z) ≡ Some ys → (us : List Value) → take n vs ≡ us →
            each_of Q (λ j. V (code m ∷ j)) ≡ Some us → list_all (λ j. O (code m ∷ j)) Q ≡ true → Rest →
            ItemStands (item_at (of_list (m ∷ ms)) (of_list ys) w)
        go None f z d c us t u p r = cc
        go (Some y) f None d c us t u p r = cc
        go (Some y) f (Some zs) d c us t u p r = let e : y ∷ zs ≡ ys = cc in
            subst (λ l. ItemStands (item_at (of_list (m ∷ ms)) (of_list l) w)) e
            (at y zs us (ap F (sym t) ∙ f) d (ap (list_all G) e ∙ g) u p (same m w) refl h r)
