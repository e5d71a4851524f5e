-- Lists in which some items are replaced by one that is last among all: the first of the others stays first.
use Rattle.std.proofs.Common.{◌≡◌, refl, sym, ap, ◌∙◌, subst, Bool, true, false, if◌then◌else◌, List, [], ◌∷◌, ◌++◌, map, Option, Some, None, option_map}
use Rattle.std.specs.Ordering.{ordering_reverse, is_lt}
use Rattle.std.specs.declared.cmp.Ordering.{Ordering}
use Rattle.std.specs.declared.cmp.Ordering.TheVariants.{Less, Equal, Greater}
use Rattle.ess_semantics.specs.Lists.{append_all}
use Rattle.ess_semantics.specs.Values.{Value}
use Rattle.ess_semantics.specs.Order.{order, below}
use Rattle.ess_semantics.specs.Operators.{least, greatest}
use Rattle.ess_semantics.specs.Contexts.{Each}
use Rattle.ess_semantics.proofs.Orders.{order_total, order_exact}
use Rattle.ess_semantics.proofs.Sorting.{below-less, less-below}

-- ---- an order of values

below-once : (x y : Value) → below x y ≡ true → below y x ≡ false
below-once x y e = ap is_lt (order_total.antisymm y x ∙ ap ordering_reverse (below-less x y e))

below-on : (x y z : Value) → below x y ≡ true → below y z ≡ true → below x z ≡ true
below-on x y z e f = less-below x z (order_total.trans x y z (below-less x y e) (below-less y z f))

below-one : (x y : Value) → below x y ≡ false → below y x ≡ false → x ≡ y
below-one x y e f = go (order x y) refl e (ap is_lt (sym (order_total.antisymm y x)) ∙ f)
  where
    go : (o : Ordering) → order x y ≡ o → is_lt o ≡ false → is_lt (ordering_reverse (order x y)) ≡ false → x ≡ y
    go Less q e f = cc
    go Equal q e f = order_exact x y q
    go Greater q e f = let r : true ≡ false = ap (λ p. is_lt (ordering_reverse p)) (sym q) ∙ f in cc

-- The value that is there, else k.
abbrev pub or_else_value : Value → Option Value → Value
or_else_value k None = k
or_else_value k (Some v) = v

-- b x y says that x comes before y.
abbrev First : (Value → Value → Bool) → List Value → Option Value
First b [] = None
First b (x ∷ []) = Some x
First b (x ∷ xs) = option_map (λ m. if b m x then m else x) (First b xs)

abbrev Joined : (Value → Value → Bool) → Value → Option Value → Value
Joined b x None = x
Joined b x (Some m) = if b m x then m else x

first-cons : (b : Value → Value → Bool) (x : Value) (xs : List Value) → First b (x ∷ xs) ≡ Some (Joined b x (First b xs))
first-cons b x [] = refl
first-cons b x (y ∷ ys) = ap (option_map (λ m. if b m x then m else x)) (first-cons b y ys)
    ∙ ap (λ o. Some (Joined b x o)) (sym (first-cons b y ys))

least-first : (xs : List Value) → least xs ≡ First below xs
least-first [] = refl
least-first (x ∷ []) = refl
least-first (x ∷ y ∷ ys) = ap (option_map (λ m. if below m x then m else x)) (least-first (y ∷ ys))

greatest-first : (xs : List Value) → greatest xs ≡ First (λ x y. below y x) xs
greatest-first [] = refl
greatest-first (x ∷ []) = refl
greatest-first (x ∷ y ∷ ys) = ap (option_map (λ m. if below x m then m else x)) (greatest-first (y ∷ ys))

-- ---- items left out

-- The first list has some of the second, and the third has k for those that it hasn't.
pub data Mix (k : Value) : List Value → List Value → List Value → Type 0 where
  mix_none : Mix k [] [] []
  mix_taken : (x : Value) (xs us ps : List Value) → Mix k xs us ps → Mix k (x ∷ xs) (x ∷ us) (x ∷ ps)
  mix_left : (u : Value) (xs us ps : List Value) → Mix k xs us ps → Mix k xs (u ∷ us) (k ∷ ps)

pub mix-append : (k : Value) (xs us ps ys ws qs : List Value) → Mix k xs us ps → Mix k ys ws qs → Mix k (xs ++ ys) (us ++ ws) (ps ++ qs)
mix-append k xs us ps ys ws qs mix_none n = n
mix-append k xs us ps ys ws qs (mix_taken x vs ts rs m) n =
    mix_taken x (vs ++ ys) (ts ++ ws) (rs ++ qs) (mix-append k vs ts rs ys ws qs m n)
mix-append k xs us ps ys ws qs (mix_left u vs ts rs m) n = mix_left u (vs ++ ys) (ts ++ ws) (rs ++ qs) (mix-append k vs ts rs ys ws qs m n)

module _ (b : Value → Value → Bool) (once : (x y : Value) → b x y ≡ true → b y x ≡ false)
    (on : (x y z : Value) → b x y ≡ true → b y z ≡ true → b x z ≡ true)
    (one : (x y : Value) → b x y ≡ false → b y x ≡ false → x ≡ y) where
  not-itself : (x : Value) → b x x ≡ false
  not-itself x = go (b x x) refl
    where
      go : (s : Bool) → b x x ≡ s → b x x ≡ false
      go true q = once x x q
      go false q = q

  -- What comes last comes before none.
  last-of : (us : List Value) (k : Value) → First (λ x y. b y x) us ≡ Some k → Each us (λ u. b k u ≡ false)
  last-of [] k e = tt
  last-of (x ∷ xs) k e = go (First (λ x y. b y x) xs) refl (λ m q. last-of xs m q)
      (ap (λ o. elim o [ None ↦ k | Some z ↦ z ]) (sym (first-cons (λ x y. b y x) x xs) ∙ e))
    where
      empty : (xs : List Value) → First (λ x y. b y x) xs ≡ None → Each xs (λ u. b k u ≡ false)
      empty [] q = tt
      empty (y ∷ ys) q = let r : None ≡ Some (Joined (λ x y. b y x) y (First (λ x y. b y x) ys)) = sym q
          ∙ first-cons (λ x y. b y x) y ys in cc

      behind : (m u : Value) → b x m ≡ false → b m u ≡ false → b x u ≡ false
      behind m u p q = look (b x u) refl (b u m) refl
        where
          look : (s : Bool) → b x u ≡ s → (t : Bool) → b u m ≡ t → b x u ≡ false
          look false r t w = r
          look true r true w = let z : true ≡ false = sym (on x u m r w) ∙ p in cc
          look true r false w = let z : true ≡ false = sym (subst (λ y. b x y ≡ true) (one u m w q) r) ∙ p in cc

      all-behind : (m : Value) (us : List Value) → b x m ≡ false → Each us (λ u. b m u ≡ false) → Each us (λ u. b x u ≡ false)
      all-behind m [] p h = tt
      all-behind m (u ∷ us) p h = (behind m u p h.0, all-behind m us p h.1)

      pick : (m : Value) (s : Bool) → b x m ≡ s → Each xs (λ u. b m u ≡ false) → (if s then m else x) ≡ k →
          Each (x ∷ xs) (λ u. b k u ≡ false)
      pick m true p h e = subst (λ z. Each (x ∷ xs) (λ u. b z u ≡ false)) e (once x m p, h)
      pick m false p h e = subst (λ z. Each (x ∷ xs) (λ u. b z u ≡ false)) e (not-itself x, all-behind m xs p h)

      go : (o : Option Value) → First (λ x y. b y x) xs ≡ o →
          ((m : Value) → First (λ x y. b y x) xs ≡ Some m → Each xs (λ u. b m u ≡ false)) → Joined (λ x y. b y x) x o ≡ k →
          Each (x ∷ xs) (λ u. b k u ≡ false)
      go None q h e = (subst (λ z. b z x ≡ false) e (not-itself x), empty xs q)
      go (Some m) q h e = pick m (b x m) refl (h m q) e

  -- What comes of the first of the list and of the list with k for what is left out.
  data Capped (k : Value) (o p : Option Value) : Type 0 where
    same_first : (v : Value) → o ≡ Some v → p ≡ Some v → b k v ≡ false → Capped k o p
    neither : o ≡ None → p ≡ None → Capped k o p
    only_last : o ≡ None → p ≡ Some k → Capped k o p

  -- With k in front of the second list, and with an item before k in front of both.
  capped-empty : (k : Value) (o : Option Value) (l : List Value) → Capped k o (First b l) → Capped k o (First b (k ∷ l))
  capped-empty k o l c = go c
    where
      last : (v : Value) (s : Bool) → b v k ≡ s → b k v ≡ false → (if s then v else k) ≡ v
      last v true p q = refl
      last v false p q = one k v q p

      alone : (s : Bool) → (if s then k else k) ≡ k
      alone true = refl
      alone false = refl

      go : Capped k o (First b l) → Capped k o (First b (k ∷ l))
      go (same_first v p q n) =
          same_first v p (first-cons b k l ∙ ap (λ o. Some (Joined b k o)) q ∙ ap Some (last v (b v k) refl n)) n
      go (neither p q) = only_last p (first-cons b k l ∙ ap (λ o. Some (Joined b k o)) q)
      go (only_last p q) = only_last p (first-cons b k l ∙ ap (λ o. Some (Joined b k o)) q ∙ ap Some (alone (b k k)))

  capped-full : (k w : Value) → b k w ≡ false → (o : Option Value) (l : List Value) → Capped k o (First b l) →
      Capped k (Some (Joined b w o)) (First b (w ∷ l))
  capped-full k w m o l c = subst (λ z. Capped k (Some (Joined b w o)) z) (sym (first-cons b w l)) (go c)
    where
      chosen : (v : Value) (s : Bool) → b k v ≡ false → b k (if s then v else w) ≡ false
      chosen v true q = q
      chosen v false q = m

      go : Capped k o (First b l) → Capped k (Some (Joined b w o)) (Some (Joined b w (First b l)))
      go (same_first v p q n) = same_first (if b v w then v else w) (ap (λ o. Some (Joined b w o)) p)
          (ap (λ o. Some (Joined b w o)) q) (chosen v (b v w) n)
      go (neither p q) = same_first w (ap (λ o. Some (Joined b w o)) p) (ap (λ o. Some (Joined b w o)) q) m
      go (only_last p q) = same_first w (ap (λ o. Some (Joined b w o)) p)
          (ap (λ o. Some (Joined b w o)) q ∙ ap (λ s. Some (if s then k else w)) m) m

  capped : (k : Value) (xs us ps : List Value) → Mix k xs us ps → Each us (λ u. b k u ≡ false) → Capped k (First b xs) (First b ps)
  capped k xs us ps mix_none h = neither refl refl
  capped k xs us ps (mix_taken x vs ts rs m) h =
      subst (λ z. Capped k z (First b (x ∷ rs))) (sym (first-cons b x vs)) (capped-full k x h.0 (First b vs) rs (capped k vs ts rs m h.1))
  capped k xs us ps (mix_left u vs ts rs m) h = capped-empty k (First b vs) rs (capped k vs ts rs m h.1)

  -- So the first one stays first.
  first-stays : (k : Value) (xs us ps : List Value) → Mix k xs us ps → First (λ x y. b y x) us ≡ Some k → (v : Value) →
      First b xs ≡ Some v →
      First b ps ≡ Some v
  first-stays k xs us ps m e v f = go (capped k xs us ps m (last-of us k e))
    where
      go : Capped k (First b xs) (First b ps) → First b ps ≡ Some v
      go (same_first w p q n) = q ∙ sym p ∙ f
      go (neither p q) = let r : None ≡ Some v = sym p ∙ f in cc
      go (only_last p q) = let r : None ≡ Some v = sym p ∙ f in cc

  -- ---- several lists

  joined-three : (x w : Value) (o : Option Value) → Joined b x (Some (Joined b w o)) ≡ Joined b (Joined b x (Some w)) o
  joined-three x w None = refl
  joined-three x w (Some z) = go (b z w) refl (b w x) refl
    where
      -- z comes before x, so one of the two steps by w says so.
      passed : b z w ≡ false → b w x ≡ false → (s : Bool) → b z x ≡ s → (t : Bool) → b x w ≡ t → b z x ≡ false
      passed p q false r t u = r
      passed p q true r true u = let e : true ≡ false = sym (on z x w r u) ∙ p in cc
      passed p q true r false u = let e : true ≡ false = sym (subst (λ y. b z y ≡ true) (one x w u q) r) ∙ p in cc

      go : (s : Bool) → b z w ≡ s → (t : Bool) → b w x ≡ t →
          Joined b x (Some (if s then z else w)) ≡ Joined b (if t then w else x) (Some z)
      go true p true q = ap (λ t. if t then z else x) (on z w x p q) ∙ sym (ap (λ t. if t then z else w) p)
      go true p false q = refl
      go false p true q = ap (λ t. if t then w else x) q ∙ sym (ap (λ t. if t then z else w) p)
      go false p false q = ap (λ t. if t then w else x) q ∙ sym (ap (λ t. if t then z else x) (passed p q (b z x) refl (b x w) refl))

  first-append : (xs ys : List Value) (w : Value) → First b xs ≡ Some w → First b (xs ++ ys) ≡ Some (Joined b w (First b ys))
  first-append [] ys w e = cc
  first-append (x ∷ xs) ys w e =
      first-cons b x (xs ++ ys)
      ∙ go xs (First b xs) refl (λ v q. first-append xs ys v q) (ap (λ o. elim o [ None ↦ w | Some z ↦ z ]) (sym (first-cons b x xs) ∙ e))
    where
      go : (xs : List Value) (o : Option Value) → First b xs ≡ o →
          ((v : Value) → First b xs ≡ Some v → First b (xs ++ ys) ≡ Some (Joined b v (First b ys))) →
          Joined b x (First b xs) ≡ w → Some (Joined b x (First b (xs ++ ys))) ≡ Some (Joined b w (First b ys))
      go [] o q h e = ap (λ z. Some (Joined b z (First b ys))) e
      go (y ∷ us) None q h e = let r : None ≡ Some (Joined b y (First b us)) = sym q ∙ first-cons b y us in cc
      go (y ∷ us) (Some v) q h e =
          ap (λ o. Some (Joined b x o)) (h v q) ∙ ap Some (joined-three x v (First b ys))
          ∙ ap (λ o. Some (Joined b (Joined b x o) (First b ys))) (sym q) ∙ ap (λ z. Some (Joined b z (First b ys))) e

  -- What holds of each item holds of the first.
  first-has : (P : Value → Type 0) (xs : List Value) → Each xs P → (w : Value) → First b xs ≡ Some w → P w
  first-has P [] h w e = cc
  first-has P (x ∷ xs) h w e =
      subst P (ap (λ o. elim o [ None ↦ w | Some z ↦ z ]) (sym (first-cons b x xs) ∙ e)) (go (First b xs) refl (λ m q. first-has P xs h.1 m q))
    where
      chosen : (m : Value) (s : Bool) → P m → P (if s then m else x)
      chosen m true p = p
      chosen m false p = h.0

      go : (o : Option Value) → First b xs ≡ o → ((m : Value) → First b xs ≡ Some m → P m) → P (Joined b x o)
      go None q r = h.0
      go (Some m) q r = chosen m (b m x) (r m q)

  abbrev Firsts : Value → List (List Value) → List Value
  Firsts k xss = map (λ xs. or_else_value k (First b xs)) xss

  lists-capped : (k : Value) (xss : List (List Value)) → Each xss (λ xs. Each xs (λ u. b k u ≡ false)) →
      Capped k (First b (append_all xss)) (First b (Firsts k xss))
  lists-capped k [] h = neither refl refl
  lists-capped k (xs ∷ xss) h = go xs h.0 (First b xs) refl (lists-capped k xss h.1)
    where
      go : (xs : List Value) → Each xs (λ u. b k u ≡ false) → (o : Option Value) → First b xs ≡ o →
          Capped k (First b (append_all xss)) (First b (Firsts k xss)) →
          Capped k (First b (xs ++ append_all xss)) (First b (or_else_value k (First b xs) ∷ Firsts k xss))
      go [] h o q c = capped-empty k (First b (append_all xss)) (Firsts k xss) c
      go (y ∷ ys) h None q c = let r : None ≡ Some (Joined b y (First b ys)) = sym q ∙ first-cons b y ys in cc
      go (y ∷ ys) h (Some w) q c =
          subst (λ z. Capped k z (First b (or_else_value k (First b (y ∷ ys)) ∷ Firsts k xss)))
          (sym (first-append (y ∷ ys) (append_all xss) w q))
          (subst (λ z. Capped k (Some (Joined b w (First b (append_all xss)))) (First b (or_else_value k z ∷ Firsts k xss))) (sym q)
          (capped-full k w (first-has (λ u. b k u ≡ false) (y ∷ ys) h w q) (First b (append_all xss)) (Firsts k xss) c))

  -- The first of all is the first of the firsts, with k for what has none.
  first-of-lists : (k : Value) (xss : List (List Value)) → Each xss (λ xs. Each xs (λ u. b k u ≡ false)) → (v : Value) →
      First b (append_all xss) ≡ Some v → First b (Firsts k xss) ≡ Some v
  first-of-lists k xss h v f = go (lists-capped k xss h)
    where
      go : Capped k (First b (append_all xss)) (First b (Firsts k xss)) → First b (Firsts k xss) ≡ Some v
      go (same_first w p q n) = q ∙ sym p ∙ f
      go (neither p q) = let r : None ≡ Some v = sym p ∙ f in cc
      go (only_last p q) = let r : None ≡ Some v = sym p ∙ f in cc

-- The least stays, with the greatest for what is left out, and the greatest with the least.
pub least-stays : (k : Value) (xs us ps : List Value) → Mix k xs us ps → greatest us ≡ Some k → (v : Value) → least xs ≡ Some v →
    least ps ≡ Some v
least-stays k xs us ps m e v f = least-first ps
    ∙ first-stays below below-once below-on below-one k xs us ps m (sym (greatest-first us) ∙ e) v
    (sym (least-first xs) ∙ f)

pub greatest-stays : (k : Value) (xs us ps : List Value) → Mix k xs us ps → least us ≡ Some k → (v : Value) → greatest xs ≡ Some v →
    greatest ps ≡ Some v
greatest-stays k xs us ps m e v f =
    greatest-first ps ∙ first-stays (λ x y. below y x) (λ x y q. below-once y x q) (λ x y z p q. below-on z y x q p)
    (λ x y p q. below-one x y q p)
    k xs us ps m (sym (least-first us) ∙ e) v (sym (greatest-first xs) ∙ f)

-- The least of all is the least of the leasts, with k for each list that has none, where k is no less than any; and so with the
-- greatest.
pub least-of-lists : (k : Value) (xss : List (List Value)) → Each xss (λ xs. Each xs (λ u. below k u ≡ false)) → (v : Value) →
    least (append_all xss) ≡ Some v → least (map (λ xs. or_else_value k (least xs)) xss) ≡ Some v
least-of-lists k xss h v e =
    ap least (go xss) ∙ least-first (map (λ xs. or_else_value k (First below xs)) xss)
    ∙ first-of-lists below below-once below-on below-one k xss h v (sym (least-first (append_all xss)) ∙ e)
  where
    go : (xss : List (List Value)) → map (λ xs. or_else_value k (least xs)) xss ≡ map (λ xs. or_else_value k (First below xs)) xss
    go [] = refl
    go (xs ∷ xss) = ap (λ z. or_else_value k z ∷ map (λ xs. or_else_value k (least xs)) xss) (least-first xs)
        ∙ ap (λ l. or_else_value k (First below xs) ∷ l) (go xss)

pub greatest-of-lists : (k : Value) (xss : List (List Value)) → Each xss (λ xs. Each xs (λ u. below u k ≡ false)) → (v : Value) →
    greatest (append_all xss) ≡ Some v → greatest (map (λ xs. or_else_value k (greatest xs)) xss) ≡ Some v
greatest-of-lists k xss h v e =
    ap greatest (go xss) ∙ greatest-first (map (λ xs. or_else_value k (First (λ x y. below y x) xs)) xss)
    ∙ first-of-lists (λ x y. below y x) (λ x y q. below-once y x q) (λ x y z p q. below-on z y x q p) (λ x y p q. below-one x y q p)
    k xss h v (sym (greatest-first (append_all xss)) ∙ e)
  where
    go : (xss : List (List Value)) →
        map (λ xs. or_else_value k (greatest xs)) xss ≡ map (λ xs. or_else_value k (First (λ x y. below y x) xs)) xss
    go [] = refl
    go (xs ∷ xss) = ap (λ z. or_else_value k z ∷ map (λ xs. or_else_value k (greatest xs)) xss) (greatest-first xs)
        ∙ ap (λ l. or_else_value k (First (λ x y. below y x) xs) ∷ l) (go xss)
