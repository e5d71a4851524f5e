-- A multiset in slots with numbers: the number of each slot, beside the values of those whose number is above 0.
use Rattle.std.proofs.Common.{◌≡◌, refl, sym, ap, ◌∙◌, subst, ℕ, zero, suc, ◌+◌, ◌≤◌, Bool, true, false, ◌&&◌, ◌||◌, if◌then◌else◌, List, [], ◌∷◌, ◌++◌, map, filter, length, replicate, ℤ, pos, ◌+ℤ◌, Option, Some, None, option_map, nat_le, arith}
use Rattle.std.proofs.lemmas.Int.{ints}
use Rattle.std.proofs.lemmas.Bool.{le-leb}
use Rattle.std.proofs.lemmas.List.{length-append}
use Rattle.std.specs.List.{list_all}
use Rattle.ess_semantics.specs.Lists.{and_then, each_of}
use Rattle.ess_semantics.specs.Values.{Value, number}
use Rattle.ess_semantics.specs.Order.{same}
use Rattle.ess_semantics.specs.Collections.{holds, count}
use Rattle.ess_semantics.specs.Numbers.{not_below_0}
use Rattle.ess_semantics.specs.Operators.{sum_of}
use Rattle.ess_semantics.specs.Layers.{counted, if_positive, repeated}
use Rattle.ess_semantics.specs.Meaning.{collect}
use Rattle.ess_semantics.specs.Contexts.{Each}
use Rattle.ess_semantics.proofs.Tests.{and-left, and-right, and-both, both-ways}
use Rattle.ess_semantics.proofs.Orders.{same-itself, same-equal}
use Rattle.ess_semantics.proofs.Overlaps.{holds-append}
use Rattle.ess_semantics.proofs.Repeats.{count-append, count-replicate}
use Rattle.ess_rules_laws.proofs.SlotNumbers.{as_place}

no : {A : Type 0} → false ≡ true → A
no h = cc

-- Whether a number is there and above 0.
abbrev pub positive : Option ℕ → Bool
positive None = false
positive (Some zero) = false
positive (Some (suc n)) = true

-- The places whose number is above 0.
pub counted-are : (f : List ℤ → Option ℤ) (ks : List ℤ) (js : List (List ℤ)) → counted (map as_place ks) f ≡ Some js →
    js ≡ map as_place (filter (λ k. positive (and_then (f (k ∷ [])) not_below_0)) ks)
counted-are f [] js q = sym (let e : [] ≡ js = cc in e)
counted-are f (k ∷ ks) js q = go (and_then (f (k ∷ [])) not_below_0) (counted (map as_place ks) f) refl q (λ ls r. counted-are f ks ls r)
  where
    T : ℤ → Bool
    T k = positive (and_then (f (k ∷ [])) not_below_0)

    go : (o : Option ℕ) (p : Option (List (List ℤ))) → counted (map as_place ks) f ≡ p →
        and_then o (λ n. option_map (if_positive n (k ∷ [])) p) ≡ Some js →
        ((ls : List (List ℤ)) → counted (map as_place ks) f ≡ Some ls →
        ls ≡ map as_place (filter (λ k. positive (and_then (f (k ∷ [])) not_below_0)) ks)) →
        js ≡ map as_place (if positive o then k ∷ filter (λ k. positive (and_then (f (k ∷ [])) not_below_0)) ks
        else filter (λ k. positive (and_then (f (k ∷ [])) not_below_0)) ks)
    go None p e q r = cc
    go (Some n) None e q r = cc
    go (Some zero) (Some ls) e q r = sym (let z : ls ≡ js = cc in z) ∙ r ls e
    go (Some (suc n)) (Some ls) e q r = sym (let z : (k ∷ []) ∷ ls ≡ js = cc in z) ∙ ap (λ l. (k ∷ []) ∷ l) (r ls e)

-- ---- what is made of the values

-- What g makes of each number above 0 with its value.
abbrev pub spread_slots : (ℕ → Value → List Value) → List ℕ → List Value → List Value
spread_slots g [] vs = []
spread_slots g (zero ∷ ns) vs = spread_slots g ns vs
spread_slots g (suc n ∷ ns) [] = []
spread_slots g (suc n ∷ ns) (v ∷ vs) = g (suc n) v ++ spread_slots g ns vs

-- Each value as often as its number says.
pub spread-repeated : (ns : List ℕ) (vs : List Value) → spread_slots (λ n v. replicate n v) ns vs ≡ repeated ns vs
spread-repeated [] vs = refl
spread-repeated (zero ∷ ns) vs = spread-repeated ns vs
spread-repeated (suc n ∷ ns) [] = refl
spread-repeated (suc n ∷ ns) (v ∷ vs) = ap (λ l. replicate (suc n) v ++ l) (spread-repeated ns vs)

-- Each number above 0 fits its value.
abbrev pub fits : (ℕ → Value → Bool) → List ℕ → List Value → Bool
fits b [] vs = true
fits b (zero ∷ ns) vs = fits b ns vs
fits b (suc n ∷ ns) [] = true
fits b (suc n ∷ ns) (v ∷ vs) = b (suc n) v && fits b ns vs

-- What holds of all values.
pub fits-all : (f : Value → Bool) (ns : List ℕ) (vs : List Value) → list_all f vs ≡ true → fits (λ n v. f v) ns vs ≡ true
fits-all f [] vs h = refl
fits-all f (zero ∷ ns) vs h = fits-all f ns vs h
fits-all f (suc n ∷ ns) [] h = refl
fits-all f (suc n ∷ ns) (v ∷ vs) h = and-both (f v) (fits (λ n v. f v) ns vs) (and-left _ _ h) (fits-all f ns vs (and-right _ _ h))

-- Two tests at once.
pub fits-both : (b c : ℕ → Value → Bool) (ns : List ℕ) (vs : List Value) → fits b ns vs ≡ true → fits c ns vs ≡ true →
    fits (λ n v. b n v && c n v) ns vs ≡ true
fits-both b c [] vs p q = refl
fits-both b c (zero ∷ ns) vs p q = fits-both b c ns vs p q
fits-both b c (suc n ∷ ns) [] p q = refl
fits-both b c (suc n ∷ ns) (v ∷ vs) p q = and-both (b (suc n) v && c (suc n) v) (fits (λ n v. b n v && c n v) ns vs)
    (and-both (b (suc n) v) (c (suc n) v) (and-left _ _ p) (and-left _ _ q))
    (fits-both b c ns vs (and-right _ _ p) (and-right _ _ q))

-- No number is above how often its value is there.
pub fits-bounded : (M : ℕ) (ns : List ℕ) (vs : List Value) → ((v : Value) → count (repeated ns vs) v ≤ M) →
    fits (λ n v. nat_le n M) ns vs ≡ true
fits-bounded M [] vs h = refl
fits-bounded M (zero ∷ ns) vs h = fits-bounded M ns vs h
fits-bounded M (suc n ∷ ns) [] h = refl
fits-bounded M (suc n ∷ ns) (v ∷ vs) h = and-both (nat_le (suc n) M) (fits (λ n v. nat_le n M) ns vs)
    (le-leb (suc n) M (let c = h v in let p = count-append (replicate (suc n) v) (repeated ns vs) v in
    let r = count-replicate (suc n) v v ∙ ap (λ b. if b then suc n else 0) (same-itself v) in omega arith))
    (fits-bounded M ns vs (λ w. let c = h w in let p = count-append (replicate (suc n) v) (repeated ns vs) w in omega arith))

-- ---- slots

module _ (N : ℤ → Option ℕ) (V : List ℤ → Option Value) where
  -- Each slot has its number, and one above 0 its value.
  abbrev pub Beside : List ℤ → List ℕ → List Value → Type 0
  Beside [] [] [] = Unit {0}
  Beside [] [] (v ∷ vs) = ⊥
  Beside [] (n ∷ ns) vs = ⊥
  Beside (k ∷ ks) [] vs = ⊥
  Beside (k ∷ ks) (zero ∷ ns) vs = (N k ≡ Some zero) × Beside ks ns vs
  Beside (k ∷ ks) (suc n ∷ ns) [] = ⊥
  Beside (k ∷ ks) (suc n ∷ ns) (v ∷ vs) = (N k ≡ Some (suc n)) × (V (k ∷ []) ≡ Some v) × Beside ks ns vs

  abbrev In_use : List ℤ → List ℤ
  In_use ks = filter (λ k. positive (N k)) ks

  valued : (k : ℤ) (ks : List ℤ) (n : ℕ) (ms : List ℕ) (vs : List Value) → N k ≡ Some (suc n) →
      (o : Option Value) → V (k ∷ []) ≡ o → (p : Option (List Value)) → each_of (map as_place (In_use ks)) V ≡ p →
      and_then o (λ y. option_map (λ ys. y ∷ ys) p) ≡ Some vs →
      ((us : List Value) → each_of (map as_place (In_use ks)) V ≡ Some us → Beside ks ms us) → Beside (k ∷ ks) (suc n ∷ ms) vs
  valued k ks n ms vs a None c p e q r = cc
  valued k ks n ms vs a (Some v) c None e q r = cc
  valued k ks n ms vs a (Some v) c (Some us) e q r =
      subst (Beside (k ∷ ks) (suc n ∷ ms)) (let z : v ∷ us ≡ vs = cc in z) (a, c, r us e)

  -- So it is where the numbers of all and the values of those above 0 are there.
  pub beside : (ks : List ℤ) (ns : List ℕ) (vs : List Value) → each_of ks N ≡ Some ns → each_of (map as_place (In_use ks)) V ≡ Some vs →
      Beside ks ns vs
  beside [] ns vs q p = subst (λ l. Beside [] l vs) (let e : [] ≡ ns = cc in e)
      (subst (Beside [] []) (let e : [] ≡ vs = cc in e) tt)
  beside (k ∷ ks) ns vs q p = go (N k) refl (each_of ks N) refl q p (λ ms us a b. beside ks ms us a b)
    where
      go : (o : Option ℕ) → N k ≡ o → (l : Option (List ℕ)) → each_of ks N ≡ l → and_then o (λ y. option_map (λ ys. y ∷ ys) l) ≡ Some ns →
          each_of (map as_place (if positive o then k ∷ In_use ks else In_use ks)) V ≡ Some vs →
          ((ms : List ℕ) (us : List Value) → each_of ks N ≡ Some ms → each_of (map as_place (In_use ks)) V ≡ Some us → Beside ks ms us) →
          Beside (k ∷ ks) ns vs
      go None a l b q p r = cc
      go (Some n) a None b q p r = cc
      go (Some zero) a (Some ms) b q p r =
          subst (λ l. Beside (k ∷ ks) l vs) (let e : 0 ∷ ms ≡ ns = cc in e) (a, r ms vs b p)
      go (Some (suc n)) a (Some ms) b q p r = subst (λ l. Beside (k ∷ ks) l vs) (let e : suc n ∷ ms ≡ ns = cc in e)
          (valued k ks n ms vs a (V (k ∷ [])) refl (each_of (map as_place (In_use ks)) V) refl p (λ us e. r ms us b e))

  -- What is collected over the numbers.
  pub collect-numbers : (G : Value → Option (List Value)) (h : ℕ → Value) → ((k : ℤ) (n : ℕ) → N k ≡ Some n → G (number k) ≡ Some (h n ∷ [])) →
      (ks : List ℤ) (ns : List ℕ) (vs : List Value) → Beside ks ns vs → collect (map number ks) G ≡ Some (map h ns)
  collect-numbers G h f [] [] [] b = refl
  collect-numbers G h f [] [] (v ∷ vs) b = absurd b
  collect-numbers G h f [] (n ∷ ns) vs b = absurd b
  collect-numbers G h f (k ∷ ks) [] vs b = absurd b
  collect-numbers G h f (k ∷ ks) (zero ∷ ns) vs b =
      ap (λ o. and_then o (λ xs. option_map (λ ys. xs ++ ys) (collect (map number ks) G))) (f k zero b.0)
      ∙ ap (option_map (λ ys. h zero ∷ ys)) (collect-numbers G h f ks ns vs b.1)
  collect-numbers G h f (k ∷ ks) (suc n ∷ ns) [] b = absurd b
  collect-numbers G h f (k ∷ ks) (suc n ∷ ns) (v ∷ vs) b =
      ap (λ o. and_then o (λ xs. option_map (λ ys. xs ++ ys) (collect (map number ks) G))) (f k (suc n) b.0)
      ∙ ap (option_map (λ ys. h (suc n) ∷ ys)) (collect-numbers G h f ks ns vs b.2)

  -- What is collected over the slots in use, where those out of use give nothing.
  pub collect-slots : (G : Value → Option (List Value)) (g : ℕ → Value → List Value) (t : ℕ → Value → Bool) →
      ((k : ℤ) → N k ≡ Some zero → G (number k) ≡ Some []) →
      ((k : ℤ) (n : ℕ) (v : Value) → N k ≡ Some (suc n) → V (k ∷ []) ≡ Some v → t (suc n) v ≡ true → G (number k) ≡ Some (g (suc n) v)) →
      (ks : List ℤ) (ns : List ℕ) (vs : List Value) → Beside ks ns vs → fits t ns vs ≡ true →
      collect (map number ks) G ≡ Some (spread_slots g ns vs)
  collect-slots G g t z f [] [] [] b h = refl
  collect-slots G g t z f [] [] (v ∷ vs) b h = absurd b
  collect-slots G g t z f [] (n ∷ ns) vs b h = absurd b
  collect-slots G g t z f (k ∷ ks) [] vs b h = absurd b
  collect-slots G g t z f (k ∷ ks) (zero ∷ ns) vs b h =
      ap (λ o. and_then o (λ xs. option_map (λ ys. xs ++ ys) (collect (map number ks) G))) (z k b.0)
      ∙ ap (option_map (λ ys. ys)) (collect-slots G g t z f ks ns vs b.1 h)
  collect-slots G g t z f (k ∷ ks) (suc n ∷ ns) [] b h = absurd b
  collect-slots G g t z f (k ∷ ks) (suc n ∷ ns) (v ∷ vs) b h =
      ap (λ o. and_then o (λ xs. option_map (λ ys. xs ++ ys) (collect (map number ks) G))) (f k n v b.0 b.1 (and-left _ _ h))
      ∙ ap (option_map (λ ys. g (suc n) v ++ ys)) (collect-slots G g t z f ks ns vs b.2 (and-right _ _ h))

  slot-behind : (P Q : Value → Type 0) → ((k : ℤ) (n : ℕ) → N k ≡ Some n → (positive (N k) ≡ true → P (number k)) → Q (number k)) →
      (k : ℤ) (ks : List ℤ) (n : ℕ) → N k ≡ Some n → (c : Bool) → positive (N k) ≡ c →
      Each (map number (if c then k ∷ In_use ks else In_use ks)) P →
      (Each (map number (In_use ks)) P → Each (map number ks) Q) → Q (number k) × Each (map number ks) Q
  slot-behind P Q f k ks n e true q a r = (f k n e (λ z. a.0), r a.1)
  slot-behind P Q f k ks n e false q a r = (f k n e (λ z. no (sym q ∙ z)), r a)

  -- What holds of slots in use, and follows of any slot behind that test.
  pub each-slot : (P Q : Value → Type 0) → ((k : ℤ) (n : ℕ) → N k ≡ Some n → (positive (N k) ≡ true → P (number k)) → Q (number k)) →
      (ks : List ℤ) (ns : List ℕ) (vs : List Value) → Beside ks ns vs → Each (map number (In_use ks)) P → Each (map number ks) Q
  each-slot P Q f [] ns vs b a = tt
  each-slot P Q f (k ∷ ks) [] vs b a = absurd b
  each-slot P Q f (k ∷ ks) (zero ∷ ns) vs b a =
      slot-behind P Q f k ks zero b.0 (positive (N k)) refl a (λ z. each-slot P Q f ks ns vs b.1 z)
  each-slot P Q f (k ∷ ks) (suc n ∷ ns) [] b a = absurd b
  each-slot P Q f (k ∷ ks) (suc n ∷ ns) (v ∷ vs) b a =
      slot-behind P Q f k ks (suc n) b.0 (positive (N k)) refl a (λ z. each-slot P Q f ks ns vs b.2 z)

  replicate-long : (n : ℕ) (v : Value) → length (replicate n v) ≡ n
  replicate-long zero v = refl
  replicate-long (suc n) v = ap suc (replicate-long n v)

  -- The sum of the numbers is how many members there are.
  pub sum-numbers : (ks : List ℤ) (ns : List ℕ) (vs : List Value) → Beside ks ns vs →
      sum_of (map (λ n. number (pos n)) ns) ≡ pos (length (repeated ns vs))
  sum-numbers [] [] [] b = refl
  sum-numbers [] [] (v ∷ vs) b = absurd b
  sum-numbers [] (n ∷ ns) vs b = absurd b
  sum-numbers (k ∷ ks) [] vs b = absurd b
  sum-numbers (k ∷ ks) (zero ∷ ns) vs b = let s = sum-numbers ks ns vs b.1 in ap (λ z. pos 0 +ℤ z) s
      ∙ (let e : pos 0 +ℤ pos (length (repeated ns vs)) ≡ pos (length (repeated ns vs)) = omega (arith, ints) in e)
  sum-numbers (k ∷ ks) (suc n ∷ ns) [] b = absurd b
  sum-numbers (k ∷ ks) (suc n ∷ ns) (v ∷ vs) b = let s = sum-numbers ks ns vs b.2 in
      let l = length-append (replicate (suc n) v) (repeated ns vs) in let r = replicate-long (suc n) v in
      ap (λ z. pos (suc n) +ℤ z) s
      ∙ (let e : pos (suc n) +ℤ pos (length (repeated ns vs)) ≡ pos (suc n + length (repeated ns vs)) = omega (arith, ints) in e)
      ∙ ap pos (let e : suc n + length (repeated ns vs) ≡ length (replicate (suc n) v ++ repeated ns vs) = omega arith in e)

  -- A value is there where it is among those of the slots in use.
  pub holds-repeated : (ks : List ℤ) (ns : List ℕ) (vs : List Value) → Beside ks ns vs → (w : Value) → holds (repeated ns vs) w ≡ holds vs w
  holds-repeated [] [] [] b w = refl
  holds-repeated [] [] (v ∷ vs) b w = absurd b
  holds-repeated [] (n ∷ ns) vs b w = absurd b
  holds-repeated (k ∷ ks) [] vs b w = absurd b
  holds-repeated (k ∷ ks) (zero ∷ ns) vs b w = holds-repeated ks ns vs b.1 w
  holds-repeated (k ∷ ks) (suc n ∷ ns) [] b w = absurd b
  holds-repeated (k ∷ ks) (suc n ∷ ns) (v ∷ vs) b w = holds-append (replicate (suc n) v) (repeated ns vs) w
      ∙ ap (λ z. holds (replicate (suc n) v) w || z) (holds-repeated ks ns vs b.2 w) ∙ go (same v w) refl n
    where
      many : (n : ℕ) → same v w ≡ false → holds (replicate n v) w ≡ false
      many zero e = refl
      many (suc n) e = ap (λ z. z || holds (replicate n v) w) e ∙ many n e

      go : (c : Bool) → same v w ≡ c → (n : ℕ) → (same v w || holds (replicate n v) w) || holds vs w ≡ same v w || holds vs w
      go true e n = ap (λ z. (z || holds (replicate n v) w) || holds vs w) e ∙ ap (λ z. z || holds vs w) (sym e)
      go false e n = ap (λ z. (z || holds (replicate n v) w) || holds vs w) e ∙ ap (λ z. z || holds vs w) (many n e)
          ∙ ap (λ z. z || holds vs w) (sym e)

  rest-all : (f : Value → Bool) (n : ℕ) (v : Value) (rs : List Value) → list_all f (replicate n v ++ rs) ≡ true → list_all f rs ≡ true
  rest-all f zero v rs h = h
  rest-all f (suc n) v rs h = rest-all f n v rs (and-right (f v) (list_all f (replicate n v ++ rs)) h)

  -- What holds of all members holds of all values.
  pub all-repeated : (f : Value → Bool) (ks : List ℤ) (ns : List ℕ) (vs : List Value) → Beside ks ns vs →
      list_all f (repeated ns vs) ≡ true → list_all f vs ≡ true
  all-repeated f [] [] [] b h = refl
  all-repeated f [] [] (v ∷ vs) b h = absurd b
  all-repeated f [] (n ∷ ns) vs b h = absurd b
  all-repeated f (k ∷ ks) [] vs b h = absurd b
  all-repeated f (k ∷ ks) (zero ∷ ns) vs b h = all-repeated f ks ns vs b.1 h
  all-repeated f (k ∷ ks) (suc n ∷ ns) [] b h = absurd b
  all-repeated f (k ∷ ks) (suc n ∷ ns) (v ∷ vs) b h =
      and-both (f v) (list_all f vs) (and-left (f v) (list_all f (replicate n v ++ repeated ns vs)) h)
      (all-repeated f ks ns vs b.2 (rest-all f n v (repeated ns vs) (and-right (f v) (list_all f (replicate n v ++ repeated ns vs)) h)))

-- ---- frequencies

-- The number, where the value is w.
abbrev pub number_at_same : Value → ℕ → Value → List Value
number_at_same w n v = if same w v then number (pos n) ∷ [] else []

same-turned : (a b : Value) → same a b ≡ same b a
same-turned a b = both-ways (same a b) (same b a) (λ h. ap (same b) (same-equal a b h) ∙ same-itself b)
    (λ h. ap (same a) (same-equal b a h) ∙ same-itself a)

-- The sum of the numbers at a value is how often it is there.
pub sum-same : (w : Value) (ns : List ℕ) (vs : List Value) → sum_of (spread_slots (number_at_same w) ns vs) ≡ pos (count (repeated ns vs) w)
sum-same w [] vs = refl
sum-same w (zero ∷ ns) vs = sum-same w ns vs
sum-same w (suc n ∷ ns) [] = refl
sum-same w (suc n ∷ ns) (v ∷ vs) =
    go (same w v) (count-replicate (suc n) v w ∙ ap (λ b. if b then suc n else 0) (same-turned v w)) (sum-same w ns vs)
  where
    R : List Value
    R = repeated ns vs

    go : (b : Bool) → count (replicate (suc n) v) w ≡ (if b then suc n else 0) →
        sum_of (spread_slots (number_at_same w) ns vs) ≡ pos (count R w) →
        sum_of ((if b then number (pos (suc n)) ∷ [] else []) ++ spread_slots (number_at_same w) ns vs) ≡
        pos (count (replicate (suc n) v ++ R) w)
    go true c s = let l = count-append (replicate (suc n) v) R w in ap (λ z. pos (suc n) +ℤ z) s
        ∙ (let e : pos (suc n) +ℤ pos (count R w) ≡ pos (suc n + count R w) = omega (arith, ints) in e)
        ∙ ap pos (let e : suc n + count R w ≡ count (replicate (suc n) v ++ R) w = omega arith in e)
    go false c s = let l = count-append (replicate (suc n) v) R w in
        s ∙ ap pos (let e : count R w ≡ count (replicate (suc n) v ++ R) w = omega arith in e)
