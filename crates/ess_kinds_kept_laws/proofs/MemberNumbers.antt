-- Numbers of members that are all there, and the function of these numbers.
use Rattle.std.proofs.Common.{◌≡◌, refl, sym, ap, ◌∙◌, subst, ℕ, ◌≤◌, Bool, true, false, ◌&&◌, ◌||◌, List, [], ◌∷◌, map, ℤ, pos, ◌≤ℤ◌, Option, Some, None, option_map, arith}
use Rattle.std.proofs.lemmas.Int.{ints}
use Rattle.std.specs.Prelude.{int_le}
use Rattle.std.specs.List.{list_all}
use Rattle.ess_semantics.specs.Lists.{and_then, each_of}
use Rattle.ess_semantics.specs.Values.{Value, number, from_of, to_of, itself}
use Rattle.ess_semantics.specs.Order.{same, below}
use Rattle.ess_semantics.specs.Collections.{holds, rises}
use Rattle.ess_semantics.specs.Membership.{is_pair}
use Rattle.ess_semantics.specs.FunctionLayers.{with_arguments}
use Rattle.ess_semantics.specs.PartitionLayers.{is_part_number}
use Rattle.ess_semantics.proofs.Tests.{and-left, and-right, and-both, or-yes}
use Rattle.ess_semantics.proofs.Orders.{same-itself, same-equal}
use Rattle.ess_repr_laws.proofs.PartNumbers.{le-is}

-- ---- numbers of members

-- A number that is there.
abbrev pub number_or_0 : Option ℤ → ℤ
number_or_0 None = pos 0
number_or_0 (Some z) = z

-- Numbers that are all there are those of the members.
pub numbers-are : (g : Value → Option ℤ) (xs : List Value) (ws : List ℤ) → each_of xs g ≡ Some ws → ws ≡ map (λ v. number_or_0 (g v)) xs
numbers-are g [] ws q = sym (let e : [] ≡ ws = cc in e)
numbers-are g (x ∷ xs) ws q = go (g x) (each_of xs g) refl q (λ us e. numbers-are g xs us e)
  where
    go : (o : Option ℤ) (p : Option (List ℤ)) → each_of xs g ≡ p → and_then o (λ y. option_map (λ ys. y ∷ ys) p) ≡ Some ws →
        ((us : List ℤ) → each_of xs g ≡ Some us → us ≡ map (λ v. number_or_0 (g v)) xs) →
        ws ≡ number_or_0 o ∷ map (λ v. number_or_0 (g v)) xs
    go None p e q h = cc
    go (Some z) None e q h = cc
    go (Some z) (Some us) e q h = sym (let y : z ∷ us ≡ ws = cc in y) ∙ ap (λ l. z ∷ l) (h us e)

-- Of each member it is there.
pub there-each : (g : Value → Option ℤ) (xs : List Value) (ws : List ℤ) → each_of xs g ≡ Some ws → (v : Value) → holds xs v ≡ true →
    g v ≡ Some (number_or_0 (g v))
there-each g [] ws q v h = no h
  where
    no : {A : Type 0} → false ≡ true → A
    no h = cc
there-each g (x ∷ xs) ws q v h = go (g x) refl (each_of xs g) refl q (same x v) refl h
    (λ us e z. there-each g xs us e v z)
  where
    go : (o : Option ℤ) → g x ≡ o → (p : Option (List ℤ)) → each_of xs g ≡ p → and_then o (λ y. option_map (λ ys. y ∷ ys) p) ≡ Some ws →
        (b : Bool) → same x v ≡ b → b || holds xs v ≡ true →
        ((us : List ℤ) → each_of xs g ≡ Some us → holds xs v ≡ true → g v ≡ Some (number_or_0 (g v))) → g v ≡ Some (number_or_0 (g v))
    go None a p e q b s h r = cc
    go (Some z) a None e q b s h r = cc
    go (Some z) a (Some us) e q true s h r =
        let y : x ≡ v = same-equal x v s in
        subst (λ u. g u ≡ Some (number_or_0 (g u))) y (a ∙ ap (λ o. Some (number_or_0 o)) (sym a))
    go (Some z) a (Some us) e q false s h r = r us e h

-- ---- functions of numbers

module _ (w : Value → ℤ) where
  -- The arguments are the members.
  pub numbered-firsts : (xs : List Value) → map from_of (with_arguments xs (map number (map w xs))) ≡ xs
  numbered-firsts [] = refl
  numbered-firsts (x ∷ xs) = ap (λ l. x ∷ l) (numbered-firsts xs)

  -- They rise where the members do.
  pub numbered-rise : (xs : List Value) → rises itself xs ≡ true → rises from_of (with_arguments xs (map number (map w xs))) ≡ true
  numbered-rise [] h = refl
  numbered-rise (x ∷ []) h = refl
  numbered-rise (x ∷ y ∷ xs) h =
      and-both (below x y) (rises from_of (with_arguments (y ∷ xs) (map number (map w (y ∷ xs))))) (and-left _ _ h)
      (numbered-rise (y ∷ xs) (and-right _ _ h))

  -- Arguments and numbers are what is asked.
  pub numbered-members : (f g : Value → Bool) (xs : List Value) → list_all f xs ≡ true → list_all (λ z. g (number z)) (map w xs) ≡ true →
      list_all (λ p. is_pair p && f (from_of p) && g (to_of p)) (with_arguments xs (map number (map w xs))) ≡ true
  numbered-members f g [] h k = refl
  numbered-members f g (x ∷ xs) h k = and-both (f x && g (number (w x))) _ (and-both (f x) (g (number (w x))) (and-left _ _ h)
      (and-left _ _ k)) (numbered-members f g xs (and-right _ _ h) (and-right _ _ k))

-- All of a list that lies in another one are in that one.
pub all-themselves : (xs ys : List Value) → ((v : Value) → holds xs v ≡ true → holds ys v ≡ true) → list_all (λ x. holds ys x) xs ≡ true
all-themselves [] ys h = refl
all-themselves (x ∷ xs) ys h = and-both (holds ys x) (list_all (λ x. holds ys x) xs) (h x (ap (λ b. b || holds xs x) (same-itself x)))
    (all-themselves xs ys (λ v z. h v (ap (λ b. same x v || b) z
    ∙ or-yes (same x v))))

-- Numbers up to one that isn't above another.
pub wider : (c m : ℕ) → c ≤ m → (zs : List ℤ) → list_all (is_part_number c) zs ≡ true →
    list_all (λ z. (int_le (pos 1) z && int_le z (pos m)) || false) zs ≡ true
wider c m h [] k = refl
wider c m h (z ∷ zs) k = and-both ((int_le (pos 1) z && int_le z (pos m)) || false) _
    (ap (λ b. b || false) (and-both (int_le (pos 1) z) (int_le z (pos m)) (and-left _ _ (and-left (is_part_number c z) _ k))
    (le-wider z (le-is z (pos c) (and-right (int_le (pos 1) z) (int_le z (pos c)) (and-left (is_part_number c z) _ k))))))
    (wider c m h zs (and-right (is_part_number c z) _ k))
  where
    le-wider : (z : ℤ) → z ≤ℤ pos c → int_le z (pos m) ≡ true
    le-wider z l = grind (arith, ints)

-- The numbers as values.
pub each-number : (g : Value → Option ℤ) (w : Value → ℤ) (xs : List Value) → each_of xs g ≡ Some (map w xs) →
    each_of xs (λ v. and_then (g v) (λ z. Some (number z))) ≡ Some (map number (map w xs))
each-number g w [] q = refl
each-number g w (x ∷ xs) q = go (g x) (each_of xs g) refl q (each-number g w xs)
  where
    go : (o : Option ℤ) (p : Option (List ℤ)) → each_of xs g ≡ p → and_then o (λ y. option_map (λ ys. y ∷ ys) p) ≡ Some (w x ∷ map w xs) →
        (each_of xs g ≡ Some (map w xs) → each_of xs (λ v. and_then (g v) (λ z. Some (number z))) ≡ Some (map number (map w xs))) →
        and_then (and_then o (λ z. Some (number z)))
        (λ y. option_map (λ ys. y ∷ ys) (each_of xs (λ v. and_then (g v) (λ z. Some (number z))))) ≡
        Some (number (w x) ∷ map number (map w xs))
    go None p e q h = cc
    go (Some z) None e q h = cc
    go (Some z) (Some us) e q h = let a : z ≡ w x = cc in let b : us ≡ map w xs = cc in
        ap (option_map (λ ys. number z ∷ ys)) (h (e ∙ ap Some b)) ∙ ap (λ n. Some (number n ∷ map number (map w xs))) a

-- Each of what each is mapped to.
pub each-over : {B : Type 0} (f : Value → List ℤ) (g : List ℤ → Option B) (xs : List Value) → each_of (map f xs) g ≡ each_of xs (λ v. g (f v))
each-over f g [] = refl
each-over f g (x ∷ xs) = ap (λ o. and_then (g (f x)) (λ y. option_map (λ ys. y ∷ ys) o)) (each-over f g xs)

-- What is true of all is true of all in a list.
pub all-so : {A : Type 0} (xs : List A) → list_all (λ x. true) xs ≡ true
all-so [] = refl
all-so (x ∷ xs) = all-so xs
