-- The parts of a partition whose members have part numbers.
use Rattle.std.proofs.Common.{◌≡◌, refl, sym, ap, ◌∙◌, ℕ, zero, suc, ◌+◌, ◌≤◌, ◌<◌, Bool, true, false, ◌&&◌, ◌||◌, not, if◌then◌else◌, List, [], ◌∷◌, map, length, ℤ, pos, ◌≤ℤ◌, ◌<ℤ◌, Option, Some, option_map, int_le, int_lt, arith, le_refl, eq-or-lt_of_le, ◌⊎◌, inl, inr}
use Rattle.std.proofs.lemmas.Int.{ints}
use Rattle.std.specs.List.{list_all, list_any}
use Rattle.ess_semantics.specs.Lists.{and_then, each_of, is_empty}
use Rattle.ess_semantics.specs.Values.{Value, to_list, of_list, itself, items_of}
use Rattle.ess_semantics.specs.Order.{same, same_int}
use Rattle.ess_semantics.specs.Collections.{holds, sorted_once, set_of, rises, has_empty_part}
use Rattle.ess_semantics.specs.Numbers.{run_from}
use Rattle.ess_semantics.specs.Membership.{is_part}
use Rattle.ess_semantics.specs.Tables.{code}
use Rattle.ess_semantics.specs.PartitionLayers.{members_numbered}
use Rattle.ess_semantics.proofs.Tests.{and-left, and-right, and-both, or-yes, or-left-no, or-right-no}
use Rattle.ess_semantics.proofs.Orders.{to_list-of_list, same-itself, same-equal}
use Rattle.ess_semantics.proofs.Sorting.{sorted_once-rises, all-sorted_once}
use Rattle.ess_repr_laws.proofs.CanonicalPlaces.{AllOf}

-- ---- small words

-- The test of a number that is at most another one.
pub le-is : (a b : ℤ) → int_le a b ≡ true → a ≤ℤ b
le-is a b h = grind (arith, ints)

-- The test of a smaller number.
pub lt-is : (a b : ℤ) → int_lt a b ≡ true → a <ℤ b
lt-is a b h = grind (arith, ints)

-- an item that a test finds
pub found-item : (xs : List Value) (p : ℤ → Bool) → list_any p (map code xs) ≡ true → (y : Value) × (holds xs y ≡ true) × (p (code y) ≡ true)
found-item [] p h = cc
found-item (x ∷ xs) p h = go (p (code x)) refl h (λ e. found-item xs p e)
  where
    go : (b : Bool) → p (code x) ≡ b → b || list_any p (map code xs) ≡ true → (list_any p (map code xs) ≡ true → (y : Value) × (holds xs y ≡ true) × (p (code y) ≡ true)) → (y : Value) × (holds (x ∷ xs) y ≡ true) × (p (code y) ≡ true)
    go true q h ih = (x, ap (λ b. b || holds xs x) (same-itself x), q)
    go false q h ih = let r = ih h in (r.0, ap (λ b. same x r.0 || b) r.1 ∙ or-yes (same x r.0), r.2)

-- the items with a number
pub numbered-holds : (w : Value → ℤ) (xs : List Value) (k : ℤ) (v : Value) → holds (members_numbered xs (map w xs) k) v ≡ holds xs v && same_int (w v) k
numbered-holds w [] k v = refl
numbered-holds w (x ∷ xs) k v = go (same_int (w x) k) refl (same x v) refl (numbered-holds w xs k v)
  where
    go : (b : Bool) → same_int (w x) k ≡ b → (c : Bool) → same x v ≡ c → holds (members_numbered xs (map w xs) k) v ≡ holds xs v && same_int (w v) k →
        holds (if b then x ∷ members_numbered xs (map w xs) k else members_numbered xs (map w xs) k) v ≡ (c || holds xs v) && same_int (w v) k
    go true p true q ih = ap (λ c. c || holds (members_numbered xs (map w xs) k) v) q ∙ sym (ap (λ u. same_int (w u) k) (sym (same-equal x v q)) ∙ p)
    go false p true q ih = ih ∙ ap (λ b. holds xs v && b) off ∙ none (holds xs v) ∙ sym off
      where
        off : same_int (w v) k ≡ false
        off = ap (λ u. same_int (w u) k) (sym (same-equal x v q)) ∙ p

        none : (b : Bool) → b && false ≡ false
        none true = refl
        none false = refl
    go true p false q ih = ap (λ c. c || holds (members_numbered xs (map w xs) k) v) q ∙ ih
    go false p false q ih = ih

-- A test of each member with a number.
pub numbered-all : (f : Value → Bool) (w : Value → ℤ) (xs : List Value) (k : ℤ) → list_all f xs ≡ true → list_all f (members_numbered xs (map w xs) k) ≡ true
numbered-all f w [] k h = refl
numbered-all f w (x ∷ xs) k h = go (same_int (w x) k) (numbered-all f w xs k (and-right (f x) (list_all f xs) h))
  where
    go : (b : Bool) → list_all f (members_numbered xs (map w xs) k) ≡ true → list_all f (if b then x ∷ members_numbered xs (map w xs) k else members_numbered xs (map w xs) k) ≡ true
    go true r = and-both (f x) (list_all f (members_numbered xs (map w xs) k)) (and-left (f x) (list_all f xs) h) r
    go false r = r

-- The cells of all members.
pub each-cell : (xs : List Value) (g : Value → Option ℤ) (w : Value → ℤ) → AllOf xs (λ x. g x ≡ Some (w x)) → each_of xs g ≡ Some (map w xs)
each-cell [] g w h = refl
each-cell (x ∷ xs) g w h = ap (λ o. and_then o (λ y. option_map (λ ys. y ∷ ys) (each_of xs g))) h.0 ∙ ap (option_map (λ ys. w x ∷ ys)) (each-cell xs g w h.1)

-- A test of each number.
pub each-of-map : (w : Value → ℤ) (p : ℤ → Bool) (xs : List Value) → list_all p (map w xs) ≡ true → AllOf xs (λ x. p (w x) ≡ true)
each-of-map w p [] h = tt
each-of-map w p (x ∷ xs) h = (and-left (p (w x)) (list_all p (map w xs)) h, each-of-map w p xs (and-right (p (w x)) (list_all p (map w xs)) h))

-- ---- the parts with the numbers from a on

-- Each part is among the parts.
pub parts-from : (ps : ℤ → Value) (a n k : ℕ) → a ≤ k → k < a + n → holds (map ps (run_from a n)) (ps (pos k)) ≡ true
parts-from ps a zero k p q = absurd (omega arith)
parts-from ps a (suc n) k p q = go (eq-or-lt_of_le p) (λ h. parts-from ps (suc a) n k h (omega arith))
  where
    go : (a ≡ k) ⊎ (a < k) → (a < k → holds (map ps (run_from (suc a) n)) (ps (pos k)) ≡ true) → same (ps (pos a)) (ps (pos k)) || holds (map ps (run_from (suc a) n)) (ps (pos k)) ≡ true
    go (inl e) ih = ap (λ b. b || holds (map ps (run_from (suc a) n)) (ps (pos k))) (ap (λ j. same (ps (pos a)) (ps (pos j))) (sym e) ∙ same-itself (ps (pos a)))
    go (inr l) ih = ap (λ b. same (ps (pos a)) (ps (pos k)) || b) (ih l) ∙ or-yes (same (ps (pos a)) (ps (pos k)))

-- A part among them has a number.
pub from-parts : (ps : ℤ → Value) (a n : ℕ) (v : Value) → holds (map ps (run_from a n)) v ≡ true → (k : ℕ) × (a ≤ k) × (k < a + n) × (ps (pos k) ≡ v)
from-parts ps a zero v h = cc
from-parts ps a (suc n) v h = go (same (ps (pos a)) v) refl h (λ e. from-parts ps (suc a) n v e)
  where
    go : (b : Bool) → same (ps (pos a)) v ≡ b → b || holds (map ps (run_from (suc a) n)) v ≡ true → (holds (map ps (run_from (suc a) n)) v ≡ true → (k : ℕ) × (suc a ≤ k) × (k < suc a + n) × (ps (pos k) ≡ v)) → (k : ℕ) × (a ≤ k) × (k < a + suc n) × (ps (pos k) ≡ v)
    go true q h ih = (a, le_refl a, omega arith, same-equal (ps (pos a)) v q)
    go false q h ih = let r = ih h in (r.0, (let x = r.1 in omega arith), (let x = r.2 in omega arith), r.3)

-- They are so many.
pub parts-length : (ps : ℤ → Value) (a n : ℕ) → length (map ps (run_from a n)) ≡ n
parts-length ps a zero = refl
parts-length ps a (suc n) = ap suc (parts-length ps (suc a) n)

-- A test of each part.
pub parts-all : (f : Value → Bool) (ps : ℤ → Value) (a n : ℕ) → ((k : ℤ) → f (ps k) ≡ true) → list_all f (map ps (run_from a n)) ≡ true
parts-all f ps a zero h = refl
parts-all f ps a (suc n) h = and-both (f (ps (pos a))) (list_all f (map ps (run_from (suc a) n))) (h (pos a)) (parts-all f ps (suc a) n h)

-- a set with members of d that isn't empty is a part
pub part-of : (f : Value → Bool) (vs : List Value) → list_all f vs ≡ true → not (is_empty (items_of (set_of vs))) ≡ true → is_part f (set_of vs) ≡ true
part-of f vs h e =
    and-both (rises itself (to_list (of_list (sorted_once vs))) && not (is_empty (items_of (set_of vs)))) (list_all f (to_list (of_list (sorted_once vs))))
    (and-both (rises itself (to_list (of_list (sorted_once vs)))) (not (is_empty (items_of (set_of vs)))) (ap (rises itself) (to_list-of_list (sorted_once vs)) ∙ sorted_once-rises vs) e)
    (ap (list_all f) (to_list-of_list (sorted_once vs)) ∙ all-sorted_once f vs ∙ h)

-- Sets that aren't empty are parts.
pub parts-are : (f : Value → Bool) (ps : List Value) → ((p : Value) → holds ps p ≡ true → not (is_empty (items_of p)) ≡ true → is_part f p ≡ true) → has_empty_part ps ≡ false → list_all (is_part f) ps ≡ true
parts-are f [] h e = refl
parts-are f (p ∷ ps) h e =
    and-both (is_part f p) (list_all (is_part f) ps) (h p (ap (λ b. b || holds ps p) (same-itself p)) (ap not (or-left-no (is_empty (items_of p)) (has_empty_part ps) e)))
    (parts-are f ps (λ q k n. h q (ap (λ b. same p q || b) k ∙ or-yes (same p q)) n) (or-right-no (is_empty (items_of p)) (has_empty_part ps) e))
