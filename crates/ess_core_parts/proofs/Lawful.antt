-- Where a part is replaced, the parts are the old ones with it replaced; a second replacement undoes the first; the part
-- itself put back changes nothing, nor does a number past the parts.
use Rattle.std.proofs.Common.{◌≡◌, ℕ, ◌+◌, ◌-◌, ◌<◌, ◌≤◌, Bool, true, false, zero, suc, List, [], ◌∷◌, ◌++◌, length, map, Option, Some, None, ◌⊎◌, inl, inr, refl, sym, ap, ◌∙◌, subst, nat_lt, slice_get, arith}
use Rattle.std.proofs.Math.ListN.{set}
use Rattle.std.proofs.lemmas.Bool.{lt-ltb, le-ltb, ltb-true, ltb-false, cases_lt}
use Rattle.std.proofs.lemmas.List.{length-set, length-append, set-append_left, set-append_right, set_past}
use Rattle.std.specs.Prelude.{if◌then◌else◌}
use Rattle.ess_core.specs.declared.expressions.Ex.{Ex}
use Rattle.ess_core_parts.specs.Numbered.{Parted, bare, instead, itself, made, beside, both, row, maybe}
use Rattle.ess_core_parts.proofs.Searches.{get-behind, if-true, if-false, pair-same}

pub record Lawful {A : Type 0} (split : A → Parted A) (x : A) : Type 0 where
  pub replaced : (k : ℕ) (v : Ex) → (split ((split x).put k v)).parts ≡ set (split x).parts k v
  pub again : (k : ℕ) (v w : Ex) → (split ((split x).put k v)).put k w ≡ (split x).put k w
  pub past : (k : ℕ) (v : Ex) → length (split x).parts ≤ k → (split x).put k v ≡ x
  pub back : (k : ℕ) (v : Ex) → slice_get (split x).parts k ≡ Some v → (split x).put k v ≡ x

get-first-only : (ps qs : List Ex) (k : ℕ) → k < length ps → slice_get (ps ++ qs) k ≡ slice_get ps k
get-first-only [] qs k h = absurd (omega arith)
get-first-only (p ∷ ps) qs zero h = refl
get-first-only (p ∷ ps) qs (suc k) h = get-first-only ps qs k (omega arith)

pub bare-lawful : {A : Type 0} (split : A → Parted A) (x : A) → split x ≡ bare x → Lawful split x
bare-lawful split x e =
    let same = λ (k : ℕ) (v : Ex). ap (λ p. p.put k v) e in
    record {
      replaced = λ k v. ap (λ y. (split y).parts) (same k v) ∙ ap (λ p. p.parts) e ∙ sym (ap (λ p. set p.parts k v) e);
      again = λ k v w. ap (λ y. (split y).put k w) (same k v);
      past = λ k v h. same k v;
      back = λ k v h. same k v;
    }

pub itself-lawful : (e : Ex) → Lawful itself e
itself-lawful e = record {
  replaced = replaced e;
  again = again e;
  past = past e;
  back = back e;
}
  where
    back : (e : Ex) (k : ℕ) (v : Ex) → slice_get (e ∷ []) k ≡ Some v → instead k v e ≡ e
    back e zero v h = cc
    back e (suc k) v h = refl

    replaced : (e : Ex) (k : ℕ) (v : Ex) → instead k v e ∷ [] ≡ set (e ∷ []) k v
    replaced e zero v = refl
    replaced e (suc k) v = refl

    again : (e : Ex) (k : ℕ) (v w : Ex) → instead k w (instead k v e) ≡ instead k w e
    again e zero v w = refl
    again e (suc k) v w = refl

    past : (e : Ex) (k : ℕ) (v : Ex) → 1 ≤ k → instead k v e ≡ e
    past e zero v h = absurd (omega arith)
    past e (suc k) v h = refl

pub made-lawful : {A B : Type 0} (f : A → B) (split : A → Parted A) (whole : B → Parted B) → ((x : A) → whole (f x) ≡ made f (split x)) → (x : A) → Lawful split x → Lawful whole (f x)
made-lawful f split whole e x l =
    let here = λ (k : ℕ) (v : Ex). ap (λ p. p.put k v) (e x) in
    record {
      replaced = λ k v. ap (λ y. (whole y).parts) (here k v) ∙ ap (λ p. p.parts) (e ((split x).put k v)) ∙ l.replaced k v ∙ sym (ap (λ p. set p.parts k v) (e x));
      again = λ k v w. ap (λ y. (whole y).put k w) (here k v) ∙ ap (λ p. p.put k w) (e ((split x).put k v)) ∙ ap f (l.again k v w) ∙ sym (here k w);
      past = λ k v h. here k v ∙ ap f (l.past k v (subst (λ p. length p.parts ≤ k) (e x) h));
      back = λ k v h. here k v ∙ ap f (l.back k v (subst (λ p. slice_get p.parts k ≡ Some v) (e x) h));
    }

module _ {A B : Type 0} (s : A → Parted A) (t : B → Parted B) where
  abbrev pair : A × B → Parted (A × B)
  pair x = beside (s x.0) x.1 (t x.1)

  module _ (a : A) (b : B) (l : Lawful s a) (m : Lawful t b) where
    abbrev n : ℕ
    n = length (s a).parts

    same-length : (k : ℕ) (v : Ex) → length (s ((s a).put k v)).parts ≡ n
    same-length k v = ap length (l.replaced k v) ∙ length-set (s a).parts k v

    second-kept : (k : ℕ) (v : Ex) → k < n → ((pair (a, b)).put k v).1 ≡ b
    second-kept k v h = if-true (nat_lt k n) b ((t b).put (k - n) v) (lt-ltb k n h)

    second-put : (k : ℕ) (v : Ex) → n ≤ k → ((pair (a, b)).put k v).1 ≡ (t b).put (k - n) v
    second-put k v h = if-false (nat_lt k n) b ((t b).put (k - n) v) (le-ltb k n h)

    replaced-in : (k : ℕ) (v : Ex) → (k < n) ⊎ (n ≤ k) → (pair ((pair (a, b)).put k v)).parts ≡ set ((s a).parts ++ (t b).parts) k v
    replaced-in k v (inl h) =
        ap (λ y. (s ((s a).put k v)).parts ++ (t y).parts) (second-kept k v h)
        ∙ ap (λ ps. ps ++ (t b).parts) (l.replaced k v) ∙ sym (set-append_left (s a).parts (t b).parts k v h)
    replaced-in k v (inr h) =
        ap (λ y. (s ((s a).put k v)).parts ++ (t y).parts) (second-put k v h)
        ∙ ap (λ ps. ps ++ (t ((t b).put (k - n) v)).parts) (l.replaced k v ∙ set_past (s a).parts k v h)
        ∙ ap (λ ps. (s a).parts ++ ps) (m.replaced (k - n) v) ∙ sym (set-append_right (s a).parts (t b).parts n k v refl h)

    again-in : (k : ℕ) (v w : Ex) → (k < n) ⊎ (n ≤ k) → (pair ((pair (a, b)).put k v)).put k w ≡ (pair (a, b)).put k w
    again-in k v w (inl h) =
        let c = ((pair (a, b)).put k v).1 in
        pair-same _ _ _ _ (l.again k v w)
        (ap (λ i. if nat_lt k i then c else (t c).put (k - i) w) (same-length k v)
        ∙ if-true (nat_lt k n) c ((t c).put (k - n) w) (lt-ltb k n h) ∙ second-kept k v h ∙ sym (second-kept k w h))
    again-in k v w (inr h) =
        let c = ((pair (a, b)).put k v).1 in
        pair-same _ _ _ _ (l.again k v w)
        (ap (λ i. if nat_lt k i then c else (t c).put (k - i) w) (same-length k v)
        ∙ if-false (nat_lt k n) c ((t c).put (k - n) w) (le-ltb k n h)
        ∙ ap (λ y. (t y).put (k - n) w) (second-put k v h) ∙ m.again (k - n) v w ∙ sym (second-put k w h))

    back-in : (k : ℕ) (v : Ex) → slice_get ((s a).parts ++ (t b).parts) k ≡ Some v → (k < n) ⊎ (n ≤ k) → (pair (a, b)).put k v ≡ (a, b)
    back-in k v e (inl h) = pair-same _ _ _ _ (l.back k v (sym (get-first-only (s a).parts (t b).parts k h) ∙ e)) (second-kept k v h)
    back-in k v e (inr h) =
        let from : k ≡ (k - n) + n = omega (arith, h) in
        pair-same _ _ _ _ (l.past k v h)
        (second-put k v h ∙ m.back (k - n) v (sym (ap (slice_get ((s a).parts ++ (t b).parts)) from ∙ get-behind (s a).parts (t b).parts (k - n)) ∙ e))

    pub beside-lawful : Lawful pair (a, b)
    beside-lawful = record {
      replaced = λ k v. replaced-in k v (cases_lt k n);
      again = λ k v w. again-in k v w (cases_lt k n);
      past = λ k v h.
          let long = length-append (s a).parts (t b).parts in
          let first : n ≤ k = omega (arith, long, h) in
          pair-same _ _ _ _ (l.past k v first) (second-put k v first ∙ m.past (k - n) v (omega (arith, long, h)));
      back = λ k v h. back-in k v h (cases_lt k n);
    }

pub both-lawful : {A B C : Type 0} (f : A → B → C) (s : A → Parted A) (t : B → Parted B) (whole : C → Parted C) → ((x : A) (y : B) → whole (f x y) ≡ both f (s x) y (t y))
    → (x : A) (y : B) → Lawful s x → Lawful t y → Lawful whole (f x y)
both-lawful f s t whole e x y l m = made-lawful (λ p. f p.0 p.1) (pair s t) whole (λ p. e p.0 p.1) (x, y) (beside-lawful s t x y l m)

pub row-lawful-of : {A : Type 0} (split : A → Parted A) (hs : List ((x : A) × Lawful split x)) → Lawful (row split) (map (λ h. h.0) hs)
row-lawful-of split [] = bare-lawful (row split) [] refl
row-lawful-of split (h ∷ hs) = both-lawful (λ y ys. y ∷ ys) split (row split) (row split) (λ y ys. refl) h.0 (map (λ g. g.0) hs) h.1 (row-lawful-of split hs)

pub row-lawful : {A : Type 0} (split : A → Parted A) → ((x : A) → Lawful split x) → (xs : List A) → Lawful (row split) xs
row-lawful split l [] = bare-lawful (row split) [] refl
row-lawful split l (x ∷ xs) = both-lawful (λ y ys. y ∷ ys) split (row split) (row split) (λ y ys. refl) x xs (l x) (row-lawful split l xs)

pub maybe-lawful : {A : Type 0} (split : A → Parted A) → ((x : A) → Lawful split x) → (o : Option A) → Lawful (maybe split) o
maybe-lawful split l None = bare-lawful (maybe split) None refl
maybe-lawful split l (Some x) = made-lawful (λ y. Some y) split (maybe split) (λ y. refl) x (l x)
