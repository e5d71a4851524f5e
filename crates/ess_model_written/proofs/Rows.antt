-- What comes of things one after the other, as a loop goes over them.
use Rattle.std.proofs.Common.{◌≡◌, refl, sym, ap, ◌∙◌, subst, ℕ, ◌+◌, ◌<◌, ◌≤◌, List, [], ◌∷◌, ◌++◌, map, take, drop, length, get_or, append_assoc, Option, Some, None, append-nil}
use Rattle.std.proofs.lemmas.List.{take_more, take_all, drop_more, take-append-drop, map-append}
use Rattle.ess_semantics.specs.Lists.{append_all}
use Rattle.ess_semantics.specs.Trees.{Ex}
use Rattle.conjure_laws.specs.SideBySide.{Along}
use Rattle.ess_model_written.specs.Answered.{AllCome, OneLacks, IsUsed, AllUsed}

-- One more beside one more.
pub along-push : {A B : Type 0} (R : A → B → Type 0) (xs : List A) (ys : List B) (x : A) (y : B) → Along xs ys R → R x y
    → Along (xs ++ x ∷ []) (ys ++ y ∷ []) R
along-push R [] [] x y a r = (r, tt)
along-push R [] (b ∷ ys) x y a r = absurd a
along-push R (c ∷ xs) [] x y a r = absurd a
along-push R (c ∷ xs) (b ∷ ys) x y a r = (a.0, along-push R xs ys x y a.1 r)

-- All rows, where one is put behind them.
pub all-push : {A : Type 0} (rows : List (List A)) (r : List A) → append_all (rows ++ r ∷ []) ≡ append_all rows ++ r
all-push [] r = append-nil r
all-push (q ∷ rows) r = ap (λ l. q ++ l) (all-push rows r) ∙ sym (append_assoc q (append_all rows) r)

-- The first i + 1 of what f makes of items.
pub taken_more : {A B : Type 0} (f : A → B) (xs : List A) (i : ℕ) (x : A) → i < length xs → x ≡ get_or xs i x
    → map f (take (i + 1) xs) ≡ map f (take i xs) ++ f x ∷ []
taken_more f xs i x lt is =
    ap (map f) (take_more xs i x lt ∙ ap (λ y. take i xs ++ y ∷ []) (sym is)) ∙ map-append f (take i xs) (x ∷ [])

-- All of them are those before, the one at a number, and those behind.
pub parted : {A B : Type 0} (f : A → B) (xs : List A) (i : ℕ) (x : A) → i < length xs → x ≡ get_or xs i x
    → map f xs ≡ map f (take i xs) ++ f x ∷ map f (drop (i + 1) xs)
parted f xs i x lt is =
    ap (map f) (sym (take-append-drop i xs) ∙ ap (λ l. take i xs ++ l) (drop_more xs i x lt ∙ ap (λ y. y ∷ drop (i + 1) xs) (sym is)))
    ∙ map-append f (take i xs) (x ∷ drop (i + 1) xs)

module _ (C : Ex → Option Ex → Type 0) where
  -- Of nothing comes nothing.
  pub none_come : AllCome C [] []
  none_come = record { each = tt }

  -- One more comes.
  pub come_push : (cs es : List Ex) (c e : Ex) → AllCome C cs es → C c (Some e) → AllCome C (cs ++ c ∷ []) (es ++ e ∷ [])
  come_push cs es c e a h = record { each = along-push (λ c e. C c (Some e)) cs es c e a.each h }

  -- No rows are used.
  pub none_used : (rules : Ex → List Ex) → AllUsed C rules [] []
  none_used rules = record { rows = []; each = tt; all = refl }

  -- One more is used.
  pub used_push : (rules : Ex → List Ex) (cs es : List Ex) (c new : Ex) → AllUsed C rules cs es → C c (Some new)
      → AllUsed C rules (cs ++ c ∷ []) (es ++ rules new)
  used_push rules cs es c new a h = record {
    rows = a.rows ++ rules new ∷ [];
    each = along-push (IsUsed C rules) cs a.rows c (rules new) a.each (record { new = new; comes = h; is = refl });
    all = ap (λ l. l ++ rules new) a.all ∙ sym (all-push a.rows (rules new));
  }

  module _ {A : Type 0} (f : A → Ex) (ts : List A) (i : ℕ) where
    -- One more turn of a loop: its item has come.
    pub one_comes : {B : Type 0} (g : B → Ex) (t : A) (old new : List B) (rule : B) → i < length ts → t ≡ get_or ts i t
        → new ≡ old ++ rule ∷ [] → C (f t) (Some (g rule)) → AllCome C (map f (take i ts)) (map g old)
        → AllCome C (map f (take (i + 1) ts)) (map g new)
    one_comes g t old new rule lt is n h a =
        subst (λ l. AllCome C l (map g new)) (sym (taken_more f ts i t lt is))
        (subst (λ l. AllCome C (map f (take i ts) ++ f t ∷ []) l) (sym (ap (map g) n ∙ map-append g old (rule ∷ [])))
        (come_push (map f (take i ts)) (map g old) (f t) (g rule) a h))

    -- One more turn of a loop: the rules of its item are used.
    pub one_used : (rules : Ex → List Ex) (t : A) (old new : List Ex) (e : Ex) → i < length ts → t ≡ get_or ts i t
        → new ≡ old ++ rules e → C (f t) (Some e) → AllUsed C rules (map f (take i ts)) old → AllUsed C rules (map f (take (i + 1) ts)) new
    one_used rules t old new e lt is n h a =
        subst (λ l. AllUsed C rules l new) (sym (taken_more f ts i t lt is))
        (subst (λ l. AllUsed C rules (map f (take i ts) ++ f t ∷ []) l) (sym n) (used_push rules (map f (take i ts)) old (f t) e a h))

    -- Behind the last turn all have come.
    pub all_come : (es : List Ex) → length ts ≤ i → AllCome C (map f (take i ts)) es → AllCome C (map f ts) es
    all_come es le a = subst (λ l. AllCome C (map f l) es) (take_all i ts le) a

    -- Behind the last turn all are used.
    pub all_used : (rules : Ex → List Ex) (es : List Ex) → length ts ≤ i → AllUsed C rules (map f (take i ts)) es
        → AllUsed C rules (map f ts) es
    all_used rules es le a = subst (λ l. AllUsed C rules (map f l) es) (take_all i ts le) a

    -- Of the item of a turn comes nothing.
    pub one_lacks : (t : A) → i < length ts → t ≡ get_or ts i t → C (f t) None → OneLacks C (map f ts)
    one_lacks t lt is h = record {
      before = map f (take i ts);
      item = f t;
      behind = map f (drop (i + 1) ts);
      is = parted f ts i t lt is;
      nothing = h;
    }
