-- What flags say of the values in their places, and values that are looked for from the newest on.
use Rattle.std.proofs.Common.{◌≡◌, refl, sym, ap, subst, ◌∙◌, ℕ, zero, suc, ◌<◌, ◌≤◌, arith, Bool, true, false, ◌&&◌, ◌||◌, not}
use Rattle.std.proofs.Common.{List, [], ◌∷◌, ◌++◌, map, length, get_or, drop, Some, None, cond}
use Rattle.std.specs.Prelude.{reverse, ◌-◌}
use Rattle.std.proofs.lemmas.List.{reverse-append}
use Rattle.ess_semantics.specs.Values.{Text}
use Rattle.ess_semantics.specs.Order.{same_text}
use Rattle.ess_semantics.specs.Names.{look}
use Rattle.ess_semantics.specs.Lists.{or_else}
use Rattle.ess_core.specs.ValueViews.{pure_val}
use Rattle.ess_core.specs.TableViews.{pure_binding, pure_bindings}
use Rattle.ess_core.specs.declared.tables.Binding.{Binding}
use Rattle.ess_values_lookups.specs.Rising.{has_rising_items}
use Rattle.ess_eval.specs.Flags.{flags_hold}
use Rattle.ess_eval.proofs.Lookups.{look_append}

-- ---- flags

-- No flags say nothing.
pub no_flags : (bs : List Binding) → flags_hold [] bs ≡ true
no_flags bs = refl

-- Flags that were read off the values hold.
pub read-hold : (bs : List Binding) → flags_hold (map (λ b. has_rising_items (pure_val b.val)) bs) bs ≡ true
read-hold [] = refl
read-hold (b ∷ bs) = go (has_rising_items (pure_val b.val)) (read-hold bs)
  where
    go : (f : Bool) → flags_hold (map (λ c. has_rising_items (pure_val c.val)) bs) bs ≡ true
        → (not f || f) && flags_hold (map (λ c. has_rising_items (pure_val c.val)) bs) bs ≡ true
    go true h = h
    go false h = h

pub flags_read : (fs : List Bool) (bs : List Binding) → fs ≡ map (λ b. has_rising_items (pure_val b.val)) bs → flags_hold fs bs ≡ true
flags_read fs bs e = ap (λ l. flags_hold l bs) e ∙ read-hold bs

-- Where the flag in its place is set, the items of a value rise.
flag-says : (fs : List Bool) (bs : List Binding) (i : ℕ) (f : Bool) (b : Binding) → flags_hold fs bs ≡ true → i < length fs → i < length bs
    → get_or fs i f ≡ true → has_rising_items (pure_val (get_or bs i b).val) ≡ true
flag-says [] bs i f b h l m e = absurd (omega arith)
flag-says (x ∷ fs) [] i f b h l m e = absurd (omega arith)
flag-says (x ∷ fs) (c ∷ bs) zero f b h l m e = go x (has_rising_items (pure_val c.val)) (flags_hold fs bs) e h
  where
    go : (x r t : Bool) → x ≡ true → (not x || r) && t ≡ true → r ≡ true
    go true true t e h = refl
    go true false t e h = cc
    go false r t e h = cc
flag-says (x ∷ fs) (c ∷ bs) (suc i) f b h l m e =
    let t : flags_hold fs bs ≡ true = go (not x || has_rising_items (pure_val c.val)) (flags_hold fs bs) h in
    flag-says fs bs i f b t (omega arith) (omega arith) e
  where
    go : (x t : Bool) → x && t ≡ true → t ≡ true
    go true t h = h
    go false t h = cc

-- ---- from the newest on

-- The oldest binding counts last.
oldest-last : (b : Binding) (bs : List Binding) (a : Text)
    → look (pure_bindings (b ∷ bs)) a ≡ or_else (look (pure_bindings bs) a) (cond (same_text b.name a) (Some (pure_val b.val)) None)
oldest-last b bs a =
    ap (λ cs. look (map pure_binding cs) a) (reverse-append (b ∷ []) bs) ∙ ap (λ l. look l a) (go (reverse bs))
    ∙ look_append (pure_bindings bs) (pure_binding b ∷ []) a
  where
    go : (cs : List Binding) → map pure_binding (cs ++ b ∷ []) ≡ map pure_binding cs ++ pure_binding b ∷ []
    go [] = refl
    go (c ∷ cs) = ap (λ l. pure_binding c ∷ l) (go cs)

-- Behind the last binding there is none.
none-behind : (bs : List Binding) (n : ℕ) (a : Text) → n ≡ length bs → look (pure_bindings (drop n bs)) a ≡ None
none-behind [] zero a e = refl
none-behind [] (suc n) a e = refl
none-behind (b ∷ bs) zero a e = absurd (omega (arith, e))
none-behind (b ∷ bs) (suc n) a e = none-behind bs n a (omega (arith, e))

-- A binding of another name changes nothing.
other-name : (bs : List Binding) (i : ℕ) (d : Binding) (a : Text) → i < length bs → same_text (get_or bs i d).name a ≡ false
    → look (pure_bindings (drop (suc i) bs)) a ≡ None → look (pure_bindings (drop i bs)) a ≡ None
other-name [] i d a l e h = absurd (omega arith)
other-name (b ∷ bs) zero d a l e h =
    oldest-last b bs a ∙ ap (λ o. or_else o (cond (same_text b.name a) (Some (pure_val b.val)) None)) h
    ∙ ap (λ t. cond t (Some (pure_val b.val)) None) e
other-name (b ∷ bs) (suc i) d a l e h = other-name bs i d a (omega arith) e h

-- The newest binding of the name is found.
newest-found : (bs : List Binding) (i : ℕ) (d : Binding) (a : Text) → i < length bs → same_text (get_or bs i d).name a ≡ true
    → look (pure_bindings (drop (suc i) bs)) a ≡ None → look (pure_bindings bs) a ≡ Some (pure_val (get_or bs i d).val)
newest-found [] i d a l e h = absurd (omega arith)
newest-found (b ∷ bs) zero d a l e h =
    oldest-last b bs a ∙ ap (λ o. or_else o (cond (same_text b.name a) (Some (pure_val b.val)) None)) h
    ∙ ap (λ t. cond t (Some (pure_val b.val)) None) e
newest-found (b ∷ bs) (suc i) d a l e h =
    oldest-last b bs a
    ∙ ap (λ o. or_else o (cond (same_text b.name a) (Some (pure_val b.val)) None)) (newest-found bs i d a (omega arith) e h)

-- ---- what the loop from the newest binding on cites

same-at : {A : Type 0} (xs : List A) (i : ℕ) (x y : A) → i < length xs → get_or xs i x ≡ get_or xs i y
same-at [] i x y l = absurd (omega arith)
same-at (w ∷ xs) zero x y l = refl
same-at (w ∷ xs) (suc i) x y l = same-at xs i x y (omega arith)

-- Of places counted from 1 on: the binding before a place.
before : (n : ℕ) → 0 < n → suc (n - 1) ≡ n
before n p = omega (arith, p)

within : (n k : ℕ) → 0 < n → n ≤ k → n - 1 < k
within n k p l = omega (arith, p, l)

-- Behind the last binding there is none.
pub behind_newest : (bs : List Binding) (n : ℕ) (a : Text) → n ≡ length bs → look (pure_bindings (drop n bs)) a ≡ None
behind_newest bs n a e = none-behind bs n a e

-- The binding before a place has another name.
pub before_other : (bs : List Binding) (n : ℕ) (b : Binding) (a : Text) (t : Bool) → 0 < n → n ≤ length bs → b ≡ get_or bs (n - 1) b
    → t ≡ same_text b.name a → t ≡ false → look (pure_bindings (drop n bs)) a ≡ None → look (pure_bindings (drop (n - 1) bs)) a ≡ None
before_other bs n b a t p l g e f h =
    other-name bs (n - 1) b a (within n (length bs) p l) (ap (λ c. same_text c.name a) (sym g) ∙ sym e ∙ f)
    (subst (λ k. look (pure_bindings (drop k bs)) a ≡ None) (sym (before n p)) h)

-- It has the name.
pub before_named : (bs : List Binding) (n : ℕ) (b c : Binding) (a : Text) (t : Bool) → 0 < n → n ≤ length bs → b ≡ get_or bs (n - 1) b
    → t ≡ same_text b.name a → t ≡ true → look (pure_bindings (drop n bs)) a ≡ None
    → look (pure_bindings bs) a ≡ Some (pure_val (get_or bs (n - 1) c).val)
before_named bs n b c a t p l g e f h =
    newest-found bs (n - 1) b a (within n (length bs) p l) (ap (λ c. same_text c.name a) (sym g) ∙ sym e ∙ f)
    (subst (λ k. look (pure_bindings (drop k bs)) a ≡ None) (sym (before n p)) h)
    ∙ ap (λ d. Some (pure_val d.val)) (same-at bs (n - 1) b c (within n (length bs) p l))

-- Its flag is set.
pub before_flagged : (fs : List Bool) (bs : List Binding) (n : ℕ) (f : Bool) (c : Binding) → flags_hold fs bs ≡ true → 0 < n → n ≤ length bs
    → n - 1 < length fs → get_or fs (n - 1) f ≡ true → has_rising_items (pure_val (get_or bs (n - 1) c).val) ≡ true
before_flagged fs bs n f c h p l m e = flag-says fs bs (n - 1) f c h m (within n (length bs) p l) e

pub ruleset flagged = (behind_newest, before_other, before_named, before_flagged)
