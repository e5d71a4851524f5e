-- When a name is one of a value of an unnamed type.
use Rattle.std.proofs.Common.{◌≡◌, ◌≢◌, refl, sym, ap, ◌∙◌, ℕ, ◌-◌, ◌<◌, ◌≤◌, Bool, true, false, ◌&&◌, ◌||◌, not, if◌then◌else◌, List, [], ◌∷◌, ◌++◌, take, drop, length, get_or, Option, Some, None, option_map, nat_eq, codes, zero, suc, arith}
use Rattle.std.proofs.lemmas.List.Folds.{list_all_at}
use Rattle.std.proofs.lemmas.Bool.{eqb-true, eq-eqb}
use Rattle.std.proofs.lemmas.List.{length-drop}
use Rattle.std.proofs.Math.Seq.{drop-length}
use Rattle.std.specs.List.{list_any, list_all}
use Rattle.std.specs.Str.{bytes_eq}
use Rattle.ess_semantics.specs.Values.{Text}
use Rattle.ess_semantics.specs.Lists.{is_some_and}
use Rattle.ess_semantics.specs.Order.{same_text}
use Rattle.ess_semantics.specs.Names.{is_among}
use Rattle.ess_semantics.specs.NameTokens.{is_digit, are_digits}
use Rattle.ess_semantics.specs.Judgements.{after_prefix, is_value_name}
use Rattle.ess_semantics.proofs.Texts.{same_text-bytes, same_text-equal, same_text-either}
use Rattle.ess_types_scopes.specs.Sets.{name_added, with_name}
use Rattle.ess_types_scopes.specs.declared.added.Added.{Added}
use Rattle.ess_types_scopes.specs.declared.added.Added.TheVariants.{New, Standing}
use Rattle.ess_types.specs.ValueNames.{stem_of, StemsAdded}

-- ---- the test, from the front

-- What stands behind a prefix is made of digits.
abbrev digits_behind : Text → Text → Bool
digits_behind p a = is_some_and (after_prefix p a) are_digits

digits_behind-bytes : (p a : Text) → digits_behind p a ≡ (bytes_eq p (take (length p) a) && are_digits (drop (length p) a))
digits_behind-bytes p a = go (same_text p (take (length p) a)) (bytes_eq p (take (length p) a)) (same_text-bytes p (take (length p) a))
  where
    go : (b c : Bool) → b ≡ c
        → is_some_and (if b then Some (drop (length p) a) else None) are_digits ≡ (c && are_digits (drop (length p) a))
    go true true e = refl
    go true false e = cc
    go false true e = cc
    go false false e = refl

digits_behind-more : (c b : ℕ) (p a : Text) → digits_behind (c ∷ p) (b ∷ a) ≡ (nat_eq c b && digits_behind p a)
digits_behind-more c b p a =
    digits_behind-bytes (c ∷ p) (b ∷ a) ∙ go (nat_eq c b) (bytes_eq p (take (length p) a)) (are_digits (drop (length p) a))
    ∙ ap (λ x. nat_eq c b && x) (sym (digits_behind-bytes p a))
  where
    go : (x y z : Bool) → ((x && y) && z) ≡ (x && (y && z))
    go true y z = refl
    go false y z = refl

digits_behind-none : (c : ℕ) (p : Text) → digits_behind (c ∷ p) [] ≡ false
digits_behind-none c p = digits_behind-bytes (c ∷ p) []

-- ---- digits have no stem

and-left : (b c : Bool) → b && c ≡ true → b ≡ true
and-left true c h = refl
and-left false c h = cc

and-right : (b c : Bool) → b && c ≡ true → c ≡ true
and-right true c h = h
and-right false c h = cc

digit-other : (b : ℕ) → is_digit b ≡ true → nat_eq b 95 ≡ false
digit-other b h = go (nat_eq b 95) refl
  where
    go : (x : Bool) → nat_eq b 95 ≡ x → x ≡ false
    go false e = refl
    go true e = let eq : b ≡ 95 = eqb-true b 95 e in sym h ∙ ap is_digit eq

and-false : (b : Bool) → b && false ≡ false
and-false true = refl
and-false false = refl

nat_eq-turned : (a b : ℕ) → nat_eq a b ≡ nat_eq b a
nat_eq-turned a b = go (nat_eq a b) (nat_eq b a) refl refl
  where
    go : (x y : Bool) → nat_eq a b ≡ x → nat_eq b a ≡ y → x ≡ y
    go true true e f = refl
    go true false e f = let eq : b ≡ a = sym (eqb-true a b e) in sym (eq-eqb b a eq) ∙ f
    go false true e f = let eq : a ≡ b = sym (eqb-true b a f) in sym e ∙ eq-eqb a b eq
    go false false e f = refl

digits-all : (bs : Text) → are_digits bs ≡ true → list_all is_digit bs ≡ true
digits-all [] h = refl
digits-all (b ∷ bs) h = h

-- Digits alone are no such name.
pub stem_digits : (bs : Text) → list_all is_digit bs ≡ true → None ≡ stem_of bs
stem_digits [] h = refl
stem_digits (b ∷ bs) h =
    sym (ap (λ x. if x && are_digits bs then Some [] else option_map (λ t. b ∷ t) (stem_of bs))
    (digit-other b (and-left (is_digit b) (list_all is_digit bs) h))
    ∙ ap (option_map (λ t. b ∷ t)) (sym (stem_digits bs (and-right (is_digit b) (list_all is_digit bs) h))))

-- The same of what stands from the beginning.
pub stem_digits_at : (bs : Text) (k : ℕ) → k ≡ 0 → list_all is_digit (drop k bs) ≡ true → None ≡ stem_of bs
stem_digits_at bs k z h = stem_digits bs (sym (ap (λ n. list_all is_digit (drop n bs)) z) ∙ h)

-- ---- a byte that is no digit, with digits behind it

abbrev is_filled : Text → Bool
is_filled [] = false
is_filled (b ∷ bs) = true

filled-digits : (bs : Text) → list_all is_digit bs ≡ true → are_digits bs ≡ is_filled bs
filled-digits [] h = refl
filled-digits (b ∷ bs) h = h

no_digits-at : (bs : Text) (j : ℕ) → j < length bs → is_digit (get_or bs j 0) ≡ false → are_digits bs ≡ false
no_digits-at [] j p h = refl
no_digits-at (b ∷ bs) j p h = list_all_at is_digit (b ∷ bs) j 0 p h

stem-at : (bs : Text) (j : ℕ) → j < length bs → is_digit (get_or bs j 0) ≡ false → list_all is_digit (drop (suc j) bs) ≡ true
    → stem_of bs ≡ (if nat_eq (get_or bs j 0) 95 && is_filled (drop (suc j) bs) then Some (take j bs) else None)
stem-at [] j p h d = cc
stem-at (b ∷ bs) zero p h d =
    ap (λ x. if nat_eq b 95 && x then Some [] else option_map (λ t. b ∷ t) (stem_of bs)) (filled-digits bs d)
    ∙ ap (λ o. if nat_eq b 95 && is_filled bs then Some [] else option_map (λ t. b ∷ t) o) (sym (stem_digits bs d))
stem-at (b ∷ bs) (suc j) p h d =
    ap (λ x. if x then Some [] else option_map (λ t. b ∷ t) (stem_of bs))
    (ap (λ y. nat_eq b 95 && y) (no_digits-at bs j (omega arith) h) ∙ and-false (nat_eq b 95))
    ∙ ap (option_map (λ t. b ∷ t)) (stem-at bs j (omega arith) h d)
    ∙ go (nat_eq (get_or bs j 0) 95 && is_filled (drop (suc j) bs))
  where
    go : (x : Bool) → option_map (λ t. b ∷ t) (if x then Some (take j bs) else None) ≡ (if x then Some (b ∷ take j bs) else None)
    go true = refl
    go false = refl

-- ---- the test is that of what stands before `_`

value-digits : (u bs : Text) → list_all is_digit bs ≡ true → digits_behind (u ++ codes "_") bs ≡ false
value-digits [] [] h = digits_behind-none 95 []
value-digits [] (b ∷ bs) h =
    digits_behind-more 95 b [] bs
    ∙ ap (λ x. x && digits_behind [] bs) (nat_eq-turned 95 b ∙ digit-other b (and-left (is_digit b) (list_all is_digit bs) h))
value-digits (c ∷ u) [] h = digits_behind-none c (u ++ codes "_")
value-digits (c ∷ u) (b ∷ bs) h =
    digits_behind-more c b (u ++ codes "_") bs
    ∙ ap (λ x. nat_eq c b && x) (value-digits u bs (and-right (is_digit b) (list_all is_digit bs) h))
    ∙ and-false (nat_eq c b)

same_text-more : (c b : ℕ) (u v : Text) → same_text (c ∷ u) (b ∷ v) ≡ nat_eq c b && same_text u v
same_text-more c b u v = same_text-bytes (c ∷ u) (b ∷ v) ∙ ap (λ x. nat_eq c b && x) (sym (same_text-bytes u v))

-- A name is one of a value of a type where the type's name stands before `_` and digits.
pub value-stem : (u a : Text) → is_value_name u a ≡ is_some_and (stem_of a) (same_text u)
value-stem [] [] = digits_behind-none 95 []
value-stem (c ∷ u) [] = digits_behind-none c (u ++ codes "_")
value-stem [] (b ∷ bs) =
    digits_behind-more 95 b [] bs ∙ ap (λ x. x && digits_behind [] bs) (nat_eq-turned 95 b)
    ∙ go (nat_eq b 95 && are_digits bs) refl (stem_of bs)
  where
    go : (x : Bool) → nat_eq b 95 && are_digits bs ≡ x → (o : Option Text)
        → nat_eq b 95 && digits_behind [] bs ≡ is_some_and (if x then Some [] else option_map (λ t. b ∷ t) o) (same_text [])
    go true e o = ap (λ y. nat_eq b 95 && y) (digits_behind-bytes [] bs) ∙ e
    go false e None = ap (λ y. nat_eq b 95 && y) (digits_behind-bytes [] bs) ∙ e
    go false e (Some v) = ap (λ y. nat_eq b 95 && y) (digits_behind-bytes [] bs) ∙ e ∙ sym (same_text-bytes [] (b ∷ v))
value-stem (c ∷ u) (b ∷ bs) = digits_behind-more c b (u ++ codes "_") bs ∙ go (nat_eq b 95 && are_digits bs) refl (value-stem u bs)
  where
    inner : (o : Option Text) → nat_eq c b && is_some_and o (same_text u) ≡ is_some_and (option_map (λ t. b ∷ t) o) (same_text (c ∷ u))
    inner None = and-false (nat_eq c b)
    inner (Some v) = sym (same_text-more c b u v)

    go : (x : Bool) → nat_eq b 95 && are_digits bs ≡ x → digits_behind (u ++ codes "_") bs ≡ is_some_and (stem_of bs) (same_text u)
        → nat_eq c b && digits_behind (u ++ codes "_") bs
        ≡ is_some_and (if x then Some [] else option_map (λ t. b ∷ t) (stem_of bs)) (same_text (c ∷ u))
    go true e ih =
        ap (λ y. nat_eq c b && y) (value-digits u bs (digits-all bs (and-right (nat_eq b 95) (are_digits bs) e))) ∙ and-false (nat_eq c b)
        ∙ sym (same_text-bytes (c ∷ u) [])
    go false e ih = ap (λ y. nat_eq c b && y) ih ∙ inner (stem_of bs)

-- ---- the types whose values the names are

-- One of the names is one of a value of a type among these.
pub values-among : (us ns : List Text)
    → list_any (λ u. list_any (is_value_name u) ns) us ≡ list_any (λ a. is_some_and (stem_of a) (is_among us)) ns
values-among us [] = none us
  where
    none : (us : List Text) → list_any (λ u. false) us ≡ false
    none [] = refl
    none (u ∷ us) = none us
values-among us (a ∷ ns) =
    split us ∙ ap (λ b. b || list_any (λ u. list_any (is_value_name u) ns) us) (one us)
    ∙ ap (λ b. is_some_and (stem_of a) (is_among us) || b) (values-among us ns)
  where
    swap : (p q r t : Bool) → (p || q) || (r || t) ≡ (p || r) || (q || t)
    swap true q r t = refl
    swap false true true t = refl
    swap false true false t = refl
    swap false false r t = refl

    split : (us : List Text)
        → list_any (λ u. is_value_name u a || list_any (is_value_name u) ns) us
        ≡ list_any (λ u. is_value_name u a) us || list_any (λ u. list_any (is_value_name u) ns) us
    split [] = refl
    split (u ∷ us) =
        ap (λ b. (is_value_name u a || list_any (is_value_name u) ns) || b) (split us)
        ∙ swap (is_value_name u a) (list_any (is_value_name u) ns) (list_any (λ u. is_value_name u a) us)
        (list_any (λ u. list_any (is_value_name u) ns) us)

    over : (o : Option Text) (us : List Text) → list_any (λ u. is_some_and o (same_text u)) us ≡ is_some_and o (is_among us)
    over None [] = refl
    over None (u ∷ us) = over None us
    over (Some t) us = refl

    each : (us : List Text) → list_any (λ u. is_value_name u a) us ≡ list_any (λ u. is_some_and (stem_of a) (same_text u)) us
    each [] = refl
    each (u ∷ us) = ap (λ b. b || list_any (λ u. is_value_name u a) us) (value-stem u a)
        ∙ ap (λ b. is_some_and (stem_of a) (same_text u) || b) (each us)

    one : (us : List Text) → list_any (λ u. is_value_name u a) us ≡ is_some_and (stem_of a) (is_among us)
    one us = each us ∙ over (stem_of a) us

-- No name is one of a value where none has a stem among these.
pub no_values : (us ns : List Text) (b : Bool) → b ≡ list_any (λ a. is_some_and (stem_of a) (is_among us)) ns
    → not b ≡ not (list_any (λ u. list_any (is_value_name u) ns) us)
no_values us ns b e = ap not (e ∙ sym (values-among us ns))

-- ---- the search from the end

module _ (bs : Text) (k : ℕ) (o : 0 < k) (p : k ≤ length bs) (h : is_digit (get_or bs (k - 1) 0) ≡ false)
    (d : list_all is_digit (drop k bs) ≡ true) where
  behind-last : suc (k - 1) ≡ k
  behind-last = omega arith

  stem-last : stem_of bs ≡ (if nat_eq (get_or bs (k - 1) 0) 95 && is_filled (drop k bs) then Some (take (k - 1) bs) else None)
  stem-last =
      stem-at bs (k - 1) (omega arith) h (ap (λ n. list_all is_digit (drop n bs)) behind-last ∙ d)
      ∙ ap (λ n. if nat_eq (get_or bs (k - 1) 0) 95 && is_filled (drop n bs) then Some (take (k - 1) bs) else None) behind-last

  -- A byte that is neither a digit nor `_` stands before digits.
  pub stem_other : get_or bs (k - 1) 0 ≢ 95 → None ≡ stem_of bs
  stem_other e = sym (stem-last
      ∙ ap (λ x. if x && is_filled (drop k bs) then Some (take (k - 1) bs) else None) (go (nat_eq (get_or bs (k - 1) 0) 95) refl))
    where
      go : (x : Bool) → nat_eq (get_or bs (k - 1) 0) 95 ≡ x → x ≡ false
      go false h = refl
      go true h = absurd (e (eqb-true (get_or bs (k - 1) 0) 95 h))

  -- No digits stand at the end.
  pub stem_bare : k ≡ length bs → None ≡ stem_of bs
  stem_bare e =
      sym (stem-last ∙ ap (λ n. if nat_eq (get_or bs (k - 1) 0) 95 && is_filled (drop n bs) then Some (take (k - 1) bs) else None) e
      ∙ ap (λ l. if nat_eq (get_or bs (k - 1) 0) 95 && is_filled l then Some (take (k - 1) bs) else None) (drop-length bs)
      ∙ ap (λ x. if x then Some (take (k - 1) bs) else None) (and-false (nat_eq (get_or bs (k - 1) 0) 95)))

  filled-rest : k < length bs → is_filled (drop k bs) ≡ true
  filled-rest q = go (drop k bs) (length-drop k bs)
    where
      go : (l : Text) → length l ≡ length bs - k → is_filled l ≡ true
      go [] e = absurd (omega arith)
      go (x ∷ l) e = refl

  -- `_` stands before digits.
  pub stem_found : k < length bs → get_or bs (k - 1) 0 ≡ 95 → Some (take (k - 1) bs) ≡ stem_of bs
  stem_found q e =
      sym (stem-last ∙ ap (λ x. if x && is_filled (drop k bs) then Some (take (k - 1) bs) else None) (eq-eqb (get_or bs (k - 1) 0) 95 e)
      ∙ ap (λ x. if x then Some (take (k - 1) bs) else None) (filled-rest q))

-- What stands before `_` and digits is found from the end.
pub ruleset stem_searched = (stem_found, stem_bare, stem_digits_at)

-- ---- stems that are added

among-added : (ns ms : List Text) (t : Text) (r : Added) → r ≡ name_added ns t → ms ≡ with_name r ns t → (u : Text)
    → is_among ms u ≡ same_text t u || is_among ns u
among-added ns ms t r p q u = ap (λ l. is_among l u) q ∙ ap (λ r. is_among (with_name r ns t) u) p ∙ go (is_among ns t) refl
  where
    among-same : same_text t u ≡ true → is_among ns t ≡ true → is_among ns u ≡ true
    among-same e h = sym (ap (is_among ns) (same_text-equal t u e)) ∙ h

    there : (b c : Bool) → same_text t u ≡ b → is_among ns u ≡ c → is_among ns t ≡ true → c ≡ b || c
    there true true e f h = refl
    there true false e f h = sym f ∙ among-same e h
    there false c e f h = refl

    go : (b : Bool) → is_among ns t ≡ b → is_among (with_name (if b then Standing else New) ns t) u ≡ same_text t u || is_among ns u
    go true h = there (same_text t u) (is_among ns u) refl refl h
    go false h = refl

or-false : (b : Bool) → b || false ≡ b
or-false true = refl
or-false false = refl

-- A name with a stem adds it.
pub stem_added : (a : Text) (ns ms : List Text) (t : Text) (r : Added) → Some t ≡ stem_of a → r ≡ name_added ns t → ms ≡ with_name r ns t
    → StemsAdded (a ∷ []) ns ms
stem_added a ns ms t r s p q u =
    among-added ns ms t r p q u
    ∙ ap (λ b. b || is_among ns u)
    (same_text-either t u ∙ ap (λ o. is_some_and o (same_text u)) s ∙ sym (or-false (is_value_name u a) ∙ value-stem u a))

-- A name without one adds none.
pub stem_missing : (a : Text) (ns : List Text) → None ≡ stem_of a → StemsAdded (a ∷ []) ns ns
stem_missing a ns s u =
    ap (λ b. b || is_among ns u) (ap (λ o. is_some_and o (same_text u)) s ∙ sym (or-false (is_value_name u a) ∙ value-stem u a))
