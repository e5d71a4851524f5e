-- Keys of names in lean trees: numbers, and names that are bound around, with the marks of the names that they stand for.
use Rattle.std.proofs.Common.{◌≡◌, refl, sym, ap, ◌∙◌, subst, ℕ, Bool, true, false, ◌&&◌, ◌||◌, not, if◌then◌else◌, ◌∷◌, ℤ, Option, Some, None}
use Rattle.ess_semantics.specs.Lists.{or_else, or_default}
use Rattle.ess_semantics.specs.Values.{Text}
use Rattle.ess_semantics.specs.Order.{same_text}
use Rattle.ess_semantics.specs.Names.{Names, look}
use Rattle.ess_semantics.specs.Trees.{name_pat, Ex, number_ex, truth_ex, name_ex, node_ex, matrix_ex, comp_ex, cell_ex, seen_ex, Gens, Dom, bool_dom, int_dom}
use Rattle.ess_semantics.specs.Scoped.{with_names}
use Rattle.ess_semantics.proofs.Texts.{same_text-equal}
use Rattle.ess_guard_laws.specs.Origins.{Origin, runs_over, anywhere, comes_from, is_sure}
use Rattle.ess_keys_laws.specs.KeyForms.{plain_key, key_beside, key_in, key_under, is_fixed_dom, other_than, key_of}
use Rattle.ess_keys_laws.specs.Keyed.{Around, key_for, key_now, entered}
use Rattle.ess_flat_laws.specs.Flat.{denied, both, either, implied, agreeing, equal, unequal, below, at_most, above, at_least}
use Rattle.ess_bare_laws.specs.Bare.{before, not_behind}
use Rattle.ess_bare_laws.specs.Lean.{of_all, of_some, Lean, a_number, a_truth, a_name, a_cell, by_one, by_two, by_power, by_truth, by_fold, by_items, by_greatest, by_order, Ranging, behind_all, over_truths, over_numbers, under}
use Rattle.ess_bare_written_laws.proofs.Origins.{MarkOf, of_truths, of_numbers, Origins, more_origins, mark-of, within-mark}

module _ (ok : ℤ → Bool) where
  -- A number has the property.
  abbrev pub OkKey : Ex → Type 0
  OkKey (number_ex n) = ok n ≡ true
  OkKey e = Unit {0}

  -- The key is a number, or a name with this mark.
  pub data Key (u : Names Bool) : Ex → Bool → Type 0 where
    key_number : {n : ℤ} → ok n ≡ true → Key u (number_ex n) false
    key_name : {a : Text} {m : Bool} → look u a ≡ Some m → Key u (name_ex a) m

  -- ---- keys in conditions

  from-some : (e t : Ex) → OkKey e → Some e ≡ Some t → OkKey t
  from-some e t h q = let p : e ≡ t = cc in subst OkKey p h

  module _ (cells : Text → Option (Bool × ℕ)) (fine : Text → Bool) where
    abbrev L : Names Bool → Ex → Bool → Type 0
    L = Lean cells ok fine false

    plain-ok : {r : Names Bool} {e : Ex} {m : Bool} → L r e m → (j : Text) (t : Ex) → plain_key j e ≡ Some t → OkKey t
    plain-ok (a_number {k = k} h) j t q = from-some (number_ex k) t h q
    plain-ok a_truth j t q = cc
    plain-ok (a_name {a = a} h) j t q = go (same_text j a) q
      where
        go : (b : Bool) → (if b then None else Some (name_ex a)) ≡ Some t → OkKey t
        go true q = cc
        go false q = from-some (name_ex a) t tt q
    plain-ok (a_cell h l) j t q = cc
    plain-ok (by_one w f) j t q = cc
    plain-ok (by_two w f h) j t q = cc
    plain-ok (by_power f h) j t q = cc
    plain-ok (by_truth f) j t q = cc
    plain-ok (by_fold w s f) j t q = cc
    plain-ok (by_items w f) j t q = cc
    plain-ok (by_greatest f h) j t q = cc
    plain-ok (by_order w f h) j t q = cc

    beside-ok : {r : Names Bool} {m : Bool} (e x : Ex) → L r x m → (j : Text) (t : Ex) → key_beside j e x ≡ Some t → OkKey t
    beside-ok (name_ex a) x f j t q = go (same_text j a) q
      where
        go : (b : Bool) → (if b then plain_key j x else None) ≡ Some t → OkKey t
        go true q = plain-ok f j t q
        go false q = cc
    beside-ok e x f j t q = cc

    either-ok : (o p : Option Ex) (t : Ex) → (o ≡ Some t → OkKey t) → (p ≡ Some t → OkKey t) → or_else o p ≡ Some t → OkKey t
    either-ok None p t f g q = g q
    either-ok (Some e) p t f g q = f q

    key-in-ok : {r : Names Bool} {e : Ex} → L r e true → (j : Text) (t : Ex) → key_in j e ≡ Some t → OkKey t
    key-in-ok a_truth j t q = cc
    key-in-ok (a_name h) j t q = cc
    key-in-ok (a_cell h l) j t q = cc
    key-in-ok (by_one denied f) j t q = cc
    key-in-ok (by_two {x = x} {y = y} both f h) j t q = either-ok (key_in j x) (key_in j y) t (key-in-ok f j t) (key-in-ok h j t) q
    key-in-ok (by_two either f h) j t q = cc
    key-in-ok (by_two implied f h) j t q = cc
    key-in-ok (by_two agreeing f h) j t q = cc
    key-in-ok (by_two {x = x} {y = y} equal f h) j t q =
        either-ok (key_beside j x y) (key_beside j y x) t (beside-ok x y h j t) (beside-ok y x f j t) q
    key-in-ok (by_two unequal f h) j t q = cc
    key-in-ok (by_two below f h) j t q = cc
    key-in-ok (by_two at_most f h) j t q = cc
    key-in-ok (by_two above f h) j t q = cc
    key-in-ok (by_two at_least f h) j t q = cc
    key-in-ok (by_fold of_all s f) j t q = cc
    key-in-ok (by_fold of_some s f) j t q = cc
    key-in-ok (by_items of_all f) j t q = cc
    key-in-ok (by_items of_some f) j t q = cc
    key-in-ok (by_order before f h) j t q = cc
    key-in-ok (by_order not_behind f h) j t q = cc

    key-under-ok : {r t : Names Bool} {gs : Gens} → Ranging cells ok fine false r gs t → (j : Text) (x : Ex) → key_under j gs ≡ Some x →
        OkKey x
    key-under-ok behind_all j x q = cc
    key-under-ok (over_truths c s) j x q = cc
    key-under-ok (over_numbers c b l s) j x q = cc
    key-under-ok (under {c = c} {gs = gs} f s) j x q = either-ok (key_in j c) (key_under j gs) x (key-in-ok f j x) (key-under-ok s j x) q

    other-is : (b : Text) (o : Option Ex) (t : Ex) → other_than b o ≡ Some t → o ≡ Some t
    other-is b None t q = q
    other-is b (Some (name_ex a)) t q = go (same_text b a) q
      where
        go : (c : Bool) → (if c then None else Some (name_ex a)) ≡ Some t → Some (name_ex a) ≡ Some t
        go true q = cc
        go false q = q
    other-is b (Some e) t q = q

    behind-fixed : (b : Bool) (a : Text) (o : Option Ex) (t : Ex) → (if b then other_than a o else None) ≡ Some t → o ≡ Some t
    behind-fixed true a o t q = other-is a o t q
    behind-fixed false a o t q = cc

    -- A number that conditions give as a key has the property.
    pub key-of-ok : {r t : Names Bool} {gs : Gens} → Ranging cells ok fine false r gs t → (j : Text) (x : Ex) → key_of j gs ≡ Some x →
        OkKey x
    key-of-ok behind_all j x q = cc
    key-of-ok (over_truths {a = a} {gs = gs} c s) j x q =
        key-of-ok s j x (behind-fixed (not (same_text a j) && is_fixed_dom bool_dom) a (key_of j gs) x q)
    key-of-ok (over_numbers {a = a} {rs = rs} {es = es} {gs = gs} c b l s) j x q =
        key-of-ok s j x (behind-fixed (not (same_text a j) && is_fixed_dom (int_dom rs es)) a (key_of j gs) x q)
    key-of-ok (under {c = c} {gs = gs} f s) j x q = either-ok (key_in j c) (key_under j gs) x (key-in-ok f j x) (key-under-ok s j x) q

  -- ---- keys that are sure to lie in a domain

  from-key : {u : Names Bool} {k : Names Origin} → Origins u k → (a : Text) (d : Dom) (m : Bool) → MarkOf d m → (o : Option Origin) →
      look k a ≡ o → comes_from o d ≡ true → Key u (name_ex a) m
  from-key s a d m w None e q = cc
  from-key s a d m w (Some anywhere) e q = cc
  from-key {u = u} s a d m w (Some (runs_over c)) e q =
      let p = mark-of s a c e in
      let n : p.its ≡ m = within-mark p.mark w q in
      key_name (p.there ∙ ap Some n)

  pub sure-key : {u : Names Bool} {k : Names Origin} {d : Dom} {m : Bool} → Origins u k → (t : Ex) → MarkOf d m → OkKey t →
      is_sure k t d ≡ true → Key u t m
  sure-key s (number_ex n) of_numbers h q = key_number h
  sure-key s (number_ex n) of_truths h q = cc
  sure-key {k = k} {d = d} {m = m} s (name_ex a) w h q = from-key s a d m w (look k a) refl q
  sure-key s t w h q = cc

  -- ---- what is known around a place

  -- With names in scope: what stands for each name has its mark, keys are of names in scope, and names that are left are in scope.
  pub record Known (s : Text → Bool) (r : Names Bool) (c : Around) (u : Names Bool) : Type 0 where
    pub origins : Origins u c.origins
    pub stands : (a : Text) (m : Bool) → look r a ≡ Some m → Key u (key_for c.keys a) m
    pub keys_in : (a : Text) (t : Ex) → look c.keys a ≡ Some t → (s a ≡ true) × OkKey t
    pub names_in : (a : Text) (m : Bool) → look u a ≡ Some m → s a ≡ true

  or-first : (a b : Bool) → a ≡ true → a || b ≡ true
  or-first true b e = refl
  or-first false b e = cc

  or-second : (a b : Bool) → b ≡ true → a || b ≡ true
  or-second true b e = refl
  or-second false b e = e

  -- A name in scope isn't one that is new.
  not-new : (s : Text → Bool) (j a : Text) → s j ≡ false → s a ≡ true → same_text j a ≡ false
  not-new s j a n h = go (same_text j a) refl
    where
      go : (b : Bool) → same_text j a ≡ b → same_text j a ≡ false
      go false e = e
      go true e = let p : s j ≡ true = ap s (same_text-equal j a e) ∙ h in cc

  wider-key : (s : Text → Bool) (u : Names Bool) (j : Text) (n : Bool) {t : Ex} {m : Bool} → s j ≡ false →
      ((a : Text) (m : Bool) → look u a ≡ Some m → s a ≡ true) → Key u t m → Key ((j, n) ∷ u) t m
  wider-key s u j n w f (key_number h) = key_number h
  wider-key s u j n w f (key_name {a = a} {m = m} h) =
      key_name (ap (λ b. if b then Some n else look u a) (not-new s j a w (f a m h)) ∙ h)

  module _ (s : Text → Bool) (r : Names Bool) (c : Around) (u : Names Bool) (K : Known s r c u) (j : Text) (d : Dom) (m : Bool) where
    -- Behind a generator whose name has no key.
    pub known-over : MarkOf d m → s j ≡ false →
        Known (with_names s (name_pat j)) ((j, m) ∷ r) (entered c (name_pat j) d None) ((j, m) ∷ u)
    known-over w n = record {
      origins = more_origins w K.origins;
      stands = λ a i q. stood (same_text j a) a i refl q;
      keys_in = λ a t q. let p = K.keys_in a t q in (or-first (s a) (same_text j a) p.0, p.1);
      names_in = λ a i q. inside (same_text j a) a i refl q;
    }
      where
        itself : (o : Option Ex) (a : Text) (i : Bool) → look c.keys a ≡ o → same_text j a ≡ true → m ≡ i →
            Key ((j, m) ∷ u) (or_default (look c.keys a) (name_ex a)) i
        itself None a i q e p =
            subst (λ o. Key ((j, m) ∷ u) (or_default o (name_ex a)) i) (sym q)
            (key_name (ap (λ b. if b then Some m else look u a) e ∙ ap Some p))
        itself (Some t) a i q e p =
            let x : s a ≡ true = (K.keys_in a t q).0 in
            let y : s j ≡ true = ap s (same_text-equal j a e) ∙ x in
            cc

        stood : (b : Bool) (a : Text) (i : Bool) → same_text j a ≡ b → (if b then Some m else look r a) ≡ Some i →
            Key ((j, m) ∷ u) (key_for c.keys a) i
        stood true a i e q = let p : m ≡ i = cc in itself (look c.keys a) a i refl e p
        stood false a i e q = wider-key s u j m n K.names_in (K.stands a i q)

        inside : (b : Bool) (a : Text) (i : Bool) → same_text j a ≡ b → (if b then Some m else look u a) ≡ Some i →
            with_names s (name_pat j) a ≡ true
        inside true a i e q = or-second (s a) (same_text j a) e
        inside false a i e q = or-first (s a) (same_text j a) (K.names_in a i q)

    -- Behind one whose name has a key.
    pub known-key : (t : Ex) → Key u t m → OkKey t → Known (with_names s (name_pat j)) ((j, m) ∷ r) (entered c (name_pat j) d (Some t)) u
    known-key t f h = record {
      origins = K.origins;
      stands = λ a i q. stood (same_text j a) a i q;
      keys_in = λ a x q. inside (same_text j a) a x refl q;
      names_in = λ a i q. or-first (s a) (same_text j a) (K.names_in a i q);
    }
      where
        stood : (b : Bool) (a : Text) (i : Bool) → (if b then Some m else look r a) ≡ Some i →
            Key u (or_default (if b then Some t else look c.keys a) (name_ex a)) i
        stood true a i q = let p : m ≡ i = cc in subst (Key u t) p f
        stood false a i q = K.stands a i q

        inside : (b : Bool) (a : Text) (x : Ex) → same_text j a ≡ b → (if b then Some t else look c.keys a) ≡ Some x →
            (with_names s (name_pat j) a ≡ true) × OkKey x
        inside true a x e q = (or-second (s a) (same_text j a) e, from-some t x h q)
        inside false a x e q = let p = K.keys_in a x q in (or-first (s a) (same_text j a) p.0, p.1)

    -- What a key has become has the property.
    pub now-ok : (t : Ex) → OkKey t → OkKey (key_now c.keys t)
    now-ok (number_ex n) h = h
    now-ok (name_ex a) h = go (look c.keys a) refl
      where
        go : (o : Option Ex) → look c.keys a ≡ o → OkKey (or_default (look c.keys a) (name_ex a))
        go None q = subst (λ o. OkKey (or_default o (name_ex a))) (sym q) tt
        go (Some t) q = subst (λ o. OkKey (or_default o (name_ex a))) (sym q) (K.keys_in a t q).1
    now-ok (truth_ex b) h = tt
    now-ok (node_ex b op es) h = tt
    now-ok (matrix_ex es e) h = tt
    now-ok (comp_ex e gs) h = tt
    now-ok (cell_ex b n es) h = tt
    now-ok (seen_ex q e ns es) h = tt
