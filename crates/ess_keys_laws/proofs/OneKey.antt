-- A generator whose name equals a key: at other members nothing comes, so what comes at the key is all.
use Rattle.std.proofs.Common.{◌≡◌, refl, sym, ap, ◌∙◌, subst, Bool, true, false, ◌&&◌, ◌||◌, not, if◌then◌else◌, List, [], ◌∷◌, ◌++◌}
use Rattle.std.proofs.Common.{Option, Some, None, option_map, ◌⊎◌, inl, inr}
use Rattle.std.specs.declared.cmp.Ordering.TheVariants.{Less}
use Rattle.ess_semantics.specs.declared.words.Op2.{Op2}
use Rattle.ess_semantics.specs.Lists.{and_then, or_else}
use Rattle.ess_semantics.specs.Values.{Text, Value, number, truth, item, node, itself}
use Rattle.ess_semantics.specs.Order.{same, same_text, order}
use Rattle.ess_semantics.specs.Names.{Names, look}
use Rattle.ess_semantics.specs.Collections.{holds, rises}
use Rattle.ess_semantics.specs.Trees.{binary, Ex, Exs, number_ex, name_ex, node_ex, cell_ex, no_exs, more_exs, Gens, no_gens, over, from}
use Rattle.ess_semantics.specs.Trees.{cond, Dom, bool_dom, int_dom, name_dom, ex2}
use Rattle.ess_semantics.specs.Operators.{as_truth, value_of_node, false_where_undefined}
use Rattle.ess_semantics.specs.Domains.{integers}
use Rattle.ess_semantics.specs.Tables.{Table}
use Rattle.ess_semantics.specs.Meaning.{Env, TypeEntry, meaning, meanings, items_under, collect, where_true, domain_of, spans_of}
use Rattle.ess_semantics.proofs.Orders.{same-itself, same-equal, order_total}
use Rattle.ess_semantics.proofs.Sorting.{sorted-of, holds-has, below-has, not-itself, Rising}
use Rattle.ess_semantics.proofs.Tests.{and-left, and-right}
use Rattle.ess_rules_laws.proofs.Simulation.{Vals, E}
use Rattle.ess_rules_laws.proofs.Agreement.{same_text-equal}
use Rattle.ess_keys_laws.specs.KeyForms.{plain_key, key_beside, key_in, key_under, is_sum, is_fixed, are_fixed, is_fixed_dom}

-- ---- lists in which a value stands once

append-nil : {A : Type 0} (xs : List A) → xs ++ [] ≡ xs
append-nil [] = refl
append-nil (x ∷ xs) = ap (λ l. x ∷ l) (append-nil xs)

nothing-behind : (o : Option (List Value)) → and_then o (λ xs. option_map (λ ys. xs ++ ys) (Some [])) ≡ o
nothing-behind None = refl
nothing-behind (Some xs) = ap Some (append-nil xs)

nothing-before : (o : Option (List Value)) → and_then (Some []) (λ xs. option_map (λ ys. xs ++ ys) o) ≡ o
nothing-before None = refl
nothing-before (Some xs) = refl

neither : (a b : Bool) → a || b ≡ false → (a ≡ false) × (b ≡ false)
neither true b e = cc
neither false b e = (refl, e)

module _ (F : Value → Option (List Value)) (w : Value) (h : (v : Value) → same v w ≡ false → F v ≡ Some []) where
  none-there : (vs : List Value) → holds vs w ≡ false → collect vs F ≡ Some []
  none-there [] q = refl
  none-there (v ∷ vs) q =
      let r = neither (same v w) (holds vs w) q in
      ap (λ x. and_then x (λ xs. option_map (λ ys. xs ++ ys) (collect vs F))) (h v r.0) ∙ nothing-before (collect vs F) ∙ none-there vs r.1

  once-there : (vs : List Value) → Rising order_total vs → holds vs w ≡ true → collect vs F ≡ F w
  once-there [] r q = cc
  once-there (v ∷ vs) r q = go (once-there vs r.1) (same v w) refl q
    where
      absent : (b : Bool) → holds vs w ≡ b → v ≡ w → holds vs w ≡ false
      absent false e p = e
      absent true e p =
          absurd (not-itself order_total w (subst (λ z. order z w ≡ Less) p (below-has order_total v w vs r.0 (holds-has vs w e))))

      go : (holds vs w ≡ true → collect vs F ≡ F w) → (b : Bool) → same v w ≡ b → b || holds vs w ≡ true → collect (v ∷ vs) F ≡ F w
      go ih true e t =
          let p : v ≡ w = same-equal v w e in
          ap (λ y. and_then (F v) (λ xs. option_map (λ ys. xs ++ ys) y)) (none-there vs (absent (holds vs w) refl p))
          ∙ nothing-behind (F v) ∙ ap F p
      go ih false e t =
          ap (λ x. and_then x (λ xs. option_map (λ ys. xs ++ ys) (collect vs F))) (h v e) ∙ nothing-before (collect vs F) ∙ ih t

  -- Where nothing comes at other values, what comes at the one that is there is all.
  pub once : (vs : List Value) → rises itself vs ≡ true → holds vs w ≡ true → collect vs F ≡ F w
  once vs r q = once-there vs (sorted-of vs r) q

-- Where nothing is there at any value of some, nothing is there.
pub none-at-all : (F : Value → Option (List Value)) (w : Value) (vs : List Value) → ((v : Value) → F v ≡ None) → holds vs w ≡ true
    → collect vs F ≡ None
none-at-all F w [] h q = cc
none-at-all F w (v ∷ vs) h q = ap (λ x. and_then x (λ xs. option_map (λ ys. xs ++ ys) (collect vs F))) (h v)

-- ---- keys

-- Whether it is a key of the name j: a number, or another name.
abbrev pub is_key : Text → Ex → Bool
is_key j (number_ex n) = true
is_key j (name_ex a) = not (same_text j a)
is_key j e = false

plain-is : (j : Text) (b t : Ex) → plain_key j b ≡ Some t → (b ≡ t) × (is_key j t ≡ true)
plain-is j (number_ex n) t e =
    subst (λ z. (number_ex n ≡ z) × (is_key j z ≡ true)) (ap (λ o. elim o [ None ↦ number_ex n | Some z ↦ z ]) e) (refl, refl)
plain-is j (name_ex a) t e = go (same_text j a) refl e
  where
    go : (b : Bool) → same_text j a ≡ b → (if b then None else Some (name_ex a)) ≡ Some t → (name_ex a ≡ t) × (is_key j t ≡ true)
    go true q e = cc
    go false q e =
        subst (λ z. (name_ex a ≡ z) × (is_key j z ≡ true)) (ap (λ o. elim o [ None ↦ name_ex a | Some z ↦ z ]) e) (refl, ap not q)
plain-is j b t e = cc

same-turned : (v w : Value) → same v w ≡ false → same w v ≡ false
same-turned v w q = go (same w v) refl
  where
    go : (b : Bool) → same w v ≡ b → same w v ≡ false
    go false e = e
    go true e = let r : same v w ≡ true = subst (λ z. same v z ≡ true) (sym (same-equal w v e)) (same-itself v) in cc

-- ---- conditions

-- A condition fails where the truth value of the first operand of an `and` is false, or that of the second.
first-fails : (o p : Option Value) → as_truth o ≡ false
    → as_truth (false_where_undefined true (value_of_node (binary Op2.And) (o ∷ p ∷ []))) ≡ false
first-fails o p e = ap (λ b. b && as_truth p) e

second-fails : (o p : Option Value) → as_truth p ≡ false
    → as_truth (false_where_undefined true (value_of_node (binary Op2.And) (o ∷ p ∷ []))) ≡ false
second-fails o p e = go (as_truth o) (as_truth p) e
  where
    go : (a b : Bool) → b ≡ false → a && b ≡ false
    go true b e = e
    go false b e = refl

-- Nothing comes behind a condition that fails, or where nothing comes anyway.
where-fails : (o : Option Value) (x : Option (List Value)) → as_truth o ≡ false → where_true o (λ u. x) ≡ Some []
where-fails None x e = refl
where-fails (Some (truth true)) x e = cc
where-fails (Some (truth false)) x e = refl
where-fails (Some (number n)) x e = refl
where-fails (Some (item t k)) x e = refl
where-fails (Some (node k vs)) x e = refl

where-nothing : (o : Option Value) (x : Option (List Value)) → x ≡ Some [] → where_true o (λ u. x) ≡ Some []
where-nothing None x e = refl
where-nothing (Some (truth true)) x e = e
where-nothing (Some (truth false)) x e = refl
where-nothing (Some (number n)) x e = refl
where-nothing (Some (item t k)) x e = refl
where-nothing (Some (node k vs)) x e = refl

-- The first of two options that is there.
either : {A : Type 0} (o p : Option A) (t : A) → or_else o p ≡ Some t → (o ≡ Some t) ⊎ (p ≡ Some t)
either None p t e = inr e
either (Some x) p t e = inl e

module _ (pl : Bool) (ts : List TypeEntry) (cs : Names Table) where
  abbrev M : Vals → Env
  M g = E pl ts cs g

  -- ---- fixed domains

  mutual
    fixed-means : (e : Ex) (g h : Vals) → is_fixed e ≡ true → meaning e (M g) ≡ meaning e (M h)
    fixed-means (number_ex n) g h t = refl
    fixed-means (cell_ex b n no_exs) g h t = refl
    fixed-means (cell_ex b n (more_exs e es)) g h t = let r = and-right (not b) false t in cc
    fixed-means (node_ex b op es) g h t =
        ap (λ os. false_where_undefined b (value_of_node op os)) (fixed-all es g h (and-right (not b && is_sum op) (are_fixed es) t))
    fixed-means e g h t = cc

    fixed-all : (es : Exs) (g h : Vals) → are_fixed es ≡ true → meanings es (M g) ≡ meanings es (M h)
    fixed-all no_exs g h t = refl
    fixed-all (more_exs e es) g h t =
        ap (λ o. o ∷ meanings es (M g)) (fixed-means e g h (and-left (is_fixed e) (are_fixed es) t))
        ∙ ap (λ os. meaning e (M h) ∷ os) (fixed-all es g h (and-right (is_fixed e) (are_fixed es) t))

  -- A fixed domain is one wherever it stands.
  pub fixed-domain : (d : Dom) (g h : Vals) → is_fixed_dom d ≡ true → domain_of d (M g) ≡ domain_of d (M h)
  fixed-domain bool_dom g h t = refl
  fixed-domain (int_dom rs es) g h t = ap (λ os. option_map integers (spans_of rs os)) (fixed-all es g h t)
  fixed-domain (name_dom a) g h t = refl
  fixed-domain d g h t = cc

  -- ---- keys

  -- A key of j means the same behind j.
  pub key-stays : (j : Text) (t : Ex) (v : Value) (g : Vals) → is_key j t ≡ true → meaning t (M ((j, v) ∷ g)) ≡ meaning t (M g)
  key-stays j (number_ex n) v g e = refl
  key-stays j (name_ex a) v g e = go (same_text j a) e
    where
      go : (b : Bool) → not b ≡ true → (if b then Some v else look g a) ≡ look g a
      go true e = cc
      go false e = refl
  key-stays j e v g t = cc

  -- Where j is v and the key is w, and these differ.
  pub record Differ (j : Text) (t : Ex) (v w : Value) (g : Vals) : Type 0 where
    pub named : look g j ≡ Some v
    pub keyed : meaning t (M g) ≡ Some w
    pub differ : same v w ≡ false

  beside-is : (j : Text) (a b t : Ex) → key_beside j a b ≡ Some t → (g : Vals)
      → (meaning a (M g) ≡ look g j) × (b ≡ t) × (is_key j t ≡ true)
  beside-is j (name_ex a) b t e g = go (same_text j a) refl e
    where
      go : (c : Bool) → same_text j a ≡ c → (if c then plain_key j b else None) ≡ Some t
          → (look g a ≡ look g j) × (b ≡ t) × (is_key j t ≡ true)
      go true q e = let r = plain-is j b t e in (ap (look g) (sym (same_text-equal j a q)), r.0, r.1)
      go false q e = cc
  beside-is j a b t e g = cc

  equal-fails : (a b : Ex) (g : Vals) (x y : Value) → meaning a (M g) ≡ Some x → meaning b (M g) ≡ Some y → same x y ≡ false
      → as_truth (meaning (ex2 true Op2.Eq a b) (M g)) ≡ false
  equal-fails a b g x y p q e =
      ap (λ o. as_truth (false_where_undefined true (value_of_node (binary Op2.Eq) (o ∷ meaning b (M g) ∷ [])))) p
      ∙ ap (λ o. as_truth (false_where_undefined true (value_of_node (binary Op2.Eq) (Some x ∷ o ∷ [])))) q ∙ e

  -- A condition that says that j is the key fails where it is another value.
  in-fails : (j : Text) (c t : Ex) (v w : Value) (g : Vals) → key_in j c ≡ Some t → Differ j t v w g → as_truth (meaning c (M g)) ≡ false
  in-fails j (ex2 true Op2.Eq a b) t v w g e f = go (either (key_beside j a b) (key_beside j b a) t e)
    where
      go : (key_beside j a b ≡ Some t) ⊎ (key_beside j b a ≡ Some t) → as_truth (meaning (ex2 true Op2.Eq a b) (M g)) ≡ false
      go (inl p) = let r = beside-is j a b t p g in
          equal-fails a b g v w (r.0 ∙ f.named) (ap (λ z. meaning z (M g)) r.1 ∙ f.keyed) f.differ
      go (inr p) = let r = beside-is j b a t p g in
          equal-fails a b g w v (ap (λ z. meaning z (M g)) r.1 ∙ f.keyed) (r.0 ∙ f.named) (same-turned v w f.differ)
  in-fails j (ex2 true Op2.And a b) t v w g e f =
      go (either (key_in j a) (key_in j b) t e) (λ p. in-fails j a t v w g p f) (λ p. in-fails j b t v w g p f)
    where
      go : (key_in j a ≡ Some t) ⊎ (key_in j b ≡ Some t) → (key_in j a ≡ Some t → as_truth (meaning a (M g)) ≡ false)
          → (key_in j b ≡ Some t → as_truth (meaning b (M g)) ≡ false) → as_truth (meaning (ex2 true Op2.And a b) (M g)) ≡ false
      go (inl p) x y = first-fails (meaning a (M g)) (meaning b (M g)) (x p)
      go (inr p) x y = second-fails (meaning a (M g)) (meaning b (M g)) (y p)
  in-fails j c t v w g e f = cc

  in-key : (j : Text) (c t : Ex) → key_in j c ≡ Some t → is_key j t ≡ true
  in-key j (ex2 true Op2.Eq a b) t e = go (either (key_beside j a b) (key_beside j b a) t e)
    where
      go : (key_beside j a b ≡ Some t) ⊎ (key_beside j b a ≡ Some t) → is_key j t ≡ true
      go (inl p) = let r = beside-is j a b t p [] in r.2
      go (inr p) = let r = beside-is j b a t p [] in r.2
  in-key j (ex2 true Op2.And a b) t e = go (either (key_in j a) (key_in j b) t e) (in-key j a t) (in-key j b t)
    where
      go : (key_in j a ≡ Some t) ⊎ (key_in j b ≡ Some t) → (key_in j a ≡ Some t → is_key j t ≡ true)
          → (key_in j b ≡ Some t → is_key j t ≡ true)
          → is_key j t ≡ true
      go (inl p) x y = x p
      go (inr p) x y = y p
  in-key j c t e = cc

  -- Nothing comes of conditions of which one says so.
  pub under-fails : (j : Text) (gs : Gens) (t : Ex) (v w : Value) (g : Vals) (K : Env → Option (List Value)) → key_under j gs ≡ Some t
      → Differ j t v w g
      → items_under gs (M g) K ≡ Some []
  under-fails j (cond c gs) t v w g K e f = go (either (key_in j c) (key_under j gs) t e) (λ p. under-fails j gs t v w g K p f)
    where
      go : (key_in j c ≡ Some t) ⊎ (key_under j gs ≡ Some t) → (key_under j gs ≡ Some t → items_under gs (M g) K ≡ Some [])
          → items_under (cond c gs) (M g) K ≡ Some []
      go (inl p) ih = where-fails (meaning c (M g)) (items_under gs (M g) K) (in-fails j c t v w g p f)
      go (inr p) ih = where-nothing (meaning c (M g)) (items_under gs (M g) K) (ih p)
  under-fails j no_gens t v w g K e f = cc
  under-fails j (over p d gs) t v w g K e f = cc
  under-fails j (from p s gs) t v w g K e f = cc

  -- The key that it says is one.
  pub under-key : (j : Text) (gs : Gens) (t : Ex) → key_under j gs ≡ Some t → is_key j t ≡ true
  under-key j (cond c gs) t e = go (either (key_in j c) (key_under j gs) t e) (under-key j gs t)
    where
      go : (key_in j c ≡ Some t) ⊎ (key_under j gs ≡ Some t) → (key_under j gs ≡ Some t → is_key j t ≡ true) → is_key j t ≡ true
      go (inl p) ih = in-key j c t p
      go (inr p) ih = ih p
  under-key j no_gens t e = cc
  under-key j (over p d gs) t e = cc
  under-key j (from p s gs) t e = cc
