-- What comes of a generator whose name equals a key: what comes at the key.
use Rattle.std.proofs.Common.{◌≡◌, refl, sym, ap, ◌∙◌, subst, Bool, true, false, ◌&&◌, not, if◌then◌else◌, List, [], ◌∷◌, ◌++◌, Option}
use Rattle.std.proofs.Common.{Some, None, option_map}
use Rattle.ess_semantics.specs.Lists.{and_then}
use Rattle.ess_semantics.specs.Values.{Text, Value, itself}
use Rattle.ess_semantics.specs.Order.{same_text}
use Rattle.ess_semantics.specs.Names.{Names, look}
use Rattle.ess_semantics.specs.Collections.{holds, rises}
use Rattle.ess_semantics.specs.Trees.{name_pat, tuple_pat, Ex, number_ex, truth_ex, name_ex, node_ex, matrix_ex, comp_ex, cell_ex}
use Rattle.ess_semantics.specs.Trees.{seen_ex, Gens, no_gens, over, from, cond, Dom}
use Rattle.ess_semantics.specs.Tables.{Table}
use Rattle.ess_semantics.specs.Meaning.{Env, TypeEntry, meaning, items_under, collect, domain_of, members_in}
use Rattle.ess_semantics.proofs.Tests.{and-left, and-right}
use Rattle.ess_rules_laws.proofs.Simulation.{Vals, E, collect-same, and_then-same}
use Rattle.ess_rules_laws.proofs.Agreement.{same_text-itself}
use Rattle.ess_keys_laws.specs.KeyForms.{is_fixed_dom, other_than, key_of}
use Rattle.ess_keys_laws.proofs.OneKey.{is_key, once, none-at-all, fixed-domain, key-stays, Differ, under-fails, under-key}

-- ---- answers without items

-- Nothing is there, or no item.
abbrev IsBlank : Option (List Value) → Type 0
IsBlank None = Unit {0}
IsBlank (Some []) = Unit {0}
IsBlank (Some (x ∷ xs)) = ⊥

blank-behind : (o : Option (List Value)) → IsBlank o → IsBlank (option_map (λ ys. [] ++ ys) o)
blank-behind None b = tt
blank-behind (Some []) b = tt
blank-behind (Some (x ∷ xs)) b = b

blank-collect : (o : Option (List Value)) → IsBlank o → (vs : List Value) → IsBlank (collect vs (λ v. o))
blank-collect o b [] = tt
blank-collect None b (v ∷ vs) = tt
blank-collect (Some []) b (v ∷ vs) = blank-behind (collect vs (λ v. Some [])) (blank-collect (Some []) b vs)
blank-collect (Some (x ∷ xs)) b (v ∷ vs) = absurd b

empty-collect : (vs : List Value) → collect {A = Value} vs (λ v. Some []) ≡ Some []
empty-collect [] = refl
empty-collect (v ∷ vs) = ap (option_map (λ ys. [] ++ ys)) (empty-collect vs)

never : (xs : List Value) → Some xs ≡ None → ⊥
never xs e = cc

none-collect : (o : Option (List Value)) → IsBlank o → (v : Value) (vs : List Value) → collect (v ∷ vs) (λ u. o) ≡ None → o ≡ None
none-collect None b v vs e = refl
none-collect (Some []) b v vs e = absurd (never [] (sym (empty-collect (v ∷ vs)) ∙ e))
none-collect (Some (x ∷ xs)) b v vs e = absurd b

-- A key that isn't the name b.
other-is : (b : Text) (o : Option Ex) (j : Text) (t : Ex) → (o ≡ Some t → is_key j t ≡ true) → other_than b o ≡ Some t
    → (o ≡ Some t) × (is_key b t ≡ true)
other-is b None j t f e = cc
other-is b (Some (number_ex n)) j t f e = (e, subst (λ z. is_key b z ≡ true) (ap (λ o. elim o [ None ↦ number_ex n | Some z ↦ z ]) e) refl)
other-is b (Some (name_ex a)) j t f e = go (same_text b a) refl e
  where
    go : (c : Bool) → same_text b a ≡ c → (if c then None else Some (name_ex a)) ≡ Some t
        → (Some (name_ex a) ≡ Some t) × (is_key b t ≡ true)
    go true q e = cc
    go false q e = (e, subst (λ z. is_key b z ≡ true) (ap (λ o. elim o [ None ↦ name_ex a | Some z ↦ z ]) e) (ap not q))
other-is b (Some (truth_ex c)) j t f e = let r = f e in let q : is_key j (truth_ex c) ≡ true =
    subst (λ z. is_key j z ≡ true) (sym (ap (λ o. elim o [ None ↦ truth_ex c | Some z ↦ z ]) e)) r in cc
other-is b (Some (node_ex c op es)) j t f e = let r = f e in let q : is_key j (node_ex c op es) ≡ true =
    subst (λ z. is_key j z ≡ true) (sym (ap (λ o. elim o [ None ↦ node_ex c op es | Some z ↦ z ]) e)) r in cc
other-is b (Some (matrix_ex es d)) j t f e = let r = f e in let q : is_key j (matrix_ex es d) ≡ true =
    subst (λ z. is_key j z ≡ true) (sym (ap (λ o. elim o [ None ↦ matrix_ex es d | Some z ↦ z ]) e)) r in cc
other-is b (Some (comp_ex x gs)) j t f e = let r = f e in let q : is_key j (comp_ex x gs) ≡ true =
    subst (λ z. is_key j z ≡ true) (sym (ap (λ o. elim o [ None ↦ comp_ex x gs | Some z ↦ z ]) e)) r in cc
other-is b (Some (cell_ex c n es)) j t f e = let r = f e in let q : is_key j (cell_ex c n es) ≡ true =
    subst (λ z. is_key j z ≡ true) (sym (ap (λ o. elim o [ None ↦ cell_ex c n es | Some z ↦ z ]) e)) r in cc
other-is b (Some (seen_ex s d ns es)) j t f e = let r = f e in let q : is_key j (seen_ex s d ns es) ≡ true =
    subst (λ z. is_key j z ≡ true) (sym (ap (λ o. elim o [ None ↦ seen_ex s d ns es | Some z ↦ z ]) e)) r in cc

-- What a generator before others is asked.
chosen : (j b : Text) (d : Dom) (o : Option Ex) (t : Ex) → (c : Bool) → not (same_text b j) && is_fixed_dom d ≡ c
    → (if c then other_than b o else None) ≡ Some t → (other_than b o ≡ Some t) × (not (same_text b j) ≡ true) × (is_fixed_dom d ≡ true)
chosen j b d o t true q e = (e, and-left (not (same_text b j)) (is_fixed_dom d) q, and-right (not (same_text b j)) (is_fixed_dom d) q)
chosen j b d o t false q e = cc

-- The key of a name is one.
pub of-key : (j : Text) (gs : Gens) (t : Ex) → key_of j gs ≡ Some t → is_key j t ≡ true
of-key j (over (name_pat b) d gs) t e =
    let c = chosen j b d (key_of j gs) t (not (same_text b j) && is_fixed_dom d) refl e in
    of-key j gs t (other-is b (key_of j gs) j t (of-key j gs t) c.0).0
of-key j (over (tuple_pat ps) d gs) t e = cc
of-key j no_gens t e = cc
of-key j (from p s gs) t e = cc
of-key j (cond c gs) t e = under-key false [] [] j (cond c gs) t e

module _ (pl : Bool) (ts : List TypeEntry) (cs : Names Table) where
  abbrev M : Vals → Env
  M g = E pl ts cs g

  -- What generators over fixed domains leave where nothing comes behind them.
  abbrev blank : Gens → Option (List Value)
  blank (over p d gs) = and_then (members_in (domain_of d (M []))) (λ vs. collect vs (λ v. blank gs))
  blank gs = Some []

  blank-members : (o : Option (List Value)) (b : Option (List Value)) → IsBlank b → IsBlank (and_then o (λ vs. collect vs (λ v. b)))
  blank-members None b h = tt
  blank-members (Some vs) b h = blank-collect b h vs

  is-blank : (gs : Gens) → IsBlank (blank gs)
  is-blank (over p d gs) = blank-members (members_in (domain_of d (M []))) (blank gs) (is-blank gs)
  is-blank no_gens = tt
  is-blank (from p s gs) = tt
  is-blank (cond c gs) = tt

  -- So where the name isn't the key.
  of-blank : (j : Text) (gs : Gens) (t : Ex) (v w : Value) (g : Vals) (K : Env → Option (List Value)) → key_of j gs ≡ Some t
      → Differ pl ts cs j t v w g → items_under gs (M g) K ≡ blank gs
  of-blank j (over (name_pat b) d gs) t v w g K e f =
      let c = chosen j b d (key_of j gs) t (not (same_text b j) && is_fixed_dom d) refl e in
      let o = other-is b (key_of j gs) j t (of-key j gs t) c.0 in
      and_then-same (members_in (domain_of d (M g))) (members_in (domain_of d (M [])))
      (λ vs. collect vs (λ u. items_under gs (M ((b, u) ∷ g)) K)) (λ vs. collect vs (λ u. blank gs))
      (ap members_in (fixed-domain pl ts cs d g [] c.2))
      (λ vs. collect-same vs (λ u. items_under gs (M ((b, u) ∷ g)) K) (λ u. blank gs)
      (λ u. of-blank j gs t v w ((b, u) ∷ g) K o.0 (record {
        named = behind b j u (same_text b j) refl c.1 ∙ f.named;
        keyed = key-stays pl ts cs b t u g o.1 ∙ f.keyed;
        differ = f.differ;
      })))
    where
      behind : (b j : Text) (u : Value) (c : Bool) → same_text b j ≡ c → not c ≡ true → look ((b, u) ∷ g) j ≡ look g j
      behind b j u true q n = cc
      behind b j u false q n = ap (λ c. if c then Some u else look g j) q
  of-blank j (over (tuple_pat ps) d gs) t v w g K e f = cc
  of-blank j no_gens t v w g K e f = cc
  of-blank j (from p s gs) t v w g K e f = cc
  of-blank j (cond c gs) t v w g K e f = under-fails pl ts cs j (cond c gs) t v w g K e f

  -- Where that is nothing, nothing is there at any name.
  of-none : (j : Text) (gs : Gens) (t : Ex) (g : Vals) (K : Env → Option (List Value)) → key_of j gs ≡ Some t → blank gs ≡ None
      → items_under gs (M g) K ≡ None
  of-none j (over (name_pat b) d gs) t g K e n =
      let c = chosen j b d (key_of j gs) t (not (same_text b j) && is_fixed_dom d) refl e in
      let o = other-is b (key_of j gs) j t (of-key j gs t) c.0 in
      ap (λ x. and_then (members_in x) (λ vs. collect vs (λ u. items_under gs (M ((b, u) ∷ g)) K))) (fixed-domain pl ts cs d g [] c.2)
      ∙ go (members_in (domain_of d (M []))) n (λ q u. of-none j gs t ((b, u) ∷ g) K o.0 q)
    where
      go : (o : Option (List Value)) → and_then o (λ vs. collect vs (λ v. blank gs)) ≡ None
          → (blank gs ≡ None → (u : Value) → items_under gs (M ((b, u) ∷ g)) K ≡ None)
          → and_then o (λ vs. collect vs (λ u. items_under gs (M ((b, u) ∷ g)) K)) ≡ None
      go None n ih = refl
      go (Some []) n ih = absurd (never [] n)
      go (Some (v ∷ vs)) n ih =
          ap (λ x. and_then x (λ xs. option_map (λ ys. xs ++ ys) (collect vs (λ u. items_under gs (M ((b, u) ∷ g)) K))))
          (ih (none-collect (blank gs) (is-blank gs) v vs n) v)
  of-none j (over (tuple_pat ps) d gs) t g K e n = cc
  of-none j no_gens t g K e n = absurd (never [] n)
  of-none j (from p s gs) t g K e n = absurd (never [] n)
  of-none j (cond c gs) t g K e n = absurd (never [] n)

  -- What comes at all members is what comes at the key.
  pub at-key : (j : Text) (gs : Gens) (t : Ex) (w : Value) (g : Vals) (K : Env → Option (List Value)) (vs : List Value)
      → key_of j gs ≡ Some t
      → meaning t (M g) ≡ Some w → rises itself vs ≡ true → holds vs w ≡ true
      → collect vs (λ v. items_under gs (M ((j, v) ∷ g)) K) ≡ items_under gs (M ((j, w) ∷ g)) K
  at-key j gs t w g K vs e m r h = go (blank gs) refl (is-blank gs)
    where
      named : (v : Value) → look ((j, v) ∷ g) j ≡ Some v
      named v = ap (λ c. if c then Some v else look g j) (same_text-itself j)

      go : (b : Option (List Value)) → blank gs ≡ b → IsBlank b
          → collect vs (λ v. items_under gs (M ((j, v) ∷ g)) K) ≡ items_under gs (M ((j, w) ∷ g)) K
      go None q b =
          none-at-all (λ v. items_under gs (M ((j, v) ∷ g)) K) w vs (λ v. of-none j gs t ((j, v) ∷ g) K e q) h
          ∙ sym (of-none j gs t ((j, w) ∷ g) K e q)
      go (Some []) q b =
          once (λ v. items_under gs (M ((j, v) ∷ g)) K) w
          (λ v n. of-blank j gs t v w ((j, v) ∷ g) K e (record {
            named = named v;
            keyed = key-stays pl ts cs j t v g (of-key j gs t e) ∙ m;
            differ = n;
          }) ∙ q) vs r h
      go (Some (x ∷ xs)) q b = absurd b
