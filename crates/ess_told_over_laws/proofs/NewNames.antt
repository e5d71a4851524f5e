-- Names in scope, and those that they have become: behind a pattern with reserved names in the place of its own.
use Rattle.std.proofs.Common.{◌≡◌, refl, ap, ◌∙◌, ℕ, ◌<◌, ◌≤◌, Bool, true, false, ◌||◌, not, Some, if◌then◌else◌, arith}
use Rattle.std.specs.Prelude.{IsTrue}
use Rattle.ess_semantics.specs.Lists.{or_default}
use Rattle.ess_semantics.specs.Values.{Text}
use Rattle.ess_semantics.specs.Order.{same_text}
use Rattle.ess_semantics.specs.Names.{Names, look}
use Rattle.ess_semantics.specs.Trees.{Pat, Pats, name_pat, tuple_pat, no_pats, more_pats}
use Rattle.ess_semantics.specs.Scoped.{is_bound, is_bound_by_some, with_names, BindsNew, AllBindNew}
use Rattle.ess_semantics.proofs.Texts.{same_text-equal, same_text-itself, same_text-either}
use Rattle.conjure_model_laws.specs.ToldApart.{reserved, renamed, told_pat, told_pats}
use Rattle.ess_chain_names_laws.proofs.ToldNames.{on, pat-up, pats-up}
use Rattle.ess_told_over_laws.proofs.Renamed.{or-left, or-right, or-first, or-shifted, or-back}

-- ---- names in scope, and those that they have become

-- What the names of u have become is in w.
abbrev pub Used : (Text → Bool) → (Text → Bool) → Names Text → Type 0
Used u w r = (c : Text) → IsTrue (u c) → IsTrue (w (renamed r c))

mutual
  pub used-behind : (p : Pat) (u w : Text → Bool) (r : Names Text) (k : ℕ) → Used u w r →
      Used (with_names u p) (with_names w (told_pat p r k).0) (told_pat p r k).1
  used-behind (name_pat a) u w r k f c t = go (same_text a c) refl
    where
      go : (q : Bool) → same_text a c ≡ q →
          IsTrue (with_names w (name_pat (reserved k)) (or_default (if q then Some (reserved k) else look r c) c))
      go true e = or-right (w (reserved k)) (same_text (reserved k) (reserved k)) (same_text-itself (reserved k))
      go false e = or-left (w (renamed r c)) (same_text (reserved k) (renamed r c)) (f c (or-first (u c) (same_text a c) e t))
  used-behind (tuple_pat ps) u w r k f c t = all-behind ps u w r k f c t

  all-behind : (ps : Pats) (u w : Text → Bool) (r : Names Text) (k : ℕ) → Used u w r →
      Used (λ c. u c || is_bound_by_some ps c) (λ c. w c || is_bound_by_some (told_pats ps r k).0 c) (told_pats ps r k).1
  all-behind no_pats u w r k f c t = or-left (w (renamed r c)) false (f c (or-first (u c) false refl t))
  all-behind (more_pats p ps) u w r k f c t =
      let q = told_pat p r k in
      let v = told_pats ps q.1 q.2 in
      or-back (w (renamed v.1 c)) (is_bound q.0 (renamed v.1 c)) (is_bound_by_some v.0 (renamed v.1 c))
      (all-behind ps (with_names u p) (with_names w q.0) q.1 q.2 (used-behind p u w r k f) c
      (or-shifted (u c) (is_bound p c) (is_bound_by_some ps c) t))

-- ---- names that a pattern doesn't bind

first-false : (b c : Bool) → b || c ≡ false → b ≡ false
first-false true c h = cc
first-false false c h = refl

second-false : (b c : Bool) → b || c ≡ false → c ≡ false
second-false true c h = cc
second-false false c h = h

mutual
  -- A new pattern doesn't bind a name that is there.
  pub new-apart : (s : Text → Bool) (y : Text) → s y ≡ true → (p : Pat) → BindsNew s p → is_bound p y ≡ false
  new-apart s y h (name_pat b) n = go (same_text b y) refl
    where
      never : (c : Bool) → IsTrue (not c) → c ≡ true → ⊥
      never true n e = cc
      never false n e = cc

      go : (c : Bool) → same_text b y ≡ c → same_text b y ≡ false
      go true q = absurd (never (s b) n (ap s (same_text-equal b y q) ∙ h))
      go false q = q
  new-apart s y h (tuple_pat ps) n = all-apart s y h ps n

  all-apart : (s : Text → Bool) (y : Text) → s y ≡ true → (ps : Pats) → AllBindNew s ps → is_bound_by_some ps y ≡ false
  all-apart s y h no_pats n = refl
  all-apart s y h (more_pats p ps) n =
      ap (λ b. b || is_bound_by_some ps y) (new-apart s y h p n.0) ∙ all-apart s y h ps n.1

mutual
  -- Such a name has become what it had.
  pub unbound : (p : Pat) (r : Names Text) (k : ℕ) (c : Text) → is_bound p c ≡ false → renamed (told_pat p r k).1 c ≡ renamed r c
  unbound (name_pat a) r k c h = ap (λ b. or_default (if b then Some (reserved k) else look r c) c) h
  unbound (tuple_pat ps) r k c h = all-unbound ps r k c h

  all-unbound : (ps : Pats) (r : Names Text) (k : ℕ) (c : Text) → is_bound_by_some ps c ≡ false →
      renamed (told_pats ps r k).1 c ≡ renamed r c
  all-unbound no_pats r k c h = refl
  all-unbound (more_pats p ps) r k c h =
      let q = told_pat p r k in
      all-unbound ps q.1 q.2 c (second-false (is_bound p c) (is_bound_by_some ps c) h)
      ∙ unbound p r k c (first-false (is_bound p c) (is_bound_by_some ps c) h)

-- ---- the number behind

module _ (lim : ℕ) (differ : (i j : ℕ) → i < j → j < lim → same_text (reserved j) (reserved i) ≡ false) where
  -- No reserved name from the k-th on is in w.
  abbrev pub New : (Text → Bool) → ℕ → Type 0
  New w k = (j : ℕ) → k ≤ j → j < lim → w (reserved j) ≡ false

  both-false : (b c : Bool) → b ≡ false → c ≡ false → b || c ≡ false
  both-false true c h k = cc
  both-false false c h k = k

  shift-false : (u a b : Bool) → (u || a) || b ≡ false → u || (a || b) ≡ false
  shift-false true a b h = h
  shift-false false a b h = h

  mutual
    pub new-behind : (p : Pat) (w : Text → Bool) (r : Names Text) (k : ℕ) → (told_pat p r k).2 ≤ lim → New w k →
        New (with_names w (told_pat p r k).0) (told_pat p r k).2
    new-behind (name_pat a) w r k l f j m b =
        both-false (w (reserved j)) (same_text (reserved k) (reserved j)) (f j (omega (arith, m)) b)
        (same_text-either (reserved k) (reserved j) ∙ differ k j (omega (arith, m)) b)
    new-behind (tuple_pat ps) w r k l f j m b = all-new ps w r k l f j m b

    all-new : (ps : Pats) (w : Text → Bool) (r : Names Text) (k : ℕ) → (told_pats ps r k).2 ≤ lim → New w k →
        New (λ c. w c || is_bound_by_some (told_pats ps r k).0 c) (told_pats ps r k).2
    all-new no_pats w r k l f j m b = both-false (w (reserved j)) false (f j m b) refl
    all-new (more_pats p ps) w r k l f j m b =
        let q = told_pat p r k in
        let v = told_pats ps q.1 q.2 in
        shift-false (w (reserved j)) (is_bound q.0 (reserved j)) (is_bound_by_some v.0 (reserved j))
        (all-new ps (with_names w q.0) q.1 q.2 l (new-behind p w r k (on q.2 v.2 lim (pats-up ps q.1 q.2) l) f) j m b)

  mutual
    pub binds-new : (p : Pat) (w : Text → Bool) (r : Names Text) (k : ℕ) → (told_pat p r k).2 ≤ lim → New w k →
        BindsNew w (told_pat p r k).0
    binds-new (name_pat a) w r k l f = ap not (f k (omega arith) (omega (arith, l)))
    binds-new (tuple_pat ps) w r k l f = all-bind ps w r k l f

    all-bind : (ps : Pats) (w : Text → Bool) (r : Names Text) (k : ℕ) → (told_pats ps r k).2 ≤ lim → New w k →
        AllBindNew w (told_pats ps r k).0
    all-bind no_pats w r k l f = tt
    all-bind (more_pats p ps) w r k l f =
        let q = told_pat p r k in (
          binds-new p w r k (on q.2 (told_pats ps q.1 q.2).2 lim (pats-up ps q.1 q.2) l) f,
          all-bind ps w q.1 q.2 l (λ j m b. f j (on k q.2 j (pat-up p r k) m) b),
        )
