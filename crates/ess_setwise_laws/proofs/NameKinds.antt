-- Kinds of names in constraints that speak of sets, as names become reserved ones, cells and views.
use Rattle.std.proofs.Common.{◌≡◌, refl, sym, ap, ◌∙◌, subst, ℕ, zero, suc, ◌≤◌, ◌<◌, Bool, true, false, ◌||◌, if◌then◌else◌, List, [], ◌∷◌, Option, Some, None, arith}
use Rattle.std.specs.Prelude.{IsTrue}
use Rattle.ess_semantics.specs.Lists.{or_default}
use Rattle.ess_semantics.specs.Values.{Text}
use Rattle.ess_semantics.specs.Order.{same_text}
use Rattle.ess_semantics.specs.Names.{Names, look}
use Rattle.ess_semantics.specs.Trees.{Ex, name_ex}
use Rattle.ess_semantics.proofs.Texts.{same_text-equal, same_text-itself}
use Rattle.conjure_model_laws.specs.ToldApart.{reserved, renamed}
use Rattle.conjure_model_laws.specs.Shown.{Shows, in_place}
use Rattle.ess_chain_names_laws.proofs.ToldNames.{on}
use Rattle.ess_depth_laws.specs.Below.{is_below}
use Rattle.ess_seen_laws.specs.Seen.{Kind, sets_of, Bound, bound_kind}
use Rattle.ess_setwise_laws.specs.Setwise.{kind_at}
use Rattle.ess_setwise_laws.proofs.SetwiseTrees.{Stands, named, as_shown, no_kind, in_first, in_last, ShownFor, ShowsAll}

-- ---- reserved names

-- What isn't the k-th name is below it, where it is one below the next.
one-below : (k i : ℕ) → i < suc k → same_text (reserved k) (reserved i) ≡ false → i < k
one-below k i l e = below k i l (λ q. no (sym (same_text-itself (reserved k)) ∙ ap (λ n. same_text (reserved k) (reserved n)) (sym q) ∙ e))
  where
    no : true ≡ false → ⊥
    no r = cc

    below : (k i : ℕ) → i < suc k → (i ≡ k → ⊥) → i < k
    below k i l n = omega (arith, l, n)

-- A reserved name is below each later one.
pub below-has : (k i : ℕ) → i < k → IsTrue (is_below k (reserved i))
below-has zero i l = absurd (omega (arith, l))
below-has (suc k) i l = go (same_text (reserved k) (reserved i)) refl (λ b. below-has k i b)
  where
    go : (b : Bool) → same_text (reserved k) (reserved i) ≡ b → (i < k → IsTrue (is_below k (reserved i))) →
        IsTrue (b || is_below k (reserved i))
    go true e f = refl
    go false e f = f (one-below k i l e)

-- ---- bound names

-- The kind of a bound name.
abbrev pub bound_at : Names Bound → Text → Option Kind
bound_at t a = kind_at no_kind t a

-- A name that isn't bound differs from one that is.
pub apart : (t : Names Bound) (a b : Text) (k : Kind) → bound_at t a ≡ None → bound_at t b ≡ Some k → same_text a b ≡ false
apart t a b k n s = go (same_text a b) refl
  where
    no : None ≡ Some k → ⊥
    no q = cc

    go : (c : Bool) → same_text a b ≡ c → same_text a b ≡ false
    go false q = q
    go true q = absurd (no (sym n ∙ ap (bound_at t) (same_text-equal a b q) ∙ s))

-- A name with one more in front that differs.
pub still : (t : Names Bound) (a b : Text) (x : Bound) (o : Option Kind) → same_text a b ≡ false → bound_at t b ≡ o →
    bound_at ((a, x) ∷ t) b ≡ o
still t a b x o d s = ap (λ c. if c then Some (bound_kind x) else bound_at t b) d ∙ s

-- The name in front.
pub in-front : (t : Names Bound) (a : Text) (x : Bound) → bound_at ((a, x) ∷ t) a ≡ Some (bound_kind x)
in-front t a x = ap (λ c. if c then Some (bound_kind x) else bound_at t a) (same_text-itself a)

module _ (sh : Shows) (names : Text → Option Kind) (cells : Text → Option (Bool × List ℕ)) (w : ShowsAll sh names cells) (lim : ℕ)
    (differ : (i j : ℕ) → i < j → j < lim → same_text (reserved j) (reserved i) ≡ false) where
  -- What is shown of a name: a bound one, or a cell or a view.
  abbrev pub IsAt : Names Bound → Ex → Kind → Type 0
  IsAt = Stands no_kind (ShownFor sh names cells)

  -- With one more bound name.
  pub at-more : (t : Names Bound) (e : Ex) (k : Kind) (x : Bound) (a : Text) → bound_at t a ≡ None → IsAt t e k → IsAt ((a, x) ∷ t) e k
  at-more t e k x a n (named {a = b} h) = named (still t a b x (Some k) (apart t a b k n h) h)
  at-more t e k x a n (as_shown h) = as_shown h

  -- r are kinds of names, t those of what they have become in u, where k is the next number.
  pub record Kept (r t : Names Bound) (u : Names Text) (k : ℕ) : Type 0 where
    pub firsts : (a : Text) (i : Kind) → kind_at names r a ≡ Some i → IsAt t (in_place sh.first (renamed u a)) i
    pub lasts : (a : Text) (i : Kind) → kind_at names r a ≡ Some (sets_of i) → IsAt t (in_place sh.last (renamed u a)) (sets_of i)
    pub spared : (j : ℕ) → k ≤ j → j < lim → bound_at t (reserved j) ≡ None
    pub used : (b : Text) (i : Kind) → bound_at t b ≡ Some i → IsTrue (is_below lim b)

  -- The same before a later number.
  pub later : (r t : Names Bound) (u : Names Text) (k i : ℕ) → k ≤ i → Kept r t u k → Kept r t u i
  later r t u k i l x = record { firsts = x.firsts; lasts = x.lasts; spared = λ j y z. x.spared j (on k i j l y) z; used = x.used }

  turned : (i j : ℕ) → i < j → j < lim → same_text (reserved i) (reserved j) ≡ false
  turned i j l z = go (same_text (reserved i) (reserved j)) refl
    where
      no : true ≡ false → ⊥
      no q = cc

      go : (c : Bool) → same_text (reserved i) (reserved j) ≡ c → same_text (reserved i) (reserved j) ≡ false
      go false q = q
      go true q = absurd (no (sym (same_text-itself (reserved j))
          ∙ ap (same_text (reserved j)) (sym (same_text-equal (reserved i) (reserved j) q)) ∙ differ i j l z))

  -- One more name is bound, by what is shown first or last.
  bound-place : (vs : Names Ex) → ((j : ℕ) → in_place vs (reserved j) ≡ name_ex (reserved j)) → (a : Text) (x : Bound) (r t : Names Bound)
      (u : Names Text) (k : ℕ) → bound_at t (reserved k) ≡ None → (b : Text) (i : Kind) →
      (kind_at names r b ≡ Some i → IsAt t (in_place vs (renamed u b)) i) → kind_at names ((a, x) ∷ r) b ≡ Some i →
      IsAt ((reserved k, x) ∷ t) (in_place vs (renamed ((a, reserved k) ∷ u) b)) i
  bound-place vs shows a x r t u k n b i f h = go (same_text a b) h
    where
      itself : Some (bound_kind x) ≡ Some i → IsAt ((reserved k, x) ∷ t) (in_place vs (reserved k)) i
      itself q = subst (λ e. IsAt ((reserved k, x) ∷ t) e i) (sym (shows k)) (named (in-front t (reserved k) x ∙ q))

      go : (c : Bool) → (if c then Some (bound_kind x) else kind_at names r b) ≡ Some i →
          IsAt ((reserved k, x) ∷ t) (in_place vs (or_default (if c then Some (reserved k) else look u b) b)) i
      go true q = itself q
      go false q = at-more t (in_place vs (renamed u b)) i x (reserved k) n (f q)

  -- The names in use are reserved ones before the last.
  use-more : (x : Bound) (t : Names Bound) (k : ℕ) → k < lim → ((b : Text) (i : Kind) → bound_at t b ≡ Some i → IsTrue (is_below lim b)) →
      (b : Text) (i : Kind) → bound_at ((reserved k, x) ∷ t) b ≡ Some i → IsTrue (is_below lim b)
  use-more x t k l f b i h = go (same_text (reserved k) b) refl h
    where
      go : (c : Bool) → same_text (reserved k) b ≡ c → (if c then Some (bound_kind x) else bound_at t b) ≡ Some i → IsTrue (is_below lim b)
      go true q h = subst (λ a. IsTrue (is_below lim a)) (same_text-equal (reserved k) b q) (below-has lim k l)
      go false q h = f b i h

  -- One more name is bound.
  pub bound : (a : Text) (x : Bound) (r t : Names Bound) (u : Names Text) (k : ℕ) → k < lim → Kept r t u k →
      Kept ((a, x) ∷ r) ((reserved k, x) ∷ t) ((a, reserved k) ∷ u) (suc k)
  bound a x r t u k l y =
      let n = y.spared k (omega arith) l in record {
        firsts = λ b i h. bound-place sh.first w.spares_first a x r t u k n b i (y.firsts b i) h;
        lasts = λ b i h. bound-place sh.last w.spares_last a x r t u k n b (sets_of i) (y.lasts b i) h;
        spared = λ j p z. still t (reserved k) (reserved j) x None (turned k j (omega (arith, p)) z) (y.spared j (omega (arith, p)) z);
        used = use-more x t k l y.used;
      }

  -- Nothing is bound at the start.
  pub kept-none : (k : ℕ) → Kept [] [] [] k
  kept-none k = record {
    firsts = λ a i q. as_shown (record { form = w.first a i q; name = a; kind = q; place = in_first refl });
    lasts = λ a i q. as_shown (record { form = w.last a i q; name = a; kind = q; place = in_last refl });
    spared = λ j y z. refl;
    used = λ b i h. cc;
  }
