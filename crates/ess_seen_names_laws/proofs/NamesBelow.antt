-- A rule at a part keeps the names of the whole: it is in scope, and has no names but the reserved ones up to that which the rule takes.
use Rattle.std.proofs.Common.{◌≡◌, refl, sym, ap, ◌∙◌, ℕ, zero, suc, ◌≤◌, ◌<◌, ◌^◌, arith, Bool, true, false, ◌||◌, not}
use Rattle.std.specs.Prelude.{IsTrue}
use Rattle.ess_semantics.specs.Values.{Text}
use Rattle.ess_semantics.specs.Order.{same_text}
use Rattle.ess_semantics.specs.Trees.{Ex}
use Rattle.ess_semantics.specs.Substitution.{NamesAre}
use Rattle.ess_semantics.specs.Contexts.{In, fill}
use Rattle.ess_rules_laws.specs.Rules.{Unused}
use Rattle.ess_rules_laws.proofs.Agreement.{same_text-itself}
use Rattle.ess_rules_laws.proofs.UsedNames.{names-map}
use Rattle.ess_refine_laws.specs.ScopesStay.{Scope, is_outside_views}
use Rattle.ess_refine_laws.proofs.ScopesStay.{scopes-stay}
use Rattle.conjure_model_laws.specs.ToldApart.{reserved}
use Rattle.ess_depth_laws.specs.Below.{is_below, HasNamesBelow}
use Rattle.ess_depth_laws.proofs.Below.{below-spared}
use Rattle.ess_chain_names_laws.proofs.SparedNames.{differs}
use Rattle.ess_seen_laws.proofs.ess_bare_laws.FiredNumbers.{part-spells}
use Rattle.ess_seen_names_laws.specs.Laws.{none, KeepsNames, IsNamed, NamesAtParts}
use Rattle.ess_seen_names_laws.proofs.PutScoped.{right-true, one-of}
use Rattle.ess_seen_names_laws.proofs.AtParts.{part-are, of-part, within-at, new-there}

-- ---- reserved names below a number

-- Names that differ have different numbers.
differ : (a : Text) (n m : ℕ) → same_text (reserved n) a ≡ true → same_text (reserved m) a ≡ false → n ≡ m → ⊥
differ a n m e f q = no (sym e ∙ ap (λ k. same_text (reserved k) a) q ∙ f)
  where
    no : true ≡ false → ⊥
    no r = cc

no-less : (n : ℕ) → n ≤ 0 → (n ≡ 0 → ⊥) → ⊥
no-less n l d = omega (arith, l, d)

one-less : (n m : ℕ) → n ≤ suc m → (n ≡ suc m → ⊥) → n ≤ m
one-less n m l d = omega (arith, l, d)

nothing-less : (n : ℕ) → suc n ≤ 0 → ⊥
nothing-less n l = omega (arith, l)

both-less : (n m : ℕ) → suc n ≤ suc m → n ≤ m
both-less n m l = omega (arith, l)

-- The n-th is below each number behind n.
is-below-it : (a : Text) (m n : ℕ) → n ≤ m → same_text (reserved n) a ≡ true → IsTrue (is_below (suc m) a)
is-below-it a zero n l e = go (same_text (reserved zero) a) refl
  where
    go : (b : Bool) → same_text (reserved zero) a ≡ b → IsTrue (b || false)
    go true q = refl
    go false q = absurd (no-less n l (differ a n zero e q))
is-below-it a (suc m) n l e = go (same_text (reserved (suc m)) a) refl (is-below-it a m n)
  where
    go : (b : Bool) → same_text (reserved (suc m)) a ≡ b → (n ≤ m → same_text (reserved n) a ≡ true → IsTrue (is_below (suc m) a)) →
        IsTrue (b || is_below (suc m) a)
    go true q f = refl
    go false q f = f (one-less n m l (differ a n (suc m) e q)) e

-- What is below a number is below a later one.
below-later : (n m : ℕ) → n ≤ m → (a : Text) → IsTrue (is_below n a) → IsTrue (is_below m a)
below-later zero m l a h = let q : false ≡ true = h in cc
below-later (suc n) zero l a h = absurd (nothing-less n l)
below-later (suc n) (suc m) l a h = one-of (same_text (reserved n) a) (is_below n a) h
    (is-below-it a m n (both-less n m l))
    (λ k. right-true (same_text (reserved m) a) (is_below m a) (below-later n m (both-less n m l) a k))

-- The n-th is below a later number.
itself-below : (n m : ℕ) → n < m → IsTrue (is_below m (reserved n))
itself-below n zero l = absurd (nothing-less n (omega (arith, l)))
itself-below n (suc m) l = is-below-it (reserved n) m n (omega (arith, l)) (same_text-itself (reserved n))

-- ---- trees that have no others

-- They have none but those below a later number,
pub names-later : (n m : ℕ) (e : Ex) → n ≤ m → HasNamesBelow n e → HasNamesBelow m e
names-later n m e l h = names-map (is_below n) (is_below m) (is_below n) (is_below m) (below-later n m l) (below-later n m l) e h

-- don't use the j-th, which isn't below the number,
pub names-unused : (n j : ℕ) (e : Ex) → HasNamesBelow n e → n ≤ j → j < 2 ^ 64 → Unused (reserved j) e
names-unused n j e h l b = names-map (is_below n) (λ a. not (same_text (reserved j) a)) (is_below n) (λ a. true)
    (differs (is_below n) (reserved j) (below-spared n j l b)) (λ a t. refl) e h

-- and don't bind it.
pub names-unbound : (n j : ℕ) (e : Ex) → HasNamesBelow n e → n ≤ j → j < 2 ^ 64 →
    NamesAre (λ a. true) (λ a. not (same_text (reserved j) a)) e
names-unbound n j e h l b = names-map (is_below n) (λ a. true) (is_below n) (λ a. not (same_text (reserved j) a)) (λ a t. refl)
    (differs (is_below n) (reserved j) (below-spared n j l b)) e h

-- ---- one rule

-- A rule that takes the n-th leaves none but those below a later number.
names-behind : (n m : ℕ) (c : In) (a b : Ex) → KeepsNames (reserved n) a b → n < m → HasNamesBelow n (fill c a) → HasNamesBelow m (fill c b)
names-behind n m c a b k l h = part-are (is_below m) (is_below m) a b (k.names (is_below m) (itself-below n m l)) c
    (names-later n m (fill c a) (omega (arith, l)) h)

-- No name is around the whole.
abbrev nowhere : Scope
nowhere = record { all = none; over_domains = none }

-- And the whole stays in scope.
rule-named : (n m : ℕ) (c : In) (a b : Ex) → is_outside_views c ≡ true → KeepsNames (reserved n) a b → n < m → m ≤ 2 ^ 64 →
    IsNamed n (fill c a) → IsNamed m (fill c b)
rule-named n m c a b o k l h t =
    let new = new-there (reserved n) c nowhere a (refl, names-unbound n n (fill c a) t.names (omega arith) (omega (arith, l, h))) in
    record {
      scoped = scopes-stay.at_a_part none c nowhere a b o (λ w. k.scoped _ new (within-at c nowhere (λ x q. q)) w) t.scoped;
      names = names-behind n m c a b k l t.names;
    }

-- What is proved at parts.
pub names-at-parts : NamesAtParts
names-at-parts = record {
  one_rule = rule-named;
  spells = λ c x a b k q q0 q1 q2 h. part-spells q c a b (k.spells q q0 q1 q2) h;
  later = names-later;
  of_a_part = λ n c a h. of-part (is_below n) (is_below n) a c h;
  unused = names-unused;
  unbound = names-unbound;
  new = λ c s x a o n. new-there x c s a n;
  within = within-at;
}
