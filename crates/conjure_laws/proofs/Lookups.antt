-- Looking up among given and found tables.
use Rattle.std.proofs.Common.{◌≡◌, refl, sym, ap, ◌∙◌, Bool, true, false, ◌||◌, if◌then◌else◌, List, [], ◌∷◌, ◌++◌, ◌⊎◌, inl, inr, Option, Some, None, option_map}
use Rattle.ess_semantics.specs.Lists.{and_then}
use Rattle.ess_semantics.specs.Values.{Text}
use Rattle.ess_semantics.specs.Order.{same_text}
use Rattle.ess_semantics.specs.Names.{Names, look, keys, is_among}
use Rattle.ess_semantics.specs.Tables.{Table, Tables}
use Rattle.ess_semantics.specs.Meaning.{tables_in}
use Rattle.ess_semantics.proofs.Tests.{or-left-no, or-right-no}
use Rattle.ess_semantics.proofs.Texts.{same_text-equal}
use Rattle.conjure_laws.specs.Members.{In}

-- What the first map has.
pub look-left : {A : Type 0} (bs cs : Names A) (n : Text) (t : A) → look bs n ≡ Some t → look (bs ++ cs) n ≡ Some t
look-left [] cs n t e = cc
look-left {A = A} (b ∷ bs) cs n t e = go (same_text b.0 n) e (look-left bs cs n t)
  where
    go : (k : Bool) → (if k then Some b.1 else look bs n) ≡ Some t → (look bs n ≡ Some t → look (bs ++ cs) n ≡ Some t) →
        (if k then Some b.1 else look (bs ++ cs) n) ≡ Some t
    go true e f = e
    go false e f = f e

-- What the second map has, where the first one has nothing.
pub look-right : {A : Type 0} (bs cs : Names A) (n : Text) → is_among (keys bs) n ≡ false → look (bs ++ cs) n ≡ look cs n
look-right [] cs n e = refl
look-right (b ∷ bs) cs n e =
    ap (λ k. if k then Some b.1 else look (bs ++ cs) n) (or-left-no (same_text b.0 n) (is_among (keys bs) n) e)
    ∙ look-right bs cs n (or-right-no (same_text b.0 n) (is_among (keys bs) n) e)

-- A name that has something is one of the map.
pub look-key : {A : Type 0} (bs : Names A) (n : Text) (t : A) → look bs n ≡ Some t → In n (keys bs)
look-key [] n t e = cc
look-key {A = A} (b ∷ bs) n t e = go (same_text b.0 n) refl e (look-key bs n t)
  where
    go : (k : Bool) → same_text b.0 n ≡ k → (if k then Some b.1 else look bs n) ≡ Some t → (look bs n ≡ Some t → In n (keys bs)) →
        (n ≡ b.0) ⊎ In n (keys bs)
    go true q e f = inl (sym (same_text-equal b.0 n q))
    go false q e f = inr (f e)

-- So is its entry.
pub look-in : {A : Type 0} (bs : Names A) (n : Text) (t : A) → look bs n ≡ Some t → In (n, t) bs
look-in [] n t e = cc
look-in {A = A} (b ∷ bs) n t e = go (same_text b.0 n) refl e (look-in bs n t)
  where
    go : (k : Bool) → same_text b.0 n ≡ k → (if k then Some b.1 else look bs n) ≡ Some t → (look bs n ≡ Some t → In (n, t) bs) →
        ((n, t) ≡ b) ⊎ In (n, t) bs
    go true q e f = let x : b.1 ≡ t = cc in inl (ap (λ z. (z, t)) (sym (same_text-equal b.0 n q)) ∙ ap (λ z. (b.0, z)) (sym x))
    go false q e f = inr (f e)

-- A name that has nothing is none.
pub no-look : {A : Type 0} (bs : Names A) (n : Text) → look bs n ≡ None → is_among (keys bs) n ≡ false
no-look [] n e = refl
no-look {A = A} (b ∷ bs) n e = go (same_text b.0 n) refl e (no-look bs n)
  where
    go : (k : Bool) → same_text b.0 n ≡ k → (if k then Some b.1 else look bs n) ≡ None →
        (look bs n ≡ None → is_among (keys bs) n ≡ false) →
        same_text b.0 n || is_among (keys bs) n ≡ false
    go true q e f = cc
    go false q e f = ap (λ k. k || is_among (keys bs) n) q ∙ f e

-- Tables that are found by their names are found where each of them is.
pub tables-lift : (cs ds : Names Table) → ((n : Text) (t : Table) → look cs n ≡ Some t → look ds n ≡ Some t) →
    (ns : List Text) (ts : Tables) →
    tables_in cs ns ≡ Some ts → tables_in ds ns ≡ Some ts
tables-lift cs ds h [] ts e = e
tables-lift cs ds h (n ∷ ns) ts e = go (look cs n) (tables_in cs ns) refl refl e (tables-lift cs ds h ns)
  where
    go : (o : Option Table) (r : Option Tables) → look cs n ≡ o → tables_in cs ns ≡ r →
        and_then o (λ y. option_map (λ ys. y ∷ ys) r) ≡ Some ts →
        ((us : Tables) → tables_in cs ns ≡ Some us → tables_in ds ns ≡ Some us) → tables_in ds (n ∷ ns) ≡ Some ts
    go None r p q e k = cc
    go (Some y) None p q e k = cc
    go (Some y) (Some us) p q e k =
        ap (λ o. and_then o (λ y. option_map (λ ys. y ∷ ys) (tables_in ds ns))) (h n y p) ∙ ap (option_map (λ ys. y ∷ ys)) (k us q)
        ∙ e
