-- The types of a specification and the values of its enumerated types: the env has the entry of each type and the value of each name.
use Rattle.std.proofs.Common.{◌≡◌, refl, sym, ap, ◌∙◌, subst, ℕ, suc, Bool, true, false, if◌then◌else◌, List, [], ◌∷◌, ◌++◌, length, pos, ◌⊎◌, inl, inr, Option, Some, None, is_some}
use Rattle.ess_semantics.specs.Values.{Text, item}
use Rattle.ess_semantics.specs.Order.{same_text}
use Rattle.ess_semantics.specs.Names.{Names, look}
use Rattle.ess_semantics.specs.Trees.{number_ex, Dom, bool_dom, int_dom, name_dom, set_dom, no_exs, more_exs, both_ends, Stm, given_enum, let_enum, let_unnamed}
use Rattle.ess_semantics.specs.Domains.{Domain, booleans, integers, named, sets}
use Rattle.ess_semantics.specs.Meaning.{Env, domain_of}
use Rattle.ess_semantics.specs.Positions.{domain_with_positions}
use Rattle.ess_semantics.specs.Prepared.{prepared}
use Rattle.ess_semantics.specs.Assignments.{Assignment, nothing_given, env_of}
use Rattle.ess_semantics.specs.Parameters.{Param}
use Rattle.ess_semantics.specs.Judgements.{fault}
use Rattle.ess_semantics.proofs.Texts.{same_text-equal}
use Rattle.ess_repr_laws.specs.TypedDomains.{Typed}
use Rattle.conjure_laws.specs.Members.{In}
use Rattle.conjure_laws.specs.Premises.{here}
use Rattle.conjure_laws.specs.SetsOfAtoms.{TypeKind, fixed, sized, range_dom, enum_values}
use Rattle.conjure_laws.proofs.Lists.{at-item}
use Rattle.conjure_laws.proofs.SetNames.{look-cons}
use Rattle.conjure_laws.proofs.SetScopes.{Entry, count_of}
use Rattle.conjure_laws.proofs.SetsSettled.{closed-at}
use Rattle.conjure_laws.proofs.Statements.{env-form}
use Rattle.ess_semantics.specs.Atoms.{IsAtom}
use Rattle.ess_repr_laws.specs.Finite.{FiniteAtom}
use Rattle.conjure_settled_laws.specs.EndValues.{AreItems, IsInEnv}
use Rattle.conjure_settled_laws.proofs.EndValues.{typed-has-end-values}
use Rattle.ess_mixed_models_laws.specs.MixedSpecifications.{kinds_by, places_by, known_after, kinds, places, is_member_dom}

pub no-yes : false ≡ true → ⊥
no-yes q = cc

pub no-some : {A : Type 0} {x : A} → None ≡ Some x → ⊥
no-some q = cc

-- ---- what statements declare

-- What both lists have for a name is of one of them.
pub look-either : {A : Type 0} (bs cs : Names A) (n : Text) (x : A) → look (bs ++ cs) n ≡ Some x →
    (look bs n ≡ Some x) ⊎ (look cs n ≡ Some x)
look-either [] cs n x e = inr e
look-either {A = A} (b ∷ bs) cs n x e = go (same_text b.0 n) e (look-either bs cs n x)
  where
    go : (t : Bool) → (if t then Some b.1 else look (bs ++ cs) n) ≡ Some x →
        (look (bs ++ cs) n ≡ Some x → (look bs n ≡ Some x) ⊎ (look cs n ≡ Some x)) →
        ((if t then Some b.1 else look bs n) ≡ Some x) ⊎ (look cs n ≡ Some x)
    go true e f = inl e
    go false e f = f e

-- What is known behind all statements is known before, or declared by one of them.
pub declared-one : {A : Type 0} (f : Stm → Names A) (T : List Stm) (g : Names A) (n : Text) (x : A) → look (known_after f T g) n ≡ Some x →
    (look g n ≡ Some x) ⊎ ((s : Stm) × In s T × (look (f s) n ≡ Some x))
declared-one f [] g n x e = inl e
declared-one {A = A} f (s ∷ T) g n x e = go (declared-one f T (f s ++ g) n x e)
  where
    here' : (look (f s) n ≡ Some x) ⊎ (look g n ≡ Some x) → (look g n ≡ Some x) ⊎ ((u : Stm) × In u (s ∷ T) × (look (f u) n ≡ Some x))
    here' (inl q) = inr (s, inl refl, q)
    here' (inr q) = inl q

    go : (look (f s ++ g) n ≡ Some x) ⊎ ((u : Stm) × In u T × (look (f u) n ≡ Some x)) →
        (look g n ≡ Some x) ⊎ ((u : Stm) × In u (s ∷ T) × (look (f u) n ≡ Some x))
    go (inl q) = here' (look-either (f s) g n x q)
    go (inr r) = inr (r.0, inr r.1, r.2)

-- ---- types

-- What a map with one name has.
pub one-kind : {A : Type 0} (t u : Text) (x y : A) → look ((t, x) ∷ []) u ≡ Some y → (t ≡ u) × (x ≡ y)
one-kind {A = A} t u x y e = go (look-cons t u x y [] e)
  where
    go : ((t ≡ u) × (x ≡ y)) ⊎ (look [] u ≡ Some y) → (t ≡ u) × (x ≡ y)
    go (inl q) = q
    go (inr q) = absurd (no-some q)

-- The entry of a type that a statement declares.
entry-by : (S : List Stm) (p : Assignment) (s : Stm) (t : Text) (k : TypeKind) → look (kinds_by s) t ≡ Some k →
    IsInEnv S p nothing_given (here S p) s → Entry p t k (here S p)
entry-by S p (given_enum u) t k e w =
    let q = one-kind u t sized k e in subst (λ z. Entry p t z (here S p)) q.1 (subst (λ z. Entry p z sized (here S p)) q.0 (_, w))
entry-by S p (let_enum u ns) t k e w =
    let q = one-kind u t (fixed (length ns)) k e in
    subst (λ z. Entry p t z (here S p)) q.1 (subst (λ z. Entry p z (fixed (length ns)) (here S p)) q.0 (ns, w.0))
entry-by S p (let_unnamed u (number_ex (pos n))) t k e w =
    let q = one-kind u t (fixed n) k e in
    subst (λ z. Entry p t z (here S p)) q.1 (subst (λ z. Entry p z (fixed n) (here S p)) q.0 ([], w))
entry-by S p (let_unnamed u e') t k e w = absurd (no-some e)
entry-by S p s t k e w = absurd (no-some e)

module _ (S : List Stm) (t : fault S ≡ None) where
  -- Each type has its entry.
  pub entry-of : (p : Assignment) → Param S p → (u : Text) (k : TypeKind) → look (kinds S) u ≡ Some k → Entry p u k (here S p)
  entry-of p P u k e = go (declared-one kinds_by (prepared S) [] u k e)
    where
      go : (look [] u ≡ Some k) ⊎ ((s : Stm) × In s (prepared S) × (look (kinds_by s) u ≡ Some k)) → Entry p u k (here S p)
      go (inl q) = absurd (no-some q)
      go (inr r) = entry-by S p r.0 u k r.2
          (at-item (IsInEnv S p nothing_given (here S p)) (prepared S) r.0 (typed-has-end-values S p nothing_given t P).declared r.1)

  -- ---- values of enumerated types

  items-at : (env : Env) (u : Text) (k : ℕ) (ns : List Text) (n : Text) (v : Text × ℕ) → AreItems env u k ns →
      look (enum_values u k ns) n ≡ Some v → look env.vals n ≡ Some (item v.0 v.1)
  items-at env u k [] n v w e = absurd (no-some e)
  items-at env u k (m ∷ ns) n v w e = go (same_text m n) refl e (items-at env u (suc k) ns n v w.1)
    where
      same : (x y : Text × ℕ) → Some x ≡ Some y → x ≡ y
      same x y q = cc

      go : (b : Bool) → same_text m n ≡ b → (if b then Some (u, k) else look (enum_values u (suc k) ns) n) ≡ Some v →
          (look (enum_values u (suc k) ns) n ≡ Some v → look env.vals n ≡ Some (item v.0 v.1)) → look env.vals n ≡ Some (item v.0 v.1)
      go true q e f = ap (look env.vals) (sym (same_text-equal m n q)) ∙ w.0 ∙ ap (λ z. Some (item z.0 z.1)) (same (u, k) v e)
      go false q e f = f e

  place-by : (p a : Assignment) (s : Stm) (n : Text) (v : Text × ℕ) → look (places_by s) n ≡ Some v → IsInEnv S p a (env_of S p a) s →
      look (env_of S p a).vals n ≡ Some (item v.0 v.1)
  place-by p a (let_enum u ns) n v e w = items-at (env_of S p a) u 1 ns n v w.1 e
  place-by p a s n v e w = absurd (no-some e)

  -- Each name of a value has its value.
  pub place-of : (p a : Assignment) → Param S p → (n : Text) (v : Text × ℕ) → look (places S) n ≡ Some v →
      look (env_of S p a).vals n ≡ Some (item v.0 v.1)
  place-of p a P n v e = go (declared-one places_by (prepared S) [] n v e)
    where
      go : (look [] n ≡ Some v) ⊎ ((s : Stm) × In s (prepared S) × (look (places_by s) n ≡ Some v)) →
          look (env_of S p a).vals n ≡ Some (item v.0 v.1)
      go (inl q) = absurd (no-some q)
      go (inr r) = place-by p a r.0 n v r.2
          (at-item (IsInEnv S p a (env_of S p a)) (prepared S) r.0 (typed-has-end-values S p a t P).declared r.1)

-- ---- domains of members

-- A domain of members of sets.
pub data MemberDom (ks : Names TypeKind) : Dom → Type 0 where
  of_numbers : {a b : _} → MemberDom ks (range_dom a b)
  of_truths : MemberDom ks bool_dom
  of_type : {t : Text} {k : TypeKind} → look ks t ≡ Some k → MemberDom ks (name_dom t)

-- The test tells them.
pub member-dom : (ks : Names TypeKind) (A : Dom) → is_member_dom ks A ≡ true → MemberDom ks A
member-dom ks bool_dom h = of_truths
member-dom ks (int_dom (both_ends ∷ []) (more_exs (number_ex a) (more_exs (number_ex b) no_exs))) h = of_numbers
member-dom ks (name_dom t) h = go (look ks t) refl h
  where
    go : (o : Option TypeKind) → look ks t ≡ o → is_some o ≡ true → MemberDom ks (name_dom t)
    go None e h = absurd (no-yes h)
    go (Some k) e h = of_type e
member-dom ks A h = absurd (no-yes h)

-- The domain, closed under a parameter.
abbrev pub closed_members : {ks : Names TypeKind} {A : Dom} → Assignment → MemberDom ks A → Domain
closed_members p (of_numbers {a = a} {b = b}) = integers (record { low = Some a; high = Some b } ∷ [])
closed_members p of_truths = booleans
closed_members p (of_type {t = t} {k = k} e) = named t (count_of p t k)

-- The same with positions.
abbrev pub placed_members : {ks : Names TypeKind} {A : Dom} → Assignment → MemberDom ks A → Domain
placed_members p m = domain_with_positions (closed_members p m)

-- It is an atom.
pub atom-of : {ks : Names TypeKind} {A : Dom} (p : Assignment) (m : MemberDom ks A) → IsAtom (closed_members p m)
atom-of p of_numbers = tt
atom-of p of_truths = tt
atom-of p (of_type e) = tt

-- Also with positions, where the members can be listed.
pub atom-with : {ks : Names TypeKind} {A : Dom} (p : Assignment) (m : MemberDom ks A) → FiniteAtom (placed_members p m)
atom-with p of_numbers = (tt, refl)
atom-with p of_truths = (tt, refl)
atom-with p (of_type e) = (tt, refl)

-- It is typed.
pub atom-typed : {ks : Names TypeKind} {A : Dom} (p : Assignment) (m : MemberDom ks A) → Typed (closed_members p m)
atom-typed p of_numbers = tt
atom-typed p of_truths = tt
atom-typed p (of_type e) = tt

-- No position stands in the env of a parameter.
pub here-positions : (S : List Stm) (p : Assignment) → (here S p).positions ≡ false
here-positions S p = (env-form (prepared S) p nothing_given _).0

-- The domain of sets is closed to that of such members.
pub sets-closed : (S : List Stm) → fault S ≡ None → (p : Assignment) → Param S p → {A : Dom} (m : MemberDom (kinds S) A) →
    domain_of (set_dom [] no_exs A) (here S p) ≡ Some (sets [] (closed_members p m))
sets-closed S f p P of_numbers = refl
sets-closed S f p P of_truths = refl
sets-closed S f p P (of_type {t = t} {k = k} e) = closed-at p t k (here S p) (here-positions S p) (entry-of S f p P t k e)
