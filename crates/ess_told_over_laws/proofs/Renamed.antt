-- Names that have become others, in a tree that is in scope: each keeps its value, and those that domains of declarations use stay.
use Rattle.std.proofs.Common.{◌≡◌, refl, ap, ◌∙◌, ℕ, suc, ◌<◌, ◌≤◌, Bool, true, false, ◌||◌, not, List, [], ◌∷◌, Some, if◌then◌else◌, arith}
use Rattle.std.specs.Prelude.{IsTrue}
use Rattle.ess_semantics.specs.Lists.{or_default}
use Rattle.ess_semantics.specs.Values.{Text, Value, items_of}
use Rattle.ess_semantics.specs.Order.{same_text}
use Rattle.ess_semantics.specs.Names.{Names, look}
use Rattle.ess_semantics.specs.Operators.{misfit}
use Rattle.ess_semantics.specs.Trees.{Pat, Pats, name_pat, tuple_pat, no_pats, more_pats}
use Rattle.ess_semantics.specs.Scoped.{is_bound, is_bound_by_some, with_names, BindsNew, AllBindNew}
use Rattle.ess_semantics.specs.Meaning.{bind, bind_all}
use Rattle.ess_semantics.proofs.Texts.{same_text-equal}
use Rattle.ess_rules_laws.proofs.Simulation.{Vals}
use Rattle.ess_rules_laws.proofs.Agreement.{look-itself}
use Rattle.conjure_model_laws.specs.ToldApart.{reserved, renamed, told_pat, told_pats}
use Rattle.ess_chain_names_laws.proofs.ToldNames.{on, pats-up}

pub or-left : (b c : Bool) → IsTrue b → IsTrue (b || c)
or-left true c h = refl
or-left false c h = cc

pub or-right : (b c : Bool) → IsTrue c → IsTrue (b || c)
or-right true c h = refl
or-right false c h = h

pub or-first : (u b : Bool) → b ≡ false → IsTrue (u || b) → IsTrue u
or-first true b e t = refl
or-first false true e t = cc
or-first false false e t = cc

pub or-shifted : (u a b : Bool) → IsTrue (u || (a || b)) → IsTrue ((u || a) || b)
or-shifted true a b t = refl
or-shifted false a b t = t

pub or-back : (u a b : Bool) → IsTrue ((u || a) || b) → IsTrue (u || (a || b))
or-back true a b t = refl
or-back false a b t = t

pub or-both : (a b c : Bool) → (IsTrue a → IsTrue b) → IsTrue (a || c) → IsTrue (b || c)
or-both true b c f t = or-left b c (f refl)
or-both false b c f t = or-right b c t

-- z are the names that domains of declarations may use; reserved names below the limit differ.
module _ (z : Text → Bool) (lim : ℕ) (differ : (i j : ℕ) → i < j → j < lim → same_text (reserved j) (reserved i) ≡ false) where
  -- s are the names in scope, o those bound over domains, r what names have become, k the next number, g and h the values before and then.
  pub record Here (s o : Text → Bool) (r : Names Text) (k : ℕ) (g h : Vals) : Type 0 where
    pub values : (c : Text) → IsTrue (s c) →
        (look h (renamed r c) ≡ look g c) × ((j : ℕ) → k ≤ j → j < lim → same_text (reserved j) (renamed r c) ≡ false)
    pub untouched : (c : Text) → IsTrue (z c) → renamed r c ≡ c
    pub within : (c : Text) → IsTrue (o c) → IsTrue (s c)
    pub around : (c : Text) → IsTrue (z c) → IsTrue (s c)

  pub later : (s o : Text → Bool) (r : Names Text) (k m : ℕ) (g h : Vals) → k ≤ m → Here s o r k g h → Here s o r m g h
  later s o r k m g h l a = record {
    values = λ c t. let p = a.values c t in (p.0, λ j x y. p.1 j (on k m j l x) y);
    untouched = a.untouched;
    within = a.within;
    around = a.around;
  }

  -- Other words for the scope.
  reworded : (s t o : Text → Bool) (r : Names Text) (k : ℕ) (g h : Vals) → ((c : Text) → IsTrue (t c) → IsTrue (s c)) →
      ((c : Text) → IsTrue (s c) → IsTrue (t c)) → Here s o r k g h → Here t o r k g h
  reworded s t o r k g h f f' a = record {
    values = λ c x. a.values c (f c x);
    untouched = a.untouched;
    within = λ c x. f' c (a.within c x);
    around = λ c x. f' c (a.around c x);
  }

  -- A name that isn't of z is none of its names.
  no-name : (a c : Text) → IsTrue (not (z a)) → IsTrue (z c) → same_text a c ≡ false
  no-name a c n t = go (same_text a c) refl
    where
      both : (b : Bool) → IsTrue (not b) → b ≡ true → ⊥
      both true n e = cc
      both false n e = cc

      go : (b : Bool) → same_text a c ≡ b → same_text a c ≡ false
      go false e = e
      go true e = absurd (both (z a) n (ap z (same_text-equal a c e) ∙ t))

  bound : (a : Text) (v : Value) (s o : Text → Bool) (r : Names Text) (k : ℕ) (g h : Vals) → k < lim → IsTrue (not (z a)) →
      Here s o r k g h → Here (with_names s (name_pat a)) o ((a, reserved k) ∷ r) (suc k) ((a, v) ∷ g) ((reserved k, v) ∷ h)
  bound a v s o r k g h l n x = record {
    values = λ c t. value c t (same_text a c) refl;
    untouched = λ c t. ap (λ b. or_default (if b then Some (reserved k) else look r c) c) (no-name a c n t) ∙ x.untouched c t;
    within = λ c t. or-left (s c) (same_text a c) (x.within c t);
    around = λ c t. or-left (s c) (same_text a c) (x.around c t);
  }
    where
      value : (c : Text) → IsTrue (with_names s (name_pat a) c) → (q : Bool) → same_text a c ≡ q →
          (look ((reserved k, v) ∷ h) (or_default (if q then Some (reserved k) else look r c) c) ≡ (if q then Some v else look g c)) ×
          ((j : ℕ) → suc k ≤ j → j < lim → same_text (reserved j) (or_default (if q then Some (reserved k) else look r c) c) ≡ false)
      value c t true e = (look-itself (reserved k) v h, λ j y m. differ k j y m)
      value c t false e =
          let p = x.values c (or-first (s c) (same_text a c) e t) in
          (ap (λ y. if y then Some v else look h (renamed r c)) (p.1 k (omega arith) l) ∙ p.0, λ j y m. p.1 j (omega (arith, y)) m)

  mutual
    -- Behind a pattern.
    pub pat-here : (p : Pat) (v : Value) (s o : Text → Bool) (r : Names Text) (k : ℕ) (g h : Vals) → (told_pat p r k).2 ≤ lim →
        BindsNew z p → Here s o r k g h →
        Here (with_names s p) o (told_pat p r k).1 (told_pat p r k).2 (bind p v g) (bind (told_pat p r k).0 v h)
    pat-here (name_pat a) v s o r k g h l n x = bound a v s o r k g h (omega (arith, l)) n x
    pat-here (tuple_pat ps) v s o r k g h l n x = pats-here ps (items_of v) s o r k g h l n x

    pats-here : (ps : Pats) (vs : List Value) (s o : Text → Bool) (r : Names Text) (k : ℕ) (g h : Vals) → (told_pats ps r k).2 ≤ lim →
        AllBindNew z ps → Here s o r k g h →
        Here (λ a. s a || is_bound_by_some ps a) o (told_pats ps r k).1 (told_pats ps r k).2 (bind_all ps vs g)
        (bind_all (told_pats ps r k).0 vs h)
    pats-here no_pats vs s o r k g h l n x = reworded s _ o r k g h (λ c t. or-first (s c) false refl t) (λ c t. or-left (s c) false t) x
    pats-here (more_pats p ps) [] s o r k g h l n x =
        let q = told_pat p r k in
        reworded (λ a. with_names s p a || is_bound_by_some ps a) _ o _ _ _ _
        (λ c t. or-shifted (s c) (is_bound p c) (is_bound_by_some ps c) t)
        (λ c t. or-back (s c) (is_bound p c) (is_bound_by_some ps c) t)
        (pats-here ps [] (with_names s p) o q.1 q.2 (bind p misfit g) (bind q.0 misfit h) l n.1
        (pat-here p misfit s o r k g h (on q.2 (told_pats ps q.1 q.2).2 lim (pats-up ps q.1 q.2) l) n.0 x))
    pats-here (more_pats p ps) (v ∷ vs) s o r k g h l n x =
        let q = told_pat p r k in
        reworded (λ a. with_names s p a || is_bound_by_some ps a) _ o _ _ _ _
        (λ c t. or-shifted (s c) (is_bound p c) (is_bound_by_some ps c) t)
        (λ c t. or-back (s c) (is_bound p c) (is_bound_by_some ps c) t)
        (pats-here ps vs (with_names s p) o q.1 q.2 (bind p v g) (bind q.0 v h) l n.1
        (pat-here p v s o r k g h (on q.2 (told_pats ps q.1 q.2).2 lim (pats-up ps q.1 q.2) l) n.0 x))

  -- Names new to the scope are new to z.
  mutual
    pub newer : (s : Text → Bool) → ((c : Text) → IsTrue (z c) → IsTrue (s c)) → (p : Pat) → BindsNew s p → BindsNew z p
    newer s f (name_pat a) n = go (z a) (s a) (f a) n
      where
        go : (b c : Bool) → (IsTrue b → IsTrue c) → IsTrue (not c) → IsTrue (not b)
        go false c f n = refl
        go true true f n = cc
        go true false f n = f refl
    newer s f (tuple_pat ps) n = all-newer s f ps n

    all-newer : (s : Text → Bool) → ((c : Text) → IsTrue (z c) → IsTrue (s c)) → (ps : Pats) → AllBindNew s ps → AllBindNew z ps
    all-newer s f no_pats n = tt
    all-newer s f (more_pats p ps) n = (newer s f p n.0, all-newer s f ps n.1)

  -- Behind a generator over a domain, and behind one from a source.
  pub over-here : (p : Pat) (v : Value) (s o : Text → Bool) (r : Names Text) (k : ℕ) (g h : Vals) → (told_pat p r k).2 ≤ lim →
      BindsNew s p → Here s o r k g h →
      Here (with_names s p) (with_names o p) (told_pat p r k).1 (told_pat p r k).2 (bind p v g) (bind (told_pat p r k).0 v h)
  over-here p v s o r k g h l n x =
      let y = pat-here p v s o r k g h l (newer s x.around p n) x in
      record {
        values = y.values;
        untouched = y.untouched;
        within = λ c t. or-both (o c) (s c) (is_bound p c) (x.within c) t;
        around = y.around;
      }

  pub from-here : (p : Pat) (v : Value) (s o : Text → Bool) (r : Names Text) (k : ℕ) (g h : Vals) → (told_pat p r k).2 ≤ lim →
      BindsNew s p → Here s o r k g h →
      Here (with_names s p) o (told_pat p r k).1 (told_pat p r k).2 (bind p v g) (bind (told_pat p r k).0 v h)
  from-here p v s o r k g h l n x = pat-here p v s o r k g h l (newer s x.around p n) x
