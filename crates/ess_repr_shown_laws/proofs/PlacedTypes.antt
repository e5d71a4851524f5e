-- Types with numbers in the place of some named types: what agreed agrees.
use Rattle.std.proofs.Common.{◌≡◌, refl, sym, ap, ◌∙◌, subst, Bool, true, false, if◌then◌else◌, Option, Some, None, option_map}
use Rattle.std.specs.Prelude.{is_some}
use Rattle.ess_semantics.specs.Lists.{and_then, when}
use Rattle.ess_semantics.specs.Values.{Text, Kind}
use Rattle.ess_semantics.specs.Order.{same_text, same_kind}
use Rattle.ess_semantics.specs.Types.{Ty, Tys, any_ty, bool_ty, int_ty, named_ty, compound, no_tys, more_tys, is_open, join, joins}
use Rattle.ess_semantics.proofs.Texts.{same_text-equal}

module _ (n : Text → Bool) where
  abbrev mutual
    -- The type with int in the place of named types that n picks.
    pub placed : Ty → Ty
    placed any_ty = any_ty
    placed bool_ty = bool_ty
    placed int_ty = int_ty
    placed (named_ty a) = if n a then int_ty else named_ty a
    placed (compound k ts) = compound k (placed_all ts)

    -- The same of several types.
    pub placed_all : Tys → Tys
    placed_all no_tys = no_tys
    placed_all (more_tys t ts) = more_tys (placed t) (placed_all ts)

  open-kept : (k : Kind) (ts : Tys) → is_open k (placed_all ts) ≡ is_open k ts
  open-kept k no_tys = refl
  open-kept k (more_tys t ts) = refl

  -- Whether two kinds with their types agree, by parts.
  abbrev kinds_agree : Bool → Bool → Bool → Bool → Bool
  kinds_agree false a b j = false
  kinds_agree true true b j = true
  kinds_agree true false true j = true
  kinds_agree true false false j = j

  compound-agrees : (k : Kind) (c a b : Bool) (ts us : Tys) (o : Option Tys) →
      is_some (if c then option_map (compound k) (if a then Some us else (if b then Some ts else o)) else None) ≡
      kinds_agree c a b (is_some o)
  compound-agrees k true true b ts us o = refl
  compound-agrees k true false true ts us o = refl
  compound-agrees k true false false ts us None = refl
  compound-agrees k true false false ts us (Some vs) = refl
  compound-agrees k false a b ts us o = refl

  agree-more : (c a b i j : Bool) → (i ≡ true → j ≡ true) → kinds_agree c a b i ≡ true → kinds_agree c a b j ≡ true
  agree-more false a b i j f h = h
  agree-more true true b i j f h = refl
  agree-more true false true i j f h = refl
  agree-more true false false i j f h = f h

  named-any : (a : Text) → is_some (join (placed (named_ty a)) any_ty) ≡ true
  named-any a = go (n a)
    where
      go : (b : Bool) → is_some (join (if b then int_ty else named_ty a) any_ty) ≡ true
      go true = refl
      go false = refl

  named-same : (a b : Text) → same_text a b ≡ true → is_some (join (placed (named_ty a)) (placed (named_ty b))) ≡ true
  named-same a b e = subst (λ z. is_some (join (placed (named_ty a)) (placed (named_ty z))) ≡ true) (same_text-equal a b e) (go (n a))
    where
      itself : same_text a a ≡ true
      itself = subst (λ z. same_text a z ≡ true) (sym (same_text-equal a b e)) e

      go : (c : Bool) → is_some (join (if c then int_ty else named_ty a) (if c then int_ty else named_ty a)) ≡ true
      go true = refl
      go false = ap (λ c. is_some (when c (named_ty a))) itself

  when-true : (c : Bool) (t : Ty) → is_some (when c t) ≡ true → c ≡ true
  when-true true t h = refl
  when-true false t h = cc

  two-there : (o : Option Ty) (p : Option Tys) → is_some (and_then o (λ v. option_map (more_tys v) p)) ≡ true →
      (is_some o ≡ true) × (is_some p ≡ true)
  two-there None p h = cc
  two-there (Some t) None h = cc
  two-there (Some t) (Some ts) h = (refl, refl)

  both-there : (o : Option Ty) (p : Option Tys) → is_some o ≡ true → is_some p ≡ true →
      is_some (and_then o (λ v. option_map (more_tys v) p)) ≡ true
  both-there None p h k = cc
  both-there (Some t) None h k = cc
  both-there (Some t) (Some ts) h k = refl

  mutual
    -- What agreed agrees.
    pub placed-agree : (t u : Ty) → is_some (join t u) ≡ true → is_some (join (placed t) (placed u)) ≡ true
    placed-agree any_ty u h = refl
    placed-agree bool_ty any_ty h = refl
    placed-agree bool_ty bool_ty h = refl
    placed-agree bool_ty int_ty h = cc
    placed-agree bool_ty (named_ty b) h = cc
    placed-agree bool_ty (compound l us) h = cc
    placed-agree int_ty any_ty h = refl
    placed-agree int_ty int_ty h = refl
    placed-agree int_ty bool_ty h = cc
    placed-agree int_ty (named_ty b) h = cc
    placed-agree int_ty (compound l us) h = cc
    placed-agree (named_ty a) any_ty h = named-any a
    placed-agree (named_ty a) (named_ty b) h = named-same a b (when-true (same_text a b) (named_ty a) h)
    placed-agree (named_ty a) bool_ty h = cc
    placed-agree (named_ty a) int_ty h = cc
    placed-agree (named_ty a) (compound l us) h = cc
    placed-agree (compound k ts) any_ty h = refl
    placed-agree (compound k ts) bool_ty h = cc
    placed-agree (compound k ts) int_ty h = cc
    placed-agree (compound k ts) (named_ty b) h = cc
    placed-agree (compound k ts) (compound l us) h =
        compound-agrees k (same_kind k l) (is_open k (placed_all ts)) (is_open k (placed_all us)) (placed_all ts) (placed_all us)
        (joins (placed_all ts) (placed_all us))
        ∙ ap (λ a. kinds_agree (same_kind k l) a (is_open k (placed_all us)) (is_some (joins (placed_all ts) (placed_all us))))
        (open-kept k ts)
        ∙ ap (λ b. kinds_agree (same_kind k l) (is_open k ts) b (is_some (joins (placed_all ts) (placed_all us)))) (open-kept k us)
        ∙ agree-more (same_kind k l) (is_open k ts) (is_open k us) (is_some (joins ts us)) (is_some (joins (placed_all ts) (placed_all us)))
        (all-agree ts us)
        (sym (compound-agrees k (same_kind k l) (is_open k ts) (is_open k us) ts us (joins ts us)) ∙ h)

    all-agree : (ts us : Tys) → is_some (joins ts us) ≡ true → is_some (joins (placed_all ts) (placed_all us)) ≡ true
    all-agree no_tys no_tys h = refl
    all-agree no_tys (more_tys u us) h = cc
    all-agree (more_tys t ts) no_tys h = cc
    all-agree (more_tys t ts) (more_tys u us) h =
        let r = two-there (join t u) (joins ts us) h in
        both-there (join (placed t) (placed u)) (joins (placed_all ts) (placed_all us)) (placed-agree t u r.0) (all-agree ts us r.1)
