-- Names that patterns bind, told apart: each new name is fixed where the list of marks says so.
use Rattle.std.proofs.Common.{◌≡◌, refl, ap, ◌∙◌, ℕ, Bool, true, false, not, if◌then◌else◌, ◌∷◌, Some}
use Rattle.ess_semantics.specs.Lists.{or_default}
use Rattle.ess_semantics.specs.Values.{Text}
use Rattle.ess_semantics.specs.Order.{same_text}
use Rattle.ess_semantics.specs.Names.{Names, look}
use Rattle.ess_semantics.specs.Trees.{Pat, Pats, name_pat, tuple_pat, no_pats, more_pats}
use Rattle.ess_semantics.proofs.Tests.{and-both}
use Rattle.ess_given_laws.specs.conjure_model_laws.ToldApart.{reserved, renamed, told_pat, told_pats, told}
use Rattle.ess_given_laws.specs.Given.{all_bound, all_bound_by, none_bound, none_bound_by}
use Rattle.ess_given_conditions_laws.specs.InScope.{bound_as, all_bound_as}
use Rattle.ess_given_conditions_laws.proofs.Assigned.{Assigned, at-first, at-later}
use Rattle.ess_given_conditions_laws.proofs.Marks.{mark_pat, mark_pats, marks, pat-number}

-- v has what a name that is fixed has become.
abbrev pub Follows : (Text → Bool) → (Text → Bool) → Names Text → Type 0
Follows v s r = (c : Text) → s c ≡ true → v (renamed r c) ≡ true

mutual
  pub pat-follows : (v : Text → Bool) (b : Bool) (p : Pat) (s : Text → Bool) (r : Names Text) (k : ℕ) → Follows v s r →
      Assigned v k (mark_pat b p) → Follows v (bound_as b p s) (told_pat p r k).1
  pat-follows v b (name_pat a) s r k f h c t = go (same_text a c) t
    where
      go : (x : Bool) → (if x then b else s c) ≡ true → v (or_default (if x then Some (reserved k) else look r c) c) ≡ true
      go true q = h.0 ∙ q
      go false q = f c q
  pat-follows v b (tuple_pat ps) s r k f h c t = pats-follow v b ps s r k f h c t

  pats-follow : (v : Text → Bool) (b : Bool) (ps : Pats) (s : Text → Bool) (r : Names Text) (k : ℕ) → Follows v s r →
      Assigned v k (mark_pats b ps) → Follows v (all_bound_as b ps s) (told_pats ps r k).1
  pats-follow v b no_pats s r k f h c t = f c t
  pats-follow v b (more_pats p ps) s r k f h c t = let q = told_pat p r k in
      pats-follow v b ps (bound_as b p s) q.1 q.2 (pat-follows v b p s r k f (at-first v k (mark_pat b p) (mark_pats b ps) h))
      (at-later v k q.2 (mark_pat b p) (mark_pats b ps) (pat-number b p r k) h) c t

mutual
  pub pat-bound : (v : Text → Bool) (p : Pat) (r : Names Text) (k : ℕ) → Assigned v k (mark_pat true p) →
      all_bound v (told_pat p r k).0 ≡ true
  pat-bound v (name_pat a) r k h = h.0
  pat-bound v (tuple_pat ps) r k h = pats-bound v ps r k h

  pats-bound : (v : Text → Bool) (ps : Pats) (r : Names Text) (k : ℕ) → Assigned v k (mark_pats true ps) →
      all_bound_by v (told_pats ps r k).0 ≡ true
  pats-bound v no_pats r k h = refl
  pats-bound v (more_pats p ps) r k h = let q = told_pat p r k in
      and-both (all_bound v q.0) (all_bound_by v (told_pats ps q.1 q.2).0)
      (pat-bound v p r k (at-first v k (mark_pat true p) (mark_pats true ps) h))
      (pats-bound v ps q.1 q.2 (at-later v k q.2 (mark_pat true p) (mark_pats true ps) (pat-number true p r k) h))

mutual
  pub pat-unbound : (v : Text → Bool) (p : Pat) (r : Names Text) (k : ℕ) → Assigned v k (mark_pat false p) →
      none_bound v (told_pat p r k).0 ≡ true
  pat-unbound v (name_pat a) r k h = ap not h.0
  pat-unbound v (tuple_pat ps) r k h = pats-unbound v ps r k h

  pats-unbound : (v : Text → Bool) (ps : Pats) (r : Names Text) (k : ℕ) → Assigned v k (mark_pats false ps) →
      none_bound_by v (told_pats ps r k).0 ≡ true
  pats-unbound v no_pats r k h = refl
  pats-unbound v (more_pats p ps) r k h = let q = told_pat p r k in
      and-both (none_bound v q.0) (none_bound_by v (told_pats ps q.1 q.2).0)
      (pat-unbound v p r k (at-first v k (mark_pat false p) (mark_pats false ps) h))
      (pats-unbound v ps q.1 q.2 (at-later v k q.2 (mark_pat false p) (mark_pats false ps) (pat-number false p r k) h))
