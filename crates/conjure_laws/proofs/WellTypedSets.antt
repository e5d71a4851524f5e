-- What the type of a constraint says: the literal has the type of the members of the find. So every well typed specification
-- of sets is
-- one whose names are new and whose literals fit.
use Rattle.std.proofs.Common.{◌≡◌, refl, sym, ap, ◌∙◌, subst, ℕ, suc, Bool, true, false, not, List, [], ◌∷◌, ℤ, pos, ◌⊎◌, inl, inr, Option, Some, None, option_map, is_some}
use Rattle.std.specs.List.{list_any}
use Rattle.ess_semantics.specs.declared.words.Op2.{Op2}
use Rattle.ess_semantics.specs.Lists.{and_then, all_some, is_some_and, when}
use Rattle.ess_semantics.specs.Values.{Text}
use Rattle.ess_semantics.specs.Order.{same_text}
use Rattle.ess_semantics.specs.Names.{Names, look, is_among, all_distinct}
use Rattle.ess_semantics.specs.Trees.{binary, number_ex, Stm, given_enum, let_enum, let_unnamed, find, such_that}
use Rattle.ess_semantics.specs.Types.{Ty, bool_ty, int_ty, named_ty, join, type_of_dom}
use Rattle.ess_semantics.specs.OperatorTypes.{type_of_op}
use Rattle.ess_semantics.specs.Lettings.{types_after}
use Rattle.ess_semantics.specs.Scopes.{Scope, names_in_scope}
use Rattle.ess_semantics.specs.Judgements.{Judgement, unknown_name, double_name, ill_typed, not_finite, not_enumerable, open_given, judgements, meets, declares, first_failed, first_fault, fault, is_well_typed, names_are_new}
use Rattle.ess_semantics.proofs.Tests.{and-left, and-right}
use Rattle.ess_semantics.proofs.Texts.{same_text-equal}
use Rattle.conjure_laws.specs.Members.{In}
use Rattle.conjure_laws.specs.SetsOfAtoms.{Declared, Line, spec, enum, none_declared, num, truth_lit, value_name, Atom, sets_of, after, range, typed, given_type, boolean, unnamed, set_find, holds_lit, membership}
use Rattle.conjure_laws.proofs.SetScopesTyped.{passed, FindTy, later_judgements, Rel, ValueTy, scope, no-fault, clean, new-names, rel-enum, rel-given, rel-unnamed, rel-find, type-in-scope}
use Rattle.conjure_laws.proofs.SetScopes.{Fine, Fits}

-- ---- what a constraint's type says

abbrev typed_well : Option Ty → Option Ty → Bool
typed_well a o = is_some_and (and_then (all_some (a ∷ o ∷ [])) (type_of_op (binary Op2.Member))) (λ u. is_some (join u bool_ty))

no-type : (a : Option Ty) → typed_well a None ≡ true → ⊥
no-type None e = go e
  where
    go : false ≡ true → ⊥
    go e = cc
no-type (Some t) e = go e
  where
    go : false ≡ true → ⊥
    go e = cc

-- A set's members are asked for the literal's type.
fits-num : (c : Declared) (k : ℤ) (x : Text) (tys : Names Ty) →
    ((x : Text) (ty : Ty) → look tys x ≡ Some ty → FindTy c x ty ⊎ ValueTy c x ty) → typed_well (Some int_ty) (look tys x) ≡ true →
    Fits c (num k) (look c.finds x)
fits-num c k x tys r e = go (look tys x) refl e
  where
    go : (o : Option Ty) → look tys x ≡ o → typed_well (Some int_ty) o ≡ true → Fits c (num k) (look c.finds x)
    go None q e = absurd (no-type (Some int_ty) e)
    go (Some ty) q e = at (r x ty q)
      where
        in-find : (A : Atom) → typed_well (Some int_ty) (Some (type_of_dom (sets_of A))) ≡ true → Fits c (num k) (Some A)
        in-find (range a b) e = tt
        in-find boolean e = cc
        in-find (typed t) e = cc

        at : FindTy c x ty ⊎ ValueTy c x ty → Fits c (num k) (look c.finds x)
        at (inl f) = subst (Fits c (num k)) (sym f.1) (in-find f.0 (ap (λ t. typed_well (Some int_ty) (Some t)) (sym f.2) ∙ e))
        at (inr v) = let z : typed_well (Some int_ty) (Some (named_ty v.0)) ≡ true =
            ap (λ t. typed_well (Some int_ty) (Some t)) (sym v.3)
            ∙ e in let y : false ≡ true = z in cc

fits-truth : (c : Declared) (b : Bool) (x : Text) (tys : Names Ty) →
    ((x : Text) (ty : Ty) → look tys x ≡ Some ty → FindTy c x ty ⊎ ValueTy c x ty) →
    typed_well (Some bool_ty) (look tys x) ≡ true → Fits c (truth_lit b) (look c.finds x)
fits-truth c b x tys r e = go (look tys x) refl e
  where
    go : (o : Option Ty) → look tys x ≡ o → typed_well (Some bool_ty) o ≡ true → Fits c (truth_lit b) (look c.finds x)
    go None q e = absurd (no-type (Some bool_ty) e)
    go (Some ty) q e = at (r x ty q)
      where
        in-find : (A : Atom) → typed_well (Some bool_ty) (Some (type_of_dom (sets_of A))) ≡ true → Fits c (truth_lit b) (Some A)
        in-find (range a d) e = cc
        in-find boolean e = tt
        in-find (typed t) e = cc

        at : FindTy c x ty ⊎ ValueTy c x ty → Fits c (truth_lit b) (look c.finds x)
        at (inl f) = subst (Fits c (truth_lit b)) (sym f.1) (in-find f.0 (ap (λ t. typed_well (Some bool_ty) (Some t)) (sym f.2) ∙ e))
        at (inr v) = let z : typed_well (Some bool_ty) (Some (named_ty v.0)) ≡ true =
            ap (λ t. typed_well (Some bool_ty) (Some t)) (sym v.3)
            ∙ e in let y : false ≡ true = z in cc

fits-name : (c : Declared) (n x : Text) (tys : Names Ty) →
    ((x : Text) (ty : Ty) → look tys x ≡ Some ty → FindTy c x ty ⊎ ValueTy c x ty) →
    typed_well (look tys n) (look tys x) ≡ true → Fits c (value_name n) (look c.finds x)
fits-name c n x tys r e = go (look tys n) (look tys x) refl refl e
  where
    -- Of a value of the type t in a set of A.
    in-find : (t : Text) (k : ℕ) → look c.values n ≡ Some (t, k) → (A : Atom) →
        typed_well (Some (named_ty t)) (Some (type_of_dom (sets_of A))) ≡ true → Fits c (value_name n) (Some A)
    in-find t k v (range a b) e = cc
    in-find t k v boolean e = cc
    in-find t k v (typed u) e = at (same_text t u) refl
      where
        at : (b : Bool) → same_text t u ≡ b → Fits c (value_name n) (Some (typed u))
        at true q = (k, v ∙ ap (λ z. Some (z, k)) (same_text-equal t u q))
        at false q =
            let z : typed_well (Some (named_ty t)) (Some (type_of_dom (sets_of (typed u)))) ≡ false =
            ap (λ b. is_some_and (option_map (λ v. bool_ty) (when b (named_ty t))) (λ u. is_some (join u bool_ty))) q in
            let y : false ≡ true = sym z ∙ e in cc

    set-in-find : (B A : Atom) → typed_well (Some (type_of_dom (sets_of B))) (Some (type_of_dom (sets_of A))) ≡ true → ⊥
    set-in-find (range a b) (range d e) w = no w
      where
        no : false ≡ true → ⊥
        no e = cc
    set-in-find (range a b) boolean w = no w
      where
        no : false ≡ true → ⊥
        no e = cc
    set-in-find (range a b) (typed t) w = no w
      where
        no : false ≡ true → ⊥
        no e = cc
    set-in-find boolean (range d e) w = no w
      where
        no : false ≡ true → ⊥
        no e = cc
    set-in-find boolean boolean w = no w
      where
        no : false ≡ true → ⊥
        no e = cc
    set-in-find boolean (typed t) w = no w
      where
        no : false ≡ true → ⊥
        no e = cc
    set-in-find (typed u) (range d e) w = no w
      where
        no : false ≡ true → ⊥
        no e = cc
    set-in-find (typed u) boolean w = no w
      where
        no : false ≡ true → ⊥
        no e = cc
    set-in-find (typed u) (typed t) w = no w
      where
        no : false ≡ true → ⊥
        no e = cc

    go : (p o : Option Ty) → look tys n ≡ p → look tys x ≡ o → typed_well p o ≡ true → Fits c (value_name n) (look c.finds x)
    go p None a q e = absurd (no-type p e)
    go None (Some ty) a q e = let z : false ≡ true = e in cc
    go (Some s) (Some ty) a q e = at (r n s a) (r x ty q)
      where
        at : FindTy c n s ⊎ ValueTy c n s → FindTy c x ty ⊎ ValueTy c x ty → Fits c (value_name n) (look c.finds x)
        at p (inr v) = let z : false ≡ true = ap (λ t. typed_well (Some s) (Some t)) (sym v.3) ∙ e in cc
        at (inl g) (inl f) = absurd (set-in-find g.0 f.0 (ap (λ t. typed_well (Some t) (Some (type_of_dom (sets_of f.0)))) (sym g.2)
            ∙ ap (λ t. typed_well (Some s) (Some t)) (sym f.2) ∙ e))
        at (inr v) (inl f) =
            subst (Fits c (value_name n)) (sym f.1) (in-find v.0 v.1 v.2 f.0
            (ap (λ t. typed_well (Some t) (Some (type_of_dom (sets_of f.0)))) (sym v.3)
            ∙ ap (λ t. typed_well (Some s) (Some t)) (sym f.2) ∙ e))

-- ---- the walk

-- The judgements on names and types of a statement.
judged-names : (w t : Stm) (s : Scope) → first_failed judgements w t s ≡ None →
    (meets unknown_name w t s ≡ true) × (meets double_name w t s ≡ true) × (meets ill_typed w t s ≡ true)
judged-names w t s e =
    let a = passed unknown_name (double_name ∷ later_judgements) w t s e in
    let b = passed double_name later_judgements w t s a.1 in
    let c = passed ill_typed (not_finite ∷ not_enumerable ∷ open_given ∷ []) w t s b.1 in
    (a.0, b.0, c.0)

-- That names are new.
are-new : (w : Stm) (s : Scope) → names_are_new w s ≡ true →
    (all_distinct (declares w) ≡ true) × (not (list_any (is_among (names_in_scope s)) (declares w)) ≡ true)
are-new w s e =
    let a = and-left _ _ (and-left _ _ (and-left _ _ e)) in (
      and-left (all_distinct (declares w)) (not (list_any (is_among (names_in_scope s)) (declares w))) a,
      and-right (all_distinct (declares w)) (not (list_any (is_among (names_in_scope s)) (declares w))) a,
    )

fine-from : (U : List Line) (k : ℕ) (c : Declared) (tys : Names Ty) (es us loose : List Text) → Rel c tys es us →
    first_fault k (spec U) (scope tys es us loose) ≡ None → Fine c U
fine-from [] k c tys es us loose r e = tt
fine-from (enum t ns ∷ U) k c tys es us loose r e =
    let w : Stm = let_enum t ns in
    let s : Scope = scope tys es us loose in
    let h = no-fault (first_failed judgements w w s) (first_fault (suc k) (spec U) (scope (types_after w tys) (t ∷ es) us loose)) k e
    in
    let n = are-new w s (judged-names w w s h.0).1 in (
      new-names c tys es us r (t ∷ ns) n.0 n.1,
      fine-from U (suc k) (after (enum t ns) c) (types_after w tys) (t ∷ es) us loose
          (rel-enum t ns c tys es us r) h.1,
    )
fine-from (given_type t ∷ U) k c tys es us loose r e =
    let w : Stm = given_enum t in
    let s : Scope = scope tys es us loose in
    let h = no-fault (first_failed judgements w w s) (first_fault (suc k) (spec U) (scope tys (t ∷ es) us loose)) k e in
    let n = are-new w s (judged-names w w s h.0).1 in (
      new-names c tys es us r (t ∷ []) n.0 n.1,
      fine-from U (suc k) (after (given_type t) c) tys (t ∷ es) us loose
          (rel-given t c tys es us r) h.1,
    )
fine-from (unnamed t m ∷ U) k c tys es us loose r e =
    let w : Stm = let_unnamed t (number_ex (pos m)) in
    let s : Scope = scope tys es us loose in
    let h = no-fault (first_failed judgements w w s) (first_fault (suc k) (spec U) (scope tys es (t ∷ us) loose)) k e in
    let n = are-new w s (judged-names w w s h.0).1 in (
      new-names c tys es us r (t ∷ []) n.0 n.1,
      fine-from U (suc k) (after (unnamed t m) c) tys es (t ∷ us) loose
          (rel-unnamed t m c tys es us r) h.1,
    )
fine-from (set_find x (range a b) ∷ U) k c tys es us loose r e =
    let w : Stm = find x (sets_of (range a b)) in
    let s : Scope = scope tys es us loose in
    let h = no-fault (first_failed judgements w w s) (first_fault (suc k) (spec U)
    (scope ((x, type_of_dom (sets_of (range a b))) ∷ tys) es us (x ∷ loose))) k e in
    let n = are-new w s (judged-names w w s h.0).1 in (
      new-names c tys es us r (x ∷ []) n.0 n.1,
      tt,
      fine-from U (suc k) (after (set_find x (range a b)) c)
          ((x, type_of_dom (sets_of (range a b))) ∷ tys) es us (x ∷ loose) (rel-find x (range a b) c tys es us r) h.1,
    )
fine-from (set_find x boolean ∷ U) k c tys es us loose r e =
    let w : Stm = find x (sets_of boolean) in
    let s : Scope = scope tys es us loose in
    let h = no-fault (first_failed judgements w w s) (first_fault (suc k) (spec U)
    (scope ((x, type_of_dom (sets_of boolean)) ∷ tys) es us (x ∷ loose))) k e in
    let n = are-new w s (judged-names w w s h.0).1 in (
      new-names c tys es us r (x ∷ []) n.0 n.1,
      tt,
      fine-from U (suc k) (after (set_find x boolean) c)
          ((x, type_of_dom (sets_of boolean)) ∷ tys) es us (x ∷ loose) (rel-find x boolean c tys es us r) h.1,
    )
fine-from (set_find x (typed t) ∷ U) k c tys es us loose r e =
    let w : Stm = find x (sets_of (typed t)) in
    let s : Scope = scope tys es us loose in
    let h = no-fault (first_failed judgements w w s) (first_fault (suc k) (spec U)
    (scope ((x, type_of_dom (sets_of (typed t))) ∷ tys) es us (x ∷ loose))) k e in
    let j = judged-names w w s h.0 in
    let n = are-new w s j.1 in (
      new-names c tys es us r (x ∷ []) n.0 n.1,
      r.types t (type-in-scope es us t j.0),
      fine-from U (suc k) (after (set_find x (typed t)) c) ((x, type_of_dom (sets_of (typed t))) ∷ tys) es us (x ∷ loose)
          (rel-find x (typed t) c tys es us r) h.1,
    )
fine-from (holds_lit (num m) x ∷ U) k c tys es us loose r e =
    let w : Stm = such_that (membership (num m) x) in
    let s : Scope = scope tys es us loose in
    let h = no-fault (first_failed judgements w w s) (first_fault (suc k) (spec U) s) k e in
    let t = and-right _ _ (and-left _ _ (judged-names w w s h.0).2) in
    (fits-num c m x tys r.types_of_names t, fine-from U (suc k) c tys es us loose r h.1)
fine-from (holds_lit (truth_lit b) x ∷ U) k c tys es us loose r e =
    let w : Stm = such_that (membership (truth_lit b) x) in
    let s : Scope = scope tys es us loose in
    let h = no-fault (first_failed judgements w w s) (first_fault (suc k) (spec U) s) k e in
    let t = and-right _ _ (and-left _ _ (judged-names w w s h.0).2) in
    (fits-truth c b x tys r.types_of_names t, fine-from U (suc k) c tys es us loose r h.1)
fine-from (holds_lit (value_name n) x ∷ U) k c tys es us loose r e =
    let w : Stm = such_that (membership (value_name n) x) in
    let s : Scope = scope tys es us loose in
    let h = no-fault (first_failed judgements w w s) (first_fault (suc k) (spec U) s) k e in
    let t = and-right _ _ (and-left _ _ (judged-names w w s h.0).2) in
    (fits-name c n x tys r.types_of_names t, fine-from U (suc k) c tys es us loose r h.1)

-- Every well typed specification of the class is fine.
pub well-typed-fine : (T : List Line) → is_well_typed (spec T) ≡ true → Fine none_declared T
well-typed-fine T e = go (fault (spec T)) refl e
  where
    start : Rel none_declared [] [] []
    start = record { names = λ x i. absurd i; types = λ t i. none t i; types_of_names = λ x ty e. absurd (no ty e) }
      where
        none : (t : Text) → In t [] ⊎ In t [] → is_some (look none_declared.types t) ≡ true
        none t (inl i) = absurd i
        none t (inr i) = absurd i

        no : (ty : Ty) → None ≡ Some ty → ⊥
        no ty e = cc

    go : (o : Option (Judgement × ℕ)) → fault (spec T) ≡ o → clean o ≡ true → Fine none_declared T
    go None q e = fine-from T 1 none_declared [] [] [] [] start q
    go (Some f) q e = cc
