-- A pattern over a source becomes generators over the components of a new name: types and marks stay.
use Rattle.std.proofs.Common.{◌≡◌, refl, sym, ap, ◌∙◌, subst, ℕ, suc, ◌+◌, Bool, true, false, not, if◌then◌else◌, [], ◌∷◌, Option, Some, None, option_map}
use Rattle.std.specs.Prelude.{IsTrue, is_some}
use Rattle.ess_semantics.specs.Lists.{and_then}
use Rattle.ess_semantics.specs.Values.{Text, a_tuple, a_matrix}
use Rattle.ess_semantics.specs.Order.{same_text}
use Rattle.ess_semantics.specs.Names.{Names, look}
use Rattle.ess_semantics.specs.Trees.{Pat, Pats, name_pat, tuple_pat, no_pats, more_pats, Ex, name_ex, comp_ex, no_exs, more_exs, Gens, no_gens, from, int_dom}
use Rattle.ess_semantics.specs.Types.{Ty, Tys, any_ty, bool_ty, int_ty, named_ty, no_tys, more_tys, compound, compound2, or_any, bind_types, bind_all_types}
use Rattle.ess_semantics.specs.OperatorTypes.{member_ty}
use Rattle.ess_semantics.specs.Typing.{component_ty, type_of, types_under, source_ty}
use Rattle.ess_semantics.specs.NamesAt.{names_behind}
use Rattle.ess_semantics.specs.Substitution.{BindsAll}
use Rattle.ess_semantics.proofs.Texts.{same_text-itself}
use Rattle.ess_rules_laws.specs.ComponentRules.{component_of}
use Rattle.ess_rules_laws.proofs.Agreement.{look-itself}
use Rattle.ess_refine_laws.specs.TypesStay.{KeepsType}
use Rattle.ess_refine_laws.specs.MarksStay.{HasMarks, GensHaveMarks}
use Rattle.ess_refine_types_laws.specs.MarksOfContainers.{IsNewTo}
use Rattle.ess_refine_types_laws.proofs.TypeNames.{Same, same-pattern, type-same}
use Rattle.ess_refine_types_laws.proofs.MarksBehind.{fewer, dom-same}
use Rattle.ess_rules_types_laws.proofs.PutListed.{past-pattern, source-is}
use Rattle.ess_rules_types_laws.proofs.TypesOfComponents.{shifted, here, start, component-type}
use Rattle.ess_rules_marks_laws.proofs.Grows.{grown}
use Rattle.ess_rules_marks_laws.proofs.MarksOfMembers.{reached}
use Rattle.ess_open_rules_laws.specs.OpenSources.{tuple_parts, components_bound, pattern_opened}
use Rattle.ess_open_types_laws.proofs.TypesBehind.{KeepsBoth, BothKept}

no : {A : Type 0} → false ≡ true → A
no h = cc

-- ---- generators over components

-- What is told of the generators gs behind h, where the patterns are bound in their place.
record Bound (ps : Pats) (ts : Tys) (hs gs : Gens) (h : Names Ty) : Type 0 where
  pub types : types_under gs h ≡ types_under hs (bind_all_types ps ts h)
  pub names : names_behind gs h ≡ names_behind hs (bind_all_types ps ts h)
  pub marks : GensHaveMarks hs (bind_all_types ps ts h) → GensHaveMarks gs h

module _ (z : Text) (us : Tys) where
  one-more : (p : Pat) (ps : Pats) (t : Ty) (ts : Tys) (hs gs : Gens) (k : ℕ) (h : Names Ty) →
      type_of (component_of t k (name_ex z)) h ≡ Some t → Bound ps ts hs gs (bind_types p t h) →
      Bound (more_pats p ps) (more_tys t ts) hs (from p (comp_ex (component_of t k (name_ex z)) no_gens) gs) h
  one-more p ps t ts hs gs k h c b =
      let l : type_of (comp_ex (component_of t k (name_ex z)) no_gens) h ≡ Some (compound2 a_matrix int_ty t) =
      ap (option_map (compound2 a_matrix int_ty)) c in
      let s : source_ty (comp_ex (component_of t k (name_ex z)) no_gens) h ≡ t = ap (λ o. or_any (and_then o member_ty)) l in
      record {
        types = ap (λ o. and_then (and_then o member_ty) (λ m. types_under gs (bind_types p m h))) l ∙ b.types;
        names = ap (λ v. names_behind gs (bind_types p v h)) s ∙ b.names;
        marks = λ m. (
          ap (λ o. is_some (and_then o member_ty)) l,
          (tt, grown h (component_of t k (name_ex z)) (reached h t k (name_ex z) c tt) t c),
          subst (λ v. GensHaveMarks gs (bind_types p v h)) (sym s) (b.marks m),
        );
      }

  bound : (ps : Pats) (ts : Tys) (hs gs : Gens) (k : ℕ) (h : Names Ty) → components_bound z (suc k) ps ts hs ≡ Some gs →
      look h z ≡ Some (compound a_tuple us) → ((j : ℕ) → component_ty us (suc (j + k)) ≡ component_ty ts (suc j)) →
      BindsAll (λ a. not (same_text z a)) ps → Bound ps ts hs gs h
  bound no_pats no_tys hs gs k h q l c n = subst (λ x. Bound no_pats no_tys hs x h) (let i : hs ≡ gs = cc in i)
      (record { types = refl; names = refl; marks = λ m. m })
  bound (more_pats p ps) (more_tys t ts) hs gs k h q l c n =
      go (components_bound z (suc (suc k)) ps ts hs) q (λ x i. bound ps ts hs x (suc k) (bind_types p t h) i
      (past-pattern (λ a. not (same_text z a)) p t h z n.0 (ap not (same_text-itself z)) ∙ l) (shifted us k t ts c) n.1)
    where
      go : (o : Option Gens) → option_map (from p (comp_ex (component_of t (suc k) (name_ex z)) no_gens)) o ≡ Some gs →
          ((x : Gens) → o ≡ Some x → Bound ps ts hs x (bind_types p t h)) → Bound (more_pats p ps) (more_tys t ts) hs gs h
      go None r f = no (let i : false ≡ true = cc in i)
      go (Some x) r f = subst (λ w. Bound (more_pats p ps) (more_tys t ts) hs w h)
          (let i : from p (comp_ex (component_of t (suc k) (name_ex z)) no_gens) x ≡ gs = cc in i)
          (one-more p ps t ts hs x (suc k) h (component-type h t (suc k) (name_ex z) us l (here us k t ts c)) (f x refl))
  bound no_pats (more_tys t ts) hs gs k h q l c n = no (let i : false ≡ true = cc in i)
  bound (more_pats p ps) no_tys hs gs k h q l c n = no (let i : false ≡ true = cc in i)

-- ---- the new name

parts-are : (t : Ty) (ts : Tys) → tuple_parts t ≡ Some ts → t ≡ compound a_tuple ts
parts-are (compound a_tuple us) ts q = ap (compound a_tuple) (let i : us ≡ ts = cc in i)
parts-are _ ts q = no (let i : false ≡ true = cc in i)

module _ (g : Names Ty) (z : Text) (e : Ex) (ps : Pats) (s : Ex) (hs : Gens) (new : IsNewTo z (comp_ex e hs))
    (n : BindsAll (λ a. not (same_text z a)) ps) (ts : Tys) (i : source_ty s g ≡ compound a_tuple ts) where
  named-same : (a : Text) → IsTrue (not (same_text z a)) → look ((z, compound a_tuple ts) ∷ g) a ≡ look g a
  named-same a k = go (same_text z a) (look g a) k
    where
      go : (b : Bool) (o : Option Ty) → IsTrue (not b) → (if b then Some (compound a_tuple ts) else o) ≡ o
      go true o k = cc
      go false o k = refl

  all-same : Same (λ a. not (same_text z a)) (bind_all_types ps ts ((z, compound a_tuple ts) ∷ g)) (bind_all_types ps ts g)
  all-same = same-pattern (λ a. not (same_text z a)) (tuple_pat ps) (compound a_tuple ts) ((z, compound a_tuple ts) ∷ g) g named-same

  same-all : Same (λ a. not (same_text z a)) (bind_all_types ps ts g) (bind_all_types ps ts ((z, compound a_tuple ts) ∷ g))
  same-all = same-pattern (λ a. not (same_text z a)) (tuple_pat ps) (compound a_tuple ts) g ((z, compound a_tuple ts) ∷ g)
      (λ a k. sym (named-same a k))

  -- What stands behind has one type, and marks as a bound of a domain has them.
  rest-type : type_of (comp_ex e hs) (bind_all_types ps ts ((z, compound a_tuple ts) ∷ g)) ≡ type_of (comp_ex e hs) (bind_all_types ps ts g)
  rest-type = type-same (λ a. not (same_text z a)) (comp_ex e hs) (bind_all_types ps ts ((z, compound a_tuple ts) ∷ g))
      (bind_all_types ps ts g) (fewer (λ a. not (same_text z a)) (comp_ex e hs) new) all-same

  rest-marks : HasMarks (comp_ex e hs) (bind_all_types ps ts g) →
      HasMarks (comp_ex e hs) (bind_all_types ps ts ((z, compound a_tuple ts) ∷ g))
  rest-marks m = (dom-same (λ a. not (same_text z a)) (int_dom [] (more_exs (comp_ex e hs) no_exs)) (bind_all_types ps ts g)
      (bind_all_types ps ts ((z, compound a_tuple ts) ∷ g)) (new, tt) same-all (m, tt)).0

  opened-both : (P : Type 0) (gs : Gens) → components_bound z 1 ps ts hs ≡ Some gs →
      KeepsBoth g P (comp_ex e (from (tuple_pat ps) s hs)) (comp_ex e (from (name_pat z) s gs))
  opened-both P gs q = (typed, λ p v r m. marked m)
    where
      b : Bound ps ts hs gs ((z, compound a_tuple ts) ∷ g)
      b = bound z ts ps ts hs gs 0 ((z, compound a_tuple ts) ∷ g) q (look-itself z (compound a_tuple ts) g) (start ts) n

      typed : KeepsType g (comp_ex e (from (tuple_pat ps) s hs)) (comp_ex e (from (name_pat z) s gs))
      typed v r =
          let d = source-is (and_then (type_of s g) member_ty) (λ m. types_under hs (bind_types (tuple_pat ps) m g))
          (λ h. option_map (compound2 a_matrix int_ty) (type_of e h)) v r in
          let w : d.0 ≡ compound a_tuple ts = sym (ap or_any d.1) ∙ i in
          let k : type_of (comp_ex e hs) (bind_all_types ps ts g) ≡ Some v =
          subst (λ m. type_of (comp_ex e hs) (bind_types (tuple_pat ps) m g) ≡ Some v) w d.2 in
          ap (λ o. and_then (and_then o (λ m. types_under gs ((z, m) ∷ g))) (λ h. option_map (compound2 a_matrix int_ty) (type_of e h)))
          (d.1 ∙ ap Some w)
          ∙ ap (λ o. and_then o (λ h. option_map (compound2 a_matrix int_ty) (type_of e h))) b.types ∙ rest-type ∙ k

      marked : HasMarks (comp_ex e (from (tuple_pat ps) s hs)) g → HasMarks (comp_ex e (from (name_pat z) s gs)) g
      marked m =
          let k : HasMarks (comp_ex e hs) (bind_all_types ps ts g) =
          subst (λ v. HasMarks (comp_ex e hs) (bind_types (tuple_pat ps) v g)) i (m.0.2, m.1) in
          let r = rest-marks k in (
            (m.0.0, m.0.1, subst (λ v. GensHaveMarks gs ((z, v) ∷ g)) (sym i) (b.marks r.0)),
            subst (λ v. HasMarks e (names_behind gs ((z, v) ∷ g))) (sym i) (subst (HasMarks e) (sym b.names) r.1),
          )

pub patterns : (g : Names Ty) (P : Type 0) (z : Text) (e : Ex) (ps : Pats) (s : Ex) (hs : Gens) → IsNewTo z (comp_ex e hs) →
    BindsAll (λ a. not (same_text z a)) ps →
    BothKept g P (comp_ex e (from (tuple_pat ps) s hs)) (pattern_opened g z (comp_ex e (from (tuple_pat ps) s hs)))
patterns g P z e ps s hs new n = parts (tuple_parts (source_ty s g)) refl
  where
    with-gens : (ts : Tys) → tuple_parts (source_ty s g) ≡ Some ts → (o : Option Gens) → components_bound z 1 ps ts hs ≡ o →
        BothKept g P (comp_ex e (from (tuple_pat ps) s hs)) (option_map (λ gs. comp_ex e (from (name_pat z) s gs)) o)
    with-gens ts i None q = tt
    with-gens ts i (Some gs) q = opened-both g z e ps s hs new n ts (parts-are (source_ty s g) ts i) P gs q

    parts : (o : Option Tys) → tuple_parts (source_ty s g) ≡ o →
        BothKept g P (comp_ex e (from (tuple_pat ps) s hs))
        (and_then o (λ ts. option_map (λ gs. comp_ex e (from (name_pat z) s gs)) (components_bound z 1 ps ts hs)))
    parts None i = tt
    parts (Some ts) i = with-gens ts i (components_bound z 1 ps ts hs) refl
