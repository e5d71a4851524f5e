-- Sizes of given types have plans, and the axis of a set has the members of its domain with positions.
use Rattle.std.proofs.Common.{◌≡◌, refl, sym, ap, ◌∙◌, subst, Bool, true, false, if◌then◌else◌, List, [], ◌∷◌, ◌++◌, ◌⊎◌, inl, inr, codes, length, pos, Some, None, option_map}
use Rattle.ess_semantics.specs.Lists.{and_then, list_or_none, each_of}
use Rattle.ess_semantics.specs.Values.{Text, number}
use Rattle.ess_semantics.specs.Order.{same_text}
use Rattle.ess_semantics.specs.Names.{Names, look, keys}
use Rattle.ess_semantics.specs.Trees.{no_exs, more_exs, number_ex, cell_ex, both_ends, Dom, int_dom, set_dom, Stm, given_enum, let_enum, let_unnamed}
use Rattle.ess_semantics.specs.Types.{int_ty}
use Rattle.ess_semantics.specs.Domains.{integers, between, member_list}
use Rattle.ess_semantics.specs.Tables.{Table, one_cell}
use Rattle.ess_semantics.specs.Layers.{codes_of}
use Rattle.ess_semantics.specs.DeclaredTables.{axis_members}
use Rattle.ess_semantics.specs.Meaning.{cell_in, domain_of, members_in, spans_of}
use Rattle.ess_semantics.specs.Prepared.{prepared}
use Rattle.ess_semantics.specs.Assignments.{Assignment}
use Rattle.ess_semantics.specs.Parameters.{all_declared}
use Rattle.ess_semantics.specs.Judgements.{fault}
use Rattle.ess_semantics.specs.Plans.{Options, givens_side, Plan, size_plan, value_plan, plans, plans_from, plans_for, plans_of_stm, names_of_plans}
use Rattle.ess_semantics.specs.ModelMeaning.{kinded_cell, as_bound, declaration_of, env_of_tables, model_domain}
use Rattle.ess_semantics.proofs.Texts.{same_text-equal, same_text-itself}
use Rattle.ess_repr_declare_laws.specs.DeclaredTrees.{axis_dom}
use Rattle.conjure_laws.specs.Members.{In}
use Rattle.conjure_laws.specs.Premises.{Instance, is_on}
use Rattle.conjure_laws.specs.SetsOfAtoms.{TypeKind, fixed, sized}
use Rattle.conjure_laws.specs.ModelsOfSets.{size_name, axis_for, axis_of_set}
use Rattle.conjure_laws.proofs.Lists.{in-right, in-filtered}
use Rattle.conjure_laws.proofs.Lookups.{look-left}
use Rattle.conjure_laws.proofs.Givens.{given-plan}
use Rattle.conjure_laws.proofs.SetCells.{only-table}
use Rattle.conjure_laws.proofs.SetScopes.{count_of}
use Rattle.ess_mixed_models_laws.specs.MixedSpecifications.{kinds_by, kinds, are_mixed_statements}
use Rattle.ess_mixed_models_laws.proofs.NamedKinds.{no-yes, no-some, declared-one, one-kind, MemberDom, of_numbers, of_truths, of_type, placed_members}
use Rattle.ess_mixed_models_laws.proofs.MixedPlans.{ground}
use Rattle.ess_mixed_models_laws.proofs.MixedCells.{declared, decls}

-- ---- plans of sizes

-- A type whose size is given is a given one.
sized-by : (s : Stm) (t : Text) → look (kinds_by s) t ≡ Some sized → given_enum t ≡ s
sized-by (given_enum u) t e = ap given_enum (sym (one-kind u t sized sized e).0)
sized-by (let_enum u ns) t e = let z : fixed (length ns) ≡ sized = (one-kind u t (fixed (length ns)) sized e).1 in cc
sized-by (let_unnamed u (number_ex (pos n))) t e = let z : fixed n ≡ sized = (one-kind u t (fixed n) sized e).1 in cc
sized-by (let_unnamed u f) t e = absurd (no-some e)
sized-by s t e = absurd (no-some e)

-- The first size of a type has its name.
size-there : (Qs : List Plan) (t n : Text) → In (size_plan t n) Qs → In (size_plan t (size_name Qs t)) Qs
size-there [] t n i = absurd i
size-there (value_plan f x r d ns ∷ Qs) t n (inl e) = cc
size-there (value_plan f x r d ns ∷ Qs) t n (inr i) = inr (size-there Qs t n i)
size-there (size_plan u m ∷ Qs) t n i = go (same_text u t) refl i (size-there Qs t n)
  where
    go : (b : Bool) → same_text u t ≡ b → (size_plan t n ≡ size_plan u m) ⊎ In (size_plan t n) Qs →
        (In (size_plan t n) Qs → In (size_plan t (size_name Qs t)) Qs) →
        In (size_plan t (if same_text u t then m else size_name Qs t)) (size_plan u m ∷ Qs)
    go true q i f = inl (ap (λ b. size_plan t (if b then m else size_name Qs t)) q ∙ ap (λ z. size_plan z m) (sym (same_text-equal u t q)))
    go false q (inl e) f = let z : t ≡ u = cc in let y : false ≡ true = sym q ∙ ap (λ w. same_text w t) (sym z)
        ∙ same_text-itself t in absurd (no-yes y)
    go false q (inr i) f = inr (subst (λ b. In (size_plan t (if b then m else size_name Qs t)) Qs) (sym q) (f i))

size-from : (T : List Stm) (o : Options) (declared done : List Text) (t : Text) → In (given_enum t) T →
    (n : Text) × In (size_plan t n) (plans_from T o declared done)
size-from [] o declared done t i = absurd i
size-from (s ∷ T) o declared done t (inl e) =
    subst (λ s. (n : Text) × In (size_plan t n) (plans_from (s ∷ T) o declared done)) e (_, inl refl)
size-from (s ∷ T) o declared done t (inr i) =
    let Qs : List Plan = plans_of_stm s o declared done in
    let r = size-from T o declared (keys (names_of_plans Qs) ++ done) t i in
    (r.0, in-right (size_plan t r.0) Qs (plans_from T o declared (keys (names_of_plans Qs) ++ done)) r.1)

module _ (S : List Stm) (o : Options) (h : are_mixed_statements S o ≡ true) where
  abbrev Ps : List Plan
  Ps = plans S o

  abbrev Gs : List Plan
  Gs = plans_for givens_side S o

  -- The size of a given type has a plan.
  pub size-of : (t : Text) → look (kinds S) t ≡ Some sized → In (size_plan t (size_name Ps t)) Ps
  size-of t e = go (declared-one kinds_by (prepared S) [] t sized e)
    where
      go : (look [] t ≡ Some sized) ⊎ ((s : Stm) × In s (prepared S) × (look (kinds_by s) t ≡ Some sized)) →
          In (size_plan t (size_name Ps t)) Ps
      go (inl q) = absurd (no-some q)
      go (inr r) =
          let n = size-from (prepared S) o (all_declared S) (codes "alldifferent_except" ∷ []) t
          (subst (λ s. In s (prepared S)) (sym (sized-by r.0 t r.2)) r.1) in size-there Ps t n.0 n.1

  -- Its cell is a number.
  pub size-kinded : (t : Text) → look (kinds S) t ≡ Some sized → kinded_cell (size_name Ps t) no_exs [] (declaration_of (decls S o h)
      (size_name Ps t)) ≡ (cell_ex false (size_name Ps t) no_exs, int_ty)
  size-kinded t e = ap (kinded_cell (size_name Ps t) no_exs []) (declared S o h (size_plan t (size_name Ps t)) (size-of t e) refl)

  -- The tables hold the sizes of given types.
  abbrev pub HoldSizes : Assignment → Names Table → Type 0
  HoldSizes p tc = (t : Text) → look (kinds S) t ≡ Some sized → look tc (size_name Ps t) ≡ Some (one_cell (pos (count_of p t sized)))

  -- Those of a parameter do.
  pub sizes-held : fault S ≡ None → (p : Assignment) (q : Names Table) → Instance S o p q → HoldSizes p q
  sizes-held f p q I t e =
      let n : Text = size_name Ps t in
      let i = in-filtered (is_on givens_side) (size_plan t n) Ps (size-of t e) refl in
      let g = given-plan S o (ground S o h f) p q I (size_plan t n) i in
      only-table (look q n) g.0 (one_cell (pos (length g.1.0))) g.1.2 g.2
      ∙ ap (λ o. Some (one_cell (pos (length (list_or_none o))))) (sym g.1.1)

  -- And with further tables.
  pub sizes-behind : (p : Assignment) (q c : Names Table) → HoldSizes p q → HoldSizes p (q ++ c)
  sizes-behind p q c w t e = look-left q c (size_name Ps t) (one_cell (pos (count_of p t sized))) (w t e)

  -- ---- axes

  -- The domain of the members over tables is closed to that with positions.
  pub axis-closed : (p : Assignment) (tc : Names Table) → HoldSizes p tc → {A : Dom} (m : MemberDom (kinds S) A) →
      model_domain (decls S o h) tc (axis_of_set (kinds S) Ps (set_dom [] no_exs A)) ≡ Some (placed_members p m)
  axis-closed p tc w of_numbers = refl
  axis-closed p tc w of_truths = refl
  axis-closed p tc w (of_type {t = t} {k = k} e) = ap (λ z. model_domain (decls S o h) tc (axis_for Ps t z)) e ∙ go k e
    where
      go : (k : TypeKind) → look (kinds S) t ≡ Some k →
          model_domain (decls S o h) tc (axis_for Ps t (Some k)) ≡ Some (between (pos 1) (pos (count_of p t k)))
      go (fixed n) e = refl
      go sized e =
          ap (λ c. domain_of (int_dom (both_ends ∷ []) (more_exs (number_ex (pos 1)) (more_exs (as_bound c) no_exs))) (env_of_tables tc))
          (size-kinded t e)
          ∙ ap (λ o. option_map integers (spans_of (both_ends ∷ []) (Some (number (pos 1)) ∷ cell_in false o (Some []) ∷ []))) (w t e)

  -- The axis of truth values is that of 0 and 1; others stay.
  pub axis-stays : (t : Text) (k : TypeKind) → axis_dom (axis_for Ps t (Some k)) ≡ axis_for Ps t (Some k)
  axis-stays t (fixed n) = refl
  axis-stays t sized = refl

  -- The declared axis has the codes of the members.
  pub axis-right : (p : Assignment) (tc : Names Table) → HoldSizes p tc → {A : Dom} (m : MemberDom (kinds S) A) →
      each_of (axis_dom (axis_of_set (kinds S) Ps (set_dom [] no_exs A)) ∷ []) (λ a. axis_members (model_domain (decls S o h) tc a))
      ≡ Some (codes_of (placed_members p m) ∷ [])
  axis-right p tc w of_numbers = refl
  axis-right p tc w of_truths = refl
  axis-right p tc w (of_type {t = t} {k = k} e) =
      ap (λ z. each_of (axis_dom (axis_for Ps t z) ∷ []) (λ a. axis_members (model_domain (decls S o h) tc a))) e
      ∙ ap (λ D. each_of (D ∷ []) (λ a. axis_members (model_domain (decls S o h) tc a))) (axis-stays t k)
      ∙ ap (λ z. each_of (axis_for Ps t z ∷ []) (λ a. axis_members (model_domain (decls S o h) tc a))) (sym e)
      ∙ ap (λ o. and_then (axis_members o) (λ y. Some (y ∷ []))) (axis-closed p tc w (of_type {t = t} {k = k} e))

  -- So the members can be listed.
  pub axis-listed : (p : Assignment) (tc : Names Table) → HoldSizes p tc → {A : Dom} (m : MemberDom (kinds S) A) →
      members_in (model_domain (decls S o h) tc (axis_of_set (kinds S) Ps (set_dom [] no_exs A))) ≡ Some (member_list (placed_members p m))
  axis-listed p tc w of_numbers = refl
  axis-listed p tc w of_truths = refl
  axis-listed p tc w (of_type {t = t} {k = k} e) = ap members_in (axis-closed p tc w (of_type {t = t} {k = k} e))
