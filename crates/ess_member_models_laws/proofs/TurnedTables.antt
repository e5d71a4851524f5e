-- Tables as the program declares them, where an axis of truth values is one of 0 and 1, have the members of those that are known to be
-- right;
-- they spell constants alone, and stay small.
use Rattle.std.proofs.Common.{◌≡◌, refl, sym, ap, ◌∙◌, subst, ℕ, Bool, true, false, ◌||◌, not, List, [], ◌∷◌, ◌++◌, map, Some}
use Rattle.std.specs.List.{list_any}
use Rattle.ess_semantics.specs.Lists.{and_then, each_of}
use Rattle.ess_semantics.specs.Values.{Text}
use Rattle.ess_semantics.specs.Names.{Names, look}
use Rattle.ess_semantics.specs.Trees.{bool_dom, Stm}
use Rattle.ess_semantics.specs.Contexts.{Each}
use Rattle.ess_semantics.specs.Meaning.{domain_of}
use Rattle.ess_semantics.specs.Assignments.{Assignment}
use Rattle.ess_semantics.specs.DeclaredTables.{decl_name, axis_members, DeclaredAs}
use Rattle.ess_semantics.specs.Tables.{Table}
use Rattle.ess_semantics.specs.Constants.{parts_of_decl}
use Rattle.ess_semantics.specs.Plans.{Plan, plans, plans_for, givens_side, finds_side}
use Rattle.ess_semantics.specs.ModelTrees.{Model, all_decls}
use Rattle.ess_semantics.specs.ModelMeaning.{env_of_tables, model_domain}
use Rattle.ess_semantics.specs.Declarations.{Declaration}
use Rattle.ess_semantics.specs.LargeModels.{dom_is_large, decl_is_large, declares_large}
use Rattle.ess_semantics.specs.Large.{is_large_dom}
use Rattle.ess_repr_declare_laws.specs.DeclaredTrees.{axis_dom}
use Rattle.conjure_laws.specs.Premises.{is_on}
use Rattle.conjure_laws.specs.ModelPremises.{spelled}
use Rattle.conjure_laws.specs.SetsOfAtoms.{Atom, range, boolean, typed, Line, spec, TypeKind, fixed, sized, none_declared, after_all}
use Rattle.conjure_laws.specs.ModelsOfSets.{no_options, axis_for, decl_of, model_of}
use Rattle.conjure_laws.proofs.SetScopes.{Fine}
use Rattle.conjure_laws.proofs.SetFacts.{AtomFact}
use Rattle.conjure_laws.proofs.SetPlans.{PlanFact, size_fact, occ_fact, some-facts}
use Rattle.conjure_laws.proofs.SetDeclarations.{unfound}
use Rattle.ess_member_models_laws.specs.MemberModels.{axis_at, table_decl}
use Rattle.ess_member_models_laws.proofs.MemberTables.{new_decls as decls_as_declared, kinded-same}

module _ (T : List Line) (ok : Fine none_declared T) where
  abbrev S' : List Stm
  S' = spec T

  abbrev ks : Names TypeKind
  ks = (after_all T none_declared).types

  abbrev vs : Names (Text × ℕ)
  vs = (after_all T none_declared).values

  abbrev Ps : List Plan
  Ps = plans S' no_options

  abbrev E : Model
  E = model_of T

  abbrev Gs : List Plan
  Gs = plans_for givens_side S' no_options

  abbrev Fs : List Plan
  Fs = plans_for finds_side S' no_options

  -- Axes have the same members.
  axis-turned : (p : Assignment) (q : Names Table) (A : Atom) → AtomFact T ok A →
      each_of (axis_dom (axis_at T A) ∷ []) (λ a. axis_members (model_domain (decls_as_declared T ok) q a))
      ≡ each_of (axis_at T A ∷ []) (λ a. axis_members (model_domain (all_decls E) q a))
  axis-turned p q (range a b) f = refl
  axis-turned p q boolean f = refl
  axis-turned p q (typed t) f = ap (λ D. each_of (D ∷ []) (λ a. axis_members (model_domain (decls_as_declared T ok) q a)))
      (same-axis f.0 f.1)
      ∙ ap (λ D. and_then (axis_members (domain_of D (env_of_tables q))) (λ y. Some (y ∷ []))) (kinded-same T ok p (typed t) f)
    where
      same-axis : (k : TypeKind) → look ks t ≡ Some k → axis_dom (axis_at T (typed t)) ≡ axis_at T (typed t)
      same-axis k e = subst (λ o. axis_dom (axis_for Ps t o) ≡ axis_for Ps t o) (sym e) (go k)
        where
          go : (k : TypeKind) → axis_dom (axis_for Ps t (Some k)) ≡ axis_for Ps t (Some k)
          go (fixed n) = refl
          go sized = refl

  pub finds-turned : (p : Assignment) (q : Names Table) (Qs : List Plan) → Each Qs (PlanFact T ok) → (Ds : List Declaration) →
      DeclaredAs (model_domain (all_decls E) q) (map (decl_of ks Ps) Qs) Ds →
      DeclaredAs (model_domain (decls_as_declared T ok) q) (map (table_decl T) Qs) Ds
  finds-turned p q [] h [] w = tt
  finds-turned p q [] h (D ∷ Ds) w = absurd w
  finds-turned p q (P ∷ Qs) h [] w = absurd w
  finds-turned p q (P ∷ Qs) h (D ∷ Ds) w = go P h.0 w (finds-turned p q Qs h.1 Ds w.2)
    where
      go : (P : Plan) → PlanFact T ok P → DeclaredAs (model_domain (all_decls E) q) (decl_of ks Ps P ∷ map (decl_of ks Ps) Qs) (D ∷ Ds) →
          DeclaredAs (model_domain (decls_as_declared T ok) q) (map (table_decl T) Qs) Ds →
          DeclaredAs (model_domain (decls_as_declared T ok) q) (table_decl T P ∷ map (table_decl T) Qs) (D ∷ Ds)
      go P (size_fact t n e) w r = subst (λ P. DeclaredAs (model_domain (all_decls E) q) (decl_of ks Ps P ∷ map (decl_of ks Ps) Qs)
          (D ∷ Ds) →
          DeclaredAs (model_domain (decls_as_declared T ok) q) (table_decl T P ∷ map (table_decl T) Qs) (D ∷ Ds)) (sym e)
          (λ w. (w.0, w.1, r)) w
      go P (occ_fact x A n e f) w r = subst (λ P. DeclaredAs (model_domain (all_decls E) q) (decl_of ks Ps P ∷ map (decl_of ks Ps) Qs)
          (D ∷ Ds) →
          DeclaredAs (model_domain (decls_as_declared T ok) q) (table_decl T P ∷ map (table_decl T) Qs) (D ∷ Ds)) (sym e)
          (λ w. (axis-turned p q A f ∙ w.0, w.1, r)) w

  pub givens-turned : (p : Assignment) (q : Names Table) (Qs : List Plan) → Each Qs (PlanFact T ok) →
      Each Qs (λ P. is_on finds_side P ≡ false) →
      (Ds : List Declaration) → DeclaredAs (model_domain (all_decls E) q) (map (decl_of ks Ps) Qs) Ds →
      DeclaredAs (model_domain (decls_as_declared T ok) q) (map (decl_of ks Ps) Qs) Ds
  givens-turned p q [] h o [] w = tt
  givens-turned p q [] h o (D ∷ Ds) w = absurd w
  givens-turned p q (P ∷ Qs) h o [] w = absurd w
  givens-turned p q (P ∷ Qs) h o (D ∷ Ds) w = go P h.0 o.0 w (givens-turned p q Qs h.1 o.1 Ds w.2)
    where
      go : (P : Plan) → PlanFact T ok P → is_on finds_side P ≡ false →
          DeclaredAs (model_domain (all_decls E) q) (decl_of ks Ps P ∷ map (decl_of ks Ps) Qs) (D ∷ Ds) →
          DeclaredAs (model_domain (decls_as_declared T ok) q) (map (decl_of ks Ps) Qs) Ds →
          DeclaredAs (model_domain (decls_as_declared T ok) q) (decl_of ks Ps P ∷ map (decl_of ks Ps) Qs) (D ∷ Ds)
      go P (size_fact t n e) o w r = subst (λ P. DeclaredAs (model_domain (all_decls E) q) (decl_of ks Ps P ∷ map (decl_of ks Ps) Qs)
          (D ∷ Ds) →
          DeclaredAs (model_domain (decls_as_declared T ok) q) (decl_of ks Ps P ∷ map (decl_of ks Ps) Qs) (D ∷ Ds)) (sym e)
          (λ w. (w.0, w.1, r)) w
      go P (occ_fact x A n e f) o w r = let z : true ≡ false = ap (is_on finds_side) (sym e) ∙ o in cc

  pub new-names : (Qs : List Plan) → Each Qs (PlanFact T ok) → map decl_name (map (table_decl T) Qs)
      ≡ map decl_name (map (decl_of ks Ps) Qs)
  new-names [] h = refl
  new-names (P ∷ Qs) h = ap (λ l. decl_name (table_decl T P) ∷ l) (new-names Qs h.1)
      ∙ ap (λ n. n ∷ map decl_name (map (decl_of ks Ps) Qs)) (one P h.0)
    where
      one : (P : Plan) → PlanFact T ok P → decl_name (table_decl T P) ≡ decl_name (decl_of ks Ps P)
      one P (size_fact t n e) = subst (λ P. decl_name (table_decl T P) ≡ decl_name (decl_of ks Ps P)) (sym e) refl
      one P (occ_fact x A n e f) = subst (λ P. decl_name (table_decl T P) ≡ decl_name (decl_of ks Ps P)) (sym e) refl

  pub spelled-turned : (Qs : List Plan) → Each Qs (PlanFact T ok) →
      Each (map (decl_of ks Ps) Qs) (λ d. spelled S' (parts_of_decl d) ≡ true) →
      Each (map (table_decl T) Qs) (λ d. spelled S' (parts_of_decl d) ≡ true)
  spelled-turned [] h w = tt
  spelled-turned (P ∷ Qs) h w = (go P h.0 w.0, spelled-turned Qs h.1 w.1)
    where
      at : (A : Atom) (n : Text) → AtomFact T ok A → spelled S' (parts_of_decl (record {
        name = n;
        axes = axis_at T A ∷ [];
        cell =
            bool_dom;
      })) ≡ true →
          spelled S' (parts_of_decl (record { name = n; axes = axis_dom (axis_at T A) ∷ []; cell = bool_dom })) ≡ true
      at (range a b) n f w = w
      at boolean n f w = refl
      at (typed t) n f w = subst (λ o. spelled S' (parts_of_decl (record {
        name = n;
        axes = axis_for Ps t o ∷ [];
        cell =
            bool_dom;
      })) ≡ true →
          spelled S' (parts_of_decl (record {
            name = n;
            axes = axis_dom (axis_for Ps t o) ∷ [];
            cell =
                bool_dom;
          })) ≡ true) (sym f.1) (by f.0) w
        where
          by : (k : TypeKind) → spelled S' (parts_of_decl (record {
            name = n;
            axes = axis_for Ps t (Some k) ∷ [];
            cell =
                bool_dom;
          })) ≡ true →
              spelled S' (parts_of_decl (record { name = n; axes = axis_dom (axis_for Ps t (Some k)) ∷ []; cell = bool_dom })) ≡ true
          by (fixed m) w = w
          by sized w = w

      go : (P : Plan) → PlanFact T ok P → spelled S' (parts_of_decl (decl_of ks Ps P)) ≡ true →
          spelled S' (parts_of_decl (table_decl T P)) ≡ true
      go P (size_fact t n e) w = subst (λ P. spelled S' (parts_of_decl (decl_of ks Ps P)) ≡ true →
          spelled S' (parts_of_decl (table_decl T P)) ≡ true)
          (sym e) (λ w. w) w
      go P (occ_fact x A n e f) w = subst (λ P. spelled S' (parts_of_decl (decl_of ks Ps P)) ≡ true →
          spelled S' (parts_of_decl (table_decl T P)) ≡ true) (sym e) (at A n f) w

  -- ---- small domains

  pub not-no : (b : Bool) → not b ≡ true → b ≡ false
  not-no false e = refl
  not-no true e = let z : false ≡ true = e in cc

  left-no : (a b : Bool) → a || b ≡ false → a ≡ false
  left-no false b e = refl
  left-no true b e = let z : true ≡ false = e in cc

  right-no : (a b : Bool) → a || b ≡ false → b ≡ false
  right-no false b e = e
  right-no true b e = let z : true ≡ false = e in cc

  axis-small : (p : Assignment) (q : Names Table) (A : Atom) → AtomFact T ok A → dom_is_large (all_decls E) q (axis_at T A) ≡ false →
      dom_is_large (decls_as_declared T ok) q (axis_dom (axis_at T A)) ≡ false
  axis-small p q (range a b) f h = h
  axis-small p q boolean f h = refl
  axis-small p q (typed t) f h =
      ap (dom_is_large (decls_as_declared T ok) q) (same-axis f.0 f.1)
      ∙ ap (λ D. is_large_dom D (env_of_tables q)) (kinded-same T ok p (typed t) f) ∙ h
    where
      same-axis : (k : TypeKind) → look ks t ≡ Some k → axis_dom (axis_at T (typed t)) ≡ axis_at T (typed t)
      same-axis k e = subst (λ o. axis_dom (axis_for Ps t o) ≡ axis_for Ps t o) (sym e) (go k)
        where
          go : (k : TypeKind) → axis_dom (axis_for Ps t (Some k)) ≡ axis_for Ps t (Some k)
          go (fixed n) = refl
          go sized = refl

  finds-small : (p : Assignment) (q : Names Table) (Qs : List Plan) → Each Qs (PlanFact T ok) →
      list_any (decl_is_large (all_decls E) q) (map (decl_of ks Ps) Qs) ≡ false →
      list_any (decl_is_large (decls_as_declared T ok) q) (map (table_decl T) Qs) ≡ false
  finds-small p q [] h w = refl
  finds-small p q (P ∷ Qs) h w =
      let a : Bool = decl_is_large (all_decls E) q (decl_of ks Ps P) in
      let b : Bool = list_any (decl_is_large (all_decls E) q) (map (decl_of ks Ps) Qs) in
      ap (λ z. z || list_any (decl_is_large (decls_as_declared T ok) q) (map (table_decl T) Qs)) (go P h.0 (left-no a b w))
      ∙ finds-small p q Qs h.1 (right-no a b w)
    where
      go : (P : Plan) → PlanFact T ok P → decl_is_large (all_decls E) q (decl_of ks Ps P) ≡ false →
          decl_is_large (decls_as_declared T ok) q (table_decl T P) ≡ false
      go P (size_fact t n e) w = subst (λ P. decl_is_large (all_decls E) q (decl_of ks Ps P) ≡ false →
          decl_is_large (decls_as_declared T ok) q (table_decl T P) ≡ false) (sym e) (λ w. w) w
      go P (occ_fact x A n e f) w = subst (λ P. decl_is_large (all_decls E) q (decl_of ks Ps P) ≡ false →
          decl_is_large (decls_as_declared T ok) q (table_decl T P) ≡ false) (sym e)
          (λ w. ap (λ z. (z || false) || false) (axis-small p q A f
          (left-no (dom_is_large (all_decls E) q (axis_at T A)) false
          (left-no (dom_is_large (all_decls E) q (axis_at T A) || false) false w)))) w

  givens-small : (q : Names Table) (Qs : List Plan) → Each Qs (PlanFact T ok) → Each Qs (λ P. is_on finds_side P ≡ false) →
      list_any (decl_is_large (decls_as_declared T ok) q) (map (decl_of ks Ps) Qs) ≡ false
  givens-small q [] h o = refl
  givens-small q (P ∷ Qs) h o =
      ap (λ z. z || list_any (decl_is_large (decls_as_declared T ok) q) (map (decl_of ks Ps) Qs)) (go P h.0 o.0) ∙ givens-small q Qs h.1 o.1
    where
      go : (P : Plan) → PlanFact T ok P → is_on finds_side P ≡ false → decl_is_large (decls_as_declared T ok) q (decl_of ks Ps P) ≡ false
      go P (size_fact t n e) o = subst (λ P. decl_is_large (decls_as_declared T ok) q (decl_of ks Ps P) ≡ false) (sym e) refl
      go P (occ_fact x A n e f) o = let z : true ≡ false = ap (is_on finds_side) (sym e) ∙ o in cc

  any-append : {A : Type 0} (f : A → Bool) (xs ys : List A) → list_any f (xs ++ ys) ≡ list_any f xs || list_any f ys
  any-append f [] ys = refl
  any-append f (x ∷ xs) ys = go (f x) (any-append f xs ys)
    where
      go : (b : Bool) → list_any f (xs ++ ys) ≡ list_any f xs || list_any f ys →
          b || list_any f (xs ++ ys) ≡ (b || list_any f xs) || list_any f ys
      go true h = refl
      go false h = h

  pub new-small : (p : Assignment) (q : Names Table) → declares_large E q ≡ false →
      list_any (decl_is_large (decls_as_declared T ok) q) (decls_as_declared T ok) ≡ false
  new-small p q h =
      any-append (decl_is_large (decls_as_declared T ok) q) (map (decl_of ks Ps) Gs) (map (table_decl T) Fs)
      ∙ ap (λ z. z || list_any (decl_is_large (decls_as_declared T ok) q) (map (table_decl T) Fs))
      (givens-small q Gs (some-facts T ok (is_on givens_side)) (unfound T ok))
      ∙ finds-small p q Fs (some-facts T ok (is_on finds_side))
      (right-no (list_any (decl_is_large (all_decls E) q) (map (decl_of ks Ps) Gs)) (list_any (decl_is_large (all_decls E) q) (map
      (decl_of ks Ps) Fs))
      (sym (any-append (decl_is_large (all_decls E) q) (map (decl_of ks Ps) Gs) (map (decl_of ks Ps) Fs)) ∙ h))
