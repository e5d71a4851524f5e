-- The model of a specification of sets declares its tables: sizes of given types, and a truth value for each member.
use Rattle.std.proofs.Common.{◌≡◌, refl, sym, ap, ◌∙◌, subst, ℕ, true, false, List, [], ◌∷◌, ◌++◌, map, length, pos, inl, inr, Some, option_map}
use Rattle.ess_semantics.specs.Lists.{append_all, and_then, list_or_none, each_of}
use Rattle.ess_semantics.specs.Values.{Text, number}
use Rattle.ess_semantics.specs.Names.{Names, look}
use Rattle.ess_semantics.specs.Trees.{both_ends, number_ex, no_exs, more_exs, bool_dom, int_dom, Stm}
use Rattle.ess_semantics.specs.Domains.{integers, between}
use Rattle.ess_semantics.specs.Tables.{Table, one_cell}
use Rattle.ess_semantics.specs.Meaning.{domain_of, cell_in, is_bool_dom, spans_of}
use Rattle.ess_semantics.specs.Assignments.{Assignment}
use Rattle.ess_semantics.specs.Contexts.{Each}
use Rattle.conjure_laws.proofs.Lists.{all-items, in-filter}
use Rattle.conjure_laws.specs.Members.{In}
use Rattle.conjure_laws.specs.Premises.{Instance, here, is_on}
use Rattle.conjure_laws.specs.ModelPremises.{DeclaresTables, Base}
use Rattle.ess_semantics.specs.Layers.{codes_of}
use Rattle.ess_semantics.specs.DeclaredTables.{axis_members, DeclaredAs}
use Rattle.ess_semantics.specs.Plans.{Plan, size_plan, plans, plans_for, declared_by_plan, givens_side, finds_side, Side, same_side, side_of}
use Rattle.ess_semantics.specs.ModelTrees.{Model, all_decls}
use Rattle.ess_semantics.specs.Declarations.{Declaration, declarations}
use Rattle.ess_semantics.specs.ModelMeaning.{model_domain, env_of_tables, as_bound}
use Rattle.conjure_laws.specs.SetsOfAtoms.{Atom, Line, range, typed, boolean, sets_of, spec, TypeKind, fixed, sized, none_declared, after_all}
use Rattle.conjure_laws.specs.ModelsOfSets.{no_options, size_name, axis_for, axis_of_set, decl_of, model_of}
use Rattle.conjure_laws.proofs.SetScopes.{Fine, count_of}
use Rattle.conjure_laws.proofs.SetPlans.{PlanFact, decl-names, size_fact, pos_at, some-facts, occ_fact, size-of, Occ, dom-closed, ground}
use Rattle.conjure_laws.proofs.SetFacts.{AtomFact}
use Rattle.conjure_laws.proofs.Givens.{given-plan}
use Rattle.ess_semantics.specs.Positions.{domain_with_positions}
use Rattle.conjure_laws.proofs.SetCells.{only-table, declared-size}

module _ (T : List Line) (ok : Fine none_declared T) where
  abbrev S' : List Stm
  S' = spec T

  abbrev ks : Names TypeKind
  ks = (after_all T none_declared).types

  abbrev vs : Names (Text × ℕ)
  vs = (after_all T none_declared).values

  abbrev Ps : List Plan
  Ps = plans S' no_options

  abbrev E : Model
  E = model_of T

  abbrev Gs : List Plan
  Gs = plans_for givens_side S' no_options

  abbrev Fs : List Plan
  Fs = plans_for finds_side S' no_options

  -- The declarations of sizes are of numbers.
  pub sizes-int : (Qs : List Plan) → Each Qs (PlanFact T ok) → Each Qs (λ P. is_on finds_side P ≡ false) →
      Each (map (decl_of ks Ps) Qs) (λ d. (d.axes ≡ []) × (is_bool_dom d.cell ≡ false))
  sizes-int [] h n = tt
  sizes-int (P ∷ Qs) h n = (go P h.0 n.0, sizes-int Qs h.1 n.1)
    where
      go : (P : Plan) → PlanFact T ok P → is_on finds_side P ≡ false →
          ((decl_of ks Ps P).axes ≡ []) × (is_bool_dom (decl_of ks Ps P).cell ≡ false)
      go P (size_fact t n e) f = subst (λ P. ((decl_of ks Ps P).axes ≡ []) × (is_bool_dom (decl_of ks Ps P).cell ≡ false)) (sym e)
          (refl, refl)
      go P (occ_fact x A n e a) f = let z : true ≡ false = ap (is_on finds_side) (sym e) ∙ f in cc

  -- A size's table is declared.
  pub named-size : (Qs : List Plan) (t n : Text) → In (size_plan t n) Qs → In n (map (λ d. d.name) (map (decl_of ks Ps) Qs))
  named-size [] t n i = absurd i
  named-size (P ∷ Qs) t n (inl e) = inl (ap (λ P. (decl_of ks Ps P).name) e)
  named-size (P ∷ Qs) t n (inr i) = inr (named-size Qs t n i)

  -- No plan of the givens is one of the finds.
  pub unfound : Each Gs (λ P. is_on finds_side P ≡ false)
  unfound = all-items (λ P. is_on finds_side P ≡ false) Gs (λ P i. go (side_of P) (in-filter (is_on givens_side) P Ps i).1)
    where
      go : (f : Side) → same_side f givens_side ≡ true → same_side f finds_side ≡ false
      go givens_side e = refl
      go finds_side e = cc

  -- The axis of a set has the members with positions.
  axis-right : (p : Assignment) (q : Names Table) → Instance S' no_options p q → (A : Atom) (f : AtomFact T ok A) →
      each_of (axis_of_set ks Ps (sets_of A) ∷ []) (λ a. axis_members (model_domain (all_decls E) q a)) ≡ Some
      (codes_of (pos_at T ok p A f) ∷ [])
  axis-right p q I (range a b) f = refl
  axis-right p q I boolean f = refl
  axis-right p q I (typed t) f = ap (λ o. each_of (axis_for Ps t o ∷ []) (λ a. axis_members (model_domain (all_decls E) q a))) f.1
      ∙ go f.0 f.1
    where
      go : (k : TypeKind) → look ks t ≡ Some k →
          each_of (axis_for Ps t (Some k) ∷ []) (λ a. axis_members (model_domain (all_decls E) q a)) ≡ Some
          (codes_of (between (pos 1) (pos (count_of p t k))) ∷ [])
      go (fixed n) e = refl
      go sized e =
          let n : Text = size_name Ps t in
          let i = size-of T ok t e in
          let g = given-plan S' no_options (ground T ok) p q I (size_plan t n) i in
          let tb = only-table (look q n) g.0 (one_cell (pos (length g.1.0))) g.1.2 g.2 in
          let k = declared-size (map (decl_of ks Ps) Gs) (map (decl_of ks Ps) Fs)
          (sizes-int Gs (some-facts T ok (is_on givens_side)) unfound) n (named-size Gs t n i) in
          let m : model_domain (all_decls E) q (axis_for Ps t (Some sized)) ≡ Some (between (pos 1) (pos (length g.1.0))) =
          ap (λ c. domain_of (int_dom (both_ends ∷ []) (more_exs (number_ex (pos 1)) (more_exs (as_bound c) no_exs)))
          (env_of_tables q)) k
          ∙ ap (λ o. option_map integers (spans_of (both_ends ∷ []) (Some (number (pos 1)) ∷ cell_in false o (Some []) ∷ []))) tb in
          ap (λ o. and_then (axis_members o) (λ y. Some (y ∷ []))) m
          ∙ ap (λ o. Some (codes_of (between (pos 1) (pos (length (list_or_none o)))) ∷ [])) (sym g.1.1)

  decls-are : (p : Assignment) (q : Names Table) → Instance S' no_options p q → (Qs : List Plan) → Each Qs (PlanFact T ok) →
      DeclaredAs (model_domain (all_decls E) q) (map (decl_of ks Ps) Qs) (append_all (map (declared_by_plan (here S' p)) Qs))
  decls-are p q I [] h = tt
  decls-are p q I (P ∷ Qs) h = go P h.0 (decls-are p q I Qs h.1)
    where
      rest : List Declaration
      rest = append_all (map (declared_by_plan (here S' p)) Qs)

      go : (P : Plan) → PlanFact T ok P → DeclaredAs (model_domain (all_decls E) q) (map (decl_of ks Ps) Qs) rest →
          DeclaredAs (model_domain (all_decls E) q) (decl_of ks Ps P ∷ map (decl_of ks Ps) Qs)
          (declared_by_plan (here S' p) P ++ rest)
      go P (size_fact t n e) r = subst (λ P. DeclaredAs (model_domain (all_decls E) q) (decl_of ks Ps P ∷ map (decl_of ks Ps) Qs)
          (declared_by_plan (here S' p) P ++ rest)) (sym e) (refl, λ k. refl, r)
      go P (occ_fact x A n e f) r = subst (λ P. DeclaredAs (model_domain (all_decls E) q) (decl_of ks Ps P ∷ map (decl_of ks Ps) Qs)
          (declared_by_plan (here S' p) P ++ rest)) (sym e)
          (subst (λ o. DeclaredAs (model_domain (all_decls E) q)
          (record { name = n; axes = axis_of_set ks Ps (sets_of A) ∷ []; cell = bool_dom } ∷ map (decl_of ks Ps) Qs)
          (list_or_none (option_map (declarations Occ) (option_map domain_with_positions o)) ++ rest))
          (sym (dom-closed T ok p A f)) (axis-right p q I A f, λ k. refl, r))

  -- The model declares the tables of the plans.
  pub declares : DeclaresTables S' no_options E
  declares = record {
    given_names = decl-names T ok Gs (some-facts T ok (is_on givens_side));
    find_names = decl-names T ok Fs (some-facts T ok (is_on finds_side));
    given_domains = λ p q I. decls-are p q I Gs (some-facts T ok (is_on givens_side));
    find_domains = λ p q I. decls-are p q I Fs (some-facts T ok (is_on finds_side));
  }

  -- What speaks of no rule.
  pub base : Base S' no_options E
  base = record { ground = ground T ok; declares = declares }
