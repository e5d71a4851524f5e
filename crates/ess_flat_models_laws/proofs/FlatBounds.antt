-- The domains of a specification of the class, and those of its model: they have the same members under each parameter. So the model
-- declares the tables of the plans.
use Rattle.std.proofs.Common.{◌≡◌, refl, sym, ap, ◌∙◌, subst, Bool, true, List, [], ◌∷◌, ◌++◌, inl, inr, map, Option, Some, None, option_map}
use Rattle.ess_semantics.specs.Lists.{append_all, list_or_none}
use Rattle.ess_semantics.specs.Values.{Text}
use Rattle.ess_semantics.specs.Names.{Names}
use Rattle.ess_semantics.specs.Trees.{Exs, no_exs, more_exs, Dom, bool_dom, int_dom, Stm, given, find}
use Rattle.ess_semantics.specs.Domains.{Domain, booleans, integers}
use Rattle.ess_semantics.specs.Tables.{Table}
use Rattle.ess_semantics.specs.Declarations.{Declaration, declarations}
use Rattle.ess_semantics.specs.DeclaredTables.{TableDecl, SameMembers, DeclaredAs}
use Rattle.ess_semantics.specs.Contexts.{Each}
use Rattle.ess_semantics.specs.Meaning.{Env, domain_of, spans_of, is_bool_dom}
use Rattle.ess_semantics.specs.Meets.{MeetsDom}
use Rattle.ess_semantics.specs.Positions.{domain_with_positions}
use Rattle.ess_semantics.specs.Prepared.{prepared}
use Rattle.ess_semantics.specs.Assignments.{Assignment}
use Rattle.ess_semantics.specs.Parameters.{all_declared}
use Rattle.ess_semantics.specs.Judgements.{fault}
use Rattle.ess_semantics.specs.Plans.{Options, Side, givens_side, finds_side, Plan, value_plan, plans, plans_for, declared_by_plan}
use Rattle.ess_semantics.specs.ModelTrees.{Model, all_decls}
use Rattle.ess_semantics.specs.ModelMeaning.{kinded_dom, as_bound, bounds_of, env_of_tables, model_domain}
use Rattle.ess_semantics.specs.Models.{with_cells, all_with_cells}
use Rattle.ess_semantics.proofs.Tests.{and-left}
use Rattle.conjure_laws.specs.Members.{In}
use Rattle.conjure_laws.specs.Premises.{Instance, here, is_on}
use Rattle.conjure_laws.specs.ModelPremises.{DeclaresTables, Base}
use Rattle.conjure_laws.proofs.Lists.{at-item, each-of-list, in-filter}
use Rattle.conjure_laws.proofs.Statements.{plan-is-found}
use Rattle.conjure_laws.proofs.Givens.{given-from}
use Rattle.ess_flat_laws.specs.Flat.{none_marked}
use Rattle.ess_flat_models_laws.specs.FlatSpecifications.{given_mark, is_scalar_dom, is_flat_statement, are_flat_statements}
use Rattle.ess_flat_models_laws.specs.FlatModels.{dom_with_cells, decl_of, flat_model}
use Rattle.ess_flat_models_laws.proofs.Reckoned.{AllReckoned, reckoned-flat, cells-reckoned, bounds-reckoned, ranges-are, bounds-with-cells, bounds-meet, Numbered, Held}
use Rattle.ess_flat_models_laws.proofs.ScalarDomains.{Atom, Scalar, of_truths, of_numbers, shape-of, closed-scalar}
use Rattle.ess_flat_models_laws.proofs.FlatPlans.{AtomPlan, some-atoms, ground}
use Rattle.ess_flat_models_laws.proofs.FlatNames.{no-yes}
use Rattle.ess_flat_models_laws.proofs.FlatLayers.{decl-names}
use Rattle.ess_flat_models_laws.proofs.FlatDeclared.{cells, given-cells, cells-kinded}
use Rattle.ess_flat_models_laws.proofs.FlatKinds.{flat-kinded}
use Rattle.ess_flat_models_laws.proofs.GivenValues.{numbered, held}

-- ---- domains of scalars, in an env in which givens have values

-- The domain is closed.
pub dom-closed : (g : Text → Option Bool) (env : Env) → Numbered g env → (d : Dom) → is_scalar_dom g d ≡ true →
    (e : Domain) × (domain_of d env ≡ Some e)
dom-closed g env q bool_dom h = (booleans, refl)
dom-closed g env q (int_dom rs es) h = let r = ranges-are g env q rs es h in (integers r.0, ap (option_map integers) r.1)
dom-closed g env q d h = absurd (no-yes h)

-- With cells it is closed to the same.
pub dom-same : (g : Text → Option Bool) (Ps : List Plan) (env there : Env) → Held g Ps env there → (d : Dom) →
    is_scalar_dom g d ≡ true → domain_of (dom_with_cells Ps d) there ≡ domain_of d env
dom-same g Ps env there q bool_dom h = refl
dom-same g Ps env there q (int_dom rs es) h =
    ap (λ l. option_map integers (spans_of rs l)) (bounds-with-cells g Ps env there q es (bounds-reckoned g rs es h))
dom-same g Ps env there q d h = absurd (no-yes h)

pub dom-meets : (g : Text → Option Bool) (Ps : List Plan) (d : Dom) → is_scalar_dom g d ≡ true → (env : Env) →
    MeetsDom (dom_with_cells Ps d) env
dom-meets g Ps bool_dom h env = tt
dom-meets g Ps (int_dom rs es) h env = bounds-meet g Ps es (bounds-reckoned g rs es h) env
dom-meets g Ps d h env = absurd (no-yes h)

module _ (S : List Stm) (o : Options) (h : are_flat_statements S o ≡ true) where
  abbrev Ps : List Plan
  Ps = plans S o

  abbrev E : Model
  E = flat_model S o

  -- The domain of a plan is one of scalars.
  pub plan-bounds : (f : Side) (x : Text) (d : Dom) (n : Text) → In (value_plan f x Atom d ((n, 0) ∷ [])) Ps →
      is_scalar_dom (given_mark Ps) d ≡ true
  plan-bounds givens_side x d n i =
      and-left (is_scalar_dom (given_mark Ps) d) _
      (at-item (λ s. is_flat_statement Ps o s ≡ true) (prepared S) (given x d) (each-of-list (prepared S) (is_flat_statement Ps o) h)
      (given-from (prepared S) o (all_declared S) _ x Atom d ((n, 0) ∷ []) i))
  plan-bounds finds_side x d n i =
      and-left (is_scalar_dom (given_mark Ps) d) _
      (at-item (λ s. is_flat_statement Ps o s ≡ true) (prepared S) (find x d) (each-of-list (prepared S) (is_flat_statement Ps o) h)
      (plan-is-found S o x Atom d ((n, 0) ∷ []) i))

  bounds-stay : (es : Exs) → AllReckoned (given_mark Ps) es → bounds_of (all_decls E) (all_with_cells Ps es) [] ≡ all_with_cells Ps es
  bounds-stay no_exs w = refl
  bounds-stay (more_exs e es) w =
      ap (λ k. more_exs (as_bound k) (bounds_of (all_decls E) (all_with_cells Ps es) []))
      (flat-kinded (cells S o h) (all_decls E) (cells-kinded S o h)
      (reckoned-flat none_marked (cells S o h) (cells-reckoned (given_mark Ps) Ps (cells S o h) (given-cells S o h) w.0)))
      ∙ ap (more_exs (with_cells Ps e)) (bounds-stay es w.1)

  -- A domain with cells is that of models.
  pub dom-stays : (d : Dom) → is_scalar_dom (given_mark Ps) d ≡ true →
      kinded_dom (all_decls E) (dom_with_cells Ps d) [] ≡ dom_with_cells Ps d
  dom-stays bool_dom w = refl
  dom-stays (int_dom rs es) w = ap (int_dom rs) (bounds-stay es (bounds-reckoned (given_mark Ps) rs es w))
  dom-stays d w = absurd (no-yes w)

  module _ (t : fault S ≡ None) (p : Assignment) (q : Names Table) (I : Instance S o p q) where
    -- The declaration of a plan's cell has the members of its domain.
    decl-is : (P : Plan) → AtomPlan P → In P Ps → (ts : List TableDecl) (ds : List Declaration) →
        DeclaredAs (model_domain (all_decls E) q) ts ds →
        DeclaredAs (model_domain (all_decls E) q) (decl_of Ps P ∷ ts) (declared_by_plan (here S p) P ++ ds)
    decl-is P w i ts ds k =
        subst (λ P. DeclaredAs (model_domain (all_decls E) q) (decl_of Ps P ∷ ts) (declared_by_plan (here S p) P ++ ds)) (sym w.is)
        (go w.f w.x w.d w.n (subst (λ P. In P Ps) w.is i))
      where
        go : (f : Side) (x : Text) (d : Dom) (n : Text) → In (value_plan f x Atom d ((n, 0) ∷ [])) Ps →
            DeclaredAs (model_domain (all_decls E) q) (decl_of Ps (value_plan f x Atom d ((n, 0) ∷ [])) ∷ ts)
            (declared_by_plan (here S p) (value_plan f x Atom d ((n, 0) ∷ [])) ++ ds)
        go f x d n i =
            let b = plan-bounds f x d n i in
            let r = dom-closed (given_mark Ps) (here S p) (numbered S o h t p q I) d b in
            let m : model_domain (all_decls E) q (dom_with_cells Ps d) ≡ Some r.0 =
            ap (λ c. domain_of c (env_of_tables q)) (dom-stays d b)
            ∙ dom-same (given_mark Ps) Ps (here S p) (env_of_tables q) (held S o h t p q I (env_of_tables q) (λ n t e. e)) d b ∙ r.1 in
            subst (λ o. DeclaredAs (model_domain (all_decls E) q) (decl_of Ps (value_plan f x Atom d ((n, 0) ∷ [])) ∷ ts)
            (list_or_none (option_map (declarations Atom) (option_map domain_with_positions o)) ++ ds)) (sym r.1)
            (at r.0 (is_bool_dom d) (closed-scalar d (here S p) r.0 (shape-of (given_mark Ps) d b) r.1) m)
          where
            at : (e : Domain) (b : Bool) → Scalar e b → model_domain (all_decls E) q (dom_with_cells Ps d) ≡ Some e →
                DeclaredAs (model_domain (all_decls E) q) (decl_of Ps (value_plan f x Atom d ((n, 0) ∷ [])) ∷ ts)
                (declarations Atom (domain_with_positions e) ++ ds)
            at e b of_truths m = (refl, subst (λ o. SameMembers o e) (sym m) (λ k. refl), k)
            at e b of_numbers m = (refl, subst (λ o. SameMembers o e) (sym m) (λ k. refl), k)

    decls-are : (Qs : List Plan) → Each Qs AtomPlan → ((P : Plan) → In P Qs → In P Ps) →
        DeclaredAs (model_domain (all_decls E) q) (map (decl_of Ps) Qs) (append_all (map (declared_by_plan (here S p)) Qs))
    decls-are [] w i = tt
    decls-are (P ∷ Qs) w i =
        decl-is P w.0 (i P (inl refl)) (map (decl_of Ps) Qs) (append_all (map (declared_by_plan (here S p)) Qs))
        (decls-are Qs w.1 (λ Q j. i Q (inr j)))

  -- The model declares the tables of the plans.
  pub declares : fault S ≡ None → DeclaresTables S o E
  declares t = record {
    given_names = decl-names Ps (plans_for givens_side S o) (some-atoms S o h (is_on givens_side));
    find_names = decl-names Ps (plans_for finds_side S o) (some-atoms S o h (is_on finds_side));
    given_domains = λ p q I. decls-are t p q I (plans_for givens_side S o) (some-atoms S o h (is_on givens_side))
        (λ P i. (in-filter (is_on givens_side) P Ps i).0);
    find_domains = λ p q I. decls-are t p q I (plans_for finds_side S o) (some-atoms S o h (is_on finds_side))
        (λ P i. (in-filter (is_on finds_side) P Ps i).0);
  }

  -- What speaks of no rule.
  pub base : fault S ≡ None → Base S o E
  base t = record { ground = ground S o h t; declares = declares t }
