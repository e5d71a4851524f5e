-- A model with the declarations of the class declares the tables of the plans; only nested sets have structures, and channels aren't asked.
use Rattle.std.proofs.Common.{◌≡◌, refl, sym, ap, ◌∙◌, subst, Bool, true, false, List, [], ◌∷◌, ◌++◌, inl, inr, map, filter, Option, Some, None, option_map}
use Rattle.ess_semantics.specs.Lists.{append_all, list_or_none}
use Rattle.ess_semantics.specs.Values.{Text}
use Rattle.ess_semantics.specs.Names.{Names, all_distinct}
use Rattle.ess_semantics.specs.TableNames.{table_names, named_tables}
use Rattle.ess_semantics.specs.Kinds.{fits}
use Rattle.ess_nested_laws.specs.NestedDomains.{is_nested_dom}
use Rattle.ess_nested_laws.proofs.NestedForms.{nested-form}
use Rattle.ess_nested_laws.proofs.NestedDenoted.{nested-denoted, nested-placed}
use Rattle.ess_semantics.specs.Trees.{Repr, Ex, no_exs, Dom, set_dom, bool_dom, Stm}
use Rattle.ess_semantics.specs.Domains.{Domain, sets}
use Rattle.ess_semantics.specs.Tables.{Table, Tables}
use Rattle.ess_semantics.specs.Cells.{cells_of}
use Rattle.ess_semantics.specs.Declarations.{Declaration, declarations}
use Rattle.ess_semantics.specs.DeclaredTables.{TableDecl, SameMembers, DeclaredAs}
use Rattle.ess_semantics.specs.CanonicalTest.{canonical}
use Rattle.ess_semantics.specs.Contexts.{Each}
use Rattle.ess_semantics.specs.Meaning.{Env, domain_of, is_bool_dom}
use Rattle.ess_semantics.specs.Positions.{domain_with_positions}
use Rattle.ess_semantics.specs.Assignments.{Assignment}
use Rattle.ess_semantics.specs.Solutions.{finds}
use Rattle.ess_semantics.specs.Judgements.{fault}
use Rattle.ess_semantics.specs.Plans.{Options, Side, givens_side, finds_side, Plan, same_side, size_plan, value_plan, side_of, plans, plans_for, value_names, declared_by_plan, is_plan_of}
use Rattle.ess_semantics.specs.ModelTrees.{Model, Goal}
use Rattle.ess_semantics.specs.ModelMeaning.{model_domain}
use Rattle.conjure_laws.specs.Members.{In}
use Rattle.conjure_laws.specs.SideBySide.{Along}
use Rattle.conjure_laws.specs.Premises.{Instance, here, is_on, tables_are}
use Rattle.conjure_laws.specs.ModelPremises.{DeclaresTables, Base, StructureMeans, ChannelsMean}
use Rattle.conjure_laws.specs.ModelsOfSets.{axis_of_set}
use Rattle.conjure_laws.proofs.Lists.{at-item, all-items, in-filter, along-left}
use Rattle.conjure_laws.proofs.Occurrence.{occurrence-structure}
use Rattle.conjure_laws.proofs.SetCells.{nones}
use Rattle.conjure_laws.proofs.SetChannels.{none_of}
use Rattle.conjure_laws.proofs.SetPlans.{Occ}
use Rattle.ess_repr_declare_laws.specs.DeclaredTrees.{axis_dom}
use Rattle.ess_flat_models_laws.specs.FlatModels.{dom_with_cells}
use Rattle.ess_flat_models_laws.proofs.ScalarDomains.{Atom, Scalar, of_truths as truths_scalar, of_numbers as numbers_scalar, is_shape, closed-plain, closed-scalar, atom-canonical}
use Rattle.ess_mixed_models_laws.specs.MixedSpecifications.{kinds, is_nested_plan, are_mixed_statements}
use Rattle.ess_mixed_models_laws.specs.MixedModels.{mixed_decl, nested_decls, mixed_decls, AreStructure}
use Rattle.ess_mixed_models_laws.proofs.NamedKinds.{no-yes, placed_members, atom-with, sets-closed}
use Rattle.ess_mixed_models_laws.proofs.MixedPlans.{PlanFact, size_fact, atom_fact, set_fact, nested_fact, some-facts, set-single, atom-single, ground}
use Rattle.ess_mixed_models_laws.proofs.NestedPlans.{nested-declared-as}
use Rattle.ess_mixed_models_laws.proofs.FoundPlans.{found-plan}
use Rattle.ess_mixed_models_laws.proofs.MixedCells.{single-decls, nested-decls, given-single, decls, givens-named, finds-named}
use Rattle.ess_mixed_models_laws.proofs.MixedGivens.{plan-bounds, scalar-closed, scalar-same}
use Rattle.ess_mixed_models_laws.proofs.MixedSizes.{sizes-held, axis-right}

-- The declaration of an atom is that of its plan.
atom-declared : (f : Dom → Option Domain) (env : Env) (d c : Dom) (n : Text) (s : Side) (x : Text) (ts : List TableDecl)
    (ds : List Declaration) (e : Domain) → is_shape d ≡ true → domain_of d env ≡ Some e → f c ≡ Some e → DeclaredAs f ts ds →
    DeclaredAs f (record { name = n; axes = []; cell = c } ∷ ts) (declared_by_plan env (value_plan s x Atom d ((n, 0) ∷ [])) ++ ds)
atom-declared f env d c n s x ts ds e h k q r =
    subst (λ z. DeclaredAs f (record { name = n; axes = []; cell = c } ∷ ts) (list_or_none (option_map (declarations Atom)
    (option_map domain_with_positions z)) ++ ds))
    (sym k) (at e (is_bool_dom d) (closed-scalar d env e h k) q r)
  where
    at : (e : Domain) (b : Bool) → Scalar e b → f c ≡ Some e → DeclaredAs f ts ds →
        DeclaredAs f (record { name = n; axes = []; cell = c } ∷ ts) (declarations Atom (domain_with_positions e) ++ ds)
    at e b truths_scalar q r = (refl, subst (λ z. SameMembers z e) (sym q) (λ k. refl), r)
    at e b numbers_scalar q r = (refl, subst (λ z. SameMembers z e) (sym q) (λ k. refl), r)

module _ (S : List Stm) (o : Options) (h : are_mixed_statements S o ≡ true) where
  abbrev Ps : List Plan
  Ps = plans S o

  abbrev Gs : List Plan
  Gs = plans_for givens_side S o

  abbrev Fs : List Plan
  Fs = plans_for finds_side S o

  abbrev decl : Plan → TableDecl
  decl P = mixed_decl (kinds S) Ps P

  abbrev decls_of : Plan → List TableDecl
  decls_of P = mixed_decls (kinds S) Ps P

  -- The model with this objective and these rules.
  abbrev pub model_with : Goal → List Ex → Model
  model_with g rs = record { givens = map decl Gs; finds = append_all (map decls_of Fs); goal = g; rules = rs }

  module _ (f : fault S ≡ None) where
    -- The tables of a plan are declared in front of others.
    abbrev Declared : (p : Assignment) (q : Names Table) → Plan → Type 0
    Declared p q P = (ts : List TableDecl) (ds : List Declaration) → DeclaredAs (model_domain (decls S o h) q) ts ds →
        DeclaredAs (model_domain (decls S o h) q) (decls_of P ++ ts) (declared_by_plan (here S p) P ++ ds)

    one-declared : (p : Assignment) (q : Names Table) (P : Plan) → is_nested_plan (kinds S) P ≡ false →
        ((ts : List TableDecl) (ds : List Declaration) → DeclaredAs (model_domain (decls S o h) q) ts ds →
        DeclaredAs (model_domain (decls S o h) q) (decl P ∷ ts) (declared_by_plan (here S p) P ++ ds)) → Declared p q P
    one-declared p q P k w ts ds r =
        subst (λ l. DeclaredAs (model_domain (decls S o h) q) (l ++ ts) (declared_by_plan (here S p) P ++ ds)) (sym (single-decls S o P k))
        (w ts ds r)

    both-declared : (f : Dom → Option Domain) (ts us : List TableDecl) (ds es : List Declaration) → DeclaredAs f ts ds →
        DeclaredAs f us es → DeclaredAs f (ts ++ us) (ds ++ es)
    both-declared f [] us [] es a b = b
    both-declared f [] us (d ∷ ds) es a b = absurd a
    both-declared f (t ∷ ts) us [] es a b = absurd a
    both-declared f (t ∷ ts) us (d ∷ ds) es a b = (a.0, a.1, both-declared f ts us ds es a.2 b)

    -- The plan of nested sets.
    nested-declared : (p : Assignment) (q : Names Table) (x : Text) (r : Repr) (d : Dom) (taken : List Text) → is_nested_dom d ≡ true →
        fits r d ≡ true →
        is_nested_plan (kinds S) (value_plan finds_side x r d (named_tables x (table_names r d) taken)) ≡ true →
        Declared p q (value_plan finds_side x r d (named_tables x (table_names r d) taken))
    nested-declared p q x r d taken n g k ts ds w =
        let P : Plan = value_plan finds_side x r d (named_tables x (table_names r d) taken) in
        let m = nested-form 250 d n in
        subst (λ l. DeclaredAs (model_domain (decls S o h) q) (l ++ ts) (declared_by_plan (here S p) P ++ ds)) (sym (nested-decls S o P k))
        (both-declared (model_domain (decls S o h) q) (nested_decls P) ts (declared_by_plan (here S p) P) ds
        (subst (DeclaredAs (model_domain (decls S o h) q) (nested_decls P)) (sym (ap (λ z. list_or_none (option_map (declarations r) z))
        (ap (option_map domain_with_positions) (nested-denoted m (here S p)) ∙ ap Some (nested-placed m))))
        (nested-declared-as (decls S o h) q r d x taken m g)) w)

    -- Each plan.
    plan-declared : (p : Assignment) (q : Names Table) → Instance S o p q → (P : Plan) → PlanFact S o P → In P Ps → Declared p q P
    plan-declared p q I P (size_fact t n e) j = subst (Declared p q) (sym e)
        (one-declared p q (size_plan t n) refl (λ ts ds r. (refl, (λ k. refl), r)))
    plan-declared p q I P (atom_fact a) j =
        let b = plan-bounds S o h a.f a.x a.d a.n (subst (λ P. In P Ps) a.is j) a.scalar in
        let c = scalar-closed S o h f p q I a.d b in
        subst (Declared p q) (sym a.is)
        (one-declared p q (value_plan a.f a.x Atom a.d ((a.n, 0) ∷ [])) (atom-single S o a.f a.x a.d a.n a.scalar)
        (λ ts ds r. atom-declared (model_domain (decls S o h) q) (here S p) a.d (dom_with_cells Ps a.d) a.n a.f a.x ts ds c.0 a.scalar c.1
        (scalar-same S o h f p q I a.d b ∙ c.1) r))
    plan-declared p q I P (set_fact x A n e m a) j = subst (Declared p q) (sym e)
        (one-declared p q (value_plan finds_side x Occ (set_dom [] no_exs A) ((n, 1) ∷ [])) (set-single S o x n m)
        (λ ts ds r. subst (λ z. DeclaredAs (model_domain (decls S o h) q)
        (record { name = n; axes = axis_dom (axis_of_set (kinds S) Ps (set_dom [] no_exs A)) ∷ []; cell = bool_dom } ∷ ts)
        (list_or_none (option_map (declarations Occ) (option_map domain_with_positions z)) ++ ds))
        (sym (sets-closed S f p I.param m)) (axis-right S o h p q (sizes-held S o h f p q I) m, (λ k. refl), r)))
    plan-declared p q I P (nested_fact x r d taken e n g k c) j =
        subst (Declared p q) (sym e) (nested-declared p q x r d taken n g (ap (is_nested_plan (kinds S)) (sym e) ∙ k))

    finds-are : (p : Assignment) (q : Names Table) → Instance S o p q → (Qs : List Plan) → Each Qs (PlanFact S o) →
        ((P : Plan) → In P Qs → In P Ps) →
        DeclaredAs (model_domain (decls S o h) q) (append_all (map decls_of Qs)) (append_all (map (declared_by_plan (here S p)) Qs))
    finds-are p q I [] w i = tt
    finds-are p q I (P ∷ Qs) w i =
        plan-declared p q I P w.0 (i P (inl refl)) (append_all (map decls_of Qs)) (append_all (map (declared_by_plan (here S p)) Qs))
        (finds-are p q I Qs w.1 (λ P j. i P (inr j)))

    givens-are : (p : Assignment) (q : Names Table) → Instance S o p q → (Qs : List Plan) → Each Qs (PlanFact S o) →
        ((P : Plan) → In P Qs → In P Ps) → ((P : Plan) → In P Qs → is_nested_plan (kinds S) P ≡ false) →
        DeclaredAs (model_domain (decls S o h) q) (map decl Qs) (append_all (map (declared_by_plan (here S p)) Qs))
    givens-are p q I [] w i k = tt
    givens-are p q I (P ∷ Qs) w i k =
        let rest : List Declaration = append_all (map (declared_by_plan (here S p)) Qs) in
        subst (λ l. DeclaredAs (model_domain (decls S o h) q) (l ++ map decl Qs) (declared_by_plan (here S p) P ++ rest))
        (single-decls S o P (k P (inl refl)))
        (plan-declared p q I P w.0 (i P (inl refl)) (map decl Qs) rest
        (givens-are p q I Qs w.1 (λ P j. i P (inr j)) (λ P j. k P (inr j))))

    -- Plans of givens have one table.
    pub givens-single : (P : Plan) → In P Gs → is_nested_plan (kinds S) P ≡ false
    givens-single P i =
        given-single S o P (at-item (PlanFact S o) Gs P (some-facts S o h (is_on givens_side)) i)
        (side-is (side_of P) (in-filter (is_on givens_side) P Ps i).1)
      where
        side-is : (f : Side) → same_side f givens_side ≡ true → f ≡ givens_side
        side-is givens_side e = refl
        side-is finds_side e = absurd (no-yes e)

    -- The model declares the tables of the plans.
    declares : (g : Goal) (rs : List Ex) → DeclaresTables S o (model_with g rs)
    declares g rs = record {
      given_names = givens-named S o h;
      find_names = finds-named S o h;
      given_domains = λ p q I. givens-are p q I Gs (some-facts S o h (is_on givens_side)) (λ P i. (in-filter (is_on givens_side) P Ps i).0)
          givens-single;
      find_domains = λ p q I. finds-are p q I Fs (some-facts S o h (is_on finds_side)) (λ P i. (in-filter (is_on finds_side) P Ps i).0);
    }

    -- What speaks of no rule.
    pub base : (g : Goal) (rs : List Ex) → Base S o (model_with g rs)
    base g rs = record { ground = ground S o h f; declares = declares g rs }

    structure : (g : Goal) (rs : List Ex) (P : Plan) → PlanFact S o P → is_nested_plan (kinds S) P ≡ false →
        StructureMeans S o (model_with g rs) P []
    structure g rs P (size_fact t n e) s = subst (λ P. StructureMeans S o (model_with g rs) P []) (sym e) tt
    structure g rs P (atom_fact w) s = subst (λ P. StructureMeans S o (model_with g rs) P []) (sym w.is) (λ p q c e ts I t z.
        at p e ts (domain_of w.d (here S p)) refl z.closed z.are)
      where
        at : (p : Assignment) (e : Domain) (ts : Tables) (r : Option Domain) → domain_of w.d (here S p) ≡ r →
            option_map domain_with_positions r ≡ Some e → tables_are (declarations Atom e) ts ≡ true →
            true ≡ canonical Atom e (cells_of ts)
        at p e ts None r q k = cc
        at p e ts (Some u) r q k =
            let s = closed-scalar w.d (here S p) u w.scalar r in
            let z : domain_with_positions u ≡ e = cc in
            let y : u ≡ e = sym (closed-plain s) ∙ z in
            subst (λ e. tables_are (declarations Atom e) ts ≡ true → true ≡ canonical Atom e (cells_of ts)) y
            (λ k. sym (atom-canonical u (is_bool_dom w.d) s ts k)) k
    structure g rs P (nested_fact x r d taken e n g' k c) s = absurd (no-yes (sym s ∙ k))
    structure g rs P (set_fact x A n e m a) s = subst (λ P. StructureMeans S o (model_with g rs) P []) (sym e) (λ p q c d ts I t w.
        go p d ts (sym (ap (option_map domain_with_positions) (sets-closed S f p I.param m)) ∙ w.closed) w.are)
      where
        go : (p : Assignment) (d : Domain) (ts : Tables) → Some (sets [] (placed_members p m)) ≡ Some d →
            tables_are (declarations Occ d) ts ≡ true → true ≡ canonical Occ d (cells_of ts)
        go p d ts c w =
            let z : sets [] (placed_members p m) ≡ d = cc in
            subst (λ d. tables_are (declarations Occ d) ts ≡ true → true ≡ canonical Occ d (cells_of ts)) z
            (λ w. sym (occurrence-structure (placed_members p m) (atom-with p m).0 ts w)) w

    one-structure : (g : Goal) (rs : List Ex) (P : Plan) (ss : List Ex) → PlanFact S o P → AreStructure S o (model_with g rs) P ss →
        StructureMeans S o (model_with g rs) P ss
    one-structure g rs P ss w a = go (is_nested_plan (kinds S) P) refl
      where
        go : (b : Bool) → is_nested_plan (kinds S) P ≡ b → StructureMeans S o (model_with g rs) P ss
        go true e = a.means e
        go false e = subst (StructureMeans S o (model_with g rs) P) (sym (a.none e)) (structure g rs P w e)

    -- Structures say that tables are canonical; those of nested sets alone have rules.
    pub structures-mean : (g : Goal) (rs : List Ex) (sss : List (List Ex)) → Along Fs sss (AreStructure S o (model_with g rs)) →
        Along Fs sss (StructureMeans S o (model_with g rs))
    structures-mean g rs sss w =
        along-left Fs sss (PlanFact S o) (AreStructure S o (model_with g rs)) (StructureMeans S o (model_with g rs))
        (one-structure g rs) (some-facts S o h (is_on finds_side)) w

  -- Nor do channels.
  pub channels-mean : (g : Goal) (rs : List Ex) → all_distinct (finds S) ≡ true →
      Along (value_names finds_side S) (map (λ x. none_of) (value_names finds_side S))
      (λ x css. ChannelsMean S o (model_with g rs) (filter (is_plan_of x) Ps) css)
  channels-mean g rs n = nones (value_names finds_side S) (λ x css. ChannelsMean S o (model_with g rs) (filter (is_plan_of x) Ps) css)
      (all-items (λ x. ChannelsMean S o (model_with g rs) (filter (is_plan_of x) Ps) []) (value_names finds_side S)
      (λ x i. let r = found-plan S o h x n i in subst (λ l. ChannelsMean S o (model_with g rs) l []) (sym r.1) tt))
