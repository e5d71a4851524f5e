-- The values of scalars, which their cells hold; so what is written of a flat tree has its value.
use Rattle.std.proofs.Common.{◌≡◌, refl, sym, ap, ◌∙◌, subst, Bool, true, List, [], ◌∷◌, ◌++◌, Option, Some, None, option_map}
use Rattle.ess_semantics.specs.Values.{Text, Value}
use Rattle.ess_semantics.specs.Names.{Names, look}
use Rattle.ess_semantics.specs.Trees.{Ex, cell_ex, no_exs, Dom, Stm, given, find}
use Rattle.ess_semantics.specs.Domains.{Domain}
use Rattle.ess_semantics.specs.Membership.{member}
use Rattle.ess_semantics.specs.Tables.{Table, Tables}
use Rattle.ess_semantics.specs.Meaning.{Env, meaning, domain_of, is_bool_dom, is_true}
use Rattle.ess_semantics.specs.Positions.{with_positions, domain_with_positions}
use Rattle.ess_semantics.specs.Prepared.{prepared}
use Rattle.ess_semantics.specs.Assignments.{Assignment, value_of, env_of}
use Rattle.ess_semantics.specs.Parameters.{all_declared}
use Rattle.ess_semantics.specs.Judgements.{fault}
use Rattle.ess_semantics.specs.Plans.{Options, Side, givens_side, finds_side, Plan, value_plan, plans, plans_for, plan_domain}
use Rattle.ess_semantics.specs.ModelTrees.{Model, Goal, all_decls}
use Rattle.ess_semantics.specs.ModelMeaning.{env_of_tables, model_value}
use Rattle.ess_semantics.specs.Models.{scalar_cell, cell_for}
use Rattle.conjure_laws.specs.Members.{In}
use Rattle.conjure_laws.specs.Premises.{Instance, here, is_on}
use Rattle.conjure_laws.specs.ModelPremises.{Base, Canonical, RuleMeans}
use Rattle.conjure_laws.specs.Views.{tables_with}
use Rattle.conjure_laws.proofs.Lists.{at-item, in-filtered}
use Rattle.conjure_laws.proofs.Lookups.{look-left}
use Rattle.conjure_laws.proofs.Statements.{plan-is-found}
use Rattle.conjure_laws.proofs.Givens.{given-found, given-from}
use Rattle.conjure_laws.proofs.Matching.{Match, canonical-matched}
use Rattle.conjure_laws.proofs.MatchedTables.{Found, matched-found}
use Rattle.conjure_model_laws.proofs.ViewValues.{views-have-values}
use Rattle.conjure_settled_laws.specs.EndValues.{IsInEnv}
use Rattle.conjure_settled_laws.proofs.EndValues.{typed-has-end-values}
use Rattle.ess_flat_models_laws.specs.ess_flat_laws.Flat.{Flat, none_marked}
use Rattle.ess_flat_models_laws.specs.FlatSpecifications.{given_mark, is_scalar_dom, scalar_mark}
use Rattle.ess_flat_models_laws.specs.FlatModels.{flat_rule, dom_with_cells}
use Rattle.ess_flat_models_laws.proofs.ScalarDomains.{Atom, is_shape, closed-plain, closed-scalar}
use Rattle.ess_flat_models_laws.proofs.FlatValues.{Marked}
use Rattle.ess_flat_models_laws.proofs.FlatSimplified.{simpler}
use Rattle.ess_flat_models_laws.proofs.FlatCells.{cells-flat, cells-mean}
use Rattle.ess_flat_models_laws.proofs.FlatKinds.{flat-kinded}
use Rattle.ess_flat_models_laws.proofs.FlatNames.{marked-member, marked-plain}
use Rattle.ess_mixed_models_laws.specs.MixedSpecifications.{are_mixed_statements}
use Rattle.ess_mixed_models_laws.proofs.ScalarCells.{cells, scalar-name, placed-names, planned, cells-kinded}
use Rattle.ess_flat_models_laws.proofs.FlatBounds.{dom-same, dom-meets}
use Rattle.ess_mixed_models_laws.proofs.MixedGivens.{plan-bounds, held as given-held}
use Rattle.ess_mixed_models_laws.proofs.MixedLayers.{model_with, base}

module _ (S : List Stm) (o : Options) (h : are_mixed_statements S o ≡ true) (f : fault S ≡ None) (g : Goal) (rs : List Ex) where
  abbrev Ps : List Plan
  Ps = plans S o

  abbrev Fs : List Plan
  Fs = plans_for finds_side S o

  abbrev E : Model
  E = model_with S o h g rs

  abbrev B : Base S o E
  B = base S o h f g rs

  module _ (p a : Assignment) (q c : Names Table) (I : Instance S o p q) (C : Canonical S o p a c) where
    -- The value of a name, which its cell holds.
    pub record PlanHas (x : Text) (d : Dom) (n : Text) : Type 0 where
      pub v : Value
      pub marked : Marked (is_bool_dom d) v
      pub value : look (env_of S p a).vals x ≡ Some v
      pub held : meaning (cell_ex (is_bool_dom d) n no_exs) (env_of_tables (q ++ c)) ≡ Some v

    one-value : (v w : Value) → Some v ≡ Some w → v ≡ w
    one-value v w e = cc

    has : (x : Text) (d : Dom) (n : Text) → is_shape d ≡ true →
        (b : Assignment) (ts : Tables) (m : Match S p b x Atom d ((n, 0) ∷ []) ts) → (w : Value) → value_of b x ≡ Some w →
        meaning (cell_ex (is_bool_dom d) n no_exs) (env_of_tables (q ++ c)) ≡ Some (with_positions w) →
        look (env_of S p a).vals x ≡ value_of b x → PlanHas x d n
    has x d n s b ts m w e k l =
        let z : m.v ≡ w = one-value m.v w (sym m.value ∙ e) in
        let r : Marked (is_bool_dom d) w =
        marked-member m.e (is_bool_dom d) (closed-scalar d (here S p) m.e s m.closed) w (ap (member m.e) (sym z) ∙ m.inside) in
        record { v = w; marked = r; value = l ∙ e; held = k ∙ ap (λ u. Some u) (marked-plain r) }

    -- Each plan of a find has its tables.
    pub plan-found : (x : Text) (r : _) (d : Dom) (ns : _) → In (value_plan finds_side x r d ns) Ps →
        Found S o E B p q I a c (value_plan finds_side x r d ns)
    plan-found x r d ns i = at-item (Found S o E B p q I a c) Fs (value_plan finds_side x r d ns)
        (matched-found S o E B p q I a c (canonical-matched S o E B p q I a c C.members C.tables))
        (in-filtered (is_on finds_side) (value_plan finds_side x r d ns) Ps i refl)

    -- Each plan of an atom has its value.
    pub plan-has : (s : Side) (x : Text) (d : Dom) (n : Text) → In (value_plan s x Atom d ((n, 0) ∷ [])) Ps → is_shape d ≡ true →
        PlanHas x d n
    plan-has s x d n i k = go s i
      where
        there : Env
        there = tables_with S p (q ++ c) []

        b : is_scalar_dom (given_mark Ps) d ≡ true
        b = plan-bounds S o h s x d n i k

        plain : (r : Option Domain) → domain_of d (here S p) ≡ r → domain_of d (here S p) ≡ option_map domain_with_positions r
        plain None e = e
        plain (Some u) e = e ∙ ap (λ z. Some z) (sym (closed-plain (closed-scalar d (here S p) u k e)))

        same-dom : domain_of (dom_with_cells Ps d) there ≡ plan_domain d (here S p)
        same-dom = dom-same (given_mark Ps) Ps (here S p) there (given-held S o h f p q I there (λ n t e. look-left q c n t e)) d b
            ∙ plain (domain_of d (here S p)) refl

        go : (s : Side) → In (value_plan s x Atom d ((n, 0) ∷ [])) Ps → PlanHas x d n
        go givens_side i =
            let F = given-found S o B.ground p q I x Atom d ((n, 0) ∷ []) i in
            let V = views-have-values S o E B p a q c I C givens_side x Atom d ((n, 0) ∷ []) i (dom_with_cells Ps d) [] same-dom
            (dom-meets (given_mark Ps) Ps d b there) in
            has x d n k p F.0 F.1 V.0 V.1 V.2.0
            (at-item (IsInEnv S p a (env_of S p a)) (prepared S) (given x d) (typed-has-end-values S p a f I.param).declared
            (given-from (prepared S) o (all_declared S) _ x Atom d ((n, 0) ∷ []) i))
        go finds_side i =
            let F = plan-found x Atom d ((n, 0) ∷ []) i in
            let V = views-have-values S o E B p a q c I C finds_side x Atom d ((n, 0) ∷ []) i (dom_with_cells Ps d) [] same-dom
            (dom-meets (given_mark Ps) Ps d b there) in
            has x d n k a F.0 F.1 V.0 V.1 V.2.0
            (at-item (IsInEnv S p a (env_of S p a)) (prepared S) (find x d) (typed-has-end-values S p a f I.param).declared
            (plan-is-found S o x Atom d ((n, 0) ∷ []) i))

    -- Declared cells have values of their marks.
    pub cells-valued : (n : Text) (b : Bool) → cells S o h n ≡ Some b →
        (v : Value) × Marked b v × (meaning (cell_ex b n no_exs) (env_of_tables (q ++ c)) ≡ Some v)
    cells-valued n b e =
        let r = planned S o h n b e in
        let w = plan-has r.f r.x r.d n r.planned r.scalar in
        subst (λ b. (v : Value) × Marked b v × (meaning (cell_ex b n no_exs) (env_of_tables (q ++ c)) ≡ Some v)) r.mark
        (w.v, w.marked, w.held)

    -- Cells in the place of names have their values.
    pub names-valued : (x : Text) (m : Bool) → scalar_mark Ps x ≡ Some m →
        meaning (cell_for x (scalar_cell Ps x)) (env_of_tables (q ++ c)) ≡ look (env_of S p a).vals x
    names-valued x m e =
        let r = scalar-name S o h x m e in
        let w = plan-has r.f x r.d r.n r.planned r.scalar in
        ap (λ z. meaning (cell_for x z) (env_of_tables (q ++ c))) r.cell
        ∙ ap (λ b. meaning (cell_ex b r.n no_exs) (env_of_tables (q ++ c))) (sym r.mark) ∙ w.held ∙ sym w.value

    -- The model has the value of what is written of a flat tree.
    pub written-value : (e : Ex) (m : Bool) → Flat (scalar_mark Ps) none_marked e m →
        model_value (all_decls E) (q ++ c) (flat_rule Ps e) ≡ meaning e (env_of S p a)
    written-value e m w =
        let u = cells-flat Ps (cells S o h) (placed-names S o h) w in
        let s = simpler (cells S o h) (env_of_tables (q ++ c)) cells-valued u in
        let r = simpler (cells S o h) (env_of_tables (q ++ c)) cells-valued s.flat in
        ap (λ k. meaning k.0 (env_of_tables (q ++ c)))
        (flat-kinded (cells S o h) (all_decls E) (cells-kinded S o h) r.flat)
        ∙ r.means ∙ s.means ∙ cells-mean Ps (env_of S p a) (env_of_tables (q ++ c)) names-valued w

  -- The rule of a flat constraint says what the constraint says.
  pub flat-means : (e : Ex) → Flat (scalar_mark Ps) none_marked e true → RuleMeans S o E e (flat_rule Ps e)
  flat-means e w p a q c I C = ap is_true (written-value p a q c I C e true w)
