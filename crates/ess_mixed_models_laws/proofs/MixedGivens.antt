-- Givens have values in each env of a parameter, and their cells hold these over the given tables. So domains of scalars are closed, over
-- tables to what they are.
use Rattle.std.proofs.Common.{◌≡◌, refl, sym, ap, ◌∙◌, subst, Bool, true, false, List, [], ◌∷◌, Option, Some, None}
use Rattle.ess_semantics.specs.Lists.{all_some}
use Rattle.ess_semantics.specs.Values.{Text, Value, number}
use Rattle.ess_semantics.specs.Names.{Names, look}
use Rattle.ess_semantics.specs.Trees.{Exs, no_exs, more_exs, Dom, bool_dom, int_dom, Stm, given, find}
use Rattle.ess_semantics.specs.Domains.{Domain}
use Rattle.ess_semantics.specs.Tables.{Table, Tables, one_cell, code}
use Rattle.ess_semantics.specs.Canonical.{tables_of_value}
use Rattle.ess_semantics.specs.Operators.{false_where_undefined}
use Rattle.ess_semantics.specs.Meaning.{Env, meaning, domain_of, cell_in, cell_value, is_bool_dom}
use Rattle.ess_semantics.specs.Positions.{domain_with_positions}
use Rattle.ess_semantics.specs.Prepared.{prepared}
use Rattle.ess_semantics.specs.Assignments.{Assignment, nothing_given, value_of}
use Rattle.ess_semantics.specs.Parameters.{all_declared}
use Rattle.ess_semantics.specs.Judgements.{fault}
use Rattle.ess_semantics.specs.Plans.{Options, Side, givens_side, finds_side, Plan, value_plan, chosen_reprs, plans}
use Rattle.ess_semantics.specs.ModelMeaning.{kinded_dom, as_bound, bounds_of, env_of_tables, model_domain}
use Rattle.ess_semantics.specs.Models.{scalar_cell, cell_for, with_cells, all_with_cells}
use Rattle.ess_semantics.proofs.Tests.{and-left}
use Rattle.conjure_laws.specs.Members.{In}
use Rattle.conjure_laws.specs.Premises.{Instance, here}
use Rattle.conjure_laws.proofs.Lists.{at-item, each-of-list}
use Rattle.conjure_laws.proofs.Statements.{plan-is-found}
use Rattle.conjure_laws.proofs.Givens.{given-found, given-from}
use Rattle.conjure_settled_laws.specs.EndValues.{IsInEnv}
use Rattle.conjure_settled_laws.proofs.EndValues.{typed-has-end-values}
use Rattle.ess_flat_models_laws.specs.ess_flat_laws.Flat.{none_marked}
use Rattle.ess_flat_models_laws.specs.FlatSpecifications.{given_mark, is_scalar_dom, is_atom_alone}
use Rattle.ess_flat_models_laws.specs.FlatModels.{dom_with_cells}
use Rattle.ess_flat_models_laws.proofs.Reckoned.{Numbered, Held, AllReckoned, reckoned-flat, cells-reckoned, bounds-reckoned}
use Rattle.ess_flat_models_laws.proofs.ScalarDomains.{Atom, is_shape, Scalar, of_truths, of_numbers, closed-scalar}
use Rattle.ess_flat_models_laws.proofs.FlatValues.{Marked, a_truth, a_number}
use Rattle.ess_flat_models_laws.proofs.FlatKinds.{flat-kinded}
use Rattle.ess_flat_models_laws.proofs.FlatNames.{marked-member, marked-plain}
use Rattle.ess_flat_models_laws.proofs.GivenValues.{Extends}
use Rattle.ess_flat_models_laws.proofs.FlatBounds.{dom-closed, dom-same}
use Rattle.ess_mixed_models_laws.specs.MixedSpecifications.{is_mixed_statement, are_mixed_statements}
use Rattle.ess_mixed_models_laws.proofs.NamedKinds.{no-yes}
use Rattle.ess_mixed_models_laws.proofs.MixedPlans.{FindFact, scalar_find, set_find, nested_find, find-fact, shape-single, ground}
use Rattle.ess_mixed_models_laws.proofs.MixedCells.{decls}
use Rattle.ess_mixed_models_laws.proofs.ScalarCells.{cells, cells-kinded, given-name, given-planned, given-cell, given-cells}

-- The table of a scalar's value is its cell.
scalar-table : (e : Domain) (b : Bool) → Scalar e b → (v : Value) → tables_of_value Atom e v ≡ Some (one_cell (code v) ∷ [])
scalar-table e b of_truths v = refl
scalar-table e b of_numbers v = refl

-- A cell of the value's mark holds it.
cell-holds : (b : Bool) (v : Value) → Marked b v → false_where_undefined b (Some (cell_value b (code v))) ≡ Some v
cell-holds b v (a_truth {b = true}) = refl
cell-holds b v (a_truth {b = false}) = refl
cell-holds b v a_number = refl

only-table : (r : Option Table) (t : Table) → all_some (r ∷ []) ≡ Some (t ∷ []) → r ≡ Some t
only-table None t e = cc
only-table (Some x) t e = let z : x ≡ t = cc in ap (λ y. Some y) z

same-tables : (ts us : Tables) → Some ts ≡ Some us → ts ≡ us
same-tables ts us e = cc

module _ (S : List Stm) (o : Options) (h : are_mixed_statements S o ≡ true) where
  abbrev Ps : List Plan
  Ps = plans S o

  -- ---- domains of scalars

  -- The bounds of an atom's domain are built of numbers and givens.
  pub plan-bounds : (f : Side) (x : Text) (d : Dom) (n : Text) → In (value_plan f x Atom d ((n, 0) ∷ [])) Ps → is_shape d ≡ true →
      is_scalar_dom (given_mark Ps) d ≡ true
  plan-bounds givens_side x d n i s =
      and-left (is_scalar_dom (given_mark Ps) d) (is_atom_alone (chosen_reprs o x d))
      (at-item (λ s. is_mixed_statement S o s ≡ true) (prepared S) (given x d) (each-of-list (prepared S) (is_mixed_statement S o) h)
      (given-from (prepared S) o (all_declared S) _ x Atom d ((n, 0) ∷ []) i))
  plan-bounds finds_side x d n i s =
      go (find-fact S o x d
      (at-item (λ s. is_mixed_statement S o s ≡ true) (prepared S) (find x d) (each-of-list (prepared S) (is_mixed_statement S o) h)
      (plan-is-found S o x Atom d ((n, 0) ∷ []) i)))
    where
      go : FindFact S o x d → is_scalar_dom (given_mark Ps) d ≡ true
      go (scalar_find t a) = t
      go (set_find A e m a) = let z : false ≡ true = ap is_shape (sym e) ∙ s in absurd (no-yes z)
      go (nested_find r e n f k) = let z : false ≡ true = sym (shape-single S o d s) ∙ n in absurd (no-yes z)

  bounds-stay : (es : Exs) → AllReckoned (given_mark Ps) es → bounds_of (decls S o h) (all_with_cells Ps es) [] ≡ all_with_cells Ps es
  bounds-stay no_exs w = refl
  bounds-stay (more_exs e es) w =
      ap (λ k. more_exs (as_bound k) (bounds_of (decls S o h) (all_with_cells Ps es) []))
      (flat-kinded (cells S o h) (decls S o h) (cells-kinded S o h)
      (reckoned-flat none_marked (cells S o h) (cells-reckoned (given_mark Ps) Ps (cells S o h) (given-cells S o h) w.0)))
      ∙ ap (more_exs (with_cells Ps e)) (bounds-stay es w.1)

  -- A domain with cells is that of models.
  pub dom-stays : (d : Dom) → is_scalar_dom (given_mark Ps) d ≡ true →
      kinded_dom (decls S o h) (dom_with_cells Ps d) [] ≡ dom_with_cells Ps d
  dom-stays bool_dom w = refl
  dom-stays (int_dom rs es) w = ap (int_dom rs) (bounds-stay es (bounds-reckoned (given_mark Ps) rs es w))
  dom-stays d w = absurd (no-yes w)

  -- ---- values of givens

  module _ (f : fault S ≡ None) (p : Assignment) (q : Names Table) (I : Instance S o p q) where
    -- The value of a given in an env of the parameter, and its cell.
    pub record GivenHas (a : Text) (m : Bool) : Type 0 where
      pub v : Value
      pub marked : Marked m v
      pub given : value_of p a ≡ Some v
      pub there : look (here S p).vals a ≡ Some v
      pub held : (env : Env) → Extends q env.cells → meaning (cell_for a (scalar_cell Ps a)) env ≡ Some v

    pub given-has : (a : Text) (m : Bool) → given_mark Ps a ≡ Some m → GivenHas a m
    given-has a m e =
        let r = given-name S o h a m e in
        let i = given-planned S o h a m r in
        let F = given-found S o (ground S o h f) p q I a Atom r.d ((r.n, 0) ∷ []) i in
        let M = F.1 in
        let s = closed-scalar r.d (here S p) M.e r.scalar M.closed in
        let k = marked-member M.e (is_bool_dom r.d) s M.v M.inside in
        let w = subst (λ b. Marked b M.v) r.mark k in
        let T : F.0 ≡ one_cell (code M.v) ∷ [] = same-tables F.0 (one_cell (code M.v) ∷ [])
        (sym M.there ∙ ap (tables_of_value Atom (domain_with_positions M.e)) (marked-plain k)
        ∙ ap (λ d. tables_of_value Atom d M.v) (plain M.e (is_bool_dom r.d) s) ∙ scalar-table M.e (is_bool_dom r.d) s M.v) in
        let l : look q r.n ≡ Some (one_cell (code M.v)) = only-table (look q r.n) (one_cell (code M.v)) (F.2
        ∙ ap (λ l. Some l) T) in record {
          v = M.v;
          marked = w;
          given = M.value;
          there = at-item (IsInEnv S p nothing_given (here S p)) (prepared S) (given a r.d)
              (typed-has-end-values S p nothing_given f I.param).declared
              (given-from (prepared S) o (all_declared S) _ a Atom r.d ((r.n, 0) ∷ []) i) ∙ M.value;
          held = λ env x. ap (λ z. meaning (cell_for a z) env) (given-cell S o h a m r)
              ∙ ap (λ z. false_where_undefined m (cell_in m z (Some []))) (x r.n (one_cell (code M.v)) l) ∙ cell-holds m M.v w;
        }
      where
        plain : (e : Domain) (b : Bool) → Scalar e b → domain_with_positions e ≡ e
        plain e b of_truths = refl
        plain e b of_numbers = refl

    is-number : (v : Value) → Marked false v → (n : _) × (v ≡ number n)
    is-number v (a_number {k = k}) = (k, refl)

    -- So names of givens that are numbers have values behind all statements, and their cells hold these.
    pub numbered : Numbered (given_mark Ps) (here S p)
    numbered a e = let r = given-has a false e in let n = is-number r.v r.marked in (n.0, r.there ∙ ap (λ v. Some v) n.1)

    pub held : (env : Env) → Extends q env.cells → Held (given_mark Ps) Ps (here S p) env
    held env x a e = let r = given-has a false e in r.held env x ∙ sym r.there

    -- A scalar's domain is closed.
    pub scalar-closed : (d : Dom) → is_scalar_dom (given_mark Ps) d ≡ true → (e : Domain) × (domain_of d (here S p) ≡ Some e)
    scalar-closed d b = dom-closed (given_mark Ps) (here S p) numbered d b

    -- Over tables it is closed to the same.
    pub scalar-same : (d : Dom) → is_scalar_dom (given_mark Ps) d ≡ true →
        model_domain (decls S o h) q (dom_with_cells Ps d) ≡ domain_of d (here S p)
    scalar-same d b =
        ap (λ c. domain_of c (env_of_tables q)) (dom-stays d b)
        ∙ dom-same (given_mark Ps) Ps (here S p) (env_of_tables q) (held (env_of_tables q) (λ n t e. e)) d b
