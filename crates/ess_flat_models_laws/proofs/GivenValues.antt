-- Givens have values in each env of a parameter, and their cells hold these over the given tables.
use Rattle.std.proofs.Common.{◌≡◌, refl, sym, ap, ◌∙◌, subst, Bool, true, false, List, [], ◌∷◌, ℤ, Option, Some, None}
use Rattle.ess_semantics.specs.Lists.{all_some}
use Rattle.ess_semantics.specs.Values.{Text, Value, number}
use Rattle.ess_semantics.specs.Names.{Names, look}
use Rattle.ess_semantics.specs.Trees.{Stm, given}
use Rattle.ess_semantics.specs.Domains.{Domain}
use Rattle.ess_semantics.specs.Tables.{Table, Tables, one_cell, code}
use Rattle.ess_semantics.specs.Canonical.{tables_of_value}
use Rattle.ess_semantics.specs.Positions.{domain_with_positions}
use Rattle.ess_semantics.specs.Operators.{false_where_undefined}
use Rattle.ess_semantics.specs.Meaning.{Env, meaning, cell_value, cell_in, is_bool_dom}
use Rattle.ess_semantics.specs.Prepared.{prepared}
use Rattle.ess_semantics.specs.Assignments.{Assignment, nothing_given, value_of}
use Rattle.ess_semantics.specs.Parameters.{all_declared}
use Rattle.ess_semantics.specs.Judgements.{fault}
use Rattle.ess_semantics.specs.Plans.{Options, Plan, plans}
use Rattle.ess_semantics.specs.Models.{scalar_cell, cell_for}
use Rattle.conjure_laws.specs.Premises.{Instance, here}
use Rattle.conjure_laws.proofs.Lists.{at-item}
use Rattle.conjure_laws.proofs.Givens.{given-found, given-from}
use Rattle.conjure_settled_laws.specs.EndValues.{IsInEnv}
use Rattle.conjure_settled_laws.proofs.EndValues.{typed-has-end-values}
use Rattle.ess_flat_models_laws.specs.FlatSpecifications.{given_mark, are_flat_statements}
use Rattle.ess_flat_models_laws.proofs.ScalarDomains.{Atom, Scalar, of_truths, of_numbers, closed-scalar}
use Rattle.ess_flat_models_laws.proofs.FlatPlans.{all-atoms, ground}
use Rattle.ess_flat_models_laws.proofs.FlatNames.{marked-member, marked-plain, given-plan}
use Rattle.ess_flat_models_laws.proofs.FlatValues.{Marked, a_truth, a_number}
use Rattle.ess_flat_models_laws.proofs.Reckoned.{Numbered, Held}

-- The table of a scalar's value is its cell.
scalar-table : (e : Domain) (b : Bool) → Scalar e b → (v : Value) → tables_of_value Atom e v ≡ Some (one_cell (code v) ∷ [])
scalar-table e b of_truths v = refl
scalar-table e b of_numbers v = refl

-- A cell of the value's mark holds it.
cell-holds : (b : Bool) (v : Value) → Marked b v → false_where_undefined b (Some (cell_value b (code v))) ≡ Some v
cell-holds b v (a_truth {b = true}) = refl
cell-holds b v (a_truth {b = false}) = refl
cell-holds b v a_number = refl

only-table : (o : Option Table) (t : Table) → all_some (o ∷ []) ≡ Some (t ∷ []) → o ≡ Some t
only-table None t e = cc
only-table (Some x) t e = let z : x ≡ t = cc in ap (λ y. Some y) z

same-tables : (ts us : Tables) → Some ts ≡ Some us → ts ≡ us
same-tables ts us e = cc

-- What tables have that are found in these.
abbrev pub Extends : Names Table → Names Table → Type 0
Extends q cs = (n : Text) (t : Table) → look q n ≡ Some t → look cs n ≡ Some t

module _ (S : List Stm) (o : Options) (h : are_flat_statements S o ≡ true) (t : fault S ≡ None) (p : Assignment) (q : Names Table)
    (I : Instance S o p q) where
  abbrev Ps : List Plan
  Ps = plans S o

  -- The value of a given in an env of the parameter, and its cell.
  pub record GivenHas (a : Text) (m : Bool) : Type 0 where
    pub v : Value
    pub marked : Marked m v
    pub given : value_of p a ≡ Some v
    pub there : look (here S p).vals a ≡ Some v
    pub held : (env : Env) → Extends q env.cells → meaning (cell_for a (scalar_cell Ps a)) env ≡ Some v

  pub given-has : (a : Text) (m : Bool) → given_mark Ps a ≡ Some m → GivenHas a m
  given-has a m e =
      let r = given-plan Ps (all-atoms S o h) a m e in
      let F = given-found S o (ground S o h t) p q I a Atom r.d ((r.n, 0) ∷ []) r.planned in
      let M = F.1 in
      let s = closed-scalar r.d (here S p) M.e r.scalar M.closed in
      let k = marked-member M.e (is_bool_dom r.d) s M.v M.inside in
      let w = subst (λ b. Marked b M.v) r.mark k in
      let T : F.0 ≡ one_cell (code M.v) ∷ [] = same-tables F.0 (one_cell (code M.v) ∷ [])
      (sym M.there ∙ ap (tables_of_value Atom (domain_with_positions M.e)) (marked-plain k)
      ∙ ap (λ d. tables_of_value Atom d M.v) (plain M.e (is_bool_dom r.d) s) ∙ scalar-table M.e (is_bool_dom r.d) s M.v) in
      let l : look q r.n ≡ Some (one_cell (code M.v)) = only-table (look q r.n) (one_cell (code M.v)) (F.2 ∙ ap (λ l. Some l) T) in record {
        v = M.v;
        marked = w;
        given = M.value;
        there = at-item (IsInEnv S p nothing_given (here S p)) (prepared S) (given a r.d)
            (typed-has-end-values S p nothing_given t I.param).declared
            (given-from (prepared S) o (all_declared S) _ a Atom r.d ((r.n, 0) ∷ []) r.planned) ∙ M.value;
        held = λ env x. ap (λ o. meaning (cell_for a o) env) r.cell
            ∙ ap (λ o. false_where_undefined m (cell_in m o (Some []))) (x r.n (one_cell (code M.v)) l) ∙ cell-holds m M.v w;
      }
    where
      plain : (e : Domain) (b : Bool) → Scalar e b → domain_with_positions e ≡ e
      plain e b of_truths = refl
      plain e b of_numbers = refl

  is-number : (v : Value) → Marked false v → (n : ℤ) × (v ≡ number n)
  is-number v (a_number {k = k}) = (k, refl)

  -- So names of givens that are numbers have values behind all statements, and their cells hold these.
  pub numbered : Numbered (given_mark Ps) (here S p)
  numbered a e = let r = given-has a false e in let n = is-number r.v r.marked in (n.0, r.there ∙ ap (λ v. Some v) n.1)

  pub held : (env : Env) → Extends q env.cells → Held (given_mark Ps) Ps (here S p) env
  held env x a e = let r = given-has a false e in r.held env x ∙ sym r.there
