-- Tables, declarations and numbers of cells of plans are what each plan adds to those before it.
use Rattle.std.proofs.Common.{◌≡◌, refl, sym, ap, ◌∙◌, ℕ, ◌+◌, Bool, true, false, if◌then◌else◌, List, [], ◌∷◌, ◌++◌, map, filter, Option, Some, None, option_map, append_assoc, arith}
use Rattle.std.proofs.lemmas.List.{append-nil}
use Rattle.ess_semantics.specs.Lists.{and_then, each_of, append_all}
use Rattle.ess_semantics.specs.Values.{Text}
use Rattle.ess_semantics.specs.Names.{Names}
use Rattle.ess_semantics.specs.Tables.{Table}
use Rattle.ess_semantics.specs.Meaning.{Env}
use Rattle.ess_semantics.specs.Assignments.{Assignment}
use Rattle.ess_semantics.specs.Plans.{Side, Plan, plans, declared_by_plan, cells_of_plan, cells_of_plans, is_plan_for, canonical_by_plan}
use Rattle.conjure_laws.specs.Premises.{is_on, here}
use Rattle.ess_translate_given_laws.specs.ByPlans.{tables_on, tables_by_plans, declared_on, declared_by_plans, cells_on, cells_by_plans}
use Rattle.ess_translate_given_laws.specs.Laws.{PlansAddOneByOne}

-- ---- tables

-- tables behind none
behind-none : (o : Option (Names Table)) → option_map (λ d. [] ++ d) o ≡ o
behind-none None = refl
behind-none (Some d) = refl

-- tables behind two
behind-both : (q c : Names Table) (o : Option (Names Table)) →
    option_map (λ d. q ++ d) (option_map (λ d. c ++ d) o) ≡ option_map (λ d. (q ++ c) ++ d) o
behind-both q c None = refl
behind-both q c (Some d) = ap (λ l. Some l) (sym (append_assoc q c d))

-- Tables of plans one behind the other are the first one's, and then those of the others.
front-tables : (o : Option (Names Table)) (r : Option (List (Names Table))) →
    option_map append_all (and_then o (λ y. option_map (λ ys. y ∷ ys) r)) ≡
    and_then o (λ c. option_map (λ d. c ++ d) (option_map append_all r))
front-tables None r = refl
front-tables (Some c) None = refl
front-tables (Some c) (Some l) = refl

-- The tables of the plans of one side.
pub tables-of-plans : (f : Side) (env : Env) (a : Assignment) (Ps : List Plan) →
    option_map append_all (each_of (filter (is_on f) Ps) (canonical_by_plan env a)) ≡ tables_by_plans f env a Ps
tables-of-plans f env a [] = refl
tables-of-plans f env a (P ∷ Ps) = go (is_on f P) (tables-of-plans f env a Ps)
  where
    F : List Plan
    F = filter (is_on f) Ps

    go : (b : Bool) → option_map append_all (each_of (filter (is_on f) Ps) (canonical_by_plan env a)) ≡ tables_by_plans f env a Ps →
        option_map append_all (each_of (if b then P ∷ F else F) (canonical_by_plan env a)) ≡
        and_then (if b then canonical_by_plan env a P else Some []) (λ c. option_map (λ d. c ++ d) (tables_by_plans f env a Ps))
    go true h =
        front-tables (canonical_by_plan env a P) (each_of F (canonical_by_plan env a))
        ∙ ap (λ r. and_then (canonical_by_plan env a P) (λ c. option_map (λ d. c ++ d) r)) h
    go false h = h ∙ sym (behind-none (tables_by_plans f env a Ps))

-- A plan's tables go behind those that are there.
pub tables-more : (f : Side) (env : Env) (a : Assignment) (q c : Names Table) (P : Plan) (Ps : List Plan) →
    tables_on f env a P ≡ Some c →
    option_map (λ d. q ++ d) (tables_by_plans f env a (P ∷ Ps)) ≡ option_map (λ d. (q ++ c) ++ d) (tables_by_plans f env a Ps)
tables-more f env a q c P Ps e =
    ap (λ o. option_map (λ d. q ++ d) (and_then o (λ c. option_map (λ d. c ++ d) (tables_by_plans f env a Ps)))) e
    ∙ behind-both q c (tables_by_plans f env a Ps)

-- tables of one plan behind none
none-before : (o : Option (Names Table)) → and_then o (λ c. option_map (λ d. c ++ d) (Some [])) ≡ option_map (λ c. [] ++ c) o
none-before None = refl
none-before (Some c) = ap (λ l. Some l) (append-nil c)

one-before : (c : Names Table) (t o : Option (Names Table)) →
    option_map (λ d. c ++ d) (and_then t (λ q. option_map (λ d. q ++ d) o)) ≡
    and_then (option_map (λ d. c ++ d) t) (λ q. option_map (λ d. q ++ d) o)
one-before c None o = refl
one-before c (Some q) o = behind-both c q o

-- The tables of plans with one more behind them.
pub tables-behind : (f : Side) (env : Env) (a : Assignment) (Ps : List Plan) (P : Plan) →
    tables_by_plans f env a (Ps ++ (P ∷ [])) ≡
    and_then (tables_by_plans f env a Ps) (λ q. option_map (λ c. q ++ c) (tables_on f env a P))
tables-behind f env a [] P = none-before (tables_on f env a P)
tables-behind f env a (Q ∷ Qs) P = go (tables_on f env a Q) (tables-behind f env a Qs P)
  where
    go : (o : Option (Names Table)) →
        tables_by_plans f env a (Qs ++ (P ∷ [])) ≡
        and_then (tables_by_plans f env a Qs) (λ q. option_map (λ c. q ++ c) (tables_on f env a P)) →
        and_then o (λ c. option_map (λ d. c ++ d) (tables_by_plans f env a (Qs ++ (P ∷ [])))) ≡
        and_then (and_then o (λ c. option_map (λ d. c ++ d) (tables_by_plans f env a Qs)))
        (λ q. option_map (λ c. q ++ c) (tables_on f env a P))
    go None h = refl
    go (Some c) h =
        ap (option_map (λ d. c ++ d)) h ∙ one-before c (tables_by_plans f env a Qs) (tables_on f env a P)

-- ---- declarations

-- The declarations of the plans of one side.
pub declared-of-plans : (f : Side) (env : Env) (Ps : List Plan) →
    append_all (map (declared_by_plan env) (filter (is_on f) Ps)) ≡ declared_by_plans f env Ps
declared-of-plans f env [] = refl
declared-of-plans f env (P ∷ Ps) = go (is_on f P) (declared-of-plans f env Ps)
  where
    F : List Plan
    F = filter (is_on f) Ps

    go : (b : Bool) → append_all (map (declared_by_plan env) (filter (is_on f) Ps)) ≡ declared_by_plans f env Ps →
        append_all (map (declared_by_plan env) (if b then P ∷ F else F)) ≡
        (if b then declared_by_plan env P else []) ++ declared_by_plans f env Ps
    go true h = ap (λ l. declared_by_plan env P ++ l) h
    go false h = h

-- The declarations of plans with one more behind them.
pub declared-behind : (f : Side) (env : Env) (Ps : List Plan) (P : Plan) →
    declared_by_plans f env (Ps ++ (P ∷ [])) ≡ declared_by_plans f env Ps ++ declared_on f env P
declared-behind f env [] P = append-nil (declared_on f env P)
declared-behind f env (Q ∷ Qs) P =
    ap (λ l. declared_on f env Q ++ l) (declared-behind f env Qs P)
    ∙ sym (append_assoc (declared_on f env Q) (declared_by_plans f env Qs) (declared_on f env P))

-- ---- cells

-- The number of cells of the plans of one name.
pub cells-of-plans : (x : Text) (env : Env) (Ps : List Plan) →
    cells_of_plans env (filter (is_plan_for x) Ps) ≡ cells_by_plans x env Ps
cells-of-plans x env [] = refl
cells-of-plans x env (P ∷ Ps) = go (is_plan_for x P) (cells-of-plans x env Ps)
  where
    F : List Plan
    F = filter (is_plan_for x) Ps

    zero-more : (n : ℕ) → n ≡ 0 + n
    zero-more n = omega arith

    go : (b : Bool) → cells_of_plans env (filter (is_plan_for x) Ps) ≡ cells_by_plans x env Ps →
        cells_of_plans env (if b then P ∷ F else F) ≡ (if b then cells_of_plan env P else 0) + cells_by_plans x env Ps
    go true h = ap (λ n. cells_of_plan env P + n) h
    go false h = h ∙ zero-more (cells_by_plans x env Ps)

-- The number of cells of plans with one more behind them.
pub cells-behind : (x : Text) (env : Env) (Ps : List Plan) (P : Plan) →
    cells_by_plans x env (Ps ++ (P ∷ [])) ≡ cells_by_plans x env Ps + cells_on x env P
cells-behind x env [] P = go (cells_on x env P)
  where
    go : (n : ℕ) → n + 0 ≡ 0 + n
    go n = omega arith
cells-behind x env (Q ∷ Qs) P =
    ap (λ n. cells_on x env Q + n) (cells-behind x env Qs P) ∙ go (cells_on x env Q) (cells_by_plans x env Qs) (cells_on x env P)
  where
    go : (k m n : ℕ) → k + (m + n) ≡ (k + m) + n
    go k m n = omega arith

-- ---- the whole

-- Plans add one by one.
pub plans-add-one-by-one : PlansAddOneByOne
plans-add-one-by-one = record {
  tables = λ f S o p a. tables-of-plans f (here S p) a (plans S o);
  declared = λ f S o p. declared-of-plans f (here S p) (plans S o);
  cells = λ S o p x. cells-of-plans x (here S p) (plans S o);
  tables_more = tables-more;
  tables_behind = tables-behind;
  declared_behind = declared-behind;
  cells_behind = cells-behind;
}
