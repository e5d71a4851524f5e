-- The tables of plans, one plan after the other.
use Rattle.std.proofs.Common.{◌≡◌, refl, sym, ap, ◌∙◌, subst, ℕ, zero, suc, ◌+◌, ◌<◌, ◌≤◌, List, [], ◌∷◌, ◌++◌, map, drop, length, get_or, Option, Some, None, option_map, arith, append_assoc, append-nil}
use Rattle.std.proofs.lemmas.List.{at_drop_more, at_drop_all, map-append}
use Rattle.ess_semantics.specs.Lists.{and_then}
use Rattle.ess_semantics.specs.Names.{Names}
use Rattle.ess_semantics.specs.Tables as pure_tables
use Rattle.ess_semantics.specs.Meaning.{Env}
use Rattle.ess_semantics.specs.Assignments.{Assignment}
use Rattle.ess_semantics.specs.Plans as pure
use Rattle.ess_semantics.specs.Plans.{givens_side}
use Rattle.ess_core.specs.declared.tables.NamedTable.{NamedTable}
use Rattle.ess_core.specs.TableViews.{pure_named_table}
use Rattle.ess_eval_domains.specs.declared.closed.Closed.{Closed}
use Rattle.ess_eval_domains.specs.ClosedViews.{pure_closed}
use Rattle.ess_translate_members_laws.specs.PlanDomains.{plan_closed}
use Rattle.ess_translate_given_laws.specs.ByPlans.{tables_on, tables_by_plans}
use Rattle.ess_translate_plans.specs.declared.plans.Plan.{Plan}
use Rattle.ess_translate_plans.specs.Views.{pure_plan}
use Rattle.ess_translate_given.specs.ReadyPlans.{PlanReady, PlansReady}
use Rattle.ess_translate_given.specs.TablesBehind.{AreTables, IsTable}
use Rattle.ess_translate_given.proofs.KeptLoops.{domains_in}

-- ---- the plan at an index

first-of : {A : Type 0} (x y : A) (xs ys : List A) → x ∷ xs ≡ y ∷ ys → x ≡ y
first-of x y xs ys e = cc

rest-of : {A : Type 0} (x y : A) (xs ys : List A) → x ∷ xs ≡ y ∷ ys → xs ≡ ys
rest-of x y xs ys e = cc

-- The plan at an index is ready alone.
ready-at : (env : Env) (a : Assignment) (ps : List Plan) (os : List (Option Closed)) (i : ℕ) (p : Plan) (o : Option Closed) → i < length ps → i < length os →
    p ≡ get_or ps i p → o ≡ get_or os i o → PlansReady env a (map pure_plan ps) (domains_in os) →
    PlansReady env a (pure_plan p ∷ []) (domains_in (o ∷ []))
ready-at env a [] os i p o h k at bt r = absurd (omega (arith, h))
ready-at env a (q ∷ ps) [] i p o h k at bt r = absurd (omega (arith, k))
ready-at env a (q ∷ ps) (u ∷ os) zero p o h k at bt r = record {
  closed = ap (λ x. domains_in (x ∷ [])) bt
      ∙ ap (λ x. x ∷ []) (first-of _ _ (domains_in os) (map (plan_closed env) (map pure_plan ps)) r.closed)
      ∙ ap (λ x. plan_closed env (pure_plan x) ∷ []) (sym at);
  each = (subst (λ x. PlanReady env a (pure_plan x)) (sym at) r.each.0, tt);
}
ready-at env a (q ∷ ps) (u ∷ os) (suc i) p o h k at bt r =
    ready-at env a ps os i p o (omega (arith, h)) (omega (arith, k)) at bt (record {
      closed = rest-of _ _ (domains_in os) (map (plan_closed env) (map pure_plan ps)) r.closed;
      each = r.each.1;
    })

-- There are as many domains as plans.
long-ready : (env : Env) (a : Assignment) (ps : List Plan) (os : List (Option Closed)) → PlansReady env a (map pure_plan ps) (domains_in os) →
    length os ≡ length ps
long-ready env a [] [] r = refl
long-ready env a [] (o ∷ os) r = let c : domains_in (o ∷ os) ≡ [] = r.closed in cc
long-ready env a (p ∷ ps) [] r = let c : [] ≡ map (plan_closed env) (map pure_plan (p ∷ ps)) = r.closed in cc
long-ready env a (p ∷ ps) (o ∷ os) r = ap suc (long-ready env a ps os (record {
  closed = rest-of _ _ (domains_in os) (map (plan_closed env) (map pure_plan ps)) r.closed;
  each = r.each.1;
}))

-- ---- the tables of a plan alone

one-there : {A : Type 0} (o : Option (List A)) (x : List A) → Some x ≡ and_then o (λ c. option_map (λ d. c ++ d) (Some [])) → o ≡ Some x
one-there None x e = let c : Some x ≡ None = e in cc
one-there (Some y) x e = let c : Some x ≡ Some (y ++ []) = e in let q : y ++ [] ≡ y = append-nil y in cc

one-not : {A : Type 0} (o : Option (List A)) → None ≡ and_then o (λ c. option_map (λ d. c ++ d) (Some [])) → o ≡ None
one-not None e = refl
one-not (Some y) e = let c : None ≡ Some (y ++ []) = e in cc

-- ---- turn by turn

-- The tables of the plans from an index on.
abbrev left : Env → Assignment → List Plan → ℕ → Option (Names pure_tables.Table)
left env a ps i = tables_by_plans givens_side env a (map pure_plan (drop i ps))

-- Where the plans are ready, these tables and those of the plans from an index on are the tables of all plans.
pub record IsSoFar (a : Assignment) (ps : List Plan) (os : List (Option Closed)) (i : ℕ) (ts : List NamedTable) : Type 0 where
  pub so_far : (env : Env) → PlansReady env a (map pure_plan ps) (domains_in os) →
      tables_by_plans givens_side env a (map pure_plan ps) ≡ option_map (λ d. map pure_named_table ts ++ d) (left env a ps i)

nothing-before : {A : Type 0} (o : Option (List A)) → o ≡ option_map (λ d. [] ++ d) o
nothing-before None = refl
nothing-before (Some x) = refl

pub turn_none : (a : Assignment) (ps : List Plan) (os : List (Option Closed)) (ts : List NamedTable) → ts ≡ [] → IsSoFar a ps os 0 ts
turn_none a ps os ts e = record {
  so_far = λ env r. nothing-before (tables_by_plans givens_side env a (map pure_plan ps))
      ∙ ap (λ l. option_map (λ d. map pure_named_table l ++ d) (tables_by_plans givens_side env a (map pure_plan ps))) (sym e);
}

left-step : (env : Env) (a : Assignment) (ps : List Plan) (i : ℕ) (p : Plan) → i < length ps → p ≡ get_or ps i p →
    left env a ps i ≡ and_then (tables_on givens_side env a (pure_plan p)) (λ c. option_map (λ d. c ++ d) (left env a ps (i + 1)))
left-step env a ps i p h at =
    at_drop_more (λ l. tables_by_plans givens_side env a (map pure_plan l)) ps i p h
    ∙ ap (λ x. and_then (tables_on givens_side env a (pure_plan x)) (λ c. option_map (λ d. c ++ d) (left env a ps (i + 1)))) (sym at)

behind : {A : Type 0} (x y : List A) (o : Option (List A)) → option_map (λ d. x ++ d) (option_map (λ d. y ++ d) o) ≡ option_map (λ d. (x ++ y) ++ d) o
behind x y None = refl
behind x y (Some z) = ap Some (sym (append_assoc x y z))

pub turn_more : (a : Assignment) (ps : List Plan) (os : List (Option Closed)) (i : ℕ) (p : Plan) (o : Option Closed) (ts us new : List NamedTable) →
    i < length ps → i < length os → p ≡ get_or ps i p → o ≡ get_or os i o →
    IsTable a (pure_plan p) (option_map pure_closed o) (Some us) → new ≡ ts ++ us →
    IsSoFar a ps os i ts → IsSoFar a ps os (i + 1) new
turn_more a ps os i p o ts us new h k at bt t e s = record {
  so_far = λ env r.
      let one : tables_on givens_side env a (pure_plan p) ≡ Some (map pure_named_table us) =
      one-there (tables_on givens_side env a (pure_plan p)) (map pure_named_table us) (t.are env (ready-at env a ps os i p o h k at bt r)) in
      s.so_far env r ∙ ap (option_map (λ d. map pure_named_table ts ++ d)) (left-step env a ps i p h at
      ∙ ap (λ q. and_then q (λ c. option_map (λ d. c ++ d) (left env a ps (i + 1)))) one)
      ∙ behind (map pure_named_table ts) (map pure_named_table us) (left env a ps (i + 1))
      ∙ ap (λ l. option_map (λ d. l ++ d) (left env a ps (i + 1))) (sym (map-append pure_named_table ts us) ∙ ap (map pure_named_table) (sym e));
}

pub turn_stop : (a : Assignment) (ps : List Plan) (os : List (Option Closed)) (i : ℕ) (p : Plan) (o : Option Closed) (ts : List NamedTable) →
    i < length ps → i < length os → p ≡ get_or ps i p → o ≡ get_or os i o →
    IsTable a (pure_plan p) (option_map pure_closed o) None → IsSoFar a ps os i ts →
    AreTables a (map pure_plan ps) (domains_in os) None
turn_stop a ps os i p o ts h k at bt t s = record {
  are = λ env r.
      let one : tables_on givens_side env a (pure_plan p) ≡ None =
      one-not (tables_on givens_side env a (pure_plan p)) (t.are env (ready-at env a ps os i p o h k at bt r)) in
      sym (s.so_far env r ∙ ap (option_map (λ d. map pure_named_table ts ++ d)) (left-step env a ps i p h at
      ∙ ap (λ q. and_then q (λ c. option_map (λ d. c ++ d) (left env a ps (i + 1)))) one));
}

pub turn_short : (a : Assignment) (ps : List Plan) (os : List (Option Closed)) (i : ℕ) → i < length ps → length os ≤ i →
    AreTables a (map pure_plan ps) (domains_in os) None
turn_short a ps os i h k = record {
  are = λ env r. let n : length os ≡ length ps = long-ready env a ps os r in absurd (omega (arith, h, k, n));
}

pub turn_all : (a : Assignment) (ps : List Plan) (os : List (Option Closed)) (i : ℕ) (ts : List NamedTable) → length ps ≤ i → IsSoFar a ps os i ts →
    AreTables a (map pure_plan ps) (domains_in os) (Some ts)
turn_all a ps os i ts h s = record {
  are = λ env r. sym (s.so_far env r
      ∙ ap (option_map (λ d. map pure_named_table ts ++ d)) (at_drop_all (λ l. tables_by_plans givens_side env a (map pure_plan l)) ps i h)
      ∙ ap Some (append-nil (map pure_named_table ts)));
}

-- The pass over the plans.
pub ruleset turns = (turn_none, turn_more, turn_stop, turn_short, turn_all)
