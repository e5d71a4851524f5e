-- The tables of a header's side are those of its plans over their domains, and declared tables are declared by the numbers of their cells.
use Rattle.std.proofs.Common.{◌≡◌, refl, sym, ap, ◌∙◌, Bool, true, false, ◌&&◌, ◌||◌, if◌then◌else◌, List, [], ◌∷◌, ◌++◌, map, filter, ℤ, pos, int_le, Option, Some, None, option_map, arith}
use Rattle.std.proofs.lemmas.Int.{ints}
use Rattle.std.proofs.lemmas.List.{map-append}
use Rattle.ess_semantics.specs.Lists.{list_or_none, append_all}
use Rattle.ess_semantics.specs.Trees.{Repr, Dom, Stm}
use Rattle.ess_semantics.specs.Domains.{Domain, booleans, integers, named, tuples, records, matrices, sets, msets, functions, relations, partitions}
use Rattle.ess_semantics.specs.Tables.{is_cell}
use Rattle.ess_semantics.specs.Declarations.{Declaration, declarations}
use Rattle.ess_semantics.specs.DeclaredTables.{TableDecl, DeclaredAs, SameMembers}
use Rattle.ess_semantics.specs.Meaning.{Env, domain_of}
use Rattle.ess_semantics.specs.Positions.{domain_with_positions}
use Rattle.ess_semantics.specs.Assignments.{Assignment, nothing_given, env_of}
use Rattle.ess_semantics.specs.Plans.{Side, same_side, side_of, Options, Plan, size_plan, value_plan, plans, declared_by_plan, declared_under}
use Rattle.ess_translate_members_laws.specs.CellForms.{cell_form, plain}
use Rattle.ess_translate_members_laws.specs.PlanDomains.{plan_closed, tables_on, tables_of_side}
use Rattle.ess_translate_members_laws.specs.Laws.{SidesByPlans, RunsAreOne}
use Rattle.ess_translate_members_laws.proofs.PlainDeclarations.{tables_kept}
use Rattle.ess_translate_members_laws.proofs.RunsOnce.{runs_are_one, cells_are_same}

-- ---- cells as numbers

or-no : (b : Bool) → b || false ≡ b
or-no true = refl
or-no false = refl

nothing-between : (n : ℤ) → (int_le (pos 1) n && int_le n (pos 0)) || false ≡ false
nothing-between n = go (int_le (pos 1) n) (int_le n (pos 0)) refl refl
  where
    go : (a b : Bool) → int_le (pos 1) n ≡ a → int_le n (pos 0) ≡ b → (a && b) || false ≡ false
    go false b p q = refl
    go true false p q = refl
    go true true p q = absurd (no p q)
      where
        no : int_le (pos 1) n ≡ true → int_le n (pos 0) ≡ true → ⊥
        no p q = grind (arith, ints)

-- The numbers are the cells.
pub form-cells : (d : Domain) (n : ℤ) → is_cell (cell_form d) n ≡ is_cell d n
form-cells booleans n = refl
form-cells (integers ss) n = refl
form-cells (named t k) n = or-no (int_le (pos 1) n && int_le n (pos k))
form-cells (tuples ds) n = nothing-between n
form-cells (records fs ds) n = nothing-between n
form-cells (matrices is d) n = nothing-between n
form-cells (sets ks d) n = nothing-between n
form-cells (msets ks d) n = nothing-between n
form-cells (functions ks d c) n = nothing-between n
form-cells (relations ks ds) n = nothing-between n
form-cells (partitions ks d) n = nothing-between n

members-plain : (o : Option Domain) (e : Domain) → SameMembers o (cell_form e) → SameMembers o e
members-plain None e h = absurd h
members-plain (Some d) e h = λ n. h n ∙ form-cells e n

members-form : (o : Option Domain) (e : Domain) → SameMembers o e → SameMembers o (cell_form e)
members-form None e h = absurd h
members-form (Some d) e h = λ n. h n ∙ sym (form-cells e n)

pub declared-plain : (g : Dom → Option Domain) (ts : List TableDecl) (ds : List Declaration) → DeclaredAs g ts (map plain ds) →
    DeclaredAs g ts ds
declared-plain g [] [] h = tt
declared-plain g [] (d ∷ ds) h = absurd h
declared-plain g (t ∷ ts) [] h = absurd h
declared-plain g (t ∷ ts) (d ∷ ds) h = (h.0, members-plain (g t.cell) d.cell h.1, declared-plain g ts ds h.2)

pub declared-form : (g : Dom → Option Domain) (ts : List TableDecl) (ds : List Declaration) → DeclaredAs g ts ds →
    DeclaredAs g ts (map plain ds)
declared-form g [] [] h = tt
declared-form g [] (d ∷ ds) h = absurd h
declared-form g (t ∷ ts) [] h = absurd h
declared-form g (t ∷ ts) (d ∷ ds) h = (h.0, members-form (g t.cell) d.cell h.1, declared-form g ts ds h.2)

-- ---- the plans of a side

-- One plan, with positions and without.
plan-plain : (r : Repr) (o : Option Domain) →
    map plain (list_or_none (option_map (declarations r) (option_map domain_with_positions o))) ≡ map plain (list_or_none (option_map
    (declarations r) o))
plan-plain r None = refl
plan-plain r (Some e) = tables_kept r e

one-plan : (f : Side) (env : Env) (p : Plan) →
    (if same_side (side_of p) f then map plain (declared_by_plan env p) else []) ≡ tables_on f p (plan_closed env p)
one-plan f env (size_plan t a) = refl
one-plan f env (value_plan g x r d ns) = ap (λ l. if same_side g f then l else []) (plan-plain r (domain_of d env))

first-plan : (f : Side) (env : Env) (p : Plan) (ps : List Plan) →
    map plain (append_all (map (declared_by_plan env) (filter (λ q. same_side (side_of q) f) (p ∷ ps))))
    ≡ (if same_side (side_of p) f then map plain (declared_by_plan env p) else [])
    ++ map plain (append_all (map (declared_by_plan env) (filter (λ q. same_side (side_of q) f) ps)))
first-plan f env p ps = go (same_side (side_of p) f) (filter (λ q. same_side (side_of q) f) ps)
  where
    go : (b : Bool) (qs : List Plan) → map plain (append_all (map (declared_by_plan env) (if b then p ∷ qs else qs)))
        ≡ (if b then map plain (declared_by_plan env p) else []) ++ map plain (append_all (map (declared_by_plan env) qs))
    go true qs = map-append plain (declared_by_plan env p) (append_all (map (declared_by_plan env) qs))
    go false qs = refl

all-plans : (f : Side) (env : Env) (ps : List Plan) →
    map plain (append_all (map (declared_by_plan env) (filter (λ q. same_side (side_of q) f) ps))) ≡ tables_of_side f ps (map
    (plan_closed env) ps)
all-plans f env [] = refl
all-plans f env (p ∷ ps) =
    first-plan f env p ps
    ∙ ap (λ l. l ++ map plain (append_all (map (declared_by_plan env) (filter (λ q. same_side (side_of q) f) ps)))) (one-plan f env p)
    ∙ ap (λ l. tables_on f p (plan_closed env p) ++ l) (all-plans f env ps)

-- The tables of a side are those of its plans.
pub side-tables : (f : Side) (S : List Stm) (o : Options) (p : Assignment) →
    map plain (declared_under f S o p) ≡ tables_of_side f (plans S o) (map (plan_closed (env_of S p nothing_given)) (plans S o))
side-tables f S o p = all-plans f (env_of S p nothing_given) (plans S o)

-- ---- the laws

pub sides_by_plans : SidesByPlans
sides_by_plans = record { tables = side-tables; declared = declared-plain; numbers = declared-form }

pub runs_one : RunsAreOne
runs_one = record { one = runs_are_one; same = cells_are_same }
