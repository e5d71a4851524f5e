-- The models that drafts stand for, with one line more.
use Rattle.std.proofs.Common.{◌≡◌, refl, sym, ap, ◌∙◌, subst, Bool, true, false, ◌&&◌, not, List, [], ◌∷◌, ◌++◌, map, Option, Some, None}
use Rattle.std.specs.List.{list_all}
use Rattle.std.specs.Option.{option_map, is_some}
use Rattle.ess_semantics.specs.Values.{Text}
use Rattle.ess_semantics.specs.Names.{look}
use Rattle.ess_semantics.specs.Lists.{when, and_then, each_of}
use Rattle.ess_semantics.specs.Trees.{Ex, Dom, Stm, matrix_dom}
use Rattle.ess_semantics.specs.DeclaredTables.{TableDecl}
use Rattle.ess_semantics.specs.ModelTrees.{Goal, no_goal, least, greatest, Model}
use Rattle.ess_grammar.specs.Readable.{is_name_token}
use Rattle.ess_grammar.specs.Models.{Scope, empty_scope, with_given, with_find, scope_behind, with_cells, table_of, are_model_tables, is_model_ex, is_model_dom, is_model_goal, is_readable_model}
use Rattle.eprime_read_laws.specs.ModelMachine.{givens_scope, model_scope, more_given, more_find, with_objective, readable, constraints_of, constrained}
use Rattle.eprime_read_convert.specs.Converted.{model_ex, declared_table}
use Rattle.eprime_read.specs.Drafts.{given_on, find_on, goal_on, rules_on}
use Rattle.eprime_read.specs.Statements.{model_rules}
use Rattle.eprime_read.proofs.PartStatements.{rules_by}
use Rattle.eprime_read.proofs.Booleans.{and_true, and_more, givens_new, finds_new, middle, last, chosen, new_table}

-- ---- declarations

-- What is asked of a table behind others.
abbrev pub is_new_table : Scope → TableDecl → Bool
is_new_table s t = ((is_name_token t.name && not (is_some (look s.tables t.name))) && list_all (is_model_dom s true []) t.axes) && is_model_dom s true [] t.cell

pub scope_more : (add : Scope → TableDecl → Scope) (s : Scope) (ts : List TableDecl) (t : TableDecl) → scope_behind add s (ts ++ t ∷ []) ≡ add (scope_behind add s ts) t
scope_more add s [] t = refl
scope_more add s (u ∷ ts) t = scope_more add (add s u) ts t

tables-more : (add : Scope → TableDecl → Scope) (s : Scope) (ts : List TableDecl) (t : TableDecl) → are_model_tables add s (ts ++ t ∷ []) ≡ (are_model_tables add s ts && is_new_table (scope_behind add s ts) t)
tables-more add s [] t = and_true (is_new_table s t)
tables-more add s (u ∷ ts) t =
    ap (λ b. is_new_table s u && b) (tables-more add (add s u) ts t)
    ∙ and_more (is_new_table s u) (are_model_tables add (add s u) ts) (is_new_table (scope_behind add (add s u) ts) t)

table-name : (s : Scope) (a : Text) (d : Dom) → (table_of s a d).name ≡ a
table-name s a (matrix_dom ds d) = refl
table-name s a d = refl

-- The table that is declared, where it may be.
declared-is : {B : Type 0} (s : Scope) (a : Text) (d : Dom) (b : Bool) (f : TableDecl → B) → is_name_token a ≡ true → b ≡ is_new_table s (table_of s a d) →
    (elim b [ true ↦ Some (f (table_of s a d)) | false ↦ None ]) ≡ option_map f (declared_table s a d)
declared-is s a d b f h k =
    let t : TableDecl = table_of s a d in
    new_table (is_name_token a) (list_all (is_model_dom s true []) t.axes) (is_model_dom s true [] t.cell) b (look s.tables a) t f h
    (k ∙ ap (λ n. ((is_name_token n && not (is_some (look s.tables n))) && list_all (is_model_dom s true []) t.axes) && is_model_dom s true [] t.cell) (table-name s a d))

-- A given more, where there is nothing behind the givens.
pub given_is : (gs fs : List TableDecl) (g : Goal) (rs : List Ex) (a : Text) (d : Dom) → fs ≡ [] → g ≡ no_goal → rs ≡ [] → is_name_token a ≡ true →
    is_readable_model (record { givens = gs; finds = fs; goal = g; rules = rs }) ≡ true →
    readable (more_given (record { givens = gs; finds = fs; goal = g; rules = rs }) a d)
    ≡ option_map (given_on (record { givens = gs; finds = fs; goal = g; rules = rs })) (declared_table (model_scope (record { givens = gs; finds = fs; goal = g; rules = rs })) a d)
given_is gs [] no_goal [] a d e i j n r =
    let m : Model = record { givens = gs; finds = []; goal = no_goal; rules = [] } in
    let s : Scope = scope_behind with_given empty_scope gs in
    let t : TableDecl = table_of s a d in
    declared-is s a d (is_readable_model (more_given m a d)) (given_on m) n
    (givens_new (are_model_tables with_given empty_scope gs) (is_new_table s t) (are_model_tables with_given empty_scope (gs ++ t ∷ [])) r (tables-more with_given empty_scope gs t))
given_is gs [] no_goal (x ∷ rs) a d e i j n r = cc
given_is gs [] (least x) rs a d e i j n r = cc
given_is gs [] (greatest x) rs a d e i j n r = cc
given_is gs (f ∷ fs) g rs a d e i j n r = cc

-- A find more, where there is nothing behind the finds.
pub find_is : (gs fs : List TableDecl) (g : Goal) (rs : List Ex) (a : Text) (d : Dom) → g ≡ no_goal → rs ≡ [] → is_name_token a ≡ true →
    is_readable_model (record { givens = gs; finds = fs; goal = g; rules = rs }) ≡ true →
    readable (more_find (record { givens = gs; finds = fs; goal = g; rules = rs }) a d)
    ≡ option_map (find_on (record { givens = gs; finds = fs; goal = g; rules = rs })) (declared_table (model_scope (record { givens = gs; finds = fs; goal = g; rules = rs })) a d)
find_is gs fs no_goal [] a d i j n r =
    let m : Model = record { givens = gs; finds = fs; goal = no_goal; rules = [] } in
    let s : Scope = scope_behind with_given empty_scope gs in
    let t : TableDecl = table_of (model_scope m) a d in
    declared-is (model_scope m) a d (is_readable_model (more_find m a d)) (find_on m) n
    (finds_new (are_model_tables with_given empty_scope gs) (are_model_tables with_find s fs) (is_new_table (model_scope m) t) (are_model_tables with_find s (fs ++ t ∷ [])) r (tables-more with_find s fs t))
find_is gs fs no_goal (x ∷ rs) a d i j n r = cc
find_is gs fs (least x) rs a d i j n r = cc
find_is gs fs (greatest x) rs a d i j n r = cc

-- ---- objectives

-- Whether all declarations are those of a model.
abbrev are_tables : Model → Bool
are_tables m = are_model_tables with_given empty_scope m.givens && are_model_tables with_find (givens_scope m) m.finds

pub least_is : (m : Model) (e : Ex) → is_readable_model m ≡ true → readable (with_objective m (least e)) ≡ option_map (λ x. goal_on m (least x)) (model_ex (model_scope m) true [] e)
least_is m e r =
    let s : Scope = model_scope m in
    let x : Ex = with_cells s [] e in
    ap (λ b. elim b [ true ↦ Some (goal_on m (least x)) | false ↦ None ])
    (middle (are_tables m) (is_model_goal s m.goal) (list_all (is_model_ex s true []) m.rules) (is_model_ex s true [] x) r)
    ∙ chosen (is_model_ex s true [] x) x (λ y. goal_on m (least y))

pub greatest_is : (m : Model) (e : Ex) → is_readable_model m ≡ true → readable (with_objective m (greatest e)) ≡ option_map (λ x. goal_on m (greatest x)) (model_ex (model_scope m) true [] e)
greatest_is m e r =
    let s : Scope = model_scope m in
    let x : Ex = with_cells s [] e in
    ap (λ b. elim b [ true ↦ Some (goal_on m (greatest x)) | false ↦ None ])
    (middle (are_tables m) (is_model_goal s m.goal) (list_all (is_model_ex s true []) m.rules) (is_model_ex s true [] x) r)
    ∙ chosen (is_model_ex s true [] x) x (λ y. goal_on m (greatest y))

-- ---- constraints

one-each : (b c : Bool) (x : Ex) (xs : List Ex) → and_then (when b x) (λ y. option_map (λ ys. y ∷ ys) (when c xs)) ≡ when (b && c) (x ∷ xs)
one-each true true x xs = refl
one-each true false x xs = refl
one-each false c x xs = refl

each-model : (s : Scope) (es : List Ex) → each_of es (model_ex s true []) ≡ when (list_all (is_model_ex s true []) (map (with_cells s []) es)) (map (with_cells s []) es)
each-model s [] = refl
each-model s (e ∷ es) =
    ap (λ o. and_then (model_ex s true [] e) (λ y. option_map (λ ys. y ∷ ys) o)) (each-model s es)
    ∙ one-each (is_model_ex s true [] (with_cells s [] e)) (list_all (is_model_ex s true []) (map (with_cells s []) es)) (with_cells s [] e) (map (with_cells s []) es)

rules-found : (m : Model) (o : Option (List Ex)) → is_readable_model m ≡ true → constrained m o ≡ option_map (rules_on m) (and_then o (λ es. each_of es (model_ex (model_scope m) true [])))
rules-found m None r = refl
rules-found m (Some es) r =
    let s : Scope = model_scope m in
    let xs : List Ex = map (with_cells s []) es in
    ap (λ b. elim b [ true ↦ Some (rules_on m xs) | false ↦ None ])
    (last (are_tables m && is_model_goal s m.goal) (list_all (is_model_ex s true []) m.rules) (list_all (is_model_ex s true []) xs) r)
    ∙ chosen (list_all (is_model_ex s true []) xs) xs (rules_on m)
    ∙ ap (option_map (rules_on m)) (sym (each-model s es))

pub rules_are : (m : Model) (ss : List Stm) → is_readable_model m ≡ true → constrained m (constraints_of ss) ≡ option_map (rules_on m) (model_rules (model_scope m) ss)
rules_are m ss r = rules-found m (constraints_of ss) r ∙ ap (option_map (rules_on m)) (rules_by (model_scope m) ss)

-- ---- models that are readable

-- What is answered is readable.
pub readable_then : (m k : Model) (b : Bool) → is_readable_model m ≡ b → (elim b [ true ↦ Some m | false ↦ None ]) ≡ Some k → is_readable_model k ≡ true
readable_then m k true e h = let q : m ≡ k = cc in subst (λ n. is_readable_model n ≡ true) q e
readable_then m k false e h = cc

pub is_readable : (m k : Model) → readable m ≡ Some k → is_readable_model k ≡ true
is_readable m k h = readable_then m k (is_readable_model m) refl h
