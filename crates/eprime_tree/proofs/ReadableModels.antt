-- A readable model's parts are trees of the grammar, and the model that is read of them.
use Rattle.std.proofs.Common.{◌≡◌, refl, sym, ap, ◌∙◌, true, ◌&&◌, not, List, [], ◌∷◌, map}
use Rattle.std.specs.List.{list_all}
use Rattle.std.specs.Option.{is_some}
use Rattle.ess_semantics.specs.Values.{Text}
use Rattle.ess_semantics.specs.Names.{Names, look}
use Rattle.ess_semantics.specs.Trees.{Ex, Dom, bool_dom, int_dom, name_dom, tuple_dom, record_dom, matrix_dom, set_dom, mset_dom, function_dom, relation_dom, partition_dom}
use Rattle.ess_semantics.specs.Kinds.{dom_list}
use Rattle.ess_semantics.specs.DeclaredTables.{TableDecl}
use Rattle.ess_semantics.specs.ModelTrees.{Goal, no_goal, least, greatest, Model}
use Rattle.ess_semantics.proofs.Tests.{and-left, and-right}
use Rattle.ess_grammar.specs.Models.{Scope, empty_scope, with_given, with_find, scope_behind, with_cells, dom_with_cells, is_model_ex, is_model_dom, table_of, tables_of, ReadModel, model_of, goal_with_cells, are_model_tables, is_model_goal, is_readable_model}
use Rattle.ess_grammar.specs.Readable.{is_name_token, ReadableEx, ReadableDom}
use Rattle.eprime_tree.specs.Written.{written, dom_written, doms_written, matrix_over, table_written}
use Rattle.eprime_tree.proofs.ReadBack.{back-ex, back-dom}

-- Q holds of each.
abbrev pub Each : {A : Type 0} → (A → Type 0) → List A → Type 0
Each Q [] = Unit {0}
Each Q (x ∷ xs) = Q x × Each Q xs

-- The domains of a declared table as they are read are of the grammar.
abbrev pub ReadableTable : TableDecl → Type 0
ReadableTable t = Each (λ d. ReadableDom (dom_written d)) t.axes × ReadableDom (dom_written t.cell)

-- The objective as it is read is of the grammar.
abbrev pub ReadableGoal : Goal → Type 0
ReadableGoal no_goal = Unit {0}
ReadableGoal (least e) = ReadableEx (written e)
ReadableGoal (greatest e) = ReadableEx (written e)

-- ---- declarations

-- What `are_model_tables` says of the first table.
pub record TableIs (s : Scope) (t : TableDecl) : Type 0 where
  pub named : is_name_token t.name ≡ true
  pub axes : list_all (is_model_dom s true []) t.axes ≡ true
  pub cell : is_model_dom s true [] t.cell ≡ true

pub first-table : (add : Scope → TableDecl → Scope) (s : Scope) (t : TableDecl) (ts : List TableDecl) → are_model_tables add s (t ∷ ts) ≡ true → TableIs s t × (are_model_tables add (add s t) ts ≡ true)
first-table add s t ts h =
    let n = is_name_token t.name in
    let u = not (is_some (look s.tables t.name)) in
    let a = list_all (is_model_dom s true []) t.axes in
    let c = is_model_dom s true [] t.cell in
    let r = are_model_tables add (add s t) ts in
    let p = and-left (n && u && a && c) r h in
    let q = and-left (n && u && a) c p in
    (record { named = and-left n u (and-left (n && u) a q); axes = and-right (n && u) a q; cell = and-right (n && u && a) c p }, and-right (n && u && a && c) r h)

axes-readable : (s : Scope) (ds : List Dom) → list_all (is_model_dom s true []) ds ≡ true → Each (λ d. ReadableDom (dom_written d)) ds
axes-readable s [] h = tt
axes-readable s (d ∷ ds) h = ((back-dom s true [] d (and-left (is_model_dom s true [] d) (list_all (is_model_dom s true []) ds) h)).1, axes-readable s ds (and-right (is_model_dom s true [] d) (list_all (is_model_dom s true []) ds) h))

pub tables-readable : (add : Scope → TableDecl → Scope) (s : Scope) (ts : List TableDecl) → are_model_tables add s ts ≡ true → Each ReadableTable ts
tables-readable add s [] h = tt
tables-readable add s (t ∷ ts) h =
    let p = first-table add s t ts h in
    ((axes-readable s t.axes p.0.axes, (back-dom s true [] t.cell p.0.cell).1), tables-readable add (add s t) ts p.1)

axes-back : (s : Scope) (ds : List Dom) → list_all (is_model_dom s true []) ds ≡ true → map (dom_with_cells s []) (dom_list (doms_written ds)) ≡ ds
axes-back s [] h = refl
axes-back s (d ∷ ds) h =
    ap (λ x. x ∷ map (dom_with_cells s []) (dom_list (doms_written ds))) (back-dom s true [] d (and-left (is_model_dom s true [] d) (list_all (is_model_dom s true []) ds) h)).0
    ∙ ap (λ xs. d ∷ xs) (axes-back s ds (and-right (is_model_dom s true [] d) (list_all (is_model_dom s true []) ds) h))

-- a table of these parts
abbrev a_table : Text → List Dom → Dom → TableDecl
a_table a ds d = record { name = a; axes = ds; cell = d }

matrix-back : (s : Scope) (a : Text) (ds : List Dom) (d : Dom) → list_all (is_model_dom s true []) ds ≡ true → is_model_dom s true [] d ≡ true → table_of s a (matrix_over ds d) ≡ a_table a ds d
matrix-back s a [] bool_dom h k = refl
matrix-back s a [] (int_dom rs es) h k = ap (a_table a []) (back-dom s true [] (int_dom rs es) k).0
matrix-back s a [] (name_dom b) h k = cc
matrix-back s a [] (tuple_dom ds) h k = cc
matrix-back s a [] (record_dom ns ds) h k = cc
matrix-back s a [] (matrix_dom ds d) h k = cc
matrix-back s a [] (set_dom ms es d) h k = cc
matrix-back s a [] (mset_dom ms es d) h k = cc
matrix-back s a [] (function_dom ms es c d) h k = cc
matrix-back s a [] (relation_dom ms es ds) h k = cc
matrix-back s a [] (partition_dom ms es d) h k = cc
matrix-back s a (x ∷ xs) d h k = ap (λ ds. a_table a ds (dom_with_cells s [] (dom_written d))) (axes-back s (x ∷ xs) h) ∙ ap (a_table a (x ∷ xs)) (back-dom s true [] d k).0

-- Declared names with their domains as they are read.
abbrev pub read_tables : List TableDecl → Names Dom
read_tables [] = []
read_tables (t ∷ ts) = (t.name, table_written t) ∷ read_tables ts

tables-back : (add : Scope → TableDecl → Scope) (s : Scope) (ts : List TableDecl) → are_model_tables add s ts ≡ true → tables_of add s (read_tables ts) ≡ ts
tables-back add s [] h = refl
tables-back add s (t ∷ ts) h =
    let p = first-table add s t ts h in
    ap (λ u. u ∷ tables_of add (add s u) (read_tables ts)) (matrix-back s t.name t.axes t.cell p.0.axes p.0.cell) ∙ ap (λ us. t ∷ us) (tables-back add (add s t) ts p.1)

-- ---- objectives and constraints

pub goal-readable : (s : Scope) (g : Goal) → is_model_goal s g ≡ true → ReadableGoal g
goal-readable s no_goal h = tt
goal-readable s (least e) h = (back-ex s true [] e h).1
goal-readable s (greatest e) h = (back-ex s true [] e h).1

-- The objective as it is read.
abbrev pub read_goal : Goal → Goal
read_goal no_goal = no_goal
read_goal (least e) = least (written e)
read_goal (greatest e) = greatest (written e)

goal-back : (s : Scope) (g : Goal) → is_model_goal s g ≡ true → goal_with_cells s (read_goal g) ≡ g
goal-back s no_goal h = refl
goal-back s (least e) h = ap least (back-ex s true [] e h).0
goal-back s (greatest e) h = ap greatest (back-ex s true [] e h).0

pub rules-readable : (s : Scope) (es : List Ex) → list_all (is_model_ex s true []) es ≡ true → Each (λ e. ReadableEx (written e)) es
rules-readable s [] h = tt
rules-readable s (e ∷ es) h = ((back-ex s true [] e (and-left (is_model_ex s true [] e) (list_all (is_model_ex s true []) es) h)).1, rules-readable s es (and-right (is_model_ex s true [] e) (list_all (is_model_ex s true []) es) h))

rules-back : (s : Scope) (es : List Ex) → list_all (is_model_ex s true []) es ≡ true → map (with_cells s []) (map written es) ≡ es
rules-back s [] h = refl
rules-back s (e ∷ es) h =
    ap (λ x. x ∷ map (with_cells s []) (map written es)) (back-ex s true [] e (and-left (is_model_ex s true [] e) (list_all (is_model_ex s true []) es) h)).0
    ∙ ap (λ xs. e ∷ xs) (rules-back s es (and-right (is_model_ex s true [] e) (list_all (is_model_ex s true []) es) h))

-- ---- models

-- The scope of a model's objective and constraints.
abbrev pub whole_scope : Model → Scope
whole_scope m = scope_behind with_find (scope_behind with_given empty_scope m.givens) m.finds

-- What `is_readable_model` says of the parts.
pub record PartsAre (m : Model) : Type 0 where
  pub givens : are_model_tables with_given empty_scope m.givens ≡ true
  pub finds : are_model_tables with_find (scope_behind with_given empty_scope m.givens) m.finds ≡ true
  pub goal : is_model_goal (whole_scope m) m.goal ≡ true
  pub rules : list_all (is_model_ex (whole_scope m) true []) m.rules ≡ true

pub parts-are : (m : Model) → is_readable_model m ≡ true → PartsAre m
parts-are m h =
    let a = are_model_tables with_given empty_scope m.givens in
    let b = are_model_tables with_find (scope_behind with_given empty_scope m.givens) m.finds in
    let c = is_model_goal (whole_scope m) m.goal in
    let d = list_all (is_model_ex (whole_scope m) true []) m.rules in
    let p = and-left (a && b && c) d h in
    let q = and-left (a && b) c p in
    record { givens = and-left a b q; finds = and-right a b q; goal = and-right (a && b) c p; rules = and-right (a && b && c) d h }

-- The model as it is read.
abbrev pub read_model : Model → ReadModel
read_model m = record { givens = read_tables m.givens; finds = read_tables m.finds; goal = read_goal m.goal; rules = map written m.rules }

-- a model of these parts, and of what is read behind the givens gs and the finds fs
abbrev a_model : List TableDecl → List TableDecl → Goal → List Ex → Model
a_model gs fs g es = record { givens = gs; finds = fs; goal = g; rules = es }

abbrev behind_finds : Scope → List TableDecl → Scope
behind_finds s fs = scope_behind with_find s fs

pub model-back : (m : Model) → is_readable_model m ≡ true → m ≡ model_of (read_model m)
model-back m h =
    let p = parts-are m h in
    let s = scope_behind with_given empty_scope m.givens in
    let later : List TableDecl → Model = λ gs.
    let s = scope_behind with_given empty_scope gs in
    let fs = tables_of with_find s (read_tables m.finds) in
    a_model gs fs (goal_with_cells (behind_finds s fs) (read_goal m.goal)) (map (with_cells (behind_finds s fs) []) (map written m.rules)) in
    sym (ap later (tables-back with_given empty_scope m.givens p.givens)
    ∙ ap (λ fs. a_model m.givens fs (goal_with_cells (behind_finds s fs) (read_goal m.goal)) (map (with_cells (behind_finds s fs) []) (map written m.rules))) (tables-back with_find s m.finds p.finds)
    ∙ ap (λ g. a_model m.givens m.finds g (map (with_cells (whole_scope m) []) (map written m.rules))) (goal-back (whole_scope m) m.goal p.goal)
    ∙ ap (a_model m.givens m.finds m.goal) (rules-back (whole_scope m) m.rules p.rules))
