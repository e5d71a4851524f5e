-- Drafts with one line more: what they stand for, and that they stay sound.
use Rattle.std.proofs.Common.{◌≡◌, refl, sym, ap, ◌∙◌, Bool, true, false, List, [], ◌∷◌, ◌++◌, map, Option, Some, None, IsTrue}
use Rattle.std.specs.Option.{option_map}
use Rattle.ess_semantics.specs.Values.{Text}
use Rattle.ess_semantics.specs.Meaning.{is_bool_dom}
use Rattle.ess_semantics.specs.Trees as pure
use Rattle.ess_semantics.specs.DeclaredTables.{TableDecl}
use Rattle.ess_semantics.specs.ModelTrees.{no_goal, least, greatest, Model}
use Rattle.ess_grammar.specs.Words.{given_word, find_word}
use Rattle.ess_grammar.specs.Readable.{is_name_token}
use Rattle.ess_grammar.specs.Models.{Scope, empty_scope, with_given, with_find, scope_behind, is_readable_model}
use Rattle.eprime_read_laws.specs.ModelMachine.{givens_scope, model_scope, more_given, more_find, with_objective, with_constraints, readable, constraints_of, constrained}
use Rattle.eprime_tree.specs.declared.expressions.PEx.{PEx}
use Rattle.eprime_tree.specs.declared.models.PDecl.{PDecl}
use Rattle.eprime_tree.specs.declared.models.PGoal.{PGoal}
use Rattle.eprime_tree.specs.declared.models.PGoal.TheVariants.{Free, Minimise, Maximise}
use Rattle.eprime_tree.specs.declared.models.PModel.{PModel}
use Rattle.eprime_tree.specs.Views.{pure_ex, pure_dom, pure_decl, pure_decls, pure_goal, pure_model}
use Rattle.eprime_read_convert.specs.declared.lines.Line.{Line}
use Rattle.eprime_read_convert.specs.Lines.{scope_of}
use Rattle.eprime_read_convert.specs.Converted.{model_ex, declared_table}
use Rattle.eprime_read.specs.Drafts.{IsSound, Fits, given_on, find_on, goal_on, rules_on}
use Rattle.eprime_read.specs.Statements.{model_rules}
use Rattle.eprime_read.proofs.LineScopes.{scope_given, scope_find}
use Rattle.eprime_read.proofs.DraftModels.{scope_more, given_is, find_is, least_is, greatest_is, rules_are, is_readable}

decls-more : (add : Scope → TableDecl → Scope) (s : Scope) (ds : List PDecl) (d : PDecl) →
    pure_decls add s (ds ++ d ∷ []) ≡ pure_decls add s ds ++ pure_decl (scope_behind add s (pure_decls add s ds)) d ∷ []
decls-more add s [] d = refl
decls-more add s (c ∷ ds) d = ap (λ ts. pure_decl s c ∷ ts) (decls-more add (add s (pure_decl s c)) ds d)

-- ---- a given more

-- The model with these givens.
abbrev pub of_givens : PModel → List PDecl → PModel
of_givens m gs = record { head = m.head; givens = gs; finds = m.finds; goal = m.goal; rules = m.rules }

given-view : (h : List Text) (gs fs : List PDecl) (o : PGoal) (rs : List PEx) (p : PDecl) → fs ≡ [] → o ≡ Free → rs ≡ [] →
    let m : PModel = record { head = h; givens = gs; finds = fs; goal = o; rules = rs } in
    pure_model (of_givens m (gs ++ p ∷ [])) ≡ given_on (pure_model m) (pure_decl (model_scope (pure_model m)) p)
given-view h gs [] Free [] p e i j = ap (λ ts. record { givens = ts; finds = []; goal = no_goal; rules = [] }) (decls-more with_given empty_scope gs p)
given-view h gs [] Free (r ∷ rs) p e i j = cc
given-view h gs [] (Minimise x) rs p e i j = cc
given-view h gs [] (Maximise x) rs p e i j = cc
given-view h gs (f ∷ fs) o rs p e i j = cc

given-scope : (h : List Text) (gs fs : List PDecl) (o : PGoal) (rs : List PEx) (p : PDecl) → fs ≡ [] →
    let m : PModel = record { head = h; givens = gs; finds = fs; goal = o; rules = rs } in
    model_scope (pure_model (of_givens m (gs ++ p ∷ []))) ≡ with_given (model_scope (pure_model m)) (pure_decl (model_scope (pure_model m)) p)
given-scope h gs [] o rs p e =
    ap (scope_behind with_given empty_scope) (decls-more with_given empty_scope gs p)
    ∙ scope_more with_given empty_scope (pure_decls with_given empty_scope gs) (pure_decl (scope_behind with_given empty_scope (pure_decls with_given empty_scope gs)) p)
given-scope h gs (f ∷ fs) o rs p e = cc

-- A given, by the table that it declares.
pub given_found : (m : PModel) (ls : List Line) (a : Text) (d : pure.Dom) (o : Option TableDecl) → Fits given_word m → IsSound m ls → IsTrue (is_name_token a) → declared_table (scope_of ls) a d ≡ o →
    readable (more_given (pure_model m) a d) ≡ option_map (given_on (pure_model m)) o
given_found m ls a d o f s n h =
    given_is (pure_model m).givens (pure_model m).finds (pure_model m).goal (pure_model m).rules a d
    (ap (pure_decls with_find (givens_scope (pure_model m))) f.0) (ap (pure_goal (model_scope (pure_model m))) f.1) (ap (map (pure_ex (model_scope (pure_model m)))) f.2) n s.readable
    ∙ ap (λ c. option_map (given_on (pure_model m)) (declared_table c a d)) (sym s.declared) ∙ ap (option_map (given_on (pure_model m))) h

-- A table that may be declared gives a model.
pub given_readable : (m : PModel) (ls : List Line) (a : Text) (d : pure.Dom) (t : TableDecl) → Fits given_word m → IsSound m ls → IsTrue (is_name_token a) → declared_table (scope_of ls) a d ≡ Some t →
    is_readable_model (given_on (pure_model m) t) ≡ true
given_readable m ls a d t f s n h = is_readable (more_given (pure_model m) a d) (given_on (pure_model m) t) (given_found m ls a d (Some t) f s n h)

-- The model with it.
pub given_more : (m : PModel) (ls : List Line) (p : PDecl) (gs : List PDecl) → Fits given_word m → IsSound m ls → gs ≡ m.givens ++ p ∷ [] → pure_model (of_givens m gs) ≡ given_on (pure_model m) (pure_decl (scope_of ls) p)
given_more m ls p gs f s e =
    ap (λ ds. pure_model (of_givens m ds)) e ∙ given-view m.head m.givens m.finds m.goal m.rules p f.0 f.1 f.2 ∙ ap (λ c. given_on (pure_model m) (pure_decl c p)) (sym s.declared)

-- The line is that of the declaration.
pub record IsLineOf (l : Line) (p : PDecl) (f : Bool) : Type 0 where
  pub name : l.name ≡ p.name
  pub truth : (s : Scope) → l.truth ≡ is_bool_dom (pure_dom s p.cell)
  pub found : l.found ≡ f

-- It stays sound.
pub given_sound : (m : PModel) (ls new : List Line) (l : Line) (p : PDecl) (gs : List PDecl) → Fits given_word m → IsSound m ls → is_readable_model (given_on (pure_model m) (pure_decl (scope_of ls) p)) ≡ true →
    gs ≡ m.givens ++ p ∷ [] → IsLineOf l p false → new ≡ ls ++ l ∷ [] → IsSound (of_givens m gs) new
given_sound m ls new l p gs f s r e x k =
    record {
      declared =
          scope_given ls new l (pure_decl (model_scope (pure_model m)) p) k x.name (x.truth (model_scope (pure_model m))) x.found
          ∙ ap (λ c. with_given c (pure_decl (model_scope (pure_model m)) p)) s.declared
          ∙ sym (given-scope m.head m.givens m.finds m.goal m.rules p f.0)
          ∙ ap (λ ds. model_scope (pure_model (of_givens m ds))) (sym e);
      readable = ap is_readable_model (given_more m ls p gs f s e) ∙ r;
    }

-- ---- a find more

-- The model with these finds.
abbrev pub of_finds : PModel → List PDecl → PModel
of_finds m fs = record { head = m.head; givens = m.givens; finds = fs; goal = m.goal; rules = m.rules }

find-view : (h : List Text) (gs fs : List PDecl) (o : PGoal) (rs : List PEx) (p : PDecl) → o ≡ Free → rs ≡ [] →
    let m : PModel = record { head = h; givens = gs; finds = fs; goal = o; rules = rs } in
    pure_model (of_finds m (fs ++ p ∷ [])) ≡ find_on (pure_model m) (pure_decl (model_scope (pure_model m)) p)
find-view h gs fs Free [] p i j =
    let ts : List TableDecl = pure_decls with_given empty_scope gs in
    ap (λ us. record { givens = ts; finds = us; goal = no_goal; rules = [] }) (decls-more with_find (scope_behind with_given empty_scope ts) fs p)
find-view h gs fs Free (r ∷ rs) p i j = cc
find-view h gs fs (Minimise x) rs p i j = cc
find-view h gs fs (Maximise x) rs p i j = cc

find-scope : (m : PModel) (p : PDecl) → model_scope (pure_model (of_finds m (m.finds ++ p ∷ []))) ≡ with_find (model_scope (pure_model m)) (pure_decl (model_scope (pure_model m)) p)
find-scope m p =
    let s : Scope = givens_scope (pure_model m) in
    ap (scope_behind with_find s) (decls-more with_find s m.finds p)
    ∙ scope_more with_find s (pure_decls with_find s m.finds) (pure_decl (scope_behind with_find s (pure_decls with_find s m.finds)) p)

-- A find, by the table that it declares.
pub find_found : (m : PModel) (ls : List Line) (a : Text) (d : pure.Dom) (o : Option TableDecl) → Fits find_word m → IsSound m ls → IsTrue (is_name_token a) → declared_table (scope_of ls) a d ≡ o →
    readable (more_find (pure_model m) a d) ≡ option_map (find_on (pure_model m)) o
find_found m ls a d o f s n h =
    find_is (pure_model m).givens (pure_model m).finds (pure_model m).goal (pure_model m).rules a d
    (ap (pure_goal (model_scope (pure_model m))) f.0) (ap (map (pure_ex (model_scope (pure_model m)))) f.1) n s.readable
    ∙ ap (λ c. option_map (find_on (pure_model m)) (declared_table c a d)) (sym s.declared) ∙ ap (option_map (find_on (pure_model m))) h

-- A table that may be declared gives a model.
pub find_readable : (m : PModel) (ls : List Line) (a : Text) (d : pure.Dom) (t : TableDecl) → Fits find_word m → IsSound m ls → IsTrue (is_name_token a) → declared_table (scope_of ls) a d ≡ Some t →
    is_readable_model (find_on (pure_model m) t) ≡ true
find_readable m ls a d t f s n h = is_readable (more_find (pure_model m) a d) (find_on (pure_model m) t) (find_found m ls a d (Some t) f s n h)

-- The model with it.
pub find_more : (m : PModel) (ls : List Line) (p : PDecl) (fs : List PDecl) → Fits find_word m → IsSound m ls → fs ≡ m.finds ++ p ∷ [] → pure_model (of_finds m fs) ≡ find_on (pure_model m) (pure_decl (scope_of ls) p)
find_more m ls p fs f s e =
    ap (λ ds. pure_model (of_finds m ds)) e ∙ find-view m.head m.givens m.finds m.goal m.rules p f.0 f.1 ∙ ap (λ c. find_on (pure_model m) (pure_decl c p)) (sym s.declared)

-- It stays sound.
pub find_sound : (m : PModel) (ls new : List Line) (l : Line) (p : PDecl) (fs : List PDecl) → Fits find_word m → IsSound m ls → is_readable_model (find_on (pure_model m) (pure_decl (scope_of ls) p)) ≡ true →
    fs ≡ m.finds ++ p ∷ [] → IsLineOf l p true → new ≡ ls ++ l ∷ [] → IsSound (of_finds m fs) new
find_sound m ls new l p fs f s r e x k =
    record {
      declared =
          scope_find ls new l (pure_decl (model_scope (pure_model m)) p) k x.name (x.truth (model_scope (pure_model m))) x.found
          ∙ ap (λ c. with_find c (pure_decl (model_scope (pure_model m)) p)) s.declared
          ∙ sym (find-scope m p)
          ∙ ap (λ ds. model_scope (pure_model (of_finds m ds))) (sym e);
      readable = ap is_readable_model (find_more m ls p fs f s e) ∙ r;
    }

-- ---- an objective

-- The model with this objective.
abbrev pub of_goal : PModel → PGoal → PModel
of_goal m g = record { head = m.head; givens = m.givens; finds = m.finds; goal = g; rules = m.rules }

-- The model with it.
pub goal_more : (m : PModel) (ls : List Line) (g : PGoal) → IsSound m ls → pure_model (of_goal m g) ≡ goal_on (pure_model m) (pure_goal (scope_of ls) g)
goal_more m ls g s = ap (λ c. goal_on (pure_model m) (pure_goal c g)) (sym s.declared)

-- It stays sound.
pub goal_sound : (m : PModel) (ls : List Line) (g : PGoal) → IsSound m ls → is_readable_model (goal_on (pure_model m) (pure_goal (scope_of ls) g)) ≡ true → IsSound (of_goal m g) ls
goal_sound m ls g s r = record { declared = s.declared; readable = ap is_readable_model (goal_more m ls g s) ∙ r }

-- An objective, by the expression that it is.
pub least_found : (m : PModel) (ls : List Line) (e : pure.Ex) (o : Option pure.Ex) → IsSound m ls → o ≡ model_ex (scope_of ls) true [] e →
    readable (with_objective (pure_model m) (least e)) ≡ option_map (λ x. goal_on (pure_model m) (least x)) o
least_found m ls e o s h =
    least_is (pure_model m) e s.readable
    ∙ ap (λ c. option_map (λ x. goal_on (pure_model m) (least x)) (model_ex c true [] e)) (sym s.declared)
    ∙ ap (option_map (λ x. goal_on (pure_model m) (least x))) (sym h)

pub greatest_found : (m : PModel) (ls : List Line) (e : pure.Ex) (o : Option pure.Ex) → IsSound m ls → o ≡ model_ex (scope_of ls) true [] e →
    readable (with_objective (pure_model m) (greatest e)) ≡ option_map (λ x. goal_on (pure_model m) (greatest x)) o
greatest_found m ls e o s h =
    greatest_is (pure_model m) e s.readable
    ∙ ap (λ c. option_map (λ x. goal_on (pure_model m) (greatest x)) (model_ex c true [] e)) (sym s.declared)
    ∙ ap (option_map (λ x. goal_on (pure_model m) (greatest x))) (sym h)

-- An objective that may stand gives a model.
pub least_readable : (m : PModel) (ls : List Line) (e x : pure.Ex) → IsSound m ls → Some x ≡ model_ex (scope_of ls) true [] e → is_readable_model (goal_on (pure_model m) (least x)) ≡ true
least_readable m ls e x s h = is_readable (with_objective (pure_model m) (least e)) (goal_on (pure_model m) (least x)) (least_found m ls e (Some x) s h)

pub greatest_readable : (m : PModel) (ls : List Line) (e x : pure.Ex) → IsSound m ls → Some x ≡ model_ex (scope_of ls) true [] e → is_readable_model (goal_on (pure_model m) (greatest x)) ≡ true
greatest_readable m ls e x s h = is_readable (with_objective (pure_model m) (greatest e)) (goal_on (pure_model m) (greatest x)) (greatest_found m ls e (Some x) s h)

-- ---- constraints

-- The model with these constraints.
abbrev pub of_rules : PModel → List PEx → PModel
of_rules m rs = record { head = m.head; givens = m.givens; finds = m.finds; goal = m.goal; rules = rs }

-- The model with them.
pub rules_more : (m : PModel) (ls : List Line) (rs : List PEx) → IsSound m ls → pure_model (of_rules m rs) ≡ rules_on (pure_model m) (map (pure_ex (scope_of ls)) rs)
rules_more m ls rs s = ap (λ c. rules_on (pure_model m) (map (pure_ex c) rs)) (sym s.declared)

-- It stays sound.
pub rules_sound : (m : PModel) (ls : List Line) (rs : List PEx) → IsSound m ls → is_readable_model (rules_on (pure_model m) (map (pure_ex (scope_of ls)) rs)) ≡ true → IsSound (of_rules m rs) ls
rules_sound m ls rs s r = record { declared = s.declared; readable = ap is_readable_model (rules_more m ls rs s) ∙ r }

-- Constraints, by the expressions that they are.
pub rules_found : (m : PModel) (ls : List Line) (ss : List pure.Stm) (o : Option (List pure.Ex)) → IsSound m ls → o ≡ model_rules (scope_of ls) ss →
    constrained (pure_model m) (constraints_of ss) ≡ option_map (rules_on (pure_model m)) o
rules_found m ls ss o s h =
    rules_are (pure_model m) ss s.readable
    ∙ ap (λ c. option_map (rules_on (pure_model m)) (model_rules c ss)) (sym s.declared)
    ∙ ap (option_map (rules_on (pure_model m))) (sym h)

constrained-readable : (m k : Model) (o : Option (List pure.Ex)) → constrained m o ≡ Some k → is_readable_model k ≡ true
constrained-readable m k None h = cc
constrained-readable m k (Some es) h = is_readable (with_constraints m es) k h

-- Constraints that may stand give a model.
pub rules_readable : (m : PModel) (ls : List Line) (ss : List pure.Stm) (es : List pure.Ex) → IsSound m ls → Some es ≡ model_rules (scope_of ls) ss → is_readable_model (rules_on (pure_model m) es) ≡ true
rules_readable m ls ss es s h = constrained-readable (pure_model m) (rules_on (pure_model m) es) (constraints_of ss) (rules_found m ls ss (Some es) s h)

-- What a conversion outside generators gives.
pub converted : (s : Scope) (o p : Option PEx) (g : List Text) (e : pure.Ex) → option_map (pure_ex s) o ≡ model_ex s true g e → o ≡ p → g ≡ [] → option_map (pure_ex s) p ≡ model_ex s true [] e
converted s o p g e h k n = ap (option_map (pure_ex s)) (sym k) ∙ h ∙ ap (λ g. model_ex s true g e) n
