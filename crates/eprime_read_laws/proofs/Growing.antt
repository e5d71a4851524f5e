-- Models that grow line by line: what they are at the end, and that each of them is readable where the last one is.
use Rattle.std.proofs.Common.{◌≡◌, refl, sym, ap, ◌∙◌, subst, Bool, true, false, ◌&&◌, List, [], ◌∷◌, ◌++◌, append_assoc, append-nil}
use Rattle.std.specs.List.{list_all}
use Rattle.ess_semantics.specs.Values.{Text}
use Rattle.ess_semantics.specs.Names.{Names}
use Rattle.ess_semantics.specs.Trees.{Ex, Dom}
use Rattle.ess_semantics.specs.DeclaredTables.{TableDecl}
use Rattle.ess_semantics.specs.ModelTrees.{Goal, no_goal, Model}
use Rattle.ess_grammar.specs.Models.{Scope, empty_scope, with_given, with_find, scope_behind, tables_of, table_of, model_of, are_model_tables, is_model_goal, is_model_ex, is_readable_model}
use Rattle.ess_parse_laws.proofs.Booleans.{and-left, and-right}
use Rattle.eprime_read_laws.specs.ModelMachine.{empty_model, givens_scope, model_scope, more_given, more_find, with_objective, with_constraints}

-- With several givens more.
abbrev pub with_givens : Model → Names Dom → Model
with_givens m [] = m
with_givens m (d ∷ ds) = with_givens (more_given m d.0 d.1) ds

-- With several finds more.
abbrev pub with_finds : Model → Names Dom → Model
with_finds m [] = m
with_finds m (d ∷ ds) = with_finds (more_find m d.0 d.1) ds

-- All parts one after another.
abbrev pub grown : Names Dom → Names Dom → Goal → List Ex → Model
grown gs fs o es = with_constraints (with_objective (with_finds (with_givens empty_model gs) fs) o) es

scope-more : (add : Scope → TableDecl → Scope) (s : Scope) (ts : List TableDecl) (t : TableDecl) → scope_behind add s (ts ++ (t ∷ [])) ≡ add (scope_behind add s ts) t
scope-more add s [] t = refl
scope-more add s (u ∷ ts) t = scope-more add (add s u) ts t

tables-more : (add : Scope → TableDecl → Scope) (s : Scope) (xs : List TableDecl) (a : Text) (d : Dom) (ds : Names Dom) →
    let t : TableDecl = table_of (scope_behind add s xs) a d in
    (xs ++ (t ∷ [])) ++ tables_of add (scope_behind add s (xs ++ (t ∷ []))) ds ≡ xs ++ tables_of add (scope_behind add s xs) ((a, d) ∷ ds)
tables-more add s xs a d ds =
    let t : TableDecl = table_of (scope_behind add s xs) a d in
    ap (λ r. (xs ++ (t ∷ [])) ++ tables_of add r ds) (scope-more add s xs t) ∙ append_assoc xs (t ∷ []) (tables_of add (add (scope_behind add s xs) t) ds)

givens-are : (m : Model) (ds : Names Dom) → with_givens m ds ≡ record { givens = m.givens ++ tables_of with_given (givens_scope m) ds; finds = m.finds; goal = m.goal; rules = m.rules }
givens-are m [] = ap (λ gs. record { givens = gs; finds = m.finds; goal = m.goal; rules = m.rules }) (sym (append-nil m.givens))
givens-are m (d ∷ ds) =
    givens-are (more_given m d.0 d.1) ds ∙ ap (λ gs. record { givens = gs; finds = m.finds; goal = m.goal; rules = m.rules }) (tables-more with_given empty_scope m.givens d.0 d.1 ds)

finds-are : (m : Model) (ds : Names Dom) → with_finds m ds ≡ record { givens = m.givens; finds = m.finds ++ tables_of with_find (model_scope m) ds; goal = m.goal; rules = m.rules }
finds-are m [] = ap (λ fs. record { givens = m.givens; finds = fs; goal = m.goal; rules = m.rules }) (sym (append-nil m.finds))
finds-are m (d ∷ ds) =
    finds-are (more_find m d.0 d.1) ds ∙ ap (λ fs. record { givens = m.givens; finds = fs; goal = m.goal; rules = m.rules }) (tables-more with_find (givens_scope m) m.finds d.0 d.1 ds)

-- The parts one after another are the model of the text.
pub grown-is : (gs fs : Names Dom) (o : Goal) (es : List Ex) → grown gs fs o es ≡ model_of (record { givens = gs; finds = fs; goal = o; rules = es })
grown-is gs fs o es =
    ap (λ m. with_constraints (with_objective m o) es) (ap (λ m. with_finds m fs) (givens-are empty_model gs) ∙ finds-are (record { givens = tables_of with_given empty_scope gs; finds = []; goal = no_goal; rules = [] }) fs)

-- Nothing of an objective or of constraints is read yet.
pub record Fresh (m : Model) : Type 0 where
  pub no_objective : m.goal ≡ no_goal
  pub no_rules : m.rules ≡ []

pub fresh-givens : (m : Model) (ds : Names Dom) → Fresh m → Fresh (with_givens m ds)
fresh-givens m [] h = h
fresh-givens m (d ∷ ds) h = fresh-givens (more_given m d.0 d.1) ds (record { no_objective = h.no_objective; no_rules = h.no_rules })

pub fresh-finds : (m : Model) (ds : Names Dom) → Fresh m → Fresh (with_finds m ds)
fresh-finds m [] h = h
fresh-finds m (d ∷ ds) h = fresh-finds (more_find m d.0 d.1) ds (record { no_objective = h.no_objective; no_rules = h.no_rules })

-- Without constraints nothing changes.
pub no-constraints : (m : Model) → m.rules ≡ [] → with_constraints m [] ≡ m
no-constraints m h = ap (λ rs. record { givens = m.givens; finds = m.finds; goal = m.goal; rules = rs }) (sym h)

-- Without an objective nothing changes.
pub no-objective : (m : Model) → m.goal ≡ no_goal → with_objective m no_goal ≡ m
no-objective m h = ap (λ g. record { givens = m.givens; finds = m.finds; goal = g; rules = m.rules }) (sym h)

-- ---- what is read before the last part is readable

-- The model is readable.
abbrev pub IsReadable : Model → Type 0
IsReadable m = is_readable_model m ≡ true

both-true : {a b : Bool} → a ≡ true → b ≡ true → (a && b) ≡ true
both-true {a = true} h k = k
both-true {a = false} h k = cc

-- Of a true conjunction the last part may be one that follows from it.
last-part : (c a b : Bool) → (c && a) ≡ true → (a ≡ true → b ≡ true) → (c && b) ≡ true
last-part true a b h f = f h
last-part false a b h f = cc

tables-front : (add : Scope → TableDecl → Scope) (s : Scope) (ts us : List TableDecl) → are_model_tables add s (ts ++ us) ≡ true → are_model_tables add s ts ≡ true
tables-front add s [] us h = refl
tables-front add s (t ∷ ts) us h = last-part _ (are_model_tables add (add s t) (ts ++ us)) (are_model_tables add (add s t) ts) h (λ k. tables-front add (add s t) ts us k)

without-rules : (m : Model) (a : Bool) → a ≡ true → m.rules ≡ [] → (a && list_all (is_model_ex (model_scope m) true []) m.rules) ≡ true
without-rules m a h k = both-true h (ap (list_all (is_model_ex (model_scope m) true [])) k)

without-objective : (m : Model) (a : Bool) → a ≡ true → m.goal ≡ no_goal → (a && is_model_goal (model_scope m) m.goal) ≡ true
without-objective m a h k = both-true h (ap (is_model_goal (model_scope m)) k)

pub drop-rules : (m : Model) (es : List Ex) → m.rules ≡ [] → IsReadable (with_constraints m es) → IsReadable m
drop-rules m es h k = without-rules m _ (and-left _ _ k) h

pub drop-objective : (m : Model) (o : Goal) → Fresh m → IsReadable (with_objective m o) → IsReadable m
drop-objective m o h k = without-rules m _ (without-objective m _ (and-left _ _ (and-left _ _ k)) h.no_objective) h.no_rules

front-finds : (m : Model) (ts : List TableDecl) → Fresh m → IsReadable (record { givens = m.givens; finds = m.finds ++ ts; goal = m.goal; rules = m.rules }) → IsReadable m
front-finds m ts h k =
    let t = and-left _ _ (and-left _ _ k) in
    without-rules m _ (without-objective m _ (both-true (and-left _ _ t) (tables-front with_find (givens_scope m) m.finds ts (and-right _ _ t))) h.no_objective) h.no_rules

pub drop-finds : (m : Model) (ds : Names Dom) → Fresh m → IsReadable (with_finds m ds) → IsReadable m
drop-finds m ds h k = front-finds m (tables_of with_find (model_scope m) ds) h (subst IsReadable (finds-are m ds) k)

front-givens : (m : Model) (ts : List TableDecl) → m.finds ≡ [] → Fresh m → IsReadable (record { givens = m.givens ++ ts; finds = m.finds; goal = m.goal; rules = m.rules }) → IsReadable m
front-givens m ts f h k =
    let t = and-left _ _ (and-left _ _ k) in
    without-rules m _ (without-objective m _ (both-true (tables-front with_given empty_scope m.givens ts (and-left _ _ t)) (ap (are_model_tables with_find (givens_scope m)) f)) h.no_objective) h.no_rules

pub drop-givens : (m : Model) (ds : Names Dom) → m.finds ≡ [] → Fresh m → IsReadable (with_givens m ds) → IsReadable m
drop-givens m ds f h k = front-givens m (tables_of with_given (givens_scope m) ds) f h (subst IsReadable (givens-are m ds) k)
