-- Whether declared tables have the names of plans, plan by plan and name by name.
use Rattle.std.proofs.Common.{◌≡◌, refl, sym, ap, ◌∙◌, subst, ℕ, ◌+◌, ◌<◌, ◌≤◌, Bool, true, false, ◌&&◌, ◌==◌, if◌then◌else◌, nat_eq, List, [], ◌∷◌, ◌++◌, map, filter, drop, length, get_or, Option, Some, None, append_assoc, append-nil, eq-eqb, ne_eqb}
use Rattle.std.proofs.lemmas.Bool.{eqb-true}
use Rattle.std.proofs.lemmas.List.{at_drop_more, at_drop_all, length-map}
use denote.Bor.{Bor}
use Rattle.ess_semantics.specs.Values.{Text}
use Rattle.ess_semantics.specs.Order.{same_text}
use Rattle.ess_semantics.specs.TableNames.{Named}
use Rattle.ess_semantics.specs.DeclaredTables.{TableDecl, decl_name}
use Rattle.ess_semantics.specs.ModelTrees.{Header}
use Rattle.ess_semantics.specs.Plans as pure_plans
use Rattle.ess_semantics.specs.Plans.{givens_side, finds_side, same_side, side_of, names_of_plan, names_of_plans, table_list}
use Rattle.ess_semantics.proofs.Tests.{and-left, and-right, and-both}
use Rattle.ess_semantics.proofs.Texts.{same_text-equal, same_text-itself}
use Rattle.eprime_tree.specs.declared.models.PDecl.{PDecl}
use Rattle.eprime_tree.specs.declared.models.PModel.{PModel}
use Rattle.ess_grammar.specs.Models.{Scope, empty_scope, with_given, with_find}
use Rattle.eprime_tree.specs.Views.{pure_dom, pure_decl, pure_decls, scope_of_givens, pure_model}
use Rattle.ess_translate_tables_laws.specs.HeaderTables.{DeclaresTables}
use Rattle.ess_translate_plans.specs.declared.plans.TableName.{TableName}
use Rattle.ess_translate_plans.specs.declared.plans.Plan.{Plan}
use Rattle.ess_translate_plans.specs.Views.{pure_table_name, pure_plan}
use Rattle.ess_translate_plans.specs.SameTables.{same_named, are_same, pure_declared, names_on, names_on_side, are_left}

-- ---- lists of names

pair-same : (a b : Text) (n m : ℕ) → a ≡ b → n ≡ m → ◌≡◌ {A = Named} (a, n) (b, m)
pair-same a b n m e f = ap (λ x. (x, n)) e ∙ ap (λ k. (b, k)) f

named-equal : (a b : Named) → same_named a b ≡ true → a ≡ b
named-equal a b h =
    pair-same a.0 b.0 a.1 b.1 (same_text-equal a.0 b.0 (and-left (same_text a.0 b.0) (nat_eq a.1 b.1) h))
    (eqb-true a.1 b.1 (and-right (same_text a.0 b.0) (nat_eq a.1 b.1) h))

named-itself : (a : Named) → same_named a a ≡ true
named-itself a = and-both (same_text a.0 a.0) (nat_eq a.1 a.1) (same_text-itself a.0) (eq-eqb a.1 a.1 refl)

-- Lists that are the same are equal.
pub same-equal : (ns ms : List Named) → are_same ns ms ≡ true → ns ≡ ms
same-equal [] [] h = refl
same-equal [] (b ∷ ms) h = cc
same-equal (a ∷ ns) [] h = cc
same-equal (a ∷ ns) (b ∷ ms) h =
    ap (λ x. x ∷ ns) (named-equal a b (and-left (same_named a b) (are_same ns ms) h))
    ∙ ap (λ l. b ∷ l) (same-equal ns ms (and-right (same_named a b) (are_same ns ms) h))

pub same-itself : (ns : List Named) → are_same ns ns ≡ true
same-itself [] = refl
same-itself (a ∷ ns) = and-both (same_named a a) (are_same ns ns) (named-itself a) (same-itself ns)

-- ---- the first declaration

and-both-so : (a b : Bool) → a ≡ true → (a && b) ≡ b
and-both-so true b h = refl
and-both-so false b h = cc

and-not : (a b : Bool) → a ≡ false → (a && b) ≡ false
and-not true b h = cc
and-not false b h = refl

-- The first declaration has the name.
pub first_same : (a : Text) (n : ℕ) (rest more : List PDecl) (d : PDecl) → rest ≡ d ∷ more → same_named (a, n) (pure_declared d) ≡ true →
    (xs : List Named) → are_same ((a, n) ∷ xs) (map pure_declared rest) ≡ are_same xs (map pure_declared more)
first_same a n rest more d e h xs =
    ap (λ l. are_same ((a, n) ∷ xs) (map pure_declared l)) e
    ∙ and-both-so (same_named (a, n) (pure_declared d)) (are_same xs (map pure_declared more)) h

-- It hasn't.
pub first_other : (a : Text) (n : ℕ) (rest more : List PDecl) (d : PDecl) → rest ≡ d ∷ more → same_named (a, n) (pure_declared d) ≡ false →
    (xs : List Named) → are_same ((a, n) ∷ xs) (map pure_declared rest) ≡ false
first_other a n rest more d e h xs =
    ap (λ l. are_same ((a, n) ∷ xs) (map pure_declared l)) e
    ∙ and-not (same_named (a, n) (pure_declared d)) (are_same xs (map pure_declared more)) h

-- There is none.
pub first_lacks : (a : Text) (n : ℕ) (rest : List PDecl) → rest ≡ [] → (xs : List Named) →
    are_same ((a, n) ∷ xs) (map pure_declared rest) ≡ false
first_lacks a n rest e xs = ap (λ l. are_same ((a, n) ∷ xs) (map pure_declared l)) e

-- ---- the names of several tables

-- Behind some names those that are left are asked for.
abbrev pub Names : List Named → List PDecl → List Named → List PDecl → Type 0
Names all rest left more = (xs : List Named) → are_same (all ++ xs) (map pure_declared rest)
    ≡ are_same (left ++ xs) (map pure_declared more)

abbrev pub table_names_of : List TableName → List Named
table_names_of ts = map pure_table_name ts

pub tables_none : (ts : List TableName) (rest : List PDecl) → Names (table_names_of ts) rest (table_names_of ts) rest
tables_none ts rest = λ xs. refl

pub tables_more : (ts : List TableName) (i : ℕ) (t : TableName) (rest left more : List PDecl) → i < length ts → t ≡ get_or ts i t →
    Names (table_names_of ts) rest (table_names_of (drop i ts)) left →
    ((xs : List Named) → are_same ((t.name, t.axes) ∷ xs) (map pure_declared left) ≡ are_same xs (map pure_declared more)) →
    Names (table_names_of ts) rest (table_names_of (drop (i + 1) ts)) more
tables_more ts i t rest left more h is n k = λ xs.
    n xs
    ∙ ap (λ l. are_same (l ++ xs) (map pure_declared left))
    (at_drop_more table_names_of ts i t h ∙ ap (λ u. pure_table_name u ∷ table_names_of (drop (i + 1) ts)) (sym is))
    ∙ k (table_names_of (drop (i + 1) ts) ++ xs)

pub tables_fail : (ts : List TableName) (i : ℕ) (t : TableName) (rest left : List PDecl) → i < length ts → t ≡ get_or ts i t →
    Names (table_names_of ts) rest (table_names_of (drop i ts)) left →
    ((xs : List Named) → are_same ((t.name, t.axes) ∷ xs) (map pure_declared left) ≡ false) →
    (xs : List Named) → are_same (table_names_of ts ++ xs) (map pure_declared rest) ≡ false
tables_fail ts i t rest left h is n k = λ xs.
    n xs
    ∙ ap (λ l. are_same (l ++ xs) (map pure_declared left))
    (at_drop_more table_names_of ts i t h ∙ ap (λ u. pure_table_name u ∷ table_names_of (drop (i + 1) ts)) (sym is))
    ∙ k (table_names_of (drop (i + 1) ts) ++ xs)

pub tables_all : (ts : List TableName) (i : ℕ) (rest left : List PDecl) → length ts ≤ i →
    Names (table_names_of ts) rest (table_names_of (drop i ts)) left →
    (xs : List Named) → are_same (table_names_of ts ++ xs) (map pure_declared rest) ≡ are_same xs (map pure_declared left)
tables_all ts i rest left h n = λ xs. n xs ∙ ap (λ l. are_same (l ++ xs) (map pure_declared left)) (at_drop_all table_names_of ts i h)

pub one_name : (a : Text) (n : ℕ) (xs : List Named) → (a, n) ∷ xs ≡ ((a, n) ∷ []) ++ xs
one_name a n xs = refl

-- ---- the plans of a side

abbrev pub on_side : pure_plans.Side → List Plan → List Named
on_side f ps = names_on_side f (map pure_plan ps)

first-on : (f : pure_plans.Side) (p : pure_plans.Plan) (ps : List pure_plans.Plan) →
    names_on_side f (p ∷ ps) ≡ names_on f p ++ names_on_side f ps
first-on f p ps = go (same_side (side_of p) f) (filter (λ q. same_side (side_of q) f) ps)
  where
    go : (b : Bool) (qs : List pure_plans.Plan) → names_of_plans (if b then p ∷ qs else qs)
        ≡ (if b then names_of_plan p else []) ++ names_of_plans qs
    go true qs = refl
    go false qs = refl

side-first : (f : pure_plans.Side) (ps : List Plan) (i : ℕ) (p : Plan) → i < length ps → p ≡ get_or ps i p →
    on_side f (drop i ps) ≡ names_on f (pure_plan p) ++ on_side f (drop (i + 1) ps)
side-first f ps i p h is =
    at_drop_more (on_side f) ps i p h ∙ ap (λ q. on_side f (q ∷ drop (i + 1) ps)) (sym is)
    ∙ first-on f (pure_plan p) (map pure_plan (drop (i + 1) ps))

-- Whether all names are the declared ones is whether those that are left are.
abbrev pub Same : List Named → List PDecl → List Named → List PDecl → Type 0
Same all decls left rest = are_same all (map pure_declared decls) ≡ are_same left (map pure_declared rest)

pub side_none : (f : pure_plans.Side) (ps : List Plan) (ds : List PDecl) → Same (on_side f ps) ds (on_side f ps) ds
side_none f ps ds = refl

pub side_more : (f : pure_plans.Side) (ps : List Plan) (i : ℕ) (p : Plan) (ds rest more : List PDecl) → i < length ps → p ≡ get_or ps i p →
    Same (on_side f ps) ds (on_side f (drop i ps)) rest →
    ((xs : List Named) → are_same (names_on f (pure_plan p) ++ xs) (map pure_declared rest) ≡ are_same xs (map pure_declared more)) →
    Same (on_side f ps) ds (on_side f (drop (i + 1) ps)) more
side_more f ps i p ds rest more h is s k =
    s ∙ ap (λ l. are_same l (map pure_declared rest)) (side-first f ps i p h is) ∙ k (on_side f (drop (i + 1) ps))

pub side_fails : (f : pure_plans.Side) (ps : List Plan) (i : ℕ) (p : Plan) (ds rest : List PDecl) → i < length ps → p ≡ get_or ps i p →
    Same (on_side f ps) ds (on_side f (drop i ps)) rest →
    ((xs : List Named) → are_same (names_on f (pure_plan p) ++ xs) (map pure_declared rest) ≡ false) →
    false ≡ are_same (on_side f ps) (map pure_declared ds)
side_fails f ps i p ds rest h is s k =
    sym (s ∙ ap (λ l. are_same l (map pure_declared rest)) (side-first f ps i p h is) ∙ k (on_side f (drop (i + 1) ps)))

none-left : (rest : List PDecl) → (length rest == 0) ≡ are_same [] (map pure_declared rest)
none-left [] = refl
none-left (r ∷ rs) = ne_eqb (length (r ∷ rs)) 0 (λ e. cc)

pub side_all : (f : pure_plans.Side) (ps : List Plan) (i : ℕ) (ds rest : List PDecl) → length ps ≤ i →
    Same (on_side f ps) ds (on_side f (drop i ps)) rest → (length rest == 0) ≡ are_same (on_side f ps) (map pure_declared ds)
side_all f ps i ds rest h s =
    none-left rest ∙ sym (s ∙ ap (λ l. are_same l (map pure_declared rest)) (at_drop_all (on_side f) ps i h))

-- ---- both sides

-- The names of declarations don't depend on scopes.
decls-named : (add : Scope → TableDecl → Scope) (s : Scope) (ds : List PDecl) → map decl_name (pure_decls add s ds) ≡ map pure_declared ds
decls-named add s [] = refl
decls-named add s (d ∷ ds) =
    ap (λ n. (d.name, n) ∷ map decl_name (pure_decls add (add s (pure_decl s d)) ds)) (length-map d.axes (pure_dom s))
    ∙ ap (λ l. pure_declared d ∷ l) (decls-named add (add s (pure_decl s d)) ds)

-- The names of one side are the declared ones.
side-equal : (f : pure_plans.Side) (ps : List Plan) (H : Header) (ds : List PDecl) (us : List TableDecl) (b : Bool) →
    map pure_plan ps ≡ pure_plans.plans H.statements H.reprs → map decl_name us ≡ map pure_declared ds →
    b ≡ are_same (on_side f ps) (map pure_declared ds) → b ≡ true → map decl_name us ≡ table_list f H.statements H.reprs
side-equal f ps H ds us b p d e t =
    d ∙ sym (same-equal (on_side f ps) (map pure_declared ds) (sym e ∙ t)) ∙ ap (names_on_side f) p

side-same : (f : pure_plans.Side) (ps : List Plan) (H : Header) (ds : List PDecl) (us : List TableDecl) (b : Bool) →
    map pure_plan ps ≡ pure_plans.plans H.statements H.reprs → map decl_name us ≡ map pure_declared ds →
    b ≡ are_same (on_side f ps) (map pure_declared ds) → map decl_name us ≡ table_list f H.statements H.reprs → b ≡ true
side-same f ps H ds us b p d e t =
    e ∙ ap (λ l. are_same (on_side f ps) l) (sym d ∙ t ∙ ap (names_on_side f) (sym p)) ∙ same-itself (on_side f ps)

-- Both sides do.
pub declares_both : (ps : List Plan) (m : PModel) (H : Header) (x y : Bool) → map pure_plan ps ≡ pure_plans.plans H.statements H.reprs →
    x ≡ are_same (on_side givens_side ps) (map pure_declared m.givens) → y ≡ are_same (on_side finds_side ps) (map pure_declared m.finds) →
    (x && y) ≡ true → DeclaresTables H (pure_model m)
declares_both ps m H x y p e f h = record {
  givens = side-equal givens_side ps H m.givens (pure_model m).givens x p (decls-named with_given empty_scope m.givens) e (and-left x y h);
  finds = side-equal finds_side ps H m.finds (pure_model m).finds y p (decls-named with_find (scope_of_givens m) m.finds) f
      (and-right x y h);
}

-- One doesn't.
pub declares_not : (ps : List Plan) (m : PModel) (H : Header) (x y : Bool) → map pure_plan ps ≡ pure_plans.plans H.statements H.reprs →
    x ≡ are_same (on_side givens_side ps) (map pure_declared m.givens) → y ≡ are_same (on_side finds_side ps) (map pure_declared m.finds) →
    (x && y) ≡ false → DeclaresTables H (pure_model m) → ⊥
declares_not ps m H x y p e f h d =
    let clash : false ≡ true =
    sym h ∙ and-both x y (side-same givens_side ps H m.givens (pure_model m).givens x p
    (decls-named with_given empty_scope m.givens) e d.givens)
    (side-same finds_side ps H m.finds (pure_model m).finds y p (decls-named with_find (scope_of_givens m) m.finds) f d.finds) in cc
