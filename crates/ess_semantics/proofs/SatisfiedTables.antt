-- The verdict on found tables is that they satisfy a model exactly where they do, where each declared domain has a meaning.
use Rattle.std.proofs.Common.{◌≡◌, refl, ap, ◌∙◌, ℕ, suc, Bool, true, false, ◌&&◌, ◌||◌, not, if◌then◌else◌, List, [], ◌∷◌, Option, Some, None}
use Rattle.std.specs.List.{list_all}
use Rattle.ess_semantics.specs.Values.{Text}
use Rattle.ess_semantics.specs.Order.{same_text}
use Rattle.ess_semantics.specs.Names.{Names, keys, is_among}
use Rattle.ess_semantics.specs.Trees.{Ex}
use Rattle.ess_semantics.specs.Tables.{Table}
use Rattle.ess_semantics.specs.DeclaredTables.{TableDecl}
use Rattle.ess_semantics.specs.ModelTrees.{Model, all_decls}
use Rattle.ess_semantics.specs.Satisfaction.{table_fits, tables_fit, rule_holds, Sat, ModelVerdict, satisfied, missing_table, extra_table, outside_domain, false_rule, undefined, domain_has_meaning, first_missing_table, first_extra_table, first_outside, first_false, model_verdict}
use Rattle.ess_semantics.proofs.Tests.{and-left, and-right, and-both, or-yes}
use Rattle.ess_semantics.proofs.Texts.{same_text-turned}

-- ---- the tables

-- what an `if` without a failure says
passed : (b : Bool) (x : Text) (o : Option Text) → (if b then o else Some x) ≡ None → (b ≡ true) × (o ≡ None)
passed true x o e = (refl, e)
passed false x o e = cc

passes : (b : Bool) (x : Text) (o : Option Text) → b ≡ true → o ≡ None → (if b then o else Some x) ≡ None
passes true x o e f = f
passes false x o e f = cc

-- No table is too many or outside its domain, so the tables are those that are declared.
in-place : (E : Model) (q : Names Table) (ds : List TableDecl) (cs : Names Table) → first_extra_table ds cs ≡ None → first_outside E q ds cs ≡ None →
    tables_fit (all_decls E) q ds cs ≡ true
in-place E q [] [] x o = refl
in-place E q [] (t ∷ ts) x o = cc
in-place E q (d ∷ ds) [] x o = cc
in-place E q (d ∷ ds) (t ∷ ts) x o =
    let m = passed (same_text d.name t.0) t.0 (first_extra_table ds ts) x in
    let f = passed (table_fits (all_decls E) q d t.1) d.name (first_outside E q ds ts) o in
    and-both (same_text d.name t.0 && table_fits (all_decls E) q d t.1) (tables_fit (all_decls E) q ds ts)
    (and-both (same_text d.name t.0) (table_fits (all_decls E) q d t.1) m.0 f.0) (in-place E q ds ts m.1 f.1)

-- What tables that fit say of their first one and of the others.
parts : (E : Model) (q : Names Table) (d : TableDecl) (ds : List TableDecl) (t : Text × Table) (ts : Names Table) →
    tables_fit (all_decls E) q (d ∷ ds) (t ∷ ts) ≡ true →
    (same_text d.name t.0 ≡ true) × (table_fits (all_decls E) q d t.1 ≡ true) × (tables_fit (all_decls E) q ds ts ≡ true)
parts E q d ds t ts h =
    let m : Bool = same_text d.name t.0 in
    let f : Bool = table_fits (all_decls E) q d t.1 in
    let l = and-left (m && f) (tables_fit (all_decls E) q ds ts) h in
    (and-left m f l, and-right m f l, and-right (m && f) (tables_fit (all_decls E) q ds ts) h)

none-extra : (E : Model) (q : Names Table) (ds : List TableDecl) (cs : Names Table) → tables_fit (all_decls E) q ds cs ≡ true → first_extra_table ds cs ≡ None
none-extra E q [] [] h = refl
none-extra E q [] (t ∷ ts) h = cc
none-extra E q (d ∷ ds) [] h = cc
none-extra E q (d ∷ ds) (t ∷ ts) h =
    let p = parts E q d ds t ts h in passes (same_text d.name t.0) t.0 (first_extra_table ds ts) p.0 (none-extra E q ds ts p.2)

none-outside : (E : Model) (q : Names Table) (ds : List TableDecl) (cs : Names Table) → tables_fit (all_decls E) q ds cs ≡ true → first_outside E q ds cs ≡ None
none-outside E q [] cs h = refl
none-outside E q (d ∷ ds) [] h = cc
none-outside E q (d ∷ ds) (t ∷ ts) h =
    let p = parts E q d ds t ts h in
    passes (table_fits (all_decls E) q d t.1) d.name (first_outside E q ds ts) p.1 (none-outside E q ds ts p.2)

-- c has all names of cs
none-missing : (E : Model) (q c : Names Table) (ds : List TableDecl) (cs : Names Table) → ((a : Text) → is_among (keys cs) a ≡ true → is_among (keys c) a ≡ true) →
    tables_fit (all_decls E) q ds cs ≡ true → first_missing_table ds c ≡ None
none-missing E q c [] cs s h = refl
none-missing E q c (d ∷ ds) [] s h = cc
none-missing E q c (d ∷ ds) (t ∷ ts) s h =
    let p = parts E q d ds t ts h in
    passes (is_among (keys c) d.name) d.name (first_missing_table ds c)
    (s d.name (ap (λ b. b || is_among (keys ts) d.name) (same_text-turned d.name t.0 p.0)))
    (none-missing E q c ds ts (λ a e. s a (ap (λ b. same_text t.0 a || b) e ∙ or-yes (same_text t.0 a))) p.2)

-- ---- the constraints

all-hold : (E : Model) (q c : Names Table) (k : ℕ) (es : List Ex) → first_false E q c k es ≡ None → list_all (rule_holds E q c) es ≡ true
all-hold E q c k [] h = refl
all-hold E q c k (e ∷ es) h = go (rule_holds E q c e) h (all-hold E q c (suc k) es)
  where
    go : (b : Bool) → (if b then first_false E q c (suc k) es else Some k) ≡ None → (first_false E q c (suc k) es ≡ None → list_all (rule_holds E q c) es ≡ true) →
        b && list_all (rule_holds E q c) es ≡ true
    go true h r = r h
    go false h r = cc

none-false : (E : Model) (q c : Names Table) (k : ℕ) (es : List Ex) → list_all (rule_holds E q c) es ≡ true → first_false E q c k es ≡ None
none-false E q c k [] h = refl
none-false E q c k (e ∷ es) h = go (rule_holds E q c e) h (none-false E q c (suc k) es)
  where
    go : (b : Bool) → b && list_all (rule_holds E q c) es ≡ true → (list_all (rule_holds E q c) es ≡ true → first_false E q c (suc k) es ≡ None) →
        (if b then first_false E q c (suc k) es else Some k) ≡ None
    go true h r = r h
    go false h r = cc

-- ---- the verdict

abbrev five : Bool → Option Text → Option Text → Option Text → Option ℕ → ModelVerdict
five d m x o f =
    if not d then undefined else (
    elim m [
      | Some a ↦ missing_table a
      | None ↦ elim x [
        | Some a ↦ extra_table a
        | None ↦ elim o [ Some a ↦ outside_domain a | None ↦ elim f [ Some k ↦ false_rule k | None ↦ satisfied ] ]
      ]
    ])

five-satisfied : {A : Type 0} (d : Bool) (m x o : Option Text) (f : Option ℕ) → five d m x o f ≡ satisfied → (m ≡ None → x ≡ None → o ≡ None → f ≡ None → A) → A
five-satisfied false m x o f e h = cc
five-satisfied true (Some a) x o f e h = cc
five-satisfied true None (Some a) o f e h = cc
five-satisfied true None None (Some a) f e h = cc
five-satisfied true None None None (Some k) e h = cc
five-satisfied true None None None None e h = h refl refl refl refl

-- Tables that the verdict says to satisfy the model do.
pub verdict-Sat : (E : Model) (q c : Names Table) → model_verdict E q c ≡ satisfied → Sat E q c
verdict-Sat E q c e =
    five-satisfied (list_all (domain_has_meaning E q) (all_decls E)) (first_missing_table E.finds c) (first_extra_table E.finds c) (first_outside E q E.finds c) (first_false E q c 1 E.rules) e
    (λ m x o f. record { declared = in-place E q E.finds c x o; rules_hold = all-hold E q c 1 E.rules f })

-- Of tables that satisfy the model the verdict says so, where each declared domain has a meaning.
pub Sat-verdict : (E : Model) (q c : Names Table) → Sat E q c → list_all (domain_has_meaning E q) (all_decls E) ≡ true → model_verdict E q c ≡ satisfied
Sat-verdict E q c s d =
    ap (λ d. five d (first_missing_table E.finds c) (first_extra_table E.finds c) (first_outside E q E.finds c) (first_false E q c 1 E.rules)) d
    ∙ ap (λ m. five true m (first_extra_table E.finds c) (first_outside E q E.finds c) (first_false E q c 1 E.rules)) (none-missing E q c E.finds c (λ a e. e) s.declared)
    ∙ ap (λ x. five true None x (first_outside E q E.finds c) (first_false E q c 1 E.rules)) (none-extra E q E.finds c s.declared)
    ∙ ap (λ o. five true None None o (first_false E q c 1 E.rules)) (none-outside E q E.finds c s.declared)
    ∙ ap (λ f. five true None None None f) (none-false E q c 1 E.rules s.rules_hold)
