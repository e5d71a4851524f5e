-- The plans of a specification of the small grammar: each find has its one table, whose name is free. So its model is the small one.
use Rattle.std.proofs.Common.{◌≡◌, refl, sym, ap, ◌∙◌, subst, ℕ, Bool, true, false, ◌&&◌, ◌||◌, not, if◌then◌else◌, List, [], ◌∷◌, ◌++◌, map, filter, pos, codes, ◌⊎◌, inl, inr, length}
use Rattle.std.specs.List.{list_all}
use Rattle.ess_semantics.specs.Values.{Text}
use Rattle.ess_semantics.specs.Order.{same_text}
use Rattle.ess_semantics.specs.Names.{Names, is_among, without}
use Rattle.ess_semantics.specs.Trees.{cell_ex, more_exs, number_ex, no_exs}
use Rattle.ess_semantics.specs.TableNames.{free_name, free_within}
use Rattle.ess_semantics.specs.Parameters.{all_declared}
use Rattle.ess_semantics.specs.Plans.{Plan, value_plan, finds_side, givens_side, plans, plans_from}
use Rattle.ess_semantics.specs.ModelTrees.{header_of, no_goal}
use Rattle.ess_semantics.specs.Models.{Models, IsExact}
use Rattle.ess_semantics.proofs.Tests.{or-left-no, or-right-no}
use Rattle.ess_semantics.proofs.Texts.{same_text-equal, same_text-itself}
use Rattle.conjure_laws.specs.Premises.{is_on}
use Rattle.conjure_laws.specs.SetsOfAtoms.{range, spec, sets_of, TypeKind, none_declared, after_all, Line}
use Rattle.conjure_laws.specs.ModelsOfSets.{no_options, model_of, table_of, rules_of, decl_of}
use Rattle.conjure_laws.proofs.SetScopes.{prepared-itself}
use Rattle.conjure_laws.proofs.SetPlans.{Occ}
use Rattle.conjure_laws.proofs.SetModels.{models-fine, exact-fine}
use Rattle.conjure_cli_laws.specs.SmallGrammar.{Statement, find, such_that, each_find, found_names, each_constraint}
use Rattle.conjure_cli_laws.specs.SmallSets.{lines, specification, table_name, table_decl, cell_rule, small_model}
use Rattle.conjure_cli_laws.proofs.SmallNames.{not-among-test, has_pair, unmarked, name-unmarked, unmarked-pair, table-pair, table-once}
use Rattle.conjure_cli_laws.proofs.SmallStatements.{Named as NamesAre, Spelled, small-fine}
use Rattle.conjure_laws.proofs.FreeNames.{among-append}

-- The plan of a find.
abbrev pub find_plan : Text → ℕ → ℕ → Plan
find_plan x a b = value_plan finds_side x Occ (sets_of (range (pos a) (pos b))) ((table_name x, 1) ∷ [])

-- A name that is taken: one without `_O`, or the table of another name than those of the finds to come.
abbrev Taken : List Text → List Text → Type 0
Taken g done = (x : Text) → unmarked x ≡ true → is_among g x ≡ false → is_among done (table_name x) ≡ false

free-at-once : (taken : List Text) (a : Text) → is_among taken a ≡ false → free_name taken a ≡ a
free-at-once taken a e = ap (λ b. if b then free_within
    (length taken) taken (a ++ codes "_") else a) e

without-less : (x : Text) (ns : List Text) (a : Text) → is_among ns a ≡ false → is_among (without x ns) a ≡ false
without-less x [] a e = refl
without-less x (n ∷ ns) a e = go (same_text n x) (without-less x ns a (or-right-no (same_text n a) (is_among ns a) e))
  where
    go : (b : Bool) → is_among (without x ns) a ≡ false → is_among (if not b then n ∷ without x ns else without x ns) a ≡ false
    go true h = h
    go false h = ap (λ t. t || is_among (without x ns) a) (or-left-no (same_text n a) (is_among ns a) e) ∙ h

no-or : (a b : Bool) → a ≡ false → b ≡ false → a || b ≡ false
no-or a b e f = ap (λ x. x || b) e ∙ f

-- The plans are these.
plans-are : (ss : List Statement) (g declared done : List Text) → NamesAre g ss → Spelled ss →
    ((x : Text) → is_among declared (table_name x) ≡ false) → Taken g done →
    plans_from (spec (lines ss)) no_options declared done ≡ each_find find_plan ss
plans-are [] g declared done n s d t = refl
plans-are (such_that k x ∷ ss) g declared done n s d t = plans-are ss g declared done n.1 s.2 d t
plans-are (find x a b ∷ ss) g declared done n s d t =
    let u : unmarked x ≡ true = name-unmarked x s.0 in
    let free : free_name (without x declared ++ done) (table_name x) ≡ table_name x =
    free-at-once (without x declared ++ done) (table_name x)
    (among-append (without x declared) done (table_name x)
    ∙ no-or (is_among (without x declared) (table_name x)) (is_among done (table_name x))
    (without-less x declared (table_name x) (d x)) (t x u n.0)) in
    ap (λ m. value_plan finds_side x Occ (sets_of (range (pos a) (pos b))) ((m, 1) ∷ []) ∷ plans_from (spec (lines ss))
    no_options declared (m ∷ done)) free
    ∙ ap (λ l. find_plan x a b ∷ l) (plans-are ss (x ∷ g) declared (table_name x ∷ done) n.1 s.3 d (λ y v e. more u y v e))
  where
    more : unmarked x ≡ true → (y : Text) → unmarked y ≡ true → same_text x y || is_among g y ≡ false →
        same_text (table_name x) (table_name y) || is_among done (table_name y) ≡ false
    more u y v e = no-or (same_text (table_name x) (table_name y)) (is_among done (table_name y))
        (at (same_text (table_name x) (table_name y)) refl) (t y v (or-right-no (same_text x y) (is_among g y) e))
      where
        at : (q : Bool) → same_text (table_name x) (table_name y) ≡ q → same_text (table_name x) (table_name y) ≡ false
        at false q = q
        at true q =
            let w : x ≡ y = table-once x y u v (same_text-equal (table_name x) (table_name y) q) in
            let z : true ≡ false = sym (ap (same_text x) (sym w) ∙ same_text-itself x) ∙ or-left-no (same_text x y) (is_among g y) e in cc

names-of : (ss : List Statement) → Spelled ss → list_all (λ n. not (has_pair n)) (all_declared (spec (lines ss))) ≡ true
names-of [] s = refl
names-of (find x a b ∷ ss) s = ap (λ t. not t && list_all (λ n. not (has_pair n)) (all_declared (spec (lines ss))))
    (unmarked-pair x (name-unmarked x s.0)) ∙ names-of ss s.3
names-of (such_that k x ∷ ss) s = names-of ss s.2

-- The plans of a specification of the small grammar.
pub small-plans : (ss : List Statement) → NamesAre [] ss → Spelled ss → plans (specification ss) no_options ≡ each_find find_plan ss
small-plans ss n s =
    ap (λ l. plans_from l no_options (all_declared (specification ss)) (codes "alldifferent_except" ∷ [])) (prepared-itself (lines ss))
    ∙ plans-are ss [] (all_declared (specification ss)) (codes "alldifferent_except" ∷ []) n s
    (λ x. not-among-test has_pair (all_declared (specification ss)) (table_name x) (names-of ss s) (table-pair x))
    (λ x u e. not-among-test has_pair (codes "alldifferent_except" ∷ []) (table_name x) refl (table-pair x))

-- ---- the model

all-finds : (ss : List Statement) → (filter (is_on finds_side) (each_find find_plan ss) ≡ each_find find_plan ss) ×
    (filter (is_on givens_side) (each_find find_plan ss) ≡ [])
all-finds [] = (refl, refl)
all-finds (find x a b ∷ ss) = let r = all-finds ss in (ap (λ l. find_plan x a b ∷ l) r.0, r.1)
all-finds (such_that k x ∷ ss) = all-finds ss

decls-are : (ks : Names TypeKind) (Ps : List Plan) (ss : List Statement) →
    map (decl_of ks Ps) (each_find find_plan ss) ≡ each_find table_decl ss
decls-are ks Ps [] = refl
decls-are ks Ps (find x a b ∷ ss) = ap (λ l. table_decl x a b ∷ l) (decls-are ks Ps ss)
decls-are ks Ps (such_that k x ∷ ss) = decls-are ks Ps ss

tables-are : (ss : List Statement) (x : Text) → is_among (found_names ss) x ≡ true → table_of (each_find find_plan ss) x ≡ table_name x
tables-are [] x e = cc
tables-are (find y a b ∷ ss) x e = go (same_text y x) refl e (tables-are ss x)
  where
    go : (t : Bool) → same_text y x ≡ t → t || is_among (found_names ss) x ≡ true →
        (is_among (found_names ss) x ≡ true → table_of (each_find find_plan ss) x ≡ table_name x) →
        (if same_text y x then table_name y else table_of (each_find find_plan ss) x) ≡ table_name x
    go true q e k = ap (λ t. if t then table_name y else table_of (each_find find_plan ss) x) q ∙ ap table_name (same_text-equal y x q)
    go false q e k = ap (λ t. if t then table_name y else table_of (each_find find_plan ss) x) q ∙ k e
tables-are (such_that k y ∷ ss) x e = tables-are ss x e

rules-are : (vs : Names (Text × ℕ)) (Ps : List Plan) (ss : List Statement) (g : List Text) → NamesAre g ss →
    ((x : Text) → (is_among g x ≡ true) ⊎ (is_among (found_names ss) x ≡ true) → table_of Ps x ≡ table_name x) →
    rules_of vs Ps (lines ss) ≡ each_constraint cell_rule ss
rules-are vs Ps [] g n t = refl
rules-are vs Ps (find x a b ∷ ss) g n t = rules-are vs Ps ss (x ∷ g) n.1 (λ y h. t y (go y (same_text x y) refl h))
  where
    go : (y : Text) (q : Bool) → same_text x y ≡ q → (same_text x y || is_among g y ≡ true) ⊎
        (is_among (found_names ss) y ≡ true) → (is_among g y ≡ true) ⊎ (same_text x y || is_among (found_names ss) y ≡ true)
    go y true q h = inr (ap (λ t. t || is_among (found_names ss) y) q)
    go y false q (inl e) = inl (sym (ap (λ t. t || is_among g y) q) ∙ e)
    go y false q (inr e) = inr (ap (λ t. t || is_among (found_names ss) y) q ∙ e)
rules-are vs Ps (such_that k x ∷ ss) g n t =
    ap (λ m. cell_ex true m
    (more_exs (number_ex (pos k))
    no_exs) ∷ rules_of vs Ps (lines ss)) (t x (inl n.0))
    ∙ ap (λ l. cell_rule k x ∷ l) (rules-are vs Ps ss g n.1 t)

-- The model of the specification is the small one.
pub small-model : (ss : List Statement) → NamesAre [] ss → Spelled ss → model_of (lines ss) ≡ small_model ss
small-model ss n s =
    let T : List Line = lines ss in
    let ks : Names TypeKind = (after_all T none_declared).types in
    let vs : Names (Text × ℕ) = (after_all T none_declared).values in
    let P : plans (specification ss) no_options ≡ each_find find_plan ss = small-plans ss n s in
    ap (λ Ps. record {
      givens = map (decl_of ks Ps) (filter (is_on givens_side) Ps);
      finds = map (decl_of ks Ps) (filter (is_on finds_side) Ps);
      goal = no_goal;
      rules = rules_of vs Ps T;
    }) P
    ∙ ap (λ l. record {
      givens = map (decl_of ks (each_find find_plan ss)) l;
      finds = map (decl_of ks (each_find find_plan ss)) (filter (is_on finds_side) (each_find find_plan ss));
      goal = no_goal;
      rules = rules_of vs (each_find find_plan ss) T;
    }) (all-finds ss).1
    ∙ ap (λ l. record {
      givens = [];
      finds = l;
      goal = no_goal;
      rules = rules_of vs (each_find find_plan ss) T;
    }) (ap (map (decl_of ks (each_find find_plan ss))) (all-finds ss).0
    ∙ decls-are ks (each_find find_plan ss) ss)
    ∙ ap (λ l. record {
      givens = [];
      finds = each_find table_decl ss;
      goal = no_goal;
      rules = l;
    }) (rules-are vs (each_find find_plan ss) ss [] n (λ x h. at x h))
  where
    at : (x : Text) → (false ≡ true) ⊎ (is_among (found_names ss) x ≡ true) → table_of (each_find find_plan ss) x ≡ table_name x
    at x (inl e) = cc
    at x (inr e) = tables-are ss x e

-- The small model stands for the specification.
pub small-stands : (ss : List Statement) → NamesAre [] ss → Spelled ss →
    Models (specification ss) no_options (header_of (specification ss) no_options) (small_model ss)
small-stands ss n s = subst (Models (specification ss) no_options (header_of (specification ss) no_options))
    (small-model ss n s) (models-fine (lines ss) (small-fine ss n))

-- Each solution has exactly one satisfying assignment.
pub small-exact : (ss : List Statement) → NamesAre [] ss → Spelled ss → IsExact (specification ss) no_options (small_model ss)
small-exact ss n s = subst (IsExact (specification ss) no_options) (small-model ss n s) (exact-fine (lines ss) (small-fine ss n))
