-- The plans of one name stand one behind the other, so the cells of a name are those of a run.
use Rattle.std.proofs.Common.{◌≡◌, refl, sym, ap, ◌∙◌, ℕ, ◌+◌, Bool, true, false, ◌||◌, not, ◌&&◌, if◌then◌else◌, List, [], ◌∷◌, ◌++◌, map, filter, Option, Some, nat_le, arith}
use Rattle.std.specs.Prelude.{codes}
use Rattle.std.proofs.lemmas.Bool.Decides.{nat_tests}
use Rattle.ess_semantics.specs.Lists.{append_all}
use Rattle.ess_semantics.specs.Values.{Text}
use Rattle.ess_semantics.specs.Order.{same_text}
use Rattle.ess_semantics.specs.Names.{Names, keys, is_among, all_distinct, without}
use Rattle.ess_semantics.specs.Trees.{Repr, Dom, Stm, given, given_enum, let_ex, let_dom, let_enum, let_unnamed, needs, find, such_that, minimise, maximise}
use Rattle.ess_semantics.specs.TableNames.{table_names, named_tables, free_name}
use Rattle.ess_semantics.specs.Contexts.{Each}
use Rattle.ess_semantics.specs.Meaning.{Env}
use Rattle.ess_semantics.specs.Prepared.{prepared}
use Rattle.ess_semantics.specs.Assignments.{nothing_given, env_of}
use Rattle.ess_semantics.specs.Parameters.{all_declared}
use Rattle.ess_semantics.specs.Plans.{Options, chosen_reprs, domain_of_stm, kept_names, Side, givens_side, finds_side, Plan, size_plan, value_plan, names_of_plans, plans_of_name, plans_of_stm, plans_from, plans, cells_of_plan, cells_of_plans, is_plan_for, cells_of_name}
use Rattle.ess_semantics.proofs.Texts.{same_text-itself, same_text-either}
use Rattle.conjure_laws.proofs.JudgedDistinct.{kept-distinct}
use Rattle.ess_translate_given_laws.specs.Counts.{cell_limit, first_above}
use Rattle.ess_translate_given_laws.proofs.ChosenReprs.{well-typed}
use Rattle.ess_translate_counts_laws.specs.Runs.{run_count, first_run_above}
use Rattle.ess_translate_counts_laws.specs.Laws.{TooManyByRuns}

-- The givens and finds of some statements.
abbrev kept_of : List Stm → Names Dom
kept_of T = append_all (map domain_of_stm T)

-- ---- plans of other names

-- No plan is one of x.
abbrev NoneFor : Text → List Plan → Type 0
NoneFor x ps = Each ps (λ p. is_plan_for x p ≡ false)

none-both : (x : Text) (ps qs : List Plan) → NoneFor x ps → NoneFor x qs → NoneFor x (ps ++ qs)
none-both x [] qs h k = k
none-both x (p ∷ ps) qs h k = (h.0, none-both x ps qs h.1 k)

none-of-name : (x : Text) (f : Side) (y : Text) (d : Dom) (rs : List Repr) (taken : List Text) → same_text y x ≡ false → NoneFor x (plans_of_name f y d rs taken)
none-of-name x f y d [] taken h = tt
none-of-name x f y d (r ∷ rs) taken h = (h, none-of-name x f y d rs (keys (named_tables y (table_names r d) taken) ++ taken) h)

-- the name of a list isn't x, and x is none of the others
first-other : (y : Text) (ys : List Text) (x : Text) → is_among (y ∷ ys) x ≡ false → same_text y x ≡ false
first-other y ys x h = go (same_text y x) h
  where
    go : (b : Bool) → (b || is_among ys x) ≡ false → b ≡ false
    go true e = e
    go false e = refl

others : (y : Text) (ys : List Text) (x : Text) → is_among (y ∷ ys) x ≡ false → is_among ys x ≡ false
others y ys x h = go (same_text y x) h
  where
    go : (b : Bool) → (b || is_among ys x) ≡ false → is_among ys x ≡ false
    go true e = let z : true ≡ false = e in cc
    go false e = e

none-from : (x : Text) (o : Options) (T : List Stm) (declared done : List Text) → is_among (keys (kept_of T)) x ≡ false → NoneFor x (plans_from T o declared done)
none-from x o [] declared done h = tt
none-from x o (given y d ∷ T) declared done h =
    let ps = plans_of_stm (given y d) o declared done in
    none-both x ps (plans_from T o declared (keys (names_of_plans ps) ++ done))
    (none-of-name x givens_side y d (chosen_reprs o y d) (without y declared ++ done) (first-other y (keys (kept_of T)) x h))
    (none-from x o T declared (keys (names_of_plans ps) ++ done) (others y (keys (kept_of T)) x h))
none-from x o (find y d ∷ T) declared done h =
    let ps = plans_of_stm (find y d) o declared done in
    none-both x ps (plans_from T o declared (keys (names_of_plans ps) ++ done))
    (none-of-name x finds_side y d (chosen_reprs o y d) (without y declared ++ done) (first-other y (keys (kept_of T)) x h))
    (none-from x o T declared (keys (names_of_plans ps) ++ done) (others y (keys (kept_of T)) x h))
none-from x o (given_enum t ∷ T) declared done h = (refl, none-from x o T declared _ h)
none-from x o (let_ex y e ∷ T) declared done h = none-from x o T declared done h
none-from x o (let_dom y d ∷ T) declared done h = none-from x o T declared done h
none-from x o (let_enum t ns ∷ T) declared done h = none-from x o T declared done h
none-from x o (let_unnamed t e ∷ T) declared done h = none-from x o T declared done h
none-from x o (needs e ∷ T) declared done h = none-from x o T declared done h
none-from x o (such_that e ∷ T) declared done h = none-from x o T declared done h
none-from x o (minimise e ∷ T) declared done h = none-from x o T declared done h
none-from x o (maximise e ∷ T) declared done h = none-from x o T declared done h

-- ---- the cells of a name in plans

module _ (env : Env) where
  -- The cells of a name in all of the plans.
  abbrev total : Text → List Plan → ℕ
  total x ps = cells_of_plans env (filter (is_plan_for x) ps)

  total-none : (x : Text) (ps : List Plan) → NoneFor x ps → total x ps ≡ 0
  total-none x [] h = refl
  total-none x (p ∷ ps) h =
      ap (λ b. cells_of_plans env (if b then p ∷ filter (is_plan_for x) ps else filter (is_plan_for x) ps)) h.0 ∙ total-none x ps h.1

  -- Plans of other names in front add nothing.
  total-behind : (x : Text) (ps qs : List Plan) → NoneFor x ps → total x (ps ++ qs) ≡ total x qs
  total-behind x [] qs h = refl
  total-behind x (p ∷ ps) qs h =
      ap (λ b. cells_of_plans env (if b then p ∷ filter (is_plan_for x) (ps ++ qs) else filter (is_plan_for x) (ps ++ qs))) h.0
      ∙ total-behind x ps qs h.1

  run-none : (x : Text) (qs : List Plan) → NoneFor x qs → run_count (cells_of_plan env) x qs ≡ 0
  run-none x [] h = refl
  run-none x (q ∷ qs) h = ap (λ b. if b then cells_of_plan env q + run_count (cells_of_plan env) x qs else 0) h.0

  -- The plans of a name, and then those of others: its cells are those of the run.
  run-total : (f : Side) (x : Text) (d : Dom) (rs : List Repr) (taken : List Text) (qs : List Plan) → NoneFor x qs →
      run_count (cells_of_plan env) x (plans_of_name f x d rs taken ++ qs) ≡ total x (plans_of_name f x d rs taken ++ qs)
  run-total f x d [] taken qs h = run-none x qs h ∙ sym (total-none x qs h)
  run-total f x d (r ∷ rs) taken qs h =
      let ns = named_tables x (table_names r d) taken in
      let p = value_plan f x r d ns in
      let ps = plans_of_name f x d rs (keys ns ++ taken) ++ qs in
      ap (λ b. if b then cells_of_plan env p + run_count (cells_of_plan env) x ps else 0) (same_text-itself x)
      ∙ ap (λ n. cells_of_plan env p + n) (run-total f x d rs (keys ns ++ taken) qs h)
      ∙ ap (λ b. cells_of_plans env (if b then p ∷ filter (is_plan_for x) ps else filter (is_plan_for x) ps)) (sym (same_text-itself x))

  -- ---- where a run is short

  later-few : (a b : ℕ) → nat_le (a + b) cell_limit ≡ true → nat_le b cell_limit ≡ true
  later-few a b h = grind (arith, nat_tests)

  -- The plans of a name with few cells are passed.
  passed : (f : Side) (x : Text) (d : Dom) (rs : List Repr) (taken : List Text) (qs : List Plan) →
      nat_le (run_count (cells_of_plan env) x (plans_of_name f x d rs taken ++ qs)) cell_limit ≡ true →
      first_run_above (cells_of_plan env) (plans_of_name f x d rs taken ++ qs) ≡ first_run_above (cells_of_plan env) qs
  passed f x d [] taken qs h = refl
  passed f x d (r ∷ rs) taken qs h =
      let ns = named_tables x (table_names r d) taken in
      let p = value_plan f x r d ns in
      let ps = plans_of_name f x d rs (keys ns ++ taken) ++ qs in
      let e : run_count (cells_of_plan env) x (p ∷ ps) ≡ cells_of_plan env p + run_count (cells_of_plan env) x ps =
      ap (λ b. if b then cells_of_plan env p + run_count (cells_of_plan env) x ps else 0) (same_text-itself x) in
      ap (λ b. if b then first_run_above (cells_of_plan env) ps else Some (x, run_count (cells_of_plan env) x (p ∷ ps))) h
      ∙ passed f x d rs (keys ns ++ taken) qs
      (later-few (cells_of_plan env p) (run_count (cells_of_plan env) x ps) (ap (λ n. nat_le n cell_limit) (sym e) ∙ h))

  -- A name, then its plans.
  name-in-run : (f : Side) (x : Text) (d : Dom) (rs : List Repr) (taken : List Text) (qs : List Plan) (g : Text → ℕ) (xs : List Text) →
      NoneFor x qs → g x ≡ total x (plans_of_name f x d rs taken ++ qs) → first_above g xs ≡ first_run_above (cells_of_plan env) qs →
      first_above g (x ∷ xs) ≡ first_run_above (cells_of_plan env) (plans_of_name f x d rs taken ++ qs)
  name-in-run f x d [] taken qs g xs h e k =
      ap (λ n. if nat_le n cell_limit then first_above g xs else Some (x, n)) (e ∙ total-none x qs h) ∙ k
  name-in-run f x d (r ∷ rs) taken qs g xs h e k =
      let ns = named_tables x (table_names r d) taken in
      let ps = plans_of_name f x d (r ∷ rs) taken ++ qs in
      let n = run_count (cells_of_plan env) x ps in
      let q : g x ≡ n = e ∙ sym (run-total f x d (r ∷ rs) taken qs h) in
      ap (λ m. if nat_le m cell_limit then first_above g xs else Some (x, m)) q
      ∙ go (nat_le n cell_limit) refl
    where
      N : ℕ
      N = run_count (cells_of_plan env) x (plans_of_name f x d (r ∷ rs) taken ++ qs)

      R : Option (Text × ℕ)
      R = first_run_above (cells_of_plan env) (plans_of_name f x d rs (keys (named_tables x (table_names r d) taken) ++ taken) ++ qs)

      go : (b : Bool) → nat_le N cell_limit ≡ b → (if b then first_above g xs else Some (x, N)) ≡ (if nat_le N cell_limit then R else Some (x, N))
      go true j =
          k ∙ sym (passed f x d (r ∷ rs) taken qs j)
      go false j = ap (λ b. if b then R else Some (x, N)) (sym j)

-- ---- statement by statement

-- Names apart: the first is none of the others, and those are apart.
first-apart : (x : Text) (xs : List Text) → all_distinct (x ∷ xs) ≡ true → is_among xs x ≡ false
first-apart x xs h = go (is_among xs x) h
  where
    go : (b : Bool) → (not b && all_distinct xs) ≡ true → b ≡ false
    go true e = let z : false ≡ true = e in cc
    go false e = refl

others-apart : (x : Text) (xs : List Text) → all_distinct (x ∷ xs) ≡ true → all_distinct xs ≡ true
others-apart x xs h = go (is_among xs x) h
  where
    go : (b : Bool) → (not b && all_distinct xs) ≡ true → all_distinct xs ≡ true
    go true e = let z : false ≡ true = e in cc
    go false e = e

-- A name that isn't x among names that aren't x.
not-x : (x : Text) (ys : List Text) → is_among ys x ≡ false → Each ys (λ y. same_text x y ≡ false)
not-x x [] h = tt
not-x x (y ∷ ys) h = (same_text-either x y ∙ first-other y ys x h, not-x x ys (others y ys x h))

module _ (env : Env) (o : Options) where
  -- What each name of some statements has is told by g.
  abbrev Tells : (Text → ℕ) → List Text → List Plan → Type 0
  Tells g xs ps = Each xs (λ x. g x ≡ total env x ps)

  -- without the plans of a name in front
  tells-behind : (g : Text → ℕ) (xs : List Text) (ps qs : List Plan) → Each xs (λ x. NoneFor x ps) → Tells g xs (ps ++ qs) → Tells g xs qs
  tells-behind g [] ps qs h k = tt
  tells-behind g (x ∷ xs) ps qs h k = (k.0 ∙ total-behind env x ps qs h.0, tells-behind g xs ps qs h.1 k.1)

  none-each : (f : Side) (y : Text) (d : Dom) (rs : List Repr) (taken : List Text) (xs : List Text) → Each xs (λ x. same_text y x ≡ false) →
      Each xs (λ x. NoneFor x (plans_of_name f y d rs taken))
  none-each f y d rs taken [] h = tt
  none-each f y d rs taken (x ∷ xs) h = (none-of-name x f y d rs taken h.0, none-each f y d rs taken xs h.1)

  enum-each : (t a : Text) (xs : List Text) → Each xs (λ x. NoneFor x (size_plan t a ∷ []))
  enum-each t a [] = tt
  enum-each t a (x ∷ xs) = ((refl, tt), enum-each t a xs)

  runs-from : (g : Text → ℕ) (T : List Stm) (declared done : List Text) → all_distinct (keys (kept_of T)) ≡ true →
      Tells g (keys (kept_of T)) (plans_from T o declared done) →
      first_above g (keys (kept_of T)) ≡ first_run_above (cells_of_plan env) (plans_from T o declared done)
  runs-from g [] declared done h k = refl
  runs-from g (given x d ∷ T) declared done h k =
      let ps = plans_of_stm (given x d) o declared done in
      let more = keys (names_of_plans ps) ++ done in
      let a = first-apart x (keys (kept_of T)) h in
      name-in-run env givens_side x d (chosen_reprs o x d) (without x declared ++ done) (plans_from T o declared more) g (keys (kept_of T))
      (none-from x o T declared more a) k.0
      (runs-from g T declared more (others-apart x (keys (kept_of T)) h)
      (tells-behind g (keys (kept_of T)) ps (plans_from T o declared more)
      (none-each givens_side x d (chosen_reprs o x d) (without x declared ++ done) (keys (kept_of T)) (not-x x (keys (kept_of T)) a)) k.1))
  runs-from g (find x d ∷ T) declared done h k =
      let ps = plans_of_stm (find x d) o declared done in
      let more = keys (names_of_plans ps) ++ done in
      let a = first-apart x (keys (kept_of T)) h in
      name-in-run env finds_side x d (chosen_reprs o x d) (without x declared ++ done) (plans_from T o declared more) g (keys (kept_of T))
      (none-from x o T declared more a) k.0
      (runs-from g T declared more (others-apart x (keys (kept_of T)) h)
      (tells-behind g (keys (kept_of T)) ps (plans_from T o declared more)
      (none-each finds_side x d (chosen_reprs o x d) (without x declared ++ done) (keys (kept_of T)) (not-x x (keys (kept_of T)) a)) k.1))
  runs-from g (given_enum t ∷ T) declared done h k =
      let ps = plans_of_stm (given_enum t) o declared done in
      runs-from g T declared (keys (names_of_plans ps) ++ done) h
      (tells-behind g (keys (kept_of T)) ps (plans_from T o declared (keys (names_of_plans ps) ++ done))
      (enum-each t (free_name (declared ++ done) (t ++ codes "_Size")) (keys (kept_of T))) k)
  runs-from g (let_ex x e ∷ T) declared done h k = runs-from g T declared done h k
  runs-from g (let_dom x d ∷ T) declared done h k = runs-from g T declared done h k
  runs-from g (let_enum t ns ∷ T) declared done h k = runs-from g T declared done h k
  runs-from g (let_unnamed t e ∷ T) declared done h k = runs-from g T declared done h k
  runs-from g (needs e ∷ T) declared done h k = runs-from g T declared done h k
  runs-from g (such_that e ∷ T) declared done h k = runs-from g T declared done h k
  runs-from g (minimise e ∷ T) declared done h k = runs-from g T declared done h k
  runs-from g (maximise e ∷ T) declared done h k = runs-from g T declared done h k

-- what a function tells it tells
told : (g : Text → ℕ) (xs : List Text) → Each xs (λ x. g x ≡ g x)
told g [] = tt
told g (x ∷ xs) = (refl, told g xs)

pub too_many_by_runs : TooManyByRuns
too_many_by_runs H p h =
    let S = H.statements in let o = H.reprs in
    runs-from (env_of S p nothing_given) o (cells_of_name S o p) (prepared S) (all_declared S) _ (kept-distinct S (well-typed S h.typed))
    (told (cells_of_name S o p) (keys (kept_names S)))
