-- Numbers of cells that are kept, plan by plan.
use Rattle.std.proofs.Common.{◌≡◌, refl, sym, ap, ◌∙◌, ℕ, zero, suc, ◌+◌, ◌<◌, ◌≤◌, Bool, true, false, if◌then◌else◌, List, [], ◌∷◌, ◌++◌, map, drop, length, get_or, nat_le, Option, Some, None, option_map, arith, append_assoc, append-nil}
use Rattle.std.proofs.lemmas.Bool.Decides.{nat_tests}
use Rattle.std.proofs.lemmas.List.{at_drop_more, at_drop_all}
use Rattle.ess_semantics.specs.Values.{Text}
use Rattle.ess_semantics.specs.Domains.{Domain}
use Rattle.ess_semantics.specs.Plans as pure
use Rattle.ess_semantics.specs.Plans.{is_plan_for}
use Rattle.ess_eval_domains.specs.declared.closed.Closed.{Closed}
use Rattle.ess_eval_domains.specs.ClosedViews.{pure_closed}
use Rattle.ess_domains_cells.specs.Kept.{kept}
use Rattle.ess_translate_given_laws.specs.Counts.{cell_limit}
use Rattle.ess_translate_plans.specs.declared.plans.ValuePlan.{ValuePlan}
use Rattle.ess_translate_plans.specs.declared.plans.Plan.{Plan}
use Rattle.ess_translate_plans.specs.Views.{pure_plan}
use Rattle.ess_translate_given.specs.KeptCounts.{count_at, counts_of, run_from, first_kept_above, total_above, named_total}

-- a number below the limit is kept as it is
pub few_kept : (c n : ℕ) → c ≡ n → n ≤ 16777216 → n ≡ kept c
few_kept c n e h = grind arith

-- ---- the numbers of plans

-- The domains of the code, as they are meant.
abbrev pub domains_in : List (Option Closed) → List (Option Domain)
domains_in os = map (option_map pure_closed) os

-- The numbers from an index on.
abbrev pub counts_left : List Plan → List (Option Closed) → ℕ → List ℕ
counts_left ps os i = counts_of (map pure_plan (drop i ps)) (domains_in (drop i os))

pub counts_more : (ps : List Plan) (os : List (Option Closed)) (i : ℕ) (p : Plan) (o : Option Closed) (ns ms : List ℕ) (n : ℕ) →
    i < length ps → i < length os → p ≡ get_or ps i p → o ≡ get_or os i o → n ≡ kept (count_at (pure_plan p) (option_map pure_closed o)) →
    ms ≡ ns ++ n ∷ [] → ns ++ counts_left ps os i ≡ counts_of (map pure_plan ps) (domains_in os) →
    ms ++ counts_left ps os (i + 1) ≡ counts_of (map pure_plan ps) (domains_in os)
counts_more ps os i p o ns ms n h k at bt e q w =
    ap (λ l. l ++ counts_left ps os (i + 1)) q ∙ append_assoc ns (n ∷ []) (counts_left ps os (i + 1))
    ∙ ap (λ m. ns ++ (m ∷ counts_left ps os (i + 1)))
    (e ∙ ap (λ x. kept (count_at (pure_plan x) (option_map pure_closed o))) at
    ∙ ap (λ x. kept (count_at (pure_plan (get_or ps i p)) (option_map pure_closed x))) bt)
    ∙ ap (λ l. ns ++ l) (sym (at_drop_more (λ l. counts_of (map pure_plan l) (domains_in (drop i os))) ps i p h
    ∙ at_drop_more (λ l. counts_of (map pure_plan (get_or ps i p ∷ drop (i + 1) ps)) (domains_in l)) os i o k))
    ∙ w

none-short : (ps : List pure.Plan) → counts_of ps [] ≡ []
none-short [] = refl
none-short (p ∷ ps) = refl

pub counts_short : (ps : List Plan) (os : List (Option Closed)) (i : ℕ) (ns : List ℕ) → length os ≤ i →
    ns ++ counts_left ps os i ≡ counts_of (map pure_plan ps) (domains_in os) → ns ≡ counts_of (map pure_plan ps) (domains_in os)
counts_short ps os i ns h w =
    sym (append-nil ns) ∙ ap (λ l. ns ++ l) (sym (at_drop_all (λ l. counts_of (map pure_plan (drop i ps)) (domains_in l)) os i h
    ∙ none-short (map pure_plan (drop i ps)))) ∙ w

pub counts_all : (ps : List Plan) (os : List (Option Closed)) (i : ℕ) (ns : List ℕ) → length ps ≤ i →
    ns ++ counts_left ps os i ≡ counts_of (map pure_plan ps) (domains_in os) → ns ≡ counts_of (map pure_plan ps) (domains_in os)
counts_all ps os i ns h w =
    sym (append-nil ns) ∙ ap (λ l. ns ++ l) (sym (at_drop_all (λ l. counts_of (map pure_plan l) (domains_in (drop i os))) ps i h)) ∙ w

-- ---- a run

-- A run from an index on.
abbrev pub run_left : Text → ℕ → List Plan → List ℕ → ℕ → ℕ
run_left x n ps ns i = run_from x n (map pure_plan (drop i ps)) (drop i ns)

run-step : (x : Text) (n i : ℕ) (ps : List Plan) (ns : List ℕ) (p : Plan) (m : ℕ) → i < length ps → i < length ns → p ≡ get_or ps i p →
    m ≡ get_or ns i m →
    run_left x n ps ns i ≡ (if is_plan_for x (pure_plan p) then run_left x (kept (n + m)) ps ns (i + 1) else n)
run-step x n i ps ns p m h k at bt =
    at_drop_more (λ l. run_from x n (map pure_plan l) (drop i ns)) ps i p h
    ∙ at_drop_more (λ l. run_from x n (map pure_plan (get_or ps i p ∷ drop (i + 1) ps)) l) ns i m k
    ∙ ap (λ y. if is_plan_for x (pure_plan y) then run_left x (kept (n + get_or ns i m)) ps ns (i + 1) else n) (sym at)
    ∙ ap (λ y. if is_plan_for x (pure_plan p) then run_left x (kept (n + y)) ps ns (i + 1) else n) (sym bt)

pub run_more : (x : Text) (f n t i : ℕ) (ps : List Plan) (ns : List ℕ) (p : Plan) (m : ℕ) → i < length ps → i < length ns → p ≡ get_or ps i p →
    m ≡ get_or ns i m → is_plan_for x (pure_plan p) ≡ true → t ≡ kept (n + m) →
    run_left x n ps ns i ≡ run_from x f (map pure_plan ps) ns → run_left x t ps ns (i + 1) ≡ run_from x f (map pure_plan ps) ns
run_more x f n t i ps ns p m h k at bt b e w =
    ap (λ y. run_left x y ps ns (i + 1)) e ∙ ap (λ c. if c then run_left x (kept (n + m)) ps ns (i + 1) else n) (sym b)
    ∙ sym (run-step x n i ps ns p m h k at bt) ∙ w

pub run_other : (x : Text) (f n i : ℕ) (ps : List Plan) (ns : List ℕ) (p : Plan) → i < length ps → i < length ns → p ≡ get_or ps i p →
    is_plan_for x (pure_plan p) ≡ false → run_left x n ps ns i ≡ run_from x f (map pure_plan ps) ns → n ≡ run_from x f (map pure_plan ps) ns
run_other x f n i ps ns p h k at b w =
    ap (λ c. if c then run_left x (kept (n + get_or ns i 0)) ps ns (i + 1) else n) (sym b)
    ∙ sym (run-step x n i ps ns p (get_or ns i 0) h k at (again ns i k)) ∙ w
  where
    again : (ns : List ℕ) (i : ℕ) → i < length ns → get_or ns i 0 ≡ get_or ns i (get_or ns i 0)
    again [] i h = absurd (omega (arith, h))
    again (n ∷ ns) zero h = refl
    again (n ∷ ns) (suc i) h = again ns i (omega (arith, h))

short-run : (x : Text) (n : ℕ) (ps : List pure.Plan) → run_from x n ps [] ≡ n
short-run x n [] = refl
short-run x n (p ∷ ps) = refl

pub run_short : (x : Text) (f n i : ℕ) (ps : List Plan) (ns : List ℕ) → length ns ≤ i → run_left x n ps ns i ≡ run_from x f (map pure_plan ps) ns →
    n ≡ run_from x f (map pure_plan ps) ns
run_short x f n i ps ns h w =
    sym (at_drop_all (λ l. run_from x n (map pure_plan (drop i ps)) l) ns i h ∙ short-run x n (map pure_plan (drop i ps))) ∙ w

pub run_all : (x : Text) (f n i : ℕ) (ps : List Plan) (ns : List ℕ) → length ps ≤ i → run_left x n ps ns i ≡ run_from x f (map pure_plan ps) ns →
    n ≡ run_from x f (map pure_plan ps) ns
run_all x f n i ps ns h w = sym (at_drop_all (λ l. run_from x n (map pure_plan l) (drop i ns)) ps i h) ∙ w

-- ---- the first run above the limit

-- The first from an index on.
abbrev pub above_left : List Plan → List ℕ → ℕ → Option (Text × ℕ)
above_left ps ns i = first_kept_above (map pure_plan (drop i ps)) (drop i ns)

above-step : (i : ℕ) (ps : List Plan) (ns : List ℕ) (p : Plan) (m : ℕ) → i < length ps → i < length ns → p ≡ get_or ps i p → m ≡ get_or ns i m →
    above_left ps ns i ≡ first_kept_above (pure_plan p ∷ map pure_plan (drop (i + 1) ps)) (m ∷ drop (i + 1) ns)
above-step i ps ns p m h k at bt =
    at_drop_more (λ l. first_kept_above (map pure_plan l) (drop i ns)) ps i p h
    ∙ at_drop_more (λ l. first_kept_above (map pure_plan (get_or ps i p ∷ drop (i + 1) ps)) l) ns i m k
    ∙ ap (λ y. first_kept_above (pure_plan y ∷ map pure_plan (drop (i + 1) ps)) (get_or ns i m ∷ drop (i + 1) ns)) (sym at)
    ∙ ap (λ y. first_kept_above (pure_plan p ∷ map pure_plan (drop (i + 1) ps)) (y ∷ drop (i + 1) ns)) (sym bt)

is-above : (t : ℕ) → 16777216 < t → nat_le t cell_limit ≡ false
is-above t h = grind (arith, nat_tests)

isn't-above : (t : ℕ) → t ≤ 16777216 → nat_le t cell_limit ≡ true
isn't-above t h = grind (arith, nat_tests)

pub above_few : (p : Plan) (v : ValuePlan) (t m : ℕ) (ps : List pure.Plan) (ms : List ℕ) → p ≡ Plan.Value v → t ≡ run_from v.name m ps ms →
    t ≤ 16777216 → None ≡ total_above (pure_plan p) m ps ms
above_few p v t m ps ms is e g =
    ap (λ b. if b then None else Some t) (sym (isn't-above t g)) ∙ ap (λ y. if nat_le y cell_limit then None else Some y) e
    ∙ ap (λ q. total_above (pure_plan q) m ps ms) (sym is)

pub above_many : (p : Plan) (v : ValuePlan) (t m : ℕ) (ps : List pure.Plan) (ms : List ℕ) → p ≡ Plan.Value v → t ≡ run_from v.name m ps ms →
    16777216 < t → Some t ≡ total_above (pure_plan p) m ps ms
above_many p v t m ps ms is e g =
    ap (λ b. if b then None else Some t) (sym (is-above t g)) ∙ ap (λ y. if nat_le y cell_limit then None else Some y) e
    ∙ ap (λ q. total_above (pure_plan q) m ps ms) (sym is)

-- the first of a list, where its number is above the limit or not
above-is : (p : pure.Plan) (m n : ℕ) (ps : List pure.Plan) (ms : List ℕ) → Some n ≡ total_above p m ps ms →
    first_kept_above (p ∷ ps) (m ∷ ms) ≡ named_total p n
above-is (pure.size_plan t a) m n ps ms e = let c : Some n ≡ None = e in cc
above-is (pure.value_plan f x r d ns) m n ps ms e = go (nat_le (run_from x m ps ms) cell_limit) e
  where
    go : (b : Bool) → Some n ≡ (if b then None else Some (run_from x m ps ms)) →
        (if b then first_kept_above ps ms else Some (x, run_from x m ps ms)) ≡ Some (x, n)
    go true h = let c : Some n ≡ None = h in cc
    go false h = let c : n ≡ run_from x m ps ms = cc in ap (λ y. Some (x, y)) (sym c)

above-isn't : (p : pure.Plan) (m : ℕ) (ps : List pure.Plan) (ms : List ℕ) → None ≡ total_above p m ps ms →
    first_kept_above (p ∷ ps) (m ∷ ms) ≡ first_kept_above ps ms
above-isn't (pure.size_plan t a) m ps ms e = refl
above-isn't (pure.value_plan f x r d ns) m ps ms e = go (nat_le (run_from x m ps ms) cell_limit) e
  where
    go : (b : Bool) → None ≡ (if b then None else Some (run_from x m ps ms)) →
        (if b then first_kept_above ps ms else Some (x, run_from x m ps ms)) ≡ first_kept_above ps ms
    go true h = refl
    go false h = let c : None ≡ Some (run_from x m ps ms) = h in cc

pub above_here : (i n : ℕ) (ps : List Plan) (ns : List ℕ) (p : Plan) (m : ℕ) (o x : Option (Text × ℕ)) → i < length ps → i < length ns →
    p ≡ get_or ps i p → m ≡ get_or ns i m → Some n ≡ total_above (pure_plan p) m (map pure_plan (drop (i + 1) ps)) (drop (i + 1) ns) →
    o ≡ named_total (pure_plan p) n → above_left ps ns i ≡ x → o ≡ x
above_here i n ps ns p m o x h k at bt e q w =
    q ∙ sym (above-is (pure_plan p) m n (map pure_plan (drop (i + 1) ps)) (drop (i + 1) ns) e) ∙ sym (above-step i ps ns p m h k at bt) ∙ w

pub above_more : (i : ℕ) (ps : List Plan) (ns : List ℕ) (p : Plan) (m : ℕ) (x : Option (Text × ℕ)) → i < length ps → i < length ns →
    p ≡ get_or ps i p → m ≡ get_or ns i m → None ≡ total_above (pure_plan p) m (map pure_plan (drop (i + 1) ps)) (drop (i + 1) ns) →
    above_left ps ns i ≡ x → above_left ps ns (i + 1) ≡ x
above_more i ps ns p m x h k at bt e w =
    sym (above-isn't (pure_plan p) m (map pure_plan (drop (i + 1) ps)) (drop (i + 1) ns) e) ∙ sym (above-step i ps ns p m h k at bt) ∙ w

short-above : (ps : List pure.Plan) → first_kept_above ps [] ≡ None
short-above [] = refl
short-above (pure.size_plan t a ∷ ps) = refl
short-above (pure.value_plan f x r d ns ∷ ps) = refl

pub above_short : (i : ℕ) (ps : List Plan) (ns : List ℕ) (x : Option (Text × ℕ)) → length ns ≤ i → above_left ps ns i ≡ x → None ≡ x
above_short i ps ns x h w =
    sym (at_drop_all (λ l. first_kept_above (map pure_plan (drop i ps)) l) ns i h ∙ short-above (map pure_plan (drop i ps))) ∙ w

pub above_all : (i : ℕ) (ps : List Plan) (ns : List ℕ) (x : Option (Text × ℕ)) → length ps ≤ i → above_left ps ns i ≡ x → None ≡ x
above_all i ps ns x h w = sym (at_drop_all (λ l. first_kept_above (map pure_plan l) (drop i ns)) ps i h) ∙ w

-- The passes over the plans: their numbers, a run, and the first run above the limit.
pub ruleset counting = (counts_more, counts_short, counts_all)

pub ruleset running = (run_more, run_other, run_short, run_all)

pub ruleset finding = (above_here, above_more, above_short, above_all)
