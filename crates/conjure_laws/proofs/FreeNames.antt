-- The names of a specification's tables differ, whatever it declares: each is made free of those before it.
use Rattle.std.proofs.Common.{◌≡◌, refl, sym, ap, ◌∙◌, subst, ℕ, zero, suc, ◌+◌, ◌<◌, ◌≤◌, Bool, true, false, ◌||◌, not, if◌then◌else◌, List, [], ◌∷◌, ◌++◌, filter, length, codes, length-append, arith, append_assoc}
use Rattle.ess_semantics.specs.Values.{Text}
use Rattle.ess_semantics.specs.Order.{same_text}
use Rattle.ess_semantics.specs.Names.{keys, without, is_among, all_distinct}
use Rattle.ess_semantics.specs.Trees.{Repr, Dom, Stm, given, given_enum, let_ex, let_dom, let_enum, let_unnamed, needs, find, such_that, minimise, maximise}
use Rattle.ess_semantics.specs.TableNames.{Named, table_names, free_within, free_name, named_tables}
use Rattle.ess_semantics.specs.Prepared.{prepared}
use Rattle.ess_semantics.specs.Parameters.{all_declared}
use Rattle.ess_semantics.specs.Plans.{Options, chosen_reprs, Side, finds_side, givens_side, Plan, value_plan, names_of_plan, names_of_plans, plans_of_name, plans_of_stm, plans_from, plans, table_list}
use Rattle.ess_semantics.proofs.Tests.{and-left, and-right, and-both, or-left-no, or-right-no, not-true}
use Rattle.ess_semantics.proofs.Texts.{same_text-equal, same_text-either}
use Rattle.ess_semantics.specs.Contexts.{Each}
use Rattle.conjure_laws.proofs.Lists.{each-map, each-append}
use Rattle.conjure_laws.proofs.NamedTables.{keys-append}

-- ---- a free name

abbrev one : Bool → ℕ
one true = 1
one false = 0

-- Whether n is at most m.
abbrev reaches : ℕ → ℕ → Bool
reaches zero m = true
reaches (suc n) zero = false
reaches (suc n) (suc m) = reaches n m

-- How many names have at least so many bytes.
abbrev long_ones : List Text → ℕ → ℕ
long_ones [] n = 0
long_ones (t ∷ ts) n = one (reaches n (length t)) + long_ones ts n

at-most : (ts : List Text) (n : ℕ) → long_ones ts n ≤ length ts
at-most [] n = omega arith
at-most (t ∷ ts) n = let h = at-most ts n in let g = le-one (reaches n (length t)) in
    let z : suc (length ts) ≡ length (t ∷ ts) = refl in
    omega arith
  where
    le-one : (b : Bool) → one b ≤ 1
    le-one true = omega arith
    le-one false = omega arith

fewer-one : (n m : ℕ) → one (reaches (suc n) m) ≤ one (reaches n m)
fewer-one zero zero = omega arith
fewer-one zero (suc m) = go (reaches 1 (suc m))
  where
    go : (b : Bool) → one b ≤ 1
    go true = omega arith
    go false = omega arith
fewer-one (suc n) zero = omega arith
fewer-one (suc n) (suc m) = fewer-one n m

fewer : (ts : List Text) (n : ℕ) → long_ones ts (suc n) ≤ long_ones ts n
fewer [] n = omega arith
fewer (t ∷ ts) n = let h = fewer ts n in let g = fewer-one n (length t) in omega arith

itself : (n : ℕ) → (reaches (suc n) n ≡ false) × (reaches n n ≡ true)
itself zero = (refl, refl)
itself (suc n) = itself n

strictly-fewer : (ts : List Text) (a : Text) → is_among ts a ≡ true → long_ones ts (suc (length a)) < long_ones ts (length a)
strictly-fewer [] a e = cc
strictly-fewer (t ∷ ts) a e = go (same_text t a) refl e (strictly-fewer ts a)
  where
    go : (b : Bool) → same_text t a ≡ b → b || is_among ts a ≡ true →
        (is_among ts a ≡ true → long_ones ts (suc (length a)) < long_ones ts (length a)) →
        one (reaches (suc (length a)) (length t)) + long_ones ts (suc (length a)) < one (reaches (length a) (length t)) + long_ones ts
        (length a)
    go true q e k =
        let s : t ≡ a = same_text-equal t a q in
        let x : one (reaches (suc (length a)) (length t)) ≡ 0 = ap (λ y. one (reaches (suc (length a)) (length y))) s
        ∙ ap one (itself (length a)).0 in
        let y : one (reaches (length a) (length t)) ≡ 1 = ap (λ y. one (reaches (length a) (length y))) s
        ∙ ap one (itself (length a)).1 in
        let f = fewer ts (length a) in omega arith
    go false q e k = let h = k e in let g = fewer-one (length a) (length t) in omega arith

free : (k : ℕ) (taken : List Text) (a : Text) → long_ones taken (length a) < k → is_among taken (free_within k taken a) ≡ false
free zero taken a h = absurd (omega arith)
free (suc k) taken a h = go (is_among taken a) refl (free k taken (a ++ codes "_"))
  where
    go : (b : Bool) → is_among taken a ≡ b → (long_ones taken (length (a ++ codes "_")) < k →
        is_among taken (free_within k taken (a ++ codes "_")) ≡ false) →
        is_among taken (if b then free_within k taken (a ++ codes "_") else a) ≡ false
    go true e f =
        let l : length (a ++ codes "_") ≡ suc (length a) = length-append a (codes "_") ∙ plus (length a) in
        let s = strictly-fewer taken a e in
        f (subst (λ n. long_ones taken n < k) (sym l) (omega arith))
      where
        plus : (n : ℕ) → n + 1 ≡ suc n
        plus n = omega arith
    go false e f = e

-- A free name is none of those that are taken.
pub name-is-free : (taken : List Text) (a : Text) → is_among taken (free_name taken a) ≡ false
name-is-free taken a = let h = at-most taken (length a) in free (suc (length taken)) taken a (omega arith)

-- ---- names that are new

-- None of the names is taken, and no two are equal.
abbrev pub AreNew : List Text → List Text → Type 0
AreNew taken ns = Each ns (λ n. is_among taken n ≡ false) × (all_distinct ns ≡ true)

-- A name that differs from each of the names is none of them.
pub not-among : (ns : List Text) (a : Text) → Each ns (λ n. same_text a n ≡ false) → is_among ns a ≡ false
not-among [] a h = refl
not-among (n ∷ ns) a h = ap (λ b. b || is_among ns a) (same_text-either n a ∙ h.0) ∙ not-among ns a h.1

-- A name is one of two lists where it is one of either.
pub among-append : (xs ys : List Text) (a : Text) → is_among (xs ++ ys) a ≡ is_among xs a || is_among ys a
among-append [] ys a = refl
among-append (x ∷ xs) ys a = ap (λ b. same_text x a || b) (among-append xs ys a) ∙ go (same_text x a) (is_among xs a) (is_among ys a)
  where
    go : (a b c : Bool) → a || (b || c) ≡ (a || b) || c
    go true b c = refl
    go false b c = refl

no-or : (a b : Bool) → a ≡ false → b ≡ false → a || b ≡ false
no-or a b e f = ap (λ x. x || b) e ∙ f

distinct-append : (xs ys : List Text) → all_distinct xs ≡ true → all_distinct ys ≡ true → Each ys (λ y. is_among xs y ≡ false) →
    all_distinct (xs ++ ys) ≡ true
distinct-append [] ys d e h = e
distinct-append (x ∷ xs) ys d e h =
    and-both (not (is_among (xs ++ ys) x)) (all_distinct (xs ++ ys))
    (ap not (among-append xs ys x ∙ no-or (is_among xs x) (is_among ys x)
    (not-true _ (and-left (not (is_among xs x)) (all_distinct xs) d))
    (not-among ys x (each-map ys (λ y. is_among (x ∷ xs) y ≡ false) (λ y. same_text x y ≡ false)
    (λ y f. or-left-no (same_text x y) (is_among xs y) f) h))))
    (distinct-append xs ys (and-right (not (is_among xs x)) (all_distinct xs) d) e
    (each-map ys (λ y. is_among (x ∷ xs) y ≡ false) (λ y. is_among xs y ≡ false)
    (λ y f. or-right-no (same_text x y) (is_among xs y) f)
    h))

-- What is new behind new names.
pub new-behind : (taken ns ms : List Text) → AreNew taken ns → AreNew (ns ++ taken) ms → AreNew taken (ns ++ ms)
new-behind taken ns ms n m = (
  each-append (λ k. is_among taken k ≡ false) ns ms n.0
      (each-map ms (λ k. is_among (ns ++ taken) k ≡ false) (λ k. is_among taken k ≡ false)
      (λ k e. or-right-no (is_among ns k) (is_among taken k) (sym (among-append ns taken k) ∙ e)) m.0),
  distinct-append ns ms n.1 m.1 (each-map ms (λ k. is_among (ns ++ taken) k ≡ false) (λ k. is_among ns k ≡ false)
      (λ k e. or-left-no (is_among ns k) (is_among taken k) (sym (among-append ns taken k) ∙ e)) m.0),
)

-- What is new beside declared names and others is new beside the others.
pub less-taken : (declared done ns : List Text) → AreNew (declared ++ done) ns → AreNew done ns
less-taken declared done ns n = (
  each-map ns (λ k. is_among (declared ++ done) k ≡ false) (λ k. is_among done k ≡ false)
      (λ k e. or-right-no (is_among declared k) (is_among done k) (sym (among-append declared done k) ∙ e)) n.0,
  n.1,
)

-- A free name is new.
pub one-new : (taken : List Text) (a : Text) → AreNew taken (free_name taken a ∷ [])
one-new taken a = ((name-is-free taken a, tt), refl)

-- ---- the names of tables

tables-new : (x : Text) (ns : List Named) (taken : List Text) → AreNew taken (keys (named_tables x ns taken))
tables-new x [] taken = (tt, refl)
tables-new x (n ∷ ns) taken =
    let a : Text = free_name taken (x ++ n.0) in
    new-behind taken (a ∷ []) (keys (named_tables x ns (a ∷ taken))) (one-new taken (x ++ n.0)) (tables-new x ns (a ∷ taken))

abbrev PlansNew : List Text → List Plan → Type 0
PlansNew taken Ps = AreNew taken (keys (names_of_plans Ps))

join-new : (taken : List Text) (Ps Qs : List Plan) → PlansNew taken Ps → PlansNew (keys (names_of_plans Ps) ++ taken) Qs →
    PlansNew taken (Ps ++ Qs)
join-new taken Ps Qs n m = subst (AreNew taken) (sym (names-append Ps Qs))
    (new-behind taken (keys (names_of_plans Ps)) (keys (names_of_plans Qs)) n m)
  where
    names-append : (Ps Qs : List Plan) → keys (names_of_plans (Ps ++ Qs)) ≡ keys (names_of_plans Ps) ++ keys (names_of_plans Qs)
    names-append [] Qs = refl
    names-append (P ∷ Ps) Qs =
        keys-append (names_of_plan P) (names_of_plans (Ps ++ Qs)) ∙ ap (λ l. keys (names_of_plan P) ++ l) (names-append Ps Qs)
        ∙ sym (append_assoc (keys (names_of_plan P)) (keys (names_of_plans Ps)) (keys (names_of_plans Qs)))
        ∙ ap (λ l. l ++ keys (names_of_plans Qs)) (sym (keys-append (names_of_plan P) (names_of_plans Ps)))

none-behind : (ns : List Named) → keys (ns ++ []) ≡ keys ns
none-behind [] = refl
none-behind (n ∷ ns) = ap (λ l. n.0 ∷ l) (none-behind ns)

of-name-new : (f : Side) (x : Text) (d : Dom) (rs : List Repr) (taken : List Text) → PlansNew taken (plans_of_name f x d rs taken)
of-name-new f x d [] taken = (tt, refl)
of-name-new f x d (r ∷ rs) taken =
    let ns : List Named = named_tables x (table_names r d) taken in
    join-new taken (value_plan f x r d ns ∷ []) (plans_of_name f x d rs (keys ns ++ taken))
    (subst (AreNew taken) (sym (none-behind ns)) (tables-new x (table_names r d) taken))
    (subst (λ l. PlansNew (l ++ taken) (plans_of_name f x d rs (keys ns ++ taken))) (sym (none-behind ns))
    (of-name-new f x d rs (keys ns ++ taken)))

of-stm-new : (s : Stm) (o : Options) (declared done : List Text) → PlansNew done (plans_of_stm s o declared done)
of-stm-new (given x d) o declared done = less-taken (without x declared) done _
    (of-name-new givens_side x d (chosen_reprs o x d) (without x declared ++ done))
of-stm-new (given_enum t) o declared done = less-taken declared done (free_name (declared ++ done) (t ++ codes "_Size") ∷ [])
    (one-new (declared ++ done) (t ++ codes "_Size"))
of-stm-new (find x d) o declared done = less-taken (without x declared) done _
    (of-name-new finds_side x d (chosen_reprs o x d) (without x declared ++ done))
of-stm-new (let_ex x e) o declared done = (tt, refl)
of-stm-new (let_dom x d) o declared done = (tt, refl)
of-stm-new (let_enum t ns) o declared done = (tt, refl)
of-stm-new (let_unnamed t e) o declared done = (tt, refl)
of-stm-new (needs e) o declared done = (tt, refl)
of-stm-new (such_that e) o declared done = (tt, refl)
of-stm-new (minimise e) o declared done = (tt, refl)
of-stm-new (maximise e) o declared done = (tt, refl)

from-new : (T : List Stm) (o : Options) (declared done : List Text) → PlansNew done (plans_from T o declared done)
from-new [] o declared done = (tt, refl)
from-new (s ∷ T) o declared done =
    let ps : List Plan = plans_of_stm s o declared done in
    join-new done ps (plans_from T o declared (keys (names_of_plans ps) ++ done)) (of-stm-new s o declared done)
    (from-new T o declared (keys (names_of_plans ps) ++ done))

-- The names of all tables differ.
pub all-names-differ : (S : List Stm) (o : Options) → all_distinct (keys (names_of_plans (plans S o))) ≡ true
all-names-differ S o = (from-new (prepared S) o (all_declared S) (codes "alldifferent_except" ∷ [])).1

-- ---- of the finds, or of the givens

-- A name of no plan's table is none of some of the plans'.
pub among-filter : (f : Plan → Bool) (Ps : List Plan) (a : Text) → is_among (keys (names_of_plans Ps)) a ≡ false →
    is_among (keys (names_of_plans (filter f Ps))) a ≡ false
among-filter f [] a e = e
among-filter f (P ∷ Ps) a e =
    let h : is_among (keys (names_of_plan P)) a || is_among (keys (names_of_plans Ps)) a ≡ false =
    sym (ap (λ l. is_among l a) (keys-append (names_of_plan P) (names_of_plans Ps))
    ∙ among-append (keys (names_of_plan P)) (keys (names_of_plans Ps)) a) ∙ e in
    go (f P) (or-left-no (is_among (keys (names_of_plan P)) a) (is_among (keys (names_of_plans Ps)) a) h)
    (among-filter f Ps a (or-right-no (is_among (keys (names_of_plan P)) a) (is_among (keys (names_of_plans Ps)) a) h))
  where
    go : (b : Bool) → is_among (keys (names_of_plan P)) a ≡ false → is_among (keys (names_of_plans (filter f Ps))) a ≡ false →
        is_among (keys (names_of_plans (if b then P ∷ filter f Ps else filter f Ps))) a ≡ false
    go true x y = ap (λ l. is_among l a) (keys-append (names_of_plan P) (names_of_plans (filter f Ps)))
        ∙ among-append (keys (names_of_plan P)) (keys (names_of_plans (filter f Ps))) a ∙ no-or _ _ x y
    go false x y = y

-- The two halves of distinct names.
pub halves : (xs ys : List Text) → all_distinct (xs ++ ys) ≡ true →
    (all_distinct xs ≡ true) × (all_distinct ys ≡ true) × Each xs (λ x. is_among ys x ≡ false)
halves [] ys e = (refl, e, tt)
halves (x ∷ xs) ys e =
    let n : is_among xs x || is_among ys x ≡ false = sym (among-append xs ys x)
    ∙ not-true _ (and-left (not (is_among (xs ++ ys) x)) (all_distinct (xs ++ ys)) e) in
    let r = halves xs ys (and-right (not (is_among (xs ++ ys) x)) (all_distinct (xs ++ ys)) e) in (
      and-both (not (is_among xs x)) (all_distinct xs) (ap not (or-left-no (is_among xs x) (is_among ys x) n)) r.0,
      r.1,
      (or-right-no (is_among xs x) (is_among ys x) n, r.2),
    )

-- Distinct names with nothing in common are distinct.
pub join-halves : (xs ys : List Text) → all_distinct xs ≡ true → all_distinct ys ≡ true → Each xs (λ x. is_among ys x ≡ false) →
    all_distinct (xs ++ ys) ≡ true
join-halves [] ys d e h = e
join-halves (x ∷ xs) ys d e h =
    and-both (not (is_among (xs ++ ys) x)) (all_distinct (xs ++ ys))
    (ap not (among-append xs ys x ∙ no-or (is_among xs x) (is_among ys x)
    (not-true _ (and-left (not (is_among xs x)) (all_distinct xs) d))
    h.0))
    (join-halves xs ys (and-right (not (is_among xs x)) (all_distinct xs) d) e h.1)

-- The names of some plans' tables differ where those of all do.
pub distinct-filter : (f : Plan → Bool) (Ps : List Plan) → all_distinct (keys (names_of_plans Ps)) ≡ true →
    all_distinct (keys (names_of_plans (filter f Ps))) ≡ true
distinct-filter f [] e = e
distinct-filter f (P ∷ Ps) e =
    let h = halves (keys (names_of_plan P)) (keys (names_of_plans Ps))
    (ap all_distinct (sym (keys-append (names_of_plan P) (names_of_plans Ps))) ∙ e) in
    go (f P) h.0 (distinct-filter f Ps h.1) (each-map (keys (names_of_plan P)) (λ x. is_among (keys (names_of_plans Ps)) x ≡ false)
    (λ x. is_among (keys (names_of_plans (filter f Ps))) x ≡ false) (λ x. among-filter f Ps x) h.2)
  where
    go : (b : Bool) → all_distinct (keys (names_of_plan P)) ≡ true → all_distinct (keys (names_of_plans (filter f Ps))) ≡ true →
        Each (keys (names_of_plan P)) (λ x. is_among (keys (names_of_plans (filter f Ps))) x ≡ false) →
        all_distinct (keys (names_of_plans (if b then P ∷ filter f Ps else filter f Ps))) ≡ true
    go true d r n = ap all_distinct (keys-append (names_of_plan P) (names_of_plans (filter f Ps)))
        ∙ join-halves (keys (names_of_plan P)) (keys (names_of_plans (filter f Ps))) d r n
    go false d r n = r

-- The names of the tables of the finds differ, and those of the givens.
pub names-differ : (f : Side) (S : List Stm) (o : Options) → all_distinct (keys (table_list f S o)) ≡ true
names-differ f S o = distinct-filter _ (plans S o) (all-names-differ S o)
