-- Walks over the statements of a specification: its finds, its plans, and what its statements say in their places.
use Rattle.std.proofs.Common.{◌≡◌, refl, sym, ap, ◌∙◌, subst, ℕ, ◌+◌, true, false, List, [], ◌∷◌, ◌++◌, map, length, ◌⊎◌, inl, inr, length-append, not}
use Rattle.ess_semantics.specs.Lists.{append_all, is_empty}
use Rattle.ess_semantics.specs.Values.{Text}
use Rattle.ess_semantics.specs.Names.{Names, keys, without, all_distinct, is_among}
use Rattle.ess_semantics.specs.Trees.{Repr, Dom, Stm, given, given_enum, let_ex, let_dom, let_enum, let_unnamed, needs, find, such_that, minimise, maximise}
use Rattle.ess_semantics.specs.Types.{Ty}
use Rattle.ess_semantics.specs.Lettings.{Lettings, no_lettings, put_stm, put_all, lettings_after, types_after}
use Rattle.ess_semantics.specs.Prepared.{resolve_stm, resolve_all, prepared}
use Rattle.ess_semantics.specs.Meaning.{Env}
use Rattle.ess_semantics.specs.Assignments.{Assignment, env_after, env_behind}
use Rattle.ess_semantics.specs.Parameters.{all_declared}
use Rattle.ess_semantics.specs.Solutions.{find_of, finds}
use Rattle.ess_semantics.specs.TableNames.{Named, named_tables, table_names}
use Rattle.ess_semantics.specs.Plans.{Options, chosen_reprs, domain_of_stm, kept_names, value_plan, names_of_plans, plans_of_name, plans_of_stm, plans_from, plans, finds_side, Side, givens_side}
use Rattle.ess_semantics.specs.Models.{constraint_of, constraints_of}
use Rattle.ess_semantics.proofs.Tests.{not-true, and-left}
use Rattle.ess_semantics.specs.Contexts.{Each}
use Rattle.conjure_laws.proofs.Lists.{in-left, in-right, in-either}
use Rattle.conjure_laws.specs.Members.{In}
use Rattle.conjure_laws.proofs.NamedTables.{in-among}
use Rattle.conjure_laws.proofs.FreeNames.{halves}

-- ---- preparing keeps what statements are

find-kept : (s : Stm) (l : Lettings) (g h : Names Ty) → find_of (resolve_stm (put_stm s l g) h) ≡ find_of s
find-kept (given x d) l g h = refl
find-kept (given_enum t) l g h = refl
find-kept (let_ex x e) l g h = refl
find-kept (let_dom x d) l g h = refl
find-kept (let_enum t ns) l g h = refl
find-kept (let_unnamed t e) l g h = refl
find-kept (needs e) l g h = refl
find-kept (find x d) l g h = refl
find-kept (such_that e) l g h = refl
find-kept (minimise e) l g h = refl
find-kept (maximise e) l g h = refl

finds-kept : (S : List Stm) (l : Lettings) (g h : Names Ty) → finds (resolve_all (put_all S l g) h) ≡ finds S
finds-kept [] l g h = refl
finds-kept (s ∷ S) l g h =
    ap (λ x. x ++ finds (resolve_all (put_all S (lettings_after (put_stm s l g) l) (types_after (put_stm s l g) g))
    (types_after (put_stm s l g) h))) (find-kept s l g h)
    ∙ ap (λ x. find_of s ++ x) (finds-kept S (lettings_after (put_stm s l g) l) (types_after (put_stm s l g) g)
    (types_after (put_stm s l g) h))

-- A prepared specification has the same finds.
pub finds-prepared : (S : List Stm) → finds (prepared S) ≡ finds S
finds-prepared S = finds-kept S no_lettings [] []

constraint-kept : (s : Stm) (l : Lettings) (g h : Names Ty) →
    length (constraint_of (resolve_stm (put_stm s l g) h)) ≡ length (constraint_of s)
constraint-kept (given x d) l g h = refl
constraint-kept (given_enum t) l g h = refl
constraint-kept (let_ex x e) l g h = refl
constraint-kept (let_dom x d) l g h = refl
constraint-kept (let_enum t ns) l g h = refl
constraint-kept (let_unnamed t e) l g h = refl
constraint-kept (needs e) l g h = refl
constraint-kept (find x d) l g h = refl
constraint-kept (such_that e) l g h = refl
constraint-kept (minimise e) l g h = refl
constraint-kept (maximise e) l g h = refl

constraints-kept : (S : List Stm) (l : Lettings) (g h : Names Ty) →
    length (constraints_of (resolve_all (put_all S l g) h)) ≡ length (constraints_of S)
constraints-kept [] l g h = refl
constraints-kept (s ∷ S) l g h =
    let t = resolve_stm (put_stm s l g) h in
    let T = resolve_all (put_all S (lettings_after (put_stm s l g) l) (types_after (put_stm s l g) g)) (types_after (put_stm s l g) h)
    in
    length-append (constraint_of t) (constraints_of T)
    ∙ two (constraint-kept s l g h) (constraints-kept S (lettings_after (put_stm s l g) l) (types_after (put_stm s l g) g)
    (types_after (put_stm s l g) h))
    ∙ sym (length-append (constraint_of s) (constraints_of S))
  where
    two : {a b c d : ℕ} → a ≡ b → c ≡ d → a + c ≡ b + d
    two {b = b} {c = c} e f = ap (λ x. x + c) e ∙ ap (λ x. b + x) f

-- And as many constraints.
pub constraints-prepared : (S : List Stm) → length (constraints_of (prepared S)) ≡ length (constraints_of S)
constraints-prepared S = constraints-kept S no_lettings [] []

-- ---- plans of finds

plan-of-name : (f : Side) (x : Text) (d : Dom) (rs : List Repr) (taken : List Text) (g : Side) (y : Text) (r : Repr) (e : Dom)
    (ns : List Named) →
    In (value_plan g y r e ns) (plans_of_name f x d rs taken) → (g ≡ f) × (y ≡ x) × (e ≡ d)
plan-of-name f x d [] taken g y r e ns i = absurd i
plan-of-name f x d (r' ∷ rs) taken g y r e ns (inl q) = (cc, cc, cc)
plan-of-name f x d (r' ∷ rs) taken g y r e ns (inr i) =
    plan-of-name f x d rs (keys (named_tables x (table_names r' d) taken) ++ taken) g y r e ns i

plan-of-stm : (s : Stm) (o : Options) (declared done : List Text) (y : Text) (r : Repr) (e : Dom) (ns : List Named) →
    In (value_plan finds_side y r e ns) (plans_of_stm s o declared done) → find y e ≡ s
plan-of-stm (given x d) o declared done y r e ns i = let h =
    plan-of-name givens_side x d (chosen_reprs o x d) (without x declared ++ done) finds_side y r e ns i in
    let z : finds_side ≡ givens_side = h.0 in cc
plan-of-stm (given_enum t) o declared done y r e ns (inl q) = cc
plan-of-stm (given_enum t) o declared done y r e ns (inr i) = absurd i
plan-of-stm (let_ex x d) o declared done y r e ns i = absurd i
plan-of-stm (let_dom x d) o declared done y r e ns i = absurd i
plan-of-stm (let_enum t d) o declared done y r e ns i = absurd i
plan-of-stm (let_unnamed t d) o declared done y r e ns i = absurd i
plan-of-stm (needs d) o declared done y r e ns i = absurd i
plan-of-stm (find x d) o declared done y r e ns i = let h =
    plan-of-name finds_side x d (chosen_reprs o x d) (without x declared ++ done) finds_side y r e ns i in ap (λ z. find z e) h.1
    ∙ ap (find x) h.2
plan-of-stm (such_that d) o declared done y r e ns i = absurd i
plan-of-stm (minimise d) o declared done y r e ns i = absurd i
plan-of-stm (maximise d) o declared done y r e ns i = absurd i

plan-from : (T : List Stm) (o : Options) (declared done : List Text) (y : Text) (r : Repr) (e : Dom) (ns : List Named) →
    In (value_plan finds_side y r e ns) (plans_from T o declared done) → In (find y e) T
plan-from [] o declared done y r e ns i = absurd i
plan-from (s ∷ T) o declared done y r e ns i =
    let ps = plans_of_stm s o declared done in
    go (in-either (value_plan finds_side y r e ns) ps (plans_from T o declared (keys (names_of_plans ps) ++ done)) i)
    (plan-from T o declared (keys (names_of_plans ps) ++ done) y r e ns)
  where
    go : In (value_plan finds_side y r e ns) (plans_of_stm s o declared done) ⊎ In (value_plan finds_side y r e ns)
        (plans_from T o declared (keys (names_of_plans (plans_of_stm s o declared done)) ++ done)) →
        (In (value_plan finds_side y r e ns) (plans_from T o declared
        (keys (names_of_plans (plans_of_stm s o declared done)) ++ done)) →
        In (find y e) T) → (find y e ≡ s) ⊎ In (find y e) T
    go (inl j) k = inl (plan-of-stm s o declared done y r e ns j)
    go (inr j) k = inr (k j)

-- A plan of a find is one of a declared find.
pub plan-is-found : (S : List Stm) (o : Options) (x : Text) (r : Repr) (d : Dom) (ns : List Named) →
    In (value_plan finds_side x r d ns) (plans S o) → In (find x d) (prepared S)
plan-is-found S o x r d ns i = plan-from (prepared S) o (all_declared S) _ x r d ns i

-- A declared find is one of the finds.
pub find-is-named : (T : List Stm) (x : Text) (d : Dom) → In (find x d) T → In x (finds T)
find-is-named [] x d i = absurd i
find-is-named (s ∷ T) x d (inl e) = in-left x (find_of s) (finds T) (subst (λ t. In x (find_of t)) e (inl refl))
find-is-named (s ∷ T) x d (inr i) = in-right x (find_of s) (finds T) (find-is-named T x d i)

-- A find that is declared once has one domain.
pub one-domain : (T : List Stm) → all_distinct (finds T) ≡ true → (x : Text) (d e : Dom) → In (find x d) T → In (find x e) T → d ≡ e
one-domain [] n x d e i j = absurd i
one-domain (s ∷ T) n x d e i j = go i j (one-domain T (halves (find_of s) (finds T) n).1 x d e)
  where
    clash : (d : Dom) → find x d ≡ s → In x (finds T) → ⊥
    clash d q k =
        let h : all_distinct (x ∷ finds T) ≡ true = ap (λ t. all_distinct (find_of t ++ finds T)) q ∙ n in
        let y : is_among (finds T) x ≡ false = not-true (is_among (finds T) x)
        (and-left (not (is_among (finds T) x)) (all_distinct (finds T)) h) in
        let z : true ≡ false = sym (in-among (finds T) x k) ∙ y in cc

    go : (find x d ≡ s) ⊎ In (find x d) T → (find x e ≡ s) ⊎ In (find x e) T → (In (find x d) T → In (find x e) T → d ≡ e) → d ≡ e
    go (inl q) (inl r) k = let z : find x d ≡ find x e = q ∙ sym r in cc
    go (inl q) (inr j) k = absurd (clash d q (find-is-named T x e j))
    go (inr i) (inl r) k = absurd (clash e r (find-is-named T x d i))
    go (inr i) (inr j) k = k i j

-- And the other way round.
pub name-is-find : (T : List Stm) (x : Text) → In x (finds T) → (d : Dom) × In (find x d) T
name-is-find [] x i = absurd i
name-is-find (s ∷ T) x i = go s (in-either x (find_of s) (finds T) i) (name-is-find T x)
  where
    go : (s : Stm) → In x (find_of s) ⊎ In x (finds T) → (In x (finds T) → (d : Dom) × In (find x d) T) →
        (d : Dom) × In (find x d) (s ∷ T)
    go s (inr j) k = let r = k j in (r.0, inr r.1)
    go (find y d) (inl (inl e)) k = (d, inl (ap (λ z. find z d) e))
    go (find y d) (inl (inr j)) k = absurd j
    go (given y d) (inl j) k = absurd j
    go (given_enum t) (inl j) k = absurd j
    go (let_ex y e) (inl j) k = absurd j
    go (let_dom y d) (inl j) k = absurd j
    go (let_enum t ns) (inl j) k = absurd j
    go (let_unnamed t e) (inl j) k = absurd j
    go (needs e) (inl j) k = absurd j
    go (such_that e) (inl j) k = absurd j
    go (minimise e) (inl j) k = absurd j
    go (maximise e) (inl j) k = absurd j

find-plans : (T : List Stm) (o : Options) (declared done : List Text) →
    Each (append_all (map domain_of_stm T)) (λ x. is_empty (chosen_reprs o x.0 x.1) ≡ false) → (x : Text) (d : Dom) →
    In (find x d) T →
    (r : Repr) × (ns : List Named) × In (value_plan finds_side x r d ns) (plans_from T o declared done)
find-plans [] o declared done h x d i = absurd i
find-plans (s ∷ T) o declared done h x d i = go s h i (λ h j. find-plans T o declared
    (keys (names_of_plans (plans_of_stm s o declared done)) ++ done) h x d j)
  where
    later : (s : Stm) → Each (append_all (map domain_of_stm (s ∷ T))) (λ x. is_empty (chosen_reprs o x.0 x.1) ≡ false) →
        Each (append_all (map domain_of_stm T)) (λ x. is_empty (chosen_reprs o x.0 x.1) ≡ false)
    later (given y e) h = h.1
    later (find y e) h = h.1
    later (given_enum t) h = h
    later (let_ex y e) h = h
    later (let_dom y e) h = h
    later (let_enum t ns) h = h
    later (let_unnamed t e) h = h
    later (needs e) h = h
    later (such_that e) h = h
    later (minimise e) h = h
    later (maximise e) h = h

    first : (rs : List Repr) (taken : List Text) → is_empty rs ≡ false →
        (r : Repr) × (ns : List Named) × In (value_plan finds_side x r d ns) (plans_of_name finds_side x d rs taken)
    first [] taken e = cc
    first (r ∷ rs) taken e = (r, named_tables x (table_names r d) taken, inl refl)

    mine : (s : Stm) → find x d ≡ s → Each (append_all (map domain_of_stm (s ∷ T))) (λ x. is_empty (chosen_reprs o x.0 x.1) ≡ false) →
        (r : Repr) × (ns : List Named) × In (value_plan finds_side x r d ns) (plans_of_stm s o declared done)
    mine s e h = subst (λ t. Each (append_all (map domain_of_stm (t ∷ T))) (λ x. is_empty (chosen_reprs o x.0 x.1) ≡ false) →
        (r : Repr) × (ns : List Named) × In (value_plan finds_side x r d ns) (plans_of_stm t o declared done)) e
        (λ h. first (chosen_reprs o x d) (without x declared ++ done) h.0) h

    go : (s : Stm) → Each (append_all (map domain_of_stm (s ∷ T))) (λ x. is_empty (chosen_reprs o x.0 x.1) ≡ false) →
        (find x d ≡ s) ⊎ In (find x d) T →
        (Each (append_all (map domain_of_stm T)) (λ x. is_empty (chosen_reprs o x.0 x.1) ≡ false) → In (find x d) T →
        (r : Repr) × (ns : List Named) × In (value_plan finds_side x r d ns)
        (plans_from T o declared (keys (names_of_plans (plans_of_stm s o declared done)) ++ done))) →
        (r : Repr) × (ns : List Named) × In (value_plan finds_side x r d ns)
        (plans_of_stm s o declared done ++ plans_from T o declared (keys (names_of_plans (plans_of_stm s o declared done)) ++ done))
    go s h (inl e) k = let m = mine s e h in (
      m.0,
      m.1,
      in-left (value_plan finds_side x m.0 d m.1) (plans_of_stm s o declared done) _
          m.2,
    )
    go s h (inr j) k = let m = k (later s h) j in (
      m.0,
      m.1,
      in-right (value_plan finds_side x m.0 d m.1) (plans_of_stm s o declared done) _
          m.2,
    )

-- Each declared find has a plan.
pub found-has-plan : (S : List Stm) (o : Options) → Each (kept_names S) (λ x. is_empty (chosen_reprs o x.0 x.1) ≡ false) →
    (x : Text) (d : Dom) → In (find x d) (prepared S) →
    (r : Repr) × (ns : List Named) × In (value_plan finds_side x r d ns) (plans S o)
found-has-plan S o h x d i = find-plans (prepared S) o (all_declared S) _ h x d i

-- ---- the env behind all statements

-- No statement brings tables or positions.
pub env-form : (T : List Stm) (p a : Assignment) (env : Env) →
    ((env_behind T p a env).positions ≡ env.positions) × ((env_behind T p a env).cells ≡ env.cells)
env-form [] p a env = (refl, refl)
env-form (s ∷ T) p a env = let h = env-form T p a (env_after s p a env) in (h.0 ∙ (one s).0, h.1 ∙ (one s).1)
  where
    one : (s : Stm) → ((env_after s p a env).positions ≡ env.positions) × ((env_after s p a env).cells ≡ env.cells)
    one (given x d) = (refl, refl)
    one (given_enum t) = (refl, refl)
    one (let_ex x e) = (refl, refl)
    one (let_dom x d) = (refl, refl)
    one (let_enum t ns) = (refl, refl)
    one (let_unnamed t e) = (refl, refl)
    one (needs e) = (refl, refl)
    one (find x d) = (refl, refl)
    one (such_that e) = (refl, refl)
    one (minimise e) = (refl, refl)
    one (maximise e) = (refl, refl)
