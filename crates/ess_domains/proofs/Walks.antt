-- Walks over statements: what is left behind one statement more.
use Rattle.std.proofs.Common.{◌≡◌, refl, ap, sym, ◌∙◌, ℕ, zero, suc, ◌+◌, ◌<◌, ◌≤◌, Bool, true, false, ◌||◌, not, if◌then◌else◌, List, [], ◌∷◌, ◌++◌, map, drop, get_or, length, Option, Some, None, option_map, arith}
use Rattle.std.specs.Prelude.{is_some}
use Rattle.std.proofs.lemmas.List.{drop_all, append_assoc}
use Rattle.ess_semantics.specs.Lists.{or_else, when}
use Rattle.ess_semantics.specs.Names.{Names}
use Rattle.ess_semantics.specs.Meaning.{Env}
use Rattle.ess_semantics.specs.Assignments.{Assignment, Placed, placed_from, env_after, unnamed_sizes, unnamed_size_at}
use Rattle.ess_semantics.specs.Parameters.{ParamVerdict, fits_param, statement_verdict, first_verdict}
use Rattle.ess_semantics.specs.Solutions.{not_in_domain, first_failing, find_is_member, constraint_holds, objective_has_value, name_of_find}
use Rattle.ess_semantics.specs.LargeSpecifications.{declares_large_number, asks_large_number}
use Rattle.ess_core.specs.declared.statements.Stm.{Stm}
use Rattle.ess_core.specs.StatementViews.{pure_stm}
use Rattle.ess_domains.specs.Prepared.{values_verdict, verdict_of_kinds, has_large, has_large_declared}

-- The statements from an index on, in their places.
abbrev pub left : ℕ → List Stm → Assignment → Assignment → Env → List Placed
left i stms p a e = placed_from (suc i) (map pure_stm (drop i stms)) p a e

-- A statement in its place.
abbrev pub here : ℕ → Stm → Env → Placed
here i s e = record { stm = pure_stm s; number = suc i; env = e }

drop_at : (xs : List Stm) (i : ℕ) (x : Stm) → i < length xs → x ≡ get_or xs i x → drop i xs ≡ x ∷ drop (suc i) xs
drop_at [] i x l e = absurd (omega arith)
drop_at (y ∷ xs) zero x l e = ap (λ z. z ∷ xs) (sym e)
drop_at (y ∷ xs) (suc i) x l e = drop_at xs i x (omega arith) e

add-one : (n : ℕ) → n + 1 ≡ suc n
add-one n = omega arith

-- The next statement in its place, and those behind it.
pub next_place : (stms : List Stm) (i : ℕ) (s : Stm) (p a : Assignment) (e f : Env) → i < length stms → s ≡ get_or stms i s → f ≡ env_after (pure_stm s) p a e
    → left i stms p a e ≡ here i s e ∷ left (i + 1) stms p a f
next_place stms i s p a e f l g h =
    ap (λ xs. placed_from (suc i) (map pure_stm xs) p a e) (drop_at stms i s l g)
    ∙ ap (λ n. here i s e ∷ placed_from (suc n) (map pure_stm (drop n stms)) p a (env_after (pure_stm s) p a e)) (sym (add-one i))
    ∙ ap (λ z. here i s e ∷ left (i + 1) stms p a z) (sym h)

-- Behind the last one nothing is left.
pub no_place : (stms : List Stm) (i : ℕ) (p a : Assignment) (e : Env) → length stms ≤ i → left i stms p a e ≡ []
no_place stms i p a e l = ap (λ xs. placed_from (suc i) (map pure_stm xs) p a e) (drop_all i stms l)

-- ---- numbers outside 64 bits

or-yes : (b : Bool) → b || true ≡ true
or-yes true = refl
or-yes false = refl

-- Where the next statement declares one, some statement that is left does.
pub large_next : (stms : List Stm) (i : ℕ) (s : Stm) (p a : Assignment) (e : Env) → i < length stms → s ≡ get_or stms i s
    → declares_large_number (pure_stm s) e ≡ true → has_large_declared (left i stms p a e) ≡ true
large_next stms i s p a e l g h =
    ap has_large_declared (next_place stms i s p a e (env_after (pure_stm s) p a e) l g refl)
    ∙ ap (λ b. b || has_large_declared (left (i + 1) stms p a (env_after (pure_stm s) p a e))) h

-- Where a later one does.
pub large_later : (stms : List Stm) (i : ℕ) (s : Stm) (p a : Assignment) (e f : Env) → i < length stms → s ≡ get_or stms i s → f ≡ env_after (pure_stm s) p a e
    → has_large_declared (left (i + 1) stms p a f) ≡ true → has_large_declared (left i stms p a e) ≡ true
large_later stms i s p a e f l g k h =
    ap has_large_declared (next_place stms i s p a e f l g k) ∙ ap (λ b. declares_large_number (pure_stm s) e || b) h ∙ or-yes (declares_large_number (pure_stm s) e)

-- Where the next statement declares or asks one.
pub asked_next : (stms : List Stm) (i : ℕ) (s : Stm) (p a : Assignment) (e : Env) → i < length stms → s ≡ get_or stms i s
    → declares_large_number (pure_stm s) e || asks_large_number (pure_stm s) e ≡ true → has_large (left i stms p a e) ≡ true
asked_next stms i s p a e l g h =
    ap has_large (next_place stms i s p a e (env_after (pure_stm s) p a e) l g refl)
    ∙ ap (λ b. b || has_large (left (i + 1) stms p a (env_after (pure_stm s) p a e))) h

-- Where a later one does.
pub asked_later : (stms : List Stm) (i : ℕ) (s : Stm) (p a : Assignment) (e f : Env) → i < length stms → s ≡ get_or stms i s → f ≡ env_after (pure_stm s) p a e
    → has_large (left (i + 1) stms p a f) ≡ true → has_large (left i stms p a e) ≡ true
asked_later stms i s p a e f l g k h =
    ap has_large (next_place stms i s p a e f l g k)
    ∙ ap (λ b. (declares_large_number (pure_stm s) e || asks_large_number (pure_stm s) e) || b) h
    ∙ or-yes (declares_large_number (pure_stm s) e || asks_large_number (pure_stm s) e)

-- What is declared is asked.
pub declared_large : (ls : List Placed) → has_large_declared ls ≡ true → has_large ls ≡ true
declared_large [] h = h
declared_large (l ∷ ls) h = go (declares_large_number l.stm l.env) (asks_large_number l.stm l.env) (has_large_declared ls) (has_large ls) (declared_large ls) h
  where
    go : (d q m n : Bool) → (m ≡ true → n ≡ true) → d || m ≡ true → (d || q) || n ≡ true
    go true q m n k h = refl
    go false true m n k h = refl
    go false false m n k h = k h

-- ---- the sizes of unnamed types

-- One statement more.
pub sizes_more : (stms : List Stm) (i : ℕ) (s : Stm) (p a : Assignment) (e f : Env) (old new all : Names ℕ) → i < length stms → s ≡ get_or stms i s
    → f ≡ env_after (pure_stm s) p a e → new ≡ old ++ unnamed_size_at (pure_stm s) e
    → old ++ unnamed_sizes (left i stms p a e) ≡ all → new ++ unnamed_sizes (left (i + 1) stms p a f) ≡ all
sizes_more stms i s p a e f old new all l g k n h =
    ap (λ us. us ++ unnamed_sizes (left (i + 1) stms p a f)) n
    ∙ append_assoc old (unnamed_size_at (pure_stm s) e) (unnamed_sizes (left (i + 1) stms p a f))
    ∙ ap (λ ls. old ++ unnamed_sizes ls) (sym (next_place stms i s p a e f l g k)) ∙ h

-- ---- the verdict on a parameter

-- The next statement fails.
pub failing_next : (stms : List Stm) (i : ℕ) (s : Stm) (p a : Assignment) (e : Env) (v : ParamVerdict) → i < length stms → s ≡ get_or stms i s
    → Some v ≡ statement_verdict p (here i s e) → first_verdict p (left i stms p a e) ≡ v
failing_next stms i s p a e v l g h =
    ap (first_verdict p) (next_place stms i s p a e (env_after (pure_stm s) p a e) l g refl)
    ∙ ap (λ o. elim o [ Some v ↦ v | None ↦ first_verdict p (left (i + 1) stms p a (env_after (pure_stm s) p a e)) ]) (sym h)

-- The next statement fits.
pub fitting_next : (stms : List Stm) (i : ℕ) (s : Stm) (p a : Assignment) (e f : Env) → i < length stms → s ≡ get_or stms i s → f ≡ env_after (pure_stm s) p a e
    → None ≡ statement_verdict p (here i s e) → first_verdict p (left i stms p a e) ≡ first_verdict p (left (i + 1) stms p a f)
fitting_next stms i s p a e f l g k h =
    ap (first_verdict p) (next_place stms i s p a e f l g k)
    ∙ ap (λ o. elim o [ Some v ↦ v | None ↦ first_verdict p (left (i + 1) stms p a f) ]) (sym h)

-- All statements fit.
pub fitting_all : (stms : List Stm) (i : ℕ) (p a : Assignment) (e : Env) → length stms ≤ i → first_verdict p (left i stms p a e) ≡ fits_param
fitting_all stms i p a e l = ap (first_verdict p) (no_place stms i p a e l)

-- ---- the verdict on a solution

-- The find of a statement is outside its domain.
outside_first : (c : Option ℕ) (v : Bool) (a : Assignment) (l : Placed) (ls : List Placed) → find_is_member a l.stm l.env ≡ false
    → values_verdict c v a (l ∷ ls) ≡ not_in_domain (name_of_find l.stm)
outside_first c v a l ls h =
    ap (λ b. verdict_of_kinds (if b then first_failing (find_is_member a) ls else Some l)
    (or_else c (option_map (λ l. l.number) (first_failing constraint_holds (l ∷ ls)))) (v || is_some (first_failing objective_has_value (l ∷ ls)))) h

kept_kinds : (m : Option Placed) (c : Option ℕ) (b v w : Bool) (o q : Option Placed) (l : Placed)
    → verdict_of_kinds m (or_else c (option_map (λ l. l.number) (if b then o else Some l))) (v || is_some (if w then q else Some l))
    ≡ verdict_of_kinds m (or_else (or_else c (when (not b) l.number)) (option_map (λ l. l.number) o)) ((v || not w) || is_some q)
kept_kinds (Some m) c b v w o q l = refl
kept_kinds None (Some k) b v w o q l = refl
kept_kinds None None false v w o q l = refl
kept_kinds None None true v w (Some k) q l = refl
kept_kinds None None true true w None q l = refl
kept_kinds None None true false true None q l = refl
kept_kinds None None true false false None q l = refl

-- It is a member: what else the statement fails is kept.
kept_first : (c : Option ℕ) (v : Bool) (a : Assignment) (l : Placed) (ls : List Placed) → find_is_member a l.stm l.env ≡ true
    → values_verdict c v a (l ∷ ls) ≡ values_verdict (or_else c (when (not (constraint_holds l.stm l.env)) l.number)) (v || not (objective_has_value l.stm l.env)) a ls
kept_first c v a l ls h =
    ap (λ b. verdict_of_kinds (if b then first_failing (find_is_member a) ls else Some l)
    (or_else c (option_map (λ l. l.number) (first_failing constraint_holds (l ∷ ls)))) (v || is_some (first_failing objective_has_value (l ∷ ls)))) h
    ∙ kept_kinds (first_failing (find_is_member a) ls) c (constraint_holds l.stm l.env) v (objective_has_value l.stm l.env) (first_failing constraint_holds ls)
    (first_failing objective_has_value ls) l

-- The next statement's find is outside its domain.
pub outside_next : (c : Option ℕ) (v : Bool) (stms : List Stm) (i : ℕ) (s : Stm) (p a : Assignment) (e : Env) → i < length stms → s ≡ get_or stms i s
    → find_is_member a (pure_stm s) e ≡ false → values_verdict c v a (left i stms p a e) ≡ not_in_domain (name_of_find (pure_stm s))
outside_next c v stms i s p a e l g h =
    ap (values_verdict c v a) (next_place stms i s p a e (env_after (pure_stm s) p a e) l g refl)
    ∙ outside_first c v a (here i s e) (left (i + 1) stms p a (env_after (pure_stm s) p a e)) h

-- It is a member.
pub kept_next : (c d : Option ℕ) (v w : Bool) (stms : List Stm) (i : ℕ) (s : Stm) (p a : Assignment) (e f : Env) → i < length stms → s ≡ get_or stms i s
    → f ≡ env_after (pure_stm s) p a e → find_is_member a (pure_stm s) e ≡ true
    → d ≡ or_else c (when (not (constraint_holds (pure_stm s) e)) (i + 1)) → w ≡ v || not (objective_has_value (pure_stm s) e)
    → values_verdict c v a (left i stms p a e) ≡ values_verdict d w a (left (i + 1) stms p a f)
kept_next c d v w stms i s p a e f l g k h m n =
    ap (values_verdict c v a) (next_place stms i s p a e f l g k)
    ∙ kept_first c v a (here i s e) (left (i + 1) stms p a f) h
    ∙ ap (λ z. values_verdict (or_else c (when (not (constraint_holds (pure_stm s) e)) z)) (v || not (objective_has_value (pure_stm s) e)) a (left (i + 1) stms p a f)) (sym (add-one i))
    ∙ ap (λ x. values_verdict x (v || not (objective_has_value (pure_stm s) e)) a (left (i + 1) stms p a f)) (sym m)
    ∙ ap (λ x. values_verdict d x a (left (i + 1) stms p a f)) (sym n)

-- No statement is left.
pub kept_all : (c : Option ℕ) (v : Bool) (stms : List Stm) (i : ℕ) (p a b : Assignment) (e : Env) → length stms ≤ i
    → values_verdict c v a (left i stms p a e) ≡ values_verdict c v b []
kept_all c v stms i p a b e l = ap (values_verdict c v a) (no_place stms i p a e l)

-- The walk that gathers the sizes of unnamed types.
pub ruleset sizes_walk = (sizes_more, large_next, large_later, no_place)

-- The walk that looks for the first statement that a parameter fails.
pub ruleset parameter_walk = (failing_next, fitting_next, fitting_all, large_next, large_later)

-- The walk that judges a solution.
pub ruleset solution_walk = (asked_next, asked_later, outside_next, kept_next, kept_all)
