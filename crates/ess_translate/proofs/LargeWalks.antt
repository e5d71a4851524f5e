-- The walk over the statements goes by the envs of their places, where no two names of a side are one.
use Rattle.std.proofs.Common.{◌≡◌, refl, sym, ap, ◌∙◌, ℕ, suc, Bool, true, false, not, ◌||◌, List, [], ◌∷◌, ◌++◌, map, Option, Some, None, if◌then◌else◌}
use Rattle.std.specs.List.{list_any}
use Rattle.std.proofs.lemmas.List.{append_assoc, map-append}
use Rattle.std.proofs.lemmas.List.Folds.{list_any-append}
use Rattle.ess_semantics.specs.Lists.{and_then}
use Rattle.ess_semantics.specs.Values.{Text, Value}
use Rattle.ess_semantics.specs.Order.{same_text}
use Rattle.ess_semantics.specs.Names.{Names, look, keys, is_among}
use Rattle.ess_semantics.specs.Trees.{Ex, Dom, Stm, given, given_enum, let_ex, let_dom, let_enum, let_unnamed, needs, find, such_that, minimise, maximise}
use Rattle.ess_semantics.specs.Types.{type_of_dom}
use Rattle.ess_semantics.specs.Meaning.{Env, empty_env}
use Rattle.ess_semantics.specs.Literals.{literal_value}
use Rattle.ess_semantics.specs.Judgements.{fault}
use Rattle.ess_semantics.specs.Prepared.{prepared}
use Rattle.ess_semantics.specs.Assignments.{Assignment, nothing_given, value_of, env_after, with_name, Placed, placed_from, placed}
use Rattle.ess_semantics.specs.LargeSpecifications.{declares_large_number, asks_large_number, parameter_is_large, solution_is_large}
use Rattle.ess_semantics.specs.Plans.{Side, givens_side, finds_side}
use Rattle.ess_semantics.proofs.Tests.{and-left, and-right, not-true, or-left-no, or-yes}
use Rattle.ess_semantics.proofs.Texts.{same_text-equal, same_text-itself}
use Rattle.ess_translate_laws.specs.FileAssignments.{value_lettings, valued_name, value_in_file, values_here, values_from, assignment_from, parameter_in, solution_in}
use Rattle.ess_translate.specs.Walks.{env_behind_stm, declare_large_number}
use Rattle.ess_translate.proofs.NewNames.{names_here, are_fresh, fresh-prepared}

-- ---- the value of a name in what a file gives

-- What f makes of names, at one that has a letting, and at one that has none.
look-lettings : (g : Text → Option Value) (ls : Names Ex) (x : Text) → (look ls x ≡ None → g x ≡ None)
    → and_then (look (map (λ b. (b.0, g b.0)) ls) x) (λ o. o) ≡ g x
look-lettings g [] x h = sym (h refl)
look-lettings g (b ∷ ls) x h = go (same_text b.0 x) refl h (look-lettings g ls x)
  where
    go : (c : Bool) → same_text b.0 x ≡ c → ((if c then Some b.1 else look ls x) ≡ None → g x ≡ None)
        → ((look ls x ≡ None → g x ≡ None) → and_then (look (map (λ b. (b.0, g b.0)) ls) x) (λ o. o) ≡ g x)
        → and_then (if c then Some (g b.0) else look (map (λ b. (b.0, g b.0)) ls) x) (λ o. o) ≡ g x
    go true e k rest = ap g (same_text-equal b.0 x e)
    go false e k rest = rest k

-- The value of the first entry of a name, behind entries of other names.
look-behind : (us ws : Names (Option Value)) (x : Text) → is_among (keys us) x ≡ false → look (us ++ ws) x ≡ look ws x
look-behind [] ws x h = refl
look-behind (u ∷ us) ws x h = go (same_text u.0 x) h (look-behind us ws x)
  where
    go : (c : Bool) → c || is_among (keys us) x ≡ false → (is_among (keys us) x ≡ false → look (us ++ ws) x ≡ look ws x)
        → (if c then Some u.1 else look (us ++ ws) x) ≡ look ws x
    go true e rest = cc
    go false e rest = rest e

-- The entry of a name that is the first one.
look-first : (x : Text) (o : Option Value) (ws : Names (Option Value)) → look ((x, o) ∷ ws) x ≡ Some o
look-first x o ws = ap (λ c. if c then Some o else look ws x) (same_text-itself x)

-- A name without a letting has no value.
value_in_file-none : (F : List Stm) (env : Env) (x : Text) (d : Dom) → look (value_lettings F) x ≡ None → value_in_file F env (x, d) ≡ None
value_in_file-none F env x d h = ap (λ o. and_then o (λ e. literal_value e (type_of_dom d) env)) h

-- The value that a whole file gives to a name of a statement is the one that was found at the statement.
whole-here : (F : List Stm) (us ws : Names (Option Value)) (env : Env) (x : Text) (d : Dom) → is_among (keys us) x ≡ false
    → value_of (assignment_from F (us ++ (x, value_in_file F env (x, d)) ∷ ws)) x ≡ value_in_file F env (x, d)
whole-here F us ws env x d h =
    let v : Option Value = value_in_file F env (x, d) in
    let at : look (us ++ (x, v) ∷ ws) x ≡ Some v = look-behind us ((x, v) ∷ ws) x h ∙ look-first x v ws in
    look-lettings (λ y. and_then (look (us ++ (x, v) ∷ ws) y) (λ o. o)) (value_lettings F) x
    (λ k. ap (λ o. and_then o (λ o. o)) at ∙ value_in_file-none F env x d k)
    ∙ ap (λ o. and_then o (λ o. o)) at

-- ---- one statement

-- The parameter of the places, where the file is one of a side; a is what the file gives.
abbrev pub param_of : Side → Assignment → Assignment → Assignment
param_of givens_side a p = a
param_of finds_side a p = p

-- The same of the solution.
abbrev pub sol_of : Side → Assignment → Assignment
sol_of givens_side a = nothing_given
sol_of finds_side a = a

-- Names of a statement that aren't among those before.
abbrev IsNew : List Text → List Text → Type 0
IsNew done ns = not (list_any (is_among done) ns) ≡ true

one-new : (done : List Text) (x : Text) → IsNew done (x ∷ []) → is_among done x ≡ false
one-new done x h = or-left-no (is_among done x) false (not-true (is_among done x || false) h)

-- The only value at a statement is that of its name.
own-value : (x : Text) (v : Option Value) → and_then (look ((x, v) ∷ []) x) (λ o. o) ≡ v
own-value x v = ap (λ o. and_then o (λ o. o)) (look-first x v [])

-- The env behind a statement is the one that the whole assignment makes.
step-env : (f : Side) (F : List Stm) (p : Assignment) (us ws : Names (Option Value)) (s : Stm) (env : Env)
    → IsNew (keys us) (names_here f s)
    → let a : Assignment = assignment_from F (us ++ (values_here f F s env ++ ws)) in
    env_behind_stm f F p s env ≡ env_after s (param_of f a p) (sol_of f a) env
step-env givens_side F p us ws (given x d) env h =
    ap (λ o. with_name x o env) (own-value x (value_in_file F env (x, d)) ∙ sym (whole-here F us ws env x d (one-new (keys us) x h)))
step-env givens_side F p us ws (given_enum t) env h = refl
step-env givens_side F p us ws (let_ex x e) env h = refl
step-env givens_side F p us ws (let_dom x d) env h = refl
step-env givens_side F p us ws (let_enum t ns) env h = refl
step-env givens_side F p us ws (let_unnamed t e) env h = refl
step-env givens_side F p us ws (needs e) env h = refl
step-env givens_side F p us ws (find x d) env h = refl
step-env givens_side F p us ws (such_that e) env h = refl
step-env givens_side F p us ws (minimise e) env h = refl
step-env givens_side F p us ws (maximise e) env h = refl
step-env finds_side F p us ws (given x d) env h = refl
step-env finds_side F p us ws (given_enum t) env h = refl
step-env finds_side F p us ws (let_ex x e) env h = refl
step-env finds_side F p us ws (let_dom x d) env h = refl
step-env finds_side F p us ws (let_enum t ns) env h = refl
step-env finds_side F p us ws (let_unnamed t e) env h = refl
step-env finds_side F p us ws (needs e) env h = refl
step-env finds_side F p us ws (find x d) env h =
    ap (λ o. with_name x o env) (own-value x (value_in_file F env (x, d)) ∙ sym (whole-here F us ws env x d (one-new (keys us) x h)))
step-env finds_side F p us ws (such_that e) env h = refl
step-env finds_side F p us ws (minimise e) env h = refl
step-env finds_side F p us ws (maximise e) env h = refl

-- ---- all statements

-- The names of what a statement gives.
keys-here : (f : Side) (F : List Stm) (s : Stm) (env : Env) → keys (values_here f F s env) ≡ names_here f s
keys-here f F s env = go (valued_name f s)
  where
    go : (bs : Names Dom) → keys (map (λ b. (b.0, value_in_file F env b)) bs) ≡ keys bs
    go [] = refl
    go (b ∷ bs) = ap (λ ns. b.0 ∷ ns) (go bs)

-- Lists with the same names have the same names of a list.
among-each : (xs ys : List Text) → ((x : Text) → is_among xs x ≡ is_among ys x) → (ms : List Text)
    → list_any (is_among xs) ms ≡ list_any (is_among ys) ms
among-each xs ys h [] = refl
among-each xs ys h (m ∷ ms) = ap (λ b. b || list_any (is_among xs) ms) (h m) ∙ ap (λ b. is_among ys m || b) (among-each xs ys h ms)

-- Two lists in either order have the same names.
among-turned : (ns ms : List Text) (x : Text) → is_among (ms ++ ns) x ≡ is_among (ns ++ ms) x
among-turned ns ms x =
    list_any-append (λ n. same_text n x) ms ns ∙ turned (is_among ms x) (is_among ns x) ∙ sym (list_any-append (λ n. same_text n x) ns ms)
  where
    turned : (b c : Bool) → b || c ≡ c || b
    turned true c = sym (or-yes c)
    turned false true = refl
    turned false false = refl

-- The names passed, with those of a statement.
passed-next : (us vs : Names (Option Value)) (done ns : List Text) → ((x : Text) → is_among (keys us) x ≡ is_among done x) → keys vs ≡ ns
    → (x : Text) → is_among (keys (us ++ vs)) x ≡ is_among (ns ++ done) x
passed-next us vs done ns h e x =
    ap (λ ks. is_among ks x) (map-append (λ b. b.0) us vs)
    ∙ list_any-append (λ n. same_text n x) (keys us) (keys vs)
    ∙ ap (λ b. b || is_among (keys vs) x) (h x)
    ∙ ap (λ ks. is_among done x || is_among ks x) e
    ∙ sym (list_any-append (λ n. same_text n x) done ns)
    ∙ among-turned ns done x

-- Whether a statement in its place declares a number outside 64 bits.
abbrev pub is_large_place : Placed → Bool
is_large_place l = declares_large_number l.stm l.env

-- The walk finds a number outside 64 bits where a statement in its place declares one.
pub walk-places : (f : Side) (F : List Stm) (p a : Assignment) (us : Names (Option Value)) (ss : List Stm) (env : Env) (k : ℕ)
    (done : List Text)
    → ((x : Text) → is_among (keys us) x ≡ is_among done x) → are_fresh done (map (names_here f) ss) ≡ true
    → a ≡ assignment_from F (us ++ values_from f F p ss env)
    → declare_large_number f F p ss env ≡ list_any is_large_place (placed_from k ss (param_of f a p) (sol_of f a) env)
walk-places f F p a us [] env k done h fresh e = refl
walk-places f F p a us (s ∷ ss) env k done h fresh e =
    let vs : Names (Option Value) = values_here f F s env in
    let behind : Env = env_behind_stm f F p s env in
    let ws : Names (Option Value) = values_from f F p ss behind in
    let new : IsNew done (names_here f s) = and-left (not (list_any (is_among done) (names_here f s)))
    (are_fresh (names_here f s ++ done) (map (names_here f) ss)) fresh in
    let here : IsNew (keys us) (names_here f s) = ap not (among-each (keys us) done h (names_here f s)) ∙ new in
    let step : behind ≡ env_after s (param_of f a p) (sol_of f a) env =
    step-env f F p us ws s env here ∙ ap (λ b. env_after s (param_of f b p) (sol_of f b) env) (sym e) in
    let rest : declare_large_number f F p ss behind
    ≡ list_any is_large_place (placed_from (suc k) ss (param_of f a p) (sol_of f a) behind) =
    walk-places f F p a (us ++ vs) ss behind (suc k) (names_here f s ++ done)
    (passed-next us vs done (names_here f s) h (keys-here f F s env))
    (and-right (not (list_any (is_among done) (names_here f s))) (are_fresh (names_here f s ++ done) (map (names_here f) ss)) fresh)
    (e ∙ ap (assignment_from F) (sym (append_assoc us vs ws))) in
    ap (λ b. declares_large_number s env || b) (rest
    ∙ ap (λ v. list_any is_large_place (placed_from (suc k) ss (param_of f a p) (sol_of f a) v)) step)

-- ---- specifications

-- Where the walk over a parameter finds a number outside 64 bits, the parameter has one.
pub large_parameter : (S F : List Stm) → fault S ≡ None → declare_large_number givens_side F nothing_given (prepared S) empty_env ≡ true
    → parameter_is_large S (parameter_in S F) ≡ true
large_parameter S F typed h =
    sym (walk-places givens_side F nothing_given (parameter_in S F) [] (prepared S) empty_env 1 [] (λ x. refl)
    (fresh-prepared givens_side S typed) refl) ∙ h

-- What holds of one test in each place holds of either.
either-place : (f g : Placed → Bool) (ls : List Placed) → list_any f ls ≡ true → list_any (λ l. f l || g l) ls ≡ true
either-place f g [] h = cc
either-place f g (l ∷ ls) h = go (f l) h (either-place f g ls)
  where
    go : (b : Bool) → b || list_any f ls ≡ true → (list_any f ls ≡ true → list_any (λ l. f l || g l) ls ≡ true)
        → (b || g l) || list_any (λ l. f l || g l) ls ≡ true
    go true h rest = refl
    go false h rest = ap (λ b. g l || b) (rest h) ∙ or-yes (g l)

-- The same of a solution.
pub large_solution : (S F : List Stm) (p : Assignment) → fault S ≡ None → declare_large_number finds_side F p (prepared S) empty_env ≡ true
    → solution_is_large S p (solution_in S p F) ≡ true
large_solution S F p typed h =
    either-place is_large_place (λ l. asks_large_number l.stm l.env) (placed S p (solution_in S p F))
    (sym (walk-places finds_side F p (solution_in S p F) [] (prepared S) empty_env 1 [] (λ x. refl)
    (fresh-prepared finds_side S typed) refl) ∙ h)
