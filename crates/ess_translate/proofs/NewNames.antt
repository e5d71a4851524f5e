-- In a specification that is well typed no two givens have one name, and no two finds.
use Rattle.std.proofs.Common.{◌≡◌, refl, sym, ap, ◌∙◌, ℕ, suc, Bool, true, false, not, ◌&&◌, ◌||◌, List, [], ◌∷◌, ◌++◌, map, Option, Some, None, if◌then◌else◌, ◌⊎◌, inl, inr}
use Rattle.std.specs.List.{list_any}
use Rattle.std.proofs.lemmas.List.Folds.{list_any-append}
use Rattle.ess_semantics.specs.Values.{Text}
use Rattle.ess_semantics.specs.Order.{same_text}
use Rattle.ess_semantics.specs.Names.{Names, keys, is_among, all_distinct}
use Rattle.ess_semantics.specs.Trees.{Stm, given, given_enum, let_ex, let_dom, let_enum, let_unnamed, needs, find, such_that, minimise, maximise}
use Rattle.ess_semantics.specs.Types.{Ty, named_ty}
use Rattle.ess_semantics.specs.Lettings.{Lettings, no_lettings, put_stm, put_all, lettings_after, types_after}
use Rattle.ess_semantics.specs.Scopes.{Scope, empty_scope, names_in_scope}
use Rattle.ess_semantics.specs.Judgements.{Judgement, unknown_name, double_name, ill_typed, not_finite, not_enumerable, open_given, judgements, first_failed, put_in_scope, scope_after, declares, names_are_known, names_are_new, no_value_name, is_objective, first_fault, fault}
use Rattle.ess_semantics.specs.Prepared.{resolve_stm, resolve_all, prepared}
use Rattle.ess_semantics.specs.Plans.{Side, givens_side, finds_side}
use Rattle.ess_semantics.proofs.Tests.{and-both, not-true, or-left-no, or-yes}
use Rattle.ess_translate_laws.specs.FileAssignments.{valued_name}

-- The names of a side in a statement.
abbrev pub names_here : Side → Stm → List Text
names_here f s = keys (valued_name f s)

-- Whether no list has a name that stands among these, or in a list before.
abbrev pub are_fresh : List Text → List (List Text) → Bool
are_fresh done [] = true
are_fresh done (ns ∷ nss) = not (list_any (is_among done) ns) && are_fresh (ns ++ done) nss

-- ---- the names stay where lettings are put in

-- Lettings put in, and resolving, leave a statement's names.
pub names_here-prepared : (f : Side) (s : Stm) (l : Lettings) (g h : Names Ty)
    → names_here f (resolve_stm (put_stm s l g) h) ≡ names_here f s
names_here-prepared givens_side (given x d) l g h = refl
names_here-prepared givens_side (given_enum t) l g h = refl
names_here-prepared givens_side (let_ex x e) l g h = refl
names_here-prepared givens_side (let_dom x d) l g h = refl
names_here-prepared givens_side (let_enum t ns) l g h = refl
names_here-prepared givens_side (let_unnamed t e) l g h = refl
names_here-prepared givens_side (needs e) l g h = refl
names_here-prepared givens_side (find x d) l g h = refl
names_here-prepared givens_side (such_that e) l g h = refl
names_here-prepared givens_side (minimise e) l g h = refl
names_here-prepared givens_side (maximise e) l g h = refl
names_here-prepared finds_side (given x d) l g h = refl
names_here-prepared finds_side (given_enum t) l g h = refl
names_here-prepared finds_side (let_ex x e) l g h = refl
names_here-prepared finds_side (let_dom x d) l g h = refl
names_here-prepared finds_side (let_enum t ns) l g h = refl
names_here-prepared finds_side (let_unnamed t e) l g h = refl
names_here-prepared finds_side (needs e) l g h = refl
names_here-prepared finds_side (find x d) l g h = refl
names_here-prepared finds_side (such_that e) l g h = refl
names_here-prepared finds_side (minimise e) l g h = refl
names_here-prepared finds_side (maximise e) l g h = refl

-- So they leave those of all statements.
pub names-prepared : (f : Side) (ss : List Stm) (l : Lettings) (g h : Names Ty)
    → map (names_here f) (resolve_all (put_all ss l g) h) ≡ map (names_here f) ss
names-prepared f [] l g h = refl
names-prepared f (s ∷ ss) l g h =
    ap (λ ns. ns ∷ map (names_here f) (resolve_all (put_all ss (lettings_after (put_stm s l g) l) (types_after (put_stm s l g) g)) (types_after (put_stm s l g) h))) (names_here-prepared f s l g h)
    ∙ ap (λ nss. names_here f s ∷ nss) (names-prepared f ss (lettings_after (put_stm s l g) l) (types_after (put_stm s l g) g) (types_after (put_stm s l g) h))

-- ---- names among others

-- Names that stand among a list stand among the list behind others.
pub is_among-behind : (ns ms : List Text) (x : Text) → is_among ms x ≡ true → is_among (ns ++ ms) x ≡ true
is_among-behind ns ms x h =
    list_any-append (λ n. same_text n x) ns ms ∙ ap (λ b. is_among ns x || b) h ∙ or-yes (is_among ns x)

-- Names that stand among a list stand among the list before others.
pub is_among-before : (ns ms : List Text) (x : Text) → is_among ns x ≡ true → is_among (ns ++ ms) x ≡ true
is_among-before ns ms x h = list_any-append (λ n. same_text n x) ns ms ∙ ap (λ b. b || is_among ms x) h

-- The names of a type's values.
enum_keys : (ns : List Text) (t : Ty) (g : Names Ty) (x : Text) → is_among (keys g) x ≡ true
    → is_among (keys (map (λ n. (n, t)) ns ++ g)) x ≡ true
enum_keys [] t g x h = h
enum_keys (n ∷ ns) t g x h = ap (λ b. same_text n x || b) (enum_keys ns t g x h) ∙ or-yes (same_text n x)

-- A name that has a type has one behind a statement.
pub types_after-keep : (s : Stm) (g : Names Ty) (x : Text) → is_among (keys g) x ≡ true → is_among (keys (types_after s g)) x ≡ true
types_after-keep (given y d) g x h = ap (λ b. same_text y x || b) h ∙ or-yes (same_text y x)
types_after-keep (given_enum t) g x h = h
types_after-keep (let_ex y e) g x h = ap (λ b. same_text y x || b) h ∙ or-yes (same_text y x)
types_after-keep (let_dom y d) g x h = h
types_after-keep (let_enum t ns) g x h = enum_keys ns (named_ty t) g x h
types_after-keep (let_unnamed t e) g x h = h
types_after-keep (needs e) g x h = h
types_after-keep (find y d) g x h = ap (λ b. same_text y x || b) h ∙ or-yes (same_text y x)
types_after-keep (such_that e) g x h = h
types_after-keep (minimise e) g x h = h
types_after-keep (maximise e) g x h = h

-- ---- a well typed statement

-- A test that must hold, and what follows it.
unless : {A : Type 0} (b : Bool) (o : Option A) (a : A) → (if b then o else Some a) ≡ None → (b ≡ true) × (o ≡ None)
unless true o a h = (refl, h)
unless false o a h = cc

-- A statement that fails no judgement declares new names alone.
pub met-new : (w t : Stm) (s : Scope) → first_failed judgements w t s ≡ None → names_are_new w s ≡ true
met-new w t s h =
    let rest : _ = unless (names_are_known t s)
    (first_failed (double_name ∷ ill_typed ∷ not_finite ∷ not_enumerable ∷ open_given ∷ []) w t s) unknown_name h in
    (unless (names_are_new w s) (first_failed (ill_typed ∷ not_finite ∷ not_enumerable ∷ open_given ∷ []) w t s) double_name rest.1).0

-- None of its names is in scope.
pub new-out_of_scope : (w : Stm) (s : Scope) → names_are_new w s ≡ true → list_any (is_among (names_in_scope s)) (declares w) ≡ false
new-out_of_scope w s h = not-true (list_any (is_among (names_in_scope s)) (declares w))
    (part (all_distinct (declares w)) (not (list_any (is_among (names_in_scope s)) (declares w))) (no_value_name w s)
    (not (is_objective w && s.objective)) _ h)
  where
    part : (a b c d e : Bool) → a && b && c && d && e ≡ true → b ≡ true
    part true true c d e h = refl
    part true false c d e h = cc
    part false b c d e h = cc

-- ---- all statements

-- The names passed have types.
abbrev pub Passed : List Text → Names Ty → Type 0
Passed done g = (x : Text) → is_among done x ≡ true → is_among (keys g) x ≡ true

-- A name that isn't in scope isn't among those passed.
not_passed : (done : List Text) (s : Scope) (x : Text) → Passed done s.tys → is_among (names_in_scope s) x || false ≡ false
    → is_among done x || false ≡ false
not_passed done s x p h = go (is_among done x) refl
  where
    go : (b : Bool) → is_among done x ≡ b → b || false ≡ false
    go false e = refl
    go true e = absurd (no (is_among-front x (p x e)) (or-left-no (is_among (names_in_scope s) x) false h))
      where
        is_among-front : (x : Text) → is_among (keys s.tys) x ≡ true → is_among (names_in_scope s) x ≡ true
        is_among-front x h =
            is_among-before (keys s.tys ++ s.enums ++ s.unnamed) (keys s.lets.doms) x
            (is_among-before (keys s.tys ++ s.enums) s.unnamed x (is_among-before (keys s.tys) s.enums x h))

        no : {b : Bool} → b ≡ true → b ≡ false → ⊥
        no h i = cc

-- What a side's names in a statement are: none, or the one that the statement declares, which then has a type.
abbrev NewName : Side → Stm → Type 0
NewName f w =
    (x : Text) × (names_here f w ≡ x ∷ []) × (declares w ≡ x ∷ []) ×
    ((l : Lettings) (g : Names Ty) (y : Text) → is_among (keys (types_after (put_stm w l g) g)) y ≡ (same_text x y || is_among (keys g) y))

names-view : (f : Side) (w : Stm) → (names_here f w ≡ []) ⊎ NewName f w
names-view givens_side (given x d) = inr (x, refl, refl, λ l g y. refl)
names-view givens_side (given_enum t) = inl refl
names-view givens_side (let_ex x e) = inl refl
names-view givens_side (let_dom x d) = inl refl
names-view givens_side (let_enum t ns) = inl refl
names-view givens_side (let_unnamed t e) = inl refl
names-view givens_side (needs e) = inl refl
names-view givens_side (find x d) = inl refl
names-view givens_side (such_that e) = inl refl
names-view givens_side (minimise e) = inl refl
names-view givens_side (maximise e) = inl refl
names-view finds_side (given x d) = inl refl
names-view finds_side (given_enum t) = inl refl
names-view finds_side (let_ex x e) = inl refl
names-view finds_side (let_dom x d) = inl refl
names-view finds_side (let_enum t ns) = inl refl
names-view finds_side (let_unnamed t e) = inl refl
names-view finds_side (needs e) = inl refl
names-view finds_side (find x d) = inr (x, refl, refl, λ l g y. refl)
names-view finds_side (such_that e) = inl refl
names-view finds_side (minimise e) = inl refl
names-view finds_side (maximise e) = inl refl

-- A statement's names aren't among those passed, where what it declares is out of scope.
fresh-here : (f : Side) (w : Stm) (s : Scope) (done : List Text) → Passed done s.tys
    → list_any (is_among (names_in_scope s)) (declares w) ≡ false
    → not (list_any (is_among done) (names_here f w)) ≡ true
fresh-here f w s done p h = go (names-view f w)
  where
    go : (names_here f w ≡ []) ⊎ NewName f w → not (list_any (is_among done) (names_here f w)) ≡ true
    go (inl e) = ap (λ ns. not (list_any (is_among done) ns)) e
    go (inr n) =
        ap (λ ns. not (list_any (is_among done) ns)) n.1
        ∙ ap not (not_passed done s n.0 p (sym (ap (λ ns. list_any (is_among (names_in_scope s)) ns) n.2) ∙ h))

-- Behind the statement the names passed have types.
passed-on : (f : Side) (w : Stm) (s : Scope) (done : List Text) → Passed done s.tys
    → Passed (names_here f w ++ done) (types_after (put_in_scope w s) s.tys)
passed-on f w s done p y h = go (names-view f w)
  where
    either : (a b c : Bool) → (b ≡ true → c ≡ true) → a || b ≡ true → a || c ≡ true
    either true b c k i = refl
    either false b c k i = k i

    go : (names_here f w ≡ []) ⊎ NewName f w → is_among (keys (types_after (put_in_scope w s) s.tys)) y ≡ true
    go (inl e) = types_after-keep (put_in_scope w s) s.tys y (p y (sym (ap (λ ns. is_among (ns ++ done) y) e) ∙ h))
    go (inr n) =
        n.3 s.lets s.tys y
        ∙ either (same_text n.0 y) (is_among done y) (is_among (keys s.tys) y) (p y) (sym (ap (λ ns. is_among (ns ++ done) y) n.1) ∙ h)

-- No fault of a statement and of those behind it.
faultless : (o : Option Judgement) (k : ℕ) (r : Option (Judgement × ℕ))
    → ◌≡◌ {A = Option (Judgement × ℕ)} (elim o [ Some j ↦ Some (j, k) | None ↦ r ]) None → (o ≡ None) × (r ≡ None)
faultless None k r h = (refl, h)
faultless (Some j) k r h = cc

-- The names of a side are new at each statement without a fault.
pub fresh-statements : (f : Side) (ws : List Stm) (s : Scope) (k : ℕ) (done : List Text) → Passed done s.tys → first_fault k ws s ≡ None
    → are_fresh done (map (names_here f) ws) ≡ true
fresh-statements f [] s k done p h = refl
fresh-statements f (w ∷ ws) s k done p h =
    let t : Stm = put_in_scope w s in
    let q : (first_failed judgements w t s ≡ None) × (first_fault (suc k) ws (scope_after t s) ≡ None) =
    faultless (first_failed judgements w t s) k (first_fault (suc k) ws (scope_after t s)) h in
    and-both (not (list_any (is_among done) (names_here f w))) (are_fresh (names_here f w ++ done) (map (names_here f) ws))
    (fresh-here f w s done p (new-out_of_scope w s (met-new w t s q.0)))
    (fresh-statements f ws (scope_after t s) (suc k) (names_here f w ++ done) (passed-on f w s done p) q.1)

-- The names of a side are new at each prepared statement of a specification that is well typed.
pub fresh-prepared : (f : Side) (S : List Stm) → fault S ≡ None → are_fresh [] (map (names_here f) (prepared S)) ≡ true
fresh-prepared f S h = ap (are_fresh []) (names-prepared f S no_lettings [] []) ∙ fresh-statements f S empty_scope 1 [] (λ x e. cc) h
