-- In a well typed specification no given or find has the name of another.
use Rattle.std.proofs.Common.{◌≡◌, refl, sym, ap, ◌∙◌, ℕ, suc, true, false, ◌||◌, not, List, [], ◌∷◌, ◌++◌, map, None}
use Rattle.std.specs.List.{list_any}
use Rattle.ess_semantics.specs.Lists.{append_all}
use Rattle.ess_semantics.specs.Values.{Text}
use Rattle.ess_semantics.specs.Order.{same_text}
use Rattle.ess_semantics.specs.Names.{Names, keys, is_among, all_distinct}
use Rattle.ess_semantics.specs.Trees.{Dom, Stm, given, given_enum, let_ex, let_dom, let_enum, let_unnamed, needs, find, such_that, minimise, maximise}
use Rattle.ess_semantics.specs.Types.{Ty, named_ty, type_of_dom}
use Rattle.ess_semantics.specs.Contexts.{Each}
use Rattle.ess_semantics.specs.Scopes.{Scope, empty_scope, names_in_scope}
use Rattle.ess_semantics.specs.Lettings.{put_dom, types_after, lettings_after}
use Rattle.ess_semantics.specs.Prepared.{resolve_stm}
use Rattle.ess_semantics.specs.Judgements.{unknown_name, double_name, declares, names_are_new, judgements, first_failed, put_in_scope, scope_after, first_fault, is_well_typed}
use Rattle.ess_semantics.specs.Solutions.{find_of, finds}
use Rattle.ess_semantics.specs.Plans.{domain_of_stm, kept_names}
use Rattle.ess_semantics.proofs.Tests.{and-left, and-right, and-both, or-left-no, or-right-no, not-true}
use Rattle.ess_semantics.proofs.Texts.{same_text-either}
use Rattle.conjure_laws.proofs.Lists.{each-map}
use Rattle.conjure_laws.proofs.SetScopesTyped.{passed, no-fault, later_judgements}
use Rattle.conjure_laws.proofs.JudgedNames.{kept_from, faultless}

-- These names differ, and none of them is in scope.
record NewNames (g : Names Ty) (ns : List Text) : Type 0 where
  distinct : all_distinct ns ≡ true
  new : Each ns (λ y. is_among (keys g) y ≡ false)

-- ---- names in scope

among-left : (xs ys : List Text) (x : Text) → is_among (xs ++ ys) x ≡ false → is_among xs x ≡ false
among-left [] ys x h = refl
among-left (y ∷ xs) ys x h =
    ap (λ b. b || is_among xs x) (or-left-no (same_text y x) (is_among (xs ++ ys) x) h)
    ∙ among-left xs ys x (or-right-no (same_text y x) (is_among (xs ++ ys) x) h)

behind-values : (t : Text) (ns : List Text) (g : Names Ty) (x : Text) →
    is_among (keys (map (λ n. (n, named_ty t)) ns ++ g)) x ≡ false → is_among (keys g) x ≡ false
behind-values t [] g x h = h
behind-values t (n ∷ ns) g x h =
    behind-values t ns g x (or-right-no (same_text n x) (is_among (keys (map (λ n. (n, named_ty t)) ns ++ g)) x) h)

-- What is not in scope behind a statement is not in scope before it.
before : (t : Stm) (g : Names Ty) (x : Text) → is_among (keys (types_after t g)) x ≡ false → is_among (keys g) x ≡ false
before (given y d) g x h = or-right-no (same_text y x) (is_among (keys g) x) h
before (find y d) g x h = or-right-no (same_text y x) (is_among (keys g) x) h
before (let_ex y e) g x h = or-right-no (same_text y x) (is_among (keys g) x) h
before (let_enum t ns) g x h = behind-values t ns g x h
before (given_enum t) g x h = h
before (let_dom y d) g x h = h
before (let_unnamed t e) g x h = h
before (needs e) g x h = h
before (such_that e) g x h = h
before (minimise e) g x h = h
before (maximise e) g x h = h

fewer : (t : Stm) (g : Names Ty) (ns : List Text) → NewNames (types_after t g) ns → NewNames g ns
fewer t g ns h = record {
  distinct = h.distinct;
  new = each-map ns (λ y. is_among (keys (types_after t g)) y ≡ false) (λ y. is_among (keys g) y ≡ false) (before t g) h.new;
}

-- ---- one name more

not-later : (x : Text) (as' : List Text) (ns : List Text) → Each ns (λ y. is_among (x ∷ as') y ≡ false) → is_among ns x ≡ false
not-later x as' [] h = refl
not-later x as' (n ∷ ns) h =
    ap (λ b. b || is_among ns x) (same_text-either n x ∙ or-left-no (same_text x n) (is_among as' n) h.0) ∙ not-later x as' ns h.1

more : (x : Text) (u : Ty) (g : Names Ty) (ns : List Text) → is_among (keys g) x ≡ false → NewNames ((x, u) ∷ g) ns → NewNames g (x ∷ ns)
more x u g ns n h = record {
  distinct = and-both (not (is_among ns x)) (all_distinct ns) (ap not (not-later x (keys g) ns h.new)) h.distinct;
  new = (
    n,
    each-map ns (λ y. is_among (x ∷ keys g) y ≡ false) (λ y. is_among (keys g) y ≡ false)
        (λ y e. or-right-no (same_text x y) (is_among (keys g) y) e)
        h.new,
  );
}

-- A name that a statement declares alone is not in scope before it.
declared-new : (w : Stm) (s : Scope) (x : Text) → declares w ≡ x ∷ [] → names_are_new w s ≡ true → is_among (keys s.tys) x ≡ false
declared-new w s x e h =
    let a = and-left _ _ (and-left _ _ (and-left _ _ h)) in
    let b = and-right (all_distinct (declares w)) (not (list_any (is_among (names_in_scope s)) (declares w))) a in
    let c = not-true (list_any (is_among (names_in_scope s)) (x ∷ []))
    (ap (λ l. not (list_any (is_among (names_in_scope s)) l)) (sym e) ∙ b) in
    among-left (keys s.tys) s.enums x
    (among-left (keys s.tys ++ s.enums) s.unnamed x
    (among-left (keys s.tys ++ s.enums ++ s.unnamed) (keys s.lets.doms) x (or-left-no (is_among (names_in_scope s) x) false c)))

-- ---- statement by statement

of-kept : (w : Stm) (s : Scope) → names_are_new w s ≡ true → (ds : Names Dom) → NewNames (types_after (put_in_scope w s) s.tys) (keys ds) →
    NewNames s.tys (keys (domain_of_stm (resolve_stm (put_in_scope w s) s.tys) ++ ds))
of-kept (given x d) s n ds h =
    more x (type_of_dom (put_dom d s.lets s.tys)) s.tys (keys ds) (declared-new (given x d) s x refl n) h
of-kept (find x d) s n ds h =
    more x (type_of_dom (put_dom d s.lets s.tys)) s.tys (keys ds) (declared-new (find x d) s x refl n) h
of-kept (given_enum t) s n ds h = fewer (put_in_scope (given_enum t) s) s.tys (keys ds) h
of-kept (let_ex x e) s n ds h = fewer (put_in_scope (let_ex x e) s) s.tys (keys ds) h
of-kept (let_dom x d) s n ds h = fewer (put_in_scope (let_dom x d) s) s.tys (keys ds) h
of-kept (let_enum t ns) s n ds h = fewer (put_in_scope (let_enum t ns) s) s.tys (keys ds) h
of-kept (let_unnamed t e) s n ds h = fewer (put_in_scope (let_unnamed t e) s) s.tys (keys ds) h
of-kept (needs e) s n ds h = fewer (put_in_scope (needs e) s) s.tys (keys ds) h
of-kept (such_that e) s n ds h = fewer (put_in_scope (such_that e) s) s.tys (keys ds) h
of-kept (minimise e) s n ds h = fewer (put_in_scope (minimise e) s) s.tys (keys ds) h
of-kept (maximise e) s n ds h = fewer (put_in_scope (maximise e) s) s.tys (keys ds) h

of-found : (w : Stm) (s : Scope) → names_are_new w s ≡ true → (ns : List Text) → NewNames (types_after (put_in_scope w s) s.tys) ns →
    NewNames s.tys (find_of w ++ ns)
of-found (find x d) s n ns h = more x (type_of_dom (put_dom d s.lets s.tys)) s.tys ns (declared-new (find x d) s x refl n) h
of-found (given x d) s n ns h = fewer (put_in_scope (given x d) s) s.tys ns h
of-found (given_enum t) s n ns h = fewer (put_in_scope (given_enum t) s) s.tys ns h
of-found (let_ex x e) s n ns h = fewer (put_in_scope (let_ex x e) s) s.tys ns h
of-found (let_dom x d) s n ns h = fewer (put_in_scope (let_dom x d) s) s.tys ns h
of-found (let_enum t ms) s n ns h = fewer (put_in_scope (let_enum t ms) s) s.tys ns h
of-found (let_unnamed t e) s n ns h = fewer (put_in_scope (let_unnamed t e) s) s.tys ns h
of-found (needs e) s n ns h = fewer (put_in_scope (needs e) s) s.tys ns h
of-found (such_that e) s n ns h = fewer (put_in_scope (such_that e) s) s.tys ns h
of-found (minimise e) s n ns h = fewer (put_in_scope (minimise e) s) s.tys ns h
of-found (maximise e) s n ns h = fewer (put_in_scope (maximise e) s) s.tys ns h

new-here : (w t : Stm) (s : Scope) → first_failed judgements w t s ≡ None → names_are_new w s ≡ true
new-here w t s e =
    let a = passed unknown_name (double_name ∷ later_judgements) w t s e in
    let b = passed double_name later_judgements w t s a.1 in b.0

from-judged : (k : ℕ) (ws : List Stm) (s : Scope) → first_fault k ws s ≡ None →
    NewNames s.tys (keys (kept_from ws s.lets s.tys)) × NewNames s.tys (append_all (map find_of ws))
from-judged k [] s e = (record { distinct = refl; new = tt }, record { distinct = refl; new = tt })
from-judged k (w ∷ ws) s e =
    let t : Stm = put_in_scope w s in
    let h = no-fault (first_failed judgements w t s) (first_fault (suc k) ws (scope_after t s)) k e in
    let n = new-here w t s h.0 in
    let r = from-judged (suc k) ws (scope_after t s) h.1 in (
      of-kept w s n (kept_from ws (lettings_after t s.lets) (types_after t s.tys)) r.0,
      of-found w s n (append_all (map find_of ws)) r.1,
    )

-- The givens and finds have names of their own.
pub kept-distinct : (S : List Stm) → is_well_typed S ≡ true → all_distinct (keys (kept_names S)) ≡ true
kept-distinct S e = let r = from-judged 1 S empty_scope (faultless S e) in let n = r.0 in n.distinct

-- So have the finds alone.
pub finds-distinct : (S : List Stm) → is_well_typed S ≡ true → all_distinct (finds S) ≡ true
finds-distinct S e = let r = from-judged 1 S empty_scope (faultless S e) in let n = r.1 in n.distinct
