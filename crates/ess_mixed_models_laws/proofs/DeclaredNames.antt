-- Each name of a well typed specification is declared once, also when it is prepared.
use Rattle.std.proofs.Common.{◌≡◌, refl, sym, ap, ◌∙◌, ℕ, suc, Bool, true, false, not, List, [], ◌∷◌, ◌++◌, None}
use Rattle.std.specs.List.{list_any}
use Rattle.ess_semantics.specs.Values.{Text}
use Rattle.ess_semantics.specs.Names.{Names, is_among, all_distinct}
use Rattle.ess_semantics.specs.Trees.{Stm, given, given_enum, let_ex, let_dom, let_enum, let_unnamed, needs, find, such_that, minimise, maximise}
use Rattle.ess_semantics.specs.Types.{Ty}
use Rattle.ess_semantics.specs.Contexts.{Each}
use Rattle.ess_semantics.specs.Scopes.{Scope, empty_scope, names_in_scope}
use Rattle.ess_semantics.specs.Judgements.{judgements, first_failed, first_fault, fault, declares, put_in_scope, scope_after}
use Rattle.ess_semantics.specs.Lettings.{Lettings, no_lettings, lettings_after, put_stm, put_all, types_after}
use Rattle.ess_semantics.specs.Prepared.{resolve_stm, resolve_all, prepared}
use Rattle.ess_semantics.specs.Parameters.{all_declared}
use Rattle.ess_semantics.proofs.Tests.{and-left, or-left-no, or-right-no}
use Rattle.conjure_laws.specs.Members.{In}
use Rattle.conjure_laws.proofs.FreeNames.{join-halves}
use Rattle.conjure_laws.proofs.Lists.{at-item, all-items, each-map, each-append}
use Rattle.conjure_laws.proofs.NamedTables.{among-in, in-among}
use Rattle.conjure_laws.proofs.SetScopesTyped.{no-fault}
use Rattle.conjure_settled_laws.proofs.JudgedStatements.{judged}
use Rattle.conjure_settled_laws.proofs.ScopesGrow.{scope-grows}
use Rattle.conjure_settled_laws.proofs.SettledStatements.{none-declared}

any-none : (f : Text → Bool) (xs : List Text) → list_any f xs ≡ false → Each xs (λ x. f x ≡ false)
any-none f [] e = tt
any-none f (x ∷ xs) e = (or-left-no (f x) (list_any f xs) e, any-none f xs (or-right-no (f x) (list_any f xs) e))

-- Where no name of the one list is among the other, none of the other is among the one.
apart-back : (xs ys : List Text) → Each ys (λ y. is_among xs y ≡ false) → Each xs (λ x. is_among ys x ≡ false)
apart-back xs ys h = all-items (λ x. is_among ys x ≡ false) xs (λ x i. go x i (is_among ys x) refl)
  where
    go : (x : Text) → In x xs → (b : Bool) → is_among ys x ≡ b → is_among ys x ≡ false
    go x i false q = q
    go x i true q =
        let z : true ≡ false = sym (in-among xs x i) ∙ at-item (λ y. is_among xs y ≡ false) ys x h (among-in ys x q) in cc

from-place : (k : ℕ) (ws : List Stm) (s : Scope) → first_fault k ws s ≡ None →
    (all_distinct (all_declared ws) ≡ true) × Each (all_declared ws) (λ x. is_among (names_in_scope s) x ≡ false)
from-place k [] s e = (refl, tt)
from-place k (w ∷ ws) s e =
    let t : Stm = put_in_scope w s in
    let n = no-fault (first_failed judgements w t s) (first_fault (suc k) ws (scope_after t s)) k e in
    let j = judged w t s n.0 in
    let r = from-place (suc k) ws (scope_after t s) n.1 in
    let a = and-left _ _ (and-left _ _ (and-left _ _ j.new)) in
    let d : all_distinct (declares w) ≡ true =
    and-left (all_distinct (declares w)) (not (list_any (is_among (names_in_scope s)) (declares w))) a in (
      join-halves (declares w) (all_declared ws) d r.0
          (apart-back (declares w) (all_declared ws)
          (each-map (all_declared ws) (λ x. is_among (names_in_scope (scope_after t s)) x ≡ false) (λ x. is_among (declares w) x ≡ false)
          (λ x h. or-left-no (is_among (declares w) x) (is_among (names_in_scope s) x) (sym (scope-grows w s x) ∙ h)) r.1)),
      each-append (λ x. is_among (names_in_scope s) x ≡ false) (declares w) (all_declared ws)
          (any-none (is_among (names_in_scope s)) (declares w) (none-declared w s j.new))
          (each-map (all_declared ws) (λ x. is_among (names_in_scope (scope_after t s)) x ≡ false)
          (λ x. is_among (names_in_scope s) x ≡ false)
          (λ x h. or-right-no (is_among (declares w) x) (is_among (names_in_scope s) x) (sym (scope-grows w s x) ∙ h)) r.1),
    )

-- Each name is declared once.
pub declared-once : (S : List Stm) → fault S ≡ None → all_distinct (all_declared S) ≡ true
declared-once S f = (from-place 1 S empty_scope f).0

-- ---- prepared statements

declares-still : (s : Stm) (l : Lettings) (g : Names Ty) → declares (resolve_stm (put_stm s l g) g) ≡ declares s
declares-still (given x d) l g = refl
declares-still (given_enum t) l g = refl
declares-still (let_ex x e) l g = refl
declares-still (let_dom x d) l g = refl
declares-still (let_enum t ns) l g = refl
declares-still (let_unnamed t e) l g = refl
declares-still (needs e) l g = refl
declares-still (find x d) l g = refl
declares-still (such_that e) l g = refl
declares-still (minimise e) l g = refl
declares-still (maximise e) l g = refl

all-still : (T : List Stm) (l : Lettings) (g : Names Ty) → all_declared (resolve_all (put_all T l g) g) ≡ all_declared T
all-still [] l g = refl
all-still (s ∷ T) l g =
    ap (λ ns. ns ++ all_declared (resolve_all (put_all T (lettings_after (put_stm s l g) l) (types_after (put_stm s l g) g))
    (types_after (put_stm s l g) g))) (declares-still s l g)
    ∙ ap (λ ns. declares s ++ ns) (all-still T (lettings_after (put_stm s l g) l) (types_after (put_stm s l g) g))

-- Prepared statements declare the same names.
pub prepared-declares : (S : List Stm) → all_declared (prepared S) ≡ all_declared S
prepared-declares S = all-still S no_lettings []

-- So they declare each once.
pub prepared-once : (S : List Stm) → fault S ≡ None → all_distinct (all_declared (prepared S)) ≡ true
prepared-once S f = ap all_distinct (prepared-declares S) ∙ declared-once S f
