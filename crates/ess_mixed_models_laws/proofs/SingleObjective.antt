-- A well typed specification has one objective at most: behind one there is none.
use Rattle.std.proofs.Common.{◌≡◌, refl, sym, ap, ◌∙◌, ℕ, suc, Bool, true, false, ◌&&◌, ◌||◌, not, List, [], ◌∷◌, None}
use Rattle.std.specs.List.{list_all}
use Rattle.ess_semantics.specs.Trees.{Stm, given, given_enum, let_ex, let_dom, let_enum, let_unnamed, needs, find, such_that, minimise, maximise}
use Rattle.ess_semantics.specs.Prepared.{resolve_stm, prepared}
use Rattle.ess_semantics.specs.Scopes.{Scope, empty_scope}
use Rattle.ess_semantics.specs.Judgements.{judgements, first_failed, first_fault, fault, is_objective, put_in_scope, scope_after}
use Rattle.ess_semantics.proofs.Tests.{and-left, and-right}
use Rattle.conjure_laws.proofs.SetScopesTyped.{no-fault}
use Rattle.conjure_settled_laws.proofs.JudgedStatements.{judged}
use Rattle.conjure_settled_laws.proofs.SettledStatements.{from_place}

-- Whether no statement is an objective.
abbrev pub have_none : List Stm → Bool
have_none T = list_all (λ s. not (is_objective s)) T

-- Behind an objective there is none.
abbrev pub OneObjective : List Stm → Type 0
OneObjective [] = Unit {0}
OneObjective (s ∷ T) = (is_objective s ≡ true → have_none T ≡ true) × OneObjective T

-- A statement stays an objective, or none, when lettings are put in and it is resolved.
objective-stays : (w : Stm) (s : Scope) → is_objective (resolve_stm (put_in_scope w s) s.tys) ≡ is_objective w
objective-stays (given x d) s = refl
objective-stays (given_enum t) s = refl
objective-stays (let_ex x e) s = refl
objective-stays (let_dom x d) s = refl
objective-stays (let_enum t ns) s = refl
objective-stays (let_unnamed t e) s = refl
objective-stays (needs e) s = refl
objective-stays (find x d) s = refl
objective-stays (such_that e) s = refl
objective-stays (minimise e) s = refl
objective-stays (maximise e) s = refl

put-stays : (w : Stm) (s : Scope) → is_objective (put_in_scope w s) ≡ is_objective w
put-stays (given x d) s = refl
put-stays (given_enum t) s = refl
put-stays (let_ex x e) s = refl
put-stays (let_dom x d) s = refl
put-stays (let_enum t ns) s = refl
put-stays (let_unnamed t e) s = refl
put-stays (needs e) s = refl
put-stays (find x d) s = refl
put-stays (such_that e) s = refl
put-stays (minimise e) s = refl
put-stays (maximise e) s = refl

-- From a place on: behind an objective, and where one stood before, there is none.
one-from : (k : ℕ) (ws : List Stm) (s : Scope) → first_fault k ws s ≡ None →
    OneObjective (from_place ws s) × (s.objective ≡ true → have_none (from_place ws s) ≡ true)
one-from k [] s e = (tt, λ q. refl)
one-from k (w ∷ ws) s e =
    let t : Stm = put_in_scope w s in
    let n = no-fault (first_failed judgements w t s) (first_fault (suc k) ws (scope_after t s)) k e in
    let new = (judged w t s n.0).new in
    let free = and-right _ _ (and-left _ _ new) in
    let rest = one-from (suc k) ws (scope_after t s) n.1 in (
      (λ q. rest.1 (ap (λ b. b || s.objective) (put-stays w s ∙ sym (objective-stays w s) ∙ q)), rest.0),
      λ q. both (is_objective (resolve_stm t s.tys)) (have_none (from_place ws (scope_after t s)))
          (objective-stays w s ∙ not-first (is_objective w) s.objective free q)
          (rest.1 (or-true (is_objective t) s.objective q)),
    )
  where
    or-true : (b c : Bool) → c ≡ true → b || c ≡ true
    or-true true c q = refl
    or-true false c q = q

    not-first : (b c : Bool) → not (b && c) ≡ true → c ≡ true → b ≡ false
    not-first true true f q = cc
    not-first true false f q = cc
    not-first false c f q = refl

    both : (b c : Bool) → b ≡ false → c ≡ true → not b && c ≡ true
    both true c p q = cc
    both false c p q = q

-- So it is of a well typed specification.
pub one-objective : (S : List Stm) → fault S ≡ None → OneObjective (prepared S)
one-objective S f = (one-from 1 S empty_scope f).0
