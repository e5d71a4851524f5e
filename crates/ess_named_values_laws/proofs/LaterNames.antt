-- In a well typed specification no later statement gives a value to a name that is in scope already.
use Rattle.std.proofs.Common.{◌≡◌, refl, ap, ◌∙◌, ℕ, suc, true, false, ◌||◌, List, [], ◌∷◌, ◌++◌, None}
use Rattle.ess_semantics.specs.Values.{Text}
use Rattle.ess_semantics.specs.Order.{same_text}
use Rattle.ess_semantics.specs.Names.{is_among}
use Rattle.ess_semantics.specs.Trees.{Stm, given, given_enum, let_ex, let_dom, let_enum, let_unnamed, needs, find, such_that, minimise, maximise}
use Rattle.ess_semantics.specs.Prepared.{resolve_stm}
use Rattle.ess_semantics.specs.Scopes.{Scope, names_in_scope}
use Rattle.ess_semantics.specs.Judgements.{unknown_name, double_name, judgements, declares, names_are_new, first_failed, first_fault, put_in_scope, scope_after}
use Rattle.ess_semantics.proofs.Tests.{or-yes, or-right-no}
use Rattle.conjure_laws.proofs.FreeNames.{among-append}
use Rattle.conjure_laws.proofs.SetScopesTyped.{passed, later_judgements, no-fault}
use Rattle.conjure_settled_laws.specs.EndValues.{valued_by, valued_in}
use Rattle.conjure_settled_laws.proofs.ScopesGrow.{scope-grows, none-shared}
use Rattle.conjure_settled_laws.proofs.SettledStatements.{from_place, none-declared}

-- A statement that passes all judgements declares new names.
pub names-new : (w t : Stm) (s : Scope) → first_failed judgements w t s ≡ None → names_are_new w s ≡ true
names-new w t s e =
    let a = passed unknown_name (double_name ∷ later_judgements) w t s e in
    let b = passed double_name later_judgements w t s a.1 in b.0

-- It gives values to names that it declares, and to no others.
valued-declared : (w : Stm) (s : Scope) (y : Text) → is_among (declares w) y ≡ false →
    is_among (valued_by (resolve_stm (put_in_scope w s) s.tys)) y ≡ false
valued-declared (given x d) s y h = h
valued-declared (find x d) s y h = h
valued-declared (let_enum t ns) s y h = or-right-no (same_text t y) (is_among ns y) h
valued-declared (given_enum t) s y h = refl
valued-declared (let_ex x e) s y h = refl
valued-declared (let_dom x d) s y h = refl
valued-declared (let_unnamed t e) s y h = refl
valued-declared (needs e) s y h = refl
valued-declared (such_that e) s y h = refl
valued-declared (minimise e) s y h = refl
valued-declared (maximise e) s y h = refl

neither : (xs ys : List Text) (y : Text) → is_among xs y ≡ false → is_among ys y ≡ false → is_among (xs ++ ys) y ≡ false
neither xs ys y h k = among-append xs ys y ∙ ap (λ b. b || is_among ys y) h ∙ k

-- What is in scope stays so.
pub still-in-scope : (w : Stm) (s : Scope) (y : Text) → is_among (names_in_scope s) y ≡ true →
    is_among (names_in_scope (scope_after (put_in_scope w s) s)) y ≡ true
still-in-scope w s y i = scope-grows w s y ∙ ap (λ b. is_among (declares w) y || b) i ∙ or-yes (is_among (declares w) y)

-- So later statements give it no value.
pub later-none : (k : ℕ) (ws : List Stm) (s : Scope) → first_fault k ws s ≡ None → (y : Text) → is_among (names_in_scope s) y ≡ true →
    is_among (valued_in (from_place ws s)) y ≡ false
later-none k [] s e y i = refl
later-none k (w ∷ ws) s e y i =
    let t : Stm = put_in_scope w s in
    let h = no-fault (first_failed judgements w t s) (first_fault (suc k) ws (scope_after t s)) k e in
    neither (valued_by (resolve_stm t s.tys)) (valued_in (from_place ws (scope_after t s))) y
    (valued-declared w s y (none-shared (names_in_scope s) (declares w) y (none-declared w s (names-new w t s h.0)) i))
    (later-none (suc k) ws (scope_after t s) h.1 y (still-in-scope w s y i))
