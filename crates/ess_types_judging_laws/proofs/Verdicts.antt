-- The judgements of a statement are what is found of it.
use Rattle.std.proofs.Common.{◌≡◌, refl, ap, ◌∙◌, Bool, ◌&&◌, if◌then◌else◌, List, [], ◌∷◌, Some}
use Rattle.ess_semantics.specs.Lists.{is_none_or}
use Rattle.ess_semantics.specs.Trees.{Stm, given, given_enum, let_ex, let_dom, let_enum, let_unnamed, needs, find, such_that, minimise, maximise}
use Rattle.ess_semantics.specs.Scopes.{Scope}
use Rattle.ess_semantics.specs.DomainJudgements.{is_finite}
use Rattle.ess_semantics.specs.Judgements.{Judgement, unknown_name, double_name, ill_typed, not_finite, not_enumerable, open_given, meets, first_failed, every_of_stm, is_letting, place_fits, order_is_fit, found_domain, size_is_fixed}
use Rattle.ess_types_judging_laws.specs.Judged.{known_names, new_names, fitting_types, finite_domains, enumerable_domains}
use Rattle.ess_types_judging_laws.specs.Verdicts.{Findings, findings, place_agrees, size_found, declares_new, meets_found, first_found}
use Rattle.ess_types_judging_laws.proofs.Truths.{and_same, and_true}

-- What is asked of each part of a statement.
known-found : (t : Stm) (s : Scope) → every_of_stm known_names t s ≡ (findings t s).found.known
known-found (given x d) s = refl
known-found (given_enum x) s = refl
known-found (let_ex x e) s = and_true _
known-found (let_dom x d) s = refl
known-found (let_enum x ns) s = refl
known-found (let_unnamed x e) s = and_true _
known-found (needs e) s = and_true _
known-found (find x d) s = refl
known-found (such_that e) s = and_true _
known-found (minimise e) s = and_true _
known-found (maximise e) s = and_true _

new-found : (t : Stm) (s : Scope) → every_of_stm new_names t s ≡ (findings t s).found.new
new-found (given x d) s = refl
new-found (given_enum x) s = refl
new-found (let_ex x e) s = and_true _
new-found (let_dom x d) s = refl
new-found (let_enum x ns) s = refl
new-found (let_unnamed x e) s = and_true _
new-found (needs e) s = and_true _
new-found (find x d) s = refl
new-found (such_that e) s = and_true _
new-found (minimise e) s = and_true _
new-found (maximise e) s = and_true _

fits-found : (t : Stm) (s : Scope) → every_of_stm fitting_types t s ≡ (findings t s).found.fits
fits-found (given x d) s = refl
fits-found (given_enum x) s = refl
fits-found (let_ex x e) s = and_true _
fits-found (let_dom x d) s = refl
fits-found (let_enum x ns) s = refl
fits-found (let_unnamed x e) s = and_true _
fits-found (needs e) s = and_true _
fits-found (find x d) s = refl
fits-found (such_that e) s = and_true _
fits-found (minimise e) s = and_true _
fits-found (maximise e) s = and_true _

finite-found : (t : Stm) (s : Scope) → every_of_stm finite_domains t s ≡ (findings t s).found.finite
finite-found (given x d) s = refl
finite-found (given_enum x) s = refl
finite-found (let_ex x e) s = and_true _
finite-found (let_dom x d) s = refl
finite-found (let_enum x ns) s = refl
finite-found (let_unnamed x e) s = and_true _
finite-found (needs e) s = and_true _
finite-found (find x d) s = refl
finite-found (such_that e) s = and_true _
finite-found (minimise e) s = and_true _
finite-found (maximise e) s = and_true _

enumerable-found : (t : Stm) (s : Scope) → every_of_stm enumerable_domains t s ≡ (findings t s).found.enumerable
enumerable-found (given x d) s = refl
enumerable-found (given_enum x) s = refl
enumerable-found (let_ex x e) s = and_true _
enumerable-found (let_dom x d) s = refl
enumerable-found (let_enum x ns) s = refl
enumerable-found (let_unnamed x e) s = and_true _
enumerable-found (needs e) s = and_true _
enumerable-found (find x d) s = refl
enumerable-found (such_that e) s = and_true _
enumerable-found (minimise e) s = and_true _
enumerable-found (maximise e) s = and_true _

place-found : (t : Stm) (s : Scope) → place_fits t s ≡ place_agrees t (findings t s)
place-found (let_unnamed x e) s = refl
place-found (needs e) s = refl
place-found (such_that e) s = refl
place-found (minimise e) s = refl
place-found (maximise e) s = refl
place-found _ s = refl

-- Order, at the place of a statement's expression.
abbrev order_found : Stm → Findings → Bool
order_found t f = if is_letting t then f.found.unordered else f.found.in_order

order-found : (t : Stm) (s : Scope) → order_is_fit t s ≡ order_found t (findings t s)
order-found (given x d) s = refl
order-found (given_enum x) s = refl
order-found (let_ex x e) s = and_true _
order-found (let_dom x d) s = refl
order-found (let_enum x ns) s = refl
order-found (let_unnamed x e) s = and_true _
order-found (needs e) s = and_true _
order-found (find x d) s = refl
order-found (such_that e) s = and_true _
order-found (minimise e) s = and_true _
order-found (maximise e) s = and_true _

size-found : (t : Stm) (s : Scope) → size_is_fixed t s ≡ size_found t (findings t s)
size-found (let_unnamed x e) s = refl
size-found _ s = refl

-- Each judgement is met where what is found says so.
pub meets-found : (j : Judgement) (w t : Stm) (s : Scope) → meets j w t s ≡ meets_found j w t (findings w s) (findings t s) s
meets-found unknown_name w t s = known-found t s
meets-found double_name w t s = ap (λ b. declares_new w s && b) (new-found w s)
meets-found ill_typed w t s =
    and_same _ _ _ _ (and_same _ _ _ _ (fits-found t s) (place-found t s)) (order-found t s)
meets-found not_finite w t s = ap (λ b. is_none_or (found_domain t) is_finite && b) (finite-found t s)
meets-found not_enumerable w t s = and_same _ _ _ _ (enumerable-found t s) (size-found t s)
meets-found open_given w t s = refl

-- So the first that is failed is the first that what is found fails.
pub first_failed_found : (js : List Judgement) (w t : Stm) (s : Scope) →
    first_failed js w t s ≡ first_found js w t (findings w s) (findings t s) s
first_failed_found [] w t s = refl
first_failed_found (j ∷ js) w t s =
    ap (λ b. if b then first_failed js w t s else Some j) (meets-found j w t s)
    ∙ ap (λ o. if meets_found j w t (findings w s) (findings t s) s then o else Some j) (first_failed_found js w t s)
