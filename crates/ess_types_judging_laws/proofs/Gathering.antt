-- What is gathered of generators, from left to right, is what is asked of them and of what stands under them.
use Rattle.std.proofs.Common.{◌≡◌, refl, sym, ap, ◌∙◌, Bool, true, false, ◌&&◌, if◌then◌else◌, Option, Some, None}
use Rattle.std.specs.Prelude.{is_some}
use Rattle.ess_semantics.specs.Lists.{and_then, is_some_and}
use Rattle.ess_semantics.specs.Names.{Names}
use Rattle.ess_semantics.specs.Trees.{Pat, Ex, Gens, no_gens, over, from, cond, Dom}
use Rattle.ess_semantics.specs.Types.{Ty, type_of_dom, bind_types, bool_ty, join, or_any}
use Rattle.ess_semantics.specs.OperatorTypes.{member_ty}
use Rattle.ess_semantics.specs.Typing.{type_of, types_under, source_ty}
use Rattle.ess_semantics.specs.Scopes.{Scope, Asked, with_bound, every, every_under, every_dom, is_fixed, mentions_finds}
use Rattle.ess_semantics.specs.ExpressionJudgements.{are_ordered, is_ordered_source, orders_fit, gens_fit, dom_orders_fit}
use Rattle.ess_types_judging_laws.specs.Found.{Found, both, at_place}
use Rattle.ess_types_judging_laws.specs.Judged.{judged, judged_dom}
use Rattle.ess_types_judging_laws.specs.Combined.{Gathered, pattern_found, over_found, over_gathered, from_gathered, cond_gathered, gathered}
use Rattle.ess_types_judging_laws.proofs.Truths.{and_same, and_assoc, and_true, over-grouped, from-grouped}
use Rattle.ess_types_judging_laws.proofs.Operands.{Answers}

-- One of the findings, as an answer to what is asked of generators too.
pub record GeneratorAnswers (of : Found → Bool) (q : Asked) : Type 0 where
  pub overs : (p : Pat) (d : Dom) (s : Scope) → of (over_found p d s) ≡ q.of_generator d s && q.of_pattern p (type_of_dom d) s
  pub patterns : (p : Pat) (t : Ty) (s : Scope) → of (pattern_found p t s) ≡ q.of_pattern p t s
  pub draws : (e : Ex) (s : Scope) → q.draws_on_finds e s ≡ mentions_finds e s

module _ (of : Found → Bool) (q : Asked) (h : Answers of q) (i : GeneratorAnswers of q) where
  -- What is asked of generators and of what stands under them.
  pub under-gathered : (gs : Gens) (a : Gathered) (k : Scope → Bool) →
      of (gathered gs a).found && k (gathered gs a).scope ≡ of a.found && every_under q gs a.scope k
  under-gathered no_gens a k = refl
  under-gathered (over p d gs) a k =
      under-gathered gs (over_gathered p d (judged_dom d a.scope) a) k
      ∙ ap (λ b. b && every_under q gs (with_bound false p (type_of_dom d) a.scope) k)
      (h.both a.found (both (judged_dom d a.scope) (over_found p d a.scope))
      ∙ ap (λ b. of a.found && b)
      (h.both (judged_dom d a.scope) (over_found p d a.scope) ∙ and_same _ _ _ _ (h.doms d a.scope) (i.overs p d a.scope)))
      ∙ over-grouped (of a.found) (every_dom q d a.scope) (q.of_generator d a.scope) (q.of_pattern p (type_of_dom d) a.scope)
      (every_under q gs (with_bound false p (type_of_dom d) a.scope) k)
  under-gathered (from p e gs) a k =
      let t : Ty = source_ty e a.scope.tys in
      let rest : Bool → Bool = λ b. every_under q gs (with_bound b p (source_ty e a.scope.tys) a.scope) k in
      under-gathered gs (from_gathered p (judged e a.scope) a) k
      ∙ ap (λ b. b && rest (mentions_finds e a.scope))
      (h.both a.found (both (judged e a.scope).found (pattern_found p t a.scope))
      ∙ ap (λ b. of a.found && b)
      (h.both (judged e a.scope).found (pattern_found p t a.scope)
      ∙ and_same _ _ _ _ (h.exs e a.scope) (i.patterns p t a.scope)))
      ∙ from-grouped (of a.found) (every q e a.scope) (q.of_pattern p t a.scope) (rest (mentions_finds e a.scope))
      ∙ ap (λ b. of a.found && ((every q e a.scope && q.of_pattern p t a.scope) && rest b)) (sym (i.draws e a.scope))
  under-gathered (cond e gs) a k =
      under-gathered gs (cond_gathered (judged e a.scope) a) k
      ∙ ap (λ b. b && every_under q gs a.scope k)
      (h.both a.found (at_place true (judged e a.scope).found)
      ∙ ap (λ b. of a.found && b) (h.placed true (judged e a.scope).found ∙ h.exs e a.scope))
      ∙ and_assoc (of a.found) (every q e a.scope) (every_under q gs a.scope k)

-- Order under generators, where it counts at the comprehension's place.
pub order-gathered : (gs : Gens) (a : Gathered) (k : Scope → Bool) →
    (gathered gs a).found.in_order && k (gathered gs a).scope ≡ a.found.in_order && gens_fit true gs a.scope k
order-gathered no_gens a k = refl
order-gathered (over p d gs) a k =
    order-gathered gs (over_gathered p d (judged_dom d a.scope) a) k
    ∙ ap (λ b. (a.found.in_order && b) && gens_fit true gs (with_bound false p (type_of_dom d) a.scope) k) (and_true (dom_orders_fit d a.scope))
    ∙ and_assoc a.found.in_order (dom_orders_fit d a.scope) (gens_fit true gs (with_bound false p (type_of_dom d) a.scope) k)
order-gathered (from p e gs) a k =
    order-gathered gs (from_gathered p (judged e a.scope) a) k
    ∙ ap (λ b. (a.found.in_order && b) && gens_fit true gs (with_bound (mentions_finds e a.scope) p (source_ty e a.scope.tys) a.scope) k)
    (and_true (orders_fit true e a.scope))
    ∙ and_assoc a.found.in_order (orders_fit true e a.scope)
    (gens_fit true gs (with_bound (mentions_finds e a.scope) p (source_ty e a.scope.tys) a.scope) k)
order-gathered (cond e gs) a k =
    order-gathered gs (cond_gathered (judged e a.scope) a) k
    ∙ and_assoc a.found.in_order (orders_fit true e a.scope) (gens_fit true gs a.scope k)

-- The same where it doesn't.
pub unordered-gathered : (gs : Gens) (a : Gathered) (k : Scope → Bool) →
    (gathered gs a).found.unordered && k (gathered gs a).scope ≡ a.found.unordered && gens_fit false gs a.scope k
unordered-gathered no_gens a k = refl
unordered-gathered (over p d gs) a k =
    unordered-gathered gs (over_gathered p d (judged_dom d a.scope) a) k
    ∙ ap (λ b. (a.found.unordered && b) && gens_fit false gs (with_bound false p (type_of_dom d) a.scope) k) (and_true (dom_orders_fit d a.scope))
    ∙ and_assoc a.found.unordered (dom_orders_fit d a.scope) (gens_fit false gs (with_bound false p (type_of_dom d) a.scope) k)
unordered-gathered (from p e gs) a k =
    unordered-gathered gs (from_gathered p (judged e a.scope) a) k
    ∙ ap (λ b. (a.found.unordered && b) && gens_fit false gs (with_bound (mentions_finds e a.scope) p (source_ty e a.scope.tys) a.scope) k)
    (and_true (orders_fit false e a.scope))
    ∙ and_assoc a.found.unordered (orders_fit false e a.scope)
    (gens_fit false gs (with_bound (mentions_finds e a.scope) p (source_ty e a.scope.tys) a.scope) k)
unordered-gathered (cond e gs) a k =
    unordered-gathered gs (cond_gathered (judged e a.scope) a) k
    ∙ and_assoc a.found.unordered (orders_fit true e a.scope) (gens_fit false gs a.scope k)

-- Whether each generator has an order.
pub ordered-gathered : (gs : Gens) (a : Gathered) → (gathered gs a).ordered ≡ a.ordered && are_ordered gs a.scope
ordered-gathered no_gens a = sym (and_true a.ordered)
ordered-gathered (over p d gs) a = ordered-gathered gs (over_gathered p d (judged_dom d a.scope) a)
ordered-gathered (from p e gs) a =
    ordered-gathered gs (from_gathered p (judged e a.scope) a)
    ∙ and_assoc a.ordered (is_ordered_source e a.scope) (are_ordered gs (with_bound (mentions_finds e a.scope) p (source_ty e a.scope.tys) a.scope))
ordered-gathered (cond e gs) a =
    ordered-gathered gs (cond_gathered (judged e a.scope) a) ∙ and_assoc a.ordered (is_fixed e a.scope) (are_ordered gs a.scope)

-- ---- types under generators

-- What f gives where the generators' own types fit.
abbrev pub if_typed : Gathered → (Names Ty → Option Ty) → Option Ty
if_typed a f = if a.typed then f a.scope.tys else None

source-typed : (b : Bool) (o : Option Ty) (k : Ty → Option (Names Ty)) (f : Names Ty → Option Ty) →
    (if b && is_some o then and_then (k (or_any o)) f else None) ≡ (if b then and_then (and_then o k) f else None)
source-typed true None k f = refl
source-typed true (Some t) k f = refl
source-typed false o k f = refl

cond-typed : (b : Bool) (o : Option Ty) (x : Option (Names Ty)) (f : Names Ty → Option Ty) →
    (if b && is_some_and o (λ t. is_some (join t bool_ty)) then and_then x f else None)
    ≡ (if b then and_then (and_then o (λ t. and_then (join t bool_ty) (λ u. x))) f else None)
cond-typed false o x f = refl
cond-typed true None x f = refl
cond-typed true (Some t) x f = go (join t bool_ty)
  where
    go : (j : Option Ty) → (if is_some j then and_then x f else None) ≡ and_then (and_then j (λ u. x)) f
    go None = refl
    go (Some u) = refl

-- The type under generators.
pub typed-gathered : (gs : Gens) (a : Gathered) (f : Names Ty → Option Ty) →
    if_typed (gathered gs a) f ≡ (if a.typed then and_then (types_under gs a.scope.tys) f else None)
typed-gathered no_gens a f = refl
typed-gathered (over p d gs) a f = typed-gathered gs (over_gathered p d (judged_dom d a.scope) a) f
typed-gathered (from p e gs) a f =
    typed-gathered gs (from_gathered p (judged e a.scope) a) f
    ∙ source-typed a.typed (and_then (type_of e a.scope.tys) member_ty) (λ t. types_under gs (bind_types p t a.scope.tys)) f
typed-gathered (cond e gs) a f =
    typed-gathered gs (cond_gathered (judged e a.scope) a) f
    ∙ cond-typed a.typed (type_of e a.scope.tys) (types_under gs a.scope.tys) f
