-- What is found of operands and of generators is what is asked of their parts, put together.
use Rattle.std.proofs.Common.{◌≡◌, refl, ap, ◌∙◌, Bool, true, false, ◌&&◌, if◌then◌else◌, List, [], ◌∷◌}
use Rattle.std.specs.List.{list_all}
use Rattle.ess_semantics.specs.Trees.{Op, index, Ex, Exs, no_exs, more_exs, Dom, Doms, no_doms, more_doms}
use Rattle.ess_semantics.specs.Typing.{statics, type_of, types_of}
use Rattle.ess_semantics.specs.Lettings.{field_flags}
use Rattle.ess_semantics.specs.Scopes.{Scope, Asked, every, every_operand, every_dom, every_doms, is_fixed}
use Rattle.ess_semantics.specs.DomainJudgements.{are_ints, all_fixed}
use Rattle.ess_semantics.specs.ExpressionJudgements.{orders_fit, operands_fit, dom_orders_fit, doms_orders_fit}
use Rattle.ess_types_judging_laws.specs.Found.{Found, all_well, both, at_place}
use Rattle.ess_types_judging_laws.specs.Judged.{types_in, judged, judged_all, judged_dom, judged_doms}
use Rattle.ess_types_judging_laws.specs.Combined.{flags_of, operands_found, types_are_ints}
use Rattle.ess_types_judging_laws.proofs.Truths.{and_same}

-- The types that were found of operands are their types.
pub types-judged : (es : Exs) (s : Scope) → types_in (judged_all es s) ≡ types_of es s.tys
types-judged no_exs s = refl
types-judged (more_exs e es) s = ap (λ us. type_of e s.tys ∷ us) (types-judged es s)

-- Fields are found from what operands say and from their types.
pub flags-found : (op : Op) (es : Exs) (s : Scope) → flags_of op (statics es) (types_of es s.tys) ≡ field_flags op es s.tys
flags-found (index qs) (more_exs e es) s = refl
flags-found (index qs) no_exs s = refl
flags-found _ es s = refl

-- Numbers are ints where their types are.
pub ints-judged : (es : Exs) (s : Scope) → types_are_ints (types_in (judged_all es s)) ≡ are_ints es s
ints-judged es s = ap types_are_ints (types-judged es s)

-- Numbers are fixed where each is.
pub fixed-judged : (es : Exs) (s : Scope) → list_all (λ j. j.found.fixed) (judged_all es s) ≡ all_fixed es s
fixed-judged no_exs s = refl
fixed-judged (more_exs e es) s = ap (λ b. is_fixed e s && b) (fixed-judged es s)

-- ---- operands

-- One of the findings, as an answer to what is asked of each part of an expression.
pub record Answers (of : Found → Bool) (q : Asked) : Type 0 where
  pub well : of all_well ≡ true
  pub both : (f g : Found) → of (both f g) ≡ of f && of g
  pub placed : (c : Bool) (f : Found) → of (at_place c f) ≡ of f
  pub exs : (e : Ex) (s : Scope) → of (judged e s).found ≡ every q e s
  pub doms : (d : Dom) (s : Scope) → of (judged_dom d s) ≡ every_dom q d s

module _ (of : Found → Bool) (q : Asked) (h : Answers of q) where
  placed-judged : (c : Bool) (e : Ex) (s : Scope) → of (at_place c (judged e s).found) ≡ every q e s
  placed-judged c e s = h.placed c (judged e s).found ∙ h.exs e s

  -- What is asked of operands.
  pub operands-judged : (c : Bool) (bs : List Bool) (es : Exs) (s : Scope) →
      of (operands_found c bs (judged_all es s)) ≡ every_operand q bs es s
  operands-judged c bs no_exs s = h.well
  operands-judged c [] (more_exs e es) s =
      h.both (at_place c (judged e s).found) (operands_found c [] (judged_all es s))
      ∙ and_same _ _ _ _ (placed-judged c e s) (operands-judged c [] es s)
  operands-judged c (true ∷ bs) (more_exs e es) s = operands-judged c bs es s
  operands-judged c (false ∷ bs) (more_exs e es) s =
      h.both (at_place c (judged e s).found) (operands_found c bs (judged_all es s))
      ∙ and_same _ _ _ _ (placed-judged c e s) (operands-judged c bs es s)

  -- What is asked of several domains.
  pub doms-judged : (ds : Doms) (s : Scope) → of (judged_doms ds s) ≡ every_doms q ds s
  doms-judged no_doms s = h.well
  doms-judged (more_doms d ds) s =
      h.both (judged_dom d s) (judged_doms ds s) ∙ and_same _ _ _ _ (h.doms d s) (doms-judged ds s)

-- Order, of operands at a place.
pub placed-order : (c : Bool) (e : Ex) (s : Scope) → (if c then orders_fit true e s else orders_fit false e s) ≡ orders_fit c e s
placed-order true e s = refl
placed-order false e s = refl

pub operands-order : (c : Bool) (bs : List Bool) (es : Exs) (s : Scope) →
    (operands_found c bs (judged_all es s)).in_order ≡ operands_fit c bs es s
operands-order c bs no_exs s = refl
operands-order c [] (more_exs e es) s = and_same _ _ _ _ (placed-order c e s) (operands-order c [] es s)
operands-order c (true ∷ bs) (more_exs e es) s = operands-order c bs es s
operands-order c (false ∷ bs) (more_exs e es) s = and_same _ _ _ _ (placed-order c e s) (operands-order c bs es s)

pub operands-unordered : (c : Bool) (bs : List Bool) (es : Exs) (s : Scope) →
    (operands_found c bs (judged_all es s)).unordered ≡ operands_fit c bs es s
operands-unordered c bs no_exs s = refl
operands-unordered c [] (more_exs e es) s = and_same _ _ _ _ (placed-order c e s) (operands-unordered c [] es s)
operands-unordered c (true ∷ bs) (more_exs e es) s = operands-unordered c bs es s
operands-unordered c (false ∷ bs) (more_exs e es) s = and_same _ _ _ _ (placed-order c e s) (operands-unordered c bs es s)

pub doms-order : (ds : Doms) (s : Scope) → (judged_doms ds s).in_order ≡ doms_orders_fit ds s
doms-order no_doms s = refl
doms-order (more_doms d ds) s = ap (λ b. dom_orders_fit d s && b) (doms-order ds s)

pub doms-unordered : (ds : Doms) (s : Scope) → (judged_doms ds s).unordered ≡ doms_orders_fit ds s
doms-unordered no_doms s = refl
doms-unordered (more_doms d ds) s = ap (λ b. dom_orders_fit d s && b) (doms-unordered ds s)
