-- What is asked of the parts of a statement doesn't depend on whether an objective stands before it.
use Rattle.std.proofs.Common.{◌≡◌, refl, ap, ◌∙◌, Bool, true, false, ◌&&◌, ◌||◌, not, List, [], ◌∷◌}
use Rattle.ess_semantics.specs.Trees.{Pat, Ex, Exs, number_ex, truth_ex, name_ex, node_ex, matrix_ex, comp_ex, cell_ex, seen_ex, no_exs}
use Rattle.ess_semantics.specs.Trees.{more_exs, Gens, no_gens, over, from, cond, Dom, bool_dom, int_dom, name_dom, tuple_dom, record_dom}
use Rattle.ess_semantics.specs.Trees.{matrix_dom, set_dom, mset_dom, function_dom, relation_dom, partition_dom, Doms, no_doms, more_doms}
use Rattle.ess_semantics.specs.Types.{Ty, type_of_dom}
use Rattle.ess_semantics.specs.Typing.{source_ty}
use Rattle.ess_semantics.specs.Lettings.{field_flags}
use Rattle.ess_semantics.specs.Scopes.{Scope, with_bound, Asked, nothing_asked, every, every_operand, every_under, every_dom}
use Rattle.ess_semantics.specs.Scopes.{every_doms, depends_on_no_find, is_fixed, mentions_finds}
use Rattle.ess_semantics.specs.ExpressionJudgements.{are_ordered, is_ordered_source, forgets_order, orders_fit, operands_fit, gens_fit}
use Rattle.ess_semantics.specs.ExpressionJudgements.{dom_orders_fit, doms_orders_fit}

-- The scope, without an objective before it.
abbrev pub calm : Scope → Scope
calm s = record s { objective = false }

-- Two tests that are the same are the same beside each other.
pub and-same : {a b c d : Bool} → a ≡ b → c ≡ d → (a && c) ≡ (b && d)
and-same h k = cc

or-same : {a b c d : Bool} → a ≡ b → c ≡ d → (a || c) ≡ (b || d)
or-same h k = cc

-- What is asked doesn't look at it.
pub record IsBlind (q : Asked) : Type 0 where
  pub draws : (e : Ex) (s : Scope) → q.draws_on_finds e (calm s) ≡ q.draws_on_finds e s
  pub of_ex : (e : Ex) (s : Scope) → q.of_ex e (calm s) ≡ q.of_ex e s
  pub of_dom : (d : Dom) (s : Scope) → q.of_dom d (calm s) ≡ q.of_dom d s
  pub of_generator : (d : Dom) (s : Scope) → q.of_generator d (calm s) ≡ q.of_generator d s
  pub of_pattern : (p : Pat) (t : Ty) (s : Scope) → q.of_pattern p t (calm s) ≡ q.of_pattern p t s

-- Then neither does what is asked of all parts.
module _ (q : Asked) (h : IsBlind q) where
  mutual
    pub every-calm : (e : Ex) (s : Scope) → every q e (calm s) ≡ every q e s
    every-calm (number_ex n) s = h.of_ex (number_ex n) s
    every-calm (truth_ex b) s = h.of_ex (truth_ex b) s
    every-calm (name_ex a) s = h.of_ex (name_ex a) s
    every-calm (node_ex b op es) s = and-same (h.of_ex (node_ex b op es) s) (operands-calm (field_flags op es s.tys) es s)
    every-calm (matrix_ex es d) s = and-same (and-same (h.of_ex (matrix_ex es d) s) (operands-calm [] es s)) (dom-calm d s)
    every-calm (comp_ex e gs) s = and-same (h.of_ex (comp_ex e gs) s) (under-calm gs s (every q e) (λ z. every-calm e z))
    every-calm (cell_ex b n es) s = and-same (h.of_ex (cell_ex b n es) s) (operands-calm [] es s)
    every-calm (seen_ex r d ns es) s = and-same (and-same (h.of_ex (seen_ex r d ns es) s) (dom-calm d s)) (operands-calm [] es s)

    operands-calm : (bs : List Bool) (es : Exs) (s : Scope) → every_operand q bs es (calm s) ≡ every_operand q bs es s
    operands-calm bs no_exs s = refl
    operands-calm [] (more_exs e es) s = and-same (every-calm e s) (operands-calm [] es s)
    operands-calm (true ∷ bs) (more_exs e es) s = operands-calm bs es s
    operands-calm (false ∷ bs) (more_exs e es) s = and-same (every-calm e s) (operands-calm bs es s)

    under-calm : (gs : Gens) (s : Scope) (k : Scope → Bool) → ((z : Scope) → k (calm z) ≡ k z) →
        every_under q gs (calm s) k ≡ every_under q gs s k
    under-calm no_gens s k f = f s
    under-calm (over p d gs) s k f =
        and-same (and-same (and-same (dom-calm d s) (h.of_generator d s)) (h.of_pattern p (type_of_dom d) s))
        (under-calm gs (with_bound false p (type_of_dom d) s) k f)
    under-calm (from p e gs) s k f =
        and-same (and-same (every-calm e s) (h.of_pattern p (source_ty e s.tys) s))
        (ap (λ b. every_under q gs (with_bound b p (source_ty e s.tys) (calm s)) k) (h.draws e s)
        ∙ under-calm gs (with_bound (q.draws_on_finds e s) p (source_ty e s.tys) s) k f)
    under-calm (cond e gs) s k f = and-same (every-calm e s) (under-calm gs s k f)

    pub dom-calm : (d : Dom) (s : Scope) → every_dom q d (calm s) ≡ every_dom q d s
    dom-calm bool_dom s = h.of_dom bool_dom s
    dom-calm (int_dom rs es) s = and-same (h.of_dom (int_dom rs es) s) (operands-calm [] es s)
    dom-calm (name_dom a) s = h.of_dom (name_dom a) s
    dom-calm (tuple_dom ds) s = and-same (h.of_dom (tuple_dom ds) s) (doms-calm ds s)
    dom-calm (record_dom fs ds) s = and-same (h.of_dom (record_dom fs ds) s) (doms-calm ds s)
    dom-calm (matrix_dom is d) s = and-same (and-same (h.of_dom (matrix_dom is d) s) (doms-calm is s)) (dom-calm d s)
    dom-calm (set_dom ms es d) s = and-same (and-same (h.of_dom (set_dom ms es d) s) (operands-calm [] es s)) (dom-calm d s)
    dom-calm (mset_dom ms es d) s = and-same (and-same (h.of_dom (mset_dom ms es d) s) (operands-calm [] es s)) (dom-calm d s)
    dom-calm (function_dom ms es d c) s =
        and-same (and-same (and-same (h.of_dom (function_dom ms es d c) s) (operands-calm [] es s)) (dom-calm d s)) (dom-calm c s)
    dom-calm (relation_dom ms es ds) s = and-same (and-same (h.of_dom (relation_dom ms es ds) s) (operands-calm [] es s)) (doms-calm ds s)
    dom-calm (partition_dom ms es d) s = and-same (and-same (h.of_dom (partition_dom ms es d) s) (operands-calm [] es s)) (dom-calm d s)

    doms-calm : (ds : Doms) (s : Scope) → every_doms q ds (calm s) ≡ every_doms q ds s
    doms-calm no_doms s = refl
    doms-calm (more_doms d ds) s = and-same (dom-calm d s) (doms-calm ds s)

-- ---- fixed expressions

-- Whether an expression is fixed.
pub fixed-calm : (e : Ex) (s : Scope) → is_fixed e (calm s) ≡ is_fixed e s
fixed-calm e s = every-calm (record nothing_asked { of_ex = depends_on_no_find }) blind e s
  where
    here : (e : Ex) (s : Scope) → depends_on_no_find e (calm s) ≡ depends_on_no_find e s
    here (name_ex a) s = refl
    here e s = refl

    blind : IsBlind (record nothing_asked { of_ex = depends_on_no_find })
    blind = record {
      draws = λ e s. refl;
      of_ex = here;
      of_dom = λ d s. refl;
      of_generator = λ d s. refl;
      of_pattern = λ p t s. refl;
    }

-- Whether names bound over it depend on a find.
pub mentions-calm : (e : Ex) (s : Scope) → mentions_finds e (calm s) ≡ mentions_finds e s
mentions-calm e s = ap not (fixed-calm e s)

-- ---- the order of comprehensions

mutual
  ordered-calm : (gs : Gens) (s : Scope) → are_ordered gs (calm s) ≡ are_ordered gs s
  ordered-calm no_gens s = refl
  ordered-calm (over p d gs) s = ordered-calm gs (with_bound false p (type_of_dom d) s)
  ordered-calm (from p e gs) s =
      and-same (source-calm e s)
      (ap (λ b. are_ordered gs (with_bound b p (source_ty e s.tys) (calm s))) (mentions-calm e s)
      ∙ ordered-calm gs (with_bound (mentions_finds e s) p (source_ty e s.tys) s))
  ordered-calm (cond e gs) s = and-same (fixed-calm e s) (ordered-calm gs s)

  source-calm : (e : Ex) (s : Scope) → is_ordered_source e (calm s) ≡ is_ordered_source e s
  source-calm (comp_ex e gs) s = ordered-calm gs s
  source-calm e s = refl

mutual
  pub orders-calm : (c : Bool) (e : Ex) (s : Scope) → orders_fit c e (calm s) ≡ orders_fit c e s
  orders-calm c (number_ex n) s = refl
  orders-calm c (truth_ex b) s = refl
  orders-calm c (name_ex a) s = refl
  orders-calm c (node_ex b op es) s = operands-order-calm (not (forgets_order op)) (field_flags op es s.tys) es s
  orders-calm c (matrix_ex es d) s = and-same (operands-order-calm true [] es s) (dom-orders-calm d s)
  orders-calm c (comp_ex e gs) s =
      and-same (or-same refl (ordered-calm gs s)) (gens-order-calm c gs s (orders_fit true e) (λ z. orders-calm true e z))
  orders-calm c (cell_ex b n es) s = operands-order-calm true [] es s
  orders-calm c (seen_ex r d ns es) s = and-same (dom-orders-calm d s) (operands-order-calm true [] es s)

  operands-order-calm : (c : Bool) (bs : List Bool) (es : Exs) (s : Scope) → operands_fit c bs es (calm s) ≡ operands_fit c bs es s
  operands-order-calm c bs no_exs s = refl
  operands-order-calm c [] (more_exs e es) s = and-same (orders-calm c e s) (operands-order-calm c [] es s)
  operands-order-calm c (true ∷ bs) (more_exs e es) s = operands-order-calm c bs es s
  operands-order-calm c (false ∷ bs) (more_exs e es) s = and-same (orders-calm c e s) (operands-order-calm c bs es s)

  gens-order-calm : (c : Bool) (gs : Gens) (s : Scope) (k : Scope → Bool) → ((z : Scope) → k (calm z) ≡ k z) →
      gens_fit c gs (calm s) k ≡ gens_fit c gs s k
  gens-order-calm c no_gens s k f = f s
  gens-order-calm c (over p d gs) s k f =
      and-same (dom-orders-calm d s) (gens-order-calm c gs (with_bound false p (type_of_dom d) s) k f)
  gens-order-calm c (from p e gs) s k f =
      and-same (orders-calm c e s)
      (ap (λ b. gens_fit c gs (with_bound b p (source_ty e s.tys) (calm s)) k) (mentions-calm e s)
      ∙ gens-order-calm c gs (with_bound (mentions_finds e s) p (source_ty e s.tys) s) k f)
  gens-order-calm c (cond e gs) s k f = and-same (orders-calm true e s) (gens-order-calm c gs s k f)

  pub dom-orders-calm : (d : Dom) (s : Scope) → dom_orders_fit d (calm s) ≡ dom_orders_fit d s
  dom-orders-calm bool_dom s = refl
  dom-orders-calm (int_dom rs es) s = operands-order-calm true [] es s
  dom-orders-calm (name_dom a) s = refl
  dom-orders-calm (tuple_dom ds) s = doms-orders-calm ds s
  dom-orders-calm (record_dom fs ds) s = doms-orders-calm ds s
  dom-orders-calm (matrix_dom is d) s = and-same (doms-orders-calm is s) (dom-orders-calm d s)
  dom-orders-calm (set_dom ms es d) s = and-same (operands-order-calm true [] es s) (dom-orders-calm d s)
  dom-orders-calm (mset_dom ms es d) s = and-same (operands-order-calm true [] es s) (dom-orders-calm d s)
  dom-orders-calm (function_dom ms es d c) s =
      and-same (and-same (operands-order-calm true [] es s) (dom-orders-calm d s)) (dom-orders-calm c s)
  dom-orders-calm (relation_dom ms es ds) s = and-same (operands-order-calm true [] es s) (doms-orders-calm ds s)
  dom-orders-calm (partition_dom ms es d) s = and-same (operands-order-calm true [] es s) (dom-orders-calm d s)

  doms-orders-calm : (ds : Doms) (s : Scope) → doms_orders_fit ds (calm s) ≡ doms_orders_fit ds s
  doms-orders-calm no_doms s = refl
  doms-orders-calm (more_doms d ds) s = and-same (dom-orders-calm d s) (doms-orders-calm ds s)
