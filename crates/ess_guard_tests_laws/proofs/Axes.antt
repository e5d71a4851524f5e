-- The index domain of a matrix term is total as the term is, and the matrix has an item at each of its members.
use Rattle.ess_guard_laws.proofs.AxisItems.{ItemsOver, axis-items}
use Rattle.ess_guard_laws.proofs.Holding.{the-value}
use Rattle.ess_guard_laws.proofs.IndexRows.{some-dom}
use Rattle.ess_guard_laws.specs.Covered.{has_axis}
use Rattle.ess_guard_laws.specs.IndexDomains.{are_plain_bounds, dom_followed, first_index, index_dom, is_plain_bound, one_up_to, plain_axis}
use Rattle.ess_semantics.proofs.Tests.{and-left, and-right}
use Rattle.ess_semantics.specs.Constants.{operand_count}
use Rattle.ess_semantics.specs.Meaning.{Env}
use Rattle.ess_semantics.specs.Trees.{Dom, Ex, Exs, Gens, binary, bool_dom, cell_ex, comp_ex, fun1, int_dom, matrix_ex, matrix_literal, more_exs, name_dom, name_ex, no_exs, node_ex, number_ex, unary, word}
use Rattle.ess_semantics.specs.declared.words.Fun.{Fun}
use Rattle.ess_semantics.specs.declared.words.Op1.{Op1}
use Rattle.ess_semantics.specs.declared.words.Op2.{Op2}
use Rattle.std.proofs.Common.{Bool, None, Option, Some, false, if◌then◌else◌, is_some, pos, refl, subst, sym, true, ◌∙◌, ◌≡◌}
use Rattle.ess_guard_tests_laws.proofs.Places.{T, TA, safe-total, under-map}
use Rattle.ess_guard_tests_laws.specs.TotalButTests.{DomTotalButTests}

-- What is told of the index domain of a term.
abbrev pub AxisOf : Ex → Env → Type 0
AxisOf m env = (d : Dom) × (index_dom m ≡ Some d) × DomTotalButTests d env × ItemsOver m env d

axis : (m : Ex) (env : Env) (d : Dom) → index_dom m ≡ Some d → DomTotalButTests d env → AxisOf m env
axis m env d i t = (d, i, t, axis-items m d env i)

mutual
  bound-total : (e : Ex) (env : Env) → is_plain_bound e ≡ true → T e env
  bound-total (number_ex n) env t = tt
  bound-total (name_ex a) env t = tt
  bound-total (cell_ex b n es) env t = bounds-total es env t
  bound-total (node_ex false (unary Op1.Minus) es) env t = safe-total false (unary Op1.Minus) es env refl (bounds-total es env t)
  bound-total (node_ex false (binary Op2.Plus) es) env t = safe-total false (binary Op2.Plus) es env refl (bounds-total es env t)
  bound-total (node_ex false (binary Op2.Minus) es) env t = safe-total false (binary Op2.Minus) es env refl (bounds-total es env t)
  bound-total (node_ex false (binary Op2.Times) es) env t = safe-total false (binary Op2.Times) es env refl (bounds-total es env t)
  bound-total e env t = cc

  bounds-total : (es : Exs) (env : Env) → are_plain_bounds es ≡ true → TA es env
  bounds-total no_exs env t = tt
  bounds-total (more_exs e es) env t = (
    bound-total e env (and-left (is_plain_bound e) (are_plain_bounds es) t),
    bounds-total es env (and-right (is_plain_bound e) (are_plain_bounds es) t),
  )

-- A plain index domain is total.
plain-total : (o : Option Dom) (d : Dom) (env : Env) → plain_axis o ≡ Some d → DomTotalButTests d env
plain-total (Some bool_dom) d env e = subst (λ z. DomTotalButTests z env) (some-dom bool_dom d e) tt
plain-total (Some (int_dom rs es)) d env e = go (are_plain_bounds es) refl e
  where
    go : (t : Bool) → are_plain_bounds es ≡ t → (if t then Some (int_dom rs es) else None) ≡ Some d → DomTotalButTests d env
    go true t e = subst (λ z. DomTotalButTests z env) (some-dom (int_dom rs es) d e) (bounds-total es env t)
    go false t e = cc
plain-total (Some (name_dom a)) d env e = subst (λ z. DomTotalButTests z env) (some-dom (name_dom a) d e) tt
plain-total o d env e = cc

comp-axis : (b : Ex) (gs : Gens) (env : Env) → T (comp_ex b gs) env →
    DomTotalButTests (one_up_to (fun1 false Fun.Sum (comp_ex (number_ex (pos 1)) gs))) env
comp-axis b gs env t = (
  tt,
  (
    safe-total false (word Fun.Sum) (more_exs (comp_ex (number_ex (pos 1)) gs) no_exs) env refl
        (under-map gs env _ _ (λ h q. tt) t, tt),
    tt,
  ),
)

followed-axis : (m : Ex) (env : Env) → index_dom m ≡ plain_axis (first_index (dom_followed m)) → is_some (index_dom m) ≡ true → AxisOf m env
followed-axis m env i t = let r =
    the-value (index_dom m) t in axis m env r.0 r.1 (plain-total (first_index (dom_followed m)) r.0 env (sym i ∙ r.1))

-- The index domain of a term that tells one.
pub axis-of : (m : Ex) (env : Env) → has_axis m ≡ true → T m env → AxisOf m env
axis-of (node_ex false matrix_literal es) env t u =
    axis (node_ex false matrix_literal es) env (one_up_to (number_ex (pos (operand_count es)))) refl (tt, (tt, tt))
axis-of (comp_ex b gs) env t u = axis (comp_ex b gs) env _ refl (comp-axis b gs env u)
axis-of (matrix_ex es d) env t u = axis (matrix_ex es d) env d refl u.2
axis-of m env t u = followed-axis m env refl t
