-- In conditions on indices no node lacks its mark, where forms tell the index domains; so in each operator's own conditions.
use Rattle.std.proofs.Common.{◌≡◌, refl, subst, Bool, true, false, if◌then◌else◌, List, [], ◌∷◌, pos, Option, Some, None, is_some}
use Rattle.ess_semantics.specs.declared.words.Op1.{Op1}
use Rattle.ess_semantics.specs.declared.words.Op2.{Op2}
use Rattle.ess_semantics.specs.declared.words.Fun.{Fun}
use Rattle.ess_semantics.specs.Lists.{all_some}
use Rattle.ess_semantics.specs.Values.{Text}
use Rattle.ess_semantics.specs.Names.{Names}
use Rattle.ess_semantics.specs.Trees.{Step, by_value, to_component, to_field, Op, unary, binary, word, index, function_literal, partition_literal, matrix_literal, both_ends, name_pat, Ex, Exs, number_ex, name_ex, node_ex, matrix_ex, comp_ex, cell_ex, no_exs, more_exs, no_gens, over, Dom, bool_dom, int_dom, name_dom}
use Rattle.ess_semantics.specs.Types.{Ty}
use Rattle.ess_semantics.specs.Typing.{types_of}
use Rattle.ess_semantics.proofs.Tests.{and-left, and-right}
use Rattle.ess_guard_laws.specs.Origins.{Origin, is_sure}
use Rattle.ess_guard_laws.specs.IndexDomains.{dom_followed, first_index, is_plain_bound, are_plain_bounds, plain_axis, index_dom}
use Rattle.ess_guard_laws.specs.Conditions.{in_dom, at_step, index_conditions, path_conditions, own}
use Rattle.ess_guard_laws.specs.Covered.{has_axis, path_has_axes, covers}
use Rattle.ess_guard_laws.proofs.IndexRows.{some-dom}
use Rattle.ess_guard_marks_laws.proofs.FullMarks.{Full, AllFull, DomFull, FullConds}
use Rattle.ess_guard_marks_laws.proofs.NoBooleans.{never, minus-one, plus-two, minus-two, times-two, sum-of, to-set-of}
use Rattle.ess_guard_marks_laws.proofs.FullConditions.{full-append, full-unless, number-full, quotient-full, power-full, some-item-full, image-full, party-full, function-full, partition-full}

-- That an index lies in a domain.
in-dom-full : (x : Text) (i : Ex) (d : Dom) (g : Names Ty) → Full i g → DomFull d g → Full (in_dom x i d) g
in-dom-full x i (int_dom (both_ends ∷ []) (more_exs a (more_exs b no_exs))) g f m =
    (tt, ((tt, (number-full [] a g m.0, (f, tt))), ((tt, (f, (number-full [] b g m.1.0, tt))), tt)))
in-dom-full x i d g f m = (
  tt,
  (
    f,
    (
      (
        never (word Fun.ToSet) to-set-of (all_some (types_of (more_exs (comp_ex (name_ex x) (over (name_pat x) d no_gens)) no_exs) g)),
        (((m, tt), tt), tt),
      ),
      tt,
    ),
  ),
)

-- ---- index domains

mutual
  bound-full : (e : Ex) (g : Names Ty) → is_plain_bound e ≡ true → Full e g
  bound-full (number_ex n) g t = tt
  bound-full (name_ex a) g t = tt
  bound-full (cell_ex b n es) g t = bounds-full es g t
  bound-full (node_ex false (unary Op1.Minus) es) g t = (never (unary Op1.Minus) minus-one (all_some (types_of es g)), bounds-full es g t)
  bound-full (node_ex false (binary Op2.Plus) es) g t = (never (binary Op2.Plus) plus-two (all_some (types_of es g)), bounds-full es g t)
  bound-full (node_ex false (binary Op2.Minus) es) g t = (never (binary Op2.Minus) minus-two (all_some (types_of es g)), bounds-full es g t)
  bound-full (node_ex false (binary Op2.Times) es) g t = (never (binary Op2.Times) times-two (all_some (types_of es g)), bounds-full es g t)
  bound-full e g t = cc

  bounds-full : (es : Exs) (g : Names Ty) → are_plain_bounds es ≡ true → AllFull es g
  bounds-full no_exs g t = tt
  bounds-full (more_exs e es) g t = (
    bound-full e g (and-left (is_plain_bound e) (are_plain_bounds es) t),
    bounds-full es g (and-right (is_plain_bound e) (are_plain_bounds es) t),
  )

plain-full : (o : Option Dom) (d : Dom) (g : Names Ty) → plain_axis o ≡ Some d → DomFull d g
plain-full (Some bool_dom) d g e = subst (λ z. DomFull z g) (some-dom bool_dom d e) tt
plain-full (Some (int_dom rs es)) d g e = go (are_plain_bounds es) refl e
  where
    go : (t : Bool) → are_plain_bounds es ≡ t → (if t then Some (int_dom rs es) else None) ≡ Some d → DomFull d g
    go true t e = subst (λ z. DomFull z g) (some-dom (int_dom rs es) d e) (bounds-full es g t)
    go false t e = cc
plain-full (Some (name_dom a)) d g e = subst (λ z. DomFull z g) (some-dom (name_dom a) d e) tt
plain-full o d g e = cc

-- What is told of the index domain of a term.
abbrev AxisFull : Ex → Names Ty → Type 0
AxisFull m g = (d : Dom) → index_dom m ≡ Some d → DomFull d g

axis-full : (m : Ex) (g : Names Ty) → Full m g → AxisFull m g
axis-full (node_ex false matrix_literal es) g f d e = subst (λ z. DomFull z g) (some-dom _ d e) (tt, (tt, tt))
axis-full (comp_ex b gs) g f d e = subst (λ z. DomFull z g) (some-dom _ d e)
    (tt, ((never (word Fun.Sum) sum-of (all_some (types_of (more_exs (comp_ex (number_ex (pos 1)) gs) no_exs) g)), ((f.0, tt), tt)), tt))
axis-full (matrix_ex es c) g f d e = subst (λ z. DomFull z g) (some-dom c d e) f.1
axis-full m g f d e = plain-full (first_index (dom_followed m)) d g e

picked-full : (q : Step) (m : Ex) (is : Exs) (g : Names Ty) → AxisFull (at_step q m is) g
picked-full q m is g d e = plain-full (first_index (dom_followed (at_step q m is))) d g e

-- ---- paths

step-full : (k : Names Origin) (x : Text) (m i : Ex) (g : Names Ty) (o : Option Dom) → index_dom m ≡ o → is_some o ≡ true → AxisFull m g →
    Full i g → FullConds (index_conditions k x o m i) g
step-full k x m i g None e t a f = cc
step-full k x m i g (Some d) e t a f = full-unless (is_sure k i d) (in_dom x i d) g (in-dom-full x i d g f (a d e))

path-full : (k : Names Origin) (x : Text) (m : Ex) (qs : List Step) (is : Exs) (g : Names Ty) → path_has_axes m qs is ≡ true →
    AxisFull m g → AllFull is g → FullConds (path_conditions k x m qs is) g
path-full k x m [] is g t a f = tt
path-full k x m (by_value ∷ qs) no_exs g t a f = tt
path-full k x m (by_value ∷ qs) (more_exs i is) g t a f =
    full-append (index_conditions k x (index_dom m) m i) (path_conditions k x (at_step by_value m (more_exs i no_exs)) qs is) g
    (step-full k x m i g (index_dom m) refl (and-left (has_axis m) (path_has_axes (at_step by_value m (more_exs i no_exs)) qs is) t) a f.0)
    (path-full k x (at_step by_value m (more_exs i no_exs)) qs is g
    (and-right (has_axis m) (path_has_axes (at_step by_value m (more_exs i no_exs)) qs is) t)
    (picked-full by_value m (more_exs i no_exs) g) f.1)
path-full k x m (to_component c ∷ qs) is g t a f =
    path-full k x (at_step (to_component c) m no_exs) qs is g t (picked-full (to_component c) m no_exs g) f
path-full k x m (to_field b ∷ qs) is g t a f =
    path-full k x (at_step (to_field b) m no_exs) qs is g t (picked-full (to_field b) m no_exs g) f

-- ---- all operators

-- The conditions of an operator itself.
pub own-full : (k : Names Origin) (x y : Text) (op : Op) (es : Exs) (g : Names Ty) → covers op es ≡ true → AllFull es g →
    FullConds (own k x y op es) g
own-full k x y (binary Op2.Div) (more_exs a (more_exs b no_exs)) g v f = quotient-full k b g f.1.0
own-full k x y (binary Op2.Mod) (more_exs a (more_exs b no_exs)) g v f = quotient-full k b g f.1.0
own-full k x y (binary Op2.Pow) (more_exs a (more_exs b no_exs)) g v f = power-full k a b g f.0 f.1.0
own-full k x y (word Fun.Min) (more_exs s no_exs) g v f = some-item-full x s g f.0
own-full k x y (word Fun.Max) (more_exs s no_exs) g v f = some-item-full x s g f.0
own-full k x y (word Fun.Image) (more_exs h (more_exs a no_exs)) g v f = image-full k h a g f.0 f.1.0
own-full k x y (word Fun.Party) (more_exs a (more_exs p no_exs)) g v f = party-full a p g f.0 f.1.0
own-full k x y (index qs) no_exs g v f = tt
own-full k x y (index qs) (more_exs m is) g v f = path-full k x m qs is g v (axis-full m g f.0) f.1
own-full k x y function_literal es g v f = function-full es g f
own-full k x y partition_literal es g v f = partition-full x y es g f
own-full k x y op es g v f = tt
