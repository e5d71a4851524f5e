-- The function of pairs that are sorted, each once.
use Rattle.std.proofs.Common.{◌≡◌, refl, sym, ap, ◌∙◌, true, false, not, List, [], ◌∷◌, map, Some}
use Rattle.std.specs.Ordering.{is_lt, ordering_then, ordering_reverse}
use Rattle.std.specs.declared.cmp.Ordering.{Ordering}
use Rattle.std.specs.declared.cmp.Ordering.TheVariants.{Less, Equal, Greater}
use Rattle.ess_semantics.specs.Lists.{when}
use Rattle.ess_semantics.specs.Values.{Text, Value, node, a_function, of_list, pair, from_of, itself}
use Rattle.ess_semantics.specs.Order.{order, below}
use Rattle.ess_semantics.specs.Collections.{sorted_once, rises, rises_weakly, no_twice, function_of, has_double_argument}
use Rattle.ess_semantics.proofs.Tests.{and-left, and-right, and-both}
use Rattle.ess_semantics.proofs.Orders.{order_total}
use Rattle.ess_semantics.proofs.Sorting.{sorted_once-rises}
use Rattle.ess_core.specs.declared.values.Pair.{Pair}
use Rattle.ess_core.specs.declared.values.Val.TheVariants.{Function, rolls-Function}
use Rattle.ess_core.specs.declared.values.Val.TheViews.{out-Pair, roll-out-Pair}
use Rattle.ess_core.specs.declared.values.Val.TheOpen.{Val-F}
use Rattle.ess_core.specs.declared.values.Val.TheFolds.{fold-roll-Val, fold-roll-Pair}
use Rattle.ess_core.specs.ValueViews.{pure_val, pure_pair, val_step, field_val_step, pair_step}
use Rattle.ess_values.specs.Neighbours.{neighbours_differ}
use Rattle.ess_values.proofs.Repeated.{twice-mapped, twice-neighbours}

pure_function : (rs : List Pair) → pure_val (Function rs) ≡ node a_function (of_list (map pure_pair rs))
pure_function rs = ap pure_val (sym (rolls-Function rs)) ∙ fold-roll-Val Value (Text × Value) Value val_step field_val_step pair_step (Val-F.Function rs)

pub pair_is : (p : Pair) → pure_pair p ≡ pair (pure_val (out-Pair p).from) (pure_val (out-Pair p).to)
pair_is p = ap pure_pair (sym (roll-out-Pair p)) ∙ fold-roll-Pair Value (Text × Value) Value val_step field_val_step pair_step (out-Pair p)

-- of two pairs in order the arguments don't fall
from-rises : (a b c d : Value) → below (pair a b) (pair c d) ≡ true → not (below c a) ≡ true
from-rises a b c d h = go (order a c) refl h
  where
    go : (o : Ordering) → order a c ≡ o → is_lt (ordering_then o (ordering_then (order b d) Equal)) ≡ true → not (below c a) ≡ true
    go Less e h = ap (λ o. not (is_lt o)) (order_total.antisymm c a ∙ ap ordering_reverse e)
    go Equal e h = ap (λ o. not (is_lt o)) (order_total.antisymm c a ∙ ap ordering_reverse e)
    go Greater e h = cc

next-argument : (p q : Pair) → below (pure_pair p) (pure_pair q) ≡ true → not (below (from_of (pure_pair q)) (from_of (pure_pair p))) ≡ true
next-argument p q h = let k = rw (pair_is p, pair_is q) at h in rw (pair_is p, pair_is q) (from-rises (pure_val (out-Pair p).from) (pure_val (out-Pair p).to) (pure_val (out-Pair q).from) (pure_val (out-Pair q).to) k)

arguments-rise : (rs : List Pair) → rises itself (map pure_pair rs) ≡ true → rises_weakly (map from_of (map pure_pair rs)) ≡ true
arguments-rise [] h = refl
arguments-rise (p ∷ []) h = refl
arguments-rise (p ∷ q ∷ rs) h =
    and-both _ _ (next-argument p q (and-left (below (pure_pair p) (pure_pair q)) (rises itself (map pure_pair (q ∷ rs))) h))
    (arguments-rise (q ∷ rs) (and-right (below (pure_pair p) (pure_pair q)) (rises itself (map pure_pair (q ∷ rs))) h))

told : (ps : List Value) (rs : List Pair) → map pure_pair rs ≡ sorted_once ps → no_twice from_of (sorted_once ps) ≡ neighbours_differ (map from_of (map pure_pair rs))
told ps rs e =
    ap (no_twice from_of) (sym e) ∙ twice-mapped from_of (map pure_pair rs)
    ∙ twice-neighbours (map from_of (map pure_pair rs)) (arguments-rise rs (ap (rises itself) e ∙ sorted_once-rises ps))

pub function_there : (ps : List Value) (rs : List Pair) → map pure_pair rs ≡ sorted_once ps → neighbours_differ (map from_of (map pure_pair rs)) ≡ true → function_of ps ≡ Some (pure_val (Function rs))
function_there ps rs e d =
    ap (λ b. when (not (not b)) (node a_function (of_list (sorted_once ps)))) (told ps rs e ∙ d)
    ∙ ap (λ qs. Some (node a_function (of_list qs))) (sym e) ∙ ap Some (sym (pure_function rs))

pub double_there : (ps : List Value) (rs : List Pair) → map pure_pair rs ≡ sorted_once ps → neighbours_differ (map from_of (map pure_pair rs)) ≡ false → has_double_argument ps ≡ true
double_there ps rs e d = ap not (told ps rs e ∙ d)
