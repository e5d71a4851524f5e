use Rattle.std.proofs.Common.{◌≡◌, sym, ap, ◌∙◌, ◌+◌, [], ◌∷◌, ◌++◌, map, take, pos, ◌+ℤ◌, w64, arith}
use mir.Val.{to_z, of_z}
use Rattle.std.proofs.lemmas.Int.{ints}
use Rattle.std.proofs.lemmas.List.{map_push}
use Rattle.ess_semantics.specs.Values.{number}
use Rattle.ess_semantics.specs.Operators.{numbers_from}
use Rattle.ess_core.specs.declared.values.Val.TheVariants as variant
use Rattle.ess_core.specs.ValueViews.{pure_val}
use Rattle.ess_core.proofs.ValueEquations.{pure_num}
use Rattle.ess_values.proofs.KindLemmas.{one_more_index}
use Rattle.ess_eval_operators.proofs.literals.index_of_list.Goals as goal

pub loop-i-preserved : goal.loop-i-preserved
loop-i-preserved c =
    let at = to_z w64 (of_z w64 (to_z w64 c.loop-i.i +ℤ pos 1)) in
    let is : at ≡ pos (c.loop-i.i + 1) = omega (arith, ints) in
    ap (map pure_val) c.in_ok-push.ensures.ok ∙ map_push pure_val c.loop-i.index (variant.Num at)
    ∙ ap (λ l. l ++ pure_val (variant.Num at) ∷ []) c.loop-i.invariant
    ∙ ap (λ v. numbers_from 1 (map pure_val (take c.loop-i.i c.args.items.now)) ++ v ∷ []) (pure_num at ∙ ap number is)
    ∙ sym (one_more_index c.args.items.now c.loop-i.i c.index-items-i.result c.loop-i-test.true)
