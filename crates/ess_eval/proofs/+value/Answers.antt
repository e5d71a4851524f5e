use Rattle.std.proofs.Common.{rules, ◌≡◌, ◌<◌, ◌∙◌, subst, refl, IfOk, sym, ap, arith, get_or, length, true, map, ◌++◌, ◌∷◌, []}
use Rattle.ess_semantics.specs.Values.{number}
use Rattle.ess_semantics.specs.Trees.{name_pat, int_dom}
use Rattle.ess_core.specs.ValueViews.{pure_val}
use Rattle.ess_core.specs.TreeViews.{pure_ex, pure_pat, pure_dom, pure_gen, pure_range, exs_of, words_of, within}
use Rattle.ess_eval.specs.Environments.{env_at}
use Rattle.ess_eval.specs.Folds.{Taken, pure_fold}
use Rattle.ess_eval.proofs.Generators.{large_over_there, large_from_there, over_there, numbers_there, numbers_large_there, large_named_ints}
use Rattle.ess_eval.proofs.Sweeps.{sweep_more, large_more, name_more, name_large_more, numbers_more_val, numbers_large_past}
use Rattle.ess_eval.proofs.+value.Goals as goal

pub generating::runs_over-returns-in-Int-clause-big : goal.generating::runs_over-returns-in-Int-clause-big
generating::runs_over-returns-in-Int-clause-big t c = λ h.
    large_named_ints (pure_ex c.args.item.now) c.args.pat.now c.args.dom.now c.in-Name.name c.in-Int.ranges c.as_slice.result.now
    (map pure_gen c.args.rest.now) (env_at c.args.env.now c.args.bound.now) c.in-Name.is c.in-Int.is
    c.as_slice.ensures (c.runs_numbers.ensures.big h)

pub generating::runs_over-returns-in-Some-clause-ok : goal.generating::runs_over-returns-in-Some-clause-ok
generating::runs_over-returns-in-Some-clause-ok t c =
    subst (λ o. IfOk c.sweep.result (λ t. Taken t (pure_fold c.args.fold.now) (pure_fold c.sweep.new.fold) o))
    (over_there (pure_ex c.args.item.now) (pure_pat c.args.pat.now) (pure_dom c.args.dom.now) (map pure_gen c.args.rest.now) c.args.env.now
    c.args.bound.now c.domain_members.new.bound c.in_ok-vals.field-0 c.in-Some.vals c.in_ok-vals.ensures.ok c.in-Some.is
    c.in_ok-vals.ensures.kept)
    c.sweep.ensures.ok

pub generating::runs_over-returns-in-Some-clause-big : goal.generating::runs_over-returns-in-Some-clause-big
generating::runs_over-returns-in-Some-clause-big t c = λ h.
    large_over_there (pure_ex c.args.item.now) (pure_pat c.args.pat.now) (pure_dom c.args.dom.now) (map pure_gen c.args.rest.now) c.args.env.now
    c.args.bound.now c.domain_members.new.bound c.in_ok-vals.field-0 c.in-Some.vals c.in-Some.vals
    c.in_ok-vals.ensures.ok c.in-Some.is refl c.in_ok-vals.ensures.kept (c.sweep.ensures.big h)

pub generating::runs_numbers-returns-in-Some-clause-ok : goal.generating::runs_numbers-returns-in-Some-clause-ok
generating::runs_numbers-returns-in-Some-clause-ok t c =
    subst (λ o. IfOk c.sweep_numbers.result (λ t. Taken t (pure_fold c.args.fold.now) (pure_fold c.sweep_numbers.new.fold) o))
    (numbers_there (pure_ex c.args.item.now) (name_pat c.args.name.now)
    (int_dom (words_of (map pure_range c.args.ranges.now)) (exs_of (within (map pure_range c.args.ranges.now))))
    (map pure_gen c.args.rest.now) c.args.env.now c.args.bound.now c.numbers_at.new.bound c.in_ok-numbers.field-0
    c.as_slice.result.now c.in-Some.numbers c.in_ok-numbers.ensures.ok c.in-Some.is c.as_slice.ensures c.in_ok-numbers.ensures.kept)
    c.sweep_numbers.ensures.ok

pub generating::runs_numbers-returns-in-Some-clause-big : goal.generating::runs_numbers-returns-in-Some-clause-big
generating::runs_numbers-returns-in-Some-clause-big t c = λ h.
    numbers_large_there (pure_ex c.args.item.now) (name_pat c.args.name.now)
    (int_dom (words_of (map pure_range c.args.ranges.now)) (exs_of (within (map pure_range c.args.ranges.now))))
    (map pure_gen c.args.rest.now) c.args.env.now c.args.bound.now c.numbers_at.new.bound c.in_ok-numbers.field-0
    c.as_slice.result.now c.in-Some.numbers c.in_ok-numbers.ensures.ok c.in-Some.is c.as_slice.ensures c.in_ok-numbers.ensures.kept
    (c.sweep_numbers.ensures.big h)

pub sweeping::sweep_parts-loop-val-preserved : goal.sweeping::sweep_parts-loop-val-preserved
sweeping::sweep_parts-loop-val-preserved t c =
    let v = c.val-item.result in
    let i = c.loop-val.val-index in
    let l : i < length c.args.vals.now = search rules in
    let g : v ≡ get_or c.args.vals.now i v = search rules in
    let y : c.in_ok-point.field-0 ≡ true = search rules in
    record {
      bound_same = c.in_ok-point.ensures.kept ∙ c.loop-val.invariant.bound_same;
      left = sweep_more (pure_ex c.args.item.now) (pure_pat c.args.pat.now) c.args.vals.now i v (map pure_gen c.args.rest.now) c.args.env.now
          c.args.bound.now c.loop-val.bound c.in_ok-point.field-0 (pure_fold c.loop-val.fold) (pure_fold c.point.new.fold) _ l g
          c.loop-val.invariant.bound_same y c.in_ok-point.ensures.ok c.loop-val.invariant.left;
      large_left = λ h. c.loop-val.invariant.large_left
          (large_more (pure_ex c.args.item.now) (pure_pat c.args.pat.now) c.args.vals.now i v (map pure_gen c.args.rest.now)
          (env_at c.args.env.now c.args.bound.now) l g h);
    }

pub sweeping::sweep_name-loop-val-preserved : goal.sweeping::sweep_name-loop-val-preserved
sweeping::sweep_name-loop-val-preserved t c =
    let v = c.in-Some.val in
    let l : c.loop-val.left ≡ c.pop.new.self ++ v ∷ [] = search rules in
    let y : c.in_ok-turn.field-0 ≡ true = search rules in
    record {
      bound_same = c.in_ok-turn.ensures.kept ∙ c.loop-val.invariant.bound_same;
      named = c.in_ok-turn.ensures.named ∙ c.loop-val.invariant.named;
      left = name_more (pure_ex c.args.item.now) c.args.name.now c.loop-val.own c.loop-val.left c.pop.new.self v
          (map pure_gen c.args.rest.now) c.args.env.now c.args.bound.now c.loop-val.bound c.in_ok-turn.field-0
          (pure_fold c.loop-val.fold) (pure_fold c.turn.new.fold) _ l
          c.loop-val.invariant.bound_same c.loop-val.invariant.named y c.in_ok-turn.ensures.ok c.loop-val.invariant.left;
      large_left = λ h. c.loop-val.invariant.large_left
          (name_large_more (pure_ex c.args.item.now) (name_pat c.args.name.now) c.loop-val.left c.pop.new.self v
          (map pure_gen c.args.rest.now) (env_at c.args.env.now c.args.bound.now) l h);
    }

pub sweeping::sweep_numbers-loop-number-preserved : goal.sweeping::sweep_numbers-loop-number-preserved
sweeping::sweep_numbers-loop-number-preserved t c =
    let i = c.loop-number.number-index in
    let l : i < length c.args.numbers.now = search rules in
    let y : c.in_ok-turn.field-0 ≡ true = search rules in
    record {
      bound_same = c.in_ok-turn.ensures.kept ∙ c.loop-number.invariant.bound_same;
      named = c.in_ok-turn.ensures.named ∙ c.loop-number.invariant.named;
      left = numbers_more_val (pure_ex c.args.item.now) c.args.name.now c.loop-number.own c.args.numbers.now i _
          (map pure_gen c.args.rest.now) c.args.env.now c.args.bound.now c.loop-number.bound c.in_ok-turn.field-0
          (pure_fold c.loop-number.fold) (pure_fold c.turn.new.fold) _ l (search rules)
          c.loop-number.invariant.bound_same c.loop-number.invariant.named y c.in_ok-turn.ensures.ok c.loop-number.invariant.left;
      large_left = λ h. c.loop-number.invariant.large_left
          (numbers_large_past (pure_ex c.args.item.now) (name_pat c.args.name.now) c.args.numbers.now i (map pure_gen c.args.rest.now)
          (env_at c.args.env.now c.args.bound.now) l h);
    }

pub generating::runs_from-returns-in-Some-clause-big : goal.generating::runs_from-returns-in-Some-clause-big
generating::runs_from-returns-in-Some-clause-big t c = λ h.
    large_from_there (pure_ex c.args.item.now) (pure_pat c.args.pat.now) (pure_ex c.args.source.now) (map pure_gen c.args.rest.now) c.args.env.now
    c.args.bound.now c.source_values.new.bound c.in_ok-vals.field-0 c.in-Some.vals c.in-Some.vals
    c.in_ok-vals.ensures.ok c.in-Some.is refl c.in_ok-vals.ensures.kept (c.sweep.ensures.big h)
