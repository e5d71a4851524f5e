use Rattle.std.proofs.Common.{rules, ◌≡◌, ◌∙◌, ◌∷◌, ◌++◌, map, true, false, Err, option_map}
use Rattle.eprime_eval_kinds.specs.KindedViews.{pure_kex, pure_kgen, pure_kdom}
use Rattle.eprime_eval_scalars.specs.ScalarViews.{pure_scalar}
use Rattle.eprime_eval.specs.Environments.{env_at}
use Rattle.eprime_eval.specs.Items.{swept}
use Rattle.eprime_eval_scalars.specs.declared.Stop.TheVariants.{Big}
use Rattle.eprime_eval.specs.MemberViews.{member_values}
use Rattle.eprime_eval_kinds.specs.declared.tree.KGen.TheVariants.{Over}
use Rattle.eprime_eval.proofs.Lists.{listed_at, swept_at}
use Rattle.eprime_eval.proofs.Generators.{large_over_there, over_front, sweep_more, sweep_stops, large_at, large_more}
use Rattle.eprime_eval.proofs.+value.Goals as goal

pub generating::runs_over-returns-in-Some-clause-big : goal.generating::runs_over-returns-in-Some-clause-big
generating::runs_over-returns-in-Some-clause-big t c = λ h.
    large_over_there (pure_kex c.args.known.now.names c.args.item.now) c.args.name.now (pure_kdom c.args.known.now.names c.args.dom.now)
    (map (pure_kgen c.args.known.now.names) c.args.rest.now) c.args.known.now
    c.args.bound.now c.domain_members.new.bound c.in_ok-vals.field-0 c.in-Some.vals
    c.in_ok-vals.ensures.ok c.in-Some.is c.in_ok-vals.ensures.kept (c.sweep.ensures.big h)

pub generating::sweep-loop-place-preserved : goal.generating::sweep-loop-place-preserved
generating::sweep-loop-place-preserved t c =
    let ns = c.args.known.now.names in
    let y : c.in_ok-found.found ≡ true = search rules in
    record {
      bound_same = c.in_ok-found.ensures.kept ∙ c.loop-place.invariant.bound_same;
      named = c.in_ok-found.ensures.named ∙ c.loop-place.invariant.named;
      left = sweep_more (pure_kex ns c.args.item.now) c.args.name.now c.loop-place.own (member_values c.args.vals.now) c.loop-place.place _
          (map (pure_kgen ns) c.args.rest.now) c.args.known.now c.args.bound.now c.loop-place.bound c.in_ok-found.found
          (map pure_scalar c.loop-place.items) (map pure_scalar c.point.new.items)
          (option_map (λ xs. map pure_scalar c.args.items.now ++ xs) (swept (pure_kex ns c.args.item.now) c.args.name.now (member_values c.args.vals.now)
          (map (pure_kgen ns) c.args.rest.now) (env_at c.args.known.now c.args.bound.now))) c.in_ok-value.ensures
          c.loop-place.invariant.named c.loop-place.invariant.bound_same y c.in_ok-found.ensures.ok c.loop-place.invariant.left;
      large_left = λ h. c.loop-place.invariant.large_left
          (large_more (pure_kex ns c.args.item.now) c.args.name.now (member_values c.args.vals.now) c.loop-place.place _
          (map (pure_kgen ns) c.args.rest.now) (env_at c.args.known.now c.args.bound.now) c.in_ok-value.ensures h);
    }

pub generating::sweep-returns-then-not-found-clause-ok : goal.generating::sweep-returns-then-not-found-clause-ok
generating::sweep-returns-then-not-found-clause-ok t c =
    let ns = c.args.known.now.names in
    let y : c.in_ok-found.found ≡ false = search rules in
    sweep_stops (pure_kex ns c.args.item.now) c.args.name.now c.loop-place.own (member_values c.args.vals.now) c.loop-place.place _
    (map (pure_kgen ns) c.args.rest.now) c.args.known.now c.args.bound.now c.loop-place.bound c.in_ok-found.found
    (map pure_scalar c.loop-place.items) (map pure_scalar c.point.new.items) (map pure_scalar c.args.items.now)
    (swept (pure_kex ns c.args.item.now) c.args.name.now (member_values c.args.vals.now) (map (pure_kgen ns) c.args.rest.now)
    (env_at c.args.known.now c.args.bound.now))
    c.in_ok-value.ensures c.loop-place.invariant.named c.loop-place.invariant.bound_same y
    c.in_ok-found.ensures.ok c.loop-place.invariant.left

pub generating::sweep-returns-in_err-found-clause-big : goal.generating::sweep-returns-in_err-found-clause-big
generating::sweep-returns-in_err-found-clause-big t c = λ h.
    let ns = c.args.known.now.names in
    let k : c.point.result ≡ Err Big = first_of (search rules, cc) in
    c.loop-place.invariant.large_left
    (large_at (pure_kex ns c.args.item.now) c.args.name.now c.loop-place.own (member_values c.args.vals.now) c.loop-place.place _
    (map (pure_kgen ns) c.args.rest.now) c.args.known.now c.args.bound.now c.loop-place.bound c.in_ok-value.ensures
    c.loop-place.invariant.named c.loop-place.invariant.bound_same
    (c.point.ensures.big k))

pub evaluating::list_at-returns-in_ok-there-in-Items-clause-ok : goal.evaluating::list_at-returns-in_ok-there-in-Items-clause-ok
evaluating::list_at-returns-in_ok-there-in-Items-clause-ok t c =
    listed_at c.in_ok-there-in-Items.there (map pure_scalar c.args.items.now) (map pure_scalar c.values_at.new.vals) c.args.known.now.names c.args.list.now
    c.in-Items.exs c.as_slice.result.now (env_at c.args.known.now c.args.bound.now) c.in-Items.is c.as_slice.ensures c.in_ok-there-in-Items.ensures.ok

pub evaluating::list_at-returns-in_ok-there-in-Comp-clause-ok : goal.evaluating::list_at-returns-in_ok-there-in-Comp-clause-ok
evaluating::list_at-returns-in_ok-there-in-Comp-clause-ok t c =
    swept_at c.in_ok-there-in-Comp.there (map pure_scalar c.args.items.now) (map pure_scalar c.runs.new.items) c.args.known.now.names c.args.list.now
    c.in-Comp.item c.get.result.now c.in-Comp.gens c.as_slice-in-Comp.result.now (env_at c.args.known.now c.args.bound.now) c.in-Comp.is c.get.ensures
    c.as_slice-in-Comp.ensures c.in_ok-there-in-Comp.ensures.ok

pub generating::runs-returns-in-Some-Over-default-clause-big : goal.generating::runs-returns-in-Some-Over-default-clause-big
generating::runs-returns-in-Some-Over-default-clause-big t c =
    let front : c.args.gens.now ≡ Over c.in-Some-Over-default.name c.in-Some-Over-default.dom ∷ c.in-Some-Over-default.rest.now = first_of (search rules, cc) in
    let named : c.as_it_is.result.now ≡ c.in-Some-Over-default.name = first_of (search rules, cc) in
    let same : c.get-in-Some-Over-default.result.now ≡ c.in-Some-Over-default.dom = first_of (search rules, cc) in
    λ h. over_front c.args.known.now.names c.args.item.now c.in-Some-Over-default.name c.as_it_is.result.now c.in-Some-Over-default.dom
    c.get-in-Some-Over-default.result.now c.args.gens.now c.in-Some-Over-default.rest.now (env_at c.args.known.now c.args.bound.now) front named same
    (c.runs_over.ensures.big h)
