use Rattle.std.proofs.Common.{rules, ◌≡◌, ◌-◌, ◌<◌, length, get_or}
use Rattle.ess_model_shown.specs.Tables.{pure_shows}
use Rattle.ess_model_shows.proofs.EnteringLaws.{views_entered}
use Rattle.ess_model_shows.proofs.entering.enter_views.Goals as goal

pub returns : goal.returns
returns c =
    let vs = c.args.views.now in
    let v = c.index-views-0.result in
    let w = c.index-views-views.result in
    let some : 0 < length vs = search rules in
    let first : v ≡ get_or vs 0 v = search rules in
    let last : w ≡ get_or vs (length vs - 1) w = search rules in
    views_entered (pure_shows c.args.shows.now) c.args.name.now vs v w c.in_ok-first.first c.in_ok-last.last _ _ some first last
    c.in_ok-first.ensures c.in_ok-last.ensures c.in_ok-put.ensures.ok c.in_ok-put-2.ensures.ok
