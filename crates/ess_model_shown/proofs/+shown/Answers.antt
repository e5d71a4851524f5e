use Rattle.std.proofs.Common.{rules, ◌≡◌, sym, ap, ◌∙◌, map}
use Rattle.ess_semantics.specs.Kinds.{doms_of}
use Rattle.ess_core.specs.TreeViews.{exs_of, gens_of}
use Rattle.ess_core_nodes.specs.NodeViews.{pure_node, pure_gen, pure_dom}
use Rattle.conjure_model_laws.specs.Shown.{shown, shown_dom}
use Rattle.ess_model_shown.specs.ShownParts.{shown_item}
use Rattle.ess_model_shown.specs.Tables.{pure_shows}
use Rattle.ess_model_shown.proofs.ShownParts.{all_made, all_shown, gens_shown, doms_shown}
use Rattle.ess_model_shown.proofs.+shown.Goals as goal

pub showing::shown_all-returns : goal.showing::shown_all-returns
showing::shown_all-returns t c =
    let sh = pure_shows c.args.shows.now in
    ap exs_of
    (all_made pure_node (shown sh) c.args.nodes.now c.loop-node.node-index (map pure_node c.loop-node.all)
    (search rules) c.loop-node.invariant)
    ∙ sym (all_shown sh (map pure_node c.args.nodes.now))

pub showing::shown_gens-returns : goal.showing::shown_gens-returns
showing::shown_gens-returns t c =
    let sh = pure_shows c.args.shows.now in
    ap gens_of
    (all_made pure_gen (shown_item sh) c.args.gens.now c.loop-item.item-index (map pure_gen c.loop-item.all)
    (search rules) c.loop-item.invariant)
    ∙ sym (gens_shown sh (map pure_gen c.args.gens.now))

pub shown_domains::shown_doms-returns : goal.shown_domains::shown_doms-returns
shown_domains::shown_doms-returns t c =
    let sh = pure_shows c.args.shows.now in
    ap doms_of
    (all_made pure_dom (shown_dom sh) c.args.doms.now c.loop-dom.dom-index (map pure_dom c.loop-dom.all)
    (search rules) c.loop-dom.invariant)
    ∙ sym (doms_shown sh (map pure_dom c.args.doms.now))
