use Rattle.std.proofs.Common.{◌∙◌, ap, bytes_eq, string_bytes}
use Rattle.std.specs.Map.{lookup}
use Rattle.ess_core_nodes.specs.NodeViews.{pure_dom}
use Rattle.ess_types_names.proofs.Maps.{entry_there}
use Rattle.ess_model_shown.proofs.shows.named_dom.Goals as goal

pub returns-in-Some : goal.returns-in-Some
returns-in-Some c =
    entry_there pure_dom c.args.entries.now.entries c.args.name.now c.in-Some.dom.now c.get-in-Some.result.now c.requires
    (c.in-Some.ensures.value ∙ ap (λ a. lookup (λ k. bytes_eq a (string_bytes k)) c.args.entries.now.entries) c.as_str.ensures)
    c.get-in-Some.ensures
