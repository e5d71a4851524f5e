use Rattle.std.proofs.Common.{◌∙◌, ap, bytes_eq, string_bytes}
use Rattle.std.specs.List.{list_any}
use Rattle.ess_types_scopes.proofs.Sets.{has_name}
use Rattle.ess_types_scopes.proofs.names.has_in.Goals as goal

pub returns : goal.returns
returns c =
    c.contains.ensures ∙ ap (λ a. list_any (λ k. bytes_eq a (string_bytes k)) c.args.names.now.keys) c.as_str.ensures
    ∙ has_name c.args.names.now.keys c.args.name.now
