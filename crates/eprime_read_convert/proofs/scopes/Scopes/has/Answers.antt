use Rattle.std.proofs.Common.{ap, ◌∙◌}
use Rattle.std.specs.List.{list_any}
use Rattle.ess_semantics.specs.Names.{is_among}
use Rattle.eprime_read_convert.proofs.ScopeLaws.{found_in_scopes}
use Rattle.eprime_read_convert.proofs.scopes.Scopes.has.Goals as goal

pub returns : goal.returns
returns c =
    c.is_in.ensures ∙ ap (list_any (λ scope. is_among scope.now c.args.name.now)) c.as_slice.ensures
    ∙ found_in_scopes c.self.inside.scopes c.args.name.now ∙ ap (λ ns. is_among ns c.args.name.now) c.self.view_is
