use Rattle.std.proofs.Common.{sym, ap, ◌∙◌, ◌||◌}
use Rattle.ess_semantics.specs.Names.{is_among}
use Rattle.eprime_read_convert.specs.Lines.{scope_of}
use Rattle.eprime_read_convert.proofs.LineLaws.{one_line_more}
use Rattle.eprime_read_convert.proofs.lines.Lines.with.Goals as goal

pub invariant_of-result : goal.invariant_of-result
invariant_of-result c =
    one_line_more c.self.inside.list c.push.new.self c.args.line c.self.inside.index c.insert.new.self c.in_ok-name.name c.known_with-known.result
    c.in_ok-push.ensures.ok c.self.invariant c.in_ok-name.ensures c.known_with-known.ensures.truth (c.known_with-known.ensures.found ∙ ap (λ ls. c.args.line.found || is_among (scope_of ls).finds c.args.line.name) (sym c.self.view_is)) c.in_ok-insert.ensures.updates
