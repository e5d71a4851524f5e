use Rattle.std.proofs.Common.{sym, ◌∙◌}
use Rattle.ess_grammar.specs.Kinds.{token}
use Rattle.ess_parse_frames.specs.Views.{view_frames}
use Rattle.ess_parse_domains.proofs.AttributeWords.{bracket-key, bracket-other, carried}
use Rattle.ess_parse_domains.proofs.attributes.step_function_bracket_read.Goals as goal

pub returns-in-Some : goal.returns-in-Some
returns-in-Some c =
    carried _ _ _
    (bracket-key (token c.args.kind c.args.name) c.in-Some.key (view_frames c.args.frames) (sym c.attribute_of.ensures ∙ c.in-Some.is))
    c.begin_attributes.ensures

pub returns-in-None : goal.returns-in-None
returns-in-None c =
    carried _ _ _
    (bracket-other (token c.args.kind c.args.name) (view_frames c.args.frames) (sym c.attribute_of.ensures ∙ c.in-None.is))
    c.begin_tuple.ensures
