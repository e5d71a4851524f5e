use Rattle.std.proofs.Common.{sym, ap, ◌∙◌}
use Rattle.std.specs.Option.{option_map}
use Rattle.ess_grammar.specs.Kinds.{token}
use Rattle.ess_parse_frames.specs.Views.{view, view_frames}
use Rattle.ess_parse_domains.proofs.AttributeWords.{wanted-key, wanted-other}
use Rattle.ess_parse_domains.proofs.attributes.step_attribute_wanted.Goals as goal

pub returns-in-Some : goal.returns-in-Some
returns-in-Some c =
    wanted-key (token c.args.kind c.args.name.now) c.in-Some.key (view_frames c.args.frames) (sym c.attribute_of.ensures ∙ c.in-Some.is)
    ∙ c.at.ensures

pub returns-in-None : goal.returns-in-None
returns-in-None c =
    wanted-other (token c.args.kind c.args.name.now) (view_frames c.args.frames) (sym c.attribute_of.ensures ∙ c.in-None.is)
    ∙ sym (ap (option_map view) c.no_state.ensures)
