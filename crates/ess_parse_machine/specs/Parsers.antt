-- The states of the machine that parsers stand for.
use Rattle.std.specs.Prelude.{◌≡◌, Option}
use Rattle.std.specs.Option.{option_map}
use Rattle.ess_parse_laws.specs.Modes.{State}
use Rattle.ess_parse_frames.specs.Views.{view}
use Rattle.ess_parse_machine.specs.declared.parser.Parser.{Parser}

-- The state of the machine.
abbrev pub view_parser : Parser → State
view_parser p = view p.state

-- The machine goes to the state of this parser, or stops.
abbrev pub Parses : Option State → Option Parser → Type 0
Parses r p = r ≡ option_map view_parser p
