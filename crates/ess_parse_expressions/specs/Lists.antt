-- Tests of lists and frames, as the parser makes them.
use Rattle.std.specs.Prelude.{◌≡◌, ◌&&◌, Bool, true, false, [], ◌∷◌, List, Option, None}
use Rattle.ess_semantics.specs.Trees as pure
use Rattle.ess_semantics.specs.Trees.{no_exs, more_exs, no_gens, plain_node, tuple_literal}
use Rattle.ess_parse_laws.specs.Frames as machine
use Rattle.ess_parse_laws.specs.Frames.{binary_frame, items_frame, sum_head}
use Rattle.ess_parse_laws.specs.Modes as modes
use Rattle.ess_parse_laws.specs.Modes.{at_state, operand_wanted, operand_read}
use Rattle.ess_parse_laws.specs.Items.{may_quantify, in_is_sign, begin_source}
use Rattle.ess_semantics.specs.declared.words.Op2.{Op2}
use Rattle.ess_grammar.specs.Patterns.{is_member}
use Rattle.ess_grammar.specs.Words.{Token, symbol, close_round, close_square, close_curly, comma, semicolon, colon, drawn_from, dot, dots, bar, maps_to}
use Rattle.ess_grammar.specs.declared.kind.Kind.{Kind}
use Rattle.ess_parse_frames.specs.Views.{view_frames}
use Rattle.ess_parse_frames.specs.declared.frames.Frame.{Frame}

-- Whether there are no expressions.
abbrev pub has_no_items : pure.Exs → Bool
has_no_items no_exs = true
has_no_items (more_exs e es) = false

-- Behind a tuple of patterns that stands directly behind `sum`, where a quantifier may stand.
abbrev pub begin_sum : pure.Exs → List machine.Frame → Option modes.State
begin_sum es fs = elim (may_quantify fs) [
  | true ↦ at_state (operand_read true (plain_node tuple_literal es)) (items_frame sum_head [] no_gens no_exs ∷ fs)
  | false ↦ None
]

-- The kinds of tokens that may end something where an operand is wanted.
abbrev pub ends_nothing : Kind → Bool
ends_nothing Kind.CloseRound = true
ends_nothing Kind.CloseSquare = true
ends_nothing Kind.CloseCurly = true
ends_nothing Kind.Comma = true
ends_nothing Kind.Dots = true
ends_nothing _ = false

abbrev pub EndsNothing : Kind → Type 0
EndsNothing k = ends_nothing k ≡ true

-- The state of the machine where an operand is wanted in these frames.
abbrev pub wanting_operand : List Frame → modes.State
wanting_operand fs = record { mode = operand_wanted; frames = view_frames fs }

-- The kinds of symbols that may stand behind patterns.
abbrev pub takes_patterns : Kind → Bool
takes_patterns Kind.Comma = true
takes_patterns Kind.CloseRound = true
takes_patterns Kind.CloseSquare = true
takes_patterns Kind.CloseCurly = true
takes_patterns Kind.Semicolon = true
takes_patterns Kind.Colon = true
takes_patterns _ = false

-- The same, and `<-`.
abbrev pub minds_patterns : Kind → Bool
minds_patterns Kind.DrawnFrom = true
minds_patterns k = takes_patterns k

-- Whether the token is a symbol that may go on with the innermost frame behind an expression.
abbrev pub goes_on : Token → Bool
goes_on (symbol comma) = true
goes_on (symbol close_round) = true
goes_on (symbol close_square) = true
goes_on (symbol close_curly) = true
goes_on (symbol semicolon) = true
goes_on (symbol colon) = true
goes_on (symbol drawn_from) = true
goes_on (symbol dot) = true
goes_on (symbol dots) = true
goes_on (symbol bar) = true
goes_on (symbol maps_to) = true
goes_on _ = false

-- An operator behind a pattern: a generator's sign, or the pattern is its left operand.
abbrev pub pattern_then_operator : Op2 → List machine.Frame → pure.Ex → Option modes.State
pattern_then_operator o fs e = elim (is_member o && in_is_sign fs e) [
  | true ↦ begin_source fs e
  | false ↦ at_state operand_wanted (binary_frame o e ∷ fs)
]
