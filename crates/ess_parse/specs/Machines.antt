-- The machines of the readers.
use Rattle.std.specs.Prelude.{Bool, true, false, List, [], map, Option, Some, None}
use Rattle.std.specs.List.{list_all}
use denote.Bor.{Bor}
use Rattle.ess_semantics.specs.declared.words.ReprKind.{ReprKind}
use Rattle.ess_semantics.specs.Values.{Text}
use Rattle.ess_semantics.specs.Trees.{Repr, Dom, Stm}
use Rattle.ess_grammar.specs.Words.{Token}
use Rattle.ess_grammar.specs.Readable.{is_plain_letting}
use Rattle.ess_parse_laws.specs.Modes.{Answer, State, domain_answer, specification_answer, domain_wanted, nothing_read}
use Rattle.ess_parse_laws.specs.Machine.{step, finish}
use Rattle.ess_parse_laws.specs.Lettings.{is_type_word, lettings_step}
use Rattle.ess_parse_laws.specs.RepresentationMachine.{ReprState, kind_wanted, repr_step, repr_finish}

-- ---- representations

-- One step.
abbrev pub step_representation : Token → ReprState → Option ReprState
step_representation t s = repr_step t s.mode s.frames

-- The representation at the end.
abbrev pub finish_representation : ReprState → Option Repr
finish_representation s = repr_finish s.mode s.frames

-- Before the first token.
abbrev pub start_representation : ReprState
start_representation = record { mode = kind_wanted; frames = [] }

-- A table of the code as one of the definitions.
abbrev pub shown_table : List (Bor Text × ReprKind) → List (Text × ReprKind)
shown_table entries = map (λ e. (e.0.now, e.1)) entries

-- ---- domains and specifications

-- One step.
abbrev pub step_state : Token → State → Option State
step_state t s = step t s.mode s.frames

-- The answer at the end.
abbrev pub finish_state : State → Option Answer
finish_state s = finish s.mode s.frames

-- The domain of an answer, if it is one.
abbrev pub domain_of : Option Answer → Option Dom
domain_of (Some (domain_answer d)) = Some d
domain_of _ = None

-- The domain at the end.
abbrev pub finish_domain : State → Option Dom
finish_domain s = domain_of (finish s.mode s.frames)

-- Before the first token of a domain.
abbrev pub start_domain : State
start_domain = record { mode = domain_wanted; frames = [] }

-- The statements of an answer, if it has any.
abbrev pub statements_of : Option Answer → Option (List Stm)
statements_of (Some (specification_answer ss)) = Some ss
statements_of _ = None

-- The statements at the end.
abbrev pub finish_specification : State → Option (List Stm)
finish_specification s = statements_of (finish s.mode s.frames)

-- Before the first token of a specification.
abbrev pub start_specification : State
start_specification = record { mode = nothing_read; frames = [] }

-- ---- files of lettings

-- A state, and whether the last token was the word `type`.
pub record LettingsState : Type 0 where
  pub behind_type : Bool
  pub state : State

-- The state behind a token.
abbrev pub behind_token : Token → Option State → Option LettingsState
behind_token t (Some s) = Some (record { behind_type = is_type_word t; state = s })
behind_token t None = None

-- One step.
abbrev pub step_lettings : Token → LettingsState → Option LettingsState
step_lettings t s = behind_token t (lettings_step s.behind_type t s.state.mode s.state.frames)

-- The statements, if all are lettings that a file may have.
abbrev pub only_lettings : Option (List Stm) → Option (List Stm)
only_lettings (Some ss) = elim (list_all is_plain_letting ss) [ true ↦ Some ss | false ↦ None ]
only_lettings None = None

-- The lettings of an answer, if it has such alone.
abbrev pub lettings_of : Option Answer → Option (List Stm)
lettings_of r = only_lettings (statements_of r)

-- The lettings at the end.
abbrev pub finish_lettings : LettingsState → Option (List Stm)
finish_lettings s = lettings_of (finish s.state.mode s.state.frames)

-- Before the first token of a file of lettings.
abbrev pub start_lettings : LettingsState
start_lettings = record { behind_type = false; state = start_specification }
