-- A machine for the lines of a model's header that name the representations of a given or find: `repr s Explicit[Occurrence] +
-- Occurrence`. Inside a representation it steps as the machine of representations does; a `+` ends one and begins the next.
use Rattle.std.specs.Prelude.{Bool, List, [], ◌∷◌, ◌++◌, Option, Some, None, if◌then◌else◌, codes}
use Rattle.std.specs.Str.{bytes_eq}
use Rattle.ess_semantics.specs.declared.words.Op2.{Op2}
use Rattle.ess_semantics.specs.Values.{Text}
use Rattle.ess_semantics.specs.Trees.{Repr}
use Rattle.ess_grammar.specs.Words.{Token, name, operator}
use Rattle.ess_grammar.specs.HeaderTexts.{RepresentationLine}
use Rattle.ess_parse_laws.specs.RepresentationMachine.{ReprState}
use Rattle.ess_parse.specs.Machines.{step_representation, finish_representation, start_representation}

-- A name with its representations.
abbrev pub Named : Type 0
Named = Text × List Repr

-- The tokens are the line of a name with its representations.
abbrev pub IsRepresentationLine : Named → List Token → Type 0
IsRepresentationLine n ts = RepresentationLine n.0 n.1 ts

-- What is wanted next: the word `repr`, the name, or more of a representation, where these of the name were read before it.
pub data LineState : Type 0 where
  word_wanted name_wanted : LineState
  tree_begun : Text → List Repr → ReprState → LineState

-- Further inside a representation.
abbrev pub further : Text → List Repr → Option ReprState → Option LineState
further a rs None = None
further a rs (Some s) = Some (tree_begun a rs s)

-- Behind a `+`: the representation before it is whole, and another one begins.
abbrev pub next_tree : Text → List Repr → Option Repr → Option LineState
next_tree a rs None = None
next_tree a rs (Some r) = Some (tree_begun a (rs ++ r ∷ []) start_representation)

-- A token where a representation was begun.
abbrev pub step_in_tree : Token → Text → List Repr → ReprState → Option LineState
step_in_tree (operator Op2.Plus) a rs s = next_tree a rs (finish_representation s)
step_in_tree t a rs s = further a rs (step_representation t s)

-- The first token.
abbrev pub step_first : Token → Option LineState
step_first (name w) = if bytes_eq w (codes "repr") then Some name_wanted else None
step_first t = None

-- The token behind the word.
abbrev pub step_name : Token → Option LineState
step_name (name a) = Some (tree_begun a [] start_representation)
step_name t = None

-- One step. None: no line begins with the tokens up to and with this one.
abbrev pub step_line : Token → LineState → Option LineState
step_line t word_wanted = step_first t
step_line t name_wanted = step_name t
step_line t (tree_begun a rs s) = step_in_tree t a rs s

-- The name with its representations, where the last one is whole.
abbrev pub with_last : Text → List Repr → Option Repr → Option Named
with_last a rs None = None
with_last a rs (Some r) = Some (a, rs ++ r ∷ [])

-- The name with its representations at the end.
abbrev pub finish_line : LineState → Option Named
finish_line (tree_begun a rs s) = with_last a rs (finish_representation s)
finish_line s = None
