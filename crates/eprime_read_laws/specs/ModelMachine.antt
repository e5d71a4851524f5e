-- A machine that reads models token by token, with the machine of specifications for one part at a time: a declaration, the
-- objective, or the constraints. A part goes from the word that begins it to the next word that begins a statement, or to
-- the end. There it has to be a part of a model: what is read so far is then a whole model.
use Rattle.std.specs.Prelude.{ℕ, nat_eq, Bool, true, false, List, [], ◌∷◌, ◌++◌, map, Option, Some, None}
use Rattle.ess_semantics.specs.Values.{Text}
use Rattle.ess_semantics.specs.Trees.{Ex, Dom, Stm, given, find, such_that, minimise, maximise}
use Rattle.ess_semantics.specs.ModelTrees.{Goal, no_goal, least, greatest, Model}
use Rattle.ess_grammar.specs.Words.{Token, number, prime_word, word, symbol, Word, language_word, given_word, find_word, such_word, minimising_word, maximising_word, dot}
use Rattle.ess_grammar.specs.Models.{Scope, empty_scope, with_given, with_find, scope_behind, with_cells, goal_with_cells, table_of, is_readable_model}
use Rattle.ess_parse_laws.specs.Frames.{Frame}
use Rattle.ess_parse_laws.specs.Modes.{Mode, State, Answer, specification_answer, statement_read}
use Rattle.ess_parse_laws.specs.StatementEnds.{begins_statement, begin_statement}
use Rattle.ess_parse_laws.specs.Machine.{step, finish}

-- ---- models that grow from part to part

-- Without any part.
abbrev pub empty_model : Model
empty_model = record { givens = []; finds = []; goal = no_goal; rules = [] }

-- What the givens declare.
abbrev pub givens_scope : Model → Scope
givens_scope m = scope_behind with_given empty_scope m.givens

-- What all lines declare.
abbrev pub model_scope : Model → Scope
model_scope m = scope_behind with_find (givens_scope m) m.finds

-- With one given more.
abbrev pub more_given : Model → Text → Dom → Model
more_given m a d = record { givens = m.givens ++ (table_of (givens_scope m) a d ∷ []); finds = m.finds; goal = m.goal; rules = m.rules }

-- With one find more.
abbrev pub more_find : Model → Text → Dom → Model
more_find m a d = record { givens = m.givens; finds = m.finds ++ (table_of (model_scope m) a d ∷ []); goal = m.goal; rules = m.rules }

-- With this objective.
abbrev pub with_objective : Model → Goal → Model
with_objective m g = record { givens = m.givens; finds = m.finds; goal = goal_with_cells (model_scope m) g; rules = m.rules }

-- With these constraints.
abbrev pub with_constraints : Model → List Ex → Model
with_constraints m es = record { givens = m.givens; finds = m.finds; goal = m.goal; rules = map (with_cells (model_scope m) []) es }

-- ---- one part

-- The model, where it is one that some text has.
abbrev pub readable : Model → Option Model
readable m = elim (is_readable_model m) [ true ↦ Some m | false ↦ None ]

-- A constraint before others, where these are all constraints.
abbrev pub constraint_before : Ex → Option (List Ex) → Option (List Ex)
constraint_before e None = None
constraint_before e (Some es) = Some (e ∷ es)

-- The constraints that the statements are, where all are constraints.
abbrev pub constraints_of : List Stm → Option (List Ex)
constraints_of [] = Some []
constraints_of (such_that e ∷ ss) = constraint_before e (constraints_of ss)
constraints_of _ = None

-- The model with these constraints, where they are some.
abbrev pub constrained : Model → Option (List Ex) → Option Model
constrained m None = None
constrained m (Some es) = readable (with_constraints m es)

-- The model with the part that begins with this word and is read as these statements, where it is a part of a model.
-- Before the first part there is none.
abbrev pub with_part : Word → Model → List Stm → Option Model
with_part language_word m [] = Some m
with_part given_word m (given a d ∷ []) = readable (more_given m a d)
with_part find_word m (find a d ∷ []) = readable (more_find m a d)
with_part minimising_word m (minimise e ∷ []) = readable (with_objective m (least e))
with_part maximising_word m (maximise e ∷ []) = readable (with_objective m (greatest e))
with_part such_word m ss = constrained m (constraints_of ss)
with_part _ m ss = None

-- The same of what the machine of specifications answers at the end of the part.
abbrev pub part_ended : Word → Model → Option Answer → Option Model
part_ended x m (Some (specification_answer ss)) = with_part x m ss
part_ended x m _ = None

-- Whether the word begins a part of a model.
abbrev pub begins_part : Word → Bool
begins_part given_word = true
begins_part find_word = true
begins_part minimising_word = true
begins_part maximising_word = true
begins_part such_word = true
begins_part _ = false

-- Whether a part of the second word may stand behind one of the first: givens before finds, then the objective, then the
-- constraints. The word `language` stands for the language line.
abbrev pub may_follow : Word → Word → Bool
may_follow language_word w = begins_part w
may_follow given_word w = begins_part w
may_follow find_word given_word = false
may_follow find_word w = begins_part w
may_follow minimising_word such_word = true
may_follow maximising_word such_word = true
may_follow _ w = false

-- ---- the machine

-- Before the first token, in the language line, and in a part: its word, the model before it, and the machine of
-- specifications inside it.
pub data Stage : Type 0 where
  at_begin behind_language behind_prime behind_first_number behind_dot : Stage
  in_part : Word → Model → Mode → List Frame → Stage

-- The stage that goes on in a part from a state, if there is one.
abbrev pub in_state : Word → Model → Option State → Option Stage
in_state x m None = None
in_state x m (Some r) = Some (in_part x m r.mode r.frames)

-- The part of the second word begins behind one of the first, where that ended with this model.
abbrev pub begin_part : Word → Word → Option Model → Option Stage
begin_part x w None = None
begin_part x w (Some m) = elim (may_follow x w) [ true ↦ in_state w m (begin_statement w []) | false ↦ None ]

-- The word that the token is, where it begins a statement.
abbrev pub statement_word : Token → Option Word
statement_word (word w) = elim (begins_statement w) [ true ↦ Some w | false ↦ None ]
statement_word _ = None

-- One step in a part.
abbrev pub part_step : Token → Option Word → Word → Model → Mode → List Frame → Option Stage
part_step t None x m i fs = in_state x m (step t i fs)
part_step t (Some w) x m i fs = begin_part x w (part_ended x m (finish i fs))

-- Where a number is wanted.
abbrev pub if_number : ℕ → ℕ → Stage → Option Stage
if_number n k s = elim (nat_eq n k) [ true ↦ Some s | false ↦ None ]

-- Behind the language line.
abbrev pub first_part : Stage
first_part = in_part language_word empty_model (statement_read language_word []) []

-- One step of the machine. None: no model begins with the tokens up to and with this one.
abbrev pub model_step : Token → Stage → Option Stage
model_step (word language_word) at_begin = Some behind_language
model_step t at_begin = None
model_step prime_word behind_language = Some behind_prime
model_step t behind_language = None
model_step (number n) behind_prime = if_number n 1 behind_first_number
model_step t behind_prime = None
model_step (symbol dot) behind_first_number = Some behind_dot
model_step t behind_first_number = None
model_step (number n) behind_dot = if_number n 0 first_part
model_step t behind_dot = None
model_step t (in_part x m i fs) = part_step t (statement_word t) x m i fs

-- The model at the end of the tokens, where a whole one was read.
abbrev pub model_finish : Stage → Option Model
model_finish (in_part x m i fs) = part_ended x m (finish i fs)
model_finish _ = None

-- What a run answers from a stage, if there is one.
abbrev pub then_model : Option Stage → (Stage → Option Model) → Option Model
then_model None k = None
then_model (Some s) k = k s

-- The answer of a run over all the tokens from a stage.
abbrev pub model_run : List Token → Stage → Option Model
model_run [] s = model_finish s
model_run (t ∷ ts) s = then_model (model_step t s) (model_run ts)

-- The stage of a run from a stage, if there is one.
abbrev pub then_stage : Option Stage → (Stage → Option Stage) → Option Stage
then_stage None k = None
then_stage (Some s) k = k s

-- The stage behind these tokens. None: the machine has stopped at one of them.
abbrev pub stage_after : List Token → Stage → Option Stage
stage_after [] s = Some s
stage_after (t ∷ ts) s = then_stage (model_step t s) (stage_after ts)

-- The model that the tokens are.
abbrev pub read_model : List Token → Option Model
read_model ts = model_run ts at_begin
