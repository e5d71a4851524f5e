-- Where statements end, and the words that begin statements. Statements stand in reverse, the last one first.
use Rattle.std.specs.Prelude.{Bool, List, None, Option, Some, [], false, true, ◌∷◌}
use Rattle.ess_semantics.specs.Trees.{Dom, Ex, Stm, find, given, let_dom, let_ex, let_unnamed, maximise, minimise, needs, such_that}
use Rattle.ess_semantics.specs.Values.{Text}
use Rattle.ess_grammar.specs.Words.{Word, find_word, given_word, letting_word, maximising_word, minimising_word, such_word, where_word}
use Rattle.ess_parse_laws.specs.Frames.{Frame, declaration_frame, letting_domain_frame, letting_frame, objective_frame, such_that_frame, unnamed_frame, where_frame}
use Rattle.ess_parse_laws.specs.Modes.{State, at_state, letting_wanted, names_wanted, operand_wanted, such_read}

-- The statements with the one that this expression ends, where it ends one.
abbrev pub stated : List Frame → Ex → Option (List Stm)
stated (letting_frame a ss ∷ fs) e = Some (let_ex a e ∷ ss)
stated (unnamed_frame a ss ∷ fs) e = Some (let_unnamed a e ∷ ss)
stated (where_frame ss ∷ fs) e = Some (needs e ∷ ss)
stated (such_that_frame ss ∷ fs) e = Some (such_that e ∷ ss)
stated (objective_frame true ss ∷ fs) e = Some (maximise e ∷ ss)
stated (objective_frame false ss ∷ fs) e = Some (minimise e ∷ ss)
stated _ e = None

-- The statements with one given, or one find, for each name of a list.
abbrev pub declarations : Bool → List Text → Dom → List Stm → List Stm
declarations g [] d ss = ss
declarations true (a ∷ as') d ss = given a d ∷ declarations true as' d ss
declarations false (a ∷ as') d ss = find a d ∷ declarations false as' d ss

-- The statements with those that this domain ends, where it ends any.
abbrev pub declared : List Frame → Dom → Option (List Stm)
declared (declaration_frame g as' ss ∷ fs) d = Some (declarations g as' d ss)
declared (letting_domain_frame a ss ∷ fs) d = Some (let_dom a d ∷ ss)
declared _ d = None

-- Whether the word begins a statement.
abbrev pub begins_statement : Word → Bool
begins_statement given_word = true
begins_statement find_word = true
begins_statement letting_word = true
begins_statement where_word = true
begins_statement such_word = true
begins_statement minimising_word = true
begins_statement maximising_word = true
begins_statement _ = false

-- Behind a word that begins a statement.
abbrev pub begin_statement : Word → List Stm → Option State
begin_statement given_word ss = at_state (names_wanted true [] ss) []
begin_statement find_word ss = at_state (names_wanted false [] ss) []
begin_statement letting_word ss = at_state (letting_wanted ss) []
begin_statement where_word ss = at_state operand_wanted (where_frame ss ∷ [])
begin_statement such_word ss = at_state (such_read ss) []
begin_statement minimising_word ss = at_state operand_wanted (objective_frame false ss ∷ [])
begin_statement maximising_word ss = at_state operand_wanted (objective_frame true ss ∷ [])
begin_statement _ ss = None

-- The same behind statements that have ended, where they have.
abbrev pub begin_after : Word → Option (List Stm) → Option State
begin_after w None = None
begin_after w (Some ss) = begin_statement w ss
