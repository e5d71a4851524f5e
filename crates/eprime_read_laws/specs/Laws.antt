-- Laws of the machine of models, each stated at a function that does nothing, so that its proof is checked with the code.
-- They tie the machine to the rules for models, and callers need no more of it.
use Rattle.std.specs.Prelude.{◌≡◌, true, List, ◌∷◌, ◌++◌, Some, None}
use Rattle.ess_semantics.specs.ModelTrees.{Model}
use Rattle.ess_grammar.specs.Words.{Token, Word, word}
use Rattle.ess_grammar.specs.ModelTexts.{IsModel}
use Rattle.ess_parse_laws.specs.StatementEnds.{begins_statement}
use Rattle.eprime_read_laws.specs.ModelMachine.{Stage, at_begin, stage_after, read_model}

-- Each list of tokens is at most one model, by the rules alone.
abbrev pub OneModel : Type 0
OneModel = (ts : List Token) (m n : Model) → IsModel m ts → IsModel n ts → m ≡ n

-- What the rules derive, the machine reads.
abbrev pub ReadsDerivedModels : Type 0
ReadsDerivedModels = (ts : List Token) (m : Model) → IsModel m ts → read_model ts ≡ Some m

-- What the machine reads, the rules derive.
abbrev pub DerivesReadModels : Type 0
DerivesReadModels = (ts : List Token) (m : Model) → read_model ts ≡ Some m → IsModel m ts

-- Where the machine stops, no model begins with the tokens up to there.
abbrev pub StopsForGood : Type 0
StopsForGood = (ts us : List Token) (m : Model) → stage_after ts at_begin ≡ None → IsModel m (ts ++ us) → ⊥

-- Before each word that begins a statement, where the machine has gone past it, stands a whole model.
abbrev pub WholeBeforeStatements : Type 0
WholeBeforeStatements = (ts us : List Token) (w : Word) (s : Stage) → begins_statement w ≡ true → stage_after (ts ++ word w ∷ us) at_begin ≡ Some s → (m : Model) × IsModel m ts
