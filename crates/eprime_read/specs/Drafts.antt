-- What holds of a model that is read in part, and of the parser inside a part of it.
use Rattle.std.specs.Prelude.{◌≡◌, Bool, true, List, [], ◌∷◌, ◌++◌, pos, Some, IsTrue}
use Rattle.ess_semantics.specs.Trees.{Ex}
use Rattle.ess_semantics.specs.DeclaredTables.{TableDecl}
use Rattle.ess_semantics.specs.ModelTrees.{Goal, Model}
use Rattle.ess_grammar.specs.Words.{Token, number, name, Word, given_word, find_word}
use Rattle.ess_grammar.specs.Readable.{is_name_token, is_number_token}
use Rattle.ess_grammar.specs.Models.{is_readable_model}
use Rattle.ess_parse_laws.specs.Modes.{State, nothing_read}
use Rattle.ess_parse_laws.specs.Machine.{state_after}
use Rattle.eprime_read_laws.specs.ModelMachine.{model_scope}
use Rattle.eprime_tree.specs.declared.models.PModel.{PModel}
use Rattle.eprime_tree.specs.declared.models.PGoal.TheVariants.{Free}
use Rattle.eprime_tree.specs.Views.{pure_model}
use Rattle.eprime_read_convert.specs.declared.lines.Line.{Line}
use Rattle.eprime_read_convert.specs.Lines.{scope_of}

-- The lines declare what the model does, and the model is one that some text has.
pub record IsSound (m : PModel) (ls : List Line) : Type 0 where
  pub declared : scope_of ls ≡ model_scope (pure_model m)
  pub readable : is_readable_model (pure_model m) ≡ true

-- The model has nothing yet that stands behind a part which begins with this word.
abbrev pub Fits : Word → PModel → Type 0
Fits given_word m = (m.finds ≡ []) × (m.goal ≡ Free) × (m.rules ≡ [])
Fits find_word m = (m.goal ≡ Free) × (m.rules ≡ [])
Fits _ m = Unit {0}

-- With this given more.
abbrev pub given_on : Model → TableDecl → Model
given_on m t = record { givens = m.givens ++ t ∷ []; finds = m.finds; goal = m.goal; rules = m.rules }

-- With this find more.
abbrev pub find_on : Model → TableDecl → Model
find_on m t = record { givens = m.givens; finds = m.finds ++ t ∷ []; goal = m.goal; rules = m.rules }

-- With this objective.
abbrev pub goal_on : Model → Goal → Model
goal_on m g = record { givens = m.givens; finds = m.finds; goal = g; rules = m.rules }

-- With these constraints.
abbrev pub rules_on : Model → List Ex → Model
rules_on m es = record { givens = m.givens; finds = m.finds; goal = m.goal; rules = es }

-- Whether a name or number of the token is one that a text within the subset of the language has.
abbrev pub is_fit_token : Token → Bool
is_fit_token (number n) = is_number_token (pos n)
is_fit_token (name a) = is_name_token a
is_fit_token t = true

-- Each of the tokens is so.
abbrev pub AreFit : List Token → Type 0
AreFit [] = Unit {0}
AreFit (t ∷ ts) = IsTrue (is_fit_token t) × AreFit ts

-- Behind such tokens, which begin a specification, stands this state.
pub record HasRead (s : State) : Type 0 where
  pub tokens : List Token
  pub fit : AreFit tokens
  pub reached : state_after tokens nothing_read [] ≡ Some s
