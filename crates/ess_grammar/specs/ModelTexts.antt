-- Models in Essence Prime as texts (the Conjure manual, chapter on its output). A model's expressions and domains are those of
-- the grammar whose trees are a model's; so extra brackets and quantifiers are read too. The lines of its header are comments.
use Rattle.std.specs.Prelude.{ℕ, zero, suc, ◌≡◌, Bool, if◌then◌else◌, List, [], ◌∷◌, length, take, drop, Option, Some, None, IsTrue, codes}
use Rattle.std.specs.Str.{is_utf8, bytes_eq}
use Rattle.std.specs.List.{position_or_len}
use Rattle.ess_semantics.specs.Values.{Text}
use Rattle.ess_semantics.specs.Names.{Names}
use Rattle.ess_semantics.specs.Trees.{Ex, Dom}
use Rattle.ess_semantics.specs.ModelTrees.{Goal, no_goal, least, greatest, Model}
use Rattle.ess_grammar.specs.Words.{Token, number, name, prime_word, word, symbol, Word, language_word, given_word, find_word, such_word, that_word, minimising_word, maximising_word, comma, colon, dot}
use Rattle.ess_grammar.specs.Places.{is_line_feed}
use Rattle.ess_grammar.specs.Tokens.{is_white, begins_comment, comment_length, longest_token}
use Rattle.ess_grammar.specs.Patterns.{Shape}
use Rattle.ess_grammar.specs.Grammar.{Expression, Domain}
use Rattle.ess_grammar.specs.Texts.{Reads}
use Rattle.ess_grammar.specs.Models.{ReadModel, model_of, is_readable_model}

-- ---- tokens

-- Any number of declarations behind the same word, each of one name.
pub data Declarations : Word → Names Dom → List Token → List Token → Type 0 where
  no_declarations : {x : Word} {ts : List Token} → Declarations x [] ts ts
  more_declarations : {x : Word} {a : Text} {d : Dom} {ds : Names Dom} {ts us vs : List Token} → Domain d ts us → Declarations x ds us vs →
      Declarations x ((a, d) ∷ ds) (word x ∷ name a ∷ symbol colon ∷ ts) vs

-- An objective, or none.
pub data Objective : Goal → List Token → List Token → Type 0 where
  no_objective : {ts : List Token} → Objective no_goal ts ts
  minimising : {w : Bool} {s : Shape} {l : ℕ} {e : Ex} {ts us : List Token} → Expression w s l e ts us →
      Objective (least e) (word minimising_word ∷ ts) us
  maximising : {w : Bool} {s : Shape} {l : ℕ} {e : Ex} {ts us : List Token} → Expression w s l e ts us →
      Objective (greatest e) (word maximising_word ∷ ts) us

-- One or more constraints with commas between, to the end.
pub data Constraints : List Ex → List Token → Type 0 where
  last_constraint : {w : Bool} {s : Shape} {l : ℕ} {e : Ex} {ts : List Token} → Expression w s l e ts [] → Constraints (e ∷ []) ts
  next_constraint : {w : Bool} {s : Shape} {l : ℕ} {e : Ex} {es : List Ex} {ts us : List Token} →
      Expression w s l e ts (symbol comma ∷ us) →
      Constraints es us → Constraints (e ∷ es) ts

-- Constraints behind `such that`, or none.
pub data SuchThat : List Ex → List Token → Type 0 where
  no_constraints : SuchThat [] []
  constraints : {es : List Ex} {ts : List Token} → Constraints es ts → SuchThat es (word such_word ∷ word that_word ∷ ts)

-- The tokens have the parts of a model, in their order.
pub data HasModelParts : ReadModel → List Token → Type 0 where
  model_parts : {gs fs : Names Dom} {o : Goal} {es : List Ex} {ts us vs xs : List Token} → Declarations given_word gs ts us →
      Declarations find_word fs us vs →
      Objective o vs xs → SuchThat es xs →
      HasModelParts (record { givens = gs; finds = fs; goal = o; rules = es })
      (word language_word ∷ prime_word ∷ number 1 ∷ symbol dot ∷ number 0 ∷ ts)

-- The tokens are a model: its parts are those of the text with cells for declared names, and they are a model's.
pub record IsModel (m : Model) (ts : List Token) : Type 0 where
  pub parts : ReadModel
  pub read : HasModelParts parts ts
  pub is : m ≡ model_of parts
  pub readable : IsTrue (is_readable_model m)

-- ---- the lines of the header

-- The bytes behind the first n tokens. Each turn passes a byte, so as many turns do as there are bytes.
abbrev pub behind_in : ℕ → ℕ → Text → Text
behind_in turns zero text = text
behind_in zero (suc n) text = []
behind_in (suc turns) (suc n) [] = []
behind_in (suc turns) (suc n) (b ∷ bs) =
    if is_white b then behind_in turns (suc n) bs
    else if begins_comment b then behind_in turns (suc n) (drop (comment_length (b ∷ bs)) (b ∷ bs))
    else elim (longest_token (b ∷ bs)) [ Some found ↦ behind_in turns n (drop found.1 (b ∷ bs)) | None ↦ [] ]

-- The bytes behind the language line's last token.
abbrev pub behind_language_line : Text → Text
behind_language_line text = behind_in (length text) 5 text

-- The bytes before the next line feed.
abbrev pub first_line : Text → Text
first_line text = take (position_or_len is_line_feed text) text

-- The bytes behind the next line feed.
abbrev pub next_lines : Text → Text
next_lines text = drop (suc (position_or_len is_line_feed text)) text

-- What stands in a line of the header behind `$ `, where the line begins so.
abbrev pub behind_mark : Text → Option Text
behind_mark (a ∷ b ∷ bs) = if bytes_eq (a ∷ b ∷ []) (codes "$ ") then Some bs else None
behind_mark bs = None

-- The lines from the first line on that begin so, up to the first other line.
abbrev pub marked_lines : ℕ → Text → List Text
marked_lines zero text = []
marked_lines (suc turns) text = elim (behind_mark (first_line text)) [ Some l ↦ l ∷ marked_lines turns (next_lines text) | None ↦ [] ]

-- Those directly under the line on which the language line ends.
abbrev pub lines_under_language_line : Text → List Text
lines_under_language_line text = marked_lines (length text) (next_lines (behind_language_line text))

-- The lines before the first that isn't UTF-8.
abbrev pub utf8_lines : List Text → List Text
utf8_lines [] = []
utf8_lines (l ∷ ls) = if is_utf8 l then l ∷ utf8_lines ls else []

-- The lines of the header of a model's text.
abbrev pub header_lines : Text → List Text
header_lines text = utf8_lines (lines_under_language_line text)

-- The text is a model with this header.
abbrev pub ReadsModel : Text → List Text → Model → Type 0
ReadsModel text head m = (header_lines text ≡ head) × Reads text (IsModel m)
