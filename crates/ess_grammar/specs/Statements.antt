-- Specifications and files of lettings by rules (Essence, Constraints 13, 2008, its grammar of statements; the Conjure
-- manual, on parameter and solution files). As in the rules of expressions, the last two lists of a family are the tokens
-- before and behind.
use Rattle.std.specs.Prelude.{ℕ, Bool, List, [], ◌∷◌, ◌++◌, map, codes}
use Rattle.ess_semantics.specs.Values.{Text}
use Rattle.ess_semantics.specs.Trees.{Ex, Dom, Stm, given, given_enum, let_ex, let_dom, let_enum, let_unnamed, needs, find, such_that, minimise, maximise}
use Rattle.ess_grammar.specs.Words.{Token, number, name, word, symbol, Word, language_word, given_word, find_word, letting_word, be_word, new_word, type_word, enum_word, domain_word, of_word, where_word, such_word, that_word, minimising_word, maximising_word, open_curly, close_curly, comma, colon, dot}
use Rattle.ess_grammar.specs.Patterns.{Shape}
use Rattle.ess_grammar.specs.Grammar.{Expression, Domain}

-- One or more names.
pub data NameList : List Text → List Token → List Token → Type 0 where
  last_name : {a : Text} {us : List Token} → NameList (a ∷ []) (name a ∷ us) us
  next_name : {a : Text} {ns : List Text} {ts us : List Token} → NameList ns ts us → NameList (a ∷ ns) (name a ∷ symbol comma ∷ ts) us

-- A letting of a value or of an enumerated type, behind its word: those that files of lettings have.
pub data PlainLetting : Stm → List Token → List Token → Type 0 where
  value_letting : {w : Bool} {s : Shape} {l : ℕ} {a : Text} {e : Ex} {ts us : List Token} → Expression w s l e ts us →
      PlainLetting (let_ex a e) (name a ∷ word be_word ∷ ts) us
  enum_letting : {a : Text} {ns : List Text} {ts us : List Token} → NameList ns ts (symbol close_curly ∷ us) →
      PlainLetting (let_enum a ns) (name a ∷ word be_word ∷ word new_word ∷ word type_word ∷ word enum_word ∷ symbol open_curly ∷ ts) us

-- A part of a list behind the word that begins the list: of givens, finds, lettings, conditions and constraints. A part may
-- declare several names, and is read as that many statements. `size` is a plain name.
pub data Part : Word → List Stm → List Token → List Token → Type 0 where
  given_part : {ns : List Text} {d : Dom} {ts us vs : List Token} → NameList ns ts (symbol colon ∷ us) → Domain d us vs →
      Part given_word (map (λ a. given a d) ns) ts vs
  given_enum_part : {a : Text} {us : List Token} →
      Part given_word (given_enum a ∷ []) (name a ∷ word new_word ∷ word type_word ∷ word enum_word ∷ us) us
  find_part : {ns : List Text} {d : Dom} {ts us vs : List Token} → NameList ns ts (symbol colon ∷ us) → Domain d us vs →
      Part find_word (map (λ a. find a d) ns) ts vs
  plain_letting_part : {s : Stm} {ts us : List Token} → PlainLetting s ts us → Part letting_word (s ∷ []) ts us
  domain_letting_part : {a : Text} {d : Dom} {ts us : List Token} → Domain d ts us →
      Part letting_word (let_dom a d ∷ []) (name a ∷ word be_word ∷ word domain_word ∷ ts) us
  unnamed_letting_part : {w : Bool} {s : Shape} {l : ℕ} {a : Text} {e : Ex} {ts us : List Token} → Expression w s l e ts us →
      Part letting_word (let_unnamed a e ∷ [])
      (name a ∷ word be_word ∷ word new_word ∷ word type_word ∷ word of_word ∷ name (codes "size") ∷ ts) us
  where_part : {w : Bool} {s : Shape} {l : ℕ} {e : Ex} {ts us : List Token} → Expression w s l e ts us →
      Part where_word (needs e ∷ []) ts us
  such_that_part : {w : Bool} {s : Shape} {l : ℕ} {e : Ex} {ts us : List Token} → Expression w s l e ts us →
      Part such_word (such_that e ∷ []) ts us

-- One or more parts with commas between.
pub data Parts : Word → List Stm → List Token → List Token → Type 0 where
  last_part : {x : Word} {ss : List Stm} {ts us : List Token} → Part x ss ts us → Parts x ss ts us
  next_part : {x : Word} {ss rs : List Stm} {ts us vs : List Token} → Part x ss ts (symbol comma ∷ us) → Parts x rs us vs →
      Parts x (ss ++ rs) ts vs

-- The words that begin a list of parts. The first one names the list.
pub data Begins : Word → List Token → List Token → Type 0 where
  begins_given : {ts : List Token} → Begins given_word (word given_word ∷ ts) ts
  begins_find : {ts : List Token} → Begins find_word (word find_word ∷ ts) ts
  begins_letting : {ts : List Token} → Begins letting_word (word letting_word ∷ ts) ts
  begins_where : {ts : List Token} → Begins where_word (word where_word ∷ ts) ts
  begins_such_that : {ts : List Token} → Begins such_word (word such_word ∷ word that_word ∷ ts) ts

-- One statement of the text, as the statements that it is read as.
pub data Statement : List Stm → List Token → List Token → Type 0 where
  parts_statement : {x : Word} {ss : List Stm} {ts us vs : List Token} → Begins x ts us → Parts x ss us vs → Statement ss ts vs
  minimising_statement : {w : Bool} {s : Shape} {l : ℕ} {e : Ex} {ts us : List Token} → Expression w s l e ts us →
      Statement (minimise e ∷ []) (word minimising_word ∷ ts) us
  maximising_statement : {w : Bool} {s : Shape} {l : ℕ} {e : Ex} {ts us : List Token} → Expression w s l e ts us →
      Statement (maximise e ∷ []) (word maximising_word ∷ ts) us

-- Any number of statements, to the end of the tokens.
pub data Statements : List Stm → List Token → Type 0 where
  no_statements : Statements [] []
  more_statements : {ss rs : List Stm} {ts us : List Token} → Statement ss ts us → Statements rs us → Statements (ss ++ rs) ts

-- The language line, with any two numbers, or none. `Essence` is a plain name.
pub data LanguageLine : List Token → List Token → Type 0 where
  no_language_line : {ts : List Token} → LanguageLine ts ts
  language_line : {m n : ℕ} {ts : List Token} →
      LanguageLine (word language_word ∷ name (codes "Essence") ∷ number m ∷ symbol dot ∷ number n ∷ ts) ts

-- The tokens are a specification with these statements.
pub data IsSpecification : List Stm → List Token → Type 0 where
  specification : {ss : List Stm} {ts us : List Token} → LanguageLine ts us → Statements ss us → IsSpecification ss ts

-- One or more lettings of a file with commas between.
pub data PlainLettings : List Stm → List Token → List Token → Type 0 where
  last_letting : {s : Stm} {ts us : List Token} → PlainLetting s ts us → PlainLettings (s ∷ []) ts us
  next_letting : {s : Stm} {ss : List Stm} {ts us vs : List Token} → PlainLetting s ts (symbol comma ∷ us) → PlainLettings ss us vs →
      PlainLettings (s ∷ ss) ts vs

-- Any number of lists of lettings, to the end of the tokens.
pub data LettingStatements : List Stm → List Token → Type 0 where
  no_lettings : LettingStatements [] []
  more_lettings : {ss rs : List Stm} {ts us : List Token} → PlainLettings ss ts us → LettingStatements rs us →
      LettingStatements (ss ++ rs) (word letting_word ∷ ts)

-- The tokens are a file of lettings, as parameters and solutions are.
pub data IsLettingsFile : List Stm → List Token → Type 0 where
  lettings_file : {ss : List Stm} {ts us : List Token} → LanguageLine ts us → LettingStatements ss us → IsLettingsFile ss ts

-- The tokens are a domain.
abbrev pub IsDomain : Dom → List Token → Type 0
IsDomain d ts = Domain d ts []
