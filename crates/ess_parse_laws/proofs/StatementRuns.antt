-- Runs over the ends of the parts of statements, and over lists of names.
use Rattle.std.proofs.Common.{◌++◌, Bool, List, Option, [], false, map, refl, true, ℕ, ◌∷◌, ◌≡◌}
use Rattle.ess_semantics.specs.Trees.{Dom, Ex, Stm, find, given, let_dom, let_enum, let_ex, let_unnamed, maximise, minimise, needs, such_that}
use Rattle.ess_semantics.specs.Values.{Text}
use Rattle.ess_grammar.proofs.FirstTokens.{First, begins_expression}
use Rattle.ess_grammar.specs.Statements.{NameList, last_name, next_name}
use Rattle.ess_grammar.specs.Patterns.{Shape}
use Rattle.ess_grammar.specs.Words.{Token, Word, close_curly, comma, domain_word, find_word, given_word, letting_word, maximising_word, minimising_word, new_word, such_word, symbol, where_word, word}
use Rattle.ess_parse_laws.specs.Modes.{Answer, be_read, domain_read, name_read, names_wanted, operand_wanted, statement_read, value_name_wanted}
use Rattle.ess_parse_laws.proofs.DomainRuns.{NoBracket}
use Rattle.ess_parse_laws.proofs.ExpressionEnds.{Stops, reading}
use Rattle.ess_parse_laws.specs.Frames.{declaration_frame, letting_domain_frame, letting_frame, objective_frame, such_that_frame, unnamed_frame, where_frame}
use Rattle.ess_parse_laws.specs.StatementEnds.{declarations}
use Rattle.ess_parse_laws.proofs.EndLevels.{end_level-positive}
use Rattle.ess_parse_laws.specs.Reversed.{reverse_list}
use Rattle.ess_parse_laws.specs.Machine.{run}

-- What may follow a part of a statement.
pub data EndsPart : List Token → Type 0 where
  text_ends : EndsPart []
  comma_follows : {us : List Token} → EndsPart (symbol comma ∷ us)
  word_follows : {w : Word} {us : List Token} → EndsPart (word w ∷ us)

-- The run behind statements, the last of a list of the word x.
abbrev pub part_done : Word → List Stm → List Token → Option Answer
part_done t ss us = run us (statement_read t ss) []

-- What follows a part goes on with no expression.
pub part-stops : {us : List Token} → EndsPart us → (w : Bool) (l : ℕ) → Stops w l us
part-stops text_ends w l = tt
part-stops comma_follows w l = (end_level-positive l, refl, refl)
part-stops word_follows w l = (end_level-positive l, refl, refl)

-- It is no opening bracket.
pub part-no-bracket : {us : List Token} → EndsPart us → NoBracket us
part-no-bracket text_ends = tt
part-no-bracket comma_follows = refl
part-no-bracket word_follows = refl

-- A letting of a value ends.
pub letting-ends : {us : List Token} → EndsPart us → (a : Text) (ss : List Stm) (w : Bool) (s : Shape) (l : ℕ) (e : Ex) → reading us (letting_frame a ss ∷ []) w s l e ≡ part_done letting_word (let_ex a e ∷ ss) us
letting-ends text_ends a ss w s l e = refl
letting-ends comma_follows a ss w s l e = refl
letting-ends word_follows a ss w s l e = refl

-- A letting of an unnamed type ends.
pub unnamed-ends : {us : List Token} → EndsPart us → (a : Text) (ss : List Stm) (w : Bool) (s : Shape) (l : ℕ) (e : Ex) → reading us (unnamed_frame a ss ∷ []) w s l e ≡ part_done letting_word (let_unnamed a e ∷ ss) us
unnamed-ends text_ends a ss w s l e = refl
unnamed-ends comma_follows a ss w s l e = refl
unnamed-ends word_follows a ss w s l e = refl

-- A condition ends.
pub where-ends : {us : List Token} → EndsPart us → (ss : List Stm) (w : Bool) (s : Shape) (l : ℕ) (e : Ex) → reading us (where_frame ss ∷ []) w s l e ≡ part_done where_word (needs e ∷ ss) us
where-ends text_ends ss w s l e = refl
where-ends comma_follows ss w s l e = refl
where-ends word_follows ss w s l e = refl

-- A constraint ends.
pub such-that-ends : {us : List Token} → EndsPart us → (ss : List Stm) (w : Bool) (s : Shape) (l : ℕ) (e : Ex) → reading us (such_that_frame ss ∷ []) w s l e ≡ part_done such_word (such_that e ∷ ss) us
such-that-ends text_ends ss w s l e = refl
such-that-ends comma_follows ss w s l e = refl
such-that-ends word_follows ss w s l e = refl

-- A letting of a domain ends.
pub letting-domain-ends : {us : List Token} → EndsPart us → (a : Text) (ss : List Stm) (d : Dom) → run us (domain_read d) (letting_domain_frame a ss ∷ []) ≡ part_done letting_word (let_dom a d ∷ ss) us
letting-domain-ends text_ends a ss d = refl
letting-domain-ends comma_follows a ss d = refl
letting-domain-ends word_follows a ss d = refl

-- Givens end.
pub given-ends : {us : List Token} → EndsPart us → (as' : List Text) (ss : List Stm) (d : Dom) → run us (domain_read d) (declaration_frame true as' ss ∷ []) ≡ part_done given_word (declarations true as' d ss) us
given-ends text_ends as' ss d = refl
given-ends comma_follows as' ss d = refl
given-ends word_follows as' ss d = refl

-- Finds end.
pub find-ends : {us : List Token} → EndsPart us → (as' : List Text) (ss : List Stm) (d : Dom) → run us (domain_read d) (declaration_frame false as' ss ∷ []) ≡ part_done find_word (declarations false as' d ss) us
find-ends text_ends as' ss d = refl
find-ends comma_follows as' ss d = refl
find-ends word_follows as' ss d = refl

-- An objective to be minimised ends.
pub minimising-ends : {us : List Token} → EndsPart us → (ss : List Stm) (w : Bool) (s : Shape) (l : ℕ) (e : Ex) → reading us (objective_frame false ss ∷ []) w s l e ≡ part_done minimising_word (minimise e ∷ ss) us
minimising-ends text_ends ss w s l e = refl
minimising-ends comma_follows ss w s l e = refl
minimising-ends word_follows ss w s l e = refl

-- An objective to be maximised ends.
pub maximising-ends : {us : List Token} → EndsPart us → (ss : List Stm) (w : Bool) (s : Shape) (l : ℕ) (e : Ex) → reading us (objective_frame true ss ∷ []) w s l e ≡ part_done maximising_word (maximise e ∷ ss) us
maximising-ends text_ends ss w s l e = refl
maximising-ends comma_follows ss w s l e = refl
maximising-ends word_follows ss w s l e = refl

-- The names of a declaration.
pub names-run : {as' : List Text} {ts us : List Token} → NameList as' ts us → (g : Bool) (acc : List Text) (ss : List Stm) → run ts (names_wanted g acc ss) [] ≡ run us (name_read g (reverse_list as' acc) ss) []
names-run last_name g acc ss = refl
names-run (next_name {a = a} ns) g acc ss = names-run ns g (a ∷ acc) ss

-- The values of an enumerated type.
pub enum-run : {as' : List Text} {ts us : List Token} → NameList as' ts (symbol close_curly ∷ us) → (a : Text) (acc : List Text) (ss : List Stm) → run ts (value_name_wanted a acc ss) [] ≡ run us (statement_read letting_word (let_enum a (reverse_list acc as') ∷ ss)) []
enum-run last_name a acc ss = refl
enum-run (next_name {a = b} ns) a acc ss = enum-run ns a (b ∷ acc) ss

-- Finds of several names are one statement each, in order.
pub declarations-find : (as' : List Text) (acc : List Text) (d : Dom) (ss : List Stm) → declarations false (reverse_list as' acc) d ss ≡ reverse_list (map (λ a. find a d) as') (declarations false acc d ss)
declarations-find [] acc d ss = refl
declarations-find (a ∷ as') acc d ss = declarations-find as' (a ∷ acc) d ss

-- Givens of several names are one statement each, in order.
pub declarations-given : (as' : List Text) (acc : List Text) (d : Dom) (ss : List Stm) → declarations true (reverse_list as' acc) d ss ≡ reverse_list (map (λ a. given a d) as') (declarations true acc d ss)
declarations-given [] acc d ss = refl
declarations-given (a ∷ as') acc d ss = declarations-given as' (a ∷ acc) d ss

-- The first token of a letting's expression.
pub letting-begins : (ts : List Token) (a : Text) (ss : List Stm) → First begins_expression ts → run ts (be_read a ss) [] ≡ run ts operand_wanted (letting_frame a ss ∷ [])
letting-begins [] a ss h = absurd h
letting-begins (word domain_word ∷ ts) a ss h = cc
letting-begins (word new_word ∷ ts) a ss h = cc
letting-begins (t ∷ ts) a ss h = refl

-- Reversing twice in a row is reversing the joined lists.
pub reverse-append : (ss rs acc : List Stm) → reverse_list rs (reverse_list ss acc) ≡ reverse_list (ss ++ rs) acc
reverse-append [] rs acc = refl
reverse-append (s ∷ ss) rs acc = reverse-append ss rs (s ∷ acc)

-- A list reversed twice stands as it was.
pub reverse-twice : {Atom : Type 0} (xs acc : List Atom) → reverse_list (reverse_list xs acc) [] ≡ reverse_list acc xs
reverse-twice [] acc = refl
reverse-twice (x ∷ xs) acc = reverse-twice xs (x ∷ acc)
