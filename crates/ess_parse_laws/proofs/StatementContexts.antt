-- What the modes of statements say of the tokens before them.
use Rattle.std.proofs.Common.{◌++◌, Bool, List, [], ap, append_assoc, false, map, refl, subst, sym, true, ◌∙◌, ◌∷◌, ◌≡◌}
use Rattle.ess_semantics.specs.Trees.{Dom, Stm, find, given}
use Rattle.ess_semantics.specs.Values.{Text}
use Rattle.ess_grammar.specs.Grammar.{Domain}
use Rattle.ess_grammar.specs.Statements.{IsSpecification, NameList, Part, find_part, given_part, last_part, next_part}
use Rattle.ess_grammar.specs.Words.{Token, Word, be_word, colon, comma, enum_word, letting_word, name, new_word, open_curly, symbol, type_word, word}
use Rattle.ess_parse_laws.proofs.Contexts.{PartsMayBegin, StatementsMayBegin, declaring_word}
use Rattle.ess_parse_laws.specs.StatementEnds.{declarations}
use Rattle.ess_parse_laws.proofs.StatementRuns.{declarations-find, declarations-given, reverse-twice}
use Rattle.ess_parse_laws.specs.Reversed.{reverse_list}

-- Names of a declaration, of which another is wanted.
pub data NamesWanted (t0 : List Token) : Bool → List Text → List Stm → List Token → Type 0 where
  first_name_wanted : {g : Bool} {ss : List Stm} {ts : List Token} → PartsMayBegin t0 (declaring_word g) ss ts → NamesWanted t0 g [] ss ts
  more_names_wanted : {g : Bool} {a : Text} {ns : List Text} {ss : List Stm} {us ts : List Token} → ((ms : List Text) (xs : List Token) → NameList ms ts xs → NameList (reverse_list (a ∷ ns) ms) us xs) →
      PartsMayBegin t0 (declaring_word g) ss us → NamesWanted t0 g (a ∷ ns) ss ts

-- Names of a declaration, of which the last is read.
pub data NamesRead (t0 : List Token) : Bool → List Text → List Stm → List Token → Type 0 where
  first_name_read : {g : Bool} {a : Text} {ss : List Stm} {ts : List Token} → PartsMayBegin t0 (declaring_word g) ss (name a ∷ ts) → NamesRead t0 g (a ∷ []) ss ts
  more_names_read : {g : Bool} {a b : Text} {ns : List Text} {ss : List Stm} {us ts : List Token} → ((ms : List Text) (xs : List Token) → NameList ms (name a ∷ ts) xs → NameList (reverse_list (b ∷ ns) ms) us xs) →
      PartsMayBegin t0 (declaring_word g) ss us → NamesRead t0 g (a ∷ b ∷ ns) ss ts

-- A letting of an enumerated type, before its values.
abbrev enum_tokens : Text → List Token → List Token
enum_tokens a us = name a ∷ word be_word ∷ word new_word ∷ word type_word ∷ word enum_word ∷ symbol open_curly ∷ us

-- Values of an enumerated type, of which another is wanted.
pub record EnumValues (t0 : List Token) (a : Text) (bs : List Text) (ss : List Stm) (ts : List Token) : Type 0 where
  pub us : List Token
  pub names : (ms : List Text) (xs : List Token) → NameList ms ts xs → NameList (reverse_list bs ms) us xs
  pub parts : PartsMayBegin t0 letting_word ss (enum_tokens a us)

-- Values of an enumerated type, of which the last is read.
pub data EnumValueRead (t0 : List Token) (a : Text) (ss : List Stm) : List Text → List Token → Type 0 where
  enum_value_read : {b : Text} {bs : List Text} {ts : List Token} → EnumValues t0 a bs ss (name b ∷ ts) → EnumValueRead t0 a ss (b ∷ bs) ts

-- Behind a statement, or a part of a list of the word x.
pub record StatementRead (t0 : List Token) (x : Word) (ss : List Stm) (ts : List Token) : Type 0 where
  pub stop : StatementsMayBegin t0 ss ts
  pub another : (us : List Token) → ts ≡ symbol comma ∷ us → PartsMayBegin t0 x ss us

reverse-behind : (ps ss qs : List Stm) → reverse_list ss (ps ++ qs) ≡ reverse_list (reverse_list ps ss) qs
reverse-behind [] ss qs = refl
reverse-behind (p ∷ ps) ss qs = reverse-behind ps (p ∷ ss) qs

-- Behind a part statements may begin.
pub part-ends : {t0 : List Token} {x : Word} {us ts : List Token} (ss ps : List Stm) → PartsMayBegin t0 x ss us → Part x ps us ts → StatementsMayBegin t0 (reverse_list ps ss) ts
part-ends {t0 = t0} {ts = ts} ss ps f d qs q = subst (λ ss. IsSpecification ss t0) (reverse-behind ps ss qs) (f ps qs ts (last_part d) q)

-- Behind a part and a comma parts of the same list may begin.
pub part-goes-on : {t0 : List Token} {x : Word} {us ts : List Token} (ss ps : List Stm) → PartsMayBegin t0 x ss us → Part x ps us (symbol comma ∷ ts) → PartsMayBegin t0 x (reverse_list ps ss) ts
part-goes-on {t0 = t0} ss ps f d rs qs vs e q =
    subst (λ ss. IsSpecification ss t0) (ap (reverse_list ss) (append_assoc ps rs qs) ∙ reverse-behind ps ss (rs ++ qs)) (f (ps ++ rs) qs vs (next_part d e) q)

-- Behind a part that ends in no expression and no domain.
pub part-read : {t0 : List Token} {x : Word} {us ts : List Token} (ss ps : List Stm) → PartsMayBegin t0 x ss us → Part x ps us ts → StatementRead t0 x (reverse_list ps ss) ts
part-read {t0 = t0} {x = x} {us = us} ss ps f d = record { stop = part-ends ss ps f d; another = λ vs h. part-goes-on ss ps f (subst (λ ts. Part x ps us ts) h d) }

-- The parts that declare several names.
pub declared-part : (g : Bool) (ns : List Text) (d : Dom) (ss : List Stm) {us vs ts : List Token} → NameList (reverse_list ns []) us (symbol colon ∷ vs) → Domain d vs ts →
    (ps : List Stm) × Part (declaring_word g) ps us ts × (reverse_list ps ss ≡ declarations g ns d ss)
declared-part true ns d ss a k = (map (λ a. given a d) (reverse_list ns []), given_part a k, sym (declarations-given (reverse_list ns []) [] d ss) ∙ ap (λ ns. declarations true ns d ss) (reverse-twice ns []))
declared-part false ns d ss a k = (map (λ a. find a d) (reverse_list ns []), find_part a k, sym (declarations-find (reverse_list ns []) [] d ss) ∙ ap (λ ns. declarations false ns d ss) (reverse-twice ns []))
