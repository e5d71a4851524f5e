-- A line that is a specification of one statement is that statement, where it doesn't begin with a language line; and a line
-- of representations is no statement.
use Rattle.std.proofs.Common.{◌≡◌, refl, sym, ap, ◌∙◌, subst, Bool, true, false, List, [], ◌∷◌, ◌++◌, map}
use Rattle.ess_semantics.specs.Values.{Text}
use Rattle.ess_semantics.specs.Trees.{Stm}
use Rattle.ess_grammar.specs.Words.{Token, Word, word, language_word}
use Rattle.ess_grammar.specs.Statements.{NameList, last_name, next_name, Part, given_part, given_enum_part, find_part, plain_letting_part}
use Rattle.ess_grammar.specs.Statements.{domain_letting_part, unnamed_letting_part, where_part, such_that_part, Parts, last_part, next_part}
use Rattle.ess_grammar.specs.Statements.{Begins, begins_given, begins_find, begins_letting, begins_where, begins_such_that, Statement}
use Rattle.ess_grammar.specs.Statements.{parts_statement, minimising_statement, maximising_statement, Statements, no_statements}
use Rattle.ess_grammar.specs.Statements.{more_statements, no_language_line, language_line, IsSpecification, specification}

-- Whether there is an item.
abbrev is_some_list : {A : Type 0} → List A → Bool
is_some_list [] = false
is_some_list (x ∷ xs) = true

names-there : {ns : List Text} {ts us : List Token} {A : Type 0} (f : Text → A) → NameList ns ts us → is_some_list (map f ns) ≡ true
names-there f last_name = refl
names-there f (next_name d) = refl

part-there : {x : Word} {ss : List Stm} {ts us : List Token} → Part x ss ts us → is_some_list ss ≡ true
part-there (given_part ns d) = names-there _ ns
part-there given_enum_part = refl
part-there (find_part ns d) = names-there _ ns
part-there (plain_letting_part d) = refl
part-there (domain_letting_part d) = refl
part-there (unnamed_letting_part d) = refl
part-there (where_part d) = refl
part-there (such_that_part d) = refl

front-there : (ss rs : List Stm) → is_some_list ss ≡ true → is_some_list (ss ++ rs) ≡ true
front-there [] rs h = cc
front-there (s ∷ ss) rs h = refl

parts-there : {x : Word} {ss : List Stm} {ts us : List Token} → Parts x ss ts us → is_some_list ss ≡ true
parts-there (last_part d) = part-there d
parts-there (next_part {ss = ss} {rs = rs} d ds) = front-there ss rs (part-there d)

-- A statement is read as one or more.
statement-there : {ss : List Stm} {ts us : List Token} → Statement ss ts us → is_some_list ss ≡ true
statement-there (parts_statement b d) = parts-there d
statement-there (minimising_statement d) = refl
statement-there (maximising_statement d) = refl

-- Whether a statement's first token is a word other than `language`.
abbrev pub begins_other : List Token → Bool
begins_other (word language_word ∷ ts) = false
begins_other (word w ∷ ts) = true
begins_other _ = false

begins-other : {x : Word} {ts us : List Token} → Begins x ts us → begins_other ts ≡ true
begins-other begins_given = refl
begins-other begins_find = refl
begins-other begins_letting = refl
begins-other begins_where = refl
begins-other begins_such_that = refl

pub statement-begins : {ss : List Stm} {ts us : List Token} → Statement ss ts us → begins_other ts ≡ true
statement-begins (parts_statement b d) = begins-other b
statement-begins (minimising_statement d) = refl
statement-begins (maximising_statement d) = refl

-- A statement alone is a specification.
pub alone-specification : {s : Stm} {ts : List Token} → Statement (s ∷ []) ts [] → IsSpecification (s ∷ []) ts
alone-specification d = specification no_language_line (more_statements d no_statements)

-- Whether the first token is the word `language`.
abbrev pub begins_language : List Token → Bool
begins_language (word language_word ∷ ts) = true
begins_language _ = false

front-alone : (s : Stm) (ss rs : List Stm) (ts us : List Token) → ss ++ rs ≡ s ∷ [] → Statement ss ts us → Statements rs us →
    Statement (s ∷ []) ts []
front-alone s [] rs ts us e d ds = let k = statement-there d in cc
front-alone s (r ∷ []) [] ts us e d no_statements = subst (λ q. Statement (q ∷ []) ts []) (cc) d
front-alone s (r ∷ []) rs ts us e d (more_statements {ss = ps} {rs = qs} g gs) =
    let k : ps ++ qs ≡ [] = cc in let h : is_some_list (ps ++ qs) ≡ true = front-there ps qs (statement-there g) in
    let no : false ≡ true = sym (ap is_some_list k) ∙ h in cc
front-alone s (r ∷ q ∷ ss) rs ts us e d ds = cc

one-statement : (s : Stm) (ss : List Stm) (ts : List Token) → ss ≡ s ∷ [] → Statements ss ts → Statement (s ∷ []) ts []
one-statement s ss ts e no_statements = cc
one-statement s ss ts e (more_statements {ss = ps} {rs = qs} {us = us} d ds) = front-alone s ps qs ts us e d ds

-- A specification of one statement without a language line is that statement.
pub specification-alone : {s : Stm} {ts : List Token} → begins_language ts ≡ false → IsSpecification (s ∷ []) ts → Statement (s ∷ []) ts []
specification-alone {s = s} {ts = ts} b (specification no_language_line ds) = one-statement s (s ∷ []) ts refl ds
specification-alone b (specification language_line ds) = cc
