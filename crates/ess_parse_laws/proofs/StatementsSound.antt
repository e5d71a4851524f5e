-- What a token does in the part of a statement that is no expression and no domain keeps the invariant.
use Rattle.std.proofs.Common.{Bool, List, None, Some, [], ap, codes, refl, subst, sym, true, ℕ, ◌∙◌, ◌∷◌, ◌≡◌}
use Rattle.std.specs.Str.{bytes_eq}
use Rattle.std.proofs.lemmas.Slice.Eq.{bytes_eq-Decides}
use Rattle.ess_semantics.specs.Trees.{Stm, let_enum}
use Rattle.ess_semantics.specs.Values.{Text}
use Rattle.ess_grammar.specs.Statements.{IsSpecification, enum_letting, language_line, last_name, last_part, next_name, next_part, no_language_line, plain_letting_part, specification}
use Rattle.ess_grammar.specs.Words.{Token, Word, be_word, close_curly, colon, comma, domain_word, dot, find_word, given_word, language_word, letting_word, name, new_word, number, of_word, such_word, symbol, type_word, where_word, word}
use Rattle.ess_parse_laws.proofs.StatementContexts.{EnumValueRead, NamesRead, NamesWanted, StatementRead, enum_value_read, first_name_read, first_name_wanted, more_names_read, more_names_wanted, part-read}
use Rattle.ess_parse_laws.proofs.Invariant.{Keeps, begin-statement-keeps}
use Rattle.ess_parse_laws.proofs.Contexts.{PartsMayBegin, domain_word_before, letting_before, names_before, size_before, such_that_before, where_before}
use Rattle.ess_parse_laws.specs.StatementSteps.{another_part, step_be_read, step_language_read, step_name_read, step_names_wanted, step_nothing_read, step_of_read, step_statement_read, step_value_name_read}
use Rattle.ess_parse_laws.proofs.Booleans.{by_elim}
use Rattle.ess_parse_laws.specs.Modes.{language_name_read, operand_wanted}
use Rattle.ess_parse_laws.specs.Frames.{letting_frame, unnamed_frame}
use Rattle.ess_parse_laws.proofs.OperandsWantedSound.{operand-wanted-keeps}
use Rattle.ess_parse_laws.specs.Reversed.{reverse_list}

no-parts : {t0 : List Token} {ts : List Token} (ss : List Stm) → PartsMayBegin t0 language_word ss ts
no-parts ss rs qs us (last_part p) q = elim p [ ]
no-parts ss rs qs us (next_part p ps) q = elim p [ ]

-- Where a name is wanted.
pub names-wanted-keeps : {t0 : List Token} (t : Token) (g : Bool) (ns : List Text) (ss : List Stm) (ts : List Token) → NamesWanted t0 g ns ss (t ∷ ts) → Keeps t0 (step_names_wanted t g ns ss) ts
names-wanted-keeps (name a) g [] ss ts (first_name_wanted p) = first_name_read p
names-wanted-keeps (name a) g (b ∷ ns) ss ts (more_names_wanted f p) = more_names_read f p
names-wanted-keeps _ g ns ss ts x = tt

-- Behind a name.
pub name-read-keeps : {t0 : List Token} (t : Token) (g : Bool) (ns : List Text) (ss : List Stm) (ts : List Token) → NamesRead t0 g ns ss (t ∷ ts) → Keeps t0 (step_name_read t g ns ss) ts
name-read-keeps {t0 = t0} (symbol comma) g (a ∷ []) ss ts (first_name_read p) = more_names_wanted (λ ms xs d. next_name d) p
name-read-keeps (symbol comma) g (a ∷ b ∷ ns) ss ts (more_names_read f p) = more_names_wanted (λ ms xs d. f (a ∷ ms) xs (next_name d)) p
name-read-keeps (symbol colon) g (a ∷ []) ss ts (first_name_read p) = names_before last_name p
name-read-keeps (symbol colon) g (a ∷ b ∷ ns) ss ts (more_names_read f p) = names_before (f (a ∷ []) (symbol colon ∷ ts) last_name) p
name-read-keeps (symbol comma) g [] ss ts x = elim x [ ]
name-read-keeps (symbol colon) g [] ss ts x = elim x [ ]
name-read-keeps (word new_word) true (a ∷ []) ss ts (first_name_read p) = p
name-read-keeps _ g ns ss ts x = tt

another-part-keeps : {t0 : List Token} {ts : List Token} (w : Word) (ss : List Stm) → PartsMayBegin t0 w ss ts → Keeps t0 (another_part w ss) ts
another-part-keeps given_word ss p = first_name_wanted p
another-part-keeps find_word ss p = first_name_wanted p
another-part-keeps letting_word ss p = p
another-part-keeps where_word ss p = where_before p
another-part-keeps such_word ss p = such_that_before p
another-part-keeps _ ss p = tt

-- Behind a statement that ends in no expression and no domain.
pub statement-read-keeps : {t0 : List Token} (t : Token) (w : Word) (ss : List Stm) (ts : List Token) → StatementRead t0 w ss (t ∷ ts) → Keeps t0 (step_statement_read t w ss) ts
statement-read-keeps (symbol comma) w ss ts x = another-part-keeps w ss (x.another ts refl)
statement-read-keeps (word y) w ss ts x = begin-statement-keeps y ss x.stop
statement-read-keeps _ w ss ts x = tt

-- Behind `be`.
pub be-read-keeps : {t0 : List Token} (t : Token) (a : Text) (ss : List Stm) (ts : List Token) → PartsMayBegin t0 letting_word ss (name a ∷ word be_word ∷ t ∷ ts) → Keeps t0 (step_be_read t a ss) ts
be-read-keeps (word domain_word) a ss ts p = domain_word_before p
be-read-keeps (word new_word) a ss ts p = p
be-read-keeps t a ss ts p = operand-wanted-keeps t (letting_frame a ss ∷ []) ts (letting_before p)

-- Behind `be new type of`.
pub of-read-keeps : {t0 : List Token} (t : Token) (a : Text) (ss : List Stm) (ts : List Token) →
    PartsMayBegin t0 letting_word ss (name a ∷ word be_word ∷ word new_word ∷ word type_word ∷ word of_word ∷ t ∷ ts) → Keeps t0 (step_of_read t a ss) ts
of-read-keeps {t0 = t0} (name b) a ss ts p =
    by_elim (bytes_eq b (codes "size")) (λ r. Keeps t0 r ts)
    (Some (record { mode = operand_wanted; frames = unnamed_frame a ss ∷ [] })) None
    (λ h. size_before (subst (λ b. PartsMayBegin t0 letting_word ss (name a ∷ word be_word ∷ word new_word ∷ word type_word ∷ word of_word ∷ name b ∷ ts)) ((bytes_eq-Decides b (codes "size")).0 h) p))
    (λ h. tt)
of-read-keeps _ a ss ts p = tt

-- Behind a value's name.
pub value-name-read-keeps : {t0 : List Token} (t : Token) (a : Text) (bs : List Text) (ss : List Stm) (ts : List Token) → EnumValueRead t0 a ss bs (t ∷ ts) → Keeps t0 (step_value_name_read t a bs ss) ts
value-name-read-keeps (symbol comma) a (b ∷ bs) ss ts (enum_value_read x) = record { us = x.us; names = λ ms xs d. x.names (b ∷ ms) xs (next_name d); parts = x.parts }
value-name-read-keeps (symbol close_curly) a (b ∷ bs) ss ts (enum_value_read x) =
    part-read ss (let_enum a (reverse_list (b ∷ bs) []) ∷ []) x.parts (plain_letting_part (enum_letting (x.names (b ∷ []) (symbol close_curly ∷ ts) last_name)))
value-name-read-keeps (symbol comma) a [] ss ts x = elim x [ ]
value-name-read-keeps (symbol close_curly) a [] ss ts x = elim x [ ]
value-name-read-keeps _ a bs ss ts x = tt

-- Without a language line.
pub nothing-before-statements : {t0 ts : List Token} → t0 ≡ ts → StatementRead t0 language_word [] ts
nothing-before-statements {ts = ts} h = record { stop = λ qs q. subst (λ us. IsSpecification qs us) (sym h) (specification no_language_line q); another = λ us e. no-parts [] }

-- Behind a language line.
pub language-line-before : {t0 ts : List Token} (m n : ℕ) → t0 ≡ word language_word ∷ name (codes "Essence") ∷ number m ∷ symbol dot ∷ number n ∷ ts → StatementRead t0 language_word [] ts
language-line-before {ts = ts} m n h = record { stop = λ qs q. subst (λ us. IsSpecification qs us) (sym h) (specification language_line q); another = λ us e. no-parts [] }

-- At the first token.
pub nothing-read-keeps : {t0 : List Token} (t : Token) (ts : List Token) → t0 ≡ t ∷ ts → Keeps t0 (step_nothing_read t) ts
nothing-read-keeps (word language_word) ts h = h
nothing-read-keeps t ts h = statement-read-keeps t language_word [] ts (nothing-before-statements h)

-- Behind `language`.
pub language-read-keeps : {t0 : List Token} (t : Token) (ts : List Token) → t0 ≡ word language_word ∷ t ∷ ts → Keeps t0 (step_language_read t) ts
language-read-keeps {t0 = t0} (name a) ts h =
    by_elim (bytes_eq a (codes "Essence")) (λ r. Keeps t0 r ts) (Some (record { mode = language_name_read; frames = [] })) None
    (λ q. h ∙ ap (λ a. word language_word ∷ name a ∷ ts) ((bytes_eq-Decides a (codes "Essence")).0 q)) (λ q. tt)
language-read-keeps _ ts h = tt
