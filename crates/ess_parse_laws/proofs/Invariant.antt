-- What each mode with its frames says of the tokens before it.
use Rattle.std.proofs.Common.{◌++◌, Bool, List, None, Option, Some, codes, false, true, ℕ, ◌∷◌, ◌≡◌}
use Rattle.ess_semantics.specs.Trees.{Dom, Ex, Op, Stm, mset_literal, partition_literal, relation_literal, tuple_literal}
use Rattle.ess_grammar.specs.Grammar.{Atom, Domain}
use Rattle.ess_grammar.specs.Words.{Token, Word, be_word, by_word, dot, enum_word, find_word, function, function_word, given_word, indexed_word, int_word, language_word, letting_word, matrix_word, maximising_word, minimising_word, mset_word, name, new_word, number, of_word, open_round, partition_word, record_word, relation_word, such_word, symbol, tuple_word, type_word, where_word, word}
use Rattle.ess_grammar.specs.Statements.{begins_find, begins_given, begins_letting, begins_where, more_statements, parts_statement}
use Rattle.ess_parse_laws.proofs.Contexts.{AttributeContext, AxesContext, DomainContext, FieldContext, FieldNameContext, JoiningContext, KeyRead, OperandContext, PartsMayBegin, RelationContext, StatementsMayBegin, inner_word, objective_before, where_before}
use Rattle.ess_parse_laws.proofs.StatementContexts.{EnumValueRead, EnumValues, NamesRead, NamesWanted, StatementRead, first_name_wanted}
use Rattle.ess_parse_laws.specs.Frames.{Frame}
use Rattle.ess_parse_laws.specs.Modes.{Mode, State, attribute_read, attribute_wanted, axes_read, be_read, by_read, domain_read, domain_wanted, enum_read, field_name_read, field_name_wanted, field_read, field_wanted, first_number_read, function_begun, function_bracket_read, function_literal_begun, function_word_read, given_new_read, given_type_read, indexed_read, inner_begun, int_read, joining_wanted, language_dot_read, language_name_read, language_read, letting_name_read, letting_new_read, letting_type_read, letting_wanted, literal_begun, matrix_begun, name_read, names_wanted, nothing_read, of_read, operand_read, operand_wanted, record_begun, record_literal_begun, relation_begun, relation_of_read, relation_of_wanted, statement_read, such_read, tuple_begun, value_name_read, value_name_wanted}
use Rattle.ess_parse_laws.specs.StatementEnds.{begin_after, begin_statement}

-- The word before the bracket of a literal.
pub data LiteralWord : Op → Token → Type 0 where
  tuple_literal_word : LiteralWord tuple_literal (word tuple_word)
  mset_literal_word : LiteralWord mset_literal (word mset_word)
  relation_literal_word : LiteralWord relation_literal (word relation_word)
  partition_literal_word : LiteralWord partition_literal (word partition_word)

-- An atom was read under the frames.
pub record ReadAtom (t0 : List Token) (fs : List Frame) (p : Bool) (e : Ex) (ts : List Token) : Type 0 where
  pub us : List Token
  pub context : OperandContext t0 fs us
  pub derivation : Atom p e us ts

-- A domain was read under the frames.
pub record ReadDomain (t0 : List Token) (fs : List Frame) (d : Dom) (ts : List Token) : Type 0 where
  pub us : List Token
  pub context : DomainContext t0 fs us
  pub derivation : Domain d us ts

-- The word of a literal was read under the frames.
pub record LiteralBegun (t0 : List Token) (fs : List Frame) (o : Op) (ts : List Token) : Type 0 where
  pub t : Token
  pub is : LiteralWord o t
  pub context : OperandContext t0 fs (t ∷ ts)

-- The tokens t0 down to ts are those of the state.
abbrev pub Invariant : List Token → Mode → List Frame → List Token → Type 0
Invariant t0 operand_wanted fs ts = OperandContext t0 fs ts
Invariant t0 (operand_read p e) fs ts = ReadAtom t0 fs p e ts
Invariant t0 (function_word_read f) fs ts = OperandContext t0 fs (function f ∷ ts)
Invariant t0 (literal_begun o) fs ts = LiteralBegun t0 fs o ts
Invariant t0 function_literal_begun fs ts = OperandContext t0 fs (word function_word ∷ ts)
Invariant t0 record_literal_begun fs ts = OperandContext t0 fs (word record_word ∷ ts)
Invariant t0 field_wanted fs ts = FieldContext t0 fs ts
Invariant t0 (field_read a) fs ts = FieldContext t0 fs (name a ∷ ts)
Invariant t0 domain_wanted fs ts = DomainContext t0 fs ts
Invariant t0 (domain_read d) fs ts = ReadDomain t0 fs d ts
Invariant t0 int_read fs ts = DomainContext t0 fs (word int_word ∷ ts)
Invariant t0 matrix_begun fs ts = DomainContext t0 fs (word matrix_word ∷ ts)
Invariant t0 indexed_read fs ts = DomainContext t0 fs (word matrix_word ∷ word indexed_word ∷ ts)
Invariant t0 by_read fs ts = DomainContext t0 fs (word matrix_word ∷ word indexed_word ∷ word by_word ∷ ts)
Invariant t0 axes_read fs ts = AxesContext t0 fs ts
Invariant t0 tuple_begun fs ts = DomainContext t0 fs (word tuple_word ∷ ts)
Invariant t0 record_begun fs ts = DomainContext t0 fs (word record_word ∷ ts)
Invariant t0 field_name_wanted fs ts = FieldNameContext t0 fs ts
Invariant t0 (field_name_read a) fs ts = FieldNameContext t0 fs (name a ∷ ts)
Invariant t0 (inner_begun k) fs ts = DomainContext t0 fs (word (inner_word k) ∷ ts)
Invariant t0 (joining_wanted k) fs ts = JoiningContext t0 k fs ts
Invariant t0 relation_begun fs ts = DomainContext t0 fs (word relation_word ∷ ts)
Invariant t0 relation_of_wanted fs ts = RelationContext t0 fs ts
Invariant t0 relation_of_read fs ts = RelationContext t0 fs (word of_word ∷ ts)
Invariant t0 function_begun fs ts = DomainContext t0 fs (word function_word ∷ ts)
Invariant t0 function_bracket_read fs ts = DomainContext t0 fs (word function_word ∷ symbol open_round ∷ ts)
Invariant t0 attribute_wanted fs ts = AttributeContext t0 fs ts
Invariant t0 (attribute_read k) fs ts = KeyRead t0 k fs ts
Invariant t0 nothing_read fs ts = t0 ≡ ts
Invariant t0 language_read fs ts = t0 ≡ word language_word ∷ ts
Invariant t0 language_name_read fs ts = t0 ≡ word language_word ∷ name (codes "Essence") ∷ ts
Invariant t0 first_number_read fs ts = (m : ℕ) × (t0 ≡ word language_word ∷ name (codes "Essence") ∷ number m ∷ ts)
Invariant t0 language_dot_read fs ts = (m : ℕ) × (t0 ≡ word language_word ∷ name (codes "Essence") ∷ number m ∷ symbol dot ∷ ts)
Invariant t0 (names_wanted g ns ss) fs ts = NamesWanted t0 g ns ss ts
Invariant t0 (name_read g ns ss) fs ts = NamesRead t0 g ns ss ts
Invariant t0 (given_new_read a ss) fs ts = PartsMayBegin t0 given_word ss (name a ∷ word new_word ∷ ts)
Invariant t0 (given_type_read a ss) fs ts = PartsMayBegin t0 given_word ss (name a ∷ word new_word ∷ word type_word ∷ ts)
Invariant t0 (letting_wanted ss) fs ts = PartsMayBegin t0 letting_word ss ts
Invariant t0 (letting_name_read a ss) fs ts = PartsMayBegin t0 letting_word ss (name a ∷ ts)
Invariant t0 (be_read a ss) fs ts = PartsMayBegin t0 letting_word ss (name a ∷ word be_word ∷ ts)
Invariant t0 (letting_new_read a ss) fs ts = PartsMayBegin t0 letting_word ss (name a ∷ word be_word ∷ word new_word ∷ ts)
Invariant t0 (letting_type_read a ss) fs ts = PartsMayBegin t0 letting_word ss (name a ∷ word be_word ∷ word new_word ∷ word type_word ∷ ts)
Invariant t0 (enum_read a ss) fs ts = PartsMayBegin t0 letting_word ss (name a ∷ word be_word ∷ word new_word ∷ word type_word ∷ word enum_word ∷ ts)
Invariant t0 (of_read a ss) fs ts = PartsMayBegin t0 letting_word ss (name a ∷ word be_word ∷ word new_word ∷ word type_word ∷ word of_word ∷ ts)
Invariant t0 (value_name_wanted a bs ss) fs ts = EnumValues t0 a bs ss ts
Invariant t0 (value_name_read a bs ss) fs ts = EnumValueRead t0 a ss bs ts
Invariant t0 (such_read ss) fs ts = StatementsMayBegin t0 ss (word such_word ∷ ts)
Invariant t0 (statement_read x ss) fs ts = StatementRead t0 x ss ts

-- The same of a state that a step answers, if any.
abbrev pub Keeps : List Token → Option State → List Token → Type 0
Keeps t0 None ts = Unit {0}
Keeps t0 (Some r) ts = Invariant t0 r.mode r.frames ts

-- Behind these statements others may begin, if they have ended.
abbrev pub StatedBy : List Token → Option (List Stm) → List Token → Type 0
StatedBy t0 None ts = Unit {0}
StatedBy t0 (Some ss) ts = StatementsMayBegin t0 ss ts

-- A word that begins a statement keeps the invariant.
pub begin-statement-keeps : {t0 : List Token} {ts : List Token} (w : Word) (ss : List Stm) → StatementsMayBegin t0 ss (word w ∷ ts) → Keeps t0 (begin_statement w ss) ts
begin-statement-keeps given_word ss f = first_name_wanted (λ rs qs us d q. f (rs ++ qs) (more_statements (parts_statement begins_given d) q))
begin-statement-keeps find_word ss f = first_name_wanted (λ rs qs us d q. f (rs ++ qs) (more_statements (parts_statement begins_find d) q))
begin-statement-keeps letting_word ss f = λ rs qs us d q. f (rs ++ qs) (more_statements (parts_statement begins_letting d) q)
begin-statement-keeps where_word ss f = where_before (λ rs qs us d q. f (rs ++ qs) (more_statements (parts_statement begins_where d) q))
begin-statement-keeps such_word ss f = f
begin-statement-keeps minimising_word ss f = objective_before {b = false} f
begin-statement-keeps maximising_word ss f = objective_before {b = true} f
begin-statement-keeps _ ss f = tt

-- The same behind statements that have ended.
pub begin-after-keeps : (t0 ts : List Token) (w : Word) (o : Option (List Stm)) → StatedBy t0 o (word w ∷ ts) → Keeps t0 (begin_after w o) ts
begin-after-keeps t0 ts w None h = tt
begin-after-keeps t0 ts w (Some ss) h = begin-statement-keeps w ss h
