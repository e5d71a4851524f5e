-- Laws of the machine, each stated at a function that does nothing, so that its proof is checked with the code. They tie
-- the machine to the rules of `ess_grammar`, and callers need no more of it.
use Rattle.std.specs.Prelude.{◌≡◌, ℕ, Bool, true, false, List, [], ◌∷◌, ◌++◌, Some, None}
use Rattle.ess_semantics.specs.Trees.{Repr, Ex, Dom, Stm}
use Rattle.ess_grammar.specs.Words.{Token, Word, word}
use Rattle.ess_grammar.specs.Patterns.{Shape}
use Rattle.ess_grammar.specs.Grammar.{Expression}
use Rattle.ess_grammar.specs.Statements.{IsDomain, IsSpecification, IsLettingsFile}
use Rattle.ess_grammar.specs.Representations.{IsRepresentation}
use Rattle.ess_parse_laws.specs.Modes.{State, expression_answer, domain_answer, specification_answer, operand_wanted, domain_wanted, nothing_read}
use Rattle.ess_parse_laws.specs.StatementEnds.{begins_statement}
use Rattle.ess_parse_laws.specs.Machine.{state_after, read_expression, read_domain, read_specification}
use Rattle.ess_parse_laws.specs.Lettings.{lettings_state_after, read_lettings}
use Rattle.ess_parse_laws.specs.RepresentationMachine.{kind_wanted, repr_state_after, read_representation}

-- The tokens are an expression.
pub record IsExpression (e : Ex) (ts : List Token) : Type 0 where
  pub ends_in_body : Bool
  pub shape : Shape
  pub level : ℕ
  pub derivation : Expression ends_in_body shape level e ts []

-- Each list of tokens is at most one tree, by the rules alone.
pub record OneTree : Type 0 where
  pub expressions : (ts : List Token) (e f : Ex) → IsExpression e ts → IsExpression f ts → e ≡ f
  pub domains : (ts : List Token) (c d : Dom) → IsDomain c ts → IsDomain d ts → c ≡ d
  pub specifications : (ts : List Token) (rs ss : List Stm) → IsSpecification rs ts → IsSpecification ss ts → rs ≡ ss
  pub lettings : (ts : List Token) (rs ss : List Stm) → IsLettingsFile rs ts → IsLettingsFile ss ts → rs ≡ ss
  pub representations : (ts : List Token) (q r : Repr) → IsRepresentation q ts → IsRepresentation r ts → q ≡ r

-- What the rules derive, the machine reads.
pub record ReadsWhatIsDerived : Type 0 where
  pub expressions : (ts : List Token) (e : Ex) → IsExpression e ts → read_expression ts ≡ Some (expression_answer e)
  pub domains : (ts : List Token) (d : Dom) → IsDomain d ts → read_domain ts ≡ Some (domain_answer d)
  pub specifications : (ts : List Token) (ss : List Stm) → IsSpecification ss ts → read_specification ts ≡ Some (specification_answer ss)
  pub lettings : (ts : List Token) (ss : List Stm) → IsLettingsFile ss ts → read_lettings ts ≡ Some (specification_answer ss)
  pub representations : (ts : List Token) (r : Repr) → IsRepresentation r ts → read_representation ts ≡ Some r

-- What the machine reads, the rules derive.
pub record DerivesWhatIsRead : Type 0 where
  pub expressions : (ts : List Token) (e : Ex) → read_expression ts ≡ Some (expression_answer e) → IsExpression e ts
  pub domains : (ts : List Token) (d : Dom) → read_domain ts ≡ Some (domain_answer d) → IsDomain d ts
  pub specifications : (ts : List Token) (ss : List Stm) → read_specification ts ≡ Some (specification_answer ss) → IsSpecification ss ts
  pub lettings : (ts : List Token) (ss : List Stm) → read_lettings ts ≡ Some (specification_answer ss) → IsLettingsFile ss ts
  pub representations : (ts : List Token) (r : Repr) → read_representation ts ≡ Some r → IsRepresentation r ts

-- Where the machine stops, no text is derived that begins with the tokens up to there.
pub record StopsForGood : Type 0 where
  pub expressions : (ts us : List Token) (e : Ex) → state_after ts operand_wanted [] ≡ None → IsExpression e (ts ++ us) → ⊥
  pub domains : (ts us : List Token) (d : Dom) → state_after ts domain_wanted [] ≡ None → IsDomain d (ts ++ us) → ⊥
  pub specifications : (ts us : List Token) (ss : List Stm) → state_after ts nothing_read [] ≡ None → IsSpecification ss (ts ++ us) → ⊥
  pub lettings : (ts us : List Token) (ss : List Stm) → lettings_state_after false ts nothing_read [] ≡ None → IsLettingsFile ss (ts ++ us) → ⊥
  pub representations : (ts us : List Token) (r : Repr) → repr_state_after ts kind_wanted [] ≡ None → IsRepresentation r (ts ++ us) → ⊥

-- Before each word that begins a statement, where the machine has gone past it, stands a whole text.
pub record WholeBeforeStatements : Type 0 where
  pub specifications : (ts us : List Token) (w : Word) (r : State) → begins_statement w ≡ true → state_after (ts ++ word w ∷ us) nothing_read [] ≡ Some r →
      (ss : List Stm) × IsSpecification ss ts
  pub lettings : (ts us : List Token) (w : Word) (r : State) → begins_statement w ≡ true → lettings_state_after false (ts ++ word w ∷ us) nothing_read [] ≡ Some r →
      (ss : List Stm) × IsLettingsFile ss ts
