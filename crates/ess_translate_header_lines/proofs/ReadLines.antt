-- What the readers say of a line: which statement it is, or the representations of which name, or neither.
use Rattle.std.proofs.Common.{◌≡◌, refl, subst, false, [], ◌∷◌, Option, Some, None, Ok, Err, IfOk, MatchOption, map}
use Rattle.std.specs.declared.result.Result.{Result}
use Rattle.ess_rows.specs.declared.memory.NoMemory.{NoMemory}
use Rattle.ess_semantics.specs.Values.{Text}
use Rattle.ess_semantics.specs.Trees as trees
use Rattle.ess_core.specs.TreeViews.{pure_repr}
use Rattle.ess_core.specs.StatementViews.{pure_stm, pure_spec}
use Rattle.ess_core.specs.declared.statements.Stm.{Stm}
use Rattle.ess_core.specs.declared.statements.Spec.{Spec}
use Rattle.ess_grammar.specs.Tokens.{lexed, first_outside}
use Rattle.ess_grammar.specs.Load.{too_deep}
use Rattle.ess_grammar.specs.Statements.{IsSpecification}
use Rattle.ess_grammar.specs.Texts.{IsWithinLimits}
use Rattle.ess_lex.specs.Lexing.{refusal}
use Rattle.ess_parse.specs.declared.refusal.ReadNo.{ReadNo}
use Rattle.ess_parse.specs.declared.representations.named.NamedReprs.{NamedReprs}
use Rattle.ess_parse.specs.NamedReprViews.{pure_named_reprs}
use Rattle.ess_parse.specs.Refusals.{refused_first}
use Rattle.ess_parse.specs.Readers.{IsRefusedFirst, IsDerived, IsThisTree, IsAnswered}
use Rattle.ess_parse.specs.NamedRepresentations.{IsRepresentationLine}
use Rattle.ess_parse.proofs.FirstRefusals.{none-first}
use Rattle.ess_translate_header_laws.specs.HeadLines.{IsStatementLine, IsReprsLine, IsNoStatementLine, IsNoReprsLine, begins_with_language}
use Rattle.ess_translate_header_laws.proofs.Statements.{alone-specification, specification-alone}
use Rattle.ess_translate_header_laws.proofs.HeadLines.{tokens-language}

limits : (text : Text) → refused_first text ≡ None → IsWithinLimits text
limits text h = let x = none-first (refusal (lexed text)) (first_outside (lexed text)) (too_deep (lexed text)) h in (x.1, x.2)

-- Where a reader refuses a text, no tree is derived for it.
no-tree : {T A : Type 0} (view : T → A) (a : A) (why : ReadNo) → (why ≡ ReadNo.NoMemory → ⊥) → IsThisTree {T = T} view a (Err why) → ⊥
no-tree view a ReadNo.NoMemory n h = n refl
no-tree view a (ReadNo.BadByte p) n h = h
no-tree view a (ReadNo.WideNumber p) n h = h
no-tree view a (ReadNo.Unsupported p) n h = h
no-tree view a (ReadNo.TooDeep p) n h = h
no-tree view a (ReadNo.Syntax p) n h = h

-- A line that is read as a specification of one statement is that statement.
read-statement : (l : Text) (spec : Spec) (s : trees.Stm) → begins_with_language (lexed l) ≡ false → IsRefusedFirst {T = Spec} l (Ok spec) →
    IsDerived IsSpecification pure_spec l (Ok spec) → pure_spec spec ≡ s ∷ [] → IsStatementLine l s
read-statement l spec s h f d e =
    ((d.0, d.1, specification-alone (tokens-language (lexed l) false d.0 h d.1) (subst (λ ss. IsSpecification ss d.0) e d.2)), limits l f)

-- One that is read as another number of statements is no statement.
other-statements : (l : Text) (spec : Spec) → IsAnswered IsSpecification pure_spec l (Ok spec) →
    ((s : trees.Stm) → pure_spec spec ≡ s ∷ [] → ⊥) →
    IsNoStatementLine l
other-statements l spec a n s d = n s (a (s ∷ []) (d.0.0, d.0.1, alone-specification d.0.2) d.1)

-- What the one statement of the specification is that is read, if it has one.
pub statement_read : (l : Text) (spec : Spec) (a : Result Spec ReadNo) (r : Result (Option Stm) NoMemory) → a ≡ Ok spec →
    begins_with_language (lexed l) ≡ false → IsRefusedFirst l a → IsDerived IsSpecification pure_spec l a →
    IsAnswered IsSpecification pure_spec l a →
    IfOk r (λ o. MatchOption o ((s : trees.Stm) → pure_spec spec ≡ s ∷ [] → ⊥) (λ s. pure_spec spec ≡ pure_stm s ∷ [])) →
    IfOk r (λ o. MatchOption o (IsNoStatementLine l) (λ s. IsStatementLine l (pure_stm s)))
statement_read l spec a (Err why) e h f d g k = tt
statement_read l spec a (Ok None) e h f d g k = other-statements l spec (subst (λ x. IsAnswered IsSpecification pure_spec l x) e g) k
statement_read l spec a (Ok (Some s)) e h f d g k =
    read-statement l spec (pure_stm s) h (subst (λ x. IsRefusedFirst l x) e f) (subst (λ x. IsDerived IsSpecification pure_spec l x) e d) k

-- A line that is refused is no statement.
pub statement_refused : (l : Text) (why : ReadNo) (a : Result Spec ReadNo) → a ≡ Err why → (why ≡ ReadNo.NoMemory → ⊥) →
    IsAnswered IsSpecification pure_spec l a → IsNoStatementLine l
statement_refused l why a e n g s d =
    no-tree {T = Spec} pure_spec (s ∷ []) why n
    (subst (λ x. IsAnswered IsSpecification pure_spec l x) e g (s ∷ []) (d.0.0, d.0.1, alone-specification d.0.2) d.1)

-- A line that is read as representations of a name is one.
pub named_read : (l : Text) (n : NamedReprs) (a : Result NamedReprs ReadNo) → a ≡ Ok n → IsRefusedFirst l a →
    IsDerived IsRepresentationLine pure_named_reprs l a → IsReprsLine l n.name (map pure_repr n.trees)
named_read l n a e f d =
    (subst (λ x. IsDerived IsRepresentationLine pure_named_reprs l x) e d, limits l (subst (λ x. IsRefusedFirst l x) e f))

-- One that is refused is none.
pub named_refused : (l : Text) (why : ReadNo) (a : Result NamedReprs ReadNo) → a ≡ Err why → (why ≡ ReadNo.NoMemory → ⊥) →
    IsAnswered IsRepresentationLine pure_named_reprs l a → IsNoReprsLine l
named_refused l why a e n g b rs d =
    no-tree {T = NamedReprs} pure_named_reprs (b, rs) why n
    (subst (λ x. IsAnswered IsRepresentationLine pure_named_reprs l x) e g (b, rs) d.0 d.1)
