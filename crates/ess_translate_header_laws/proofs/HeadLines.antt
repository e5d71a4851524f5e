-- Each line of a header is one thing, and one tree.
use Rattle.std.proofs.Common.{◌≡◌, refl, sym, ap, ◌∙◌, subst, Bool, true, false, List, [], ◌∷◌, Option, Some, None, codes}
use Rattle.std.specs.Option.{option_map}
use Rattle.std.specs.Str.{bytes_eq}
use Rattle.std.proofs.lemmas.Option.{same_Some}
use Rattle.ess_semantics.specs.Values.{Text}
use Rattle.ess_semantics.specs.Trees.{Repr, Stm}
use Rattle.ess_grammar.specs.Words.{Token, word, name, language_word}
use Rattle.ess_grammar.specs.Tokens.{Lexed, the_end, bad_byte, wide_number, next_token, tokens, tokens_in, lexed}
use Rattle.ess_grammar.specs.Statements.{IsSpecification}
use Rattle.ess_grammar.specs.HeaderTexts.{RepresentationLine, representation_line}
use Rattle.ess_parse_laws.proofs.Uniqueness.{one_specification}
use Rattle.ess_translate_header_laws.specs.HeadLines.{other_line, DerivesStatement, DerivesReprs, IsNoStatementLine, IsNoReprsLine}
use Rattle.ess_translate_header_laws.specs.HeadLines.{IsHeadLine, begins_with_language}
use Rattle.ess_translate_header_laws.proofs.Choices.{one-line}
use Rattle.ess_translate_header_laws.proofs.Statements.{begins_other, statement-begins, begins_language, alone-specification}

-- ---- one tree

same-tokens : (l : Text) (ts us : List Token) → tokens l ≡ Some ts → tokens l ≡ Some us → ts ≡ us
same-tokens l ts us h k = same_Some ts us (sym h ∙ k)

first-same : (s t : Stm) → s ∷ [] ≡ t ∷ [] → s ≡ t
first-same s t h = cc

-- A line is at most one statement.
pub one-statement : (l : Text) (s t : Stm) → DerivesStatement l s → DerivesStatement l t → s ≡ t
one-statement l s t d g =
    let e = same-tokens l g.0 d.0 g.1 d.1 in
    first-same s t (one_specification (alone-specification d.2) (subst (λ ts. IsSpecification (t ∷ []) ts) e (alone-specification g.2)))

-- It has the representations of at most one name.
pub one-named : (l : Text) (a b : Text) (rs qs : List Repr) → DerivesReprs l a rs → DerivesReprs l b qs →
    ◌≡◌ {A = Text × List Repr} (a, rs) (b, qs)
one-named l a b rs qs d g =
    one-line d.2 (subst (λ ts. RepresentationLine b qs ts) (same-tokens l g.0 d.0 g.1 d.1) g.2)

-- ---- one thing

line-begins : {a : Text} {rs : List Repr} {ts : List Token} → RepresentationLine a rs ts → begins_other ts ≡ false
line-begins (representation_line d) = refl

-- A line of representations is no statement.
pub no-statement : (l a : Text) (s : Stm) (rs : List Repr) → DerivesReprs l a rs → DerivesStatement l s → ⊥
no-statement l a s rs d g =
    let e = same-tokens l g.0 d.0 g.1 d.1 in
    let k : false ≡ true = sym (line-begins d.2) ∙ sym (ap begins_other e) ∙ statement-begins g.2 in cc

-- Neither is the last line, and it has no representations.
pub last-no-statement : (l : Text) (s : Stm) → l ≡ codes "end-header" → DerivesStatement l s → ⊥
last-no-statement l s e g =
    let h : tokens (codes "end-header") ≡ Some g.0 = subst (λ m. tokens m ≡ Some g.0) e g.1 in
    let k : false ≡ true = ap begins_other (same_Some _ g.0 h) ∙ statement-begins g.2 in cc

-- Whether the first token is the name `repr`, and whether the last line's is.
abbrev begins_repr : List Token → Bool
begins_repr (name a ∷ ts) = bytes_eq a (codes "repr")
begins_repr _ = false

line-repr : {a : Text} {rs : List Repr} {ts : List Token} → RepresentationLine a rs ts → begins_repr ts ≡ true
line-repr (representation_line d) = refl

pub last-no-reprs : (l a : Text) (rs : List Repr) → l ≡ codes "end-header" → DerivesReprs l a rs → ⊥
last-no-reprs l a rs e g =
    let h : tokens (codes "end-header") ≡ Some g.0 = subst (λ m. tokens m ≡ Some g.0) e g.1 in
    let k : false ≡ true = ap begins_repr (same_Some _ g.0 h) ∙ line-repr g.2 in cc

-- A line that is none of the three.
pub neither : (l : Text) → IsNoStatementLine l → IsNoReprsLine l → (l ≡ codes "end-header" → ⊥) → IsHeadLine l other_line
neither l s r e = (s, r, e)

-- ---- the word `language`

-- Where the first token of a text is the word `language` or isn't, so it is with its tokens.
pub tokens-language : (l : Lexed) (b : Bool) (ts : List Token) → begins_with_language l ≡ b → tokens_in l ≡ Some ts → begins_language ts ≡ b
tokens-language l b ts h k = go l ts k ∙ h
  where
    behind : (t : Token) (o : Option (List Token)) (ts : List Token) → option_map (λ us. t ∷ us) o ≡ Some ts →
        (us : List Token) × (ts ≡ t ∷ us)
    behind t None ts k = cc
    behind t (Some us) ts k = (us, cc)

    go : (l : Lexed) (ts : List Token) → tokens_in l ≡ Some ts → begins_language ts ≡ begins_with_language l
    go the_end [] k = refl
    go the_end (t ∷ ts) k = cc
    go (bad_byte p) ts k = cc
    go (wide_number p) ts k = cc
    go (next_token (word language_word) bytes p more) ts k =
        let x = behind (word language_word) (tokens_in more) ts k in ap begins_language x.1
    go (next_token t bytes p more) ts k = let x = behind t (tokens_in more) ts k in ap begins_language x.1

-- A line that begins with the word `language` is no statement.
pub language_no_statement : (l : Text) → begins_with_language (lexed l) ≡ true → IsNoStatementLine l
language_no_statement l h s d =
    let k = tokens-language (lexed l) true d.0.0 h d.0.1 in
    let no : true ≡ false = sym k ∙ other d.0.0 (statement-begins d.0.2) in cc
  where
    other : (ts : List Token) → begins_other ts ≡ true → begins_language ts ≡ false
    other [] h = refl
    other (word language_word ∷ ts) h = cc
    other (t ∷ ts) h = refl
