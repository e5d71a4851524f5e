-- From the lines behind the first one to the whole header, and back.
use Rattle.std.proofs.Common.{◌≡◌, refl, sym, ap, ◌∙◌, subst, List, [], ◌∷◌, ◌++◌, codes}
use Rattle.ess_semantics.specs.Values.{Text}
use Rattle.ess_semantics.specs.ModelTrees.{Header}
use Rattle.ess_grammar.specs.Tokens.{lexed}
use Rattle.ess_grammar.specs.ModelTexts.{header_lines}
use Rattle.ess_grammar.specs.HeaderTexts.{StatementLines, IsHeader, header}
use Rattle.ess_translate_header_laws.specs.Headers.{language_line, BeginsWithTokens, AreWithinLimits, StandsFirst, BeginsWith}
use Rattle.ess_translate_header_laws.specs.Reading.{AreLinesOf, AreNoLines}

-- A header's lines behind the first one.
record Behind (H : Header) (own : List Text) : Type 0 where
  rest : List Text
  is : own ≡ codes "conjure-header 1" ∷ rest
  read : StatementLines H.statements H.reprs rest

behind-first : {H : Header} {own : List Text} → IsHeader H own → Behind H own
behind-first (header {ls = ls} d) = record { rest = ls; is = refl; read = d }

-- The lines of a header stand first where its version does, and its other lines behind it.
pub stands_first : (H : Header) (first : Text) (rest : List Text) → first ≡ codes "conjure-header 1" → AreLinesOf H.statements H.reprs
    rest →
    StandsFirst H (first ∷ rest)
stands_first H first rest f d = record {
  own = codes "conjure-header 1" ∷ d.own;
  others = d.others;
  all = ap (λ k. k ∷ rest) f ∙ ap (λ ls. codes "conjure-header 1" ∷ ls) d.all;
  header = header d.read;
  limits = ((refl, refl), d.limits);
}

behind-lines : (first : Text) (rest own others : List Text) (H : Header) → first ∷ rest ≡ own ++ others → Behind H own →
    AreWithinLimits own → (first ≡ codes "conjure-header 1") × AreLinesOf H.statements H.reprs rest
behind-lines first rest own others H e b w =
    let k : first ∷ rest ≡ codes "conjure-header 1" ∷ (b.rest ++ others) = e ∙ ap (λ ls. ls ++ others) b.is in
    (cc, record { own = b.rest; others = others; all = cc; read = b.read; limits = (subst AreWithinLimits b.is w).1 })

-- Where another line stands first, no header does.
pub other_version : (H : Header) (first : Text) (rest : List Text) → (first ≡ codes "conjure-header 1" → ⊥) → StandsFirst H
    (first ∷ rest) → ⊥
other_version H first rest n h = n (behind-lines first rest h.own h.others H h.all (behind-first h.header) h.limits).0

-- Where the lines behind it are those of no header, none stands first.
pub no_lines_behind : (H : Header) (first : Text) (rest : List Text) → AreNoLines rest → StandsFirst H (first ∷ rest) → ⊥
no_lines_behind H first rest n h =
    n H.statements H.reprs (behind-lines first rest h.own h.others H h.all (behind-first h.header) h.limits).1

-- No header stands where no line does.
pub no_lines : (H : Header) → StandsFirst H [] → ⊥
no_lines H h =
    let b = behind-first h.header in
    let k : [] ≡ codes "conjure-header 1" ∷ (b.rest ++ h.others) = h.all ∙ ap (λ ls. ls ++ h.others) b.is in cc

-- The whole text.
pub begins_with : (text : Text) (H : Header) (lines : List Text) → BeginsWithTokens language_line (lexed text) → lines ≡ header_lines text →
    StandsFirst H lines → BeginsWith text H
begins_with text H lines l e h = record { language = l; lines = subst (λ ls. StandsFirst H ls) e h }

-- A text without the language line begins with no header.
pub no_language : (text : Text) → (BeginsWithTokens language_line (lexed text) → ⊥) → (H : Header) → BeginsWith text H → ⊥
no_language text n H h = n h.language

-- A text whose lines begin with no header begins with none.
pub no_header : (text : Text) (lines : List Text) → lines ≡ header_lines text → ((H : Header) → StandsFirst H lines → ⊥) → (H : Header) →
    BeginsWith text H → ⊥
no_header text lines e n H h = n H (subst (λ ls. StandsFirst H ls) (sym e) h.lines)
