-- The lines of a header that are written are that header, and are read as it where none is nested too deeply.
use Rattle.std.proofs.Common.{◌≡◌, refl, sym, ap, ◌∙◌, subst, true, List, [], ◌∷◌, ◌++◌, append_assoc, append-nil, map, None, codes}
use Rattle.std.specs.List.{flat_map, list_all}
use Rattle.std.proofs.lemmas.Bool.{and_parts}
use Rattle.ess_semantics.specs.declared.words.Op2.{Op2}
use Rattle.ess_semantics.specs.Values.{Text}
use Rattle.ess_semantics.specs.Names.{Names}
use Rattle.ess_semantics.specs.Trees.{Repr, Stm}
use Rattle.ess_semantics.specs.Contexts.{Each}
use Rattle.ess_semantics.specs.ModelTrees.{Header}
use Rattle.ess_grammar.specs.Words.{Token, name, operator}
use Rattle.ess_grammar.specs.Tokens.{lexed, first_outside}
use Rattle.ess_grammar.specs.Readable.{is_name_token, ReadableStm, ReadableStms}
use Rattle.ess_grammar.specs.Statements.{Statement}
use Rattle.ess_grammar.specs.Texts.{Reads}
use Rattle.ess_grammar.specs.HeaderTexts.{Choices, last_choice, next_choice, RepresentationLine, representation_line, RepresentationLines}
use Rattle.ess_grammar.specs.HeaderTexts.{end_line, next_representation_line, StatementLines, no_more_statements, next_statement_line}
use Rattle.ess_grammar.specs.HeaderTexts.{header}
use Rattle.ess_print_laws.specs.Pieces.{Printer, token, space, named, text_of, tokens_of}
use Rattle.ess_print_laws.specs.Statements.{stm_pieces, repr_pieces}
use Rattle.ess_print_laws.specs.Texts.{stm_text, repr_text}
use Rattle.ess_print_laws.proofs.LexedPieces.{printed-tokens, printed-inside}
use Rattle.ess_print_laws.proofs.SafeParts.{Safe, plain, spaced}
use Rattle.ess_print_laws.proofs.SafeTrees.{stm-safe, repr-safe}
use Rattle.ess_print_laws.proofs.Statements.{stm-derived}
use Rattle.ess_print_laws.proofs.Representations.{repr-derived}
use Rattle.ess_print_laws.proofs.Appended.{text-behind, repr-appends}
use Rattle.ess_translate_header_laws.specs.WrittenLines.{next_repr_text, reprs_text, reprs_line_text, reprs_line_texts, is_named}
use Rattle.ess_translate_header_laws.specs.WrittenLines.{header_texts, ReadableHeader, AreShallow}
use Rattle.ess_translate_header_laws.specs.HeadLines.{DerivesStatement, DerivesReprs}
use Rattle.ess_translate_header_laws.specs.Headers.{AreWithinLimits}
use Rattle.ess_translate_header_laws.specs.Laws.{WrittenHeadersAreRead, WrittenHeadersAreFound}

-- ---- the pieces of a line

-- Representations as pieces.
abbrev reprs_pieces : Repr → List Repr → Printer
reprs_pieces r [] us = repr_pieces r us
reprs_pieces r (q ∷ rs) us = repr_pieces r (space ∷ token (operator Op2.Plus) ∷ space ∷ reprs_pieces q rs us)

-- The line as pieces.
abbrev line_pieces : Text → Repr → List Repr → Printer
line_pieces a r rs us = named (codes "repr") ∷ space ∷ named a ∷ space ∷ reprs_pieces r rs us

reprs-safe : (r : Repr) (rs : List Repr) → Safe (reprs_pieces r rs)
reprs-safe r [] = repr-safe r
reprs-safe r (q ∷ rs) =
    let more = spaced (plain {t = operator Op2.Plus} refl refl (spaced (reprs-safe q rs))) in
    record {
      law = λ us c s. (repr-safe r).law (space ∷ token (operator Op2.Plus) ∷ space ∷ reprs_pieces q rs us)
          (more.closes us c) (more.law us c s);
    }

line-safe : (a : Text) (r : Repr) (rs : List Repr) → is_name_token a ≡ true → Safe (line_pieces a r rs)
line-safe a r rs h = plain {t = name (codes "repr")} refl refl (spaced (plain {t = name a} h refl (spaced (reprs-safe r rs))))

choices-derived : (r : Repr) (rs : List Repr) → Choices (r ∷ rs) (tokens_of (reprs_pieces r rs []))
choices-derived r [] = last_choice (repr-derived r [])
choices-derived r (q ∷ rs) =
    next_choice (repr-derived r (space ∷ token (operator Op2.Plus) ∷ space ∷ reprs_pieces q rs [])) (choices-derived q rs)

reprs-text : (r : Repr) (rs : List Repr) → text_of (reprs_pieces r rs []) ≡ reprs_text (r ∷ rs)
reprs-text r [] = sym (append-nil (repr_text r))
reprs-text r (q ∷ rs) =
    text-behind (repr_pieces r) (repr-appends r) (space ∷ token (operator Op2.Plus) ∷ space ∷ reprs_pieces q rs [])
    ∙ ap (λ t. repr_text r ++ (codes " + " ++ t)) (reprs-text q rs)
    ∙ ap (λ t. repr_text r ++ t) (sym (append_assoc (codes " + ") (repr_text q) (flat_map next_repr_text rs)))

line-text : (a : Text) (r : Repr) (rs : List Repr) → text_of (line_pieces a r rs []) ≡ reprs_line_text a (r ∷ rs)
line-text a r rs = ap (λ t. codes "repr " ++ (a ++ (codes " " ++ t))) (reprs-text r rs)

-- ---- lines

-- No word of the line stands outside the subset.
abbrev IsInside : Text → Type 0
IsInside l = first_outside (lexed l) ≡ None

-- What separate pieces spell is read.
reads-pieces : (p : Printer) (P : List Token → Type 0) → Safe p → P (tokens_of (p [])) →
    Reads (text_of (p [])) P × IsInside (text_of (p []))
reads-pieces p P s d = let q = s.law [] refl tt in ((tokens_of (p []), printed-tokens (p []) q, d), printed-inside (p []) q)

-- The line of a statement.
statement-line : (s : Stm) → ReadableStm s → DerivesStatement (stm_text s) s × IsInside (stm_text s)
statement-line s r = reads-pieces (stm_pieces s) (λ ts. Statement (s ∷ []) ts []) (stm-safe s r) (stm-derived s r [])

named-line : (a : Text) (r : Repr) (rs : List Repr) → is_name_token a ≡ true →
    DerivesReprs (reprs_line_text a (r ∷ rs)) a (r ∷ rs) × IsInside (reprs_line_text a (r ∷ rs))
named-line a r rs h =
    let x = reads-pieces (line_pieces a r rs) (RepresentationLine a (r ∷ rs)) (line-safe a r rs h)
    (representation_line (choices-derived r rs)) in
    let e = line-text a r rs in (subst (λ t. DerivesReprs t a (r ∷ rs)) e x.0, subst IsInside e x.1)

-- The line of a name.
reprs-line : (a : Text) (rs : List Repr) → is_named a rs ≡ true → DerivesReprs (reprs_line_text a rs) a rs × IsInside (reprs_line_text a rs)
reprs-line a [] h = cc
reprs-line a (r ∷ rs) h = named-line a r rs h

-- ---- all lines

reprs-lines : (cs : Names (List Repr)) → list_all (λ c. is_named c.0 c.1) cs ≡ true →
    RepresentationLines cs (reprs_line_texts cs ++ codes "end-header" ∷ []) × Each (reprs_line_texts cs ++ codes "end-header" ∷ []) IsInside
reprs-lines [] h = (end_line, (refl, tt))
reprs-lines (c ∷ cs) h =
    let p = and_parts (is_named c.0 c.1) (list_all (λ c. is_named c.0 c.1) cs) h in
    let x = reprs-line c.0 c.1 p.0 in let more = reprs-lines cs p.1 in (next_representation_line x.0 more.0, (x.1, more.1))

statement-lines : (ss : List Stm) (cs : Names (List Repr)) → ReadableStms ss → list_all (λ c. is_named c.0 c.1) cs ≡ true →
    StatementLines ss cs (map stm_text ss ++ (reprs_line_texts cs ++ codes "end-header" ∷ [])) ×
    Each (map stm_text ss ++ (reprs_line_texts cs ++ codes "end-header" ∷ [])) IsInside
statement-lines [] cs r h = let more = reprs-lines cs h in (no_more_statements more.0, more.1)
statement-lines (s ∷ ss) cs r h =
    let x = statement-line s r.0 in let more = statement-lines ss cs r.1 h in (next_statement_line x.0 more.0, (x.1, more.1))

-- Written lines of a header that can be read are that header.
pub written_headers : WrittenHeadersAreRead
written_headers H r = header (statement-lines H.statements H.reprs r.statements r.reprs).0

within-limits : (ls : List Text) → Each ls IsInside → AreShallow ls → AreWithinLimits ls
within-limits [] i d = tt
within-limits (l ∷ ls) i d = ((i.0, d.0), within-limits ls i.1 d.1)

-- They are within the limits where none of them is nested too deeply.
pub written_within : (H : Header) → ReadableHeader H → AreShallow (header_texts H) → AreWithinLimits (header_texts H)
written_within H r d = within-limits (header_texts H) (refl, (statement-lines H.statements H.reprs r.statements r.reprs).1) d

-- So they stand first among themselves.
pub written_found : WrittenHeadersAreFound
written_found H r d = record {
  own = header_texts H;
  others = [];
  all = sym (append-nil (header_texts H));
  header = written_headers H r;
  limits = written_within H r d;
}
