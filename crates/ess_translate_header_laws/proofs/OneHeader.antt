-- A text begins with at most one header.
use Rattle.std.proofs.Common.{◌≡◌, refl, sym, ◌∙◌, subst, List, ◌∷◌, ◌++◌, codes}
use Rattle.ess_semantics.specs.Values.{Text}
use Rattle.ess_semantics.specs.Names.{Names}
use Rattle.ess_semantics.specs.Trees.{Repr, Stm}
use Rattle.ess_semantics.specs.ModelTrees.{Header}
use Rattle.ess_grammar.specs.HeaderTexts.{RepresentationLines, end_line, next_representation_line, StatementLines, no_more_statements}
use Rattle.ess_grammar.specs.HeaderTexts.{next_statement_line, IsHeader, header}
use Rattle.ess_translate_header_laws.specs.HeadLines.{DerivesStatement, DerivesReprs}
use Rattle.ess_translate_header_laws.specs.Laws.{OneHeader}
use Rattle.ess_translate_header_laws.proofs.HeadLines.{one-statement, one-named, last-no-reprs}
use Rattle.ess_translate_header_laws.proofs.Reading.{first-line, reprs-behind}

-- Lines of representations at the front of the same lines are of the same names and representations.
same-reprs : {cs ds : Names (List Repr)} {own own' : List Text} → RepresentationLines cs own → RepresentationLines ds own' →
    (os ps : List Text) →
    own ++ os ≡ own' ++ ps → cs ≡ ds
same-reprs end_line end_line os ps e = refl
same-reprs end_line (next_representation_line {a = b} {rs = bs} {l = m} {ls = ms} r more) os ps e =
    absurd (last-no-reprs m b bs (first-line (codes "end-header") m os ms ps e).0 r)
same-reprs (next_representation_line {a = a} {rs = rs} {l = l} {ls = ls} r more) end_line os ps e =
    absurd (last-no-reprs l a rs (first-line (codes "end-header") l ps ls os (sym e)).0 r)
same-reprs (next_representation_line {a = a} {rs = rs} {cs = cs} {l = l} {ls = ls} r more)
    (next_representation_line {a = b} {rs = bs} {cs = ds} {l = m} {ls = ms} q rest) os ps e =
    let x = first-line l m (ls ++ os) ms ps e in
    let one : ◌≡◌ {A = Text × List Repr} (a, rs) (b, bs) = one-named l a b rs bs r (subst (λ k. DerivesReprs k b bs) x.0 q) in
    let behind : cs ≡ ds = same-reprs more rest os ps x.1 in cc

same-items : {s t : Stm} {ss ts : List Stm} → s ≡ t → ss ≡ ts → s ∷ ss ≡ t ∷ ts
same-items h k = cc

-- The same of lines of statements.
same-lines : {ss rs : List Stm} {cs ds : Names (List Repr)} {own own' : List Text} → StatementLines ss cs own → StatementLines rs ds own' →
    (os ps : List Text) → own ++ os ≡ own' ++ ps → (ss ≡ rs) × (cs ≡ ds)
same-lines (no_more_statements r) (no_more_statements q) os ps e = (refl, same-reprs r q os ps e)
same-lines {cs = cs} {own = own} (no_more_statements r) (next_statement_line {s = t} {l = m} {ls = ms} q rest) os ps e =
    absurd (reprs-behind m t cs (ms ++ ps) own os q (sym e) r)
same-lines {ds = ds} {own' = own'} (next_statement_line {s = s} {l = l} {ls = ls} r more) (no_more_statements q) os ps e =
    absurd (reprs-behind l s ds (ls ++ os) own' ps r e q)
same-lines (next_statement_line {s = s} {l = l} {ls = ls} r more) (next_statement_line {s = t} {l = m} {ls = ms} q rest) os ps e =
    let x = first-line l m (ls ++ os) ms ps e in
    let one : s ≡ t = one-statement l s t r (subst (λ k. DerivesStatement k t) x.0 q) in
    let behind = same-lines more rest os ps x.1 in
    (same-items one behind.0, behind.1)

-- The same of headers.
same-headers : {H K : Header} {own own' : List Text} → IsHeader H own → IsHeader K own' → (os ps : List Text) →
    own ++ os ≡ own' ++ ps → H ≡ K
same-headers (header {ss = ss} {cs = cs} d) (header {ss = rs} {cs = ds} g) os ps e =
    let x = same-lines d g os ps (cc) in
    let statements : ss ≡ rs = x.0 in let reprs : cs ≡ ds = x.1 in cc

-- A text begins with at most one header.
pub one-header : OneHeader
one-header text H K d g = same-headers d.lines.header g.lines.header d.lines.others g.lines.others (sym d.lines.all ∙ g.lines.all)
