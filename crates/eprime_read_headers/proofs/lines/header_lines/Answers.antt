use Rattle.std.proofs.Common.{sym, ap, ◌∙◌, subst, [], ◌∷◌, ◌++◌}
use Rattle.ess_grammar.specs.ModelTexts.{next_lines, behind_mark, behind_language_line}
use Rattle.eprime_read_headers.proofs.MarkedLines.{HasLines, no_lines_yet, one_more_line, no_utf8_line, no_marked_line}
use Rattle.eprime_read_headers.proofs.lines.header_lines.Goals as goal

pub loop-bytes-init : goal.loop-bytes-init
loop-bytes-init c =
    subst (λ t. HasLines c.new-lines.result t c.args.text.now) (ap next_lines (sym c.behind_language_line.ensures) ∙ sym c.next_lines-rest.ensures)
    (subst (λ ls. HasLines ls (next_lines (behind_language_line c.args.text.now)) c.args.text.now) (sym c.new-lines.ensures) (no_lines_yet c.args.text.now))

pub returns-in_default-from_utf8 : goal.returns-in_default-from_utf8
returns-in_default-from_utf8 c =
    no_utf8_line c.loop-bytes.lines c.loop-bytes.rest.now c.args.text.now c.in-Some.bytes.now (ap behind_mark (sym c.first_line.ensures) ∙ c.in-Some.ensures) c.in_default-from_utf8.ensures.cases.0
    c.loop-bytes.invariant

pub loop-bytes-preserved : goal.loop-bytes-preserved
loop-bytes-preserved c =
    subst (λ t. HasLines c.push.new.self t c.args.text.now) (sym c.next_lines-rest-in-Some.ensures)
    (one_more_line c.loop-bytes.lines c.push.new.self c.loop-bytes.rest.now c.args.text.now c.in-Some.bytes.now (ap behind_mark (sym c.first_line.ensures) ∙ c.in-Some.ensures) c.in-Ok.ensures.cases.1
    (c.in_ok-push.ensures.ok ∙ ap (λ l. c.loop-bytes.lines ++ l ∷ []) (c.in_ok-from_str.ensures ∙ c.in-Ok.ensures.cases.0)) c.loop-bytes.invariant)

pub returns : goal.returns
returns c = no_marked_line c.loop-bytes.lines c.loop-bytes.rest.now c.args.text.now (ap behind_mark (sym c.first_line.ensures) ∙ c.in_default.ensures) c.loop-bytes.invariant
