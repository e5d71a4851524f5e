use Rattle.std.proofs.Common.{refl, sym, ◌∙◌, arith}
use Rattle.ess_grammar.specs.ModelTexts.{behind_language_line}
use Rattle.eprime_read_headers.proofs.FifthToken.{first_is_free, past_white, past_comment, past_token, at_end}
use Rattle.eprime_read_headers.proofs.language_end.behind_language_line.Goals as goal

pub loop-tokens-init : goal.loop-tokens-init
loop-tokens-init c = record { same = refl; free = c.requires }

pub loop-tokens-preserved-then-is_white : goal.loop-tokens-preserved-then-is_white
loop-tokens-preserved-then-is_white c =
    past_white c.loop-tokens.tokens c.loop-tokens.rest.now (behind_language_line c.args.text.now) c.loop-tokens-test.true (sym c.is_white.ensures ∙ c.if-is_white.true) c.loop-tokens.invariant

pub loop-tokens-preserved-then-rest-eq36 : goal.loop-tokens-preserved-then-rest-eq36
loop-tokens-preserved-then-rest-eq36 c =
    past_comment c.loop-tokens.tokens c.loop-tokens.rest.now c.line_len.result (behind_language_line c.args.text.now) c.loop-tokens-test.true c.if-rest-eq36.true c.line_len.ensures c.loop-tokens.invariant

pub loop-tokens-preserved : goal.loop-tokens-preserved
loop-tokens-preserved c =
    past_token c.loop-tokens.tokens c.loop-tokens.rest.now c.token_len.result (behind_language_line c.args.text.now) c.loop-tokens-test.true c.token_len.ensures c.loop-tokens.invariant

pub returns-else-not-is_empty : goal.returns-else-not-is_empty
returns-else-not-is_empty c =
    at_end c.loop-tokens.tokens c.loop-tokens.rest.now (behind_language_line c.args.text.now) (grind (arith, c.is_empty.ensures, c.if-not-is_empty.false)) c.loop-tokens.invariant

pub token_len-requires-clause-free : goal.token_len-requires-clause-free
token_len-requires-clause-free c =
    first_is_free c.loop-tokens.tokens c.loop-tokens.rest.now (behind_language_line c.args.text.now) c.loop-tokens-test.true c.loop-tokens.invariant
