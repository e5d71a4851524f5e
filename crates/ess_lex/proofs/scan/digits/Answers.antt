use Rattle.std.proofs.Common.{ap, ◌∙◌, rules, w64}
use Rattle.std.proofs.lemmas.Int.{to_z-of_z}
use Rattle.ess_grammar.specs.Kinds.{nat_of}
use Rattle.ess_lex.proofs.scan.digits.Goals as goal
use Rattle.ess_lex.proofs.FrontTokens.{number-first, number-natural, number-wide}

pub returns-in-Some : goal.returns-in-Some
returns-in-Some c =
    let value = c.in-Some.ensures in
    let is = to_z-of_z w64 c.in-Some.value (search rules) ∙ value.0 in
    let len = c.digits_len-len in
    let first = number-first c.args.text.now _ len.result c.requires.some c.requires.digit len.ensures (ap nat_of is) value.1 in
    (first, number-natural _ _ is)

pub returns-in-None : goal.returns-in-None
returns-in-None c =
    number-wide c.args.text.now c.digits_len-len.result c.requires.some c.requires.digit c.digits_len-len.ensures c.in-None.ensures
