use Rattle.ess_lex.proofs.scan.word_kind.Goals as goal
use Rattle.ess_lex.proofs.FrontTokens.{word-found}
use Rattle.std.proofs.Common.{◌∙◌, ap}
use Rattle.std.specs.Str.{bytes_eq}
use Rattle.ess_semantics.specs.Names.{look_by}

pub returns : goal.returns
returns c = word-found c.args.text.now c.kind_in.result c.unwrap_or.result
    (c.kind_in.ensures ∙ ap (λ t. look_by bytes_eq t c.args.text.now) c.words_of_length.ensures) c.unwrap_or.ensures
