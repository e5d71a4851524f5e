use Rattle.std.proofs.Common.{◌∙◌, ap}
use Rattle.std.specs.Str.{bytes_eq}
use Rattle.ess_semantics.specs.Names.{look_by}
use Rattle.ess_lex.proofs.scan.symbol_kind.Goals as goal
use Rattle.ess_lex.proofs.scan.symbol_kind.Goals.{then-is_some-via-then-is_some, then-is_some-via-else-is_some+then-begins_with_name_byte}
use Rattle.ess_lex.proofs.FrontTokens.{symbol-plain, symbol-before_name, symbol-lex}

pub returns-then-is_some : goal.returns-then-is_some
returns-then-is_some c =
    let found = c.kind_in-kind.ensures ∙ ap (λ t. look_by bytes_eq t c.args.text.now) c.symbols_of_length.ensures in
    elim c.then-is_some.branch [
      | then-is_some-via-then-is_some w ↦ symbol-plain c.args.text.now c.args.rest.now c.kind_in-kind.result found (cc)
      | then-is_some-via-else-is_some+then-begins_with_name_byte w ↦
          symbol-before_name c.args.text.now c.args.rest.now c.kind_in-kind.result found (cc)
    ]

pub returns : goal.returns
returns c =
    let plain = c.kind_in-kind.ensures ∙ ap (λ t. look_by bytes_eq t c.args.text.now) c.symbols_of_length.ensures in
    let found = c.kind_in.ensures ∙ ap (λ t. look_by bytes_eq t c.args.text.now) c.lex_symbols_of_length.ensures in
    symbol-lex c.args.text.now c.args.rest.now c.kind_in-kind.result c.kind_in.result plain (cc) (cc) found
