use Rattle.ess_lex.proofs.scan.first_token.Goals as goal
use Rattle.ess_lex.proofs.FrontTokens.{symbol-first, symbol-natural, no-symbol}

pub returns-in-Some : goal.returns-in-Some
returns-in-Some c =
    let found = c.in-Some in (
      symbol-first c.args.text.now found.kind found.len c.requires (cc) (cc) found.ensures,
      symbol-natural c.args.text.now found.kind found.len found.ensures,
    )

pub returns-in-None : goal.returns-in-None
returns-in-None c = no-symbol c.args.text.now c.requires (cc) (cc) c.in-None.ensures
