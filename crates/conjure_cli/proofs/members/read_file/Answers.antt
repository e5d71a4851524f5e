use Rattle.ess_grammar.specs.Statements.{IsLettingsFile}
use Rattle.ess_parse.specs.LettingViews.{pure_lettings}
use Rattle.ess_translate.proofs.Spelled.{read_as}
use Rattle.conjure_cli.proofs.members.read_file.Goals as goal

-- src/members.rt
pub returns : goal.returns
returns c =
    let e = c.read_lettings.ensures in
    read_as IsLettingsFile pure_lettings c.args.text.now c.read_lettings.result e.refused e.derived e.answered e.unread e.placed
