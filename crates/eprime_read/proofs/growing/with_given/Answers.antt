use Rattle.std.proofs.Common.{sym, ap, ◌∙◌, Some, None}
use Rattle.std.specs.Option.{option_map}
use Rattle.ess_core.specs.TreeViews.{pure_dom as read_dom}
use Rattle.eprime_tree.specs.Views.{pure_decl}
use Rattle.eprime_read_convert.specs.Lines.{scope_of}
use Rattle.eprime_read.proofs.Growth.{given_found, given_readable}
use Rattle.eprime_read.proofs.growing.with_given.Goals as goal

pub push_given-requires-clause-readable : goal.push_given-requires-clause-readable
push_given-requires-clause-readable c =
    given_readable c.args.draft.model c.args.draft.lines c.args.name.now (read_dom c.args.dom.now) (pure_decl (scope_of c.args.draft.lines) c.in-Some.decl) c.requires.fits c.args.draft.sound c.requires.name
    (sym c.in_ok-decl.ensures ∙ ap (option_map (pure_decl (scope_of c.args.draft.lines))) c.in-Some.is)

pub returns-in_ok-push_given-in-Some-clause-model : goal.returns-in_ok-push_given-in-Some-clause-model
returns-in_ok-push_given-in-Some-clause-model c =
    given_found c.args.draft.model c.args.draft.lines c.args.name.now (read_dom c.args.dom.now) (Some (pure_decl (scope_of c.args.draft.lines) c.in-Some.decl)) c.requires.fits c.args.draft.sound c.requires.name
    (sym c.in_ok-decl.ensures ∙ ap (option_map (pure_decl (scope_of c.args.draft.lines))) c.in-Some.is)
    ∙ ap (λ k. Some k) (sym c.in_ok-push_given-in-Some.ensures.model)

pub returns-in-None-clause-model : goal.returns-in-None-clause-model
returns-in-None-clause-model c =
    given_found c.args.draft.model c.args.draft.lines c.args.name.now (read_dom c.args.dom.now) None c.requires.fits c.args.draft.sound c.requires.name
    (sym c.in_ok-decl.ensures ∙ ap (option_map (pure_decl (scope_of c.args.draft.lines))) c.in-None.is)
