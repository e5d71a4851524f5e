use Rattle.std.proofs.Common.{sym, ap, ◌∙◌, Some, None}
use Rattle.std.specs.Option.{option_map}
use Rattle.ess_core.specs.TreeViews.{pure_dom as read_dom}
use Rattle.eprime_tree.specs.Views.{pure_decl}
use Rattle.eprime_read_convert.specs.Lines.{scope_of}
use Rattle.eprime_read.proofs.Growth.{find_found, find_readable}
use Rattle.eprime_read.proofs.growing.with_find.Goals as goal

pub push_find-requires-clause-readable : goal.push_find-requires-clause-readable
push_find-requires-clause-readable c =
    find_readable c.args.draft.model c.args.draft.lines c.args.name.now (read_dom c.args.dom.now) (pure_decl (scope_of c.args.draft.lines) c.in-Some.decl) c.requires.fits c.args.draft.sound c.requires.name
    (sym c.in_ok-decl.ensures ∙ ap (option_map (pure_decl (scope_of c.args.draft.lines))) c.in-Some.is)

pub returns-in_ok-push_find-in-Some-clause-model : goal.returns-in_ok-push_find-in-Some-clause-model
returns-in_ok-push_find-in-Some-clause-model c =
    find_found c.args.draft.model c.args.draft.lines c.args.name.now (read_dom c.args.dom.now) (Some (pure_decl (scope_of c.args.draft.lines) c.in-Some.decl)) c.requires.fits c.args.draft.sound c.requires.name
    (sym c.in_ok-decl.ensures ∙ ap (option_map (pure_decl (scope_of c.args.draft.lines))) c.in-Some.is)
    ∙ ap (λ k. Some k) (sym c.in_ok-push_find-in-Some.ensures.model)

pub returns-in-None-clause-model : goal.returns-in-None-clause-model
returns-in-None-clause-model c =
    find_found c.args.draft.model c.args.draft.lines c.args.name.now (read_dom c.args.dom.now) None c.requires.fits c.args.draft.sound c.requires.name
    (sym c.in_ok-decl.ensures ∙ ap (option_map (pure_decl (scope_of c.args.draft.lines))) c.in-None.is)
