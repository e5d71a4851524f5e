use Rattle.ess_grammar.specs.ModelTexts.{IsModel}
use Rattle.ess_parse.proofs.Clauses.{refused, derived, answered, unread, placed}
use Rattle.eprime_read_laws.specs.ModelMachine.{at_begin, model_step, model_finish}
use Rattle.eprime_tree.specs.Views.{pure_model}
use Rattle.eprime_read.proofs.ModelLaws.{model_laws, models_readable, lines_are}
use Rattle.eprime_read.proofs.models.read_model.Goals as goal

pub returns-clause-refused : goal.returns-clause-refused
returns-clause-refused c = refused model_step model_finish at_begin pure_model c.args.text.now c.run.result c.run.ensures.reading

pub returns-clause-derived : goal.returns-clause-derived
returns-clause-derived c = derived model_step model_finish at_begin IsModel model_laws pure_model c.args.text.now c.run.result c.run.ensures.reading

pub returns-clause-answered : goal.returns-clause-answered
returns-clause-answered c = answered model_step model_finish at_begin IsModel model_laws pure_model c.args.text.now c.run.result c.run.ensures.reading

pub returns-clause-unread : goal.returns-clause-unread
returns-clause-unread c = unread model_step model_finish at_begin IsModel model_laws pure_model c.args.text.now c.run.result c.run.ensures.reading

pub returns-clause-placed : goal.returns-clause-placed
returns-clause-placed c = placed model_step model_finish at_begin IsModel model_laws pure_model c.args.text.now c.run.result c.run.ensures.reading

pub returns-clause-readable : goal.returns-clause-readable
returns-clause-readable c =
    models_readable pure_model c.args.text.now c.run.result (derived model_step model_finish at_begin IsModel model_laws pure_model c.args.text.now c.run.result c.run.ensures.reading)

pub returns-clause-lines : goal.returns-clause-lines
returns-clause-lines c = lines_are c.args.text.now c.run.result c.run.ensures.head
