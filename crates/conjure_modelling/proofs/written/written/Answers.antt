use Rattle.std.proofs.Common.{sym, subst, map}
use Rattle.ess_core.specs.StatementViews.{pure_spec}
use Rattle.ess_parse.specs.NamedReprViews.{pure_named_reprs}
use Rattle.ess_models.specs.Modelled.{IsModelOf, IsModelled}
use Rattle.ess_translate_header_laws.proofs.HeadersTyped.{headers-stay-typed}
use Rattle.conjure_modelling.proofs.WhatIsWritten.{checked}
use Rattle.conjure_modelling.proofs.DerivedAgain.{built_lines, all_written, all_unwritten}
use Rattle.conjure_modelling.proofs.written.written.Goals as goal

-- src/written.rt
pub printed-text-requires : goal.printed-text-requires
printed-text-requires c =
    let S = pure_spec c.args.typed.now.spec in
    let rs = map pure_named_reprs c.args.reprs.now in record {
      head = built_lines S rs c.get.result.now c.requires.readable
          (subst (IsModelOf S rs) (sym c.get.ensures)
          (subst (IsModelled S rs) c.in-Model.is (c.in_ok-model.ensures (checked c.args.typed.now c.requires.typed))));
    }

-- src/written.rt
pub returns-in-Model-clause-ok : goal.returns-in-Model-clause-ok
returns-in-Model-clause-ok c =
    let S = pure_spec c.args.typed.now.spec in
    let rs = map pure_named_reprs c.args.reprs.now in
    all_written headers-stay-typed S rs c.get.result.now c.requires.readable c.requires.typed.well c.requires.represented
    (subst (IsModelOf S rs) (sym c.get.ensures)
    (subst (IsModelled S rs) c.in-Model.is (c.in_ok-model.ensures (checked c.args.typed.now c.requires.typed))))
    (λ text. text.items) c.printed-text.result c.printed-text.ensures.text c.printed-text.ensures.derived

-- src/written.rt
pub returns-in-Model-clause-refused : goal.returns-in-Model-clause-refused
returns-in-Model-clause-refused c =
    let S = pure_spec c.args.typed.now.spec in
    let rs = map pure_named_reprs c.args.reprs.now in
    all_unwritten S rs c.get.result.now c.printed-text.result
    (subst (IsModelOf S rs) (sym c.get.ensures)
    (subst (IsModelled S rs) c.in-Model.is (c.in_ok-model.ensures (checked c.args.typed.now c.requires.typed))))
    c.printed-text.ensures.refused
