-- Worked example: a text of two lines, without a list, is one of the class, and a model is written for it.
use Rattle.std.proofs.Common.{◌≡◌, sym, subst, true, None}
use Rattle.ess_member_headers_laws.proofs.ess_flat_headers_laws.ExampleText.{text, S, its-statements, its-class}
use Rattle.ess_flat_models_laws.specs.FlatSpecifications.{is_flat_specification}
use Rattle.conjure_modelling.specs.declared.refusal.ModelNo.{ModelNo}
use Rattle.conjure_modelling.specs.Modelled.{IsUnmodelled}
use Rattle.conjure_standing_laws.specs.Standing.{IsFlatText}
use Rattle.conjure_standing_laws.proofs.FlatTextsCome.{flat-texts-have-models}

is-flat : IsFlatText None text
is-flat = record {
  S = S;
  specification = its-statements;
  flat = λ o h. subst (λ o. is_flat_specification S o ≡ true) (sym h) its-class;
}

-- So a model is written for it.
has-model : IsUnmodelled text None ModelNo.NotYet → ⊥
has-model = flat-texts-have-models text None is-flat
