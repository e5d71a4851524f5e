-- What tables that are ready stand for has the form of the domain, with positions or without.
use Rattle.std.proofs.Common.{◌≡◌, sym, ◌∙◌, true, [], Some}
use Rattle.ess_semantics.specs.Values.{Value}
use Rattle.ess_semantics.specs.Trees.{Repr}
use Rattle.ess_semantics.specs.Domains.{Domain}
use Rattle.ess_semantics.specs.Tables.{Tables}
use Rattle.ess_semantics.specs.Positions.{domain_with_positions}
use Rattle.ess_translate_positions_laws.proofs.StoodForms.{stood_form}
use Rattle.ess_repr_positions_laws.proofs.KeptForms.{form_kept}
use Rattle.ess_translate_values_laws.specs.ReadyPlans.{AreReady}
use Rattle.ess_translate_values_laws.specs.Laws.{ReadyValuesHaveForm}

pub ready_form : ReadyValuesHaveForm
ready_form r e ts v a h = sym (form_kept e v) ∙ stood_form r (domain_with_positions e) a.covered ts [] v h
