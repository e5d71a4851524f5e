use Rattle.std.proofs.Common.{◌∙◌, false, []}
use Rattle.ess_repr_shown_laws.proofs.laws.shown_domains_keep_forms.Goals as goal
use Rattle.conjure_model_laws.specs.ToldApart.{told_dom}
use Rattle.ess_repr_shown_laws.proofs.ToldForms.{told-orderly, told-known, told-fit}
use Rattle.ess_repr_shown_laws.proofs.ShownForms.{orderly-kept, slots-kept, fits-kept}

pub returns : goal.returns
returns c = record {
  orderly = orderly-kept;
  known = slots-kept;
  fit = fits-kept;
  declared = λ sh d. (
    λ o. orderly-kept sh ((told_dom d [] sh.next).0) (told-orderly d [] sh.next o),
    slots-kept sh ((told_dom d [] sh.next).0) ∙ told-known d [] sh.next,
    λ r. fits-kept sh r ((told_dom d [] sh.next).0) ∙ told-fit d [] sh.next r,
  );
  apart = λ q d f. record { names = λ a. false; apart = λ l a h. cc; free = f };
}
