-- Whether representations fit is seen at the prepared statements.
use Rattle.std.proofs.Common.{◌≡◌, sym, ap, ◌∙◌, Bool, List, map}
use Rattle.ess_semantics.specs.Lists.{append_all}
use Rattle.ess_semantics.specs.Plans.{Options, domain_of_stm, kept_names}
use Rattle.ess_core.specs.StatementViews.{pure_stm, pure_spec}
use Rattle.ess_core.specs.declared.statements.Stm.{Stm}
use Rattle.ess_translate_header_laws.specs.Headers.{are_reprs_of}
use Rattle.ess_types.specs.declared.checking.Typed.{Typed}
use Rattle.ess_models.specs.Checked.{IsChecked}

-- They fit the specification where they fit the statements beside it.
pub fits_beside : (t : Typed) (ss : List Stm) (o : Options) (b : Bool) → ss ≡ t.prepared.stms
    → b ≡ are_reprs_of (append_all (map domain_of_stm (map pure_stm ss))) o → IsChecked t
    → are_reprs_of (kept_names (pure_spec t.spec)) o ≡ b
fits_beside t ss o b e h i =
    sym (h ∙ ap (λ q. are_reprs_of (append_all (map domain_of_stm (map pure_stm q))) o) e
    ∙ ap (λ q. are_reprs_of (append_all (map domain_of_stm q)) o) i.prepared)
