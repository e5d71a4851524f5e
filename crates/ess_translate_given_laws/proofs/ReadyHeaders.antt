-- The plans of a header of this tool fit, and where no relation has an attribute without a number its domains are typed.
use Rattle.std.proofs.Common.{◌≡◌, List, None}
use Rattle.ess_semantics.specs.Trees.{Stm}
use Rattle.ess_semantics.specs.Contexts.{Each}
use Rattle.ess_semantics.specs.Judgements.{fault}
use Rattle.ess_semantics.specs.Plans.{kept_names}
use Rattle.ess_repr_laws.proofs.DenotedTypes.{denoted-typed}
use Rattle.conjure_laws.specs.Premises.{here, Settled}
use Rattle.conjure_laws.specs.Fields.{HasItsFields, PlainMarks}
use Rattle.conjure_laws.proofs.Lists.{each-both}
use Rattle.conjure_laws.proofs.JudgedNames.{IsRight, judged-right}
use Rattle.conjure_laws.proofs.PlainRelations.{denoted-plain}
use Rattle.ess_translate_given_laws.specs.Ready.{Ready}
use Rattle.ess_translate_given_laws.specs.Laws.{HeadersFit}
use Rattle.ess_translate_given_laws.proofs.ChosenReprs.{well-typed, header-plans-fit}

-- A well typed specification with plain marks is ready where its statements are settled and its records have their fields.
plain-ready : (S : List Stm) → fault S ≡ None → Settled S → Each S HasItsFields → Each (kept_names S) (λ x. PlainMarks x.1) → Ready S
plain-ready S e s f m = record {
  settled = s;
  fields = f;
  typed =
      each-both (kept_names S) IsRight (λ x. PlainMarks x.1) _
      (λ x r m p e P q. denoted-typed x.1 (here S p) e r.0 q (denoted-plain x.1 (here S p) e m q))
      (judged-right S (well-typed S e)) m;
}

-- The plans of headers fit.
pub headers-fit : HeadersFit
headers-fit = record {
  plans_fit = λ H h R. header-plans-fit H.statements H.reprs h.typed h.represented R;
  plain = λ H h s f m. plain-ready H.statements h.typed s f m;
}
