use Rattle.ess_open_rules_laws.specs.OpenRules.{KindRuling, of_kind, of_opening, kind_ruled}
use Rattle.std.proofs.Common.{◌≡◌, Bool, Option, None}
use Rattle.ess_semantics.specs.Values.{Text}
use Rattle.ess_semantics.specs.Names.{Names}
use Rattle.ess_semantics.specs.Trees.{Ex}
use Rattle.ess_semantics.specs.Types.{Ty}
use Rattle.ess_refine_laws.specs.AllRules.{Supply}
use Rattle.ess_flat_laws.specs.Flat.{Flat, none_marked}
use Rattle.ess_flat_laws.proofs.PlainRules as P
use Rattle.ess_flat_laws.proofs.KindRules as K
use Rattle.ess_flat_laws.proofs.OpenRules as O
use Rattle.ess_flat_laws.proofs.Parts.{part-flat, part-unbound}
use Rattle.ess_flat_laws.proofs.Tested.{tested}
use Rattle.ess_flat_laws.proofs.laws.no_rule_fires.Goals as goal

by-kind : (cells : Text → Option Bool) (s : Supply) (g : Names Ty) (r : KindRuling) (e : Ex) (m : Bool) → Flat none_marked cells e m
    → kind_ruled s g r e ≡ None
by-kind cells s g (of_kind r) e m f = K.no-rule cells s g f r
by-kind cells s g (of_opening r) e m f = O.no-rule cells s g f r

pub returns : goal.returns
returns c = record {
  plainly = λ cells s g r e m f. P.no-rule cells s g f r;
  by_kind = by-kind;
  parts = part-flat;
  unbound = part-unbound;
  tested = tested;
}
