-- Rules of each sort but that of counted sources keep what is given, and comprehensions in order where order counts.
use Rattle.std.proofs.Common.{◌≡◌, Bool, Some}
use Rattle.ess_semantics.specs.Values.{Text}
use Rattle.ess_semantics.specs.Names.{Names}
use Rattle.ess_semantics.specs.Trees.{Ex}
use Rattle.ess_semantics.specs.Types.{Ty}
use Rattle.ess_refine_laws.specs.AllRules.{Supply}
use Rattle.ess_open_rules_laws.specs.OpenRules.{of_kind, of_opening}
use Rattle.ess_given_laws.proofs.GivenStays.{given-stays}
use Rattle.ess_given_order_laws.proofs.OrderStays.{order-stays}
use Rattle.ess_given_offers_laws.specs.Seen.{Counts}
use Rattle.ess_given_kind_steps_laws.proofs.ess_given_kinds_laws.GivenKinds.{kinds-keep-given}
use Rattle.ess_given_ordered_laws.proofs.ess_given_opened_laws.OpenedOrder.{opened-stays}
use Rattle.ess_given_ordered_laws.proofs.OrderedStays.{ordered-stays, gathering-stays}
use Rattle.ess_given_rulings_laws.specs.GivenRulings.{GivenRuling, plainly, by_kind, gathering, by_order, made_by, Takes, StaysInRule}

pub each-rule : (u : Text → Bool) (s : Supply) (g : Names Ty) (r : GivenRuling) (a b : Ex) → made_by s g r a ≡ Some b → Counts u →
    Takes u s g r a → StaysInRule u a b
each-rule u s g (plainly r) a b q c t = record {
  given = λ h. given-stays.by_each_rule u s g r a b q t.0 h;
  fixed = λ h. given-stays.of_fixed_trees u s g r a b q t.0 h;
  ordered = λ i h. order-stays.by_each_rule u s g r a b q t.0 t.1 i h;
  in_its_place = λ i h p. order-stays.in_its_place u s g r a b q t.0 t.1 i h p;
}
each-rule u s g (by_kind (of_kind r)) a b q c t = record {
  given = λ h. kinds-keep-given.by_each_rule u s g r a b q c t h;
  fixed = λ h. kinds-keep-given.of_fixed_trees u s g r a b q c t h;
  ordered = λ i h. kinds-keep-given.keeps_order u s g r a b q c t i h;
  in_its_place = λ i h p. kinds-keep-given.in_its_place u s g r a b q c t i h;
}
each-rule u s g (by_kind (of_opening r)) a b q c t = record {
  given = λ h. opened-stays.given u s g r a b q c t h;
  fixed = λ h. opened-stays.fixed u s g r a b q c t h;
  ordered = λ i h. opened-stays.ordered u s g r a b q c t i h;
  in_its_place = λ i h p. opened-stays.in_its_place u s g r a b q c t i h p;
}
each-rule u s g gathering a b q c t = record {
  given = λ h. gathering-stays.given u a b q h;
  fixed = λ h. gathering-stays.fixed u a b q h;
  ordered = λ i h. gathering-stays.ordered u a b q h;
  in_its_place = λ i h p. gathering-stays.in_its_place u a b q h;
}
each-rule u s g (by_order r) a b q c t = record {
  given = λ h. ordered-stays.given u s g r a b q c t h;
  fixed = λ h. ordered-stays.fixed u s g r a b q c t h;
  ordered = λ i h. ordered-stays.ordered u s g r a b q t h;
  in_its_place = λ i h p. ordered-stays.in_its_place u s g r a b q t h p;
}
