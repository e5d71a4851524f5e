-- Each rule that may fire leaves a tree over views with the same mark.
use Rattle.std.proofs.Common.{◌≡◌, subst, ℕ, Bool, true, List, Option}
use Rattle.ess_semantics.specs.Values.{Text}
use Rattle.ess_semantics.specs.Names.{Names}
use Rattle.ess_semantics.specs.Trees.{Ex}
use Rattle.ess_refine_laws.specs.AllRules.{Supply, Rule, rewrite, over_one, over_one_binding, over_a_condition, over_a_source, of_one_source, not_equal, turned, strictly, equal_sets, included_sets, in_two, in_a_term, size, choice, condition}
use Rattle.ess_kind_rules_laws.specs.KindRules.{KindRule, kind_rewrite, cell_of_an_atom, over_a_view, of_one_view, member_at_a_cell, size_at_the_marker, size_of_slots}
use Rattle.ess_open_rules_laws.specs.OpenRules.{OpenRule, open_rewrite, over_one_source, fold_of_folds, KindRuling, of_kind, of_opening, kind_ruled}
use Rattle.ess_nested_laws.proofs.NestedForms.{no-yes}
use Rattle.ess_seen_laws.specs.Seen.{Bound, bound_types, Seen}
use Rattle.ess_seen_laws.specs.MayFire.{may_fire, may_fire_at_views, may_fire_at_sources, may_fire_by_kind}
use Rattle.ess_seen_laws.specs.Laws.{SeenTreesHaveTypes, SeenTreesStayAmongMore, MembersMayBePut, NamesOfSeenTrees}
use Rattle.ess_seen_laws.specs.Apart.{Apart}
use Rattle.ess_seen_everywhere_laws.proofs.Stays.{seen-everywhere}
use Rattle.ess_seen_stays_laws.specs.Laws.{StaysSeen}
use Rattle.ess_seen_stays_laws.proofs.MadePlainly.{StayEverywhere, Made, of-one, without, alone, leaves}
use Rattle.ess_seen_stays_laws.proofs.MadeChoices.{chosen-shorter, size-made, member-made}
use Rattle.ess_seen_stays_laws.proofs.MadeSigns.{unequal-made, turned-made, strictly-made, equal-made, included-made, in-two-made}
use Rattle.ess_seen_stays_laws.proofs.MadeAtViews.{member-at-a-cell, size-in-slots, size-at-marker, cell-of-atom}
use Rattle.ess_seen_stays_laws.proofs.MadeNested.{fold-of-folds}
use Rattle.ess_seen_stays_laws.proofs.MadeOverSources.{over-a-view, of-one-view, over-a-source, of-one-source}
use Rattle.ess_seen_stays_laws.proofs.MadeOpened.{over-one-source}

module _ (types : SeenTreesHaveTypes) (more : SeenTreesStayAmongMore) (puts : MembersMayBePut) (names : NamesOfSeenTrees)
    (cells : Text → Option (Bool × List ℕ)) (stays : StayEverywhere cells) (s : Supply) (r : Names Bound) where
  made-plainly : (u : Rule) (e : Ex) (m : Bool) → Seen cells r e m → Apart s.one r e → may_fire u ≡ true →
      Made cells r m (rewrite s (bound_types r) u e)
  made-plainly over_one e m f n h = of-one cells f
  made-plainly over_one_binding e m f n h = without cells f
  made-plainly over_a_condition e m f n h = alone cells f
  made-plainly over_a_source e m f n h = over-a-source cells r more puts names s (bound_types r) f n
  made-plainly of_one_source e m f n h = of-one-source cells r more puts names s (bound_types r) f n
  made-plainly not_equal e m f n h = unequal-made cells r f
  made-plainly turned e m f n h = turned-made cells r f
  made-plainly strictly e m f n h = strictly-made cells r s.one f
  made-plainly equal_sets e m f n h = equal-made cells r more s.one n.new types f
  made-plainly included_sets e m f n h = included-made cells r more s.one n.new f
  made-plainly in_two e m f n h = in-two-made cells r f
  made-plainly in_a_term e m f n h = member-made cells r more s.one n.new f
  made-plainly size e m f n h = size-made cells r types s.one f
  made-plainly choice e m f n h = chosen-shorter cells r f
  made-plainly condition e m f n h = leaves cells stays f
  made-plainly u e m f n h = absurd (no-yes h)

  made-at-views : (u : KindRule) (e : Ex) (m : Bool) → Seen cells r e m → Apart s.one r e → may_fire_at_views u ≡ true →
      Made cells r m (kind_rewrite s (bound_types r) u e)
  made-at-views cell_of_an_atom e m f n h = cell-of-atom cells r more f
  made-at-views over_a_view e m f n h = over-a-view cells r more puts names s f n
  made-at-views of_one_view e m f n h = of-one-view cells r more puts names s f n
  made-at-views member_at_a_cell e m f n h = member-at-a-cell cells r f
  made-at-views size_at_the_marker e m f n h = size-at-marker cells r f
  made-at-views size_of_slots e m f n h = size-in-slots cells r f
  made-at-views u e m f n h = absurd (no-yes h)

  made-at-sources : (u : OpenRule) (e : Ex) (m : Bool) → Seen cells r e m → Apart s.one r e → may_fire_at_sources u ≡ true →
      Made cells r m (open_rewrite s (bound_types r) u e)
  made-at-sources over_one_source e m f n h = over-one-source cells r more puts names s (bound_types r) f n
  made-at-sources fold_of_folds e m f n h = fold-of-folds cells r s.one f n
  made-at-sources u e m f n h = absurd (no-yes h)

  made-by-kind : (u : KindRuling) (e : Ex) (m : Bool) → Seen cells r e m → Apart s.one r e → may_fire_by_kind u ≡ true →
      Made cells r m (kind_ruled s (bound_types r) u e)
  made-by-kind (of_kind u) e m f n h = made-at-views u e m f n h
  made-by-kind (of_opening u) e m f n h = made-at-sources u e m f n h

-- The number that is there everywhere in the place of a refined one is such a tree.
stays : (cells : Text → Option (Bool × List ℕ)) → StayEverywhere cells
stays cells r e f q = seen-everywhere cells f

-- The law.
pub stays-seen : SeenTreesHaveTypes → SeenTreesStayAmongMore → MembersMayBePut → NamesOfSeenTrees → StaysSeen
stays-seen types more puts names = record {
  plainly = λ cells s r u e f m h n k q.
      subst (Made cells r m) q (made-plainly types more puts names cells (stays cells) s r u e m h n k);
  by_kind = λ cells s r u e f m h n k q.
      subst (Made cells r m) q (made-by-kind types more puts names cells (stays cells) s r u e m h n k);
}
