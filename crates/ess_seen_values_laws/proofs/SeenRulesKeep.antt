-- Rules that fire at trees over views keep what they mean, structures met and values; and what holds at their parts.
use Rattle.std.proofs.Common.{◌≡◌, subst, ℕ, Bool, true, List, Option, Some}
use Rattle.std.specs.Prelude.{IsTrue}
use Rattle.ess_semantics.specs.declared.words.Fun.{Fun}
use Rattle.ess_semantics.specs.Values.{Text}
use Rattle.ess_semantics.specs.Names.{Names}
use Rattle.ess_semantics.specs.Trees.{Ex, comp_ex, fun1, Gens}
use Rattle.ess_semantics.specs.Meaning.{Env}
use Rattle.ess_refine_laws.specs.AllRules.{Supply}
use Rattle.ess_kind_rules_laws.specs.KindRules.{cell_of_an_atom, over_a_view, of_one_view, member_at_a_cell, size_at_the_marker, size_of_slots}
use Rattle.ess_open_rules_laws.specs.OpenRules.{over_one_source, fold_of_folds, KindRuling, of_kind, of_opening, kind_ruled}
use Rattle.ess_values_along_laws.specs.Valued.{Valued}
use Rattle.ess_seen_laws.specs.Seen.{Bound, bound_types, Seen}
use Rattle.ess_seen_laws.specs.MayFire.{may_fire_by_kind}
use Rattle.ess_seen_laws.specs.Apart.{Apart}
use Rattle.ess_seen_everywhere_laws.proofs.SeenNumbers.{seen-numbers-are-everywhere}
use Rattle.ess_seen_values_laws.specs.Laws.{IsMet, StaysAlike, SeenRulesKeep, PartsOfSeenTrees}
use Rattle.ess_seen_values_laws.proofs.DrawnNames.{seen-drawn}
use Rattle.ess_seen_values_laws.proofs.Contexts.{where-typed, wherever}
use Rattle.ess_seen_values_laws.proofs.ScopesAt.{scoped-at}
use Rattle.ess_seen_values_laws.proofs.ListsApart.{ListApart, word-apart}
use Rattle.ess_seen_values_laws.proofs.KindRules.{fold-by-parts, fold-by-itself, atoms-by-cells, sizes-by-markers, sizes-of-slots}
use Rattle.ess_seen_values_laws.proofs.SourcesKept.{opened-kept, folded-kept}
use Rattle.ess_seen_values_laws.proofs.MemberRules.{members-by-cells}
use Rattle.ess_seen_values_laws.proofs.PlainKept.{plain-keeps}

module _ (cells : Text → Option (Bool × List ℕ)) (s : Supply) (r : Names Bound) where
  apart-list : (e : Ex) → Apart s.one r e → (m : Bool) (k : Fun) (x : Ex) (gs : Gens) → e ≡ fun1 m k (comp_ex x gs) →
      ListApart s.one r x gs
  apart-list e a m k x gs q = word-apart s.one r m k x gs (subst (Apart s.one r) q a)

  kind-keeps : (u : KindRuling) (e f : Ex) {m : Bool} → Seen cells r e m → Apart s.one r e → may_fire_by_kind u ≡ true →
      kind_ruled s (bound_types r) u e ≡ Some f → (env : Env) → IsMet cells r e env → (w : Bool) → Valued w e env → StaysAlike w e f env
  kind-keeps (of_kind cell_of_an_atom) e f h a k q env i w v = atoms-by-cells cells s r e f q env i w v
  kind-keeps (of_kind over_a_view) e f h a k q env i w v = fold-by-parts cells s e f h (apart-list e a) env i w v q
  kind-keeps (of_kind of_one_view) e f h a k q env i w v = fold-by-itself cells s e f h (apart-list e a) env i w v q
  kind-keeps (of_kind member_at_a_cell) e f h a k q env i w v = members-by-cells cells s e f h env i w v q
  kind-keeps (of_kind size_at_the_marker) e f h a k q env i w v = sizes-by-markers cells s r e f q env i w v
  kind-keeps (of_kind size_of_slots) e f h a k q env i w v = sizes-of-slots cells s e f h env i w v q
  kind-keeps (of_opening over_one_source) e f h a k q env i w v = opened-kept cells s r e f h a q env i w v
  kind-keeps (of_opening fold_of_folds) e f h a k q env i w v = folded-kept cells s r e f h q env i w v
  kind-keeps (of_kind _) e f h a k q env i w v = cc
  kind-keeps (of_opening _) e f h a k q env i w v = cc

-- What is proved of rules.
pub seen-rules-keep : SeenRulesKeep
seen-rules-keep = record {
  plainly = λ cells s r u e f m h a k q env i w v. plain-keeps seen-numbers-are-everywhere cells s r u e f h a k q env i w v;
  by_kind = λ cells s r u e f m h a k q env i w v. kind-keeps cells s r u e f h a k q env i w v;
}

-- And of parts.
pub parts-of-seen-trees : PartsOfSeenTrees
parts-of-seen-trees = record {
  typed = λ cells r c e m h o env i. where-typed e c (bound_types r) env (seen-drawn cells h) o i.holds.typed i.met;
  positions = λ c env h. wherever (λ here. IsTrue here.positions) (λ p v here k. k) c env h;
  scoped = λ z c s e o h. scoped-at z e c s o h;
}
