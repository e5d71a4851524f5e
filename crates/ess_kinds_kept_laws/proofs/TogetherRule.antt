-- `together(s, v)` of a partition by numbers keeps its meaning, whatever s is.
use Rattle.std.proofs.Common.{◌≡◌, refl, ap, ◌∙◌, true, false, List, [], ◌∷◌, Option, Some, None, option_map}
use Rattle.std.specs.Prelude.{is_some}
use Rattle.ess_semantics.specs.declared.words.Op2.{Op2}
use Rattle.ess_semantics.specs.declared.words.Fun.{Fun}
use Rattle.ess_semantics.specs.declared.words.ReprKind.{ReprKind}
use Rattle.ess_semantics.specs.Lists.{and_then}
use Rattle.ess_semantics.specs.Values.{Text, Value}
use Rattle.ess_semantics.specs.Collections.{holds, set_of, sorted_once}
use Rattle.ess_semantics.specs.Trees.{word, set_literal, Mark, repr, no_reprs, name_pat, Ex, Exs, name_ex, node_ex, comp_ex, cell_ex, seen_ex, ex2, fun1, no_gens, over, from, cond, no_exs, more_exs, Dom, partition_dom}
use Rattle.ess_semantics.specs.Meaning.{Env, meaning, domain_of, members_in}
use Rattle.ess_semantics.specs.Meets.{Meets}
use Rattle.ess_semantics.specs.Kept.{Keeps}
use Rattle.ess_semantics.proofs.Tests.{and-left}
use Rattle.ess_semantics.proofs.Orders.{to_list-of_list}
use Rattle.ess_semantics.proofs.Sorting.{holds-sorted_once}
use Rattle.ess_rules_laws.specs.Rules.{Unused, OperandsThere}
use Rattle.ess_rules_laws.specs.SetListings.{put_last}
use Rattle.ess_rules_laws.specs.SlotListings.{slots_dom}
use Rattle.ess_rules_laws.proofs.RuleAnswers.{AnswerKeeps, fires, meets-behind}
use Rattle.ess_views_laws.specs.PartitionViews.{have_number_of, are_together}
use Rattle.ess_kinds_kept_laws.specs.NewNames.{TwoNew}
use Rattle.ess_kinds_kept_laws.specs.PartitionAsks.{NumbersEnough, MembersTold, TogetherAsks, PartitionsByNumberServe}
use Rattle.ess_kinds_kept_laws.proofs.NumberingView.{PartsView, parts-seen}
use Rattle.ess_kinds_kept_laws.proofs.PartyRules.{each-of-any, partition_party-keeps, partition_parts-offered}
use Rattle.ess_kinds_kept_laws.proofs.TogetherNumbers.{numbered-means, numbered-met}
use Rattle.ess_kinds_kept_laws.proofs.TogetherTerms.{Valued, nothing-means, one-means, several-means, have-met, valued-of, there, set-there}

one-there : (o : Option Value) (vs : List Value) → and_then o (λ x. option_map (λ xs. x ∷ xs) (Some [])) ≡ Some vs →
    (y : Value) × (o ≡ Some y)
one-there None vs q = cc
one-there (Some y) vs q = (y, refl)

module _ (ms : List Mark) (es : Exs) (d : Dom) (m w : Text) (js : Exs) (x y : Text) (n : Ex) (env : Env)
    (enough : NumbersEnough n (PartsView ms es d m w js env) env) where
  abbrev V : Ex
  V = PartsView ms es d m w js env

  abbrev Old : Ex → Ex
  Old t = node_ex true (word Fun.Together) (more_exs t (more_exs V no_exs))

  -- Of several terms.
  several-keeps : (a b : Ex) (bs : Exs) → is_some (meaning (node_ex false set_literal (more_exs a (more_exs b bs))) env) ≡ true →
      MembersTold (node_ex false set_literal (more_exs a (more_exs b bs))) d env →
      (h : Meets (Old (node_ex false set_literal (more_exs a (more_exs b bs)))) env) →
      (meaning (Old (node_ex false set_literal (more_exs a (more_exs b bs)))) env ≡ meaning (have_number_of w js a (more_exs b bs)) env)
      × Meets (have_number_of w js a (more_exs b bs)) env
  several-keeps a b bs o told h = let s = parts-seen ms es d m w js env h.1.0 in
      let t = set-there (more_exs a (more_exs b bs)) env o in (
        go t.0 (valued-of ms es d m w js env h.1.0 s n enough (more_exs a (more_exs b bs)) t.0 t.1
            (λ v z. told.told (set_of t.0) (ap (λ o. and_then o (λ vs. Some (set_of vs))) t.1) v
            (ap (λ l. holds l v) (to_list-of_list (sorted_once t.0)) ∙ holds-sorted_once t.0 v ∙ z))),
        have-met ms es d m w js env h.1.0 s n enough a h.0.0 (more_exs b bs) h.0.1,
      )
    where
      go : (vs : List Value) → Valued ms es d m w js env h.1.0 (parts-seen ms es d m w js env h.1.0) n enough (more_exs a (more_exs b bs)) vs →
          meaning (Old (node_ex false set_literal (more_exs a (more_exs b bs)))) env ≡ meaning (have_number_of w js a (more_exs b bs)) env
      go [] u = absurd u
      go (y ∷ []) u = absurd u.2
      go (y ∷ z ∷ zs) u = several-means ms es d m w js env h.1.0 (parts-seen ms es d m w js env h.1.0) n enough a b bs y z zs u told

  -- What stands in the place of any set.
  abbrev Whole : Ex → Ex
  Whole t = fun1 true Fun.Or (comp_ex
      (fun1 true Fun.And (comp_ex (ex2 true Op2.Eq (cell_ex false w (put_last js (name_ex y))) (name_ex x)) (from (name_pat y) t no_gens)))
      (over (name_pat x) (slots_dom n) (cond (ex2 true Op2.Le (name_ex x) (cell_ex false m js)) no_gens)))

  any-keeps : (t : Ex) → TwoNew x y (Old t) → Unused x n → is_some (meaning t env) ≡ true → MembersTold t d env → Keeps (Old t) (Whole t) env
  any-keeps t new new-n o told met = let v = there (meaning t env) o in (
    numbered-means ms es d m w js env met.1.0 (parts-seen ms es d m w js env met.1.0) n enough t v.0 v.1 told x y new.first.1.0 new-n
        new.first.0 new.second.1.0 new.differ,
    numbered-met ms es d m w js env met.1.0 (parts-seen ms es d m w js env met.1.0) n enough t v.0 v.1 told x y new.first.1.0 new-n
        new.first.0 new.second.1.0 new.differ met.0,
  )

together-answer : (x y : Text) (n e : Ex) (env : Env) → TwoNew x y e → Unused x n → OperandsThere e env → TogetherAsks n e env →
    AnswerKeeps (are_together x y n e) e env
together-answer x y n (node_ex true (word Fun.Together) (more_exs (node_ex false set_literal no_exs)
    (more_exs (seen_ex (repr ReprKind.PartitionOccurrence no_reprs) (partition_dom ms es d) (m ∷ w ∷ []) js) no_exs))) env new new-n o c =
    λ h. (nothing-means ms es d m w js env h.1.0 (parts-seen ms es d m w js env h.1.0) n c.0 c.1, (h.1.0.2, (tt, tt)))
together-answer x y n (node_ex true (word Fun.Together) (more_exs (node_ex false set_literal (more_exs a no_exs))
    (more_exs (seen_ex (repr ReprKind.PartitionOccurrence no_reprs) (partition_dom ms es d) (m ∷ w ∷ []) js) no_exs))) env new new-n o c =
    λ h. let t = set-there (more_exs a no_exs) env (and-left (is_some (meaning (node_ex false set_literal (more_exs a no_exs)) env)) _ o) in
    let v = one-there (meaning a env) t.0 t.1 in (
      one-means ms es d m w js env h.1.0 (parts-seen ms es d m w js env h.1.0) n c.0 x a v.0 new.first.0.0 v.1 c.1,
      (
        (
          h.1.0.1.1,
          each-of-any (members_in (domain_of d env)) _ (λ u. (tt, (meets-behind x u a env new.first.0.0 h.0.0, tt))),
        ),
        tt,
      ),
    )
together-answer x y n (node_ex true (word Fun.Together) (more_exs (node_ex false set_literal (more_exs a (more_exs b bs)))
    (more_exs (seen_ex (repr ReprKind.PartitionOccurrence no_reprs) (partition_dom ms es d) (m ∷ w ∷ []) js) no_exs))) env new new-n o c =
    several-keeps ms es d m w js x y n env c.0 a b bs
    (and-left (is_some (meaning (node_ex false set_literal (more_exs a (more_exs b bs))) env)) _ o) c.1
together-answer x y n (node_ex true (word Fun.Together) (more_exs s
    (more_exs (seen_ex (repr ReprKind.PartitionOccurrence no_reprs) (partition_dom ms es d) (m ∷ w ∷ []) js) no_exs))) env new new-n o c =
    any-keeps ms es d m w js x y n env c.0 s new new-n (and-left (is_some (meaning s env)) _ o) c.1
together-answer x y n _ env new new-n o c = tt

-- `together(s, v)`.
pub are_together-keeps : (x y : Text) (n e f : Ex) → are_together x y n e ≡ Some f → (env : Env) → TwoNew x y e → Unused x n →
    OperandsThere e env → TogetherAsks n e env → Keeps e f env
are_together-keeps x y n e f q env new new-n o c = fires (are_together x y n e) e f env (together-answer x y n e env new new-n o c) q

pub partitions-serve : PartitionsByNumberServe
partitions-serve = record { parties = partition_party-keeps; together = are_together-keeps; parts_are_listed = partition_parts-offered }
