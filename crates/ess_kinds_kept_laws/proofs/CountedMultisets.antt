-- Sizes, frequencies and listings of views of multisets, whatever their kind.
use Rattle.std.proofs.Common.{◌≡◌, refl, true, false, not, [], ◌∷◌, Some, None, Option}
use Rattle.std.specs.Prelude.{IsTrue, is_some}
use Rattle.ess_semantics.specs.declared.words.Op1.{Op1}
use Rattle.ess_semantics.specs.declared.words.Fun.{Fun}
use Rattle.ess_semantics.specs.declared.words.ReprKind.{ReprKind}
use Rattle.ess_semantics.specs.Values.{Text, Value}
use Rattle.ess_semantics.specs.Order.{same_text}
use Rattle.ess_semantics.specs.Trees.{word, repr, no_reprs, more_reprs, Ex, node_ex, seen_ex, no_exs, more_exs, ex1, fun1, mset_dom}
use Rattle.ess_semantics.specs.Meaning.{Env, meaning}
use Rattle.ess_semantics.specs.Meets.{Meets}
use Rattle.ess_semantics.specs.Kept.{Keeps}
use Rattle.ess_semantics.proofs.Tests.{and-left, and-right}
use Rattle.ess_rules_laws.specs.Rules.{Unused, OperandsThere}
use Rattle.ess_rules_laws.specs.SlotListings.{OffersWhereMet}
use Rattle.ess_rules_laws.proofs.RuleAnswers.{AnswerKeeps, fires}
use Rattle.ess_views_laws.specs.MultisetViews.{multiset_size, multiset_frequency, counted_members, members_once}
use Rattle.ess_views_kept_laws.specs.MultisetsListed.{OftenEnough, MultisetSlotsAre}
use Rattle.ess_views_kept_laws.proofs.MultisetViews.{multiset_size-keeps, multiset_frequency-keeps}
use Rattle.ess_views_kept_laws.proofs.MembersOnce.{members_once-offered}
use Rattle.ess_kinds_kept_laws.specs.MultisetAsks.{SizeAsks, FrequencyAsks, OfOnce, CountedMultisetsServe}
use Rattle.ess_kinds_kept_laws.proofs.SlottedViews.{SlottedView}
use Rattle.ess_kinds_kept_laws.proofs.SlottedRules.{slotted-size, slotted-size-met, slotted-frequency, slotted-frequency-met}
use Rattle.ess_kinds_kept_laws.proofs.SlottedListings.{slotted-once, slotted-often}

no : {A : Type 0} → false ≡ true → A
no h = cc

there : (o : Option Value) → is_some o ≡ true → (w : Value) × (o ≡ Some w)
there None h = no h
there (Some w) h = (w, refl)

size-answer : (x : Text) (n e : Ex) (env : Env) → Unused x e → SizeAsks n e env → AnswerKeeps (multiset_size x n e) e env
size-answer x n (ex1 false Op1.Bar (seen_ex (repr ReprKind.MSetOccurrence no_reprs) (mset_dom ms es d) (t ∷ []) js)) env o c =
    multiset_size-keeps x n (ex1 false Op1.Bar (seen_ex (repr ReprKind.MSetOccurrence no_reprs) (mset_dom ms es d) (t ∷ []) js)) _ refl o
    env c
size-answer x n (ex1 false Op1.Bar
    (seen_ex (repr ReprKind.MSetExplicitWithRepetition (more_reprs r no_reprs)) (mset_dom ms es d) (m ∷ ns) js))
    env o c =
    multiset_size-keeps x n (ex1 false Op1.Bar
    (seen_ex (repr ReprKind.MSetExplicitWithRepetition (more_reprs r no_reprs)) (mset_dom ms es d) (m ∷ ns) js)) _ refl o env tt
size-answer x n (ex1 false Op1.Bar (seen_ex (repr ReprKind.MSetExplicitWithFlags (more_reprs r no_reprs)) (mset_dom ms es d) (t ∷ ns) js))
    env o c =
    λ h. (slotted-size r ms es d t ns js env x n o.0.0.1 o.0.1 h.0 c, slotted-size-met r ms es d t ns js env x n o.0.0.1 o.0.1 h.0 c)
size-answer x n _ env o c = tt

-- Sizes.
pub size-keeps : (x : Text) (n e f : Ex) → multiset_size x n e ≡ Some f → Unused x e → (env : Env) → SizeAsks n e env → Keeps e f env
size-keeps x n e f q o env c = fires (multiset_size x n e) e f env (size-answer x n e env o c) q

frequency-answer : (x : Text) (n e : Ex) (env : Env) → Unused x e → OperandsThere e env → FrequencyAsks n e env →
    AnswerKeeps (multiset_frequency x n e) e env
frequency-answer x n (node_ex false (word Fun.Freq)
    (more_exs (seen_ex (repr ReprKind.MSetOccurrence no_reprs) (mset_dom ms es d) (t ∷ []) js) (more_exs a no_exs))) env o p c =
    multiset_frequency-keeps x n (node_ex false (word Fun.Freq)
    (more_exs (seen_ex (repr ReprKind.MSetOccurrence no_reprs) (mset_dom ms es d) (t ∷ []) js) (more_exs a no_exs))) _ refl o env p c
frequency-answer x n (node_ex false (word Fun.Freq)
    (more_exs (seen_ex (repr ReprKind.MSetExplicitWithFlags (more_reprs r no_reprs)) (mset_dom ms es d) (t ∷ ns) js)
    (more_exs a no_exs))) env o p c =
    λ h. let w = there (meaning a env)
    (and-left (is_some (meaning a env)) true (and-right (is_some (meaning (SlottedView r ms es d t ns js env) env)) _ p)) in (
      slotted-frequency r ms es d t ns js env x n o.0.0.1 o.0.1 h.0 c a o.1.0 w.0 w.1,
      slotted-frequency-met r ms es d t ns js env x n o.0.0.1 o.0.1 h.0 c a o.1.0 h.1.0,
    )
frequency-answer x n _ env o p c = tt

-- Frequencies.
pub frequency-keeps : (x : Text) (n e f : Ex) → multiset_frequency x n e ≡ Some f → Unused x e → (env : Env) → OperandsThere e env →
    FrequencyAsks n e env → Keeps e f env
frequency-keeps x n e f q o env p c = fires (multiset_frequency x n e) e f env (frequency-answer x n e env o p c) q

-- The set of the members.
pub once-offered : (x : Text) (n e : Ex) (env : Env) → Unused x e → Meets e env → OfOnce n e env →
    OffersWhereMet (members_once x n e) e env
once-offered x n (fun1 false Fun.ToSet (seen_ex (repr ReprKind.MSetOccurrence no_reprs) (mset_dom ms es d) (t ∷ []) js)) env o h c =
    members_once-offered x n (fun1 false Fun.ToSet (seen_ex (repr ReprKind.MSetOccurrence no_reprs) (mset_dom ms es d) (t ∷ []) js)) env o h
    c
once-offered x n (fun1 false Fun.ToSet
    (seen_ex (repr ReprKind.MSetExplicitWithFlags (more_reprs r no_reprs)) (mset_dom ms es d) (t ∷ ns) js)) env o h c =
    slotted-once r ms es d t ns js env x n o.0.0.1 o.0.1 h.0 c
once-offered x n _ env o h c = tt

-- Each as often as the number of its slot says.
pub counted-offered : (x y : Text) (n o e : Ex) (env : Env) → Unused x e → Unused y e → IsTrue (not (same_text y x)) →
    Unused x o → Meets e env → MultisetSlotsAre n e env → OftenEnough o e env → OffersWhereMet (counted_members x y n o e) e env
counted-offered x y n o (seen_ex (repr ReprKind.MSetExplicitWithFlags (more_reprs r no_reprs)) (mset_dom ms es d) (t ∷ ns) js) env a b c p h
    s f =
    slotted-often r ms es d t ns js env x n a.0.1 a.1 h s y o b c p f
counted-offered x y n o _ env a b c p h s f = tt

pub counted-multisets-serve : CountedMultisetsServe
counted-multisets-serve = record {
  sizes = size-keeps;
  frequencies = frequency-keeps;
  members_are_offered_once = once-offered;
  numbers_in_slots_are_listed = counted-offered;
}
