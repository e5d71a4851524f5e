-- Rules of views of multisets have what they count on, and keep what they rewrite.
use Rattle.std.proofs.Common.{◌≡◌, refl, Bool, true, false, [], ◌∷◌, Some, None}
use Rattle.ess_semantics.specs.declared.words.Op1.{Op1}
use Rattle.ess_semantics.specs.declared.words.Op2.{Op2}
use Rattle.ess_semantics.specs.declared.words.Fun.{Fun}
use Rattle.ess_semantics.specs.declared.words.ReprKind.{ReprKind}
use Rattle.ess_semantics.specs.Values.{Text}
use Rattle.ess_semantics.specs.Names.{Names}
use Rattle.ess_semantics.specs.Trees.{word, repr, no_reprs, more_reprs, Ex, node_ex, seen_ex, no_exs, more_exs, mset_dom, ex1, ex2}
use Rattle.ess_semantics.specs.Types.{Ty}
use Rattle.ess_semantics.specs.Meaning.{Env}
use Rattle.ess_semantics.specs.Meets.{Meets}
use Rattle.ess_rules_laws.specs.Rules.{OperandsThere}
use Rattle.ess_refine_laws.specs.AllRules.{Supply}
use Rattle.ess_guard_natural_laws.specs.TotalButNatural.{opens_places}
use Rattle.ess_values_along_laws.specs.Valued.{Valued}
use Rattle.ess_values_along_laws.proofs.ValuesAlong.{values-along}
use Rattle.ess_views_laws.specs.MultisetViews.{multiset_size, multiset_frequency, multiset_member}
use Rattle.ess_views_kept_laws.specs.MultisetsKept.{LastNumbers}
use Rattle.ess_kind_rules_laws.specs.ViewListings.{slots_of_operand}
use Rattle.ess_kind_rules_laws.specs.KindRules.{KindRule, member_of_a_multiset, size_of_a_multiset, frequency_by_cells, kind_rewrite}
use Rattle.ess_kinds_kept_laws.specs.MultisetAsks.{SizeAsks, FrequencyAsks}
use Rattle.ess_kinds_kept_laws.specs.KindAsks.{KindAsks}
use Rattle.ess_kinds_kept_laws.proofs.KindRulesKeep.{kind-rules-keep}
use Rattle.ess_kind_steps_laws.specs.SetsAtHand.{AtHand}
use Rattle.ess_kind_multisets_laws.specs.MultisetsAtHand.{is_of_multisets, MultisetsAtHand, MultisetRulesHaveWhatTheyAsk}
use Rattle.ess_kind_multisets_laws.proofs.JudgedMultisets.{multiset-denoted, mset-slots-are, members-there}

no : {A : Type 0} → false ≡ true → A
no h = cc

-- A rule that doesn't fire.
absent : {A : Type 0} (f : Ex) → None ≡ Some f → A
absent f q = cc

-- ---- membership

member-asked : (x : Text) (e f : Ex) → multiset_member x e ≡ Some f → (env : Env) → MultisetsAtHand member_of_a_multiset e env →
    LastNumbers e env
member-asked x (ex2 true Op2.Member a (seen_ex (repr ReprKind.MSetOccurrence no_reprs) (mset_dom ms es d) (t ∷ []) js)) f q env j =
    members-there ms es d env (multiset-denoted (repr ReprKind.MSetOccurrence no_reprs) ms es d env j)
member-asked x _ f q env j = absent f q

-- ---- sizes

size-asked : (x : Text) (e f : Ex) → multiset_size x (slots_of_operand e) e ≡ Some f → (env : Env) →
    MultisetsAtHand size_of_a_multiset e env → Meets e env → SizeAsks (slots_of_operand e) e env
size-asked x (ex1 false Op1.Bar (seen_ex (repr ReprKind.MSetOccurrence no_reprs) (mset_dom ms es d) (t ∷ []) js)) f q env j m =
    members-there ms es d env (multiset-denoted (repr ReprKind.MSetOccurrence no_reprs) ms es d env j)
size-asked x (ex1 false Op1.Bar
    (seen_ex (repr ReprKind.MSetExplicitWithRepetition (more_reprs r no_reprs)) (mset_dom ms es d) (t ∷ ns) js)) f q env j m = tt
size-asked x (ex1 false Op1.Bar (seen_ex (repr ReprKind.MSetExplicitWithFlags (more_reprs r no_reprs)) (mset_dom ms es d) (t ∷ ns) js)) f q
    env j m =
    mset-slots-are (repr ReprKind.MSetExplicitWithFlags (more_reprs r no_reprs)) ms es d (t ∷ ns) js env
    (multiset-denoted (repr ReprKind.MSetExplicitWithFlags (more_reprs r no_reprs)) ms es d env j) m.0.1
size-asked x _ f q env j m = absent f q

-- ---- frequencies

-- Operands of `freq` stand in no natural place.
freq-opens : (w : Bool) → opens_places w false (word Fun.Freq) ≡ false
freq-opens true = refl
freq-opens false = refl

operands-there : (w : Bool) (v a : Ex) (env : Env) → Valued w (node_ex false (word Fun.Freq) (more_exs v (more_exs a no_exs))) env →
    OperandsThere (node_ex false (word Fun.Freq) (more_exs v (more_exs a no_exs))) env
operands-there w v a env h =
    values-along.operands w false (word Fun.Freq) (more_exs v (more_exs a no_exs)) env refl (freq-opens w) h

frequency-asked : (x : Text) (e f : Ex) → multiset_frequency x (slots_of_operand e) e ≡ Some f → (env : Env) →
    MultisetsAtHand frequency_by_cells e env → (w : Bool) → Valued w e env → Meets e env →
    OperandsThere e env × FrequencyAsks (slots_of_operand e) e env
frequency-asked x (node_ex false (word Fun.Freq)
    (more_exs (seen_ex (repr ReprKind.MSetOccurrence no_reprs) (mset_dom ms es d) (t ∷ []) js) (more_exs a no_exs))) f q env j w v m = (
      operands-there w (seen_ex (repr ReprKind.MSetOccurrence no_reprs) (mset_dom ms es d) (t ∷ []) js) a env v,
      members-there ms es d env (multiset-denoted (repr ReprKind.MSetOccurrence no_reprs) ms es d env j),
    )
frequency-asked x (node_ex false (word Fun.Freq)
    (more_exs (seen_ex (repr ReprKind.MSetExplicitWithFlags (more_reprs r no_reprs)) (mset_dom ms es d) (t ∷ ns) js)
    (more_exs a no_exs))) f q env j w v m = (
      operands-there w (seen_ex (repr ReprKind.MSetExplicitWithFlags (more_reprs r no_reprs)) (mset_dom ms es d) (t ∷ ns) js) a env v,
      mset-slots-are (repr ReprKind.MSetExplicitWithFlags (more_reprs r no_reprs)) ms es d (t ∷ ns) js env
          (multiset-denoted (repr ReprKind.MSetExplicitWithFlags (more_reprs r no_reprs)) ms es d env j) m.0.1,
    )
frequency-asked x _ f q env j w v m = absent f q

-- ---- each rule

asked : (s : Supply) (g : Names Ty) (r : KindRule) (e f : Ex) → kind_rewrite s g r e ≡ Some f → is_of_multisets r ≡ true →
    (env : Env) → AtHand s g r e env → MultisetsAtHand r e env → (w : Bool) → Valued w e env → Meets e env → KindAsks s g r e env
asked s g member_of_a_multiset e f q i env h k w v m = (h.new, member-asked s.one e f q env k)
asked s g size_of_a_multiset e f q i env h k w v m = (h.new, size-asked s.one e f q env k m)
asked s g frequency_by_cells e f q i env h k w v m = let p = frequency-asked s.one e f q env k w v m in (h.new, p.0, p.1)
asked s g _ e f q i env h k w v m = no i

-- What is proved of them.
pub multiset-rules-have : MultisetRulesHaveWhatTheyAsk
multiset-rules-have = record {
  asked = asked;
  kept = λ s g r e f q i env h k w v m. kind-rules-keep.each s g r e f q env h.held (asked s g r e f q i env h k w v m) m;
}
