-- Rules of views of partitions by part numbers have what they count on, and keep what they rewrite.
use Rattle.std.proofs.Common.{◌≡◌, refl, subst, Bool, true, false, not, List, [], ◌∷◌, Some, None}
use Rattle.std.specs.Prelude.{IsTrue}
use Rattle.ess_semantics.specs.declared.words.Fun.{Fun}
use Rattle.ess_semantics.specs.declared.words.ReprKind.{ReprKind}
use Rattle.ess_semantics.specs.Values.{Text, Value, items_of}
use Rattle.ess_semantics.specs.Order.{same_text}
use Rattle.ess_semantics.specs.Names.{Names}
use Rattle.ess_semantics.specs.Trees.{word, set_literal, Mark, repr, no_reprs, Ex, Exs, node_ex, seen_ex, no_exs, more_exs, Dom, partition_dom}
use Rattle.ess_semantics.specs.Types.{Ty, type_of_dom}
use Rattle.ess_semantics.specs.Typing.{type_of}
use Rattle.ess_semantics.specs.Typed.{Typed}
use Rattle.ess_semantics.specs.TypeMembers.{is_of}
use Rattle.ess_semantics.specs.Meaning.{Env, meaning}
use Rattle.ess_semantics.specs.Meets.{Meets}
use Rattle.ess_semantics.proofs.Sorting.{all-holds}
use Rattle.ess_repr_declare_laws.specs.SizeTerms.{bound_ex}
use Rattle.ess_rules_laws.specs.Rules.{Sound}
use Rattle.ess_refine_laws.specs.AllRules.{Supply}
use Rattle.ess_values_along_laws.specs.Valued.{Valued}
use Rattle.ess_values_along_laws.proofs.ValuesAlong.{values-along}
use Rattle.ess_views_laws.specs.PartitionViews.{partition_party, are_together}
use Rattle.ess_kind_rules_laws.specs.ViewListings.{partitioned_second}
use Rattle.ess_kind_rules_laws.specs.KindRules.{KindRule, member_of_a_part, size_of_the_parts, lie_together, party_by_number, kind_rewrite}
use Rattle.ess_kinds_kept_laws.specs.PartitionAsks.{PartyAsks, MembersTold, Tells}
use Rattle.ess_kinds_kept_laws.specs.KindAsks.{KindAsks}
use Rattle.ess_kinds_kept_laws.proofs.KindRulesKeep.{kind-rules-keep}
use Rattle.ess_kind_steps_laws.specs.JudgedItems.{JudgedSeen}
use Rattle.ess_kind_steps_laws.specs.SetsAtHand.{AtHand}
use Rattle.ess_kind_steps_laws.proofs.ToldAtoms.{Agreed}
use Rattle.ess_kind_partitions_laws.specs.PartitionsAtHand.{is_of_partitions, PartitionsAtHand, PartitionRulesHaveWhatTheyAsk}
use Rattle.ess_kind_partitions_laws.proofs.JudgedPartitions.{PartitionDenoted, partition-denoted, bound-named, numbers-enough}
use Rattle.ess_kind_partitions_laws.proofs.ToldMembers.{tells, party-agrees, together-there, LieIn, lie-in, lie-once}

no : {A : Type 0} → false ≡ true → A
no h = cc

-- A rule that doesn't fire.
absent : {A : Type 0} (f : Ex) → None ≡ Some f → A
absent f q = cc

positive : (b : Bool) → IsTrue b → b ≡ true
positive true h = refl
positive false h = h

-- ---- the view

module _ (g : Names Ty) (ms : List Mark) (es : Exs) (d : Dom) (m w : Text) (js : Exs) (env : Env)
    (j : JudgedSeen (repr ReprKind.PartitionOccurrence no_reprs) (partition_dom ms es d) env) (h : Typed g env)
    (p : IsTrue env.positions) where
  abbrev View : Ex
  View = seen_ex (repr ReprKind.PartitionOccurrence no_reprs) (partition_dom ms es d) (m ∷ w ∷ []) js

  denoted : PartitionDenoted ms es d env
  denoted = partition-denoted ms es d env j

  -- A value of a type that agrees with that of the members.
  value-told : (t : Ty) → Agreed t (type_of_dom d) → (y : Value) → IsTrue (is_of true env.types t y) → Tells y d env
  value-told t a y k =
      let i : PartitionDenoted ms es d env = denoted in
      tells d env i.inner i.is_atom_dom (positive env.positions p) i.part i.finite t a y k

  -- The type of a sound term says which values it has.
  typed : (a : Ex) → Sound g a → (u : Ty) → type_of a g ≡ Some u → (y : Value) → meaning a env ≡ Some y →
      IsTrue (is_of true env.types u y)
  typed a o u q y k = subst (λ b. IsTrue (is_of b env.types u y)) (positive env.positions p) (o u q env h y k)

  -- The part with a term.
  party-asks : (b : Bool) (a : Ex) → Sound g a → (t : Ty) →
      type_of (node_ex b (word Fun.Party) (more_exs a (more_exs View no_exs))) g ≡ Some t → Meets View env →
      PartyAsks (bound_ex d) (node_ex b (word Fun.Party) (more_exs a (more_exs View no_exs))) env
  party-asks b a o t q n =
      let u = party-agrees (type_of a g) (type_of_dom d) t q in (
        numbers-enough ms es d (m ∷ w ∷ []) js env denoted n,
        λ y k. value-told u.0 u.2 y (typed a o u.0 u.1 y k),
      )

  -- The members of a set.
  members-told : (b : Bool) (s : Ex) → Sound g s → (t : Ty) →
      type_of (node_ex b (word Fun.Together) (more_exs s (more_exs View no_exs))) g ≡ Some t → MembersTold s d env
  members-told b s o t q =
      let u = together-there (type_of s g) (type_of_dom d) t q in
      record {
        once = λ v k. lie-once env.types (type_of_dom d) v (lie-in env.types (type_of_dom d) u.0 t u.2 v (typed s o u.0 u.1 v k));
        told = λ v k y i.
            let l : LieIn env.types (type_of_dom d) v = lie-in env.types (type_of_dom d) u.0 t u.2 v (typed s o u.0 u.1 v k) in
            value-told l.type l.agrees y (all-holds (is_of true env.types l.type) (items_of v) y l.typed i);
      }

-- ---- the part with a term

party-asked : (s : Supply) (g : Names Ty) (e f : Ex) → partition_party (partitioned_second e) e ≡ Some f → (env : Env) →
    AtHand s g party_by_number e env → PartitionsAtHand s party_by_number e env → Meets e env → PartyAsks (partitioned_second e) e env
party-asked s g (node_ex false (word Fun.Party)
    (more_exs a (more_exs (seen_ex (repr ReprKind.PartitionOccurrence no_reprs) (partition_dom ms es d) (m ∷ w ∷ []) js) no_exs))) f q env h
    k n =
    party-asks g ms es d m w js env k h.held h.positions false a h.sound.0 h.type h.is_typed n.1.0
party-asked s g _ f q env h k n = absent f q

-- ---- members that lie together

lying-asked : (s : Supply) (g : Names Ty) (a : Ex) (ms : List Mark) (es : Exs) (d : Dom) (m w : Text) (js : Exs) (env : Env) →
    AtHand s g lie_together (node_ex true (word Fun.Together) (more_exs a
    (more_exs (seen_ex (repr ReprKind.PartitionOccurrence no_reprs) (partition_dom ms es d) (m ∷ w ∷ []) js) no_exs))) env →
    PartitionsAtHand s lie_together (node_ex true (word Fun.Together) (more_exs a
    (more_exs (seen_ex (repr ReprKind.PartitionOccurrence no_reprs) (partition_dom ms es d) (m ∷ w ∷ []) js) no_exs))) env → (l : Bool) →
    Valued l (node_ex true (word Fun.Together) (more_exs a
    (more_exs (seen_ex (repr ReprKind.PartitionOccurrence no_reprs) (partition_dom ms es d) (m ∷ w ∷ []) js) no_exs))) env →
    Meets (node_ex true (word Fun.Together) (more_exs a
    (more_exs (seen_ex (repr ReprKind.PartitionOccurrence no_reprs) (partition_dom ms es d) (m ∷ w ∷ []) js) no_exs))) env →
    KindAsks s g lie_together (node_ex true (word Fun.Together) (more_exs a
    (more_exs (seen_ex (repr ReprKind.PartitionOccurrence no_reprs) (partition_dom ms es d) (m ∷ w ∷ []) js) no_exs))) env
lying-asked s g a ms es d m w js env h k l v n =
    let u = h.new in
    let i = u.1.0.0 in (
      k.1,
      bound-named (λ b. not (same_text s.one b)) (λ b. true) refl d i.1,
      values-along.operands l true (word Fun.Together)
          (more_exs a (more_exs (seen_ex (repr ReprKind.PartitionOccurrence no_reprs) (partition_dom ms es d) (m ∷ w ∷ []) js) no_exs)) env
          refl refl v,
      (
        numbers-enough ms es d (m ∷ w ∷ []) js env (partition-denoted ms es d env k.0) n.1.0,
        members-told g ms es d m w js env k.0 h.held h.positions true a h.sound.0 h.type h.is_typed,
      ),
    )

together-asked : (s : Supply) (g : Names Ty) (e f : Ex) → are_together s.one s.other (partitioned_second e) e ≡ Some f → (env : Env) →
    AtHand s g lie_together e env → PartitionsAtHand s lie_together e env → (l : Bool) → Valued l e env → Meets e env →
    KindAsks s g lie_together e env
together-asked s g (node_ex true (word Fun.Together) (more_exs (node_ex false set_literal no_exs)
    (more_exs (seen_ex (repr ReprKind.PartitionOccurrence no_reprs) (partition_dom ms es d) (m ∷ w ∷ []) js) no_exs))) f q env h k l v n =
    lying-asked s g (node_ex false set_literal no_exs) ms es d m w js env h k l v n
together-asked s g (node_ex true (word Fun.Together) (more_exs (node_ex false set_literal (more_exs a no_exs))
    (more_exs (seen_ex (repr ReprKind.PartitionOccurrence no_reprs) (partition_dom ms es d) (m ∷ w ∷ []) js) no_exs))) f q env h k l v n =
    lying-asked s g (node_ex false set_literal (more_exs a no_exs)) ms es d m w js env h k l v n
together-asked s g (node_ex true (word Fun.Together) (more_exs (node_ex false set_literal (more_exs a (more_exs b bs)))
    (more_exs (seen_ex (repr ReprKind.PartitionOccurrence no_reprs) (partition_dom ms es d) (m ∷ w ∷ []) js) no_exs))) f q env h k l v n =
    lying-asked s g (node_ex false set_literal (more_exs a (more_exs b bs))) ms es d m w js env h k l v n
together-asked s g (node_ex true (word Fun.Together) (more_exs a
    (more_exs (seen_ex (repr ReprKind.PartitionOccurrence no_reprs) (partition_dom ms es d) (m ∷ w ∷ []) js) no_exs))) f q env h k l v n =
    lying-asked s g a ms es d m w js env h k l v n
together-asked s g _ f q env h k l v n = absent f q

-- ---- each rule

asked : (s : Supply) (g : Names Ty) (r : KindRule) (e f : Ex) → kind_rewrite s g r e ≡ Some f → is_of_partitions r ≡ true →
    (env : Env) → AtHand s g r e env → PartitionsAtHand s r e env → (w : Bool) → Valued w e env → Meets e env → KindAsks s g r e env
asked s g member_of_a_part e f q i env h k w v m = h.new
asked s g size_of_the_parts e f q i env h k w v m = tt
asked s g lie_together e f q i env h k w v m = together-asked s g e f q env h k w v m
asked s g party_by_number e f q i env h k w v m = party-asked s g e f q env h k m
asked s g _ e f q i env h k w v m = no i

-- What is proved of them.
pub partition-rules-have : PartitionRulesHaveWhatTheyAsk
partition-rules-have = record {
  asked = asked;
  kept = λ s g r e f q i env h k w v m. kind-rules-keep.each s g r e f q env h.held (asked s g r e f q i env h k w v m) m;
}
