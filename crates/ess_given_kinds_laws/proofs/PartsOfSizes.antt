-- Sizes, frequencies and memberships of views, and what is asked of partitions, have what is wanted of the parts of a tree, where the terms
-- have it.
use Rattle.std.proofs.Common.{◌≡◌, Bool, true, false, [], ◌∷◌, Option}
use Rattle.std.specs.Prelude.{IsTrue}
use Rattle.ess_semantics.specs.declared.words.Op1.{Op1}
use Rattle.ess_semantics.specs.declared.words.Op2.{Op2}
use Rattle.ess_semantics.specs.declared.words.Fun.{Fun}
use Rattle.ess_semantics.specs.declared.words.ReprKind.{ReprKind}
use Rattle.ess_semantics.specs.Values.{Text}
use Rattle.ess_semantics.specs.Trees.{word, set_literal, repr, no_reprs, more_reprs, Ex, Exs, name_ex, node_ex, seen_ex, ex1, ex2, fun1, no_exs, more_exs, set_dom, mset_dom, function_dom, partition_dom}
use Rattle.ess_repr_declare_laws.specs.SizeTerms.{bound_ex}
use Rattle.ess_rules_laws.specs.SetSizes.{size_by_marker, size_by_slots}
use Rattle.ess_views_laws.specs.MultisetViews.{multiset_size, multiset_frequency, multiset_member}
use Rattle.ess_views_laws.specs.PartitionViews.{partition_party, number_of_parts, is_participant, have_number_of, are_together}
use Rattle.ess_kind_rules_laws.specs.ViewListings.{partitioned_second, slots_of_operand, members_of_first}
use Rattle.ess_kind_rules_laws.specs.KindRules.{function_size}
use Rattle.ess_given_laws.specs.PartsHave.{Wanted, PartsHave, AllHave}
use Rattle.ess_given_laws.specs.Given.{is_fixed}
use Rattle.ess_given_laws.proofs.PartsOfFolds.{Answers}
use Rattle.ess_given_offers_laws.specs.Seen.{Sees, OverDomains, OverAny}
use Rattle.ess_given_offers_laws.proofs.FixedSizes.{bound-fixed}
use Rattle.ess_given_offers_laws.proofs.SeenParts.{mset-inner, partition-inner, first-inner, slots-inner, seen-slots, seen-partitioned, last-has, numbering-has}
use Rattle.ess_given_offers_laws.proofs.PartsOfLookups.{one-of}

module _ (u : Text → Bool) (w : Wanted) (s : Sees w u) where
  abbrev A : Option Ex → Type 0
  A r = Answers w r

  abbrev F : Ex → Type 0
  F e = is_fixed u e ≡ true

  -- ---- sizes

  -- How many slots the operand has.
  pub operand-slots : (e : Ex) → PartsHave w e → F (slots_of_operand e)
  operand-slots (node_ex b op (more_exs v es)) h = seen-slots u w s v h.0
  operand-slots e h = seen-slots u w s e h

  -- How many members the partition has that is the second operand.
  pub second-members : (e : Ex) → PartsHave w e → F (partitioned_second e)
  second-members (node_ex b op (more_exs a (more_exs v es))) h = seen-partitioned u w s v h.1.0
  second-members e h = seen-partitioned u w s e h

  -- The marker, and the number of slots.
  pub marker-size : (e : Ex) → PartsHave w e → A (size_by_marker e)
  marker-size (ex1 false Op1.Bar (seen_ex (repr ReprKind.ExplicitVarSizeWithMarker (more_reprs r no_reprs)) (set_dom ms es d) (m ∷ ns)
      js)) h =
      (h.0.0.0, h.0.2)
  marker-size _ h = tt

  -- The number of slots.
  pub slots-size : (n : Ex) → F n → (e : Ex) → PartsHave w e → A (size_by_slots n e)
  slots-size n f (ex1 false Op1.Bar (seen_ex (repr ReprKind.Explicit (more_reprs r no_reprs)) (set_dom ms es d) ns js)) h = s.fixed n f
  slots-size n f _ h = tt

  -- The number of members of the first domain.
  pub function-size : (e : Ex) → PartsHave w e → A (function_size e)
  function-size (ex1 false Op1.Bar v) h = go v h.0
    where
      go : (v : Ex) → PartsHave w v → A (members_of_first v)
      go (seen_ex (repr ReprKind.Function1D rs) (function_dom ms es d c) ns js) k =
          s.fixed (bound_ex d) (bound-fixed u s.counts d (s.out d (first-inner u w s ms es d c k.1)))
      go (seen_ex (repr ReprKind.FunctionND rs) (function_dom ms es d c) ns js) k =
          s.fixed (bound_ex d) (bound-fixed u s.counts d (s.out d (first-inner u w s ms es d c k.1)))
      go _ k = tt
  function-size _ h = tt

  -- The number of parts.
  pub parts-size : (e : Ex) → PartsHave w e → A (number_of_parts e)
  parts-size (ex1 false Op1.Bar (fun1 false Fun.Parts
      (seen_ex (repr ReprKind.PartitionOccurrence no_reprs) (partition_dom ms es d) (m ∷ t ∷ []) js))) h = (h.0.0.0.0, h.0.0.2)
  parts-size _ h = tt

  -- ---- multisets

  module _ (x : Text) (o : OverDomains w x) where
    -- Sizes, frequencies and memberships of multisets.
    pub multiset-size : (n : Ex) → F n → (e : Ex) → PartsHave w e → A (multiset_size x n e)
    multiset-size n f (ex1 false Op1.Bar (seen_ex (repr ReprKind.MSetOccurrence no_reprs) (mset_dom ms es d) (t ∷ []) js)) h =
        (((h.0.0.0, last-has u w s js (name_ex x) h.0.2 o.0), (o.1, mset-inner u w s ms es d h.0.1, tt)), tt)
    multiset-size n f (ex1 false Op1.Bar
        (seen_ex (repr ReprKind.MSetExplicitWithRepetition (more_reprs r no_reprs)) (mset_dom ms es d) (m ∷ ns) js)) h = (h.0.0.0, h.0.2)
    multiset-size n f (ex1 false Op1.Bar
        (seen_ex (repr ReprKind.MSetExplicitWithFlags (more_reprs r no_reprs)) (mset_dom ms es d) (t ∷ ns) js)) h =
        (((h.0.0.0, last-has u w s js (name_ex x) h.0.2 o.0), (o.1, slots-inner u w s n f, tt)), tt)
    multiset-size n f _ h = tt

    -- Frequencies.
    pub multiset-frequency : (n : Ex) → F n → (e : Ex) → PartsHave w e → A (multiset_frequency x n e)
    multiset-frequency n f (node_ex false (word Fun.Freq)
        (more_exs (seen_ex (repr ReprKind.MSetOccurrence no_reprs) (mset_dom ms es d) (t ∷ []) js) (more_exs a no_exs))) h = (
          (
            (h.0.0.0, last-has u w s js (name_ex x) h.0.2 o.0),
            (o.1, mset-inner u w s ms es d h.0.1, ((o.0, (h.1.0, tt)), tt)),
          ),
          tt,
        )
    multiset-frequency n f (node_ex false (word Fun.Freq)
        (more_exs (seen_ex (repr ReprKind.MSetExplicitWithFlags (more_reprs r no_reprs)) (mset_dom ms es d) (t ∷ ns) js)
        (more_exs a no_exs))) h = let j = last-has u w s js (name_ex x) h.0.2 o.0 in (
          (
            (h.0.0.0, j),
            (
              o.1,
              slots-inner u w s n f,
              (((h.0.0.0, j), (tt, tt)), ((h.1.0, ((h.0.0.1, mset-inner u w s ms es d h.0.1, j), tt)), tt)),
            ),
          ),
          tt,
        )
    multiset-frequency n f _ h = tt

    -- Memberships.
    pub multiset-member : (e : Ex) → PartsHave w e → A (multiset_member x e)
    multiset-member (ex2 true Op2.Member a (seen_ex (repr ReprKind.MSetOccurrence no_reprs) (mset_dom ms es d) (t ∷ []) js)) h = (
      (
        ((h.1.0.0.0, last-has u w s js (name_ex x) h.1.0.2 o.0), (tt, tt)),
        (o.1, mset-inner u w s ms es d h.1.0.1, ((o.0, (h.0, tt)), tt)),
      ),
      tt,
    )
    multiset-member _ h = tt

    -- ---- partitions

    -- Members of partitions.
    pub participant-has : (e : Ex) → PartsHave w e → A (is_participant x e)
    participant-has (ex2 true Op2.Member a (fun1 false Fun.Participants
        (seen_ex (repr ReprKind.PartitionOccurrence no_reprs) (partition_dom ms es d) ns js))) h =
        one-of w u s x o d a (partition-inner u w s ms es d h.1.0.0.1) h.0
    participant-has _ h = tt

    numbers-have : (t : Text) → IsTrue (w.table t) → (js : Exs) → AllHave w js → (a : Ex) (es : Exs) → PartsHave w a → AllHave w es →
        PartsHave w (have_number_of t js a es)
    numbers-have t f js j a no_exs h k = tt
    numbers-have t f js j a (more_exs b no_exs) h k =
        ((f, last-has u w s js a j h), ((f, last-has u w s js b j k.0), tt))
    numbers-have t f js j a (more_exs b (more_exs c es)) h k = (
      ((f, last-has u w s js a j h), ((f, last-has u w s js b j k.0), tt)),
      (numbers-have t f js j a (more_exs c es) h k.1, tt),
    )

    -- Members that lie together.
    pub together-has : (y : Text) → OverAny w y → (n : Ex) → F n → (e : Ex) → PartsHave w e → A (are_together x y n e)
    together-has y q n f (node_ex true (word Fun.Together) (more_exs (node_ex false set_literal no_exs)
        (more_exs (seen_ex (repr ReprKind.PartitionOccurrence no_reprs) (partition_dom ms es d) (m ∷ t ∷ []) js) no_exs))) h =
        ((h.1.0.0.0, h.1.0.2), (tt, tt))
    together-has y q n f (node_ex true (word Fun.Together) (more_exs (node_ex false set_literal (more_exs a no_exs))
        (more_exs (seen_ex (repr ReprKind.PartitionOccurrence no_reprs) (partition_dom ms es d) (m ∷ t ∷ []) js) no_exs))) h =
        one-of w u s x o d a (partition-inner u w s ms es d h.1.0.1) h.0.0
    together-has y q n f (node_ex true (word Fun.Together) (more_exs (node_ex false set_literal (more_exs a (more_exs b bs)))
        (more_exs (seen_ex (repr ReprKind.PartitionOccurrence no_reprs) (partition_dom ms es d) (m ∷ t ∷ []) js) no_exs))) h =
        numbers-have t h.1.0.0.1.0 js h.1.0.2 a (more_exs b bs) h.0.0 h.0.1
    together-has y q n f (node_ex true (word Fun.Together) (more_exs z
        (more_exs (seen_ex (repr ReprKind.PartitionOccurrence no_reprs) (partition_dom ms es d) (m ∷ t ∷ []) js) no_exs))) h = (
          (
            (
              (
                ((h.1.0.0.1.0, last-has u w s js (name_ex y) h.1.0.2 q.0.0), (o.0, tt)),
                (q.1 z, h.0, tt),
              ),
              tt,
            ),
            (o.1, slots-inner u w s n f, ((o.0, ((h.1.0.0.0, h.1.0.2), tt)), tt)),
          ),
          tt,
        )
    together-has y q n f _ h = tt

  -- The part of a member.
  pub party-has : (n : Ex) → F n → (e : Ex) → PartsHave w e → A (partition_party n e)
  party-has n f (node_ex false (word Fun.Party)
      (more_exs a (more_exs (seen_ex (repr ReprKind.PartitionOccurrence no_reprs) (partition_dom ms es d) (m ∷ t ∷ []) js) no_exs))) h = (
        numbering-has u w s n f d (partition-inner u w s ms es d h.1.0.1) t h.1.0.0.1.0 js h.1.0.2,
        ((h.1.0.0.1.0, last-has u w s js a h.1.0.2 h.0), tt),
      )
  party-has n f _ h = tt
