-- Sizes, frequencies and memberships of views, and what is asked of partitions, are in order where order counts, where the terms are.
use Rattle.std.proofs.Common.{refl, Bool, true, false, [], ◌∷◌, Option}
use Rattle.ess_semantics.specs.declared.words.Op1.{Op1}
use Rattle.ess_semantics.specs.declared.words.Op2.{Op2}
use Rattle.ess_semantics.specs.declared.words.Fun.{Fun}
use Rattle.ess_semantics.specs.declared.words.ReprKind.{ReprKind}
use Rattle.ess_semantics.specs.Values.{Text}
use Rattle.ess_semantics.specs.Trees.{word, set_literal, repr, no_reprs, more_reprs, Ex, Exs, name_ex, node_ex, seen_ex, ex1, ex2, fun1, no_exs, more_exs, set_dom, mset_dom, partition_dom}
use Rattle.ess_rules_laws.specs.SetSizes.{size_by_marker, size_by_slots}
use Rattle.ess_views_laws.specs.MultisetViews.{multiset_size, multiset_frequency, multiset_member}
use Rattle.ess_views_laws.specs.PartitionViews.{partition_party, number_of_parts, is_participant, have_number_of, are_together}
use Rattle.ess_given_order_laws.specs.InOrder.{Ordered, AllOrdered, InOrder}
use Rattle.ess_given_order_laws.proofs.OrderOfFolds.{Answered}
use Rattle.ess_given_order_laws.proofs.OrderOfListings.{nm}
use Rattle.ess_given_offers_laws.proofs.OrderOfViews.{last-order}
use Rattle.ess_given_offers_laws.proofs.OrderOfLookups.{one-of}

module _ (u : Text → Bool) where
  abbrev A : Option Ex → Type 0
  A r = Answered u r

  -- The marker, the number of slots, and the number of parts.
  pub marker-order : (e : Ex) → Ordered u e → A (size_by_marker e)
  marker-order (ex1 false Op1.Bar (seen_ex (repr ReprKind.ExplicitVarSizeWithMarker (more_reprs r no_reprs)) (set_dom ms es d) (m ∷ ns) js))
      h = (refl, h.0.1)
  marker-order _ h = tt

  -- The number of slots.
  pub slots-order : (n : Ex) → InOrder u n → (e : Ex) → A (size_by_slots n e)
  slots-order n f (ex1 false Op1.Bar (seen_ex (repr ReprKind.Explicit (more_reprs r no_reprs)) (set_dom ms es d) ns js)) = f
  slots-order n f _ = tt

  -- The number of parts.
  pub parts-order : (e : Ex) → Ordered u e → A (number_of_parts e)
  parts-order (ex1 false Op1.Bar (fun1 false Fun.Parts
      (seen_ex (repr ReprKind.PartitionOccurrence no_reprs) (partition_dom ms es d) (m ∷ t ∷ []) js))) h = (refl, h.0.1.0.1)
  parts-order _ h = tt

  -- ---- multisets

  module _ (x : Text) where
    -- Sizes, frequencies and memberships of multisets.
    pub multiset-size : (n : Ex) → (e : Ex) → Ordered u e → A (multiset_size x n e)
    multiset-size n (ex1 false Op1.Bar (seen_ex (repr ReprKind.MSetOccurrence no_reprs) (mset_dom ms es d) (t ∷ []) js)) h =
        (refl, (((refl, last-order u js (name_ex x) h.0.1 (nm u x)), tt), tt))
    multiset-size n (ex1 false Op1.Bar
        (seen_ex (repr ReprKind.MSetExplicitWithRepetition (more_reprs r no_reprs)) (mset_dom ms es d) (m ∷ ns) js)) h = (refl, h.0.1)
    multiset-size n (ex1 false Op1.Bar
        (seen_ex (repr ReprKind.MSetExplicitWithFlags (more_reprs r no_reprs)) (mset_dom ms es d) (t ∷ ns) js)) h =
        (refl, (((refl, last-order u js (name_ex x) h.0.1 (nm u x)), tt), tt))
    multiset-size n _ h = tt

    -- Frequencies.
    pub multiset-frequency : (n : Ex) → (e : Ex) → Ordered u e → A (multiset_frequency x n e)
    multiset-frequency n (node_ex false (word Fun.Freq)
        (more_exs (seen_ex (repr ReprKind.MSetOccurrence no_reprs) (mset_dom ms es d) (t ∷ []) js) (more_exs a no_exs))) h =
        (refl, (((refl, last-order u js (name_ex x) h.0.1 (nm u x)), ((refl, (nm u x, (h.1.0, tt))), tt)), tt))
    multiset-frequency n (node_ex false (word Fun.Freq)
        (more_exs (seen_ex (repr ReprKind.MSetExplicitWithFlags (more_reprs r no_reprs)) (mset_dom ms es d) (t ∷ ns) js)
        (more_exs a no_exs))) h = let j = last-order u js (name_ex x) h.0.1 (nm u x) in
        (refl, (((refl, j), ((refl, ((refl, j), ((refl, tt), tt))), ((refl, (h.1.0, ((refl, j), tt))), tt))), tt))
    multiset-frequency n _ h = tt

    -- Memberships.
    pub multiset-member : (e : Ex) → Ordered u e → A (multiset_member x e)
    multiset-member (ex2 true Op2.Member a (seen_ex (repr ReprKind.MSetOccurrence no_reprs) (mset_dom ms es d) (t ∷ []) js)) h = (
      refl,
      (((refl, ((refl, last-order u js (name_ex x) h.1.0.1 (nm u x)), ((refl, tt), tt))), ((refl, (nm u x, (h.0, tt))), tt)), tt),
    )
    multiset-member _ h = tt

    -- ---- partitions

    -- Members of partitions.
    pub participant-order : (e : Ex) → Ordered u e → A (is_participant x e)
    participant-order (ex2 true Op2.Member a (fun1 false Fun.Participants
        (seen_ex (repr ReprKind.PartitionOccurrence no_reprs) (partition_dom ms es d) ns js))) h = one-of u x d a h.0
    participant-order _ h = tt

    numbers-order : (t : Text) → (js : Exs) → AllOrdered u js false → (a : Ex) (es : Exs) → InOrder u a → AllOrdered u es false →
        InOrder u (have_number_of t js a es)
    numbers-order t js j a no_exs h k = (refl, tt)
    numbers-order t js j a (more_exs b no_exs) h k =
        (refl, ((refl, last-order u js a j h), ((refl, last-order u js b j k.0), tt)))
    numbers-order t js j a (more_exs b (more_exs c es)) h k = (
      refl,
      (
        (refl, ((refl, last-order u js a j h), ((refl, last-order u js b j k.0), tt))),
        (numbers-order t js j a (more_exs c es) h k.1, tt),
      ),
    )

    -- Members that lie together.
    pub together-order : (y : Text) → (n : Ex) → (e : Ex) → Ordered u e → A (are_together x y n e)
    together-order y n (node_ex true (word Fun.Together) (more_exs (node_ex false set_literal no_exs)
        (more_exs (seen_ex (repr ReprKind.PartitionOccurrence no_reprs) (partition_dom ms es d) (m ∷ t ∷ []) js) no_exs))) h =
        (refl, ((refl, h.1.0.1), ((refl, tt), tt)))
    together-order y n (node_ex true (word Fun.Together) (more_exs (node_ex false set_literal (more_exs a no_exs))
        (more_exs (seen_ex (repr ReprKind.PartitionOccurrence no_reprs) (partition_dom ms es d) (m ∷ t ∷ []) js) no_exs))) h =
        one-of u x d a h.0.1.0
    together-order y n (node_ex true (word Fun.Together) (more_exs (node_ex false set_literal (more_exs a (more_exs b bs)))
        (more_exs (seen_ex (repr ReprKind.PartitionOccurrence no_reprs) (partition_dom ms es d) (m ∷ t ∷ []) js) no_exs))) h =
        numbers-order t js h.1.0.1 a (more_exs b bs) h.0.1.0 h.0.1.1
    together-order y n (node_ex true (word Fun.Together) (more_exs z
        (more_exs (seen_ex (repr ReprKind.PartitionOccurrence no_reprs) (partition_dom ms es d) (m ∷ t ∷ []) js) no_exs))) h = (
          refl,
          (
            (
              (refl, (((refl, ((refl, last-order u js (name_ex y) h.1.0.1 (nm u y)), (nm u x, tt))), (h.0.1, tt)), tt)),
              ((refl, (nm u x, ((refl, h.1.0.1), tt))), tt),
            ),
            tt,
          ),
        )
    together-order y n _ h = tt

  -- The part of a member.
  pub party-order : (n : Ex) → (e : Ex) → Ordered u e → A (partition_party n e)
  party-order n (node_ex false (word Fun.Party)
      (more_exs a (more_exs (seen_ex (repr ReprKind.PartitionOccurrence no_reprs) (partition_dom ms es d) (m ∷ t ∷ []) js) no_exs))) h =
      (refl, ((refl, h.1.0.1), ((refl, last-order u js a h.1.0.1 h.0), tt)))
  party-order n _ h = tt
