-- What lookups of items by their numbers count on follows from values.
use Rattle.std.proofs.Common.{◌≡◌, refl, subst, Bool, true, false, not, if◌then◌else◌, List, [], ◌∷◌, Option, Some, None}
use Rattle.std.specs.Prelude.{IsTrue, is_some}
use Rattle.ess_semantics.specs.Lists.{and_then}
use Rattle.ess_semantics.specs.Values.{Text}
use Rattle.ess_semantics.specs.Trees.{Step, by_value, index, Op, Ex, Exs, node_ex, comp_ex, no_exs, more_exs}
use Rattle.ess_semantics.specs.Contexts.{guards}
use Rattle.ess_semantics.specs.Meaning.{Env, meaning}
use Rattle.ess_rules_laws.specs.Rules.{Unused}
use Rattle.ess_rules_laws.specs.Listings.{Alternative}
use Rattle.ess_rules_laws.specs.AlternativeLookups.{FirstOperandThere, lookup_through_each}
use Rattle.ess_values_along_laws.specs.Valued.{Valued, AllValued}
use Rattle.ess_values_terms_laws.proofs.ValuedForms.{there}
use Rattle.ess_kind_rules_laws.specs.TermLookups.{picks, picked_within}
use Rattle.ess_kind_rules_laws.specs.KindRules.{asks_truth}
use Rattle.ess_kinds_kept_laws.specs.LookupAsks.{FitsWithin}
use Rattle.ess_open_counted_laws.proofs.LookupsCounted.{Plain, operands-plain, plain-there}
use Rattle.ess_ordered_laws.specs.NumberedItems.{numbered_lookup, ordered_lookup}
use Rattle.ess_ordered_laws.specs.Laws.{NumberedApart}
use Rattle.ess_ordered_kept_laws.specs.OrderedAsks.{OrderedLookupAsks}
use Rattle.ess_ordered_counted_laws.specs.OrderedCounted.{OrderedLookupBeside}

-- ---- indices

-- Whether the expression is an index of one step.
abbrev pub is_index : Ex → Bool
is_index (node_ex b (index (q ∷ [])) (more_exs t es)) = true
is_index e = false

-- An index neither guards, compares nor counts.
pub index-plain : (qs : List Step) → Plain (index qs)
index-plain qs = record { behind = refl; beside = refl; within = refl }

-- A lookup by numbers is of one.
pub ordered-index : (z : Text) (ys : List Text) (e : Ex) (l : List Alternative) → ordered_lookup z ys e ≡ Some l → is_index e ≡ true
ordered-index z [] e l q = cc
ordered-index z (y ∷ ys) e l q = go (picked_within e) refl q
  where
    within-index : (e t : Ex) → picked_within e ≡ Some t → is_index e ≡ true
    within-index (node_ex b (index (p ∷ [])) (more_exs t es)) u q = refl
    within-index _ u q = cc

    numbered-index : (e : Ex) → numbered_lookup z ys e ≡ Some l → is_index e ≡ true
    numbered-index (node_ex b (index (by_value ∷ [])) (more_exs (comp_ex x gs) (more_exs i no_exs))) q = refl
    numbered-index _ q = cc

    go : (o : Option Ex) → picked_within e ≡ o → elim o as (λ z. Option (List Alternative)) [
      | None ↦ numbered_lookup z ys e
      | Some t ↦ and_then (ordered_lookup z ys t) (λ l. lookup_through_each y 1 l e)
    ] ≡ Some l → is_index e ≡ true
    go None p q = numbered-index e q
    go (Some t) p q = within-index e t p

pub index-guards : (b : Bool) (op : Op) (es : Exs) → is_index (node_ex b op es) ≡ true → guards op ≡ false
index-guards b (index (q ∷ [])) (more_exs t es) i = refl
index-guards b _ es i = cc

module _ (env : Env) where
  -- It is there, unless it is read as Boolean.
  pub index-there : (w : Bool) (e : Ex) → is_index e ≡ true → not (asks_truth e) ≡ true → Valued w e env → IsTrue (is_some (meaning e env))
  index-there w (node_ex false (index (q ∷ [])) (more_exs t es)) i a v =
      plain-there env w (index (q ∷ [])) (more_exs t es) (index-plain (q ∷ [])) v
  index-there w (node_ex true (index (q ∷ [])) (more_exs t es)) i a v = cc
  index-there w _ i a v = cc

  -- What is picked within stands in no natural place.
  pub index-within : (w : Bool) (e t : Ex) → picked_within e ≡ Some t → Valued w e env → Valued false t env
  index-within w (node_ex b (index (s ∷ [])) (more_exs u es)) t q v =
      go (picks u) q (operands-plain env w b (index (s ∷ [])) (more_exs u es) (index-plain (s ∷ [])) v)
    where
      go : (c : Bool) → (if c then Some u else None) ≡ Some t → AllValued false false (more_exs u es) env → Valued false t env
      go true q h = subst (λ z. Valued false z env) (let e : u ≡ t = cc in e) h.0
      go false q h = cc
  index-within w _ t q v = cc

  pub index-first : (w : Bool) (e : Ex) → is_index e ≡ true → Valued w e env → FirstOperandThere e env
  index-first w (node_ex b (index (q ∷ [])) (more_exs t es)) i v =
      let h = operands-plain env w b (index (q ∷ [])) (more_exs t es) (index-plain (q ∷ [])) v in there t env h.0
  index-first w _ i v = cc

  index-fits : (w : Bool) (t e : Ex) → is_index e ≡ true → not (asks_truth e) ≡ true → Valued w e env → FitsWithin t e env
  index-fits w t (node_ex false (index (q ∷ [])) (more_exs u es)) i a v =
      λ h. plain-there env w (index (q ∷ [])) (more_exs u es) (index-plain (q ∷ [])) v
  index-fits w t (node_ex true (index (q ∷ [])) (more_exs u es)) i a v = cc
  index-fits w t _ i a v = cc

  -- So the lookup has what it asks.
  pub ordered-asked : (z : Text) (ys : List Text) (e : Ex) (l : List Alternative) → ordered_lookup z ys e ≡ Some l →
      not (asks_truth e) ≡ true → (w : Bool) → Valued w e env → OrderedLookupBeside z ys e → OrderedLookupAsks z ys e env
  ordered-asked z [] e l q a w v c = tt
  ordered-asked z (y ∷ ys) e l q a w v c =
      go (picked_within e) refl q (ordered-index z (y ∷ ys) e l q) c (λ t l q a v c. ordered-asked z ys t l q a false v c)
    where
      go : (o : Option Ex) → picked_within e ≡ o → elim o as (λ z. Option (List Alternative)) [
        | None ↦ numbered_lookup z ys e
        | Some t ↦ and_then (ordered_lookup z ys t) (λ l. lookup_through_each y 1 l e)
      ] ≡ Some l → is_index e ≡ true → elim o as (λ z. Type 0) [
        | None ↦ NumberedApart z ys e
        | Some t ↦ Unused y e × IsTrue (not (asks_truth t)) × OrderedLookupBeside z ys t
      ] → ((t : Ex) (l : List Alternative) → ordered_lookup z ys t ≡ Some l → not (asks_truth t) ≡ true → Valued false t env →
          OrderedLookupBeside z ys t → OrderedLookupAsks z ys t env) → elim o as (λ z. Type 0) [
            | None ↦ NumberedApart z ys e × FirstOperandThere e env
            | Some t ↦ Unused y e × IsTrue (not (asks_truth t)) × FitsWithin t e env × OrderedLookupAsks z ys t env
          ]
      go None p q i c h = (c, index-first w e i v)
      go (Some t) p q i c h = inner (ordered_lookup z ys t) refl q
        where
          inner : (o : Option (List Alternative)) → ordered_lookup z ys t ≡ o → and_then o (λ l. lookup_through_each y 1 l e) ≡ Some l →
              Unused y e × IsTrue (not (asks_truth t)) × FitsWithin t e env × OrderedLookupAsks z ys t env
          inner None r q = cc
          inner (Some k) r q = (c.0, c.1, index-fits w t e i a v, h t k r c.1 (index-within w e t p v) c.2)
