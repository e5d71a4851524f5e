-- An item of a comprehension over a source by numbers keeps its type and marks.
use Rattle.std.proofs.Common.{◌≡◌, refl, sym, ap, ◌∙◌, subst, Bool, true, false, if◌then◌else◌, [], ◌∷◌, Option, Some, None, option_map}
use Rattle.ess_semantics.specs.Lists.{and_then}
use Rattle.ess_semantics.specs.Values.{Text, a_matrix}
use Rattle.ess_semantics.specs.Names.{Names}
use Rattle.ess_semantics.specs.Trees.{by_value, index, name_pat, tuple_pat, Ex, name_ex, node_ex, comp_ex, no_exs, more_exs, Gens, no_gens, over, from, cond}
use Rattle.ess_semantics.specs.Types.{Ty, any_ty, int_ty, compound2}
use Rattle.ess_semantics.specs.OperatorTypes.{member_ty}
use Rattle.ess_semantics.specs.Typing.{Static, static, type_of_node, type_of}
use Rattle.ess_semantics.specs.NamesAt.{names_behind}
use Rattle.ess_rules_laws.specs.MatrixRules.{item_of}
use Rattle.ess_refine_laws.specs.IndexedLists.{of_matrix}
use Rattle.ess_refine_laws.specs.TypesStay.{KeepsType}
use Rattle.ess_refine_laws.specs.MarksStay.{MarkFits, HasMarks}
use Rattle.ess_refine_laws.specs.AllRules.{Supply}
use Rattle.ess_rules_types_laws.specs.TypesOfOthers.{has_indices}
use Rattle.ess_rules_marks_laws.proofs.Grows.{as_it_is, a_comp, no_gens_grow, grown}
use Rattle.ess_numbered_laws.specs.MostItems.{most_items}
use Rattle.ess_numbered_laws.specs.CountedSources.{is_counted, numbered_items, numbered_source, numbered_behind, within_an_item}
use Rattle.ess_numbered_laws.specs.NumberRules.{item_of_a_list}
use Rattle.ess_open_types_laws.proofs.TypesBehind.{KeepsBoth, BothKept}
use Rattle.ess_ordered_types_laws.proofs.SourcesTyped.{other-source, at-open}
use Rattle.ess_numbered_types_laws.specs.NumberedTyped.{CountedFits, FirstOpenFits, BindsNoTable, SourceBindsNone, FirstOpenBindsNone, NumberTyped, NumberMarked}
use Rattle.ess_numbered_types_laws.proofs.MostTyped.{most-marked}
use Rattle.ess_numbered_types_laws.proofs.CountsTyped.{Listed, item-typed, item-marked, marked-behind, numbers-under, numbers-grow}

-- ---- the items

module _ (h : Names Ty) (x z : Text) (u n : Ex) (v : Ty) (l : Listed h x u v) where
  items-typed : type_of (numbered_items x z u n v) h ≡ Some (compound2 a_matrix int_ty v)
  items-typed =
      ap (λ o. and_then o (λ k. option_map (compound2 a_matrix int_ty) (type_of (item_of v u (name_ex x)) k)))
      (numbers-under h x z n u v no_gens l)
      ∙ ap (option_map (compound2 a_matrix int_ty)) (item-typed h x u v l)

  items-marked : HasMarks n h → HasMarks u h → HasMarks (numbered_items x z u n v) h
  items-marked m k = grown h (numbered_items x z u n v)
      (a_comp (numbers-grow h x z n u no_gens m (marked-behind h x u v l k) no_gens_grow) (as_it_is (item-marked h x u v l k)))
      (compound2 a_matrix int_ty v) items-typed

  by-numbers : (P : Type 0) → (P → HasMarks u h → HasMarks n h) → (y : Text) (e : Ex) (hs : Gens) →
      KeepsBoth h P (comp_ex e (from (name_pat y) u hs)) (comp_ex e (from (name_pat y) (numbered_items x z u n v) hs))
  by-numbers P p y e hs = other-source h P y e u (numbered_items x z u n v) hs
      (λ m r. ap (λ o. and_then o member_ty) items-typed ∙ sym (ap (λ o. and_then o member_ty) l.typed) ∙ r) (λ a m. items-marked (p a m) m)

-- ---- the source

module _ (s : Supply) where
  -- At the first generator.
  by-number : (h : Names Ty) (e : Ex) (gs : Gens) → CountedFits s h gs →
      BothKept h (SourceBindsNone gs) (comp_ex e gs) (numbered_source s h (comp_ex e gs))
  by-number h e (from (name_pat y) u hs) k = when (is_counted s h u) (most_items s.third u) refl
    where
      P : Type 0
      P = BindsNoTable u

      typed : (n : Ex) → most_items s.third u ≡ Some n → (o : Option Ty) → type_of u h ≡ o → has_indices o int_ty ≡ true →
          BothKept h P (comp_ex e (from (name_pat y) u hs))
          (option_map (λ l. comp_ex e (from (name_pat y) l hs)) (of_matrix o (numbered_items s.one s.other u n)))
      typed n i (Some (compound2 a_matrix j v)) q a = by-numbers h s.one s.other u n v
          (record { axis = j; typed = q; new = k.0; by_numbers = a }) P
          (λ b m. most-marked s.third u n h (compound2 a_matrix j v) i q m b) y e hs
      typed n i _ q a = tt

      when : (c : Bool) (o : Option Ex) → most_items s.third u ≡ o → BothKept h P (comp_ex e (from (name_pat y) u hs))
          (option_map (λ l. comp_ex e (from (name_pat y) l hs))
          (if c then and_then o (λ n. of_matrix (type_of u h) (numbered_items s.one s.other u n)) else None))
      when false o i = tt
      when true None i = tt
      when true (Some n) i = typed n i (type_of u h) refl k.1
  by-number h e (from (tuple_pat ps) u hs) k = tt
  by-number h e no_gens k = tt
  by-number h e (over p d hs) k = tt
  by-number h e (cond c hs) k = tt

  -- At the first generator that isn't plain.
  pub by-numbers-behind : (g : Names Ty) (a : Ex) → FirstOpenFits s g a → BothKept g (FirstOpenBindsNone a) a (numbered_behind s g a)
  by-numbers-behind g (comp_ex e gs) h =
      at-open g (λ ks. numbered_source s (names_behind ks g)) (λ k. CountedFits s k) (λ k. SourceBindsNone) e gs
      (λ before after k. by-number (names_behind before g) e after k) h
  by-numbers-behind g _ h = tt

-- ---- the item

-- An index into what keeps its type and marks.
module _ (g : Names Ty) (P : Type 0) (b : Bool) (i : Ex) where
  at-index : (a c : Ex) → KeepsBoth g P a c → KeepsBoth g P (node_ex b (index (by_value ∷ [])) (more_exs a (more_exs i no_exs)))
      (node_ex b (index (by_value ∷ [])) (more_exs c (more_exs i no_exs)))
  at-index a c k = (typed, marked)
    where
      indexed : (o : Option Ty) (p : Static) (v : Ty) →
          type_of_node (index (by_value ∷ [])) (p ∷ static i ∷ []) (o ∷ type_of i g ∷ []) ≡ Some v →
          (t : Ty) × (o ≡ Some t)
          × ((q : Static) → type_of_node (index (by_value ∷ [])) (q ∷ static i ∷ []) (Some t ∷ type_of i g ∷ []) ≡ Some v)
      indexed None p v q = (any_ty, cc, λ r. cc)
      indexed (Some t) p v q = (t, refl, λ r. q)

      typed : KeepsType g (node_ex b (index (by_value ∷ [])) (more_exs a (more_exs i no_exs)))
          (node_ex b (index (by_value ∷ [])) (more_exs c (more_exs i no_exs)))
      typed v q =
          let r = indexed (type_of a g) (static a) v q in
          ap (λ o. type_of_node (index (by_value ∷ [])) (static c ∷ static i ∷ []) (o ∷ type_of i g ∷ [])) (k.0 r.0 r.1) ∙ r.2 (static c)

      marked : P → (v : Ty) → type_of (node_ex b (index (by_value ∷ [])) (more_exs a (more_exs i no_exs))) g ≡ Some v →
          HasMarks (node_ex b (index (by_value ∷ [])) (more_exs a (more_exs i no_exs))) g →
          HasMarks (node_ex b (index (by_value ∷ [])) (more_exs c (more_exs i no_exs))) g
      marked p v q m =
          let r = indexed (type_of a g) (static a) v q in
          (subst (λ o. MarkFits b (index (by_value ∷ [])) o) (q ∙ sym (typed v q)) m.0, (k.1 p r.0 r.1 m.1.0, m.1.1))

  -- So it is with an answer.
  pub at-index-of : (a : Ex) (o : Option Ex) → BothKept g P a o →
      BothKept g P (node_ex b (index (by_value ∷ [])) (more_exs a (more_exs i no_exs)))
      (option_map (λ c. node_ex b (index (by_value ∷ [])) (more_exs c (more_exs i no_exs))) o)
  at-index-of a None k = tt
  at-index-of a (Some c) k = at-index a c k

-- The rule of an item.
pub an-item : (s : Supply) (g : Names Ty) (e : Ex) → NumberTyped s g item_of_a_list e →
    BothKept g (NumberMarked s g item_of_a_list e) e (within_an_item s g e)
an-item s g (node_ex b (index (by_value ∷ [])) (more_exs a (more_exs i no_exs))) h =
    at-index-of g (FirstOpenBindsNone a) b i a (numbered_behind s g a) (by-numbers-behind s g a h)
an-item s g _ h = tt
