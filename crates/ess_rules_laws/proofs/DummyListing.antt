-- A view of a set in slots with a dummy offers the atoms in the slots that don't hold the dummy.
use Rattle.std.proofs.Common.{◌≡◌, refl, sym, ap, ◌∙◌, ℕ, ◌≤◌, true, false, not, List, [], ◌∷◌, ◌++◌, map, filter, ℤ, pos, Option, Some, None, option_map, arith}
use Rattle.std.specs.Prelude.{IsTrue}
use Rattle.std.specs.List.{list_all}
use Rattle.ess_semantics.specs.declared.words.Op2.{Op2}
use Rattle.ess_semantics.specs.declared.words.ReprKind.{ReprKind}
use Rattle.ess_semantics.specs.Lists.{and_then, each_of, append_all, is_some_and}
use Rattle.ess_semantics.specs.Values.{Text, Value, number, truth, itself}
use Rattle.ess_semantics.specs.Order.{same, same_text}
use Rattle.ess_semantics.specs.Collections.{no_twice, set_of, sorted_once}
use Rattle.ess_semantics.specs.Names.{look}
use Rattle.ess_semantics.specs.Numbers.{one_to}
use Rattle.ess_semantics.specs.Trees.{binary, Mark, Repr, repr, no_reprs, name_pat, Ex, Exs, name_ex, cell_ex, seen_ex, ex2, no_gens, over, cond, Dom, set_dom}
use Rattle.ess_semantics.specs.Domains.{Attribute, Domain, sets}
use Rattle.ess_semantics.specs.Membership.{member}
use Rattle.ess_semantics.specs.Operators.{value_of_node, false_where_undefined}
use Rattle.ess_semantics.specs.Tables.{Table, cell_at, atom_value}
use Rattle.ess_semantics.specs.Cells.{Grid, cells_at}
use Rattle.ess_semantics.specs.SetLayers.{dummy_of, but_dummy, dummies_last, set_in_slots, ends_in_dummies}
use Rattle.ess_semantics.specs.Sizes.{slots_of_set}
use Rattle.ess_semantics.specs.Declarations.{axes_of}
use Rattle.ess_semantics.specs.Tidy.{is_orderly, over_axes, tidy}
use Rattle.ess_semantics.specs.Meaning.{Env, meaning, meanings, attributes_of, domain_of, indices, tables_in, cell_value, cell_in, seen_in}
use Rattle.ess_semantics.specs.Meets.{Meets, MeetsAll, MeetsDom, tidy_in}
use Rattle.ess_semantics.specs.Substitution.{NamesAreExs, NamesAreDom}
use Rattle.ess_semantics.proofs.Tests.{and-left, and-right}
use Rattle.ess_semantics.proofs.Orders.{to_list-of_list}
use Rattle.ess_semantics.proofs.Sorting.{all-sorted_once}
use Rattle.ess_rules_laws.specs.Rules.{Unused}
use Rattle.ess_rules_laws.specs.Listings.{Alternative}
use Rattle.ess_rules_laws.specs.SetListings.{put_last}
use Rattle.ess_rules_laws.specs.ListedSources.{Offers}
use Rattle.ess_rules_laws.specs.SlotListings.{slots_dom, SlotsAre, OffersWhereMet}
use Rattle.ess_rules_laws.specs.DummyListings.{dummy_listing, DummyIs}
use Rattle.ess_rules_laws.proofs.RuleAnswers.{behind, meaning-behind, meets-behind}
use Rattle.ess_rules_laws.proofs.OccurrenceListing.{put-meanings, last-index}
use Rattle.ess_rules_laws.proofs.TablesOfViews.{over-behind}
use Rattle.ess_rules_laws.proofs.SlotNumbers.{as_place}
use Rattle.ess_rules_laws.proofs.SlotSets.{In}
use Rattle.ess_rules_laws.proofs.ExplicitListing.{last-met}
use Rattle.ess_rules_laws.proofs.UsedSlots.{used-offers}
use Rattle.ess_rules_laws.proofs.DummySlots.{atom, atom-value, slots-orderly, atom-axes, holds_other, members-stand, members-differ}

no : {A : Type 0} → false ≡ true → A
no h = cc

-- ---- what stands in the slots

module _ (ks : List Attribute) (d : Domain) (t : Table) (i : List ℤ) where
  abbrev pub Slots : ℕ
  Slots = slots_of_set ks d

  abbrev pub Cells-at : Grid
  Cells-at js = cell_at t (i ++ js)

  abbrev pub Dummied : Repr
  Dummied = repr ReprKind.ExplicitVarSizeWithDummy no_reprs

  -- The members vs, which stand in the slots that don't hold the dummy.
  pub record DummyStands : Type 0 where
    pub dummy : ℤ
    pub vs : List Value
    pub dummy_is : dummy_of d ≡ Some dummy
    pub values : (V : List ℤ → Option Value) → ((k : ℤ) → V (k ∷ []) ≡ and_then (Cells-at (k ∷ [])) (atom_value d)) →
        each_of (map as_place (filter (holds_other d dummy Cells-at) (one_to Slots))) V ≡ Some vs
    pub is_value : and_then (dummy_of d) (λ m. set_in_slots Slots d m Cells-at) ≡ Some (set_of vs)
    pub members : list_all (member d) vs ≡ true
    pub differ : no_twice itself vs ≡ true

  dummy-stands : tidy Dummied (sets ks d) (t ∷ []) i ≡ true → DummyStands
  dummy-stands h = go (dummy_of d) refl (and-left _ (is_orderly Dummied (sets ks d) (cells_at (t ∷ []) i)) (and-right _ _ h))
      (and-left _ _ (and-left _ _ (and-right _ (is_orderly Dummied (sets ks d) (cells_at (t ∷ []) i)) (and-right _ _ h))))
    where
      at : (m : ℤ) → dummy_of d ≡ Some m → (o : Option (List (List Value))) →
          each_of (one_to Slots) (λ k. and_then (Cells-at (k ∷ [])) (but_dummy d m)) ≡ o →
          (p : Option (List ℤ)) → each_of (one_to Slots) (λ k. Cells-at (k ∷ [])) ≡ p →
          is_some_and (option_map (λ ls. set_of (append_all ls)) o) (member (sets ks d)) ≡ true → is_some_and p (dummies_last m) ≡ true →
          DummyStands
      at m q None e p f a b = no a
      at m q (Some ls) e None f a b = no b
      at m q (Some ls) e (Some zs) f a b = record {
        dummy = m;
        vs = append_all ls;
        dummy_is = q;
        values = λ V v. members-stand d m Cells-at V v (one_to Slots) ls e;
        is_value = ap (λ o. and_then o (λ m. set_in_slots Slots d m Cells-at)) q ∙ ap (option_map (λ ls. set_of (append_all ls))) e;
        members = sym (ap (list_all (member d)) (to_list-of_list (sorted_once (append_all ls)))
            ∙ all-sorted_once (member d) (append_all ls))
            ∙ and-right _ _ (and-left _ _ a);
        differ = members-differ d m Cells-at (one_to Slots) zs ls f e b;
      }

      go : (o : Option ℤ) → dummy_of d ≡ o →
          is_some_and (and_then (dummy_of d) (λ m. set_in_slots Slots d m Cells-at)) (member (sets ks d)) ≡ true →
          is_some_and (dummy_of d) (λ m. ends_in_dummies Slots m Cells-at) ≡ true → DummyStands
      go None q a b = no (sym (ap (λ o. is_some_and (and_then o (λ m. set_in_slots Slots d m Cells-at)) (member (sets ks d))) q) ∙ a)
      go (Some m) q a b = at m q (each_of (one_to Slots) (λ k. and_then (Cells-at (k ∷ [])) (but_dummy d m))) refl
          (each_of (one_to Slots) (λ k. Cells-at (k ∷ []))) refl
          (sym (ap (λ o. is_some_and (and_then o (λ m. set_in_slots Slots d m Cells-at)) (member (sets ks d))) q) ∙ a)
          (sym (ap (λ o. is_some_and o (λ m. ends_in_dummies Slots m Cells-at)) q) ∙ b)

-- ---- the view

module _ (x : Text) (n m : Ex) (ms : List Mark) (es js : Exs) (dd : Dom) (name : Text) (env : Env)
    (new-d : NamesAreDom (λ a. not (same_text x a)) (λ a. true) dd) (new-js : NamesAreExs (λ a. not (same_text x a)) (λ a. true) js)
    (new-m : Unused x m) where
  abbrev R : Repr
  R = repr ReprKind.ExplicitVarSizeWithDummy no_reprs

  abbrev View : Ex
  View = seen_ex R (set_dom ms es dd) (name ∷ []) js

  abbrev Test : Ex
  Test = ex2 true Op2.Ne (cell_ex false name (put_last js (name_ex x))) m

  abbrev Listing : Alternative
  Listing = record {
    gens = over (name_pat x) (slots_dom n) (cond Test no_gens);
    item = seen_ex (repr ReprKind.Atom no_reprs) dd (name ∷ []) (put_last js (name_ex x));
  }

  module _ (ks : List Attribute) (d : Domain) (t : Table) (i : List ℤ) (attributes-are : attributes_of ms (meanings es env) ≡ Some ks)
      (dom-is : domain_of dd env ≡ Some d) (table-is : look env.cells name ≡ Some t) (index-is : indices (meanings js env) ≡ Some i)
      (h : tidy R (sets ks d) (t ∷ []) i ≡ true) (n-is : meaning n env ≡ Some (number (pos (slots_of_set ks d)))) where
    tables-are : tables_in env.cells (name ∷ []) ≡ Some (t ∷ [])
    tables-are = ap (λ o. and_then o (λ t. option_map (λ us. t ∷ us) (Some []))) table-is

    -- A test at a number says whether its slot holds another number than the dummy.
    says : (s : DummyStands ks d t i) → meaning m env ≡ Some (number s.dummy) → (k : ℤ) →
        meaning Test (behind x (number k) env) ≡ Some (truth (holds_other d s.dummy (Cells-at ks d t i) k))
    says s q k =
        ap (λ o. false_where_undefined true (value_of_node (binary Op2.Ne) (meaning (cell_ex false name (put_last js (name_ex x)))
        (behind x (number k) env) ∷ o ∷ []))) (meaning-behind x (number k) m env new-m ∙ q)
        ∙ ap (λ o. false_where_undefined true (value_of_node (binary Op2.Ne)
        (cell_in false o (indices (meanings (put_last js (name_ex x)) (behind x (number k) env))) ∷ Some (number s.dummy) ∷ []))) table-is
        ∙ ap (λ o. false_where_undefined true (value_of_node (binary Op2.Ne) (cell_in false (Some t) o ∷ Some (number s.dummy) ∷ [])))
        (ap indices (put-meanings x (number k) js env new-js) ∙ last-index (meanings js env) i (number k) index-is)
        ∙ go (cell_at t (i ++ (k ∷ [])))
      where
        go : (o : Option ℤ) →
            false_where_undefined true (value_of_node (binary Op2.Ne) (option_map (cell_value false) o ∷ Some (number s.dummy) ∷ [])) ≡
            Some (truth (is_some_and o (λ z. not (same (number z) (number s.dummy)))))
        go None = refl
        go (Some z) = refl

    view-is : (s : DummyStands ks d t i) → meaning View env ≡ Some (set_of s.vs)
    view-is s =
        ap (λ o. seen_in R (and_then o (λ ks. option_map (sets ks) (domain_of dd env))) (tables_in env.cells (name ∷ []))
        (indices (meanings js env))) attributes-are
        ∙ ap (λ o. seen_in R (option_map (sets ks) o) (tables_in env.cells (name ∷ [])) (indices (meanings js env))) dom-is
        ∙ ap (λ o. seen_in R (Some (sets ks d)) o (indices (meanings js env))) tables-are
        ∙ ap (seen_in R (Some (sets ks d)) (Some (t ∷ []))) index-is
        ∙ s.is_value

    over-slots : (s : DummyStands ks d t i) (k : ℤ) → over_axes (i ++ (k ∷ [])) (axes_of atom d) (t ∷ []) ≡ true
    over-slots s k = ap (λ z. over_axes (i ++ (k ∷ [])) z (t ∷ [])) (atom-axes d s.dummy s.dummy_is)
        ∙ over-behind i k (one_to (slots_of_set ks d)) (record { axes = []; cell = d } ∷ []) (t ∷ []) (and-left _ _ h)

    dummy-offers : (s : DummyStands ks d t i) → meaning m env ≡ Some (number s.dummy) → MeetsDom dd env → MeetsAll false js env →
        Meets n env →
        Meets m env → Offers View (Listing ∷ []) env
    dummy-offers s q md mj mn mm = used-offers x n Test dd (name ∷ []) js atom env d (t ∷ []) i new-d new-js dom-is tables-are index-is
        (slots_of_set ks d) n-is (let e : 1 ≤ 1 = omega arith in e) (over-slots s)
        (holds_other d s.dummy (Cells-at ks d t i)) (says s q) s.vs
        (s.values (In atom d (cells_at (t ∷ []) i)) (λ k. atom-value d s.dummy (λ js. cell_at t (i ++ (k ∷ js))) s.dummy_is))
        s.members s.differ
        (slots-orderly d s.dummy (cells_at (t ∷ []) i)
        (map as_place (filter (holds_other d s.dummy (Cells-at ks d t i)) (one_to (slots_of_set ks d)))) s.dummy_is)
        View (view-is s)
        (λ k. (last-met x (number k) js env new-js mj, (meets-behind x (number k) m env new-m mm, tt))) md mj mn

  listed : (a : Option (List Attribute)) (e : Option Domain) (o : Option Table) (i : Option (List ℤ)) →
      attributes_of ms (meanings es env) ≡ a → domain_of dd env ≡ e →
      look env.cells name ≡ o → indices (meanings js env) ≡ i →
      IsTrue (tidy_in R (and_then a (λ ks. option_map (sets ks) e)) (and_then o (λ z. option_map (λ us. z ∷ us) (Some []))) i) →
      MeetsDom dd env → MeetsAll false js env →
      SlotsAre n View env → DummyIs m View env → Offers View (Listing ∷ []) env
  listed (Some ks) (Some d) (Some t) (Some i) p q z w h md mj c e = let s = dummy-stands ks d t i h in
      dummy-offers ks d t i p q z w h (c.counts ks d (ap (λ o. and_then o (λ ks. option_map (sets ks) (domain_of dd env))) p
      ∙ ap (option_map (sets ks)) q)) s (e.marks d s.dummy q s.dummy_is) md mj c.met e.met
  listed (Some ks) (Some d) (Some t) None p q z w h md mj c e = no h
  listed (Some ks) (Some d) None i p q z w h md mj c e = no h
  listed (Some ks) None o i p q z w h md mj c e = no h
  listed None d o i p q z w h md mj c e = no h

-- Sets in slots with a dummy.
pub dummy-listed : (x : Text) (n m e : Ex) (env : Env) → Unused x e → Unused x m → Meets e env → SlotsAre n e env → DummyIs m e env →
    OffersWhereMet (dummy_listing x n m e) e env
dummy-listed x n m (seen_ex (repr ReprKind.ExplicitVarSizeWithDummy no_reprs) (set_dom ms es d) (t ∷ []) js) env o u a c e =
    listed x n m ms es js d t env o.0.1 o.1 u (attributes_of ms (meanings es env)) (domain_of d env) (look env.cells t)
    (indices (meanings js env)) refl refl refl refl a.0 a.1.1 a.2 c e
dummy-listed x n m _ env o u a c e = tt
