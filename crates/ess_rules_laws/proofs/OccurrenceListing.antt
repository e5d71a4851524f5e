-- A view of a set kept as the members that occur lists the members of the set.
use Rattle.std.proofs.Common.{◌≡◌, refl, sym, ap, ◌∙◌, Bool, true, false, not, if◌then◌else◌, List, [], ◌∷◌, ◌++◌, map, ℤ, Option, Some, None, option_map}
use Rattle.std.specs.Prelude.{IsTrue, is_some}
use Rattle.ess_semantics.specs.declared.words.ReprKind.{ReprKind}
use Rattle.ess_semantics.specs.Lists.{and_then, all_some, is_some_and, list_or_none}
use Rattle.ess_semantics.specs.Values.{Text, a_set, Value, truth, node, of_list, items_of}
use Rattle.ess_semantics.specs.Order.{same_text}
use Rattle.ess_semantics.specs.Names.{look}
use Rattle.ess_semantics.specs.Trees.{Mark, Repr, repr, no_reprs, name_pat, Ex, Exs, name_ex, cell_ex, seen_ex, no_exs, more_exs, no_gens, over, cond, Dom, set_dom}
use Rattle.ess_semantics.specs.Domains.{Attribute, Domain, sets, members, member_list}
use Rattle.ess_semantics.specs.Membership.{member}
use Rattle.ess_semantics.specs.Operators.{as_truth}
use Rattle.ess_semantics.specs.Tables.{Table, cell_at, truth_of, code}
use Rattle.ess_semantics.specs.Cells.{cells_at}
use Rattle.ess_semantics.specs.Layers.{chosen}
use Rattle.ess_semantics.specs.Representations.{value_of_tables}
use Rattle.ess_semantics.specs.Declarations.{axes_of}
use Rattle.ess_semantics.specs.Tidy.{tidy, over_axes, is_orderly}
use Rattle.ess_semantics.specs.Meaning.{Env, meaning, meanings, collect, where_true, attributes_of, domain_of, members_in, indices, cell_in, cell_value, seen_in}
use Rattle.ess_semantics.specs.Meets.{Meets, tidy_in}
use Rattle.ess_semantics.specs.Substitution.{NamesAreExs}
use Rattle.ess_semantics.proofs.Tests.{and-left, and-right}
use Rattle.ess_semantics.proofs.Orders.{to_list-of_list}
use Rattle.ess_rules_laws.specs.Rules.{Unused}
use Rattle.ess_rules_laws.specs.Listings.{items_listed, Lists}
use Rattle.ess_rules_laws.specs.SetListings.{put_last, occurrence_listing, InnerThere, ListsWhereMet}
use Rattle.ess_rules_laws.proofs.RuleAnswers.{behind, meaning-behind, name-behind}
use Rattle.ess_rules_laws.proofs.ListedItems.{same-lists, alone-listed}

-- ---- index lists with one more index

-- The last index is the new name's value.
pub put-meanings : (x : Text) (v : Value) (js : Exs) (env : Env) → NamesAreExs (λ a. not (same_text x a)) (λ a. true) js →
    meanings (put_last js (name_ex x)) (behind x v env) ≡ meanings js env ++ (Some v ∷ [])
put-meanings x v no_exs env o = ap (λ z. z ∷ []) (name-behind x v env)
put-meanings x v (more_exs e es) env o =
    ap (λ z. z ∷ meanings (put_last es (name_ex x)) (behind x v env)) (meaning-behind x v e env o.0)
    ∙ ap (λ zs. meaning e env ∷ zs) (put-meanings x v es env o.1)

all-last : (os : List (Option Value)) (us : List Value) (v : Value) → all_some os ≡ Some us → all_some (os ++ (Some v ∷ [])) ≡ Some (us ++ (v ∷ []))
all-last [] [] v q = refl
all-last [] (u ∷ us) v q = cc
all-last (None ∷ os) us v q = cc
all-last (Some w ∷ os) us v q = go (all_some os) refl q (λ ws j. all-last os ws v j)
  where
    go : (z : Option (List Value)) → all_some os ≡ z → option_map (λ xs. w ∷ xs) z ≡ Some us →
        ((ws : List Value) → all_some os ≡ Some ws → all_some (os ++ (Some v ∷ [])) ≡ Some (ws ++ (v ∷ []))) →
        option_map (λ xs. w ∷ xs) (all_some (os ++ (Some v ∷ []))) ≡ Some (us ++ (v ∷ []))
    go None j q r = cc
    go (Some ws) j q r = ap (option_map (λ xs. w ∷ xs)) (r ws j) ∙ ap (λ zs. Some (zs ++ (v ∷ []))) (let e : w ∷ ws ≡ us = cc in e)

map-last : (us : List Value) (v : Value) → map code (us ++ (v ∷ [])) ≡ map code us ++ (code v ∷ [])
map-last [] v = refl
map-last (u ∷ us) v = ap (λ zs. code u ∷ zs) (map-last us v)

-- Its number stands behind the others.
pub last-index : (os : List (Option Value)) (i : List ℤ) (v : Value) → indices os ≡ Some i → indices (os ++ (Some v ∷ [])) ≡ Some (i ++ (code v ∷ []))
last-index os i v q = go (all_some os) refl q
  where
    go : (z : Option (List Value)) → all_some os ≡ z → option_map (map code) z ≡ Some i → indices (os ++ (Some v ∷ [])) ≡ Some (i ++ (code v ∷ []))
    go None j q = cc
    go (Some us) j q = ap (option_map (map code)) (all-last os us v j)
        ∙ ap Some (map-last us v ∙ ap (λ zs. zs ++ (code v ∷ [])) (let e : map code us ≡ i = cc in e))

-- ---- chosen members

-- The value where its cell is true.
abbrev Where1 : Option ℤ → Value → Option (List Value)
Where1 o v = where_true (Some (truth (as_truth (option_map (cell_value true) o)))) (λ u. Some (v ∷ []))

collect-chosen : (F : Value → Option ℤ) (G : Value → Option (List Value)) → ((v : Value) → G v ≡ Where1 (F v) v) → (xs ys : List Value) → chosen xs F ≡ Some ys → collect xs G ≡ Some ys
collect-chosen F G h [] ys q = q
collect-chosen F G h (x ∷ xs) ys q = go (F x) refl q (collect-chosen F G h xs)
  where
    Rest : Option (List Value) → Bool → Option (List Value)
    Rest c b = option_map (λ zs. if b then x ∷ zs else zs) c

    at-bit : (n : ℤ) (b : Bool) → F x ≡ Some n → truth_of n ≡ Some b → G x ≡ where_true (Some (truth b)) (λ u. Some (x ∷ []))
    at-bit n b p t = h x ∙ ap (λ o. Where1 o x) p
        ∙ ap (λ o. where_true (Some (truth (elim o [ Some b ↦ b | None ↦ false ]))) (λ u. Some (x ∷ []))) t

    last : (n : ℤ) (b : Bool) (c : Option (List Value)) → F x ≡ Some n → truth_of n ≡ Some b → chosen xs F ≡ c → Rest c b ≡ Some ys →
        ((zs : List Value) → chosen xs F ≡ Some zs → collect xs G ≡ Some zs) → and_then (G x) (λ us. option_map (λ ys. us ++ ys) (collect xs G)) ≡ Some ys
    last n b None p t c q r = cc
    last n true (Some zs) p t c q r =
        ap (λ o. and_then o (λ us. option_map (λ ys. us ++ ys) (collect xs G))) (at-bit n true p t) ∙ ap (option_map (λ ys. x ∷ ys)) (r zs c) ∙ q
    last n false (Some zs) p t c q r =
        ap (λ o. and_then o (λ us. option_map (λ ys. us ++ ys) (collect xs G))) (at-bit n false p t) ∙ ap (option_map (λ ys. ys)) (r zs c) ∙ q

    bit : (n : ℤ) (o : Option Bool) → F x ≡ Some n → truth_of n ≡ o → and_then o (Rest (chosen xs F)) ≡ Some ys →
        ((zs : List Value) → chosen xs F ≡ Some zs → collect xs G ≡ Some zs) → and_then (G x) (λ us. option_map (λ ys. us ++ ys) (collect xs G)) ≡ Some ys
    bit n None p t q r = cc
    bit n (Some b) p t q r = last n b (chosen xs F) p t refl q r

    go : (o : Option ℤ) → F x ≡ o → and_then (and_then o truth_of) (Rest (chosen xs F)) ≡ Some ys →
        ((zs : List Value) → chosen xs F ≡ Some zs → collect xs G ≡ Some zs) → and_then (G x) (λ us. option_map (λ ys. us ++ ys) (collect xs G)) ≡ Some ys
    go None p q r = cc
    go (Some n) p q r = bit n (truth_of n) p refl q r

-- ---- the view

-- What false is true of.
no : {A : Type 0} → false ≡ true → A
no h = cc

abbrev occurrence : Repr
occurrence = repr ReprKind.Occurrence no_reprs

-- Tidy tables choose members, which are the value.
stands : (ks : List Attribute) (d : Domain) (t : Table) (i : List ℤ) → IsTrue (tidy occurrence (sets ks d) (t ∷ []) i) →
    (ys : List Value) × (chosen (member_list d) (λ x. cell_at t (i ++ (code x ∷ []))) ≡ Some ys) × (value_of_tables occurrence (sets ks d) (t ∷ []) i ≡ Some (node a_set (of_list ys)))
stands ks d t i h = go (chosen (member_list d) (λ x. cell_at t (i ++ (code x ∷ [])))) refl
    (and-left _ (is_orderly occurrence (sets ks d) (cells_at (t ∷ []) i)) (and-right (over_axes i (axes_of occurrence (sets ks d)) (t ∷ [])) _ h))
  where
    set_value : List Value → Value
    set_value xs = node a_set (of_list xs)

    go : (c : Option (List Value)) → chosen (member_list d) (λ x. cell_at t (i ++ (code x ∷ []))) ≡ c →
        is_some_and (option_map set_value (chosen (member_list d) (λ x. cell_at t (i ++ (code x ∷ []))))) (member (sets ks d)) ≡ true →
        (ys : List Value) × (chosen (member_list d) (λ x. cell_at t (i ++ (code x ∷ []))) ≡ Some ys) × (value_of_tables occurrence (sets ks d) (t ∷ []) i ≡ Some (node a_set (of_list ys)))
    go None q h = let z : false ≡ true = sym (ap (λ c. is_some_and (option_map set_value c) (member (sets ks d))) q) ∙ h in no z
    go (Some ys) q h = (ys, q, ap (option_map set_value) q)

module _ (x : Text) (ms : List Mark) (es js : Exs) (d : Dom) (n : Text) (env : Env) (new : NamesAreExs (λ a. not (same_text x a)) (λ a. true) js) where
  abbrev View : Ex
  View = seen_ex occurrence (set_dom ms es d) (n ∷ []) js

  abbrev Cell : Ex
  Cell = cell_ex true n (put_last js (name_ex x))

  abbrev At : Value → Option (List Value)
  At v = where_true (meaning Cell (behind x v env)) (λ u. option_map (λ w. w ∷ []) (meaning (name_ex x) (behind x v env)))

  at-member : (t : Table) (i : List ℤ) → look env.cells n ≡ Some t → indices (meanings js env) ≡ Some i → (v : Value) → At v ≡ Where1 (cell_at t (i ++ (code v ∷ []))) v
  at-member t i p q v =
      ap (λ o. where_true (Some (truth (as_truth (cell_in true o (indices (meanings (put_last js (name_ex x)) (behind x v env))))))) (λ u. option_map (λ w. w ∷ []) (meaning (name_ex x) (behind x v env)))) p
      ∙ ap (λ o. where_true (Some (truth (as_truth (cell_in true (Some t) o)))) (λ u. option_map (λ w. w ∷ []) (meaning (name_ex x) (behind x v env)))) (ap indices (put-meanings x v js env new) ∙ last-index (meanings js env) i v q)
      ∙ ap (λ o. where_true (Some (truth (as_truth (option_map (cell_value true) (cell_at t (i ++ (code v ∷ []))))))) (λ u. option_map (λ w. w ∷ []) o)) (name-behind x v env)

  -- The parts of the view that are there.
  pub listed : (a : Option (List Attribute)) (e : Option Domain) (t : Option Table) (i : Option (List ℤ)) → attributes_of ms (meanings es env) ≡ a → domain_of d env ≡ e → look env.cells n ≡ t →
      indices (meanings js env) ≡ i → IsTrue (tidy_in occurrence (and_then a (λ ks. option_map (sets ks) e)) (and_then t (λ z. Some (z ∷ []))) i) → IsTrue (is_some (members_in e)) →
      option_map items_of (seen_in occurrence (and_then a (λ ks. option_map (sets ks) e)) (and_then t (λ z. Some (z ∷ []))) i) ≡ and_then (members_in e) (λ vs. collect vs At)
  listed (Some ks) (Some e) (Some t) (Some i) p q r s h m = go (members e) refl m
    where
      go : (o : Option (List Value)) → members e ≡ o → IsTrue (is_some o) → option_map items_of (value_of_tables occurrence (sets ks e) (t ∷ []) i) ≡ and_then (members e) (λ vs. collect vs At)
      go None j m = no m
      go (Some vs) j m = let y = stands ks e t i h in
          ap (option_map items_of) y.2 ∙ ap Some (to_list-of_list y.0)
          ∙ sym (ap (λ o. and_then o (λ vs. collect vs At)) j ∙ collect-chosen (λ v. cell_at t (i ++ (code v ∷ []))) At (at-member t i r s) vs y.0
          (sym (ap (λ o. chosen (list_or_none o) (λ x. cell_at t (i ++ (code x ∷ [])))) j) ∙ y.1))
  listed (Some ks) (Some e) (Some t) None p q r s h m = no h
  listed (Some ks) (Some e) None i p q r s h m = no h
  listed (Some ks) None t i p q r s h m = no h
  listed None e t i p q r s h m = no h

  view-lists : Meets View env → IsTrue (is_some (members_in (domain_of d env))) → Lists View (record { gens = over (name_pat x) d (cond Cell no_gens); item = name_ex x } ∷ []) env
  view-lists m h = same-lists _ _
      (listed (attributes_of ms (meanings es env)) (domain_of d env) (look env.cells n) (indices (meanings js env)) refl refl refl refl m.0 h
      ∙ sym (alone-listed (items_listed (record { gens = over (name_pat x) d (cond Cell no_gens); item = name_ex x }) env)))

-- Sets kept as the members that occur.
pub occurrences-listed : (x : Text) (e : Ex) (env : Env) → Unused x e → Meets e env → InnerThere e env → ListsWhereMet (occurrence_listing x e) e env
occurrences-listed x (seen_ex (repr ReprKind.Occurrence no_reprs) (set_dom ms es d) (n ∷ []) js) env o m h = view-lists x ms es js d n env o.1 m h
occurrences-listed x _ env o m h = tt
