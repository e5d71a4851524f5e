-- A view of a set in slots with flags offers the views in the slots whose flag is true.
use Rattle.std.proofs.Common.{◌≡◌, refl, sym, ap, ◌∙◌, ℕ, ◌≤◌, Bool, true, false, if◌then◌else◌, not, List, [], ◌∷◌, ◌++◌, map, filter, length, ℤ, pos, Option, Some, None, option_map, arith}
use Rattle.std.specs.Prelude.{IsTrue}
use Rattle.std.specs.List.{list_all}
use Rattle.ess_semantics.specs.declared.words.ReprKind.{ReprKind}
use Rattle.ess_semantics.specs.Lists.{and_then, each_of}
use Rattle.ess_semantics.specs.Values.{Text, number, truth}
use Rattle.ess_semantics.specs.Order.{same_text}
use Rattle.ess_semantics.specs.Collections.{set_of}
use Rattle.ess_semantics.specs.Names.{look}
use Rattle.ess_semantics.specs.Numbers.{one_to}
use Rattle.ess_semantics.specs.Attributes.{set_attributes_hold}
use Rattle.ess_semantics.specs.Trees.{Mark, Repr, repr, no_reprs, more_reprs, name_pat, Ex, Exs, name_ex, cell_ex, seen_ex, no_gens, over, cond, Dom, set_dom}
use Rattle.ess_semantics.specs.Domains.{Attribute, Domain, sets, booleans}
use Rattle.ess_semantics.specs.Operators.{as_truth}
use Rattle.ess_semantics.specs.Tables.{Table, Tables, cell_at, truth_of}
use Rattle.ess_semantics.specs.Cells.{cells_at}
use Rattle.ess_semantics.specs.Layers.{where_flagged, fixed_table, flags_table, count_true, own_row, chosen}
use Rattle.ess_semantics.specs.Sizes.{slots_of_set}
use Rattle.ess_semantics.specs.Representations.{width}
use Rattle.ess_semantics.specs.Declarations.{declarations_below, axes_of}
use Rattle.ess_semantics.specs.Tidy.{tidy, over_axes}
use Rattle.ess_semantics.specs.Meaning.{Env, meaning, meanings, attributes_of, domain_of, indices, tables_in, seen_in, cell_in, cell_value}
use Rattle.ess_semantics.specs.Meets.{Meets, MeetsAll, MeetsDom, tidy_in}
use Rattle.ess_semantics.specs.Substitution.{NamesAreExs, NamesAreDom}
use Rattle.ess_semantics.proofs.Tests.{and-left, and-right}
use Rattle.ess_rules_laws.specs.Rules.{Unused}
use Rattle.ess_rules_laws.specs.Listings.{Alternative}
use Rattle.ess_rules_laws.specs.SetListings.{put_last}
use Rattle.ess_rules_laws.specs.ListedSources.{Offers}
use Rattle.ess_rules_laws.specs.SlotListings.{slots_dom, flags_listing, SlotsAre, OffersWhereMet}
use Rattle.ess_rules_laws.proofs.RuleAnswers.{behind}
use Rattle.ess_rules_laws.proofs.OccurrenceListing.{put-meanings, last-index}
use Rattle.ess_rules_laws.proofs.TablesOfViews.{tables-short, axes-long, axes-same, over-behind, over-long}
use Rattle.ess_rules_laws.proofs.SlotNumbers.{as_place, slots-are}
use Rattle.ess_rules_laws.proofs.SlotSets.{In, orderly_in, SlotsStand, slots-stand}
use Rattle.ess_rules_laws.proofs.ExplicitListing.{last-met}
use Rattle.ess_rules_laws.proofs.UsedSlots.{used-offers}

no : {A : Type 0} → false ≡ true → A
no h = cc

-- Whether a cell is true.
abbrev is_flag : Option ℤ → Bool
is_flag o = as_truth (option_map (cell_value true) o)

-- The chosen places are those whose cell is true.
chosen-are : (f : List ℤ → Option ℤ) (ks : List ℤ) (js : List (List ℤ)) → chosen (map as_place ks) f ≡ Some js → js ≡
    map as_place (filter (λ k. is_flag (f (k ∷ []))) ks)
chosen-are f [] js q = sym (ap list_or q)
  where
    list_or : Option (List (List ℤ)) → List (List ℤ)
    list_or None = []
    list_or (Some xs) = xs
chosen-are f (k ∷ ks) js q = go (f (k ∷ [])) q (λ ls r. chosen-are f ks ls r)
  where
    t : ℤ → Bool
    t k = is_flag (f (k ∷ []))

    last : (b : Bool) (c : Option (List (List ℤ))) → chosen (map as_place ks) f ≡ c → option_map (λ ys. if b then (k ∷ []) ∷ ys else ys) c
        ≡ Some js →
        ((ls : List (List ℤ)) → chosen (map as_place ks) f ≡ Some ls → ls ≡ map as_place (filter (λ k. is_flag (f (k ∷ []))) ks)) →
        js ≡ map as_place (if b then k ∷ filter (λ k. is_flag (f (k ∷ []))) ks else filter (λ k. is_flag (f (k ∷ []))) ks)
    last b None p q r = cc
    last true (Some ls) p q r = sym (let e : (k ∷ []) ∷ ls ≡ js = cc in e) ∙ ap (λ l. (k ∷ []) ∷ l) (r ls p)
    last false (Some ls) p q r = sym (let e : ls ≡ js = cc in e) ∙ r ls p

    bit : (n : ℤ) (o : Option Bool) → truth_of n ≡ o →
        and_then o (λ b. option_map (λ ys. if b then (k ∷ []) ∷ ys else ys) (chosen (map as_place ks) f)) ≡ Some js →
        ((ls : List (List ℤ)) → chosen (map as_place ks) f ≡ Some ls → ls ≡ map as_place (filter (λ k. is_flag (f (k ∷ []))) ks)) →
        js ≡ map as_place (if is_flag (Some n) then k ∷ filter (λ k. is_flag (f (k ∷ []))) ks else filter (λ k. is_flag (f (k ∷ []))) ks)
    bit n None p q r = cc
    bit n (Some b) p q r = last b (chosen (map as_place ks) f) refl q r
        ∙ ap (λ c. map as_place (if c then k ∷ filter (λ k. is_flag (f (k ∷ []))) ks else filter (λ k. is_flag (f (k ∷ []))) ks))
        (sym (ap (λ o. elim o [ Some b ↦ b | None ↦ false ]) p))

    go : (o : Option ℤ) → and_then (and_then o truth_of)
        (λ b. option_map (λ ys. if b then (k ∷ []) ∷ ys else ys) (chosen (map as_place ks) f)) ≡ Some js →
        ((ls : List (List ℤ)) → chosen (map as_place ks) f ≡ Some ls → ls ≡ map as_place (filter (λ k. is_flag (f (k ∷ []))) ks)) →
        js ≡ map as_place (if is_flag o then k ∷ filter (λ k. is_flag (f (k ∷ []))) ks else filter (λ k. is_flag (f (k ∷ []))) ks)
    go None q r = cc
    go (Some n) q r = bit n (truth_of n) refl q r

module _ (x : Text) (n : Ex) (ms : List Mark) (es js : Exs) (dd : Dom) (m : Text) (ns : List Text) (r : Repr) (env : Env)
    (new-d : NamesAreDom (λ a. not (same_text x a)) (λ a. true) dd) (new-js : NamesAreExs (λ a. not (same_text x a)) (λ a. true) js) where
  abbrev R : Repr
  R = repr ReprKind.ExplicitVarSizeWithFlags (more_reprs r no_reprs)

  abbrev View : Ex
  View = seen_ex R (set_dom ms es dd) (m ∷ ns) js

  abbrev Flag : Ex
  Flag = cell_ex true m (put_last js (name_ex x))

  abbrev Listing : Alternative
  Listing = record { gens = over (name_pat x) (slots_dom n) (cond Flag no_gens); item = seen_ex r dd ns (put_last js (name_ex x)) }

  module _ (ks : List Attribute) (d : Domain) (t0 : Table) (ts : Tables) (i : List ℤ) (attributes-are : attributes_of ms (meanings es env)
      ≡ Some ks) (dom-is : domain_of dd env ≡ Some d)
      (first-is : look env.cells m ≡ Some t0) (tables-are : tables_in env.cells ns ≡ Some ts) (index-is : indices (meanings js env) ≡
      Some i)
      (h : tidy R (sets ks d) (t0 ∷ ts) i ≡ true) (n-is : meaning n env ≡ Some (number (pos (slots_of_set ks d)))) where
    abbrev N : ℕ
    N = slots_of_set ks d

    stand : SlotsStand ReprKind.ExplicitVarSizeWithFlags r ks d N where_flagged (fixed_table (one_to N ∷ []) booleans ∷ [])
        (λ v ss. flags_table (one_to N ∷ []) ss ∷ [])
        (λ c vss. set_attributes_hold ks (count_true (own_row (one_to N ∷ []) c))) (cells_at (t0 ∷ ts) i)
    stand = slots-stand ReprKind.ExplicitVarSizeWithFlags r ks d N where_flagged (fixed_table (one_to N ∷ []) booleans ∷ [])
        (λ v ss. flags_table (one_to N ∷ []) ss ∷ [])
        (λ c vss. set_attributes_hold ks (count_true (own_row (one_to N ∷ []) c))) refl (cells_at (t0 ∷ ts) i) (and-right _ _ h)

    over-slots : (k : ℤ) → over_axes (i ++ (k ∷ [])) (axes_of r d) ts ≡ true
    over-slots k = ap (λ z. over_axes (i ++ (k ∷ [])) z ts) (sym (axes-same true r d))
        ∙ over-behind i k (one_to N) (declarations_below true r d) ts (and-right _ _ (and-left _ _ h))

    short : length ts ≤ width r
    short = let a = over-long (i ++ (pos 0 ∷ [])) (axes_of r d) ts (over-slots (pos 0)) in let b =
        axes-long (declarations_below false r d) in
        let c = tables-short false r d in omega arith

    abbrev t : ℤ → Bool
    t k = is_flag (cell_at t0 (i ++ (k ∷ [])))

    js-are : stand.js ≡ map as_place (filter t (one_to N))
    js-are = chosen-are (λ js. cell_at t0 (i ++ js)) (one_to N) stand.js
        (ap (λ l. chosen l (λ js. cell_at t0 (i ++ js))) (sym (slots-are (one_to N))) ∙ stand.places)

    says : (k : ℤ) → meaning Flag (behind x (number k) env) ≡ Some (truth (t k))
    says k = ap (λ o. Some (truth (as_truth (cell_in true o (indices (meanings (put_last js (name_ex x)) (behind x (number k) env)))))))
        first-is
        ∙ ap (λ o. Some (truth (as_truth (cell_in true (Some t0) o)))) (ap indices (put-meanings x (number k) js env new-js)
        ∙ last-index (meanings js env) i (number k) index-is)

    view-is : meaning View env ≡ Some (set_of stand.vs)
    view-is =
        ap (λ o. seen_in R (and_then o (λ ks. option_map (sets ks) (domain_of dd env))) (tables_in env.cells (m ∷ ns))
        (indices (meanings js env))) attributes-are
        ∙ ap (λ o. seen_in R (option_map (sets ks) o) (tables_in env.cells (m ∷ ns)) (indices (meanings js env))) dom-is
        ∙ ap (λ o. seen_in R (Some (sets ks d)) (and_then o (λ t. option_map (λ us. t ∷ us) (tables_in env.cells ns)))
        (indices (meanings js env))) first-is
        ∙ ap (λ o. seen_in R (Some (sets ks d)) (option_map (λ us. t0 ∷ us) o) (indices (meanings js env))) tables-are
        ∙ ap (seen_in R (Some (sets ks d)) (Some (t0 ∷ ts))) index-is
        ∙ stand.is_value

    flags-offer : MeetsDom dd env → MeetsAll false js env → Meets n env → Offers View (Listing ∷ []) env
    flags-offer md mj mn = used-offers x n Flag dd ns js r env d ts i new-d new-js dom-is tables-are index-is N n-is short over-slots t
        says stand.vs
        (ap (λ l. each_of l (In r d (cells_at ts i))) (sym js-are) ∙ stand.values) stand.members stand.differ
        (ap (list_all (orderly_in r d (cells_at ts i))) (sym js-are) ∙ stand.orderly)
        View view-is (λ k. last-met x (number k) js env new-js mj) md mj mn

  listed : (a : Option (List Attribute)) (e : Option Domain) (o : Option Table) (t : Option Tables) (i : Option (List ℤ)) →
      attributes_of ms (meanings es env) ≡ a → domain_of dd env ≡ e →
      look env.cells m ≡ o → tables_in env.cells ns ≡ t → indices (meanings js env) ≡ i →
      IsTrue (tidy_in R (and_then a (λ ks. option_map (sets ks) e)) (and_then o (λ z. option_map (λ us. z ∷ us) t)) i) → MeetsDom dd env →
      MeetsAll false js env →
      SlotsAre n View env → Offers View (Listing ∷ []) env
  listed (Some ks) (Some e) (Some o) (Some t) (Some i) p q z s w h md mj c =
      flags-offer ks e o t i p q z s w h (c.counts ks e (ap (λ o. and_then o (λ ks. option_map (sets ks) (domain_of dd env))) p
      ∙ ap (option_map (sets ks)) q)) md mj c.met
  listed (Some ks) (Some e) (Some o) (Some t) None p q z s w h md mj c = no h
  listed (Some ks) (Some e) (Some o) None i p q z s w h md mj c = no h
  listed (Some ks) (Some e) None t i p q z s w h md mj c = no h
  listed (Some ks) None o t i p q z s w h md mj c = no h
  listed None e o t i p q z s w h md mj c = no h

-- Sets in slots with flags.
pub flags-listed : (x : Text) (n e : Ex) (env : Env) → Unused x e → Meets e env → SlotsAre n e env →
    OffersWhereMet (flags_listing x n e) e env
flags-listed x n (seen_ex (repr ReprKind.ExplicitVarSizeWithFlags (more_reprs r no_reprs)) (set_dom ms es d) (m ∷ ns) js) env o a c =
    listed x n ms es js d m ns r env o.0.1 o.1 (attributes_of ms (meanings es env)) (domain_of d env) (look env.cells m)
    (tables_in env.cells ns) (indices (meanings js env))
    refl refl refl refl refl a.0 a.1.1 a.2 c
flags-listed x n _ env o a c = tt
