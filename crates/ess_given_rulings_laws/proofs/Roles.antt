-- Which of the reserved names that a rule of openings takes are fixed: the names by their roles.
use Rattle.std.proofs.Common.{◌≡◌, refl, ap, subst, ℕ, zero, suc, ◌+◌, Bool, true, false, ◌||◌, if◌then◌else◌, List, [], ◌∷◌, length, Option, Some, None, arith}
use Rattle.std.specs.Prelude.{is_some}
use Rattle.std.specs.List.{list_all}
use Rattle.ess_semantics.specs.Values.{Text}
use Rattle.ess_semantics.specs.Names.{Names}
use Rattle.ess_semantics.specs.NamesAt.{names_behind}
use Rattle.ess_semantics.specs.Trees.{name_pat, tuple_pat, Ex, comp_ex, fun1, Gens, no_gens, over, from, cond}
use Rattle.ess_semantics.specs.Types.{Ty}
use Rattle.ess_semantics.proofs.Tests.{and-both}
use Rattle.ess_refine_laws.specs.AllRules.{Supply, OfSome, offered}
use Rattle.conjure_model_laws.specs.ToldApart.{reserved}
use Rattle.ess_chain_names_laws.specs.Steps.{reserved_from, supply_at}
use Rattle.ess_kind_rules_laws.specs.ViewListings.{matrix_listing}
use Rattle.ess_kind_rules_laws.specs.TermLookups.{picked_within}
use Rattle.ess_open_rules_laws.specs.OpenGenerators.{Opened, at_first_open}
use Rattle.ess_open_rules_laws.specs.OpenRules.{OpenRule, over_one_source, over_what_is_picked, least_over_several, set_over_several, in_order_of_its_source}
use Rattle.ess_given_laws.specs.Given.{is_fixed}
use Rattle.ess_given_conditions_laws.proofs.Assigned.{Assigned}
use Rattle.ess_given_ordered_laws.specs.ess_given_opened_laws.OpenedStays.{EachAs, OutsideAlong}
use Rattle.ess_given_ordered_laws.specs.OrderedNames.{OfEither, NamesAlong}

-- ---- lists of truth values

-- The same one, so often.
abbrev pub same : Bool → ℕ → List Bool
same b zero = []
same b (suc k) = b ∷ same b k

pub same-length : (b : Bool) (k : ℕ) → length (same b k) ≡ k
same-length b zero = refl
same-length b (suc k) = ap suc (same-length b k)

-- False for each name that is bound over what is picked, from within, then true.
abbrev pub outs : ℕ → Ex → List Bool
outs zero e = []
outs (suc k) e = false ∷ elim (picked_within e) [
  | None ↦ same true k
  | Some t ↦ outs k t
]

pub outs-length : (k : ℕ) (e : Ex) → length (outs k e) ≡ k
outs-length zero e = refl
outs-length (suc k) e = ap suc (go (picked_within e) (λ t. outs-length k t))
  where
    go : (o : Option Ex) → ((t : Ex) → length (outs k t) ≡ k) → length {A = Bool} (elim o [
      | None ↦ same true k
      | Some t ↦ outs k t
    ]) ≡ k
    go None h = same-length true k
    go (Some t) h = h t

-- ---- roles

-- The truth values of the three names, and of those for components.
pub record Roles : Type 0 where
  pub one : Bool
  pub other : Bool
  pub third : Bool
  pub parts : List Bool

abbrev pub role_list : Roles → List Bool
role_list r = r.one ∷ r.other ∷ r.third ∷ r.parts

-- All the same.
abbrev pub all_alike : Bool → ℕ → Roles
all_alike b k = record { one = b; other = b; third = b; parts = same b k }

module _ (z : Text → Bool) (s : Supply) (k : ℕ) where
  -- Of a rule for the source of a generator.
  abbrev pub source_roles : Names Ty → Gens → Roles
  source_roles g (from (name_pat y) t hs) = record {
    one = is_fixed z t;
    other = is_fixed z t;
    third = is_fixed z t || is_some (offered s g t);
    parts = same (is_fixed z t) k;
  }
  source_roles g gs = all_alike false k

  -- Of one for a comprehension in any place.
  abbrev pub place_roles : Gens → Roles
  place_roles (from (name_pat y) t hs) = record {
    one = is_fixed z t || is_some (matrix_listing s.one t);
    other = is_fixed z t;
    third = true;
    parts = if is_fixed z t then same true k else outs k t;
  }
  place_roles (from (tuple_pat ps) t hs) = all_alike (is_fixed z t) k
  place_roles gs = all_alike true k

  -- Behind the plain generators.
  abbrev pub source_behind : Names Ty → Option Opened → Roles
  source_behind g None = all_alike false k
  source_behind g (Some t) = source_roles (names_behind t.before g) t.after

  abbrev pub opened_roles : Names Ty → Ex → Roles
  opened_roles g (fun1 m f (comp_ex e gs)) = source_behind g (at_first_open gs)
  opened_roles g e = all_alike false k

  abbrev pub place_behind : Option Opened → Roles
  place_behind None = all_alike false k
  place_behind (Some t) = place_roles t.after

  abbrev pub in_place_roles : Ex → Roles
  in_place_roles (comp_ex e gs) = place_behind (at_first_open gs)
  in_place_roles e = all_alike false k

  abbrev pub picked_roles : Ex → Roles
  picked_roles (fun1 m f (comp_ex e (from (name_pat y) t hs))) = all_alike (is_fixed z t) k
  picked_roles e = all_alike false k

  -- Of each rule.
  abbrev pub roles_of : Names Ty → OpenRule → Ex → Roles
  roles_of g over_one_source e = opened_roles g e
  roles_of g over_what_is_picked e = picked_roles e
  roles_of g least_over_several e = opened_roles g e
  roles_of g set_over_several e = opened_roles g e
  roles_of g in_order_of_its_source e = in_place_roles e
  roles_of g r e = all_alike (is_fixed z e) k

  -- There are as many as names.
  source-number : (g : Names Ty) (gs : Gens) → length (source_roles g gs).parts ≡ k
  source-number g (from (name_pat y) t hs) = same-length (is_fixed z t) k
  source-number g (from (tuple_pat ps) t hs) = same-length false k
  source-number g no_gens = same-length false k
  source-number g (over p d hs) = same-length false k
  source-number g (cond c hs) = same-length false k

  place-number : (gs : Gens) → length (place_roles gs).parts ≡ k
  place-number (from (name_pat y) t hs) = go (is_fixed z t)
    where
      go : (b : Bool) → length (if b then same true k else outs k t) ≡ k
      go true = same-length true k
      go false = outs-length k t
  place-number (from (tuple_pat ps) t hs) = same-length (is_fixed z t) k
  place-number no_gens = same-length true k
  place-number (over p d hs) = same-length true k
  place-number (cond c hs) = same-length true k

  opened-number : (g : Names Ty) (e : Ex) → length (opened_roles g e).parts ≡ k
  opened-number g (fun1 m f (comp_ex e gs)) = go (at_first_open gs)
    where
      go : (o : Option Opened) → length (source_behind g o).parts ≡ k
      go None = same-length false k
      go (Some t) = source-number (names_behind t.before g) t.after
  opened-number g _ = same-length false k

  in-place-number : (e : Ex) → length (in_place_roles e).parts ≡ k
  in-place-number (comp_ex e gs) = go (at_first_open gs)
    where
      go : (o : Option Opened) → length (place_behind o).parts ≡ k
      go None = same-length false k
      go (Some t) = place-number t.after
  in-place-number _ = same-length false k

  picked-number : (e : Ex) → length (picked_roles e).parts ≡ k
  picked-number (fun1 m f (comp_ex e (from (name_pat y) t hs))) = same-length (is_fixed z t) k
  picked-number _ = same-length false k

  pub roles-number : (g : Names Ty) (r : OpenRule) (e : Ex) → length (roles_of g r e).parts ≡ k
  roles-number g over_one_source e = opened-number g e
  roles-number g over_what_is_picked e = picked-number e
  roles-number g least_over_several e = opened-number g e
  roles-number g set_over_several e = opened-number g e
  roles-number g in_order_of_its_source e = in-place-number e
  roles-number g r e = same-length (is_fixed z e) k

-- ---- names as assigned

module _ (v : Text → Bool) where
  pub same-names : (b : Bool) (j k : ℕ) → Assigned v j (same b k) → EachAs v b (reserved_from j k)
  same-names b j zero h = tt
  same-names b j (suc k) h = (h.0, same-names b (suc j) k h.1)

  pub all-names : (j k : ℕ) → Assigned v j (same true k) → list_all v (reserved_from j k) ≡ true
  all-names j zero h = refl
  all-names j (suc k) h = and-both (v (reserved j)) (list_all v (reserved_from (suc j) k)) h.0 (all-names (suc j) k h.1)

  pub along-names : (j k : ℕ) (e : Ex) → Assigned v j (outs k e) → NamesAlong v (reserved_from j k) e
  along-names j zero e h = tt
  along-names j (suc k) e h = (h.0, go (picked_within e) h.1 (λ t q. along-names (suc j) k t q))
    where
      go : (o : Option Ex) → Assigned v (suc j) (elim o [
        | None ↦ same true k
        | Some t ↦ outs k t
      ]) → ((t : Ex) → Assigned v (suc j) (outs k t) → NamesAlong v (reserved_from (suc j) k) t) →
          OfEither o (list_all v (reserved_from (suc j) k) ≡ true) (NamesAlong v (reserved_from (suc j) k))
      go None q r = all-names (suc j) k q
      go (Some t) q r = r t q

  pub outside-of : (ys : List Text) (e : Ex) → NamesAlong v ys e → OutsideAlong v ys e
  outside-of [] e h = tt
  outside-of (y ∷ ys) e h = (h.0, go (picked_within e) h.1 (λ t q. outside-of ys t q))
    where
      go : (o : Option Ex) → OfEither o (list_all v ys ≡ true) (NamesAlong v ys) →
          ((t : Ex) → NamesAlong v ys t → OutsideAlong v ys t) → OfSome o (OutsideAlong v ys)
      go None q r = tt
      go (Some t) q r = r t q

  -- The three names and those for components.
  pub record NamesAs (n k : ℕ) (r : Roles) : Type 0 where
    pub one : v (supply_at n k).one ≡ r.one
    pub other : v (supply_at n k).other ≡ r.other
    pub third : v (supply_at n k).third ≡ r.third
    pub parts : Assigned v (n + 3) r.parts

  at-number : (i j : ℕ) (b : Bool) → i ≡ j → v (reserved i) ≡ b → v (reserved j) ≡ b
  at-number i j b q h = subst (λ x. v (reserved x) ≡ b) q h

  pub names-as : (n k : ℕ) (r : Roles) → Assigned v n (role_list r) → NamesAs n k r
  names-as n k r h = record {
    one = h.0;
    other = at-number (suc n) (n + 1) r.other (omega arith) h.1.0;
    third = at-number (suc (suc n)) (n + 2) r.third (omega arith) h.1.1.0;
    parts = subst (λ x. Assigned v x r.parts) three h.1.1.1;
  }
    where
      three : suc (suc (suc n)) ≡ n + 3
      three = omega arith
