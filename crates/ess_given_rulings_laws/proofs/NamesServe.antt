-- Names that are assigned by their roles are as a rule of openings asks.
use Rattle.std.proofs.Common.{◌≡◌, sym, ap, ◌∙◌, subst, ℕ, ◌+◌, Bool, true, false, ◌||◌, if◌then◌else◌, ◌∷◌, Option, Some, None}
use Rattle.std.specs.Prelude.{is_some}
use Rattle.std.specs.List.{list_all}
use Rattle.ess_semantics.specs.Values.{Text}
use Rattle.ess_semantics.specs.Names.{Names}
use Rattle.ess_semantics.specs.NamesAt.{names_behind}
use Rattle.ess_semantics.specs.Trees.{name_pat, tuple_pat, Ex, comp_ex, fun1, Gens, no_gens, over, from, cond}
use Rattle.ess_semantics.specs.Types.{Ty}
use Rattle.ess_semantics.proofs.Tests.{and-both, both-ways}
use Rattle.ess_refine_laws.specs.AllRules.{Supply, OfSome, offered}
use Rattle.ess_chain_names_laws.specs.Steps.{supply_at}
use Rattle.ess_kind_rules_laws.specs.ViewListings.{matrix_listing}
use Rattle.ess_open_rules_laws.specs.OpenGenerators.{Opened, at_first_open}
use Rattle.ess_open_rules_laws.specs.OpenRules.{OpenRule, step_by_step, applied_relation, of_a_pick, a_pick_alone, without_repeats, without_its_indices, over_one_source, over_what_is_picked, least_over_several, set_over_several, different_by_counts, in_order_of_its_source, fold_of_folds, set_of_a_term}
use Rattle.ess_given_laws.specs.PartsHave.{PartsHave, GensHave}
use Rattle.ess_given_laws.specs.Given.{is_fixed}
use Rattle.ess_given_laws.proofs.FixedTrees.{fixed, fixed-has, has-fixed}
use Rattle.ess_given_conditions_laws.proofs.Assigned.{Assigned}
use Rattle.ess_given_conditions_laws.proofs.MoreFixed.{fixed-among}
use Rattle.ess_given_ordered_laws.specs.ess_given_opened_laws.OpenedStays.{EachAs, AllAs, SourceNames, OpenedNames, PickedNames, PlaceNames, NamesInPlace, NewOpened}
use Rattle.ess_given_ordered_laws.proofs.ess_given_opened_laws.PartsOfOpenings.{OpenedHas, opened-has}
use Rattle.ess_given_ordered_laws.specs.OrderedNames.{NamesAlong}
use Rattle.ess_given_rulings_laws.specs.OpeningSteps.{PickKept, PicksKept}
use Rattle.ess_given_rulings_laws.proofs.Roles.{same, outs, all_alike, source_roles, place_roles, source_behind, place_behind, opened_roles, in_place_roles, picked_roles, roles_of, same-names, all-names, along-names, outside-of, NamesAs}

-- z are names that are fixed, v these with new ones, and w has the names of the tree, none of which is new.
module _ (z v w : Text → Bool) (more : (a : Text) → z a ≡ true → v a ≡ true) (same-there : (a : Text) → w a ≡ true → v a ≡ z a)
    (n k : ℕ) where
  abbrev s : Supply
  s = supply_at n k

  -- What is fixed in the tree is fixed by both.
  pub fixed-alike : (e : Ex) → is_fixed w e ≡ true → is_fixed v e ≡ is_fixed z e
  fixed-alike e h = both-ways (is_fixed v e) (is_fixed z e)
      (λ q. fixed-among w v z (λ a i j. sym (same-there a i) ∙ j) e h q) (λ q. fixed-among w z v (λ a i j. more a j) e h q)

  pub all-as : (b : Bool) → NamesAs v n k (all_alike b k) → AllAs v b s
  all-as b h = (h.one, (h.other, (h.third, same-names v b (n + 3) k h.parts)))

  -- At the source of a generator.
  source-serves : (g : Names Ty) (hs : Gens) → GensHave (fixed w) hs → NamesAs v n k (source_roles z s k g hs) → SourceNames v s g hs
  source-serves g (from (name_pat y) t hs) h a = let q = fixed-alike t (has-fixed w t h.1) in (
    subst (λ b. EachAs v b (s.one ∷ s.other ∷ s.parts)) (sym q)
        (a.one, (a.other, same-names v (is_fixed z t) (n + 3) k a.parts)),
    a.third ∙ ap (λ b. b || is_some (offered s g t)) (sym q),
  )
  source-serves g (from (tuple_pat ps) t hs) h a = tt
  source-serves g no_gens h a = tt
  source-serves g (over p d hs) h a = tt
  source-serves g (cond c hs) h a = tt

  opened-serves : (g : Names Ty) (e : Ex) → PartsHave (fixed w) e → NamesAs v n k (opened_roles z s k g e) → OpenedNames v s g e
  opened-serves g (fun1 m f (comp_ex e gs)) h a = go (at_first_open gs) (opened-has (fixed w) gs h.0.1) a
    where
      go : (o : Option Opened) → OpenedHas (fixed w) o → NamesAs v n k (source_behind z s k g o) →
          OfSome o (λ t. SourceNames v s (names_behind t.before g) t.after)
      go None i a = tt
      go (Some t) i a = source-serves (names_behind t.before g) t.after i.1 a
  opened-serves g _ h a = tt

  picked-serves : (e : Ex) → PartsHave (fixed w) e → NamesAs v n k (picked_roles z s k e) → PickedNames v s e
  picked-serves (fun1 m f (comp_ex e (from (name_pat y) t hs))) h a =
      subst (λ b. AllAs v b s) (sym (fixed-alike t (has-fixed w t h.0.1.1))) (all-as (is_fixed z t) a)
  picked-serves _ h a = tt

  -- In any place.
  place-serves : (g : Names Ty) (hs : Gens) → GensHave (fixed w) hs → PickKept z n k g v hs → NamesAs v n k (place_roles z s k hs) →
      PlaceNames v s g hs
  place-serves g (from (name_pat y) t hs) h p a = let q = fixed-alike t (has-fixed w t h.1) in record {
    one = a.one ∙ ap (λ b. b || is_some (matrix_listing s.one t)) (sym q);
    other = a.other ∙ sym q;
    where_fixed = λ f. inside (sym q ∙ f);
    else_outside = λ f. outside-of v s.parts t (along (sym q ∙ f));
    else_kept = λ f. p (sym q ∙ f) a.third (along (sym q ∙ f));
  }
    where
      parts-as : (b : Bool) → is_fixed z t ≡ b → Assigned v (n + 3) (if b then same true k else outs k t)
      parts-as b f = subst (λ b. Assigned v (n + 3) (if b then same true k else outs k t)) f a.parts

      inside : is_fixed z t ≡ true → list_all v (s.third ∷ s.parts) ≡ true
      inside f = and-both (v s.third) (list_all v s.parts) a.third (all-names v (n + 3) k (parts-as true f))

      along : is_fixed z t ≡ false → NamesAlong v s.parts t
      along f = along-names v (n + 3) k t (parts-as false f)
  place-serves g (from (tuple_pat ps) t hs) h p a = a.one ∙ sym (fixed-alike t (has-fixed w t h.1))
  place-serves g no_gens h p a = tt
  place-serves g (over q d hs) h p a = all-names v (n + 3) k a.parts
  place-serves g (cond c hs) h p a = tt

  in-place-serves : (g : Names Ty) (e : Ex) → PartsHave (fixed w) e → PicksKept z n k g v in_order_of_its_source e →
      NamesAs v n k (in_place_roles z s k e) → NamesInPlace v s g e
  in-place-serves g (comp_ex e gs) h p a = go (at_first_open gs) (opened-has (fixed w) gs h.1) p a
    where
      go : (o : Option Opened) → OpenedHas (fixed w) o → OfSome o (λ t. PickKept z n k (names_behind t.before g) v t.after) →
          NamesAs v n k (place_behind z s k o) → OfSome o (λ t. PlaceNames v s (names_behind t.before g) t.after)
      go None i p a = tt
      go (Some t) i p a = place-serves (names_behind t.before g) t.after i.1 p a
  in-place-serves g _ h p a = tt

  -- Of each rule.
  pub root-as : (e : Ex) → is_fixed w e ≡ true → NamesAs v n k (all_alike (is_fixed z e) k) → AllAs v (is_fixed v e) s
  root-as e h a = subst (λ b. AllAs v b s) (sym (fixed-alike e h)) (all-as (is_fixed z e) a)

  pub names-serve : (g : Names Ty) (r : OpenRule) (e : Ex) → is_fixed w e ≡ true → PicksKept z n k g v r e →
      NamesAs v n k (roles_of z s k g r e) → NewOpened v s g r e
  names-serve g step_by_step e h p a = tt
  names-serve g applied_relation e h p a = tt
  names-serve g of_a_pick e h p a = root-as e h a
  names-serve g a_pick_alone e h p a = root-as e h a
  names-serve g without_repeats e h p a = tt
  names-serve g without_its_indices e h p a = tt
  names-serve g over_one_source e h p a = opened-serves g e (fixed-has w e h) a
  names-serve g over_what_is_picked e h p a = picked-serves e (fixed-has w e h) a
  names-serve g least_over_several e h p a = opened-serves g e (fixed-has w e h) a
  names-serve g set_over_several e h p a = opened-serves g e (fixed-has w e h) a
  names-serve g different_by_counts e h p a = a.one ∙ sym (fixed-alike e h)
  names-serve g in_order_of_its_source e h p a = in-place-serves g e (fixed-has w e h) p a
  names-serve g fold_of_folds e h p a = tt
  names-serve g set_of_a_term e h p a = a.one ∙ sym (fixed-alike e h)
