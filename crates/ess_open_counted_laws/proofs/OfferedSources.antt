-- A source offers its alternatives, where it has values.
use Rattle.std.proofs.Common.{◌≡◌, refl, ap, ◌∙◌, subst, Bool, true, false, if◌then◌else◌, List, [], ◌∷◌, Option, Some, None, option_map}
use Rattle.std.specs.Prelude.{is_some}
use Rattle.ess_semantics.specs.Lists.{or_else}
use Rattle.ess_semantics.specs.Names.{Names}
use Rattle.ess_semantics.specs.Trees.{Ex}
use Rattle.ess_semantics.specs.Types.{Ty}
use Rattle.ess_semantics.specs.Typed.{Typed}
use Rattle.ess_semantics.specs.Meaning.{Env}
use Rattle.ess_semantics.specs.Meets.{Meets}
use Rattle.ess_rules_laws.specs.Rules.{Unused, SoundOperands}
use Rattle.ess_rules_laws.specs.Listings.{Alternative, listing}
use Rattle.ess_rules_laws.specs.ContainerListings.{made_listing}
use Rattle.ess_rules_laws.specs.ListedSources.{Offers}
use Rattle.ess_rules_laws.specs.AlternativeLookups.{LookedBy, members_of_each}
use Rattle.ess_rules_laws.proofs.LookedContainers.{members-offered}
use Rattle.ess_refine_laws.specs.ItemsOnce.{items_once, OnceApart, ItemsOnceOffer}
use Rattle.ess_refine_laws.specs.AllRules.{Supply}
use Rattle.ess_values_along_laws.specs.Valued.{Valued}
use Rattle.ess_values_terms_laws.proofs.ValuedForms.{there}
use Rattle.ess_counted_more_laws.proofs.MoreCounted.{offers}
use Rattle.ess_kind_rules_laws.specs.ViewListings.{view_listing}
use Rattle.ess_kind_rules_laws.specs.TermLookups.{picks, looked_up}
use Rattle.ess_kinds_kept_laws.specs.ViewAsks.{ViewAsks}
use Rattle.ess_kinds_kept_laws.specs.LookupAsks.{OrAsks}
use Rattle.ess_kinds_kept_laws.proofs.ViewsOffer.{views-offer}
use Rattle.ess_open_rules_laws.specs.OpenSources.{picked_members, all_offered}
use Rattle.ess_open_counted_laws.specs.SourcesBeside.{PickedSource, OfferBeside}
use Rattle.ess_open_counted_laws.proofs.PicksCounted.{term-looked}

module _ (s : Supply) (g : Names Ty) (env : Env) (typed : Typed g env) (t : Ex) (m : Meets t env) (v : Valued false t env) where
  -- What is picked is looked up.
  pub source-looked : (l : List Alternative) → picked_members s g t ≡ Some l → PickedSource s g t env → (P : Type 0) →
      ((k : List Alternative) → looked_up g s.third s.parts t ≡ Some k → members_of_each s.one s.other k ≡ l → LookedBy t k env → P) → P
  source-looked l q c P h = go (picks t) refl q
    where
      inner : picks t ≡ true → (o : Option (List Alternative)) → looked_up g s.third s.parts t ≡ o →
          option_map (members_of_each s.one s.other) o ≡ Some l → P
      inner p None r q = cc
      inner p (Some k) r q = h k r (let z : members_of_each s.one s.other k ≡ l = cc in z)
          (term-looked g env typed s.one s.third s.parts t k r p c.0 false v c.1 m)

      go : (b : Bool) → picks t ≡ b →
          (if b then option_map (members_of_each s.one s.other) (looked_up g s.third s.parts t) else None) ≡ Some l →
          P
      go true p q = inner p (looked_up g s.third s.parts t) refl q
      go false p q = cc

  -- So its members are offered.
  pub picked-offers : (l : List Alternative) → picked_members s g t ≡ Some l → PickedSource s g t env → Offers t l env
  picked-offers l q c = source-looked l q c (Offers t l env)
      (λ k r e o. subst (λ z. Offers t z env) e (members-offered s.one s.other t k env o (there t env v)))

  -- Whatever tells them; so do sets of the items of comprehensions.
  pub source-offers : ItemsOnceOffer → (l : List Alternative) → all_offered s g t ≡ Some l → OfferBeside s g t env → Offers t l env
  source-offers once l q c = first (listing g s.one t) refl q c
    where
      Told : Option (List Alternative)
      Told = or_else (option_map (λ a. a ∷ []) (view_listing s.one s.other s.parts t)) (picked_members s g t)

      Made : Option (List Alternative)
      Made = made_listing g s.one s.other t

      Once : Option (List Alternative)
      Once = items_once s.one s.other s.third t

      Picked : Type 0
      Picked = PickedSource s g t env

      fourth : (o : Option Alternative) → view_listing s.one s.other s.parts t ≡ o →
          or_else (option_map (λ a. a ∷ []) o) (picked_members s g t) ≡ Some l →
          OrAsks o (λ a. ViewAsks s.one s.other s.parts t env) Picked →
          Offers t l env
      fourth None r q c = picked-offers l q c
      fourth (Some a) r q c =
          subst (λ z. Offers t z env) (let z : a ∷ [] ≡ l = cc in z) (views-offer s.one s.other s.parts t a r env c m)

      third : (o : Option (List Alternative)) → Once ≡ o → or_else o Told ≡ Some l → OrAsks o (λ k. OnceApart s.one s.other s.third t)
          (OrAsks (view_listing s.one s.other s.parts t) (λ a. ViewAsks s.one s.other s.parts t env) Picked) → Offers t l env
      third None r q c = fourth (view_listing s.one s.other s.parts t) refl q c
      third (Some k) r q c = once s.one s.other s.third t l (r ∙ q) c env (there t env v) m

      second : listing g s.one t ≡ None → (o : Option (List Alternative)) → Made ≡ o → or_else (or_else o Once) Told ≡ Some l →
          OrAsks o (λ k. Unused s.one t × SoundOperands g t) (OrAsks Once (λ k. OnceApart s.one s.other s.third t)
          (OrAsks (view_listing s.one s.other s.parts t) (λ a. ViewAsks s.one s.other s.parts t env) Picked)) → Offers t l env
      second n None r q c = third Once refl q c
      second n (Some k) r q c = offers g env typed s t l
          (ap (λ z. or_else z (or_else Made Once)) n ∙ ap (λ z. or_else z Once) r ∙ q) c.0 c.1
          (ap (λ z. is_some (or_else z Made)) n ∙ ap is_some r) m v

      first : (o : Option (List Alternative)) → listing g s.one t ≡ o → or_else (or_else o (or_else Made Once)) Told ≡ Some l →
          OrAsks o (λ k. Unused s.one t × SoundOperands g t) (OrAsks Made (λ k. Unused s.one t × SoundOperands g t)
          (OrAsks Once (λ k. OnceApart s.one s.other s.third t)
          (OrAsks (view_listing s.one s.other s.parts t) (λ a. ViewAsks s.one s.other s.parts t env) Picked))) → Offers t l env
      first None r q c = second r Made refl q c
      first (Some k) r q c = offers g env typed s t l (ap (λ z. or_else z (or_else Made Once)) r ∙ q) c.0 c.1
          (ap (λ z. is_some (or_else z Made)) r) m v
