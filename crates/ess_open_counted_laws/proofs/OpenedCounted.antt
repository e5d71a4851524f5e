-- What words of comprehensions count on at the first source that isn't plain follows from values.
use Rattle.std.proofs.Common.{◌≡◌, refl, sym, subst, Bool, true, false, if◌then◌else◌, List, [], ◌∷◌, Option, Some, None, option_map}
use Rattle.std.specs.Prelude.{IsTrue, is_some}
use Rattle.std.specs.List.{list_all}
use Rattle.ess_semantics.specs.declared.words.Fun.{Fun}
use Rattle.ess_semantics.specs.Values.{Text, Value, number, truth, item, node, a_matrix, items_of}
use Rattle.ess_semantics.specs.Names.{Names}
use Rattle.ess_semantics.specs.Trees.{name_pat, tuple_pat, Ex, comp_ex, fun1, Gens, no_gens, over, from, cond}
use Rattle.ess_semantics.specs.Types.{Ty, int_ty, compound2}
use Rattle.ess_semantics.specs.TypeMembers.{is_of}
use Rattle.ess_semantics.specs.Typed.{Typed}
use Rattle.ess_semantics.specs.NamesAt.{names_behind}
use Rattle.ess_semantics.specs.Contexts.{Each, EachOf, AtEach}
use Rattle.ess_semantics.specs.Meaning.{Env, meaning}
use Rattle.ess_semantics.specs.Meets.{Meets, MeetsGens}
use Rattle.ess_semantics.proofs.Tests.{and-left, and-right}
use Rattle.ess_types_laws.proofs.Items.{items-fit}
use Rattle.ess_rules_laws.specs.Rules.{IsNumber}
use Rattle.ess_rules_laws.specs.Listings.{Alternative, all_listed}
use Rattle.ess_rules_laws.specs.ListedSources.{SourceApart, EachApart, Offers}
use Rattle.ess_rules_laws.proofs.Listing.{each-perm}
use Rattle.ess_rules_laws.proofs.Places.{at-each-join}
use Rattle.ess_refine_laws.specs.ItemsOnce.{ItemsOnceOffer}
use Rattle.ess_refine_laws.specs.AllRules.{Supply, OfSome}
use Rattle.ess_refine_laws.proofs.FlatSources.{there-is, offered-items}
use Rattle.ess_values_along_laws.specs.Valued.{Valued, UnderValued}
use Rattle.ess_values_terms_laws.proofs.ValuedForms.{there}
use Rattle.ess_counted_more_laws.proofs.MoreCounted.{on}
use Rattle.ess_rules_laws.specs.AlternativeLookups.{members_of_each}
use Rattle.ess_kind_rules_laws.specs.TermLookups.{picks, looked_up}
use Rattle.ess_open_rules_laws.specs.OpenGenerators.{Opened, at_first_open}
use Rattle.ess_open_rules_laws.specs.OpenSources.{picked_members, all_offered, comp_offered}
use Rattle.ess_open_kept_laws.specs.OpenedAsks.{OfferedBehind, SourceBehind, OpenedAsks, NumbersOffered}
use Rattle.ess_open_kept_laws.specs.OpenAsks.{PickedApart, SourcePicked}
use Rattle.ess_open_kept_laws.proofs.OpenedAlternatives.{comp-offers}
use Rattle.ess_open_counted_laws.specs.SourcesBeside.{OfferBeside, SourceBeside, OpenedBeside, NumbersTyped, PickedSourceBeside}
use Rattle.ess_open_counted_laws.proofs.LookupsCounted.{lookup-asked}
use Rattle.ess_open_counted_laws.proofs.PlainBindings.{Here, at-plain}
use Rattle.ess_open_counted_laws.proofs.OfferedSources.{source-offers}

-- ---- at each binding of the plain generators

module _ (once : ItemsOnceOffer) (s : Supply) (e : Ex) (env : Env) where
  abbrev V : Env → Type 0
  V here = Valued false e here

  abbrev M : Env → Type 0
  M here = Meets e here

  source-behind : (g : Names Ty) (before after : Gens) → AtEach before env (Here after g V M) → SourceBeside s g before e after env →
      SourceBehind s g before e after env
  source-behind g before (from (name_pat y) u hs) h c = go (all_offered s g u) refl c.0
    where
      go : (o : Option (List Alternative)) → all_offered s g u ≡ o →
          OfSome o (λ l. (r : Text → Bool) × (k : Text → Bool) × EachApart r k y e hs l) →
          OfSome o (λ l. OfferedBehind before y e u hs l env)
      go None q k = tt
      go (Some l) q k = (
        k.0,
        k.1,
        k.2,
        at-each-join before env (Here (from (name_pat y) u hs) g V M) (OfferBeside s g u)
            (λ here. IsTrue (is_some (meaning u here)) × Offers u l here)
            (λ here n o. (there u here n.under.0, source-offers s g here n.typed u n.met.0 n.under.0 once l q o)) h c.1,
      )
  source-behind g before (from (tuple_pat ps) u hs) h c = tt
  source-behind g before no_gens h c = tt
  source-behind g before (over p d hs) h c = tt
  source-behind g before (cond x hs) h c = tt

  behind-asked : (g : Names Ty) (gs : Gens) → Typed g env → UnderValued gs env V → MeetsGens gs env M →
      OfSome (at_first_open gs) (λ t. SourceBeside s (names_behind t.before g) t.before e t.after env) →
      OfSome (at_first_open gs) (λ t. SourceBehind s (names_behind t.before g) t.before e t.after env)
  behind-asked g gs o v m c = go (at_first_open gs) refl c
    where
      go : (p : Option Opened) → at_first_open gs ≡ p →
          OfSome p (λ t. SourceBeside s (names_behind t.before g) t.before e t.after env) →
          OfSome p (λ t. SourceBehind s (names_behind t.before g) t.before e t.after env)
      go None q c = tt
      go (Some t) q c = source-behind (names_behind t.before g) t.before t.after (at-plain gs t q g env o V M v m) c

-- ---- words

module _ (once : ItemsOnceOffer) (s : Supply) (g : Names Ty) (env : Env) (typed : Typed g env) (w : Bool) where
  -- The structures of the operand of a word.
  pub operand-met : (b : Bool) (f : Fun) (l : Ex) → Meets (fun1 b f l) env → Meets l env
  operand-met b f l m = m.0

  pub opened-asked : (e : Ex) → Valued w e env → Meets e env → OpenedBeside s g e env → OpenedAsks s g e env
  opened-asked (fun1 b f (comp_ex e gs)) v m c = let k = on g env typed b w f (comp_ex e gs) v in
      behind-asked once s e env g gs typed k.1 (operand-met b f (comp_ex e gs) m) c
  opened-asked _ v m c = tt

  -- Items of alternatives are numbers where those of the comprehension are by their type.
  numbers : (vs : List Value) → list_all (is_of env.positions env.types int_ty) vs ≡ true → Each vs (λ v. IsNumber (Some v))
  numbers [] h = tt
  numbers (v ∷ vs) h = (
    one v (and-left (is_of env.positions env.types int_ty v) (list_all (is_of env.positions env.types int_ty) vs) h),
    numbers vs (and-right (is_of env.positions env.types int_ty v) (list_all (is_of env.positions env.types int_ty) vs) h),
  )
    where
      one : (v : Value) → is_of env.positions env.types int_ty v ≡ true → IsNumber (Some v)
      one (number n) h = tt
      one (truth b) h = cc
      one (item a n) h = cc
      one (node k us) h = cc

  pub numbers-asked : (e : Ex) → Valued w e env → Meets e env → OpenedBeside s g e env → NumbersTyped g e → NumbersOffered s g e env
  numbers-asked (fun1 b f (comp_ex e gs)) v m c t = go (comp_offered s g e gs) refl
    where
      k : Valued false (comp_ex e gs) env
      k = on g env typed b w f (comp_ex e gs) v

      go : (o : Option (List Alternative)) → comp_offered s g e gs ≡ o → OfSome o (λ l. EachOf (all_listed l env) (λ v. IsNumber (Some v)))
      go None q = tt
      go (Some l) q =
          let o = comp-offers s g e gs l q env (behind-asked once s e env g gs typed k.1 (operand-met b f (comp_ex e gs) m) c)
          (there (comp_ex e gs) env k)
          (operand-met b f (comp_ex e gs) m) in
          let u = there-is (meaning (comp_ex e gs) env) (there (comp_ex e gs) env k) in
          let ws = offered-items (comp_ex e gs) l env u.0 u.1 o in
          subst (λ z. EachOf z (λ v. IsNumber (Some v))) (sym ws.1) (each-perm (λ v. IsNumber (Some v)) ws.2
          (numbers (items_of u.0) (items-fit env.positions env.types (compound2 a_matrix t.0 int_ty) int_ty u.0 refl
          (t.1.1 (compound2 a_matrix t.0 int_ty) t.1.0 env typed u.0 u.1))))
  numbers-asked _ v m c t = tt

  -- What is picked as the first source has what its lookup asks.
  pub source-picked : (e : Ex) → Valued w e env → PickedSourceBeside s g e env → SourcePicked s g e env
  source-picked (fun1 b f (comp_ex e (from (name_pat y) t hs))) v c = go (picked_members s g t) refl c.0
    where
      Root : Ex
      Root = fun1 b f (comp_ex e (from (name_pat y) t hs))

      k : Valued false t env
      k = let n = on g env typed b w f (comp_ex e (from (name_pat y) t hs)) v in n.1.0

      picked-is : (l : List Alternative) → picked_members s g t ≡ Some l → picks t ≡ true
      picked-is l q = at (picks t) q
        where
          at : (d : Bool) → (if d then option_map (members_of_each s.one s.other) (looked_up g s.third s.parts t) else None) ≡ Some l →
              d ≡ true
          at true q = refl
          at false q = cc

      go : (o : Option (List Alternative)) → picked_members s g t ≡ o →
          OfSome o (λ l. (r : Text → Bool) × (u : Text → Bool) × SourceApart r u l Root) → OfSome o (λ l. PickedApart s g l t Root env)
      go None q a = tt
      go (Some l) q a = (
        a.0,
        a.1,
        a.2,
        there t env k,
        c.1.0,
        lookup-asked g env typed s.third s.parts t (picked-is l q) c.1.0 false k c.1.1,
      )
  source-picked _ v c = tt
