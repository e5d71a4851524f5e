-- What rules that keep the order count on at the first source that isn't plain follows from values.
use Rattle.std.proofs.Common.{◌≡◌, refl, sym, ap, ◌∙◌, subst, Bool, true, false, if◌then◌else◌, List, [], ◌∷◌, Option, Some, None, option_map}
use Rattle.std.specs.Prelude.{IsTrue, is_some}
use Rattle.std.specs.List.{list_all}
use Rattle.ess_semantics.specs.Lists.{and_then, or_else}
use Rattle.ess_semantics.specs.Values.{Text, Value, items_of}
use Rattle.ess_semantics.specs.Names.{Names}
use Rattle.ess_semantics.specs.Trees.{tuple_pat, Ex, name_ex, comp_ex, from}
use Rattle.ess_semantics.specs.Types.{Ty}
use Rattle.ess_semantics.specs.OperatorTypes.{member_ty}
use Rattle.ess_semantics.specs.Typing.{type_of, source_ty}
use Rattle.ess_semantics.specs.TypeMembers.{is_of, is_of_type}
use Rattle.ess_semantics.specs.Typed.{Typed}
use Rattle.ess_semantics.specs.NamesAt.{names_behind}
use Rattle.ess_semantics.specs.Operators.{list_value}
use Rattle.ess_semantics.specs.Contexts.{Each, EachIn, AtEach}
use Rattle.ess_semantics.specs.Meaning.{Env, meaning, items_under, collect}
use Rattle.ess_semantics.specs.Meets.{Meets}
use Rattle.ess_semantics.proofs.Orders.{to_list-of_list}
use Rattle.ess_semantics.proofs.Tests.{and-left, and-right}
use Rattle.ess_types_laws.proofs.Items.{items-fit}
use Rattle.ess_types_laws.proofs.Soundness.{source-type}
use Rattle.ess_rules_laws.specs.Rules.{Unused, Sound}
use Rattle.ess_rules_laws.specs.Listings.{Alternative, items_listed}
use Rattle.ess_rules_laws.specs.ListedSources.{SourceApart, OffersInOrder, SourceInOrder}
use Rattle.ess_rules_laws.specs.SetListings.{InOrderWhereMet}
use Rattle.ess_rules_laws.specs.SpliceRules.{splice}
use Rattle.ess_rules_laws.specs.SplitRules.{split}
use Rattle.ess_rules_laws.specs.TupleNames.{name_over_tuple}
use Rattle.ess_rules_laws.specs.Lookups.{found}
use Rattle.ess_rules_laws.specs.AlternativeLookups.{LookedBy, members_of_each}
use Rattle.ess_rules_laws.proofs.RuleAnswers.{behind, name-behind, collect-itself}
use Rattle.ess_rules_laws.proofs.Lookups.{single, collect-found}
use Rattle.ess_rules_laws.proofs.ListedItems.{alone-listed}
use Rattle.ess_rules_laws.proofs.LookedContainers.{members-offered}
use Rattle.ess_rules_laws.proofs.Places.{at-each-join}
use Rattle.ess_refine_laws.specs.RecordNames.{name_over_record}
use Rattle.ess_refine_laws.specs.AllRules.{Supply, OfSome, only_one}
use Rattle.ess_refine_laws.proofs.LeavingConditions.{inner-there}
use Rattle.ess_values_along_laws.specs.Valued.{Valued}
use Rattle.ess_values_terms_laws.proofs.ValuedForms.{there}
use Rattle.ess_counted_more_laws.proofs.MoreCounted.{spliced, domain}
use Rattle.ess_kind_rules_laws.specs.ViewListings.{matrix_listing}
use Rattle.ess_kinds_kept_laws.specs.LookupAsks.{OrAsks}
use Rattle.ess_kinds_kept_laws.proofs.MatrixItems.{matrix-listed}
use Rattle.ess_open_rules_laws.specs.OpenGenerators.{Opened, at_first_open}
use Rattle.ess_open_rules_laws.specs.OpenSources.{picked_members, is_first_decided, decided_one, in_order_told, pattern_opened}
use Rattle.ess_open_kept_laws.specs.OpenedAsks.{PatternFits, ToldInOrder, InOrderAsks, KeptBehindAsks}
use Rattle.ess_open_kept_laws.proofs.OpenedFolds.{opened-are}
use Rattle.ess_open_counted_laws.specs.SourcesBeside.{PickedSource, PatternBeside, ToldBeside, InOrderBeside, KeptBehindBeside}
use Rattle.ess_open_counted_laws.proofs.LookupsCounted.{or-map}
use Rattle.ess_open_counted_laws.proofs.PlainBindings.{Here, at-plain}
use Rattle.ess_open_counted_laws.proofs.OfferedSources.{source-looked}

-- ---- the members of one picked value, in order

module _ (y x : Text) (t : Ex) (a : Alternative) (env : Env) (looked : LookedBy t (a ∷ []) env) (i : IsTrue (is_some (meaning t env))) where
  -- The members of a value that is called y.
  abbrev Members : Value → Option (List Value)
  Members v = and_then (meaning (name_ex y) (behind y v env))
      (λ s. collect (items_of s) (λ u. single (meaning (name_ex x) (behind x u (behind y v env)))))

  members-are : (v : Value) → Members v ≡ Some (items_of v)
  members-are v = ap (λ o. and_then o (λ s. collect (items_of s) (λ u. single (meaning (name_ex x) (behind x u (behind y v env))))))
      (name-behind y v env) ∙ collect-itself x (behind y v env) (items_of v)

  alone : items_listed a env ≡ Some (found (meaning t env))
  alone = sym (alone-listed (items_listed a env)) ∙ looked.items

  one-listed : (o : Option Value) → meaning t env ≡ o → IsTrue (is_some o) →
      option_map items_of o ≡ and_then (option_map list_value (items_listed a env)) (λ s. collect (items_of s) Members)
  one-listed None q i = cc
  one-listed (Some v) q i = sym (ap (λ o. and_then (option_map list_value o) (λ s. collect (items_of s) Members))
      (alone ∙ ap (λ o. Some (found o)) q)
      ∙ ap (λ l. collect l Members) (to_list-of_list (v ∷ [])) ∙ collect-found (Members v) ∙ members-are v)

  -- So they are offered in order.
  one-in-order : (b : Alternative) → members_of_each y x (a ∷ []) ≡ b ∷ [] → OffersInOrder t b env
  one-in-order b q = subst (λ z. OfSome z (λ c. OffersInOrder t c env)) (ap only_one (ap Some q)) (record {
    items = ap (option_map items_of) refl ∙ one-listed (meaning t env) refl i;
    met = let o = members-offered y x t (a ∷ []) env looked i in o.met.0;
  })

-- ---- at the first generator

module _ (s : Supply) (g : Names Ty) (env : Env) (typed : Typed g env) where
  -- Values of a source are of the type of its items.
  of-type : (u m : Ty) (t : Ex) → Sound g t → type_of t g ≡ Some u → member_ty u ≡ Some m →
      EachIn (meaning t env) (λ v. IsTrue (is_of_type (source_ty t g) env v))
  of-type u m t k q r = go (meaning t env) refl
    where
      same : source_ty t g ≡ m
      same = source-type (and_then (type_of t g) member_ty) m (ap (λ o. and_then o member_ty) q ∙ r)

      each : (vs : List Value) → list_all (is_of env.positions env.types m) vs ≡ true →
          Each vs (λ v. IsTrue (is_of_type (source_ty t g) env v))
      each [] h = tt
      each (v ∷ vs) h = (
        subst (λ z. IsTrue (is_of_type z env v)) (sym same) (and-left (is_of env.positions env.types m v)
            (list_all (is_of env.positions env.types m) vs) h),
        each vs (and-right (is_of env.positions env.types m v) (list_all (is_of env.positions env.types m) vs) h),
      )

      go : (o : Option Value) → meaning t env ≡ o → EachIn o (λ v. IsTrue (is_of_type (source_ty t g) env v))
      go None z = tt
      go (Some v) z = each (items_of v) (items-fit env.positions env.types u m v r (k u q env typed v z))

  pattern : (e : Ex) → PatternBeside s g e → PatternFits s g e env
  pattern (comp_ex e (from (tuple_pat ps) t hs)) c = (c.0, c.1, of-type c.3 c.4 t c.2 c.5 c.6)
  pattern _ c = tt

  -- The only alternative of what is picked.
  told-picked : (t : Ex) (b : Alternative) → decided_one (picked_members s g t) ≡ Some b → Meets t env → Valued false t env →
      PickedSource s g t env → OffersInOrder t b env
  told-picked t b q m v c = go (picked_members s g t) refl q
    where
      decided : (a : Alternative) → (if is_first_decided a.gens then Some a else None) ≡ Some b → a ≡ b
      decided a q = at (is_first_decided a.gens) q
        where
          at : (d : Bool) → (if d then Some a else None) ≡ Some b → a ≡ b
          at true q = cc
          at false q = cc

      of-one : (k : List Alternative) → LookedBy t k env → (a : Alternative) → members_of_each s.one s.other k ≡ a ∷ [] → a ≡ b →
          OffersInOrder t b env
      of-one [] o a r q = cc
      of-one (x ∷ []) o a r q = subst (λ z. OffersInOrder t z env) q (one-in-order s.one s.other t x env o (there t env v) a r)
      of-one (x ∷ y ∷ k) o a r q = cc

      go : (o : Option (List Alternative)) → picked_members s g t ≡ o → decided_one o ≡ Some b → OffersInOrder t b env
      go None r q = cc
      go (Some []) r q = cc
      go (Some (a ∷ [])) r q = source-looked s g env typed t m v (a ∷ []) r c (OffersInOrder t b env)
          (λ k z e o. of-one k o a e (decided a q))
      go (Some (a ∷ x ∷ l)) r q = cc

  told : (w : Bool) (e : Ex) → Valued w e env → Meets e env → ToldBeside s g e env → ToldInOrder s g e env
  told w (comp_ex e (from p t hs)) v m c = go (in_order_told s g t) refl c.0
    where
      viewed : (o : Option Alternative) → matrix_listing s.one t ≡ o → (b : Alternative) →
          or_else o (decided_one (picked_members s g t)) ≡ Some b → OrAsks o (λ a. Unused s.one t) (PickedSource s g t env) →
          OffersInOrder t b env
      viewed None r b q c = told-picked t b q m.0 v.1.0 c
      viewed (Some a) r b q c = subst (λ z. OffersInOrder t z env) (let z : a ≡ b = cc in z)
          (subst (λ o. InOrderWhereMet o t env) r (matrix-listed s.one t env c m.0))

      go : (o : Option Alternative) → in_order_told s g t ≡ o →
          OfSome o (λ a. (r : Text → Bool) × (u : Text → Bool) × SourceApart r u (a ∷ []) (comp_ex e (from p t hs))) →
          OfSome o (λ a. (r : Text → Bool) × (u : Text → Bool) × SourceApart r u (a ∷ []) (comp_ex e (from p t hs))
          × SourceInOrder a (comp_ex e (from p t hs)) env)
      go None q a = tt
      go (Some b) q a = (a.0, a.1, a.2, (there t env v.1.0, viewed (matrix_listing s.one t) refl b q c.1))
  told w _ v m c = tt

  in-order-asked : (e : Ex) → Valued false e env → Meets e env → InOrderBeside s g e env → InOrderAsks s g e env
  in-order-asked e v m c = or-map (splice e) _ _ _ _ c (λ f q u. (u.0, u.1, u.2, spliced g env typed false e v))
      (λ c. or-map (split e) _ _ _ _ c (λ f q u. (u.0, u.1, domain g env typed false e v))
      (λ c. or-map (name_over_tuple s.parts e) _ _ _ _ c (λ f q u. tt)
      (λ c. or-map (name_over_record s.parts e) _ _ _ _ c (λ f q u. tt)
      (λ c. or-map (pattern_opened g s.one e) _ _ _ _ c (λ f q u. pattern e u) (λ c. told false e v m c)))))

-- ---- behind plain generators

list-of-there : (o : Option (List Value)) → is_some o ≡ true → is_some (option_map list_value o) ≡ true
list-of-there None t = cc
list-of-there (Some xs) t = refl

there-of-list : (o : Option (List Value)) → is_some (option_map list_value o) ≡ true → is_some o ≡ true
there-of-list None t = cc
there-of-list (Some xs) t = refl

pub kept-behind-asked : (s : Supply) (g : Names Ty) (env : Env) → Typed g env → (w : Bool) (e : Ex) → Valued w e env → Meets e env →
    KeptBehindBeside s g e env → KeptBehindAsks s g e env
kept-behind-asked s g env typed w (comp_ex e gs) v m c = go (at_first_open gs) refl c
  where
    Items : Env → Option (List Value)
    Items here = option_map (λ v. v ∷ []) (meaning e here)

    H : Opened → Env → Type 0
    H t = Here t.after (names_behind t.before g) (λ h. Valued false e h) (λ h. Meets e h)

    go : (o : Option Opened) → at_first_open gs ≡ o →
        OfSome o (λ t. AtEach t.before env (InOrderBeside s (names_behind t.before g) (comp_ex e t.after))) →
        OfSome o (λ t. AtEach t.before env (InOrderAsks s (names_behind t.before g) (comp_ex e t.after)))
    go None q c = tt
    go (Some t) q c = at-each-join t.before env (H t)
        (λ here. IsTrue (is_some (meaning (comp_ex e t.after) here)) × InOrderBeside s (names_behind t.before g) (comp_ex e t.after) here)
        (InOrderAsks s (names_behind t.before g) (comp_ex e t.after))
        (λ here h k. in-order-asked s (names_behind t.before g) here h.typed (comp_ex e t.after) (k.0, h.under) h.met k.1)
        (at-plain gs t q g env typed (λ h. Valued false e h) (λ h. Meets e h) v.1 m)
        (at-each-join t.before env (λ here. is_some (items_under t.after here Items) ≡ true)
        (InOrderBeside s (names_behind t.before g) (comp_ex e t.after))
        (λ here. IsTrue (is_some (meaning (comp_ex e t.after) here)) × InOrderBeside s (names_behind t.before g) (comp_ex e t.after) here)
        (λ here i k. (list-of-there (items_under t.after here Items) i, k))
        (inner-there t.after Items t.before env (subst (λ z. is_some (items_under z env Items) ≡ true) (opened-are gs t q)
        (there-of-list (items_under gs env Items) v.0))) c)
kept-behind-asked s g env typed w _ v m c = tt
