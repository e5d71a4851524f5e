-- Items by their numbers, and operators on them and on comprehensions over what is picked, keep their meaning where there are values.
use Rattle.std.proofs.Common.{◌≡◌, refl, sym, subst, ℕ, Bool, true, false, ◌&&◌, not, if◌then◌else◌, List, [], ◌∷◌, Option, Some, None, option_map}
use Rattle.std.specs.Prelude.{IsTrue, is_some}
use Rattle.ess_semantics.specs.Lists.{and_then, or_else}
use Rattle.ess_semantics.specs.Values.{Text}
use Rattle.ess_semantics.specs.Names.{Names}
use Rattle.ess_semantics.specs.Trees.{name_pat, Op, Ex, Exs, node_ex, comp_ex, from}
use Rattle.ess_semantics.specs.Types.{Ty}
use Rattle.ess_semantics.specs.Typing.{type_of}
use Rattle.ess_semantics.specs.Typed.{Typed}
use Rattle.ess_semantics.specs.Contexts.{guards}
use Rattle.ess_semantics.specs.Meaning.{Env, meaning}
use Rattle.ess_semantics.specs.Meets.{MeetsAll}
use Rattle.ess_semantics.specs.Kept.{Keeps}
use Rattle.ess_semantics.proofs.Tests.{and-left}
use Rattle.ess_guard_natural_laws.specs.TotalButNatural.{opens_places}
use Rattle.ess_rules_laws.specs.Rules.{Unused}
use Rattle.ess_rules_laws.specs.LiteralRules.{nth}
use Rattle.ess_rules_laws.specs.Listings.{Alternative}
use Rattle.ess_rules_laws.specs.AlternativeLookups.{LookedBy, LooksUpEach, lookup_through_each, select_each, select_whole_each}
use Rattle.ess_rules_laws.proofs.AlternativeSelections.{nth-met, select_whole_each-keeps}
use Rattle.ess_refine_laws.specs.AllRules.{Supply, OfSome}
use Rattle.ess_values_along_laws.specs.Valued.{Valued}
use Rattle.ess_counted_more_laws.proofs.TypedValues.{number-there}
use Rattle.ess_kind_rules_laws.specs.TermLookups.{picks, picked_within}
use Rattle.ess_kind_rules_laws.specs.KindRules.{asks_truth}
use Rattle.ess_kinds_kept_laws.specs.LookupAsks.{OrAsks}
use Rattle.ess_kinds_kept_laws.proofs.TermsLookedUp.{unmarked-itself}
use Rattle.ess_open_rules_laws.specs.OpenRules.{gives_scalar, is_compound_ty}
use Rattle.ess_open_counted_laws.specs.PicksBeside.{RootTyped}
use Rattle.ess_open_counted_laws.proofs.PicksThere.{picks-there-keep}
use Rattle.ess_open_counted_laws.proofs.LookupsCounted.{or-map, lookup-asked}
use Rattle.ess_open_counted_laws.proofs.PicksCounted.{within-first, selected}
use Rattle.ess_ordered_laws.specs.NumberedItems.{numbered_lookup, ordered_lookup}
use Rattle.ess_ordered_laws.specs.Laws.{NumberedApart}
use Rattle.ess_ordered_laws.specs.PickedSources.{is_untold, source_lookup, each_source, picked_source}
use Rattle.ess_ordered_laws.specs.OrderedRules.{keeps_order, operand_lookup, over_operand, at_operand}
use Rattle.ess_ordered_laws.proofs.NumberedGenerators.{items-are-numbered}
use Rattle.ess_ordered_kept_laws.specs.OrderedAsks.{OrderedLookupAsks, SourcePickedAsks, OperandAsks}
use Rattle.ess_ordered_kept_laws.proofs.OrderedLookups.{ordered-looked}
use Rattle.ess_ordered_kept_laws.proofs.OperandLookups.{chosen-is, operand-looked}
use Rattle.ess_ordered_counted_laws.specs.OrderedCounted.{OrderedLookupBeside, SourcePickedBeside, OperandBeside, AtOperandBeside}
use Rattle.ess_ordered_counted_laws.proofs.OrderedLookupsCounted.{is_index, ordered-index, index-there, index-within, index-first, index-guards, ordered-asked}

-- ---- an item alone

module _ (g : Names Ty) (env : Env) (typed : Typed g env) (x z : Text) where
  -- A truth value.
  truth-item : (op : Op) (es : Exs) (f : Ex) → is_index (node_ex true op es) ≡ true → (w : Bool) → Valued w (node_ex true op es) env →
      (y : Text) (us : List Text) → OrderedLookupBeside z (y ∷ us) (node_ex true op es) → (l : List Alternative) →
      ordered_lookup z (y ∷ us) (node_ex true op es) ≡ Some l → select_whole_each x l (node_ex true op es) ≡ Some f →
      Keeps (node_ex true op es) f env
  truth-item op es f i w v y us c l q r = go (picked_within (node_ex true op es)) refl q c
    where
      Root : Ex
      Root = node_ex true op es

      behind : guards op ≡ false
      behind = index-guards true op es i

      through : (t : Ex) → picked_within Root ≡ Some t → (o : Option (List Alternative)) → ordered_lookup z us t ≡ o →
          and_then o (λ k. lookup_through_each y 1 k Root) ≡ Some l →
          Unused y Root × IsTrue (not (asks_truth t)) × OrderedLookupBeside z us t → Keeps Root f env
      through t n None p q c = cc
      through t n (Some k) p q c = λ m. let j = within-first true op es t n in
          let a = ordered-asked env z us t k p c.1 false (index-within env w Root t n v) c.2 in
          picks-there-keep.of_a_truth x y 1 k l Root f q r c.0 env (subst (λ o. LooksUpEach o k env) (sym j)
          (subst (λ u. LookedBy u k env) (unmarked-itself t c.1)
          (ordered-looked z us t k p env a (nth-met es 1 t env j (subst (λ b. MeetsAll b es env) behind m))))) m

      go : (o : Option Ex) → picked_within Root ≡ o → elim o as (λ u. Option (List Alternative)) [
        | None ↦ numbered_lookup z us Root
        | Some t ↦ and_then (ordered_lookup z us t) (λ k. lookup_through_each y 1 k Root)
      ] ≡ Some l → elim o as (λ u. Type 0) [
        | None ↦ NumberedApart z us Root
        | Some t ↦ Unused y Root × IsTrue (not (asks_truth t)) × OrderedLookupBeside z us t
      ] → Keeps Root f env
      go None n q c = λ m. select_whole_each-keeps x l Root f r env
          (items-are-numbered z us Root l q c env (index-first env w Root i v) m, tt) m
      go (Some t) n q c = through t n (ordered_lookup z us t) refl q c

  -- Any scalar.
  pub item-keeps : (ys : List Text) (e f : Ex) (l : List Alternative) → RootTyped g e → OrderedLookupBeside z ys e → (w : Bool) →
      Valued w e env → ordered_lookup z ys e ≡ Some l → select_whole_each x l e ≡ Some f → Keeps e f env
  item-keeps [] e f l r c w v q p = cc
  item-keeps (y ∷ us) (node_ex true op es) f l r c w v q p =
      truth-item op es f (ordered-index z (y ∷ us) (node_ex true op es) l q) w v y us c l q p
  item-keeps (y ∷ us) (node_ex false op es) f l r c w v q p = λ m. select_whole_each-keeps x l (node_ex false op es) f p env (
    ordered-looked z (y ∷ us) (node_ex false op es) l q env (ordered-asked env z (y ∷ us) (node_ex false op es) l q refl w v c) m,
    number-there g env typed (node_ex false op es) r
        (index-there env w (node_ex false op es) (ordered-index z (y ∷ us) (node_ex false op es) l q) refl v),
  ) m
  item-keeps (y ∷ us) _ f l r c w v q p = cc

-- ---- an operand

module _ (s : Supply) (g : Names Ty) (env : Env) (typed : Typed g env) where
  -- A comprehension over what is picked.
  source-asked : (w : Bool) (t : Ex) (l : List Alternative) → picked_source s g t ≡ Some l → SourcePickedBeside s g t env → Valued w t env →
      SourcePickedAsks s g t env × IsTrue (is_some (meaning t env))
  source-asked w (comp_ex e (from (name_pat y) t hs)) l q c v = (
    (
      typed,
      c.0,
      c.1,
      (λ i. v.0),
      or-map (ordered_lookup s.third s.parts t) _ _ _ _ c.2 (λ k p u. ordered-asked env s.third s.parts t k p c.1 false v.1.0 u)
          (λ u. lookup-asked g env typed s.third s.parts t picked c.1 false v.1.0 u),
    ),
    v.0,
  )
    where
      untold : (b : Bool) → (if b then option_map (λ l. each_source s.other y l e hs) (source_lookup s g t) else None) ≡ Some l → b ≡ true
      untold true q = refl
      untold false q = cc

      picked : picks t ≡ true
      picked = and-left (picks t) _ (untold (is_untold s g t) q)
  source-asked w _ l q c v = cc

  -- Any operand.
  operand-asked : (w : Bool) (e t : Ex) (l : List Alternative) → operand_lookup s g e t ≡ Some l → OperandBeside s g t env →
      Valued w t env →
      OperandAsks s g t env × IsTrue (is_some (meaning t env))
  operand-asked w e t l q c v = go (ordered_lookup s.third s.parts t) refl q c
    where
      go : (o : Option (List Alternative)) → ordered_lookup s.third s.parts t ≡ o →
          or_else o (if keeps_order e then picked_source s g t else None) ≡ Some l →
          OrAsks o (λ l. IsTrue (not (asks_truth t)) × OrderedLookupBeside s.third s.parts t) (SourcePickedBeside s g t env) →
          OrAsks o (λ l. IsTrue (not (asks_truth t)) × OrderedLookupAsks s.third s.parts t env) (SourcePickedAsks s g t env)
          × IsTrue (is_some (meaning t env))
      go None p q c = source-asked w t l (chosen-is (keeps_order e) (picked_source s g t) l q) c v
      go (Some k) p q c = (
        (c.0, ordered-asked env s.third s.parts t k p c.0 w v c.1),
        index-there env w t (ordered-index s.third s.parts t k p) c.0 v,
      )

  pub at-keeps : (k : ℕ) (e f : Ex) → at_operand s g k e ≡ Some f → Unused s.one e → RootTyped g e → AtOperandBeside s g k e env →
      (w : Bool) → Valued w e env → Keeps e f env
  at-keeps k (node_ex b op es) f q u r c w v = go (nth es k) refl q c
    where
      inner : (a : Ex) → nth es k ≡ Some a → OperandBeside s g a env → (o : Option (List Alternative)) →
          operand_lookup s g (node_ex b op es) a ≡ o →
          and_then o (λ l. if gives_scalar g (node_ex b op es) && is_compound_ty (type_of a g)
          then select_each s.one k l (node_ex b op es) else None) ≡ Some f → Keeps (node_ex b op es) f env
      inner a n c None p q = cc
      inner a n c (Some l) p q = selected g env typed s.one b op es f u r w v k a l n
          (λ v m. let h = operand-asked (opens_places w b op) (node_ex b op es) a l p c v in
          operand-looked s g env (node_ex b op es) a l p h.0 m)
          (λ v. let h = operand-asked (opens_places w b op) (node_ex b op es) a l p c v in h.1)
          (chosen-is (gives_scalar g (node_ex b op es) && is_compound_ty (type_of a g)) (select_each s.one k l (node_ex b op es)) f q)

      go : (o : Option Ex) → nth es k ≡ o → and_then o (over_operand s g k (node_ex b op es)) ≡ Some f →
          OfSome o (λ t. OperandBeside s g t env) → Keeps (node_ex b op es) f env
      go None n q c = cc
      go (Some a) n q c = inner a n c (operand_lookup s g (node_ex b op es) a) refl q
  at-keeps k _ f q u r c w v = cc
