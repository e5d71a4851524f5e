-- What more rules count on follows from values and types.
use Rattle.std.proofs.Common.{◌≡◌, refl, ◌∙◌, subst, ℕ, zero, suc, Bool, true, false, ◌&&◌, if◌then◌else◌, List, [], ◌∷◌, Option, Some, None, option_map}
use Rattle.std.specs.Prelude.{IsTrue, is_some}
use Rattle.ess_semantics.specs.declared.words.Op2.{Op2}
use Rattle.ess_semantics.specs.declared.words.Fun.{Fun}
use Rattle.ess_semantics.specs.Lists.{and_then, or_else}
use Rattle.ess_semantics.specs.Values.{Text, Value}
use Rattle.ess_semantics.specs.Order.{same_text}
use Rattle.ess_semantics.specs.Names.{Names}
use Rattle.ess_semantics.specs.Trees.{to_component, to_field, index, tuple_literal, record_literal, set_literal, mset_literal, relation_literal, matrix_literal, name_pat, Ex, Exs, number_ex, node_ex, comp_ex, ex2, fun1, no_exs, more_exs, no_gens, from, over}
use Rattle.ess_semantics.specs.Types.{Ty, bool_ty}
use Rattle.ess_semantics.specs.Typed.{Typed}
use Rattle.ess_semantics.specs.Operators.{list_value}
use Rattle.ess_semantics.specs.Meaning.{Env, meaning, members_in, domain_of, collect}
use Rattle.ess_semantics.specs.Meets.{Meets}
use Rattle.ess_semantics.proofs.Tests.{and-both}
use Rattle.ess_rules_laws.specs.Rules.{Unused, SoundOperands, OperandsThere}
use Rattle.ess_rules_laws.specs.FoldRules.{ItemFits, BareFits}
use Rattle.ess_rules_laws.specs.LiteralRules.{nth, FitsMark, ComponentFits}
use Rattle.ess_rules_laws.specs.FieldLiterals.{field_term, FieldFits}
use Rattle.ess_rules_laws.specs.MembershipRules.{CombinedThere}
use Rattle.ess_rules_laws.specs.ChoiceRules.{ChoicesFit}
use Rattle.ess_rules_laws.specs.SpliceRules.{SourceThere}
use Rattle.ess_rules_laws.specs.SplitRules.{DomainThere}
use Rattle.ess_rules_laws.specs.Listings.{Alternative, listing}
use Rattle.ess_rules_laws.specs.ContainerListings.{made_listing}
use Rattle.ess_rules_laws.specs.ListedSources.{Offers, SourceApart}
use Rattle.ess_rules_laws.proofs.Listings.{listing-lists}
use Rattle.ess_rules_laws.proofs.ListingStructures.{listings-met}
use Rattle.ess_rules_laws.proofs.ContainerListings.{made-listings}
use Rattle.ess_refine_laws.specs.ItemsOnce.{items_once}
use Rattle.ess_refine_laws.specs.LeavingConditions.{LeavesFits}
use Rattle.ess_refine_laws.specs.AllRules.{Rule, over_one, over_one_binding, over_a_literal, over_a_source, of_one_source, over_a_comprehension, over_tuples, component_of_a_tuple, field_of_a_record, in_two, choice, condition, Supply, offered, OfSome, rewrite}
use Rattle.ess_refine_laws.specs.WhatRulesCountOn.{ListedApart, SourceListed}
use Rattle.ess_chain_kept_laws.specs.CountsBeside.{CountsBeside}
use Rattle.ess_values_along_laws.specs.Valued.{Valued, AllValued}
use Rattle.ess_values_terms_laws.proofs.ValuedForms.{and-no, there, all-there}
use Rattle.ess_counted_more_laws.specs.MoreCounted.{counts_more, PickedTyped, ItemTyped, BareTyped, ComponentTyped, FieldTyped, CombinedTyped, ChoicesTyped, OffersApart, FoldsTruth, RuleAsks, MoreIsCountedOn}
use Rattle.ess_counted_more_laws.proofs.TypedValues.{truth-there, number-there, container-there}

module _ (g : Names Ty) (env : Env) (typed : Typed g env) where
  -- ---- what is picked or folded

  -- What a word stands on.
  pub on : (m w : Bool) (f : Fun) (l : Ex) → Valued w (fun1 m f l) env → Valued false l env
  on true w f l h = h.1.0
  on false w f l h = subst (λ z. Valued z l env) (and-no w) h.1.0

  fold-item : (w : Bool) (e : Ex) → ItemTyped g e → Valued w e env → ItemFits e env
  fold-item w (fun1 true f (node_ex false matrix_literal (more_exs a no_exs))) t h = truth-there g env typed a t (there a env h.1.0.1.0)
  fold-item w (fun1 false f (node_ex false matrix_literal (more_exs a no_exs))) t h =
      number-there g env typed a t (there a env (on false w f (node_ex false matrix_literal (more_exs a no_exs)) h).1.0)
  fold-item w _ t h = tt

  fold-body : (w : Bool) (e : Ex) → BareTyped g e → Valued w e env → BareFits e env
  fold-body w (fun1 true f (comp_ex e no_gens)) t h = truth-there g env typed e t (there e env h.1.0.1)
  fold-body w (fun1 false f (comp_ex e no_gens)) t h = number-there g env typed e t (there e env (on false w f (comp_ex e no_gens) h).1)
  fold-body w _ t h = tt

  picked : (o : Option Ex) → PickedTyped g bool_ty o → ((a : Ex) → o ≡ Some a → IsTrue (is_some (meaning a env))) → FitsMark true o env
  picked None t h = tt
  picked (Some a) t h = truth-there g env typed a t (h a refl)

  nth-there : (es : Exs) (k : ℕ) (a : Ex) → AllValued false false es env → nth es k ≡ Some a → IsTrue (is_some (meaning a env))
  nth-there no_exs k a h q = cc
  nth-there (more_exs x es) zero a h q = cc
  nth-there (more_exs x es) (suc zero) a h q = subst (λ o. IsTrue (is_some (and_then o (λ z. meaning z env)))) q (there x env h.0)
  nth-there (more_exs x es) (suc (suc k)) a h q = nth-there es (suc k) a h.1 q

  component : (w : Bool) (e : Ex) (s : Supply) (f : Ex) → rewrite s g component_of_a_tuple e ≡ Some f → ComponentTyped g e →
      Valued w e env → ComponentFits e env
  component w (node_ex true (index (to_component k ∷ [])) (more_exs (node_ex false tuple_literal es) no_exs)) s f q t h =
      (all-there es env h.1.0.1, picked (nth es k) t (λ a r. nth-there es k a h.1.0.1 r))
  component w (node_ex false (index (to_component k ∷ [])) (more_exs (node_ex false tuple_literal es) no_exs)) s f q t h =
      (all-there es env (subst (λ z. AllValued false z es env) (and-no (w && false)) h.1.0.1), tt)
  component w e s f q t h = cc

  field-there : (fs : List Text) (es : Exs) (b : Text) (a : Ex) → AllValued false false es env → field_term fs es b ≡ Some a →
      IsTrue (is_some (meaning a env))
  field-there [] es b a h q = cc
  field-there (f ∷ fs) no_exs b a h q = cc
  field-there (f ∷ fs) (more_exs x es) b a h q = go (same_text f b) q (λ r. field-there fs es b a h.1 r)
    where
      go : (c : Bool) → (if c then Some x else field_term fs es b) ≡ Some a →
          (field_term fs es b ≡ Some a → IsTrue (is_some (meaning a env))) → IsTrue (is_some (meaning a env))
      go true q k = subst (λ o. IsTrue (is_some (and_then o (λ z. meaning z env)))) q (there x env h.0)
      go false q k = k q

  field : (w : Bool) (e : Ex) (s : Supply) (f : Ex) → rewrite s g field_of_a_record e ≡ Some f → FieldTyped g e → Valued w e env →
      FieldFits e env
  field w (node_ex true (index (to_field a ∷ [])) (more_exs (node_ex false (record_literal fs) es) no_exs)) s f q t h =
      (all-there es env h.1.0.1, picked (field_term fs es a) t (λ x r. field-there fs es a x h.1.0.1 r))
  field w (node_ex false (index (to_field a ∷ [])) (more_exs (node_ex false (record_literal fs) es) no_exs)) s f q t h =
      (all-there es env (subst (λ z. AllValued false z es env) (and-no (w && false)) h.1.0.1), tt)
  field w e s f q t h = cc

  combined : (w : Bool) (e : Ex) (s : Supply) (f : Ex) → rewrite s g in_two e ≡ Some f → CombinedTyped g e → Valued w e env →
      CombinedThere e env
  combined w (ex2 true Op2.Member x (ex2 false Op2.Union a b)) s f q t h =
      (container-there g env typed a t.0 t.1 (there a env h.1.1.0.1.0), there b env h.1.1.0.1.1.0)
  combined w (ex2 true Op2.Member x (ex2 false Op2.Intersect a b)) s f q t h =
      (container-there g env typed a t.0 t.1 (there a env h.1.1.0.1.0), there b env h.1.1.0.1.1.0)
  combined w (ex2 true Op2.Member x (ex2 false Op2.Minus a b)) s f q t h =
      (container-there g env typed a t.0 t.1 (there a env h.1.1.0.1.0), there b env h.1.1.0.1.1.0)
  combined w e s f q t h = cc

  chosen : (w : Bool) (e : Ex) (s : Supply) (f : Ex) → rewrite s g choice e ≡ Some f → ChoicesTyped g e → Valued w e env → ChoicesFit e env
  chosen w (ex2 false Op2.Times (fun1 false Fun.ToInt c) (fun1 false Fun.ToInt d)) s f q t h = (
    truth-there g env typed c t.0 (there c env (on false (w && true) Fun.ToInt c h.1.0)),
    truth-there g env typed d t.1 (there d env (on false (w && true) Fun.ToInt d h.1.1.0)),
  )
  chosen w (ex2 false Op2.Times (fun1 false Fun.ToInt c) (number_ex n)) s f q t h =
      truth-there g env typed c t (there c env (on false (w && true) Fun.ToInt c h.1.0))
  chosen w e s f q t h = cc

  -- ---- sources

  listed-operands : (x : Text) (t : Ex) (l : List Alternative) → listing g x t ≡ Some l → Valued false t env → OperandsThere t env
  listed-operands x (comp_ex e gs) l q h = tt
  listed-operands x (node_ex false matrix_literal es) l q h = all-there es env h.1
  listed-operands x (node_ex false mset_literal es) l q h = all-there es env h.1
  listed-operands x (node_ex false set_literal es) l q h = all-there es env h.1
  listed-operands x (node_ex false relation_literal es) l q h = all-there es env h.1
  listed-operands x (ex2 false Op2.Union a b) l q h = all-there (more_exs a (more_exs b no_exs)) env h.1
  listed-operands x (ex2 false Op2.Intersect a b) l q h = all-there (more_exs a (more_exs b no_exs)) env h.1
  listed-operands x (ex2 false Op2.Minus a b) l q h = all-there (more_exs a (more_exs b no_exs)) env h.1
  listed-operands x (fun1 false Fun.ToMSet s) l q h = all-there (more_exs s no_exs) env h.1
  listed-operands x (fun1 false Fun.ToSet s) l q h = all-there (more_exs s no_exs) env h.1
  listed-operands x (fun1 false Fun.Parts s) l q h = all-there (more_exs s no_exs) env h.1
  listed-operands x t l q h = cc

  -- What a term offers it offers, where it has values.
  pub offers : (s : Supply) (t : Ex) (l : List Alternative) → offered s g t ≡ Some l → Unused s.one t → SoundOperands g t →
      is_some (or_else (listing g s.one t) (made_listing g s.one s.other t)) ≡ true → Meets t env → Valued false t env → Offers t l env
  offers s t l q n p a m h = first (listing g s.one t) refl a q
    where
      second : (b : Option (List Alternative)) → made_listing g s.one s.other t ≡ b → is_some b ≡ true →
          or_else b (items_once s.one s.other s.third t) ≡ Some l → Offers t l env
      second None r a q = cc
      second (Some k) r a q = made-listings.offers g s.one s.other t l (r ∙ q) n p env typed (there t env h) m

      first : (o : Option (List Alternative)) → listing g s.one t ≡ o → is_some (or_else o (made_listing g s.one s.other t)) ≡ true →
          or_else o (or_else (made_listing g s.one s.other t) (items_once s.one s.other s.third t)) ≡ Some l → Offers t l env
      first None r a q = second (made_listing g s.one s.other t) refl a q
      first (Some k) r a q = record {
        lists = listing-lists g s.one t l (r ∙ q) n p env typed (listed-operands s.one t l (r ∙ q) h);
        met = listings-met g s.one t l (r ∙ q) n env m;
      }

  source : (w : Bool) (s : Supply) (e : Ex) → OffersApart s g e → Unused s.one e → Meets e env → Valued w e env → SourceListed s g e env
  source w s (fun1 m f (comp_ex e (from (name_pat y) t hs))) a n x h = go (offered s g t) refl a.0
    where
      c : Valued false (comp_ex e (from (name_pat y) t hs)) env
      c = on m w f (comp_ex e (from (name_pat y) t hs)) h

      go : (o : Option (List Alternative)) → offered s g t ≡ o →
          OfSome o (λ l. (r : Text → Bool) × (u : Text → Bool) × SourceApart r u l (fun1 m f (comp_ex e (from (name_pat y) t hs)))) →
          OfSome o (λ l. ListedApart l (fun1 m f (comp_ex e (from (name_pat y) t hs))) env)
      go None q k = tt
      go (Some l) q k = (k.0, k.1, k.2, (there t env c.1.0, offers s t l q n.0.1.1 a.1 a.2 x.0.0 c.1.0))
  source w s _ a n x h = tt

  -- The list that a word stands on is there.
  word-there : (m w : Bool) (f : Fun) (l : Ex) → Valued w (fun1 m f l) env → OperandsThere (fun1 m f l) env
  word-there m w f l h = and-both (is_some (meaning l env)) true (there l env (on m w f l h)) refl

  literal : (w : Bool) (e : Ex) (s : Supply) (f : Ex) → rewrite s g over_a_literal e ≡ Some f → Valued w e env → OperandsThere e env
  literal w (fun1 m f (comp_ex e (from (name_pat y) (node_ex false matrix_literal es) hs))) s k q h =
      word-there m w f (comp_ex e (from (name_pat y) (node_ex false matrix_literal es) hs)) h
  literal w (fun1 m f (comp_ex e (from (name_pat y) (node_ex false mset_literal es) hs))) s k q h =
      word-there m w f (comp_ex e (from (name_pat y) (node_ex false mset_literal es) hs)) h
  literal w e s f q h = cc

  sourced : (w : Bool) (e : Ex) (s : Supply) (f : Ex) → rewrite s g over_a_source e ≡ Some f → Valued w e env → OperandsThere e env
  sourced w (fun1 m f (comp_ex e (from (name_pat y) t hs))) s k q h =
      word-there m w f (comp_ex e (from (name_pat y) t hs)) h
  sourced w e s f q h = cc

  -- The first source is there.
  pub spliced : (w : Bool) (e : Ex) → Valued w e env → SourceThere e env
  spliced w (comp_ex e (from p t hs)) h = there t env h.1.0
  spliced w _ h = tt

  -- ---- domains and conditions

  -- And the members of the first domain are.
  pub domain : (w : Bool) (e : Ex) → Valued w e env → DomainThere e env
  domain w (comp_ex e (over p d hs)) h = go (members_in (domain_of d env)) _ h.0
    where
      go : (o : Option (List Value)) (F : Value → Option (List Value)) →
          IsTrue (is_some (option_map list_value (and_then o (λ vs. collect vs F)))) → IsTrue (is_some o)
      go None F h = cc
      go (Some vs) F h = refl
  domain w _ h = tt

  leaves : (w : Bool) (e : Ex) → FoldsTruth e → Valued w e env → LeavesFits e env
  leaves w (fun1 true f (comp_ex e gs)) t h = (there (comp_ex e gs) env h.1.0, tt)
  leaves w (fun1 false f (comp_ex e gs)) t h = cc
  leaves w _ t h = tt

  -- ---- each rule

  each : (s : Supply) (r : Rule) (e f : Ex) → rewrite s g r e ≡ Some f → counts_more r ≡ true → RuleAsks s g r e → Unused s.one e →
      Meets e env → (w : Bool) → Valued w e env → CountsBeside s g r e env
  each s over_one e f q i a n x w h = (typed, fold-item w e a h)
  each s over_one_binding e f q i a n x w h = (typed, fold-body w e a h)
  each s over_a_literal e f q i a n x w h = (typed, (a.0, a.1, literal w e s f q h))
  each s over_a_source e f q i a n x w h = (typed, (source w s e a n x h, sourced w e s f q h))
  each s of_one_source e f q i a n x w h = (typed, source w s e a n x h)
  each s over_a_comprehension e f q i a n x w h = (typed, (a.0, a.1, a.2, spliced w e h))
  each s over_tuples e f q i a n x w h = (typed, (a.0, a.1, domain w e h))
  each s component_of_a_tuple e f q i a n x w h = (typed, component w e s f q a h)
  each s field_of_a_record e f q i a n x w h = (typed, field w e s f q a h)
  each s in_two e f q i a n x w h = (typed, combined w e s f q a h)
  each s choice e f q i a n x w h = (typed, chosen w e s f q a h)
  each s condition e f q i a n x w h = (typed, leaves w e a h)
  each s r e f q i a n x w h = cc

-- What is proved of what these rules count on.
pub more-is-counted-on : MoreIsCountedOn
more-is-counted-on = λ s g r e f q i a env t n x w v. each g env t s r e f q i a n x w v
