-- Rules of the first generator that isn't plain keep what they rewrite, and so does a source that is an item.
use Rattle.std.proofs.Common.{◌≡◌, refl, sym, ap, subst, Bool, true, false, if◌then◌else◌, List, [], ◌∷◌, Option, Some, None, option_map}
use Rattle.ess_semantics.specs.declared.words.Fun.{Fun}
use Rattle.ess_semantics.specs.Lists.{and_then}
use Rattle.ess_semantics.specs.Trees.{word, name_pat, Ex, comp_ex, Gens, from, fun1}
use Rattle.ess_semantics.specs.ExpressionJudgements.{forgets_order}
use Rattle.ess_semantics.specs.Operators.{value_of_node, false_where_undefined}
use Rattle.ess_semantics.specs.Contexts.{AtEach}
use Rattle.ess_semantics.specs.Meaning.{Env, meaning}
use Rattle.ess_semantics.specs.Meets.{Meets}
use Rattle.ess_semantics.specs.Kept.{Keeps}
use Rattle.ess_rules_laws.specs.Listings.{Alternative}
use Rattle.ess_rules_laws.specs.SpliceRules.{append_gens}
use Rattle.ess_rules_laws.specs.AlternativeLookups.{LookedBy}
use Rattle.ess_rules_laws.proofs.Bindings.{at-each-map}
use Rattle.ess_rules_laws.proofs.Tails.{tails-congruent}
use Rattle.ess_refine_laws.specs.AllRules.{Supply, OfSome, only_one}
use Rattle.ess_kinds_kept_laws.proofs.TermsLookedUp.{unmarked-itself}
use Rattle.ess_open_rules_laws.specs.OpenGenerators.{Opened, at_first_open, put_before, behind_plain}
use Rattle.ess_open_kept_laws.proofs.OpenedFolds.{opened-are}
use Rattle.ess_ordered_laws.specs.NumberedItems.{ordered_lookup}
use Rattle.ess_ordered_laws.specs.SourcesOfItems.{may_be_taken, over_the_item, item_source, item_behind, over_an_item}
use Rattle.ess_ordered_laws.proofs.SourcesOfItems.{items-are-sources}
use Rattle.ess_ordered_kept_laws.specs.OrderedAsks.{BehindAsks, ItemAsks, ItemBehindAsks}
use Rattle.ess_ordered_kept_laws.proofs.OrderedLookups.{ordered-looked}
use Rattle.ess_ordered_kept_laws.proofs.OperandLookups.{chosen-is}

-- ---- behind plain generators

module _ (r : Gens → Ex → Option Ex) (P : Gens → Ex → Env → Type 0)
    (keeps : (gs : Gens) (e f : Ex) → r gs e ≡ Some f → (env : Env) → P gs e env → Keeps e f env) where
  -- What keeps the comprehension from that generator on keeps the whole one.
  pub behind-keeps : (e f : Ex) → behind_plain r e ≡ Some f → (env : Env) → BehindAsks P e env → Keeps e f env
  behind-keeps (comp_ex e gs) f q env c = go (at_first_open gs) refl q c
    where
      put : (t : Opened) → at_first_open gs ≡ Some t → (o : Option Ex) → r t.before (comp_ex e t.after) ≡ o →
          and_then o (put_before t.before) ≡ Some f → AtEach t.before env (P t.before (comp_ex e t.after)) → Keeps (comp_ex e gs) f env
      put t a None k q c = cc
      put t a (Some (comp_ex x ks)) k q c = subst (λ z. Keeps (comp_ex e z) f env) (sym (opened-are gs t a))
          (subst (λ z. Keeps (comp_ex e (append_gens t.before t.after)) z env)
          (let z : comp_ex x (append_gens t.before ks) ≡ f = cc in z)
          (tails-congruent t.before t.after ks e x env
          (at-each-map t.before env (P t.before (comp_ex e t.after)) _
          (λ here p. keeps t.before (comp_ex e t.after) (comp_ex x ks) k here p) c)))
      put t a (Some _) k q c = cc

      go : (o : Option Opened) → at_first_open gs ≡ o →
          and_then o (λ t. and_then (r t.before (comp_ex e t.after)) (put_before t.before)) ≡ Some f →
          OfSome o (λ t. AtEach t.before env (P t.before (comp_ex e t.after))) → Keeps (comp_ex e gs) f env
      go None a q c = cc
      go (Some t) a q c = put t a (r t.before (comp_ex e t.after)) refl q c
  behind-keeps _ f q env c = cc

-- ---- a source that is an item

item-keeps : (s : Supply) (any : Bool) (e f : Ex) → item_source s any e ≡ Some f → (env : Env) → ItemAsks s e env → Keeps e f env
item-keeps s any (comp_ex e (from (name_pat y) t hs)) f q env c = go (ordered_lookup s.third s.parts t) refl q
  where
    go : (o : Option (List Alternative)) → ordered_lookup s.third s.parts t ≡ o →
        and_then (only_one o) (λ a. if may_be_taken any a then Some (over_the_item s.other y e hs a) else None) ≡ Some f →
        Keeps (comp_ex e (from (name_pat y) t hs)) f env
    go None p q = cc
    go (Some []) p q = cc
    go (Some (a ∷ [])) p q = λ m. subst (λ z. (meaning (comp_ex e (from (name_pat y) t hs)) env ≡ meaning z env) × Meets z env)
        (let z : Some (over_the_item s.other y e hs a) ≡ Some f = chosen-is (may_be_taken any a) _ f q in
        let u : over_the_item s.other y e hs a ≡ f = cc in u)
        (items-are-sources s.other y t e hs a c.0 env c.2 (subst (λ z. LookedBy z (a ∷ []) env) (unmarked-itself t c.1)
        (ordered-looked s.third s.parts t (a ∷ []) p env c.3 m.0)) m)
    go (Some (a ∷ b ∷ l)) p q = cc
item-keeps s any _ f q env c = cc

-- What keeps the one operand of a word keeps the word.
word-keeps : (b : Bool) (f : Fun) (e x : Ex) (env : Env) → Keeps e x env → Keeps (fun1 b f e) (fun1 b f x) env
word-keeps b f e x env k m = let r = k m.0 in
    (ap (λ o. false_where_undefined b (value_of_node (word f) (o ∷ []))) r.0, (r.1, tt))

-- So it keeps the comprehension, and a word of it.
pub over-item-keeps : (s : Supply) (e f : Ex) → over_an_item s e ≡ Some f → (env : Env) → ItemBehindAsks s e env → Keeps e f env
over-item-keeps s (fun1 b w (comp_ex e gs)) f q env c = go (item_behind s true (comp_ex e gs)) refl
    (chosen-is (forgets_order (word w)) (option_map (fun1 b w) (item_behind s true (comp_ex e gs))) f q)
  where
    go : (o : Option Ex) → item_behind s true (comp_ex e gs) ≡ o → option_map (fun1 b w) o ≡ Some f → Keeps (fun1 b w (comp_ex e gs)) f env
    go None p q = cc
    go (Some x) p q = subst (λ z. Keeps (fun1 b w (comp_ex e gs)) z env) (let z : fun1 b w x ≡ f = cc in z)
        (word-keeps b w (comp_ex e gs) x env
        (behind-keeps (λ ks. item_source s true) (λ ks. ItemAsks s) (λ ks. item-keeps s true) (comp_ex e gs) x p env c))
over-item-keeps s (comp_ex e gs) f q env c =
    behind-keeps (λ ks. item_source s false) (λ ks. ItemAsks s) (λ ks. item-keeps s false) (comp_ex e gs) f q env c
over-item-keeps s _ f q env c = cc
