-- No rule of comprehensions whose items have an order fires at a flat tree over cells.
use Rattle.std.proofs.Common.{◌≡◌, refl, ap, ◌∙◌, ℕ, Bool, true, false, ◌&&◌, if◌then◌else◌, List, [], ◌∷◌, Option, None}
use Rattle.ess_semantics.specs.declared.words.Fun.{Fun}
use Rattle.ess_semantics.specs.Lists.{and_then, or_else}
use Rattle.ess_semantics.specs.Values.{Text}
use Rattle.ess_semantics.specs.Names.{Names}
use Rattle.ess_semantics.specs.Trees.{Ex, fun1}
use Rattle.ess_semantics.specs.Types.{Ty}
use Rattle.ess_semantics.specs.Typing.{type_of}
use Rattle.ess_rules_laws.specs.AlternativeLookups.{select_each, select_whole_each}
use Rattle.ess_refine_laws.specs.AllRules.{Supply}
use Rattle.ess_open_rules_laws.specs.OpenRules.{gives_scalar, is_compound_ty}
use Rattle.ess_flat_laws.specs.Flat.{Flat, number, truth, named, cell, one, two, chosen, none_marked}
use Rattle.ess_ordered_laws.specs.NumberedItems.{ordered_lookup}
use Rattle.ess_ordered_laws.specs.PickedSources.{picked_source}
use Rattle.ess_ordered_laws.specs.SourcesOfItems.{over_an_item}
use Rattle.ess_ordered_laws.specs.OrderedRules.{OrderedRule, an_item, of_an_item, source_by_indices, source_of_an_item, keeps_order, operand_lookup, over_operand, at_operand, ordered_rewrite}
use Rattle.ess_ordered_flat_laws.specs.FlatOrdered.{FlatTreesHaveNoOrder}

either-way : {A : Type 0} (b : Bool) (o : Option A) → o ≡ None → (if b then o else None) ≡ None
either-way true o p = p
either-way false o p = refl

neither : {A : Type 0} (o p : Option A) → o ≡ None → p ≡ None → or_else o p ≡ None
neither o p a b = ap (λ x. or_else x p) a ∙ b

module _ (cells : Text → Option Bool) (s : Supply) (g : Names Ty) where
  abbrev F : Ex → Bool → Type 0
  F = Flat none_marked cells

  -- Nothing is looked up.
  no-lookup : {e : Ex} {m : Bool} → F e m → (z : Text) (ys : List Text) → ordered_lookup z ys e ≡ None
  no-lookup f z [] = refl
  no-lookup number z (y ∷ ys) = refl
  no-lookup truth z (y ∷ ys) = refl
  no-lookup (named h) z (y ∷ ys) = refl
  no-lookup (cell h) z (y ∷ ys) = refl
  no-lookup (one o f) z (y ∷ ys) = refl
  no-lookup (two o f h c) z (y ∷ ys) = refl
  no-lookup (chosen f) z (y ∷ ys) = refl

  -- Nor is there a comprehension over what is picked.
  no-comp : {e : Ex} {m : Bool} → F e m → picked_source s g e ≡ None
  no-comp number = refl
  no-comp truth = refl
  no-comp (named h) = refl
  no-comp (cell h) = refl
  no-comp (one o f) = refl
  no-comp (two o f h c) = refl
  no-comp (chosen f) = refl

  none-looked : (e : Ex) {t : Ex} {m : Bool} → F t m → operand_lookup s g e t ≡ None
  none-looked e {t} f = neither (ordered_lookup s.third s.parts t) (if keeps_order e then picked_source s g t else None)
      (no-lookup f s.third s.parts) (either-way (keeps_order e) (picked_source s g t) (no-comp f))

  no-alone : {e : Ex} {m : Bool} → F e m → ordered_rewrite s g an_item e ≡ None
  no-alone {e} f = ap (λ o. and_then o (λ l. if gives_scalar g e then select_whole_each s.one l e else None)) (no-lookup f s.third s.parts)

  no-operand : (k : ℕ) (e : Ex) {t : Ex} {m : Bool} → F t m → over_operand s g k e t ≡ None
  no-operand k e {t} f = ap (λ o. and_then o
      (λ l. if gives_scalar g e && is_compound_ty (type_of t g) then select_each s.one k l e else None)) (none-looked e f)

  no-operands : {e : Ex} {m : Bool} → F e m → ordered_rewrite s g of_an_item e ≡ None
  no-operands number = refl
  no-operands truth = refl
  no-operands (named h) = refl
  no-operands (cell h) = refl
  no-operands {e} (one o f) = neither (at_operand s g 1 e) (at_operand s g 2 e) (no-operand 1 e f) refl
  no-operands {e} (two o f h c) = neither (at_operand s g 1 e) (at_operand s g 2 e) (no-operand 1 e f) (no-operand 2 e h)
  no-operands {e} (chosen f) = neither (at_operand s g 1 e) (at_operand s g 2 e) (no-operand 1 e f) refl

  no-source : {e : Ex} {m : Bool} → F e m → ordered_rewrite s g source_by_indices e ≡ None
  no-source number = refl
  no-source truth = refl
  no-source (named h) = refl
  no-source (cell h) = refl
  no-source (one o f) = refl
  no-source (two o f h c) = refl
  no-source (chosen f) = refl

  -- A word of such a tree runs over no source.
  no-word : (b : Bool) (w : Fun) {e : Ex} {m : Bool} → F e m → over_an_item s (fun1 b w e) ≡ None
  no-word b w number = refl
  no-word b w truth = refl
  no-word b w (named h) = refl
  no-word b w (cell h) = refl
  no-word b w (one o f) = refl
  no-word b w (two o f h c) = refl
  no-word b w (chosen f) = refl

  no-item : {e : Ex} {m : Bool} → F e m → ordered_rewrite s g source_of_an_item e ≡ None
  no-item number = refl
  no-item truth = refl
  no-item (named h) = refl
  no-item (cell h) = refl
  no-item (one o f) = refl
  no-item (two o f h c) = refl
  no-item (chosen f) = no-word false Fun.ToInt f

  -- None of the four.
  pub no-order : (r : OrderedRule) {e : Ex} {m : Bool} → F e m → ordered_rewrite s g r e ≡ None
  no-order an_item f = no-alone f
  no-order of_an_item f = no-operands f
  no-order source_by_indices f = no-source f
  no-order source_of_an_item f = no-item f

pub flat-trees-have-no-order : FlatTreesHaveNoOrder
flat-trees-have-no-order cells s g r e m f = no-order cells s g r f
