-- No rule of comprehensions whose items have an order fires at a bare tree, or at a list of bare items.
use Rattle.std.proofs.Common.{◌≡◌, refl, ap, ◌∙◌, ℕ, Bool, true, false, ◌&&◌, if◌then◌else◌, List, [], ◌∷◌, Option, None, option_map}
use Rattle.ess_semantics.specs.declared.words.Fun.{Fun}
use Rattle.ess_semantics.specs.Lists.{and_then, or_else}
use Rattle.ess_semantics.specs.Values.{Text}
use Rattle.ess_semantics.specs.Names.{Names}
use Rattle.ess_semantics.specs.NamesAt.{names_behind}
use Rattle.ess_semantics.specs.Trees.{word, Ex, comp_ex, fun1, Gens}
use Rattle.ess_semantics.specs.Types.{Ty}
use Rattle.ess_semantics.specs.Typing.{type_of}
use Rattle.ess_semantics.specs.ExpressionJudgements.{forgets_order}
use Rattle.ess_rules_laws.specs.AlternativeLookups.{select_each, select_whole_each}
use Rattle.ess_refine_laws.specs.AllRules.{Supply}
use Rattle.ess_open_rules_laws.specs.OpenGenerators.{put_before}
use Rattle.ess_open_rules_laws.specs.OpenRules.{gives_scalar, is_compound_ty}
use Rattle.ess_ordered_laws.specs.NumberedItems.{ordered_lookup}
use Rattle.ess_ordered_laws.specs.IndexedSources.{indexed_source}
use Rattle.ess_ordered_laws.specs.PickedSources.{picked_source}
use Rattle.ess_ordered_laws.specs.SourcesOfItems.{item_source, item_behind, over_an_item}
use Rattle.ess_ordered_laws.specs.OrderedRules.{OrderedRule, an_item, of_an_item, source_by_indices, source_of_an_item, keeps_order, operand_lookup, over_operand, at_operand, ordered_rewrite}
use Rattle.ess_bare_laws.specs.Bare.{Bare, number, truth, named, cell, one, two, power, chosen, folded, added, ordered, Row, row, Ranging, at_end, through, where_holds}
use Rattle.ess_bare_laws.proofs.Picks.{either-way, none-open, axes-ranging}

neither : {A : Type 0} (o p : Option A) → o ≡ None → p ≡ None → or_else o p ≡ None
neither o p a b = ap (λ x. or_else x p) a ∙ b

module _ (cells : Text → Option (Bool × ℕ)) (s : Supply) (g : Names Ty) (r : Names Bool) where
  abbrev F : Ex → Bool → Type 0
  F = Bare cells r

  -- Nothing is looked up.
  no-lookup : {e : Ex} {m : Bool} → F e m → (z : Text) (ys : List Text) → ordered_lookup z ys e ≡ None
  no-lookup f z [] = refl
  no-lookup number z (y ∷ ys) = refl
  no-lookup truth z (y ∷ ys) = refl
  no-lookup (named h) z (y ∷ ys) = refl
  no-lookup (cell h i) z (y ∷ ys) = refl
  no-lookup (one o f) z (y ∷ ys) = refl
  no-lookup (two o f h) z (y ∷ ys) = refl
  no-lookup (power f h) z (y ∷ ys) = refl
  no-lookup (chosen f) z (y ∷ ys) = refl
  no-lookup (folded w k f) z (y ∷ ys) = refl
  no-lookup (added k f) z (y ∷ ys) = refl
  no-lookup (ordered w f h) z (y ∷ ys) = refl

  list-lookup : (e : Ex) (gs : Gens) (z : Text) (ys : List Text) → ordered_lookup z ys (comp_ex e gs) ≡ None
  list-lookup e gs z [] = refl
  list-lookup e gs z (y ∷ ys) = refl

  -- Nor is there a comprehension over what is picked.
  no-comp : {e : Ex} {m : Bool} → F e m → picked_source s g e ≡ None
  no-comp number = refl
  no-comp f = refl

  list-comp : (e : Ex) {t : Names Bool} {gs : Gens} → Ranging cells r gs t → picked_source s g (comp_ex e gs) ≡ None
  list-comp e at_end = refl
  list-comp e (through n k) = refl
  list-comp e (where_holds f k) = refl

  -- So an operand offers nothing, whatever the root is.
  abbrev NoOffer : Ex → Type 0
  NoOffer t = (e : Ex) → operand_lookup s g e t ≡ None

  none-offered : (t : Ex) → ordered_lookup s.third s.parts t ≡ None → picked_source s g t ≡ None → NoOffer t
  none-offered t q p e = neither (ordered_lookup s.third s.parts t) (if keeps_order e then picked_source s g t else None) q
      (either-way (keeps_order e) (picked_source s g t) p)

  none-looked : {t : Ex} {m : Bool} → F t m → NoOffer t
  none-looked {t} f = none-offered t (no-lookup f s.third s.parts) (no-comp f)

  list-looked : (x : Ex) {t : Names Bool} {gs : Gens} → Ranging cells r gs t → NoOffer (comp_ex x gs)
  list-looked x {gs = gs} k = none-offered (comp_ex x gs) (list-lookup x gs s.third s.parts) (list-comp x k)

  row-looked : {x : Ex} {m : Bool} → Row cells r x m → NoOffer x
  row-looked (row {e = x} k f) = list-looked x (axes-ranging cells k)

  alone : (e : Ex) → ordered_lookup s.third s.parts e ≡ None → ordered_rewrite s g an_item e ≡ None
  alone e q = ap (λ o. and_then o (λ l. if gives_scalar g e then select_whole_each s.one l e else None)) q

  operand : (k : ℕ) (e t : Ex) → NoOffer t → over_operand s g k e t ≡ None
  operand k e t q = ap (λ o. and_then o
      (λ l. if gives_scalar g e && is_compound_ty (type_of t g) then select_each s.one k l e else None)) (q e)

  no-operands : {e : Ex} {m : Bool} → F e m → ordered_rewrite s g of_an_item e ≡ None
  no-operands number = refl
  no-operands truth = refl
  no-operands (named h) = refl
  no-operands (cell h i) = refl
  no-operands {e} (one {x = x} o f) = neither (at_operand s g 1 e) (at_operand s g 2 e)
      (operand 1 e x (none-looked f)) refl
  no-operands {e} (two {x = x} {y = y} o f h) = neither (at_operand s g 1 e) (at_operand s g 2 e)
      (operand 1 e x (none-looked f)) (operand 2 e y (none-looked h))
  no-operands {e} (power {x = x} {y = y} f h) = neither (at_operand s g 1 e) (at_operand s g 2 e)
      (operand 1 e x (none-looked f)) (operand 2 e y (none-looked h))
  no-operands {e} (chosen {x = x} f) = neither (at_operand s g 1 e) (at_operand s g 2 e)
      (operand 1 e x (none-looked f)) refl
  no-operands {e} (folded {e = x} {gs = gs} w k f) = neither (at_operand s g 1 e) (at_operand s g 2 e)
      (operand 1 e (comp_ex x gs) (list-looked x k)) refl
  no-operands {e} (added {e = x} {gs = gs} k f) = neither (at_operand s g 1 e) (at_operand s g 2 e)
      (operand 1 e (comp_ex x gs) (list-looked x (axes-ranging cells k))) refl
  no-operands {e} (ordered {x = x} {y = y} w f h) = neither (at_operand s g 1 e) (at_operand s g 2 e)
      (operand 1 e x (row-looked f)) (operand 2 e y (row-looked h))

  no-source : {e : Ex} {m : Bool} → F e m → ordered_rewrite s g source_by_indices e ≡ None
  no-source number = refl
  no-source f = refl

  -- No source is an item.
  no-item : (any : Bool) (e : Ex) {t : Names Bool} {gs : Gens} → Ranging cells r gs t → item_behind s any (comp_ex e gs) ≡ None
  no-item any e k = ap (λ o. and_then o (λ t. and_then (item_source s any (comp_ex e t.after)) (put_before t.before))) (none-open cells k)

  under-word : (b : Bool) (w : Fun) (e : Ex) {t : Names Bool} {gs : Gens} → Ranging cells r gs t →
      over_an_item s (fun1 b w (comp_ex e gs)) ≡ None
  under-word b w e {gs = gs} k = either-way (forgets_order (word w)) (option_map (fun1 b w) (item_behind s true (comp_ex e gs)))
      (ap (option_map (fun1 b w)) (no-item true e k))

  -- `toInt` has no source.
  of-a-truth : (x : Ex) → over_an_item s (fun1 false Fun.ToInt x) ≡ None
  of-a-truth (comp_ex e gs) = refl
  of-a-truth x = refl

  no-item-source : {e : Ex} {m : Bool} → F e m → ordered_rewrite s g source_of_an_item e ≡ None
  no-item-source number = refl
  no-item-source (chosen {x = x} f) = of-a-truth x
  no-item-source (folded {f = w} {e = x} v k f) = under-word true w x k
  no-item-source (added {e = x} k f) = under-word false Fun.Sum x (axes-ranging cells k)
  no-item-source f = refl

  -- None of the four at a bare tree.
  pub no-order : (u : OrderedRule) {e : Ex} {m : Bool} → F e m → ordered_rewrite s g u e ≡ None
  no-order an_item {e = e} f = alone e (no-lookup f s.third s.parts)
  no-order of_an_item f = no-operands f
  no-order source_by_indices f = no-source f
  no-order source_of_an_item f = no-item-source f

  -- None at a list.
  pub no-order-list : (u : OrderedRule) {t : Names Bool} {gs : Gens} (e : Ex) → Ranging cells r gs t →
      ordered_rewrite s g u (comp_ex e gs) ≡ None
  no-order-list an_item {gs = gs} e k = alone (comp_ex e gs) (list-lookup e gs s.third s.parts)
  no-order-list of_an_item e k = refl
  no-order-list source_by_indices e k = ap (λ o. and_then o
      (λ t. and_then (indexed_source (names_behind t.before g) s.one (comp_ex e t.after)) (put_before t.before))) (none-open cells k)
  no-order-list source_of_an_item e k = no-item false e k
