-- No rule of comprehensions whose items have an order fires at a part of a tree of a membership.
use Rattle.std.proofs.Common.{◌≡◌, refl, ap, ◌∙◌, ℕ, Bool, true, false, ◌&&◌, if◌then◌else◌, Option, Some, None, option_map}
use Rattle.ess_semantics.specs.declared.words.Op2.{Op2}
use Rattle.ess_semantics.specs.declared.words.Fun.{Fun}
use Rattle.ess_semantics.specs.Lists.{and_then, or_else}
use Rattle.ess_semantics.specs.Values.{Text}
use Rattle.ess_semantics.specs.Names.{Names}
use Rattle.ess_semantics.specs.Trees.{matrix_literal, name_pat, Ex, name_ex, node_ex, comp_ex, ex2, fun1, no_exs, more_exs, Gens, no_gens, over, from, cond, Dom}
use Rattle.ess_semantics.specs.Types.{Ty}
use Rattle.ess_semantics.specs.Typing.{type_of}
use Rattle.ess_rules_laws.specs.AlternativeLookups.{select_each, select_whole_each}
use Rattle.ess_refine_laws.specs.AllRules.{Supply, only_one}
use Rattle.ess_open_rules_laws.specs.OpenGenerators.{put_before}
use Rattle.ess_open_rules_laws.specs.OpenRules.{gives_scalar, is_compound_ty}
use Rattle.ess_member_trees_laws.specs.Memberships.{Literal, a_number, a_truth, at_number, at_cell, Axis, truths, numbers, view, cell_at, is_it, some_of, Part, literal_part, bound_part, name_part, view_part, asked_part, cell_part, named_part, it_part, items_of_set, set_part, items_where, where_part, bare_items, bare_part, bare_both, it_both, items_bare, with_bare_part, items_it, with_it_part, list_part, listed_part}
use Rattle.ess_ordered_laws.specs.NumberedItems.{ordered_lookup}
use Rattle.ess_ordered_laws.specs.PickedSources.{picked_source}
use Rattle.ess_ordered_laws.specs.SourcesOfItems.{may_be_taken, over_the_item, item_behind}
use Rattle.ess_ordered_laws.specs.OrderedRules.{OrderedRule, an_item, of_an_item, source_by_indices, source_of_an_item, keeps_order, operand_lookup, over_operand, at_operand, ordered_rewrite}
use Rattle.ess_ordered_member_laws.specs.MembershipOrder.{MembershipsHaveNoOrder}
use Rattle.ess_ordered_member_laws.proofs.PicksNothing.{PicksNothing, literal-picks, name-picks, comp-picks, word-picks, sign-picks, list-picks, view-picks, cell-picks, fold-picks, part-picks}

either-way : {A : Type 0} (b : Bool) (o : Option A) → o ≡ None → (if b then o else None) ≡ None
either-way true o p = p
either-way false o p = refl

neither : {A : Type 0} (o p : Option A) → o ≡ None → p ≡ None → or_else o p ≡ None
neither o p a b = ap (λ x. or_else x p) a ∙ b

-- ---- folds over the domain of a membership

module _ (s : Supply) (g : Names Ty) where
  -- They run over no source.
  where-indices : {A : Dom} → Axis A → (e c : Ex) (x : Text) →
      ordered_rewrite s g source_by_indices (comp_ex e (over (name_pat x) A (cond c no_gens))) ≡ None
  where-indices truths e c x = refl
  where-indices (numbers p q) e c x = refl

  over-indices : {A : Dom} → Axis A → (e : Ex) (x : Text) →
      ordered_rewrite s g source_by_indices (comp_ex e (over (name_pat x) A no_gens)) ≡ None
  over-indices truths e x = refl
  over-indices (numbers p q) e x = refl

  -- Nor over an item, alone and below `or`.
  over-item : {A : Dom} → Axis A → (e : Ex) (x : Text) →
      ordered_rewrite s g source_of_an_item (comp_ex e (over (name_pat x) A no_gens)) ≡ None
  over-item truths e x = refl
  over-item (numbers p q) e x = refl

  where-item : {A : Dom} → Axis A → (e c : Ex) (x : Text) →
      ordered_rewrite s g source_of_an_item (comp_ex e (over (name_pat x) A (cond c no_gens))) ≡ None
  where-item truths e c x = refl
  where-item (numbers p q) e c x = refl

  below-over-item : {A : Dom} → Axis A → (e : Ex) (x : Text) →
      ordered_rewrite s g source_of_an_item (fun1 true Fun.Or (comp_ex e (over (name_pat x) A no_gens))) ≡ None
  below-over-item truths e x = refl
  below-over-item (numbers p q) e x = refl

  below-where-item : {A : Dom} → Axis A → (e c : Ex) (x : Text) →
      ordered_rewrite s g source_of_an_item (fun1 true Fun.Or (comp_ex e (over (name_pat x) A (cond c no_gens)))) ≡ None
  below-where-item truths e c x = refl
  below-where-item (numbers p q) e c x = refl

  -- A source in which nothing is looked up is no item.
  from-item : (any : Bool) (e t : Ex) (x : Text) (hs : Gens) → PicksNothing t →
      item_behind s any (comp_ex e (from (name_pat x) t hs)) ≡ None
  from-item any e t x hs p = ap (λ o. and_then (and_then (only_one o)
      (λ a. if may_be_taken any a then Some (over_the_item s.other x e hs a) else None)) (put_before no_gens)) (p.looked s.third s.parts)

-- ---- the parts of a membership

module _ (n : Text) (A : Dom) (L : Ex) where
  module _ (l : Literal L) where
    module _ (s : Supply) (g : Names Ty) where
      alone-none : {e : Ex} → PicksNothing e → ordered_rewrite s g an_item e ≡ None
      alone-none {e} p =
          ap (λ o. and_then o (λ k. if gives_scalar g e then select_whole_each s.one k e else None)) (p.looked s.third s.parts)

      none-looked : (e t : Ex) → PicksNothing t → operand_lookup s g e t ≡ None
      none-looked e t p = neither (ordered_lookup s.third s.parts t) (if keeps_order e then picked_source s g t else None)
          (p.looked s.third s.parts) (either-way (keeps_order e) (picked_source s g t) (p.comp s g))

      operand-none : (k : ℕ) (e : Ex) {t : Ex} → PicksNothing t → over_operand s g k e t ≡ None
      operand-none k e {t} p = ap (λ o. and_then o
          (λ i. if gives_scalar g e && is_compound_ty (type_of t g) then select_each s.one k i e else None)) (none-looked e t p)

      -- A root over two operands that pick nothing, and one over a single one.
      two-none : (b : Bool) (o : Op2) (c d : Ex) → PicksNothing c → PicksNothing d → ordered_rewrite s g of_an_item (ex2 b o c d) ≡ None
      two-none b o c d p q = neither (at_operand s g 1 (ex2 b o c d)) (at_operand s g 2 (ex2 b o c d))
          (operand-none 1 (ex2 b o c d) p) (operand-none 2 (ex2 b o c d) q)

      one-none : (b : Bool) (f : Fun) (c : Ex) → PicksNothing c → ordered_rewrite s g of_an_item (fun1 b f c) ≡ None
      one-none b f c p = neither (at_operand s g 1 (fun1 b f c)) (at_operand s g 2 (fun1 b f c)) (operand-none 1 (fun1 b f c) p) refl

      -- `or` over a comprehension, and a cell that stands before what picks nothing.
      fold-none : (e : Ex) (gs : Gens) → PicksNothing (comp_ex e gs) → ordered_rewrite s g of_an_item (some_of n A L e gs) ≡ None
      fold-none e gs p = one-none true Fun.Or (comp_ex e gs) p

      both-none : (e d : Ex) → PicksNothing d → ordered_rewrite s g of_an_item (ex2 true Op2.And (cell_at n A L e) d) ≡ None
      both-none e d p = two-none true Op2.And (cell_at n A L e) d (cell-picks n A L e) p

      list-none : (e : Ex) → PicksNothing e → ordered_rewrite s g of_an_item (node_ex false matrix_literal (more_exs e no_exs)) ≡ None
      list-none e p = neither (at_operand s g 1 (node_ex false matrix_literal (more_exs e no_exs)))
          (at_operand s g 2 (node_ex false matrix_literal (more_exs e no_exs)))
          (operand-none 1 (node_ex false matrix_literal (more_exs e no_exs)) p) refl

      operands-none : {a : Ex} → Part n A L g a → ordered_rewrite s g of_an_item a ≡ None
      operands-none (literal_part a_number) = refl
      operands-none (literal_part a_truth) = refl
      operands-none (bound_part at_number) = refl
      operands-none (bound_part at_cell) = refl
      operands-none name_part = refl
      operands-none view_part = refl
      operands-none asked_part = two-none true Op2.Member L (view n A L) (literal-picks l) (view-picks n A L)
      operands-none cell_part = refl
      operands-none named_part = refl
      operands-none (it_part {x = x} h) = two-none true Op2.Eq (name_ex x) L (name-picks x) (literal-picks l)
      operands-none items_of_set = refl
      operands-none (set_part {x = x}) = fold-none (is_it n A L x) (from (name_pat x) (view n A L) no_gens) (comp-picks _ _ (λ s g. refl))
      operands-none items_where = refl
      operands-none (where_part {x = x}) = fold-none (is_it n A L x) (over (name_pat x) A (cond (cell_at n A L (name_ex x)) no_gens))
          (comp-picks _ _ (λ s g. refl))
      operands-none bare_items = refl
      operands-none (bare_part {x = x}) = fold-none (is_it n A L x) no_gens (comp-picks _ _ (λ s g. refl))
      operands-none (bare_both {x = x}) = both-none (name_ex x) (some_of n A L (is_it n A L x) no_gens)
          (word-picks true Fun.Or (comp_ex (is_it n A L x) no_gens))
      operands-none (it_both {x = x}) = both-none (name_ex x) (is_it n A L x) (sign-picks true Op2.Eq (name_ex x) L)
      operands-none items_bare = refl
      operands-none (with_bare_part {x = x}) = fold-none
          (ex2 true Op2.And (cell_at n A L (name_ex x)) (some_of n A L (is_it n A L x) no_gens)) (over (name_pat x) A no_gens)
          (comp-picks _ _ (λ s g. refl))
      operands-none items_it = refl
      operands-none (with_it_part {x = x}) =
          fold-none (ex2 true Op2.And (cell_at n A L (name_ex x)) (is_it n A L x)) (over (name_pat x) A no_gens)
          (comp-picks _ _ (λ s g. refl))
      operands-none (list_part {e = e} o) = list-none e (fold-picks n A L o)
      operands-none (listed_part {e = e} o) = one-none true Fun.Or (node_ex false matrix_literal (more_exs e no_exs)) (list-picks e)

      source-none : {a : Ex} → Axis A → Part n A L g a → ordered_rewrite s g source_by_indices a ≡ None
      source-none x (literal_part a_number) = refl
      source-none x (literal_part a_truth) = refl
      source-none x (bound_part at_number) = refl
      source-none x (bound_part at_cell) = refl
      source-none x name_part = refl
      source-none x view_part = refl
      source-none x asked_part = refl
      source-none x cell_part = refl
      source-none x named_part = refl
      source-none x (it_part h) = refl
      source-none x items_of_set = refl
      source-none x set_part = refl
      source-none x (items_where {x = y}) = where-indices s g x (is_it n A L y) (cell_at n A L (name_ex y)) y
      source-none x where_part = refl
      source-none x bare_items = refl
      source-none x bare_part = refl
      source-none x bare_both = refl
      source-none x it_both = refl
      source-none x (items_bare {x = y}) = over-indices s g x
          (ex2 true Op2.And (cell_at n A L (name_ex y)) (some_of n A L (is_it n A L y) no_gens)) y
      source-none x with_bare_part = refl
      source-none x (items_it {x = y}) = over-indices s g x (ex2 true Op2.And (cell_at n A L (name_ex y)) (is_it n A L y)) y
      source-none x with_it_part = refl
      source-none x (list_part o) = refl
      source-none x (listed_part o) = refl

      item-none : {a : Ex} → Axis A → Part n A L g a → ordered_rewrite s g source_of_an_item a ≡ None
      item-none x (literal_part a_number) = refl
      item-none x (literal_part a_truth) = refl
      item-none x (bound_part at_number) = refl
      item-none x (bound_part at_cell) = refl
      item-none x name_part = refl
      item-none x view_part = refl
      item-none x asked_part = refl
      item-none x cell_part = refl
      item-none x named_part = refl
      item-none x (it_part h) = refl
      item-none x (items_of_set {x = y}) = from-item s g false (is_it n A L y) (view n A L) y no_gens (view-picks n A L)
      item-none x (set_part {x = y}) = ap (option_map (fun1 true Fun.Or))
          (from-item s g true (is_it n A L y) (view n A L) y no_gens (view-picks n A L))
      item-none x (items_where {x = y}) = where-item s g x (is_it n A L y) (cell_at n A L (name_ex y)) y
      item-none x (where_part {x = y}) = below-where-item s g x (is_it n A L y) (cell_at n A L (name_ex y)) y
      item-none x bare_items = refl
      item-none x bare_part = refl
      item-none x bare_both = refl
      item-none x it_both = refl
      item-none x (items_bare {x = y}) = over-item s g x
          (ex2 true Op2.And (cell_at n A L (name_ex y)) (some_of n A L (is_it n A L y) no_gens)) y
      item-none x (with_bare_part {x = y}) = below-over-item s g x
          (ex2 true Op2.And (cell_at n A L (name_ex y)) (some_of n A L (is_it n A L y) no_gens)) y
      item-none x (items_it {x = y}) = over-item s g x (ex2 true Op2.And (cell_at n A L (name_ex y)) (is_it n A L y)) y
      item-none x (with_it_part {x = y}) = below-over-item s g x (ex2 true Op2.And (cell_at n A L (name_ex y)) (is_it n A L y)) y
      item-none x (list_part o) = refl
      item-none x (listed_part o) = refl

      -- None of the four.
      pub no-order : Axis A → (r : OrderedRule) {a : Ex} → Part n A L g a → ordered_rewrite s g r a ≡ None
      no-order x an_item p = alone-none (part-picks n A L l p)
      no-order x of_an_item p = operands-none p
      no-order x source_by_indices p = source-none x p
      no-order x source_of_an_item p = item-none x p

pub memberships-have-no-order : MembershipsHaveNoOrder
memberships-have-no-order n A L x l s g r a p = no-order n A L l s g x r p
