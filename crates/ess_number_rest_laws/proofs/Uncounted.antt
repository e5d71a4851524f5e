-- No rule of counted sources fires where no operand of the root is a comprehension over what is picked.
use Rattle.std.proofs.Common.{◌≡◌, refl, ap, ◌∙◌, zero, Bool, true, false, ◌&&◌, ◌||◌, not, if◌then◌else◌, [], ◌∷◌, Option, Some, None, option_map}
use Rattle.std.specs.Prelude.{is_some}
use Rattle.ess_semantics.specs.declared.words.Op2.{Op2}
use Rattle.ess_semantics.specs.Lists.{and_then, or_else}
use Rattle.ess_semantics.specs.Names.{Names}
use Rattle.ess_semantics.specs.NamesAt.{names_behind}
use Rattle.ess_semantics.specs.Trees.{by_value, index, name_pat, Ex, node_ex, comp_ex, no_exs, more_exs, Gens, from, ex2}
use Rattle.ess_semantics.specs.Types.{Ty}
use Rattle.ess_semantics.specs.Typing.{type_of}
use Rattle.ess_guard_laws.specs.IndexDomains.{index_dom}
use Rattle.ess_rules_laws.specs.FoldRules.{is_laid_open}
use Rattle.ess_rules_laws.specs.MatrixRules.{both_matrices}
use Rattle.ess_refine_laws.specs.AllRules.{Supply}
use Rattle.ess_refine_laws.specs.IndexedLists.{of_matrix}
use Rattle.ess_kind_rules_laws.specs.TermLookups.{picks}
use Rattle.ess_open_rules_laws.specs.OpenGenerators.{Opened, at_first_open, put_before, behind_plain}
use Rattle.ess_open_rules_laws.specs.OpenSources.{in_order_told}
use Rattle.ess_ordered_laws.specs.ToldAxes.{picked_axis}
use Rattle.ess_numbered_laws.specs.MostItems.{most_items}
use Rattle.ess_numbered_laws.specs.CountedSources.{is_counted, numbered_items, numbered_term, numbered_source, numbered_behind, numbered_side, within_an_item, sees_order, within_a_pair, begins_counted, is_over_counted, counted_list}
use Rattle.ess_numbered_laws.specs.EqualByNumber.{other_side, equal_as, equal_counted, equal_by_number}
use Rattle.ess_numbered_laws.specs.OrderByNumber.{ordered_lists, with_items, counted_operand, order_by_number}
use Rattle.ess_numbered_laws.specs.ListedPicks.{with_lists, listed_source, listed_behind, lists_picked}
use Rattle.ess_numbered_laws.specs.NumberRules.{equality_of_lists, sign_between_lists, item_of_a_list, side_of_a_pair, lists_of_what_is_picked}
use Rattle.ess_number_rest_laws.specs.Uncounted.{BeginsUnpicked, OpensUnpicked, Uncounted, OperandsUncounted, UncountedOperandsRest}

either-way : {A : Type 0} (b : Bool) (o : Option A) → o ≡ None → (if b then o else None) ≡ None
either-way true o p = p
either-way false o p = refl

-- What makes nothing at the first generator makes nothing behind plain ones.
no-plain : (r : Gens → Ex → Option Ex) → ((before : Gens) (e : Ex) (gs : Gens) → BeginsUnpicked gs → r before (comp_ex e gs) ≡ None) →
    (e : Ex) → Uncounted e → behind_plain r e ≡ None
no-plain r h (comp_ex e gs) p = go (at_first_open gs) p
  where
    go : (o : Option Opened) → OpensUnpicked o → and_then o (λ t. and_then (r t.before (comp_ex e t.after)) (put_before t.before)) ≡ None
    go None p = refl
    go (Some t) p = ap (λ q. and_then q (put_before t.before)) (h t.before e t.after p)
no-plain r h e p = refl

module _ (s : Supply) where
  -- What isn't picked isn't counted.
  not-counted : (g : Names Ty) (t : Ex) → picks t ≡ false → is_counted s g t ≡ false
  not-counted g t p = ap (λ b. (b && not (is_some (index_dom t) || is_some (in_order_told s g t))) && not (is_some (picked_axis t))) p

  begins-not : (g : Names Ty) (gs : Gens) → BeginsUnpicked gs → begins_counted s g gs ≡ false
  begins-not g (from (name_pat y) t hs) p = not-counted g t p
  begins-not g gs p = refl

  -- So its items aren't numbered.
  no-term : (g : Names Ty) (t : Ex) → picks t ≡ false → numbered_term s g t ≡ None
  no-term g t p =
      ap (λ b. if b then and_then (most_items s.third t) (λ n. of_matrix (type_of t g) (numbered_items s.one s.other t n)) else None)
      (not-counted g t p)

  no-source : (g : Names Ty) (e : Ex) (gs : Gens) → BeginsUnpicked gs → numbered_source s g (comp_ex e gs) ≡ None
  no-source g e (from (name_pat y) t hs) p = ap (option_map (λ l. comp_ex e (from (name_pat y) l hs))) (no-term g t p)
  no-source g e gs p = refl

  nothing-listed : (g : Names Ty) (e : Ex) (gs : Gens) → BeginsUnpicked gs → listed_source s g (comp_ex e gs) ≡ None
  nothing-listed g e (from (name_pat y) t hs) p = ap (λ b. option_map (λ l. comp_ex e (from (name_pat y) l hs))
      (if b && (not (is_some (most_items s.third t)) && is_some (most_items s.third (with_lists s.one zero t)))
      then Some (with_lists s.one zero t) else None)) (not-counted g t p)
  nothing-listed g e gs p = refl

  module _ (g : Names Ty) where
    over-not : (o : Option Opened) → OpensUnpicked o → is_over_counted s g o ≡ false
    over-not None p = refl
    over-not (Some t) p = begins-not (names_behind t.before g) t.after p

    -- It isn't told how many items there are.
    no-list : (e : Ex) → Uncounted e → counted_list s g e ≡ None
    no-list (comp_ex e gs) p = ap (λ b. if b then most_items s.third (comp_ex e gs) else None) (over-not (at_first_open gs) p)
    no-list e p = refl

    no-numbers : (e : Ex) → Uncounted e → numbered_behind s g e ≡ None
    no-numbers (comp_ex e gs) p =
        no-plain (λ ks. numbered_source s (names_behind ks g)) (λ ks. no-source (names_behind ks g)) (comp_ex e gs) p
    no-numbers e p = refl

    -- Nor are lists put in place.
    no-lists : (e : Ex) → Uncounted e → listed_behind s g e ≡ None
    no-lists (comp_ex e gs) p =
        no-plain (λ ks. listed_source s (names_behind ks g)) (λ ks. nothing-listed (names_behind ks g)) (comp_ex e gs) p
    no-lists e p = refl

    no-side : (e : Ex) → Uncounted e → numbered_side s g e ≡ None
    no-side e p = go (is_some (most_items s.third e))
      where
        go : (b : Bool) → (if b then None else numbered_behind s g e) ≡ None
        go true = refl
        go false = no-numbers e p

    -- ---- the rules

    no-equal : (a b : Ex) → Uncounted a → equal_counted s g a b ≡ None
    no-equal a b p = ap (λ o. and_then o
        (λ n. and_then (other_side b) (λ d. both_matrices (type_of a g) (type_of b g) (equal_as d s.one s.other n a b)))) (no-list a p)

    by-equality : (e : Ex) → OperandsUncounted e → equal_by_number s g e ≡ None
    by-equality (ex2 true Op2.Eq a b) p =
        ap (λ o. or_else o (equal_counted s g b a)) (no-equal a b p.0) ∙ no-equal b a p.1
    by-equality e p = refl

    no-operand : (a b : Ex) → Uncounted a → Uncounted b → counted_operand s g a b ≡ None
    no-operand a b p q = either-way (is_laid_open a && is_laid_open b) (or_else (counted_list s g a) (counted_list s g b))
        (ap (λ o. or_else o (counted_list s g b)) (no-list a p) ∙ no-list b q)

    by-sign : (e : Ex) → OperandsUncounted e → order_by_number s g e ≡ None
    by-sign (ex2 true o a b) p =
        ap (λ q. and_then q (λ n. with_items (type_of a g) (type_of b g) (ordered_lists o s.one s.other n a b))) (no-operand a b p.0 p.1)
    by-sign e p = refl

    by-item : (e : Ex) → OperandsUncounted e → within_an_item s g e ≡ None
    by-item (node_ex b (index (by_value ∷ [])) (more_exs a (more_exs i no_exs))) p =
        ap (option_map (λ c. node_ex b (index (by_value ∷ [])) (more_exs c (more_exs i no_exs)))) (no-numbers a p.0)
    by-item e p = refl

    by-side : (e : Ex) → OperandsUncounted e → within_a_pair s g e ≡ None
    by-side (ex2 true o a b) p = either-way (sees_order o)
        (or_else (option_map (λ c. ex2 true o c b) (numbered_side s g a)) (option_map (λ c. ex2 true o a c) (numbered_side s g b)))
        (ap (λ q. or_else (option_map (λ c. ex2 true o c b) q) (option_map (λ c. ex2 true o a c) (numbered_side s g b)))
        (no-side a p.0)
        ∙ ap (option_map (λ c. ex2 true o a c)) (no-side b p.1))
    by-side e p = refl

    by-list : (e : Ex) → OperandsUncounted e → lists_picked s g e ≡ None
    by-list (node_ex b (index (by_value ∷ [])) (more_exs a (more_exs i no_exs))) p =
        ap (option_map (λ c. node_ex b (index (by_value ∷ [])) (more_exs c (more_exs i no_exs)))) (no-lists a p.0)
    by-list (ex2 true o a b) p = either-way (sees_order o)
        (or_else (option_map (λ c. ex2 true o c b) (listed_behind s g a)) (option_map (λ c. ex2 true o a c) (listed_behind s g b)))
        (ap (λ q. or_else (option_map (λ c. ex2 true o c b) q) (option_map (λ c. ex2 true o a c) (listed_behind s g b)))
        (no-lists a p.0)
        ∙ ap (option_map (λ c. ex2 true o a c)) (no-lists b p.1))
    by-list e p = refl

-- None of them.
pub uncounted-operands-rest : UncountedOperandsRest
uncounted-operands-rest s g equality_of_lists e p = by-equality s g e p
uncounted-operands-rest s g sign_between_lists e p = by-sign s g e p
uncounted-operands-rest s g item_of_a_list e p = by-item s g e p
uncounted-operands-rest s g side_of_a_pair e p = by-side s g e p
uncounted-operands-rest s g lists_of_what_is_picked e p = by-list s g e p
