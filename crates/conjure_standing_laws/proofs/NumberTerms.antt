-- Terms of numerals, sums, differences and powers, as bounds of nested sets are. No rule fires at one, and each part of one is one.
use Rattle.std.proofs.Common.{◌≡◌, refl, ap, ◌∙◌, ℕ, suc, Bool, true, false, ◌&&◌, if◌then◌else◌, List, [], ◌∷◌, ℤ, Option, None}
use Rattle.ess_semantics.specs.declared.words.Op2.{Op2}
use Rattle.ess_semantics.specs.Lists.{and_then, or_else}
use Rattle.ess_semantics.specs.Values.{Text}
use Rattle.ess_semantics.specs.Names.{Names}
use Rattle.ess_semantics.specs.Trees.{Ex, Exs, number_ex, truth_ex, name_ex, node_ex, matrix_ex, comp_ex, cell_ex, seen_ex, no_exs, more_exs, ex2}
use Rattle.ess_semantics.specs.Types.{Ty}
use Rattle.ess_semantics.specs.Typing.{type_of}
use Rattle.ess_semantics.specs.Contexts.{In, hole, in_operand, in_item, in_index_domain, in_body, in_generators, in_cell_index, in_view_domain, in_view_index, Ins, in_first, in_later, fill, fill_exs}
use Rattle.ess_rules_laws.specs.AlternativeLookups.{select_each, select_whole_each}
use Rattle.ess_refine_laws.specs.AllRules.{Rule, Supply, rewrite, over_nothing}
use Rattle.ess_kind_rules_laws.specs.TermLookups.{looked_up}
use Rattle.ess_kind_rules_laws.specs.KindRules.{KindRule, kind_rewrite, cell_of_an_atom, of_what_is_picked, first_picked, over_picked}
use Rattle.ess_open_rules_laws.specs.OpenRules.{OpenRule, open_rewrite, step_by_step, of_a_pick, is_compound_ty, gives_scalar, over_a_pick, first_picked as first_pick}
use Rattle.ess_gathered_laws.specs.GatheredConditions.{conditions_gathered}
use Rattle.ess_ordered_laws.specs.NumberedItems.{ordered_lookup}
use Rattle.ess_ordered_laws.specs.PickedSources.{picked_source}
use Rattle.ess_ordered_laws.specs.OrderedRules.{OrderedRule, an_item, of_an_item, source_by_indices, source_of_an_item, keeps_order, operand_lookup, over_operand, at_operand, ordered_rewrite}
use Rattle.ess_number_rest_laws.specs.Uncounted.{Uncounted, OperandsUncounted}

-- A term of numerals.
pub data OfNumerals : Ex → Type 0 where
  digits : {k : ℤ} → OfNumerals (number_ex k)
  plus : {x y : Ex} → OfNumerals x → OfNumerals y → OfNumerals (ex2 false Op2.Plus x y)
  less : {x y : Ex} → OfNumerals x → OfNumerals y → OfNumerals (ex2 false Op2.Minus x y)
  power : {x y : Ex} → OfNumerals x → OfNumerals y → OfNumerals (ex2 false Op2.Pow x y)

-- Each of these is one.
abbrev pub AllOfNumerals : Exs → Type 0
AllOfNumerals no_exs = Unit {0}
AllOfNumerals (more_exs e es) = OfNumerals e × AllOfNumerals es

-- ---- parts

-- Each operand of the root is one, and the root is an operator or a number.
abbrev OperandsOfNumerals : Ex → Type 0
OperandsOfNumerals (number_ex k) = Unit {0}
OperandsOfNumerals (truth_ex b) = Unit {0}
OperandsOfNumerals (name_ex a) = Unit {0}
OperandsOfNumerals (node_ex b op es) = AllOfNumerals es
OperandsOfNumerals (matrix_ex es d) = ⊥
OperandsOfNumerals (comp_ex e gs) = ⊥
OperandsOfNumerals (cell_ex b n es) = ⊥
OperandsOfNumerals (seen_ex r d ns es) = ⊥

operands : {e : Ex} → OfNumerals e → OperandsOfNumerals e
operands digits = tt
operands (plus w v) = (w, (v, tt))
operands (less w v) = (w, (v, tt))
operands (power w v) = (w, (v, tt))

mutual
  -- Each part of one is one.
  pub part-of-numerals : (c : In) (e : Ex) → OfNumerals (fill c e) → OfNumerals e
  part-of-numerals hole e w = w
  part-of-numerals (in_operand b op c) e w = part-of-all c e (operands w)
  part-of-numerals (in_item c d) e w = absurd (operands w)
  part-of-numerals (in_index_domain es c) e w = absurd (operands w)
  part-of-numerals (in_body c gs) e w = absurd (operands w)
  part-of-numerals (in_generators x c) e w = absurd (operands w)
  part-of-numerals (in_cell_index b n c) e w = absurd (operands w)
  part-of-numerals (in_view_domain r c ns es) e w = absurd (operands w)
  part-of-numerals (in_view_index r d ns c) e w = absurd (operands w)

  part-of-all : (c : Ins) (e : Ex) → AllOfNumerals (fill_exs c e) → OfNumerals e
  part-of-all (in_first c es) e w = part-of-numerals c e w.0
  part-of-all (in_later x c) e w = part-of-all c e w.1

-- ---- rules

either-way : {A : Type 0} (b : Bool) (o : Option A) → o ≡ None → (if b then o else None) ≡ None
either-way true o p = p
either-way false o p = refl

neither : {A : Type 0} (o p : Option A) → o ≡ None → p ≡ None → or_else o p ≡ None
neither o p a b = ap (λ x. or_else x p) a ∙ b

module _ (s : Supply) (g : Names Ty) where
  -- None that reads no kind.
  pub no-plain-rule : {e : Ex} → OfNumerals e → (r : Rule) → rewrite s g r e ≡ None
  no-plain-rule digits over_nothing = refl
  no-plain-rule (plus w v) over_nothing = refl
  no-plain-rule (less w v) over_nothing = refl
  no-plain-rule (power w v) over_nothing = refl
  no-plain-rule w r = refl

  -- Nothing is picked out of an operand.
  none-picked : (k : ℕ) (es : Exs) → AllOfNumerals es → first_picked g k es ≡ None
  none-picked k no_exs w = refl
  none-picked k (more_exs e es) (digits, v) = none-picked (suc k) es v
  none-picked k (more_exs e es) (plus x y, v) = none-picked (suc k) es v
  none-picked k (more_exs e es) (less x y, v) = none-picked (suc k) es v
  none-picked k (more_exs e es) (power x y, v) = none-picked (suc k) es v

  no-pick : (any : Bool) (k : ℕ) (es : Exs) → AllOfNumerals es → first_pick any g k es ≡ None
  no-pick any k no_exs w = refl
  no-pick any k (more_exs e es) (digits, v) = no-pick any (suc k) es v
  no-pick any k (more_exs e es) (plus x y, v) = no-pick any (suc k) es v
  no-pick any k (more_exs e es) (less x y, v) = no-pick any (suc k) es v
  no-pick any k (more_exs e es) (power x y, v) = no-pick any (suc k) es v

  no-picked : (o : Op2) (x y : Ex) → OfNumerals x → OfNumerals y → over_picked s g (ex2 false o x y) ≡ None
  no-picked o x y w v =
      ap (λ p. and_then p (λ q. and_then (looked_up g s.third (s.other ∷ s.parts) q.1) (λ l. select_each s.one q.0 l (ex2 false o x y))))
      (none-picked 1 (more_exs x (more_exs y no_exs)) (w, (v, tt)))

  no-over : (o : Op2) (x y : Ex) → OfNumerals x → OfNumerals y → over_a_pick s g (ex2 false o x y) ≡ None
  no-over o x y w v =
      either-way (gives_scalar g (ex2 false o x y))
      (and_then (first_pick false g 1 (more_exs x (more_exs y no_exs)))
      (λ q. and_then (looked_up g s.third s.parts q.1) (λ l. select_each s.one q.0 l (ex2 false o x y))))
      (ap (λ p. and_then p (λ q. and_then (looked_up g s.third s.parts q.1) (λ l. select_each s.one q.0 l (ex2 false o x y))))
      (no-pick false 1 (more_exs x (more_exs y no_exs)) (w, (v, tt))))

  -- None that reads the kind of a view.
  pub no-kind-rule : {e : Ex} → OfNumerals e → (r : KindRule) → kind_rewrite s g r e ≡ None
  no-kind-rule digits cell_of_an_atom = refl
  no-kind-rule (plus {x = x} {y = y} w v) of_what_is_picked = no-picked Op2.Plus x y w v
  no-kind-rule (less {x = x} {y = y} w v) of_what_is_picked = no-picked Op2.Minus x y w v
  no-kind-rule (power {x = x} {y = y} w v) of_what_is_picked = no-picked Op2.Pow x y w v
  no-kind-rule w r = refl

  -- None of sources or of what is picked.
  pub no-open-rule : {e : Ex} → OfNumerals e → (r : OpenRule) → open_rewrite s g r e ≡ None
  no-open-rule digits step_by_step = refl
  no-open-rule (plus {x = x} {y = y} w v) of_a_pick = no-over Op2.Plus x y w v
  no-open-rule (less {x = x} {y = y} w v) of_a_pick = no-over Op2.Minus x y w v
  no-open-rule (power {x = x} {y = y} w v) of_a_pick = no-over Op2.Pow x y w v
  no-open-rule w r = refl

  -- Nothing is looked up in order.
  no-lookup : {e : Ex} → OfNumerals e → (z : Text) (ys : List Text) → ordered_lookup z ys e ≡ None
  no-lookup w z [] = refl
  no-lookup digits z (y ∷ ys) = refl
  no-lookup (plus w v) z (y ∷ ys) = refl
  no-lookup (less w v) z (y ∷ ys) = refl
  no-lookup (power w v) z (y ∷ ys) = refl

  -- Nor is there a comprehension over what is picked.
  no-comp : {e : Ex} → OfNumerals e → picked_source s g e ≡ None
  no-comp digits = refl
  no-comp (plus w v) = refl
  no-comp (less w v) = refl
  no-comp (power w v) = refl

  none-looked : (e : Ex) {t : Ex} → OfNumerals t → operand_lookup s g e t ≡ None
  none-looked e {t} w = neither (ordered_lookup s.third s.parts t) (if keeps_order e then picked_source s g t else None)
      (no-lookup w s.third s.parts) (either-way (keeps_order e) (picked_source s g t) (no-comp w))

  no-operand : (k : ℕ) (e : Ex) {t : Ex} → OfNumerals t → over_operand s g k e t ≡ None
  no-operand k e {t} w = ap (λ o. and_then o
      (λ l. if gives_scalar g e && is_compound_ty (type_of t g) then select_each s.one k l e else None)) (none-looked e w)

  no-operands : (o : Op2) (x y : Ex) → OfNumerals x → OfNumerals y → ordered_rewrite s g of_an_item (ex2 false o x y) ≡ None
  no-operands o x y w v =
      neither (at_operand s g 1 (ex2 false o x y)) (at_operand s g 2 (ex2 false o x y))
      (no-operand 1 (ex2 false o x y) w) (no-operand 2 (ex2 false o x y) v)

  no-alone : {e : Ex} → OfNumerals e → ordered_rewrite s g an_item e ≡ None
  no-alone {e} w = ap (λ o. and_then o (λ l. if gives_scalar g e then select_whole_each s.one l e else None)) (no-lookup w s.third s.parts)

  -- None of comprehensions whose items have an order.
  pub no-ordered-rule : {e : Ex} → OfNumerals e → (r : OrderedRule) → ordered_rewrite s g r e ≡ None
  no-ordered-rule w an_item = no-alone w
  no-ordered-rule digits of_an_item = refl
  no-ordered-rule (plus {x = x} {y = y} w v) of_an_item = no-operands Op2.Plus x y w v
  no-ordered-rule (less {x = x} {y = y} w v) of_an_item = no-operands Op2.Minus x y w v
  no-ordered-rule (power {x = x} {y = y} w v) of_an_item = no-operands Op2.Pow x y w v
  no-ordered-rule digits source_by_indices = refl
  no-ordered-rule (plus w v) source_by_indices = refl
  no-ordered-rule (less w v) source_by_indices = refl
  no-ordered-rule (power w v) source_by_indices = refl
  no-ordered-rule digits source_of_an_item = refl
  no-ordered-rule (plus w v) source_of_an_item = refl
  no-ordered-rule (less w v) source_of_an_item = refl
  no-ordered-rule (power w v) source_of_an_item = refl

-- One is no comprehension.
isnt-counted : {e : Ex} → OfNumerals e → Uncounted e
isnt-counted digits = tt
isnt-counted (plus w v) = tt
isnt-counted (less w v) = tt
isnt-counted (power w v) = tt

-- Nor is an operand of one, so that none of sources whose items are counted fires.
pub operands-uncounted : {e : Ex} → OfNumerals e → OperandsUncounted e
operands-uncounted digits = tt
operands-uncounted (plus w v) = (isnt-counted w, isnt-counted v)
operands-uncounted (less w v) = (isnt-counted w, isnt-counted v)
operands-uncounted (power w v) = (isnt-counted w, isnt-counted v)

-- No conditions are gathered at one.
pub no-gathering : {e : Ex} → OfNumerals e → conditions_gathered e ≡ None
no-gathering digits = refl
no-gathering (plus w v) = refl
no-gathering (less w v) = refl
no-gathering (power w v) = refl
