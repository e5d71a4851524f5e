-- No rule that reads no kind fires at a flat tree over cells.
use Rattle.std.proofs.Common.{◌≡◌, refl, ap, ◌∙◌, Bool, false, ◌&&◌, ◌||◌, Option, None}
use Rattle.ess_semantics.specs.declared.words.Op1.{Op1}
use Rattle.ess_semantics.specs.declared.words.Op2.{Op2}
use Rattle.ess_semantics.specs.declared.words.Fun.{Fun}
use Rattle.ess_semantics.specs.Values.{Text}
use Rattle.ess_semantics.specs.Names.{Names}
use Rattle.ess_semantics.specs.Trees.{Ex, ex1, ex2, fun1}
use Rattle.ess_semantics.specs.Types.{Ty}
use Rattle.ess_semantics.specs.Typing.{type_of}
use Rattle.ess_rules_laws.specs.ComponentRules.{components, equal_where}
use Rattle.ess_rules_laws.specs.ShortSizeRules.{size_made}
use Rattle.ess_rules_laws.specs.ChoiceRules.{choice_shorter}
use Rattle.ess_rules_laws.specs.Progress.{is_parted}
use Rattle.ess_refine_laws.specs.AllRules.{Rule, Supply, rewrite, over_nothing, not_equal, equal_tuples, equal_records, equal_sets, equal_multisets, equal_functions, equal_partitions, with_nothing, equal_matrices_at, size_of_one_made_of_another, size, choice}
use Rattle.ess_open_rules_laws.specs.OpenRules.{is_compound_ty}
use Rattle.ess_flat_laws.specs.Flat.{denied, negative, absolute, both, either, implied, agreeing, equal, unequal, below, at_most, above, at_least, sum, difference, product, is_choice, Flat, number, truth, named, cell, one, two, chosen, none_marked}
use Rattle.ess_flat_laws.proofs.Types.{flat-type}
use Rattle.ess_flat_laws.proofs.Asked.{unasked, no-sets, no-msets, no-functions, no-partitions, no-components, no-fields, no-matrices, no-count, no-parts, no-nothing}

-- A product that no condition chooses has no shorter form.
no-choice : (x y : Ex) → is_choice Op2.Times x ≡ false → choice_shorter (ex2 false Op2.Times x y) ≡ None
no-choice (fun1 false Fun.ToInt c) y h = cc
no-choice x y h = refl

and-no : (a b : Bool) → a ≡ false → a && b ≡ false
and-no a b p = ap (λ c. c && b) p

or-no : (a b : Bool) → a ≡ false → b ≡ false → a || b ≡ false
or-no a b p q = ap (λ c. c || b) p ∙ q

module _ (cells : Text → Option Bool) (s : Supply) (g : Names Ty) where
  abbrev F : Ex → Bool → Type 0
  F = Flat none_marked cells

  -- An absolute value isn't the size of what is made of something.
  no-size : {e : Ex} {m : Bool} → F e m → size_made g s.one (ex1 false Op1.Bar e) ≡ None
  no-size (one denied f) = refl
  no-size (two both f h c) = refl
  no-size f = refl

  -- At `toInt`.
  at-chosen : {x : Ex} {m : Bool} → F x m → (r : Rule) → rewrite s g r (fun1 false Fun.ToInt x) ≡ None
  at-chosen number over_nothing = refl
  at-chosen truth over_nothing = refl
  at-chosen (named h) over_nothing = refl
  at-chosen (cell h) over_nothing = refl
  at-chosen (one o f) over_nothing = refl
  at-chosen (two o f h c) over_nothing = refl
  at-chosen (chosen f) over_nothing = refl
  at-chosen f r = refl

  -- Neither operand is of compound values.
  plain : {e : Ex} {m : Bool} → F e m → is_compound_ty (type_of e g) ≡ false
  plain {e} {m} f = flat-type cells g e m f

  -- No rule fires.
  pub no-rule : {e : Ex} {m : Bool} → F e m → (r : Rule) → rewrite s g r e ≡ None
  no-rule number over_nothing = refl
  no-rule truth over_nothing = refl
  no-rule (named h) over_nothing = refl
  no-rule (cell h) over_nothing = refl
  no-rule (one denied f) over_nothing = refl
  no-rule (one negative f) over_nothing = refl
  no-rule (one absolute f) over_nothing = refl
  no-rule (one {x = x} absolute f) size_of_one_made_of_another = no-size f
  no-rule (one {x = x} absolute f) size = unasked _ (no-count (type_of x g) (plain f))
  no-rule (two both f h c) over_nothing = refl
  no-rule (two either f h c) over_nothing = refl
  no-rule (two implied f h c) over_nothing = refl
  no-rule (two agreeing f h c) over_nothing = refl
  no-rule (two equal f h c) over_nothing = refl
  no-rule (two {x = x} {y = y} equal f h c) equal_tuples =
      ap (λ o. equal_where o (components (type_of y g)) x y) (no-components (type_of x g) (plain f))
  no-rule (two {x = x} {y = y} equal f h c) equal_records = no-fields (type_of x g) (type_of y g) x y (plain f)
  no-rule (two {x = x} {y = y} equal f h c) equal_sets = unasked _ (no-sets (type_of x g) (type_of y g) (plain f))
  no-rule (two {x = x} {y = y} equal f h c) equal_multisets = unasked _ (no-msets (type_of x g) (type_of y g) (plain f))
  no-rule (two {x = x} {y = y} equal f h c) equal_functions = unasked _ (no-functions (type_of x g) (type_of y g) (plain f))
  no-rule (two {x = x} {y = y} equal f h c) equal_partitions = unasked _ (no-partitions (type_of x g) (type_of y g) (plain f))
  no-rule (two {x = x} {y = y} equal f h c) with_nothing = no-nothing g s.one x y (plain f) (plain h)
  no-rule (two {x = x} {y = y} equal f h c) equal_matrices_at = no-matrices (type_of x g) (type_of y g) _ (plain f)
  no-rule (two unequal f h c) over_nothing = refl
  no-rule (two {x = x} {y = y} unequal f h c) not_equal =
      unasked _ (and-no (is_parted (type_of x g)) (is_parted (type_of y g)) (no-parts (type_of x g) (plain f)))
  no-rule (two below f h c) over_nothing = refl
  no-rule (two at_most f h c) over_nothing = refl
  no-rule (two above f h c) over_nothing = refl
  no-rule (two at_least f h c) over_nothing = refl
  no-rule (two sum f h c) over_nothing = refl
  no-rule (two difference f h c) over_nothing = refl
  no-rule (two product f h c) over_nothing = refl
  no-rule (two {x = x} {y = y} product f h c) choice = no-choice x y c
  no-rule (chosen f) r = at-chosen f r
  no-rule f r = refl
