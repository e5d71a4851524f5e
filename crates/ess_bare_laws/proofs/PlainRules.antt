-- Of the rules that read no kind four fire at the root of a bare tree, and none at a list of bare items.
use Rattle.std.proofs.Common.{◌≡◌, refl, sym, ap, subst, ℕ, Bool, true, false, ◌&&◌, Option, Some, None}
use Rattle.ess_semantics.specs.declared.words.Op1.{Op1}
use Rattle.ess_semantics.specs.declared.words.Op2.{Op2}
use Rattle.ess_semantics.specs.declared.words.Fun.{Fun}
use Rattle.ess_semantics.specs.Values.{Text}
use Rattle.ess_semantics.specs.Names.{Names}
use Rattle.ess_semantics.specs.Trees.{name_pat, Ex, comp_ex, ex1, ex2, fun1, Gens, no_gens, over, cond}
use Rattle.ess_semantics.specs.Types.{Ty}
use Rattle.ess_semantics.specs.Typing.{type_of}
use Rattle.ess_rules_laws.specs.ChoiceRules.{choice_shorter}
use Rattle.ess_rules_laws.specs.FoldRules.{fold_alone, fold_bare}
use Rattle.ess_rules_laws.specs.ComponentRules.{components, equal_where}
use Rattle.ess_rules_laws.specs.ShortSizeRules.{size_made}
use Rattle.ess_rules_laws.specs.Progress.{is_parted}
use Rattle.ess_refine_laws.specs.LeavingConditions.{Parted, at_last_condition, condition_leaves}
use Rattle.ess_refine_laws.specs.AllRules.{Rule, Supply, rewrite, over_nothing, over_one_binding, over_a_condition, not_equal, equal_tuples, equal_records, equal_sets, equal_multisets, equal_functions, equal_partitions, with_nothing, equal_matrices_at, size_of_one_made_of_another, size, choice, condition, condition_behind, least_under_a_condition}
use Rattle.ess_open_rules_laws.specs.OpenRules.{is_compound_ty}
use Rattle.ess_flat_laws.specs.Flat.{denied, negative, absolute, both, either, implied, agreeing, equal, unequal, below, at_most, above, at_least, sum, difference, product}
use Rattle.ess_flat_laws.proofs.Asked.{unasked, no-sets, no-msets, no-functions, no-partitions, no-components, no-fields, no-matrices, no-count, no-parts, no-nothing}
use Rattle.ess_bare_laws.specs.Bare.{before, not_behind, TruthWord, all_hold, some_holds, Bare, number, truth, named, cell, one, two, power, chosen, folded, added, ordered, row, Ranging, at_end, through, where_holds, Axes, no_axis, along, truths, numbers}
use Rattle.ess_bare_laws.specs.BareParts.{marked_types}
use Rattle.ess_bare_laws.specs.Fires.{Fires, without_generators, over_one_condition, as_a_condition_leaves, as_one_choice}
use Rattle.ess_bare_laws.proofs.Types.{bare-type}
use Rattle.ess_bare_laws.proofs.Picks.{no-condition}

-- An answer of one of the four rules, or none.
abbrev Answers : Ex → Bool → Option Ex → Type 0
Answers e m None = Unit {0}
Answers e m (Some f) = Fires e f m

none : (e : Ex) (m : Bool) (o : Option Ex) → o ≡ None → Answers e m o
none e m o q = subst (λ z. Answers e m z) (sym q) tt

-- Of the four.
by-no-generators : (e : Ex) (m : Bool) → Answers e m (fold_bare e)
by-no-generators e m = go (fold_bare e) refl
  where
    go : (o : Option Ex) → fold_bare e ≡ o → Answers e m o
    go None q = tt
    go (Some f) q = without_generators q

by-one-condition : (e : Ex) → Answers e true (fold_alone e)
by-one-condition e = go (fold_alone e) refl
  where
    go : (o : Option Ex) → fold_alone e ≡ o → Answers e true o
    go None q = tt
    go (Some f) q = over_one_condition q

by-leaving : (e : Ex) → Answers e true (condition_leaves e)
by-leaving e = go (condition_leaves e) refl
  where
    go : (o : Option Ex) → condition_leaves e ≡ o → Answers e true o
    go None q = tt
    go (Some f) q = as_a_condition_leaves q

by-choice : (e : Ex) → Answers e false (choice_shorter e)
by-choice e = go (choice_shorter e) refl
  where
    go : (o : Option Ex) → choice_shorter e ≡ o → Answers e false o
    go None q = tt
    go (Some f) q = as_one_choice q

-- Where there is no condition nothing is made of one.
abbrev made_of : (Parted → Option Ex) → Option Parted → Option Ex
made_of k None = None
made_of k (Some t) = k t

unparted : (o : Option Parted) (k : Parted → Option Ex) → o ≡ None → made_of k o ≡ None
unparted o k q = ap (made_of k) q

and-no : (a b : Bool) → a ≡ false → a && b ≡ false
and-no a b p = ap (λ c. c && b) p

module _ (cells : Text → Option (Bool × ℕ)) (s : Supply) (r : Names Bool) where
  abbrev F : Ex → Bool → Type 0
  F = Bare cells r

  abbrev g : Names Ty
  g = marked_types r

  abbrev A : Ex → Bool → Rule → Type 0
  A e m u = Answers e m (rewrite s g u e)

  -- An absolute value isn't the size of what is made of something.
  no-size : {e : Ex} {m : Bool} → F e m → size_made g s.one (ex1 false Op1.Bar e) ≡ None
  no-size number = refl
  no-size truth = refl
  no-size (named h) = refl
  no-size (cell h i) = refl
  no-size (one denied f) = refl
  no-size (one negative f) = refl
  no-size (one absolute f) = refl
  no-size (two both f h) = refl
  no-size (two either f h) = refl
  no-size (two implied f h) = refl
  no-size (two agreeing f h) = refl
  no-size (two equal f h) = refl
  no-size (two unequal f h) = refl
  no-size (two below f h) = refl
  no-size (two at_most f h) = refl
  no-size (two above f h) = refl
  no-size (two at_least f h) = refl
  no-size (two sum f h) = refl
  no-size (two difference f h) = refl
  no-size (two product f h) = refl
  no-size (power f h) = refl
  no-size (chosen f) = refl
  no-size (folded all_hold k f) = refl
  no-size (folded some_holds k f) = refl
  no-size (added k f) = refl
  no-size (ordered before f h) = refl
  no-size (ordered not_behind f h) = refl

  -- At `toInt`.
  at-chosen : {x : Ex} {m : Bool} → F x m → (u : Rule) → A (fun1 false Fun.ToInt x) false u
  at-chosen number over_nothing = tt
  at-chosen truth over_nothing = tt
  at-chosen (named h) over_nothing = tt
  at-chosen (cell h i) over_nothing = tt
  at-chosen (one o f) over_nothing = tt
  at-chosen (two o f h) over_nothing = tt
  at-chosen (power f h) over_nothing = tt
  at-chosen (chosen f) over_nothing = tt
  at-chosen (folded w k f) over_nothing = tt
  at-chosen (added k f) over_nothing = tt
  at-chosen (ordered w f h) over_nothing = tt
  at-chosen f u = tt

  -- At a fold of truth values.
  at-truths : {t : Names Bool} {w : Fun} {gs : Gens} (e : Ex) → TruthWord w → Ranging cells r gs t → (u : Rule) →
      A (fun1 true w (comp_ex e gs)) true u
  at-truths e all_hold at_end over_one_binding = by-no-generators (fun1 true Fun.And (comp_ex e no_gens)) true
  at-truths e all_hold (through n k) over_one_binding = tt
  at-truths e all_hold (through {a = a} {d = d} {gs = gs} n k) condition =
      by-leaving (fun1 true Fun.And (comp_ex e (over (name_pat a) d gs)))
  at-truths e all_hold (where_holds f k) over_one_binding = tt
  at-truths e all_hold (where_holds {c = c} {gs = gs} f k) over_a_condition = by-one-condition (fun1 true Fun.And (comp_ex e (cond c gs)))
  at-truths e all_hold (where_holds {c = c} {gs = gs} f k) condition = by-leaving (fun1 true Fun.And (comp_ex e (cond c gs)))
  at-truths e some_holds at_end over_one_binding = by-no-generators (fun1 true Fun.Or (comp_ex e no_gens)) true
  at-truths e some_holds (through n k) over_one_binding = tt
  at-truths e some_holds (through {a = a} {d = d} {gs = gs} n k) condition =
      by-leaving (fun1 true Fun.Or (comp_ex e (over (name_pat a) d gs)))
  at-truths e some_holds (where_holds f k) over_one_binding = tt
  at-truths e some_holds (where_holds {c = c} {gs = gs} f k) over_a_condition = by-one-condition (fun1 true Fun.Or (comp_ex e (cond c gs)))
  at-truths e some_holds (where_holds {c = c} {gs = gs} f k) condition = by-leaving (fun1 true Fun.Or (comp_ex e (cond c gs)))
  at-truths e w k u = tt

  -- At a sum.
  at-numbers : {t : Names Bool} {gs : Gens} (e : Ex) → Axes cells r gs t → (u : Rule) → A (fun1 false Fun.Sum (comp_ex e gs)) false u
  at-numbers e no_axis over_one_binding = by-no-generators (fun1 false Fun.Sum (comp_ex e no_gens)) false
  at-numbers e (along n k) over_one_binding = tt
  at-numbers e (along {a = a} {d = d} {gs = gs} n k) condition =
      none (fun1 false Fun.Sum (comp_ex e (over (name_pat a) d gs))) false _
      (unparted (at_last_condition (over (name_pat a) d gs)) _ (no-condition cells (along n k)))
  at-numbers e (along {a = a} {d = d} {gs = gs} n k) condition_behind =
      none (fun1 false Fun.Sum (comp_ex e (over (name_pat a) d gs))) false _
      (unparted (at_last_condition (over (name_pat a) d gs)) _ (no-condition cells (along n k)))
  at-numbers e (along {a = a} {d = d} {gs = gs} n k) least_under_a_condition =
      none (fun1 false Fun.Sum (comp_ex e (over (name_pat a) d gs))) false _
      (unparted (at_last_condition (over (name_pat a) d gs)) _ (no-condition cells (along n k)))
  at-numbers e k u = tt

  -- Neither operand is of compound values.
  plain : {e : Ex} {m : Bool} → F e m → is_compound_ty (type_of e g) ≡ false
  plain {e} {m} f = bare-type cells r e m f

  -- Which rules fire.
  few : {e : Ex} {m : Bool} → F e m → (u : Rule) → A e m u
  few number over_nothing = tt
  few truth over_nothing = tt
  few (named h) over_nothing = tt
  few (cell h i) over_nothing = tt
  few (one denied f) over_nothing = tt
  few (one negative f) over_nothing = tt
  few (one absolute f) over_nothing = tt
  few (one {x = x} absolute f) size_of_one_made_of_another = none (ex1 false Op1.Bar x) false _ (no-size f)
  few (one {x = x} absolute f) size = none (ex1 false Op1.Bar x) false _ (unasked _ (no-count (type_of x g) (plain f)))
  few (two both f h) over_nothing = tt
  few (two either f h) over_nothing = tt
  few (two implied f h) over_nothing = tt
  few (two agreeing f h) over_nothing = tt
  few (two equal f h) over_nothing = tt
  few (two {x = x} {y = y} equal f h) equal_tuples = none (ex2 true Op2.Eq x y) true _
      (ap (λ o. equal_where o (components (type_of y g)) x y) (no-components (type_of x g) (plain f)))
  few (two {x = x} {y = y} equal f h) equal_records = none (ex2 true Op2.Eq x y) true _
      (no-fields (type_of x g) (type_of y g) x y (plain f))
  few (two {x = x} {y = y} equal f h) equal_sets = none (ex2 true Op2.Eq x y) true _
      (unasked _ (no-sets (type_of x g) (type_of y g) (plain f)))
  few (two {x = x} {y = y} equal f h) equal_multisets = none (ex2 true Op2.Eq x y) true _
      (unasked _ (no-msets (type_of x g) (type_of y g) (plain f)))
  few (two {x = x} {y = y} equal f h) equal_functions = none (ex2 true Op2.Eq x y) true _
      (unasked _ (no-functions (type_of x g) (type_of y g) (plain f)))
  few (two {x = x} {y = y} equal f h) equal_partitions = none (ex2 true Op2.Eq x y) true _
      (unasked _ (no-partitions (type_of x g) (type_of y g) (plain f)))
  few (two {x = x} {y = y} equal f h) with_nothing = none (ex2 true Op2.Eq x y) true _
      (no-nothing g s.one x y (plain f) (plain h))
  few (two {x = x} {y = y} equal f h) equal_matrices_at = none (ex2 true Op2.Eq x y) true _
      (no-matrices (type_of x g) (type_of y g) _ (plain f))
  few (two unequal f h) over_nothing = tt
  few (two {x = x} {y = y} unequal f h) not_equal = none (ex2 true Op2.Ne x y) true _
      (unasked _ (and-no (is_parted (type_of x g)) (is_parted (type_of y g)) (no-parts (type_of x g) (plain f))))
  few (two below f h) over_nothing = tt
  few (two at_most f h) over_nothing = tt
  few (two above f h) over_nothing = tt
  few (two at_least f h) over_nothing = tt
  few (two sum f h) over_nothing = tt
  few (two difference f h) over_nothing = tt
  few (two product f h) over_nothing = tt
  few (two {x = x} {y = y} product f h) choice = by-choice (ex2 false Op2.Times x y)
  few (power f h) over_nothing = tt
  few (chosen f) u = at-chosen f u
  few (folded {e = e} w k f) u = at-truths e w k u
  few (added {e = e} k f) u = at-numbers e k u
  few (ordered before (row a f) (row b h)) over_nothing = tt
  few (ordered not_behind (row a f) (row b h)) over_nothing = tt
  few f u = tt

  -- So one of the four fires where a rule does.
  pub fires : (u : Rule) (e f : Ex) (m : Bool) → F e m → rewrite s g u e ≡ Some f → Fires e f m
  fires u e f m b q = subst (λ o. Answers e m o) q (few b u)

-- No rule fires at a list of bare items.
pub no-list : (cells : Text → Option (Bool × ℕ)) (s : Supply) (g : Names Ty) (r t : Names Bool) (e : Ex) (gs : Gens) →
    Ranging cells r gs t → (u : Rule) → rewrite s g u (comp_ex e gs) ≡ None
no-list cells s g r t e gs at_end over_nothing = refl
no-list cells s g r t e gs (through truths k) over_nothing = refl
no-list cells s g r t e gs (through (numbers b es) k) over_nothing = refl
no-list cells s g r t e gs (where_holds f k) over_nothing = refl
no-list cells s g r t e gs k u = refl
