-- Which form each rule makes that reads no kind of a view, and no source: of any tree at which it fires.
use Rattle.std.proofs.Common.{zero, suc, Bool, true, false, ◌||◌, if◌then◌else◌, pos, Option, Some, None}
use Rattle.ess_semantics.specs.declared.words.Op1.{Op1}
use Rattle.ess_semantics.specs.declared.words.Op2.{Op2}
use Rattle.ess_semantics.specs.declared.words.Fun.{Fun}
use Rattle.ess_semantics.specs.Values.{Text}
use Rattle.ess_semantics.specs.Names.{Names}
use Rattle.ess_semantics.specs.Trees.{matrix_literal, Ex, number_ex, node_ex, comp_ex, no_exs, more_exs, no_gens, cond, ex1, ex2, fun1}
use Rattle.ess_semantics.specs.Types.{Ty}
use Rattle.ess_semantics.specs.Typing.{type_of}
use Rattle.ess_rules_laws.specs.FoldRules.{fold_alone, fold_one, fold_bare}
use Rattle.ess_rules_laws.specs.InclusionRules.{both_sets, both_msets, unequal, included_turned, included_strictly, included_members, equal_members}
use Rattle.ess_rules_laws.specs.MembershipRules.{member_term, member_combined}
use Rattle.ess_rules_laws.specs.SizeRules.{is_counted, size_term}
use Rattle.ess_rules_laws.specs.ChoiceRules.{choice_shorter}
use Rattle.ess_seen_names_laws.specs.Shapes.{Shape, one_item, one_binding, implied, both, size, member, different, turned_round, turned_strictly, strictly_included, equal, included, in_a_union, in_both, in_the_first_alone, chosen_twice, chosen_once}

module _ (x : Text) where
  -- What is made has such a form.
  abbrev pub Shaped : Ex → Option Ex → Type 0
  Shaped e None = Unit {0}
  Shaped e (Some f) = Shape x e f

  -- A form that is made under a test, and a rule that is tried under one.
  pub when : (b : Bool) (e f : Ex) → Shape x e f → Shaped e (if b then Some f else None)
  when true e f h = h
  when false e f h = tt

  pub under : (b : Bool) (e : Ex) (o : Option Ex) → Shaped e o → Shaped e (if b then o else None)
  under true e o h = h
  under false e o h = tt

  -- ---- those that read no kind

  -- Folds over one item, over no generators, and over a condition alone.
  pub items : (e : Ex) → Shaped e (fold_one e)
  items (fun1 true Fun.And (node_ex false matrix_literal (more_exs a no_exs))) = one_item
  items (fun1 true Fun.Or (node_ex false matrix_literal (more_exs a no_exs))) = one_item
  items (fun1 false Fun.Sum (node_ex false matrix_literal (more_exs a no_exs))) = one_item
  items (fun1 false Fun.Product (node_ex false matrix_literal (more_exs a no_exs))) = one_item
  items _ = tt

  pub bindings : (e : Ex) → Shaped e (fold_bare e)
  bindings (fun1 true Fun.And (comp_ex e no_gens)) = one_binding
  bindings (fun1 true Fun.Or (comp_ex e no_gens)) = one_binding
  bindings (fun1 false Fun.Sum (comp_ex e no_gens)) = one_binding
  bindings (fun1 false Fun.Product (comp_ex e no_gens)) = one_binding
  bindings _ = tt

  pub conditions : (e : Ex) → Shaped e (fold_alone e)
  conditions (fun1 true Fun.And (comp_ex e (cond c no_gens))) = implied
  conditions (fun1 true Fun.Or (comp_ex e (cond c no_gens))) = both
  conditions _ = tt

  -- Size and membership of a term.
  pub sizes : (g : Names Ty) (e : Ex) → Shaped e (size_term g x e)
  sizes g (ex1 false Op1.Bar s) = when (is_counted (type_of s g)) (ex1 false Op1.Bar s) _ size
  sizes g _ = tt

  pub members : (e : Ex) → Shaped e (member_term x e)
  members (ex2 true Op2.Member a s) = member
  members _ = tt

  -- Signs between sets, and membership of a set made of two.
  pub differences : (e : Ex) → Shaped e (unequal e)
  differences (ex2 true Op2.Ne a b) = different
  differences _ = tt

  pub turnings : (e : Ex) → Shaped e (included_turned e)
  turnings (ex2 true Op2.SupsetEq a b) = turned_round
  turnings (ex2 true Op2.Supset a b) = turned_strictly
  turnings _ = tt

  pub strictnesses : (g : Names Ty) (e : Ex) → Shaped e (included_strictly g x e)
  strictnesses g (ex2 true Op2.Subset a b) =
      when (both_sets (type_of a g) (type_of b g) || both_msets (type_of a g) (type_of b g)) _ _ strictly_included
  strictnesses g _ = tt

  pub equalities : (g : Names Ty) (e : Ex) → Shaped e (equal_members g x e)
  equalities g (ex2 true Op2.Eq a b) = when (both_sets (type_of a g) (type_of b g)) _ _ equal
  equalities g _ = tt

  pub inclusions : (g : Names Ty) (e : Ex) → Shaped e (included_members g x e)
  inclusions g (ex2 true Op2.SubsetEq a b) = when (both_sets (type_of a g) (type_of b g)) _ _ included
  inclusions g _ = tt

  pub combinations : (e : Ex) → Shaped e (member_combined e)
  combinations (ex2 true Op2.Member i (ex2 false Op2.Union a b)) = in_a_union
  combinations (ex2 true Op2.Member i (ex2 false Op2.Intersect a b)) = in_both
  combinations (ex2 true Op2.Member i (ex2 false Op2.Minus a b)) = in_the_first_alone
  combinations _ = tt

  -- Numbers that conditions choose.
  pub choices : (e : Ex) → Shaped e (choice_shorter e)
  choices (ex2 false Op2.Times (fun1 false Fun.ToInt c) (fun1 false Fun.ToInt d)) = chosen_twice
  choices (ex2 false Op2.Times (fun1 false Fun.ToInt c) (number_ex (pos (suc zero)))) = chosen_once
  choices _ = tt
