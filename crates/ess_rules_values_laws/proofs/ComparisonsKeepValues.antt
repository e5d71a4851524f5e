-- Rules on comparisons keep values.
use Rattle.std.proofs.Common.{◌≡◌, refl, Bool, true, false, ◌&&◌, ◌||◌, not}
use Rattle.ess_semantics.specs.declared.words.Op1.{Op1}
use Rattle.ess_semantics.specs.declared.words.Op2.{Op2}
use Rattle.ess_semantics.specs.declared.words.Fun.{Fun}
use Rattle.ess_semantics.specs.Values.{Text}
use Rattle.ess_semantics.specs.Names.{Names}
use Rattle.ess_semantics.specs.Trees.{matrix_literal, name_pat, Ex, truth_ex, name_ex, node_ex, comp_ex, ex1, ex2, fun1, no_exs, more_exs, no_gens, from}
use Rattle.ess_semantics.specs.Types.{Ty}
use Rattle.ess_semantics.specs.Typing.{type_of}
use Rattle.ess_semantics.specs.Meaning.{Env}
use Rattle.ess_semantics.proofs.Tests.{and-left, and-right}
use Rattle.ess_rules_laws.specs.Rules.{Unused}
use Rattle.ess_rules_laws.specs.InclusionRules.{every, both_sets, both_msets, unequal, included_turned, included_strictly, included_members, equal_members}
use Rattle.ess_rules_laws.specs.PartitionRules.{lie_together, both_partitions, equal_parts}
use Rattle.ess_rules_laws.specs.MatrixRules.{is_matrix, equal_to_nothing}
use Rattle.ess_refine_laws.specs.AllRules.{equal_sets, equal_partitions, with_nothing}
use Rattle.ess_values_along_laws.specs.Valued.{Valued}
use Rattle.ess_values_along_laws.specs.ValuesAlong.{may_lack_there, none_may_lack}
use Rattle.ess_rules_values_laws.specs.RulesKeepValues.{ComparesContainers}
use Rattle.ess_rules_values_laws.proofs.ValuedAgreement.{valued-behind}
use Rattle.ess_rules_values_laws.proofs.ValuedForms.{by-form, comp-valued, name-valued, Kept, when, every-valued}

module _ (env : Env) where
  -- ---- comparisons

  -- What is not equal.
  pub apart : (w : Bool) (e : Ex) → Valued w e env → Kept env w e (unequal e)
  apart w (ex2 true Op2.Ne a b) h = λ q. (tt, ((tt, h.1), tt))
  apart w _ h = tt

  -- An inclusion that is turned.
  pub turns : (w : Bool) (e : Ex) → Valued w e env → Kept env w e (included_turned e)
  turns w (ex2 true Op2.SupsetEq a b) h = λ q. (tt, (h.1.1.0, (h.1.0, tt)))
  turns w (ex2 true Op2.Supset a b) h = λ q. (tt, (h.1.1.0, (h.1.0, tt)))
  turns w _ h = tt

  -- A strict inclusion.
  pub strict : (w : Bool) (g : Names Ty) (x : Text) (e : Ex) → Valued w e env → Kept env w e (included_strictly g x e)
  strict w g x (ex2 true Op2.Subset a b) h =
      when env w (both_sets (type_of a g) (type_of b g) || both_msets (type_of a g) (type_of b g)) (ex2 true Op2.Subset a b) _
      (tt, ((tt, h.1), λ t. ((tt, ((tt, (h.1.1.0, (h.1.0, tt))), tt)), tt)))
  strict w g x _ h = tt

  -- Each member of the first is one of the second.
  in-valued : (x : Text) (a b : Ex) → Unused x b → Valued false a env → Valued false b env → (w : Bool) →
      Valued w (every x a (ex2 true Op2.Member (name_ex x) b)) env
  in-valued x a b n h k w = every-valued env x a (ex2 true Op2.Member (name_ex x) b) w h
      (λ v. (tt, (name-valued env x v false, (valued-behind x v b env false n k, tt))))

  -- An inclusion of sets.
  pub included : (w : Bool) (g : Names Ty) (x : Text) (e : Ex) → Unused x e → Valued w e env → Kept env w e (included_members g x e)
  included w g x (ex2 true Op2.SubsetEq a b) n h = when env w (both_sets (type_of a g) (type_of b g)) (ex2 true Op2.SubsetEq a b) _
      (in-valued x a b n.1.0 h.1.0 h.1.1.0 w)
  included w g x _ n h = tt

  not-true : (b : Bool) → not b ≡ true → b ≡ false
  not-true true h = cc
  not-true false h = refl

  -- The two operands of a comparison that are neither numbers nor cells by their form.
  two : (a b : Ex) → none_may_lack (more_exs a (more_exs b no_exs)) ≡ true → Valued true a env → Valued true b env →
      Valued false a env × Valued false b env
  two a b c h k = (
    by-form a env true (not-true (may_lack_there a) (and-left (not (may_lack_there a)) (not (may_lack_there b) && true) c)) h,
    by-form b env true (not-true (may_lack_there b)
        (and-left (not (may_lack_there b)) true (and-right (not (may_lack_there a)) (not (may_lack_there b) && true) c))) k,
  )

  -- Equal sets.
  pub same-members : (w : Bool) (g : Names Ty) (x : Text) (e : Ex) → Unused x e → ComparesContainers equal_sets e → Valued w e env →
      Kept env w e (equal_members g x e)
  same-members w g x (ex2 true Op2.Eq a b) n c h = let t = two a b c h.1.0 h.1.1.0 in
      when env w (both_sets (type_of a g) (type_of b g)) (ex2 true Op2.Eq a b) _
      (tt, (in-valued x a b n.1.0 t.0 t.1 false, λ y. (in-valued x b a n.0 t.1 t.0 false, tt)))
  same-members w g x _ n c h = tt

  lie-valued : (x : Text) (a b : Ex) → Unused x b → Valued false a env → Valued false b env → (w : Bool) →
      Valued w (every x a (lie_together (name_ex x) b)) env
  lie-valued x a b n h k w = every-valued env x a (lie_together (name_ex x) b) w h
      (λ v. (tt, (name-valued env x v false, (valued-behind x v b env false n k, tt))))

  -- Equal partitions.
  pub same-parts : (w : Bool) (g : Names Ty) (x : Text) (e : Ex) → Unused x e → ComparesContainers equal_partitions e → Valued w e env →
      Kept env w e (equal_parts g x e)
  same-parts w g x (ex2 true Op2.Eq a b) n c h = let t = two a b c h.1.0 h.1.1.0 in
      when env w (both_partitions (type_of a g) (type_of b g)) (ex2 true Op2.Eq a b) _
      (tt, (lie-valued x a b n.1.0 t.0 t.1 false, λ y. (lie-valued x b a n.0 t.1 t.0 false, tt)))
  same-parts w g x _ n c h = tt

  none-valued : (x : Text) (a : Ex) (w : Bool) → Valued false a env →
      Valued w (ex1 true Op1.Not (fun1 true Fun.Or (comp_ex (truth_ex true) (from (name_pat x) a no_gens)))) env
  none-valued x a w h = (tt, ((tt, (comp-valued env x a (truth_ex true) false h (λ v. tt), tt)), tt))

  -- A matrix with no items.
  pub no-items : (w : Bool) (g : Names Ty) (x : Text) (e : Ex) → ComparesContainers with_nothing e → Valued w e env →
      Kept env w e (equal_to_nothing g x e)
  no-items w g x (ex2 true Op2.Eq a (node_ex false matrix_literal no_exs)) c h =
      when env w (is_matrix (type_of a g)) (ex2 true Op2.Eq a (node_ex false matrix_literal no_exs)) _
      (none-valued x a w (two a (node_ex false matrix_literal no_exs) c h.1.0 h.1.1.0).0)
  no-items w g x (ex2 true Op2.Eq (node_ex false matrix_literal no_exs) a) c h =
      when env w (is_matrix (type_of a g)) (ex2 true Op2.Eq (node_ex false matrix_literal no_exs) a)
      (ex1 true Op1.Not (fun1 true Fun.Or (comp_ex (truth_ex true) (from (name_pat x) a no_gens))))
      (none-valued x a w (two (node_ex false matrix_literal no_exs) a c h.1.0 h.1.1.0).1)
  no-items w g x _ c h = tt
