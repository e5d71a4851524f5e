-- What rules of sources at the first generator that isn't plain, of what is picked, and of several steps make of the parts of trees of a
-- membership.
use Rattle.std.proofs.Common.{◌≡◌, refl, ap, Bool, false, true, if◌then◌else◌, Option, None, inl}
use Rattle.ess_semantics.specs.declared.words.Op2.{Op2}
use Rattle.ess_semantics.specs.Values.{Text}
use Rattle.ess_semantics.specs.Names.{Names}
use Rattle.ess_semantics.specs.Trees.{Ex, name_ex, Dom, ex2, matrix_literal, node_ex, more_exs, no_exs, comp_ex, from, over, cond, no_gens, name_pat}
use Rattle.ess_semantics.specs.Types.{Ty}
use Rattle.ess_refine_laws.specs.AllRules.{Supply}
use Rattle.ess_flat_laws.specs.ess_open_rules_laws.OpenRules.{OpenRule, open_rewrite, step_by_step, of_a_pick, over_one_source, gives_scalar}
use Rattle.ess_member_trees_laws.proofs.KindRules.{put-itself}
use Rattle.ess_member_trees_laws.specs.Memberships.{Literal, a_number, a_truth, Bound, at_number, at_cell, Axis, truths, numbers, view, asked, cell_at, is_it, some_of, over_set, alone, OverDomain, a_cell, a_bare, an_it, set_part, Made}

abbrev none-at-all : Option Ex
none-at-all = None

-- Nothing on both sides.
none-either : (b : Bool) → (if b then none-at-all else none-at-all) ≡ none-at-all
none-either true = refl
none-either false = refl

module _ (s : Supply) (g : Names Ty) where
  pub of-literal : {e : Ex} → Literal e → (r : OpenRule) → open_rewrite s g r e ≡ None
  of-literal a_number step_by_step = refl
  of-literal a_truth step_by_step = refl
  of-literal l r = refl

  pub of-bound : {e : Ex} → Bound e → (r : OpenRule) → open_rewrite s g r e ≡ None
  of-bound at_number step_by_step = refl
  of-bound at_cell step_by_step = refl
  of-bound l r = refl

  pub of-name : (x : Text) (r : OpenRule) → open_rewrite s g r (name_ex x) ≡ None
  of-name x step_by_step = refl
  of-name x r = refl

  module _ (n : Text) where
    pub of-view : (A : Dom) (L : Ex) (r : OpenRule) → open_rewrite s g r (view n A L) ≡ None
    of-view A L step_by_step = refl
    of-view A L r = refl

    pub of-asked : (A : Dom) (L : Ex) → Literal L → (r : OpenRule) → open_rewrite s g r (asked n A L) ≡ None
    of-asked A L a_number step_by_step = refl
    of-asked A L a_truth step_by_step = refl
    of-asked A L l r = refl

    pub of-cell : (A : Dom) (L e : Ex) (r : OpenRule) → open_rewrite s g r (cell_at n A L e) ≡ None
    of-cell A L e step_by_step = refl
    of-cell A L e r = refl

    pub of-it : (A : Dom) (L : Ex) → Literal L → (x : Text) (r : OpenRule) → open_rewrite s g r (is_it n A L x) ≡ None
    of-it A L a_number x step_by_step = refl
    of-it A L a_truth x step_by_step = refl
    of-it A L l x r = refl

    pub of-bare-both : (A : Dom) (L e f : Ex) (x : Text) (r : OpenRule) →
        open_rewrite s g r (ex2 true Op2.And (cell_at n A L e) (some_of n A L f no_gens)) ≡ None
    of-bare-both A L e f x step_by_step = refl
    of-bare-both A L e f x r = refl

    pub of-it-both : (A : Dom) (L e : Ex) (x : Text) (r : OpenRule) →
        open_rewrite s g r (ex2 true Op2.And (cell_at n A L e) (is_it n A L x)) ≡ None
    of-it-both A L e x step_by_step = refl
    of-it-both A L e x r = refl

    pub of-bare-items : (e : Ex) (r : OpenRule) → open_rewrite s g r (comp_ex e no_gens) ≡ None
    of-bare-items e step_by_step = refl
    of-bare-items e r = refl

    pub of-set-items : (A : Dom) (L e : Ex) (x : Text) (r : OpenRule) →
        open_rewrite s g r (comp_ex e (from (name_pat x) (view n A L) no_gens)) ≡ None
    of-set-items A L e x step_by_step = refl
    of-set-items A L e x r = refl

    pub of-items-where : {A : Dom} → Axis A → (e c : Ex) (x : Text) (r : OpenRule) →
        open_rewrite s g r (comp_ex e (over (name_pat x) A (cond c no_gens))) ≡ None
    of-items-where truths e c x step_by_step = refl
    of-items-where (numbers p q) e c x step_by_step = refl
    of-items-where a e c x r = refl

    pub of-items : {A : Dom} → Axis A → (e : Ex) (x : Text) (r : OpenRule) →
        open_rewrite s g r (comp_ex e (over (name_pat x) A no_gens)) ≡ None
    of-items truths e x step_by_step = refl
    of-items (numbers p q) e x step_by_step = refl
    of-items a e x r = refl

    pub of-bare : (A : Dom) (L e : Ex) (r : OpenRule) → open_rewrite s g r (some_of n A L e no_gens) ≡ None
    of-bare A L e step_by_step = refl
    of-bare A L e r = refl

    pub of-fold : {A : Dom} → Axis A → (L e : Ex) (x : Text) (r : OpenRule) →
        open_rewrite s g r (some_of n A L e (over (name_pat x) A no_gens)) ≡ None
    of-fold truths L e x step_by_step = refl
    of-fold (numbers p q) L e x step_by_step = refl
    of-fold a L e x r = refl

    pub of-where : {A : Dom} → Axis A → (L e c : Ex) (x : Text) (r : OpenRule) →
        open_rewrite s g r (some_of n A L e (over (name_pat x) A (cond c no_gens))) ≡ None
    of-where truths L e c x step_by_step = refl
    of-where (numbers p q) L e c x step_by_step = refl
    of-where a L e c x r = refl

    pub of-set : (A : Dom) (L : Ex) → Literal L → (x : Text) (r : OpenRule) →
        Made n A L {g = g} (set_part {x = x}) (open_rewrite s g r (over_set n A L x))
    of-set A L a_number x over_one_source = (
      s.one,
      inl (ap (λ e. some_of n A L (ex2 true Op2.Eq e L)
          (over (name_pat s.one) A (cond (cell_at n A L (name_ex s.one)) no_gens))) (put-itself x (name_ex s.one))),
    )
    of-set A L a_truth x over_one_source = (
      s.one,
      inl (ap (λ e. some_of n A L (ex2 true Op2.Eq e L)
          (over (name_pat s.one) A (cond (cell_at n A L (name_ex s.one)) no_gens))) (put-itself x (name_ex s.one))),
    )
    of-set A L l x r = tt

    pub of-list : (A : Dom) (L e : Ex) → OverDomain n A L e → (r : OpenRule) →
        open_rewrite s g r (node_ex false matrix_literal (more_exs e no_exs)) ≡ None
    of-list A L e a_cell of_a_pick = none-either (gives_scalar g (node_ex false matrix_literal (more_exs e no_exs)))
    of-list A L e a_bare of_a_pick = none-either (gives_scalar g (node_ex false matrix_literal (more_exs e no_exs)))
    of-list A L e an_it of_a_pick = none-either (gives_scalar g (node_ex false matrix_literal (more_exs e no_exs)))
    of-list A L e o r = refl

    pub of-alone : (A : Dom) (L e : Ex) → (r : OpenRule) → open_rewrite s g r (alone n A L e) ≡ None
    of-alone A L e step_by_step = refl
    of-alone A L e r = refl
