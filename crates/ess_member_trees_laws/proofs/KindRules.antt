-- What rules that read the kind of a view make of the parts of trees of a membership.
use Rattle.std.proofs.Common.{◌≡◌, refl, ap, false, true, if◌then◌else◌, None, inl, inr}
use Rattle.ess_semantics.specs.declared.words.Op2.{Op2}
use Rattle.ess_semantics.specs.Values.{Text}
use Rattle.ess_semantics.specs.Names.{Names}
use Rattle.ess_semantics.specs.Trees.{Ex, name_ex, Dom, ex2, matrix_literal, node_ex, more_exs, no_exs, comp_ex, over, cond, no_gens, name_pat}
use Rattle.ess_semantics.specs.Types.{Ty}
use Rattle.ess_semantics.specs.Substitution.{for_name}
use Rattle.ess_semantics.proofs.Texts.{same_text-itself}
use Rattle.ess_refine_laws.specs.AllRules.{Supply}
use Rattle.ess_flat_laws.specs.ess_kind_rules_laws.KindRules.{KindRule, kind_rewrite, cell_of_an_atom, over_a_view, of_one_view, member_at_a_cell}
use Rattle.ess_member_trees_laws.specs.Memberships.{Literal, a_number, a_truth, Bound, at_number, at_cell, view, asked, cell_at, is_it, some_of, over_set, alone, OverDomain, a_cell, a_bare, an_it, asked_part, set_part, Made}

-- What stands in the place of the name itself.
pub put-itself : (x : Text) (e : Ex) → for_name x e x ≡ e
put-itself x e = ap (λ b. if b then e else name_ex x) (same_text-itself x)

module _ (s : Supply) (g : Names Ty) where
  pub of-literal : {e : Ex} → Literal e → (r : KindRule) → kind_rewrite s g r e ≡ None
  of-literal a_number cell_of_an_atom = refl
  of-literal a_truth cell_of_an_atom = refl
  of-literal l r = refl

  pub of-bound : {e : Ex} → Bound e → (r : KindRule) → kind_rewrite s g r e ≡ None
  of-bound at_number cell_of_an_atom = refl
  of-bound at_cell cell_of_an_atom = refl
  of-bound l r = refl

  pub of-name : (x : Text) (r : KindRule) → kind_rewrite s g r (name_ex x) ≡ None
  of-name x cell_of_an_atom = refl
  of-name x r = refl

  module _ (n : Text) where
    pub of-view : (A : Dom) (L : Ex) (r : KindRule) → kind_rewrite s g r (view n A L) ≡ None
    of-view A L cell_of_an_atom = refl
    of-view A L r = refl

    pub of-asked : (A : Dom) (L : Ex) → Literal L → (r : KindRule) → Made n A L {g = g} asked_part (kind_rewrite s g r (asked n A L))
    of-asked A L a_number member_at_a_cell = inl refl
    of-asked A L a_truth member_at_a_cell = inl refl
    of-asked A L l r = tt

    pub of-cell : (A : Dom) (L e : Ex) (r : KindRule) → kind_rewrite s g r (cell_at n A L e) ≡ None
    of-cell A L e cell_of_an_atom = refl
    of-cell A L e r = refl

    pub of-it : (A : Dom) (L : Ex) → Literal L → (x : Text) (r : KindRule) → kind_rewrite s g r (is_it n A L x) ≡ None
    of-it A L a_number x cell_of_an_atom = refl
    of-it A L a_truth x cell_of_an_atom = refl
    of-it A L l x r = refl

    pub of-bare-both : (A : Dom) (L e f : Ex) (x : Text) (r : KindRule) →
        kind_rewrite s g r (ex2 true Op2.And (cell_at n A L e) (some_of n A L f no_gens)) ≡ None
    of-bare-both A L e f x cell_of_an_atom = refl
    of-bare-both A L e f x r = refl

    pub of-it-both : (A : Dom) (L e : Ex) (x : Text) (r : KindRule) →
        kind_rewrite s g r (ex2 true Op2.And (cell_at n A L e) (is_it n A L x)) ≡ None
    of-it-both A L e x cell_of_an_atom = refl
    of-it-both A L e x r = refl

    pub of-comp : (e : Ex) (r : KindRule) (hs : _) → kind_rewrite s g r (comp_ex e hs) ≡ None
    of-comp e cell_of_an_atom hs = refl
    of-comp e r hs = refl

    pub of-bare : (A : Dom) (L e : Ex) (r : KindRule) → kind_rewrite s g r (some_of n A L e no_gens) ≡ None
    of-bare A L e cell_of_an_atom = refl
    of-bare A L e r = refl

    pub of-fold : (A B : Dom) (L e : Ex) (x : Text) (hs : _) (r : KindRule) →
        kind_rewrite s g r (some_of n A L e (over (name_pat x) B hs)) ≡ None
    of-fold A B L e x hs cell_of_an_atom = refl
    of-fold A B L e x hs r = refl

    pub of-set : (A : Dom) (L : Ex) → Literal L → (x : Text) (r : KindRule) →
        Made n A L {g = g} (set_part {x = x}) (kind_rewrite s g r (over_set n A L x))
    of-set A L a_number x over_a_view = (
      s.one,
      inr (ap (λ e. alone n A L (some_of n A L (ex2 true Op2.Eq e L)
          (over (name_pat s.one) A (cond (cell_at n A L (name_ex s.one)) no_gens)))) (put-itself x (name_ex s.one))),
    )
    of-set A L a_truth x over_a_view = (
      s.one,
      inr (ap (λ e. alone n A L (some_of n A L (ex2 true Op2.Eq e L)
          (over (name_pat s.one) A (cond (cell_at n A L (name_ex s.one)) no_gens)))) (put-itself x (name_ex s.one))),
    )
    of-set A L a_number x of_one_view = (
      s.one,
      inl (ap (λ e. some_of n A L (ex2 true Op2.Eq e L)
          (over (name_pat s.one) A (cond (cell_at n A L (name_ex s.one)) no_gens))) (put-itself x (name_ex s.one))),
    )
    of-set A L a_truth x of_one_view = (
      s.one,
      inl (ap (λ e. some_of n A L (ex2 true Op2.Eq e L)
          (over (name_pat s.one) A (cond (cell_at n A L (name_ex s.one)) no_gens))) (put-itself x (name_ex s.one))),
    )
    of-set A L l x r = tt

    pub of-list : (A : Dom) (L e : Ex) → OverDomain n A L e → (r : KindRule) →
        kind_rewrite s g r (node_ex false matrix_literal (more_exs e no_exs)) ≡ None
    of-list A L e a_cell cell_of_an_atom = refl
    of-list A L e a_bare cell_of_an_atom = refl
    of-list A L e an_it cell_of_an_atom = refl
    of-list A L e o r = refl

    pub of-alone : (A : Dom) (L e : Ex) → (r : KindRule) → kind_rewrite s g r (alone n A L e) ≡ None
    of-alone A L e cell_of_an_atom = refl
    of-alone A L e r = refl
