-- What rules that read no kind make of the parts of trees of a membership.
use Rattle.std.proofs.Common.{◌≡◌, refl, ap, false, true, None, inr}
use Rattle.ess_semantics.specs.declared.words.Op2.{Op2}
use Rattle.ess_semantics.specs.Values.{Text}
use Rattle.ess_semantics.specs.Names.{Names}
use Rattle.ess_semantics.specs.Trees.{Ex, name_ex, Dom, ex2, matrix_literal, node_ex, more_exs, no_exs, comp_ex, from, over, cond, no_gens, name_pat}
use Rattle.ess_semantics.specs.Types.{Ty}
use Rattle.ess_semantics.specs.Typing.{type_of}
use Rattle.ess_rules_laws.specs.ComponentRules.{components, equal_where}
use Rattle.ess_refine_laws.specs.AllRules.{Rule, Supply, rewrite, over_nothing, over_one, over_one_binding, equal_tuples, equal_records, equal_sets, equal_multisets, equal_functions, equal_partitions, equal_matrices_at, in_a_term, condition}
use Rattle.ess_flat_laws.proofs.Asked.{unasked, no-sets, no-msets, no-functions, no-partitions, no-components, no-fields, no-matrices}
use Rattle.ess_member_trees_laws.specs.Memberships.{Literal, a_number, a_truth, Bound, at_number, at_cell, Axis, truths, numbers, view, asked, cell_at, is_it, some_of, where_cell, alone, OverDomain, Plainly, asked_part, where_part, bare_part, listed_part, Made}

module _ (s : Supply) (g : Names Ty) where
  pub of-literal : {e : Ex} → Literal e → (r : Rule) → rewrite s g r e ≡ None
  of-literal a_number over_nothing = refl
  of-literal a_truth over_nothing = refl
  of-literal l r = refl

  pub of-bound : {e : Ex} → Bound e → (r : Rule) → rewrite s g r e ≡ None
  of-bound at_number over_nothing = refl
  of-bound at_cell over_nothing = refl
  of-bound l r = refl

  pub of-name : (x : Text) (r : Rule) → rewrite s g r (name_ex x) ≡ None
  of-name x over_nothing = refl
  of-name x r = refl

  module _ (n : Text) where
    pub of-view : (A : Dom) (L : Ex) (r : Rule) → rewrite s g r (view n A L) ≡ None
    of-view A L over_nothing = refl
    of-view A L r = refl

    pub of-asked : (A : Dom) (L : Ex) → Literal L → (r : Rule) → Made n A L {g = g} asked_part (rewrite s g r (asked n A L))
    of-asked A L l in_a_term = inr (s.one, refl)
    of-asked A L l r = tt

    pub of-cell : (A : Dom) (L e : Ex) (r : Rule) → rewrite s g r (cell_at n A L e) ≡ None
    of-cell A L e over_nothing = refl
    of-cell A L e r = refl

    pub of-it : (A : Dom) (L : Ex) → Literal L → (x : Text) → Plainly n A L g x → (r : Rule) → rewrite s g r (is_it n A L x) ≡ None
    of-it A L a_number x p equal_tuples = ap (λ o. equal_where o (components (type_of L g)) (name_ex x) L) (no-components (type_of
        (name_ex x) g) p)
    of-it A L a_truth x p equal_tuples = ap (λ o. equal_where o (components (type_of L g)) (name_ex x) L) (no-components (type_of
        (name_ex x) g) p)
    of-it A L l x p equal_records = no-fields (type_of (name_ex x) g) (type_of L g) (name_ex x) L p
    of-it A L l x p equal_sets = unasked _ (no-sets (type_of (name_ex x) g) (type_of L g) p)
    of-it A L l x p equal_multisets = unasked _ (no-msets (type_of (name_ex x) g) (type_of L g) p)
    of-it A L l x p equal_functions = unasked _ (no-functions (type_of (name_ex x) g) (type_of L g) p)
    of-it A L l x p equal_partitions = unasked _ (no-partitions (type_of (name_ex x) g) (type_of L g) p)
    of-it A L l x p equal_matrices_at = no-matrices (type_of (name_ex x) g) (type_of L g) _ p
    of-it A L l x p r = refl

    -- Operators on parts.
    pub of-both : (A : Dom) (L e f : Ex) (r : Rule) → rewrite s g r (ex2 true Op2.And e f) ≡ None
    of-both A L e f over_nothing = refl
    of-both A L e f r = refl

    pub of-bare : (A : Dom) (L : Ex) (x : Text) (r : Rule) →
        Made n A L {g = g} (bare_part {x = x}) (rewrite s g r (some_of n A L (is_it n A L x) no_gens))
    of-bare A L x over_one_binding = refl
    of-bare A L x r = tt

    pub of-bare-items : (e : Ex) (r : Rule) → rewrite s g r (comp_ex e no_gens) ≡ None
    of-bare-items e over_nothing = refl
    of-bare-items e r = refl

    pub of-set-items : (A : Dom) (L e : Ex) (x : Text) (r : Rule) →
        rewrite s g r (comp_ex e (from (name_pat x) (view n A L) no_gens)) ≡ None
    of-set-items A L e x over_nothing = refl
    of-set-items A L e x r = refl

    pub of-set : (A : Dom) (L e : Ex) (x : Text) (r : Rule) → rewrite s g r (some_of n A L e (from (name_pat x)
        (view n A L) no_gens)) ≡ None
    of-set A L e x over_nothing = refl
    of-set A L e x r = refl

    pub of-items-where : {A : Dom} → Axis A → (e c : Ex) (x : Text) (r : Rule) →
        rewrite s g r (comp_ex e (over (name_pat x) A (cond c no_gens))) ≡ None
    of-items-where truths e c x over_nothing = refl
    of-items-where (numbers p q) e c x over_nothing = refl
    of-items-where a e c x r = refl

    pub of-items : {A : Dom} → Axis A → (e : Ex) (x : Text) (r : Rule) → rewrite s g r (comp_ex e (over (name_pat x) A no_gens)) ≡ None
    of-items truths e x over_nothing = refl
    of-items (numbers p q) e x over_nothing = refl
    of-items a e x r = refl

    pub of-fold : {A : Dom} → Axis A → (L e : Ex) (x : Text) (r : Rule) →
        rewrite s g r (some_of n A L e (over (name_pat x) A no_gens)) ≡ None
    of-fold truths L e x over_nothing = refl
    of-fold (numbers p q) L e x over_nothing = refl
    of-fold a L e x r = refl

    pub of-where : {A : Dom} {L : Ex} → Axis A → Literal L → (x : Text) (r : Rule) →
        Made n A L {g = g} (where_part {x = x}) (rewrite s g r (where_cell n A L x))
    of-where truths a_number x condition = refl
    of-where truths a_truth x condition = refl
    of-where (numbers p q) a_number x condition = refl
    of-where (numbers p q) a_truth x condition = refl
    of-where a l x r = tt

    pub of-list : (e : Ex) (r : Rule) → rewrite s g r (node_ex false matrix_literal (more_exs e no_exs)) ≡ None
    of-list e over_nothing = refl
    of-list e r = refl

    pub of-alone : (A : Dom) (L e : Ex) (o : OverDomain n A L e) (r : Rule) →
        Made n A L {g = g} (listed_part o) (rewrite s g r (alone n A L e))
    of-alone A L e o over_one = refl
    of-alone A L e o r = tt
