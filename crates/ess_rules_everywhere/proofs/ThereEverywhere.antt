-- Numbers by the operator are those that are there everywhere.
use Rattle.std.proofs.Common.{◌≡◌, refl, sym, ap, ap₂, ◌∙◌, Bool, true, false, if◌then◌else◌}
use Rattle.ess_semantics.specs.Trees.{Op, matrix_literal, Ex, Exs, number_ex, truth_ex, name_ex, node_ex, matrix_ex, comp_ex, cell_ex, seen_ex, no_exs, more_exs, Gens, no_gens, over, from, cond, Dom, int_dom}
use Rattle.ess_refine_laws.specs.Everywhere.{everywhere, everywhere_list, everywhere_exs, everywhere_gens, everywhere_dom}
use Rattle.ess_rules_everywhere.specs.NumberNodes.{is_number_op, is_fold_op, guarded_op, folded_op, everywhere_lists}
use Rattle.ess_rules_everywhere.specs.ThereParts.{there, list_there, all_there, lists_there, gens_there, dom_there}
use Rattle.ess_rules_everywhere.proofs.NumberOperators.{number_everywhere, fold_everywhere}
use Rattle.ess_rules_everywhere.proofs.OtherOperators.{other_everywhere}

op-is : (op : Op) (es : Exs) → all_there es ≡ everywhere_exs es → lists_there es ≡ everywhere_lists es
    → there (node_ex false op es) ≡ everywhere (node_ex false op es)
op-is op es h g = go (is_number_op op es) refl (is_fold_op op es) refl
  where
    go : (b : Bool) → is_number_op op es ≡ b → (c : Bool) → is_fold_op op es ≡ c
        → (if b then guarded_op op (all_there es) else if c then folded_op op (lists_there es) else node_ex false op es)
        ≡ everywhere (node_ex false op es)
    go true q c r = ap (guarded_op op) h ∙ sym (number_everywhere op es (sym q))
    go false q true r = ap (folded_op op) g ∙ sym (fold_everywhere op es (sym r))
    go false q false r = sym (other_everywhere op es (sym q) (sym r))

mutual
  there-is : (e : Ex) → there e ≡ everywhere e
  there-is (number_ex n) = refl
  there-is (truth_ex b) = refl
  there-is (name_ex a) = refl
  there-is (node_ex true op es) = refl
  there-is (node_ex false op es) = op-is op es (all-are es) (lists-are es)
  there-is (matrix_ex es d) = refl
  there-is (comp_ex e gs) = refl
  there-is (cell_ex b n es) = refl
  there-is (seen_ex r d ns es) = refl

  list-is : (e : Ex) → list_there e ≡ everywhere_list e
  list-is (comp_ex e gs) = ap₂ comp_ex (there-is e) (gens-are gs)
  list-is (node_ex false matrix_literal es) = ap (node_ex false matrix_literal) (all-are es)
  list-is e = refl

  all-are : (es : Exs) → all_there es ≡ everywhere_exs es
  all-are no_exs = refl
  all-are (more_exs e es) = ap₂ more_exs (there-is e) (all-are es)

  lists-are : (es : Exs) → lists_there es ≡ everywhere_lists es
  lists-are no_exs = refl
  lists-are (more_exs e es) = ap₂ more_exs (list-is e) (lists-are es)

  gens-are : (gs : Gens) → gens_there gs ≡ everywhere_gens gs
  gens-are no_gens = refl
  gens-are (over p d gs) = ap₂ (λ c hs. over p c hs) (dom-is d) (gens-are gs)
  gens-are (from p e gs) = ap (λ hs. from p e hs) (gens-are gs)
  gens-are (cond c gs) = ap (λ hs. cond c hs) (gens-are gs)

  dom-is : (d : Dom) → dom_there d ≡ everywhere_dom d
  dom-is (int_dom rs es) = ap (int_dom rs) (all-are es)
  dom-is d = refl

-- Of a number, several, generators, a domain.
pub there_everywhere : (e : Ex) → there e ≡ everywhere e
there_everywhere e = there-is e

pub all_everywhere : (es : Exs) → all_there es ≡ everywhere_exs es
all_everywhere es = all-are es

pub gens_everywhere : (gs : Gens) → gens_there gs ≡ everywhere_gens gs
gens_everywhere gs = gens-are gs

pub dom_everywhere : (d : Dom) → dom_there d ≡ everywhere_dom d
dom_everywhere d = dom-is d
