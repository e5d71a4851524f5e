-- No rule of sources whose items are counted fires at a part of a tree of a membership.
use Rattle.std.proofs.Common.{◌≡◌, None}
use Rattle.ess_semantics.specs.Values.{Text}
use Rattle.ess_semantics.specs.Names.{Names}
use Rattle.ess_semantics.specs.Trees.{Ex, Dom}
use Rattle.ess_semantics.specs.Types.{Ty}
use Rattle.ess_refine_laws.specs.AllRules.{Supply}
use Rattle.ess_member_trees_laws.specs.Memberships.{Literal, a_number, a_truth, at_number, at_cell, Part, literal_part, bound_part, name_part, view_part, asked_part, cell_part, named_part, it_part, items_of_set, set_part, items_where, where_part, bare_items, bare_part, bare_both, it_both, items_bare, with_bare_part, items_it, with_it_part, list_part, listed_part}
use Rattle.ess_numbered_laws.specs.NumberRules.{NumberRule, number_rewrite}
use Rattle.ess_number_rest_laws.specs.Uncounted.{Uncounted, OperandsUncounted}
use Rattle.ess_number_rest_laws.proofs.Uncounted.{uncounted-operands-rest}
use Rattle.ess_ordered_member_laws.specs.MembershipNumbers.{MembershipsHaveNoNumbers}

-- A literal is no comprehension.
literal-uncounted : {e : Ex} → Literal e → Uncounted e
literal-uncounted a_number = tt
literal-uncounted a_truth = tt

module _ (n : Text) (A : Dom) (L : Ex) (l : Literal L) where
  -- Nor is one of two operands in a tree of a membership.
  operands-uncounted : {g : Names Ty} {a : Ex} → Part n A L g a → OperandsUncounted a
  operands-uncounted (literal_part a_number) = tt
  operands-uncounted (literal_part a_truth) = tt
  operands-uncounted (bound_part at_number) = tt
  operands-uncounted (bound_part at_cell) = tt
  operands-uncounted name_part = tt
  operands-uncounted view_part = tt
  operands-uncounted asked_part = (literal-uncounted l, tt)
  operands-uncounted cell_part = tt
  operands-uncounted named_part = tt
  operands-uncounted (it_part h) = (tt, literal-uncounted l)
  operands-uncounted items_of_set = tt
  operands-uncounted set_part = tt
  operands-uncounted items_where = tt
  operands-uncounted where_part = tt
  operands-uncounted bare_items = tt
  operands-uncounted bare_part = tt
  operands-uncounted bare_both = (tt, tt)
  operands-uncounted it_both = (tt, tt)
  operands-uncounted items_bare = tt
  operands-uncounted with_bare_part = tt
  operands-uncounted items_it = tt
  operands-uncounted with_it_part = tt
  operands-uncounted (list_part o) = tt
  operands-uncounted (listed_part o) = tt

  -- So none of these rules fires.
  pub no-number-rule : (s : Supply) (g : Names Ty) (r : NumberRule) {a : Ex} → Part n A L g a → number_rewrite s g r a ≡ None
  no-number-rule s g r {a} p = uncounted-operands-rest s g r a (operands-uncounted p)

pub memberships-have-no-numbers : MembershipsHaveNoNumbers
memberships-have-no-numbers n A L l s g r a p = no-number-rule n A L l s g r p
