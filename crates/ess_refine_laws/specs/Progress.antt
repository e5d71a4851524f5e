-- Progress: in a tree of a scalar that isn't refined some rule fires at some part, or a part is left to a kind or to a lookup.
use Rattle.std.specs.Prelude.{◌≡◌, Bool, true, false, ◌&&◌, ◌||◌, List, Option, Some, IsTrue, is_some}
use Rattle.std.specs.List.{list_all}
use Rattle.ess_semantics.specs.declared.words.Fun.{Fun}
use Rattle.ess_semantics.specs.Values.{Text}
use Rattle.ess_semantics.specs.Names.{Names}
use Rattle.ess_semantics.specs.Operators.{iff}
use Rattle.ess_semantics.specs.Trees.{word, index, application, is_truth_op, Pat, name_pat, Ex, Exs, number_ex, truth_ex, name_ex, node_ex, matrix_ex, comp_ex, cell_ex, seen_ex, no_exs, more_exs, Gens, no_gens, over, from, cond, Dom, Doms, bool_dom, int_dom, name_dom, tuple_dom, record_dom}
use Rattle.ess_semantics.specs.Types.{Ty, type_of_dom, bind_types}
use Rattle.ess_semantics.specs.Typing.{type_of, types_of, source_ty}
use Rattle.ess_semantics.specs.Kinds.{is_bounded}
use Rattle.ess_semantics.specs.ExpressionJudgements.{pattern_fits}
use Rattle.ess_semantics.specs.Contexts.{In, fill}
use Rattle.ess_semantics.specs.NamesAt.{names_behind, names_at}
use Rattle.ess_semantics.specs.Refined.{is_refined}
use Rattle.ess_rules_laws.specs.SpliceRules.{append_gens}
use Rattle.ess_rules_laws.specs.SplitRules.{split}
use Rattle.ess_rules_laws.specs.TupleNames.{name_over_tuple, are_names}
use Rattle.ess_refine_laws.specs.RecordNames.{are_in_order, name_over_record}
use Rattle.ess_refine_laws.specs.ScalarItems.{is_scalar, has_scalar_items}
use Rattle.ess_refine_laws.specs.AllRules.{Supply, rule_at}
use Rattle.ess_rules_laws.specs.Progress.{HasMembers, is_parted, is_plain_source, has_members}

-- ---- judged trees

-- Whether the type is of scalars or of compound values: not that of the members of an empty literal.
abbrev pub is_known : Option Ty → Bool
is_known t = is_scalar t || is_parted t

-- Whether the operand is left to a kind or to a lookup: a view, an index, an application or `image`.
abbrev pub is_picked : Ex → Bool
is_picked (seen_ex r d ns es) = true
is_picked (node_ex b (index qs) es) = true
is_picked (node_ex b application es) = true
is_picked (node_ex b (word Fun.Image) es) = true
is_picked e = false

-- Whether the items of each of these are scalars.
abbrev pub have_scalar_items : Exs → Names Ty → Bool
have_scalar_items no_exs g = true
have_scalar_items (more_exs l es) g = has_scalar_items l g && have_scalar_items es g

abbrev mutual
  -- What progress counts on in each part: marks are right, operands and the items of comprehensions have known types, indices of
  -- cells are scalars, generators run over atoms, tuples and records of domains, which patterns fit, with fields in their order,
  -- or over terms that have members.
  pub is_judged : Ex → Names Ty → Bool
  is_judged (number_ex n) g = true
  is_judged (truth_ex b) g = true
  is_judged (name_ex a) g = true
  is_judged (node_ex b op es) g =
      is_picked (node_ex b op es)
      || (iff b (is_truth_op op) && (list_all is_known (types_of es g) && are_judged es g))
  is_judged (matrix_ex es d) g = true
  is_judged (comp_ex e gs) g =
      is_known (type_of e (names_behind gs g)) && (is_judged e (names_behind gs g) && gens_judged gs g)
  is_judged (cell_ex b n es) g = list_all is_scalar (types_of es g) && are_judged es g
  is_judged (seen_ex r d ns es) g = true

  -- The same of operands.
  pub are_judged : Exs → Names Ty → Bool
  are_judged no_exs g = true
  are_judged (more_exs e es) g = is_judged e g && are_judged es g

  -- The same of generators.
  pub gens_judged : Gens → Names Ty → Bool
  gens_judged no_gens g = true
  gens_judged (over p d gs) g = pattern_fits p (type_of_dom d) && (dom_judged d g && gens_judged gs (bind_types p (type_of_dom d) g))
  gens_judged (from p e gs) g =
      has_members (type_of e g) && (is_plain_source g e && gens_judged gs (bind_types p (source_ty e g) g))
  gens_judged (cond c gs) g = is_scalar (type_of c g) && (is_judged c g && gens_judged gs g)

  -- The same of the domain of a generator.
  pub dom_judged : Dom → Names Ty → Bool
  dom_judged bool_dom g = true
  dom_judged (name_dom t) g = true
  dom_judged (int_dom rs es) g = is_bounded rs && (list_all is_scalar (types_of es g) && are_judged es g)
  dom_judged (tuple_dom ds) g = true
  dom_judged (record_dom fs ds) g = are_in_order fs ds
  dom_judged d g = false

-- ---- what moves

-- Some rule fires at the root, or at a generator of it, or the root is left to a kind or a lookup; s are what the rules take. A
-- source offers a listing or is left, a pattern over a tuple of domains comes apart, a name over one becomes a tuple of any new
-- names, and so with a record of domains.
module _ (s : Supply) where
  pub data Moves : Names Ty → Ex → Type 0 where
    by_a_rule : {g : Names Ty} {e : Ex} → IsTrue (is_some (rule_at s g e)) → Moves g e
    at_a_source : {g : Names Ty} (e : Ex) (gs : Gens) (p : Pat) (t : Ex) (hs : Gens) → HasMembers (names_behind gs g) s.one s.other t →
        Moves g (comp_ex e (append_gens gs (from p t hs)))
    at_a_pattern : {g : Names Ty} (e f : Ex) (gs : Gens) (p : Pat) (c : Dom) (hs : Gens) → split (comp_ex e (over p c hs)) ≡ Some f →
        Moves g (comp_ex e (append_gens gs (over p c hs)))
    at_a_tuple : {g : Names Ty} (e : Ex) (gs : Gens) (a : Text) (ds : Doms) (hs : Gens) →
        ((ys : List Text) → are_names ys ds ≡ true →
        (f : Ex) × (name_over_tuple ys (comp_ex e (over (name_pat a) (tuple_dom ds) hs)) ≡ Some f)) →
        Moves g (comp_ex e (append_gens gs (over (name_pat a) (tuple_dom ds) hs)))
    at_a_record : {g : Names Ty} (e : Ex) (gs : Gens) (a : Text) (fs : List Text) (ds : Doms) (hs : Gens) →
        ((ys : List Text) → are_names ys ds ≡ true →
        (f : Ex) × (name_over_record ys (comp_ex e (over (name_pat a) (record_dom fs ds) hs)) ≡ Some f)) →
        Moves g (comp_ex e (append_gens gs (over (name_pat a) (record_dom fs ds) hs)))
    is_left : {g : Names Ty} {e : Ex} → is_picked e ≡ true → Moves g e

  -- A part of the tree at which this is so.
  pub record Work (g : Names Ty) (e : Ex) : Type 0 where
    pub context : In
    pub part : Ex
    pub whole : e ≡ fill context part
    pub moves : Moves (names_at context g) part

  -- The tree is refined, or has such a part.
  pub data Progress (g : Names Ty) (e : Ex) : Type 0 where
    is_done : is_refined e ≡ true → Progress g e
    goes_on : Work g e → Progress g e

-- ---- the law

-- So it is with each judged tree of a scalar; and where nothing moves at any part the tree is refined.
pub record TreesMakeProgress : Type 0 where
  pub moves : (s : Supply) (g : Names Ty) (e : Ex) → is_judged e g ≡ true → is_scalar (type_of e g) ≡ true → Progress s g e
  pub is_refined_where_none_does : (s : Supply) (g : Names Ty) (e : Ex) → is_judged e g ≡ true → is_scalar (type_of e g) ≡ true →
      ((c : In) (a : Ex) → e ≡ fill c a → Moves s (names_at c g) a → ⊥) → is_refined e ≡ true
