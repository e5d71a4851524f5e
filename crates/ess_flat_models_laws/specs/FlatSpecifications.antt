-- A class of specifications: givens and finds `bool` or `int` with bounds that numbers and earlier givens make, each kept as an atom;
-- conditions on parameters, constraints and an objective that are flat and total over these; lettings of expressions and domains. In any
-- order and number. Lettings are put in before it is asked what a statement is.
use Rattle.std.specs.Prelude.{Bool, true, false, ◌&&◌, ◌||◌, not, if◌then◌else◌, List, [], ◌∷◌, Option, Some, None, option_map, is_some}
use Rattle.std.specs.List.{list_all}
use Rattle.ess_semantics.specs.declared.words.ReprKind.{ReprKind}
use Rattle.ess_semantics.specs.declared.words.Op1.{Op1}
use Rattle.ess_semantics.specs.declared.words.Op2.{Op2}
use Rattle.ess_semantics.specs.Values.{Text}
use Rattle.ess_semantics.specs.Order.{same_text}
use Rattle.ess_semantics.specs.Names.{is_among}
use Rattle.ess_semantics.specs.Meaning.{is_bool_dom}
use Rattle.ess_semantics.specs.Trees.{Repr, repr, no_reprs, Ends, one_value, both_ends, low_end, high_end, Ex, Exs, number_ex, name_ex, no_exs, more_exs, ex1, ex2, Dom, bool_dom, int_dom, Stm, given, let_ex, let_dom, needs, find, such_that, minimise, maximise}
use Rattle.ess_semantics.specs.Prepared.{prepared}
use Rattle.ess_semantics.specs.Plans.{Options, givens_side, finds_side, Plan, value_plan, chosen_reprs, plans}
use Rattle.ess_semantics.specs.Models.{scalar_cell, is_flat, constraints_of}
use Rattle.ess_flat_laws.specs.Flat.{flat_mark, none_marked}

-- What says of a name that is a given whether that is a truth value.
abbrev pub given_mark : List Plan → Text → Option Bool
given_mark [] a = None
given_mark (value_plan givens_side x r d ns ∷ Ps) a = if same_text x a then Some (is_bool_dom d) else given_mark Ps a
given_mark (value_plan finds_side x r d ns ∷ Ps) a = if same_text x a then None else given_mark Ps a
given_mark (P ∷ Ps) a = given_mark Ps a

-- The same of these names alone.
abbrev pub mark_among : List Text → (Text → Option Bool) → Text → Option Bool
mark_among xs g a = if is_among xs a then g a else None

-- Whether the mark is that of numbers.
abbrev pub is_of_numbers : Option Bool → Bool
is_of_numbers (Some b) = not b
is_of_numbers None = false

-- The marks of names.
module _ (g : Text → Option Bool) where
  -- Whether it is built of numbers, and of names that are numbers, by `-`, `+`, `*` and `| |`.
  abbrev pub is_reckoned : Ex → Bool
  is_reckoned (number_ex n) = true
  is_reckoned (name_ex a) = is_of_numbers (g a)
  is_reckoned (ex1 false Op1.Minus x) = is_reckoned x
  is_reckoned (ex1 false Op1.Bar x) = is_reckoned x
  is_reckoned (ex2 false Op2.Plus x y) = is_reckoned x && is_reckoned y
  is_reckoned (ex2 false Op2.Minus x y) = is_reckoned x && is_reckoned y
  is_reckoned (ex2 false Op2.Times x y) = is_reckoned x && is_reckoned y
  is_reckoned e = false

  -- Whether these are ranges with such bounds.
  abbrev pub are_ranges : List Ends → Exs → Bool
  are_ranges [] no_exs = true
  are_ranges (one_value ∷ rs) (more_exs a es) = is_reckoned a && are_ranges rs es
  are_ranges (both_ends ∷ rs) (more_exs a (more_exs b es)) = is_reckoned a && (is_reckoned b && are_ranges rs es)
  are_ranges (low_end ∷ rs) (more_exs a es) = is_reckoned a && are_ranges rs es
  are_ranges (high_end ∷ rs) (more_exs b es) = is_reckoned b && are_ranges rs es
  are_ranges rs es = false

  -- Whether it is the domain of truth values, or one of numbers with such bounds.
  abbrev pub is_scalar_dom : Dom → Bool
  is_scalar_dom bool_dom = true
  is_scalar_dom (int_dom rs es) = are_ranges rs es
  is_scalar_dom d = false

-- Whether an atom is the only representation.
abbrev pub is_atom_alone : List Repr → Bool
is_atom_alone (repr ReprKind.Atom no_reprs ∷ []) = true
is_atom_alone rs = false

-- Whether a name is a given or find that is a truth value, or a number.
abbrev pub scalar_mark : List Plan → Text → Option Bool
scalar_mark Ps a = option_map (λ c. c.0) (scalar_cell Ps a)

-- Whether the mark is that of truth values.
abbrev pub is_of_truths : Option Bool → Bool
is_of_truths (Some b) = b
is_of_truths None = false

-- Whether it is a flat and total truth value over givens and finds.
abbrev pub is_flat_truth : List Plan → Ex → Bool
is_flat_truth Ps e = is_of_truths (flat_mark (scalar_mark Ps) none_marked e)

-- Whether it is a flat and total number over them.
abbrev pub is_flat_number : List Plan → Ex → Bool
is_flat_number Ps e = is_of_numbers (flat_mark (scalar_mark Ps) none_marked e)

-- Whether the statement is of the class, where givens and finds are kept by these plans and lettings are put in. No letting has the name of
-- a given or find.
abbrev pub is_flat_statement : List Plan → Options → Stm → Bool
is_flat_statement Ps o (given x d) = is_scalar_dom (given_mark Ps) d && is_atom_alone (chosen_reprs o x d)
is_flat_statement Ps o (find x d) = is_scalar_dom (given_mark Ps) d && is_atom_alone (chosen_reprs o x d)
is_flat_statement Ps o (let_ex x e) = not (is_some (scalar_mark Ps x))
is_flat_statement Ps o (let_dom x d) = true
is_flat_statement Ps o (needs e) = is_flat_truth Ps e
is_flat_statement Ps o (such_that e) = is_flat_truth Ps e
is_flat_statement Ps o (minimise e) = is_flat_number Ps e
is_flat_statement Ps o (maximise e) = is_flat_number Ps e
is_flat_statement Ps o s = false

-- Whether bounds have no names but those of these givens, and of those that are declared before.
abbrev pub are_bounded : List Plan → List Text → List Stm → Bool
are_bounded Ps xs [] = true
are_bounded Ps xs (given x d ∷ T) = is_scalar_dom (mark_among xs (given_mark Ps)) d && are_bounded Ps (x ∷ xs) T
are_bounded Ps xs (find x d ∷ T) = is_scalar_dom (mark_among xs (given_mark Ps)) d && are_bounded Ps xs T
are_bounded Ps xs (s ∷ T) = are_bounded Ps xs T

-- Whether all statements are of the class, with lettings put in.
abbrev pub are_flat_statements : List Stm → Options → Bool
are_flat_statements S o = list_all (is_flat_statement (plans S o) o) (prepared S)

-- Whether a constraint that is flat as it was written is of the class so: its nodes have the marks of truth values and numbers.
abbrev pub has_marks : List Plan → Ex → Bool
has_marks Ps e = not (is_flat Ps e) || is_flat_truth Ps e

-- Whether the specification is of the class, with these options.
abbrev pub is_flat_specification : List Stm → Options → Bool
is_flat_specification S o =
    are_flat_statements S o && (are_bounded (plans S o) [] (prepared S) && list_all (has_marks (plans S o)) (constraints_of S))
