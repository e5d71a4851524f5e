-- Worked example: a text of two lines, without a list, is one of the class.
use Rattle.std.proofs.Common.{◌≡◌, refl, sym, subst, true, None, lit≤, List, [], ◌∷◌, ◌++◌, pos, codes}
use Rattle.ess_semantics.specs.Values.{Text}
use Rattle.ess_grammar.specs.Grammar.{number_atom, name_atom, atom_expression, binary_expression, ranges_domain, last_range, both_range, set_domain, no_attributes}
use Rattle.ess_grammar.specs.Statements.{last_name, find_part, such_that_part, last_part, begins_find, begins_such_that, parts_statement, no_statements, more_statements, no_language_line, specification}
use Rattle.ess_grammar.specs.Texts.{ReadsSpecification}
use Rattle.conjure_laws.specs.SetsOfAtoms.{range, num, Line, set_find, holds_lit, spec}
use Rattle.ess_member_headers_laws.specs.KeptSets.{are_kept_by_occurrence}
use Rattle.conjure_standing_laws.specs.MemberTexts.{IsMemberText}

abbrev text : Text
text = codes "find x : set of int(1..9)" ++ (10 ∷ codes "such that 3 in x")

abbrev T : List Line
T = set_find (codes "x") (range (pos 1) (pos 9)) ∷ holds_lit (num (pos 3)) (codes "x") ∷ []

-- The text is this specification.
its-statements : ReadsSpecification text (spec T)
its-statements = (
  _,
  refl,
  specification no_language_line
      (more_statements (parts_statement begins_find (last_part (find_part last_name
      (set_domain no_attributes
      (ranges_domain (last_range (both_range (atom_expression number_atom) (atom_expression number_atom))))))))
      (more_statements (parts_statement begins_such_that (last_part (such_that_part
      (binary_expression (lit≤ tt) (lit≤ tt) (atom_expression number_atom) (atom_expression name_atom)))))
      no_statements)),
)

-- Its find is kept by which members occur.
its-set : are_kept_by_occurrence (spec T) [] ≡ true
its-set = refl

is-member : IsMemberText None text
is-member = record {
  T = T;
  specification = its-statements;
  kept = λ o h. subst (λ o. are_kept_by_occurrence (spec T) o ≡ true) (sym h) its-set;
}
