-- Worked example: a text of a number and a set side by side, without a list, is one of the class.
use Rattle.std.proofs.Common.{◌≡◌, refl, sym, subst, true, None, lit≤, List, [], ◌∷◌, ◌++◌, pos, codes}
use Rattle.ess_semantics.specs.declared.words.Op2.{Op2}
use Rattle.ess_semantics.specs.Values.{Text}
use Rattle.ess_semantics.specs.Trees.{both_ends, number_ex, name_ex, no_exs, int_dom, set_dom, Stm, find, such_that}
use Rattle.ess_grammar.specs.Grammar.{two_exs, binary_ex, number_atom, name_atom, atom_expression, binary_expression, ranges_domain}
use Rattle.ess_grammar.specs.Grammar.{last_range, both_range, set_domain, no_attributes}
use Rattle.ess_grammar.specs.Statements.{last_name, find_part, such_that_part, last_part, begins_find, begins_such_that, parts_statement}
use Rattle.ess_grammar.specs.Statements.{no_statements, more_statements, no_language_line, specification}
use Rattle.ess_grammar.specs.Texts.{ReadsSpecification}
use Rattle.ess_mixed_models_laws.specs.MixedSpecifications.{is_mixed_specification}
use Rattle.conjure_standing_laws.specs.MixedTexts.{IsMixedText}

abbrev text : Text
text =
    codes "find x : int(1..3)"
    ++ (10 ∷ codes "find s : set of int(1..9)" ++ (10 ∷ codes "such that x + 1 = 3" ++ (10 ∷ codes "such that 3 in s")))

abbrev S : List Stm
S =
    find (codes "x") (int_dom (both_ends ∷ []) (two_exs (number_ex (pos 1)) (number_ex (pos 3))))
    ∷ find (codes "s") (set_dom [] no_exs (int_dom (both_ends ∷ []) (two_exs (number_ex (pos 1)) (number_ex (pos 9)))))
    ∷ such_that (binary_ex Op2.Eq (binary_ex Op2.Plus (name_ex (codes "x")) (number_ex (pos 1))) (number_ex (pos 3)))
    ∷ such_that (binary_ex Op2.Member (number_ex (pos 3)) (name_ex (codes "s"))) ∷ []

-- The text is this specification.
its-statements : ReadsSpecification text S
its-statements = (
  _,
  refl,
  specification no_language_line
      (more_statements (parts_statement begins_find (last_part (find_part last_name
      (ranges_domain (last_range (both_range (atom_expression number_atom) (atom_expression number_atom)))))))
      (more_statements (parts_statement begins_find (last_part (find_part last_name
      (set_domain no_attributes
      (ranges_domain (last_range (both_range (atom_expression number_atom) (atom_expression number_atom))))))))
      (more_statements (parts_statement begins_such_that (last_part (such_that_part
      (binary_expression (lit≤ tt) (lit≤ tt)
      (binary_expression (lit≤ tt) (lit≤ tt) (atom_expression name_atom) (atom_expression number_atom))
      (atom_expression number_atom)))))
      (more_statements (parts_statement begins_such_that (last_part (such_that_part
      (binary_expression (lit≤ tt) (lit≤ tt) (atom_expression number_atom) (atom_expression name_atom)))))
      no_statements)))),
)

-- It is of the class.
its-class : is_mixed_specification S [] ≡ true
its-class = refl

is-mixed : IsMixedText None text
is-mixed = record {
  S = S;
  specification = its-statements;
  mixed = λ o h. subst (λ o. is_mixed_specification S o ≡ true) (sym h) its-class;
}
