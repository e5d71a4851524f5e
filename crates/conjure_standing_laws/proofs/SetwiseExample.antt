-- Worked example: a text with constraints that speak of sets, without a list, is one of the class.
use Rattle.std.proofs.Common.{◌≡◌, refl, sym, subst, true, None, lit≤, List, [], ◌∷◌, ◌++◌, pos, codes}
use Rattle.ess_semantics.specs.declared.words.Key.{Key}
use Rattle.ess_semantics.specs.declared.words.Op1.{Op1}
use Rattle.ess_semantics.specs.declared.words.Op2.{Op2}
use Rattle.ess_semantics.specs.declared.words.Fun.{Fun}
use Rattle.ess_semantics.specs.Values.{Text}
use Rattle.ess_semantics.specs.Trees.{both_ends, valued, name_pat, number_ex, name_ex, no_exs, from, no_gens, int_dom, set_dom, Dom, Stm, find, such_that}
use Rattle.ess_grammar.specs.Grammar.{one_ex, two_exs, unary_ex, binary_ex, quantified, number_atom, name_atom, bar_atom}
use Rattle.ess_grammar.specs.Grammar.{atom_expression, binary_expression, quantifier_expression, for_all_quantifier, last_expression}
use Rattle.ess_grammar.specs.Grammar.{last_generator, in_generator, ranges_domain, last_range, both_range, set_domain}
use Rattle.ess_grammar.specs.Grammar.{no_attributes, some_attributes, last_attribute, valued_attribute}
use Rattle.ess_grammar.specs.Statements.{last_name, find_part, such_that_part, last_part, begins_find, begins_such_that, parts_statement}
use Rattle.ess_grammar.specs.Statements.{no_statements, more_statements, no_language_line, specification}
use Rattle.ess_grammar.specs.Texts.{ReadsSpecification}
use Rattle.ess_mixed_models_laws.specs.MixedSpecifications.{is_mixed_specification}
use Rattle.conjure_standing_laws.specs.MixedTexts.{IsMixedText}

abbrev text : Text
text =
    codes "find s : set (maxSize 3) of set of int(1..4)"
    ++ (10 ∷ codes "find t : set (maxSize 2) of int(1..4)"
    ++ (10 ∷ codes "such that forAll x in s . |x| >= 2" ++ (10 ∷ codes "such that 3 in t")))

abbrev numbers : Dom
numbers = int_dom (both_ends ∷ []) (two_exs (number_ex (pos 1)) (number_ex (pos 4)))

abbrev S : List Stm
S =
    find (codes "s") (set_dom (valued Key.MaxSize ∷ []) (one_ex (number_ex (pos 3))) (set_dom [] no_exs numbers))
    ∷ find (codes "t") (set_dom (valued Key.MaxSize ∷ []) (one_ex (number_ex (pos 2))) numbers)
    ∷ such_that (quantified Fun.And (from (name_pat (codes "x")) (name_ex (codes "s")) no_gens)
    (binary_ex Op2.Ge (unary_ex Op1.Bar (name_ex (codes "x"))) (number_ex (pos 2))))
    ∷ such_that (binary_ex Op2.Member (number_ex (pos 3)) (name_ex (codes "t"))) ∷ []

-- The text is this specification.
its-statements : ReadsSpecification text S
its-statements = (
  _,
  refl,
  specification no_language_line
      (more_statements (parts_statement begins_find (last_part (find_part last_name
      (set_domain (some_attributes (last_attribute (valued_attribute refl (atom_expression number_atom))))
      (set_domain no_attributes
      (ranges_domain (last_range (both_range (atom_expression number_atom) (atom_expression number_atom)))))))))
      (more_statements (parts_statement begins_find (last_part (find_part last_name
      (set_domain (some_attributes (last_attribute (valued_attribute refl (atom_expression number_atom))))
      (ranges_domain (last_range (both_range (atom_expression number_atom) (atom_expression number_atom))))))))
      (more_statements (parts_statement begins_such_that (last_part (such_that_part
      (quantifier_expression for_all_quantifier
      (last_generator (in_generator refl (last_expression (atom_expression name_atom)) (atom_expression name_atom)))
      (binary_expression (lit≤ tt) (lit≤ tt) (atom_expression (bar_atom (atom_expression name_atom))) (atom_expression number_atom))))))
      (more_statements (parts_statement begins_such_that (last_part (such_that_part
      (binary_expression (lit≤ tt) (lit≤ tt) (atom_expression number_atom) (atom_expression name_atom)))))
      no_statements)))),
)

-- It is of the class.
its-class : is_mixed_specification S [] ≡ true
its-class = refl

is-mixed : IsMixedText None text
is-mixed = record {
  S = S;
  specification = its-statements;
  mixed = λ o h. subst (λ o. is_mixed_specification S o ≡ true) (sym h) its-class;
}
