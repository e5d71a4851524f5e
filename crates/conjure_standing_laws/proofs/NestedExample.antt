-- Worked example: a text of a set of sets with a size, without a list, is one of the class.
use Rattle.std.proofs.Common.{◌≡◌, refl, sym, subst, true, None, List, [], ◌∷◌, pos, codes}
use Rattle.ess_semantics.specs.declared.words.Key.{Key}
use Rattle.ess_semantics.specs.Values.{Text}
use Rattle.ess_semantics.specs.Trees.{both_ends, valued, number_ex, no_exs, int_dom, set_dom, Stm, find}
use Rattle.ess_grammar.specs.Grammar.{one_ex, two_exs, number_atom, atom_expression, ranges_domain, last_range, both_range, set_domain}
use Rattle.ess_grammar.specs.Grammar.{no_attributes, some_attributes, last_attribute, valued_attribute}
use Rattle.ess_grammar.specs.Statements.{last_name, find_part, last_part, begins_find, parts_statement}
use Rattle.ess_grammar.specs.Statements.{no_statements, more_statements, no_language_line, specification}
use Rattle.ess_grammar.specs.Texts.{ReadsSpecification}
use Rattle.ess_mixed_models_laws.specs.MixedSpecifications.{is_mixed_specification}
use Rattle.conjure_standing_laws.specs.MixedTexts.{IsMixedText}

abbrev text : Text
text = codes "find s : set (size 2) of set of int(1..3)"

abbrev S : List Stm
S =
    find (codes "s") (set_dom (valued Key.Size ∷ []) (one_ex (number_ex (pos 2)))
    (set_dom [] no_exs (int_dom (both_ends ∷ []) (two_exs (number_ex (pos 1)) (number_ex (pos 3)))))) ∷ []

-- The text is this specification.
its-statements : ReadsSpecification text S
its-statements = (
  _,
  refl,
  specification no_language_line
      (more_statements (parts_statement begins_find (last_part (find_part last_name
      (set_domain (some_attributes (last_attribute (valued_attribute refl (atom_expression number_atom))))
      (set_domain no_attributes
      (ranges_domain (last_range (both_range (atom_expression number_atom) (atom_expression number_atom)))))))))
      no_statements),
)

-- It is of the class.
its-class : is_mixed_specification S [] ≡ true
its-class = refl

is-mixed : IsMixedText None text
is-mixed = record {
  S = S;
  specification = its-statements;
  mixed = λ o h. subst (λ o. is_mixed_specification S o ≡ true) (sym h) its-class;
}
