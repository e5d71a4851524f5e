-- Worked example: a text of two lines is a specification of the class, and the lines of its header are that header.
use Rattle.std.proofs.Common.{◌≡◌, refl, true, lit≤, [], ◌∷◌, ◌++◌, List, pos, codes}
use Rattle.ess_semantics.specs.declared.words.Op2.{Op2}
use Rattle.ess_semantics.specs.Values.{Text}
use Rattle.ess_semantics.specs.Trees.{both_ends, number_ex, name_ex, int_dom, Stm, find, such_that}
use Rattle.ess_semantics.specs.ModelTrees.{header_of}
use Rattle.ess_grammar.specs.Grammar.{two_exs, binary_ex, number_atom, name_atom, atom_expression, binary_expression, ranges_domain, last_range, both_range}
use Rattle.ess_grammar.specs.Statements.{last_name, find_part, such_that_part, last_part, begins_find, begins_such_that, parts_statement, no_statements, more_statements, no_language_line, specification}
use Rattle.ess_grammar.specs.Readable.{ReadableStms}
use Rattle.ess_grammar.specs.Texts.{ReadsSpecification}
use Rattle.ess_grammar.proofs.ProperTokens.{specification-text-readable}
use Rattle.ess_grammar.specs.HeaderTexts.{IsHeader}
use Rattle.ess_translate_header_laws.specs.WrittenLines.{header_texts}
use Rattle.ess_flat_models_laws.specs.FlatSpecifications.{is_flat_specification}
use Rattle.ess_flat_headers_laws.proofs.FlatHeaders.{flat-headers-are-read}

abbrev pub text : Text
text = codes "find x : int(1..3)" ++ (10 ∷ codes "such that x + 1 = 3")

abbrev pub S : List Stm
S =
    find (codes "x") (int_dom (both_ends ∷ []) (two_exs (number_ex (pos 1)) (number_ex (pos 3))))
    ∷ such_that (binary_ex Op2.Eq (binary_ex Op2.Plus (name_ex (codes "x")) (number_ex (pos 1))) (number_ex (pos 3))) ∷ []

-- The text is this specification.
pub its-statements : ReadsSpecification text S
its-statements = (
  _,
  refl,
  specification no_language_line
      (more_statements (parts_statement begins_find (last_part (find_part last_name
      (ranges_domain (last_range (both_range (atom_expression number_atom) (atom_expression number_atom)))))))
      (more_statements (parts_statement begins_such_that (last_part (such_that_part
      (binary_expression (lit≤ tt) (lit≤ tt)
      (binary_expression (lit≤ tt) (lit≤ tt) (atom_expression name_atom) (atom_expression number_atom))
      (atom_expression number_atom)))))
      no_statements)),
)

its-readable : ReadableStms S
its-readable = specification-text-readable text S its-statements refl

-- It is of the class.
pub its-class : is_flat_specification S [] ≡ true
its-class = refl

-- The lines of its header are it.
pub its-header : IsHeader (header_of S []) (header_texts (header_of S []))
its-header = flat-headers-are-read S [] its-readable its-class
