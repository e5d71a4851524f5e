-- Texts of specifications, files of lettings and representations with their trees, by derivations.
use Rattle.std.specs.Prelude.{refl, [], ◌∷◌, codes}
use Rattle.std.proofs.Common.{lit≤}
use Rattle.ess_semantics.specs.declared.words.Op1.{Op1}
use Rattle.ess_semantics.specs.declared.words.Op2.{Op2}
use Rattle.ess_semantics.specs.declared.words.Key.{Key}
use Rattle.ess_semantics.specs.declared.words.ReprKind.{ReprKind}
use Rattle.ess_semantics.specs.Trees.{repr, no_reprs, more_reprs, both_ends, low_end, valued, int_dom, bool_dom, set_dom, name_dom, no_exs, given, given_enum, let_ex, let_dom, let_enum, let_unnamed, needs, find, such_that, minimise, maximise}
use Rattle.ess_grammar.specs.Grammar.{one_ex, two_exs, unary_ex, binary_ex, number_atom, name_atom, bar_atom, atom_expression, binary_expression, int_domain, ranges_domain, set_domain, bool_domain, name_domain, some_attributes, last_attribute, valued_attribute, last_range, both_range, low_range}
use Rattle.ess_grammar.specs.Statements.{last_name, next_name, value_letting, enum_letting, given_part, given_enum_part, find_part, plain_letting_part, domain_letting_part, unnamed_letting_part, where_part, such_that_part, last_part, next_part, begins_given, begins_find, begins_letting, begins_where, begins_such_that, parts_statement, minimising_statement, maximising_statement, no_statements, more_statements, no_language_line, language_line, IsSpecification, specification, last_letting, next_letting, no_lettings, more_lettings, IsLettingsFile, lettings_file}
use Rattle.ess_grammar.specs.Representations.{IsRepresentation, childless, with_children, last_representation, next_representation}
use Rattle.ess_grammar.proofs.ExamplesGrammar.{read, num, x, y}

-- no statement at all
empty : IsSpecification [] (read (codes "$ nothing"))
empty = specification no_language_line no_statements

-- a list of names is read as one statement for each
finds : IsSpecification (given (codes "n") (int_dom (low_end ∷ []) (one_ex (num 1))) ∷ find (codes "x") bool_dom
    ∷ find (codes "y") bool_dom ∷ such_that (binary_ex Op2.Eq x y) ∷ such_that x ∷ [])
    (read (codes "language Essence 1.3 given n : int(1..) find x, y : bool such that x = y, x"))
finds =
    specification language_line
    (more_statements (parts_statement begins_given (last_part
    (given_part last_name (ranges_domain (last_range (low_range (atom_expression number_atom)))))))
    (more_statements (parts_statement begins_find (last_part (find_part (next_name last_name) bool_domain)))
    (more_statements (parts_statement begins_such_that (next_part
    (such_that_part (binary_expression (lit≤ tt) (lit≤ tt) (atom_expression name_atom) (atom_expression name_atom)))
    (last_part (such_that_part (atom_expression name_atom)))))
    no_statements)))

-- lettings of all kinds in one list
lettings : IsSpecification (let_ex (codes "x") (num 2) ∷ let_enum (codes "c") (codes "red" ∷ codes "blue" ∷ [])
    ∷ let_dom (codes "d") (int_dom [] no_exs) ∷ let_unnamed (codes "u") (num 3) ∷ [])
    (read (codes "letting x be 2, c be new type enum {red, blue}, d be domain int, u be new type of size 3"))
lettings =
    specification no_language_line
    (more_statements (parts_statement begins_letting
    (next_part (plain_letting_part (value_letting (atom_expression number_atom)))
    (next_part (plain_letting_part (enum_letting (next_name last_name)))
    (next_part (domain_letting_part int_domain)
    (last_part (unnamed_letting_part (atom_expression number_atom)))))))
    no_statements)

-- a given enumerated type, a condition, an objective
others : IsSpecification (given_enum (codes "c") ∷ given (codes "a") (name_dom (codes "c")) ∷ needs (binary_ex Op2.Eq x y)
    ∷ maximise (unary_ex Op1.Bar x) ∷ minimise y ∷ [])
    (read (codes "given c new type enum, a : c where x = y maximising |x| minimising y"))
others =
    specification no_language_line
    (more_statements (parts_statement begins_given (next_part given_enum_part (last_part (given_part last_name name_domain))))
    (more_statements (parts_statement begins_where (last_part
    (where_part (binary_expression (lit≤ tt) (lit≤ tt) (atom_expression name_atom) (atom_expression name_atom)))))
    (more_statements (maximising_statement (atom_expression (bar_atom (atom_expression name_atom))))
    (more_statements (minimising_statement (atom_expression name_atom))
    no_statements))))

-- attributes with plain names
sized : IsSpecification (find (codes "size") (set_dom (valued Key.Size ∷ []) (one_ex (num 2))
    (int_dom (both_ends ∷ []) (two_exs (num 1) (num 3)))) ∷ [])
    (read (codes "find size : set (size 2) of int(1..3)"))
sized =
    specification no_language_line
    (more_statements (parts_statement begins_find (last_part (find_part last_name
    (set_domain (some_attributes (last_attribute (valued_attribute refl (atom_expression number_atom))))
    (ranges_domain (last_range (both_range (atom_expression number_atom) (atom_expression number_atom))))))))
    no_statements)

-- a file of lettings
file : IsLettingsFile (let_ex (codes "x") (num 2) ∷ let_enum (codes "c") (codes "red" ∷ []) ∷ let_ex (codes "y") x ∷ [])
    (read (codes "language Essence 1.0 letting x be 2, c be new type enum {red} letting y be x"))
file =
    lettings_file language_line
    (more_lettings (next_letting (value_letting (atom_expression number_atom)) (last_letting (enum_letting last_name)))
    (more_lettings (last_letting (value_letting (atom_expression name_atom))) no_lettings))

-- a representation with a child, and one with two
marker : IsRepresentation (repr ReprKind.ExplicitVarSizeWithMarker (more_reprs (repr ReprKind.Occurrence no_reprs) no_reprs))
    (read (codes "ExplicitVarSizeWithMarker[Occurrence]"))
marker = with_children refl (last_representation (childless refl))

pairs : IsRepresentation (repr ReprKind.Tuple (more_reprs (repr ReprKind.Atom no_reprs)
    (more_reprs (repr ReprKind.Matrix (more_reprs (repr ReprKind.Atom no_reprs) no_reprs)) no_reprs)))
    (read (codes "Tuple[Atom, Matrix[Atom]]"))
pairs = with_children refl (next_representation (childless refl)
    (last_representation (with_children refl (last_representation (childless refl)))))
