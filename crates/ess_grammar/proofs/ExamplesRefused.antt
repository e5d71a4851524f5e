-- Texts that the rules don't give, by what may stand at one place.
use Rattle.std.specs.Prelude.{List, [], codes}
use Rattle.ess_semantics.specs.Trees.{Repr, Dom, Stm}
use Rattle.ess_grammar.specs.Grammar.{Domain, function_domain, plain_function_domain, last_attribute, next_attribute, flag_attribute, valued_attribute, relation_domain, no_attributes}
use Rattle.ess_grammar.specs.Statements.{last_name, value_letting, enum_letting, find_part, plain_letting_part, such_that_part, last_part, next_part, begins_find, begins_letting, begins_such_that, parts_statement, more_statements, no_language_line, IsSpecification, specification, last_letting, next_letting, more_lettings, IsLettingsFile, lettings_file}
use Rattle.ess_grammar.specs.Representations.{IsRepresentation, childless, with_children, last_representation, next_representation}
use Rattle.ess_grammar.proofs.ExamplesGrammar.{read}
use Rattle.ess_grammar.proofs.FirstTokens.{expression-first, domain-first}

-- a list of names has a colon behind it
no_colon : {ss : List Stm} → IsSpecification ss (read (codes "find x bool")) → ⊥
no_colon (specification no_language_line (more_statements (parts_statement begins_find (last_part (find_part ns d))) r)) = elim ns [ ]
no_colon (specification no_language_line (more_statements (parts_statement begins_find (next_part (find_part ns d) ps)) r)) = elim ns [ ]

-- then a domain
no_domain : {ss : List Stm} → IsSpecification ss (read (codes "find x :")) → ⊥
no_domain (specification no_language_line (more_statements (parts_statement begins_find (last_part (find_part last_name d))) r)) =
    domain-first d
no_domain (specification no_language_line (more_statements (parts_statement begins_find (next_part (find_part last_name d) ps)) r)) =
    domain-first d

-- before it a name
no_name : {ss : List Stm} → IsSpecification ss (read (codes "find : bool")) → ⊥
no_name (specification no_language_line (more_statements (parts_statement begins_find (last_part (find_part ns d))) r)) = elim ns [ ]
no_name (specification no_language_line (more_statements (parts_statement begins_find (next_part (find_part ns d) ps)) r)) = elim ns [ ]

-- a found name has a domain, and is no enumerated type
found_type : {ss : List Stm} → IsSpecification ss (read (codes "find x new type enum")) → ⊥
found_type (specification no_language_line (more_statements (parts_statement begins_find (last_part (find_part ns d))) r)) = elim ns [ ]
found_type (specification no_language_line (more_statements (parts_statement begins_find (next_part (find_part ns d) ps)) r)) = elim ns [ ]

-- no expression begins with a closing bracket
bracket : {ss : List Stm} → IsSpecification ss (read (codes "such that )")) → ⊥
bracket (specification no_language_line (more_statements (parts_statement begins_such_that (last_part (such_that_part d))) r)) =
    let h = expression-first d in cc
bracket (specification no_language_line (more_statements (parts_statement begins_such_that (next_part (such_that_part d) ps)) r)) =
    let h = expression-first d in cc

-- `such` has `that` behind it
such_alone : {ss : List Stm} → IsSpecification ss (read (codes "such x")) → ⊥
such_alone (specification no_language_line (more_statements (parts_statement b ps) r)) = elim b [ ]

-- a letting has a value
no_value : {ss : List Stm} → IsSpecification ss (read (codes "letting x be")) → ⊥
no_value (specification no_language_line (more_statements (parts_statement begins_letting
    (last_part (plain_letting_part (value_letting d)))) r)) = expression-first d
no_value (specification no_language_line (more_statements (parts_statement begins_letting
    (next_part (plain_letting_part (value_letting d)) ps)) r)) = expression-first d

-- no enumerated type is empty
no_values : {ss : List Stm} → IsSpecification ss (read (codes "letting c be new type enum {}")) → ⊥
no_values (specification no_language_line (more_statements (parts_statement begins_letting
    (last_part (plain_letting_part (value_letting d)))) r)) = let h = expression-first d in cc
no_values (specification no_language_line (more_statements (parts_statement begins_letting
    (next_part (plain_letting_part (value_letting d)) ps)) r)) = let h = expression-first d in cc
no_values (specification no_language_line (more_statements (parts_statement begins_letting
    (last_part (plain_letting_part (enum_letting ns)))) r)) = elim ns [ ]
no_values (specification no_language_line (more_statements (parts_statement begins_letting
    (next_part (plain_letting_part (enum_letting ns)) ps)) r)) = elim ns [ ]

-- the language line has two numbers
one_number : {ss : List Stm} → IsSpecification ss (read (codes "language Essence 1 find x : bool")) → ⊥
one_number (specification no_language_line (more_statements (parts_statement b ps) r)) = elim b [ ]

-- a file of lettings has nothing else, and no letting of a domain
found_in_file : {ss : List Stm} → IsLettingsFile ss (read (codes "find x : bool")) → ⊥
found_in_file (lettings_file no_language_line ls) = elim ls [ ]

domain_in_file : {ss : List Stm} → IsLettingsFile ss (read (codes "letting d be domain int")) → ⊥
domain_in_file (lettings_file no_language_line (more_lettings (last_letting (value_letting d)) r)) = let h = expression-first d in cc
domain_in_file (lettings_file no_language_line (more_lettings (next_letting (value_letting d) ls) r)) = let h = expression-first d in cc

-- a bracket and an attribute word directly behind `function` begin attributes, and `bool` is none
no_attribute : {d : Dom} → Domain d (read (codes "function (size, bool) --> int")) [] → ⊥
no_attribute (function_domain (last_attribute (valued_attribute h e)) d c) = let k = expression-first e in cc
no_attribute (function_domain (next_attribute (flag_attribute h) (last_attribute m)) d c) = elim m [ ]
no_attribute (function_domain (next_attribute (flag_attribute h) (next_attribute m ms)) d c) = elim m [ ]
no_attribute (function_domain (next_attribute (valued_attribute h e) as') d c) = let k = expression-first e in cc
no_attribute (plain_function_domain h d c) = cc

-- a relation has two components or more
one_component : {d : Dom} → Domain d (read (codes "relation of (c)")) [] → ⊥
one_component (relation_domain no_attributes d ds) = elim d [ ]

-- no representation has brackets without children, or a name that is no kind
no_children : {r : Repr} → IsRepresentation r (read (codes "Occurrence[]")) → ⊥
no_children (with_children h (last_representation r)) = elim r [ ]
no_children (with_children h (next_representation r rs)) = elim r [ ]

no_kind : {r : Repr} → IsRepresentation r (read (codes "Occurence")) → ⊥
no_kind (childless h) = cc
