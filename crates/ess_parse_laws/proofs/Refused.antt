-- Texts that the rules don't derive, since the machine doesn't read them.
use Rattle.std.proofs.Common.{Bool, List, None, [], codes, refl, ℕ, ◌≡◌}
use Rattle.ess_semantics.specs.Trees.{Ex, Stm, Repr}
use Rattle.ess_semantics.specs.Values.{Text}
use Rattle.ess_grammar.specs.Grammar.{Expression}
use Rattle.ess_grammar.specs.Statements.{IsSpecification, IsLettingsFile}
use Rattle.ess_grammar.specs.Representations.{IsRepresentation}
use Rattle.ess_grammar.specs.Patterns.{Shape}
use Rattle.ess_grammar.proofs.ExamplesGrammar.{read}
use Rattle.ess_parse_laws.proofs.Complete.{complete}
use Rattle.ess_parse_laws.specs.Lettings.{read_lettings}
use Rattle.ess_parse_laws.specs.RepresentationMachine.{read_representation}
use Rattle.ess_parse_laws.proofs.LettingsRuns.{lettings-complete}
use Rattle.ess_parse_laws.proofs.RepresentationRuns.{representation-complete}
use Rattle.ess_parse_laws.proofs.CompleteStatements.{complete-specification}
use Rattle.ess_parse_laws.specs.Machine.{read_expression, read_specification}

-- There is no derivation, whatever the tree.
abbrev Refused : Text → Type 0
Refused text = (w : Bool) (s : Shape) (l : ℕ) (e : Ex) → Expression w s l e (read text) [] → ⊥

unread : (text : Text) → read_expression (read text) ≡ None → Refused text
unread text h w s l e d = let c = complete d in cc

chain : Refused (codes "1 = 2 = 3")
chain = unread (codes "1 = 2 = 3") refl

iff_chain : Refused (codes "a <-> b <-> c")
iff_chain = unread (codes "a <-> b <-> c") refl

-- A bracket with two names behind `sum` is no call's, and no condition.
sum_call : Refused (codes "sum(x, y)")
sum_call = unread (codes "sum(x, y)") refl

sum_condition : Refused (codes "sum (x, y) = z . x")
sum_condition = unread (codes "sum (x, y) = z . x") refl

sum_conditions : Refused (codes "sum (x, y), z = 1 . x")
sum_conditions = unread (codes "sum (x, y), z = 1 . x") refl

-- A bracket with one name is a call's, so no quantifier begins with it.
sum_name : Refused (codes "sum (x) in s . x")
sum_name = unread (codes "sum (x) in s . x") refl

-- A quantifier in bars has to stand in brackets.
bars : Refused (codes "|forAll x in s . x|")
bars = unread (codes "|forAll x in s . x|") refl

-- A name in brackets is no pattern, and in a comprehension `in` is no generator's sign.
no_pattern : Refused (codes "[x | (x) : int]")
no_pattern = unread (codes "[x | (x) : int]") refl

-- A bound pattern of two names before `in` is a generator, and an operator's expression is no pattern.
no_pattern' : Refused (codes "forAll x + 1 : int . x")
no_pattern' = unread (codes "forAll x + 1 : int . x") refl

no_items : Refused (codes "[x | ]")
no_items = unread (codes "[x | ]") refl

one_bar : Refused (codes "[|x | y|]")
one_bar = unread (codes "[|x | y|]") refl

empty_call : Refused (codes "f()")
empty_call = unread (codes "f()") refl

-- There is no derivation as a specification.
abbrev RefusedText : Text → Type 0
RefusedText text = (ss : List Stm) → IsSpecification ss (read text) → ⊥

unread-text : (text : Text) → read_specification (read text) ≡ None → RefusedText text
unread-text text h ss d = let c = complete-specification d in cc

open_bracket : RefusedText (codes "letting f be function(1 --> 2")
open_bracket = unread-text (codes "letting f be function(1 --> 2") refl

two_equals : RefusedText (codes "such that 1 = 2 = 3")
two_equals = unread-text (codes "such that 1 = 2 = 3") refl

two_goals : RefusedText (codes "minimising x, y")
two_goals = unread-text (codes "minimising x, y") refl

late_comma : RefusedText (codes "find x : bool,")
late_comma = unread-text (codes "find x : bool,") refl

-- There is no derivation as a file of lettings.
abbrev RefusedFile : Text → Type 0
RefusedFile text = (ss : List Stm) → IsLettingsFile ss (read text) → ⊥

unread-file : (text : Text) → read_lettings (read text) ≡ None → RefusedFile text
unread-file text h ss d = let c = lettings-complete d in cc

given_in_file : RefusedFile (codes "given n : int")
given_in_file = unread-file (codes "given n : int") refl

-- a domain or an unnamed type is no value
domain_in_file : RefusedFile (codes "letting D be domain int(1..2)")
domain_in_file = unread-file (codes "letting D be domain int(1..2)") refl

unnamed_in_file : RefusedFile (codes "letting T be new type of size 3")
unnamed_in_file = unread-file (codes "letting T be new type of size 3") refl

-- There is no derivation as a representation.
abbrev RefusedRepresentation : Text → Type 0
RefusedRepresentation text = (r : Repr) → IsRepresentation r (read text) → ⊥

unread-representation : (text : Text) → read_representation (read text) ≡ None → RefusedRepresentation text
unread-representation text h r d = let c = representation-complete d in cc

unknown_kind : RefusedRepresentation (codes "Explicitly[Atom]")
unknown_kind = unread-representation (codes "Explicitly[Atom]") refl

no_children : RefusedRepresentation (codes "Explicit[]")
no_children = unread-representation (codes "Explicit[]") refl

open_children : RefusedRepresentation (codes "Explicit[Atom")
open_children = unread-representation (codes "Explicit[Atom") refl
