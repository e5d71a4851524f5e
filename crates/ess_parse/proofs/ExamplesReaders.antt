-- Texts with the places of their errors, and what comes before the grammar, computed.
use Rattle.std.proofs.Common.{◌≡◌, refl, ℕ, List, [], ◌∷◌, Some, None, Ok, Err}
use Rattle.std.specs.Prelude.{codes}
use Rattle.std.specs.declared.result.Result.{Result}
use Rattle.ess_semantics.specs.declared.words.ReprKind.{ReprKind}
use Rattle.ess_semantics.specs.Values.{Text}
use Rattle.ess_semantics.specs.Trees.{Stm, Repr, Dom, repr, no_reprs, more_reprs, bool_dom, find}
use Rattle.ess_grammar.specs.Words.{name, word, find_word, bool_word}
use Rattle.ess_grammar.specs.Tokens.{lexed}
use Rattle.ess_parse.specs.declared.refusal.ReadNo.{ReadNo}
use Rattle.ess_parse.specs.Refusals.{refused_first}
use Rattle.ess_parse.specs.Readers.{first_tokens, token_behind}
use Rattle.ess_parse.specs.Runs.{reading}
use Rattle.ess_parse.specs.Machines.{step_representation, finish_representation, start_representation, step_state, finish_domain, start_domain, finish_specification, start_specification, step_lettings, finish_lettings, start_lettings}

-- A syntax error in this column of the first line.
abbrev wrong : {A : Type 0} → ℕ → Result A ReadNo
wrong c = Err (ReadNo.Syntax (record { line = 1; col = c }))

-- ---- tokens and their places

before-bool : first_tokens 2 (lexed (codes "find x bool")) ≡ word find_word ∷ name (codes "x") ∷ []
before-bool = refl

at-bool : token_behind 2 (lexed (codes "find x bool")) ≡ Some (word bool_word, record { line = 1; col = 8 })
at-bool = refl

past-the-end : token_behind 3 (lexed (codes "find x bool")) ≡ None
past-the-end = refl

-- ---- first refusals

bad-byte-first : refused_first (codes "find dim : bool #") ≡ Some (ReadNo.BadByte (record { line = 1; col = 17 }))
bad-byte-first = refl

outside-word : refused_first (codes "find dim : bool bool") ≡ Some (ReadNo.Unsupported (record { line = 1; col = 6 }))
outside-word = refl

nothing-first : refused_first (codes "find x bool") ≡ None
nothing-first = refl

-- ---- specifications

abbrev as_specification : Text → Result (List Stm) ReadNo
as_specification text = reading step_state finish_specification start_specification text

one-find : as_specification (codes "find x : bool") ≡ Ok (find (codes "x") bool_dom ∷ [])
one-find = refl

no-colon : as_specification (codes "find x bool") ≡ wrong 8
no-colon = refl

two-equals : as_specification (codes "such that 1 = 2 = 3") ≡ wrong 17
two-equals = refl

no-expression : as_specification (codes "such that )") ≡ wrong 11
no-expression = refl

no-bracket : as_specification (codes "letting f be function(1 --> 2") ≡ wrong 30
no-bracket = refl

no-domain : as_specification (codes "find x :") ≡ wrong 9
no-domain = refl

unsupported : as_specification (codes "find x bool find dim : bool") ≡ Err (ReadNo.Unsupported (record { line = 1; col = 18 }))
unsupported = refl

-- ---- files of lettings

abbrev as_lettings : Text → Result (List Stm) ReadNo
as_lettings text = reading step_lettings finish_lettings start_lettings text

no-find-in-lettings : as_lettings (codes "letting a be 1 find x : bool") ≡ wrong 16
no-find-in-lettings = refl

no-domain-in-lettings : as_lettings (codes "letting a be domain bool") ≡ wrong 14
no-domain-in-lettings = refl

-- ---- domains and representations

abbrev as_domain : Text → Result Dom ReadNo
as_domain text = reading step_state finish_domain start_domain text

cut-short-domain : as_domain (codes "set of") ≡ wrong 7
cut-short-domain = refl

no-statement-in-domain : as_domain (codes "bool find") ≡ wrong 6
no-statement-in-domain = refl

abbrev as_representation : Text → Result Repr ReadNo
as_representation text = reading step_representation finish_representation start_representation text

one-child : as_representation (codes "Explicit[Occurrence]") ≡ Ok (repr ReprKind.Explicit (more_reprs (repr ReprKind.Occurrence no_reprs) no_reprs))
one-child = refl

no-kind : as_representation (codes "Tuple[Atom, Set]") ≡ wrong 13
no-kind = refl
