-- A word that begins a statement is taken only where one may end. So before it stands a whole text.
use Rattle.std.proofs.Common.{Bool, List, None, Option, Some, [], ap, false, refl, true, ◌∙◌, ◌∷◌, ◌≡◌}
use Rattle.ess_semantics.specs.declared.words.Fun.{Fun}
use Rattle.ess_semantics.specs.declared.words.Key.{Key}
use Rattle.ess_semantics.specs.Trees.{Dom, Ex, Op, Stm, int_dom, no_exs, no_gens}
use Rattle.ess_grammar.specs.Words.{Token, Word, close_round, find_word, given_word, letting_word, maximising_word, minimising_word, such_word, where_word, word}
use Rattle.ess_grammar.specs.Patterns.{atom_shape}
use Rattle.ess_parse_laws.specs.Modes.{Answer, Mode, State, attribute_read, domain_read, function_word_read, int_read, nothing_read, operand_read, operand_wanted, specification_answer, statement_read}
use Rattle.ess_parse_laws.specs.Frames.{Frame, attribute_value_frame, attributes_frame, items_frame, list_frame, node_list, quantifier_head}
use Rattle.ess_parse_laws.specs.Machine.{as_specification, finish, step, whole_domain, whole_expression, whole_reduced_domain}
use Rattle.ess_parse_laws.specs.StatementEnds.{begin_after, begins_statement, declared, stated}
use Rattle.ess_parse_laws.specs.Items.{begin_quantifier, may_quantify}
use Rattle.ess_parse_laws.specs.AttributeSteps.{begin_value}
use Rattle.ess_parse_laws.specs.Operands.{is_open_round, is_sum_word, step_function_word_read, step_operand_wanted, then_operand_wanted}
use Rattle.ess_parse_laws.specs.Reducing.{reduce, reduce_domain}
use Rattle.ess_parse_laws.specs.AfterDomains.{reduced_domain_then}
use Rattle.ess_parse_laws.specs.Reversed.{reverse_list}

-- The modes in which a statement may end.
abbrev may_end_statement : Mode → Bool
may_end_statement (operand_read p e) = true
may_end_statement (domain_read d) = true
may_end_statement int_read = true
may_end_statement (statement_read x ss) = true
may_end_statement nothing_read = true
may_end_statement _ = false

quantifier-refuses : (t : Token) (f : Fun) (fs : List Frame) → ((gs : List Frame) → step_operand_wanted t gs ≡ None) → then_operand_wanted t (begin_quantifier f fs) ≡ None
quantifier-refuses t f fs h = go (may_quantify fs)
  where
    go : (b : Bool) → then_operand_wanted t (elim b [ true ↦ Some (record { mode = operand_wanted; frames = items_frame (quantifier_head f) [] no_gens no_exs ∷ fs }) | false ↦ None ]) ≡ None
    go true = h (items_frame (quantifier_head f) [] no_gens no_exs ∷ fs)
    go false = refl

-- What `sum` does before a token, where it is the word (true).
abbrev sum_then : Token → List Frame → Bool → Option State
sum_then t fs b = elim b [ true ↦ then_operand_wanted t (begin_quantifier Fun.Sum fs) | false ↦ None ]

function-word-refuses : (t : Token) (f : Fun) (fs : List Frame) → is_open_round t ≡ false → ((gs : List Frame) → step_operand_wanted t gs ≡ None) → step_function_word_read t f fs ≡ None
function-word-refuses t f fs k h = ap (λ b. elim b [ true ↦ Some (record { mode = operand_wanted; frames = list_frame (node_list (Op.word f)) close_round true no_exs ∷ fs }) | false ↦ elim (is_sum_word f) [ true ↦ then_operand_wanted t (begin_quantifier Fun.Sum fs) | false ↦ None ] ]) k ∙ go (is_sum_word f)
  where
    go : (b : Bool) → sum_then t fs b ≡ None
    go true = quantifier-refuses t Fun.Sum fs h
    go false = refl

value-refuses : (t : Token) (k : Key) (fs : List Frame) → ((gs : List Frame) → step_operand_wanted t gs ≡ None) → begin_value t k fs ≡ None
value-refuses t k (attributes_frame o ms es ∷ fs) h = h (attribute_value_frame o k ms es ∷ fs)
value-refuses t k fs h = refl

given-refused : (m : Mode) (fs : List Frame) → may_end_statement m ≡ false → step (word given_word) m fs ≡ None
given-refused (operand_read p e) fs k = cc
given-refused (domain_read d) fs k = cc
given-refused int_read fs k = cc
given-refused (statement_read x ss) fs k = cc
given-refused nothing_read fs k = cc
given-refused (attribute_read j) fs k = value-refuses (word given_word) j fs (λ gs. refl)
given-refused (function_word_read f) fs k = function-word-refuses (word given_word) f fs refl (λ gs. refl)
given-refused _ fs k = refl

find-refused : (m : Mode) (fs : List Frame) → may_end_statement m ≡ false → step (word find_word) m fs ≡ None
find-refused (operand_read p e) fs k = cc
find-refused (domain_read d) fs k = cc
find-refused int_read fs k = cc
find-refused (statement_read x ss) fs k = cc
find-refused nothing_read fs k = cc
find-refused (attribute_read j) fs k = value-refuses (word find_word) j fs (λ gs. refl)
find-refused (function_word_read f) fs k = function-word-refuses (word find_word) f fs refl (λ gs. refl)
find-refused _ fs k = refl

letting-refused : (m : Mode) (fs : List Frame) → may_end_statement m ≡ false → step (word letting_word) m fs ≡ None
letting-refused (operand_read p e) fs k = cc
letting-refused (domain_read d) fs k = cc
letting-refused int_read fs k = cc
letting-refused (statement_read x ss) fs k = cc
letting-refused nothing_read fs k = cc
letting-refused (attribute_read j) fs k = value-refuses (word letting_word) j fs (λ gs. refl)
letting-refused (function_word_read f) fs k = function-word-refuses (word letting_word) f fs refl (λ gs. refl)
letting-refused _ fs k = refl

where-refused : (m : Mode) (fs : List Frame) → may_end_statement m ≡ false → step (word where_word) m fs ≡ None
where-refused (operand_read p e) fs k = cc
where-refused (domain_read d) fs k = cc
where-refused int_read fs k = cc
where-refused (statement_read x ss) fs k = cc
where-refused nothing_read fs k = cc
where-refused (attribute_read j) fs k = value-refuses (word where_word) j fs (λ gs. refl)
where-refused (function_word_read f) fs k = function-word-refuses (word where_word) f fs refl (λ gs. refl)
where-refused _ fs k = refl

such-refused : (m : Mode) (fs : List Frame) → may_end_statement m ≡ false → step (word such_word) m fs ≡ None
such-refused (operand_read p e) fs k = cc
such-refused (domain_read d) fs k = cc
such-refused int_read fs k = cc
such-refused (statement_read x ss) fs k = cc
such-refused nothing_read fs k = cc
such-refused (attribute_read j) fs k = value-refuses (word such_word) j fs (λ gs. refl)
such-refused (function_word_read f) fs k = function-word-refuses (word such_word) f fs refl (λ gs. refl)
such-refused _ fs k = refl

minimising-refused : (m : Mode) (fs : List Frame) → may_end_statement m ≡ false → step (word minimising_word) m fs ≡ None
minimising-refused (operand_read p e) fs k = cc
minimising-refused (domain_read d) fs k = cc
minimising-refused int_read fs k = cc
minimising-refused (statement_read x ss) fs k = cc
minimising-refused nothing_read fs k = cc
minimising-refused (attribute_read j) fs k = value-refuses (word minimising_word) j fs (λ gs. refl)
minimising-refused (function_word_read f) fs k = function-word-refuses (word minimising_word) f fs refl (λ gs. refl)
minimising-refused _ fs k = refl

maximising-refused : (m : Mode) (fs : List Frame) → may_end_statement m ≡ false → step (word maximising_word) m fs ≡ None
maximising-refused (operand_read p e) fs k = cc
maximising-refused (domain_read d) fs k = cc
maximising-refused int_read fs k = cc
maximising-refused (statement_read x ss) fs k = cc
maximising-refused nothing_read fs k = cc
maximising-refused (attribute_read j) fs k = value-refuses (word maximising_word) j fs (λ gs. refl)
maximising-refused (function_word_read f) fs k = function-word-refuses (word maximising_word) f fs refl (λ gs. refl)
maximising-refused _ fs k = refl

-- A word that begins a statement is taken only where one may end.
word-refused : (w : Word) → begins_statement w ≡ true → (m : Mode) (fs : List Frame) → may_end_statement m ≡ false → step (word w) m fs ≡ None
word-refused given_word h m fs k = given-refused m fs k
word-refused find_word h m fs k = find-refused m fs k
word-refused letting_word h m fs k = letting-refused m fs k
word-refused where_word h m fs k = where-refused m fs k
word-refused such_word h m fs k = such-refused m fs k
word-refused minimising_word h m fs k = minimising-refused m fs k
word-refused maximising_word h m fs k = maximising-refused m fs k
word-refused _ h m fs k = cc

-- The answer is that of a specification.
abbrev pub IsWholeText : Option Answer → Type 0
IsWholeText r = (ss : List Stm) × (r ≡ Some (specification_answer ss))

begin-taken : (w : Word) (o : Option (List Stm)) (r : State) → begin_after w o ≡ Some r → IsWholeText (as_specification o)
begin-taken w None r q = cc
begin-taken w (Some ss) r q = (reverse_list ss [], refl)

expression-taken : (w : Word) (fs : List Frame) (e : Ex) (r : State) → begin_after w (stated fs e) ≡ Some r → IsWholeText (whole_expression fs e)
expression-taken w [] e r q = cc
expression-taken w (f ∷ fs) e r q = begin-taken w (stated (f ∷ fs) e) r q

domain-taken : (w : Word) (fs : List Frame) (d : Dom) (r : State) → begin_after w (declared fs d) ≡ Some r → IsWholeText (whole_domain fs d)
domain-taken w [] d r q = cc
domain-taken w (f ∷ fs) d r q = begin-taken w (declared (f ∷ fs) d) r q

reduced-taken : (w : Word) (m : Mode) (fs : List Frame) (r : State) → reduced_domain_then (word w) (record { mode = m; frames = fs }) ≡ Some r → IsWholeText (whole_reduced_domain (record { mode = m; frames = fs }))
reduced-taken w (domain_read d) fs r q = domain-taken w fs d r q
reduced-taken w _ fs r q = cc

-- Where a word that begins a statement is taken, what stands before it is a whole specification.
pub before-statement : (w : Word) → begins_statement w ≡ true → (m : Mode) (fs : List Frame) (r : State) → step (word w) m fs ≡ Some r → IsWholeText (finish m fs)
before-statement w h (operand_read p e) fs r q = let s = reduce 0 fs false p 10 e in expression-taken w s.frames s.operand r q
before-statement w h (domain_read d) fs r q = let s = reduce_domain fs d in reduced-taken w s.mode s.frames r q
before-statement w h int_read fs r q = let s = reduce_domain fs (int_dom [] no_exs) in reduced-taken w s.mode s.frames r q
before-statement w h (statement_read x ss) fs r q = (reverse_list ss [], refl)
before-statement w h nothing_read fs r q = ([], refl)
before-statement w h m fs r q = let k = word-refused w h m fs refl in cc
