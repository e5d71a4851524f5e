-- Runs over attributes of domains.
use Rattle.std.proofs.Common.{Bool, List, None, Option, Some, [], ap, false, refl, sym, true, ℕ, ◌∙◌, ◌∷◌, ◌≡◌}
use Rattle.std.specs.Option.{is_some}
use Rattle.ess_semantics.specs.declared.words.Key.{Key}
use Rattle.ess_semantics.specs.Trees.{Ex, Exs, Mark, flag, more_exs, no_doms, no_exs, valued}
use Rattle.ess_semantics.specs.Values.{Text}
use Rattle.ess_grammar.specs.Grammar.{Attributes, flag_attribute, last_attribute, next_attribute, starts_attributes, valued_attribute}
use Rattle.ess_grammar.proofs.FirstTokens.{First, begins_expression}
use Rattle.ess_grammar.specs.Patterns.{Shape}
use Rattle.ess_grammar.specs.Words.{Token, close_round, comma, key_of, name, open_round, symbol}
use Rattle.ess_parse_laws.specs.Modes.{Answer, Mode, attribute_read, attribute_wanted, domain_wanted, function_begun, function_bracket_read, inner_begun, joining_wanted, operand_wanted, relation_begun, relation_of_wanted}
use Rattle.ess_parse_laws.proofs.DomainRuns.{EndsRange, NoBracket, range_ends_at_comma, range_ends_at_round}
use Rattle.ess_parse_laws.specs.Frames.{Frame, Inner, Owner, attribute_value_frame, attributes_frame, function_from_frame, function_owner, inner_domain_frame, inner_owner, relation_domains_frame, relation_owner, tuple_domains_frame}
use Rattle.ess_parse_laws.specs.AfterOperands.{end_attributes}
use Rattle.ess_parse_laws.specs.AttributeSteps.{end_flag, ends_flag}
use Rattle.ess_parse_laws.proofs.ExpressionEnds.{reading}
use Rattle.ess_parse_laws.specs.Reversed.{reverse_exs, reverse_list}
use Rattle.ess_parse_laws.specs.Machine.{run, then_run}
use Rattle.ess_parse_laws.specs.Domains.{step_domain_wanted, step_joining_wanted, step_relation_of_wanted}
use Rattle.ess_parse_laws.specs.Operands.{step_operand_wanted}

no-flag-end : (t : Token) → begins_expression t ≡ true → ends_flag t ≡ false
no-flag-end (symbol comma) h = cc
no-flag-end (symbol close_round) h = cc
no-flag-end _ h = refl

-- The first token of a number behind an attribute's word.
pub value-opens : (ts : List Token) (k : Key) (o : Owner) (ms : List Mark) (es : Exs) (fs : List Frame) → First begins_expression ts →
    run ts (attribute_read k) (attributes_frame o ms es ∷ fs) ≡ run ts operand_wanted (attribute_value_frame o k ms es ∷ fs)
value-opens [] k o ms es fs h = absurd h
value-opens (t ∷ ts) k o ms es fs h =
    ap (λ b. then_run (elim b [ true ↦ end_flag t k (attributes_frame o ms es ∷ fs) | false ↦ step_operand_wanted t (attribute_value_frame o k ms es ∷ fs) ]) (run ts)) (no-flag-end t h)

-- An attribute's word.
pub attribute-opens : (a : Text) (ts : List Token) (k : Key) (fs : List Frame) → key_of a ≡ Some k → run (name a ∷ ts) attribute_wanted fs ≡ run ts (attribute_read k) fs
attribute-opens a ts k fs h = ap (λ o. then_run (elim o [ Some k ↦ Some (record { mode = attribute_read k; frames = fs }) | None ↦ None ]) (run ts)) h

-- The run behind an attribute, before another one or at their end.
abbrev pub attribute_done : Bool → Owner → List Mark → Exs → List Token → List Frame → Option Answer
attribute_done true o ms es vs fs = run vs attribute_wanted (attributes_frame o ms es ∷ fs)
attribute_done false o ms es vs fs = then_run (end_attributes o (reverse_list ms []) (reverse_exs es no_exs) fs) (run vs)

-- An attribute without a number ends.
pub flag-ends : {us vs : List Token} {b : Bool} → EndsRange us vs b → (k : Key) (o : Owner) (ms : List Mark) (es : Exs) (fs : List Frame) →
    run us (attribute_read k) (attributes_frame o ms es ∷ fs) ≡ attribute_done b o (flag k ∷ ms) es vs fs
flag-ends range_ends_at_comma k o ms es fs = refl
flag-ends range_ends_at_round k o ms es fs = refl

-- An attribute with a number ends.
pub value-ends : {us vs : List Token} {b : Bool} → EndsRange us vs b → (k : Key) (o : Owner) (ms : List Mark) (es : Exs) (fs : List Frame) (s : Shape) (l : ℕ) (e : Ex) →
    reading us (attribute_value_frame o k ms es ∷ fs) false s l e ≡ attribute_done b o (valued k ∷ ms) (more_exs e es) vs fs
value-ends range_ends_at_comma k o ms es fs s l e = refl
value-ends range_ends_at_round k o ms es fs s l e = refl

inner-opens : (us : List Token) (k : Inner) (fs : List Frame) → NoBracket us → run us (inner_begun k) fs ≡ run us (joining_wanted k) (inner_domain_frame k [] no_exs ∷ fs)
inner-opens [] k fs h = refl
inner-opens (t ∷ us) k fs h =
    ap (λ b. then_run (elim b [ true ↦ Some (record { mode = attribute_wanted; frames = attributes_frame (inner_owner k) [] no_exs ∷ fs }) | false ↦ step_joining_wanted t k (inner_domain_frame k [] no_exs ∷ fs) ]) (run us)) h

relation-opens : (us : List Token) (fs : List Frame) → NoBracket us → run us relation_begun fs ≡ run us relation_of_wanted (relation_domains_frame [] no_exs no_doms ∷ fs)
relation-opens [] fs h = refl
relation-opens (t ∷ us) fs h =
    ap (λ b. then_run (elim b [ true ↦ Some (record { mode = attribute_wanted; frames = attributes_frame relation_owner [] no_exs ∷ fs }) | false ↦ step_relation_of_wanted t (relation_domains_frame [] no_exs no_doms ∷ fs) ]) (run us)) h

-- The mode before the attributes of an owner.
abbrev pub before_attributes : Owner → Mode
before_attributes (inner_owner k) = inner_begun k
before_attributes relation_owner = relation_begun
before_attributes function_owner = function_begun

-- The run behind them.
abbrev pub behind_attributes : Owner → List Mark → Exs → List Token → List Frame → Option Answer
behind_attributes o ms es us fs = then_run (end_attributes o ms es fs) (run us)

-- The owners whose attributes may be left out.
pub data MayOmit : Owner → Type 0 where
  inner_may_omit : {k : Inner} → MayOmit (inner_owner k)
  relation_may_omit : MayOmit relation_owner

-- Attributes are left out.
pub attributes-omitted : {o : Owner} → MayOmit o → (us : List Token) (fs : List Frame) → NoBracket us → run us (before_attributes o) fs ≡ behind_attributes o [] no_exs us fs
attributes-omitted (inner_may_omit {k = k}) us fs h = inner-opens us k fs h
attributes-omitted relation_may_omit us fs h = relation-opens us fs h

-- Attributes begin.
pub attributes-opened : {o : Owner} → MayOmit o → (ts : List Token) (fs : List Frame) → run (symbol open_round ∷ ts) (before_attributes o) fs ≡ run ts attribute_wanted (attributes_frame o [] no_exs ∷ fs)
attributes-opened inner_may_omit ts fs = refl
attributes-opened relation_may_omit ts fs = refl

function-opens-attribute : (a : Text) (k : Key) (us : List Token) (fs : List Frame) → key_of a ≡ Some k →
    run (name a ∷ us) function_bracket_read fs ≡ run (name a ∷ us) attribute_wanted (attributes_frame function_owner [] no_exs ∷ fs)
function-opens-attribute a k us fs h =
    let f : Option Key → Option Answer = λ o. then_run (elim o [ Some k ↦ Some (record { mode = attribute_read k; frames = attributes_frame function_owner [] no_exs ∷ fs }) | None ↦ step_domain_wanted (name a) (tuple_domains_frame true no_doms ∷ function_from_frame [] no_exs ∷ fs) ]) (run us) in
    let g : Option Key → Option Answer = λ o. then_run (elim o [ Some k ↦ Some (record { mode = attribute_read k; frames = attributes_frame function_owner [] no_exs ∷ fs }) | None ↦ None ]) (run us) in
    ap f h ∙ sym (ap g h)

function-opens-name : (o : Option Key) (t : Token) (ts : List Token) (fs : List Frame) → is_some o ≡ false →
    then_run (elim o [ Some k ↦ Some (record { mode = attribute_read k; frames = attributes_frame function_owner [] no_exs ∷ fs }) | None ↦ step_domain_wanted t (tuple_domains_frame true no_doms ∷ function_from_frame [] no_exs ∷ fs) ]) (run ts)
    ≡ then_run (step_domain_wanted t (tuple_domains_frame true no_doms ∷ function_from_frame [] no_exs ∷ fs)) (run ts)
function-opens-name None t ts fs h = refl
function-opens-name (Some k) t ts fs h = cc

-- Behind `function (` an attribute's word begins attributes.
pub function-opens-attributes : {ms : List Mark} {es : Exs} {ts us : List Token} → Attributes ms es ts us → (fs : List Frame) →
    run ts function_bracket_read fs ≡ run ts attribute_wanted (attributes_frame function_owner [] no_exs ∷ fs)
function-opens-attributes (last_attribute (flag_attribute {a = a} {k = k} {us = us} h)) fs = function-opens-attribute a k us fs h
function-opens-attributes (last_attribute (valued_attribute {a = a} {k = k} {ts = us} h d)) fs = function-opens-attribute a k us fs h
function-opens-attributes (next_attribute (flag_attribute {a = a} {k = k} {us = us} h) r) fs = function-opens-attribute a k us fs h
function-opens-attributes (next_attribute (valued_attribute {a = a} {k = k} {ts = us} h d) r) fs = function-opens-attribute a k us fs h

-- A function's domain without attributes begins with its first domain.
pub plain-function-opens : (ts : List Token) (fs : List Frame) → starts_attributes ts ≡ false → run ts function_begun fs ≡ run ts domain_wanted (function_from_frame [] no_exs ∷ fs)
plain-function-opens [] fs h = refl
plain-function-opens (symbol open_round ∷ []) fs h = refl
plain-function-opens (symbol open_round ∷ name a ∷ ts) fs h = function-opens-name (key_of a) (name a) ts fs h
plain-function-opens (symbol open_round ∷ _ ∷ ts) fs h = refl
plain-function-opens (symbol close_round ∷ ts) fs h = refl
plain-function-opens (t ∷ ts) fs h = refl
