-- Reducing keeps the invariant.
use Rattle.std.proofs.Common.{subst, Bool, List, [], false, le_trans, lit≤, nat_lt, refl, true, ℕ, ◌∷◌, ◌≡◌, ◌≤◌}
use borrow.Author.Tests.{ltb-false}
use Rattle.ess_semantics.specs.declared.words.Op1.{Op1}
use Rattle.ess_semantics.specs.declared.words.Op2.{Op2}
use Rattle.ess_semantics.specs.Trees.{Dom, Ex, Exs, Mark, function_dom, matrix_dom}
use Rattle.ess_grammar.specs.Grammar.{Atom, atom_expression, Domain, Expression, MaybeAttributes, binary_ex, binary_expression, function_domain, matrix_domain, minus_expression, mset_domain, not_expression, partition_domain, plain_function_domain, quantified, quantifier_expression, set_domain, unary_ex}
use Rattle.ess_grammar.specs.Patterns.{is_pattern, Shape, atom_shape, binary_shape, other_shape}
use Rattle.ess_grammar.specs.Words.{Token, by_word, exclamation, function_word, indexed_word, maps_to, matrix_word, open_square, operator, symbol, word}
use Rattle.ess_grammar.specs.Levels.{level, rank, right_least}
use Rattle.ess_parse_laws.proofs.Contexts.{DomainContext, FunctionOpens, OperandContext, all_axes_before, function_arrow_before, function_with_attributes, function_without_attributes, inner_word, inner_word_before, items_before, minus_before, not_before, operator_before}
use Rattle.ess_parse_laws.proofs.ExpressionEnds.{atom-pattern, no-pattern, Fits, level_needed}
use Rattle.ess_parse_laws.specs.Frames.{Frame, Inner, binary_frame, body_frame, element_frame, function_to_frame, inner_domain_frame, minus_frame, mset_inner, not_frame, partition_inner, set_inner}
use Rattle.ess_parse_laws.proofs.Invariant.{ReadDomain}
use Rattle.ess_parse_laws.specs.Reducing.{Reduced, inner_domain, joining_word, reduce, reduce_domain, reduced}
use Rattle.ess_parse_laws.specs.Modes.{State, domain_read}
use Rattle.ess_parse_laws.proofs.Booleans.{by_test, zero-le}
use Rattle.ess_parse_laws.proofs.EndLevels.{least_right-below-9}

-- A reduced expression, as the rules derive it under its frames.
pub record WellReduced (t0 ts : List Token) (n : ℕ) (r : Reduced) : Type 0 where
  pub us : List Token
  pub context : OperandContext t0 r.frames us
  pub shape : Shape
  pub is : r.pattern ≡ is_pattern shape
  pub ex : Expression r.ends_in_body shape r.level r.operand us ts
  pub fit : level_needed r.frames ≤ r.level
  pub low : level_needed r.frames ≤ n
  pub fits : Fits r.frames shape

-- No frame wants a level above that of prefix operators.
pub level_needed-below-9 : (fs : List Frame) → level_needed fs ≤ 9
level_needed-below-9 (minus_frame ∷ fs) = lit≤ tt
level_needed-below-9 (not_frame ∷ fs) = lit≤ tt
level_needed-below-9 (binary_frame o a ∷ fs) = least_right-below-9 (rank o)
level_needed-below-9 _ = zero-le

-- Reducing derives the expression under the frames that stay.
pub reduce-keeps : (t0 ts : List Token) (n : ℕ) (fs : List Frame) (w : Bool) (s : Shape) (l : ℕ) (e : Ex) (us : List Token) → OperandContext t0 fs us → Expression w s l e us ts → level_needed fs ≤ l → Fits fs s →
    WellReduced t0 ts n (reduce n fs w (is_pattern s) l e)
reduce-keeps t0 ts n (minus_frame ∷ fs) w s l e us (minus_before {ts = vs} c) d h k =
    by_test (nat_lt n 9) (WellReduced t0 ts n) (reduce n fs w false 9 (unary_ex Op1.Minus e)) (reduced (minus_frame ∷ fs) w (is_pattern s) l e)
    (λ t. reduce-keeps t0 ts n fs w other_shape 9 (unary_ex Op1.Minus e) (operator Op2.Minus ∷ vs) c (minus_expression h d) (level_needed-below-9 fs) tt)
    (λ t. record { us = us; context = minus_before c; shape = s; is = refl; ex = d; fit = h; low = ltb-false n 9 t; fits = k })
reduce-keeps t0 ts n (not_frame ∷ fs) w s l e us (not_before {ts = vs} c) d h k =
    by_test (nat_lt n 9) (WellReduced t0 ts n) (reduce n fs w false 9 (unary_ex Op1.Not e)) (reduced (not_frame ∷ fs) w (is_pattern s) l e)
    (λ t. reduce-keeps t0 ts n fs w other_shape 9 (unary_ex Op1.Not e) (symbol exclamation ∷ vs) c (not_expression h d) (level_needed-below-9 fs) tt)
    (λ t. record { us = us; context = not_before c; shape = s; is = refl; ex = d; fit = h; low = ltb-false n 9 t; fits = k })
reduce-keeps t0 ts n (binary_frame o a ∷ fs) w s l e us (operator_before {s = z} {us = vs} p q f x c) d h k =
    by_test (nat_lt n (right_least o)) (WellReduced t0 ts n) (reduce n fs w false (level o) (binary_ex o a e)) (reduced (binary_frame o a ∷ fs) w (is_pattern s) l e)
    (λ t. subst (λ b. WellReduced t0 ts n (reduce n fs w b (level o) (binary_ex o a e))) (no-pattern o z a) (reduce-keeps t0 ts n fs w (binary_shape o z a) (level o) (binary_ex o a e) vs c (binary_expression p h x d) q f))
    (λ t. record { us = us; context = operator_before p q f x c; shape = s; is = refl; ex = d; fit = h; low = ltb-false n (right_least o) t; fits = k })
reduce-keeps t0 ts n (body_frame f gs ∷ fs) w s l e us (items_before {t = t} {us = vs} q is c) d h k =
    by_test (nat_lt n 1) (WellReduced t0 ts n) (reduce n fs true false 10 (quantified f gs e)) (reduced (body_frame f gs ∷ fs) w (is_pattern s) l e)
    (λ i. reduce-keeps t0 ts n fs true other_shape 10 (quantified f gs e) (t ∷ vs) c (quantifier_expression q is d) (le_trans (level_needed-below-9 fs) (lit≤ tt)) tt)
    (λ i. record { us = us; context = items_before q is c; shape = s; is = refl; ex = d; fit = h; low = zero-le; fits = k })
reduce-keeps t0 ts n [] w s l e us c d h k = record { us = us; context = c; shape = s; is = refl; ex = d; fit = h; low = zero-le; fits = k }
reduce-keeps t0 ts n (f ∷ fs) w s l e us c d h k = record { us = us; context = c; shape = s; is = refl; ex = d; fit = h; low = zero-le; fits = k }

atom-fits : (fs : List Frame) (p : Bool) → Fits fs (atom_shape p)
atom-fits fs true = tt
atom-fits fs false = tt

-- Reducing behind an atom.
pub reduce-atom-keeps : (t0 ts : List Token) (n : ℕ) (fs : List Frame) (p : Bool) (e : Ex) (us : List Token) → OperandContext t0 fs us → Atom p e us ts → WellReduced t0 ts n (reduce n fs false p 10 e)
reduce-atom-keeps t0 ts n fs p e us c d =
    subst (λ b. WellReduced t0 ts n (reduce n fs false b 10 e)) (atom-pattern p)
    (reduce-keeps t0 ts n fs false (atom_shape p) 10 e us c (atom_expression d) (le_trans (level_needed-below-9 fs) (lit≤ tt)) (atom-fits fs p))

inner-domain-ends : (k : Inner) {ms : List Mark} {es : Exs} {d : Dom} {us vs ts : List Token} → MaybeAttributes ms es us (word (joining_word k) ∷ vs) → Domain d vs ts → Domain (inner_domain k ms es d) (word (inner_word k) ∷ us) ts
inner-domain-ends set_inner as' d = set_domain as' d
inner-domain-ends mset_inner as' d = mset_domain as' d
inner-domain-ends partition_inner as' d = partition_domain as' d

function-domain-ends : {ms : List Mark} {es : Exs} {c d : Dom} {us vs xs ts : List Token} → FunctionOpens ms es us vs → Domain c vs (symbol maps_to ∷ xs) → Domain d xs ts → Domain (function_dom ms es c d) (word function_word ∷ us) ts
function-domain-ends (function_with_attributes as') c d = function_domain as' c d
function-domain-ends (function_without_attributes h) c d = plain_function_domain h c d

-- A reduced domain, as the rules derive it under its frames.
pub record DomainReduced (t0 : List Token) (r : State) (ts : List Token) : Type 0 where
  pub d : Dom
  pub is : r.mode ≡ domain_read d
  pub read : ReadDomain t0 r.frames d ts

-- Reducing derives the domain under the frames that stay.
pub reduce-domain-keeps : {t0 : List Token} (fs : List Frame) (d : Dom) (us ts : List Token) → DomainContext t0 fs us → Domain d us ts → DomainReduced t0 (reduce_domain fs d) ts
reduce-domain-keeps (inner_domain_frame q ms es ∷ fs) d us ts (inner_word_before {us = vs} as' c) k = reduce-domain-keeps fs (inner_domain q ms es d) (word (inner_word q) ∷ vs) ts c (inner-domain-ends q as' k)
reduce-domain-keeps (function_to_frame ms es e ∷ fs) d us ts (function_arrow_before {us = vs} b g c) k = reduce-domain-keeps fs (function_dom ms es e d) (word function_word ∷ vs) ts c (function-domain-ends b g k)
reduce-domain-keeps (element_frame ds ∷ fs) d us ts (all_axes_before {us = vs} es c) k =
    reduce-domain-keeps fs (matrix_dom ds d) (word matrix_word ∷ word indexed_word ∷ word by_word ∷ symbol open_square ∷ vs) ts c (matrix_domain es k)
reduce-domain-keeps [] d us ts x k = record { d = d; is = refl; read = record { us = us; context = x; derivation = k } }
reduce-domain-keeps (f ∷ fs) d us ts x k = record { d = d; is = refl; read = record { us = us; context = x; derivation = k } }
