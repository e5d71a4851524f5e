-- Where expressions end: before a token that goes on with none of them, the machine reduces as the rules of operators
-- say.
use Rattle.std.proofs.Common.{◌&&◌, ◌<◌, Bool, List, None, Option, Some, [], ap, false, if◌then◌else◌, lit<, lt_of_lt_of_le, not, refl, subst, sym, true, ℕ, ◌∙◌, ◌∷◌, ◌≡◌, ◌≤◌}
use borrow.Author.Tests.{le-leb, le-ltb, lt-ltb}
use Rattle.ess_semantics.specs.declared.words.Fun.{Fun}
use Rattle.ess_semantics.specs.declared.words.Op1.{Op1}
use Rattle.ess_semantics.specs.declared.words.Op2.{Op2}
use Rattle.ess_semantics.specs.Trees.{Ex, Gens}
use Rattle.ess_grammar.specs.Patterns.{Shape, atom_shape, binary_shape, is_member, member_shape, other_shape, pattern_shape, is_pattern}
use Rattle.ess_grammar.specs.Words.{Token, operator}
use Rattle.ess_grammar.specs.Grammar.{binary_ex, quantified, unary_ex}
use Rattle.ess_grammar.specs.Levels.{left_least, level, rank, right_least}
use Rattle.ess_parse_laws.specs.Modes.{Answer, operand_read, operand_wanted}
use Rattle.ess_parse_laws.specs.Frames.{Frame, binary_frame, body_frame, minus_frame, not_frame}
use Rattle.ess_parse_laws.proofs.Booleans.{and-false}
use Rattle.ess_parse_laws.specs.Items.{begin_source, in_is_sign, starts_generator}
use Rattle.ess_parse_laws.specs.Operands.{continue_atom, continues_atom}
use Rattle.ess_parse_laws.proofs.EndLevels.{end_level, end_level-positive, end_level-rank, height-positive, least_right-positive}
use Rattle.ess_parse_laws.specs.AfterOperands.{operand_then, operand_then_operator}
use Rattle.ess_parse_laws.specs.Reducing.{precedence, reduce, reduced}
use Rattle.ess_parse_laws.specs.Machine.{run, then_run, whole_operand}

-- Whether the token is a binary operator.
abbrev pub is_operator : Token → Bool
is_operator (operator o) = true
is_operator _ = false

precedence-0 : (t : Token) → is_operator t ≡ false → precedence t ≡ 0
precedence-0 (operator o) h = cc
precedence-0 _ h = refl

-- The next token goes on with no expression of this level. The flag says whether it ends in a quantifier's body.
abbrev pub Stops : Bool → ℕ → List Token → Type 0
Stops w l [] = Unit {0}
Stops w l (t ∷ ts) = (precedence t < end_level l) × (continues_atom t ≡ false) × ((is_operator t && w) ≡ false)

-- Where it goes on with none of a level, it goes on with none that ends at the same operators.
pub stops-from : (w : Bool) (k l : ℕ) (us : List Token) → end_level k ≤ end_level l → Stops w k us → Stops w l us
stops-from w k l [] h s = tt
stops-from w k l (t ∷ us) h s = (lt_of_lt_of_le s.0 h, s.1, s.2)

-- The run behind an expression, before these tokens.
abbrev pub reading : List Token → List Frame → Bool → Shape → ℕ → Ex → Option Answer
reading [] fs w s l e = whole_operand (reduce 0 fs w (is_pattern s) l e)
reading (t ∷ ts) fs w s l e = then_run (operand_then t (reduce (precedence t) fs w (is_pattern s) l e)) (run ts)

-- The least level of the operand that the innermost frame wants.
abbrev pub level_needed : List Frame → ℕ
level_needed (minus_frame ∷ fs) = 9
level_needed (not_frame ∷ fs) = 9
level_needed (binary_frame o a ∷ fs) = right_least o
level_needed _ = 0

-- An atom has the shape of a pattern where it is written as one.
pub atom-pattern : (p : Bool) → is_pattern (atom_shape p) ≡ p
atom-pattern true = refl
atom-pattern false = refl

-- Behind an atom that no index and no application follows.
pub from-operand : (us : List Token) (p : Bool) (e : Ex) (fs : List Frame) → Stops false 10 us → run us (operand_read p e) fs ≡ reading us fs false (atom_shape p) 10 e
from-operand [] p e fs s = ap (λ q. whole_operand (reduce 0 fs false q 10 e)) (sym (atom-pattern p))
from-operand (t ∷ us) p e fs s =
    ap (λ b. then_run (elim b [ true ↦ continue_atom t e fs | false ↦ operand_then t (reduce (precedence t) fs false p 10 e) ]) (run us)) s.1
    ∙ ap (λ q. then_run (operand_then t (reduce (precedence t) fs false q 10 e)) (run us)) (sym (atom-pattern p))

-- The frame of `-` is closed.
pub reduce-minus : (us : List Token) (fs : List Frame) (v w : Bool) (s : Shape) (l : ℕ) (e : Ex) → Stops v 9 us → reading us (minus_frame ∷ fs) w s l e ≡ reading us fs w other_shape 9 (unary_ex Op1.Minus e)
reduce-minus [] fs v w s l e h = refl
reduce-minus (t ∷ us) fs v w s l e h = ap (λ b. then_run (operand_then t (if b then reduce (precedence t) fs w false 9 (unary_ex Op1.Minus e) else reduced (minus_frame ∷ fs) w (is_pattern s) l e)) (run us)) (lt-ltb (precedence t) 9 h.0)

-- The frame of `!` is closed.
pub reduce-not : (us : List Token) (fs : List Frame) (v w : Bool) (s : Shape) (l : ℕ) (e : Ex) → Stops v 9 us → reading us (not_frame ∷ fs) w s l e ≡ reading us fs w other_shape 9 (unary_ex Op1.Not e)
reduce-not [] fs v w s l e h = refl
reduce-not (t ∷ us) fs v w s l e h = ap (λ b. then_run (operand_then t (if b then reduce (precedence t) fs w false 9 (unary_ex Op1.Not e) else reduced (not_frame ∷ fs) w (is_pattern s) l e)) (run us)) (lt-ltb (precedence t) 9 h.0)

-- An operator's expression isn't written as a pattern.
pub no-pattern : (o : Op2) (s : Shape) (a : Ex) → is_pattern (binary_shape o s a) ≡ false
no-pattern o (member_shape x) a = refl
no-pattern o other_shape a = refl
no-pattern o pattern_shape a = go (is_member o)
  where
    go : (m : Bool) → is_pattern (elim m [ true ↦ member_shape a | false ↦ other_shape ]) ≡ false
    go true = refl
    go false = refl

-- The frame of a binary operator is closed.
pub reduce-binary : (o : Op2) (a : Ex) (z : Shape) (us : List Token) (fs : List Frame) (v w : Bool) (s : Shape) (l : ℕ) (e : Ex) → Stops v (level o) us →
    reading us (binary_frame o a ∷ fs) w s l e ≡ reading us fs w (binary_shape o z a) (level o) (binary_ex o a e)
reduce-binary o a z [] fs v w s l e h =
    ap (λ b. whole_operand (if b then reduce 0 fs w false (level o) (binary_ex o a e) else reduced (binary_frame o a ∷ fs) w (is_pattern s) l e)) (lt-ltb 0 (right_least o) (least_right-positive (rank o)))
    ∙ ap (λ p. whole_operand (reduce 0 fs w p (level o) (binary_ex o a e))) (sym (no-pattern o z a))
reduce-binary o a z (t ∷ us) fs v w s l e h =
    ap (λ b. then_run (operand_then t (if b then reduce (precedence t) fs w false (level o) (binary_ex o a e) else reduced (binary_frame o a ∷ fs) w (is_pattern s) l e)) (run us))
    (lt-ltb (precedence t) (right_least o) (subst (λ n. precedence t < n) (end_level-rank (rank o)) h.0))
    ∙ ap (λ p. then_run (operand_then t (reduce (precedence t) fs w p (level o) (binary_ex o a e))) (run us)) (sym (no-pattern o z a))

-- The frame of a quantifier is closed.
pub reduce-body : (f : Fun) (gs : Gens) (us : List Token) (fs : List Frame) (w : Bool) (s : Shape) (l : ℕ) (e : Ex) → Stops true 10 us →
    reading us (body_frame f gs ∷ fs) w s l e ≡ reading us fs true other_shape 10 (quantified f gs e)
reduce-body f gs [] fs w s l e h = refl
reduce-body f gs (t ∷ us) fs w s l e h =
    ap (λ b. then_run (operand_then t (if b then reduce (precedence t) fs true false 10 (quantified f gs e) else reduced (body_frame f gs ∷ fs) w (is_pattern s) l e)) (run us))
    (lt-ltb (precedence t) 1 (subst (λ n. n < 1) (sym (precedence-0 t (drop-true (is_operator t) h.2))) (lit< tt)))
  where
    drop-true : (b : Bool) → (b && true) ≡ false → b ≡ false
    drop-true true q = q
    drop-true false q = refl

-- What goes on with no quantifier's body goes on with no expression.
pub body-stops : (us : List Token) (w : Bool) (l : ℕ) → Stops true 10 us → Stops w l us
body-stops [] w l h = tt
body-stops (t ∷ us) w l h = go (is_operator t) refl h.2
  where
    go : (b : Bool) → is_operator t ≡ b → (b && true) ≡ false → Stops w l (t ∷ us)
    go true p q = cc
    go false p q = (subst (λ n. n < end_level l) (sym (precedence-0 t p)) (end_level-positive l), h.1, ap (λ b. b && w) p)

-- An operator that binds tighter than the innermost frame closes nothing.
reduce-stays : (n : ℕ) (fs : List Frame) (w p : Bool) (l : ℕ) (e : Ex) → 1 ≤ n → level_needed fs ≤ n → reduce n fs w p l e ≡ reduced fs w p l e
reduce-stays n (minus_frame ∷ fs) w p l e k h = ap (λ b. if b then reduce n fs w false 9 (unary_ex Op1.Minus e) else reduced (minus_frame ∷ fs) w p l e) (le-ltb n 9 h)
reduce-stays n (not_frame ∷ fs) w p l e k h = ap (λ b. if b then reduce n fs w false 9 (unary_ex Op1.Not e) else reduced (not_frame ∷ fs) w p l e) (le-ltb n 9 h)
reduce-stays n (binary_frame o a ∷ fs) w p l e k h = ap (λ b. if b then reduce n fs w false (level o) (binary_ex o a e) else reduced (binary_frame o a ∷ fs) w p l e) (le-ltb n (right_least o) h)
reduce-stays n (body_frame f gs ∷ fs) w p l e k h = ap (λ b. if b then reduce n fs true false 10 (quantified f gs e) else reduced (body_frame f gs ∷ fs) w p l e) (le-ltb n 1 k)
reduce-stays n _ w p l e k h = refl

-- An expression of this shape may stand under the frames: `in` in it is no generator's sign.
abbrev pub Fits : List Frame → Shape → Type 0
Fits fs (member_shape x) = in_is_sign fs x ≡ false
Fits fs pattern_shape = Unit {0}
Fits fs other_shape = Unit {0}

-- Where `in` is no sign, every shape fits.
pub fits-else : (fs : List Frame) → ((x : Ex) → in_is_sign fs x ≡ false) → (s : Shape) → Fits fs s
fits-else fs h (member_shape x) = h x
fits-else fs h pattern_shape = tt
fits-else fs h other_shape = tt

-- A left operand fits where the whole does.
pub fits-left : (fs : List Frame) (o : Op2) (s : Shape) (a : Ex) → Fits fs (binary_shape o s a) → Fits fs s
fits-left fs o (member_shape x) a h = h
fits-left fs o pattern_shape a h = tt
fits-left fs o other_shape a h = tt

-- Where the whole fits, its operator begins no generator.
fits-operator : (fs : List Frame) (o : Op2) (s : Shape) (a : Ex) → Fits fs (binary_shape o s a) → starts_generator o (is_pattern s) a fs ≡ false
fits-operator fs o (member_shape x) a h = and-false (is_member o)
fits-operator fs o other_shape a h = and-false (is_member o)
fits-operator fs o pattern_shape a h = go (is_member o) h
  where
    go : (m : Bool) → Fits fs (elim m [ true ↦ member_shape a | false ↦ other_shape ]) → (m && (true && in_is_sign fs a)) ≡ false
    go true q = q
    go false q = refl

-- An operator behind its left operand opens a frame.
pub shift : (o : Op2) (us : List Token) (fs : List Frame) (s : Shape) (l : ℕ) (a : Ex) → level_needed fs ≤ level o → left_least o ≤ l → Fits fs (binary_shape o s a) →
    reading (operator o ∷ us) fs false s l a ≡ run us operand_wanted (binary_frame o a ∷ fs)
shift o us fs s l a h k f =
    ap (λ r. then_run (operand_then_operator o r) (run us)) (reduce-stays (level o) fs false (is_pattern s) l a (height-positive (rank o)) h)
    ∙ ap (λ b. then_run (elim (b && not false) [ true ↦ elim (starts_generator o (is_pattern s) a fs) [ true ↦ begin_source fs a | false ↦ Some (record { mode = operand_wanted; frames = binary_frame o a ∷ fs }) ] | false ↦ None ]) (run us)) (le-leb (left_least o) l k)
    ∙ ap (λ b. then_run (elim b [ true ↦ begin_source fs a | false ↦ Some (record { mode = operand_wanted; frames = binary_frame o a ∷ fs }) ]) (run us)) (fits-operator fs o s a f)
