-- What it means that the printed tokens of a tree are derived, whatever follows, and small facts on it.
use Rattle.std.proofs.Common.{◌≡◌, refl, sym, ap, ◌∙◌, ℕ, suc, ◌≤◌, Bool, true, false, ◌&&◌, not, List, ◌∷◌, lit≤}
use Rattle.ess_semantics.specs.declared.words.Op2.{Op2}
use Rattle.ess_semantics.specs.Trees.{Ex, Exs, node_ex, no_exs, more_exs, Gens, no_gens, over, from, cond, Dom, Doms, no_doms, more_doms}
use Rattle.ess_grammar.specs.Words.{Token, symbol, comma, close_round}
use Rattle.ess_grammar.specs.Levels.{Rank, power_rank, product_rank, sum_rank, comparison_rank, and_rank, or_rank, implies_rank, iff_rank, from_left, from_right, from_neither, side, height, rank, left_least, right_least}
use Rattle.ess_grammar.specs.Patterns.{Shape, atom_shape, is_pattern}
use Rattle.ess_grammar.specs.Grammar.{Atom, Expression, Expressions, Domain, bracketed_atom, atom_expression, last_expression, next_expression}
use Rattle.ess_print_laws.specs.Pieces.{Piece, sign, tokens_of}
use Rattle.ess_print_laws.specs.Brackets.{is_operators, is_written_as_pattern, are_written_as_patterns}
use Rattle.ess_print_laws.specs.Parts.{comma_space, commas, bracketed}
use Rattle.ess_print_laws.specs.Expressions.{wholes, ex_pieces, operands, dom_pieces}

-- No condition that is false holds.
pub never : {A : Type 0} → false ≡ true → A
never h = cc

-- ---- expressions

-- A derivation, of a shape that says whether the text is written as a pattern.
pub record Reads (p : Bool) (e : Ex) (ts us : List Token) : Type 0 where
  pub shape : Shape
  pub level : ℕ
  pub is : is_pattern shape ≡ p
  pub derivation : Expression false shape level e ts us

-- How an expression is read, and how it is read as an operand, where it is no operator's.
pub record Printed (e : Ex) : Type 0 where
  pub reads : (us : List Piece) → Reads (is_written_as_pattern e) e (tokens_of (ex_pieces e us)) (tokens_of us)
  pub atom : is_operators e ≡ false → (us : List Piece) → Atom (is_written_as_pattern e) e (tokens_of (ex_pieces e us)) (tokens_of us)

-- Each of several, and for each operator's node each of its operands.
abbrev mutual
  pub Each : Exs → Type 0
  Each no_exs = Unit {0}
  Each (more_exs e es) = Printed e × Inner e × Each es

  pub Inner : Ex → Type 0
  Inner (node_ex b op es) = Each es
  Inner e = Unit {0}

pub and-true : (b : Bool) → (b && true) ≡ b
and-true true = refl
and-true false = refl

pub and-false : (b : Bool) → (b && false) ≡ false
and-false true = refl
and-false false = refl

shape-is : (b : Bool) → is_pattern (atom_shape b) ≡ b
shape-is true = refl
shape-is false = refl

pub atom-reads : {p : Bool} {e : Ex} {ts us : List Token} → Atom p e ts us → Reads p e ts us
atom-reads {p = p} d = record { shape = atom_shape p; level = 10; is = shape-is p; derivation = atom_expression d }

pub from-atom : {e : Ex} → ((us : List Piece) → Atom (is_written_as_pattern e) e (tokens_of (ex_pieces e us)) (tokens_of us)) → Printed e
from-atom f = record { reads = λ us. atom-reads (f us); atom = λ h us. f us }

pub from-operator : {e : Ex} → is_operators e ≡ true → ((us : List Piece) → Reads (is_written_as_pattern e) e (tokens_of (ex_pieces e us)) (tokens_of us)) → Printed e
from-operator h f = record { reads = f; atom = λ k us. cc }

-- In brackets, or an atom already.
pub record AsOperand (e : Ex) (ts us : List Token) : Type 0 where
  pub pattern_like : Bool
  pub derivation : Atom pattern_like e ts us

pub as-operand : {e : Ex} → Printed e → (us : List Piece) → AsOperand e (tokens_of (bracketed (is_operators e) (ex_pieces e) us)) (tokens_of us)
as-operand {e = e} d us = go (is_operators e) refl
  where
    go : (b : Bool) → is_operators e ≡ b → AsOperand e (tokens_of (bracketed b (ex_pieces e) us)) (tokens_of us)
    go true h = record { pattern_like = false; derivation = bracketed_atom (d.reads (sign close_round ∷ us)).derivation }
    go false h = record { pattern_like = is_written_as_pattern e; derivation = d.atom h us }

-- In brackets where the condition holds.
pub as-bracketed : {e : Ex} (b : Bool) → Printed e → (us : List Piece) →
    Reads (is_written_as_pattern e && not b) e (tokens_of (bracketed b (ex_pieces e) us)) (tokens_of us)
as-bracketed {e = e} true d us = record { shape = atom_shape false; level = 10; is = sym (and-false (is_written_as_pattern e)); derivation = atom_expression (bracketed_atom (d.reads (sign close_round ∷ us)).derivation) }
as-bracketed {e = e} false d us = let r = d.reads us in record { shape = r.shape; level = r.level; is = r.is ∙ sym (and-true (is_written_as_pattern e)); derivation = r.derivation }

-- ---- levels

abbrev left_of : Rank → ℕ
left_of r = elim (side r) [ from_left ↦ height r | from_right ↦ suc (height r) | from_neither ↦ suc (height r) ]

abbrev right_of : Rank → ℕ
right_of r = elim (side r) [ from_left ↦ suc (height r) | from_right ↦ height r | from_neither ↦ suc (height r) ]

left-10 : (r : Rank) → left_of r ≤ 10
left-10 power_rank = lit≤ tt
left-10 product_rank = lit≤ tt
left-10 sum_rank = lit≤ tt
left-10 comparison_rank = lit≤ tt
left-10 and_rank = lit≤ tt
left-10 or_rank = lit≤ tt
left-10 implies_rank = lit≤ tt
left-10 iff_rank = lit≤ tt

right-10 : (r : Rank) → right_of r ≤ 10
right-10 power_rank = lit≤ tt
right-10 product_rank = lit≤ tt
right-10 sum_rank = lit≤ tt
right-10 comparison_rank = lit≤ tt
right-10 and_rank = lit≤ tt
right-10 or_rank = lit≤ tt
right-10 implies_rank = lit≤ tt
right-10 iff_rank = lit≤ tt

-- An operand without an operator binds tightly enough on either side.
pub left-low : (o : Op2) → left_least o ≤ 10
left-low o = left-10 (rank o)

pub right-low : (o : Op2) → right_least o ≤ 10
right-low o = right-10 (rank o)

-- ---- lists

-- Several with commas between. The flag says whether all are written as patterns.
pub record ReadsAll (k : Bool) (es : Exs) (ts us : List Token) : Type 0 where
  pub flag : Bool
  pub is : flag ≡ k
  pub derivation : Expressions flag es ts us

pub one-reads : {p : Bool} {e : Ex} {ts us : List Token} → Reads p e ts us → ReadsAll (p && true) (more_exs e no_exs) ts us
one-reads {p = p} r = record { flag = is_pattern r.shape; is = r.is ∙ sym (and-true p); derivation = last_expression r.derivation }

pub more-read : {p k : Bool} {e : Ex} {es : Exs} {ts us vs : List Token} → Reads p e ts (symbol comma ∷ us) → ReadsAll k es us vs →
    ReadsAll (p && k) (more_exs e es) ts vs
more-read {p = p} {k = k} r q = record {
  flag = is_pattern r.shape && q.flag;
  is = ap (λ b. b && q.flag) r.is ∙ ap (λ b. p && b) q.is;
  derivation = next_expression r.derivation q.derivation;
}

pub list-reads : (e : Ex) (es : Exs) → Printed e → Each es → (us : List Piece) →
    ReadsAll (are_written_as_patterns (more_exs e es)) (more_exs e es) (tokens_of (commas (wholes (operands (more_exs e es))) us)) (tokens_of us)
list-reads e no_exs d ds us = one-reads (d.reads us)
list-reads e (more_exs f es) d ds us = more-read (d.reads (comma_space (commas (wholes (operands (more_exs f es))) us))) (list-reads f es ds.0 ds.2 us)

-- ---- domains

-- A domain is derived, whatever follows.
abbrev pub DomDerived : Dom → Type 0
DomDerived d = (us : List Piece) → Domain d (tokens_of (dom_pieces d us)) (tokens_of us)

-- Each of several.
abbrev pub EachDom : Doms → Type 0
EachDom no_doms = Unit {0}
EachDom (more_doms d ds) = DomDerived d × EachDom ds

-- Each domain and each expression of generators and conditions.
abbrev pub EachGen : Gens → Type 0
EachGen no_gens = Unit {0}
EachGen (over p d gs) = DomDerived d × EachGen gs
EachGen (from p e gs) = Printed e × EachGen gs
EachGen (cond e gs) = Printed e × EachGen gs
