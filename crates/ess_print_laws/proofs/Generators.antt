-- The printed tokens of generators and conditions are derived as those of a comprehension.
use Rattle.std.proofs.Common.{◌≡◌, refl, ap, ◌∙◌, subst, ℕ, Bool, true, false, ◌&&◌, not, List, [], ◌∷◌, ◌++◌}
use Rattle.ess_semantics.specs.Values.{Text}
use Rattle.ess_semantics.specs.Trees.{Pat, Ex, Gens, no_gens, over, from, cond, Dom}
use Rattle.ess_grammar.specs.Words.{Token, colon, drawn_from, symbol, comma}
use Rattle.ess_grammar.specs.Patterns.{Shape, is_pattern, as_pattern, all_bound_by, in_comprehension}
use Rattle.ess_grammar.specs.Grammar.{one_ex, Expression, Items, Generator, last_expression, atom_expression, over_generator, from_generator, last_generator, next_generator, last_condition, next_condition}
use Rattle.ess_grammar.specs.Readable.{ReadablePat, ReadableGens, some_gens}
use Rattle.ess_print_laws.specs.Pieces.{Piece, space, sign, tokens_of}
use Rattle.ess_print_laws.specs.Brackets.{is_written_as_pattern, starts_generator, begins_as_pattern}
use Rattle.ess_print_laws.specs.Expressions.{ex_pieces, dom_pieces, gens_pieces, before_items}
use Rattle.ess_print_laws.proofs.Derived.{Printed, DomDerived, EachGen, as-bracketed}
use Rattle.ess_print_laws.proofs.Patterns.{pattern_ex, pattern-itself, pat-derived}

-- What follows an item: nothing, or a comma and items. The names are those that the items before it bind.
data Following : List Text → Gens → List Token → List Token → Type 0 where
  nothing : {bs : List Text} {us : List Token} → Following bs no_gens us us
  items : {bs : List Text} {h : Bool} {gs : Gens} {ts us : List Token} → h ≡ starts_generator gs → Items in_comprehension bs h gs ts us → Following bs gs (symbol comma ∷ ts) us

over-one : {bs : List Text} (p : Pat) (d : Dom) (hs : Gens) {ts us : List Token} → Generator in_comprehension bs (all_bound_by (one_ex (pattern_ex p))) hs (over (as_pattern (pattern_ex p)) d hs) ts us →
    Generator in_comprehension bs (all_bound_by (one_ex (pattern_ex p))) hs (over p d hs) ts us
over-one {bs = bs} p d hs {ts = ts} {us = us} g = subst (λ q. Generator in_comprehension bs (all_bound_by (one_ex (pattern_ex p))) hs (over q d hs) ts us) (pattern-itself p) g

from-one : {bs : List Text} (p : Pat) (e : Ex) (hs : Gens) {ts us : List Token} → Generator in_comprehension bs (all_bound_by (one_ex (pattern_ex p))) hs (from (as_pattern (pattern_ex p)) e hs) ts us →
    Generator in_comprehension bs (all_bound_by (one_ex (pattern_ex p))) hs (from p e hs) ts us
from-one {bs = bs} p e hs {ts = ts} {us = us} g = subst (λ q. Generator in_comprehension bs (all_bound_by (one_ex (pattern_ex p))) hs (from q e hs) ts us) (pattern-itself p) g

-- a condition before items is no pattern where these begin as a generator does
no-pattern : (p g : Bool) → (g && (p && not (g && p))) ≡ false
no-pattern true true = refl
no-pattern true false = refl
no-pattern false true = refl
no-pattern false false = refl

join-generator : {bs cs : List Text} {hs gs : Gens} {ts vs us : List Token} → Generator in_comprehension bs cs hs gs ts vs → Following (bs ++ cs) hs vs us → Items in_comprehension bs true gs ts us
join-generator g nothing = last_generator g
join-generator g (items is d) = next_generator g d

join-condition : {bs : List Text} {s : Shape} {l : ℕ} {e : Ex} {hs : Gens} {ts vs us : List Token} → (starts_generator hs && is_pattern s) ≡ false → Expression false s l e ts vs → Following bs hs vs us →
    Items in_comprehension bs false (cond e hs) ts us
join-condition h d nothing = last_condition refl d
join-condition {s = s} h d (items is g) = next_condition refl (ap (λ b. b && is_pattern s) is ∙ h) d g

-- ---- each item before those that follow

abbrev Follows : Gens → Type 0
Follows gs = (bs : List Text) (us : List Piece) → Following bs gs (tokens_of (before_items gs (gens_pieces gs us))) (tokens_of us)

over-items : (p : Pat) (d : Dom) (gs : Gens) → ReadablePat p → DomDerived d → Follows gs → (bs : List Text) (us : List Piece) → Items in_comprehension bs true (over p d gs) (tokens_of (gens_pieces (over p d gs) us)) (tokens_of us)
over-items p d gs r k f bs us =
    let vs = before_items gs (gens_pieces gs us) in
    join-generator (over-one p d gs (over_generator (last_expression (atom_expression (pat-derived p r (space ∷ sign colon ∷ space ∷ dom_pieces d vs)))) (k vs)))
    (f (bs ++ all_bound_by (one_ex (pattern_ex p))) us)

from-items : (p : Pat) (e : Ex) (gs : Gens) → ReadablePat p → Printed e → Follows gs → (bs : List Text) (us : List Piece) → Items in_comprehension bs true (from p e gs) (tokens_of (gens_pieces (from p e gs) us)) (tokens_of us)
from-items p e gs r k f bs us =
    let vs = before_items gs (gens_pieces gs us) in
    join-generator (from-one p e gs (from_generator (last_expression (atom_expression (pat-derived p r (space ∷ sign drawn_from ∷ space ∷ ex_pieces e vs)))) (k.reads vs).derivation))
    (f (bs ++ all_bound_by (one_ex (pattern_ex p))) us)

cond-items : (e : Ex) (gs : Gens) → Printed e → Follows gs → (bs : List Text) (us : List Piece) → Items in_comprehension bs false (cond e gs) (tokens_of (gens_pieces (cond e gs) us)) (tokens_of us)
cond-items e gs k f bs us =
    let r = as-bracketed (begins_as_pattern e gs) k (before_items gs (gens_pieces gs us)) in
    join-condition (ap (λ b. starts_generator gs && b) r.is ∙ no-pattern (is_written_as_pattern e) (starts_generator gs)) r.derivation (f bs us)

follow : (gs : Gens) → ReadableGens gs → EachGen gs → Follows gs
follow no_gens r k bs us = nothing
follow (over p d gs) r k bs us = items refl (over-items p d gs r.0 k.0 (follow gs r.2 k.1) bs us)
follow (from p e gs) r k bs us = items refl (from-items p e gs r.0 k.0 (follow gs r.2 k.1) bs us)
follow (cond e gs) r k bs us = items refl (cond-items e gs k.0 (follow gs r.1 k.1) bs us)

-- Items of a comprehension.
pub record ItemsDerived (gs : Gens) (ts us : List Token) : Type 0 where
  pub flag : Bool
  pub derivation : Items in_comprehension [] flag gs ts us

pub gens-derived : (gs : Gens) → some_gens gs ≡ true → ReadableGens gs → EachGen gs → (us : List Piece) → ItemsDerived gs (tokens_of (gens_pieces gs us)) (tokens_of us)
gens-derived no_gens h r k us = cc
gens-derived (over p d gs) h r k us = record { flag = true; derivation = over-items p d gs r.0 k.0 (follow gs r.2 k.1) [] us }
gens-derived (from p e gs) h r k us = record { flag = true; derivation = from-items p e gs r.0 k.0 (follow gs r.2 k.1) [] us }
gens-derived (cond e gs) h r k us = record { flag = false; derivation = cond-items e gs k.0 (follow gs r.1 k.1) [] us }
