-- One pattern more is one generator, or one condition, more.
use Rattle.std.proofs.Common.{◌≡◌, refl, sym, ap, ◌∙◌, ℕ, ◌+◌, ◌<◌, List, [], ◌∷◌, ◌++◌, length, take, get_or}
use Rattle.std.proofs.lemmas.List.{take_more}
use Rattle.ess_semantics.specs.Trees as pure
use Rattle.ess_semantics.specs.Trees.{no_exs, no_gens, over, from, cond}
use Rattle.ess_grammar.specs.Patterns.{as_pattern}
use Rattle.ess_parse_laws.specs.Reversed.{push_all_from, push_all_over, push_conditions, reverse_gens}
use Rattle.ess_core.specs.TreeViews.{pure_pat, pure_gens}
use Rattle.ess_core.specs.declared.expressions.Gen.{Gen}
use Rattle.ess_core.specs.declared.expressions.Pat.{Pat}
use Rattle.ess_parse_frames.specs.Rows.{back_gens}
use Rattle.ess_parse_frames.specs.Patterns.{pattern_ex, pats_in_order, back_pats}
use Rattle.ess_parse_frames.proofs.PatternLaws.{pattern_back, pats_none, pats_push}
use Rattle.ess_parse_frames.proofs.RowLaws.{gens_closed}

-- ---- generators over a domain

pub over_none : (d : pure.Dom) (acc : pure.Gens) → push_all_over (pats_in_order []) d acc ≡ acc
unfolding pats_in_order
over_none d acc = refl

pub over_push : (ps : List Pat) (p : Pat) (d : pure.Dom) (acc : pure.Gens) → push_all_over (pats_in_order (ps ++ p ∷ [])) d acc ≡ over (pure_pat p) d (push_all_over (pats_in_order ps) d acc)
unfolding pats_in_order
over_push [] p d acc = ap (λ q. over q d acc) (pattern_back p)
over_push (q ∷ ps) p d acc = over_push ps p d (over (as_pattern (pattern_ex (pure_pat q))) d acc)

pub over_more : (ps : List Pat) (i : ℕ) (x : Pat) (d : pure.Dom) (acc : pure.Gens) → i < length ps →
    push_all_over (pats_in_order (take (i + 1) ps)) d acc ≡ over (pure_pat (get_or ps i x)) d (push_all_over (pats_in_order (take i ps)) d acc)
over_more ps i x d acc h = ap (λ qs. push_all_over (pats_in_order qs) d acc) (take_more ps i x h) ∙ over_push (take i ps) (get_or ps i x) d acc

-- ---- generators over a value

pub from_none : (e : pure.Ex) (acc : pure.Gens) → push_all_from (pats_in_order []) e acc ≡ acc
unfolding pats_in_order
from_none e acc = refl

pub from_push : (ps : List Pat) (p : Pat) (e : pure.Ex) (acc : pure.Gens) → push_all_from (pats_in_order (ps ++ p ∷ [])) e acc ≡ from (pure_pat p) e (push_all_from (pats_in_order ps) e acc)
unfolding pats_in_order
from_push [] p e acc = ap (λ q. from q e acc) (pattern_back p)
from_push (q ∷ ps) p e acc = from_push ps p e (from (as_pattern (pattern_ex (pure_pat q))) e acc)

pub from_more : (ps : List Pat) (i : ℕ) (x : Pat) (e : pure.Ex) (acc : pure.Gens) → i < length ps →
    push_all_from (pats_in_order (take (i + 1) ps)) e acc ≡ from (pure_pat (get_or ps i x)) e (push_all_from (pats_in_order (take i ps)) e acc)
from_more ps i x e acc h = ap (λ qs. push_all_from (pats_in_order qs) e acc) (take_more ps i x h) ∙ from_push (take i ps) (get_or ps i x) e acc

-- ---- conditions

pub conditions_none : (acc : pure.Gens) → push_conditions (back_pats [] no_exs) acc ≡ acc
conditions_none acc = ap (λ es. push_conditions es acc) (pats_none no_exs)

pub conditions_more : (ps : List Pat) (i : ℕ) (x : Pat) (acc : pure.Gens) → i < length ps →
    push_conditions (back_pats (take (i + 1) ps) no_exs) acc ≡ cond (pattern_ex (pure_pat (get_or ps i x))) (push_conditions (back_pats (take i ps) no_exs) acc)
conditions_more ps i x acc h =
    ap (λ qs. push_conditions (back_pats qs no_exs) acc) (take_more ps i x h)
    ∙ ap (λ es. push_conditions es acc) (pats_push (take i ps) (get_or ps i x) no_exs)

-- ---- all items

pub items_in_order : (gs : List Gen) (hs : pure.Gens) → back_gens gs ≡ hs → pure_gens gs ≡ reverse_gens hs no_gens
items_in_order gs hs h = sym (gens_closed gs) ∙ ap (λ ks. reverse_gens ks no_gens) h
