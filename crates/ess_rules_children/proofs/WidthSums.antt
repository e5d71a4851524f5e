-- How many tables a representation has, counted child by child.
use Rattle.std.proofs.Common.{◌≡◌, sym, ap, ◌∙◌, ℕ, ◌+◌, ◌<◌, ◌≤◌, List, map, length, drop, get_or, arith}
use Rattle.std.proofs.lemmas.List.{at_drop_more, at_drop_all}
use Rattle.ess_semantics.specs.Choice.{reprs_of}
use Rattle.ess_semantics.specs.Representations.{own_width, width, widths}
use Rattle.ess_core.specs.declared.representations.Repr.{Repr}
use Rattle.ess_core.specs.declared.representations.Repr.TheViews.{out-Repr}
use Rattle.ess_core.specs.TreeViews.{pure_repr}
use Rattle.ess_core.proofs.RepresentationEquations.{pure_repr_is}

pub width_made : (x : Repr) (r a b : ℕ) → r ≡ a + b → a ≡ own_width (out-Repr x).kind →
    b ≡ widths (reprs_of (map pure_repr (out-Repr x).children)) → r ≡ width (pure_repr x)
width_made x r a b e p q = e ∙ ap (λ n. n + b) p ∙ ap (λ n. own_width (out-Repr x).kind + n) q ∙ ap width (sym (pure_repr_is x))

-- How many tables these have.
abbrev pub wide : List Repr → ℕ
wide rs = widths (reprs_of (map pure_repr rs))

pub widths_none : (rs : List Repr) → 0 + widths (reprs_of (map pure_repr rs)) ≡ widths (reprs_of (map pure_repr rs))
widths_none rs = omega arith

pub widths_more : (rs : List Repr) (i : ℕ) (x : Repr) (t t' n : ℕ) → i < length rs → x ≡ get_or rs i x → n ≡ width (pure_repr x) →
    t' ≡ t + n →
    t + widths (reprs_of (map pure_repr (drop i rs))) ≡ widths (reprs_of (map pure_repr rs)) →
    t' + widths (reprs_of (map pure_repr (drop (i + 1) rs))) ≡ widths (reprs_of (map pure_repr rs))
widths_more rs i x t t' n h is e g p =
    let q : wide (drop i rs) ≡ width (pure_repr x) + wide (drop (i + 1) rs) = at_drop_more wide rs i x h
    ∙ ap (λ y. width (pure_repr y) + wide (drop (i + 1) rs)) (sym is) in
    omega (arith, e, g, p, q)

pub widths_all : (rs : List Repr) (i t : ℕ) → length rs ≤ i → t + widths (reprs_of (map pure_repr (drop i rs))) ≡ widths
    (reprs_of (map pure_repr rs)) → t ≡ widths (reprs_of (map pure_repr rs))
widths_all rs i t h p = let q : wide (drop i rs) ≡ 0 = at_drop_all wide rs i h in omega (arith, p, q)
