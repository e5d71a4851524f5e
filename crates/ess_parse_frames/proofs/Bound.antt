-- Names that patterns bind.
use Rattle.std.proofs.Common.{◌≡◌, refl, sym, ap, ◌∙◌, ℕ, ◌+◌, ◌<◌, List, [], ◌∷◌, ◌++◌, length, take, get_or, append_assoc}
use Rattle.std.proofs.lemmas.List.{take_more}
use Rattle.ess_semantics.specs.Values.{Text}
use Rattle.ess_grammar.specs.Patterns.{bound_by, all_bound_by}
use Rattle.ess_core.specs.TreeViews.{pure_pat}
use Rattle.ess_core.proofs.PartEquations.{pure_pat_name, pure_pat_tuple}
use Rattle.ess_core.specs.declared.expressions.Pat.{Pat}
use Rattle.ess_core.specs.declared.expressions.Pat.TheVariants as pat
use Rattle.ess_parse_frames.specs.Patterns.{pattern_ex, pats_in_order}
use Rattle.ess_parse_frames.proofs.PatternLaws.{pats_are_exs}

pub name_bound : (a : Text) → bound_by (pattern_ex (pure_pat (pat.Name a))) ≡ a ∷ []
name_bound a = ap (λ p. bound_by (pattern_ex p)) (pure_pat_name a)

pub tuple_bound : (ps : List Pat) → bound_by (pattern_ex (pure_pat (pat.Tuple ps))) ≡ all_bound_by (pats_in_order ps)
unfolding pats_in_order
tuple_bound ps = ap (λ p. bound_by (pattern_ex p)) (pure_pat_tuple ps) ∙ ap all_bound_by (pats_are_exs ps)

append-none : {A : Type 0} (xs : List A) → xs ++ [] ≡ xs
append-none [] = refl
append-none (x ∷ xs) = ap (λ ys. x ∷ ys) (append-none xs)

pub bound_none : (ns : List Text) → ns ++ all_bound_by (pats_in_order []) ≡ ns
unfolding pats_in_order
bound_none ns = append-none ns

-- one pattern more
bound-push : (ps : List Pat) (p : Pat) → all_bound_by (pats_in_order (ps ++ p ∷ [])) ≡ all_bound_by (pats_in_order ps) ++ bound_by (pattern_ex (pure_pat p))
unfolding pats_in_order
bound-push [] p = append-none (bound_by (pattern_ex (pure_pat p)))
bound-push (q ∷ ps) p =
    ap (λ ns. bound_by (pattern_ex (pure_pat q)) ++ ns) (bound-push ps p)
    ∙ sym (append_assoc (bound_by (pattern_ex (pure_pat q))) (all_bound_by (pats_in_order ps)) (bound_by (pattern_ex (pure_pat p))))

pub bound_more : (ns : List Text) (ps : List Pat) (i : ℕ) (d : Pat) → i < length ps →
    ns ++ all_bound_by (pats_in_order (take (i + 1) ps)) ≡ (ns ++ all_bound_by (pats_in_order (take i ps))) ++ bound_by (pattern_ex (pure_pat (get_or ps i d)))
bound_more ns ps i d h =
    ap (λ qs. ns ++ all_bound_by (pats_in_order qs)) (take_more ps i d h)
    ∙ ap (λ ms. ns ++ ms) (bound-push (take i ps) (get_or ps i d))
    ∙ sym (append_assoc ns (all_bound_by (pats_in_order (take i ps))) (bound_by (pattern_ex (pure_pat (get_or ps i d)))))
