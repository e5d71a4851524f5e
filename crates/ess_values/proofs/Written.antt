-- The texts of tuples, matrices and functions, as they are written part by part.
use Rattle.std.proofs.Common.{◌≡◌, refl, sym, ap, ◌∙◌, ℕ, List, [], ◌∷◌, ◌++◌, codes, map, length, arith}
use Rattle.std.specs.Prelude.{◌≢◌}
use Rattle.std.proofs.lemmas.List.{append_assoc, append-nil}
use Rattle.ess_semantics.specs.Values.{Text, pair, of_list}
use Rattle.ess_grammar.specs.ValueTexts.{value_texts, pair_texts, with_commas, tuple_text, matrix_text}
use Rattle.ess_core.specs.declared.values.Val.{Val}
use Rattle.ess_core.specs.declared.values.Pair.{Pair}
use Rattle.ess_core.specs.ValueViews.{pure_val, pure_vals, pure_pair}
use Rattle.ess_values.specs.Printing.{matrix_end, pair_text}
use Rattle.ess_values.proofs.Arguments.{pair_is}
use Rattle.ess_core.specs.declared.values.Val.TheViews.{out-Pair}

pub tuple_of_one : (name_of : Text → ℕ → Text) (vs : List Val) → length vs ≡ 1 → codes "tuple (" ++ with_commas (value_texts name_of (pure_vals vs)) ++ codes ")" ≡ tuple_text (value_texts name_of (pure_vals vs))
tuple_of_one name_of [] h = absurd (omega arith)
tuple_of_one name_of (v ∷ []) h = refl
tuple_of_one name_of (v ∷ w ∷ vs) h = absurd (omega arith)

pub tuple_of_more : (name_of : Text → ℕ → Text) (vs : List Val) → length vs ≢ 1 → codes "(" ++ with_commas (value_texts name_of (pure_vals vs)) ++ codes ")" ≡ tuple_text (value_texts name_of (pure_vals vs))
tuple_of_more name_of [] h = refl
tuple_of_more name_of (v ∷ []) h = absurd (h refl)
tuple_of_more name_of (v ∷ w ∷ vs) h = refl

pub matrix_written : (name_of : Text → ℕ → Text) (out i : Text) (vs : List Val)
    → (out ++ (codes "[" ++ with_commas (value_texts name_of (pure_vals vs)) ++ [])) ++ matrix_end i vs ≡ out ++ matrix_text i (value_texts name_of (pure_vals vs))
matrix_written name_of out i [] = append_assoc out _ _
matrix_written name_of out i (v ∷ vs) =
    append_assoc out _ _
    ∙ ap (λ w. out ++ (w ++ (codes "; " ++ i ++ codes "]"))) (append-nil (codes "[" ++ with_commas (value_texts name_of (pure_vals (v ∷ vs)))))
    ∙ ap (λ w. out ++ w) (spread (codes "[" ++ with_commas (value_texts name_of (pure_vals (v ∷ vs)))))
  where
    spread : (w : Text) → w ++ (codes "; " ++ i ++ codes "]") ≡ w ++ codes "; " ++ i ++ codes "]"
    spread w = sym (ap (λ x. x ++ codes "]") (append_assoc w (codes "; ") i) ∙ append_assoc w (codes "; " ++ i) (codes "]"))

-- the pairs of a function one by one
pub pairs_written : (name_of : Text → ℕ → Text) (ps : List Pair) → pair_texts name_of (of_list (map pure_pair ps)) ≡ map (pair_text name_of) (map pure_pair ps)
unfolding pair_text
pairs_written name_of [] = refl
pairs_written name_of (p ∷ ps) =
    ap (λ v. pair_texts name_of (of_list (v ∷ map pure_pair ps))) (pair_is p)
    ∙ ap (λ ts. pair_text name_of (pair (pure_val (out-Pair p).from) (pure_val (out-Pair p).to)) ∷ ts) (pairs_written name_of ps)
    ∙ ap (λ v. pair_text name_of v ∷ map (pair_text name_of) (map pure_pair ps)) (sym (pair_is p))

-- a function, written in three steps
pub function_written : (name_of : Text → ℕ → Text) (ps : List Pair) (out first mid last : Text) → first ≡ out ++ codes "function(" → mid ≡ first ++ with_commas (map (pair_text name_of) (map pure_pair ps)) → last ≡ mid ++ codes ")"
    → last ≡ out ++ (codes "function(" ++ with_commas (pair_texts name_of (of_list (map pure_pair ps))) ++ codes ")")
function_written name_of ps out first mid last d e f =
    f ∙ ap (λ w. w ++ codes ")") (e ∙ ap (λ w. w ++ with_commas (map (pair_text name_of) (map pure_pair ps))) d)
    ∙ ap (λ w. out ++ codes "function(" ++ with_commas w ++ codes ")") (sym (pairs_written name_of ps))
    ∙ ap (λ w. w ++ codes ")") (append_assoc out (codes "function(") (with_commas (pair_texts name_of (of_list (map pure_pair ps)))))
    ∙ append_assoc out (codes "function(" ++ with_commas (pair_texts name_of (of_list (map pure_pair ps)))) (codes ")")
