-- Patterns as the expressions that are written as them.
use Rattle.std.proofs.Common.{◌≡◌, refl, sym, ap, ◌∙◌, List, [], ◌∷◌, ◌++◌, map}
use Rattle.ess_semantics.specs.Trees as pure
use Rattle.ess_semantics.specs.Trees.{name_pat, tuple_pat, no_pats, more_pats, no_exs, more_exs}
use Rattle.ess_parse_laws.specs.Reversed.{reverse_exs}
use Rattle.ess_grammar.specs.Patterns.{as_pattern, as_patterns}
use Rattle.ess_core.specs.TreeViews.{pure_ex, pure_pat, exs_of, pats_of}
use Rattle.ess_core.specs.declared.expressions.Ex.{Ex}
use Rattle.ess_core.specs.declared.expressions.Pat.{Pat}
use Rattle.ess_parse_frames.specs.Patterns.{pattern_ex, pattern_exs, view_pats, pats_in_order, back_pats}
use Rattle.ess_parse_frames.specs.Rows.{back_exs}
use Rattle.ess_parse_frames.proofs.TwiceReversed.{exs-push, exs-closed, map-push}

-- several patterns are one expression each
pub pats_are_exs : (ps : List Pat) → pattern_exs (pats_of (map pure_pat ps)) ≡ exs_of (view_pats ps)
pats_are_exs [] = refl
pats_are_exs (p ∷ ps) = ap (more_exs (pattern_ex (pure_pat p))) (pats_are_exs ps)

mutual
  -- what is written as a pattern is that pattern
  pub pattern-back : (p : pure.Pat) → as_pattern (pattern_ex p) ≡ p
  pattern-back (name_pat a) = refl
  pattern-back (tuple_pat ps) = ap tuple_pat (patterns-back ps)

  pub patterns-back : (ps : pure.Pats) → as_patterns (pattern_exs ps) ≡ ps
  patterns-back no_pats = refl
  patterns-back (more_pats p ps) = ap (λ q. more_pats q (as_patterns (pattern_exs ps))) (pattern-back p) ∙ ap (more_pats p) (patterns-back ps)

pub pattern_back : (p : Pat) → as_pattern (pattern_ex (pure_pat p)) ≡ pure_pat p
pattern_back p = pattern-back (pure_pat p)

-- ---- patterns of a row

pub pats_none : (before : pure.Exs) → back_pats [] before ≡ before
unfolding back_pats
pats_none before = refl

pub pats_push : (ps : List Pat) (p : Pat) (before : pure.Exs) → back_pats (ps ++ p ∷ []) before ≡ more_exs (pattern_ex (pure_pat p)) (back_pats ps before)
unfolding back_pats
pats_push ps p before = ap (λ xs. reverse_exs (exs_of xs) before) (map-push (λ q. pattern_ex (pure_pat q)) ps p) ∙ exs-push (view_pats ps) (pattern_ex (pure_pat p)) before

pub pats_closed : (ps : List Pat) → reverse_exs (back_pats ps no_exs) no_exs ≡ pats_in_order ps
unfolding back_pats pats_in_order
pats_closed ps = exs-closed (exs_of (view_pats ps)) no_exs

-- the last pattern and the whole list
pub pats_whole : (ps : List Pat) (p : Pat) → reverse_exs (back_pats ps no_exs) (more_exs (pattern_ex (pure_pat p)) no_exs) ≡ pats_in_order (ps ++ p ∷ [])
pats_whole ps p = sym (ap (λ xs. reverse_exs xs no_exs) (pats_push ps p no_exs)) ∙ pats_closed (ps ++ p ∷ [])

-- a row of the expressions that patterns are
pub pats_as_exs : (ps : List Pat) (es : List Ex) (before : pure.Exs) → map pure_ex es ≡ view_pats ps → back_exs es before ≡ back_pats ps before
unfolding back_exs back_pats
pats_as_exs ps es before h = ap (λ xs. reverse_exs (exs_of xs) before) h
