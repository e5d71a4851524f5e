-- One tree more in front of those that are still to be made, and all in front of none.
use Rattle.std.proofs.Common.{◌≡◌, refl, ap, List, [], ◌∷◌, ◌++◌}
use Rattle.ess_semantics.specs.Trees.{Pat, Pats, no_pats, more_pats, Ex, Exs, no_exs, more_exs, Dom, Doms, no_doms, more_doms}
use Rattle.ess_semantics.specs.Kinds.{doms_of}
use Rattle.ess_core.specs.TreeViews.{pats_of, exs_of}
use Rattle.ess_model_names.specs.Before.{pats_before, exs_before, doms_before}

pub pats_pushed : (ps : List Pat) (p : Pat) (qs : Pats) → pats_before (ps ++ p ∷ []) qs ≡ pats_before ps (more_pats p qs)
pats_pushed [] p qs = refl
pats_pushed (x ∷ ps) p qs = ap (λ l. more_pats x l) (pats_pushed ps p qs)

pub pats_all : (ps : List Pat) → pats_before ps no_pats ≡ pats_of ps
pats_all [] = refl
pats_all (x ∷ ps) = ap (λ l. more_pats x l) (pats_all ps)

pub exs_pushed : (es : List Ex) (e : Ex) (fs : Exs) → exs_before (es ++ e ∷ []) fs ≡ exs_before es (more_exs e fs)
exs_pushed [] e fs = refl
exs_pushed (x ∷ es) e fs = ap (λ l. more_exs x l) (exs_pushed es e fs)

pub exs_all : (es : List Ex) → exs_before es no_exs ≡ exs_of es
exs_all [] = refl
exs_all (x ∷ es) = ap (λ l. more_exs x l) (exs_all es)

pub doms_pushed : (ds : List Dom) (d : Dom) (cs : Doms) → doms_before (ds ++ d ∷ []) cs ≡ doms_before ds (more_doms d cs)
doms_pushed [] d cs = refl
doms_pushed (x ∷ ds) d cs = ap (λ l. more_doms x l) (doms_pushed ds d cs)

pub doms_all : (ds : List Dom) → doms_before ds no_doms ≡ doms_of ds
doms_all [] = refl
doms_all (x ∷ ds) = ap (λ l. more_doms x l) (doms_all ds)
