-- Trees that are made already, in front of those that are still to be made.
use Rattle.std.specs.Prelude.{List, [], ◌∷◌}
use Rattle.ess_semantics.specs.Trees.{Pat, Pats, more_pats, Ex, Exs, more_exs, Dom, Doms, more_doms}

-- Patterns in front of others.
abbrev pub pats_before : List Pat → Pats → Pats
pats_before [] qs = qs
pats_before (p ∷ ps) qs = more_pats p (pats_before ps qs)

-- Operands in front of others.
abbrev pub exs_before : List Ex → Exs → Exs
exs_before [] fs = fs
exs_before (e ∷ es) fs = more_exs e (exs_before es fs)

-- Domains in front of others.
abbrev pub doms_before : List Dom → Doms → Doms
doms_before [] cs = cs
doms_before (d ∷ ds) cs = more_doms d (doms_before ds cs)
