-- Lists of frames, which stand in reverse, and generators that several patterns share.
use Rattle.std.specs.Prelude.{List, [], ◌∷◌}
use Rattle.ess_semantics.specs.Trees.{Dom, Doms, Ex, Exs, Gens, cond, from, more_doms, more_exs, no_doms, no_exs, no_gens, over}
use Rattle.ess_grammar.specs.Patterns.{as_pattern}

-- The expressions of the first list in reverse, before those of the second.
abbrev pub reverse_exs : Exs → Exs → Exs
reverse_exs no_exs es = es
reverse_exs (more_exs a as') es = reverse_exs as' (more_exs a es)

-- The items of the first list in reverse, before those of the second.
abbrev pub reverse_list : {Atom : Type 0} → List Atom → List Atom → List Atom
reverse_list [] ys = ys
reverse_list (x ∷ xs) ys = reverse_list xs (x ∷ ys)

-- The domains of the first list in reverse, before those of the second.
abbrev pub reverse_doms : Doms → Doms → Doms
reverse_doms no_doms ds = ds
reverse_doms (more_doms c cs) ds = reverse_doms cs (more_doms c ds)

-- The items of the first list in reverse, before those of the second.
abbrev pub reverse_gens : Gens → Gens → Gens
reverse_gens no_gens gs = gs
reverse_gens (over p d hs) gs = reverse_gens hs (over p d gs)
reverse_gens (from p e hs) gs = reverse_gens hs (from p e gs)
reverse_gens (cond e hs) gs = reverse_gens hs (cond e gs)

-- Onto reversed items: one generator over the domain for each pattern.
abbrev pub push_all_over : Exs → Dom → Gens → Gens
push_all_over no_exs d acc = acc
push_all_over (more_exs p ps) d acc = push_all_over ps d (over (as_pattern p) d acc)

-- Onto reversed items: one generator over the value for each pattern.
abbrev pub push_all_from : Exs → Ex → Gens → Gens
push_all_from no_exs d acc = acc
push_all_from (more_exs p ps) d acc = push_all_from ps d (from (as_pattern p) d acc)

-- Onto reversed items: reversed expressions as conditions.
abbrev pub push_conditions : Exs → Gens → Gens
push_conditions no_exs acc = acc
push_conditions (more_exs e es) acc = cond e (push_conditions es acc)
