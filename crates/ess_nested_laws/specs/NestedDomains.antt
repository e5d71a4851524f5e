-- Domains of sets of any nesting over truth values and written numbers, with sizes that are written.
use Rattle.std.specs.Prelude.{ℕ, zero, suc, Bool, true, false, ◌&&◌, ◌||◌, List, [], ◌∷◌, pos}
use Rattle.ess_semantics.specs.declared.words.Key.{Key}
use Rattle.ess_semantics.specs.DomainJudgements.{marks_distinct}
use Rattle.ess_semantics.specs.Trees.{both_ends, Mark, valued, Exs, number_ex, no_exs, more_exs, Dom, bool_dom, int_dom, set_dom}

-- Whether the attribute says how many members a set has.
abbrev pub is_size_key : Key → Bool
is_size_key Key.Size = true
is_size_key Key.MinSize = true
is_size_key Key.MaxSize = true
is_size_key k = false

-- Whether the attributes are such, with numbers that are written.
abbrev pub are_written_sizes : List Mark → Exs → Bool
are_written_sizes [] no_exs = true
are_written_sizes (valued k ∷ ms) (more_exs (number_ex (pos n)) es) = is_size_key k && are_written_sizes ms es
are_written_sizes ms es = false

-- Whether it is the domain of truth values, or of the numbers between two that are written. No text writes one below 0 as a number alone.
abbrev pub is_written_atom : Dom → Bool
is_written_atom bool_dom = true
is_written_atom (int_dom (both_ends ∷ []) (more_exs (number_ex (pos a)) (more_exs (number_ex (pos b)) no_exs))) = true
is_written_atom d = false

-- Whether it is the domain of sets of these, or of sets of such sets, nested so deep at most. No attribute stands there twice.
abbrev pub is_nested_within : ℕ → Dom → Bool
is_nested_within zero d = false
is_nested_within (suc n) (set_dom ms es d) =
    marks_distinct ms && (are_written_sizes ms es && (is_written_atom d || is_nested_within n d))
is_nested_within n d = false

-- The same of sets as deep as those of texts are: no text is read that is nested deeper than 250.
abbrev pub is_nested_dom : Dom → Bool
is_nested_dom d = is_nested_within 250 d
