-- What is entered, part by part.
use Rattle.std.specs.Prelude.{List, [], ◌∷◌, ◌++◌, length, pos}
use Rattle.ess_semantics.specs.Values.{Text}
use Rattle.ess_semantics.specs.Trees.{Ex, number_ex, Dom}
use Rattle.conjure_model_laws.specs.ToldApart.{told_dom}
use Rattle.conjure_model_laws.specs.Shown.{Shows, shown_dom, positions_from}

-- A domain over tables, with its bound names told apart.
abbrev pub domain_over : Dom → Shows → Dom
domain_over d sh = shown_dom sh (told_dom d [] sh.next).0

-- A given or find with its domain over tables.
abbrev pub with_domain : Text → Dom → Shows → Shows
with_domain x d sh = record sh { doms = (x, domain_over d sh) ∷ sh.doms; next = (told_dom d [] sh.next).1 }

-- A type with what stands for the number of its values.
abbrev pub with_number : Text → Ex → Shows → Shows
with_number t e sh = record sh { sizes = (t, e) ∷ sh.sizes }

-- An enumerated type with the positions of its values and their number.
abbrev pub with_values : Text → List Text → Shows → Shows
with_values t ns sh = record sh {
  first = positions_from 1 ns ++ sh.first;
  last = positions_from 1 ns ++ sh.last;
  sizes = (t, number_ex (pos (length ns))) ∷ sh.sizes;
}
