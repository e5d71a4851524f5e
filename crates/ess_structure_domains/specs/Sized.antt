-- Attributes with a number, as far as the number is there.
use Rattle.std.specs.Prelude.{List, [], ◌∷◌, ◌++◌, Option, Some, None}
use Rattle.ess_semantics.specs.declared.words.Key.{Key}
use Rattle.ess_semantics.specs.Trees.{Mark, valued, Ex}

-- The mark of an attribute.
abbrev pub marks_with : Key → Option Ex → List Mark
marks_with k None = []
marks_with k (Some e) = valued k ∷ []

-- Its number.
abbrev pub numbers_with : Option Ex → List Ex
numbers_with None = []
numbers_with (Some e) = e ∷ []

-- The marks of `size`, `minSize` and `maxSize`.
abbrev pub size_marks_with : Option Ex → Option Ex → Option Ex → List Mark
size_marks_with s a b = (marks_with Key.Size s ++ marks_with Key.MinSize a) ++ marks_with Key.MaxSize b

-- Their numbers.
abbrev pub size_numbers_with : Option Ex → Option Ex → Option Ex → List Ex
size_numbers_with s a b = (numbers_with s ++ numbers_with a) ++ numbers_with b
