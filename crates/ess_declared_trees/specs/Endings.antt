-- Children by what stands between the names and by their domains, without the numbers of axes.
use Rattle.std.specs.Prelude.{ℕ, zero, suc, Bool, List, [], ◌∷◌, ◌++◌, map, codes, decimal}
use Rattle.ess_semantics.specs.Lists.{zip}
use Rattle.ess_semantics.specs.Values.{Text}
use Rattle.ess_semantics.specs.TableNames.{Named}
use Rattle.ess_semantics.specs.Trees.{Reprs, Dom}
use Rattle.ess_semantics.specs.DeclaredTables.{TableDecl}
use Rattle.ess_repr_declare_laws.specs.DeclaredTrees.{trees_of_children}

-- The numbers from k on, so many, each behind `_`.
abbrev pub numbered_from : ℕ → ℕ → List Text
numbered_from k zero = []
numbered_from k (suc n) = (codes "_" ++ decimal k) ∷ numbered_from (suc k) n

-- The same from 1 on.
abbrev pub numbered : ℕ → List Text
numbered n = numbered_from 1 n

-- The names of fields, each behind `_`.
abbrev pub field_endings : List Text → List Named
field_endings fs = map (λ f. (codes "_" ++ f, 0)) fs

-- What stands between the names, as if no axes came with it.
abbrev pub ending : Text → Named
ending n = (n, 0)

-- The tables of children with these names and domains, behind a layer's axes.
abbrev pub trees_from : Bool → Reprs → List Text → List Dom → List Dom → List TableDecl
trees_from out rs ns ds as' = trees_of_children out rs (zip (map ending ns) ds) as'
