-- Marks of judged expressions: once they are resolved each node has a type and the right mark, and each source has members.
use Rattle.std.specs.Prelude.{◌≡◌, true}
use Rattle.ess_semantics.specs.Trees.{Ex}
use Rattle.ess_semantics.specs.Scopes.{Scope, every}
use Rattle.ess_semantics.specs.Resolving.{resolve}
use Rattle.ess_types_laws.specs.SoundParts.{sound_parts}
use Rattle.ess_refine_laws.specs.MarksStay.{HasMarks}

-- A judged expression has them, also where it has cells and views.
abbrev pub JudgedTreesHaveMarks : Type 0
JudgedTreesHaveMarks = (e : Ex) (s : Scope) → every sound_parts e s ≡ true → HasMarks (resolve e s.tys) s.tys
