-- Where a chain of rules begins and ends: at a tree whose constants may be spelled, and at one whose numbers are, as models count them.
use Rattle.std.specs.Prelude.{◌≡◌, Bool, true, List, map, ℤ, pos}
use Rattle.std.specs.List.{list_all}
use Rattle.ess_semantics.specs.Lists.{append_all}
use Rattle.ess_semantics.specs.Names.{Names}
use Rattle.ess_semantics.specs.Trees.{Ex}
use Rattle.ess_semantics.specs.Types.{Ty}
use Rattle.ess_semantics.specs.Occurrences.{parts_of}
use Rattle.ess_semantics.specs.Constants.{constants_of_part, numbers_of_part}
use Rattle.ess_refine_laws.specs.Spelling.{Spells, SpelledRewriting}

-- The constants of a tree, as those of a specification: its numbers, and those from 1 to the number of items of each literal.
abbrev pub constants_of_tree : Ex → List ℤ
constants_of_tree e = append_all (map constants_of_part (parts_of e))

-- The numbers that a tree spells, as those of a model.
abbrev pub numbers_of_tree : Ex → List ℤ
numbers_of_tree e = append_all (map numbers_of_part (parts_of e))

-- A tree with these constants may spell its numbers, and one that may spells no others. So where rules spell no more at any part the last
-- tree spells constants of the first one, 0 and 1.
pub record SpellingBeginsAndEnds : Type 0 where
  pub begins : (q : ℤ → Bool) (m : Bool) (e : Ex) → list_all q (constants_of_tree e) ≡ true → Spells q m e
  pub ends : (q : ℤ → Bool) (m : Bool) (e : Ex) → Spells q m e → list_all q (numbers_of_tree e) ≡ true
  pub from_end_to_end : (q : ℤ → Bool) (g : Names Ty) (old new : Ex) → q (pos 0) ≡ true → q (pos 1) ≡ true →
      list_all q (constants_of_tree old) ≡ true → SpelledRewriting q g old new → list_all q (numbers_of_tree new) ≡ true
