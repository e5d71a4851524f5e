-- What the model at its place is worth: where the work is done, it stands for the specification that was read.
use Rattle.std.specs.Prelude.{◌≡◌, ℕ, ◌⊎◌, List, Option, Some}
use Rattle.ess_io.specs.Trees.{with_file}
use Rattle.conjure_standing_laws.specs.Standing.{StandsForListed}
use Rattle.conjure_standing_laws.specs.MemberTexts.{IsMemberText}
use Rattle.conjure_standing_laws.specs.MixedTexts.{IsMixedText}
use Rattle.conjure_cli.specs.Seen.{FilesSeen, ReadGives}
use Rattle.conjure_cli.specs.Whole.{IsSmallWay, IsModelFor}
use Rattle.conjure_cli.specs.Tasks.{Task, refine}

-- The text is of a class of which it is proved that its model is right: a text of the small grammar without a list of representations; or,
-- with or without a list, a specification of scalars and sets side by side (`is_mixed_specification`): its givens are truth values or
-- numbers, its finds these, or sets of numbers of a range, of truth values or of values of a type, each kept by which members occur, or
-- sets of any nesting over numbers and truth values, with sizes, each kept in one representation; its conditions and objective are flat
-- and total over the scalars; and so are its constraints, or these are truth values over scalars, ranges, and sizes and members of sets of
-- any nesting, or say that a value is in a find that is kept by which members occur; or, with or without a list, a specification of such
-- sets and memberships alone (`spec`).
abbrev pub IsProvedClass : Option (List ℕ) → List ℕ → Type 0
IsProvedClass list text = IsSmallWay list text ⊎ (IsMixedText list text ⊎ IsMemberText list text)

-- Where a file of these classes is refined and the tree is told, the place holds a text that is a model with its header by the rules: for the
-- specification that the file's text is by the rules, with the representations that the list names and else the defaults, it is a right
-- model (`Models`), and each solution has exactly one satisfying assignment (`IsExact`).
abbrev pub ModelStands : Option Task → FilesSeen → FilesSeen → Type 0
ModelStands (Some (refine file place list)) before after = ReadGives before.tree file (λ text. IsProvedClass list text →
    (model : List ℕ) × StandsForListed list text model × (after.tree ≡ with_file before.tree place model))
ModelStands _ before after = Unit {0}

-- Where any file is refined and the tree is told, the place holds the model of its text.
abbrev pub ModelIsThere : Option Task → FilesSeen → FilesSeen → Type 0
ModelIsThere (Some (refine file place list)) before after = ReadGives before.tree file (λ text.
    (model : List ℕ) × IsModelFor list text model × (after.tree ≡ with_file before.tree place model))
ModelIsThere _ before after = Unit {0}
