-- What the reader's lines say, and which names are known.
use Rattle.std.specs.Prelude.{◌≡◌, ℕ, List, map}
use Rattle.std.specs.Borrow.{Bor}
use Rattle.std.specs.BTreeSet.{BTreeSet, contains}
use Rattle.std.specs.Ordering.{nat_cmp}
use Rattle.std.specs.Cmp.Lexicographic.{slice_cmp}
use Rattle.conjure_cli_laws.specs.Words.{is_among}
use Rattle.conjure_cli_laws.specs.SmallGrammar.{Statement, find, such_that}
use Rattle.conjure_cli.specs.declared.line.Line.{Line}
use Rattle.conjure_cli.specs.declared.line.Line.TheVariants.{Find, SuchThat}

abbrev pub statement : Line → Statement
statement (Find name low high) = find name.now low high
statement (SuchThat number name) = such_that number name.now

abbrev pub statements : List Line → List Statement
statements lines = map statement lines

-- the set holds these names and no other
abbrev pub Holds : BTreeSet (Bor (List ℕ)) → List (List ℕ) → Type 0
Holds set names = (name : Bor (List ℕ)) → contains (λ x y. slice_cmp nat_cmp x.now y.now) set name ≡ is_among names name.now
