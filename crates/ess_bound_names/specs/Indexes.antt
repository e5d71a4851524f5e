-- What the ordered set of a list of names has.
use Rattle.std.specs.Prelude.{◌≡◌, List}
use Rattle.std.specs.BTreeSet.{BTreeSet, contains}
use Rattle.ess_semantics.specs.Values.{Text}
use Rattle.ess_semantics.specs.Order.{order_text}
use Rattle.ess_semantics.specs.Names.{is_among}

-- The set has exactly the names of the list.
abbrev pub HasNames : List Text → BTreeSet Text → Type 0
HasNames ns s = (a : Text) → contains order_text s a ≡ is_among ns a
