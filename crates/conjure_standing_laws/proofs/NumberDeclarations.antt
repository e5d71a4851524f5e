-- Declarations of tables whose bounds are terms of numerals stand, whatever marks tables have.
use Rattle.std.proofs.Common.{ℕ, Bool, List, Option}
use Rattle.ess_semantics.specs.Values.{Text}
use Rattle.ess_semantics.specs.Trees.{Ex, Exs, no_exs, more_exs, Dom}
use Rattle.ess_semantics.specs.DeclaredTables.{TableDecl}
use Rattle.conjure_laws.proofs.Lists.{each-map}
use Rattle.conjure_standing_laws.proofs.NumberTerms.{OfNumerals, AllOfNumerals}
use Rattle.conjure_standing_laws.proofs.NumberComes.{number-comes}
use Rattle.conjure_standing_laws.proofs.NumberTables.{NumberDom, truths, ranges, NumberTable, table-written}
use Rattle.conjure_standing_laws.proofs.DeclaredScopes.{HasMark}
use Rattle.conjure_standing_laws.proofs.StandingDeclarations.{BoundStands, AllStand, DomStands, truths as truths_stand, ranges as ranges_stand, TableStands, DeclStands}

module _ (cells : Text → Option Bool) (taken : List Text) (k : ℕ) where
  -- Something comes of such a bound.
  pub number-stands : (e : Ex) → OfNumerals e → BoundStands cells taken k e
  number-stands e w = record { comes = λ s m v. number-comes s taken k e w v }

  numbers-stand : (es : Exs) → AllOfNumerals es → AllStand cells taken k es
  numbers-stand no_exs w = tt
  numbers-stand (more_exs e es) w = (number-stands e w.0, numbers-stand es w.1)

  dom-stands : (d : Dom) → NumberDom d → DomStands cells taken k d
  dom-stands d truths = truths_stand
  dom-stands d (ranges {es = es} f w) = ranges_stand f (numbers-stand es w)

  table-stands : (t : TableDecl) → NumberTable t → TableStands cells taken k t
  table-stands t w = record {
    axes = each-map t.axes NumberDom (DomStands cells taken k) dom-stands w.axes;
    cell = dom-stands t.cell w.cell;
  }

  -- So the declaration of such a table stands, where it has its mark.
  pub decl-stands : (t : TableDecl) → NumberTable t → HasMark cells t → DeclStands cells taken k t
  decl-stands t w m = record { table = table-stands t w; same = λ s u v. table-written s taken k t u w v; mark = m }
