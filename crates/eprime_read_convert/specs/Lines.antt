-- What earlier lines declare, as a list of lines in their order: the newest line of a name counts.
use Rattle.std.specs.Prelude.{◌≡◌, List, map, reverse, filter}
use Rattle.std.specs.Option.{option_map}
use Rattle.std.specs.BTreeMap.{BTreeMap, get}
use Rattle.ess_semantics.specs.Lists.{is_some_and}
use Rattle.ess_semantics.specs.Values.{Text}
use Rattle.ess_semantics.specs.Order.{order_text}
use Rattle.ess_semantics.specs.Names.{look, is_among}
use Rattle.ess_grammar.specs.Models.{Scope}
use Rattle.eprime_read_convert.specs.declared.lines.Line.{Line}
use Rattle.eprime_read_convert.specs.declared.lines.Known.{Known}

-- The names that the lines declare, the newest first.
abbrev pub scope_of : List Line → Scope
scope_of ls = record { tables = map (λ l. (l.name, l.truth)) (reverse ls); finds = map (λ l. l.name) (filter (λ l. l.found) (reverse ls)) }

-- The map is an index of the lines: it says of each name what they declare.
pub record Indexes (ls : List Line) (m : BTreeMap Text Known) : Type 0 where
  pub truths : (a : Text) → option_map (λ d. d.truth) (get order_text m a) ≡ look (scope_of ls).tables a
  pub finds : (a : Text) → is_some_and (get order_text m a) (λ d. d.found) ≡ is_among (scope_of ls).finds a
