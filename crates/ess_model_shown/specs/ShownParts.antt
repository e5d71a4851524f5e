-- The right operand of `in`, where it is a name.
use Rattle.std.specs.Prelude.{Option, Some, None}
use Rattle.ess_semantics.specs.declared.words.Op2.{Op2}
use Rattle.ess_semantics.specs.Values.{Text}
use Rattle.ess_semantics.specs.Names.{Names}
use Rattle.ess_semantics.specs.Trees.{Op, binary, Ex, Exs, name_ex, no_exs, more_exs}
use Rattle.ess_core.specs.TreeViews.{Item, over_item, from_item, cond_item}
use Rattle.conjure_model_laws.specs.Shown.{Shows, in_place, shown, shown_dom}

-- The second of two operands, where it is a name.
abbrev pub second_name : Exs → Option Text
second_name (more_exs e (more_exs (name_ex a) no_exs)) = Some a
second_name es = None

-- The name that is the right operand of `in`.
abbrev pub member_name : Op → Exs → Option Text
member_name (binary Op2.Member) es = second_name es
member_name op es = None

-- Operands, where what stands for a name comes behind the first.
abbrev pub with_last : Names Ex → Option Text → Exs → Exs
with_last vs None es = es
with_last vs (Some a) no_exs = more_exs (in_place vs a) no_exs
with_last vs (Some a) (more_exs e es) = more_exs e (more_exs (in_place vs a) no_exs)

-- A generator or condition over tables.
abbrev pub shown_item : Shows → Item → Item
shown_item sh (over_item p d) = over_item p (shown_dom sh d)
shown_item sh (from_item p e) = from_item p (shown sh e)
shown_item sh (cond_item e) = cond_item (shown sh e)
