-- Parts of partitions, by the member and the partition.
use Rattle.std.specs.Prelude.{true, false, Option, Some, None}
use Rattle.ess_semantics.specs.declared.words.Op2.{Op2}
use Rattle.ess_semantics.specs.declared.words.Fun.{Fun}
use Rattle.ess_semantics.specs.Values.{Text}
use Rattle.ess_semantics.specs.Trees.{word, name_pat, Ex, name_ex, node_ex, comp_ex, no_exs, more_exs, no_gens, from, cond, ex2, fun1}

-- The member and the partition of `party(a, p)`.
abbrev pub a_party : Ex → Option (Ex × Ex)
a_party (node_ex b (word Fun.Party) (more_exs a (more_exs p no_exs))) = Some (a, p)
a_party e = None

-- The part x of p with a in it.
abbrev pub part_with : Text → Ex → Ex → Ex
part_with x a p =
    comp_ex (name_ex x) (from (name_pat x) (fun1 false Fun.Parts p) (cond (ex2 true Op2.Member a (name_ex x)) no_gens))
