-- The forms of trees that rules of partitions ask for.
use Rattle.std.specs.Prelude.{true, false, Option, Some, None}
use Rattle.ess_semantics.specs.declared.words.Op1.{Op1}
use Rattle.ess_semantics.specs.declared.words.Fun.{Fun}
use Rattle.ess_semantics.specs.Trees.{word, set_literal, Ex, Exs, node_ex, ex1, fun1, no_exs, more_exs}

-- The member and the partition of which a term is the party.
abbrev pub a_party : Ex → Option (Ex × Ex)
a_party (node_ex false (word Fun.Party) (more_exs a (more_exs v no_exs))) = Some (a, v)
a_party e = None

-- The party of a member.
abbrev pub party_of : Ex → Ex → Ex
party_of a v = node_ex false (word Fun.Party) (more_exs a (more_exs v no_exs))

-- The container whose size a term is.
abbrev pub a_size : Ex → Option Ex
a_size (ex1 false Op1.Bar s) = Some s
a_size e = None

-- The partition whose parts a term is.
abbrev pub the_parts : Ex → Option Ex
the_parts (fun1 false Fun.Parts v) = Some v
the_parts e = None

-- The partition whose members a term is.
abbrev pub the_participants : Ex → Option Ex
the_participants (fun1 false Fun.Participants v) = Some v
the_participants e = None

-- The set and the partition, where a term says that the members of the set lie in one part.
abbrev pub a_together : Ex → Option (Ex × Ex)
a_together (node_ex true (word Fun.Together) (more_exs s (more_exs v no_exs))) = Some (s, v)
a_together e = None

-- That the members of a set lie in one part.
abbrev pub together_of : Ex → Ex → Ex
together_of s v = node_ex true (word Fun.Together) (more_exs s (more_exs v no_exs))

-- The items of a set that is written as a literal.
abbrev pub set_items : Ex → Option Exs
set_items (node_ex false set_literal es) = Some es
set_items e = None
