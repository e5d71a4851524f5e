-- The forms of trees that rules of multisets ask for, and what they are of views by their parts.
use Rattle.std.specs.Prelude.{false, Option, Some, None}
use Rattle.ess_semantics.specs.declared.words.Op1.{Op1}
use Rattle.ess_semantics.specs.declared.words.Fun.{Fun}
use Rattle.ess_semantics.specs.Values.{Text}
use Rattle.ess_semantics.specs.Trees.{word, Ex, node_ex, ex1, no_exs, more_exs}
use Rattle.ess_views_laws.specs.MultisetViews.{multiset_size, multiset_frequency}
use Rattle.ess_rules_kinds.specs.ViewParts.{LeafParts, NestedParts, leaf_view, nested_view}

-- The container whose size a term is.
abbrev pub a_size : Ex → Option Ex
a_size (ex1 false Op1.Bar v) = Some v
a_size e = None

-- The multiset and the member of which a term is the frequency.
abbrev pub a_frequency : Ex → Option (Ex × Ex)
a_frequency (node_ex false (word Fun.Freq) (more_exs v (more_exs a no_exs))) = Some (v, a)
a_frequency e = None

-- The frequency of a member.
abbrev pub frequency_of : Ex → Ex → Ex
frequency_of v a = node_ex false (word Fun.Freq) (more_exs v (more_exs a no_exs))

-- The size of a view over one table, or with one child.
abbrev pub size_of_parts : Text → Ex → Option LeafParts → Option NestedParts → Option Ex
size_of_parts x n (Some p) o = multiset_size x n (ex1 false Op1.Bar (leaf_view p))
size_of_parts x n None (Some p) = multiset_size x n (ex1 false Op1.Bar (nested_view p))
size_of_parts x n None None = None

-- The frequency of a member in such a view.
abbrev pub frequency_of_parts : Text → Ex → Ex → Option LeafParts → Option NestedParts → Option Ex
frequency_of_parts x n a (Some p) o = multiset_frequency x n (frequency_of (leaf_view p) a)
frequency_of_parts x n a None (Some p) = multiset_frequency x n (frequency_of (nested_view p) a)
frequency_of_parts x n a None None = None
