-- Views of partitions that are kept by the number of each member's part, by their parts, and what the rules make of these.
use Rattle.std.specs.Prelude.{true, false, [], ◌∷◌, Option, Some, None, pos}
use Rattle.ess_semantics.specs.declared.words.Op2.{Op2}
use Rattle.ess_semantics.specs.declared.words.Fun.{Fun}
use Rattle.ess_semantics.specs.declared.words.ReprKind.{ReprKind}
use Rattle.ess_semantics.specs.Values.{Text}
use Rattle.ess_semantics.specs.Trees.{repr, no_reprs, word, name_pat, Ex, Exs, number_ex, name_ex, node_ex, comp_ex, cell_ex, seen_ex}
use Rattle.ess_semantics.specs.Trees.{no_exs, more_exs, ex2, fun1, no_gens, over, from, cond, Dom, partition_dom}
use Rattle.ess_rules_laws.specs.SetListings.{put_last}
use Rattle.ess_rules_laws.specs.SlotListings.{slots_dom}
use Rattle.ess_views_laws.specs.PartitionViews.{numbering, is_one_of, have_number_of}
use Rattle.ess_rules_partitions.specs.Asked.{set_items}

-- The parts of such a view: the domain of the members, the table of how many parts there are, that of the number of each member's
-- part, and the index list.
pub record NumberedParts : Type 0 where
  pub members : Dom
  pub parts : Text
  pub numbers : Text
  pub at : Exs

-- They are there where the view has the form.
abbrev pub numbered : Ex → Option NumberedParts
numbered (seen_ex (repr ReprKind.PartitionOccurrence no_reprs) (partition_dom ms es d) (m ∷ w ∷ []) js) =
    Some (record { members = d; parts = m; numbers = w; at = js })
numbered e = None

-- The domain of the members, over any tables.
abbrev pub members_of : Ex → Option Dom
members_of (seen_ex (repr ReprKind.PartitionOccurrence no_reprs) (partition_dom ms es d) ns js) = Some d
members_of e = None

-- The same by the kind.
abbrev pub members_in : Option ReprKind → Dom → Option Dom
members_in (Some ReprKind.PartitionOccurrence) (partition_dom ms es d) = Some d
members_in k d = None

-- ---- what the rules make of them

-- The members with the number of a.
abbrev pub party_at : Ex → Ex → NumberedParts → Ex
party_at n a p = node_ex false (word Fun.PreImage)
    (more_exs (numbering n p.members p.numbers p.at) (more_exs (cell_ex false p.numbers (put_last p.at a)) no_exs))

-- How many parts there are.
abbrev pub count_at : NumberedParts → Ex
count_at p = cell_ex false p.parts p.at

-- The terms lie together.
abbrev pub listed_together : Text → Exs → NumberedParts → Ex
listed_together x no_exs p = ex2 true Op2.Gt (count_at p) (number_ex (pos 0))
listed_together x (more_exs a no_exs) p = is_one_of x p.members a
listed_together x (more_exs a bs) p = have_number_of p.numbers p.at a bs

-- The members of s have the number of some part.
abbrev pub in_one_part : Text → Text → Ex → Ex → NumberedParts → Ex
in_one_part x y n s p = fun1 true Fun.Or (comp_ex
    (fun1 true Fun.And (comp_ex
    (ex2 true Op2.Eq (cell_ex false p.numbers (put_last p.at (name_ex y))) (name_ex x)) (from (name_pat y) s no_gens)))
    (over (name_pat x) (slots_dom n) (cond (ex2 true Op2.Le (name_ex x) (cell_ex false p.parts p.at)) no_gens)))

-- The members of s lie together, by its items, where it is a literal.
abbrev pub by_items : Text → Text → Ex → Ex → NumberedParts → Option Exs → Ex
by_items x y n s p None = in_one_part x y n s p
by_items x y n s p (Some es) = listed_together x es p

-- The members of s lie together.
abbrev pub lie_together : Text → Text → Ex → Ex → NumberedParts → Ex
lie_together x y n s p = by_items x y n s p (set_items s)
