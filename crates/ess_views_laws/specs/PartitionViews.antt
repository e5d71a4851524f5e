-- What a view of a partition offers that is kept by the number of each member's part. The table of these numbers is seen as a function
-- from the members to the numbers: a part has the members whose number is that of the part. n says how many members there are.
use Rattle.std.specs.Prelude.{true, false, [], ◌∷◌, Option, Some, None, pos}
use Rattle.ess_semantics.specs.declared.words.Op1.{Op1}
use Rattle.ess_semantics.specs.declared.words.Op2.{Op2}
use Rattle.ess_semantics.specs.declared.words.Fun.{Fun}
use Rattle.ess_semantics.specs.declared.words.Key.{Key}
use Rattle.ess_semantics.specs.declared.words.ReprKind.{ReprKind}
use Rattle.ess_semantics.specs.Values.{Text}
use Rattle.ess_semantics.specs.Trees.{flag, repr, no_reprs, more_reprs, word, set_literal, name_pat, Ex, Exs, number_ex, truth_ex, name_ex, node_ex, comp_ex, cell_ex, seen_ex, no_exs, more_exs, ex1, ex2, fun1, no_gens, over, from, cond, Dom, function_dom, partition_dom}
use Rattle.ess_rules_laws.specs.Listings.{Alternative}
use Rattle.ess_rules_laws.specs.SetListings.{put_last}
use Rattle.ess_rules_laws.specs.SlotListings.{slots_dom}

-- The table w as a function from the members of d to the numbers up to n.
abbrev pub numbering : Ex → Dom → Text → Exs → Ex
numbering n d w js =
    seen_ex (repr ReprKind.Function1D (more_reprs (repr ReprKind.Atom no_reprs) no_reprs))
    (function_dom (flag Key.Total ∷ []) no_exs d (slots_dom n)) (w ∷ []) js

-- The members with the number x.
abbrev pub part_numbered : Ex → Dom → Text → Exs → Text → Ex
part_numbered n d w js x = node_ex false (word Fun.PreImage) (more_exs (numbering n d w js) (more_exs (name_ex x) no_exs))

-- Its parts: x over the numbers of parts, and the members with the number x.
abbrev pub partition_parts : Text → Ex → Ex → Option Alternative
partition_parts x n (seen_ex (repr ReprKind.PartitionOccurrence no_reprs) (partition_dom ms es d) (m ∷ w ∷ []) js) =
    Some (record {
      gens = over (name_pat x) (slots_dom n) (cond (ex2 true Op2.Le (name_ex x) (cell_ex false m js)) no_gens);
      item = part_numbered n d w js x;
    })
partition_parts x n e = None

-- `party(a, v)` has the members with the number of a.
abbrev pub partition_party : Ex → Ex → Option Ex
partition_party n (node_ex false (word Fun.Party)
    (more_exs a (more_exs (seen_ex (repr ReprKind.PartitionOccurrence no_reprs) (partition_dom ms es d) (m ∷ w ∷ []) js) no_exs))) =
    Some (node_ex false (word Fun.PreImage) (more_exs (numbering n d w js) (more_exs (cell_ex false w (put_last js a)) no_exs)))
partition_party n e = None

-- `|parts(v)|` is the number of parts.
abbrev pub number_of_parts : Ex → Option Ex
number_of_parts (ex1 false Op1.Bar (fun1 false Fun.Parts
    (seen_ex (repr ReprKind.PartitionOccurrence no_reprs) (partition_dom ms es d) (m ∷ w ∷ []) js))) =
    Some (cell_ex false m js)
number_of_parts e = None

-- A member of d is a.
abbrev pub is_one_of : Text → Dom → Ex → Ex
is_one_of x d a = fun1 true Fun.Or (comp_ex (ex2 true Op2.Eq (name_ex x) a) (over (name_pat x) d no_gens))

-- `a in participants(v)`: a is a member of the inner domain.
abbrev pub is_participant : Text → Ex → Option Ex
is_participant x (ex2 true Op2.Member a (fun1 false Fun.Participants
    (seen_ex (repr ReprKind.PartitionOccurrence no_reprs) (partition_dom ms es d) ns js))) =
    Some (is_one_of x d a)
is_participant x e = None

-- The terms have the number of a.
abbrev pub have_number_of : Text → Exs → Ex → Exs → Ex
have_number_of w js a no_exs = truth_ex true
have_number_of w js a (more_exs b no_exs) = ex2 true Op2.Eq (cell_ex false w (put_last js a)) (cell_ex false w (put_last js b))
have_number_of w js a (more_exs b bs) =
    ex2 true Op2.And (ex2 true Op2.Eq (cell_ex false w (put_last js a)) (cell_ex false w (put_last js b))) (have_number_of w js a bs)

-- `together(s, v)`: the members of s lie in one part. Of a literal the numbers are the same; one term is a member, and of none there
-- is a part.
abbrev pub are_together : Text → Text → Ex → Ex → Option Ex
are_together x y n (node_ex true (word Fun.Together) (more_exs (node_ex false set_literal no_exs)
    (more_exs (seen_ex (repr ReprKind.PartitionOccurrence no_reprs) (partition_dom ms es d) (m ∷ w ∷ []) js) no_exs))) =
    Some (ex2 true Op2.Gt (cell_ex false m js) (number_ex (pos 0)))
are_together x y n (node_ex true (word Fun.Together) (more_exs (node_ex false set_literal (more_exs a no_exs))
    (more_exs (seen_ex (repr ReprKind.PartitionOccurrence no_reprs) (partition_dom ms es d) (m ∷ w ∷ []) js) no_exs))) =
    Some (is_one_of x d a)
are_together x y n (node_ex true (word Fun.Together) (more_exs (node_ex false set_literal (more_exs a (more_exs b bs)))
    (more_exs (seen_ex (repr ReprKind.PartitionOccurrence no_reprs) (partition_dom ms es d) (m ∷ w ∷ []) js) no_exs))) =
    Some (have_number_of w js a (more_exs b bs))
are_together x y n (node_ex true (word Fun.Together) (more_exs s
    (more_exs (seen_ex (repr ReprKind.PartitionOccurrence no_reprs) (partition_dom ms es d) (m ∷ w ∷ []) js) no_exs))) =
    Some (fun1 true Fun.Or (comp_ex
    (fun1 true Fun.And (comp_ex (ex2 true Op2.Eq (cell_ex false w (put_last js (name_ex y))) (name_ex x)) (from (name_pat y) s no_gens)))
    (over (name_pat x) (slots_dom n) (cond (ex2 true Op2.Le (name_ex x) (cell_ex false m js)) no_gens))))
are_together x y n e = None
