-- What views of multisets offer: how often each member of the inner domain is there, slots up to a marker in which equal members may
-- stand, and slots with how often the member of each is there. n says how many slots there are, o how often a member may be there.
use Rattle.std.specs.Prelude.{true, false, [], ◌∷◌, Option, Some, None, pos}
use Rattle.ess_semantics.specs.declared.words.Op1.{Op1}
use Rattle.ess_semantics.specs.declared.words.Op2.{Op2}
use Rattle.ess_semantics.specs.declared.words.Fun.{Fun}
use Rattle.ess_semantics.specs.declared.words.ReprKind.{ReprKind}
use Rattle.ess_semantics.specs.Values.{Text}
use Rattle.ess_semantics.specs.Trees.{repr, no_reprs, more_reprs, word, name_pat, Ex, Exs, number_ex, name_ex, node_ex, comp_ex, cell_ex, seen_ex, no_exs, more_exs, ex1, ex2, fun1, no_gens, over, cond, mset_dom}
use Rattle.ess_rules_laws.specs.Listings.{Alternative}
use Rattle.ess_rules_laws.specs.SetListings.{put_last}
use Rattle.ess_rules_laws.specs.SlotListings.{slots_dom}

-- The number of the table t at x.
abbrev pub number_at : Text → Exs → Text → Ex
number_at t js x = cell_ex false t (put_last js (name_ex x))

-- ---- listings

-- Each member of the inner domain as often as its number says: x over the domain, y over the numbers up to that of x.
abbrev pub occurrence_members : Text → Text → Ex → Ex → Option Alternative
occurrence_members x y o (seen_ex (repr ReprKind.MSetOccurrence no_reprs) (mset_dom ms es d) (t ∷ []) js) =
    Some (record {
      gens = over (name_pat x) d (over (name_pat y) (slots_dom o) (cond (ex2 true Op2.Le (name_ex y) (number_at t js x)) no_gens));
      item = name_ex x;
    })
occurrence_members x y o e = None

-- The views in the slots up to the marker.
abbrev pub repetition_members : Text → Ex → Ex → Option Alternative
repetition_members x n (seen_ex (repr ReprKind.MSetExplicitWithRepetition (more_reprs r no_reprs)) (mset_dom ms es d) (m ∷ ns) js) =
    Some (record {
      gens = over (name_pat x) (slots_dom n) (cond (ex2 true Op2.Le (name_ex x) (cell_ex false m js)) no_gens);
      item = seen_ex r d ns (put_last js (name_ex x));
    })
repetition_members x n e = None

-- The view in each slot as often as the slot's number says: x over the slots, y over the numbers up to that of x.
abbrev pub counted_members : Text → Text → Ex → Ex → Ex → Option Alternative
counted_members x y n o (seen_ex (repr ReprKind.MSetExplicitWithFlags (more_reprs r no_reprs)) (mset_dom ms es d) (t ∷ ns) js) =
    Some (record {
      gens = over (name_pat x) (slots_dom n) (over (name_pat y) (slots_dom o)
          (cond (ex2 true Op2.Le (name_ex y) (number_at t js x)) no_gens));
      item = seen_ex r d ns (put_last js (name_ex x));
    })
counted_members x y n o e = None

-- ---- each member once

-- That the number at x is above 0.
abbrev pub is_there : Text → Exs → Text → Ex
is_there t js x = ex2 true Op2.Gt (number_at t js x) (number_ex (pos 0))

-- `toSet(v)`: each member of the inner domain that is there, or the view in each slot whose number is above 0.
abbrev pub members_once : Text → Ex → Ex → Option Alternative
members_once x n (fun1 false Fun.ToSet (seen_ex (repr ReprKind.MSetOccurrence no_reprs) (mset_dom ms es d) (t ∷ []) js)) =
    Some (record { gens = over (name_pat x) d (cond (is_there t js x) no_gens); item = name_ex x })
members_once x n (fun1 false Fun.ToSet
    (seen_ex (repr ReprKind.MSetExplicitWithFlags (more_reprs r no_reprs)) (mset_dom ms es d) (t ∷ ns) js)) =
    Some (record {
      gens = over (name_pat x) (slots_dom n) (cond (is_there t js x) no_gens);
      item = seen_ex r d ns (put_last js (name_ex x));
    })
members_once x n e = None

-- ---- sizes, frequencies, membership

-- `|v|` is the sum of the numbers, or the marker.
abbrev pub multiset_size : Text → Ex → Ex → Option Ex
multiset_size x n (ex1 false Op1.Bar (seen_ex (repr ReprKind.MSetOccurrence no_reprs) (mset_dom ms es d) (t ∷ []) js)) =
    Some (fun1 false Fun.Sum (comp_ex (number_at t js x) (over (name_pat x) d no_gens)))
multiset_size x n (ex1 false Op1.Bar
    (seen_ex (repr ReprKind.MSetExplicitWithRepetition (more_reprs r no_reprs)) (mset_dom ms es d) (m ∷ ns) js)) =
    Some (cell_ex false m js)
multiset_size x n (ex1 false Op1.Bar
    (seen_ex (repr ReprKind.MSetExplicitWithFlags (more_reprs r no_reprs)) (mset_dom ms es d) (t ∷ ns) js)) =
    Some (fun1 false Fun.Sum (comp_ex (number_at t js x) (over (name_pat x) (slots_dom n) no_gens)))
multiset_size x n e = None

-- `freq(v, a)` is the sum of the numbers at the members that are a; of slots, of those in use whose view is a.
abbrev pub multiset_frequency : Text → Ex → Ex → Option Ex
multiset_frequency x n (node_ex false (word Fun.Freq)
    (more_exs (seen_ex (repr ReprKind.MSetOccurrence no_reprs) (mset_dom ms es d) (t ∷ []) js) (more_exs a no_exs))) =
    Some (fun1 false Fun.Sum (comp_ex (number_at t js x) (over (name_pat x) d (cond (ex2 true Op2.Eq (name_ex x) a) no_gens))))
multiset_frequency x n (node_ex false (word Fun.Freq)
    (more_exs (seen_ex (repr ReprKind.MSetExplicitWithFlags (more_reprs r no_reprs)) (mset_dom ms es d) (t ∷ ns) js)
    (more_exs a no_exs))) =
    Some (fun1 false Fun.Sum (comp_ex (number_at t js x) (over (name_pat x) (slots_dom n) (cond (is_there t js x)
    (cond (ex2 true Op2.Eq a (seen_ex r d ns (put_last js (name_ex x)))) no_gens)))))
multiset_frequency x n e = None

-- `a in v` where the members are numbered: one that is a is there.
abbrev pub multiset_member : Text → Ex → Option Ex
multiset_member x (ex2 true Op2.Member a (seen_ex (repr ReprKind.MSetOccurrence no_reprs) (mset_dom ms es d) (t ∷ []) js)) =
    Some (fun1 true Fun.Or (comp_ex (is_there t js x) (over (name_pat x) d (cond (ex2 true Op2.Eq (name_ex x) a) no_gens))))
multiset_member x e = None
