-- What the numbers and names of a tree have, those of what a rule makes of it have, where 0, 1 and 2 and the new name have it.
use Rattle.std.proofs.Common.{◌≡◌, Bool, true, List, [], ◌∷◌, ℤ, pos}
use Rattle.std.specs.Prelude.{IsTrue}
use Rattle.ess_semantics.specs.declared.words.Fun.{Fun}
use Rattle.ess_semantics.specs.Values.{Text}
use Rattle.ess_semantics.specs.Trees.{Ex, name_ex, comp_ex, no_exs, more_exs, Gens, cond, fun1, set_dom}
use Rattle.ess_semantics.specs.Substitution.{substitute, substitute_gens, for_name}
use Rattle.ess_repr_declare_laws.specs.SizeTerms.{slots_ex}
use Rattle.ess_rules_laws.specs.SpliceRules.{append_gens}
use Rattle.ess_rules_laws.specs.SlotListings.{slots_dom}
use Rattle.ess_rules_laws.specs.Listings.{Alternative}
use Rattle.ess_rules_laws.specs.ListedSources.{each_put}
use Rattle.ess_seen_names_laws.specs.Shapes.{Laid, that_occur, but_the_dummy, in_all_slots, up_to_the_marker, where_flagged, Drawn, of_the_first, else_of_the_second, of_both, of_the_first_alone, Offered, by_a_view, by_two, AllOffered, Shape, one_item, one_binding, implied, both, size, member, different, turned_round, turned_strictly, strictly_included, equal, included, in_a_union, in_both, in_the_first_alone, chosen_twice, chosen_once, leaving, cell_of, flag_of, marker_of, slots_of, in_a_list, alone, opened, nested}
use Rattle.ess_seen_names_laws.proofs.Has.{Has, AllHave, GensHave, DomHas, put-has, put-gens, for-has, append-have, parts-have, last-has, append-all}
use Rattle.ess_seen_names_laws.proofs.ConditionsHave.{under-has}
use Rattle.ess_seen_names_laws.proofs.SizeTerms.{Term, one, two, slots-term, dummy-term}

module _ (q : ℤ → Bool) (u : Text → Bool) where
  -- A term of such numerals.
  term-has : {e : Ex} → Term q e → Has q u e
  term-has (one h) = h
  term-has (two h k) = (term-has h, (term-has k, tt))

  module _ (q0 : q (pos 0) ≡ true) (q1 : q (pos 1) ≡ true) (q2 : q (pos 2) ≡ true) (x : Text) (ux : IsTrue (u x)) where
    slots-have : (n : Ex) → Term q n → DomHas q u (slots_dom n)
    slots-have n h = (q1, (term-has h, tt))

    -- What a view offers.
    laid-has : {t : Ex} {a : Alternative} → Laid x t a → Has q u t → GensHave q u a.gens × Has q u a.item
    laid-has (that_occur {js = js} s w i) h = ((ux, h.0.1, (last-has q u js (name_ex x) h.1 ux, tt)), ux)
    laid-has (but_the_dummy {ms = ms} {es = es} {js = js} {d = d} s w i) h =
        let k = last-has q u js (name_ex x) h.1 ux in (
          (
            ux,
            slots-have (slots_ex (set_dom ms es d)) (slots-term q u q0 q1 q2 ms es d s w h.0),
            ((k, (term-has (dummy-term q u q0 q1 q2 w h.0.1), tt)), tt),
          ),
          (h.0.1, k),
        )
    laid-has (in_all_slots {ms = ms} {es = es} {js = js} {d = d} s w i) h = (
      (ux, slots-have (slots_ex (set_dom ms es d)) (slots-term q u q0 q1 q2 ms es d s w h.0), tt),
      (h.0.1, last-has q u js (name_ex x) h.1 ux),
    )
    laid-has (up_to_the_marker {ms = ms} {es = es} {js = js} {d = d} s w i) h = (
      (ux, slots-have (slots_ex (set_dom ms es d)) (slots-term q u q0 q1 q2 ms es d s w h.0), ((ux, (h.1, tt)), tt)),
      (h.0.1, last-has q u js (name_ex x) h.1 ux),
    )
    laid-has (where_flagged {ms = ms} {es = es} {js = js} {d = d} s w i) h =
        let k = last-has q u js (name_ex x) h.1 ux in (
          (ux, slots-have (slots_ex (set_dom ms es d)) (slots-term q u q0 q1 q2 ms es d s w h.0), (k, tt)),
          (h.0.1, k),
        )

    -- What a set made of two offers, and what any source does.
    drawn-has : {t : Ex} {a : Alternative} → Drawn x t a → Has q u t → GensHave q u a.gens × Has q u a.item
    drawn-has of_the_first h = ((ux, h.0, tt), ux)
    drawn-has else_of_the_second h = ((ux, h.1.0, (((ux, (h.0, tt)), tt), tt)), ux)
    drawn-has of_both h = ((ux, h.0, ((ux, (h.1.0, tt)), tt)), ux)
    drawn-has of_the_first_alone h = ((ux, h.0, (((ux, (h.1.0, tt)), tt), tt)), ux)

    offered-has : {t : Ex} {a : Alternative} → Offered x t a → Has q u t → GensHave q u a.gens × Has q u a.item
    offered-has (by_a_view l) h = laid-has l h
    offered-has (by_two l) h = drawn-has l h

    -- An item in the place of a name.
    put-in : (y : Text) (w i : Ex) (ks hs : Gens) → Has q u w → GensHave q u ks → Has q u i → GensHave q u hs →
        Has q u (comp_ex (substitute (for_name y w) i) (append_gens ks (substitute_gens (for_name y w) hs)))
    put-in y w i ks hs k l h j =
        let f = for-has q u y w k in (
          put-has q u (for_name y w) f i h,
          append-have q u ks (substitute_gens (for_name y w) hs) l (put-gens q u (for_name y w) f hs j),
        )

    -- The folds over all alternatives.
    each-has : (m : Bool) (w : Fun) (y : Text) (i t : Ex) (hs : Gens) (l : List Alternative) → AllOffered x t l → Has q u t →
        Has q u i → GensHave q u hs → AllHave q u (each_put m w y i hs l)
    each-has m w y i t hs [] o h j k = tt
    each-has m w y i t hs (a ∷ l) o h j k =
        let z = offered-has o.0 h in ((put-in y a.item i a.gens hs z.1 z.0 j k, tt), each-has m w y i t hs l o.1 h j k)

    -- What a rule makes.
    pub shape-has : {e f : Ex} → Shape x e f → Has q u e → Has q u f
    shape-has one_item h = h.0.0
    shape-has one_binding h = h.0.0
    shape-has implied h = (h.0.1.0, (h.0.0, tt))
    shape-has both h = (h.0.1.0, (h.0.0, tt))
    shape-has size h = ((q1, (ux, h.0, tt)), tt)
    shape-has member h = (((ux, (h.0, tt)), (ux, h.1.0, tt)), tt)
    shape-has different h = ((h.0, (h.1.0, tt)), tt)
    shape-has turned_round h = (h.1.0, (h.0, tt))
    shape-has turned_strictly h = (h.1.0, (h.0, tt))
    shape-has strictly_included h = ((h.0, (h.1.0, tt)), (((h.1.0, (h.0, tt)), tt), tt))
    shape-has equal h = ((((ux, (h.1.0, tt)), (ux, h.0, tt)), tt), ((((ux, (h.0, tt)), (ux, h.1.0, tt)), tt), tt))
    shape-has included h = (((ux, (h.1.0, tt)), (ux, h.0, tt)), tt)
    shape-has in_a_union h = ((h.0, (h.1.0.0, tt)), ((h.0, (h.1.0.1.0, tt)), tt))
    shape-has in_both h = ((h.0, (h.1.0.0, tt)), ((h.0, (h.1.0.1.0, tt)), tt))
    shape-has in_the_first_alone h = ((h.0, (h.1.0.0, tt)), (((h.0, (h.1.0.1.0, tt)), tt), tt))
    shape-has chosen_twice h = ((h.0.0, (h.1.0.0, tt)), tt)
    shape-has chosen_once h = h.0
    shape-has (leaving {m = m} {w = w} {i = i} before c after) h =
        let k = parts-have q u before (cond c after) h.0.1 in
        ((under-has q u q0 q1 w c (fun1 m w (comp_ex i after)) k.1.0 ((h.0.0, k.1.1), tt), k.0), tt)
    shape-has (cell_of i) h = h.1
    shape-has (flag_of {js = js} {a = a} i) h = append-all q u js (more_exs a no_exs) h.1.0.1 (h.0, tt)
    shape-has (marker_of i) h = h.0.1
    shape-has (slots_of {ms = ms} {es = es} {d = d} s w) h = term-has (slots-term q u q0 q1 q2 ms es d s w h.0.0)
    shape-has (in_a_list {m = m} {w = w} {i = i} {t = t} y hs l o) h = (each-has m w y i t hs l o h.0.1.1 h.0.0 h.0.1.2, tt)
    shape-has (alone {i = i} {a = a} y hs l) h =
        let k = offered-has l h.0.1.1 in (put-in y a.item i a.gens hs k.1 k.0 h.0.0 h.0.1.2, tt)
    shape-has (opened {i = i} {a = a} before y hs l) h =
        let p = parts-have q u before _ h.0.1 in
        let k = offered-has l p.1.1 in
        let z = put-in y a.item i a.gens hs k.1 k.0 h.0.0 p.1.2 in
        ((z.0, append-have q u before _ p.0 z.1), tt)
    shape-has (nested before hs) h =
        let p = parts-have q u before hs h.0.1 in ((((h.0.0, p.1), tt), p.0), tt)
