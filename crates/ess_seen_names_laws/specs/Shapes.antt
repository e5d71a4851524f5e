-- What rules make of trees over views of nested sets, rule by rule, with a new name x: cells of atoms, folds over what a view or a set made
-- of two offers, signs between sets by their members, short forms of `in` and of `|..|`, folds over one item or none, and conditions that
-- leave.
use Rattle.std.specs.Prelude.{Bool, true, false, List, [], ◌∷◌, ℤ, pos}
use Rattle.ess_semantics.specs.declared.words.Op1.{Op1}
use Rattle.ess_semantics.specs.declared.words.Op2.{Op2}
use Rattle.ess_semantics.specs.declared.words.Fun.{Fun}
use Rattle.ess_semantics.specs.declared.words.ReprKind.{ReprKind}
use Rattle.ess_semantics.specs.Values.{Text}
use Rattle.ess_semantics.specs.Trees.{both_ends, Mark, Repr, repr, no_reprs, more_reprs, name_pat, Ex, Exs, number_ex, name_ex, comp_ex, cell_ex, seen_ex, no_exs, more_exs, Gens, no_gens, over, from, cond, Dom, bool_dom, int_dom, set_dom, ex1, ex2, fun1}
use Rattle.ess_semantics.specs.Meaning.{is_bool_dom}
use Rattle.ess_semantics.specs.Substitution.{substitute, substitute_gens, for_name}
use Rattle.ess_repr_declare_laws.specs.SizeTerms.{slots_ex, dummy_ex}
use Rattle.ess_rules_laws.specs.SourceRules.{list_of}
use Rattle.ess_rules_laws.specs.SpliceRules.{append_gens}
use Rattle.ess_rules_laws.specs.SetListings.{put_last}
use Rattle.ess_rules_laws.specs.SlotListings.{slots_dom}
use Rattle.ess_rules_laws.specs.FunctionViews.{flag_at}
use Rattle.ess_rules_laws.specs.InclusionRules.{every}
use Rattle.ess_rules_laws.specs.Listings.{Alternative, those}
use Rattle.ess_rules_laws.specs.ListedSources.{put_listed, each_put}
use Rattle.ess_refine_laws.specs.LeavingConditions.{under_condition}

-- ---- views

-- Numerals alone, as sizes are.
pub data Numerals : Exs → Type 0 where
  no_numeral : Numerals no_exs
  numeral : {i : ℤ} {es : Exs} → Numerals es → Numerals (more_exs (number_ex i) es)

-- Truth values, the numbers between two that are written, and sets of these or of such sets, with written sizes.
pub data Written : Dom → Type 0 where
  of_truths : Written bool_dom
  of_numbers : {i j : ℤ} → Written (int_dom (both_ends ∷ []) (more_exs (number_ex i) (more_exs (number_ex j) no_exs)))
  of_sets : {ms : List Mark} {es : Exs} {d : Dom} → Numerals es → Written d → Written (set_dom ms es d)

-- Names, as the indices of views are.
pub data Steps : Exs → Type 0 where
  no_step : Steps no_exs
  to_a_name : {a : Text} {es : Exs} → Steps es → Steps (more_exs (name_ex a) es)

-- What a view of a nested set offers, with the name x: the members that occur, and those in the slots that are in use.
pub data Laid (x : Text) : Ex → Alternative → Type 0 where
  that_occur : {ms : List Mark} {es js : Exs} {d : Dom} {n : Text} → Numerals es → Written d → Steps js →
      Laid x (seen_ex (repr ReprKind.Occurrence no_reprs) (set_dom ms es d) (n ∷ []) js) (record {
        gens = over (name_pat x) d (cond (cell_ex true n (put_last js (name_ex x))) no_gens);
        item = name_ex x;
      })
  but_the_dummy : {ms : List Mark} {es js : Exs} {d : Dom} {n : Text} → Numerals es → Written d → Steps js →
      Laid x (seen_ex (repr ReprKind.ExplicitVarSizeWithDummy no_reprs) (set_dom ms es d) (n ∷ []) js) (record {
        gens = over (name_pat x) (slots_dom (slots_ex (set_dom ms es d)))
            (cond (ex2 true Op2.Ne (cell_ex false n (put_last js (name_ex x))) (dummy_ex d)) no_gens);
        item = seen_ex (repr ReprKind.Atom no_reprs) d (n ∷ []) (put_last js (name_ex x));
      })
  in_all_slots : {ms : List Mark} {es js : Exs} {d : Dom} {r : Repr} {ns : List Text} → Numerals es → Written d → Steps js →
      Laid x (seen_ex (repr ReprKind.Explicit (more_reprs r no_reprs)) (set_dom ms es d) ns js) (record {
        gens = over (name_pat x) (slots_dom (slots_ex (set_dom ms es d))) no_gens;
        item = seen_ex r d ns (put_last js (name_ex x));
      })
  up_to_the_marker : {ms : List Mark} {es js : Exs} {d : Dom} {r : Repr} {m : Text} {ns : List Text} → Numerals es → Written d → Steps js →
      Laid x (seen_ex (repr ReprKind.ExplicitVarSizeWithMarker (more_reprs r no_reprs)) (set_dom ms es d) (m ∷ ns) js) (record {
        gens = over (name_pat x) (slots_dom (slots_ex (set_dom ms es d)))
            (cond (ex2 true Op2.Le (name_ex x) (cell_ex false m js)) no_gens);
        item = seen_ex r d ns (put_last js (name_ex x));
      })
  where_flagged : {ms : List Mark} {es js : Exs} {d : Dom} {r : Repr} {m : Text} {ns : List Text} → Numerals es → Written d → Steps js →
      Laid x (seen_ex (repr ReprKind.ExplicitVarSizeWithFlags (more_reprs r no_reprs)) (set_dom ms es d) (m ∷ ns) js) (record {
        gens = over (name_pat x) (slots_dom (slots_ex (set_dom ms es d))) (cond (cell_ex true m (put_last js (name_ex x))) no_gens);
        item = seen_ex r d ns (put_last js (name_ex x));
      })

-- ---- sets made of two, and what a source offers

-- What a union, an intersection and a difference offer, with the name x: the members of the first, and those of the second that aren't in
-- the first; those of the first that are in the second, and those that aren't.
pub data Drawn (x : Text) : Ex → Alternative → Type 0 where
  of_the_first : {a b : Ex} → Drawn x (ex2 false Op2.Union a b) (those x a no_gens)
  else_of_the_second : {a b : Ex} → Drawn x (ex2 false Op2.Union a b)
      (those x b (cond (ex1 true Op1.Not (ex2 true Op2.Member (name_ex x) a)) no_gens))
  of_both : {a b : Ex} → Drawn x (ex2 false Op2.Intersect a b) (those x a (cond (ex2 true Op2.Member (name_ex x) b) no_gens))
  of_the_first_alone : {a b : Ex} → Drawn x (ex2 false Op2.Minus a b)
      (those x a (cond (ex1 true Op1.Not (ex2 true Op2.Member (name_ex x) b)) no_gens))

-- What a source offers.
pub data Offered (x : Text) (t : Ex) (a : Alternative) : Type 0 where
  by_a_view : Laid x t a → Offered x t a
  by_two : Drawn x t a → Offered x t a

-- Each of these.
abbrev pub AllOffered : Text → Ex → List Alternative → Type 0
AllOffered x t [] = Unit {0}
AllOffered x t (a ∷ l) = Offered x t a × AllOffered x t l

-- ---- rules

-- One of the rules makes the second tree of the first.
pub data Shape (x : Text) : Ex → Ex → Type 0 where
  -- A fold over one item, without generators, and over a condition alone.
  one_item : {m : Bool} {w : Fun} {i : Ex} → Shape x (fun1 m w (list_of (more_exs i no_exs))) i
  one_binding : {m : Bool} {w : Fun} {i : Ex} → Shape x (fun1 m w (comp_ex i no_gens)) i
  implied : {i c : Ex} → Shape x (fun1 true Fun.And (comp_ex i (cond c no_gens))) (ex2 true Op2.Implies c i)
  both : {i c : Ex} → Shape x (fun1 true Fun.Or (comp_ex i (cond c no_gens))) (ex2 true Op2.And c i)
  -- Size and membership of a term.
  size : {s : Ex} → Shape x (ex1 false Op1.Bar s) (fun1 false Fun.Sum (comp_ex (number_ex (pos 1)) (from (name_pat x) s no_gens)))
  member : {a s : Ex} → Shape x (ex2 true Op2.Member a s)
      (fun1 true Fun.Or (comp_ex (ex2 true Op2.Eq (name_ex x) a) (from (name_pat x) s no_gens)))
  -- Signs between sets, and membership of a set made of two.
  different : {a b : Ex} → Shape x (ex2 true Op2.Ne a b) (ex1 true Op1.Not (ex2 true Op2.Eq a b))
  turned_round : {a b : Ex} → Shape x (ex2 true Op2.SupsetEq a b) (ex2 true Op2.SubsetEq b a)
  turned_strictly : {a b : Ex} → Shape x (ex2 true Op2.Supset a b) (ex2 true Op2.Subset b a)
  strictly_included : {a b : Ex} → Shape x (ex2 true Op2.Subset a b)
      (ex2 true Op2.And (ex2 true Op2.SubsetEq a b) (ex1 true Op1.Not (ex2 true Op2.SubsetEq b a)))
  equal : {a b : Ex} → Shape x (ex2 true Op2.Eq a b)
      (ex2 true Op2.And (every x a (ex2 true Op2.Member (name_ex x) b)) (every x b (ex2 true Op2.Member (name_ex x) a)))
  included : {a b : Ex} → Shape x (ex2 true Op2.SubsetEq a b) (every x a (ex2 true Op2.Member (name_ex x) b))
  in_a_union : {i a b : Ex} → Shape x (ex2 true Op2.Member i (ex2 false Op2.Union a b))
      (ex2 true Op2.Or (ex2 true Op2.Member i a) (ex2 true Op2.Member i b))
  in_both : {i a b : Ex} → Shape x (ex2 true Op2.Member i (ex2 false Op2.Intersect a b))
      (ex2 true Op2.And (ex2 true Op2.Member i a) (ex2 true Op2.Member i b))
  in_the_first_alone : {i a b : Ex} → Shape x (ex2 true Op2.Member i (ex2 false Op2.Minus a b))
      (ex2 true Op2.And (ex2 true Op2.Member i a) (ex1 true Op1.Not (ex2 true Op2.Member i b)))
  -- Products of numbers that conditions choose.
  chosen_twice : {c d : Ex} → Shape x (ex2 false Op2.Times (fun1 false Fun.ToInt c) (fun1 false Fun.ToInt d))
      (fun1 false Fun.ToInt (ex2 true Op2.And c d))
  chosen_once : {c : Ex} → Shape x (ex2 false Op2.Times (fun1 false Fun.ToInt c) (number_ex (pos 1))) (fun1 false Fun.ToInt c)
  -- A condition that leaves a fold, of truth values or of numbers.
  leaving : {m : Bool} {w : Fun} {i : Ex} (before : Gens) (c : Ex) (after : Gens) →
      Shape x (fun1 m w (comp_ex i (append_gens before (cond c after))))
      (fun1 m w (comp_ex (under_condition w c (fun1 m w (comp_ex i after))) before))
  -- Cells: of an atom, of a member that may occur, and of a marker; and a number of slots.
  cell_of : {d : Dom} {n : Text} {js : Exs} → Steps js →
      Shape x (seen_ex (repr ReprKind.Atom no_reprs) d (n ∷ []) js) (cell_ex (is_bool_dom d) n js)
  flag_of : {ms : List Mark} {es js : Exs} {d : Dom} {n : Text} {a : Ex} → Steps js →
      Shape x (ex2 true Op2.Member a (seen_ex (repr ReprKind.Occurrence no_reprs) (set_dom ms es d) (n ∷ []) js))
      (flag_at n js (more_exs a no_exs))
  marker_of : {ms : List Mark} {es js : Exs} {d : Dom} {r : Repr} {m : Text} {ns : List Text} → Steps js →
      Shape x (ex1 false Op1.Bar (seen_ex (repr ReprKind.ExplicitVarSizeWithMarker (more_reprs r no_reprs)) (set_dom ms es d) (m ∷ ns) js))
      (cell_ex false m js)
  slots_of : {ms : List Mark} {es js : Exs} {d : Dom} {r : Repr} {ns : List Text} → Numerals es → Written d →
      Shape x (ex1 false Op1.Bar (seen_ex (repr ReprKind.Explicit (more_reprs r no_reprs)) (set_dom ms es d) ns js))
      (slots_ex (set_dom ms es d))
  -- A fold over what a source offers: as a list of folds; over one alternative, alone and behind plain generators.
  in_a_list : {m : Bool} {w : Fun} {i t : Ex} (y : Text) (hs : Gens) (l : List Alternative) → AllOffered x t l →
      Shape x (fun1 m w (comp_ex i (from (name_pat y) t hs))) (fun1 m w (list_of (each_put m w y i hs l)))
  alone : {m : Bool} {w : Fun} {i t : Ex} {a : Alternative} (y : Text) (hs : Gens) → Offered x t a →
      Shape x (fun1 m w (comp_ex i (from (name_pat y) t hs))) (fun1 m w (put_listed y i hs a))
  opened : {m : Bool} {w : Fun} {i t : Ex} {a : Alternative} (before : Gens) (y : Text) (hs : Gens) → Offered x t a →
      Shape x (fun1 m w (comp_ex i (append_gens before (from (name_pat y) t hs))))
      (fun1 m w (comp_ex (substitute (for_name y a.item) i)
      (append_gens before (append_gens a.gens (substitute_gens (for_name y a.item) hs)))))
  -- A fold as a fold of folds.
  nested : {m : Bool} {w : Fun} {i : Ex} (before hs : Gens) → Shape x (fun1 m w (comp_ex i (append_gens before hs)))
      (fun1 m w (comp_ex (fun1 m w (comp_ex i hs)) before))
