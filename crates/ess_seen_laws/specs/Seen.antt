-- Trees over views of sets of any nesting, as constraints that speak of such finds are over tables, and as rules leave them on the way:
-- numbers, truth values, bound names and cells, arithmetic, comparisons and connectives; `and`, `or` and `sum` of what generators over
-- ranges, over truth values and over members of sets go through, with conditions; unions, intersections and differences of sets;
-- comparisons and inclusions of sets; their sizes; memberships of scalars and of sets; and folds of lists, as the parts of a source leave
-- them. Where rules end no view, no source and no set is left. Each number in a cell is asked at slots that the cell's table has.
use Rattle.std.specs.Prelude.{◌≡◌, ℕ, suc, ◌+◌, ◌^◌, Bool, true, false, List, [], ◌∷◌, ◌++◌, length, ℤ, pos, Option, Some, option_map}
use Rattle.ess_semantics.specs.declared.words.Op1.{Op1}
use Rattle.ess_semantics.specs.declared.words.Op2.{Op2}
use Rattle.ess_semantics.specs.declared.words.Fun.{Fun}
use Rattle.ess_semantics.specs.declared.words.ReprKind.{ReprKind}
use Rattle.ess_semantics.specs.Values.{Text, a_set}
use Rattle.ess_semantics.specs.Names.{Names, look}
use Rattle.ess_semantics.specs.Kinds.{fits}
use Rattle.ess_semantics.specs.Types.{Ty, bool_ty, int_ty, compound1}
use Rattle.ess_semantics.specs.Meaning.{is_bool_dom}
use Rattle.ess_semantics.specs.Trees.{both_ends, Mark, Repr, repr, no_reprs, more_reprs, name_pat, Ex, Exs, number_ex, truth_ex, name_ex, comp_ex, cell_ex, seen_ex, no_exs, more_exs, Gens, no_gens, over, from, cond, Dom, bool_dom, int_dom, set_dom, ex1, ex2, fun1}
use Rattle.ess_rules_laws.specs.SourceRules.{list_of}
use Rattle.ess_rules_laws.specs.SlotListings.{slots_dom}
use Rattle.ess_repr_declare_laws.specs.SizeTerms.{slots_ex}
use Rattle.ess_bare_laws.specs.ess_flat_laws.Flat.{OneOp, TwoOp}
use Rattle.ess_nested_laws.specs.NestedDomains.{are_written_sizes, is_written_atom, is_nested_dom}
use Rattle.ess_bare_laws.specs.Lean.{FoldWord}

-- ---- kinds of members

-- What the members of a set are: truth values or numbers, or sets again.
pub data Kind : Type 0 where
  scalars : Bool → Kind
  sets_of : Kind → Kind

-- The kind of what a domain of nested sets, or of their atoms, denotes.
abbrev pub kind_of : Dom → Kind
kind_of (set_dom ms es d) = sets_of (kind_of d)
kind_of d = scalars (is_bool_dom d)

-- Its type.
abbrev pub kind_ty : Kind → Ty
kind_ty (scalars true) = bool_ty
kind_ty (scalars false) = int_ty
kind_ty (sets_of k) = compound1 a_set (kind_ty k)

-- ---- bound names

-- What a name is bound over: a range of numbers or the truth values, so many slots, or the members of a set, which are of a kind.
pub data Bound : Type 0 where
  over_a_range : Bool → Bound
  over_slots : ℕ → Bound
  from_a_set : Kind → Bound

-- The kind of its values.
abbrev pub bound_kind : Bound → Kind
bound_kind (over_a_range m) = scalars m
bound_kind (over_slots n) = scalars false
bound_kind (from_a_set k) = k

-- The types of names that are bound so.
abbrev pub bound_types : Names Bound → Names Ty
bound_types [] = []
bound_types (b ∷ r) = (b.0, kind_ty (bound_kind b.1)) ∷ bound_types r

-- ---- operators on sets

-- What makes a set of two.
pub data Combines : Op2 → Type 0 where
  united : Combines Op2.Union
  shared : Combines Op2.Intersect
  lessened : Combines Op2.Minus

-- What compares two sets.
pub data Compares : Op2 → Type 0 where
  alike : Compares Op2.Eq
  apart : Compares Op2.Ne
  included : Compares Op2.SubsetEq
  properly_included : Compares Op2.Subset
  including : Compares Op2.SupsetEq
  properly_including : Compares Op2.Supset

-- ---- numbers of slots

-- A term of numerals, and the number that it is: as domains of nested sets tell how many slots there are, and as conditions leave it when
-- they leave a sum.
pub data Counted : Ex → ℕ → Type 0 where
  so_many : {n : ℕ} → Counted (number_ex (pos n)) n
  from_to : {a b n : ℕ} → suc b ≡ a + n →
      Counted (ex2 false Op2.Plus (ex2 false Op2.Minus (number_ex (pos 1)) (number_ex (pos a))) (number_ex (pos b))) n
  from_0 : {b : ℕ} → Counted (ex2 false Op2.Plus (number_ex (pos b)) (number_ex (pos 1))) (suc b)
  subsets : {t : Ex} {n : ℕ} → Counted t n → Counted (ex2 false Op2.Pow (number_ex (pos 2)) t) (2 ^ n)
  none_below : {t : Ex} {n : ℕ} → Counted t n →
      Counted (fun1 false Fun.Max (list_of (more_exs t (more_exs (number_ex (pos 0)) no_exs)))) n

-- ---- trees

-- The tables, without how long their axes are.
abbrev pub counted_axes : (Text → Option (Bool × List ℕ)) → Text → Option (Bool × ℕ)
counted_axes cells n = option_map (λ c. (c.0, length c.1)) (cells n)

-- The tables: whether one holds truth values, and how many places each axis has. Of tables of truth values only the number of axes counts.
module _ (cells : Text → Option (Bool × List ℕ)) where
  -- Tables with these names keep a set of this domain, or an atom in one, by this representation, behind axes with so many slots.
  pub data Keeps : List ℕ → Repr → Dom → List Text → Type 0 where
    as_an_atom : {ks : List ℕ} {d : Dom} {n : Text} → is_written_atom d ≡ true → cells n ≡ Some (is_bool_dom d, ks) →
        Keeps ks (repr ReprKind.Atom no_reprs) d (n ∷ [])
    by_occurrence : {ks : List ℕ} (k : ℕ) {ms : List Mark} {es : Exs} {d : Dom} {n : Text} → are_written_sizes ms es ≡ true →
        is_written_atom d ≡ true → cells n ≡ Some (true, ks ++ (k ∷ [])) →
        Keeps ks (repr ReprKind.Occurrence no_reprs) (set_dom ms es d) (n ∷ [])
    with_a_dummy : {ks : List ℕ} {k : ℕ} {ms : List Mark} {es : Exs} {d : Dom} {n : Text} → are_written_sizes ms es ≡ true →
        is_written_atom d ≡ true → is_bool_dom d ≡ false → Counted (slots_ex (set_dom ms es d)) k →
        cells n ≡ Some (false, ks ++ (k ∷ [])) →
        Keeps ks (repr ReprKind.ExplicitVarSizeWithDummy no_reprs) (set_dom ms es d) (n ∷ [])
    in_slots : {ks : List ℕ} {k : ℕ} {ms : List Mark} {es : Exs} {d : Dom} {r : Repr} {ns : List Text} → are_written_sizes ms es ≡ true →
        Counted (slots_ex (set_dom ms es d)) k → Keeps (ks ++ (k ∷ [])) r d ns →
        Keeps ks (repr ReprKind.Explicit (more_reprs r no_reprs)) (set_dom ms es d) ns
    with_a_marker : {ks : List ℕ} {k : ℕ} {ms : List Mark} {es : Exs} {d : Dom} {r : Repr} {m : Text} {ns : List Text} →
        are_written_sizes ms es ≡ true → Counted (slots_ex (set_dom ms es d)) k → cells m ≡ Some (false, ks) →
        Keeps (ks ++ (k ∷ [])) r d ns →
        Keeps ks (repr ReprKind.ExplicitVarSizeWithMarker (more_reprs r no_reprs)) (set_dom ms es d) (m ∷ ns)
    with_flags : {ks : List ℕ} {k : ℕ} {ms : List Mark} {es : Exs} {d : Dom} {r : Repr} {m : Text} {ns : List Text} →
        are_written_sizes ms es ≡ true → Counted (slots_ex (set_dom ms es d)) k → cells m ≡ Some (true, ks ++ (k ∷ [])) →
        Keeps (ks ++ (k ∷ [])) r d ns →
        Keeps ks (repr ReprKind.ExplicitVarSizeWithFlags (more_reprs r no_reprs)) (set_dom ms es d) (m ∷ ns)

  -- Indices of a view, one for each axis: names that are bound over as many slots as the axis has.
  pub data Places : Names Bound → Exs → List ℕ → Type 0 where
    no_place : {r : Names Bound} → Places r no_exs []
    at_slot : {r : Names Bound} {a : Text} {es : Exs} {k : ℕ} {ks : List ℕ} → look r a ≡ Some (over_slots k) → Places r es ks →
        Places r (more_exs (name_ex a) es) (k ∷ ks)

  -- A set, whose members are of this kind: a view of one, a name that is bound over members which are sets, or one made of two.
  pub data SetTerm : Names Bound → Ex → Kind → Type 0 where
    view : {r : Names Bound} {p : Repr} {ms : List Mark} {es js : Exs} {d : Dom} {ns : List Text} {ks : List ℕ} →
        is_nested_dom (set_dom ms es d) ≡ true → fits p (set_dom ms es d) ≡ true → Keeps ks p (set_dom ms es d) ns → Places r js ks →
        SetTerm r (seen_ex p (set_dom ms es d) ns js) (kind_of d)
    drawn : {r : Names Bound} {a : Text} {k : Kind} → look r a ≡ Some (from_a_set (sets_of k)) → SetTerm r (name_ex a) k
    combined : {r : Names Bound} {o : Op2} {s t : Ex} {k : Kind} → Combines o → SetTerm r s k → SetTerm r t k →
        SetTerm r (ex2 false o s t) k

  mutual
    -- The tree is one over views where these names are bound, and has this mark.
    pub data Seen : Names Bound → Ex → Bool → Type 0 where
      number : {r : Names Bound} {i : ℤ} → Seen r (number_ex i) false
      truth : {r : Names Bound} {b : Bool} → Seen r (truth_ex b) true
      named : {r : Names Bound} {a : Text} {b : Bound} {m : Bool} → look r a ≡ Some b → bound_kind b ≡ scalars m → Seen r (name_ex a) m
      counted : {r : Names Bound} {e : Ex} {n : ℕ} → Counted e n → Seen r e false
      figure : {r : Names Bound} {n : Text} {ks : List ℕ} {es : Exs} → cells n ≡ Some (false, ks) → Places r es ks →
          Seen r (cell_ex false n es) false
      flag : {r : Names Bound} {n : Text} {ks : List ℕ} {es : Exs} → cells n ≡ Some (true, ks) → Indices r es (length ks) →
          Seen r (cell_ex true n es) true
      atom : {r : Names Bound} {d : Dom} {n : Text} {js : Exs} {ks : List ℕ} → Keeps ks (repr ReprKind.Atom no_reprs) d (n ∷ []) →
          Places r js ks → Seen r (seen_ex (repr ReprKind.Atom no_reprs) d (n ∷ []) js) (is_bool_dom d)
      one : {r : Names Bound} {b m : Bool} {o : Op1} {x : Ex} → OneOp b o m → Seen r x m → Seen r (ex1 b o x) b
      two : {r : Names Bound} {b m k : Bool} {o : Op2} {x y : Ex} → TwoOp b o m k → Seen r x m → Seen r y k → Seen r (ex2 b o x y) b
      chosen : {r : Names Bound} {x : Ex} → Seen r x true → Seen r (fun1 false Fun.ToInt x) false
      folded : {r t : Names Bound} {m : Bool} {f : Fun} {e : Ex} {gs : Gens} → FoldWord m f → Going r gs t → Seen t e m →
          Seen r (fun1 m f (comp_ex e gs)) m
      of_items : {r : Names Bound} {m : Bool} {f : Fun} {es : Exs} → FoldWord m f → Listed r es m → Seen r (fun1 m f (list_of es)) m
      size : {r : Names Bound} {k : Kind} {s : Ex} → SetTerm r s k → Seen r (ex1 false Op1.Bar s) false
      within : {r : Names Bound} {m : Bool} {a s : Ex} → Seen r a m → SetTerm r s (scalars m) → Seen r (ex2 true Op2.Member a s) true
      set_within : {r : Names Bound} {k : Kind} {a s : Ex} → SetTerm r a k → SetTerm r s (sets_of k) →
          Seen r (ex2 true Op2.Member a s) true
      compared : {r : Names Bound} {o : Op2} {k : Kind} {s t : Ex} → Compares o → SetTerm r s k → SetTerm r t k →
          Seen r (ex2 true o s t) true

    -- One item or several, each with this mark.
    pub data Listed : Names Bound → Exs → Bool → Type 0 where
      last_item : {r : Names Bound} {m : Bool} {e : Ex} → Seen r e m → Listed r (more_exs e no_exs) m
      item_before : {r : Names Bound} {m : Bool} {e : Ex} {es : Exs} → Seen r e m → Listed r es m → Listed r (more_exs e es) m

    -- So many indices of a cell.
    pub data Indices : Names Bound → Exs → ℕ → Type 0 where
      no_index : {r : Names Bound} → Indices r no_exs 0
      one_index : {r : Names Bound} {m : Bool} {e : Ex} {es : Exs} {k : ℕ} → Seen r e m → Indices r es k → Indices r (more_exs e es) (suc k)

    -- Generators over ranges, truth values, slots and members of sets, with conditions; the names behind them.
    pub data Going : Names Bound → Gens → Names Bound → Type 0 where
      at_end : {r : Names Bound} → Going r no_gens r
      through : {r t : Names Bound} {m : Bool} {a : Text} {d : Dom} {gs : Gens} → Range r d m → Going ((a, over_a_range m) ∷ r) gs t →
          Going r (over (name_pat a) d gs) t
      through_slots : {r t : Names Bound} {k : ℕ} {a : Text} {e : Ex} {gs : Gens} → Counted e k →
          Going ((a, over_slots k) ∷ r) gs t → Going r (over (name_pat a) (slots_dom e) gs) t
      among : {r t : Names Bound} {k : Kind} {a : Text} {s : Ex} {gs : Gens} → SetTerm r s k → Going ((a, from_a_set k) ∷ r) gs t →
          Going r (from (name_pat a) s gs) t
      where_holds : {r t : Names Bound} {c : Ex} {gs : Gens} → Seen r c true → Going r gs t → Going r (cond c gs) t

    -- The truth values, or the numbers between two bounds.
    pub data Range : Names Bound → Dom → Bool → Type 0 where
      truths : {r : Names Bound} → Range r bool_dom true
      numbers : {r : Names Bound} {a b : Ex} → Seen r a false → Seen r b false →
          Range r (int_dom (both_ends ∷ []) (more_exs a (more_exs b no_exs))) false
