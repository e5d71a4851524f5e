-- Constraints that speak of sets as trees, before and behind the telling apart of names: a scalar is a name, or what is shown for one; so
-- is a set, where it isn't made of two.
use Rattle.std.proofs.Common.{◌≡◌, Bool, true, false, List, [], ◌∷◌, ℕ, ℤ, Option, Some, None}
use Rattle.ess_semantics.specs.declared.words.Op1.{Op1}
use Rattle.ess_semantics.specs.declared.words.Op2.{Op2}
use Rattle.ess_semantics.specs.declared.words.Fun.{Fun}
use Rattle.ess_semantics.specs.Values.{Text}
use Rattle.ess_semantics.specs.Names.{Names}
use Rattle.ess_semantics.specs.Kinds.{fits}
use Rattle.ess_semantics.specs.Trees.{Mark, Repr, both_ends, name_pat, Ex, Exs, number_ex, truth_ex, name_ex, comp_ex, cell_ex, seen_ex, no_exs, more_exs, Gens, no_gens, over, from, cond, Dom, bool_dom, int_dom, set_dom, ex1, ex2, fun1}
use Rattle.ess_flat_laws.specs.Flat.{OneOp, TwoOp}
use Rattle.ess_seen_laws.specs.ess_bare_laws.Lean.{FoldWord}
use Rattle.ess_nested_laws.specs.NestedDomains.{is_nested_dom}
use Rattle.conjure_model_laws.specs.ToldApart.{reserved}
use Rattle.conjure_model_laws.specs.Shown.{Shows, in_place}
use Rattle.ess_seen_laws.specs.Seen.{Kind, scalars, sets_of, kind_of, Bound, over_a_range, from_a_set, Combines, Compares, Keeps}
use Rattle.ess_setwise_laws.specs.Setwise.{kind_at}

-- ---- trees

-- The kinds of free names, and what is shown for such.
module _ (names : Text → Option Kind) (Shown : Ex → Kind → Type 0) where
  -- A name of this kind, or what is shown for one.
  pub data Stands (r : Names Bound) : Ex → Kind → Type 0 where
    named : {a : Text} {k : Kind} → kind_at names r a ≡ Some k → Stands r (name_ex a) k
    as_shown : {e : Ex} {k : Kind} → Shown e k → Stands r e k

  -- A set with members of this kind: a name, or what is shown for one, or made of two.
  pub data SetTree (r : Names Bound) : Ex → Kind → Type 0 where
    stands : {e : Ex} {k : Kind} → Stands r e (sets_of k) → SetTree r e k
    combined : {o : Op2} {s t : Ex} {k : Kind} → Combines o → SetTree r s k → SetTree r t k → SetTree r (ex2 false o s t) k

  mutual
    -- The tree is a constraint of the class, or a part of one, where these names are bound, and has this mark.
    pub data Setwise : Names Bound → Ex → Bool → Type 0 where
      number : {r : Names Bound} {k : ℤ} → Setwise r (number_ex k) false
      truth : {r : Names Bound} {b : Bool} → Setwise r (truth_ex b) true
      scalar : {r : Names Bound} {e : Ex} {m : Bool} → Stands r e (scalars m) → Setwise r e m
      one : {r : Names Bound} {b m : Bool} {o : Op1} {x : Ex} → OneOp b o m → Setwise r x m → Setwise r (ex1 b o x) b
      two : {r : Names Bound} {b m k : Bool} {o : Op2} {x y : Ex} → TwoOp b o m k → Setwise r x m → Setwise r y k →
          Setwise r (ex2 b o x y) b
      chosen : {r : Names Bound} {x : Ex} → Setwise r x true → Setwise r (fun1 false Fun.ToInt x) false
      folded : {r t : Names Bound} {m : Bool} {f : Fun} {e : Ex} {gs : Gens} → FoldWord m f → Binding r gs t → Setwise t e m →
          Setwise r (fun1 m f (comp_ex e gs)) m
      size : {r : Names Bound} {k : Kind} {s : Ex} → SetTree r s k → Setwise r (ex1 false Op1.Bar s) false
      within : {r : Names Bound} {m : Bool} {x s : Ex} → Setwise r x m → SetTree r s (scalars m) → Setwise r (ex2 true Op2.Member x s) true
      set_within : {r : Names Bound} {k : Kind} {a s : Ex} → SetTree r a k → SetTree r s (sets_of k) →
          Setwise r (ex2 true Op2.Member a s) true
      compared : {r : Names Bound} {o : Op2} {k : Kind} {s t : Ex} → Compares o → SetTree r s k → SetTree r t k →
          Setwise r (ex2 true o s t) true

    -- Generators over truth values, ranges and members of sets, with conditions; the names behind them. None hides another one.
    pub data Binding : Names Bound → Gens → Names Bound → Type 0 where
      at_end : {r : Names Bound} → Binding r no_gens r
      over_truths : {r t : Names Bound} {a : Text} {gs : Gens} → kind_at names r a ≡ None → Binding ((a, over_a_range true) ∷ r) gs t →
          Binding r (over (name_pat a) bool_dom gs) t
      over_numbers : {r t : Names Bound} {a : Text} {x y : Ex} {gs : Gens} → kind_at names r a ≡ None → Setwise r x false →
          Setwise r y false → Binding ((a, over_a_range false) ∷ r) gs t →
          Binding r (over (name_pat a) (int_dom (both_ends ∷ []) (more_exs x (more_exs y no_exs))) gs) t
      among : {r t : Names Bound} {k : Kind} {a : Text} {s : Ex} {gs : Gens} → kind_at names r a ≡ None → SetTree r s k →
          Binding ((a, from_a_set k) ∷ r) gs t → Binding r (from (name_pat a) s gs) t
      where_holds : {r t : Names Bound} {e : Ex} {gs : Gens} → Setwise r e true → Binding r gs t → Binding r (cond e gs) t

-- ---- before and behind

-- Before names are told apart nothing is shown.
abbrev pub NoneShown : Ex → Kind → Type 0
NoneShown e k = ⊥

-- Behind no name is free: cells and views are shown.
abbrev pub no_kind : Text → Option Kind
no_kind a = None

-- A single cell of a scalar, or a view of a set.
pub data Form (cells : Text → Option (Bool × List ℕ)) : Ex → Kind → Type 0 where
  a_cell : {m : Bool} {n : Text} → cells n ≡ Some (m, []) → Form cells (cell_ex m n no_exs) (scalars m)
  a_view : {p : Repr} {ms : List Mark} {es : Exs} {d : Dom} {ns : List Text} → is_nested_dom (set_dom ms es d) ≡ true →
      fits p (set_dom ms es d) ≡ true → Keeps cells [] p (set_dom ms es d) ns →
      Form cells (seen_ex p (set_dom ms es d) ns no_exs) (sets_of (kind_of d))

-- Where the shown views of a name are found: scalars have the first one alone.
pub data IsPlace (sh : Shows) (a : Text) (e : Ex) : Kind → Type 0 where
  in_first : {k : Kind} → in_place sh.first a ≡ e → IsPlace sh a e k
  in_last : {k : Kind} → in_place sh.last a ≡ e → IsPlace sh a e (sets_of k)

-- What is shown for a name.
pub record ShownFor (sh : Shows) (names : Text → Option Kind) (cells : Text → Option (Bool × List ℕ)) (e : Ex) (k : Kind) : Type 0 where
  pub form : Form cells e k
  pub name : Text
  pub kind : names name ≡ Some k
  pub place : IsPlace sh name e k

-- For each name it is such a form, and for reserved names nothing is shown.
pub record ShowsAll (sh : Shows) (names : Text → Option Kind) (cells : Text → Option (Bool × List ℕ)) : Type 0 where
  pub first : (a : Text) (k : Kind) → names a ≡ Some k → Form cells (in_place sh.first a) k
  pub last : (a : Text) (k : Kind) → names a ≡ Some (sets_of k) → Form cells (in_place sh.last a) (sets_of k)
  pub spares_first : (j : ℕ) → in_place sh.first (reserved j) ≡ name_ex (reserved j)
  pub spares_last : (j : ℕ) → in_place sh.last (reserved j) ≡ name_ex (reserved j)
