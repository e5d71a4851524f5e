-- The structure constraint of an atom: that its cell lies in its domain.
use Rattle.std.proofs.Common.{◌≡◌, refl, sym, ap, ◌∙◌, ℕ, ◌+◌, ◌<◌, Bool, true, false, ◌&&◌, List, [], ◌∷◌, ◌++◌, ℤ, Option, Some, None, option_map, arith, append-nil}
use Rattle.ess_semantics.specs.declared.words.ReprKind.{ReprKind}
use Rattle.ess_semantics.specs.Lists.{is_some_and}
use Rattle.ess_semantics.specs.Values.{Text, truth}
use Rattle.ess_semantics.specs.Order.{same_text}
use Rattle.ess_semantics.specs.Names.{look}
use Rattle.ess_semantics.specs.Trees.{repr, no_reprs, Exs, cell_ex, Dom}
use Rattle.ess_semantics.specs.Domains.{Domain, booleans, integers, named}
use Rattle.ess_semantics.specs.Tables.{Table, Tables, cell_at, is_cell}
use Rattle.ess_semantics.specs.Cells.{Grid, behind, cells_of}
use Rattle.ess_semantics.specs.Layers.{as_cell}
use Rattle.ess_semantics.specs.Declarations.{declarations_below, axes_of}
use Rattle.ess_semantics.specs.CanonicalTest.{canonical}
use Rattle.ess_semantics.specs.Meaning.{Env, is_bool_dom, cell_value, cell_in, indices, meaning, meanings}
use Rattle.ess_semantics.specs.Operators.{false_where_undefined}
use Rattle.ess_semantics.specs.Atoms.{IsAtom}
use Rattle.ess_semantics.proofs.Tests.{and-left}
use Rattle.ess_repr_laws.specs.StructureParts.{Terms, first_name, own_shape}
use Rattle.ess_repr_laws.specs.StructureMeaning.{fit, Bound, M, Placed, AtomReady}
use Rattle.ess_repr_laws.proofs.FittingCells.{cells_fit}
use Rattle.ess_repr_laws.proofs.StructureFits.{Fit}
use Rattle.ess_repr_laws.proofs.StructureRows.{Steady, There, grid_at}
use Rattle.ess_repr_laws.proofs.StructureOf.{StructureOf, own-found}

atom-axes : (e : Domain) → IsAtom e → ([] ∷ []) ≡ axes_of (repr ReprKind.Atom no_reprs) e
atom-axes booleans a = refl
atom-axes (integers ss) a = refl
atom-axes (named t n) a = refl
atom-axes _ a = absurd a

module _ (env0 : Env) (q : ℕ → Text) (q-apart : (m l : ℕ) → l < m → same_text (q m) (q l) ≡ false) (terms : Terms) where
  atom-means : (d : Dom) (e : Domain) → IsAtom e → AtomReady env0 q q-apart terms d e → (n : Text) (t : Table) (l : ℕ) (is : Exs) (i : List ℤ) (bs : Bound env0 q q-apart) → look env0.cells n ≡ Some t →
      is_some_and (cell_at t (i ++ [])) (fit (is_bool_dom d)) ≡ true → Steady env0 q q-apart l is i bs →
      meaning (terms.atom d (cell_ex (is_bool_dom d) n is)) (M env0 q q-apart bs) ≡ Some (truth (canonical (repr ReprKind.Atom no_reprs) e (behind i (cells_of (t ∷ [])))))
  atom-means d e at h n t l is i bs ht ok st = go (cell_at t (i ++ [])) refl ok
    where
      settled : (b : Bool) (z : ℤ) → false_where_undefined b (Some (cell_value b z)) ≡ Some (cell_value b z)
      settled true z = refl
      settled false z = refl

      cell-is : (z : ℤ) → cell_at t (i ++ []) ≡ Some z → meaning (cell_ex (is_bool_dom d) n is) (M env0 q q-apart bs) ≡ Some (cell_value (is_bool_dom d) z)
      cell-is z c =
          ap (λ o. false_where_undefined (is_bool_dom d) (cell_in (is_bool_dom d) o (indices (meanings is (M env0 q q-apart bs))))) ht ∙ ap (λ o. false_where_undefined (is_bool_dom d) (cell_in (is_bool_dom d) (Some t) o)) (st [] tt)
          ∙ ap (λ j. false_where_undefined (is_bool_dom d) (option_map (cell_value (is_bool_dom d)) (cell_at t j))) (sym (append-nil i)) ∙ ap (λ o. false_where_undefined (is_bool_dom d) (option_map (cell_value (is_bool_dom d)) o)) c ∙ settled (is_bool_dom d) z

      and-true : (b : Bool) → (((b && true) && true) && true) && true ≡ b
      and-true true = refl
      and-true false = refl

      asked : (z : ℤ) (e : Domain) → IsAtom e → cell_at t (i ++ []) ≡ Some z → is_cell (as_cell e) z ≡ canonical (repr ReprKind.Atom no_reprs) e (behind i (cells_of (t ∷ [])))
      asked z booleans a c = sym (ap (λ o. (((is_some_and o (is_cell booleans) && true) && true) && true) && true) c ∙ and-true (is_cell booleans z))
      asked z (integers ss) a c = sym (ap (λ o. (((is_some_and o (is_cell (integers ss)) && true) && true) && true) && true) c ∙ and-true (is_cell (integers ss) z))
      asked z (named u m) a c = sym (ap (λ o. (((is_some_and o (is_cell (as_cell (named u m))) && true) && true) && true) && true) c ∙ and-true (is_cell (as_cell (named u m)) z))
      asked z _ a c = absurd a

      go : (o : Option ℤ) → cell_at t (i ++ []) ≡ o → is_some_and o (fit (is_bool_dom d)) ≡ true →
          meaning (terms.atom d (cell_ex (is_bool_dom d) n is)) (M env0 q q-apart bs) ≡ Some (truth (canonical (repr ReprKind.Atom no_reprs) e (behind i (cells_of (t ∷ [])))))
      go None c f = cc
      go (Some z) c f = h (cell_ex (is_bool_dom d) n is) bs z f (cell-is z c) ∙ ap (λ b. Some (truth b)) (asked z e at c)

  atom-there : (out : Bool) (d : Dom) (e : Domain) → IsAtom e → (is_bool_dom d ≡ true → e ≡ booleans) → (o : Option ℤ) → cells_fit (declarations_below out (repr ReprKind.Atom no_reprs) e) ((λ js. o) ∷ []) ≡ true → is_some_and o (fit (is_bool_dom d)) ≡ true
  atom-there out d e a b o h = go (is_bool_dom d) refl o h
    where
      bit : (out : Bool) (o : Option ℤ) → cells_fit (declarations_below out (repr ReprKind.Atom no_reprs) booleans) ((λ js. o) ∷ []) ≡ true → is_some_and o (is_cell booleans) ≡ true
      bit true o h = and-left (is_some_and o (is_cell booleans)) true h
      bit false o h = and-left (is_some_and o (is_cell booleans)) true h

      some : (e : Domain) → IsAtom e → (o : Option ℤ) → cells_fit (declarations_below out (repr ReprKind.Atom no_reprs) e) ((λ js. o) ∷ []) ≡ true → is_some_and o (λ z. true) ≡ true
      some booleans a None h = cc
      some (integers ss) a None h = cc
      some (named t n) a None h = cc
      some e a (Some z) h = refl
      some _ a None h = absurd a

      go : (c : Bool) → is_bool_dom d ≡ c → (o : Option ℤ) → cells_fit (declarations_below out (repr ReprKind.Atom no_reprs) e) ((λ js. o) ∷ []) ≡ true → is_some_and o (fit c) ≡ true
      go true c o h = bit out o (ap (λ x. cells_fit (declarations_below out (repr ReprKind.Atom no_reprs) x) ((λ js. o) ∷ [])) (sym (b c)) ∙ h)
      go false c o h = some e a o h

  one-grid : (out : Bool) (e : Domain) → IsAtom e → (f : Grid) → cells_fit (declarations_below out (repr ReprKind.Atom no_reprs) e) (f ∷ []) ≡ true → cells_fit (declarations_below out (repr ReprKind.Atom no_reprs) e) ((λ js. f []) ∷ []) ≡ true
  one-grid out booleans a f h = h
  one-grid out (integers ss) a f h = h
  one-grid out (named t n) a f h = h
  one-grid out _ a f h = absurd a

  module _ (d : Dom) (e : Domain) (a : IsAtom e) (b : is_bool_dom d ≡ true → e ≡ booleans) (h : AtomReady env0 q q-apart terms d e) where
    there : (out : Bool) (ns : List Text) (ts : Tables) (i : List ℤ) → Placed env0 q q-apart (own_shape ns (is_bool_dom d) [] ∷ []) ([] ∷ []) ts →
        Fit (declarations_below out (repr ReprKind.Atom no_reprs) e) (behind i (cells_of ts)) → There env0 q q-apart (own_shape ns (is_bool_dom d) [] ∷ []) ([] ∷ []) ts i
    there out ns (t ∷ []) i p c = (atom-there out d e a b (cell_at t (i ++ [])) (one-grid out e a (grid_at env0 q q-apart t i) c.0), tt)
    there out ns [] i p c = absurd p
    there out ns (t ∷ u ∷ ts) i p c = absurd p.2

    means : (out : Bool) (ns : List Text) (ts : Tables) (l : ℕ) (is : Exs) (i : List ℤ) (bs : Bound env0 q q-apart) → Placed env0 q q-apart (own_shape ns (is_bool_dom d) [] ∷ []) ([] ∷ []) ts →
        Fit (declarations_below out (repr ReprKind.Atom no_reprs) e) (behind i (cells_of ts)) → Steady env0 q q-apart l is i bs →
        meaning (terms.atom d (cell_ex (is_bool_dom d) (first_name ns) is)) (M env0 q q-apart bs) ≡ Some (truth (canonical (repr ReprKind.Atom no_reprs) e (behind i (cells_of ts))))
    means out ns (t ∷ []) l is i bs p c st = let x = there out ns (t ∷ []) i p c in atom-means d e a h (first_name ns) t l is i bs p.0 x.0 st
    means out ns [] l is i bs p c st = absurd p
    means out ns (t ∷ u ∷ ts) l is i bs p c st = absurd p.2

    -- The structure constraint of an atom means that its cell is canonical.
    pub atom-structure : StructureOf env0 q q-apart terms (repr ReprKind.Atom no_reprs) d e
    atom-structure = record {
      covered = a;
      long = λ ns. let z : 1 ≡ 1 + 0 = omega arith in z;
      axes = atom-axes e a;
      found = own-found env0 q q-apart terms (is_bool_dom d) [] [] tt;
      there = there;
      means = means;
    }
