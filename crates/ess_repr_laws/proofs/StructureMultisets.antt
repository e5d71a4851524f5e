-- The structure constraint of a multiset of which is kept how often each member occurs.
use Rattle.std.proofs.Common.{◌≡◌, refl, sym, ap, ◌∙◌, ℕ, ◌+◌, ◌<◌, Bool, true, false, ◌&&◌, List, [], ◌∷◌, ℤ, Option, Some, None, arith}
use Rattle.std.specs.List.{list_all}
use Rattle.ess_semantics.specs.declared.words.ReprKind.{ReprKind}
use Rattle.ess_semantics.specs.Lists.{is_some_and}
use Rattle.ess_semantics.specs.Values.{Text, truth}
use Rattle.ess_semantics.specs.Order.{same_text}
use Rattle.ess_semantics.specs.Trees.{Mark, Repr, repr, no_reprs, Exs, Dom, mset_dom}
use Rattle.ess_semantics.specs.Domains.{Attribute, Domain, msets, member_list}
use Rattle.ess_semantics.specs.MultisetLayers.{counts_hold}
use Rattle.ess_semantics.specs.Sizes.{occurrences}
use Rattle.ess_semantics.specs.Tables.{Table, Tables, is_cell}
use Rattle.ess_semantics.specs.Cells.{Grid, Axes, behind, cells_of, every_cell, row}
use Rattle.ess_semantics.specs.Layers.{codes_of, up_to}
use Rattle.ess_semantics.specs.Declarations.{declarations_below}
use Rattle.ess_semantics.specs.CanonicalTest.{canonical}
use Rattle.ess_semantics.specs.Meaning.{Env, meaning}
use Rattle.ess_semantics.specs.Atoms.{IsAtom}
use Rattle.ess_semantics.proofs.Tests.{and-left, and-right, and-both}
use Rattle.ess_repr_laws.specs.StructureParts.{Terms, first_name, own_shape, counts_ex}
use Rattle.ess_repr_laws.specs.StructureMeaning.{Bound, M, AxesAre, Placed, Attributes}
use Rattle.ess_repr_laws.proofs.StructureCounts.{counts-means}
use Rattle.ess_repr_laws.proofs.StructureFits.{Fit, first-fit}
use Rattle.ess_repr_laws.proofs.StructureOf.{StructureOf, own-found}
use Rattle.ess_repr_laws.proofs.StructureRows.{Steady, There, grid_at}

-- Cells in a domain are there.
pub cells-there : (as' : Axes) (p : ℤ → Bool) (f : Grid) → every_cell as' p f ≡ true → every_cell as' (λ z. true) f ≡ true
cells-there [] p f h = go (f []) h
  where
    go : (o : Option ℤ) → is_some_and o p ≡ true → is_some_and o (λ z. true) ≡ true
    go None h = cc
    go (Some z) h = refl
cells-there (a ∷ as') p f h = each a (λ k e. cells-there as' p (λ js. f (k ∷ js)) e) h
  where
    each : (ks : List ℤ) → ((k : ℤ) → every_cell as' p (λ js. f (k ∷ js)) ≡ true → every_cell as' (λ z. true) (λ js. f (k ∷ js)) ≡ true) → list_all (λ k. every_cell as' p (λ js. f (k ∷ js))) ks ≡ true →
        list_all (λ k. every_cell as' (λ z. true) (λ js. f (k ∷ js))) ks ≡ true
    each [] g h = refl
    each (k ∷ ks) g h =
        and-both (every_cell as' (λ z. true) (λ js. f (k ∷ js))) (list_all (λ k. every_cell as' (λ z. true) (λ js. f (k ∷ js))) ks)
        (g k (and-left (every_cell as' p (λ js. f (k ∷ js))) (list_all (λ k. every_cell as' p (λ js. f (k ∷ js))) ks) h))
        (each ks g (and-right (every_cell as' p (λ js. f (k ∷ js))) (list_all (λ k. every_cell as' p (λ js. f (k ∷ js))) ks) h))

module _ (env0 : Env) (q : ℕ → Text) (q-apart : (m l : ℕ) → l < m → same_text (q m) (q l) ≡ false) (terms : Terms)
    (ms : List Mark) (es : Exs) (d : Dom) (ks : List Attribute) (e : Domain) (a : IsAtom e) (ax : AxesAre env0 q q-apart (d ∷ []) (member_list e ∷ [])) (at : Attributes env0 q q-apart terms ms es ks) where
  abbrev kind : Repr
  kind = repr ReprKind.MSetOccurrence no_reprs

  abbrev axes : Axes
  axes = codes_of e ∷ []

  inside : (out : Bool) (t : Table) (i : List ℤ) → Fit (declarations_below out kind (msets ks e)) (behind i (cells_of (t ∷ []))) → every_cell axes (is_cell (up_to (occurrences ks))) (grid_at env0 q q-apart t i) ≡ true
  inside true t i c = let f = first-fit (record { axes = axes; cell = up_to (occurrences ks) }) [] (grid_at env0 q q-apart t i) [] c in f.inside
  inside false t i c = let f = first-fit (record { axes = axes; cell = up_to (occurrences ks) }) [] (grid_at env0 q q-apart t i) [] c in f.inside

  there : (out : Bool) (ns : List Text) (ts : Tables) (i : List ℤ) → Placed env0 q q-apart (own_shape ns false (d ∷ []) ∷ []) ((member_list e ∷ []) ∷ []) ts →
      Fit (declarations_below out kind (msets ks e)) (behind i (cells_of ts)) → There env0 q q-apart (own_shape ns false (d ∷ []) ∷ []) ((member_list e ∷ []) ∷ []) ts i
  there out ns (t ∷ []) i p c = (cells-there axes (is_cell (up_to (occurrences ks))) (grid_at env0 q q-apart t i) (inside out t i c), tt)
  there out ns [] i p c = absurd p
  there out ns (t ∷ u ∷ ts) i p c = absurd p.2

  means : (out : Bool) (ns : List Text) (ts : Tables) (l : ℕ) (is : Exs) (i : List ℤ) (bs : Bound env0 q q-apart) → Placed env0 q q-apart (own_shape ns false (d ∷ []) ∷ []) ((member_list e ∷ []) ∷ []) ts →
      Fit (declarations_below out kind (msets ks e)) (behind i (cells_of ts)) → Steady env0 q q-apart l is i bs →
      meaning (counts_ex q l ms es (d ∷ []) (first_name ns) is) (M env0 q q-apart bs) ≡ Some (truth (canonical kind (msets ks e) (behind i (cells_of ts))))
  means out ns (t ∷ []) l is i bs p c st =
      let b = inside out t i c in
      let x = there out ns (t ∷ []) i p c in
      counts-means env0 q q-apart terms l (d ∷ []) (member_list e ∷ []) (first_name ns) is i bs t ax p.0 (occurrences ks) b x.0 st ms es ks at
      ∙ sym (ap (λ b. Some (truth ((((b && true) && true) && true) && counts_hold ks (row axes (grid_at env0 q q-apart t i))))) b)
  means out ns [] l is i bs p c st = absurd p
  means out ns (t ∷ u ∷ ts) l is i bs p c st = absurd p.2

  -- The structure constraint of a multiset by numbers of times means that its cells are canonical.
  pub mset-occurrence-structure : StructureOf env0 q q-apart terms kind (mset_dom ms es d) (msets ks e)
  mset-occurrence-structure = record {
    covered = a;
    long = λ ns. let z : 1 ≡ 1 + 0 = omega arith in z;
    axes = refl;
    found = own-found env0 q q-apart terms false (d ∷ []) (member_list e ∷ []) ax;
    there = there;
    means = means;
  }
