-- Tables that fit are full for counts of cells, for the tests of atoms, and for what attributes without a number ask of views.
use Rattle.std.proofs.Common.{◌≡◌, ℕ, ◌<◌, Bool, true, false, if◌then◌else◌, List, [], ◌∷◌, ℤ, pos, Some}
use Rattle.ess_semantics.specs.declared.words.Op2.{Op2}
use Rattle.ess_semantics.specs.declared.words.Fun.{Fun}
use Rattle.ess_semantics.specs.declared.words.Key.{Key}
use Rattle.ess_semantics.specs.Values.{Text, Value}
use Rattle.ess_semantics.specs.Order.{same_text}
use Rattle.ess_semantics.specs.Names.{look}
use Rattle.ess_semantics.specs.Trees.{Ends, one_value, both_ends, low_end, high_end, word, Mark, flag, valued, Ex, Exs, number_ex, comp_ex, cell_ex, no_exs, more_exs, Dom, int_dom, name_dom, ex2}
use Rattle.ess_semantics.specs.Tables.{Table}
use Rattle.ess_semantics.specs.Cells.{every_cell}
use Rattle.ess_semantics.specs.Meaning.{Env}
use Rattle.ess_repr_laws.specs.StructureParts.{or_ex, le_ex, row_gens, row_index, true_count_ex, place_count_ex, number_sum_ex, times_of_ex, times_ex, counts_ex}
use Rattle.ess_repr_laws.specs.StructureMeaning.{Bound, M, AxesAre}
use Rattle.ess_repr_laws.proofs.CanonicalPlaces.{AllOf}
use Rattle.ess_repr_laws.proofs.StructureRows.{Steady, codes, grid_at}
use Rattle.ess_semantics.specs.Domains.{lists_of}
use Rattle.ess_repr_declare_laws.specs.SizeTerms.{is_missing, dummy_ex, in_ranges_ex, inside_ex, listed_ex}
use Rattle.ess_repr_structure_laws.proofs.BuiltStructures as B
use Rattle.ess_repr_structure_laws.proofs.MetParts.{Any}
use Rattle.ess_repr_full_laws.proofs.FullParts.{E, Anywhere, FullIn, in-here, truth-full, number-full, two-full, one-full, size-full, number-anywhere, two-anywhere, listed-anywhere}
use Rattle.ess_repr_full_laws.proofs.FullCells.{places-full, of-cells, fold-full}

-- ---- atoms

module _ (env : Env) where
  abbrev F : Ex → Type 0
  F e = FullIn e env

  or-full : (a b : Ex) → F a → F b → F (or_ex a b)
  or-full a b g h = two-full env true Op2.Or a b g h

  le-full : (a b : Ex) → F a → F b → F (le_ex a b)
  le-full a b g h = two-full env true Op2.Le a b g h

module _ (env0 w : Env) where
  abbrev now : Env
  now = E env0 w.vals

  ranges-full : (rs : List Ends) (es : Exs) (x : Ex) → B.AllHave (Anywhere env0) es → FullIn x now → FullIn (in_ranges_ex rs es x) now
  ranges-full (one_value ∷ rs) (more_exs a es) x h p = or-full now _ _ (two-full now true Op2.Eq x a p (in-here env0 a w h.0))
      (ranges-full rs es x h.1 p)
  ranges-full (both_ends ∷ rs) (more_exs a (more_exs b es)) x h p =
      or-full now _ _ (two-full now true Op2.And _ _ (le-full now a x (in-here env0 a w h.0) p)
      (le-full now x b p (in-here env0 b w h.1.0)))
      (ranges-full rs es x h.1.1 p)
  ranges-full (low_end ∷ rs) (more_exs a es) x h p = or-full now _ _ (le-full now a x (in-here env0 a w h.0) p) (ranges-full rs es x h.1 p)
  ranges-full (high_end ∷ rs) (more_exs b es) x h p = or-full now _ _ (le-full now x b p (in-here env0 b w h.0)) (ranges-full rs es x h.1 p)
  ranges-full _ es x h p = truth-full now false

  -- That a number lies in an atom.
  pub inside-full : (d : Dom) (x : Ex) → B.Good (Anywhere env0) Any d → FullIn x now → FullIn (inside_ex d x) now
  inside-full (int_dom (r ∷ rs) es) x g p = ranges-full (r ∷ rs) es x g.1 p
  inside-full (name_dom a) x g p = two-full now true Op2.And _ _ (le-full now (number_ex (pos 1)) x (number-full now (pos 1)) p)
      (le-full now x (listed_ex (name_dom a)) p (in-here env0 (listed_ex (name_dom a)) w (listed-anywhere env0 a)))
  inside-full _ x g p = truth-full now true

module _ (env0 : Env) where
  bound-or : (b : Bool) (e : Ex) → Anywhere env0 e → Anywhere env0 (if b then number_ex (pos 0) else e)
  bound-or true e h = number-anywhere env0 (pos 0)
  bound-or false e h = h

  one-more : (e : Ex) → Anywhere env0 e → Anywhere env0 (ex2 false Op2.Plus e (number_ex (pos 1)))
  one-more e h = two-anywhere env0 false Op2.Plus e (number_ex (pos 1)) h (number-anywhere env0 (pos 1))

  -- The dummy of an atom.
  pub dummy-anywhere : (d : Dom) → B.Good (Anywhere env0) Any d → Anywhere env0 (dummy_ex d)
  dummy-anywhere (int_dom (both_ends ∷ []) (more_exs a (more_exs b no_exs))) g = one-more _ (bound-or (is_missing b) b g.1.1.0)
  dummy-anywhere (name_dom a) g = one-more _ (listed-anywhere env0 a)
  dummy-anywhere _ g = number-anywhere env0 (pos 0)

-- ---- counts

all-of : (xs : List (List ℤ)) (P : List ℤ → Type 0) → ((js : List ℤ) → P js) → AllOf xs P
all-of [] P f = tt
all-of (x ∷ xs) P f = (f x, all-of xs P f)

module _ (env0 : Env) (q : ℕ → Text) (q-apart : (m l : ℕ) → l < m → same_text (q m) (q l) ≡ false) where
  abbrev B' : Type 0
  B' = Bound env0 q q-apart

  abbrev N : B' → Env
  N = M env0 q q-apart

  -- How many places there are.
  pub place-count-full : (l : ℕ) (as' : List Dom) (vss : List (List Value)) (is : Exs) (i : List ℤ) (bs : B') →
      AxesAre env0 q q-apart as' vss
      → B.ListHas (Anywhere env0) as' → Steady env0 q q-apart l is i bs → FullIn (place_count_ex q l as') (N bs)
  place-count-full l as' vss is i bs ax m st =
      fold-full env0 q q-apart false Fun.Sum _ bs (places-full env0 q q-apart l as' vss is i bs (number_ex (pos 1)) ax m st
      (all-of (lists_of (codes env0 q q-apart vss)) _ (λ js. λ cs s. number-full (N cs) (pos 1))))

  module _ (l : ℕ) (n : Text) (t : Table) (as' : List Dom) (vss : List (List Value)) (is : Exs) (i : List ℤ) (bs : B') (p : ℤ → Bool)
      (h : look env0.cells n ≡ Some t) (ax : AxesAre env0 q q-apart as' vss) (m : B.ListHas (Anywhere env0) as')
      (a : B.AllHave (Anywhere env0) is)
      (e : every_cell (codes env0 q q-apart vss) p (grid_at env0 q q-apart t i) ≡ true) (st : Steady env0 q q-apart l is i bs) where
    -- What is built of one cell at each place.
    pub cells-each : (b : Bool) (part : Ex) → ((cs : B') → FullIn (cell_ex b n (row_index q l as' is)) (N cs) → FullIn part (N cs)) →
        FullIn (comp_ex part (row_gens q l as')) (N bs)
    cells-each b part f = of-cells env0 q q-apart l b n t as' vss is i bs part p h ax m a e st f

    pub true-count-full : FullIn (true_count_ex q l as' n is) (N bs)
    true-count-full = fold-full env0 q q-apart false Fun.Sum _ bs
        (cells-each true _ (λ cs x. one-full (N cs) false (word Fun.ToInt) (cell_ex true n (row_index q l as' is)) x))

    number-sum-full : FullIn (number_sum_ex q l as' n is) (N bs)
    number-sum-full = fold-full env0 q q-apart false Fun.Sum _ bs (cells-each false _ (λ cs x. x))

    times-of-full : (k : Key) (x : Ex) → Anywhere env0 x → FullIn (times_of_ex q l k x as' n is) (N bs)
    times-of-full Key.MinOccur x g = fold-full env0 q q-apart true Fun.And _ bs (cells-each false _
        (λ cs c. or-full (N cs) _ _ (two-full (N cs) true Op2.Eq (number_ex (pos 0)) _ (number-full (N cs) (pos 0)) c)
        (le-full (N cs) x _ (in-here env0 x (N cs) g) c)))
    times-of-full Key.MaxOccur x g = fold-full env0 q q-apart true Fun.And _ bs (cells-each false _
        (λ cs c. or-full (N cs) _ _ (two-full (N cs) true Op2.Eq (number_ex (pos 0)) _ (number-full (N cs) (pos 0)) c)
        (le-full (N cs) _ x c (in-here env0 x (N cs) g))))
    times-of-full _ x g = truth-full (N bs) true

    times-full : (ms : List Mark) (es : Exs) → B.AllHave (Anywhere env0) es → FullIn (times_ex q l ms es as' n is) (N bs)
    times-full [] es g = truth-full (N bs) true
    times-full (flag k ∷ ms) es g = times-full ms es g
    times-full (valued k ∷ ms) no_exs g = truth-full (N bs) true
    times-full (valued k ∷ ms) (more_exs x es) g = two-full (N bs) true Op2.And _ _ (times-of-full k x g.0) (times-full ms es g.1)

    -- What the attributes of a multiset ask.
    pub counts-full : (ms : List Mark) (es : Exs) → B.AllHave (Anywhere env0) es → FullIn (counts_ex q l ms es as' n is) (N bs)
    counts-full ms es g = two-full (N bs) true Op2.And _ _ (size-full env0 (N bs) ms es _ g number-sum-full) (times-full ms es g)
