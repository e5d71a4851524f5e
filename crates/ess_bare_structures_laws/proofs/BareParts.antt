-- Parts that structures are built of are bare and in scope: connectives, comparisons, folds over generators, and rows of cells.
use Rattle.std.proofs.Common.{◌≡◌, refl, sym, ap, ◌∙◌, ℕ, suc, Bool, true, false, ◌||◌, not, List, [], ◌∷◌, ℤ, Option, Some, if◌then◌else◌}
use Rattle.ess_semantics.specs.declared.words.Op1.{Op1}
use Rattle.ess_semantics.specs.declared.words.Op2.{Op2}
use Rattle.ess_semantics.specs.declared.words.Fun.{Fun}
use Rattle.ess_semantics.specs.declared.words.Key.{Key}
use Rattle.ess_semantics.specs.Values.{Text}
use Rattle.ess_semantics.specs.Order.{same_text}
use Rattle.ess_semantics.specs.Names.{Names, look}
use Rattle.ess_semantics.specs.Trees.{name_pat, Ex, Exs, number_ex, truth_ex, name_ex, comp_ex, cell_ex, no_exs, more_exs, Gens, no_gens, over, cond, Dom, ex1, ex2, fun1, Mark}
use Rattle.ess_semantics.specs.Scoped.{with_names, Scoped, ScopedExs, ScopedGens, ScopedDom}
use Rattle.ess_repr_laws.specs.StructureParts.{add_ex, and_ex, or_ex, implies_ex, le_ex, all_ex, key_ex, size_ex, upto}
use Rattle.ess_flat_laws.specs.Flat.{denied, both, either, implied, equal, below, at_most, sum as sum_sign, difference}
use Rattle.ess_bare_laws.specs.Bare.{LexSign, all_hold, Bare, number, truth, named, cell, one, two, power, chosen, folded, added, ordered, Indices, no_index, one_index, Row, row, Ranging, at_end, through, where_holds, Axes, no_axis, along, Range, numbers, no_bound, one_bound}
use Rattle.ess_nested_laws.proofs.NestedForms.{Sizes, no_sizes, one_size}
use Rattle.ess_bare_structures_laws.specs.Laws.{none}
use Rattle.ess_bare_structures_laws.proofs.Ranged.{Ranged, AllRanged, RangedGens, RangedDom}

-- ---- names with marks, as names in scope

-- Whether the name is one of them.
abbrev pub known : Names Bool → Text → Bool
known [] = none
known (p ∷ r) = with_names (known r) (name_pat p.0)

or-first : (b c : Bool) → b ≡ true → b || c ≡ true
or-first true c h = refl
or-first false c h = cc

or-second : (b c : Bool) → c ≡ true → b || c ≡ true
or-second true c h = refl
or-second false c h = h

-- A name with a mark is one.
pub look-known : (r : Names Bool) (a : Text) (m : Bool) → look r a ≡ Some m → known r a ≡ true
look-known [] a m h = cc
look-known (p ∷ r) a m h = go (same_text p.0 a) refl (look-known r a m)
  where
    go : (b : Bool) → same_text p.0 a ≡ b → (look r a ≡ Some m → known r a ≡ true) → known (p ∷ r) a ≡ true
    go true e f = or-second (known r a) (same_text p.0 a) e
    go false e f =
        let l : look (p ∷ r) a ≡ look r a = ap (λ c. if c then Some p.1 else look r a) e in
        or-first (known r a) (same_text p.0 a) (f (sym l ∙ h))

module _ (cells : Text → Option (Bool × ℕ)) where
  -- ---- bare and in scope

  -- An expression is bare, and in scope, where these names are bound.
  pub record Fine (r : Names Bool) (e : Ex) (m : Bool) : Type 0 where
    pub bare : Bare cells r e m
    pub scoped : Scoped none (known r) (known r) e
    pub ranged : Ranged e

  -- So are several indices.
  pub record FineIndex (r : Names Bool) (es : Exs) (k : ℕ) : Type 0 where
    pub bare : Indices cells r es k
    pub scoped : ScopedExs none (known r) (known r) es
    pub ranged : AllRanged es

  -- So is a range.
  pub record FineDom (r : Names Bool) (d : Dom) (m : Bool) : Type 0 where
    pub bare : Range cells r d m
    pub scoped : ScopedDom none (known r) (known r) d
    pub ranged : RangedDom d

  -- So are generators, with conditions and without; t are the names behind them.
  pub record FineGens (r : Names Bool) (gs : Gens) (t : Names Bool) : Type 0 where
    pub bare : Ranging cells r gs t
    pub scoped : (e : Ex) → Scoped none (known t) (known t) e → ScopedGens none (known r) (known r) gs (λ s o. Scoped none s o e)
    pub ranged : RangedGens gs

  pub record FineAxes (r : Names Bool) (gs : Gens) (t : Names Bool) : Type 0 where
    pub bare : Axes cells r gs t
    pub scoped : (e : Ex) → Scoped none (known t) (known t) e → ScopedGens none (known r) (known r) gs (λ s o. Scoped none s o e)
    pub ranged : RangedGens gs

  -- So is a row.
  pub record FineRow (r : Names Bool) (e : Ex) (m : Bool) : Type 0 where
    pub bare : Row cells r e m
    pub scoped : Scoped none (known r) (known r) e
    pub ranged : Ranged e

  -- ---- numbers, truth values and names

  pub number-fine : (r : Names Bool) (n : ℤ) → Fine r (number_ex n) false
  number-fine r n = record { bare = number; scoped = tt; ranged = tt }

  pub truth-fine : (r : Names Bool) (b : Bool) → Fine r (truth_ex b) true
  truth-fine r b = record { bare = truth; scoped = tt; ranged = tt }

  pub name-fine : (r : Names Bool) (a : Text) (m : Bool) → look r a ≡ Some m → Fine r (name_ex a) m
  name-fine r a m h = record { bare = named h; scoped = look-known r a m h; ranged = tt }

  pub cell-fine : (r : Names Bool) (b : Bool) (n : Text) (es : Exs) (k : ℕ) → cells n ≡ Some (b, k) → FineIndex r es k →
      Fine r (cell_ex b n es) b
  cell-fine r b n es k h i = record { bare = cell h i.bare; scoped = i.scoped; ranged = i.ranged }

  -- ---- connectives and comparisons

  pub and-fine : {r : Names Bool} {a b : Ex} → Fine r a true → Fine r b true → Fine r (and_ex a b) true
  and-fine g h = record { bare = two both g.bare h.bare; scoped = (g.scoped, (h.scoped, tt)); ranged = (g.ranged, (h.ranged, tt)) }

  pub or-fine : {r : Names Bool} {a b : Ex} → Fine r a true → Fine r b true → Fine r (or_ex a b) true
  or-fine g h = record { bare = two either g.bare h.bare; scoped = (g.scoped, (h.scoped, tt)); ranged = (g.ranged, (h.ranged, tt)) }

  pub implies-fine : {r : Names Bool} {a b : Ex} → Fine r a true → Fine r b true → Fine r (implies_ex a b) true
  implies-fine g h = record {
    bare = two implied g.bare h.bare;
    scoped = (g.scoped, (h.scoped, tt));
    ranged = (g.ranged, (h.ranged, tt));
  }

  pub le-fine : {r : Names Bool} {a b : Ex} → Fine r a false → Fine r b false → Fine r (le_ex a b) true
  le-fine g h = record { bare = two at_most g.bare h.bare; scoped = (g.scoped, (h.scoped, tt)); ranged = (g.ranged, (h.ranged, tt)) }

  pub below-fine : {r : Names Bool} {a b : Ex} → Fine r a false → Fine r b false → Fine r (ex2 true Op2.Lt a b) true
  below-fine g h = record { bare = two below g.bare h.bare; scoped = (g.scoped, (h.scoped, tt)); ranged = (g.ranged, (h.ranged, tt)) }

  pub eq-fine : {r : Names Bool} {a b : Ex} → Fine r a false → Fine r b false → Fine r (ex2 true Op2.Eq a b) true
  eq-fine g h = record { bare = two equal g.bare h.bare; scoped = (g.scoped, (h.scoped, tt)); ranged = (g.ranged, (h.ranged, tt)) }

  pub not-fine : {r : Names Bool} {a : Ex} → Fine r a true → Fine r (ex1 true Op1.Not a) true
  not-fine g = record { bare = one denied g.bare; scoped = (g.scoped, tt); ranged = (g.ranged, tt) }

  pub plus-fine : {r : Names Bool} {a b : Ex} → Fine r a false → Fine r b false → Fine r (ex2 false Op2.Plus a b) false
  plus-fine g h = record {
    bare = two sum_sign g.bare h.bare;
    scoped = (g.scoped, (h.scoped, tt));
    ranged = (g.ranged, (h.ranged, tt));
  }

  pub minus-fine : {r : Names Bool} {a b : Ex} → Fine r a false → Fine r b false → Fine r (ex2 false Op2.Minus a b) false
  minus-fine g h = record {
    bare = two difference g.bare h.bare;
    scoped = (g.scoped, (h.scoped, tt));
    ranged = (g.ranged, (h.ranged, tt));
  }

  pub power-fine : {r : Names Bool} {a b : Ex} → Fine r a false → Fine r b false → Fine r (ex2 false Op2.Pow a b) false
  power-fine g h = record { bare = power g.bare h.bare; scoped = (g.scoped, (h.scoped, tt)); ranged = (g.ranged, (h.ranged, tt)) }

  pub chosen-fine : {r : Names Bool} {a : Ex} → Fine r a true → Fine r (fun1 false Fun.ToInt a) false
  chosen-fine g = record { bare = chosen g.bare; scoped = (g.scoped, tt); ranged = (g.ranged, tt) }

  -- ---- generators

  -- From 1 to a number.
  pub upto-fine : {r : Names Bool} {n : Ex} → Fine r n false → FineDom r (upto n) false
  upto-fine g = record {
    bare = numbers refl (one_bound number (one_bound g.bare no_bound));
    scoped = (tt, (g.scoped, tt));
    ranged = (tt, g.ranged);
  }

  pub end-fine : (r : Names Bool) → FineGens r no_gens r
  end-fine r = record { bare = at_end; scoped = λ e k. k; ranged = tt }

  pub through-fine : {r t : Names Bool} {m : Bool} {a : Text} {d : Dom} {gs : Gens} → known r a ≡ false → FineDom r d m →
      FineGens ((a, m) ∷ r) gs t → FineGens r (over (name_pat a) d gs) t
  through-fine n g h = record {
    bare = through g.bare h.bare;
    scoped = λ e k. (ap not n, g.scoped, h.scoped e k);
    ranged = (g.ranged, h.ranged);
  }

  pub where-fine : {r t : Names Bool} {c : Ex} {gs : Gens} → Fine r c true → FineGens r gs t → FineGens r (cond c gs) t
  where-fine g h = record { bare = where_holds g.bare h.bare; scoped = λ e k. (g.scoped, h.scoped e k); ranged = (g.ranged, h.ranged) }

  pub none-fine : (r : Names Bool) → FineAxes r no_gens r
  none-fine r = record { bare = no_axis; scoped = λ e k. k; ranged = tt }

  pub along-fine : {r t : Names Bool} {m : Bool} {a : Text} {d : Dom} {gs : Gens} → known r a ≡ false → FineDom r d m →
      FineAxes ((a, m) ∷ r) gs t → FineAxes r (over (name_pat a) d gs) t
  along-fine n g h = record {
    bare = along g.bare h.bare;
    scoped = λ e k. (ap not n, g.scoped, h.scoped e k);
    ranged = (g.ranged, h.ranged);
  }

  axes-range : {r t : Names Bool} {gs : Gens} → Axes cells r gs t → Ranging cells r gs t
  axes-range no_axis = at_end
  axes-range (along g h) = through g (axes-range h)

  -- Axes are generators.
  pub axes-fine : {r t : Names Bool} {gs : Gens} → FineAxes r gs t → FineGens r gs t
  axes-fine g = record { bare = axes-range g.bare; scoped = g.scoped; ranged = g.ranged }

  -- ---- folds

  pub all-fine : {r t : Names Bool} {e : Ex} {gs : Gens} → FineGens r gs t → Fine t e true → Fine r (all_ex e gs) true
  all-fine {r} {t} {e} g h = record {
    bare = folded all_hold g.bare h.bare;
    scoped = (g.scoped e h.scoped, tt);
    ranged = ((g.ranged, h.ranged), tt);
  }

  pub sum-fine : {r t : Names Bool} {e : Ex} {gs : Gens} → FineAxes r gs t → Fine t e false →
      Fine r (fun1 false Fun.Sum (comp_ex e gs)) false
  sum-fine {r} {t} {e} g h = record {
    bare = added g.bare h.bare;
    scoped = (g.scoped e h.scoped, tt);
    ranged = ((g.ranged, h.ranged), tt);
  }

  pub row-fine : {r t : Names Bool} {e : Ex} {gs : Gens} {m : Bool} → FineAxes r gs t → Fine t e m → FineRow r (comp_ex e gs) m
  row-fine {r} {t} {e} g h = record {
    bare = row g.bare h.bare;
    scoped = g.scoped e h.scoped;
    ranged = (g.ranged, h.ranged);
  }

  pub lex-fine : {r : Names Bool} {o : Op2} {a b : Ex} {m : Bool} → LexSign o → FineRow r a m → FineRow r b m → Fine r (ex2 true o a b) true
  lex-fine s g h = record { bare = ordered s g.bare h.bare; scoped = (g.scoped, (h.scoped, tt)); ranged = (g.ranged, (h.ranged, tt)) }

  -- ---- index lists

  pub no-index-fine : (r : Names Bool) → FineIndex r no_exs 0
  no-index-fine r = record { bare = no_index; scoped = tt; ranged = tt }

  add-bare : {r : Names Bool} {is : Exs} {k : ℕ} {e : Ex} {m : Bool} → Indices cells r is k → Bare cells r e m →
      Indices cells r (add_ex is e) (suc k)
  add-bare no_index b = one_index b no_index
  add-bare (one_index a i) b = one_index a (add-bare i b)

  add-scoped : (s : Text → Bool) (is : Exs) (e : Ex) → ScopedExs none s s is → Scoped none s s e → ScopedExs none s s (add_ex is e)
  add-scoped s no_exs e i h = (h, tt)
  add-scoped s (more_exs x is) e i h = (i.0, add-scoped s is e i.1 h)

  add-ranged : (is : Exs) (e : Ex) → AllRanged is → Ranged e → AllRanged (add_ex is e)
  add-ranged no_exs e i h = (h, tt)
  add-ranged (more_exs x is) e i h = (i.0, add-ranged is e i.1 h)

  -- One more index.
  pub add-fine : {r : Names Bool} {is : Exs} {k : ℕ} {e : Ex} {m : Bool} → FineIndex r is k → Fine r e m → FineIndex r (add_ex is e) (suc k)
  add-fine {r} {is} {k} {e} i h = record {
    bare = add-bare i.bare h.bare;
    scoped = add-scoped (known r) is e i.scoped h.scoped;
    ranged = add-ranged is e i.ranged h.ranged;
  }

  -- ---- sizes

  key-fine : (r : Names Bool) (k : Key) (e m : Ex) → Fine r e false → Fine r m false → Fine r (key_ex k e m) true
  key-fine r Key.Size e m g h = and-fine (le-fine g h) (le-fine h g)
  key-fine r Key.MinSize e m g h = le-fine g h
  key-fine r Key.MaxSize e m g h = le-fine h g
  key-fine r _ e m g h = truth-fine r true

  -- What written sizes ask of a number.
  pub sizes-fine : {r : Names Bool} {ms : List Mark} {es : Exs} (m : Ex) → Sizes ms es → Fine r m false → Fine r (size_ex ms es m) true
  sizes-fine {r} m no_sizes h = truth-fine r true
  sizes-fine {r} m (one_size {k} {n} q s) h = and-fine (key-fine r k _ m (number-fine r _) h) (sizes-fine m s h)
