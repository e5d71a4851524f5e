-- The parts of structures are built of what has a property.
use Rattle.std.proofs.Common.{◌≡◌, refl, ℕ, suc, Bool, true, false, List, [], ◌∷◌, pos}
use Rattle.ess_semantics.specs.declared.words.Op1.{Op1}
use Rattle.ess_semantics.specs.declared.words.Op2.{Op2}
use Rattle.ess_semantics.specs.declared.words.Fun.{Fun}
use Rattle.ess_semantics.specs.declared.words.Key.{Key}
use Rattle.ess_semantics.specs.Values.{Text}
use Rattle.ess_semantics.specs.Trees.{binary, Mark, flag, valued, name_pat, Ex, Exs, number_ex, name_ex, comp_ex, cell_ex, no_exs, more_exs, Gens, no_gens, over, cond, Dom, ex1, ex2, fun1}
use Rattle.ess_repr_laws.specs.StructureParts.{Shape, add_ex, and_ex, or_ex, implies_ex, le_ex, all_ex, key_ex, size_ex, keys_ex, upto, row_gens, row_index, each_ex, row_ex, less_ex, at_most_ex, out_ex, zero_ex, zeros_ex, over_slots, pairs_dom, over_pairs, each_pair, next_ex, slots_ex, use_ex, first_ex, true_count_ex, place_count_ex, number_sum_ex, times_of_ex, times_ex, counts_ex}
use Rattle.ess_repr_structure_laws.proofs.BuiltShapes.{AxesHave}
use Rattle.ess_repr_structure_laws.proofs.BuiltStructures as B
use Rattle.ess_repr_structure_laws.proofs.BuiltStructures.{is_used, BuiltOf, one-has, two-have, word-has, lists-have}

module _ (q : ℕ → Text) (P : Ex → Type 0) (L : Dom → Type 0) {F H : Type 0} (built : BuiltOf q P L F H) where
  abbrev AllHave : Exs → Type 0
  AllHave = B.AllHave P

  abbrev DomHas : Dom → Type 0
  DomHas = B.DomHas P

  abbrev ListHas : List Dom → Type 0
  ListHas = B.ListHas P

  abbrev GensHave : Gens → Type 0
  GensHave = B.GensHave q P F

  -- ---- connectives and comparisons

  pub and-has : (a b : Ex) → P a → P b → P (and_ex a b)
  and-has a b g h = two-have q P L built true Op2.And a b refl g h

  pub or-has : (a b : Ex) → P a → P b → P (or_ex a b)
  or-has a b g h = two-have q P L built true Op2.Or a b refl g h

  pub implies-has : (a b : Ex) → P a → P b → P (implies_ex a b)
  implies-has a b g h = two-have q P L built true Op2.Implies a b refl g h

  pub le-has : (a b : Ex) → P a → P b → P (le_ex a b)
  le-has a b g h = two-have q P L built true Op2.Le a b refl g h

  pub eq-has : (a b : Ex) → P a → P b → P (ex2 true Op2.Eq a b)
  eq-has a b g h = two-have q P L built true Op2.Eq a b refl g h

  pub not-has : (a : Ex) → P a → P (ex1 true Op1.Not a)
  not-has a h = one-has q P L built true Op1.Not a refl h

  pub bar-has : (a : Ex) → P a → P (ex1 false Op1.Bar a)
  bar-has a h = one-has q P L built false Op1.Bar a refl h

  -- ---- folds

  pub all-has : (e : Ex) (gs : Gens) → P e → GensHave gs → P (all_ex e gs)
  all-has e gs h g = word-has q P L built true Fun.And (comp_ex e gs) refl (built.comps e gs h g)

  pub some-has : (e : Ex) (gs : Gens) → P e → GensHave gs → P (fun1 true Fun.Or (comp_ex e gs))
  some-has e gs h g = word-has q P L built true Fun.Or (comp_ex e gs) refl (built.comps e gs h g)

  pub sum-has : (e : Ex) (gs : Gens) → P e → GensHave gs → P (fun1 false Fun.Sum (comp_ex e gs))
  sum-has e gs h g = word-has q P L built false Fun.Sum (comp_ex e gs) refl (built.comps e gs h g)

  pub differ-has : (e : Ex) (gs : Gens) → P e → GensHave gs → P (fun1 true Fun.AllDiff (comp_ex e gs))
  differ-has e gs h g = word-has q P L built true Fun.AllDiff (comp_ex e gs) refl (built.comps e gs h g)

  pub number-has : (a : Ex) → P a → P (fun1 false Fun.ToInt a)
  number-has a h = word-has q P L built false Fun.ToInt a refl h

  -- ---- attributes

  pub key-has : (k : Key) (e m : Ex) → P e → P m → P (key_ex k e m)
  key-has Key.Size e m g h = and-has (le_ex e m) (le_ex m e) (le-has e m g h) (le-has m e h g)
  key-has Key.MinSize e m g h = le-has e m g h
  key-has Key.MaxSize e m g h = le-has m e h g
  key-has _ e m g h = built.truths true

  pub size-has : (ms : List Mark) (es : Exs) (m : Ex) → AllHave es → P m → P (size_ex ms es m)
  size-has [] es m a h = built.truths true
  size-has (flag k ∷ ms) es m a h = size-has ms es m a h
  size-has (valued k ∷ ms) no_exs m a h = built.truths true
  size-has (valued k ∷ ms) (more_exs e es) m a h = and-has (key_ex k e m) (size_ex ms es m) (key-has k e m a.0 h) (size-has ms es m a.1 h)

  pub keys-have : (f : Key → Ex) (ms : List Mark) → ((k : Key) → P (f k)) → P (keys_ex f ms)
  keys-have f [] h = built.truths true
  keys-have f (flag k ∷ ms) h = and-has (f k) (keys_ex f ms) (h k) (keys-have f ms h)
  keys-have f (valued k ∷ ms) h = keys-have f ms h

module _ (q : ℕ → Text) (P : Ex → Type 0) (L : Dom → Type 0) {F : Type 0} (built : BuiltOf q P L F (Unit {0})) where
  -- A cell.
  pub cell-in : (b : Bool) (n : Text) (es : Exs) → B.AllHave P es → P (cell_ex b n es)
  cell-in b n es a = built.cells b n es a tt

  -- ---- rows of cells

  pub add-has : (is : Exs) (e : Ex) → B.AllHave P is → P e → B.AllHave P (add_ex is e)
  add-has no_exs e a h = (h, tt)
  add-has (more_exs x is) e a h = (a.0, add-has is e a.1 h)

  -- One more name.
  pub name-added : (l : ℕ) (is : Exs) → B.AllHave P is → B.AllHave P (add_ex is (name_ex (q l)))
  name-added l is a = add-has is (name_ex (q l)) a (built.names l)

  pub upto-has : (n : Ex) → P n → B.DomHas P (upto n)
  upto-has n h = (built.one, (h, tt))

  pub row-gens-have : (l : ℕ) (as' : List Dom) → B.ListHas P as' → B.GensHave q P F (row_gens q l as')
  row-gens-have l [] a = tt
  row-gens-have l (d ∷ as') a = ((l, refl), a.0, row-gens-have (suc l) as' a.1)

  pub row-index-has : (l : ℕ) (as' : List Dom) (is : Exs) → B.AllHave P is → B.AllHave P (row_index q l as' is)
  row-index-has l [] is a = a
  row-index-has l (d ∷ as') is a = row-index-has (suc l) as' (add_ex is (name_ex (q l))) (name-added l is a)

  pub each-has : (l : ℕ) (as' : List Dom) (part : Ex) → B.ListHas P as' → P part → P (each_ex q l as' part)
  each-has l as' part a h = all-has q P L built part (row_gens q l as') h (row-gens-have l as' a)

  -- A cell behind the names of axes.
  pub cell-has : (b : Bool) (n : Text) (l : ℕ) (as' : List Dom) (is : Exs) → B.AllHave P is → P (cell_ex b n (row_index q l as' is))
  cell-has b n l as' is a = cell-in b n (row_index q l as' is) (row-index-has l as' is a)

  -- The axes of tables have the property.
  abbrev pub ShapesHave : List Shape → Type 0
  ShapesHave = AxesHave P

  row-has : (l : ℕ) (s : Shape) (is : Exs) → B.ListHas P s.axes → B.AllHave P is → P (row_ex q l s is)
  row-has l s is x a = built.comps (cell_ex s.truth s.name (row_index q l s.axes is)) (row_gens q l s.axes)
      (cell-has s.truth s.name l s.axes is a) (row-gens-have l s.axes x)

  less-rows : (o : Op2) (l : ℕ) (s : Shape) (is js : Exs) → is_used (binary o) ≡ true → B.ListHas P s.axes → B.AllHave P is →
      B.AllHave P js →
      P (ex2 true o (row_ex q l s is) (row_ex q l s js))
  less-rows o l s is js u x a b = two-have q P L built true o (row_ex q l s is) (row_ex q l s js) u (row-has l s is x a)
      (row-has l s js x b)

  pub less-has : (l : ℕ) (ss : List Shape) (is js : Exs) → ShapesHave ss → B.AllHave P is → B.AllHave P js → P (less_ex q l ss is js)
  less-has l [] is js x a b = built.truths false
  less-has l (s ∷ ss) is js x a b =
      or-has q P L built (ex2 true Op2.LexLt (row_ex q l s is) (row_ex q l s js))
      (and_ex (ex2 true Op2.LexLe (row_ex q l s is) (row_ex q l s js)) (less_ex q l ss is js))
      (less-rows Op2.LexLt l s is js refl x.0 a b)
      (and-has q P L built (ex2 true Op2.LexLe (row_ex q l s is) (row_ex q l s js)) (less_ex q l ss is js)
      (less-rows Op2.LexLe l s is js refl x.0 a b)
      (less-has l ss is js x.1 a b))

  pub at-most-has : (l : ℕ) (ss : List Shape) (is js : Exs) → ShapesHave ss → B.AllHave P is → B.AllHave P js → P (at_most_ex q l ss is js)
  at-most-has l [] is js x a b = built.truths true
  at-most-has l (s ∷ ss) is js x a b =
      or-has q P L built (ex2 true Op2.LexLt (row_ex q l s is) (row_ex q l s js))
      (and_ex (ex2 true Op2.LexLe (row_ex q l s is) (row_ex q l s js)) (at_most_ex q l ss is js))
      (less-rows Op2.LexLt l s is js refl x.0 a b)
      (and-has q P L built (ex2 true Op2.LexLe (row_ex q l s is) (row_ex q l s js)) (at_most_ex q l ss is js)
      (less-rows Op2.LexLe l s is js refl x.0 a b) (at-most-has l ss is js x.1 a b))

  out-has : (b : Bool) (n : Text) (is : Exs) → B.AllHave P is → P (out_ex q b n is)
  out-has true n is a = not-has q P L built (cell_ex true n is) (cell-in true n is a)
  out-has false n is a = eq-has q P L built (number_ex (pos 0)) (cell_ex false n is) built.zero (cell-in false n is a)

  pub zeros-have : (l : ℕ) (ss : List Shape) (is : Exs) → ShapesHave ss → B.AllHave P is → P (zeros_ex q l ss is)
  zeros-have l [] is x a = built.truths true
  zeros-have l (s ∷ ss) is x a =
      and-has q P L built (zero_ex q l s is) (zeros_ex q l ss is)
      (all-has q P L built (out_ex q s.truth s.name (row_index q l s.axes is)) (row_gens q l s.axes)
      (out-has s.truth s.name (row_index q l s.axes is) (row-index-has l s.axes is a)) (row-gens-have l s.axes x.0))
      (zeros-have l ss is x.1 a)

  -- ---- slots

  over-slots-have : (l : ℕ) (size test e : Ex) → P size → P test → P e → P (over_slots q l size test e)
  over-slots-have l size test e s t h = all-has q P L built e (over (name_pat (q l)) (upto size) (cond test no_gens)) h
      ((l, refl), upto-has size s, (t, tt))

  -- The number of the next slot.
  pub next-has : (l : ℕ) → P (next_ex q l)
  next-has l = two-have q P L built false Op2.Plus (name_ex (q l)) (number_ex (pos 1)) refl (built.names l) built.one

  pub next-added : (l : ℕ) (is : Exs) → B.AllHave P is → B.AllHave P (add_ex is (next_ex q l))
  next-added l is a = add-has is (next_ex q l) a (next-has l)

  -- The numbers of all slots but the last.
  pairs-have : (size : Ex) → P size → B.DomHas P (pairs_dom q size)
  pairs-have size s = upto-has (ex2 false Op2.Minus size (number_ex (pos 1)))
      (two-have q P L built false Op2.Minus size (number_ex (pos 1)) refl s built.one)

  over-pairs-have : (l : ℕ) (size test e : Ex) → P size → P test → P e → P (over_pairs q l size test e)
  over-pairs-have l size test e s t h = all-has q P L built e (over (name_pat (q l)) (pairs_dom q size) (cond test no_gens)) h
      ((l, refl), pairs-have size s, (t, tt))

  pub each-pair-has : (l : ℕ) (size e : Ex) → P size → P e → P (each_pair q l size e)
  each-pair-has l size e s h = each-has l (pairs_dom q size ∷ []) e (pairs-have size s, tt) h

  zeros-behind : (l : ℕ) (ss : List Shape) (is : Exs) → ShapesHave ss → B.AllHave P is → P
      (zeros_ex q (suc l) ss (add_ex is (name_ex (q l))))
  zeros-behind l ss is x a = zeros-have (suc l) ss (add_ex is (name_ex (q l))) x (name-added l is a)

  -- That a slot's cells are below those of the next one.
  pub rise-has : (l : ℕ) (ss : List Shape) (is : Exs) → ShapesHave ss → B.AllHave P is → P
      (less_ex q (suc l) ss (add_ex is (name_ex (q l))) (add_ex is (next_ex q l)))
  rise-has l ss is x a = less-has (suc l) ss (add_ex is (name_ex (q l))) (add_ex is (next_ex q l)) x (name-added l is a) (next-added l is a)

  -- What is said of slots beside what each one in use holds.
  abbrev pub slots_rest : ℕ → Ex → Ex → List Shape → Exs → Ex
  slots_rest l size m ss is =
      and_ex (over_pairs q l size (le_ex (next_ex q l) m) (less_ex q (suc l) ss (add_ex is (name_ex (q l))) (add_ex is (next_ex q l))))
      (over_slots q l size (ex1 true Op1.Not (le_ex (name_ex (q l)) m)) (zeros_ex q (suc l) ss (add_ex is (name_ex (q l)))))

  pub slots-rest-have : (l : ℕ) (size m : Ex) (ss : List Shape) (is : Exs) → P size → P m → ShapesHave ss → B.AllHave P is → P
      (slots_rest l size m ss is)
  slots-rest-have l size m ss is s h x a =
      and-has q P L built _ _ (over-pairs-have l size (le_ex (next_ex q l) m) _ s (le-has q P L built (next_ex q l) m (next-has l) h)
      (rise-has l ss is x a))
      (over-slots-have l size (ex1 true Op1.Not (le_ex (name_ex (q l)) m)) _ s
      (not-has q P L built (le_ex (name_ex (q l)) m) (le-has q P L built (name_ex (q l)) m (built.names l) h)) (zeros-behind l ss is x a))

  pub slots-have : (l : ℕ) (size m : Ex) (ss : List Shape) (is : Exs) (part : Ex) → P size → P m → ShapesHave ss → B.AllHave P is →
      P part → P
      (slots_ex q l size m ss is part)
  slots-have l size m ss is part s h x a p =
      and-has q P L built _ _ (over-slots-have l size (le_ex (name_ex (q l)) m) part s
      (le-has q P L built (name_ex (q l)) m (built.names l) h) p)
      (slots-rest-have l size m ss is s h x a)

  -- The same where it is said of each slot that it is in use.
  abbrev pub use_rest : ℕ → Ex → Ex → Ex → Ex → List Shape → Exs → Ex
  use_rest l size here next rise ss is =
      and_ex (each_pair q l size (implies_ex next rise))
      (over_slots q l size (ex1 true Op1.Not here) (zeros_ex q (suc l) ss (add_ex is (name_ex (q l)))))

  pub use-rest-have : (l : ℕ) (size here next rise : Ex) (ss : List Shape) (is : Exs) → P size → P here → P next → P rise → ShapesHave ss →
      B.AllHave P is →
      P (use_rest l size here next rise ss is)
  use-rest-have l size here next rise ss is s h n r x a =
      and-has q P L built _ _ (each-pair-has l size (implies_ex next rise) s (implies-has q P L built next rise n r))
      (over-slots-have l size (ex1 true Op1.Not here) _ s (not-has q P L built here h) (zeros-behind l ss is x a))

  pub use-has : (l : ℕ) (size here next rise : Ex) (ss : List Shape) (is : Exs) (part : Ex) → P size → P here → P next → P rise → ShapesHave
      ss → B.AllHave P is → P part →
      P (use_ex q l size here next rise ss is part)
  use-has l size here next rise ss is part s h n r x a p = and-has q P L built _ _ (over-slots-have l size here part s h p)
      (use-rest-have l size here next rise ss is s h n r x a)

  -- That slots in use stand first.
  pub first-has : (l : ℕ) (size here next : Ex) → P size → P here → P next → P (first_ex q l size here next)
  first-has l size here next s h n = each-pair-has l size (implies_ex next here) s (implies-has q P L built next here n h)

  -- ---- counts

  pub true-count-has : (l : ℕ) (as' : List Dom) (n : Text) (is : Exs) → B.ListHas P as' → B.AllHave P is → P (true_count_ex q l as' n is)
  true-count-has l as' n is x a =
      sum-has q P L built (fun1 false Fun.ToInt (cell_ex true n (row_index q l as' is))) (row_gens q l as')
      (number-has q P L built (cell_ex true n (row_index q l as' is)) (cell-has true n l as' is a)) (row-gens-have l as' x)

  pub place-count-has : (l : ℕ) (as' : List Dom) → B.ListHas P as' → P (place_count_ex q l as')
  place-count-has l as' x = sum-has q P L built (number_ex (pos 1)) (row_gens q l as') built.one (row-gens-have l as' x)

  number-sum-has : (l : ℕ) (as' : List Dom) (n : Text) (is : Exs) → B.ListHas P as' → B.AllHave P is → P (number_sum_ex q l as' n is)
  number-sum-has l as' n is x a = sum-has q P L built (cell_ex false n (row_index q l as' is)) (row_gens q l as')
      (cell-has false n l as' is a)
      (row-gens-have l as' x)

  times-of-has : (l : ℕ) (k : Key) (e : Ex) (as' : List Dom) (n : Text) (is : Exs) → P e → B.ListHas P as' → B.AllHave P is → P
      (times_of_ex q l k e as' n is)
  times-of-has l Key.MinOccur e as' n is h x a =
      let c = cell-has false n l as' is a in
      each-has l as' _ x (or-has q P L built _ _ (eq-has q P L built (number_ex (pos 0))
      (cell_ex false n (row_index q l as' is)) built.zero c)
      (le-has q P L built e (cell_ex false n (row_index q l as' is)) h c))
  times-of-has l Key.MaxOccur e as' n is h x a =
      let c = cell-has false n l as' is a in
      each-has l as' _ x (or-has q P L built _ _ (eq-has q P L built (number_ex (pos 0))
      (cell_ex false n (row_index q l as' is)) built.zero c)
      (le-has q P L built (cell_ex false n (row_index q l as' is)) e c h))
  times-of-has l _ e as' n is h x a = built.truths true

  times-have : (l : ℕ) (ms : List Mark) (es : Exs) (as' : List Dom) (n : Text) (is : Exs) → B.AllHave P es → B.ListHas P as' →
      B.AllHave P is → P
      (times_ex q l ms es as' n is)
  times-have l [] es as' n is g x a = built.truths true
  times-have l (flag k ∷ ms) es as' n is g x a = times-have l ms es as' n is g x a
  times-have l (valued k ∷ ms) no_exs as' n is g x a = built.truths true
  times-have l (valued k ∷ ms) (more_exs e es) as' n is g x a =
      and-has q P L built (times_of_ex q l k e as' n is) (times_ex q l ms es as' n is) (times-of-has l k e as' n is g.0 x a)
      (times-have l ms es as' n is g.1 x a)

  pub counts-have : (l : ℕ) (ms : List Mark) (es : Exs) (as' : List Dom) (n : Text) (is : Exs) → B.AllHave P es → B.ListHas P as' →
      B.AllHave P is → P
      (counts_ex q l ms es as' n is)
  counts-have l ms es as' n is g x a =
      and-has q P L built (size_ex ms es (number_sum_ex q l as' n is)) (times_ex q l ms es as' n is)
      (size-has q P L built ms es (number_sum_ex q l as' n is) g (number-sum-has l as' n is x a)) (times-have l ms es as' n is g x a)
