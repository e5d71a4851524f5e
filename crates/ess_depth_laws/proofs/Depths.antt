-- No more names are bound around a place than in the whole, nor than a larger number.
use Rattle.std.proofs.Common.{ℕ, zero, suc, ◌+◌, ◌≤◌, le_refl, arith}
use Rattle.ess_semantics.specs.Trees.{name_pat, tuple_pat, Ex, Exs, number_ex, truth_ex, name_ex, node_ex, matrix_ex, comp_ex, cell_ex, seen_ex, no_exs, more_exs, Gens, no_gens, over, from, cond, Dom, bool_dom, int_dom, name_dom, tuple_dom, record_dom, matrix_dom, set_dom, mset_dom, function_dom, relation_dom, partition_dom}
use Rattle.conjure_model_laws.specs.Printed.{binders, binders_of_all, binders_of_gens, binders_of_dom}
use Rattle.ess_depth_laws.specs.Depth.{NestsWithin, AllNestWithin, NestBehind, DomNestsWithin}

-- ---- numbers

first-of : (a b n : ℕ) → a + b ≤ n → a ≤ n
first-of a b n l = omega (arith, l)

second-of : (a b n : ℕ) → a + b ≤ n → b ≤ n
second-of a b n l = omega (arith, l)

-- a and b are those of a generator and of those behind it, c those behind all.
here-of : (a b c n : ℕ) → a + b + c ≤ n → a ≤ n
here-of a b c n l = omega (arith, l)

later-of : (a b c n : ℕ) → a + b + c ≤ n → b + c ≤ n
later-of a b c n l = omega (arith, l)

none-of : (a c : ℕ) → suc a + c ≤ 0 → ⊥
none-of a c l = omega (arith, l)

here-taken : (a b c n : ℕ) → suc (a + b) + c ≤ suc n → a ≤ suc n
here-taken a b c n l = omega (arith, l)

later-taken : (a b c n : ℕ) → suc (a + b) + c ≤ suc n → b + c ≤ n
later-taken a b c n l = omega (arith, l)

here-passed : (a b c n : ℕ) → suc (a + b) + c ≤ n → a ≤ n
here-passed a b c n l = omega (arith, l)

later-passed : (a b c n : ℕ) → suc (a + b) + c ≤ n → b + c ≤ n
later-passed a b c n l = omega (arith, l)

-- ---- than are bound in the whole

mutual
  ex-binders : (e : Ex) (n : ℕ) → binders e ≤ n → NestsWithin n e
  ex-binders (number_ex k) n l = tt
  ex-binders (truth_ex b) n l = tt
  ex-binders (name_ex a) n l = tt
  ex-binders (node_ex b op es) n l = all-binders es n l
  ex-binders (matrix_ex es d) n l = all-binders es n l
  ex-binders (comp_ex e gs) n l = gens-binders gs n (binders e) e l (λ k m. ex-binders e k m)
  ex-binders (cell_ex b a es) n l = all-binders es n l
  ex-binders (seen_ex r d ns es) n l = tt

  all-binders : (es : Exs) (n : ℕ) → binders_of_all es ≤ n → AllNestWithin n es
  all-binders no_exs n l = tt
  all-binders (more_exs e es) n l =
      (ex-binders e n (first-of (binders e) (binders_of_all es) n l), all-binders es n (second-of (binders e) (binders_of_all es) n l))

  gens-binders : (gs : Gens) (n c : ℕ) (x : Ex) → binders_of_gens gs + c ≤ n → ((k : ℕ) → c ≤ k → NestsWithin k x) →
      NestBehind n gs (λ k. NestsWithin k x)
  gens-binders no_gens n c x l f = f n (second-of 0 c n l)
  gens-binders (over (tuple_pat ps) d gs) n c x l f = (
    dom-binders d n (here-passed (binders_of_dom d) (binders_of_gens gs) c n l),
    gens-binders gs n c x (later-passed (binders_of_dom d) (binders_of_gens gs) c n l) f,
  )
  gens-binders (over (name_pat a) d gs) zero c x l f = none-of (binders_of_dom d + binders_of_gens gs) c l
  gens-binders (over (name_pat a) d gs) (suc n) c x l f = (
    dom-binders d (suc n) (here-taken (binders_of_dom d) (binders_of_gens gs) c n l),
    gens-binders gs n c x (later-taken (binders_of_dom d) (binders_of_gens gs) c n l) f,
  )
  gens-binders (from (tuple_pat ps) e gs) n c x l f = (
    ex-binders e n (here-passed (binders e) (binders_of_gens gs) c n l),
    gens-binders gs n c x (later-passed (binders e) (binders_of_gens gs) c n l) f,
  )
  gens-binders (from (name_pat a) e gs) zero c x l f = none-of (binders e + binders_of_gens gs) c l
  gens-binders (from (name_pat a) e gs) (suc n) c x l f = (
    ex-binders e (suc n) (here-taken (binders e) (binders_of_gens gs) c n l),
    gens-binders gs n c x (later-taken (binders e) (binders_of_gens gs) c n l) f,
  )
  gens-binders (cond e gs) n c x l f = (
    ex-binders e n (here-of (binders e) (binders_of_gens gs) c n l),
    gens-binders gs n c x (later-of (binders e) (binders_of_gens gs) c n l) f,
  )

  dom-binders : (d : Dom) (n : ℕ) → binders_of_dom d ≤ n → DomNestsWithin n d
  dom-binders bool_dom n l = tt
  dom-binders (int_dom rs es) n l = all-binders es n l
  dom-binders (name_dom a) n l = tt
  dom-binders (tuple_dom ds) n l = tt
  dom-binders (record_dom fs ds) n l = tt
  dom-binders (matrix_dom is d) n l = tt
  dom-binders (set_dom ms es d) n l = tt
  dom-binders (mset_dom ms es d) n l = tt
  dom-binders (function_dom ms es d c) n l = tt
  dom-binders (relation_dom ms es ds) n l = tt
  dom-binders (partition_dom ms es d) n l = tt

-- No more names are bound around a place than in the whole.
pub within-binders : (e : Ex) → NestsWithin (binders e) e
within-binders e = ex-binders e (binders e) (le_refl (binders e))

-- ---- than a larger number

not-above : (n : ℕ) → suc n ≤ 0 → ⊥
not-above n l = omega (arith, l)

below-both : (n m : ℕ) → suc n ≤ suc m → n ≤ m
below-both n m l = omega (arith, l)

mutual
  -- No more are bound than a larger number.
  pub further : (e : Ex) (n m : ℕ) → n ≤ m → NestsWithin n e → NestsWithin m e
  further (number_ex k) n m l h = tt
  further (truth_ex b) n m l h = tt
  further (name_ex a) n m l h = tt
  further (node_ex b op es) n m l h = all-further es n m l h
  further (matrix_ex es d) n m l h = all-further es n m l h
  further (comp_ex e gs) n m l h = gens-further gs n m e l (λ j k p. further e j k p) h
  further (cell_ex b a es) n m l h = all-further es n m l h
  further (seen_ex r d ns es) n m l h = tt

  -- The same of operands.
  pub all-further : (es : Exs) (n m : ℕ) → n ≤ m → AllNestWithin n es → AllNestWithin m es
  all-further no_exs n m l h = tt
  all-further (more_exs e es) n m l h = (further e n m l h.0, all-further es n m l h.1)

  -- The same of generators.
  pub gens-further : (gs : Gens) (n m : ℕ) (x : Ex) → n ≤ m → ((j k : ℕ) → j ≤ k → NestsWithin j x → NestsWithin k x) →
      NestBehind n gs (λ k. NestsWithin k x) → NestBehind m gs (λ k. NestsWithin k x)
  gens-further no_gens n m x l f h = f n m l h
  gens-further (over (tuple_pat ps) d gs) n m x l f h = (dom-further d n m l h.0, gens-further gs n m x l f h.1)
  gens-further (over (name_pat a) d gs) zero m x l f h = absurd h
  gens-further (over (name_pat a) d gs) (suc n) zero x l f h = absurd (not-above n l)
  gens-further (over (name_pat a) d gs) (suc n) (suc m) x l f h =
      (dom-further d (suc n) (suc m) l h.0, gens-further gs n m x (below-both n m l) f h.1)
  gens-further (from (tuple_pat ps) e gs) n m x l f h = (further e n m l h.0, gens-further gs n m x l f h.1)
  gens-further (from (name_pat a) e gs) zero m x l f h = absurd h
  gens-further (from (name_pat a) e gs) (suc n) zero x l f h = absurd (not-above n l)
  gens-further (from (name_pat a) e gs) (suc n) (suc m) x l f h =
      (further e (suc n) (suc m) l h.0, gens-further gs n m x (below-both n m l) f h.1)
  gens-further (cond e gs) n m x l f h = (further e n m l h.0, gens-further gs n m x l f h.1)

  -- The same of a range.
  pub dom-further : (d : Dom) (n m : ℕ) → n ≤ m → DomNestsWithin n d → DomNestsWithin m d
  dom-further bool_dom n m l h = tt
  dom-further (int_dom rs es) n m l h = all-further es n m l h
  dom-further (name_dom a) n m l h = tt
  dom-further (tuple_dom ds) n m l h = tt
  dom-further (record_dom fs ds) n m l h = tt
  dom-further (matrix_dom is d) n m l h = tt
  dom-further (set_dom ms es d) n m l h = tt
  dom-further (mset_dom ms es d) n m l h = tt
  dom-further (function_dom ms es d c) n m l h = tt
  dom-further (relation_dom ms es ds) n m l h = tt
  dom-further (partition_dom ms es d) n m l h = tt
