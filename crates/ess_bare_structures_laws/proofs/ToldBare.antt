-- A bare tree whose bound names are told apart is bare.
use Rattle.std.proofs.Common.{◌≡◌, refl, sym, ap, ◌∙◌, ℕ, suc, ◌≤◌, ◌<◌, Bool, true, false, [], ◌∷◌, Option, Some, if◌then◌else◌, arith}
use Rattle.ess_semantics.specs.Lists.{or_default}
use Rattle.ess_semantics.specs.Values.{Text}
use Rattle.ess_semantics.specs.Order.{same_text}
use Rattle.ess_semantics.specs.Names.{Names, look}
use Rattle.ess_semantics.specs.Trees.{Ex, Exs, Gens, Dom}
use Rattle.ess_semantics.proofs.Texts.{same_text-itself}
use Rattle.conjure_model_laws.specs.ToldApart.{reserved, renamed, told, told_all, told_gens, told_dom}
use Rattle.ess_chain_names_laws.proofs.ToldNames.{on, ex-up, all-up, gens-up, dom-up}
use Rattle.ess_bare_laws.specs.Bare.{Bare, number, truth, named, cell, one, two, power, chosen, folded, added, ordered, Indices, no_index, one_index, Row, row, Ranging, at_end, through, where_holds, Axes, no_axis, along, Range, truths, numbers, Bounds, no_bound, one_bound}

module _ (cells : Text → Option (Bool × ℕ)) (lim : ℕ)
    (differ : (i j : ℕ) → i < j → j < lim → same_text (reserved j) (reserved i) ≡ false) where
  -- r are marks of names, t those of what they have become in u, where k is the next number.
  pub record Kept (r t : Names Bool) (u : Names Text) (k : ℕ) : Type 0 where
    pub marks : (a : Text) (m : Bool) → look r a ≡ Some m →
        (look t (renamed u a) ≡ Some m) × ((j : ℕ) → k ≤ j → j < lim → same_text (reserved j) (renamed u a) ≡ false)

  later : (r t : Names Bool) (u : Names Text) (k i : ℕ) → k ≤ i → Kept r t u k → Kept r t u i
  later r t u k i l x = record { marks = λ a m h. let p = x.marks a m h in (p.0, λ j y z. p.1 j (on k i j l y) z) }

  some-same : (m n : Bool) → Some m ≡ Some n → m ≡ n
  some-same m n h = cc

  bound : (a : Text) (n : Bool) (r t : Names Bool) (u : Names Text) (k : ℕ) → k < lim → Kept r t u k →
      Kept ((a, n) ∷ r) ((reserved k, n) ∷ t) ((a, reserved k) ∷ u) (suc k)
  bound a n r t u k l x = record { marks = λ b m h. go b m (same_text a b) refl h }
    where
      new : (b : Text) (m : Bool) (q : Bool) → Some n ≡ Some m → q ≡ true →
          (if q then Some n else look t (reserved k)) ≡ Some m
      new b m true h e = h
      new b m false h e = cc

      old : (b : Text) (m : Bool) (q : Bool) → look t (renamed u b) ≡ Some m → q ≡ false →
          (if q then Some n else look t (renamed u b)) ≡ Some m
      old b m false h e = h
      old b m true h e = cc

      go : (b : Text) (m : Bool) (q : Bool) → same_text a b ≡ q → (if same_text a b then Some n else look r b) ≡ Some m →
          (look ((reserved k, n) ∷ t) (or_default (if same_text a b then Some (reserved k) else look u b) b) ≡ Some m)
          × ((j : ℕ) → suc k ≤ j → j < lim →
          same_text (reserved j) (or_default (if same_text a b then Some (reserved k) else look u b) b) ≡ false)
      go b m true e h =
          let z : Some n ≡ Some m = sym (ap (λ c. if c then Some n else look r b) e) ∙ h in
          let w : or_default (if same_text a b then Some (reserved k) else look u b) b ≡ reserved k =
          ap (λ c. or_default (if c then Some (reserved k) else look u b) b) e in (
            ap (λ y. look ((reserved k, n) ∷ t) y) w
                ∙ new b m (same_text (reserved k) (reserved k)) z (same_text-itself (reserved k)),
            λ j p s. ap (same_text (reserved j)) w ∙ differ k j (omega (arith, p)) s,
          )
      go b m false e h =
          let z : look r b ≡ Some m = sym (ap (λ c. if c then Some n else look r b) e) ∙ h in
          let w : or_default (if same_text a b then Some (reserved k) else look u b) b ≡ renamed u b =
          ap (λ c. or_default (if c then Some (reserved k) else look u b) b) e in
          let p = x.marks b m z in (
            ap (λ y. look ((reserved k, n) ∷ t) y) w
                ∙ old b m (same_text (reserved k) (renamed u b)) p.0 (p.1 k (omega arith) l),
            λ j y s. ap (same_text (reserved j)) w ∙ p.1 j (omega (arith, y)) s,
          )

  -- Names behind generators.
  pub record Behind (g : Names Bool → Names Bool → Type 0) (r t : Names Bool) (u : Names Text) (k : ℕ) : Type 0 where
    pub names : Names Bool
    pub made : g t names
    pub kept : Kept r names u k

  mutual
    pub told-bare : {r : Names Bool} {e : Ex} {m : Bool} → Bare cells r e m → (t : Names Bool) (u : Names Text) (k : ℕ) →
        (told e u k).1 ≤ lim → Kept r t u k → Bare cells t (told e u k).0 m
    told-bare number t u k l x = number
    told-bare truth t u k l x = truth
    told-bare (named {a = a} {m = m} h) t u k l x = named ((x.marks a m h).0)
    told-bare (cell h i) t u k l x = cell h (told-indices i t u k l x)
    told-bare (one {x = e} s h) t u k l x = one s (told-bare h t u k l x)
    told-bare (two {x = e} {y = f} s g h) t u k l x =
        let q = (told e u k).1 in
        two s (told-bare g t u k (on q (told f u q).1 lim (ex-up f u q) l) x) (told-bare h t u q l (later _ t u k q (ex-up e u k) x))
    told-bare (power {x = e} {y = f} g h) t u k l x =
        let q = (told e u k).1 in
        power (told-bare g t u k (on q (told f u q).1 lim (ex-up f u q) l) x) (told-bare h t u q l (later _ t u k q (ex-up e u k) x))
    told-bare (chosen h) t u k l x = chosen (told-bare h t u k l x)
    told-bare (folded {e = e} {gs = gs} w g h) t u k l x =
        let q = told_gens gs u k in
        let y = told-ranging g t u k (on q.2 (told e q.1 q.2).1 lim (ex-up e q.1 q.2) l) x in
        folded w y.made (told-bare h y.names q.1 q.2 l y.kept)
    told-bare (added {e = e} {gs = gs} g h) t u k l x =
        let q = told_gens gs u k in
        let y = told-axes g t u k (on q.2 (told e q.1 q.2).1 lim (ex-up e q.1 q.2) l) x in
        added y.made (told-bare h y.names q.1 q.2 l y.kept)
    told-bare (ordered {x = e} {y = f} s g h) t u k l x =
        let q = (told e u k).1 in
        ordered s (told-row g t u k (on q (told f u q).1 lim (ex-up f u q) l) x) (told-row h t u q l (later _ t u k q (ex-up e u k) x))

    told-indices : {r : Names Bool} {es : Exs} {n : ℕ} → Indices cells r es n → (t : Names Bool) (u : Names Text) (k : ℕ) →
        (told_all es u k).1 ≤ lim → Kept r t u k → Indices cells t (told_all es u k).0 n
    told-indices no_index t u k l x = no_index
    told-indices (one_index {e = e} {es = es} g i) t u k l x =
        let q = (told e u k).1 in
        one_index (told-bare g t u k (on q (told_all es u q).1 lim (all-up es u q) l) x)
        (told-indices i t u q l (later _ t u k q (ex-up e u k) x))

    told-row : {r : Names Bool} {e : Ex} {m : Bool} → Row cells r e m → (t : Names Bool) (u : Names Text) (k : ℕ) →
        (told e u k).1 ≤ lim → Kept r t u k → Row cells t (told e u k).0 m
    told-row (row {e = e} {gs = gs} g h) t u k l x =
        let q = told_gens gs u k in
        let y = told-axes g t u k (on q.2 (told e q.1 q.2).1 lim (ex-up e q.1 q.2) l) x in
        row y.made (told-bare h y.names q.1 q.2 l y.kept)

    told-ranging : {r s : Names Bool} {gs : Gens} → Ranging cells r gs s → (t : Names Bool) (u : Names Text) (k : ℕ) →
        (told_gens gs u k).2 ≤ lim → Kept r t u k →
        Behind (λ v w. Ranging cells v (told_gens gs u k).0 w) s t (told_gens gs u k).1 (told_gens gs u k).2
    told-ranging at_end t u k l x = record { names = t; made = at_end; kept = x }
    told-ranging (through {r = r} {m = m} {a = a} {d = d} {gs = gs} g h) t u k l x =
        let c = (told_dom d u k).1 in
        let v = told_gens gs ((a, reserved c) ∷ u) (suc c) in
        let p : suc c ≤ lim = on (suc c) v.2 lim (gens-up gs ((a, reserved c) ∷ u) (suc c)) l in
        let y = told-ranging h ((reserved c, m) ∷ t) ((a, reserved c) ∷ u) (suc c) l
        (bound a m r t u c (omega (arith, p)) (later r t u k c (dom-up d u k) x)) in
        record { names = y.names; made = through (told-range g t u k (omega (arith, p)) x) y.made; kept = y.kept }
    told-ranging (where_holds {r = r} {c = c} {gs = gs} g h) t u k l x =
        let q = (told c u k).1 in
        let y = told-ranging h t u q l (later r t u k q (ex-up c u k) x) in
        record {
          names = y.names;
          made = where_holds (told-bare g t u k (on q (told_gens gs u q).2 lim (gens-up gs u q) l) x) y.made;
          kept = y.kept;
        }

    told-axes : {r s : Names Bool} {gs : Gens} → Axes cells r gs s → (t : Names Bool) (u : Names Text) (k : ℕ) →
        (told_gens gs u k).2 ≤ lim → Kept r t u k →
        Behind (λ v w. Axes cells v (told_gens gs u k).0 w) s t (told_gens gs u k).1 (told_gens gs u k).2
    told-axes no_axis t u k l x = record { names = t; made = no_axis; kept = x }
    told-axes (along {r = r} {m = m} {a = a} {d = d} {gs = gs} g h) t u k l x =
        let c = (told_dom d u k).1 in
        let v = told_gens gs ((a, reserved c) ∷ u) (suc c) in
        let p : suc c ≤ lim = on (suc c) v.2 lim (gens-up gs ((a, reserved c) ∷ u) (suc c)) l in
        let y = told-axes h ((reserved c, m) ∷ t) ((a, reserved c) ∷ u) (suc c) l
        (bound a m r t u c (omega (arith, p)) (later r t u k c (dom-up d u k) x)) in
        record { names = y.names; made = along (told-range g t u k (omega (arith, p)) x) y.made; kept = y.kept }

    told-range : {r : Names Bool} {d : Dom} {m : Bool} → Range cells r d m → (t : Names Bool) (u : Names Text) (k : ℕ) →
        (told_dom d u k).1 ≤ lim → Kept r t u k → Range cells t (told_dom d u k).0 m
    told-range truths t u k l x = truths
    told-range (numbers b i) t u k l x = numbers b (told-bounds i t u k l x)

    told-bounds : {r : Names Bool} {es : Exs} → Bounds cells r es → (t : Names Bool) (u : Names Text) (k : ℕ) →
        (told_all es u k).1 ≤ lim → Kept r t u k → Bounds cells t (told_all es u k).0
    told-bounds no_bound t u k l x = no_bound
    told-bounds (one_bound {e = e} {es = es} g i) t u k l x =
        let q = (told e u k).1 in
        one_bound (told-bare g t u k (on q (told_all es u q).1 lim (all-up es u q) l) x)
        (told-bounds i t u q l (later _ t u k q (ex-up e u k) x))

  -- At first no name is bound.
  pub told-bare-apart : (k : ℕ) (e : Ex) (m : Bool) → Bare cells [] e m → (told e [] k).1 ≤ lim → Bare cells [] (told e [] k).0 m
  told-bare-apart k e m b l = told-bare b [] [] k l (record { marks = λ a m h. cc })
