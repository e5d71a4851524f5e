-- Tables that fit are full for what is said of slots.
use Rattle.std.proofs.Common.{◌≡◌, refl, sym, ap, ◌∙◌, subst, ℕ, zero, suc, ◌+◌, ◌≤◌, ◌<◌, true, false, List, [], ◌∷◌, ◌++◌, map, ℤ, pos, ◌+ℤ◌, ◌-ℤ◌, Some, option_map, arith}
use Rattle.std.proofs.lemmas.Int.{ints}
use Rattle.ess_semantics.specs.declared.words.Op1.{Op1}
use Rattle.ess_semantics.specs.declared.words.Op2.{Op2}
use Rattle.ess_semantics.specs.declared.words.Fun.{Fun}
use Rattle.ess_semantics.specs.Lists.{append_all}
use Rattle.ess_semantics.specs.Values.{Text, Value, number}
use Rattle.ess_semantics.specs.Order.{same_text}
use Rattle.ess_semantics.specs.Numbers.{run_from, one_to}
use Rattle.ess_semantics.specs.Collections.{sorted_once}
use Rattle.ess_semantics.specs.Names.{Names}
use Rattle.ess_semantics.specs.Types.{Ty, bind_types, type_of_dom}
use Rattle.ess_semantics.specs.Contexts.{Each, EachOf}
use Rattle.ess_semantics.specs.Trees.{both_ends, unary, name_pat, Ex, Exs, number_ex, name_ex, comp_ex, Gens, no_gens, over, cond, Dom, ex1}
use Rattle.ess_semantics.specs.Domains.{integers, interval}
use Rattle.ess_semantics.specs.Tables.{Tables}
use Rattle.ess_semantics.specs.Meaning.{Env, spans_of, members_in, domain_of}
use Rattle.ess_semantics.specs.Full.{Full, FullUnder}
use Rattle.ess_semantics.specs.Occurrences.{has_cells}
use Rattle.ess_semantics.proofs.Connectives.{binary-means}
use Rattle.ess_repr_laws.specs.StructureParts.{Shape, add_ex, le_ex, implies_ex, upto, less_ex, at_most_ex, zeros_ex, over_slots, next_ex, pairs_dom, over_pairs, each_pair, slots_ex, use_ex, first_ex}
use Rattle.ess_repr_laws.specs.StructureMeaning.{Bound, M, Number, Placed}
use Rattle.ess_repr_laws.proofs.StructureRows.{Steady, There, steady-name}
use Rattle.ess_repr_laws.proofs.StructureSlots.{members-ones}
use Rattle.ess_repr_laws.proofs.StructureUse.{next-steady}
use Rattle.ess_repr_structure_laws.proofs.BuiltShapes.{AxesHave}
use Rattle.ess_repr_structure_laws.proofs.BuiltStructures as B
use Rattle.ess_repr_full_laws.proofs.FullParts.{Anywhere, FullIn, dom-anywhere, number-anywhere, name-anywhere, name-added, next-added, next-anywhere, two-anywhere, two-full, one-full, in-here, reached}
use Rattle.ess_repr_full_laws.proofs.FullCells.{less-full, at-most-full, zeros-full, fold-full}

-- A domain with the numbers 1 to m, below s each.
record Pairs (s : ℕ) (D : Dom) (env : Env) : Type 0 where
  many : ℕ
  members : members_in (domain_of D env) ≡ Some (map number (one_to many))
  below : (k : ℕ) → 1 ≤ k → k < 1 + many → k + 1 ≤ s

-- The numbers of all slots but the last.
pairs-run : (q : ℕ → Text) (size : Ex) (s : ℕ) (env : Env) → Number size env (pos s) → Pairs s (pairs_dom q size) env
pairs-run q size s env h = go s (ap (λ o. members_in (option_map integers (spans_of (both_ends ∷ []) (Some (number (pos 1)) ∷ o ∷ []))))
    (binary-means env false Op2.Minus size (number_ex (pos 1)) (number (pos s)) (number (pos 1)) h refl))
  where
    go : (s : ℕ) → members_in (domain_of (pairs_dom q size) env) ≡ Some (sorted_once (append_all (interval (pos 1)
        (pos s -ℤ pos 1) ∷ []))) →
        Pairs s (pairs_dom q size) env
    go zero e = record { many = 0; members = e; below = λ k x y. absurd (omega (arith, x, y)) }
    go (suc n) e =
        let z : pos (suc n) -ℤ pos 1 ≡ pos n = omega (arith, ints) in record {
          many = n;
          members = e ∙ ap (λ z. Some (sorted_once (append_all (interval (pos 1) z ∷ [])))) z ∙ ap Some (members-ones n);
          below = λ k x y. omega (arith, y);
        }

module _ (env0 : Env) (q : ℕ → Text) (q-apart : (m l : ℕ) → l < m → same_text (q m) (q l) ≡ false) where
  abbrev B' : Type 0
  B' = Bound env0 q q-apart

  abbrev N : B' → Env
  N = M env0 q q-apart

  -- Here with the number of a slot.
  abbrev pub Slot : ℕ → B' → Ex → ℕ → Type 0
  Slot l bs e k = FullIn e (N ((l, number (pos k)) ∷ bs))

  -- A comprehension over a run of numbers.
  run-full : (l : ℕ) (D : Dom) (gs : Gens) (part : Ex) (m : ℕ) (bs : B') → B.DomHas (Anywhere env0) D →
      members_in (domain_of D (N bs)) ≡ Some
      (map number (one_to m)) →
      ((k : ℕ) → 1 ≤ k → k < 1 + m → (g : Names Ty) → FullUnder gs g (N ((l, number (pos k)) ∷ bs)) (λ h here. Full part h here)) →
      FullIn (comp_ex part (over (name_pat (q l)) D gs)) (N bs)
  run-full l D gs part m bs a e f = record {
    full = λ g. (
      dom-anywhere env0 D a g (N bs),
      subst (λ o. EachOf o (K g)) (sym e) (run g 1 m (λ k x y. f k x y (bind_types (name_pat (q l)) (type_of_dom D) g))),
    );
  }
    where
      K : Names Ty → Value → Type 0
      K g v = FullUnder gs (bind_types (name_pat (q l)) (type_of_dom D) g) (N ((l, v) ∷ bs)) (λ h here. Full part h here)

      run : (g : Names Ty) (a n : ℕ) → ((k : ℕ) → a ≤ k → k < a + n → K g (number (pos k))) → Each (map number (run_from a n)) (K g)
      run g a zero f = tt
      run g a (suc n) f = (f a (omega arith) (omega arith), run g (suc a) n (λ k x y. f k (omega arith) (omega arith)))

  -- Where a test holds.
  tested : (l : ℕ) (test part : Ex) (bs : B') (k : ℕ) → Slot l bs test k → Slot l bs part k → (g : Names Ty) →
      FullUnder (cond test no_gens) g
      (N ((l, number (pos k)) ∷ bs)) (λ h here. Full part h here)
  tested l test part bs k t p g = (t.full g, reached (has_cells test) test (N ((l, number (pos k)) ∷ bs)) _ (p.full g))

  pub over-slots-full : (l : ℕ) (size test part : Ex) (s : ℕ) (bs : B') → Number size (N bs) (pos s) → Anywhere env0 size →
      ((k : ℕ) → 1 ≤ k → k ≤ s → Slot l bs test k) → ((k : ℕ) → 1 ≤ k → k ≤ s → Slot l bs part k) → FullIn (over_slots q l size test part)
      (N bs)
  over-slots-full l size test part s bs hs a t p =
      fold-full env0 q q-apart true Fun.And _ bs (run-full l (upto size) (cond test no_gens) part s bs
      (number-anywhere env0 (pos 1), (a, tt))
      (ap (λ o. members_in (option_map integers (spans_of (both_ends ∷ []) (Some (number (pos 1)) ∷ o ∷ [])))) hs ∙ ap Some
      (members-ones s))
      (λ k x y g. tested l test part bs k (t k x (omega (arith, y))) (p k x (omega (arith, y))) g))

  pairs-anywhere : (size : Ex) → Anywhere env0 size → B.DomHas (Anywhere env0) (pairs_dom q size)
  pairs-anywhere size a = (
    number-anywhere env0 (pos 1),
    (
      two-anywhere env0 false Op2.Minus size (number_ex (pos 1)) a
          (number-anywhere env0 (pos 1)),
      tt,
    ),
  )

  pub over-pairs-full : (l : ℕ) (size test part : Ex) (s : ℕ) (bs : B') → Number size (N bs) (pos s) → Anywhere env0 size →
      ((k : ℕ) → 1 ≤ k → k + 1 ≤ s → Slot l bs test k) → ((k : ℕ) → 1 ≤ k → k + 1 ≤ s → Slot l bs part k) →
      FullIn (over_pairs q l size test part) (N bs)
  over-pairs-full l size test part s bs hs a t p =
      let r = pairs-run q size s (N bs) hs in
      fold-full env0 q q-apart true Fun.And _ bs (run-full l (pairs_dom q size) (cond test no_gens) part r.many bs (pairs-anywhere size a)
      r.members (λ k x y g. tested l test part bs k (t k x (r.below k x y)) (p k x (r.below k x y)) g))

  pub each-pair-full : (l : ℕ) (size part : Ex) (s : ℕ) (bs : B') → Number size (N bs) (pos s) → Anywhere env0 size →
      ((k : ℕ) → 1 ≤ k → k + 1 ≤ s → Slot l bs part k) → FullIn (each_pair q l size part) (N bs)
  each-pair-full l size part s bs hs a p =
      let r = pairs-run q size s (N bs) hs in
      fold-full env0 q q-apart true Fun.And _ bs (run-full l (pairs_dom q size) no_gens part r.many bs (pairs-anywhere size a) r.members
      (λ k x y g. let f : Slot l bs part k = p k x (r.below k x y) in f.full g))

  -- ---- cells of slots

  -- The index list of the next slot.
  pub next-index : (l : ℕ) (k : ℕ) (is : Exs) (i : List ℤ) (bs : B') → Steady env0 q q-apart l is i bs →
      Steady env0 q q-apart (suc l) (add_ex is (next_ex q l)) (i ++ (pos (k + 1) ∷ [])) ((l, number (pos k)) ∷ bs)
  next-index l k is i bs st =
      let e : pos k +ℤ pos 1 ≡ pos (k + 1) = omega (arith, ints) in
      subst (λ z. Steady env0 q q-apart (suc l) (add_ex is (next_ex q l)) (i ++ (z ∷ [])) ((l, number (pos k)) ∷ bs)) e
      (next-steady env0 q q-apart l (pos k) is i bs st)

  module _ (l : ℕ) (size : Ex) (s : ℕ) (ss : List Shape) (vsss : List (List (List Value))) (ts : Tables) (is : Exs) (i : List ℤ) (bs : B')
      (hs : Number size (N bs) (pos s)) (sa : Anywhere env0 size) (p : Placed env0 q q-apart ss vsss ts)
      (th : (k : ℕ) → 1 ≤ k → k ≤ s → There env0 q q-apart ss vsss ts (i ++ (pos k ∷ []))) (ax : AxesHave (Anywhere env0) ss)
      (a : B.AllHave (Anywhere env0) is) (st : Steady env0 q q-apart l is i bs) where
    zeros-at : (k : ℕ) → 1 ≤ k → k ≤ s → Slot l bs (zeros_ex q (suc l) ss (add_ex is (name_ex (q l)))) k
    zeros-at k x y = zeros-full env0 q q-apart (suc l) ss vsss ts (add_ex is (name_ex (q l))) (i ++ (pos k ∷ [])) ((
      l,
      number
          (pos k),
    ) ∷ bs) p
        (th k x y) ax (name-added env0 q l is a) (steady-name env0 q q-apart l (number (pos k)) is i bs st)

    pub less-at : (k : ℕ) → 1 ≤ k → k + 1 ≤ s → Slot l bs (less_ex q (suc l) ss (add_ex is (name_ex (q l))) (add_ex is (next_ex q l))) k
    less-at k x y =
        less-full env0 q q-apart (suc l) ss vsss ts (add_ex is (name_ex (q l))) (add_ex is (next_ex q l)) (i ++ (pos k ∷ []))
        (i ++ (pos (k + 1) ∷ [])) ((l, number (pos k)) ∷ bs) p (th k x (omega (arith, y))) (th (k + 1) (omega (arith, x)) y) ax
        (name-added env0 q l is a) (next-added env0 q l is a) (steady-name env0 q q-apart l (number (pos k)) is i bs st)
        (next-index l k is i bs st)

    pub at-most-at : (k : ℕ) → 1 ≤ k → k + 1 ≤ s → Slot l bs
        (at_most_ex q (suc l) ss (add_ex is (name_ex (q l))) (add_ex is (next_ex q l))) k
    at-most-at k x y =
        at-most-full env0 q q-apart (suc l) ss vsss ts (add_ex is (name_ex (q l))) (add_ex is (next_ex q l)) (i ++ (pos k ∷ []))
        (i ++ (pos (k + 1) ∷ [])) ((l, number (pos k)) ∷ bs) p (th k x (omega (arith, y))) (th (k + 1) (omega (arith, x)) y) ax
        (name-added env0 q l is a) (next-added env0 q l is a) (steady-name env0 q q-apart l (number (pos k)) is i bs st)
        (next-index l k is i bs st)

    -- Slots of which the first m are in use.
    pub slots-full : (m part : Ex) → ((k : ℕ) → Slot l bs m k) → ((k : ℕ) → 1 ≤ k → k ≤ s → Slot l bs part k) →
        FullIn (slots_ex q l size m ss is part) (N bs)
    slots-full m part fm fp =
        two-full (N bs) true Op2.And _ _ (over-slots-full l size (le_ex (name_ex (q l)) m) part s bs hs sa (λ k x y. le-m k) fp)
        (two-full (N bs) true Op2.And _ _ (over-pairs-full l size (le_ex (next_ex q l) m) _ s bs hs sa
        (λ k x y. two-full (N ((l, number (pos k)) ∷ bs)) true Op2.Le (next_ex q l) m
        (in-here env0 (next_ex q l) (N ((l, number (pos k)) ∷ bs)) (next-anywhere env0 q l)) (fm k))
        less-at)
        (over-slots-full l size (ex1 true Op1.Not (le_ex (name_ex (q l)) m)) _ s bs hs sa
        (λ k x y. one-full (N ((l, number (pos k)) ∷ bs)) true (unary Op1.Not) (le_ex (name_ex (q l)) m) (le-m k)) zeros-at))
      where
        le-m : (k : ℕ) → Slot l bs (le_ex (name_ex (q l)) m) k
        le-m k = two-full (N ((l, number (pos k)) ∷ bs)) true Op2.Le (name_ex (q l)) m
            (in-here env0 (name_ex (q l)) (N ((l, number (pos k)) ∷ bs)) (name-anywhere env0 (q l)))
            (fm k)

    -- Slots of which those in use rise.
    pub use-full : (here next rise part : Ex) → ((k : ℕ) → 1 ≤ k → k ≤ s → Slot l bs here k) →
        ((k : ℕ) → 1 ≤ k → k + 1 ≤ s → Slot l bs next k) → ((k : ℕ) → 1 ≤ k → k + 1 ≤ s → Slot l bs rise k) →
        ((k : ℕ) → 1 ≤ k → k ≤ s → Slot l bs part k) → FullIn (use_ex q l size here next rise ss is part) (N bs)
    use-full here next rise part fh fn fr fp =
        two-full (N bs) true Op2.And _ _ (over-slots-full l size here part s bs hs sa fh fp)
        (two-full (N bs) true Op2.And _ _ (each-pair-full l size (implies_ex next rise) s bs hs sa
        (λ k x y. two-full (N ((l, number (pos k)) ∷ bs)) true Op2.Implies next rise (fn k x y) (fr k x y)))
        (over-slots-full l size (ex1 true Op1.Not here) _ s bs hs sa
        (λ k x y. one-full (N ((l, number (pos k)) ∷ bs)) true (unary Op1.Not) here (fh k x y)) zeros-at))

  -- That slots in use stand first.
  pub first-full : (l : ℕ) (size here next : Ex) (s : ℕ) (bs : B') → Number size (N bs) (pos s) → Anywhere env0 size →
      ((k : ℕ) → 1 ≤ k → k ≤ s → Slot l bs here k) → ((k : ℕ) → 1 ≤ k → k + 1 ≤ s → Slot l bs next k) →
      FullIn (first_ex q l size here next) (N bs)
  first-full l size here next s bs hs sa fh fn =
      each-pair-full l size (implies_ex next here) s bs hs sa
      (λ k x y. two-full (N ((l, number (pos k)) ∷ bs)) true Op2.Implies next here (fn k x y) (fh k x (omega (arith, y))))
