-- A lean tree with printed names is lean: names of the same marks stand for its names, and each is something.
use Rattle.std.proofs.Common.{◌≡◌, refl, ap, ◌∙◌, ℕ, zero, suc, ◌+◌, ◌≤◌, ◌<◌, Bool, true, false, if◌then◌else◌, List, [], ◌∷◌, length, ℤ, Option, Some, arith}
use Rattle.ess_semantics.specs.Lists.{or_default}
use Rattle.ess_semantics.specs.Values.{Text}
use Rattle.ess_semantics.specs.Order.{same_text}
use Rattle.ess_semantics.specs.Names.{Names, look}
use Rattle.ess_semantics.specs.Trees.{Ex, Exs, Gens}
use Rattle.ess_semantics.proofs.Texts.{same_text-itself}
use Rattle.conjure_model_laws.specs.ToldApart.{renamed}
use Rattle.conjure_model_laws.specs.Printed.{printed_name, with_printed, printed_behind, printed, printed_all, printed_gens}
use Rattle.ess_depth_laws.specs.Depth.{NestsWithin, AllNestWithin, NestBehind}
use Rattle.ess_bare_written_laws.proofs.Scopes.{Item}
use Rattle.ess_bare_laws.specs.Lean.{Lean, a_number, a_truth, a_name, a_cell, by_one, by_two, by_power, by_truth, by_fold, by_items, by_greatest, by_order, Leans, last_lean, more_leans, Terms, no_terms, more_terms, Row, listed, alone, Ranging, behind_all, over_truths, over_numbers, under}

module _ (taken : List Text) (lim : ℕ)
    (differ : (i j : ℕ) → i < j → j < lim → same_text (printed_name taken j) (printed_name taken i) ≡ false) where
  -- Names with their marks, what is printed for them, and the printed names with the marks.
  pub data Beside : Names Bool → Names Text → Names Bool → Type 0 where
    nothing_beside : Beside [] [] []
    more_beside : {r v : Names Bool} {p : Names Text} {a : Text} {m : Bool} → Beside r p v →
        Beside ((a, m) ∷ r) (with_printed taken a p) ((printed_name taken (length p), m) ∷ v)

  -- A name is one of those that are printed so far, and the printed name has the mark.
  record IsPrinted (p : Names Text) (v : Names Bool) (a : Text) (m : Bool) : Type 0 where
    number : ℕ
    below : number < length p
    is : renamed p a ≡ printed_name taken number
    there : look v (printed_name taken number) ≡ Some m

  is-printed : {r v : Names Bool} {p : Names Text} → Beside r p v → length p ≤ lim → (a : Text) (m : Bool) → look r a ≡ Some m →
      IsPrinted p v a m
  is-printed nothing_beside l a m q = cc
  is-printed (more_beside {r = r} {v = v} {p = p} {a = b} {m = n} s) l a m q =
      let z : length (with_printed taken b p) ≡ suc (length p) = refl in
      go (same_text b a) refl q (is-printed s (omega (arith, l, z)) a m)
    where
      new : Text
      new = printed_name taken (length p)

      go : (c : Bool) → same_text b a ≡ c → (if c then Some n else look r a) ≡ Some m → (look r a ≡ Some m → IsPrinted p v a m) →
          IsPrinted (with_printed taken b p) ((new, n) ∷ v) a m
      go true e q f =
          let z : length (with_printed taken b p) ≡ suc (length p) = refl in record {
            number = length p;
            below = omega (arith, z);
            is = ap (λ c. or_default (if c then Some new else look p a) a) e;
            there = ap (λ c. if c then Some n else look v new) (same_text-itself new) ∙ q;
          }
      go false e q f =
          let z : length (with_printed taken b p) ≡ suc (length p) = refl in
          let w = f q in record {
            number = w.number;
            below = omega (arith, z, w.below);
            is = ap (λ c. or_default (if c then Some new else look p a) a) e ∙ w.is;
            there = ap (λ c. if c then Some n else look v (printed_name taken w.number))
                (differ w.number (length p) w.below (omega (arith, l, z))) ∙ w.there;
          }

  module _ (cells : Text → Option (Bool × ℕ)) (ok : ℤ → Bool) (old fine : Text → Bool) (plain : Bool)
      (printed_fine : (i : ℕ) → i < lim → fine (printed_name taken i) ≡ true) where
    abbrev L : Names Bool → Ex → Bool → Type 0
    L = Lean cells ok old plain

    -- What stands behind generators, and how many names may be bound there.
    record Behind (t : Names Bool) (v : Names Bool) (gs : Gens) (p : Names Text) (e : Ex) : Type 0 where
      left : Names Bool
      gens : Ranging cells ok fine plain v (printed_gens taken gs p) left
      beside : Beside t (printed_behind taken gs p) left
      depth : ℕ
      nests : NestsWithin depth e
      few : length (printed_behind taken gs p) + depth ≤ lim

    mutual
      -- Where so many names are printed so far, and so many may be bound in the tree.
      pub printed-lean : {r : Names Bool} {e : Ex} {m : Bool} → L r e m → (p : Names Text) (v : Names Bool) → Beside r p v → (n : ℕ) →
          NestsWithin n e → length p + n ≤ lim → Lean cells ok fine plain v (printed taken e p) m
      printed-lean (a_number q) p v s n h l = a_number q
      printed-lean a_truth p v s n h l = a_truth
      printed-lean (a_name {a = a} {m = m} q) p v s n h l =
          let w = is-printed s (omega (arith, l)) a m q in a_name (ap (look v) w.is ∙ w.there)
      printed-lean (a_cell q ts) p v s n h l = a_cell q (printed-terms ts p v s n h l)
      printed-lean (by_one w f) p v s n h l = by_one w (printed-lean f p v s n h.0 l)
      printed-lean (by_two w f g) p v s n h l = by_two w (printed-lean f p v s n h.0 l) (printed-lean g p v s n h.1.0 l)
      printed-lean (by_power f g) p v s n h l = by_power (printed-lean f p v s n h.0 l) (printed-lean g p v s n h.1.0 l)
      printed-lean (by_truth f) p v s n h l = by_truth (printed-lean f p v s n h.0 l)
      printed-lean (by_fold {e = e} {gs = gs} w ts f) p v s n h l =
          let b = printed-ranging ts p v s n e h.0 l in
          by_fold w b.gens (printed-lean f (printed_behind taken gs p) b.left b.beside b.depth b.nests b.few)
      printed-lean (by_items w ts) p v s n h l = by_items w (printed-leans ts p v s n h.0 l)
      printed-lean (by_greatest f g) p v s n h l = by_greatest (printed-lean f p v s n h.0.0 l) (printed-lean g p v s n h.0.1.0 l)
      printed-lean (by_order w f g) p v s n h l = by_order w (printed-row f p v s n h.0 l) (printed-row g p v s n h.1.0 l)

      printed-leans : {r : Names Bool} {es : Exs} {m : Bool} → Leans cells ok old plain r es m → (p : Names Text) (v : Names Bool) →
          Beside r p v → (n : ℕ) → AllNestWithin n es → length p + n ≤ lim → Leans cells ok fine plain v (printed_all taken es p) m
      printed-leans (last_lean f) p v s n h l = last_lean (printed-lean f p v s n h.0 l)
      printed-leans (more_leans f ts) p v s n h l = more_leans (printed-lean f p v s n h.0 l) (printed-leans ts p v s n h.1 l)

      printed-terms : {w : Bool} {r : Names Bool} {es : Exs} {k : ℕ} → Terms cells ok old plain w r es k → (p : Names Text)
          (v : Names Bool) → Beside r p v → (n : ℕ) → AllNestWithin n es → length p + n ≤ lim →
          Terms cells ok fine plain w v (printed_all taken es p) k
      printed-terms no_terms p v s n h l = no_terms
      printed-terms (more_terms w f ts) p v s n h l = more_terms w (printed-lean f p v s n h.0 l) (printed-terms ts p v s n h.1 l)

      printed-row : {r : Names Bool} {e : Ex} {m : Bool} → Row cells ok old plain r e m → (p : Names Text) (v : Names Bool) → Beside r p v →
          (n : ℕ) → NestsWithin n e → length p + n ≤ lim → Row cells ok fine plain v (printed taken e p) m
      printed-row (listed {e = e} {gs = gs} ts f) p v s n h l =
          let b = printed-ranging ts p v s n e h l in
          listed b.gens (printed-lean f (printed_behind taken gs p) b.left b.beside b.depth b.nests b.few)
      printed-row (alone f) p v s n h l = alone (printed-lean f p v s n h.0 l)

      printed-ranging : {r t : Names Bool} {gs : Gens} → Ranging cells ok old plain r gs t → (p : Names Text) (v : Names Bool) →
          Beside r p v → (n : ℕ) (e : Ex) → NestBehind n gs (Item e) → length p + n ≤ lim → Behind t v gs p e
      printed-ranging behind_all p v s n e h l = record { left = v; gens = behind_all; beside = s; depth = n; nests = h; few = l }
      printed-ranging (over_truths c ts) p v s zero e h l = absurd h
      printed-ranging (over_truths {a = a} c ts) p v s (suc n) e h l =
          let z : length (with_printed taken a p) ≡ suc (length p) = refl in
          let b = printed-ranging ts (with_printed taken a p) ((printed_name taken (length p), true) ∷ v) (more_beside s) n e h.1
          (omega (arith, l, z)) in
          record {
            left = b.left;
            gens = over_truths (printed_fine (length p) (omega (arith, l))) b.gens;
            beside = b.beside;
            depth = b.depth;
            nests = b.nests;
            few = b.few;
          }
      printed-ranging (over_numbers c q ns ts) p v s zero e h l = absurd h
      printed-ranging (over_numbers {a = a} c q ns ts) p v s (suc n) e h l =
          let z : length (with_printed taken a p) ≡ suc (length p) = refl in
          let b = printed-ranging ts (with_printed taken a p) ((printed_name taken (length p), false) ∷ v) (more_beside s) n e h.1
          (omega (arith, l, z)) in
          record {
            left = b.left;
            gens = over_numbers (printed_fine (length p) (omega (arith, l))) q (printed-terms ns p v s (suc n) h.0 l) b.gens;
            beside = b.beside;
            depth = b.depth;
            nests = b.nests;
            few = b.few;
          }
      printed-ranging (under f ts) p v s n e h l =
          let b = printed-ranging ts p v s n e h.1 l in
          record {
            left = b.left;
            gens = under (printed-lean f p v s n h.0 l) b.gens;
            beside = b.beside;
            depth = b.depth;
            nests = b.nests;
            few = b.few;
          }
