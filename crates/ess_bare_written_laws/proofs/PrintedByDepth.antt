-- A lean tree without free names means the same with printed names, where no more names are bound around a place than there are numbers of
-- names.
use Rattle.std.proofs.Common.{◌≡◌, refl, sym, ap, ◌∙◌, ℕ, zero, suc, ◌+◌, ◌≤◌, ◌<◌, Bool, true, false, if◌then◌else◌, List, [], ◌∷◌, length, ℤ, Option, Some, option_map, arith}
use Rattle.ess_semantics.specs.declared.words.Op2.{Op2}
use Rattle.ess_semantics.specs.declared.words.Fun.{Fun}
use Rattle.ess_semantics.specs.Lists.{or_default}
use Rattle.ess_semantics.specs.Values.{Text, Value, truth}
use Rattle.ess_semantics.specs.Order.{same_text}
use Rattle.ess_semantics.specs.Names.{Names, look}
use Rattle.ess_semantics.specs.Trees.{unary, binary, word, matrix_literal, name_pat, Ex, Exs, Gens, int_dom}
use Rattle.ess_semantics.specs.Operators.{value_of_node, false_where_undefined, list_value}
use Rattle.ess_semantics.specs.Domains.{integers}
use Rattle.ess_semantics.specs.Tables.{Table}
use Rattle.ess_semantics.specs.Meaning.{Env, TypeEntry, with_pat, collect, meaning, meanings, items_under, domain_of, members_in, spans_of, cell_in, indices}
use Rattle.ess_semantics.proofs.Texts.{same_text-itself}
use Rattle.ess_rules_laws.proofs.Simulation.{Vals, E, collect-same, and_then-same, where-same}
use Rattle.conjure_model_laws.specs.ToldApart.{renamed}
use Rattle.conjure_model_laws.specs.Printed.{printed_name, with_printed, printed_behind, printed, printed_all, printed_gens}
use Rattle.ess_depth_laws.specs.Depth.{NestsWithin, AllNestWithin, NestBehind}
use Rattle.ess_bare_laws.specs.Lean.{Lean, a_number, a_truth, a_name, a_cell, by_one, by_two, by_power, by_truth, by_fold, by_items, by_greatest, by_order, Leans, last_lean, more_leans, Terms, no_terms, more_terms, Row, listed, alone, Ranging, behind_all, over_truths, over_numbers, under}
use Rattle.ess_bare_written_laws.proofs.Scopes.{Item}

module _ (taken : List Text) (lim : ℕ)
    (differ : (i j : ℕ) → i < j → j < lim → same_text (printed_name taken j) (printed_name taken i) ≡ false) where
  -- Names with their marks, what is printed for them, and the values of names before and behind.
  pub data Valued : Names Bool → Names Text → Vals → Vals → Type 0 where
    no_values : {g h : Vals} → Valued [] [] g h
    more_values : {r : Names Bool} {p : Names Text} {g h : Vals} {a : Text} {m : Bool} {v : Value} → Valued r p g h →
        Valued ((a, m) ∷ r) (with_printed taken a p) ((a, v) ∷ g) ((printed_name taken (length p), v) ∷ h)

  -- A name is one of those that are printed so far, and the printed name has its value.
  record HasValue (p : Names Text) (g h : Vals) (a : Text) : Type 0 where
    number : ℕ
    below : number < length p
    is : renamed p a ≡ printed_name taken number
    there : look h (printed_name taken number) ≡ look g a

  has-value : {r : Names Bool} {p : Names Text} {g h : Vals} → Valued r p g h → length p ≤ lim → (a : Text) (m : Bool) →
      look r a ≡ Some m → HasValue p g h a
  has-value no_values l a m q = cc
  has-value (more_values {r = r} {p = p} {g = g} {h = h} {a = b} {m = n} {v = v} s) l a m q =
      let z : length (with_printed taken b p) ≡ suc (length p) = refl in
      go (same_text b a) refl q (has-value s (omega (arith, l, z)) a m)
    where
      new : Text
      new = printed_name taken (length p)

      go : (c : Bool) → same_text b a ≡ c → (if c then Some n else look r a) ≡ Some m → (look r a ≡ Some m → HasValue p g h a) →
          HasValue (with_printed taken b p) ((b, v) ∷ g) ((new, v) ∷ h) a
      go true e q f =
          let z : length (with_printed taken b p) ≡ suc (length p) = refl in record {
            number = length p;
            below = omega (arith, z);
            is = ap (λ c. or_default (if c then Some new else look p a) a) e;
            there = ap (λ c. if c then Some v else look h new) (same_text-itself new)
                ∙ ap (λ c. if c then Some v else look g a) (sym e);
          }
      go false e q f =
          let z : length (with_printed taken b p) ≡ suc (length p) = refl in
          let w = f q in record {
            number = w.number;
            below = omega (arith, z, w.below);
            is = ap (λ c. or_default (if c then Some new else look p a) a) e ∙ w.is;
            there = ap (λ c. if c then Some v else look h (printed_name taken w.number))
                (differ w.number (length p) w.below (omega (arith, l, z))) ∙ w.there
                ∙ ap (λ c. if c then Some v else look g a) (sym e);
          }

  module _ (cells : Text → Option (Bool × ℕ)) (ok : ℤ → Bool) (fine : Text → Bool) (plain : Bool) (pl : Bool) (ts : List TypeEntry)
      (cs : Names Table) where
    abbrev M : Vals → Env
    M g = E pl ts cs g

    mutual
      -- Where so many names are printed so far, and so many may be bound in the tree.
      pub printed-same : {r : Names Bool} {e : Ex} {m : Bool} → Lean cells ok fine plain r e m → (p : Names Text) (g h : Vals) →
          Valued r p g h → (n : ℕ) → NestsWithin n e → length p + n ≤ lim → meaning (printed taken e p) (M h) ≡ meaning e (M g)
      printed-same (a_number q) p g h s n k l = refl
      printed-same a_truth p g h s n k l = refl
      printed-same (a_name {a = a} {m = m} q) p g h s n k l =
          let w = has-value s (omega (arith, l)) a m q in ap (look h) w.is ∙ w.there
      printed-same (a_cell {b = b} {n = c} q t) p g h s n k l =
          ap (λ x. false_where_undefined b (cell_in b (look cs c) (indices x))) (terms-printed t p g h s n k l)
      printed-same (by_one {b = b} {o = o} w f) p g h s n k l =
          ap (λ x. false_where_undefined b (value_of_node (unary o) (x ∷ []))) (printed-same f p g h s n k.0 l)
      printed-same (by_two {b = b} {o = o} {x = x} {y = y} w f i) p g h s n k l =
          ap (λ z. false_where_undefined b (value_of_node (binary o) (z ∷ meaning (printed taken y p) (M h) ∷ [])))
          (printed-same f p g h s n k.0 l)
          ∙ ap (λ z. false_where_undefined b (value_of_node (binary o) (meaning x (M g) ∷ z ∷ []))) (printed-same i p g h s n k.1.0 l)
      printed-same (by_power {x = x} {y = y} f i) p g h s n k l =
          ap (λ z. value_of_node (binary Op2.Pow) (z ∷ meaning (printed taken y p) (M h) ∷ [])) (printed-same f p g h s n k.0 l)
          ∙ ap (λ z. value_of_node (binary Op2.Pow) (meaning x (M g) ∷ z ∷ [])) (printed-same i p g h s n k.1.0 l)
      printed-same (by_truth f) p g h s n k l = ap (λ x. value_of_node (word Fun.ToInt) (x ∷ [])) (printed-same f p g h s n k.0 l)
      printed-same (by_fold {b = b} {f = w} {e = e} {gs = gs} v t f) p g h s n k l =
          ap (λ x. false_where_undefined b (value_of_node (word w) (option_map list_value x ∷ [])))
          (ranging-printed t p g h s n e k.0 l
          (λ here. option_map (λ v. v ∷ []) (meaning (printed taken e (printed_behind taken gs p)) here))
          (λ here. option_map (λ v. v ∷ []) (meaning e here))
          (λ j g' h' a b s'. ap (option_map (λ v. v ∷ [])) (printed-same f (printed_behind taken gs p) g' h' s' j a b)))
      printed-same (by_items {b = b} {f = w} v t) p g h s n k l =
          ap (λ x. false_where_undefined b (value_of_node (word w) (value_of_node matrix_literal x ∷ [])))
          (leans-printed t p g h s n k.0 l)
      printed-same (by_greatest {x = x} {y = y} f i) p g h s n k l =
          ap (λ z. value_of_node (word Fun.Max) (value_of_node matrix_literal (z ∷ meaning (printed taken y p) (M h) ∷ []) ∷ []))
          (printed-same f p g h s n k.0.0 l)
          ∙ ap (λ z. value_of_node (word Fun.Max) (value_of_node matrix_literal (meaning x (M g) ∷ z ∷ []) ∷ []))
          (printed-same i p g h s n k.0.1.0 l)
      printed-same (by_order {o = o} {x = x} {y = y} w f i) p g h s n k l =
          ap (λ z. false_where_undefined true (value_of_node (binary o) (z ∷ meaning (printed taken y p) (M h) ∷ [])))
          (row-printed f p g h s n k.0 l)
          ∙ ap (λ z. false_where_undefined true (value_of_node (binary o) (meaning x (M g) ∷ z ∷ []))) (row-printed i p g h s n k.1.0 l)

      leans-printed : {r : Names Bool} {es : Exs} {m : Bool} → Leans cells ok fine plain r es m → (p : Names Text) (g h : Vals) →
          Valued r p g h → (n : ℕ) → AllNestWithin n es → length p + n ≤ lim → meanings (printed_all taken es p) (M h) ≡ meanings es (M g)
      leans-printed (last_lean f) p g h s n k l = ap (λ x. x ∷ []) (printed-same f p g h s n k.0 l)
      leans-printed (more_leans {e = e} {es = es} f t) p g h s n k l =
          ap (λ x. x ∷ meanings (printed_all taken es p) (M h)) (printed-same f p g h s n k.0 l)
          ∙ ap (λ x. meaning e (M g) ∷ x) (leans-printed t p g h s n k.1 l)

      terms-printed : {w : Bool} {r : Names Bool} {es : Exs} {i : ℕ} → Terms cells ok fine plain w r es i → (p : Names Text) (g h : Vals) →
          Valued r p g h → (n : ℕ) → AllNestWithin n es → length p + n ≤ lim → meanings (printed_all taken es p) (M h) ≡ meanings es (M g)
      terms-printed no_terms p g h s n k l = refl
      terms-printed (more_terms {e = e} {es = es} w f t) p g h s n k l =
          ap (λ x. x ∷ meanings (printed_all taken es p) (M h)) (printed-same f p g h s n k.0 l)
          ∙ ap (λ x. meaning e (M g) ∷ x) (terms-printed t p g h s n k.1 l)

      row-printed : {r : Names Bool} {e : Ex} {m : Bool} → Row cells ok fine plain r e m → (p : Names Text) (g h : Vals) →
          Valued r p g h → (n : ℕ) → NestsWithin n e → length p + n ≤ lim → meaning (printed taken e p) (M h) ≡ meaning e (M g)
      row-printed (listed {e = e} {gs = gs} t f) p g h s n k l =
          ap (option_map list_value)
          (ranging-printed t p g h s n e k l (λ here. option_map (λ v. v ∷ []) (meaning (printed taken e (printed_behind taken gs p)) here))
          (λ here. option_map (λ v. v ∷ []) (meaning e here))
          (λ j g' h' a b s'. ap (option_map (λ v. v ∷ [])) (printed-same f (printed_behind taken gs p) g' h' s' j a b)))
      row-printed (alone f) p g h s n k l = ap (λ x. value_of_node matrix_literal (x ∷ [])) (printed-same f p g h s n k.0 l)

      -- Generators, where what stands behind them means the same.
      ranging-printed : {r t : Names Bool} {gs : Gens} → Ranging cells ok fine plain r gs t → (p : Names Text) (g h : Vals) →
          Valued r p g h → (n : ℕ) (e : Ex) → NestBehind n gs (Item e) → length p + n ≤ lim → (y x : Env → Option (List Value)) →
          ((j : ℕ) (g' h' : Vals) → NestsWithin j e → length (printed_behind taken gs p) + j ≤ lim →
          Valued t (printed_behind taken gs p) g' h' → y (M h') ≡ x (M g')) →
          items_under (printed_gens taken gs p) (M h) y ≡ items_under gs (M g) x
      ranging-printed behind_all p g h s n e k l y x f = f n g h k l s
      ranging-printed (over_truths c t) p g h s zero e k l y x f = absurd k
      ranging-printed (over_truths {a = a} {gs = gs} c t) p g h s (suc n) e k l y x f =
          let b = printed_name taken (length p) in
          let rest = printed_gens taken gs (with_printed taken a p) in
          let z : length (with_printed taken a p) ≡ suc (length p) = refl in
          collect-same (truth false ∷ truth true ∷ []) (λ v. items_under rest (with_pat (name_pat b) v (M h)) y)
          (λ v. items_under gs (with_pat (name_pat a) v (M g)) x)
          (λ v. ranging-printed t (with_printed taken a p) ((a, v) ∷ g) ((b, v) ∷ h) (more_values s) n e k.1 (omega (arith, l, z)) y x f)
      ranging-printed (over_numbers c q ns t) p g h s zero e k l y x f = absurd k
      ranging-printed (over_numbers {a = a} {rs = rs} {es = es} {gs = gs} c q ns t) p g h s (suc n) e k l y x f =
          let b = printed_name taken (length p) in
          let rest = printed_gens taken gs (with_printed taken a p) in
          let z : length (with_printed taken a p) ≡ suc (length p) = refl in
          and_then-same (members_in (domain_of (int_dom rs (printed_all taken es p)) (M h))) (members_in (domain_of (int_dom rs es) (M g)))
          (λ vs. collect vs (λ v. items_under rest (with_pat (name_pat b) v (M h)) y))
          (λ vs. collect vs (λ v. items_under gs (with_pat (name_pat a) v (M g)) x))
          (ap (λ z. members_in (option_map integers (spans_of rs z))) (terms-printed ns p g h s (suc n) k.0 l))
          (λ vs. collect-same vs (λ v. items_under rest (with_pat (name_pat b) v (M h)) y)
          (λ v. items_under gs (with_pat (name_pat a) v (M g)) x)
          (λ v. ranging-printed t (with_printed taken a p) ((a, v) ∷ g) ((b, v) ∷ h) (more_values s) n e k.1 (omega (arith, l, z)) y x f))
      ranging-printed (under {c = c} {gs = gs} i t) p g h s n e k l y x f =
          where-same (meaning (printed taken c p) (M h)) (meaning c (M g)) (items_under (printed_gens taken gs p) (M h) y)
          (items_under gs (M g) x) (printed-same i p g h s n k.0 l) (ranging-printed t p g h s n e k.1 l y x f)
