-- Printed names are something, where numbers of names suffice: else two of them were the same.
use Rattle.std.proofs.Common.{◌≡◌, refl, sym, ap, ◌∙◌, subst, ℕ, zero, suc, ◌+◌, ◌<◌, ◌^◌, Bool, true, false, not, if◌then◌else◌, List, [], ◌∷◌, ◌++◌, length, filter, codes, decimal, Option, Some, None, arith}
use Rattle.ess_semantics.specs.Lists.{or_default, item_number}
use Rattle.ess_semantics.specs.Values.{Text}
use Rattle.ess_semantics.specs.Order.{same_text}
use Rattle.ess_semantics.specs.Names.{is_among}
use Rattle.ess_semantics.specs.Trees.{name_ex}
use Rattle.ess_semantics.specs.ModelMeaning.{is_nothing}
use Rattle.conjure_model_laws.specs.Printed.{q_names, printed_name}
use Rattle.conjure_model_laws.proofs.PrintedLaws.{names-printed}

-- The k-th name of the row.
abbrev q : ℕ → Text
q k = codes "q" ++ decimal k

-- A name of the row is something.
item-something : (f : Text → Bool) (k n d : ℕ) (a : Text) → item_number (filter f (q_names k n)) d ≡ Some a → is_nothing (name_ex a) ≡ false
item-something f k zero d a e = cc
item-something f k (suc n) d a e = go (f (q k)) d e (λ d e. item-something f (suc k) n d a e)
  where
    Later : Type 0
    Later = (d : ℕ) → item_number (filter f (q_names (suc k) n)) d ≡ Some a → is_nothing (name_ex a) ≡ false

    here : (d : ℕ) → item_number (q k ∷ filter f (q_names (suc k) n)) d ≡ Some a → Later → is_nothing (name_ex a) ≡ false
    here zero e h = let p : q k ≡ a = cc in subst (λ b. is_nothing (name_ex b) ≡ false) p refl
    here (suc d) e h = h d e

    go : (b : Bool) (d : ℕ) → item_number (if b then q k ∷ filter f (q_names (suc k) n) else filter f (q_names (suc k) n)) d ≡ Some a →
        Later → is_nothing (name_ex a) ≡ false
    go true d e h = here d e h
    go false d e h = h d e

-- With one more name in the row no more than one more is left.
none-later : (f : Text → Bool) (k n d : ℕ) → item_number (filter f (q_names k n)) d ≡ None →
    item_number (filter f (q_names k (suc n))) (suc d) ≡ None
none-later f k zero d e = go (f (q k))
  where
    go : (b : Bool) → item_number (if b then q k ∷ [] else []) (suc d) ≡ None
    go true = refl
    go false = refl
none-later f k (suc n) d e = go (f (q k)) d e (λ d e. none-later f (suc k) n d e)
  where
    Later : Type 0
    Later = (d : ℕ) → item_number (filter f (q_names (suc k) n)) d ≡ None → item_number (filter f (q_names (suc k) (suc n))) (suc d) ≡ None

    here : (d : ℕ) → item_number (q k ∷ filter f (q_names (suc k) n)) d ≡ None → Later →
        item_number (q k ∷ filter f (q_names (suc k) (suc n))) (suc d) ≡ None
    here zero e h = cc
    here (suc d) e h = h d e

    go : (b : Bool) (d : ℕ) → item_number (if b then q k ∷ filter f (q_names (suc k) n) else filter f (q_names (suc k) n)) d ≡ None →
        Later → item_number (if b then q k ∷ filter f (q_names (suc k) (suc n)) else filter f (q_names (suc k) (suc n))) (suc d) ≡ None
    go true d e h = here d e h
    go false d e h = h d e

module _ (taken : List Text) where
  abbrev Free : Text → Bool
  Free a = not (is_among taken a)

  -- A printed name is something.
  pub printed-something : (d : ℕ) → suc (suc d) + length taken < 2 ^ 64 → is_nothing (name_ex (printed_name taken d)) ≡ false
  printed-something d l = go (item_number (filter Free (q_names 1 (suc d + length taken))) d) refl
    where
      none : item_number (filter Free (q_names 1 (suc d + length taken))) d ≡ None →
          is_nothing (name_ex (printed_name taken d)) ≡ false
      none e =
          let a : printed_name taken d ≡ [] = ap (λ o. or_default o []) e in
          let n : suc (suc d) + length taken ≡ suc (suc d + length taken) = omega arith in
          let b : printed_name taken (suc d) ≡ [] = ap (λ k. or_default (item_number (filter Free (q_names 1 k)) (suc d)) []) n
          ∙ ap (λ o. or_default o []) (none-later Free 1 (suc d + length taken) d e) in
          let c : same_text (printed_name taken (suc d)) (printed_name taken d) ≡ false = names-printed.differ taken d (suc d)
          (omega arith) l in
          let x : true ≡ false = sym (ap (λ y. same_text y (printed_name taken d)) b ∙ ap (λ y. same_text [] y) a) ∙ c in
          cc

      go : (o : Option Text) → item_number (filter Free (q_names 1 (suc d + length taken))) d ≡ o →
          is_nothing (name_ex (printed_name taken d)) ≡ false
      go None e = none e
      go (Some a) e =
          subst (λ b. is_nothing (name_ex b) ≡ false) (sym (ap (λ o. or_default o []) e))
          (item-something Free 1 (suc d + length taken) d a e)
