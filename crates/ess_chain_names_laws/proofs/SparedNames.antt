-- Chains spare the reserved names that they haven't come to.
use Rattle.std.proofs.Common.{◌≡◌, refl, sym, ap, ◌∙◌, ℕ, zero, suc, ◌+◌, ◌<◌, ◌≤◌, ◌^◌, Bool, true, false, ◌||◌, not, if◌then◌else◌, List, [], ◌∷◌, Option, Some, None, arith}
use Rattle.std.specs.Prelude.{IsTrue}
use Rattle.ess_semantics.specs.Lists.{or_default}
use Rattle.ess_semantics.specs.Values.{Text}
use Rattle.ess_semantics.specs.Order.{same_text}
use Rattle.ess_semantics.specs.Names.{Names}
use Rattle.ess_semantics.specs.Trees.{Step, by_value, to_component, to_field, index, matrix_literal, Ex, Exs, node_ex, matrix_ex, comp_ex, seen_ex, ex2, fun1, no_exs, more_exs, Dom, bool_dom, int_dom, name_dom, matrix_dom, more_doms}
use Rattle.ess_semantics.specs.Types.{Ty}
use Rattle.ess_semantics.specs.Contexts.{In, fill}
use Rattle.ess_semantics.specs.NamesAt.{names_at}
use Rattle.ess_semantics.proofs.Texts.{same_text-itself, same_text-equal}
use Rattle.ess_guard_laws.specs.IndexDomains.{item_dom, dom_behind, dom_followed, first_index, plain_axis, are_plain_bounds, index_dom}
use Rattle.ess_refine_laws.specs.LeavingConditions.{Parted, at_last_condition}
use Rattle.ess_refine_laws.specs.Copies.{opposite_of}
use Rattle.ess_refine_laws.specs.AllRules.{Rule, Supply, equal_matrices_at, least_under_a_condition, opposite_copied}
use Rattle.conjure_model_laws.specs.ToldApart.{reserved, told, told_apart}
use Rattle.conjure_model_laws.proofs.ToldLaws.{reserved-differ}
use Rattle.ess_chain_names_laws.specs.NamesHave.{NamesHave, DomNamesHave, EachHas}
use Rattle.ess_chain_names_laws.specs.RulesKeepNames.{SupplyHas, TakesHave}
use Rattle.ess_chain_names_laws.specs.Steps.{reserved_from, told_axis, supply_at, behind_copy, behind_names, IsStep, by_a_rule, told_anew, Chain, at_rest, one_more}
use Rattle.ess_chain_names_laws.specs.SparedNames.{Spares, ChainsSpareNames}
use Rattle.ess_chain_names_laws.proofs.NamesHave.{names-wider, names-are, part-names, of-part}
use Rattle.ess_chain_names_laws.proofs.NamesOfListings.{PartedHas, parted-names, everywhere-names, gens-everywhere}
use Rattle.ess_chain_names_laws.proofs.RulesKeepNames.{rules-keep-names}
use Rattle.ess_chain_names_laws.proofs.ToldNames.{ex-up, told-names}

-- ---- reserved names before a number

-- Whether it is a reserved name before the k-th.
abbrev pub is_before : ℕ → Text → Bool
is_before zero a = false
is_before (suc k) a = same_text a (reserved k) || is_before k a

or-right : (b c : Bool) → c ≡ true → b || c ≡ true
or-right true c h = refl
or-right false c h = h

or-left : (b c : Bool) → b ≡ true → b || c ≡ true
or-left true c h = refl
or-left false c h = cc

pub both-false : (b c : Bool) → b ≡ false → c ≡ false → b || c ≡ false
both-false true c h k = cc
both-false false c h k = k

-- What isn't the k-th name is before it, where it is one before the next.
one-below : (k i : ℕ) → i < suc k → same_text (reserved i) (reserved k) ≡ false → i < k
one-below k i l e = below k i l (λ q. no (sym (same_text-itself (reserved k)) ∙ ap (λ n. same_text (reserved n) (reserved k)) (sym q) ∙ e))
  where
    no : true ≡ false → ⊥
    no r = cc

    below : (k i : ℕ) → i < suc k → (i ≡ k → ⊥) → i < k
    below k i l n = omega (arith, l, n)

before-has : (k i : ℕ) → i < k → IsTrue (is_before k (reserved i))
before-has zero i l = absurd (omega (arith, l))
before-has (suc k) i l = go (same_text (reserved i) (reserved k)) refl (λ b. before-has k i b)
  where
    go : (b : Bool) → same_text (reserved i) (reserved k) ≡ b → (i < k → IsTrue (is_before k (reserved i))) →
        IsTrue (b || is_before k (reserved i))
    go true e f = refl
    go false e f = f (one-below k i l e)

pub before-none : (k j : ℕ) → k ≤ j → j < 2 ^ 64 → is_before k (reserved j) ≡ false
before-none zero j l m = refl
before-none (suc k) j l m =
    both-false (same_text (reserved j) (reserved k)) (is_before k (reserved j)) (reserved-differ k j (omega (arith, l)) m)
    (before-none k j (omega (arith, l)) m)

-- ---- index domains

module _ (u : Text → Bool) where
  abbrev SomeHas : Option Dom → Type 0
  SomeHas None = Unit {0}
  SomeHas (Some d) = DomNamesHave u d

  item-has : (o : Option Dom) → SomeHas o → SomeHas (item_dom o)
  item-has (Some (matrix_dom (more_doms i (more_doms j is)) d)) h = (h.0.1, h.1)
  item-has _ h = tt

  behind-has : (o : Option Dom) (qs : List Step) (es : Exs) → SomeHas o → SomeHas (dom_behind o qs es)
  behind-has o [] no_exs h = h
  behind-has o (by_value ∷ qs) (more_exs i is) h = behind-has (item_dom o) qs is (item-has o h)
  behind-has o [] (more_exs i is) h = tt
  behind-has o (by_value ∷ qs) no_exs h = tt
  behind-has o (to_component k ∷ qs) es h = tt
  behind-has o (to_field a ∷ qs) es h = tt

  followed-has : (e : Ex) → NamesHave u e → SomeHas (dom_followed e)
  followed-has (seen_ex r d ns es) h = h.0
  followed-has (node_ex false (index qs) (more_exs m is)) h = behind-has (dom_followed m) qs is (followed-has m h.0)
  followed-has _ h = tt

  first-has : (o : Option Dom) → SomeHas o → SomeHas (first_index o)
  first-has (Some (matrix_dom (more_doms i is) d)) h = h.0.0
  first-has _ h = tt

  plain-has : (o : Option Dom) → SomeHas o → SomeHas (plain_axis o)
  plain-has (Some bool_dom) h = tt
  plain-has (Some (int_dom rs es)) h = go (are_plain_bounds es)
    where
      go : (b : Bool) → SomeHas (if b then Some (int_dom rs es) else None)
      go true = h
      go false = tt
  plain-has (Some (name_dom a)) h = tt
  plain-has _ h = tt

  index-has : (e : Ex) → NamesHave u e → SomeHas (index_dom e)
  index-has (node_ex false matrix_literal es) h = (tt, (tt, tt))
  index-has (matrix_ex es d) h = h.1
  index-has (comp_ex e gs) h = (tt, (((tt, h.1), tt), tt))
  index-has e h = plain-has (first_index (dom_followed e)) (first-has (dom_followed e) (followed-has e h))

  pub axis-has : (e : Ex) → NamesHave u e → DomNamesHave u (told_axis e)
  axis-has e h = go (index_dom e) (index-has e h)
    where
      go : (o : Option Dom) → SomeHas o → DomNamesHave u (or_default o bool_dom)
      go None k = tt
      go (Some d) k = k

-- ---- a step

-- The names of a tree and the reserved ones before the m-th.
abbrev pub up_to : (Text → Bool) → ℕ → Text → Bool
up_to u m a = u a || is_before m a

module _ (u : Text → Bool) (m : ℕ) where
  pub wider : (a : Text) → IsTrue (u a) → IsTrue (up_to u m a)
  wider a h = or-left (u a) (is_before m a) h

  pub given : (i : ℕ) → i < m → IsTrue (up_to u m (reserved i))
  given i l = or-right (u (reserved i)) (is_before m (reserved i)) (before-has m i l)

  pub names-given : (n k : ℕ) → n + k ≤ m → EachHas (up_to u m) (reserved_from n k)
  names-given n zero l = tt
  names-given n (suc k) l = (given n (omega (arith, l)), names-given (suc n) k (omega (arith, l)))

  pub told-has : (e : Ex) (n : ℕ) → (told e [] n).1 ≤ m → NamesHave u e → NamesHave (up_to u m) (told_apart n e)
  told-has e n l h = told-names u (up_to u m) m wider given e [] n l h (λ c t. wider c t)

  copy-has : (j : ℕ) (e : Ex) → behind_copy j e ≤ m → (s : Supply) → (copies : (x : Ex) → (told x [] j).1 ≤ m → NamesHave u x →
      NamesHave (up_to u m) (s.copy x)) → NamesHave u e → NamesHave (up_to u m) (opposite_copied s e)
  copy-has j (fun1 false f (comp_ex e gs)) l s copies h = go (at_last_condition gs) (parted-names u gs h.0.1) l
    where
      go : (o : Option Parted) → PartedHas u o → (elim o [
        | None ↦ j
        | Some t ↦ (told (opposite_of f e t) [] j).1
      ]) ≤ m → NamesHave (up_to u m) (elim o [
        | None ↦ fun1 false f (comp_ex e gs)
        | Some t ↦ s.copy (opposite_of f e t)
      ])
      go None k l = names-wider u (up_to u m) wider (fun1 false f (comp_ex e gs)) h
      go (Some t) k l = copies (opposite_of f e t) l ((everywhere-names u e h.0.0, gens-everywhere u t.before k.0), tt)
  copy-has j e l s copies h = names-wider u (up_to u m) wider e h

  taken-has : (n k : ℕ) (r : Rule) (e : Ex) → behind_names (n + 3 + k) r e ≤ m → NamesHave u e →
      TakesHave (up_to u m) (supply_at n k) r e
  taken-has n k equal_matrices_at (ex2 b o x y) l h = (
    axis-has (up_to u m) x (names-wider u (up_to u m) wider x h.0),
    axis-has (up_to u m) y (names-wider u (up_to u m) wider y h.1.0),
  )
  taken-has n k least_under_a_condition e l h =
      copy-has (n + 3 + k) e l (supply_at n k) (λ x p q. told-has x (n + 3 + k) p q) h
  taken-has n k r e l h = tt

  pub supply-has : (n k : ℕ) (r : Rule) (e : Ex) → n + 3 + k ≤ m → behind_names (n + 3 + k) r e ≤ m → NamesHave u e →
      SupplyHas (up_to u m) (supply_at n k) r e
  supply-has n k r e l b h = record {
    one = given n (omega (arith, l));
    other = given (n + 1) (omega (arith, l));
    third = given (n + 2) (omega (arith, l));
    parts = names-given (n + 3) k (omega (arith, l));
    taken = taken-has n k r e b h;
  }

  step-has : (n : ℕ) (g : Names Ty) (a b : Ex) → IsStep n g a b m → NamesHave u a → NamesHave (up_to u m) b
  step-has n g a b (by_a_rule k r q l p) h =
      rules-keep-names.by_each_rule (up_to u m) (supply_at n k) g r a b q (supply-has n k r a l p h)
      (names-wider u (up_to u m) wider a h)
  step-has n g a b (told_anew l) h = told-has a n l h

-- A step takes no number back.
pub step-up : (n m : ℕ) (g : Names Ty) (a b : Ex) → IsStep n g a b m → n ≤ m
step-up n m g a b (by_a_rule k r q l p) = omega (arith, l)
step-up n m g a b (told_anew l) = up n (told a [] n).1 m (ex-up a [] n) l
  where
    up : (n k m : ℕ) → n ≤ k → k ≤ m → n ≤ m
    up n k m p q = omega (arith, p, q)

pub spares-later : (n m : ℕ) (e : Ex) → n ≤ m → Spares n e → Spares m e
spares-later n m e l s = record { among = s.among; has = s.has; spared = λ j k b. s.spared j (omega (arith, l, k)) b }

-- What a tree spares a step leaves, behind the names that it takes.
pub spares-step : (n m : ℕ) (g : Names Ty) (a b : Ex) → IsStep n g a b m → (c : In) → Spares n (fill c a) → Spares m (fill c b)
spares-step n m g a b i c s = record {
  among = up_to s.among m;
  has = part-names (up_to s.among m) a b (λ h. step-has s.among m n g a b i (of-part s.among a c s.has)) c
      (names-wider s.among (up_to s.among m) (wider s.among m) (fill c a) s.has);
  spared = λ j l b'. both-false (s.among (reserved j)) (is_before m (reserved j))
      (s.spared j (later n m j (step-up n m g a b i) l) b') (before-none m j l b');
}
  where
    later : (n m j : ℕ) → n ≤ m → m ≤ j → n ≤ j
    later n m j p q = omega (arith, p, q)

spares-along : (n m : ℕ) (g : Names Ty) (old new : Ex) → Chain IsStep n g old new m → Spares n old → Spares m new
spares-along n m g e d (at_rest l) s = spares-later n m e l s
spares-along n m g old e (one_more {s = t} {k = k} {a = a} {b = b} c l i u) s =
    spares-along k m g (fill c b) e u (spares-step t k (names_at c g) a b i c (spares-later n t old l s))

-- A name that the tree spares is none that it has.
pub differs : (u : Text → Bool) (x : Text) → u x ≡ false → (a : Text) → IsTrue (u a) → IsTrue (not (same_text x a))
differs u x f a t = go (same_text x a) refl
  where
    go : (b : Bool) → same_text x a ≡ b → IsTrue (not b)
    go false e = refl
    go true e = let q : true ≡ false = sym t ∙ ap u (sym (same_text-equal x a e)) ∙ f in cc

-- What is proved of spared names.
pub chains-spare-names : ChainsSpareNames
chains-spare-names = record {
  by_a_step = spares-step;
  along = spares-along;
  unused = λ n j e s l b. names-are s.among (λ a. not (same_text (reserved j) a)) (λ a. true)
      (differs s.among (reserved j) (s.spared j l b)) (λ a t. refl) e s.has;
  unbound = λ n j e s l b. names-are s.among (λ a. true) (λ a. not (same_text (reserved j) a)) (λ a t. refl)
      (differs s.among (reserved j) (s.spared j l b)) e s.has;
  later = spares-later;
}
