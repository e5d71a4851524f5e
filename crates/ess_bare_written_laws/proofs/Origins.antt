-- Names with their marks beside what they run over: what the form of a lean tree tells is its mark.
use Rattle.std.proofs.Common.{◌≡◌, refl, sym, ap, ◌∙◌, subst, ℕ, Bool, true, false, if◌then◌else◌, List, [], ◌∷◌, ℤ, pos, Option, Some}
use Rattle.ess_semantics.specs.declared.words.Fun.{Fun}
use Rattle.ess_semantics.specs.Values.{Text}
use Rattle.ess_semantics.specs.Order.{same_text}
use Rattle.ess_semantics.specs.Names.{Names, look}
use Rattle.ess_semantics.specs.Trees.{Ends, both_ends, Ex, Exs, number_ex, name_ex, no_exs, more_exs, Dom, bool_dom, int_dom, fun1}
use Rattle.ess_guard_laws.specs.Origins.{Origin, runs_over, lies_within, comes_from}
use Rattle.ess_keys_laws.specs.KeyForms.{is_truth, as_index, as_indices}
use Rattle.ess_bare_laws.specs.Lean.{as_number, Lean, a_number, a_truth, a_name, a_cell, by_one, by_two, by_power, by_truth, by_fold, by_items, by_greatest, by_order, Terms, no_terms, more_terms}

-- The mark of what runs over a domain.
pub data MarkOf : Dom → Bool → Type 0 where
  of_truths : MarkOf bool_dom true
  of_numbers : {rs : List Ends} {es : Exs} → MarkOf (int_dom rs es) false

-- Names with their marks, and with what they run over.
pub data Origins : Names Bool → Names Origin → Type 0 where
  no_origins : Origins [] []
  more_origins : {u : Names Bool} {k : Names Origin} {a : Text} {d : Dom} {m : Bool} → MarkOf d m → Origins u k →
      Origins ((a, m) ∷ u) ((a, runs_over d) ∷ k)

-- What a name with a mark runs over.
record RunsOver (k : Names Origin) (a : Text) (m : Bool) : Type 0 where
  over_dom : Dom
  origin : look k a ≡ Some (runs_over over_dom)
  mark : MarkOf over_dom m

origin-of : {u : Names Bool} {k : Names Origin} → Origins u k → (a : Text) (m : Bool) → look u a ≡ Some m → RunsOver k a m
origin-of no_origins a m q = cc
origin-of (more_origins {u = u} {k = k} {a = b} {d = d} {m = n} w s) a m q = go (same_text b a) refl q (origin-of s a m)
  where
    go : (c : Bool) → same_text b a ≡ c → (if c then Some n else look u a) ≡ Some m → (look u a ≡ Some m → RunsOver k a m) →
        RunsOver ((b, runs_over d) ∷ k) a m
    go true e q f = let p : n ≡ m = cc in record {
      over_dom = d;
      origin = ap (λ c. if c then Some (runs_over d) else look k a) e;
      mark = subst (MarkOf d) p w;
    }
    go false e q f = let r = f q in record {
      over_dom = r.over_dom;
      origin = ap (λ c. if c then Some (runs_over d) else look k a) e ∙ r.origin;
      mark = r.mark;
    }

-- The mark of a name that runs over a domain.
pub record HasMark (u : Names Bool) (a : Text) (d : Dom) : Type 0 where
  pub its : Bool
  pub there : look u a ≡ Some its
  pub mark : MarkOf d its

pub mark-of : {u : Names Bool} {k : Names Origin} → Origins u k → (a : Text) (d : Dom) → look k a ≡ Some (runs_over d) → HasMark u a d
mark-of no_origins a d q = cc
mark-of (more_origins {u = u} {k = k} {a = b} {d = e} {m = n} w s) a d q = go (same_text b a) refl q (mark-of s a d)
  where
    go : (c : Bool) → same_text b a ≡ c → (if c then Some (runs_over e) else look k a) ≡ Some (runs_over d) →
        (look k a ≡ Some (runs_over d) → HasMark u a d) → HasMark ((b, n) ∷ u) a d
    go true x q f = let p : e ≡ d = cc in record {
      its = n;
      there = ap (λ c. if c then Some n else look u a) x;
      mark = subst (λ z. MarkOf z n) p w;
    }
    go false x q f = let r = f q in record {
      its = r.its;
      there = ap (λ c. if c then Some n else look u a) x ∙ r.there;
      mark = r.mark;
    }

-- ---- domains

no-truths : (rs : List Ends) (es : Exs) → lies_within (int_dom rs es) bool_dom ≡ false
no-truths (both_ends ∷ []) (more_exs (number_ex a) (more_exs (number_ex b) no_exs)) = refl
no-truths rs es = refl

-- Where one domain lies within another one they have one mark.
pub within-mark : {d e : Dom} {m n : Bool} → MarkOf d m → MarkOf e n → lies_within d e ≡ true → m ≡ n
within-mark of_truths of_truths q = refl
within-mark of_truths of_numbers q = cc
within-mark (of_numbers {rs = rs} {es = es}) of_truths q = let p : false ≡ true = sym (no-truths rs es) ∙ q in cc
within-mark of_numbers of_numbers q = refl

module _ (cells : Text → Option (Bool × ℕ)) (ok : ℤ → Bool) (fine : Text → Bool) where
  abbrev T : Names Bool → Ex → Bool → Type 0
  T = Lean cells ok fine true

  module _ {u : Names Bool} {k : Names Origin} (s : Origins u k) where
    -- The form of a lean tree tells whether it is a truth value.
    pub truth-told : {e : Ex} → T u e true → is_truth k e ≡ true
    truth-told a_truth = refl
    truth-told (a_name {a = a} q) = let p = origin-of s a true q in ap (λ o. comes_from o bool_dom) p.origin ∙ go p.mark
      where
        go : {d : Dom} → MarkOf d true → lies_within d bool_dom ≡ true
        go of_truths = refl
    truth-told (a_cell q l) = refl
    truth-told (by_one w f) = refl
    truth-told (by_two w f h) = refl
    truth-told (by_fold w x f) = refl
    truth-told (by_items w l) = refl
    truth-told (by_order w f h) = refl

    pub no-truth-told : {e : Ex} → T u e false → is_truth k e ≡ false
    no-truth-told (a_number q) = refl
    no-truth-told (a_name {a = a} q) = let p = origin-of s a false q in ap (λ o. comes_from o bool_dom) p.origin ∙ go p.mark
      where
        go : {d : Dom} → MarkOf d false → lies_within d bool_dom ≡ false
        go (of_numbers {rs = rs} {es = es}) = no-truths rs es
    no-truth-told (a_cell q l) = refl
    no-truth-told (by_one w f) = refl
    no-truth-told (by_two w f h) = refl
    no-truth-told (by_power f h) = refl
    no-truth-told (by_truth f) = refl
    no-truth-told (by_fold w x f) = refl
    no-truth-told (by_items w l) = refl
    no-truth-told (by_greatest f h) = refl

    -- ---- indices

    truth-index : {e : Ex} → T u e true → (b : Bool) → b ≡ true → T u (if b then fun1 false Fun.ToInt e else e) false
    truth-index f true q = by_truth f
    truth-index f false q = cc

    number-index : {e : Ex} → T u e false → (b : Bool) → b ≡ false → T u (if b then fun1 false Fun.ToInt e else e) false
    number-index f true q = cc
    number-index f false q = f

    module _ (zero_ok : ok (pos 0) ≡ true) (one_ok : ok (pos 1) ≡ true) where
      -- Indices are numbers.
      index-lean : {e : Ex} {m : Bool} → T u e m → T u (as_index k e) false
      index-lean (a_number q) = a_number q
      index-lean (a_truth {b = true}) = a_number one_ok
      index-lean (a_truth {b = false}) = a_number zero_ok
      index-lean (a_name {a = a} {m = true} q) = truth-index (a_name q) (is_truth k (name_ex a)) (truth-told (a_name q))
      index-lean (a_name {a = a} {m = false} q) = number-index (a_name q) (is_truth k (name_ex a)) (no-truth-told (a_name q))
      index-lean (a_cell {b = true} q l) = by_truth (a_cell q l)
      index-lean (a_cell {b = false} q l) = a_cell q l
      index-lean (by_one {b = true} w f) = by_truth (by_one w f)
      index-lean (by_one {b = false} w f) = by_one w f
      index-lean (by_two {b = true} w f h) = by_truth (by_two w f h)
      index-lean (by_two {b = false} w f h) = by_two w f h
      index-lean (by_power f h) = by_power f h
      index-lean (by_truth f) = by_truth f
      index-lean (by_fold {b = true} w x f) = by_truth (by_fold w x f)
      index-lean (by_fold {b = false} w x f) = by_fold w x f
      index-lean (by_items {b = true} w l) = by_truth (by_items w l)
      index-lean (by_items {b = false} w l) = by_items w l
      index-lean (by_greatest f h) = by_greatest f h
      index-lean (by_order w f h) = by_truth (by_order w f h)

      pub indices-lean : {w : Bool} {es : Exs} {n : ℕ} → Terms cells ok fine true w u es n →
          Terms cells ok fine true true u (as_indices k es) n
      indices-lean no_terms = no_terms
      indices-lean (more_terms w f l) = more_terms as_number (index-lean f) (indices-lean l)
