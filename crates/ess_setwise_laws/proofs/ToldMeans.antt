-- A constraint of the class means over tables what it means over values of names, where cells and views have these values.
use Rattle.std.proofs.Common.{◌≡◌, refl, ap, ◌∙◌, ℕ, suc, ◌≤◌, ◌<◌, Bool, true, false, if◌then◌else◌, List, [], ◌∷◌, Option, Some, None, option_map, arith}
use Rattle.ess_semantics.specs.declared.words.Op1.{Op1}
use Rattle.ess_semantics.specs.declared.words.Op2.{Op2}
use Rattle.ess_semantics.specs.declared.words.Fun.{Fun}
use Rattle.ess_semantics.specs.Lists.{or_default}
use Rattle.ess_semantics.specs.Values.{Text, Value, items_of}
use Rattle.ess_semantics.specs.Order.{same_text}
use Rattle.ess_semantics.specs.Names.{Names, look}
use Rattle.ess_semantics.specs.Trees.{unary, binary, word, both_ends, Ex, name_ex, Gens, bool_dom, ex2}
use Rattle.ess_semantics.specs.Operators.{value_of_node, false_where_undefined, list_value}
use Rattle.ess_semantics.specs.Domains.{integers}
use Rattle.ess_semantics.specs.Tables.{Table}
use Rattle.ess_semantics.specs.Meaning.{Env, TypeEntry, meaning, items_under, domain_of, members_in, spans_of}
use Rattle.ess_semantics.proofs.Texts.{same_text-itself}
use Rattle.ess_rules_laws.proofs.Simulation.{Vals, E, collect-same, and_then-same, where-same}
use Rattle.conjure_model_laws.specs.ToldApart.{reserved, renamed, told, told_gens}
use Rattle.conjure_model_laws.specs.Shown.{Shows, in_place}
use Rattle.ess_chain_names_laws.proofs.ToldNames.{on, ex-up, gens-up}
use Rattle.ess_seen_laws.specs.Seen.{Kind, scalars, sets_of, Bound, over_a_range, from_a_set, bound_kind}
use Rattle.ess_setwise_laws.specs.Setwise.{kind_at}
use Rattle.ess_setwise_laws.proofs.SetwiseTrees.{named, as_shown, SetTree, stands, combined, Setwise, number, truth, scalar, one, two, chosen, folded, size, within, set_within, compared, Binding, at_end, over_truths, over_numbers, among, where_holds, NoneShown, ShowsAll}
use Rattle.ess_setwise_laws.proofs.ShownForms.{form-still}
use Rattle.ess_setwise_laws.proofs.NameKinds.{bound_at, apart, IsAt, Kept, later, bound}
use Rattle.ess_setwise_laws.proofs.ToldSets.{made, made_gens, made_right, shown-two, shown-combined, shown-compared, shown-in}

module _ (sh : Shows) (names : Text → Option Kind) (cells : Text → Option (Bool × List ℕ)) (w : ShowsAll sh names cells) (lim : ℕ)
    (differ : (i j : ℕ) → i < j → j < lim → same_text (reserved j) (reserved i) ≡ false)
    (pl pl' : Bool) (ts ts' : List TypeEntry) (cs cs' : Names Table) where
  abbrev R : Names Bound → Ex → Bool → Type 0
  R = Setwise names NoneShown

  abbrev K : Names Bound → Names Bound → Names Text → ℕ → Type 0
  K = Kept sh names cells w lim differ

  abbrev At : Names Bound → Ex → Kind → Type 0
  At = IsAt sh names cells w lim differ

  -- Envs over values of names, and over tables.
  abbrev M : Vals → Env
  M g = E pl ts cs g

  abbrev T : Vals → Env
  T h = E pl' ts' cs' h

  -- What is shown of names has their values.
  pub record Related (r t : Names Bound) (u : Names Text) (k : ℕ) (g h : Vals) : Type 0 where
    pub kept : K r t u k
    pub firsts : (a : Text) (i : Kind) → kind_at names r a ≡ Some i → meaning (in_place sh.first (renamed u a)) (T h) ≡ look g a
    pub lasts : (a : Text) (i : Kind) → kind_at names r a ≡ Some (sets_of i) → meaning (in_place sh.last (renamed u a)) (T h) ≡ look g a

  on-later : (r t : Names Bound) (u : Names Text) (k i : ℕ) (g h : Vals) → k ≤ i → Related r t u k g h → Related r t u i g h
  on-later r t u k i g h l x =
      record { kept = later sh names cells w lim differ r t u k i l x.kept; firsts = x.firsts; lasts = x.lasts }

  -- One more name has a value.
  at-still : (t : Names Bound) (e : Ex) (k : Kind) (a : Text) (v : Value) (h : Vals) → bound_at t a ≡ None → At t e k →
      meaning e (T ((a, v) ∷ h)) ≡ meaning e (T h)
  at-still t e k a v h n (named {a = b} s) = ap (λ c. if c then Some v else look h b) (apart t a b k n s)
  at-still t e k a v h n (as_shown s) = form-still cells pl' ts' cs' ((a, v) ∷ h) h s.form

  related-place : (vs : Names Ex) → ((j : ℕ) → in_place vs (reserved j) ≡ name_ex (reserved j)) → (a : Text) (x : Bound) (v : Value)
      (r t : Names Bound) (u : Names Text) (k : ℕ) (g h : Vals) → bound_at t (reserved k) ≡ None → (b : Text) (i : Kind) →
      (kind_at names r b ≡ Some i → At t (in_place vs (renamed u b)) i) →
      (kind_at names r b ≡ Some i → meaning (in_place vs (renamed u b)) (T h) ≡ look g b) → kind_at names ((a, x) ∷ r) b ≡ Some i →
      meaning (in_place vs (renamed ((a, reserved k) ∷ u) b)) (T ((reserved k, v) ∷ h)) ≡ look ((a, v) ∷ g) b
  related-place vs shows a x v r t u k g h n b i f m q = go (same_text a b) q
    where
      itself : meaning (in_place vs (reserved k)) (T ((reserved k, v) ∷ h)) ≡ Some v
      itself =
          ap (λ z. meaning z (T ((reserved k, v) ∷ h))) (shows k)
          ∙ ap (λ c. if c then Some v else look h (reserved k)) (same_text-itself (reserved k))

      go : (c : Bool) → (if c then Some (bound_kind x) else kind_at names r b) ≡ Some i →
          meaning (in_place vs (or_default (if c then Some (reserved k) else look u b) b)) (T ((reserved k, v) ∷ h))
          ≡ (if c then Some v else look g b)
      go true q = itself
      go false q = at-still t (in_place vs (renamed u b)) i (reserved k) v h n (f q) ∙ m q

  bound-related : (a : Text) (x : Bound) (v : Value) (r t : Names Bound) (u : Names Text) (k : ℕ) (g h : Vals) → k < lim →
      Related r t u k g h →
      Related ((a, x) ∷ r) ((reserved k, x) ∷ t) ((a, reserved k) ∷ u) (suc k) ((a, v) ∷ g) ((reserved k, v) ∷ h)
  bound-related a x v r t u k g h l y =
      let n = y.kept.spared k (omega arith) l in record {
        kept = bound sh names cells w lim differ a x r t u k l y.kept;
        firsts = λ b i q. related-place sh.first w.spares_first a x v r t u k g h n b i (y.kept.firsts b i) (y.firsts b i) q;
        lasts = λ b i q. related-place sh.last w.spares_last a x v r t u k g h n b (sets_of i) (y.kept.lasts b i) (y.lasts b i) q;
      }

  range-same : (x y x' y' : Option Value) → x' ≡ x → y' ≡ y →
      members_in (option_map integers (spans_of (both_ends ∷ []) (x' ∷ y' ∷ [])))
      ≡ members_in (option_map integers (spans_of (both_ends ∷ []) (x ∷ y ∷ [])))
  range-same x y x' y' p q =
      ap (λ z. members_in (option_map integers (spans_of (both_ends ∷ []) (z ∷ y' ∷ [])))) p
      ∙ ap (λ z. members_in (option_map integers (spans_of (both_ends ∷ []) (x ∷ z ∷ [])))) q

  two-same : (b : Bool) (o : Op2) (x y x' y' : Option Value) → x' ≡ x → y' ≡ y →
      false_where_undefined b (value_of_node (binary o) (x' ∷ y' ∷ []))
      ≡ false_where_undefined b (value_of_node (binary o) (x ∷ y ∷ []))
  two-same b o x y x' y' p q =
      ap (λ z. false_where_undefined b (value_of_node (binary o) (z ∷ y' ∷ []))) p
      ∙ ap (λ z. false_where_undefined b (value_of_node (binary o) (x ∷ z ∷ []))) q

  -- A set so made means the same.
  set-means : {r : Names Bound} {e : Ex} {i : Kind} → SetTree names NoneShown r e i → (t : Names Bound) (u : Names Text) (k : ℕ)
      (g h : Vals) → Related r t u k g h → meaning (made sh e u k) (T h) ≡ meaning e (M g)
  set-means {i = i} (stands (named {a = a} q)) t u k g h x = x.firsts a (sets_of i) q
  set-means (stands (as_shown q)) t u k g h x = absurd q
  set-means {r} (combined {o = o} {s = e} {t = f} c d i) t u k g h x =
      let q = (told e u k).1 in
      ap (λ z. meaning z (T h)) (shown-combined sh (told e u k).0 (told f u q).0 c)
      ∙ two-same false o (meaning e (M g)) (meaning f (M g)) (meaning (made sh e u k) (T h)) (meaning (made sh f u q) (T h))
      (set-means d t u k g h x) (set-means i t u q g h (on-later r t u k q g h (ex-up e u k) x))

  -- So it does behind `in`.
  right-means : {r : Names Bound} {e : Ex} {i : Kind} → SetTree names NoneShown r e i → (t : Names Bound) (u : Names Text) (k : ℕ)
      (g h : Vals) → Related r t u k g h → meaning (made_right sh e u k) (T h) ≡ meaning e (M g)
  right-means {i = i} (stands (named {a = a} q)) t u k g h x = x.lasts a i q
  right-means (stands (as_shown q)) t u k g h x = absurd q
  right-means (combined c d i) t u k g h x = set-means (combined c d i) t u k g h x

  -- A membership.
  in-means : {r : Names Bound} {s : Ex} {i : Kind} → SetTree names NoneShown r s i → (e : Ex) (t : Names Bound) (u : Names Text) (k : ℕ)
      (g h : Vals) → Related r t u k g h → meaning (made sh e u k) (T h) ≡ meaning e (M g) →
      meaning (made sh (ex2 true Op2.Member e s) u k) (T h) ≡ meaning (ex2 true Op2.Member e s) (M g)
  in-means {r} {s} d e t u k g h x p =
      let q = (told e u k).1 in
      ap (λ z. meaning z (T h)) (shown-in sh names d e u k)
      ∙ two-same true Op2.Member (meaning e (M g)) (meaning s (M g)) (meaning (made sh e u k) (T h)) (meaning (made_right sh s u q) (T h))
      p (right-means d t u q g h (on-later r t u k q g h (ex-up e u k) x))

  mutual
    -- A constraint so made means the same.
    pub told-means : {r : Names Bound} {e : Ex} {m : Bool} → R r e m → (t : Names Bound) (u : Names Text) (k : ℕ) (g h : Vals) →
        (told e u k).1 ≤ lim → Related r t u k g h → meaning (made sh e u k) (T h) ≡ meaning e (M g)
    told-means number t u k g h l x = refl
    told-means truth t u k g h l x = refl
    told-means (scalar {m = m} (named {a = a} q)) t u k g h l x = x.firsts a (scalars m) q
    told-means (scalar (as_shown q)) t u k g h l x = absurd q
    told-means (one {b = b} {o = o} s f) t u k g h l x =
        ap (λ p. false_where_undefined b (value_of_node (unary o) (p ∷ []))) (told-means f t u k g h l x)
    told-means {r} (two {b = b} {o = o} {x = e} {y = f} s d i) t u k g h l x =
        let q = (told e u k).1 in
        ap (λ z. meaning z (T h)) (shown-two sh (told e u k).0 (told f u q).0 s)
        ∙ two-same b o (meaning e (M g)) (meaning f (M g)) (meaning (made sh e u k) (T h)) (meaning (made sh f u q) (T h))
        (told-means d t u k g h (on q (told f u q).1 lim (ex-up f u q) l) x)
        (told-means i t u q g h l (on-later r t u k q g h (ex-up e u k) x))
    told-means (chosen f) t u k g h l x =
        ap (λ p. false_where_undefined false (value_of_node (word Fun.ToInt) (p ∷ []))) (told-means f t u k g h l x)
    told-means (folded {m = m} {f = f} {e = e} {gs = gs} v d i) t u k g h l x =
        let q = told_gens gs u k in
        ap (λ p. false_where_undefined m (value_of_node (word f) (option_map list_value p ∷ [])))
        (binding-means d t u k g h (on q.2 (told e q.1 q.2).1 lim (ex-up e q.1 q.2) l) x
        (λ here. option_map (λ z. z ∷ []) (meaning (made sh e q.1 q.2) here)) (λ here. option_map (λ z. z ∷ []) (meaning e here))
        (λ n g' h' y. ap (option_map (λ z. z ∷ [])) (told-means i n q.1 q.2 g' h' l y)))
    told-means (size d) t u k g h l x =
        ap (λ p. false_where_undefined false (value_of_node (unary Op1.Bar) (p ∷ []))) (set-means d t u k g h x)
    told-means (within {x = e} {s = s} f d) t u k g h l x =
        let q = (told e u k).1 in
        in-means d e t u k g h x (told-means f t u k g h (on q (told s u q).1 lim (ex-up s u q) l) x)
    told-means (set_within {a = e} f d) t u k g h l x = in-means d e t u k g h x (set-means f t u k g h x)
    told-means {r} (compared {o = o} {s = e} {t = f} c d i) t u k g h l x =
        let q = (told e u k).1 in
        ap (λ z. meaning z (T h)) (shown-compared sh (told e u k).0 (told f u q).0 c)
        ∙ two-same true o (meaning e (M g)) (meaning f (M g)) (meaning (made sh e u k) (T h)) (meaning (made sh f u q) (T h))
        (set-means d t u k g h x) (set-means i t u q g h (on-later r t u k q g h (ex-up e u k) x))

    binding-means : {r s : Names Bound} {gs : Gens} → Binding names NoneShown r gs s → (t : Names Bound) (u : Names Text)
        (k : ℕ) (g h : Vals) → (told_gens gs u k).2 ≤ lim → Related r t u k g h → (F' F : Env → Option (List Value)) →
        ((n : Names Bound) (g' h' : Vals) → Related s n (told_gens gs u k).1 (told_gens gs u k).2 g' h' → F' (T h') ≡ F (M g')) →
        items_under (made_gens sh gs u k) (T h) F' ≡ items_under gs (M g) F
    binding-means at_end t u k g h l x F' F f = f t g h x
    binding-means (over_truths {r = r} {a = a} {gs = gs} n d) t u k g h l x F' F f =
        let v = told_gens gs ((a, reserved k) ∷ u) (suc k) in
        let p : suc k ≤ lim = on (suc k) v.2 lim (gens-up gs ((a, reserved k) ∷ u) (suc k)) l in
        and_then-same (members_in (domain_of bool_dom (T h))) (members_in (domain_of bool_dom (M g))) _ _ refl
        (λ vs. collect-same vs _ _ (λ z. binding-means d ((reserved k, over_a_range true) ∷ t) ((a, reserved k) ∷ u) (suc k) ((a, z) ∷ g)
        ((reserved k, z) ∷ h) l (bound-related a (over_a_range true) z r t u k g h (omega (arith, p)) x) F' F f))
    binding-means (over_numbers {r = r} {a = a} {x = e} {y = y} {gs = gs} n b i d) t u k g h l x F' F f =
        let j = (told e u k).1 in
        let c = (told y u j).1 in
        let v = told_gens gs ((a, reserved c) ∷ u) (suc c) in
        let p : suc c ≤ lim = on (suc c) v.2 lim (gens-up gs ((a, reserved c) ∷ u) (suc c)) l in
        let xj = on-later r t u k j g h (ex-up e u k) x in
        let xc = on-later r t u j c g h (ex-up y u j) xj in
        and_then-same _ _ _ _
        (range-same (meaning e (M g)) (meaning y (M g)) (meaning (made sh e u k) (T h)) (meaning (made sh y u j) (T h))
        (told-means b t u k g h (on j c lim (ex-up y u j) (omega (arith, p))) x) (told-means i t u j g h (omega (arith, p)) xj))
        (λ vs. collect-same vs _ _ (λ z. binding-means d ((reserved c, over_a_range false) ∷ t) ((a, reserved c) ∷ u) (suc c) ((a, z) ∷ g)
        ((reserved c, z) ∷ h) l (bound-related a (over_a_range false) z r t u c g h (omega (arith, p)) xc) F' F f))
    binding-means (among {r = r} {k = i} {a = a} {s = s} {gs = gs} n b d) t u k g h l x F' F f =
        let c = (told s u k).1 in
        let v = told_gens gs ((a, reserved c) ∷ u) (suc c) in
        let p : suc c ≤ lim = on (suc c) v.2 lim (gens-up gs ((a, reserved c) ∷ u) (suc c)) l in
        let xc = on-later r t u k c g h (ex-up s u k) x in
        and_then-same (meaning (made sh s u k) (T h)) (meaning s (M g)) _ _ (set-means b t u k g h x)
        (λ y. collect-same (items_of y) _ _ (λ z. binding-means d ((reserved c, from_a_set i) ∷ t) ((a, reserved c) ∷ u) (suc c)
        ((a, z) ∷ g) ((reserved c, z) ∷ h) l (bound-related a (from_a_set i) z r t u c g h (omega (arith, p)) xc) F' F f))
    binding-means (where_holds {r = r} {e = e} {gs = gs} i d) t u k g h l x F' F f =
        let q = (told e u k).1 in
        let v = told_gens gs u q in
        where-same (meaning (made sh e u k) (T h)) (meaning e (M g)) _ _
        (told-means i t u k g h (on q v.2 lim (gens-up gs u q) l) x)
        (binding-means d t u q g h l (on-later r t u k q g h (ex-up e u k) x) F' F f)
