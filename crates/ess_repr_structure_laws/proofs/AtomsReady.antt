-- The term for an atom says whether a number is one of the atom's, and the dummy's term is the dummy, where the atom's bounds are numbers.
use Rattle.std.proofs.Common.{◌≡◌, refl, sym, ap, ◌∙◌, subst, ℕ, ◌<◌, Bool, true, false, ◌&&◌, ◌||◌, if◌then◌else◌, List, [], ◌∷◌, ℤ, pos, ◌+ℤ◌, ◌-ℤ◌, Option, Some, None, int_le, arith}
use Rattle.std.proofs.lemmas.Int.{ints}
use Rattle.std.specs.List.{list_any}
use Rattle.ess_semantics.specs.declared.words.Op2.{Op2}
use Rattle.ess_semantics.specs.Lists.{and_then}
use Rattle.ess_semantics.specs.Values.{Text, number, truth}
use Rattle.ess_semantics.specs.Numbers.{natural}
use Rattle.ess_semantics.specs.Order.{same, same_text}
use Rattle.ess_semantics.specs.Atoms.{IsAtom}
use Rattle.ess_semantics.specs.Kinds.{has_dummy}
use Rattle.ess_semantics.specs.Layers.{as_cell}
use Rattle.ess_semantics.specs.SetLayers.{dummy_of}
use Rattle.ess_semantics.specs.Membership.{in_span, in_spans}
use Rattle.ess_semantics.specs.Tables.{is_cell}
use Rattle.ess_semantics.specs.Trees.{Ends, one_value, both_ends, low_end, high_end, Ex, Exs, no_exs, more_exs, Dom, bool_dom, int_dom, name_dom, ex2}
use Rattle.ess_semantics.specs.Domains.{Span, Domain, booleans, integers, named, between}
use Rattle.ess_semantics.specs.Sizes.{bound}
use Rattle.ess_semantics.specs.Meaning.{Env, TypeEntry, type_entry, named_domain, as_int, with_span, spans_of, domain_of, meaning, meanings}
use Rattle.ess_semantics.proofs.Connectives.{and-means, or-means, binary-means}
use Rattle.ess_repr_laws.specs.Rooms.{HasDummy}
use Rattle.ess_repr_laws.specs.StructureParts.{le_ex, and_ex}
use Rattle.ess_repr_laws.specs.StructureMeaning.{Number, AllNumbers, Bound, M, AtomReady, DummyIs, DomainIs}
use Rattle.ess_repr_laws.proofs.DomainForms.{same_form}
use Rattle.ess_repr_laws.proofs.StructureNumbers.{le-means}
use Rattle.ess_repr_declare_laws.specs.SizeTerms.{zero_ex, one_ex, listed_ex, is_missing, bound_or_0, in_ranges_ex, inside_ex, size_terms}
use Rattle.ess_repr_declare_laws.proofs.SizeNumbers.{mapped, chained}
use Rattle.ess_repr_declare_laws.proofs.IntSizes.{name-reads, span-long, bound-reads-same}
use Rattle.ess_repr_structure_laws.specs.DomainNumbers.{NumbersIn}
use Rattle.ess_repr_structure_laws.proofs.WholeNumbers.{listed-whole}

-- ---- ranges

-- The test of ranges says whether the number lies in one of them.
ranges-mean : (env : Env) (rs : List Ends) (es : Exs) (ss : List Span) → spans_of rs (meanings es env) ≡ Some ss → AllNumbers es env →
    (x : Ex) (z : ℤ) → Number x env z → meaning (in_ranges_ex rs es x) env ≡ Some (truth (list_any (in_span z) ss))
ranges-mean env [] no_exs ss h a x z n = let q : [] ≡ ss = cc in ap (λ l. Some (truth (list_any (in_span z) l))) q
ranges-mean env [] (more_exs e es) ss h a x z n = cc
ranges-mean env (one_value ∷ rs) no_exs ss h a x z n = cc
ranges-mean env (one_value ∷ rs) (more_exs e es) ss h a x z n =
    let c = chained (as_int (meaning e env)) (λ k. with_span (Some k) (Some k) (spans_of rs (meanings es env))) ss h in
    let m = mapped (λ l. record { low = Some c.0; high = Some c.0 } ∷ l) (spans_of rs (meanings es env)) ss c.2 in
    or-means env (ex2 true Op2.Eq x e) (in_ranges_ex rs es x) (same (number z) (number c.0)) (list_any (in_span z) m.0)
    (binary-means env true Op2.Eq x e (number z) (number c.0) n (a.0 c.0 c.1)) (ranges-mean env rs es m.0 m.1 a.1 x z n)
    ∙ ap (λ b. Some (truth (b || list_any (in_span z) m.0))) (one z c.0) ∙ ap (λ l. Some (truth (list_any (in_span z) l))) m.2
  where
    one : (x y : ℤ) → same (number x) (number y) ≡ int_le y x && int_le x y
    one x y = grind arith
ranges-mean env (both_ends ∷ rs) no_exs ss h a x z n = cc
ranges-mean env (both_ends ∷ rs) (more_exs e no_exs) ss h a x z n = cc
ranges-mean env (both_ends ∷ rs) (more_exs e (more_exs f es)) ss h a x z n =
    let c = chained (as_int (meaning e env)) (λ k. and_then (as_int (meaning f env))
    (λ j. with_span (Some k) (Some j) (spans_of rs (meanings es env)))) ss h in
    let d = chained (as_int (meaning f env)) (λ j. with_span (Some c.0) (Some j) (spans_of rs (meanings es env))) ss c.2 in
    let m = mapped (λ l. record { low = Some c.0; high = Some d.0 } ∷ l) (spans_of rs (meanings es env)) ss d.2 in
    or-means env (and_ex (le_ex e x) (le_ex x f)) (in_ranges_ex rs es x) (int_le c.0 z && int_le z d.0) (list_any (in_span z) m.0)
    (and-means env (le_ex e x) (le_ex x f) (int_le c.0 z) (int_le z d.0) (le-means env e x c.0 z (a.0 c.0 c.1) n)
    (le-means env x f z d.0 n (a.1.0 d.0 d.1)))
    (ranges-mean env rs es m.0 m.1 a.1.1 x z n)
    ∙ ap (λ l. Some (truth (list_any (in_span z) l))) m.2
ranges-mean env (low_end ∷ rs) no_exs ss h a x z n = cc
ranges-mean env (low_end ∷ rs) (more_exs e es) ss h a x z n =
    let c = chained (as_int (meaning e env)) (λ k. with_span (Some k) None (spans_of rs (meanings es env))) ss h in
    let m = mapped (λ l. record { low = Some c.0; high = None } ∷ l) (spans_of rs (meanings es env)) ss c.2 in
    or-means env (le_ex e x) (in_ranges_ex rs es x) (int_le c.0 z) (list_any (in_span z) m.0) (le-means env e x c.0 z (a.0 c.0 c.1) n)
    (ranges-mean env rs es m.0 m.1 a.1 x z n)
    ∙ ap (λ b. Some (truth (b || list_any (in_span z) m.0))) (and-yes (int_le c.0 z)) ∙ ap (λ l. Some (truth (list_any (in_span z) l))) m.2
  where
    and-yes : (b : Bool) → b ≡ b && true
    and-yes true = refl
    and-yes false = refl
ranges-mean env (high_end ∷ rs) no_exs ss h a x z n = cc
ranges-mean env (high_end ∷ rs) (more_exs e es) ss h a x z n =
    let c = chained (as_int (meaning e env)) (λ k. with_span None (Some k) (spans_of rs (meanings es env))) ss h in
    let m = mapped (λ l. record { low = None; high = Some c.0 } ∷ l) (spans_of rs (meanings es env)) ss c.2 in
    or-means env (le_ex x e) (in_ranges_ex rs es x) (int_le z c.0) (list_any (in_span z) m.0) (le-means env x e z c.0 n (a.0 c.0 c.1))
    (ranges-mean env rs es m.0 m.1 a.1 x z n)
    ∙ ap (λ l. Some (truth (list_any (in_span z) l))) m.2

-- A range is there where there is a word for it.
some-range : (env : Env) (r : Ends) (rs : List Ends) (es : Exs) → spans_of (r ∷ rs) (meanings es env) ≡ Some [] → ⊥
some-range env one_value rs no_exs h = cc
some-range env one_value rs (more_exs e es) h =
    let c = chained (as_int (meaning e env)) (λ k. with_span (Some k) (Some k) (spans_of rs (meanings es env))) [] h in
    let m = mapped (λ l. record { low = Some c.0; high = Some c.0 } ∷ l) (spans_of rs (meanings es env)) [] c.2 in let q = m.2 in cc
some-range env both_ends rs no_exs h = cc
some-range env both_ends rs (more_exs e no_exs) h = cc
some-range env both_ends rs (more_exs e (more_exs f es)) h =
    let c = chained (as_int (meaning e env)) (λ k. and_then (as_int (meaning f env))
    (λ j. with_span (Some k) (Some j) (spans_of rs (meanings es env)))) [] h in
    let d = chained (as_int (meaning f env)) (λ j. with_span (Some c.0) (Some j) (spans_of rs (meanings es env))) [] c.2 in
    let m = mapped (λ l. record { low = Some c.0; high = Some d.0 } ∷ l) (spans_of rs (meanings es env)) [] d.2 in let q = m.2 in cc
some-range env low_end rs no_exs h = cc
some-range env low_end rs (more_exs e es) h =
    let c = chained (as_int (meaning e env)) (λ k. with_span (Some k) None (spans_of rs (meanings es env))) [] h in
    let m = mapped (λ l. record { low = Some c.0; high = None } ∷ l) (spans_of rs (meanings es env)) [] c.2 in let q = m.2 in cc
some-range env high_end rs no_exs h = cc
some-range env high_end rs (more_exs e es) h =
    let c = chained (as_int (meaning e env)) (λ k. with_span None (Some k) (spans_of rs (meanings es env))) [] h in
    let m = mapped (λ l. record { low = None; high = Some c.0 } ∷ l) (spans_of rs (meanings es env)) [] c.2 in let q = m.2 in cc

ints-mean : (env : Env) (rs : List Ends) (es : Exs) (ss : List Span) → domain_of (int_dom rs es) env ≡ Some (integers ss) → AllNumbers es
    env →
    (x : Ex) (z : ℤ) → Number x env z → meaning (inside_ex (int_dom rs es) x) env ≡ Some (truth (in_spans ss z))
ints-mean env rs es ss h a x z n =
    let m = mapped integers (spans_of rs (meanings es env)) (integers ss) h in
    let q : m.0 ≡ ss = let r = m.2 in cc in go rs ss (m.1 ∙ ap Some q)
  where
    go : (rs : List Ends) (ss : List Span) → spans_of rs (meanings es env) ≡ Some ss → meaning (inside_ex (int_dom rs es) x) env ≡ Some
        (truth (in_spans ss z))
    go [] ss p = none es ss p
      where
        none : (es : Exs) (ss : List Span) → spans_of [] (meanings es env) ≡ Some ss → Some (truth true) ≡ Some (truth (in_spans ss z))
        none no_exs ss p = let q : [] ≡ ss = cc in ap (λ l. Some (truth (in_spans l z))) q
        none (more_exs e es) ss p = cc
    go (r ∷ rs) [] p = absurd (some-range env r rs es p)
    go (r ∷ rs) (s ∷ ss) p = ranges-mean env (r ∷ rs) es (s ∷ ss) p a x z n

-- ---- named types

-- How many values a named type has.
type-count : (env : Env) (a : Text) (e : Domain) (n : ℕ) → domain_of (name_dom a) env ≡ Some e → bound e ≡ n → Number
    (listed_ex (name_dom a)) env (pos n)
type-count env a e n h b = listed-whole env (name_dom a) (pos n) (name-reads env a e h ∙ ap (λ k. Some (pos k)) b)

-- What is known of the numbers of a type's values.
abbrev Cells : Domain → Type 0
Cells e = (n : ℕ) × (bound e ≡ n) × ((z : ℤ) → is_cell (as_cell e) z ≡ int_le (pos 1) z && int_le z (pos n)) ×
    (dummy_of e ≡ Some (pos n +ℤ pos 1))

-- The numbers of a type's values, as positions or by name.
named-cells : (env : Env) (a : Text) (e : Domain) → domain_of (name_dom a) env ≡ Some e → Cells e
named-cells env a e h = go env.positions (type_entry env.types a) h
  where
    or-no : (b : Bool) → b || false ≡ b
    or-no true = refl
    or-no false = refl

    go : (b : Bool) (o : Option TypeEntry) → named_domain b a o ≡ Some e → Cells e
    go b None h = cc
    go true (Some t) h = let q : between (pos 1) (pos t.count) ≡ e = cc in subst Cells q
        (t.count, counted t.count, (λ z. or-no (int_le (pos 1) z && int_le z (pos t.count))), refl)
      where
        counted : (n : ℕ) → bound (between (pos 1) (pos n)) ≡ n
        counted n = span-long (pos 1) (pos n) ∙ (let e : (pos n -ℤ pos 1) +ℤ pos 1 ≡ pos n = omega (arith, ints) in ap natural e)
    go false (Some t) h = let q : named a t.count ≡ e = cc in subst Cells q
        (t.count, refl, (λ z. or-no (int_le (pos 1) z && int_le z (pos t.count))), refl)

-- ---- the terms of atoms

module _ (env0 : Env) (q : ℕ → Text) (q-apart : (m l : ℕ) → l < m → same_text (q m) (q l) ≡ false) where
  abbrev N : Bound env0 q q-apart → Env
  N = M env0 q q-apart

  bool-ready : (d : Dom) → same_form d booleans ≡ true → AtomReady env0 q q-apart size_terms d booleans
  bool-ready bool_dom s x bs z f h = ap (λ b. Some (truth b)) (sym f)
  bool-ready d s x bs z f h = cc

  int-ready : (d : Dom) (ss : List Span) → same_form d (integers ss) ≡ true → DomainIs env0 q q-apart d (integers ss) →
      ((bs : Bound env0 q q-apart) → NumbersIn d (N bs)) →
      AtomReady env0 q q-apart size_terms d (integers ss)
  int-ready (int_dom rs es) ss s m n x bs z f h = ints-mean (N bs) rs es ss (m bs) (n bs) x z h
  int-ready (name_dom a) ss s m n x bs z f h =
      let c = named-cells (N bs) a (integers ss) (m bs) in
      and-means (N bs) (le_ex one_ex x) (le_ex x (listed_ex (name_dom a))) (int_le (pos 1) z) (int_le z (pos c.0))
      (le-means (N bs) one_ex x (pos 1) z refl h)
      (le-means (N bs) x (listed_ex (name_dom a)) z (pos c.0) h (type-count (N bs) a (integers ss) c.0 (m bs) c.1))
      ∙ ap (λ b. Some (truth b)) (sym (c.2 z))
  int-ready d ss s m n x bs z f h = cc

  named-ready : (d : Dom) (t : Text) (k : ℕ) → same_form d (named t k) ≡ true → DomainIs env0 q q-apart d (named t k) → AtomReady env0 q
      q-apart size_terms d (named t k)
  named-ready (name_dom a) t k s m x bs z f h =
      let c = named-cells (N bs) a (named t k) (m bs) in
      and-means (N bs) (le_ex one_ex x) (le_ex x (listed_ex (name_dom a))) (int_le (pos 1) z) (int_le z (pos c.0))
      (le-means (N bs) one_ex x (pos 1) z refl h)
      (le-means (N bs) x (listed_ex (name_dom a)) z (pos c.0) h (type-count (N bs) a (named t k) c.0 (m bs) c.1))
      ∙ ap (λ b. Some (truth b)) (sym (c.2 z))
  named-ready d t k s m x bs z f h = cc

  -- The term for an atom is ready.
  pub atom-ready : (d : Dom) (e : Domain) → IsAtom e → same_form d e ≡ true → DomainIs env0 q q-apart d e →
      ((bs : Bound env0 q q-apart) → NumbersIn d (N bs)) →
      AtomReady env0 q q-apart size_terms d e
  atom-ready d booleans a s m n = bool-ready d s
  atom-ready d (integers ss) a s m n = int-ready d ss s m n
  atom-ready d (named t k) a s m n = named-ready d t k s m
  atom-ready d _ a s m n = absurd a

  -- The dummy's term is the dummy.
  pub dummy-ready : (d : Dom) (e : Domain) → has_dummy d ≡ true → HasDummy e → same_form d e ≡ true → DomainIs env0 q q-apart d e →
      ((bs : Bound env0 q q-apart) → NumbersIn d (N bs)) → DummyIs env0 q q-apart size_terms d e
  dummy-ready (name_dom a) e h r s m n =
      let c = named-cells (N []) a e (m []) in (
        pos c.0 +ℤ pos 1,
        c.3,
        λ bs. binary-means (N bs) false Op2.Plus (listed_ex (name_dom a)) one_ex (number (pos c.0)) (number (pos 1))
            (type-count (N bs) a e c.0 (m bs) c.1) refl,
      )
  dummy-ready (int_dom (both_ends ∷ []) no_exs) e h r s m n = let x = m [] in cc
  dummy-ready (int_dom (both_ends ∷ []) (more_exs a no_exs)) e h r s m n = let x = m [] in cc
  dummy-ready (int_dom (both_ends ∷ []) (more_exs a (more_exs b (more_exs c es)))) e h r s m n =
      let x = ends (N []) a b (more_exs c es) e (m []) in let q = x.2 in cc
    where
      ends : (env : Env) (a b : Ex) (es : Exs) (e : Domain) → domain_of (int_dom (both_ends ∷ []) (more_exs a (more_exs b es))) env ≡ Some e
          →
          (j : ℤ) × (as_int (meaning b env) ≡ Some j) × (spans_of [] (meanings es env) ≡ Some [])
      ends env a b no_exs e h =
          let u = mapped integers (spans_of (both_ends ∷ []) (meanings (more_exs a (more_exs b no_exs)) env)) e h in
          let c = chained (as_int (meaning a env)) (λ k. and_then (as_int (meaning b env)) (λ j. with_span (Some k) (Some j) (Some []))) u.0
          u.1 in
          let d = chained (as_int (meaning b env)) (λ j. with_span (Some c.0) (Some j) (Some [])) u.0 c.2 in
          (d.0, d.1, refl)
      ends env a b (more_exs c es) e h =
          let u = mapped integers (spans_of (both_ends ∷ []) (meanings (more_exs a (more_exs b (more_exs c es))) env)) e h in
          let c' = chained (as_int (meaning a env)) (λ k. and_then (as_int (meaning b env)) (λ j. with_span (Some k) (Some j) None)) u.0 u.1
          in
          let d = chained (as_int (meaning b env)) (λ j. with_span (Some c'.0) (Some j) None) u.0 c'.2 in
          let q = d.2 in cc
  dummy-ready (int_dom (both_ends ∷ []) (more_exs a (more_exs b no_exs))) e h r s m n =
      let x = last (N []) e (m []) in (
        x.0 +ℤ pos 1,
        x.2,
        λ bs.
            let y = last (N bs) e (m bs) in
            let q : y.0 ≡ x.0 = one-more (y.0) (x.0) (sym y.2 ∙ x.2) in
            binary-means (N bs) false Op2.Plus (bound_or_0 b) one_ex (number x.0) (number (pos 1))
            (whole (is_missing b) refl (N bs) x.0 (n bs) (y.1 ∙ ap Some q)) refl,
      )
    where
      one-more : (i j : ℤ) → Some (i +ℤ pos 1) ≡ Some (j +ℤ pos 1) → i ≡ j
      one-more i j h = let w : i +ℤ pos 1 ≡ j +ℤ pos 1 = cc in omega (arith, ints)

      last : (env : Env) (e : Domain) → domain_of (int_dom (both_ends ∷ []) (more_exs a (more_exs b no_exs))) env ≡ Some e →
          (j : ℤ) × (as_int (meaning b env) ≡ Some j) × (dummy_of e ≡ Some (j +ℤ pos 1))
      last env e h =
          let u = mapped integers (spans_of (both_ends ∷ []) (meanings (more_exs a (more_exs b no_exs)) env)) e h in
          let c = chained (as_int (meaning a env)) (λ k. and_then (as_int (meaning b env)) (λ j. with_span (Some k) (Some j) (Some []))) u.0
          u.1 in
          let d = chained (as_int (meaning b env)) (λ j. with_span (Some c.0) (Some j) (Some [])) u.0 c.2 in
          let w : record { low = Some c.0; high = Some d.0 } ∷ [] ≡ u.0 = let z = d.2 in cc in
          (d.0, d.1, ap dummy_of (sym u.2) ∙ ap (λ l. dummy_of (integers l)) (sym w))

      whole : (t : Bool) → is_missing b ≡ t → (env : Env) (j : ℤ) → AllNumbers (more_exs a (more_exs b no_exs)) env → as_int (meaning b env)
          ≡ Some j → Number (bound_or_0 b) env j
      whole false p env j n h = ap (λ t. meaning (if' t) env) p ∙ n.1.0 j h
        where
          if' : Bool → Ex
          if' t = if t then zero_ex else b
      whole true p env j n h =
          let r = bound-reads-same env b j h in
          ap (λ t. meaning (if' t) env) p ∙ zero j (sym (ap (λ t. as_int (meaning (if' t) env)) p) ∙ r)
        where
          if' : Bool → Ex
          if' t = if t then zero_ex else b

          zero : (j : ℤ) → Some (pos 0) ≡ Some j → Some (number (pos 0)) ≡ Some (number j)
          zero j h = let w : pos 0 ≡ j = cc in ap (λ k. Some (number k)) w
  dummy-ready d e h r s m n = cc
