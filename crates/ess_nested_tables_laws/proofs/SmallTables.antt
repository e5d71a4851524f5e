-- The bounds of the declared tables of nested sets lie in 64 bits where the numbers of the domain do, and the sizes that the representation
-- takes.
use Rattle.std.proofs.Common.{◌≡◌, refl, sym, ap, ◌∙◌, subst, ℕ, suc, ◌<◌, ◌^◌, Bool, true, false, ◌&&◌, ◌||◌, not, if◌then◌else◌, List, [], ◌∷◌, ◌++◌, map, ℤ, pos, negsuc, ◌-ℤ◌, Option, Some, None, is_some, arith}
use Rattle.std.specs.List.{list_all, list_any}
use Rattle.std.specs.Ordering.{int_cmp}
use Rattle.std.specs.declared.cmp.Ordering.{Ordering}
use Rattle.std.specs.declared.cmp.Ordering.TheVariants.{Less, Equal, Greater}
use Rattle.std.proofs.lemmas.Bool.{lt-ltb, ltb-true}
use Rattle.std.proofs.lemmas.Int.{ints}
use Rattle.ess_semantics.specs.declared.words.Op2.{Op2}
use Rattle.ess_semantics.specs.Values.{Value, number}
use Rattle.ess_semantics.specs.Contexts.{Each}
use Rattle.ess_semantics.specs.Trees.{Repr, Mark, binary, plain_node, Ex, Exs, number_ex, no_exs, more_exs, Dom, bool_dom, int_dom, set_dom, ex2}
use Rattle.ess_semantics.specs.Domains.{Attribute, Domain}
use Rattle.ess_semantics.specs.Sizes.{greatest_size, bound, slots_of_set}
use Rattle.ess_semantics.specs.Large.{in_64_bits, is_big, is_large, any_large, is_large_dom}
use Rattle.ess_semantics.specs.SizeNumbers.{bound_parts, unless_sized, sizes_taken, part_stays_small}
use Rattle.ess_semantics.specs.Occurrences.{parts_of_all, parts_of_dom}
use Rattle.ess_semantics.specs.DeclaredTables.{TableDecl}
use Rattle.ess_semantics.specs.Meaning.{Env, meaning, as_int}
use Rattle.ess_semantics.specs.Names.{Names}
use Rattle.ess_semantics.specs.Tables.{Table}
use Rattle.ess_semantics.specs.ModelMeaning.{env_of_tables}
use Rattle.ess_semantics.specs.LargeModels.{decl_is_large, dom_is_large}
use Rattle.ess_semantics.specs.Lists.{or_default}
use Rattle.ess_semantics.proofs.Tests.{and-left, and-right, and-both}
use Rattle.ess_repr_declare_laws.specs.SizeTerms.{one_ex, two_ex, plus_ex, minus_ex, next_ex, is_numeral, span_ex, span_by, between_ex, bound_ex, slots_ex}
use Rattle.ess_repr_declare_laws.specs.DeclaredTrees.{trees_below}
use Rattle.ess_repr_declare_laws.proofs.SizeMeaning.{bound-is}
use Rattle.ess_nested_laws.proofs.NestedForms.{no-yes, written_range, Sizes, WrittenAtom, written_truths, written_numbers, NestedSet, of_atoms, KeptAs, as_atom, by_occurrence, with_a_dummy, in_slots, with_a_marker, with_flags}
use Rattle.ess_nested_laws.proofs.NestedDenoted.{written_attributes, written_domain, atom-denoted, nested-denoted, atom-natural, nested-natural}
use Rattle.ess_nested_tables_laws.proofs.KeptDomains.{sets-of, kept-inside, slots-written}
use Rattle.ess_nested_tables_laws.proofs.ReckonedTables.{Numeral, dom-stays}
use Rattle.ess_nested_tables_laws.proofs.TableBounds.{slots-have, AllHave, DomHas, DeclHas, LayersHave, tables-have}

-- ---- numbers

-- A value that reads a number of 64 bits isn't big.
not-big : (o : Option Value) (z : ℤ) → as_int o ≡ Some z → in_64_bits z ≡ true → is_big o ≡ false
not-big (Some (number n)) z e h = let q : n ≡ z = cc in ap (λ k. not (in_64_bits k)) q ∙ ap not h
not-big o z e h = refl

below : (a n k : ℕ) → 1 < k → pos 1 -ℤ pos a ≡ pos n → n < k
below a n k p e = omega (arith, ints, e, p)

below-less : (a n k : ℕ) → a < k → pos 1 -ℤ pos a ≡ negsuc n → suc n < k
below-less a n k p e = omega (arith, ints, e, p)

-- 1 less a natural number of 64 bits is one.
one-less : (a : ℕ) → in_64_bits (pos a) ≡ true → in_64_bits (pos 1 -ℤ pos a) ≡ true
one-less a h = go (pos 1 -ℤ pos a) refl
  where
    go : (z : ℤ) → pos 1 -ℤ pos a ≡ z → in_64_bits z ≡ true
    go (pos n) e = lt-ltb n (2 ^ 63) (below a n (2 ^ 63) (ltb-true 1 (2 ^ 63) refl) e)
    go (negsuc n) e = lt-ltb (suc n) (2 ^ 63) (below-less a n (2 ^ 63) (ltb-true a (2 ^ 63) h) e)

-- What is said of a part: it is small, and so is one more.
small-part : (n : ℤ) (env here : Env) → part_stays_small (number_ex n) env ≡ true → in_64_bits n ≡ true
small-part n env here h = twice (in_64_bits n) _ h
  where
    twice : (b c : Bool) → not (not b) && c ≡ true → b ≡ true
    twice true c e = refl
    twice false c e = absurd (no-yes e)

next-part : (n : ℤ) (env here : Env) → part_stays_small (number_ex n) env ≡ true → is_large (next_ex (number_ex n)) here ≡ false
next-part n env here h =
    turn (is_large (next_ex (number_ex n)) here)
    (and-right (not (is_large (number_ex n) env)) (not (is_large (plain_node (binary Op2.Plus)
    (more_exs (number_ex n) (more_exs (number_ex (pos 1)) no_exs))) env)) h)
  where
    turn : (b : Bool) → not b ≡ true → b ≡ false
    turn false e = refl
    turn true e = absurd (no-yes e)

module _ (here : Env) where
  abbrev Small : Ex → Type 0
  Small e = is_large e here ≡ false

  numeral-small : (n : ℤ) → in_64_bits n ≡ true → Small (number_ex n)
  numeral-small n h = ap not h

  -- A sum and a difference.
  two-small : (o : Op2) (a b : Ex) (z : ℤ) → as_int (meaning (ex2 false o a b) here) ≡ Some z → in_64_bits z ≡ true → Small a → Small b →
      Small (ex2 false o a b)
  two-small o a b z e h x y =
      ap (λ c. c || (is_large a here || (is_large b here || false))) (not-big (meaning (ex2 false o a b) here) z e h)
      ∙ ap (λ c. c || (is_large b here || false)) x ∙ ap (λ c. c || false) y

  -- ---- bounds

  abbrev Parts : Env → Dom → Type 0
  Parts env d = list_all (λ e. part_stays_small e env) (parts_of_dom d) ≡ true

  abbrev AreSmall : List ℕ → Type 0
  AreSmall ns = list_all in_64_bits (map pos ns) ≡ true

  range-parts : (a b : ℕ) (env : Env) → Parts env (written_range a b) →
      (part_stays_small (number_ex (pos a)) env ≡ true) × (part_stays_small (number_ex (pos b)) env ≡ true)
  range-parts a b env h =
      let x : Bool = part_stays_small (number_ex (pos a)) env in
      let y : Bool = part_stays_small (number_ex (pos b)) env in
      (and-left x (y && true) h, and-left y true (and-right x (y && true) h))

  span-small : (a b : ℕ) (env : Env) (z : ℤ) → Parts env (written_range a b) → in_64_bits z ≡ true →
      as_int (meaning (span_ex (number_ex (pos a)) (number_ex (pos b))) here) ≡ Some z →
      Small (span_ex (number_ex (pos a)) (number_ex (pos b)))
  span-small a b env z p h = go (is_numeral (pos 0) (number_ex (pos a))) (is_numeral (pos 1) (number_ex (pos a)))
    where
      x : in_64_bits (pos a) ≡ true
      x = small-part (pos a) env here (range-parts a b env p).0

      y : in_64_bits (pos b) ≡ true
      y = small-part (pos b) env here (range-parts a b env p).1

      whole : Bool → Bool → Ex
      whole c d = if c then next_ex (number_ex (pos b)) else (if d then number_ex (pos b) else plus_ex
          (minus_ex one_ex (number_ex (pos a))) (number_ex (pos b)))

      go : (c d : Bool) → as_int (meaning (whole c d) here) ≡ Some z → Small (whole c d)
      go true d e = next-part (pos b) env here (range-parts a b env p).1
      go false true e = numeral-small (pos b) y
      go false false e = two-small Op2.Plus (minus_ex one_ex (number_ex (pos a))) (number_ex (pos b)) z e h
          (two-small Op2.Minus one_ex (number_ex (pos a)) (pos 1 -ℤ pos a) refl (one-less a x) refl (numeral-small (pos a) x))
          (numeral-small (pos b) y)

  between-small : (a b : ℕ) (env : Env) (z : ℤ) → Parts env (written_range a b) → in_64_bits z ≡ true →
      as_int (meaning (between_ex (number_ex (pos a)) (number_ex (pos b))) here) ≡ Some z →
      Small (between_ex (number_ex (pos a)) (number_ex (pos b)))
  between-small a b env z p h = go (int_cmp (pos a) (pos b))
    where
      go : (o : Ordering) → as_int (meaning (span_by (Some o) (number_ex (pos a)) (number_ex (pos b))) here) ≡ Some z →
          Small (span_by (Some o) (number_ex (pos a)) (number_ex (pos b)))
      go Less e = span-small a b env z p h e
      go Equal e = refl
      go Greater e = refl

  head-small : (n : ℕ) (ns : List ℕ) → AreSmall (n ∷ ns) → in_64_bits (pos n) ≡ true
  head-small n ns h = and-left (in_64_bits (pos n)) (list_all in_64_bits (map pos ns)) h

  tail-small : (n : ℕ) (ns : List ℕ) → AreSmall (n ∷ ns) → AreSmall ns
  tail-small n ns h = and-right (in_64_bits (pos n)) (list_all in_64_bits (map pos ns)) h

  atom-small : {d : Dom} → WrittenAtom d → (env : Env) → Parts env d → AreSmall (bound_parts (written_domain d)) → Small (bound_ex d)
  atom-small written_truths env p h = refl
  atom-small (written_numbers {a = a} {b = b}) env p h =
      let e : Domain = written_domain (written_range a b) in
      between-small a b env (pos (bound e)) p (head-small (bound e) [] h)
      (bound-is here (written_range a b) e (atom-denoted (written_numbers {a = a} {b = b}) here)
      (atom-natural (written_numbers {a = a} {b = b})))

  behind-parts : (f : Ex → Bool) (xs ys : List Ex) → list_all f (xs ++ ys) ≡ true → list_all f ys ≡ true
  behind-parts f [] ys h = h
  behind-parts f (x ∷ xs) ys h = behind-parts f xs ys (and-right (f x) (list_all f (xs ++ ys)) h)

  inner-parts : (env : Env) (ms : List Mark) (es : Exs) (d : Dom) → Parts env (set_dom ms es d) → Parts env d
  inner-parts env ms es d h = behind-parts (λ e. part_stays_small e env) (parts_of_all es) (parts_of_dom d) h

  set-small : {ms : List Mark} {es : Exs} {d : Dom} → NestedSet (set_dom ms es d) →
      AreSmall (bound_parts (written_domain (set_dom ms es d))) → Small (bound_ex d) → Small (bound_ex (set_dom ms es d))
  set-small {ms = ms} {es = es} {d = d} n h k =
      let e : Domain = written_domain (set_dom ms es d) in
      two-small Op2.Pow two_ex (bound_ex d) (pos (bound e)) (bound-is here (set_dom ms es d) e (nested-denoted n here) (nested-natural n))
      (head-small (bound e) (bound_parts (written_domain d)) h) refl k

  -- The bound of a domain is small.
  pub bound-small : {r : Repr} {d : Dom} → KeptAs r d → (env : Env) → Parts env d → AreSmall (bound_parts (written_domain d)) →
      Small (bound_ex d)
  bound-small (as_atom a) env p h = atom-small a env p h
  bound-small (by_occurrence {ms = ms} {es = es} {d = d} s a) env p h =
      set-small (of_atoms s a) h
      (atom-small a env (inner-parts env ms es d p) (tail-small (2 ^ bound (written_domain d)) (bound_parts (written_domain d)) h))
  bound-small (with_a_dummy {ms = ms} {es = es} {a = a} {b = b} s) env p h =
      let d : Dom = written_range a b in
      set-small (of_atoms s (written_numbers {a = a} {b = b})) h
      (atom-small (written_numbers {a = a} {b = b}) env (inner-parts env ms es d p)
      (tail-small (2 ^ bound (written_domain d)) (bound_parts (written_domain d)) h))
  bound-small (in_slots {ms = ms} {es = es} {d = d} s k w) env p h =
      set-small (sets-of s (kept-inside w)) h
      (bound-small w env (inner-parts env ms es d p) (tail-small (2 ^ bound (written_domain d)) (bound_parts (written_domain d)) h))
  bound-small (with_a_marker {ms = ms} {es = es} {d = d} s w) env p h =
      set-small (sets-of s (kept-inside w)) h
      (bound-small w env (inner-parts env ms es d p) (tail-small (2 ^ bound (written_domain d)) (bound_parts (written_domain d)) h))
  bound-small (with_flags {ms = ms} {es = es} {d = d} s w) env p h =
      set-small (sets-of s (kept-inside w)) h
      (bound-small w env (inner-parts env ms es d p) (tail-small (2 ^ bound (written_domain d)) (bound_parts (written_domain d)) h))

  -- ---- layers

  both-small : (xs ys : List ℕ) → AreSmall (xs ++ ys) → AreSmall xs × AreSmall ys
  both-small [] ys h = (refl, h)
  both-small (x ∷ xs) ys h =
      let r = both-small xs ys (and-right (in_64_bits (pos x)) (list_all in_64_bits (map pos (xs ++ ys))) h) in (
        and-both (in_64_bits (pos x)) (list_all in_64_bits (map pos xs))
            (and-left (in_64_bits (pos x)) (list_all in_64_bits (map pos (xs ++ ys))) h) r.0,
        r.1,
      )

  -- The slots, where they are listed among the sizes and, without a number of their own, the parts of the bound.
  slots-small : {ms : List Mark} {es : Exs} (d : Dom) → Sizes ms es →
      in_64_bits (pos (slots_of_set (written_attributes ms es) (written_domain d))) ≡ true →
      (greatest_size (written_attributes ms es) ≡ None → Small (bound_ex d)) → Small (slots_ex (set_dom ms es d))
  slots-small {ms = ms} {es = es} d s h k =
      slots-have (λ e. is_large e here ≡ false) d s
      (λ n e. numeral-small (pos n) (ap (λ o. in_64_bits (pos (or_default o (bound (written_domain d))))) (sym e) ∙ h)) k

  -- Where the sizes of the layer list the parts of the bound unless there is a number.
  var-slots : {ms : List Mark} {es : Exs} (d : Dom) → Sizes ms es → (env : Env) → Parts env (set_dom ms es d) →
      AreSmall (slots_of_set (written_attributes ms es) (written_domain d)
      ∷ unless_sized (written_attributes ms es) (bound_parts (written_domain d))) →
      (Parts env d → AreSmall (bound_parts (written_domain d)) → Small (bound_ex d)) → Small (slots_ex (set_dom ms es d))
  var-slots {ms = ms} {es = es} d s env p h k =
      let ks : List Attribute = written_attributes ms es in
      let ns : List ℕ = unless_sized ks (bound_parts (written_domain d)) in
      slots-small d s (head-small (slots_of_set ks (written_domain d)) ns h)
      (λ e. k (inner-parts env ms es d p)
      (subst (λ o. AreSmall (if is_some o then [] else bound_parts (written_domain d))) e
      (tail-small (slots_of_set ks (written_domain d)) ns h)))

  child-sizes : (r : Repr) (d : Dom) → AreSmall (sizes_taken r (written_domain d) ++ []) → AreSmall (sizes_taken r (written_domain d))
  child-sizes r d h = (both-small (sizes_taken r (written_domain d)) [] h).0

  atom-bounds : {d : Dom} → WrittenAtom d → (env : Env) → Parts env d → DomHas (λ e. is_large e here ≡ false) d
  atom-bounds written_truths env p = tt
  atom-bounds (written_numbers {a = a} {b = b}) env p =
      let r = range-parts a b env p in
      (numeral-small (pos a) (small-part (pos a) env here r.0), (numeral-small (pos b) (small-part (pos b) env here r.1), tt))

  layers-small : {r : Repr} {d : Dom} → KeptAs r d → (env : Env) → Parts env d → AreSmall (sizes_taken r (written_domain d)) →
      LayersHave (λ e. is_large e here ≡ false) r d
  layers-small (as_atom written_truths) env p h = tt
  layers-small (as_atom (written_numbers {a = a} {b = b})) env p h = atom-bounds (written_numbers {a = a} {b = b}) env p
  layers-small (by_occurrence {ms = ms} {es = es} {d = d} s a) env p h = atom-bounds a env (inner-parts env ms es d p)
  layers-small (with_a_dummy {ms = ms} {es = es} {a = a} {b = b} s) env p h =
      let d : Dom = written_range a b in
      let r = range-parts a b env (inner-parts env ms es d p) in
      let ks : List Attribute = written_attributes ms es in
      let u = both-small (slots_of_set ks (written_domain d) ∷ unless_sized ks (bound_parts (written_domain d))) [] h in (
        var-slots d s env p u.0 (atom-small (written_numbers {a = a} {b = b}) env),
        (
          numeral-small (pos a) (small-part (pos a) env here r.0),
          (numeral-small (pos b) (small-part (pos b) env here r.1), (next-part (pos b) env here r.1, tt)),
        ),
      )
  layers-small (in_slots {ms = ms} {es = es} {r = r} {d = d} s k w) env p h =
      let ks : List Attribute = written_attributes ms es in
      let u = both-small (slots_of_set ks (written_domain d) ∷ []) (sizes_taken r (written_domain d) ++ []) h in (
        slots-small d s (head-small (slots_of_set ks (written_domain d)) [] u.0) (λ e. absurd (slots-written s k e)),
        layers-small w env (inner-parts env ms es d p) (child-sizes r d u.1),
      )
  layers-small (with_a_marker {ms = ms} {es = es} {r = r} {d = d} s w) env p h =
      let ks : List Attribute = written_attributes ms es in
      let u = both-small (slots_of_set ks (written_domain d) ∷ unless_sized ks (bound_parts (written_domain d)))
      (sizes_taken r (written_domain d) ++ []) h in (
        var-slots d s env p u.0 (bound-small w env),
        layers-small w env (inner-parts env ms es d p) (child-sizes r d u.1),
      )
  layers-small (with_flags {ms = ms} {es = es} {r = r} {d = d} s w) env p h =
      let ks : List Attribute = written_attributes ms es in
      let u = both-small (slots_of_set ks (written_domain d) ∷ unless_sized ks (bound_parts (written_domain d)))
      (sizes_taken r (written_domain d) ++ []) h in (
        var-slots d s env p u.0 (bound-small w env),
        layers-small w env (inner-parts env ms es d p) (child-sizes r d u.1),
      )

  -- So are the bounds of all tables.
  pub tables-small : (out : Bool) {r : Repr} {d : Dom} → KeptAs r d → (env : Env) → Parts env d →
      AreSmall (sizes_taken r (written_domain d)) → Each (trees_below out r d) (DeclHas (λ e. is_large e here ≡ false))
  tables-small out w env p h = tables-have (λ e. is_large e here ≡ false) refl refl out w (layers-small w env p h)

-- ---- of declarations

-- A declared table whose bounds are small arithmetic of numerals isn't large.
pub decl-small : (ds : List TableDecl) (c : Names Table) (t : TableDecl) → DeclHas Numeral t →
    DeclHas (λ e. is_large e (env_of_tables c) ≡ false) t → decl_is_large ds c t ≡ false
decl-small ds c t n h = ap (λ b. b || dom_is_large ds c t.cell) (axes-small t.axes n.0 h.0) ∙ dom-small t.cell n.1 h.1
  where
    bounds-small : (es : Exs) → AllHave (λ e. is_large e (env_of_tables c) ≡ false) es → any_large es (env_of_tables c) ≡ false
    bounds-small no_exs h = refl
    bounds-small (more_exs e es) h = ap (λ b. b || any_large es (env_of_tables c)) h.0 ∙ bounds-small es h.1

    closed-small : (d : Dom) → DomHas (λ e. is_large e (env_of_tables c) ≡ false) d → is_large_dom d (env_of_tables c) ≡ false
    closed-small bool_dom h = refl
    closed-small (int_dom rs es) h = bounds-small es h
    closed-small d h = absurd h

    dom-small : (d : Dom) → DomHas Numeral d → DomHas (λ e. is_large e (env_of_tables c) ≡ false) d → dom_is_large ds c d ≡ false
    dom-small d n h = ap (λ d. is_large_dom d (env_of_tables c)) (dom-stays ds d n) ∙ closed-small d h

    axes-small : (as' : List Dom) → Each as' (DomHas Numeral) → Each as' (DomHas (λ e. is_large e (env_of_tables c) ≡ false)) →
        list_any (dom_is_large ds c) as' ≡ false
    axes-small [] n h = refl
    axes-small (d ∷ as') n h = ap (λ b. b || list_any (dom_is_large ds c) as') (dom-small d n.0 h.0) ∙ axes-small as' n.1 h.1
