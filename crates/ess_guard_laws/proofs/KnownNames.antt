-- What is known of names holds behind each pattern, and terms that are sure to lie in a domain do.
use Rattle.std.proofs.Common.{◌≡◌, refl, sym, ap, ◌∙◌, subst, ℕ, zero, suc, Bool, true, false, ◌&&◌, ◌||◌, if◌then◌else◌, List, [], ◌∷◌, ◌++◌, ℤ, pos, negsuc, ◌+ℤ◌, ◌-ℤ◌, ◌≤ℤ◌, Option, Some, None, option_map, int_le, arith}
use Rattle.std.proofs.lemmas.Int.{ints}
use Rattle.ess_semantics.specs.declared.words.Op2.{Op2}
use Rattle.ess_semantics.specs.Lists.{list_or_none}
use Rattle.ess_semantics.specs.Values.{Text, Value, number, truth, item, node, items_of}
use Rattle.ess_semantics.specs.Order.{same, same_text, same_int}
use Rattle.ess_semantics.specs.Names.{Names, look}
use Rattle.ess_semantics.specs.Collections.{holds}
use Rattle.ess_semantics.specs.Numbers.{natural}
use Rattle.ess_semantics.specs.Trees.{binary, Ends, one_value, both_ends, low_end, high_end, Pat, Pats, name_pat, tuple_pat, no_pats, more_pats, Ex, Exs, number_ex, name_ex, node_ex, cell_ex, no_exs, more_exs, Dom, bool_dom, int_dom}
use Rattle.ess_semantics.specs.Operators.{number_in, misfit, value_of_node}
use Rattle.ess_semantics.specs.Domains.{Span, Domain, integers, member_list, between, numbers_up, interval}
use Rattle.ess_semantics.specs.Membership.{member}
use Rattle.ess_semantics.specs.Tables.{Table}
use Rattle.ess_semantics.specs.Meaning.{Env, TypeEntry, bind, bind_all, meaning, meanings, domain_of, members_in, spans_of, cell_in, indices}
use Rattle.ess_semantics.proofs.Orders.{same-itself, same_int-equal}
use Rattle.ess_semantics.proofs.Sorting.{all-holds, holds-sorted_once}
use Rattle.ess_semantics.proofs.MemberLists.{integers-listed}
use Rattle.ess_semantics.proofs.Overlaps.{holds-append}
use Rattle.ess_semantics.proofs.Tests.{and-left, and-right}
use Rattle.ess_rules_laws.proofs.Simulation.{Vals, E}
use Rattle.ess_rules_laws.proofs.Agreement.{same_text-equal}
use Rattle.ess_guard_laws.specs.Origins.{Origin, runs_over, anywhere, with_any, with_all_any, with_over, runs_over_numbers, same_bound, same_bounds, same_ends, holds_range, lies_within, comes_from, is_sure}
use Rattle.ess_guard_laws.proofs.NumberForms.{NumbersIn}

-- ---- ranges

le-is : (a b : ℤ) → int_le a b ≡ true → a ≤ℤ b
le-is a b e = grind (arith, ints)

later : (a b : Bool) → b ≡ true → a || b ≡ true
later true b e = refl
later false b e = e

next-up : (a z : ℤ) → a ≤ℤ z → (a ≡ z → ⊥) → (a +ℤ pos 1) ≤ℤ z
next-up a z l n = omega (arith, ints)

apart : (a z : ℤ) → same_int a z ≡ false → a ≡ z → ⊥
apart a z e q = let r : true ≡ false = sym (same-itself (number a)) ∙ ap (λ y. same (number a) (number y)) q ∙ e in cc

-- The numbers from a on hold each number from a on that is among the next n.
up-holds : (a : ℤ) (n : ℕ) (z : ℤ) → a ≤ℤ z → ((z -ℤ a) +ℤ pos 1) ≤ℤ pos n → holds (numbers_up a n) (number z) ≡ true
up-holds a zero z l u = absurd (omega (arith, ints))
up-holds a (suc n) z l u = go (same_int a z) refl (λ m k. up-holds (a +ℤ pos 1) n z m k)
  where
    go : (t : Bool) → same_int a z ≡ t → ((a +ℤ pos 1) ≤ℤ z → ((z -ℤ (a +ℤ pos 1)) +ℤ pos 1) ≤ℤ pos n → holds (numbers_up (a +ℤ pos 1) n) (number z) ≡ true) → same (number a) (number z) || holds (numbers_up (a +ℤ pos 1) n) (number z) ≡ true
    go true e k = ap (λ b. b || holds (numbers_up (a +ℤ pos 1) n) (number z)) e
    go false e k = later (same (number a) (number z)) (holds (numbers_up (a +ℤ pos 1) n) (number z)) (k (next-up a z l (apart a z e)) (omega (arith, ints)))

-- The members of a range of numbers.
pub range-listed : (a b z : ℤ) → a ≤ℤ z → z ≤ℤ b → holds (member_list (between a b)) (number z) ≡ true
range-listed a b z l u = holds-sorted_once (interval a b ++ []) (number z) ∙ holds-append (interval a b) [] (number z) ∙ ap (λ t. t || false) (go ((b -ℤ a) +ℤ pos 1) refl)
  where
    go : (m : ℤ) → (b -ℤ a) +ℤ pos 1 ≡ m → holds (numbers_up a (natural m)) (number z) ≡ true
    go (pos n) e = up-holds a n z l (omega (arith, ints))
    go (negsuc n) e = absurd (omega (arith, ints))

-- A member of a range of numbers.
pub listed-in : (a b : ℤ) (w : Value) → holds (member_list (between a b)) w ≡ true → (z : ℤ) × (w ≡ number z) × (a ≤ℤ z) × (z ≤ℤ b)
listed-in a b w h = go w (all-holds (member (between a b)) (member_list (between a b)) w (integers-listed (record { low = Some a; high = Some b } ∷ [])).members h)
  where
    only : (t : Bool) → t || false ≡ true → t ≡ true
    only true e = refl
    only false e = e

    go : (w : Value) → member (between a b) w ≡ true → (z : ℤ) × (w ≡ number z) × (a ≤ℤ z) × (z ≤ℤ b)
    go (number z) q = (z, refl, le-is a z (and-left (int_le a z) (int_le z b) (only (int_le a z && int_le z b) q)), le-is z b (and-right (int_le a z) (int_le z b) (only (int_le a z && int_le z b) q)))
    go (truth t) q = cc
    go (item t k) q = cc
    go (node k vs) q = cc

-- A listed member of a domain that is there.
pub listed-list : (o : Option Domain) (is : List Value) (w : Value) (D : Domain) → members_in o ≡ Some is → o ≡ Some D → holds is w ≡ true → holds (member_list D) w ≡ true
listed-list o is w D e q h = ap (λ z. holds (list_or_none z) w) (ap members_in (sym q) ∙ e) ∙ h

-- pl, ts and cs are what stays the same behind patterns
module _ (pl : Bool) (ts : List TypeEntry) (cs : Names Table) where
  abbrev pub M : Vals → Env
  M g = E pl ts cs g

  -- A value that was listed as a member of the domain, under some values of names.
  abbrev pub Lies : Dom → Value → Type 0
  Lies d v = (h : Vals) × (is : List Value) × (members_in (domain_of d (M h)) ≡ Some is) × (holds is v ≡ true)

  -- Each name has a value as it is known.
  abbrev pub Known : Names Origin → Vals → Type 0
  Known k g = (a : Text) (d : Dom) → look k a ≡ Some (runs_over d) → (v : Value) × (look g a ≡ Some v) × Lies d v

  -- Nothing is known of no names.
  pub known-none : (g : Vals) → Known [] g
  known-none g a d e = cc

  one-more : (a : Text) (o : Origin) (v : Value) (k : Names Origin) (g : Vals) → ((d : Dom) → o ≡ runs_over d → Lies d v) → Known k g → Known ((a, o) ∷ k) ((a, v) ∷ g)
  one-more a o v k g f h b d e = go (same_text a b) e (h b d)
    where
      go : (t : Bool) → (if t then Some o else look k b) ≡ Some (runs_over d) → (look k b ≡ Some (runs_over d) → (v : Value) × (look g b ≡ Some v) × Lies d v) →
          (w : Value) × ((if t then Some v else look g b) ≡ Some w) × Lies d w
      go true q r = (v, refl, f d (ap (λ z. elim z [ None ↦ o | Some y ↦ y ]) q))
      go false q r = r q

  mutual
    -- Behind a pattern of which nothing is known.
    pub known-any : (p : Pat) (v : Value) (k : Names Origin) (g : Vals) → Known k g → Known (with_any p k) (bind p v g)
    known-any (name_pat a) v k g h = one-more a anywhere v k g (λ d e. cc) h
    known-any (tuple_pat ps) v k g h = known-all-any ps (items_of v) k g h

    -- Behind several patterns.
    pub known-all-any : (ps : Pats) (vs : List Value) (k : Names Origin) (g : Vals) → Known k g → Known (with_all_any ps k) (bind_all ps vs g)
    known-all-any no_pats vs k g h = h
    known-all-any (more_pats p ps) [] k g h = known-all-any ps [] (with_any p k) (bind p misfit g) (known-any p misfit k g h)
    known-all-any (more_pats p ps) (v ∷ vs) k g h = known-all-any ps vs (with_any p k) (bind p v g) (known-any p v k g h)

  -- Behind a pattern over a domain.
  pub known-over : (p : Pat) (d : Dom) (v : Value) (k : Names Origin) (g : Vals) → Lies d v → Known k g → Known (with_over p d k) (bind p v g)
  known-over (name_pat a) d v k g l h = one-more a (runs_over d) v k g (λ c e. subst (λ z. Lies z v) (ap (λ z. elim z [ runs_over y ↦ y | anywhere ↦ d ]) e) l) h
  known-over (tuple_pat ps) d v k g l h = known-all-any ps (items_of v) k g h

  -- ---- numbers

  lies-number : (rs : List Ends) (es : Exs) (v : Value) → Lies (int_dom rs es) v → v ≡ number (number_in v)
  lies-number rs es v l = go (spans_of rs (meanings es (M l.0))) refl
    where
      numeric : (ss : List Span) (w : Value) → member (integers ss) w ≡ true → w ≡ number (number_in w)
      numeric ss (number n) q = refl
      numeric ss (truth t) q = cc
      numeric ss (item t k) q = cc
      numeric ss (node k vs) q = cc

      go : (o : Option (List Span)) → spans_of rs (meanings es (M l.0)) ≡ o → v ≡ number (number_in v)
      go None q = let r : None ≡ Some l.1 = ap (λ o. members_in (option_map integers o)) (sym q) ∙ l.2 in cc
      go (Some ss) q = numeric ss v (all-holds (member (integers ss)) (member_list (integers ss)) v (integers-listed ss).members
          (listed-list (domain_of (int_dom rs es) (M l.0)) l.1 v (integers ss) l.2 (ap (option_map integers) q) l.3))

  -- Names that are known to run over numbers have numbers.
  pub known-numbers : (k : Names Origin) (g : Vals) → Known k g → NumbersIn k (M g)
  known-numbers k g h a t v e = go (look k a) refl t
    where
      go : (o : Option Origin) → look k a ≡ o → runs_over_numbers o ≡ true → v ≡ number (number_in v)
      go (Some (runs_over (int_dom rs es))) q t =
          let r = h a (int_dom rs es) q in
          let s : r.0 ≡ v = ap (λ z. elim z [ None ↦ r.0 | Some y ↦ y ]) (sym r.1 ∙ e) in
          subst (λ z. z ≡ number (number_in z)) s (lies-number rs es r.0 r.2)
      go o q t = cc

  -- ---- domains of one form

  same-bound : (a b : Ex) (g h : Vals) → same_bound a b ≡ true → meaning a (M g) ≡ meaning b (M h)
  same-bound (number_ex n) (number_ex m) g h t = ap (λ z. Some (number z)) (same_int-equal n m t)
  same-bound (cell_ex false a no_exs) (cell_ex false b no_exs) g h t = ap (λ z. cell_in false (look cs z) (indices [])) (same_text-equal a b t)
  same-bound (node_ex false (binary Op2.Plus) (more_exs a (more_exs b no_exs))) (node_ex false (binary Op2.Plus) (more_exs c (more_exs d no_exs))) g h t =
      ap (λ z. value_of_node (binary Op2.Plus) (z ∷ meaning b (M g) ∷ [])) (same-bound a c g h (and-left (same_bound a c) (same_bound b d) t))
      ∙ ap (λ z. value_of_node (binary Op2.Plus) (meaning c (M h) ∷ z ∷ [])) (same-bound b d g h (and-right (same_bound a c) (same_bound b d) t))
  same-bound (node_ex false (binary Op2.Minus) (more_exs a (more_exs b no_exs))) (node_ex false (binary Op2.Minus) (more_exs c (more_exs d no_exs))) g h t =
      ap (λ z. value_of_node (binary Op2.Minus) (z ∷ meaning b (M g) ∷ [])) (same-bound a c g h (and-left (same_bound a c) (same_bound b d) t))
      ∙ ap (λ z. value_of_node (binary Op2.Minus) (meaning c (M h) ∷ z ∷ [])) (same-bound b d g h (and-right (same_bound a c) (same_bound b d) t))
  same-bound a b g h t = cc

  same-bounds : (es fs : Exs) (g h : Vals) → same_bounds es fs ≡ true → meanings es (M g) ≡ meanings fs (M h)
  same-bounds no_exs no_exs g h t = refl
  same-bounds (more_exs e es) (more_exs f fs) g h t =
      ap (λ o. o ∷ meanings es (M g)) (same-bound e f g h (and-left (same_bound e f) (same_bounds es fs) t)) ∙ ap (λ os. meaning f (M h) ∷ os) (same-bounds es fs g h (and-right (same_bound e f) (same_bounds es fs) t))
  same-bounds es fs g h t = cc

  same-ends : (rs ss : List Ends) → same_ends rs ss ≡ true → rs ≡ ss
  same-ends [] [] t = refl
  same-ends (one_value ∷ rs) (one_value ∷ ss) t = ap (λ z. one_value ∷ z) (same-ends rs ss t)
  same-ends (both_ends ∷ rs) (both_ends ∷ ss) t = ap (λ z. both_ends ∷ z) (same-ends rs ss t)
  same-ends (low_end ∷ rs) (low_end ∷ ss) t = ap (λ z. low_end ∷ z) (same-ends rs ss t)
  same-ends (high_end ∷ rs) (high_end ∷ ss) t = ap (λ z. high_end ∷ z) (same-ends rs ss t)
  same-ends rs ss t = cc

  ints-within : (rs ss : List Ends) (es fs : Exs) (g : Vals) (v : Value) → same_ends rs ss && same_bounds es fs ≡ true → Lies (int_dom rs es) v → (is : List Value) × (members_in (domain_of (int_dom ss fs) (M g)) ≡ Some is) × (holds is v ≡ true)
  ints-within rs ss es fs g v t l = (
    l.1,
    ap (λ os. members_in (option_map integers (spans_of ss os))) (sym (same-bounds es fs l.0 g (and-right (same_ends rs ss) (same_bounds es fs) t)))
        ∙ ap (λ z. members_in (option_map integers (spans_of z (meanings es (M l.0))))) (sym (same-ends rs ss (and-left (same_ends rs ss) (same_bounds es fs) t))) ∙ l.2,
    l.3,
  )

  number-within : (a b c d : ℤ) (g : Vals) (v : Value) → holds_range c d a b ≡ true → Lies (int_dom (both_ends ∷ []) (more_exs (number_ex a) (more_exs (number_ex b) no_exs))) v →
      (is : List Value) × (members_in (domain_of (int_dom (both_ends ∷ []) (more_exs (number_ex c) (more_exs (number_ex d) no_exs))) (M g)) ≡ Some is) × (holds is v ≡ true)
  number-within a b c d g v t l =
      let r = listed-in a b v (listed-list (Some (between a b)) l.1 v (between a b) l.2 refl l.3) in
      (member_list (between c d), refl, ap (holds (member_list (between c d))) r.1 ∙ range-listed c d r.0 (wide c a r.0 (le-is c a (and-left (int_le c a) (int_le b d) t)) r.2) (wide r.0 b d r.3 (le-is b d (and-right (int_le c a) (int_le b d) t))))
    where
      wide : (a b c : ℤ) → a ≤ℤ b → b ≤ℤ c → a ≤ℤ c
      wide a b c p q = omega (arith, ints)

  -- A domain holds what lies in one within it.
  pub within-lies : (d e : Dom) (g : Vals) (v : Value) → lies_within d e ≡ true → Lies d v → (is : List Value) × (members_in (domain_of e (M g)) ≡ Some is) × (holds is v ≡ true)
  within-lies (int_dom (both_ends ∷ []) (more_exs (number_ex a) (more_exs (number_ex b) no_exs))) (int_dom (both_ends ∷ []) (more_exs (number_ex c) (more_exs (number_ex d) no_exs))) g v t l = number-within a b c d g v t l
  within-lies bool_dom bool_dom g v t l = (l.1, l.2, l.3)
  within-lies (int_dom rs es) (int_dom ss fs) g v t l = ints-within rs ss es fs g v t l
  within-lies d e g v t l = cc

  -- A term that is sure to lie in a domain is a member of it.
  pub sure-member : (k : Names Origin) (e : Ex) (d : Dom) (g : Vals) (v : Value) → Known k g → is_sure k e d ≡ true → meaning e (M g) ≡ Some v → (is : List Value) × (members_in (domain_of d (M g)) ≡ Some is) × (holds is v ≡ true)
  sure-member k (number_ex n) (int_dom (both_ends ∷ []) (more_exs (number_ex a) (more_exs (number_ex b) no_exs))) g v h t e =
      (member_list (between a b), refl, ap (holds (member_list (between a b))) (ap (λ o. elim o [ None ↦ v | Some z ↦ z ]) (sym e)) ∙ range-listed a b n (le-is a n (and-left (int_le a n) (int_le n b) t)) (le-is n b (and-right (int_le a n) (int_le n b) t)))
  sure-member k (name_ex a) d g v h t e = go (look k a) refl t
    where
      go : (o : Option Origin) → look k a ≡ o → comes_from o d ≡ true → (is : List Value) × (members_in (domain_of d (M g)) ≡ Some is) × (holds is v ≡ true)
      go (Some (runs_over c)) q t =
          let r = h a c q in
          let s : r.0 ≡ v = ap (λ z. elim z [ None ↦ r.0 | Some y ↦ y ]) (sym r.1 ∙ e) in
          within-lies c d g v t (subst (Lies c) s r.2)
      go o q t = cc
  sure-member k e d g v h t q = cc
